use Rattle.std.proofs.Common.{◌≡◌, ◌++◌, drop}
use Rattle.scanimage_cli.specs.Inside.{behind_bars}
use Rattle.scanimage_cli.proofs.option_table.add_more_texts.Given as goal

abbrev pub invariant-loop-text : goal.invariant-loop-text
invariant-loop-text l = l.line.items ++ behind_bars (drop l.text-index l.texts) ≡ l.initial.line.items ++ behind_bars l.texts
