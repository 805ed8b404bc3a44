use Rattle.std.proofs.Common.{◌≡◌, ◌++◌, drop}
use Rattle.std.specs.Prelude.{map}
use Rattle.option_desc.specs.ShownText.{word_text}
use Rattle.scanimage_cli.specs.Inside.{behind_bars}
use Rattle.scanimage_cli.proofs.option_table.add_more_words.Given as goal

abbrev pub invariant-loop-word : goal.invariant-loop-word
invariant-loop-word l = l.line.items ++ behind_bars (map (word_text l.desc.kind) (drop l.word-index l.words)) ≡ l.initial.line.items ++ behind_bars (map (word_text l.desc.kind) l.words)
