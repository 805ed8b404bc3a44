use Rattle.std.proofs.Common.{◌≡◌, ◌++◌, drop}
use Rattle.std.specs.Prelude.{map}
use Rattle.std.specs.List.{concat}
use Rattle.scanimage_cli.specs.OptionTable.{option_line}
use Rattle.scanimage_cli.proofs.option_table.add_options.Given as goal

abbrev pub invariant-loop-desc : goal.invariant-loop-desc
invariant-loop-desc l = l.lines.items ++ concat (map option_line (drop l.desc-index l.options)) ≡ l.initial.lines.items ++ concat (map option_line l.options)
