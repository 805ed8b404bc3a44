use Rattle.std.proofs.Common.{◌≡◌, drop}
use Rattle.scanimage_cli.specs.WordCut.{names_option}
use Rattle.scanimage_cli.proofs.split.names_option.Given as goal

abbrev pub invariant-loop-item : goal.invariant-loop-item
invariant-loop-item l = names_option l.option (drop l.item-index l.items) ≡ names_option l.option l.items
