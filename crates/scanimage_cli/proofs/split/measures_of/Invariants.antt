use Rattle.std.proofs.Common.{◌≡◌, drop}
use Rattle.scanimage_cli.specs.WordCut.{measures_from, no_measures}
use Rattle.scanimage_cli.proofs.split.measures_of.Given as goal

abbrev pub invariant-loop-item : goal.invariant-loop-item
invariant-loop-item l = measures_from l.measures (drop l.item-index l.items) ≡ measures_from no_measures l.items
