use Rattle.std.proofs.Common.{◌≡◌, drop}
use Rattle.scanimage_cli.specs.WordCut.{repeats_option}
use Rattle.scanimage_cli.proofs.split.repeats_option.Given as goal

abbrev pub invariant-loop-i : goal.invariant-loop-i
invariant-loop-i l = repeats_option (drop l.i l.items) ≡ repeats_option l.items
