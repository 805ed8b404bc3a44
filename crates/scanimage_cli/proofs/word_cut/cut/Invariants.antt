use Rattle.std.proofs.Common.{◌≡◌, ◌++◌, drop}
use Rattle.std.specs.Prelude.{option_map}
use Rattle.scanimage_cli.specs.WordCut.{cut_from, cut}
use Rattle.scanimage_cli.proofs.word_cut.cut.Given as goal

abbrev pub invariant-loop-word : goal.invariant-loop-word
invariant-loop-word l = option_map (λ more. l.items.items ++ more) (cut_from l.awaited (drop l.word-index l.words)) ≡ cut l.words
