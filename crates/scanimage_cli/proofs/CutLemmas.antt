-- One word of a command line taken in.
use Rattle.std.proofs.Common.{◌≡◌, List, ℕ, ap}
use Rattle.std.specs.Prelude.{Option, Some, None}
use Rattle.std.proofs.lemmas.List.{append-nil}
use Rattle.scanimage_cli.specs.declared.word_cut.Item.{Item}
use Rattle.scanimage_cli.specs.declared.word_cut.AwaitedValue.{AwaitedValue}
use Rattle.scanimage_cli.specs.declared.word_cut.WordPart.TheVariants.{Awaits}
use Rattle.scanimage_cli.specs.Inside.{with_cut_step}
use Rattle.scanimage_cli.specs.WordCut.{part_of_word, cut_step}

-- a word that awaits a value completes nothing
pub awaits_step : (items : List Item) (awaited : Option AwaitedValue) (word : List ℕ) (next : AwaitedValue) → awaited ≡ None → part_of_word word ≡ Awaits next → with_cut_step items (cut_step awaited word) ≡ Some (items, Some next)
unfolding cut_step
awaits_step items awaited word next none told = rw (none, told) (ap (λ (l : List Item). Some (l, Some next)) (append-nil items))
