use Rattle.std.proofs.Common.{◌≡◌, length, take}
use Rattle.std.specs.Prelude.{Some}
use Rattle.option_desc.specs.Reads.{pieces_of, words_in}
use Rattle.option_desc.proofs.reading.read_words.Given as goal

abbrev pub invariant-loop-piece : goal.invariant-loop-piece
invariant-loop-piece l = words_in l.kind (take (length l.yielded) (pieces_of l.text)) ≡ Some l.words.items
