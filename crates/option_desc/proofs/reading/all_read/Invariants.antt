use Rattle.std.proofs.Common.{length}
use Rattle.option_desc.specs.Reads.{pieces_of}
use Rattle.option_desc.proofs.PieceLaws.{ReadBelow}
use Rattle.option_desc.proofs.reading.all_read.Given as goal

abbrev pub invariant-loop-piece : goal.invariant-loop-piece
invariant-loop-piece l = ReadBelow l.kind (pieces_of l.text) (length l.yielded)
