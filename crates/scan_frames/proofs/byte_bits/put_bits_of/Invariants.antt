use Rattle.std.proofs.Common.{◌≡◌, ◌*◌, ℕ, ◌<◌}
use Rattle.std.specs.Prelude.{slice_index}
use Rattle.scan_frames.specs.Inside.{blacks_in}
use Rattle.scan_frames.proofs.byte_bits.put_bits_of.Given as goal

abbrev pub invariant-loop-n : goal.invariant-loop-n
invariant-loop-n l = (i : ℕ) → i < 2 * l.n → slice_index l.line i ≡ blacks_in l.fn.bytes i

abbrev pub invariant-loop-b : goal.invariant-loop-b
invariant-loop-b l = (i : ℕ) → i < l.b → slice_index l.line i ≡ blacks_in l.fn.bytes i
