use Rattle.std.proofs.Common.{◌≡◌, ℕ, ◌+◌, ◌*◌, ◌<◌, length}
use Rattle.std.specs.Prelude.{slice_index}
use Rattle.sane_fixed.specs.declared.byte_order.ByteOrder.TheVariants.{Little}
use Rattle.frame_join.specs.FrameFile.{place_in}
use Rattle.frame_join.proofs.alone_frame.put_turned.Given as goal

abbrev pub invariant-loop-k : goal.invariant-loop-k
invariant-loop-k l = record {
  size : length l.buf ≡ length l.fn.buf;
  here : (i : ℕ) → i < l.first + 2 * l.k → slice_index l.buf i ≡ slice_index l.fn.row (place_in Little 16 (l.fn.from + i));
}
