use Rattle.std.proofs.Common.{◌≡◌, ℕ, ◌+◌, ◌<◌, length}
use Rattle.std.specs.Prelude.{slice_index}
use Rattle.frame_join.specs.FrameFile.{trimmed_byte}
use Rattle.frame_join.proofs.alone_frame.put_trimmed.Given as goal

abbrev pub invariant-loop-i : goal.invariant-loop-i
invariant-loop-i l = record {
  size : length l.buf ≡ length l.fn.buf;
  here : (i : ℕ) → i < l.i → slice_index l.buf i ≡ trimmed_byte l.fn.width 1 (l.fn.from + i) (slice_index l.fn.row (l.fn.from + i));
}
