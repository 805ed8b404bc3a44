use Rattle.std.proofs.Common.{◌≡◌, ℕ, ◌+◌, ◌<◌, ◌≤◌, length}
use Rattle.std.specs.Prelude.{slice_index}
use Rattle.frame_join.specs.ColorPlanes.{side_byte}
use Rattle.frame_join.specs.FrameFile.{place_in}
use Rattle.frame_join.proofs.planes.Planes.put_between.Given as goal

abbrev pub invariant-loop-i : goal.invariant-loop-i
invariant-loop-i l = record {
  size : length l.buf ≡ length l.fn.buf;
  here : (j : ℕ) → l.start ≤ j → j < l.i → slice_index l.buf j ≡ side_byte l.fn.self l.fn.depth l.fn.y (place_in l.fn.order l.fn.depth (l.fn.from + j));
  before : (j : ℕ) → j < l.start → slice_index l.buf j ≡ slice_index l.fn.buf j;
  behind : (j : ℕ) → l.i ≤ j → slice_index l.buf j ≡ slice_index l.fn.buf j;
}
