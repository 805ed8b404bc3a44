use Rattle.std.proofs.Common.{◌≡◌, ◌≤◌, ◌<◌, ◌+◌, ◌*◌, ◌/◌, ℕ, length}
use Rattle.std.specs.Prelude.{slice_index}
use Rattle.scan_frames.specs.Inside.{sum_from}
use Rattle.scan_frames.proofs.lanes.put_sum_eights.Given as goal

abbrev pub invariant-loop-n : goal.invariant-loop-n
invariant-loop-n l = record {
  size : length l.line ≡ length l.fn.line;
  here : (x : ℕ) → x < 8 * l.n → slice_index l.line x ≡ sum_from l.fn.row (l.at + 3 * x) / 1000 / 256;
  behind : (j : ℕ) → 8 * l.n ≤ j → slice_index l.line j ≡ slice_index l.fn.line j;
}
