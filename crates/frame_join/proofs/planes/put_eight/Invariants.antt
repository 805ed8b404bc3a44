use Rattle.std.proofs.Common.{◌≡◌, ℕ, ◌+◌, ◌*◌, ◌/◌, ◌%◌, ◌<◌, ◌≤◌, length}
use Rattle.std.specs.Prelude.{slice_index}
use Rattle.frame_join.proofs.planes.put_eight.Given as goal

abbrev pub invariant-loop-k : goal.invariant-loop-k
invariant-loop-k l = record {
  size : length l.buf ≡ length l.fn.buf;
  red : (k : ℕ) → k < l.k → slice_index l.buf (l.at + 6 * k) ≡ slice_index l.reds k % 256;
  red_upper : (k : ℕ) → k < l.k → slice_index l.buf (l.at + 6 * k + 1) ≡ slice_index l.reds k / 256;
  green : (k : ℕ) → k < l.k → slice_index l.buf (l.at + 6 * k + 2) ≡ slice_index l.greens k % 256;
  green_upper : (k : ℕ) → k < l.k → slice_index l.buf (l.at + 6 * k + 3) ≡ slice_index l.greens k / 256;
  blue : (k : ℕ) → k < l.k → slice_index l.buf (l.at + 6 * k + 4) ≡ slice_index l.blues k % 256;
  blue_upper : (k : ℕ) → k < l.k → slice_index l.buf (l.at + 6 * k + 5) ≡ slice_index l.blues k / 256;
  before : (i : ℕ) → i < l.at → slice_index l.buf i ≡ slice_index l.fn.buf i;
  behind : (i : ℕ) → l.at + 6 * l.k ≤ i → slice_index l.buf i ≡ slice_index l.fn.buf i;
}
