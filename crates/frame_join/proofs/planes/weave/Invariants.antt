use Rattle.std.proofs.Common.{◌≡◌, ℕ, ◌+◌, ◌*◌, ◌<◌, ◌≤◌, length}
use Rattle.std.specs.Prelude.{slice_index}
use Rattle.frame_join.proofs.planes.weave.Given as goal

abbrev pub invariant-loop-k : goal.invariant-loop-k
invariant-loop-k l = record {
  size : length l.buf ≡ length l.fn.buf;
  red : (i : ℕ) → i < l.k → slice_index l.buf (l.first + 3 * i) ≡ slice_index l.fn.red i;
  green : (i : ℕ) → i < l.k → slice_index l.buf (l.first + 3 * i + 1) ≡ slice_index l.fn.green i;
  blue : (i : ℕ) → i < l.k → slice_index l.buf (l.first + 3 * i + 2) ≡ slice_index l.fn.blue i;
  before : (i : ℕ) → i < l.first → slice_index l.buf i ≡ slice_index l.fn.buf i;
  behind : (i : ℕ) → l.first + 3 * l.k ≤ i → slice_index l.buf i ≡ slice_index l.fn.buf i;
}
