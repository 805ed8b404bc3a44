use Rattle.std.proofs.Common.{◌≡◌, ℕ, ◌+◌, ◌-◌, ◌*◌, ◌<◌, ◌≤◌, length}
use Rattle.std.specs.Prelude.{slice_index}
use Rattle.frame_join.proofs.planes.weave_words.Given as goal

abbrev pub invariant-loop-n : goal.invariant-loop-n
invariant-loop-n l = record {
  size : length l.buf ≡ length l.fn.buf;
  red : (k : ℕ) → k < 8 * l.n → slice_index l.buf (l.first + 6 * k) ≡ slice_index l.fn.red (2 * k + l.turn);
  red_other : (k : ℕ) → k < 8 * l.n → slice_index l.buf (l.first + 6 * k + 1) ≡ slice_index l.fn.red (2 * k + (1 - l.turn));
  green : (k : ℕ) → k < 8 * l.n → slice_index l.buf (l.first + 6 * k + 2) ≡ slice_index l.fn.green (2 * k + l.turn);
  green_other : (k : ℕ) → k < 8 * l.n → slice_index l.buf (l.first + 6 * k + 3) ≡ slice_index l.fn.green (2 * k + (1 - l.turn));
  blue : (k : ℕ) → k < 8 * l.n → slice_index l.buf (l.first + 6 * k + 4) ≡ slice_index l.fn.blue (2 * k + l.turn);
  blue_other : (k : ℕ) → k < 8 * l.n → slice_index l.buf (l.first + 6 * k + 5) ≡ slice_index l.fn.blue (2 * k + (1 - l.turn));
  before : (i : ℕ) → i < l.first → slice_index l.buf i ≡ slice_index l.fn.buf i;
  behind : (i : ℕ) → l.first + 6 * (8 * l.n) ≤ i → slice_index l.buf i ≡ slice_index l.fn.buf i;
}

abbrev pub invariant-loop-k : goal.invariant-loop-k
invariant-loop-k l = record {
  size : length l.buf ≡ length l.fn.buf;
  red : (k : ℕ) → k < l.k → slice_index l.buf (l.first + 6 * k) ≡ slice_index l.fn.red (2 * k + l.turn);
  red_other : (k : ℕ) → k < l.k → slice_index l.buf (l.first + 6 * k + 1) ≡ slice_index l.fn.red (2 * k + (1 - l.turn));
  green : (k : ℕ) → k < l.k → slice_index l.buf (l.first + 6 * k + 2) ≡ slice_index l.fn.green (2 * k + l.turn);
  green_other : (k : ℕ) → k < l.k → slice_index l.buf (l.first + 6 * k + 3) ≡ slice_index l.fn.green (2 * k + (1 - l.turn));
  blue : (k : ℕ) → k < l.k → slice_index l.buf (l.first + 6 * k + 4) ≡ slice_index l.fn.blue (2 * k + l.turn);
  blue_other : (k : ℕ) → k < l.k → slice_index l.buf (l.first + 6 * k + 5) ≡ slice_index l.fn.blue (2 * k + (1 - l.turn));
  before : (i : ℕ) → i < l.first → slice_index l.buf i ≡ slice_index l.fn.buf i;
  behind : (i : ℕ) → l.first + 6 * (l.k) ≤ i → slice_index l.buf i ≡ slice_index l.fn.buf i;
}
