use Rattle.std.proofs.Common.{ℕ, ◌≡◌, ◌≤◌, ◌<◌, ◌+◌, ◌*◌, ◌%◌, length}
use Rattle.std.specs.Prelude.{slice_index}
use Rattle.page_sources.proofs.uppers_fit.greatest_of.Given as goal

abbrev pub invariant-loop-n : goal.invariant-loop-n
invariant-loop-n l = record {
  size : length l.greatest ≡ 16;
  most : (i : ℕ) → i < 16 * l.n → slice_index l.bytes i ≤ slice_index l.greatest (i % 16);
  one : (k : ℕ) → k < 16 → 0 < slice_index l.greatest k → (n : ℕ) × (n < l.n) × (slice_index l.greatest k ≡ slice_index l.bytes (16 * n + k));
}
