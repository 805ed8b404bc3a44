use Rattle.std.proofs.Common.{ℕ, ◌≡◌, ◌≤◌, ◌<◌, ◌+◌, ◌*◌, ◌%◌, length}
use Rattle.std.specs.Prelude.{slice_index}
use Rattle.page_sources.proofs.eights.greatest_of.Given as goal

abbrev pub invariant-loop-n : goal.invariant-loop-n
invariant-loop-n l = record {
  size : length l.greatest ≡ 8;
  most : (i : ℕ) → i < 8 * l.n → 256 * slice_index l.bytes (2 * i) + slice_index l.bytes (2 * i + 1) ≤ slice_index l.greatest (i % 8);
  one : (k : ℕ) → k < 8 → 0 < slice_index l.greatest k → (i : ℕ) × (i < 8 * l.n) × (slice_index l.greatest k ≡ 256 * slice_index l.bytes (2 * i) + slice_index l.bytes (2 * i + 1));
}
