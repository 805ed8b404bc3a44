use Rattle.std.proofs.Common.{◌≡◌, ℕ, ◌≤◌, ◌<◌, true, false}
use Rattle.std.specs.Prelude.{slice_index}
use Rattle.page_sources.proofs.fitting.all_within.Given as goal

abbrev pub invariant-loop-i : goal.invariant-loop-i
invariant-loop-i l = record {
  within : l.within ≡ true → (i : ℕ) → i < l.i → slice_index l.numbers i ≤ l.most;
  above : l.within ≡ false → (i : ℕ) × (i < l.i) × (l.most < slice_index l.numbers i);
}
