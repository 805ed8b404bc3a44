use Rattle.std.proofs.Common.{◌≡◌, ℕ, ◌≤◌, ◌<◌, ◌+◌, ◌-◌, ◌*◌, ◌/◌, length}
use Rattle.std.specs.Prelude.{slice_index}
use Rattle.page_sources.proofs.raster_rows.put_eight_grays.Given as goal

abbrev pub invariant-loop-i : goal.invariant-loop-i
invariant-loop-i l = record {
  size : length l.row ≡ length l.fn.row;
  before : (j : ℕ) → j < 3 * l.x → slice_index l.row j ≡ slice_index l.fn.row j;
  here : (j : ℕ) → 3 * l.x ≤ j → j < 3 * (l.x + l.i) → slice_index l.row j ≡ slice_index l.grays (j / 3 - l.x);
  behind : (j : ℕ) → 3 * l.x + 24 ≤ j → slice_index l.row j ≡ slice_index l.fn.row j;
}
