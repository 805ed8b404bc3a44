use Rattle.std.proofs.Common.{◌≡◌, ℕ, ◌≤◌, ◌<◌, ◌+◌, length}
use Rattle.std.specs.Prelude.{slice_index}
use Rattle.page_sources.proofs.raster_rows.put_eight.Given as goal

abbrev pub invariant-loop-i : goal.invariant-loop-i
invariant-loop-i l = record {
  size : length l.row ≡ length l.fn.row;
  before : (j : ℕ) → j < l.at → slice_index l.row j ≡ slice_index l.fn.row j;
  here : (i : ℕ) → i < l.i → slice_index l.row (l.at + i) ≡ slice_index l.samples i;
  behind : (j : ℕ) → l.at + 8 ≤ j → slice_index l.row j ≡ slice_index l.fn.row j;
}
