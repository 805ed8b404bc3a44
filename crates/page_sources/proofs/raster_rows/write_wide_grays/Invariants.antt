use Rattle.std.proofs.Common.{◌≡◌, ℕ, ◌<◌, ◌+◌, ◌*◌, ◌/◌, length}
use Rattle.std.specs.Prelude.{slice_index}
use Rattle.page_sources.proofs.raster_rows.write_wide_grays.Given as goal

abbrev pub invariant-loop-n : goal.invariant-loop-n
invariant-loop-n l = record {
  size : length l.row ≡ length l.fn.row;
  each : (j : ℕ) → j < 24 * l.n → slice_index l.row j ≡ 256 * slice_index l.bytes (2 * (j / 3)) + slice_index l.bytes (2 * (j / 3) + 1);
}

abbrev pub invariant-loop-x : goal.invariant-loop-x
invariant-loop-x l = record {
  size : length l.row ≡ length l.fn.row;
  each : (j : ℕ) → j < 3 * l.x → slice_index l.row j ≡ 256 * slice_index l.bytes (2 * (j / 3)) + slice_index l.bytes (2 * (j / 3) + 1);
}
