use Rattle.std.proofs.Common.{◌≡◌, ℕ, ◌<◌, ◌*◌, ◌/◌, length}
use Rattle.std.specs.Prelude.{slice_index}
use Rattle.page_sources.proofs.raster_rows.write_scaled_grays.Given as goal

abbrev pub invariant-loop-x : goal.invariant-loop-x
invariant-loop-x l = record {
  size : length l.row ≡ length l.fn.row;
  each : (j : ℕ) → j < 3 * l.x → slice_index l.row j ≡ slice_index l.bytes (j / 3) * 65535 / l.maxval;
}
