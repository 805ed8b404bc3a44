use Rattle.std.proofs.Common.{◌≡◌, ℕ, ◌<◌, ◌*◌, ◌/◌, length}
use Rattle.std.specs.Prelude.{slice_index}
use Rattle.page_sources.proofs.raster_rows.write_scaled_colors.Given as goal

abbrev pub invariant-loop-j : goal.invariant-loop-j
invariant-loop-j l = record {
  size : length l.row ≡ length l.fn.row;
  each : (j : ℕ) → j < l.j → slice_index l.row j ≡ slice_index l.bytes j * 65535 / l.maxval;
}
