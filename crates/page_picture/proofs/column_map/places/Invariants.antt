use Rattle.std.proofs.Common.{◌≡◌, ℕ, ◌<◌, length}
use Rattle.std.specs.Prelude.{slice_index}
use Rattle.page_picture.specs.Columns.{place_at}
use Rattle.page_picture.proofs.column_map.places.Given as goal

abbrev pub invariant-loop-x : goal.invariant-loop-x
invariant-loop-x l = record {
  size : length l.places.items ≡ l.count;
  each : (i : ℕ) → i < l.x → slice_index l.places.items i ≡ place_at (record { left = l.left; dpi = l.dpi; resolution = l.resolution; width = l.width; count = l.count }) i;
}
