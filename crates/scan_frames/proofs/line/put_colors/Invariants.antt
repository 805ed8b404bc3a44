use Rattle.std.proofs.Common.{◌≡◌, ℕ, ◌<◌, ◌≤◌, ◌+◌, ◌*◌, ◌/◌}
use Rattle.std.specs.Prelude.{[], get_or, slice_index}
use Rattle.scan_frames.proofs.line.put_colors.Given as goal

abbrev pub invariant-loop-x : goal.invariant-loop-x
invariant-loop-x l = record {
  here : (i k : ℕ) → i < l.x → k < 3 → slice_index l.line (3 * i + k) ≡ slice_index (get_or l.fn.tables k []) (slice_index l.fn.row (3 * slice_index l.fn.places i + k) / 256);
  behind : (j : ℕ) → 3 * l.x ≤ j → slice_index l.line j ≡ slice_index l.fn.line j;
}
