use Rattle.std.proofs.Common.{◌≡◌, ℕ, ◌<◌, ◌≤◌}
use Rattle.std.specs.Prelude.{slice_index}
use Rattle.scan_frames.proofs.byte_lines.apply_table.Given as goal

abbrev pub invariant-loop-x : goal.invariant-loop-x
invariant-loop-x l = record {
  here : (i : ℕ) → i < l.x → slice_index l.line i ≡ slice_index l.fn.table (slice_index l.fn.line i);
  behind : (i : ℕ) → l.x ≤ i → slice_index l.line i ≡ slice_index l.fn.line i;
}
