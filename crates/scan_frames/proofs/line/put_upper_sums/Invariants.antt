use Rattle.std.proofs.Common.{◌≡◌, ℕ, ◌<◌, ◌≤◌, ◌/◌}
use Rattle.std.specs.Prelude.{slice_index}
use Rattle.scan_frames.specs.Inside.{gray_in}
use Rattle.scan_frames.proofs.line.put_upper_sums.Given as goal

abbrev pub invariant-loop-x : goal.invariant-loop-x
invariant-loop-x l = record {
  here : (i : ℕ) → i < l.x → slice_index l.line i ≡ gray_in l.fn.row (slice_index l.fn.places i) / 256;
  behind : (j : ℕ) → l.x ≤ j → slice_index l.line j ≡ slice_index l.fn.line j;
}
