use Rattle.std.proofs.Common.{◌≡◌, ℕ, ◌<◌, ◌≤◌, ◌/◌}
use Rattle.std.specs.Prelude.{slice_index}
use Rattle.scan_frames.proofs.line.put_upper.Given as goal

abbrev pub invariant-loop-j : goal.invariant-loop-j
invariant-loop-j l = record {
  here : (i : ℕ) → i < l.j → slice_index l.line i ≡ slice_index l.fn.samples i / 256;
  behind : (i : ℕ) → l.j ≤ i → slice_index l.line i ≡ slice_index l.fn.line i;
}
