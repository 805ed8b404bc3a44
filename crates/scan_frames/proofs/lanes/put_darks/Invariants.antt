use Rattle.std.proofs.Common.{◌≡◌, ℕ, ◌≤◌, ◌<◌, ◌+◌, ◌*◌}
use Rattle.std.specs.Prelude.{slice_index}
use Rattle.scan_frames.specs.Inside.{darks_from}
use Rattle.scan_frames.proofs.lanes.put_darks.Given as goal

abbrev pub invariant-loop-b : goal.invariant-loop-b
invariant-loop-b l = record {
  here : (i : ℕ) → i < l.b → slice_index l.line i ≡ darks_from l.fn.row (l.at + 24 * i);
  behind : (j : ℕ) → l.b ≤ j → slice_index l.line j ≡ slice_index l.fn.line j;
}
