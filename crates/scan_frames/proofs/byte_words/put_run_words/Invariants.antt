use Rattle.std.proofs.Common.{◌≡◌, ℕ, ◌<◌, ◌≤◌, ◌+◌, ◌*◌}
use Rattle.std.specs.Prelude.{slice_index}
use Rattle.scan_frames.specs.declared.setup.Packing.TheVariants.{Words}
use Rattle.scan_frames.specs.Inside.{HasSample}
use Rattle.scan_frames.proofs.byte_words.put_run_words.Given as goal

abbrev pub invariant-loop-x : goal.invariant-loop-x
invariant-loop-x l = record {
  here : (i : ℕ) → i < l.x → HasSample Words l.order l.line i (slice_index l.fn.row (3 * slice_index l.fn.places i + l.fn.k));
  behind : (j : ℕ) → 2 * l.x ≤ j → slice_index l.line j ≡ slice_index l.fn.line j;
}
