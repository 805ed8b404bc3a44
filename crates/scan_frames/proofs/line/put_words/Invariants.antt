use Rattle.std.proofs.Common.{◌≡◌, ℕ, ◌<◌, ◌≤◌, ◌+◌, ◌*◌}
use Rattle.std.specs.Prelude.{slice_index}
use Rattle.scan_frames.specs.declared.setup.Packing.TheVariants.{Words}
use Rattle.scan_frames.specs.Inside.{HasSample}
use Rattle.scan_frames.proofs.line.put_words.Given as goal

abbrev pub invariant-loop-x : goal.invariant-loop-x
invariant-loop-x l = record {
  here : (i k : ℕ) → i < l.x → k < 3 → HasSample Words l.fn.layout.order l.line (3 * i + k) (slice_index l.fn.row (3 * slice_index l.fn.places i + k));
  behind : (j : ℕ) → 6 * l.x ≤ j → slice_index l.line j ≡ slice_index l.fn.line j;
}
