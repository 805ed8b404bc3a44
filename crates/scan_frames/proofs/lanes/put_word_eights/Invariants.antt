use Rattle.std.proofs.Common.{◌≡◌, ◌≤◌, ◌<◌, ◌+◌, ◌*◌, ℕ, length}
use Rattle.std.specs.Prelude.{slice_index}
use Rattle.scan_frames.specs.declared.setup.Packing.TheVariants.{Words}
use Rattle.scan_frames.specs.Inside.{HasSample}
use Rattle.scan_frames.proofs.lanes.put_word_eights.Given as goal

abbrev pub invariant-loop-n : goal.invariant-loop-n
invariant-loop-n l = record {
  size : length l.line ≡ length l.fn.line;
  here : (x : ℕ) → x < 8 * l.n → HasSample Words l.order l.line x (slice_index l.fn.row (l.at + 3 * x));
  behind : (j : ℕ) → 16 * l.n ≤ j → slice_index l.line j ≡ slice_index l.fn.line j;
}
