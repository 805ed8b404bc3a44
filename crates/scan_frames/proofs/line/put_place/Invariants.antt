use Rattle.std.proofs.Common.{◌≡◌, ℕ, ◌<◌, ◌≤◌, ◌+◌}
use Rattle.std.specs.Prelude.{slice_index}
use Rattle.scan_frames.specs.Frames.{channel_in}
use Rattle.scan_frames.specs.Inside.{HasSample, sample_end, sample_in_row}
use Rattle.scan_frames.proofs.line.put_place.Given as goal

abbrev pub invariant-loop-k : goal.invariant-loop-k
invariant-loop-k l = record {
  here : (k : ℕ) → k < l.k → HasSample l.layout.packing l.layout.order l.line (l.first + k) (sample_in_row l.fn.scene l.fn.row l.place (channel_in l.layout.format k));
  before : (j u : ℕ) → j < l.first → HasSample l.layout.packing l.layout.order l.fn.line j u → HasSample l.layout.packing l.layout.order l.line j u;
  behind : (j : ℕ) → sample_end l.layout.packing (l.first + l.k) ≤ j → slice_index l.line j ≡ slice_index l.fn.line j;
}
