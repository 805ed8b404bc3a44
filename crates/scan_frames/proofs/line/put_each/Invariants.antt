use Rattle.std.proofs.Common.{◌≡◌, ℕ, ◌<◌, ◌≤◌, ◌+◌, ◌*◌}
use Rattle.std.specs.Prelude.{slice_index}
use Rattle.page_picture.specs.Shows.{channels_within}
use Rattle.scan_frames.specs.Frames.{channel_in}
use Rattle.scan_frames.specs.Inside.{HasSample, sample_end, sample_in_row}
use Rattle.scan_frames.proofs.line.put_each.Given as goal

abbrev pub invariant-loop-x : goal.invariant-loop-x
invariant-loop-x l =
    let c = channels_within l.layout.format in
    record {
      here : (x k : ℕ) → x < l.x → k < c → HasSample l.layout.packing l.layout.order l.line (c * x + k) (sample_in_row l.fn.scene l.fn.row (slice_index l.fn.places x) (channel_in l.layout.format k));
      behind : (j : ℕ) → sample_end l.layout.packing (c * l.x) ≤ j → slice_index l.line j ≡ slice_index l.fn.line j;
    }
