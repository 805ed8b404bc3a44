use Rattle.std.proofs.Common.{◌≡◌, ◌≤◌, ◌-◌, length}
use Rattle.scan_frames.specs.Inside.{HasGivenOfFrame, state_of}
use Rattle.scan_frames.proofs.buffers.read_on.Given as goal

abbrev pub invariant-loop-n : goal.invariant-loop-n
invariant-loop-n g l =
    let source = g.S.PageSource.source in
    record {
      within : l.n ≤ l.most;
      given : HasGivenOfFrame (source l.fn.source) l.setup (state_of l.fn.buffers) l.n (source l.source) (state_of l.buffers) l.buf;
      none : l.n ≡ 0 → (source l.source ≡ source l.fn.source) × (state_of l.buffers ≡ state_of l.fn.buffers);
      size : length l.buf ≡ length l.fn.buf;
    }

abbrev pub decreases-loop-n : goal.decreases-loop-n
decreases-loop-n g l = l.most - l.n
