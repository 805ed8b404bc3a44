use Rattle.std.proofs.Common.{◌==◌, ap, ◌∙◌}
use Rattle.scan_frames.specs.declared.buffers.Buffers.{Buffers}
use Rattle.scan_frames.specs.PassReading.{FrameProgress, given_in}
use Rattle.scan_frames.proofs.Frames.{given_none}
use Rattle.scan_frames.proofs.frame_rows.FrameRows.is_new.Goals as goal

pub returns : goal.returns
returns c = c.is_new.ensures ∙ (ap (λ (b : Buffers). b.made == 0) c.deref.ensures ∙ (given_none _ c.self.invariant ∙ ap (λ (f : FrameProgress). given_in f == 0) c.self.view_is))
