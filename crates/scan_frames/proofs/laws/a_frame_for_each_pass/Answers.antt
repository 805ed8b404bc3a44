use Rattle.scan_frames.proofs.Passes.{count, each}
use Rattle.scan_frames.proofs.laws.a_frame_for_each_pass.Goals as goal

pub returns : goal.returns
returns c = record { count = count; each = each }
