use Rattle.scan_frames.proofs.Eights.{leftmost_first_is}
use Rattle.scan_frames.proofs.lanes.leftmost_first.Goals as goal

pub returns : goal.returns
returns c = leftmost_first_is c.args.lanes c.requires
