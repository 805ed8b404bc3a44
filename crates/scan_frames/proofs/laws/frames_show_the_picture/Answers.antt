use Rattle.scan_frames.proofs.FramesShow.{shows_frames}
use Rattle.scan_frames.proofs.laws.frames_show_the_picture.Goals as goal

pub returns : goal.returns
returns c = shows_frames
