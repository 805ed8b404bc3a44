use Rattle.frame_join.proofs.FrameTextLaws.{front_is_text}
use Rattle.frame_join.proofs.laws.frame_file_is_the_writers_text.Goals as goal

pub returns : goal.returns
returns c = front_is_text
