use Rattle.frame_join.specs.Pixels.{pixel_history}
use Rattle.frame_join.proofs.FrontLaws.{no_file_in_front}
use Rattle.frame_join.proofs.laws.no_front_is_whole.Goals as goal

pub returns : goal.returns
returns c = λ past v front more stands calm is some. no_file_in_front (pixel_history past) v.pixels front more stands.pixels calm is some
