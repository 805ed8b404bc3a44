use Rattle.frame_join.specs.Pixels.{pixel_history}
use Rattle.frame_join.proofs.FrontLaws.{all_short}
use Rattle.frame_join.proofs.laws.no_file_is_endless.Goals as goal

pub returns : goal.returns
returns c = λ past v stands calm. all_short (pixel_history past) v.pixels stands.pixels calm
