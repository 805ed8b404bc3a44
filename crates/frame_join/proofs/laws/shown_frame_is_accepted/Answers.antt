use Rattle.frame_join.proofs.AcceptLaws.{shown_is_accepted}
use Rattle.frame_join.proofs.laws.shown_frame_is_accepted.Goals as goal

pub returns : goal.returns
returns c = shown_is_accepted
