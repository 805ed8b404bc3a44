use Rattle.frame_join.proofs.AcceptLaws.{colors_are_accepted}
use Rattle.frame_join.proofs.laws.shown_colors_are_accepted.Goals as goal

pub returns : goal.returns
returns c = colors_are_accepted
