use Rattle.frame_join.proofs.EndSteps.{whole_shows}
use Rattle.frame_join.proofs.laws.whole_shows.Goals as goal

pub returns : goal.returns
returns c = whole_shows
