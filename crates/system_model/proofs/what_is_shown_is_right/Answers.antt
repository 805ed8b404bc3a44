use Rattle.system_model.proofs.JobPromises.{shows_right}
use Rattle.system_model.proofs.what_is_shown_is_right.Goals as goal

pub returns : goal.returns
returns c = shows_right
