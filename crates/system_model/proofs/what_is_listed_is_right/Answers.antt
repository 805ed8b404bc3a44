use Rattle.system_model.proofs.JobPromises.{lists_right}
use Rattle.system_model.proofs.what_is_listed_is_right.Goals as goal

pub returns : goal.returns
returns c = lists_right
