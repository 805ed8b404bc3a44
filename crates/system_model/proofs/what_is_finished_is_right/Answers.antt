use Rattle.system_model.proofs.JobPromises.{pages_right}
use Rattle.system_model.proofs.what_is_finished_is_right.Goals as goal

pub returns : goal.returns
returns c = pages_right
