use Rattle.system_model.proofs.JobPromises.{done_allowed}
use Rattle.system_model.proofs.what_is_done_is_allowed.Goals as goal

pub returns : goal.returns
returns c = done_allowed
