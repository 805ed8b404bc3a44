use Rattle.system_model.proofs.Over.{ends_end}
use Rattle.system_model.proofs.what_ends_a_job.Goals as goal

pub returns : goal.returns
returns c = ends_end
