use Rattle.system_model.proofs.Using.{uses_leave}
use Rattle.system_model.proofs.clients_without_jobs_leave_others.Goals as goal

pub returns : goal.returns
returns c = uses_leave
