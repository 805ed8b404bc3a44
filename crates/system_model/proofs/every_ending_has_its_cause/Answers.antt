use Rattle.system_model.proofs.JobPromises.{ends_caused}
use Rattle.system_model.proofs.every_ending_has_its_cause.Goals as goal

pub returns : goal.returns
returns c = ends_caused
