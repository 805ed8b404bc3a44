use Rattle.system_model.proofs.JobPromises.{settings_answered}
use Rattle.system_model.proofs.settings_are_answered.Goals as goal

pub returns : goal.returns
returns c = settings_answered
