use Rattle.system_model.proofs.JobPromises.{sound_after_all}
use Rattle.system_model.proofs.every_history_keeps_the_invariant.Goals as goal

pub returns : goal.returns
returns c = sound_after_all
