use Rattle.system_model.proofs.JobPromises.{beginning_sound}
use Rattle.system_model.proofs.the_initial_state_is_invariant.Goals as goal

pub returns : goal.returns
returns c = beginning_sound
