use Rattle.system_model.proofs.Over.{outcomes_last}
use Rattle.system_model.proofs.outcomes_last.Goals as goal

pub returns : goal.returns
returns c = outcomes_last
