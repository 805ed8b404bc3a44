use Rattle.system_model.proofs.VariantSteps.{steps_paid}
use Rattle.system_model.proofs.steps_are_paid.Goals as goal

pub returns : goal.returns
returns c = steps_paid
