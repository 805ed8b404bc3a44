use Rattle.client_refines.proofs.Outcomes.{outcomes_alike}
use Rattle.client_refines.proofs.lives.outcomes_are_alike.Goals as goal

pub returns : goal.returns
returns c = outcomes_alike
