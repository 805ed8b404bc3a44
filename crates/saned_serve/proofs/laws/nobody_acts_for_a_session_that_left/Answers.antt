use Rattle.saned_serve.proofs.Openings.{nobody_acts}
use Rattle.saned_serve.proofs.laws.nobody_acts_for_a_session_that_left.Goals as goal

pub returns : goal.returns
returns c = nobody_acts
