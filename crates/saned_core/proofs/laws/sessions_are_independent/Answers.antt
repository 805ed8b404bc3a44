use Rattle.saned_core.proofs.Apart.{apart}
use Rattle.saned_core.proofs.laws.sessions_are_independent.Goals as goal

pub returns : goal.returns
returns c = apart
