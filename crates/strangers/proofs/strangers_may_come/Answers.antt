use Rattle.strangers.proofs.Coming.{may_come}
use Rattle.strangers.proofs.strangers_may_come.Goals as goal

pub returns : goal.returns
returns c = may_come
