use Rattle.strangers.proofs.There.{there_are}
use Rattle.strangers.proofs.there_are_strangers.Goals as goal

pub returns : goal.returns
returns c = there_are
