use Rattle.interleaving.proofs.Owners.{moves_sooner}
use Rattle.interleaving.proofs.moves_may_come_sooner.Goals as goal

pub returns : goal.returns
returns g c = moves_sooner
