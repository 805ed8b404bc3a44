use Rattle.interleaving.proofs.Owners.{all_at_once}
use Rattle.interleaving.proofs.all_may_come_sooner.Goals as goal

pub returns : goal.returns
returns g c = all_at_once
