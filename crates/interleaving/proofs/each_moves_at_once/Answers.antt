use Rattle.interleaving.proofs.Earliest.{at_once}
use Rattle.interleaving.proofs.each_moves_at_once.Goals as goal

pub returns : goal.returns
returns g c = at_once
