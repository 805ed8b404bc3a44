use Rattle.interleaving.proofs.Owners.{fronts}
use Rattle.interleaving.proofs.reads_were_written.Goals as goal

pub returns : goal.returns
returns g c = fronts
