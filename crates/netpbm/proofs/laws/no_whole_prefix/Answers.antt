use Rattle.netpbm.proofs.PnmLaws.{no_prefix}
use Rattle.netpbm.proofs.laws.no_whole_prefix.Goals as goal

pub returns : goal.returns
returns c = no_prefix
