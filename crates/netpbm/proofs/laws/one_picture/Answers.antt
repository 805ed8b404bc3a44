use Rattle.netpbm.proofs.PnmLaws.{one_picture}
use Rattle.netpbm.proofs.laws.one_picture.Goals as goal

pub returns : goal.returns
returns c = one_picture
