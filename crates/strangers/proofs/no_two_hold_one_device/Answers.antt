use Rattle.strangers.proofs.Holders.{one_holder}
use Rattle.strangers.proofs.no_two_hold_one_device.Goals as goal

pub returns : goal.returns
returns c = one_holder
