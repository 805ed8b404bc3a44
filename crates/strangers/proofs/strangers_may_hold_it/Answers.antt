use Rattle.strangers.proofs.Busy.{had_by_stranger}
use Rattle.strangers.proofs.strangers_may_hold_it.Goals as goal

pub returns : goal.returns
returns c = had_by_stranger
