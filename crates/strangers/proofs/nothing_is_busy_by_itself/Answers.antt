use Rattle.strangers.proofs.Busy.{busy_by_itself}
use Rattle.strangers.proofs.nothing_is_busy_by_itself.Goals as goal

pub returns : goal.returns
returns c = busy_by_itself
