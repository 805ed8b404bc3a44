use Rattle.strangers.proofs.Busy.{busy_has_holder, busy_is_explained}
use Rattle.strangers.proofs.busy_devices_have_a_holder.Goals as goal

pub returns-clause-held : goal.returns-clause-held
returns-clause-held c = busy_has_holder

pub returns-clause-ended : goal.returns-clause-ended
returns-clause-ended c = busy_is_explained
