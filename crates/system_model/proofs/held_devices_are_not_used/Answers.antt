use Rattle.system_model.proofs.Using.{held_unused}
use Rattle.system_model.proofs.held_devices_are_not_used.Goals as goal

pub returns : goal.returns
returns c = held_unused
