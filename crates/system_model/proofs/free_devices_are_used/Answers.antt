use Rattle.system_model.proofs.Using.{free_used}
use Rattle.system_model.proofs.free_devices_are_used.Goals as goal

pub returns : goal.returns
returns c = free_used
