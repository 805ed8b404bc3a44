use Rattle.daemon_refines.proofs.CoreCalls.{core_loses}
use Rattle.daemon_refines.proofs.daemon_calls.a_core_loss_refines.Goals as goal

pub returns : goal.returns
returns c = core_loses
