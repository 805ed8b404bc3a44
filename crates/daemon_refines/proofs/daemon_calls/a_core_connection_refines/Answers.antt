use Rattle.daemon_refines.proofs.CoreCalls.{core_connects}
use Rattle.daemon_refines.proofs.daemon_calls.a_core_connection_refines.Goals as goal

pub returns : goal.returns
returns c = core_connects
