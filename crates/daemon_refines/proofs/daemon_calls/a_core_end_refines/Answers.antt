use Rattle.daemon_refines.proofs.CoreCalls.{core_ends}
use Rattle.daemon_refines.proofs.daemon_calls.a_core_end_refines.Goals as goal

pub returns : goal.returns
returns c = core_ends
