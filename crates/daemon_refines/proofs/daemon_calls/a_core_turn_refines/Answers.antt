use Rattle.daemon_refines.proofs.CoreCalls.{core_turns, core_turns_off}
use Rattle.daemon_refines.proofs.daemon_calls.a_core_turn_refines.Goals as goal

pub returns-clause-of_a_frame : goal.returns-clause-of_a_frame
returns-clause-of_a_frame c = core_turns

pub returns-clause-of_a_cancelled_frame : goal.returns-clause-of_a_cancelled_frame
returns-clause-of_a_cancelled_frame c = core_turns_off
