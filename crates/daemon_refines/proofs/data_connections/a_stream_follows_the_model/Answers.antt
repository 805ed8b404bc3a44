use Rattle.daemon_refines.proofs.SessionTurns.{endings_agree, streams_agree}
use Rattle.daemon_refines.proofs.data_connections.a_stream_follows_the_model.Goals as goal

pub returns-clause-of_a_frame : goal.returns-clause-of_a_frame
returns-clause-of_a_frame c = streams_agree

pub returns-clause-of_a_cancelled_frame : goal.returns-clause-of_a_cancelled_frame
returns-clause-of_a_cancelled_frame c = endings_agree
