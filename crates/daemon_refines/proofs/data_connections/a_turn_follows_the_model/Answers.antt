use Rattle.daemon_refines.proofs.DataTurns.{turns_agree}
use Rattle.daemon_refines.proofs.data_connections.a_turn_follows_the_model.Goals as goal

pub returns : goal.returns
returns c = turns_agree
