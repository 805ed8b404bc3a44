use Rattle.daemon_refines.proofs.DataLinks.{connects_agree}
use Rattle.daemon_refines.proofs.data_connections.a_connection_follows_the_model.Goals as goal

pub returns : goal.returns
returns c = connects_agree
