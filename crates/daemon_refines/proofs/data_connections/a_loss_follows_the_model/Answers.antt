use Rattle.daemon_refines.proofs.DataLinks.{loss_agrees}
use Rattle.daemon_refines.proofs.data_connections.a_loss_follows_the_model.Goals as goal

pub returns : goal.returns
returns c = loss_agrees
