use Rattle.daemon_refines.proofs.SessionEndings.{release_agrees}
use Rattle.daemon_refines.proofs.data_connections.a_release_follows_the_model.Goals as goal

pub returns : goal.returns
returns c = release_agrees
