use Rattle.daemon_refines.proofs.Opens.{open_agrees}
use Rattle.daemon_refines.proofs.whole_sessions.an_open_follows_the_model.Goals as goal

pub returns : goal.returns
returns c = open_agrees
