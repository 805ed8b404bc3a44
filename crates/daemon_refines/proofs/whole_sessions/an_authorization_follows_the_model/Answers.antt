use Rattle.daemon_refines.proofs.Opens.{authorize_agrees}
use Rattle.daemon_refines.proofs.whole_sessions.an_authorization_follows_the_model.Goals as goal

pub returns : goal.returns
returns c = authorize_agrees
