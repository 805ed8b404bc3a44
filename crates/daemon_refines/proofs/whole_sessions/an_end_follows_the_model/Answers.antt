use Rattle.daemon_refines.proofs.SessionEndings.{ends_agree}
use Rattle.daemon_refines.proofs.whole_sessions.an_end_follows_the_model.Goals as goal

pub returns : goal.returns
returns c = ends_agree
