use Rattle.daemon_refines.proofs.SessionEndings.{others_end}
use Rattle.daemon_refines.proofs.whole_sessions.another_request_follows_the_model.Goals as goal

pub returns : goal.returns
returns c = others_end
