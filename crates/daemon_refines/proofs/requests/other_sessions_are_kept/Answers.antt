use Rattle.daemon_refines.proofs.OtherSessions.{others_stand}
use Rattle.daemon_refines.proofs.requests.other_sessions_are_kept.Goals as goal

pub returns : goal.returns
returns c = others_stand
