use Rattle.daemon_refines.proofs.SessionEndings.{devices_agree, lists_agree}
use Rattle.daemon_refines.proofs.whole_sessions.a_list_follows_the_model.Goals as goal

pub returns-clause-answer : goal.returns-clause-answer
returns-clause-answer c = devices_agree

pub returns-clause-devices : goal.returns-clause-devices
returns-clause-devices c = lists_agree
