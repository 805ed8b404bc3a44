use Rattle.daemon_refines.proofs.SessionEndings.{init_agrees, init_ends}
use Rattle.daemon_refines.proofs.whole_sessions.a_greeting_follows_the_model.Goals as goal

pub returns-clause-of_its_major : goal.returns-clause-of_its_major
returns-clause-of_its_major c = init_agrees

pub returns-clause-of_another : goal.returns-clause-of_another
returns-clause-of_another c = init_ends
