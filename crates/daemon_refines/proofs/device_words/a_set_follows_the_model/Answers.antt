use Rattle.daemon_refines.proofs.SetRequests.{set_agrees, set_refuses}
use Rattle.daemon_refines.proofs.device_words.a_set_follows_the_model.Goals as goal

pub returns-clause-of_its_type : goal.returns-clause-of_its_type
returns-clause-of_its_type c = set_agrees

pub returns-clause-of_another : goal.returns-clause-of_another
returns-clause-of_another c = set_refuses
