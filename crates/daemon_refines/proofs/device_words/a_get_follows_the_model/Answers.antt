use Rattle.daemon_refines.proofs.WordRequests.{get_agrees}
use Rattle.daemon_refines.proofs.device_words.a_get_follows_the_model.Goals as goal

pub returns : goal.returns
returns c = get_agrees
