use Rattle.daemon_refines.proofs.WordRequests.{options_agree}
use Rattle.daemon_refines.proofs.device_words.descriptors_follow_the_model.Goals as goal

pub returns : goal.returns
returns c = options_agree
