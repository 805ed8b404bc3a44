use Rattle.daemon_refines.proofs.WordRequests.{parameters_agree}
use Rattle.daemon_refines.proofs.device_words.parameters_follow_the_model.Goals as goal

pub returns : goal.returns
returns c = parameters_agree
