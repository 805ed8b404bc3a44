use Rattle.daemon_refines.proofs.Started.{start_agrees}
use Rattle.daemon_refines.proofs.device_words.a_start_follows_the_model.Goals as goal

pub returns : goal.returns
returns c = start_agrees
