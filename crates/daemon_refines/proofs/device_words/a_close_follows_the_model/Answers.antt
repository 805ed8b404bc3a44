use Rattle.daemon_refines.proofs.CancelAndClose.{close_agrees}
use Rattle.daemon_refines.proofs.device_words.a_close_follows_the_model.Goals as goal

pub returns : goal.returns
returns c = close_agrees
