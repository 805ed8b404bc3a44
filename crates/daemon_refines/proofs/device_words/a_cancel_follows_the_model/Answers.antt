use Rattle.daemon_refines.proofs.CancelAndClose.{cancel_agrees}
use Rattle.daemon_refines.proofs.device_words.a_cancel_follows_the_model.Goals as goal

pub returns : goal.returns
returns c = cancel_agrees
