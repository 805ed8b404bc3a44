use Rattle.client_refines.proofs.Heard.{replies_alike}
use Rattle.client_refines.proofs.reply_laws.replies_are_heard_alike.Goals as goal

pub returns : goal.returns
returns c = replies_alike
