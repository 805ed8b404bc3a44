use Rattle.client_refines.proofs.Replying.{all_heard}
use Rattle.client_refines.proofs.reply_laws.pieces_are_heard_alike.Goals as goal

pub returns : goal.returns
returns c = all_heard
