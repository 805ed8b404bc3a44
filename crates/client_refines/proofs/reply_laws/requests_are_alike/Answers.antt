use Rattle.client_refines.proofs.Asking.{requests_alike}
use Rattle.client_refines.proofs.reply_laws.requests_are_alike.Goals as goal

pub returns : goal.returns
returns c = requests_alike
