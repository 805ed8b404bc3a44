use Rattle.client_refines.proofs.ClientEndings.{begins_alike}
use Rattle.client_refines.proofs.lives.clients_begin_alike.Goals as goal

pub returns : goal.returns
returns c = begins_alike
