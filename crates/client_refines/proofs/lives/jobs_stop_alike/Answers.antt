use Rattle.client_refines.proofs.ClientEndings.{stops_alike}
use Rattle.client_refines.proofs.lives.jobs_stop_alike.Goals as goal

pub returns : goal.returns
returns c = stops_alike
