use Rattle.in_flight.proofs.Calls.{ends_alike}
use Rattle.in_flight.proofs.ends_are_alike.Goals as goal

pub returns : goal.returns
returns c = ends_alike
