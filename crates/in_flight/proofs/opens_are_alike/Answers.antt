use Rattle.in_flight.proofs.Calls.{opens_alike}
use Rattle.in_flight.proofs.opens_are_alike.Goals as goal

pub returns : goal.returns
returns c = opens_alike
