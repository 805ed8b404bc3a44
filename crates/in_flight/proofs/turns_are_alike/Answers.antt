use Rattle.in_flight.proofs.Calls.{turns_alike}
use Rattle.in_flight.proofs.turns_are_alike.Goals as goal

pub returns : goal.returns
returns c = turns_alike
