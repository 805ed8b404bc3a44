use Rattle.in_flight.proofs.Calls.{nothing_first}
use Rattle.in_flight.proofs.nothing_is_in_flight_at_first.Goals as goal

pub returns : goal.returns
returns c = nothing_first
