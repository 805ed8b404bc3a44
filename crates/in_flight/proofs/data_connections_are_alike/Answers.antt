use Rattle.in_flight.proofs.Calls.{connections_alike, frames_alike, losses_alike}
use Rattle.in_flight.proofs.data_connections_are_alike.Goals as goal

pub returns-clause-frame : goal.returns-clause-frame
returns-clause-frame c = frames_alike

pub returns-clause-made : goal.returns-clause-made
returns-clause-made c = connections_alike

pub returns-clause-lost : goal.returns-clause-lost
returns-clause-lost c = losses_alike
