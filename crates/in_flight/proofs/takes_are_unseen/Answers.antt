use Rattle.in_flight.proofs.Calls.{takes_unseen}
use Rattle.in_flight.proofs.takes_are_unseen.Goals as goal

pub returns : goal.returns
returns c = takes_unseen
