use Rattle.in_flight.proofs.Calls.{deliveries_unseen}
use Rattle.in_flight.proofs.deliveries_are_unseen.Goals as goal

pub returns : goal.returns
returns c = deliveries_unseen
