use Rattle.in_flight.proofs.Feeding.{feeds_alike}
use Rattle.in_flight.proofs.feeds_are_alike.Goals as goal

pub returns : goal.returns
returns c = feeds_alike
