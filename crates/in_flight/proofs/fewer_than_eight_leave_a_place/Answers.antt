use Rattle.in_flight.proofs.Places.{a_place_is_left}
use Rattle.in_flight.proofs.fewer_than_eight_leave_a_place.Goals as goal

pub returns : goal.returns
returns c = a_place_is_left
