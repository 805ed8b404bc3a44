use Rattle.event_world.proofs.Falling.{at_rest}
use Rattle.event_world.proofs.laws.rest_is_quiet.Goals as goal

pub returns : goal.returns
returns c = at_rest
