use Rattle.scan_world.proofs.Refused.{given_away, shared, swapped}
use Rattle.scan_world.proofs.lies.a_holder_is_no_lie.Goals as goal

pub returns : goal.returns
returns c = record { shared = shared; swapped = swapped; given_away = given_away }
