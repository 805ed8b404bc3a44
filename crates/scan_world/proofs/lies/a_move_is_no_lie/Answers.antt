use Rattle.scan_world.proofs.Refused.{given_to_loss, moved, stuck}
use Rattle.scan_world.proofs.lies.a_move_is_no_lie.Goals as goal

pub returns : goal.returns
returns c = record { stuck = stuck; moved = moved; lost = given_to_loss }
