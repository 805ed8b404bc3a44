use Rattle.worked_worlds.proofs.GrayDots.{fed_dot, flat_dot}
use Rattle.worked_worlds.proofs.dots.a_dot_is_one_byte.Goals as goal

pub returns : goal.returns
returns c = record { flatbed = flat_dot; feeder = fed_dot }
