use Rattle.std.proofs.Common.{refl}
use Rattle.scan_world.proofs.Calls.{moves_call, left_is}
use Rattle.scan_world.proofs.world.World.moves_left.Goals as goal

pub returns : goal.returns
returns g c = let is = left_is _ _ c.moves_left.result refl c.moves_left.ensures.is c.moves_left.ensures.none in record { is = is; kept = moves_call c.what_stands_below.ensures _ c.args.i _ is }
