use Rattle.std.proofs.Common.{refl}
use Rattle.scan_world.proofs.Calls.{file_there, pages_there, starved_is}
use Rattle.scan_world.proofs.world.World.starved.Goals as goal

pub returns : goal.returns
returns g c = let is = starved_is _ _ c.starved.result refl c.starved.ensures.is c.starved.ensures.none in record { is = is; file = file_there c.what_stands_below.ensures _ c.args.i _ is; pages = pages_there c.what_stands_below.ensures _ c.args.i _ is }
