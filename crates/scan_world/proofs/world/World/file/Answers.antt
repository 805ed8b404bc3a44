use Rattle.std.proofs.Common.{refl}
use Rattle.scan_world.proofs.Calls.{file_call}
use Rattle.scan_world.proofs.world.World.file.Goals as goal

pub returns : goal.returns
returns g c = record { is = c.file.ensures; kept = file_call c.what_stands_below.ensures _ c.args.i _ refl }
