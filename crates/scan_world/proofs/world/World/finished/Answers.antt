use Rattle.std.proofs.Common.{refl}
use Rattle.scan_world.proofs.Calls.{count_call, finished_is}
use Rattle.scan_world.proofs.TrayPages.{tray_count}
use Rattle.scan_world.proofs.world.World.finished.Goals as goal

pub returns : goal.returns
returns g c =
    let below = c.what_stands_below.ensures in
    let is = finished_is _ _ c.finished.result refl c.finished.ensures.is c.finished.ensures.none in record { is = is; kept = count_call below _ c.args.i _ is; tray = tray_count below _ c.args.i _ is }
