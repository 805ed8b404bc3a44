use Rattle.scan_world.proofs.Calls.{page_call}
use Rattle.scan_world.proofs.TrayPages.{page_call as tray_call}
use Rattle.scan_world.proofs.world.World.file_at.Goals as goal

pub returns : goal.returns
returns g c = record {
  is = c.file_at.ensures;
  kept = page_call c.what_stands_below.ensures _ c.args.i c.args.k _ c.file_at.ensures;
  tray = tray_call _ c.file_at.result c.what_stands_below.ensures _ c.args.i c.args.k c.file_at.ensures;
}
