use Rattle.page_sources.specs.SourceView.{source_state}
use Rattle.std.proofs.Common.{map}
use Rattle.virtual_scanner.specs.Phases.{phase_of}
use Rattle.virtual_scanner.proofs.Limits.{kept_frame, limits_loaded, more_room}
use Rattle.virtual_scanner.proofs.scanner.VirtualScannerDevice.load.Goals as goal

pub invariant_of-self : goal.invariant_of-self
invariant_of-self c =
    let setup = c.self.inside.setup in
    let at = c.self.inside.at in
    let put = c.put_page.ensures in
    record {
      limits = limits_loaded c.self.inside.info setup c.self.inside.tray c.put_page.new.tray c.args.page c.put_page.result (phase_of at) put.ok put.err put.fits put.limits c.self.invariant.limits;
      room = more_room c.self.inside.tray c.put_page.new.tray setup.scene.kind put.room c.self.invariant.room;
      frame = kept_frame at c.in-Rest.field-0 setup (map source_state c.put_page.new.tray.items) c.in-Rest.is;
    }
