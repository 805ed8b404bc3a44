use Rattle.std.proofs.Common.{◌≡◌, ◌∙◌, sym, subst, map}
use Rattle.std.specs.Prelude.{Some, Ok, Err, Result}
use Rattle.page_sources.specs.SourceView.{source_state}
use Rattle.sane_fixed.specs.declared.status.Status.{Status}
use Rattle.scan_frames.specs.PassReading.{BeginsPass, FrameProgress, given_in}
use Rattle.scan_frames.specs.declared.faults.BeginFault.{BeginFault}
use Rattle.device_api.specs.State.{DeviceState, Starts, after_stop}
use Rattle.device_api.specs.State.Phase.{Reading}
use Rattle.virtual_scanner.specs.Inside.{device_on}
use Rattle.virtual_scanner.specs.Phases.{phase_of, pass_to_start}
use Rattle.virtual_scanner.proofs.Trays.{refuses}
use Rattle.virtual_scanner.proofs.Limits.{begins_same, frame_begun, limits_on, same_room, waiting_frame}
use Rattle.virtual_scanner.proofs.scanner.VirtualScannerDevice.start.Goals as goal

pub invariant_of-self : goal.invariant_of-self
invariant_of-self c =
    let setup = c.self.inside.setup in
    let xs = map source_state c.self.inside.tray.items in
    let ys = map source_state c.begin_frame.new.tray.items in
    let result : Result FrameProgress BeginFault = Ok c.in-Ok.frame in
    record {
      limits = limits_on c.self.inside.info setup (λ s t. BeginsPass s setup c.in-Some.pass result t) xs ys (phase_of c.self.inside.at) (Reading c.in-Ok.frame.pass (given_in c.in-Ok.frame)) (λ s t h. begins_same s t setup c.in-Some.pass result h) c.in-Ok.ensures.begins c.self.invariant.limits;
      room = same_room c.self.inside.tray c.begin_frame.new.tray setup.scene.kind c.begin_frame.ensures.room c.self.invariant.room;
      frame = frame_begun setup c.in-Some.pass c.in-Ok.frame xs ys c.in-Ok.ensures.begins;
    }

pub invariant_of-self-in-Err : goal.invariant_of-self-in-Err
invariant_of-self-in-Err c =
    let setup = c.self.inside.setup in
    let xs = map source_state c.self.inside.tray.items in
    let ys = map source_state c.begin_frame.new.tray.items in
    let at = c.self.inside.at in
    let pass : pass_to_start (phase_of at) ≡ Some c.in-Some.pass = sym c.pass_to_start.ensures ∙ c.in-Some.is in
    let result : Result FrameProgress BeginFault = Err c.in-Err.fault in
    record {
      limits = limits_on c.self.inside.info setup (λ s t. BeginsPass s setup c.in-Some.pass result t) xs ys (phase_of at) (phase_of at) (λ s t h. begins_same s t setup c.in-Some.pass result h) c.in-Err.ensures.begins c.self.invariant.limits;
      room = same_room c.self.inside.tray c.begin_frame.new.tray setup.scene.kind c.begin_frame.ensures.room c.self.invariant.room;
      frame = waiting_frame at c.in-Some.pass setup ys pass;
    }

pub returns-in-Err : goal.returns-in-Err
returns-in-Err c =
    let setup = c.self.inside.setup in
    let xs = map source_state c.self.inside.tray.items in
    let ys = map source_state c.begin_frame.new.tray.items in
    let at = c.self.inside.at in
    let old : DeviceState = device_on c.self.inside.info setup xs (phase_of at) in
    let pass : pass_to_start (phase_of at) ≡ Some c.in-Some.pass = sym c.pass_to_start.ensures ∙ c.in-Some.is in
    let there = refuses c.self.inside.info setup xs ys (phase_of at) c.in-Some.pass c.in-Err.fault pass c.in-Err.ensures.begins in
    let answer = subst (λ (status : Status). Starts old (Err status) (after_stop (device_on c.self.inside.info setup ys (phase_of at)))) (sym c.from.ensures) there in
    let left = subst (λ (new : DeviceState). Starts old (Err c.from.result) new) (sym c.stop-in-Err.ensures) answer in
    subst (λ (d : DeviceState). Starts d (Err c.from.result) c.stop-in-Err.new.self) c.self.view_is left
