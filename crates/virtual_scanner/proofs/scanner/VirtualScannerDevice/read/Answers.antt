use Rattle.std.proofs.Common.{◌≡◌, ◌∙◌, ap, sym, subst, map, ℕ, List}
use Rattle.std.specs.Prelude.{Option, Ok, Err}
use Rattle.page_sources.specs.SourceView.{source_state}
use Rattle.page_picture.specs.Source.{SourceState}
use Rattle.sane_fixed.specs.declared.status.Status.{Status}
use Rattle.scan_frames.specs.PassReading.{FrameProgress, given_in}
use Rattle.scan_frames.specs.declared.setup.Setup.{Setup}
use Rattle.device_api.specs.State.{DeviceState, Phase, Reads, after_read_status, goes_to, read_status_at}
use Rattle.device_api.specs.State.Phase.{Reading}
use Rattle.virtual_scanner.specs.Answers.{AnswersRead}
use Rattle.virtual_scanner.specs.Inside.{device_on}
use Rattle.virtual_scanner.specs.Phases.{phase_of}
use Rattle.virtual_scanner.specs.declared.at.At.{At}
use Rattle.virtual_scanner.proofs.Trays.{gives, answers}
use Rattle.virtual_scanner.proofs.Limits.{answers_same, frame_goes_on, limits_on, same_room, still_frame}
use Rattle.virtual_scanner.proofs.scanner.VirtualScannerDevice.read.Goals as goal

pub invariant_of-self-in-Ok : goal.invariant_of-self-in-Ok
invariant_of-self-in-Ok c =
    let setup : Setup = c.self.inside.setup in
    let xs : List SourceState = map source_state c.self.inside.tray.items in
    let ys : List SourceState = map source_state c.read_frame.new.tray.items in
    let f : FrameProgress = c.in-Reading.frame in
    let g : FrameProgress = c.read_frame.new.frame in
    let told : Option Status = read_status_at setup.told (given_in f) in
    let buf : List ℕ = c.read_frame.new.buf in
    record {
      limits = limits_on c.self.inside.info setup (λ s t. AnswersRead setup (record { source = s; frame = f }) (Ok c.in-Ok.n) (record { source = t; frame = g }) buf) xs ys (phase_of c.self.inside.at) (Reading g.pass (given_in g)) (λ s t h. answers_same s t setup f g told (Ok c.in-Ok.n) buf h) c.in-Ok.ensures.answers c.self.invariant.limits;
      room = same_room c.self.inside.tray c.read_frame.new.tray setup.scene.kind c.read_frame.ensures.room c.self.invariant.room;
      frame = frame_goes_on setup f g told c.in-Ok.n buf xs ys c.in-Ok.ensures.answers;
    }

pub invariant_of-self-in-Err : goal.invariant_of-self-in-Err
invariant_of-self-in-Err c =
    let setup : Setup = c.self.inside.setup in
    let xs : List SourceState = map source_state c.self.inside.tray.items in
    let ys : List SourceState = map source_state c.read_frame.new.tray.items in
    let f : FrameProgress = c.in-Reading.frame in
    let g : FrameProgress = c.read_frame.new.frame in
    let told : Option Status = read_status_at setup.told (given_in f) in
    let buf : List ℕ = c.read_frame.new.buf in
    record {
      limits = limits_on c.self.inside.info setup (λ s t. AnswersRead setup (record { source = s; frame = f }) (Err c.in-Err.status) (record { source = t; frame = g }) buf) xs ys (phase_of c.self.inside.at) (phase_of c.after.result) (λ s t h. answers_same s t setup f g told (Err c.in-Err.status) buf h) c.in-Err.ensures.answers c.self.invariant.limits;
      room = same_room c.self.inside.tray c.read_frame.new.tray setup.scene.kind c.read_frame.ensures.room c.self.invariant.room;
      frame = still_frame c.after.result setup ys c.after.ensures.still;
    }

pub returns-in-Ok-clause-reads : goal.returns-in-Ok-clause-reads
returns-in-Ok-clause-reads c =
    let info = c.self.inside.info in
    let setup : Setup = c.self.inside.setup in
    let xs : List SourceState = map source_state c.self.inside.tray.items in
    let ys : List SourceState = map source_state c.read_frame.new.tray.items in
    let f : FrameProgress = c.in-Reading.frame in
    let g : FrameProgress = c.read_frame.new.frame in
    let buf : List ℕ = c.read_frame.new.buf in
    let new : DeviceState = device_on info setup ys (Reading g.pass (given_in g)) in
    let there = gives info setup xs ys f g (read_status_at setup.told (given_in f)) c.in-Ok.n buf c.in-Ok.ensures.answers in
    let old_is : c.args.self.now ≡ device_on info setup xs (Reading f.pass (given_in f)) = sym c.self.view_is ∙ ap (λ (a : At). device_on info setup xs (phase_of a)) c.in-Reading.is in
    subst (λ (d : DeviceState). Reads d (Ok c.in-Ok.n) new buf) (sym old_is) there

pub returns-in-Err-clause-reads : goal.returns-in-Err-clause-reads
returns-in-Err-clause-reads c =
    let info = c.self.inside.info in
    let setup : Setup = c.self.inside.setup in
    let xs : List SourceState = map source_state c.self.inside.tray.items in
    let ys : List SourceState = map source_state c.read_frame.new.tray.items in
    let f : FrameProgress = c.in-Reading.frame in
    let g : FrameProgress = c.read_frame.new.frame in
    let buf : List ℕ = c.read_frame.new.buf in
    let status : Status = c.in-Err.status in
    let phase : Phase = phase_of c.after.result in
    let phase_is : phase ≡ after_read_status setup f.pass status = c.after.ensures.phase ∙ ap (λ (pass : ℕ). after_read_status setup pass status) c.pass-pass.ensures in
    let there = answers info setup xs ys f g (read_status_at setup.told (given_in f)) status phase buf phase_is c.in-Err.ensures.answers in
    let old_is : c.args.self.now ≡ device_on info setup xs (Reading f.pass (given_in f)) = sym c.self.view_is ∙ ap (λ (a : At). device_on info setup xs (phase_of a)) c.in-Reading.is in
    let read : Reads c.args.self.now (Err status) (goes_to (device_on info setup ys phase) phase) buf = subst (λ (d : DeviceState). Reads d (Err status) (goes_to (device_on info setup ys phase) phase) buf) (sym old_is) there in
    subst (λ (d : DeviceState). Reads c.args.self.now (Err status) d buf) (sym c.settle.ensures) read
