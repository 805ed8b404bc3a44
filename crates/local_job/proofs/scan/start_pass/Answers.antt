use Rattle.std.proofs.Common.{◌≡◌, Ok, Err, rules}
use Rattle.device_api.specs.State.{DeviceState, Starts}
use Rattle.local_job.proofs.Pictures.{start_begun, start_cause, start_empty, start_keeps, start_pictureless}
use Rattle.local_job.proofs.Lets.{of_phase}
use Rattle.local_job.proofs.EmptyTrays.{start_stays}
use Rattle.local_job.proofs.OutputEnds.{status_spares}
use Rattle.local_job.proofs.scan.start_pass.Goals as goal

pub returns-in-Ok-clause-some : goal.returns-in-Ok-clause-some
returns-in-Ok-clause-some g c =
    let old : DeviceState = (goal.Device-dyn g c.args.device.now).state c.args.device.now.1 in
    let new : DeviceState = (goal.Device-dyn g c.args.device.now).state c.start.new.self in
    let starts : Starts old (Ok tt) new = search rules in
    (start_begun old new starts).some

pub returns-in-Ok-clause-picture : goal.returns-in-Ok-clause-picture
returns-in-Ok-clause-picture g c =
    let old : DeviceState = (goal.Device-dyn g c.args.device.now).state c.args.device.now.1 in
    let new : DeviceState = (goal.Device-dyn g c.args.device.now).state c.start.new.self in
    let starts : Starts old (Ok tt) new = search rules in
    (start_begun old new starts).picture

pub returns-in-Ok-clause-started : goal.returns-in-Ok-clause-started
returns-in-Ok-clause-started g c =
    let old : DeviceState = (goal.Device-dyn g c.args.device.now).state c.args.device.now.1 in
    let new : DeviceState = (goal.Device-dyn g c.args.device.now).state c.start.new.self in
    let starts : Starts old (Ok tt) new = search rules in
    (start_begun old new starts).after

pub returns-in-Ok-clause-same : goal.returns-in-Ok-clause-same
returns-in-Ok-clause-same g c =
    let old : DeviceState = (goal.Device-dyn g c.args.device.now).state c.args.device.now.1 in
    let new : DeviceState = (goal.Device-dyn g c.args.device.now).state c.start.new.self in
    let starts : Starts old (Ok tt) new = search rules in
    of_phase old new _ (start_begun old new starts).after

pub returns-in-Err-clause-cause : goal.returns-in-Err-clause-cause
returns-in-Err-clause-cause g c =
    let old : DeviceState = (goal.Device-dyn g c.args.device.now).state c.args.device.now.1 in
    let new : DeviceState = (goal.Device-dyn g c.args.device.now).state c.start.new.self in
    let starts : Starts old (Err c.in-Err.status) new = search rules in
    rw c.stop_by_status.ensures (start_cause c.in-Err.status old new c.requires starts)

pub returns-in-Err-clause-none : goal.returns-in-Err-clause-none
returns-in-Err-clause-none g c =
    let old : DeviceState = (goal.Device-dyn g c.args.device.now).state c.args.device.now.1 in
    let new : DeviceState = (goal.Device-dyn g c.args.device.now).state c.start.new.self in
    let starts : Starts old (Err c.in-Err.status) new = search rules in
    rw c.stop_by_status.ensures (start_pictureless c.in-Err.status old new c.requires starts)

pub returns-in-Err-clause-empty : goal.returns-in-Err-clause-empty
returns-in-Err-clause-empty g c =
    let old : DeviceState = (goal.Device-dyn g c.args.device.now).state c.args.device.now.1 in
    let new : DeviceState = (goal.Device-dyn g c.args.device.now).state c.start.new.self in
    let starts : Starts old (Err c.in-Err.status) new = search rules in
    rw c.stop_by_status.ensures (start_empty c.in-Err.status old new c.requires starts)

pub returns-in-Err-clause-same : goal.returns-in-Err-clause-same
returns-in-Err-clause-same g c =
    let old : DeviceState = (goal.Device-dyn g c.args.device.now).state c.args.device.now.1 in
    let new : DeviceState = (goal.Device-dyn g c.args.device.now).state c.start.new.self in
    let starts : Starts old (Err c.in-Err.status) new = search rules in
    start_keeps c.in-Err.status old new starts

pub returns-in-Err-clause-stays : goal.returns-in-Err-clause-stays
returns-in-Err-clause-stays g c =
    let old : DeviceState = (goal.Device-dyn g c.args.device.now).state c.args.device.now.1 in
    let new : DeviceState = (goal.Device-dyn g c.args.device.now).state c.start.new.self in
    let starts : Starts old (Err c.in-Err.status) new = search rules in
    start_stays c.in-Err.status old new c.requires starts

pub returns-in-Err-clause-output : goal.returns-in-Err-clause-output
returns-in-Err-clause-output g c = rw c.stop_by_status.ensures (status_spares c.in-Err.status)
