use Rattle.device_api.specs.State.{DeviceState}
use Rattle.local_job.proofs.BatchRuns.{done_first, ended_first}
use Rattle.local_job.proofs.JobRuns.{reset_again, ok_then, err_then}
use Rattle.local_job.proofs.local_batch.run_local_batch_with.Goals as goal

pub do_batch-done-requires-clause-reset : goal.do_batch-done-requires-clause-reset
do_batch-done-requires-clause-reset g c =
    let old : DeviceState = (goal.Device-dyn g c.args.device.now).state c.args.device.now.1 in
    let first : DeviceState = (goal.Device-dyn g c.args.device.now).state c.reset.new.self in
    reset_again old first c.reset.ensures.0

pub returns-clause-done : goal.returns-clause-done
returns-clause-done g c =
    let old : DeviceState = (goal.Device-dyn g c.args.device.now).state c.args.device.now.1 in
    let first : DeviceState = (goal.Device-dyn g c.args.device.now).state c.reset.new.self in
    let new : DeviceState = (goal.Device-dyn g c.args.device.now).state c.do_batch-done.new.device in
    let last : DeviceState = (goal.Device-dyn g c.args.device.now).state c.cancel.new.self in
    ok_then c.do_batch-done.result _ _ (λ done is. done_first old first new last c.args.job.now done.0 _ _ c.reset.ensures.0 is c.cancel.ensures) c.do_batch-done.ensures.done

pub returns-clause-stop : goal.returns-clause-stop
returns-clause-stop g c =
    let old : DeviceState = (goal.Device-dyn g c.args.device.now).state c.args.device.now.1 in
    let first : DeviceState = (goal.Device-dyn g c.args.device.now).state c.reset.new.self in
    let new : DeviceState = (goal.Device-dyn g c.args.device.now).state c.do_batch-done.new.device in
    let last : DeviceState = (goal.Device-dyn g c.args.device.now).state c.cancel.new.self in
    err_then c.do_batch-done.result _ _ (λ stop is. ended_first old first new last c.args.job.now _ _ stop c.reset.ensures.0 is c.cancel.ensures) c.do_batch-done.ensures.stop
