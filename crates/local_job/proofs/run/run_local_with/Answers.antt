use Rattle.device_api.specs.State.{DeviceState}
use Rattle.local_job.proofs.JobRuns.{reset_again, done_first, ended_first, runs_first, ok_then, err_then}
use Rattle.local_job.proofs.run.run_local_with.Goals as goal

pub do_job-done-requires-clause-reset : goal.do_job-done-requires-clause-reset
do_job-done-requires-clause-reset g c =
    let old : DeviceState = (goal.Device-dyn g c.args.device.now).state c.args.device.now.1 in
    let first : DeviceState = (goal.Device-dyn g c.args.device.now).state c.reset.new.self in
    reset_again old first c.reset.ensures.0

pub returns-clause-done : goal.returns-clause-done
returns-clause-done g c =
    let old : DeviceState = (goal.Device-dyn g c.args.device.now).state c.args.device.now.1 in
    let first : DeviceState = (goal.Device-dyn g c.args.device.now).state c.reset.new.self in
    let new : DeviceState = (goal.Device-dyn g c.args.device.now).state c.do_job-done.new.device in
    let last : DeviceState = (goal.Device-dyn g c.args.device.now).state c.cancel.new.self in
    ok_then c.do_job-done.result _ _ (λ done is. done_first old first new last c.args.job.now done.0 _ _ c.reset.ensures.0 is c.cancel.ensures) c.do_job-done.ensures.done

pub returns-clause-stop : goal.returns-clause-stop
returns-clause-stop g c =
    let old : DeviceState = (goal.Device-dyn g c.args.device.now).state c.args.device.now.1 in
    let first : DeviceState = (goal.Device-dyn g c.args.device.now).state c.reset.new.self in
    let new : DeviceState = (goal.Device-dyn g c.args.device.now).state c.do_job-done.new.device in
    let last : DeviceState = (goal.Device-dyn g c.args.device.now).state c.cancel.new.self in
    err_then c.do_job-done.result _ _ (λ stop is. ended_first old first new last c.args.job.now stop c.reset.ensures.0 is c.cancel.ensures) c.do_job-done.ensures.stop

pub returns-clause-runs : goal.returns-clause-runs
returns-clause-runs g c =
    let old : DeviceState = (goal.Device-dyn g c.args.device.now).state c.args.device.now.1 in
    let first : DeviceState = (goal.Device-dyn g c.args.device.now).state c.reset.new.self in
    let new : DeviceState = (goal.Device-dyn g c.args.device.now).state c.do_job-done.new.device in
    let last : DeviceState = (goal.Device-dyn g c.args.device.now).state c.cancel.new.self in
    runs_first old first new last c.reset.ensures.0 c.do_job-done.ensures.runs c.cancel.ensures
