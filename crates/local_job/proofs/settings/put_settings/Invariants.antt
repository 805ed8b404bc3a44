use Rattle.std.proofs.Common.{◌≡◌, drop}
use Rattle.device_api.specs.State.{DeviceState, with_setup}
use Rattle.local_job.specs.Inside.{put_all, with_done}
use Rattle.local_job.proofs.settings.put_settings.Given as goal

abbrev pub invariant-loop-setting : goal.invariant-loop-setting
invariant-loop-setting g l =
    let now : DeviceState = (goal.Device-dyn g l.device.now).state l.device.now.1 in
    let first : DeviceState = (goal.Device-dyn g l.initial.device.now).state l.initial.device.now.1 in
    record {
      rest : now ≡ with_setup first now.setup;
      reports : with_done l.reports.items (put_all now.setup (drop l.setting-index l.settings)) ≡ put_all first.setup l.settings;
    }
