use Rattle.std.proofs.Common.{◌≡◌, ◌⊎◌, Err, rules}
use Rattle.sane_fixed.specs.declared.status.Status.{Status}
use Rattle.device_api.specs.State.{DeviceState}
use Rattle.device_api.specs.Values.{option_set}
use Rattle.local_job.specs.LocalStops.{stop_by_status}
use Rattle.scan_job.specs.Stops.{no_memory}
use Rattle.local_job.proofs.Puts.{set_refuses}
use Rattle.local_job.proofs.settings.set_option.Goals as goal

pub returns-in-Err-clause-refusal : goal.returns-in-Err-clause-refusal
returns-in-Err-clause-refusal g c =
    let old : DeviceState = (goal.Device-dyn g c.args.device.now).state c.args.device.now.1 in
    let why : (c.stop_by_status.result ≡ no_memory) ⊎ ((status : Status) × (option_set old.setup c.args.n c.args.asked.now ≡ Err status) × (c.stop_by_status.result ≡ stop_by_status status)) = search rules in
    set_refuses old.setup c.args.n c.args.asked.now c.stop_by_status.result why
