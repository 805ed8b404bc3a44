use Rattle.std.proofs.Common.{◌≡◌, ◌∙◌, rules, true}
use Rattle.device_api.specs.State.{DeviceState}
use Rattle.device_api.specs.Values.{option_got}
use Rattle.scan_job.specs.KnownValues.{tells_value}
use Rattle.local_job.proofs.Shows.{tells_it, refused_is}
use Rattle.local_job.proofs.option_showing.value_reported.Goals as goal

pub returns-in-Err-clause-refusal : goal.returns-in-Err-clause-refusal
returns-in-Err-clause-refusal g c =
    let s : DeviceState = (goal.Device-dyn g c.args.device.now).state c.args.device.now.1 in
    let tells : tells_value c.args.desc.now ≡ true = search rules in
    c.stop_by_status.ensures
    ∙ refused_is c.in-Err.status c.get.result (option_got s.setup c.args.n) c.in-Err.is c.get.ensures.0 (λ refused. tells_it s.setup c.args.n c.args.desc.now c.in-Err.status c.requires tells refused)
