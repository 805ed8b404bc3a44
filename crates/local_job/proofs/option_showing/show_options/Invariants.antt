use Rattle.std.proofs.Common.{◌≡◌, ◌++◌, drop}
use Rattle.device_api.specs.State.{DeviceState}
use Rattle.device_api.specs.Options.{descriptors_of}
use Rattle.local_job.specs.Showing.{options_with_values}
use Rattle.local_job.proofs.Shows.{shown_rest}
use Rattle.local_job.proofs.option_showing.show_options.Given as goal

abbrev pub invariant-loop-n : goal.invariant-loop-n
invariant-loop-n g l =
    let s : DeviceState = (goal.Device-dyn g l.device.now).state l.device.now.1 in
    l.options.items ++ shown_rest s.setup l.n (drop l.n (descriptors_of s.setup)) ≡ options_with_values s.setup
