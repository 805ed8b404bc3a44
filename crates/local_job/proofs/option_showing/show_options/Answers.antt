use Rattle.std.proofs.Common.{rules, ◌≡◌, [], ◌∷◌, ◌+◌, drop, length, ◌≤◌}
use Rattle.std.proofs.Math.ListN.{drop_of_length-le}
use Rattle.device_api.specs.State.{DeviceState}
use Rattle.device_api.specs.Options.{descriptors_of}
use Rattle.local_job.specs.Showing.{options_with_values}
use Rattle.local_job.proofs.Puts.{cut_at}
use Rattle.local_job.proofs.Shows.{shows_first, shows_more, shows_ends}
use Rattle.local_job.proofs.option_showing.show_options.Goals as goal

pub loop-n-init : goal.loop-n-init
loop-n-init g c =
    let s : DeviceState = (goal.Device-dyn g c.args.device.now).state c.args.device.now.1 in
    rw c.in_ok-options.ensures.items (shows_first s.setup)

pub loop-n-preserved : goal.loop-n-preserved
loop-n-preserved g c =
    let s : DeviceState = (goal.Device-dyn g c.args.device.now).state c.args.device.now.1 in
    let cut : drop c.loop-n.n (descriptors_of s.setup) ≡ c.desc-item.result ∷ drop (c.loop-n.n + 1) (descriptors_of s.setup) = search (rules, cut_at (descriptors_of s.setup) c.loop-n.n c.desc-item.result) in
    rw (c.in_ok-push.ensures.items, c.in_ok-try_clone.ensures)
    (shows_more s.setup c.loop-n.options.items c.loop-n.n (drop c.loop-n.n (descriptors_of s.setup)) (drop (c.loop-n.n + 1) (descriptors_of s.setup)) c.desc-item.result c.in_ok-value.value (options_with_values s.setup) cut c.in_ok-value.ensures.told c.loop-n.invariant)

pub returns-clause-shown : goal.returns-clause-shown
returns-clause-shown g c =
    let s : DeviceState = (goal.Device-dyn g c.args.device.now).state c.args.device.now.1 in
    let none : drop c.loop-n.n (descriptors_of s.setup) ≡ [] = (let all : length (descriptors_of s.setup) ≤ c.loop-n.n = search rules in drop_of_length-le (descriptors_of s.setup) all) in
    rw c.from_vec.ensures (shows_ends s.setup c.loop-n.options.items c.loop-n.n (drop c.loop-n.n (descriptors_of s.setup)) (options_with_values s.setup) none c.loop-n.invariant)
