use Rattle.std.proofs.Common.{◌∙◌, ◌≤◌, Option, Some, None, List, map, length, sym, arith}
use Rattle.std.specs.Prelude.{IfSome}
use Rattle.std.proofs.lemmas.List.{length-map}
use Rattle.device_api.specs.State.{DeviceState}
use Rattle.dispatch.specs.RegistryFault.{AreRegistrable}
use Rattle.dispatch.proofs.Names.{one_name_twice, own_names}
use Rattle.scan_job.specs.declared.job.Job.{Job}
use Rattle.event_world.specs.declared.world_fault.WorldFault.{WorldFault}
use Rattle.event_world.specs.declared.world_fault.WorldFault.TheVariants as faults
use Rattle.event_world.specs.Worlds.{HasWorldFault, HasFaultAmong}
use Rattle.event_world.proofs.devices.fault_among.Goals as goal

-- a fault of jobs alone
among : (f : WorldFault) (devices : List DeviceState) (jobs : List Job) → AreRegistrable devices → HasWorldFault f jobs → HasFaultAmong f devices jobs
among faults.SameName devices jobs may h = absurd h
among faults.TooManyDevices devices jobs may h = absurd h
among faults.TooManyJobs devices jobs may h = (may, h)
among faults.BadJob devices jobs may h = (may, h)
among faults.NoMem devices jobs may h = (may, h)

some_among : (o : Option WorldFault) (devices : List DeviceState) (jobs : List Job) → AreRegistrable devices → IfSome o (λ f. HasWorldFault f jobs) → IfSome o (λ f. HasFaultAmong f devices jobs)
some_among None devices jobs may h = h
some_among (Some f) devices jobs may h = among f devices jobs may h

pub returns-then-repeats-clause-some : goal.returns-then-repeats-clause-some
returns-then-repeats-clause-some g c = one_name_twice (map g.D.Device.state c.args.devices.now) (sym c.repeats.ensures ∙ c.if-repeats.true)

pub returns-then-devices-gt-MOST_DEVICES-clause-some : goal.returns-then-devices-gt-MOST_DEVICES-clause-some
returns-then-devices-gt-MOST_DEVICES-clause-some g c =
    (own_names (map g.D.Device.state c.args.devices.now) (sym c.repeats.ensures ∙ c.if-repeats.false), rw length-map (omega (arith, c.if-devices-gt-MOST_DEVICES.true)))

pub returns-clause-some : goal.returns-clause-some
returns-clause-some g c =
    let own = own_names (map g.D.Device.state c.args.devices.now) (sym c.repeats.ensures ∙ c.if-repeats.false) in
    let few : length (map g.D.Device.state c.args.devices.now) ≤ 16 = rw length-map (omega (arith, c.if-devices-gt-MOST_DEVICES.false)) in
    some_among c.fault_of.result (map g.D.Device.state c.args.devices.now) c.args.jobs.now (record { names = own; few = few }) c.fault_of.ensures.some

pub returns-clause-none : goal.returns-clause-none
returns-clause-none g c = λ none.
    let own = own_names (map g.D.Device.state c.args.devices.now) (sym c.repeats.ensures ∙ c.if-repeats.false) in
    let few : length (map g.D.Device.state c.args.devices.now) ≤ 16 = rw length-map (omega (arith, c.if-devices-gt-MOST_DEVICES.false)) in
    (record { names = own; few = few }, c.fault_of.ensures.none none)
