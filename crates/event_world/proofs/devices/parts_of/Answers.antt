use Rattle.std.proofs.Common.{List, map, rules, subst}
use Rattle.scan_job.specs.declared.job.Job.{Job}
use Rattle.event_world.specs.declared.world_fault.WorldFault.TheVariants as faults
use Rattle.event_world.specs.Worlds.{HasFaultAmong}
use Rattle.event_world.proofs.devices.parts_of.Goals as goal

pub returns-in-Err-clause-fault : goal.returns-in-Err-clause-fault
returns-in-Err-clause-fault g c =
    subst (λ (devices : List g.row.D.Denot). HasFaultAmong faults.NoMem (map g.D.Device.state devices) c.args.jobs.items) c.as_slice.ensures.value
    (subst (λ (jobs : List Job). HasFaultAmong faults.NoMem (map g.D.Device.state c.as_slice.result.now) jobs) c.as_slice-2.ensures.value (c.fault_among.ensures.none (search rules)))

pub returns-in-Ok-new-clause-accepted : goal.returns-in-Ok-new-clause-accepted
returns-in-Ok-new-clause-accepted g c =
    subst (λ (devices : List g.row.D.Denot). HasFaultAmong faults.NoMem (map g.D.Device.state devices) c.args.jobs.items) c.as_slice.ensures.value
    (subst (λ (jobs : List Job). HasFaultAmong faults.NoMem (map g.D.Device.state c.as_slice.result.now) jobs) c.as_slice-2.ensures.value (c.fault_among.ensures.none (search rules)))

pub returns-in-Err-new-clause-fault : goal.returns-in-Err-new-clause-fault
returns-in-Err-new-clause-fault g c =
    subst (λ (devices : List g.row.D.Denot). HasFaultAmong faults.NoMem (map g.D.Device.state devices) c.args.jobs.items) c.as_slice.ensures.value
    (subst (λ (jobs : List Job). HasFaultAmong faults.NoMem (map g.D.Device.state c.as_slice.result.now) jobs) c.as_slice-2.ensures.value (c.fault_among.ensures.none (search rules)))
