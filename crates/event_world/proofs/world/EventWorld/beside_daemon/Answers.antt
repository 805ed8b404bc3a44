use Rattle.std.proofs.Common.{List, rules, subst}
use Rattle.scan_job.specs.declared.job.Job.{Job}
use Rattle.event_world.specs.declared.world_fault.WorldFault.TheVariants as faults
use Rattle.event_world.specs.Worlds.{HasWorldFault, MayRun}
use Rattle.event_world.proofs.world.EventWorld.beside_daemon.Goals as goal

pub returns-in-Err-clause-fault : goal.returns-in-Err-clause-fault
returns-in-Err-clause-fault g c = subst (λ (jobs : List Job). HasWorldFault faults.NoMem jobs) c.as_slice.ensures.value (c.fault_of.ensures.none (search rules))

pub returns-in-Ok-clause-accepted : goal.returns-in-Ok-clause-accepted
returns-in-Ok-clause-accepted g c = subst MayRun c.as_slice.ensures.value (c.fault_of.ensures.none (search rules))
