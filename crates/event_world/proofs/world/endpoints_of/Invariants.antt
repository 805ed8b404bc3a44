use Rattle.event_world.specs.Worlds.{AreNew}
use Rattle.event_world.proofs.world.endpoints_of.Given as goal

abbrev pub invariant-loop-job : goal.invariant-loop-job
invariant-loop-job l = AreNew l.yielded l.endpoints.items
