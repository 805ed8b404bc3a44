use Rattle.page_sources.specs.SourceView.{source_state}
use Rattle.event_world.specs.Worlds.{Runs, seen_world}
use Rattle.event_world.proofs.world.EventWorld.run.Given as goal

abbrev pub invariant-loop-event : goal.invariant-loop-event
invariant-loop-event g l = Runs source_state l.yielded (seen_world g.D.Device.state l.initial.self) (seen_world g.D.Device.state l.self)
