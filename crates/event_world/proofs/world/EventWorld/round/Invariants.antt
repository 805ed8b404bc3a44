use Rattle.page_sources.specs.SourceView.{source_state}
use Rattle.event_world.specs.Worlds.{seen_world}
use Rattle.event_world.proofs.Falling.{IsPart}
use Rattle.event_world.proofs.world.EventWorld.round.Given as goal

abbrev pub invariant-loop-i : goal.invariant-loop-i
invariant-loop-i g l = IsPart source_state l.goes_on l.i (seen_world g.D.Device.state l.initial.self) (seen_world g.D.Device.state l.self)
