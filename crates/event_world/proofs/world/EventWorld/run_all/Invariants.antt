use Rattle.std.proofs.Common.{◌+◌, cond}
use Rattle.page_sources.specs.SourceView.{source_state}
use Rattle.event_world.specs.Rounds.{total_left}
use Rattle.event_world.specs.Worlds.{seen_world}
use Rattle.event_world.proofs.Falling.{AreRounds}
use Rattle.event_world.proofs.world.EventWorld.run_all.Given as goal

abbrev pub invariant-loop-goes_on : goal.invariant-loop-goes_on
invariant-loop-goes_on g l = AreRounds source_state l.goes_on (seen_world g.D.Device.state l.initial.self) (seen_world g.D.Device.state l.self)

abbrev pub decreases-loop-goes_on : goal.decreases-loop-goes_on
decreases-loop-goes_on g l = total_left l.self.endpoints + cond l.goes_on 1 0
