use Rattle.page_sources.specs.SourceView.{source_state}
use Rattle.event_world.specs.Worlds.{seen_world}
use Rattle.event_world.proofs.Falling.{turn_no_move}
use Rattle.event_world.proofs.world.EventWorld.take_move.Goals as goal

pub returns-in-None : goal.returns-in-None
returns-in-None g c = turn_no_move source_state c.args.i (seen_world g.D.Device.state c.args.self.now) c.in-None.ensures.is
