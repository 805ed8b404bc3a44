use Rattle.event_world.specs.declared.event.JobEvent.TheVariants.{DataTurn}
use Rattle.world_refines.specs.GhostEvents.{GhostTurns}
use Rattle.world_refines.proofs.frames.TurnEvents.{turn_decides}
use Rattle.world_refines.proofs.state.Taking.{follows_by}
use Rattle.world_refines.proofs.events.a_turn_refines.Goals as goal

pub returns : goal.returns
returns c = follows_by DataTurn GhostTurns turn_decides
