use Rattle.event_world.specs.declared.event.JobEvent.TheVariants.{DataConnect}
use Rattle.world_refines.specs.GhostEvents.{Dials}
use Rattle.world_refines.proofs.frames.Dialling.{dial_decides}
use Rattle.world_refines.proofs.state.Taking.{follows_by}
use Rattle.world_refines.proofs.events.a_data_connection_refines.Goals as goal

pub returns : goal.returns
returns c = follows_by DataConnect Dials dial_decides
