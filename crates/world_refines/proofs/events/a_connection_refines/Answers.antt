use Rattle.event_world.specs.declared.event.JobEvent.TheVariants.{Connect}
use Rattle.world_refines.specs.GhostEvents.{GhostConnects}
use Rattle.world_refines.proofs.job_events.ControlConnections.{connect_decides}
use Rattle.world_refines.proofs.state.Taking.{follows_by}
use Rattle.world_refines.proofs.events.a_connection_refines.Goals as goal

pub returns : goal.returns
returns c = follows_by Connect GhostConnects connect_decides
