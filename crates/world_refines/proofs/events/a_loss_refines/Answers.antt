use Rattle.event_world.specs.declared.event.JobEvent.TheVariants.{LoseControl}
use Rattle.world_refines.specs.GhostEvents.{LosesControl}
use Rattle.world_refines.proofs.job_events.Losing.{control_decides}
use Rattle.world_refines.proofs.state.Taking.{follows_by}
use Rattle.world_refines.proofs.events.a_loss_refines.Goals as goal

pub returns : goal.returns
returns c = follows_by LoseControl LosesControl control_decides
