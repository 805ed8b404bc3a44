use Rattle.event_world.specs.declared.event.JobEvent.TheVariants.{Cancel}
use Rattle.world_refines.specs.GhostEvents.{GivesUp}
use Rattle.world_refines.proofs.job_events.Cancelling.{cancel_decides}
use Rattle.world_refines.proofs.state.Taking.{follows_by}
use Rattle.world_refines.proofs.events.a_cancel_refines.Goals as goal

pub returns : goal.returns
returns c = follows_by Cancel GivesUp cancel_decides
