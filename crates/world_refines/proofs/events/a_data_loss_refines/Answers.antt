use Rattle.event_world.specs.declared.event.JobEvent.TheVariants.{LoseImage}
use Rattle.world_refines.specs.GhostEvents.{LosesImage}
use Rattle.world_refines.proofs.frames.Unimaged.{image_decides}
use Rattle.world_refines.proofs.state.Taking.{follows_by}
use Rattle.world_refines.proofs.events.a_data_loss_refines.Goals as goal

pub returns : goal.returns
returns c = follows_by LoseImage LosesImage image_decides
