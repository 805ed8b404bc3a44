use Rattle.event_world.specs.declared.event.JobEvent.TheVariants.{DataToClient}
use Rattle.world_refines.specs.DataDeliveries.{GhostSees}
use Rattle.world_refines.proofs.frames.Seeing.{data_decides}
use Rattle.world_refines.proofs.state.Taking.{follows_by}
use Rattle.world_refines.proofs.events.a_data_delivery_refines.Goals as goal

pub returns : goal.returns
returns c = λ n. follows_by (DataToClient n) (GhostSees n) (data_decides n)
