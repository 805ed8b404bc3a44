use Rattle.event_world.specs.declared.event.JobEvent.TheVariants.{ToClient}
use Rattle.world_refines.specs.ClientDeliveries.{GhostHears}
use Rattle.world_refines.proofs.replies.Hearing.{deliver_decides}
use Rattle.world_refines.proofs.state.Taking.{follows_by}
use Rattle.world_refines.proofs.events.a_delivery_to_the_client_refines.Goals as goal

pub returns : goal.returns
returns c = λ n. follows_by (ToClient n) (GhostHears n) (deliver_decides n)
