use Rattle.event_world.specs.declared.event.JobEvent.TheVariants.{ToDaemon}
use Rattle.world_refines.specs.Answering.{AnswersSome}
use Rattle.world_refines.proofs.requests.FedEvent.{delivery_decides}
use Rattle.world_refines.proofs.requests.OneAnswer.{all_requests}
use Rattle.world_refines.proofs.state.Taking.{follows_by}
use Rattle.world_refines.proofs.events.a_delivery_to_the_daemon_refines.Goals as goal

pub returns : goal.returns
returns c = λ n. follows_by (ToDaemon n) (AnswersSome n) (delivery_decides (λ t w i h low. all_requests t i) n)
