use Rattle.client_refines.proofs.Payload.{turns_unseen}
use Rattle.client_refines.proofs.frame_laws.pages_turn_unseen.Goals as goal

pub returns : goal.returns
returns c = turns_unseen
