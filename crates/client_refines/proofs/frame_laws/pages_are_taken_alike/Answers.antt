use Rattle.client_refines.proofs.PieceReceiving.{all_taken}
use Rattle.client_refines.proofs.frame_laws.pages_are_taken_alike.Goals as goal

pub returns : goal.returns
returns c = all_taken
