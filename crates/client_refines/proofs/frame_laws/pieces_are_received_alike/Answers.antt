use Rattle.client_refines.proofs.PieceReceiving.{all_received}
use Rattle.client_refines.proofs.frame_laws.pieces_are_received_alike.Goals as goal

pub returns : goal.returns
returns c = all_received
