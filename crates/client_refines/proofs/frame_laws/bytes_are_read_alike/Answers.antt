use Rattle.client_refines.proofs.Payload.{bytes_alike}
use Rattle.client_refines.proofs.frame_laws.bytes_are_read_alike.Goals as goal

pub returns : goal.returns
returns c = bytes_alike
