use Rattle.client_refines.proofs.Payload.{ends_alike}
use Rattle.client_refines.proofs.frame_laws.frames_end_alike.Goals as goal

pub returns : goal.returns
returns c = ends_alike
