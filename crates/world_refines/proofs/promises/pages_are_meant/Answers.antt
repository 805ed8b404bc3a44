use Rattle.world_refines.proofs.frames.Paged
use Rattle.world_refines.proofs.promises.pages_are_meant.Goals as goal

pub returns : goal.returns
returns c = Paged.pages_are_meant
