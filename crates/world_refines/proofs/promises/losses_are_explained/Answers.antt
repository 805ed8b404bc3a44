use Rattle.world_refines.proofs.moves.Stuck
use Rattle.world_refines.proofs.promises.losses_are_explained.Goals as goal

pub returns : goal.returns
returns c = Stuck.losses_explained
