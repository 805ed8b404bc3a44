use Rattle.world_refines.proofs.moves.Stuck
use Rattle.world_refines.proofs.promises.nobody_is_stuck.Goals as goal

pub returns : goal.returns
returns c = Stuck.nobody_is_stuck
