use Rattle.world_refines.proofs.promise_proofs.PromiseProofs
use Rattle.world_refines.proofs.promises.outcomes_are_right.Goals as goal

pub returns : goal.returns
returns c = PromiseProofs.outcomes_are_right
