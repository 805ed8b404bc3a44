use Rattle.world_refines.proofs.promise_proofs.Counted
use Rattle.world_refines.proofs.promises.a_batch_is_counted.Goals as goal

pub returns : goal.returns
returns c = Counted.batches_are_counted
