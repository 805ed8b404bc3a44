use Rattle.system_model.proofs.JobPromises.{batches_counted}
use Rattle.system_model.proofs.batch_pages_are_counted.Goals as goal

pub returns : goal.returns
returns c = batches_counted
