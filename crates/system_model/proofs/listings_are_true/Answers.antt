use Rattle.system_model.proofs.JobPromises.{listings_true}
use Rattle.system_model.proofs.listings_are_true.Goals as goal

pub returns : goal.returns
returns c = listings_true
