use Rattle.system_model.proofs.JobPromises.{scans_right}
use Rattle.system_model.proofs.what_is_scanned_is_right.Goals as goal

pub returns : goal.returns
returns c = scans_right
