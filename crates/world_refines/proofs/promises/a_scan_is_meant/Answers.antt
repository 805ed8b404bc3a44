use Rattle.world_refines.proofs.promise_proofs.PromiseProofs
use Rattle.world_refines.proofs.promises.a_scan_is_meant.Goals as goal

pub returns : goal.returns
returns c = PromiseProofs.scans_are_meant
