use Rattle.scan_laws.proofs.Sets.{tells}
use Rattle.scan_laws.proofs.device_laws.what_a_set_tells.Goals as goal

pub returns : goal.returns
returns c = tells
