use Rattle.scan_laws.proofs.Sets.{set_refused, get_refused}
use Rattle.scan_laws.proofs.device_laws.no_refusal_is_good.Goals as goal

pub returns-clause-set : goal.returns-clause-set
returns-clause-set c = set_refused

pub returns-clause-get : goal.returns-clause-get
returns-clause-get c = get_refused
