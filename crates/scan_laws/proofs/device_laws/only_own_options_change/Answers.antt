use Rattle.device_api.proofs.OwnLaws.{defaults_own, set_own}
use Rattle.scan_laws.proofs.device_laws.only_own_options_change.Goals as goal

pub returns-clause-defaults : goal.returns-clause-defaults
returns-clause-defaults c = defaults_own

pub returns-clause-set : goal.returns-clause-set
returns-clause-set c = set_own
