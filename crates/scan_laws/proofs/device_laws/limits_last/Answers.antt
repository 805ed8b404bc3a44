use Rattle.device_api.proofs.AllowedLaws.{defaults_allowed}
use Rattle.scan_laws.proofs.PageLimits.{load_limits, reset_limits, scan_limits}
use Rattle.scan_laws.proofs.Sets.{set_allowed}
use Rattle.scan_laws.proofs.device_laws.limits_last.Goals as goal

pub returns-clause-defaults : goal.returns-clause-defaults
returns-clause-defaults c = defaults_allowed

pub returns-clause-set : goal.returns-clause-set
returns-clause-set c = set_allowed

pub returns-clause-reset : goal.returns-clause-reset
returns-clause-reset c = reset_limits

pub returns-clause-load : goal.returns-clause-load
returns-clause-load c = load_limits

pub returns-clause-scan : goal.returns-clause-scan
returns-clause-scan c = scan_limits
