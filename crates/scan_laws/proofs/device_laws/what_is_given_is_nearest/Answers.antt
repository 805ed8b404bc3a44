use Rattle.device_api.specs.Values.{defaults}
use Rattle.scan_laws.proofs.NearestSet.{set_nearest, set_refuses_none, force_nearest}
use Rattle.scan_laws.proofs.device_laws.what_is_given_is_nearest.Goals as goal

pub returns-clause-given : goal.returns-clause-given
returns-clause-given c = set_nearest

pub returns-clause-refused : goal.returns-clause-refused
returns-clause-refused c = set_refuses_none

pub returns-clause-settings : goal.returns-clause-settings
returns-clause-settings c = λ kind order settings forced e. force_nearest settings (defaults kind order) forced e
