use Rattle.device_api.specs.Values.{defaults}
use Rattle.device_api.proofs.AllowedLaws.{defaults_allowed}
use Rattle.device_api.proofs.ForceLaws.{force_allowed}
use Rattle.device_api.proofs.laws.settings_in_force_are_allowed.Goals as goal

pub returns : goal.returns
returns c = λ kind order settings forced e. force_allowed settings (defaults kind order) forced e (defaults_allowed kind order)
