use Rattle.device_api.proofs.InfoLaws.{same_value-Decides}
use Rattle.device_api.proofs.laws.same_values_are_equal.Goals as goal

pub returns : goal.returns
returns c = λ a b. same_value-Decides a b
