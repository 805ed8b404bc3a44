use Rattle.device_api.proofs.OtherLaws.{value_other}
use Rattle.device_api.proofs.laws.a_set_changes_one_option.Goals as goal

pub returns : goal.returns
returns c = λ s option other value apart. value_other s option other value apart
