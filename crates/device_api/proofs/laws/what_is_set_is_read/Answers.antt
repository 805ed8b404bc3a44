use Rattle.device_api.proofs.BackLaws.{set_read}
use Rattle.device_api.proofs.laws.what_is_set_is_read.Goals as goal

pub returns : goal.returns
returns c = λ s n asked given info e. set_read s n asked given info e
