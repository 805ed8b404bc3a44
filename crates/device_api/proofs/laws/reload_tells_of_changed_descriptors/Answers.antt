use Rattle.device_api.proofs.TableLaws.{reload_tells}
use Rattle.device_api.proofs.laws.reload_tells_of_changed_descriptors.Goals as goal

pub returns : goal.returns
returns c = λ s t k. reload_tells s t k
