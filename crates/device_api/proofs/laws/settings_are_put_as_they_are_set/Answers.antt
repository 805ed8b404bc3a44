use Rattle.device_api.proofs.TableLaws.{set_places}
use Rattle.device_api.proofs.laws.settings_are_put_as_they_are_set.Goals as goal

pub returns : goal.returns
returns c = λ s name text n desc asked e f r. set_places s name text n desc asked e f r
