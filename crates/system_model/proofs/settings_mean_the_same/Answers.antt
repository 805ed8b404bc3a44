use Rattle.system_model.proofs.SameSettings.{settings_same}
use Rattle.system_model.proofs.settings_mean_the_same.Goals as goal

pub returns : goal.returns
returns c = settings_same
