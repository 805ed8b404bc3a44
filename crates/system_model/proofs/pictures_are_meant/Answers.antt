use Rattle.system_model.proofs.Meaning.{pictures_meant}
use Rattle.system_model.proofs.pictures_are_meant.Goals as goal

pub returns : goal.returns
returns c = pictures_meant
