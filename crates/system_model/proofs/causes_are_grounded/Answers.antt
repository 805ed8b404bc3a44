use Rattle.system_model.proofs.Grounds.{causes_grounded}
use Rattle.system_model.proofs.causes_are_grounded.Goals as goal

pub returns : goal.returns
returns c = causes_grounded
