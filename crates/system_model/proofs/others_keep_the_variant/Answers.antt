use Rattle.system_model.proofs.VariantSteps.{others_raise_none}
use Rattle.system_model.proofs.others_keep_the_variant.Goals as goal

pub returns : goal.returns
returns c = others_raise_none
