use Rattle.system_model.proofs.VariantSteps.{numbers_bounded}
use Rattle.system_model.proofs.the_variant_is_bounded.Goals as goal

pub returns : goal.returns
returns c = numbers_bounded
