use Rattle.system_model.proofs.VariantSteps.{numbers_fall}
use Rattle.system_model.proofs.the_variant_decreases.Goals as goal

pub returns : goal.returns
returns c = numbers_fall
