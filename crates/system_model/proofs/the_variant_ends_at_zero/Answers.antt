use Rattle.system_model.proofs.VariantSteps.{numbers_end}
use Rattle.system_model.proofs.the_variant_ends_at_zero.Goals as goal

pub returns : goal.returns
returns c = numbers_end
