use Rattle.option_desc.proofs.PutLaws.{Puts-resolve, resolve-none}
use Rattle.option_desc.proofs.laws.what_is_computed_is_put.Goals as goal

pub returns : goal.returns
returns c = record { found = Puts-resolve; none = resolve-none }
