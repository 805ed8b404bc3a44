use Rattle.option_desc.proofs.PutLaws.{NearestValue-unique}
use Rattle.option_desc.proofs.laws.at_most_one_is_put.Goals as goal

pub returns : goal.returns
returns c = NearestValue-unique
