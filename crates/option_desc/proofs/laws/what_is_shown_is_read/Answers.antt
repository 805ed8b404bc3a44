use Rattle.option_desc.proofs.ShownLaws.{Reads-shown}
use Rattle.option_desc.proofs.laws.what_is_shown_is_read.Goals as goal

pub returns : goal.returns
returns c = Reads-shown
