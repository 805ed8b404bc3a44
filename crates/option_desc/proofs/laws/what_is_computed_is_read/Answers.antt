use Rattle.option_desc.proofs.ReadLaws.{Reads-read, read-none, Reads-unique}
use Rattle.option_desc.proofs.laws.what_is_computed_is_read.Goals as goal

pub returns : goal.returns
returns c = record { found = Reads-read; none = read-none; at_most_one = Reads-unique }
