use Rattle.wire_format.proofs.Combining.{no_prefix}
use Rattle.wire_format.proofs.laws.no_spelling_is_a_proper_prefix.Goals as goal

pub returns : goal.returns
returns g c = no_prefix g.A.Readable.format g.A.Readable.reads
