use Rattle.wire_format.proofs.Combining.{one_value}
use Rattle.wire_format.proofs.laws.one_text_spells_one_value.Goals as goal

pub returns : goal.returns
returns g c = one_value g.A.Readable.format g.A.Readable.reads
