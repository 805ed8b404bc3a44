use Rattle.wire_format.proofs.Combining.{one_fault}
use Rattle.wire_format.proofs.laws.one_fault_stands_first.Goals as goal

pub returns : goal.returns
returns g c = one_fault g.A.Readable.format g.A.Readable.reads
