use Rattle.wire_format.proofs.Combining.{refused-reads}
use Rattle.wire_format.proofs.laws.what_is_refused_reads.Goals as goal

pub returns : goal.returns
returns g c = refused-reads c.args.fault
