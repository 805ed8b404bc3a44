use Rattle.wire_format.proofs.Writers.{none-writes}
use Rattle.wire_format.proofs.writer_laws.what_is_refused_is_not_written.Goals as goal

pub returns : goal.returns
returns g c = none-writes c.args.fault
