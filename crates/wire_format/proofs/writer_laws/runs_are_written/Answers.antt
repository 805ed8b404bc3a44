use Rattle.wire_format.proofs.Writers.{run-writes}
use Rattle.wire_format.proofs.writer_laws.runs_are_written.Goals as goal

pub returns : goal.returns
returns c = run-writes c.args.least c.args.count
