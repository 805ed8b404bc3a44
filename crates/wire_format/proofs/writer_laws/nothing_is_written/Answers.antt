use Rattle.wire_format.proofs.Writers.{nothing-writes}
use Rattle.wire_format.proofs.writer_laws.nothing_is_written.Goals as goal

pub returns : goal.returns
returns g c = nothing-writes
