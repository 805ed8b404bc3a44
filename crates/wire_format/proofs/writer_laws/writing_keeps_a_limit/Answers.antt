use Rattle.wire_format.proofs.Writers.{limited-writes}
use Rattle.wire_format.proofs.writer_laws.writing_keeps_a_limit.Goals as goal

pub returns : goal.returns
returns g c = λ a. limited-writes c.args.limit g.A.HasWriting.format g.A.HasWriting.writer a (g.A.HasWriting.exact a)
