use Rattle.wire_format.proofs.Writers.{made-writes}
use Rattle.wire_format.proofs.writer_laws.what_is_made_of_another_is_written.Goals as goal

pub returns : goal.returns
returns g c = λ b own. made-writes g.B.MadeOf.part g.A.HasWriting.format g.B.MadeOf.make g.A.HasWriting.writer b (g.A.HasWriting.exact (g.B.MadeOf.part b)) own
