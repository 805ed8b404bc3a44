use Rattle.wire_format.proofs.Writers.{after-writes}
use Rattle.wire_format.proofs.writer_laws.one_after_another_is_written.Goals as goal

pub returns : goal.returns
returns g c = λ b own. after-writes g.B.HasWritingBehind.part g.A.HasWriting.format g.B.HasWritingBehind.formats g.A.HasWriting.writer g.B.HasWritingBehind.writers b (g.A.HasWriting.exact (g.B.HasWritingBehind.part b)) (g.B.HasWritingBehind.exact b) own
