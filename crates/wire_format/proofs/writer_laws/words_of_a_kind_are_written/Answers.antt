use Rattle.wire_format.proofs.Writers.{word-writes}
use Rattle.wire_format.proofs.writer_laws.words_of_a_kind_are_written.Goals as goal

pub returns : goal.returns
returns g c = word-writes g.A.NumberedKind.kind g.A.NumberedKind.number g.A.NumberedKind.exact
