use Rattle.wire_format.proofs.Writers.{answers_spelling, answers_too_long, too_long_answers, answers_bad}
use Rattle.wire_format.proofs.writer_laws.what_is_written_is_spelled.Goals as goal

pub returns-clause-spelled : goal.returns-clause-spelled
returns-clause-spelled g c = λ a. answers_spelling g.A.HasWriting.format g.A.HasWriting.writer a (g.A.HasWriting.exact a)

pub returns-clause-too_long : goal.returns-clause-too_long
returns-clause-too_long g c = λ a. (answers_too_long g.A.HasWriting.writer a, too_long_answers g.A.HasWriting.writer a)

pub returns-clause-bad : goal.returns-clause-bad
returns-clause-bad g c = λ a. answers_bad g.A.HasWriting.format g.A.HasWriting.writer a (g.A.HasWriting.exact a)
