use Rattle.std.proofs.Common.{inl, inr}
use Rattle.md5_auth.proofs.AllowedLemmas.{line_from_sent, sent_from_line}
use Rattle.md5_auth.proofs.laws.an_answer_allows.Goals as goal

pub returns-clause-line : goal.returns-clause-line
returns-clause-line c = λ users user password backend resource answer is_answer.
    (line_from_sent users user password backend resource answer is_answer, sent_from_line users user password backend resource answer is_answer)

pub returns-clause-allowed : goal.returns-clause-allowed
returns-clause-allowed c = λ users user password backend resource answer is_answer named. (
  λ s. inr (line_from_sent users user password backend resource answer is_answer s),
  λ a. elim a [
    | inl unnamed ↦ absurd (unnamed named)
    | inr line ↦ sent_from_line users user password backend resource answer is_answer line
  ],
)
