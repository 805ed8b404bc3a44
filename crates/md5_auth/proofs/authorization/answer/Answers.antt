use Rattle.std.proofs.Common.{refl, sym, ◌∙◌}
use Rattle.std.proofs.lemmas.Result.{err_from_is_err_and}
use Rattle.md5_auth.proofs.MarkLemmas.{no_challenge, is_challenge_found, answer_of-none, answer_of-some}
use Rattle.md5_auth.proofs.DigestLemmas.{IsText-answer_text}
use Rattle.md5_auth.proofs.authorization.answer.Goals as goal

pub returns-in_default-clause-none : goal.returns-in_default-clause-none
returns-in_default-clause-none c = (λ _. no_challenge _ c.in_default.ensures, λ _. refl)

pub returns-in_default-clause-value : goal.returns-in_default-clause-value
returns-in_default-clause-value c = answer_of-none _ _ c.in_default.ensures

pub text_of-requires : goal.text_of-requires
text_of-requires c = rw c.answer_to.ensures (IsText-answer_text _)

pub returns-in_err-text_of-clause-none : goal.returns-in_err-text_of-clause-none
returns-in_err-text_of-clause-none c =
    let p = err_from_is_err_and c.from_residual.result c.from_residual.ensures.1 in
    let found = is_challenge_found _ c.in-Some.challenge.now (sym c.in-Some.ensures) in
    (λ e. absurd (cc), λ none. absurd (none _ found))

pub returns-clause-found : goal.returns-clause-found
returns-clause-found c = (c.in-Some.challenge.now, is_challenge_found _ _ (sym c.in-Some.ensures), c.in_ok-text_of.ensures ∙ c.answer_to.ensures)

pub returns-clause-none : goal.returns-clause-none
returns-clause-none c =
    let found = is_challenge_found _ c.in-Some.challenge.now (sym c.in-Some.ensures) in
    (λ e. absurd (cc), λ none. absurd (none _ found))

pub returns-clause-value : goal.returns-clause-value
returns-clause-value c = answer_of-some _ _ _ _ c.in-Some.ensures (c.in_ok-text_of.ensures ∙ c.answer_to.ensures)
