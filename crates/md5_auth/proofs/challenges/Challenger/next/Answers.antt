use Rattle.std.proofs.Common.{◌∙◌, ◌≡◌}
use Rattle.std.proofs.lemmas.Result.{IfOk-weaker}
use Rattle.md5_auth.specs.Challenges.{challenge_at}
use Rattle.md5_auth.proofs.StreamLemmas.{IsText-digits_from, challenge_from}
use Rattle.md5_auth.proofs.challenges.Challenger.next.Goals as goal

pub text_of-text-requires : goal.text_of-text-requires
text_of-text-requires c = rw c.next_digits-digits.ensures.value (IsText-digits_from _ _ _ _)

pub returns-else-is_err-clause-text : goal.returns-else-is_err-clause-text
returns-else-is_err-clause-text c = λ seed k given.
    IfOk-weaker c.text_of-text.result _ (λ text. text ≡ challenge_at seed k)
    (λ text is. is ∙ c.next_digits-digits.ensures.value ∙ challenge_from seed k c.self.inside.words (c.self.view_is ∙ given)) c.text_of-text.ensures
