use Rattle.std.proofs.Common.{refl, sym, ◌∙◌, ◌≡◌, false, inl, inr, subst, take}
use Rattle.std.specs.Prelude.{Any}
use Rattle.std.proofs.lemmas.Bool.{both_ways}
use Rattle.std.proofs.lemmas.List.{take_all}
use Rattle.md5_auth.specs.Allowed.{GivesAnswer}
use Rattle.md5_auth.proofs.MarkLemmas.{no_challenge, is_challenge_found}
use Rattle.md5_auth.proofs.AllowedLemmas.{given_none, given_more, given_before, given_here, sent_from_given, given_from_sent}
use Rattle.md5_auth.proofs.authorization.check.Goals as goal
use Rattle.md5_auth.proofs.authorization.check.Goals.{then-gives_answer, else-gives_answer}

pub returns-in_default : goal.returns-in_default
returns-in_default c = (λ e. absurd (both_ways false refl e), λ s. absurd (no_challenge _ c.in_default.ensures s.0 s.2))

pub loop-entry-init : goal.loop-entry-init
loop-entry-init c = (λ e. absurd (both_ways false refl e), λ h. absurd (given_none _ c.entries-entry-items.result.now h))

pub loop-entry-preserved : goal.loop-entry-preserved
loop-entry-preserved c =
    let P = GivesAnswer c.args.user.now c.args.backend.now c.in-Some.challenge.now c.args.answer.now in
    let users = c.entries-entry-items.result.now in
    let i = c.loop-entry.entry-index in
    let entry = c.entry-item.result in
    let in_range = c.loop-entry-test.true in
    elim c.if-gives_answer.branch [
      | then-gives_answer w ↦ (λ _. given_here P users i entry in_range c.entry-item.is (c.gives_answer.ensures.0 w.if-gives_answer.true), λ _. w.allowed-is)
      | else-gives_answer w ↦ (
        λ e. given_before P users i in_range (c.loop-entry.invariant.0 (sym w.allowed-is ∙ e)),
        λ h. w.allowed-is ∙ c.loop-entry.invariant.1 (elim (given_more P users i entry in_range c.entry-item.is h) [
          | inl before ↦ before
          | inr here ↦ absurd (both_ways _ w.if-gives_answer.false (c.gives_answer.ensures.1 here))
        ]),
      )
    ]

pub returns : goal.returns
returns c =
    let P = GivesAnswer c.args.user.now c.args.backend.now c.in-Some.challenge.now c.args.answer.now in
    let found = is_challenge_found c.args.resource.now c.in-Some.challenge.now (sym c.in-Some.ensures) in
    let all : take c.loop-entry.entry-index c.entries-entry-items.result.now ≡ c.args.users.now = take_all _ _ c.loop-entry-test.false ∙ c.entries-entry-items.ensures in (
      λ e. sent_from_given _ _ _ _ _ _ found (subst (Any P) all (c.loop-entry.invariant.0 e)),
      λ s. c.loop-entry.invariant.1 (subst (Any P) (sym all) (given_from_sent _ _ _ _ _ _ found s)),
    )
