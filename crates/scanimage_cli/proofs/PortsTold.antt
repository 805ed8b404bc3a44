-- The ports that a journal tells of the links that it used.
use Rattle.std.proofs.Common.{ℕ, ◌≡◌, ◌∙◌, List, [], ◌∷◌, Option, Some, None, ap, refl}
use Rattle.std.specs.Io.KnownBytes.{prepend_known}
use Rattle.net_jobs.specs.JobJournal.{JobMove, Writes, Fails, Hears, Resumes, Prepares, Dials, Takes, Gives, Loses, dialled_by}
use Rattle.net_jobs.specs.Links.{Calls, LinkViews, with_port}

none_in_front : (ports : Option (List ℕ)) → ports ≡ prepend_known [] ports
none_in_front None = refl
none_in_front (Some all) = refl

one_in_front : (port : ℕ) (dialled : List ℕ) (ports : Option (List ℕ)) → with_port port (prepend_known dialled ports) ≡ prepend_known (port ∷ dialled) ports
one_in_front port dialled None = refl
one_in_front port dialled (Some all) = refl

-- all ports that were dialled stand in front of those that were told before
pub asked_now : {L : Type 0} (views : LinkViews L) (first : L) (moves : List JobMove) (now : L) → Calls views first moves now → (views.ports now).asked ≡ prepend_known (dialled_by moves) (views.ports first).asked
asked_now views first [] now is = ap (λ l. (views.ports l).asked) is ∙ none_in_front (views.ports first).asked
asked_now views first (Writes bytes ∷ moves) now (was, before, called) = ap (λ p. p.asked) called.1 ∙ asked_now views first moves was before
asked_now views first (Fails bytes ∷ moves) now (was, before, called) = ap (λ p. p.asked) called.1 ∙ asked_now views first moves was before
asked_now views first (Hears piece ∷ moves) now (was, before, called) = ap (λ p. p.asked) called.1 ∙ asked_now views first moves was before
asked_now views first (Loses link reason ∷ moves) now (was, before, called) = ap (λ p. p.asked) called.1 ∙ asked_now views first moves was before
asked_now views first (Prepares port ∷ moves) now (was, before, called) = called.2 ∙ asked_now views first moves was before
asked_now views first (Dials port made ∷ moves) now (was, before, called) = ap (λ p. p.asked) called.2 ∙ ap (with_port port) (asked_now views first moves was before) ∙ one_in_front port (dialled_by moves) (views.ports first).asked
asked_now views first (Resumes ∷ moves) now (was, before, called) = ap (λ l. (views.ports l).asked) called ∙ asked_now views first moves was before
asked_now views first (Takes piece ∷ moves) now (was, before, called) = ap (λ l. (views.ports l).asked) called ∙ asked_now views first moves was before
asked_now views first (Gives bytes ∷ moves) now (was, before, called) = ap (λ l. (views.ports l).asked) called ∙ asked_now views first moves was before
