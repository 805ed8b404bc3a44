use Rattle.std.proofs.Common.{◌≡◌, ◌⊎◌, ℕ, List, rules, arith, subst}
use Rattle.std.proofs.lemmas.Grind.{common_steps}
use Rattle.saned_core.specs.declared.session_slot.Fed.{Fed}
use Rattle.saned_core.specs.declared.session_slot.Fed.TheVariants.{Standing, Over, Starved}
use Rattle.saned_core.specs.DaemonStates.{Core}
use Rattle.saned_core.specs.Feeding.{AnswersWhole, EndsWithin, FailsOutOfMemory, Feeds, HasNoSession, KeepsOtherSessions}
use Rattle.event_world.proofs.job_events.to_daemon.Goals as goal

-- the facts of a call of `feed`, of bytes that are these
fed_with : (n : ℕ) (d : Core) (piece bytes : List ℕ) (fed : Fed) (e : Core) → KeepsOtherSessions n d e → (fed ≡ Standing → AnswersWhole n d piece e) → (HasNoSession d n → (fed ≡ Over) × (e ≡ d))
    → (fed ≡ Over → HasNoSession d n ⊎ EndsWithin n d piece e) → (fed ≡ Starved → FailsOutOfMemory n d piece e) → piece ≡ bytes → Feeds n d bytes fed e
fed_with n d piece bytes fed e others standing idle over out_of_memory same =
    subst (λ (x : List ℕ). Feeds n d x fed e) same (record { idle = idle; standing = standing; over = over; out_of_memory = out_of_memory; others = others })

pub returns : goal.returns
returns g c = (
  c.feed-fed.result,
  fed_with _ _ _ _ _ _ c.feed-fed.ensures.others c.feed-fed.ensures.standing c.feed-fed.ensures.idle c.feed-fed.ensures.over c.feed-fed.ensures.out_of_memory (first_of (search rules, grind (arith, common_steps))),
  first_of (search rules, grind (arith, common_steps)),
)
