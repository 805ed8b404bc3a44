-- Sources that fail in the steps of an event.
use Rattle.std.specs.List.{AllByRecursion}
use Rattle.std.proofs.Common.{◌⊎◌, inl, inr, ℕ, Bool, true, false, List, [], ◌∷◌, ◌++◌, Some, sym, subst}
use Rattle.saned_core.specs.DaemonStates.{Core}
use Rattle.system_model.specs.Actions.{Answers, Breaks, TurnsFault}
use Rattle.system_model.specs.SystemStates.{SystemState}
use Rattle.system_model.specs.Transitions.{By, Transition, after_all, after_transition}
use Rattle.event_world.specs.declared.event.JobEvent.{JobEvent as Event}
use Rattle.event_world.specs.Worlds.{WorldCore}
use Rattle.world_refines.specs.GhostStates.{Ghost}
use Rattle.world_refines.specs.GhostEvents.{GhostHappens, GhostLeads}
use Rattle.world_refines.specs.FailedSources.{AllAlong, FailsIn, FailsSo}
use Rattle.world_refines.proofs.state.Taking.{DecidesAt, DecidesIn}

-- ---- along the steps

pub along_then : (P : SystemState → Transition → Type 0) (s : SystemState) (xs ys : List Transition) → AllAlong P s xs → AllAlong P (after_all s xs) ys → AllAlong P s (xs ++ ys)
along_then P s [] ys a b = b
along_then P s (x ∷ xs) ys a b = (a.0, along_then P (after_transition s x) xs ys a.1 b)

pub along_each : (P Q : SystemState → Transition → Type 0) → ((s : SystemState) (x : Transition) → P s x → Q s x) → (s : SystemState) (xs : List Transition) → AllAlong P s xs → AllAlong Q s xs
along_each P Q all s [] a = tt
along_each P Q all s (x ∷ xs) a = (all s x a.0, along_each P Q all (after_transition s x) xs a.1)

pub fails_more : (F G : Bool → ℕ → Type 0) → ((b : Bool) (i : ℕ) → F b i → G b i) → (s : SystemState) (x : Transition) → FailsSo F s x → FailsSo G s x
fails_more F G more s (By i (Answers challenge (Some fault))) h = λ under. more true i (h under)
fails_more F G more s (By i (TurnsFault fault)) h = more true i h
fails_more F G more s (By i (Breaks false)) h = λ under. more false i (h under)
fails_more F G more s x h = tt

-- ---- in which none fails

abbrev pub IsQuiet : Transition → Type 0
IsQuiet (By i (Answers challenge fault)) = ⊥
IsQuiet (By i (TurnsFault fault)) = ⊥
IsQuiet (By i (Breaks memory)) = ⊥
IsQuiet x = Unit {0}

quiet_fails : (F : Bool → ℕ → Type 0) (s : SystemState) (x : Transition) → IsQuiet x → FailsSo F s x
quiet_fails F s (By i (Answers challenge fault)) q = absurd q
quiet_fails F s (By i (TurnsFault fault)) q = absurd q
quiet_fails F s (By i (Breaks memory)) q = absurd q
quiet_fails F s x q = tt

pub quiet_all : (F : Bool → ℕ → Type 0) (s : SystemState) (xs : List Transition) → AllByRecursion IsQuiet xs → AllAlong (FailsSo F) s xs
quiet_all F s [] q = tt
quiet_all F s (x ∷ xs) q = (quiet_fails F s x q.0, quiet_all F (after_transition s x) xs q.1)

-- where it can happen, and where it cannot
pub along_happens : (P : SystemState → Transition → Type 0) (May What : Type 0) (t : Ghost) (steps : List Transition) (u : Ghost) → (What → AllAlong P t.system steps) → GhostHappens May What t steps u → AllAlong P t.system steps
along_happens P May What t steps u does h = by_either h.either
  where
    by_either : May ⊎ (May → ⊥) → AllAlong P t.system steps
    by_either (inl may) = does (h.does may)
    by_either (inr never) = subst (λ (xs : List Transition). AllAlong P t.system xs) (sym (h.cannot never).0) tt

-- ---- what an event does, and that each source that fails in it has counted that

abbrev pub Counting : (Ghost → ℕ → List Transition → Ghost → Type 0) → WorldCore → Core → Ghost → ℕ → List Transition → Ghost → Type 0
Counting Does w core t i steps u = Does t i steps u × AllAlong (FailsIn t w core) t.system steps

abbrev pub plain_leads : (action : Event) (Does : Ghost → ℕ → List Transition → Ghost → Type 0) (w : WorldCore) (core : Core) (t : Ghost) (i : ℕ) (v : WorldCore) → GhostLeads action (Counting Does w core) t i v → GhostLeads action Does t i v
plain_leads action Does w core t i v l =
    record { steps = l.steps; ghost_then = l.ghost_then; happens = record { either = l.happens.either; does = λ can. (l.happens.does can).0; cannot = l.happens.cannot }; stands = l.stands }

pub plain_decides : (action : Event) (Does : Ghost → ℕ → List Transition → Ghost → Type 0) → DecidesIn action (Counting Does) → DecidesAt action Does
plain_decides action Does all t w i p h at low =
    let d = all t w i p h at low in
    record { can = d.can; back = d.back; either = d.either; does = λ can e q does. plain_leads action Does w e t i _ (d.does can e q does) }
