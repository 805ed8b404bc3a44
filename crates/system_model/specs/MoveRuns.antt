-- Runs: moves of jobs one after another, and what all steps of a history show of a device.
use Rattle.std.specs.Prelude.{ℕ, zero, ◌+◌, ◌<◌, ◌≤◌, suc, List, [], ◌∷◌, ◌++◌, length, if◌then◌else◌, ◌==◌}
use Rattle.system_model.specs.SystemStates.{SystemState}
use Rattle.system_model.specs.Transitions.{Transition, By, Loads, Unplugs, Uses, IsUnderWay, IsHistory}
use Rattle.system_model.specs.Transitions.{after_transition, after_all}
use Rattle.system_model.specs.Invariants.{Invariant}
use Rattle.system_model.specs.Marks.{Mark, MarksLead, device_view}
use Rattle.system_model.specs.StepMarks.{marks, touched_device}
use Rattle.system_model.specs.Moves.{IsMove}
use Rattle.system_model.specs.Variant.{job_variant}

-- **round robin (`AreMoves`, `RunsToTheEnd`)**: moves of the first n jobs one after another, to where none of them is
-- under way.
abbrev pub AreMoves : ℕ → SystemState → List Transition → Type 0
AreMoves n s [] = Unit {0}
AreMoves n s (By i x ∷ xs) = (i < n) × IsUnderWay (s.job i).client.stage × IsMove (s.job i) x
    × AreMoves n (after_transition s (By i x)) xs
AreMoves n s (Loads d page ∷ xs) = ⊥
AreMoves n s (Unplugs d ∷ xs) = ⊥
AreMoves n s (Uses i d shown left ∷ xs) = ⊥

-- f 0 and so on up to f (n - 1), together
abbrev pub sum_to : ℕ → (ℕ → ℕ) → ℕ
sum_to zero f = 0
sum_to (suc n) f = f n + sum_to n f

-- none of the first n jobs is under way
abbrev pub AreOver : ℕ → SystemState → Type 0
AreOver n s = (i : ℕ) → i < n → IsUnderWay (s.job i).client.stage → ⊥

-- However moves are taken in turn, there are no more of them than the numbers of the jobs together,
abbrev pub RunsAreBounded : Type 0
RunsAreBounded = (n : ℕ) (s : SystemState) (xs : List Transition) → Invariant s → IsHistory s xs → AreMoves n s xs
    → length xs + sum_to n (job_variant (after_all s xs)) ≤ sum_to n (job_variant s)

-- and while a job is under way there is a further one: so the round robin ends with every job over.
abbrev pub RunsGoOn : Type 0
RunsGoOn = (n i : ℕ) (s : SystemState) → Invariant s → i < n → IsUnderWay (s.job i).client.stage
    → (x : Transition) × IsHistory s (x ∷ []) × AreMoves n s (x ∷ [])

pub record RunsToTheEnd (n : ℕ) (s : SystemState) (xs : List Transition) : Type 0 where
  pub is_history : IsHistory s xs
  pub are_moves : AreMoves n s xs
  pub are_over : AreOver n (after_all s xs)

abbrev pub RunsEnd : Type 0
RunsEnd = (n : ℕ) (s : SystemState) → Invariant s → (xs : List Transition) × RunsToTheEnd n s xs

-- what a step shows of device d, and what all steps show of it
abbrev pub marks_at : ℕ → SystemState → Transition → List Mark
marks_at d s x = if d == touched_device s x then marks s x else []

-- **marks of a history (`all_marks`), of a delivery (`delivery_marks`)**: those of its steps, one after another; those
-- of the requests that become whole when so many more bytes have come.
abbrev pub all_marks : ℕ → SystemState → List Transition → List Mark
all_marks d s [] = []
all_marks d s (x ∷ xs) = marks_at d s x ++ all_marks d (after_transition s x) xs

-- The marks of every history are enabled at each device, one after another, and lead to where it stands then.
abbrev pub HistoryMarksAreEnabled : Type 0
HistoryMarksAreEnabled =
    (d : ℕ) (s : SystemState) (xs : List Transition) → Invariant s → IsHistory s xs
    → MarksLead (device_view (s.make d) (s.device d)) (all_marks d s xs)
    (device_view (s.make d) ((after_all s xs).device d))
