-- Steps of a job are paid by its moves, and change no other's.
use Rattle.std.proofs.Common.{◌≡◌, ◌≢◌, ◌⊎◌, inl, inr, ◌∙◌, ℕ, ◌+◌, ◌≤◌, List, [], ◌∷◌, refl, sym, ap, subst, arith}
use Rattle.frame_join.specs.FrameHistory.{JoinHistory}
use Rattle.system_model.specs.Client.{Done, Ended, Idle, ClientView, Running, JobStage}
use Rattle.system_model.specs.Actions.{Action}
use Rattle.system_model.specs.Variant.{control_variant, action_cost}
use Rattle.system_model.specs.Invariants.{Invariant}
use Rattle.system_model.specs.SystemStates.{JobState, SystemState}
use Rattle.system_model.specs.Transitions.{By, IsHistory, IsEnabled, IsUnderWay, Transition, after_transition, after_all}
use Rattle.system_model.proofs.VariantSteps.{others_raise_none, steps_paid}
use Rattle.system_model.proofs.Over.{outcomes_last}
use Rattle.system_model.proofs.InvariantAfter.{sound_after}
use Rattle.daemon_refines.proofs.Moved.{put_there}
use Rattle.world_refines.specs.GhostStates.{Ghost, Wires, job_state, ghost_after, wires}
use Rattle.world_refines.specs.Costs.{cost, counted_at, bytes_undelivered}
use Rattle.world_refines.specs.DataDeliveries.{by_all}
use Rattle.world_refines.proofs.frames.SeenSteps.{change_all}

-- ---- the model's steps

abbrev pub prices : List Action → ℕ
prices [] = 0
prices (x ∷ xs) = action_cost x + prices xs

under_or : (st : JobStage) → IsUnderWay st ⊎ (IsUnderWay st → ⊥)
under_or Idle = inl tt
under_or (Running g) = inl tt
under_or Done = inr (λ u. u)
under_or (Ended status why) = inr (λ u. u)

was_under : (s : SystemState) (i : ℕ) (x : Action) → IsEnabled s (By i x) → IsUnderWay ((after_transition s (By i x)).job i).client.stage → IsUnderWay (s.job i).client.stage
was_under s i x l u = by_or (under_or (s.job i).client.stage)
  where
    by_or : IsUnderWay (s.job i).client.stage ⊎ (IsUnderWay (s.job i).client.stage → ⊥) → IsUnderWay (s.job i).client.stage
    by_or (inl is) = is
    by_or (inr over) = subst (λ (m : ClientView). IsUnderWay m.stage) (outcomes_last s i x l over) u

-- a job that is under way behind them was so before
pub was_all : (s : SystemState) (i : ℕ) (xs : List Action) → IsHistory s (by_all i xs) → IsUnderWay ((after_all s (by_all i xs)).job i).client.stage → IsUnderWay (s.job i).client.stage
was_all s i [] l u = u
was_all s i (x ∷ xs) l u = was_under s i x l.0 (was_all (after_transition s (By i x)) i xs l.1 u)

paid_all : (s : SystemState) (i : ℕ) (xs : List Action) → Invariant s → IsHistory s (by_all i xs) → IsUnderWay ((after_all s (by_all i xs)).job i).client.stage → control_variant (after_all s (by_all i xs)) i + prices xs ≤ control_variant s i
paid_all s i [] h l u = omega arith
paid_all s i (x ∷ xs) h l u =
    let next = after_transition s (By i x) in
    let one : control_variant next i + action_cost x ≤ control_variant s i = steps_paid s i x h (was_under s i x l.0 (was_all next i xs l.1 u)) l.0 in
    let more : control_variant (after_all next (by_all i xs)) i + prices xs ≤ control_variant next i = paid_all next i xs (sound_after s (By i x) h l.0) l.1 u in
    by_sum (control_variant (after_all next (by_all i xs)) i) (control_variant next i) (control_variant s i) (action_cost x) (prices xs) one more
  where
    by_sum : (a b c m n : ℕ) → b + m ≤ c → a + n ≤ b → a + (m + n) ≤ c
    by_sum a b c m n one more = omega (arith, one, more)

other_moves : (s : SystemState) (i j : ℕ) (xs : List Action) → Invariant s → IsHistory s (by_all i xs) → j ≢ i → control_variant (after_all s (by_all i xs)) j ≡ control_variant s j
other_moves s i j [] h l n = refl
other_moves s i j (x ∷ xs) h l n = other_moves (after_transition s (By i x)) i j xs (sound_after s (By i x) h l.0) l.1 n ∙ (others_raise_none s j (By i x) h l.0 n).1

-- ---- what an event does to its job

-- It takes these steps. Where the job is under way behind them, they and the delivery of one byte more were paid before.
pub record Own (t : Ghost) (i : ℕ) (steps : List Transition) (u : Ghost) : Type 0 where
  pub come : List Action
  pub steps_are : steps ≡ by_all i come
  pub legal : IsHistory t.system (by_all i come)
  pub bytes : Wires
  pub history : JoinHistory
  pub pages : List JoinHistory
  pub then_is : u ≡ ghost_after t i (by_all i come) bytes history pages
  pub less : IsUnderWay ((after_all t.system (by_all i come)).job i).client.stage → bytes_undelivered bytes + 1 ≤ counted_at (job_state t i).client.stage (wires t i) + prices come

counted_most : (st : JobStage) (x : Wires) → counted_at st x ≤ bytes_undelivered x
counted_most Idle x = omega arith
counted_most (Running g) x = omega arith
counted_most Done x = omega arith
counted_most (Ended status why) x = omega arith

pub counted_all : (st : JobStage) (x : Wires) → (st ≡ Idle → ⊥) → counted_at st x ≡ bytes_undelivered x
counted_all Idle x n = absurd (n refl)
counted_all (Running g) x n = refl
counted_all Done x n = refl
counted_all (Ended status why) x n = refl

abbrev now_under : Ghost → ℕ → Type 0
now_under u i = IsUnderWay (job_state u i).client.stage

pub was_own : (t u : Ghost) (i : ℕ) (steps : List Transition) → (o : Own t i steps u) → now_under u i → now_under t i
was_own t u i steps o under = was_all t.system i o.come o.legal (subst (λ (x : Ghost). now_under x i) o.then_is under)

-- its cost falls
pub own_falls : (t u : Ghost) (i : ℕ) (steps : List Transition) → Invariant t.system → Own t i steps u → now_under u i → cost u i + 1 ≤ cost t i
own_falls t u i steps h o under =
    let v = ghost_after t i (by_all i o.come) o.bytes o.history o.pages in
    let then : now_under v i = subst (λ (x : Ghost). now_under x i) o.then_is under in
    let paid : control_variant v.system i + prices o.come ≤ control_variant t.system i = paid_all t.system i o.come h o.legal then in
    let most : counted_at (job_state v i).client.stage (wires v i) ≤ bytes_undelivered o.bytes =
    subst (λ (x : Wires). counted_at (job_state v i).client.stage x ≤ bytes_undelivered o.bytes) (sym (put_there t.wires i o.bytes)) (counted_most (job_state v i).client.stage o.bytes) in
    subst (λ (x : Ghost). cost x i + 1 ≤ cost t i) (sym o.then_is)
    (by_sum (control_variant v.system i) (control_variant t.system i) (counted_at (job_state v i).client.stage (wires v i)) (bytes_undelivered o.bytes) (counted_at (job_state t i).client.stage (wires t i)) (prices o.come) paid most (o.less then))
  where
    by_sum : (a b c d e n : ℕ) → a + n ≤ b → c ≤ d → d + 1 ≤ e + n → (a + c) + 1 ≤ b + e
    by_sum a b c d e n paid most less = omega (arith, paid, most, less)

-- another's stays as it is
pub other_party : (t u : Ghost) (i j : ℕ) (steps : List Transition) → Own t i steps u → j ≢ i → job_state u j ≡ job_state t j
other_party t u i j steps o n = ap (λ (x : Ghost). job_state x j) o.then_is ∙ (change_all t i o.come o.bytes o.history o.pages).job j n

pub other_cost : (t u : Ghost) (i j : ℕ) (steps : List Transition) → Invariant t.system → Own t i steps u → j ≢ i → cost u j ≡ cost t j
other_cost t u i j steps h o n =
    let v = ghost_after t i (by_all i o.come) o.bytes o.history o.pages in
    let change = change_all t i o.come o.bytes o.history o.pages in
    ap (λ (x : Ghost). cost x j) o.then_is
    ∙ (ap (λ (m : ℕ). m + counted_at (job_state v j).client.stage (wires v j)) (other_moves t.system i j o.come h o.legal n)
    ∙ (ap (λ (p : JobState). control_variant t.system j + counted_at p.client.stage (wires v j)) (change.job j n) ∙ ap (λ (x : Wires). control_variant t.system j + counted_at (job_state t j).client.stage x) (change.wires j n)))
