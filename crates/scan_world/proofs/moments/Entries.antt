-- Entries of lists, and the job of a step.
use Rattle.std.specs.Prelude.{cond, length, slice_get, slice_set, ◌≤◌}
use Rattle.std.proofs.Common.{◌≡◌, ◌∙◌, ◌⊎◌, ℕ, zero, suc, arith, List, [], ◌∷◌, Bool, true, false, Option, Some, None, inl, inr, refl, sym, ap}
use Rattle.system_model.specs.AbstractDevices.{AbstractDevice}
use Rattle.system_model.specs.Actions.{Action, device_after, job_after_action}
use Rattle.system_model.specs.Client.{JobStage, Idle, Running, Done, Ended}
use Rattle.system_model.specs.Devices.{Make}
use Rattle.system_model.specs.Invariants.{StageInvariant}
use Rattle.system_model.specs.SystemStates.{JobState, SystemState, device_for, listed_devices, make_for, wanted_place}
use Rattle.system_model.specs.Transitions.{By, IsUnderWay, after_transition}
use Rattle.daemon_refines.proofs.Moved.{own}

pub unsome : {X : Type 0} (x y : X) → Some x ≡ Some y → x ≡ y
unsome x y e = cc

pub past_end : {X : Type 0} (xs : List X) (j : ℕ) → slice_get xs j ≡ None → length xs ≤ j
past_end [] j e = omega arith
past_end (x ∷ xs) zero e = absurd (let clash : Some x ≡ None = e in cc)
past_end (x ∷ xs) (suc j) e = omega (arith, past_end xs j e)

pub set_here : {X : Type 0} (xs : List X) (i : ℕ) (p q : X) → slice_get xs i ≡ Some p → slice_get (slice_set xs i q) i ≡ Some q
set_here [] i p q at = absurd (let clash : None ≡ Some p = at in cc)
set_here (x ∷ xs) zero p q at = refl
set_here (x ∷ xs) (suc i) p q at = set_here xs i p q at

-- another entry is as it was
pub set_get : {X : Type 0} (xs : List X) (j i : ℕ) (q : X) → (slice_get (slice_set xs j q) i ≡ slice_get xs i) ⊎ (j ≡ i)
set_get [] j i q = inl refl
set_get (x ∷ xs) zero zero q = inr refl
set_get (x ∷ xs) zero (suc i) q = inl refl
set_get (x ∷ xs) (suc j) zero q = inl refl
set_get (x ∷ xs) (suc j) (suc i) q = elim (set_get xs j i q) [
  | inl e ↦ inl e
  | inr e ↦ inr (ap suc e)
]

-- there is one, or there is none
pub end_at : {X : Type 0} (o : Option X) → (o ≡ None) ⊎ ((x : X) × (o ≡ Some x))
end_at None = inl refl
end_at (Some x) = inr (x, refl)

-- what an action makes of its own job
pub own_party : (s : SystemState) (i : ℕ) (x : Action) → (after_transition s (By i x)).job i ≡ job_after_action i (make_for s i) (listed_devices s) (s.job i) (device_for s i) x
own_party s i x = ap (λ (b : Bool). cond b (job_after_action i (make_for s i) (listed_devices s) (s.job i) (device_for s i) x) (s.job i)) (own i)

-- and of the device that it wants
pub own_device : (s : SystemState) (i : ℕ) (x : Action) → (after_transition s (By i x)).device (wanted_place s i) ≡ device_after i (make_for s i) (listed_devices s) (s.job i) (device_for s i) x
own_device s i x = ap (λ (b : Bool). cond b (device_after i (make_for s i) (listed_devices s) (s.job i) (device_for s i) x) (device_for s i)) (own (wanted_place s i))

pub linked_by : (i : ℕ) (k : Make) (p : JobState) (dev : AbstractDevice) (stage : JobStage) → StageInvariant i k p dev stage → IsUnderWay stage → p.served ≡ true → p.linked ≡ true
linked_by i k p dev Idle inv on served = absurd (let clash : true ≡ false = sym served ∙ inv.0 in cc)
linked_by i k p dev (Running g) (inl r) on served = r.linked
linked_by i k p dev (Running g) (inr (inl r)) on served = r.linked
linked_by i k p dev (Running g) (inr (inr r)) on served = r.linked
linked_by i k p dev Done inv on served = absurd on
linked_by i k p dev (Ended status why) inv on served = absurd on
