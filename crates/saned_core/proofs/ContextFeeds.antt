-- A daemon of which two fields change.
use Rattle.std.proofs.Common.{◌≡◌, List, [], ◌∷◌, Bool, true, false, not, ◌||◌, Option, Some, None, refl, ap, ◌∙◌}
use Rattle.device_api.specs.State.{DeviceState}
use Rattle.dispatch.specs.Table.{Table}
use Rattle.saned_core.specs.DaemonStates.{Core, all_slots_taken, with_session_slot}
use Rattle.saned_core.specs.declared.session_slot.SessionSlot.{SessionSlot}

pub hall_is : (d : Core) (s slots : List (Option (SessionSlot DeviceState))) (r registry : Table) → s ≡ slots → r ≡ registry → ◌≡◌ {A = Core} (record d { slots = s; registry = r }) (record d { slots = slots; registry = registry })
hall_is d s slots r registry e h =
    let make : List (Option (SessionSlot DeviceState)) → Table → Core = λ x y. record d { slots = x; registry = y } in
    ap (λ x. make x r) e ∙ ap (make slots) h

pub full_same : (slots : List (Option (SessionSlot DeviceState))) (new : SessionSlot DeviceState) → all_slots_taken slots ≡ true → with_session_slot slots new ≡ slots
unfolding with_session_slot
full_same [] new e = refl
full_same (None ∷ slots) new e = absurd (cc)
full_same (Some slot ∷ slots) new e = ap (λ (xs : List (Option (SessionSlot DeviceState))). Some slot ∷ xs) (full_same slots new e)

pub not_false : (b : Bool) → false ≡ not b → b ≡ true
not_false true e = refl
not_false false e = absurd (cc)

pub or_right : (a b : Bool) → b ≡ true → (a || b) ≡ true
or_right true b e = refl
or_right false b e = e
