-- Words and places, once one of them has changed.
use Rattle.std.proofs.Common.{◌≡◌, ◌≢◌, ◌∙◌, ℕ, zero, suc, List, [], ◌∷◌, Option, Some, None, refl, sym, ap, slice_get, length}
use Rattle.device_api.specs.State.{DeviceState}
use Rattle.dispatch.specs.declared.table.place.Slot.{Slot}
use Rattle.dispatch.specs.declared.table.place.Place.{Place}
use Rattle.dispatch.specs.declared.table.place.Lease.{Lease}
use Rattle.dispatch.specs.Table.{Table, with_slot}
use Rattle.saned_requests.specs.Holding.{held_by, on_word}

pub on_same : {S : Type 0} (f : Option (Lease S) → Option (Lease S)) (held : List (Option (Lease S))) (w : ℕ) (l : Lease S) → held_by held w ≡ Some l → held_by (on_word f held w) w ≡ f (Some l)
unfolding held_by on_word
on_same f [] w l e = absurd (let clash : None ≡ Some l = e in cc)
on_same f (h ∷ held) zero l e = ap f e
on_same f (h ∷ held) (suc w) l e = on_same f held w l e

pub on_other : {S : Type 0} (f : Option (Lease S) → Option (Lease S)) (held : List (Option (Lease S))) (w v : ℕ) → v ≢ w → held_by (on_word f held w) v ≡ held_by held v
unfolding held_by on_word
on_other f [] w v n = refl
on_other f (h ∷ held) zero zero n = absurd (n refl)
on_other f (h ∷ held) zero (suc v) n = refl
on_other f (h ∷ held) (suc w) zero n = refl
on_other f (h ∷ held) (suc w) (suc v) n = on_other f held w v (λ e. n (ap suc e))

pub on_length : {S : Type 0} (f : Option (Lease S) → Option (Lease S)) (held : List (Option (Lease S))) (w : ℕ) → length (on_word f held w) ≡ length held
unfolding on_word
on_length f [] w = refl
on_length f (h ∷ held) zero = refl
on_length f (h ∷ held) (suc w) = ap suc (on_length f held w)

-- nothing is cancelled where nothing stands
pub on_nothing : {S : Type 0} (f : Option (Lease S) → Option (Lease S)) (held : List (Option (Lease S))) (w : ℕ) → f None ≡ None → held_by held w ≡ None → on_word f held w ≡ held
unfolding held_by on_word
on_nothing f [] w n e = refl
on_nothing f (h ∷ held) zero n e = ap (λ (x : Option (Lease _)). x ∷ held) (ap f e ∙ n ∙ sym e)
on_nothing f (h ∷ held) (suc w) n e = ap (λ (x : List (Option (Lease _))). h ∷ x) (on_nothing f held w n e)

-- a slot is written
abbrev pub with_new : Place DeviceState → Slot DeviceState → Place DeviceState
with_new p slot = record p { slot = slot }

place_is : (p q : Place DeviceState) (new : Slot DeviceState) → Some p ≡ Some q → with_new p new ≡ with_new q new
place_is p q new e = let same : p ≡ q = cc in ap (λ (x : Place DeviceState). with_new x new) same

pub put_same : (t : Table) (k : ℕ) (p : Place DeviceState) (new : Slot DeviceState) → slice_get t k ≡ Some p → slice_get (with_slot t k new) k ≡ Some (with_new p new)
unfolding with_slot
put_same [] k p new e = absurd (let clash : None ≡ Some p = e in cc)
put_same (q ∷ t) zero p new e = ap (λ (x : Place DeviceState). Some x) (place_is q p new e)
put_same (q ∷ t) (suc k) p new e = put_same t k p new e

pub put_other : (t : Table) (k j : ℕ) (new : Slot DeviceState) → j ≢ k → slice_get (with_slot t k new) j ≡ slice_get t j
unfolding with_slot
put_other [] k j new n = refl
put_other (p ∷ t) zero zero new n = absurd (n refl)
put_other (p ∷ t) zero (suc j) new n = refl
put_other (p ∷ t) (suc k) zero new n = refl
put_other (p ∷ t) (suc k) (suc j) new n = put_other t k j new (λ e. n (ap suc e))
