-- All leases of a session that go back, one after another.
use Rattle.std.proofs.Common.{◌≡◌, ◌≢◌, ℕ, zero, suc, List, [], ◌∷◌, Bool, true, false, cond, Option, Some, None, refl, ap, ◌∙◌, sym, arith, slice_get}
use Rattle.device_api.specs.State.{DeviceState, after_cancel}
use Rattle.dispatch.specs.declared.table.place.Place.{Place}
use Rattle.dispatch.specs.declared.table.place.Slot.{Slot}
use Rattle.dispatch.specs.declared.table.place.Slot.TheVariants.{In}
use Rattle.dispatch.specs.declared.table.place.Lease.{Lease}
use Rattle.dispatch.specs.Table.{Table, TableInvariant, IsLeaseOf, awaits, after_give_back, with_slot}
use Rattle.dispatch.proofs.Names.{sound_back, lease_in_again}
use Rattle.dispatch.proofs.Leases.{lasts_back}
use Rattle.saned_requests.specs.Holding.{held_by, with_lease_back, given_back}
use Rattle.saned_requests.specs.LeaseLaws.{HoldsWell, IsElsewhere, IsIn}
use Rattle.saned_requests.proofs.Keeping.{some_is}

-- ---- a slot of the table

other_slot : (t : Table) (j k : ℕ) (slot : Slot DeviceState) → k ≢ j → slice_get (with_slot t j slot) k ≡ slice_get t k
unfolding with_slot
other_slot [] j k slot n = refl
other_slot (p ∷ ps) zero zero slot n = absurd (n refl)
other_slot (p ∷ ps) zero (suc k) slot n = refl
other_slot (p ∷ ps) (suc j) zero slot n = refl
other_slot (p ∷ ps) (suc j) (suc k) slot n = other_slot ps j k slot (λ e. n (ap suc e))

own_slot : (t : Table) (k : ℕ) (p : Place DeviceState) (slot : Slot DeviceState) → slice_get t k ≡ Some p → slice_get (with_slot t k slot) k ≡ Some (record p { slot = slot })
unfolding with_slot
own_slot [] k p slot e = absurd (cc)
own_slot (q ∷ ps) zero p slot e = ap (λ (o : Option (Place DeviceState)). named o slot) e
  where
    named : Option (Place DeviceState) → Slot DeviceState → Option (Place DeviceState)
    named None s = None
    named (Some x) s = Some (record x { slot = s })
own_slot (q ∷ ps) (suc k) p slot e = own_slot ps k p slot e

back_slot : (t : Table) (m : Lease DeviceState) (k : ℕ) → k ≢ m.place → slice_get (after_give_back t m) k ≡ slice_get t k
unfolding after_give_back
back_slot t m k n = pick (awaits m.device.info.name m.place t)
  where
    pick : (b : Bool) → slice_get (cond b (with_slot t m.place (In (after_cancel m.device))) t) k ≡ slice_get t k
    pick true = other_slot t m.place k (In (after_cancel m.device)) n
    pick false = refl

-- ---- what is left of a session's leases behind the first

rest_well : (t : Table) (h : Option (Lease DeviceState)) (held : List (Option (Lease DeviceState))) → HoldsWell t (h ∷ held) → HoldsWell (with_lease_back t h) held
unfolding held_by
rest_well t None held w = record {
  sound = w.sound;
  leases = λ v m e. w.leases (suc v) m e;
  apart = λ v x m n e f d. w.apart (suc v) (suc x) m n e f (λ s. d (omega (arith, s)));
}
rest_well t (Some l) held w = record {
  sound = sound_back t l w.sound;
  leases = λ v m e. lasts_back t m l (w.leases (suc v) m e) (w.apart (suc v) zero m l e refl (λ s. absurd (omega (arith, s))));
  apart = λ v x m n e f d. w.apart (suc v) (suc x) m n e f (λ s. d (omega (arith, s)));
}

rest_elsewhere : (t : Table) (h : Option (Lease DeviceState)) (held : List (Option (Lease DeviceState))) (m : Lease DeviceState) → IsElsewhere m t (h ∷ held) → IsElsewhere m (with_lease_back t h) held
unfolding held_by
rest_elsewhere t None held m o = record { lease = o.lease; apart = λ w l e. o.apart (suc w) l e }
rest_elsewhere t (Some l) held m o = record { lease = lasts_back t m l o.lease (λ p. o.apart zero l refl (sym p)); apart = λ w n e. o.apart (suc w) n e }

-- ---- all of them

pub sound_all : (t : Table) (held : List (Option (Lease DeviceState))) → HoldsWell t held → TableInvariant (given_back t held)
sound_all t [] w = w.sound
sound_all t (h ∷ held) w = sound_all (with_lease_back t h) held (rest_well t h held w)

pub lasts_all : (t : Table) (held : List (Option (Lease DeviceState))) (m : Lease DeviceState) → HoldsWell t held → IsElsewhere m t held → IsLeaseOf m (given_back t held)
lasts_all t [] m w o = o.lease
lasts_all t (h ∷ held) m w o = lasts_all (with_lease_back t h) held m (rest_well t h held w) (rest_elsewhere t h held m o)

-- a place of none of them is left as it is
left_slot : (t : Table) (held : List (Option (Lease DeviceState))) (k : ℕ) → ((w : ℕ) (m : Lease DeviceState) → held_by held w ≡ Some m → k ≢ m.place) → slice_get (given_back t held) k ≡ slice_get t k
unfolding held_by
left_slot t [] k n = refl
left_slot t (None ∷ held) k n = left_slot t held k (λ w m e. n (suc w) m e)
left_slot t (Some m ∷ held) k n = left_slot (after_give_back t m) held k (λ w l e. n (suc w) l e) ∙ back_slot t m k (n zero m refl)

pub all_return : (t : Table) (held : List (Option (Lease DeviceState))) (w : ℕ) (l : Lease DeviceState) → HoldsWell t held → held_by held w ≡ Some l → IsIn (after_cancel l.device) l.place (given_back t held)
unfolding held_by
all_return t [] w l s e = absurd (cc)
all_return t (h ∷ held) (suc w) l s e = all_return (with_lease_back t h) held w l (rest_well t h held s) e
all_return t (None ∷ held) zero l s e = absurd (cc)
all_return t (Some m ∷ held) zero l s e =
    let same : m ≡ l = some_is m l e in
    let lease : IsLeaseOf l t = s.leases zero l e in
    let in_again : after_give_back t m ≡ with_slot t l.place (In (after_cancel l.device)) = ap (after_give_back t) same ∙ lease_in_again t l lease in
    let left : slice_get (given_back (after_give_back t m) held) l.place ≡ slice_get (after_give_back t m) l.place = left_slot (after_give_back t m) held l.place (λ w n f. s.apart zero (suc w) l n e f (λ z. absurd (omega (arith, z)))) in
    (record lease.place { slot = In (after_cancel l.device) }, left ∙ (ap (λ (u : Table). slice_get u l.place) in_again ∙ own_slot t l.place lease.place (In (after_cancel l.device)) lease.at), refl)
