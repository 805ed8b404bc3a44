-- One word changes, and the place of its device.
use Rattle.std.proofs.Common.{◌≡◌, ◌≢◌, ◌∙◌, inl, inr, ℕ, List, Bool, true, false, Option, Some, None, refl, sym, ap, subst, eqb, eqb-true, slice_get}
use Rattle.std.proofs.lemmas.Bool.{eqb-false}
use Rattle.device_api.specs.State.{DeviceState}
use Rattle.dispatch.specs.declared.table.place.Slot.{Slot}
use Rattle.dispatch.specs.declared.table.place.Slot.TheVariants.{In, Out, Gone}
use Rattle.dispatch.specs.declared.table.place.Place.{Place}
use Rattle.dispatch.specs.declared.table.place.Lease.{Lease}
use Rattle.dispatch.specs.Table.{Table}
use Rattle.saned_requests.specs.Holding.{held_by}
use Rattle.system_model.specs.Devices.{Make}
use Rattle.system_model.specs.AbstractDevices.{AbstractDevice}
use Rattle.daemon_refines.specs.ContextRefinement.{HoldsPlace, SlotRefines, PlaceRefines, LeaseRefines, TableRefines}

abbrev pub Held : Type 0
Held = List (Option (Lease DeviceState))

-- word w becomes something else, and so does place p, which no other word stands for
pub record Changes (i : ℕ) (make : ℕ → Make) (held : Held) (registry : Table) (table : ℕ → AbstractDevice) (w p : ℕ) (new_held : Held) (new_registry : Table) (new_table : ℕ → AbstractDevice) : Type 0 where
  pub others : (v : ℕ) → v ≢ w → held_by new_held v ≡ held_by held v
  pub alone : (v : ℕ) (n : Lease DeviceState) → v ≢ w → held_by held v ≡ Some n → n.place ≢ p
  pub was : (n : Lease DeviceState) → held_by held w ≡ Some n → n.place ≡ p
  pub tables : (k : ℕ) → k ≢ p → new_table k ≡ table k
  pub slots : (k : ℕ) → k ≢ p → slice_get new_registry k ≡ slice_get registry k
  pub now : (m : Lease DeviceState) → held_by new_held w ≡ Some m → (m.place ≡ p) × LeaseRefines i make new_registry new_table m
  pub here : PlaceRefines i (make p) new_held p (new_table p) (slice_get new_registry p)

slot_shown : (i : ℕ) (make : Make) (held new_held : Held) (k : ℕ) (dev : AbstractDevice) (name : List ℕ) (slot : Slot DeviceState) → (HoldsPlace held k → HoldsPlace new_held k) → SlotRefines i make held k dev name slot → SlotRefines i make new_held k dev name slot
slot_shown i make held new_held k dev name Gone f h = h
slot_shown i make held new_held k dev name (In s) f h = h
slot_shown i make held new_held k dev name Out f (l, inl h) = (l, inl (f h))
slot_shown i make held new_held k dev name Out f (l, inr h) = (l, inr h)

pub place_shown : (i : ℕ) (make : Make) (held new_held : Held) (k : ℕ) (dev : AbstractDevice) (at : Option (Place DeviceState)) → (HoldsPlace held k → HoldsPlace new_held k) → PlaceRefines i make held k dev at → PlaceRefines i make new_held k dev at
place_shown i make held new_held k dev None f h = h
place_shown i make held new_held k dev (Some p) f h = slot_shown i make held new_held k dev p.info.name p.slot f h

-- what is shown of a place by what stands in it, and back
pub shown_by : (i : ℕ) (make : Make) (held : Held) (k : ℕ) (dev : AbstractDevice) (at : Option (Place DeviceState)) (p : Place DeviceState) (slot : Slot DeviceState) → at ≡ Some p → p.slot ≡ slot → PlaceRefines i make held k dev at → SlotRefines i make held k dev p.info.name slot
shown_by i make held k dev at p slot e f h =
    subst (λ (s : Slot DeviceState). SlotRefines i make held k dev p.info.name s) f (subst (λ (o : Option (Place DeviceState)). PlaceRefines i make held k dev o) e h)

pub shown_as : (i : ℕ) (make : Make) (held : Held) (k : ℕ) (dev : AbstractDevice) (at : Option (Place DeviceState)) (p : Place DeviceState) (slot : Slot DeviceState) → at ≡ Some p → p.slot ≡ slot → SlotRefines i make held k dev p.info.name slot → PlaceRefines i make held k dev at
shown_as i make held k dev at p slot e f h =
    subst (λ (o : Option (Place DeviceState)). PlaceRefines i make held k dev o) (sym e) (subst (λ (s : Slot DeviceState). SlotRefines i make held k dev p.info.name s) (sym f) h)

pub changed : (i : ℕ) (make : ℕ → Make) (held : Held) (registry : Table) (table : ℕ → AbstractDevice) (w p : ℕ) (new_held : Held) (new_registry : Table) (new_table : ℕ → AbstractDevice) →
    TableRefines i make held registry table → Changes i make held registry table w p new_held new_registry new_table → TableRefines i make new_held new_registry new_table
changed i make held registry table w p new_held new_registry new_table old c =
    record {
      leases = λ v l e. lease_at v l e (eqb v w) refl;
      apart = λ v u l m e f same. two_at v u l m e f same (eqb v w) (eqb u w) refl refl;
      places = λ k. place_at k (eqb k p) refl;
    }
  where
    lease_at : (v : ℕ) (l : Lease DeviceState) → held_by new_held v ≡ Some l → (b : Bool) → eqb v w ≡ b → LeaseRefines i make new_registry new_table l
    lease_at v l e true b = (c.now l (ap (held_by new_held) (sym (eqb-true v w b)) ∙ e)).1
    lease_at v l e false b =
        let n = eqb-false v w b in
        let before : held_by held v ≡ Some l = sym (c.others v n) ∙ e in
        let away : l.place ≢ p = c.alone v l n before in
        let shown = old.leases v l before in
        record {
          device = c.tables l.place away ∙ shown.device;
          made = shown.made;
          own = record { place = shown.own.place; at = c.slots l.place away ∙ shown.own.at; out = shown.own.out; name = shown.own.name };
        }

    two_at : (v u : ℕ) (l m : Lease DeviceState) → held_by new_held v ≡ Some l → held_by new_held u ≡ Some m → l.place ≡ m.place → (b d : Bool) → eqb v w ≡ b → eqb u w ≡ d → v ≡ u
    two_at v u l m e f same true true b d = eqb-true v w b ∙ sym (eqb-true u w d)
    two_at v u l m e f same true false b d =
        let n = eqb-false u w d in
        absurd (c.alone u m n (sym (c.others u n) ∙ f) (sym same ∙ (c.now l (ap (held_by new_held) (sym (eqb-true v w b)) ∙ e)).0))
    two_at v u l m e f same false true b d =
        let n = eqb-false v w b in
        absurd (c.alone v l n (sym (c.others v n) ∙ e) (same ∙ (c.now m (ap (held_by new_held) (sym (eqb-true u w d)) ∙ f)).0))
    two_at v u l m e f same false false b d =
        old.apart v u l m (sym (c.others v (eqb-false v w b)) ∙ e) (sym (c.others u (eqb-false u w d)) ∙ f) same

    hold_at : (k : ℕ) → k ≢ p → (h : HoldsPlace held k) → (b : Bool) → eqb h.word w ≡ b → HoldsPlace new_held k
    hold_at k away h true b = absurd (away (sym h.place ∙ c.was h.lease (ap (held_by held) (sym (eqb-true h.word w b)) ∙ h.stands)))
    hold_at k away h false b = record { word = h.word; lease = h.lease; stands = c.others h.word (eqb-false h.word w b) ∙ h.stands; place = h.place }

    place_at : (k : ℕ) (b : Bool) → eqb k p ≡ b → PlaceRefines i (make k) new_held k (new_table k) (slice_get new_registry k)
    place_at k true b = subst (λ (j : ℕ). PlaceRefines i (make j) new_held j (new_table j) (slice_get new_registry j)) (sym (eqb-true k p b)) c.here
    place_at k false b =
        let away = eqb-false k p b in
        subst (λ (t : Option (Place DeviceState)). PlaceRefines i (make k) new_held k (new_table k) t) (sym (c.slots k away))
        (subst (λ (dev : AbstractDevice). PlaceRefines i (make k) new_held k dev (slice_get registry k)) (sym (c.tables k away))
        (place_shown i (make k) held new_held k (table k) (slice_get registry k) (λ h. hold_at k away h (eqb h.word w) refl) (old.places k)))
