-- What one session leaves to the others.
use Rattle.std.proofs.Common.{inl, inr, ◌≡◌, ◌≢◌, ◌∙◌, ℕ, zero, suc, List, [], ◌∷◌, Option, Some, None, not, refl, sym, ap, subst, length, slice_get}
use Rattle.std.specs.List.{prefix_len}
use Rattle.device_api.specs.State.{DeviceState}
use Rattle.dispatch.specs.declared.table.place.Slot.{Slot}
use Rattle.dispatch.specs.declared.table.place.Slot.TheVariants.{In, Out, Gone}
use Rattle.dispatch.specs.declared.table.place.Place.{Place}
use Rattle.dispatch.specs.declared.table.place.Lease.{Lease}
use Rattle.dispatch.specs.Table.{Table, find_name, is_named, with_slot}
use Rattle.saned_requests.specs.declared.session.AwaitedAuthorization.{AwaitedAuthorization}
use Rattle.system_model.specs.AbstractMessages.{Challenge}
use Rattle.system_model.specs.Devices.{Make}
use Rattle.system_model.specs.AbstractDevices.{AbstractDevice}
use Rattle.daemon_refines.specs.ContextRefinement.{IsAwaited, NamesPlace, LeaseRefines, PlaceRefines, SlotRefines, TableRefines}
use Rattle.daemon_refines.specs.OtherSessions.{IsHeldByNoOther, LeavesOthers, LeavesPlace, OthersAreKept}
use Rattle.daemon_refines.proofs.Changes.{Held}
use Rattle.daemon_refines.proofs.Moved.{unsome}

-- ---- whose a device is

pub own_of : (i : ℕ) (a b : Option ℕ) → a ≡ b → IsHeldByNoOther i b → IsHeldByNoOther i a
own_of i a b e h = subst (λ (o : Option ℕ). IsHeldByNoOther i o) (sym e) h

-- what another holds is not client i's own
away_no_own : (i j : ℕ) (a : Option ℕ) → a ≡ Some j → j ≢ i → IsHeldByNoOther i a → ⊥
away_no_own i j a e n h = n (subst (λ (o : Option ℕ). IsHeldByNoOther i o) e h)

-- ---- another session goes on

slot_beside : (i j : ℕ) (make : ℕ → Make) (held held_j : Held) (registry : Table) (table : ℕ → AbstractDevice) (k : ℕ) (name : List ℕ) (slot : Slot DeviceState) → i ≢ j → TableRefines i make held registry table → IsHeldByNoOther i (table k).holder →
    SlotRefines i (make k) held k (table k) name slot → SlotRefines j (make k) held_j k (table k) name slot
slot_beside i j make held held_j registry table k name Gone n all own h = h
slot_beside i j make held held_j registry table k name (In s) n all own h = h
slot_beside i j make held held_j registry table k name Out n all own (listed, inl h) =
    let holder : (table k).holder ≡ Some i = ap (λ (p : ℕ). (table p).holder) (sym h.place) ∙ ap (λ (t : AbstractDevice). t.holder) (all.leases h.word h.lease h.stands).device in
    (listed, inr (record { other = i; holder = holder; no_own = n }))
slot_beside i j make held held_j registry table k name Out n all own (listed, inr h) = absurd (away_no_own i h.other (table k).holder h.holder h.no_own own)

place_beside : (i j : ℕ) (make : ℕ → Make) (held held_j : Held) (registry : Table) (table : ℕ → AbstractDevice) (k : ℕ) (at : Option (Place DeviceState)) → i ≢ j → TableRefines i make held registry table → IsHeldByNoOther i (table k).holder →
    PlaceRefines i (make k) held k (table k) at → PlaceRefines j (make k) held_j k (table k) at
place_beside i j make held held_j registry table k None n all own h = h
place_beside i j make held held_j registry table k (Some p) n all own h = slot_beside i j make held held_j registry table k p.info.name p.slot n all own h

names_beside : (found now : Option ℕ) (table new : ℕ → AbstractDevice) (k : ℕ) → now ≡ found → ((e : ℕ) → (new e).listed ≡ (table e).listed) → NamesPlace found table k → NamesPlace now new k
names_beside None now table new k e same h = subst (λ (o : Option ℕ). NamesPlace o new k) (sym e) (same k ∙ h)
names_beside (Some p) now table new k e same h = subst (λ (o : Option ℕ). NamesPlace o new k) (sym e) h

awaited_beside : (held : Held) (registry now : Table) (table new : ℕ → AbstractDevice) (a : Option AwaitedAuthorization) (sent : Option (Challenge × ℕ)) → ((name : List ℕ) → find_name name now ≡ find_name name registry) → ((e : ℕ) → (new e).listed ≡ (table e).listed) →
    IsAwaited held registry table a sent → IsAwaited held now new a sent
awaited_beside held registry now table new None sent names same h = h
awaited_beside held registry now table new (Some a) None names same h = absurd h
awaited_beside held registry now table new (Some a) (Some sent) names same h = (names_beside (find_name a.name registry) (find_name a.name now) table new sent.1 (names a.name) same h.0, h.1)

lease_beside : (i j : ℕ) (make : ℕ → Make) (registry now : Table) (table new : ℕ → AbstractDevice) (l : Lease DeviceState) → i ≢ j → LeavesPlace i (table l.place) (new l.place) (slice_get registry l.place) (slice_get now l.place) → LeaseRefines j make registry table l → LeaseRefines j make now new l
lease_beside i j make registry now table new l n (inl same) h =
    record { device = same.0 ∙ h.device; made = h.made; own = record { place = h.own.place; at = same.1 ∙ h.own.at; out = h.own.out; name = h.own.name } }
lease_beside i j make registry now table new l n (inr own) h = absurd (away_no_own i j (table l.place).holder (ap (λ (t : AbstractDevice). t.holder) h.device) (λ e. n (sym e)) own.0)

shown_beside : (i j : ℕ) (make : ℕ → Make) (held held_j : Held) (registry now : Table) (table new : ℕ → AbstractDevice) (k : ℕ) → i ≢ j → TableRefines i make held now new → LeavesPlace i (table k) (new k) (slice_get registry k) (slice_get now k) →
    PlaceRefines j (make k) held_j k (table k) (slice_get registry k) → PlaceRefines j (make k) held_j k (new k) (slice_get now k)
shown_beside i j make held held_j registry now table new k n all (inl same) h =
    subst (λ (o : Option (Place DeviceState)). PlaceRefines j (make k) held_j k (new k) o) (sym same.1) (subst (λ (dev : AbstractDevice). PlaceRefines j (make k) held_j k dev (slice_get registry k)) (sym same.0) h)
shown_beside i j make held held_j registry now table new k n all (inr own) h = place_beside i j make held held_j now new k (slice_get now k) n all own.1 (all.places k)

pub others_stand : OthersAreKept
others_stand i j make held d now stream table new s n all leaves old =
    record {
      words = old.words;
      four = old.four;
      transfer = old.transfer;
      awaited = awaited_beside d.session.held d.registry now table new d.session.awaited s.awaited leaves.names leaves.listed old.awaited;
      frame = old.frame;
      devices = record {
        leases = λ w l e. lease_beside i j make d.registry now table new l n (leaves.places l.place) (old.devices.leases w l e);
        apart = old.devices.apart;
        places = λ k. shown_beside i j make held d.session.held d.registry now table new k n all (leaves.places k) (old.devices.places k);
      };
    }

-- ---- one change after another

pub leaves_all : (i : ℕ) (registry : Table) (table : ℕ → AbstractDevice) → LeavesOthers i registry registry table table
leaves_all i registry table = record { places = λ k. inl (refl, refl); listed = λ k. refl; names = λ name. refl }

place_then : (i : ℕ) (a b c : AbstractDevice) (x y z : Option (Place DeviceState)) → LeavesPlace i a b x y → LeavesPlace i b c y z → LeavesPlace i a c x z
place_then i a b c x y z (inl p) (inl q) = inl (q.0 ∙ p.0, q.1 ∙ p.1)
place_then i a b c x y z (inl p) (inr q) = inr (own_of i a.holder b.holder (ap (λ (t : AbstractDevice). t.holder) (sym p.0)) q.0, q.1)
place_then i a b c x y z (inr p) (inl q) = inr (p.0, own_of i c.holder b.holder (ap (λ (t : AbstractDevice). t.holder) q.0) p.1)
place_then i a b c x y z (inr p) (inr q) = inr (p.0, q.1)

pub leaves_then : (i : ℕ) (r1 r2 r3 : Table) (t1 t2 t3 : ℕ → AbstractDevice) → LeavesOthers i r1 r2 t1 t2 → LeavesOthers i r2 r3 t2 t3 → LeavesOthers i r1 r3 t1 t3
leaves_then i r1 r2 r3 t1 t2 t3 a b =
    record {
      places = λ k. place_then i (t1 k) (t2 k) (t3 k) (slice_get r1 k) (slice_get r2 k) (slice_get r3 k) (a.places k) (b.places k);
      listed = λ k. b.listed k ∙ a.listed k;
      names = λ name. b.names name ∙ a.names name;
    }

-- devices that are the same at each place
same_place : (i : ℕ) (old new other : AbstractDevice) (at now : Option (Place DeviceState)) → other ≡ new → LeavesPlace i old new at now → LeavesPlace i old other at now
same_place i old new other at now e h = subst (λ (t : AbstractDevice). LeavesPlace i old t at now) (sym e) h

pub leaves_same : (i : ℕ) (registry now : Table) (table new other : ℕ → AbstractDevice) → ((k : ℕ) → other k ≡ new k) → LeavesOthers i registry now table new → LeavesOthers i registry now table other
leaves_same i registry now table new other same h =
    record {
      places = λ k. same_place i (table k) (new k) (other k) (slice_get registry k) (slice_get now k) (same k) (h.places k);
      listed = λ k. ap (λ (t : AbstractDevice). t.listed) (same k) ∙ h.listed k;
      names = h.names;
    }

-- ---- a slot whose device comes or goes keeps its name

abbrev pub IsThere : Slot DeviceState → Type 0
IsThere (In s) = Unit {0}
IsThere Out = Unit {0}
IsThere Gone = ⊥

pub there_in : (slot : Slot DeviceState) (s : DeviceState) → slot ≡ In s → IsThere slot
there_in slot s e = subst (λ (x : Slot DeviceState). IsThere x) (sym e) tt

pub there_out : (slot : Slot DeviceState) → slot ≡ Out → IsThere slot
there_out slot e = subst (λ (x : Slot DeviceState). IsThere x) (sym e) tt

same_named : (name : List ℕ) (p : Place DeviceState) (old new : Slot DeviceState) → p.slot ≡ old → IsThere old → IsThere new → is_named name (record p { slot = new }) ≡ is_named name p
same_named name p (In s) (In t) e a b = sym (ap (λ (x : Slot DeviceState). is_named name (record { info = p.info; slot = x })) e)
same_named name p (In s) Out e a b = sym (ap (λ (x : Slot DeviceState). is_named name (record { info = p.info; slot = x })) e)
same_named name p Out (In t) e a b = sym (ap (λ (x : Slot DeviceState). is_named name (record { info = p.info; slot = x })) e)
same_named name p Out Out e a b = sym (ap (λ (x : Slot DeviceState). is_named name (record { info = p.info; slot = x })) e)
same_named name p Gone new e a b = absurd a
same_named name p (In s) Gone e a b = absurd b
same_named name p Out Gone e a b = absurd b

same_front : (name : List ℕ) (t : Table) (k : ℕ) (p : Place DeviceState) (new : Slot DeviceState) → slice_get t k ≡ Some p → IsThere p.slot → IsThere new →
    prefix_len (λ (x : Place DeviceState). not (is_named name x)) (with_slot t k new) ≡ prefix_len (λ (x : Place DeviceState). not (is_named name x)) t
unfolding with_slot
same_front name [] k p new e a b = refl
same_front name (q ∷ t) zero p new e a b =
    let one : q ≡ p = unsome q p e in
    let there : IsThere q.slot = subst (λ (x : Place DeviceState). IsThere x.slot) (sym one) a in
    rw (same_named name q q.slot new refl there b) refl
same_front name (q ∷ t) (suc k) p new e a b = rw (same_front name t k p new e a b) refl

same_length : (t : Table) (k : ℕ) (new : Slot DeviceState) → length (with_slot t k new) ≡ length t
unfolding with_slot
same_length [] k new = refl
same_length (q ∷ t) zero new = refl
same_length (q ∷ t) (suc k) new = ap suc (same_length t k new)

pub same_name : (name : List ℕ) (t : Table) (k : ℕ) (p : Place DeviceState) (new : Slot DeviceState) → slice_get t k ≡ Some p → IsThere p.slot → IsThere new → find_name name (with_slot t k new) ≡ find_name name t
same_name name t k p new e a b = rw (same_front name t k p new e a b, same_length t k new) refl
