-- A page that the daemon refuses changes nothing.
use Rattle.std.specs.Prelude.{◌||◌, Err, Ok, Result, if◌then◌else◌, slice_get}
use Rattle.std.specs.List.{list_any}
use Rattle.std.proofs.Common.{◌≡◌, ◌≢◌, ◌∙◌, ℕ, zero, suc, List, [], ◌∷◌, Bool, true, false, Option, Some, None, refl, sym, ap}
use Rattle.page_picture.specs.Source.{SourceState}
use Rattle.page_sources.specs.SourceView.{source_state}
use Rattle.page_sources.specs.declared.kinds.Source.{Source}
use Rattle.sane_fixed.specs.declared.status.Status.{Status}
use Rattle.sane_fixed.specs.declared.status.Status.TheVariants.{DeviceBusy, Inval}
use Rattle.device_api.specs.State.{DeviceState, after_load, takes_page}
use Rattle.dispatch.specs.declared.table.place.Lease.{Lease}
use Rattle.dispatch.specs.declared.table.place.Slot.{Slot}
use Rattle.dispatch.specs.declared.table.place.Slot.TheVariants.{In, Out, Gone}
use Rattle.dispatch.specs.Table.{Table, find_name, load_answer, load_at, load_into, load_of, loaded_at, loaded_device, loaded_slot, slot_load, table_after_load, with_loaded}
use Rattle.saned_core.specs.declared.session_slot.SessionSlot.{SessionSlot}
use Rattle.saned_core.specs.DaemonStates.{Core}
use Rattle.saned_core.specs.Loading.{core_after_load, daemon_load_answer, first_answer_of, holds, is_lease_named, lease_load, lease_with, on_first, session_load, session_with, slot_load_answer, slot_with_page}
use Rattle.saned_requests.specs.declared.session.Session.{Session}
use Rattle.event_world.specs.declared.event.Event.TheVariants.{Load}
use Rattle.event_world.specs.Worlds.{Leads, WorldCore}

abbrev Answer : Type 0
Answer = Result Unit Status

-- ---- a device that takes none is as it was

abbrev load_if : Bool → Answer
load_if b = if b then Ok tt else Err DeviceBusy

good_not : (e : Status) → ◌≡◌ {A = Answer} (Ok tt) (Err e) → ⊥
good_not e clash = let never : ◌≡◌ {A = Answer} (Ok tt) (Err e) = clash in cc

by_takes : (s : DeviceState) (source : SourceState) (e : Status) (b : Bool) → takes_page s ≡ b → load_into s ≡ Err e → loaded_device s source ≡ s
by_takes s source e true t is = absurd (good_not e (sym (ap load_if t) ∙ is))
by_takes s source e false t is = ap (λ (x : Bool). if x then after_load s source else s) t

same_device : (s : DeviceState) (source : SourceState) (e : Status) → load_into s ≡ Err e → loaded_device s source ≡ s
same_device s source e is = by_takes s source e (takes_page s) refl is

-- ---- so is the first of a list that answers so

first_same : {A : Type 0} (p : A → Bool) (tells : A → Answer) (f : A → A) (e : Status) → ((x : A) → tells x ≡ Err e → f x ≡ x) → (xs : List A) (other : Answer) → first_answer_of p tells xs other ≡ Err e → on_first p f xs ≡ xs
unfolding first_answer_of on_first
first_same p tells f e keeps [] other is = refl
first_same p tells f e keeps (x ∷ xs) other is = by_test p tells f e keeps x xs other (p x) is (λ more. first_same p tells f e keeps xs other more)
  where
    by_test : {A : Type 0} (p : A → Bool) (tells : A → Answer) (f : A → A) (e : Status) → ((x : A) → tells x ≡ Err e → f x ≡ x) → (x : A) (xs : List A) (other : Answer) (b : Bool) → (if b then tells x else first_answer_of p tells xs other) ≡ Err e → (first_answer_of p tells xs other ≡ Err e → on_first p f xs ≡ xs) →
        (if b then f x ∷ xs else x ∷ on_first p f xs) ≡ x ∷ xs
    by_test {A = A} p tells f e keeps x xs other true is more = ap (λ (y : A). y ∷ xs) (keeps x is)
    by_test {A = A} p tells f e keeps x xs other false is more = ap (λ (ys : List A). x ∷ ys) (more is)

none_first : {A : Type 0} (p : A → Bool) (tells : A → Answer) (xs : List A) (other : Answer) → list_any p xs ≡ false → first_answer_of p tells xs other ≡ other
unfolding first_answer_of
none_first p tells [] other none = refl
none_first p tells (x ∷ xs) other none = by_test p tells x xs other (p x) none (λ more. none_first p tells xs other more)
  where
    by_test : {A : Type 0} (p : A → Bool) (tells : A → Answer) (x : A) (xs : List A) (other : Answer) (b : Bool) → (b || list_any p xs) ≡ false → (list_any p xs ≡ false → first_answer_of p tells xs other ≡ other) → (if b then tells x else first_answer_of p tells xs other) ≡ other
    by_test p tells x xs other true none more = absurd (let clash : true ≡ false = none in cc)
    by_test p tells x xs other false none more = more none

-- ---- of a session

same_lease : (source : SourceState) (e : Status) (o : Option (Lease DeviceState)) → lease_load o ≡ Err e → lease_with source o ≡ o
same_lease source e None is = refl
same_lease source e (Some lease) is = ap (λ (d : DeviceState). Some (record lease { device = d })) (same_device lease.device source e is)

same_slot : (name : List ℕ) (source : SourceState) (e : Status) (o : Option (SessionSlot DeviceState)) → slot_load_answer name o ≡ Err e → slot_with_page name source o ≡ o
same_slot name source e None is = refl
same_slot name source e (Some slot) is = ap (λ (s : Option (Session DeviceState)). Some (record slot { session = s })) (by_session slot.session is)
  where
    by_session : (o : Option (Session DeviceState)) → session_load name o ≡ Err e → session_with name source o ≡ o
    by_session None is = refl
    by_session (Some s) is = ap (λ (held : List (Option (Lease DeviceState))). Some (record s { held = held })) (first_same (is_lease_named name) lease_load (lease_with source) e (same_lease source e) s.held (Err Inval) is)

-- ---- in its place

same_place : (s : Slot DeviceState) (source : SourceState) (e : Status) → load_of s ≡ Err e → loaded_slot s source ≡ s
same_place (In d) source e is = ap (λ (x : DeviceState). In x) (same_device d source e is)
same_place Out source e is = refl
same_place Gone source e is = refl

same_at : (t : Table) (k : ℕ) (source : SourceState) (e : Status) → slot_load (slice_get t k) ≡ Err e → with_loaded t k source ≡ t
unfolding with_loaded
same_at [] k source e is = refl
same_at (p ∷ t) zero source e is = ap (λ (s : Slot DeviceState). record { info = p.info; slot = s } ∷ t) (same_place p.slot source e is)
same_at (p ∷ t) (suc k) source e is = ap (λ (ps : Table). p ∷ ps) (same_at t k source e is)

same_table : (t : Table) (o : Option ℕ) (source : SourceState) (e : Status) → load_at t o ≡ Err e → loaded_at t o source ≡ t
same_table t None source e is = refl
same_table t (Some k) source e is = same_at t k source e is

of_table : (t : Table) (name : List ℕ) (source : SourceState) (e : Status) → load_answer t name ≡ Err e → table_after_load t name source ≡ t
unfolding load_answer table_after_load
of_table t name source e is = same_table t (find_name name t) source e is

-- ---- the daemon

by_held : (d : Core) (name : List ℕ) (source : SourceState) (e : Status) (b : Bool) → list_any (holds name) d.slots ≡ b → daemon_load_answer d name ≡ Err e → core_after_load d name source ≡ d
by_held d name source e true any is =
    ap (λ (b : Bool). if b then record d { slots = on_first (holds name) (slot_with_page name source) d.slots } else record d { registry = table_after_load d.registry name source }) any
    ∙ ap (λ (slots : List (Option (SessionSlot DeviceState))). record d { slots = slots }) (first_same (holds name) (slot_load_answer name) (slot_with_page name source) e (same_slot name source e) d.slots (load_answer d.registry name) is)
by_held d name source e false any is =
    ap (λ (b : Bool). if b then record d { slots = on_first (holds name) (slot_with_page name source) d.slots } else record d { registry = table_after_load d.registry name source }) any
    ∙ ap (λ (t : Table). record d { registry = t }) (of_table d.registry name source e (sym (none_first (holds name) (slot_load_answer name) d.slots (load_answer d.registry name) any) ∙ is))

-- ---- an event that brings a page

by_answer : (name : List ℕ) (source : Source) (u v : WorldCore) (r : Answer) → daemon_load_answer u.daemon name ≡ r → r ≢ Ok tt → Leads source_state (Load name source) u v → v ≡ u
by_answer name source u v (Ok tt) is refused leads = absurd (refused refl)
by_answer name source u v (Err e) is refused leads = leads ∙ ap (λ (d : Core). record u { daemon = d }) (by_held u.daemon name (source_state source) e (list_any (holds name) u.daemon.slots) refl is)

-- where the daemon refuses it, the world is the same behind it
pub refused_same : (name : List ℕ) (source : Source) (u v : WorldCore) → daemon_load_answer u.daemon name ≢ Ok tt → Leads source_state (Load name source) u v → v ≡ u
refused_same name source u v refused leads = by_answer name source u v (daemon_load_answer u.daemon name) refl refused leads
