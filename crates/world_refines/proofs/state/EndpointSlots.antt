-- No two slots are for one session, beside an endpoint that had one and has another.
use Rattle.std.specs.Prelude.{if◌then◌else◌}
use Rattle.std.specs.Option.{option_and_then}
use Rattle.std.specs.List.{AllByRecursion}
use Rattle.std.proofs.Common.{◌≡◌, ◌≢◌, ◌⊎◌, inl, inr, ◌∙◌, ℕ, zero, suc, ◌<◌, ◌≤◌, List, [], ◌∷◌, Option, Some, None, option_map, Bool, true, false, refl, sym, ap, subst, slice_get, eqb-true, arith}
use Rattle.std.proofs.lemmas.Bool.{eqb-false}
use Rattle.device_api.specs.State.{DeviceState}
use Rattle.saned_requests.specs.declared.session.Session.{Session as RequestSession}
use Rattle.saned_core.specs.declared.session_slot.SessionSlot.{SessionSlot}
use Rattle.saned_core.specs.declared.session_slot.SessionId.{SessionId}
use Rattle.saned_core.specs.DaemonStates.{Core, after_end_session, new_session_slot, is_slot_number, no_more, on_session_slot, on_session, after_open_session, with_session_slot, with_session}
use Rattle.daemon_refines.proofs.Moved.{unsome}
use Rattle.world_refines.specs.WorldRefinement.{HaveDifferentNumbers, IsBelow}

abbrev TakesSlot : Type 0
TakesSlot = List (Option (SessionSlot DeviceState))

abbrev KeepsNumber : (SessionSlot DeviceState → Option (SessionSlot DeviceState)) → Type 0
KeepsNumber f = (slot new : SessionSlot DeviceState) → f slot ≡ Some new → new.number ≡ slot.number

-- a slot of that number was there
pub record WasSlot (slots : TakesSlot) (k n : ℕ) : Type 0 where
  pub slot : SessionSlot DeviceState
  pub at : slice_get slots k ≡ Some (Some slot)
  pub number : slot.number ≡ n

-- the only slot that is new, if any, is for the endpoint's new session
pub record IsNew (link : Option SessionId) (d : Core) (place k n : ℕ) : Type 0 where
  pub there : k ≡ place
  pub id : SessionId
  pub link_is : link ≡ Some id
  pub number : id.number ≡ n
  pub high : d.opened ≤ n

-- what comes of the slots beside an endpoint that had one session and has another, or the same
pub record Replaces (old new : Option SessionId) (d e : Core) : Type 0 where
  pub place : ℕ
  pub each : (k : ℕ) (slot : SessionSlot DeviceState) → slice_get e.slots k ≡ Some (Some slot) → WasSlot d.slots k slot.number ⊎ IsNew new d place k slot.number
  pub still : (id : SessionId) → old ≡ Some id → (new ≡ Some id) ⊎ ((k : ℕ) (slot : SessionSlot DeviceState) → slice_get e.slots k ≡ Some (Some slot) → slot.number ≢ id.number)

-- ---- a slot that is changed or is no more

was_by : (f : SessionSlot DeviceState → Option (SessionSlot DeviceState)) (n : ℕ) (x : Option (SessionSlot DeviceState)) (slots : TakesSlot) (b : Bool) (k : ℕ) (s : SessionSlot DeviceState) → KeepsNumber f → ((j : ℕ) (r : SessionSlot DeviceState) → slice_get (on_session_slot f n slots) j ≡ Some (Some r) → WasSlot slots j r.number) →
    slice_get (if b then option_and_then f x ∷ slots else x ∷ on_session_slot f n slots) k ≡ Some (Some s) → WasSlot (x ∷ slots) k s.number
was_by f n None slots true zero s keeps more e = absurd (let clash : None ≡ Some s = unsome None (Some s) e in cc)
was_by f n (Some r) slots true zero s keeps more e = record { slot = r; at = refl; number = sym (keeps r s (unsome (f r) (Some s) e)) }
was_by f n x slots true (suc k) s keeps more e = record { slot = s; at = e; number = refl }
was_by f n x slots false zero s keeps more e = record { slot = s; at = e; number = refl }
was_by f n x slots false (suc k) s keeps more e = let w = more k s e in record { slot = w.slot; at = w.at; number = w.number }

pub was_on : (f : SessionSlot DeviceState → Option (SessionSlot DeviceState)) (n : ℕ) (slots : TakesSlot) → KeepsNumber f → (k : ℕ) (s : SessionSlot DeviceState) → slice_get (on_session_slot f n slots) k ≡ Some (Some s) → WasSlot slots k s.number
unfolding on_session_slot
was_on f n [] keeps k s e = absurd (let clash : None ≡ Some (Some s) = e in cc)
was_on f n (x ∷ slots) keeps k s e = was_by f n x slots (is_slot_number n x) k s keeps (was_on f n slots keeps) e

-- no two are of one number
abbrev pub Single : TakesSlot → Type 0
Single slots = HaveDifferentNumbers slots

pub later : (x : Option (SessionSlot DeviceState)) (slots : TakesSlot) → Single (x ∷ slots) → Single slots
later x slots h j k a b at_j at_k same = let e : suc j ≡ suc k = h (suc j) (suc k) a b at_j at_k same in omega (arith, e)

gone_by : (n : ℕ) (x : Option (SessionSlot DeviceState)) (slots : TakesSlot) (b : Bool) (k : ℕ) (s : SessionSlot DeviceState) → is_slot_number n x ≡ b → Single (x ∷ slots) → ((j : ℕ) (r : SessionSlot DeviceState) → slice_get (on_session_slot no_more n slots) j ≡ Some (Some r) → r.number ≢ n) →
    slice_get (if b then option_and_then no_more x ∷ slots else x ∷ on_session_slot no_more n slots) k ≡ Some (Some s) → s.number ≢ n
gone_by n None slots true k s is h more e = absurd (let clash : false ≡ true = is in cc)
gone_by n (Some r) slots true zero s is h more e = absurd (let clash : None ≡ Some s = unsome None (Some s) e in cc)
gone_by n (Some r) slots true (suc k) s is h more e = λ same. let clash : zero ≡ suc k = h zero (suc k) r s refl e (eqb-true r.number n is ∙ sym same) in omega (arith, clash)
gone_by n x slots false zero s is h more e = eqb-false s.number n (sym (ap (is_slot_number n) (unsome x (Some s) e)) ∙ is)
gone_by n x slots false (suc k) s is h more e = more k s e

pub gone : (n : ℕ) (slots : TakesSlot) → Single slots → (k : ℕ) (s : SessionSlot DeviceState) → slice_get (on_session_slot no_more n slots) k ≡ Some (Some s) → s.number ≢ n
unfolding on_session_slot
gone n [] h k s e = absurd (let clash : None ≡ Some (Some s) = e in cc)
gone n (x ∷ slots) h k s e = gone_by n x slots (is_slot_number n x) k s refl h (gone n slots (later x slots h)) e

pub replaces_same : (link : Option SessionId) (d : Core) → Replaces link link d d
replaces_same link d = record { place = 0; each = λ k s e. inl (record { slot = s; at = e; number = refl }); still = λ id e. inl e }

on_number : (g : RequestSession DeviceState → RequestSession DeviceState) → KeepsNumber (on_session g)
on_number g slot new e = ap (λ (x : SessionSlot DeviceState). x.number) (sym (unsome (record slot { session = option_map g slot.session }) new e))

none_number : KeepsNumber no_more
none_number slot new e = absurd (let clash : None ≡ Some new = e in cc)

-- a slot that keeps its number, or goes
pub replaces_kept : (f : SessionSlot DeviceState → Option (SessionSlot DeviceState)) (link : Option SessionId) (d : Core) (n : ℕ) → ((slot new : SessionSlot DeviceState) → f slot ≡ Some new → new.number ≡ slot.number) → Replaces link link d (record d { slots = on_session_slot f n d.slots })
replaces_kept f link d n keeps = record { place = 0; each = λ k s e. inl (was_on f n d.slots keeps k s e); still = λ id e. inl e }

pub replaces_on : (g : RequestSession DeviceState → RequestSession DeviceState) (link : Option SessionId) (d : Core) (n : ℕ) → Replaces link link d (record d { slots = on_session_slot (on_session g) n d.slots })
replaces_on g link d n = replaces_kept (on_session g) link d n (on_number g)

pub with_number : (now : RequestSession DeviceState) → KeepsNumber (with_session now)
with_number now slot new e = ap (λ (x : SessionSlot DeviceState). x.number) (sym (unsome (record slot { session = Some now }) new e))

pub replaces_with : (now : RequestSession DeviceState) (link : Option SessionId) (d e : Core) (n : ℕ) → e.slots ≡ on_session_slot (with_session now) n d.slots → Replaces link link d e
replaces_with now link d e n is =
    record { place = 0; each = λ k s at. inl (was_on (with_session now) n d.slots (with_number now) k s (subst (λ (x : TakesSlot). slice_get x k ≡ Some (Some s)) is at)); still = λ id o. inl o }

pub replaces_ended : (d : Core) (id : SessionId) → Single d.slots → Replaces (Some id) None d (after_end_session d id.number)
replaces_ended d id h =
    record {
      place = 0;
      each = λ k s e. inl (was_on no_more id.number d.slots none_number k s e);
      still = λ x e. inr (λ k s at. subst (λ (y : SessionId). s.number ≢ y.number) (unsome id x e) (gone id.number d.slots h k s at));
    }

-- ---- a new one

abbrev vacant : TakesSlot → ℕ
vacant [] = 0
vacant (None ∷ slots) = 0
vacant (Some s ∷ slots) = suc (vacant slots)

record IsFresh (slots : TakesSlot) (new : SessionSlot DeviceState) (k : ℕ) (s : SessionSlot DeviceState) : Type 0 where
  pub there : k ≡ vacant slots
  pub is : s ≡ new

next_slot : (r : SessionSlot DeviceState) (slots : TakesSlot) (new : SessionSlot DeviceState) (k : ℕ) (s : SessionSlot DeviceState) → WasSlot slots k s.number ⊎ IsFresh slots new k s → WasSlot (Some r ∷ slots) (suc k) s.number ⊎ IsFresh (Some r ∷ slots) new (suc k) s
next_slot r slots new k s (inl w) = inl (record { slot = w.slot; at = w.at; number = w.number })
next_slot r slots new k s (inr f) = inr (record { there = ap suc f.there; is = f.is })

was_with : (slots : TakesSlot) (new : SessionSlot DeviceState) (k : ℕ) (s : SessionSlot DeviceState) → slice_get (with_session_slot slots new) k ≡ Some (Some s) → WasSlot slots k s.number ⊎ IsFresh slots new k s
unfolding with_session_slot
was_with [] new k s e = absurd (let clash : None ≡ Some (Some s) = e in cc)
was_with (None ∷ slots) new zero s e = inr (record { there = refl; is = sym (unsome new s (unsome (Some new) (Some s) e)) })
was_with (None ∷ slots) new (suc k) s e = inl (record { slot = s; at = e; number = refl })
was_with (Some r ∷ slots) new zero s e = inl (record { slot = s; at = e; number = refl })
was_with (Some r ∷ slots) new (suc k) s e = next_slot r slots new k s (was_with slots new k s e)

new_by : (d : Core) (port : ℕ) (id : SessionId) (k : ℕ) (s : SessionSlot DeviceState) → id.number ≡ d.opened → WasSlot d.slots k s.number ⊎ IsFresh d.slots (new_session_slot d.strings d.opened port) k s → WasSlot d.slots k s.number ⊎ IsNew (Some id) d (vacant d.slots) k s.number
new_by d port id k s number (inl w) = inl w
new_by d port id k s number (inr f) =
    let is : s.number ≡ d.opened = ap (λ (x : SessionSlot DeviceState). x.number) f.is in
    inr (record { there = f.there; id = id; link_is = refl; number = number ∙ sym is; high = omega (arith, is) })

pub replaces_opened : (d : Core) (port : ℕ) (id : SessionId) → id.number ≡ d.opened → Replaces None (Some id) d (after_open_session d port)
replaces_opened d port id number =
    record {
      place = vacant d.slots;
      each = λ k s e. new_by d port id k s number (was_with d.slots (new_session_slot d.strings d.opened port) k s e);
      still = λ x e. absurd (let clash : None ≡ Some x = e in cc);
    }

-- ---- the world

pub below_at : (n : ℕ) (slots : TakesSlot) (k : ℕ) (s : SessionSlot DeviceState) → AllByRecursion (IsBelow n) slots → slice_get slots k ≡ Some (Some s) → s.number < n
below_at n [] k s h e = absurd (let clash : None ≡ Some (Some s) = e in cc)
below_at n (x ∷ slots) zero s h e = subst (λ (y : Option (SessionSlot DeviceState)). IsBelow n y) (unsome x (Some s) e) h.0
below_at n (x ∷ slots) (suc k) s h e = below_at n slots k s h.1 e

apart_by : (link : Option SessionId) (d : Core) (place j k n m : ℕ) → Single d.slots → AllByRecursion (IsBelow d.opened) d.slots → n ≡ m → WasSlot d.slots j n ⊎ IsNew link d place j n → WasSlot d.slots k m ⊎ IsNew link d place k m → j ≡ k
apart_by link d place j k n m h below same (inl a) (inl b) = h j k a.slot b.slot a.at b.at (a.number ∙ (same ∙ sym b.number))
apart_by link d place j k n m h below same (inl a) (inr b) = let low = below_at d.opened d.slots j a.slot below a.at in let is = a.number in let high = b.high in absurd (omega (arith, low, is, high, same))
apart_by link d place j k n m h below same (inr a) (inl b) = let low = below_at d.opened d.slots k b.slot below b.at in let is = b.number in let high = a.high in absurd (omega (arith, low, is, high, same))
apart_by link d place j k n m h below same (inr a) (inr b) = a.there ∙ sym b.there

pub slot_change : (old new : Option SessionId) (d e : Core) → Single d.slots → AllByRecursion (IsBelow d.opened) d.slots → Replaces old new d e → Single e.slots
slot_change old new d e h below r j k a b at_j at_k same = apart_by new d r.place j k a.number b.number h below same (r.each j a at_j) (r.each k b at_k)

abbrev IsEmpty : Option (SessionSlot DeviceState) → Type 0
IsEmpty None = Unit {0}
IsEmpty (Some s) = ⊥

nobody : (slots : TakesSlot) (k : ℕ) (s : SessionSlot DeviceState) → AllByRecursion IsEmpty slots → slice_get slots k ≡ Some (Some s) → ⊥
nobody [] k s h e = let clash : None ≡ Some (Some s) = e in absurd (cc)
nobody (x ∷ slots) zero s h e = subst IsEmpty (unsome x (Some s) e) h.0
nobody (x ∷ slots) (suc k) s h e = nobody slots k s h.1 e

-- nobody sits yet
pub no_slot_yet : (k : ℕ) (s : SessionSlot DeviceState) → slice_get (None ∷ None ∷ None ∷ None ∷ None ∷ None ∷ None ∷ None ∷ []) k ≡ Some (Some s) → ⊥
no_slot_yet k s e =
    let slots : TakesSlot = None ∷ None ∷ None ∷ None ∷ None ∷ None ∷ None ∷ None ∷ [] in
    let empty : AllByRecursion IsEmpty slots = (tt, (tt, (tt, (tt, (tt, (tt, (tt, (tt, tt)))))))) in
    nobody slots k s empty e

pub none_in_slot : Single (None ∷ None ∷ None ∷ None ∷ None ∷ None ∷ None ∷ None ∷ [])
none_in_slot j k a b at_j at_k same = absurd (no_slot_yet j a at_j)
