-- A daemon with one session at most, in its first place.
use Rattle.std.specs.Prelude.{◌==◌, if◌then◌else◌}
use Rattle.std.proofs.Common.{◌≡◌, ◌∙◌, ℕ, suc, ◌+◌, List, [], ◌∷◌, Bool, true, false, Option, Some, None, refl, sym, ap, arith}
use Rattle.std.proofs.lemmas.Bool.{eq-eqb, eqb-true}
use Rattle.device_api.specs.State.{DeviceState}
use Rattle.dispatch.specs.Table.{Table}
use Rattle.saned_requests.specs.declared.session.Session.{Session as RequestSession}
use Rattle.saned_requests.specs.Holding.{fresh_session, given_back}
use Rattle.saned_core.specs.declared.session_slot.SessionSlot.{SessionSlot}
use Rattle.saned_core.specs.DaemonStates.{Core, after_end_session, new_session_slot, no_more, on_session_slot, session_in, session_let_go, session_of, session_slot_of, with_session_slot}
use Rattle.saned_core.specs.Feeding.{input_in, input_of}
use Rattle.saned_serve.specs.SessionActions.{IsOpened}

abbrev pub Slots : Type 0
Slots = List (Option (SessionSlot DeviceState))

abbrev pub others_free : Slots
others_free = None ∷ None ∷ None ∷ None ∷ None ∷ None ∷ None ∷ []

-- no session stands, so many were opened, and this is the table
pub record IsEmpty (d : Core) (n : ℕ) (t : Table) : Type 0 where
  pub slots : d.slots ≡ None ∷ others_free
  pub opened : d.opened ≡ n
  pub registry : d.registry ≡ t

-- the session of that number alone, and it is this one, with no bytes of a request before it
pub record IsAlone (d : Core) (n : ℕ) (t : Table) (s : RequestSession DeviceState) : Type 0 where
  pub slot : SessionSlot DeviceState
  pub slots : d.slots ≡ Some slot ∷ others_free
  pub number : slot.number ≡ n
  pub session : slot.session ≡ Some s
  pub input : slot.input.rest ≡ []
  pub opened : d.opened ≡ suc n
  pub registry : d.registry ≡ t

-- its place, if it has one still, and it is over
pub record IsEnded (d : Core) (n : ℕ) (t : Table) : Type 0 where
  pub place : Option (SessionSlot DeviceState)
  pub slots : d.slots ≡ place ∷ others_free
  pub number : (slot : SessionSlot DeviceState) → place ≡ Some slot → slot.number ≡ n
  pub session : session_in place ≡ None
  pub opened : d.opened ≡ suc n
  pub registry : d.registry ≡ t

-- ---- its slot

pub slot_there : (slot : SessionSlot DeviceState) (n : ℕ) → slot.number ≡ n → session_slot_of (Some slot ∷ others_free) n ≡ Some slot
unfolding session_slot_of
slot_there slot n e = ap (λ (b : Bool). if b then Some slot else session_slot_of others_free n) (eq-eqb slot.number n e)

pub on_there : (f : SessionSlot DeviceState → Option (SessionSlot DeviceState)) (slot : SessionSlot DeviceState) (n : ℕ) → slot.number ≡ n → on_session_slot f n (Some slot ∷ others_free) ≡ f slot ∷ others_free
unfolding on_session_slot
on_there f slot n e = ap (λ (b : Bool). if b then f slot ∷ others_free else Some slot ∷ on_session_slot f n others_free) (eq-eqb slot.number n e)

pub slot_is : (d : Core) (n : ℕ) (t : Table) (s : RequestSession DeviceState) → (h : IsAlone d n t s) → session_slot_of d.slots n ≡ Some h.slot
slot_is d n t s h = ap (λ (l : Slots). session_slot_of l n) h.slots ∙ slot_there h.slot n h.number

pub session_is : (d : Core) (n : ℕ) (t : Table) (s : RequestSession DeviceState) → IsAlone d n t s → session_of d n ≡ Some s
session_is d n t s h = ap session_in (slot_is d n t s h) ∙ h.session

pub input_is : (d : Core) (n : ℕ) (t : Table) (s : RequestSession DeviceState) → IsAlone d n t s → input_of d n ≡ []
input_is d n t s h = ap input_in (slot_is d n t s h) ∙ h.input

-- ---- it is opened

open_first : (new : SessionSlot DeviceState) → with_session_slot (None ∷ others_free) new ≡ Some new ∷ others_free
unfolding with_session_slot
open_first new = refl

pub is_opened : (d e : Core) (n m port : ℕ) (t : Table) → IsEmpty d n t → IsOpened d port m e → IsAlone e n t (fresh_session d.strings port)
is_opened d e n m port t h a = record {
  slot = new_session_slot d.strings d.opened port;
  slots = ap (λ (c : Core). c.slots) a.after ∙ (ap (λ (l : Slots). with_session_slot l (new_session_slot d.strings d.opened port)) h.slots ∙ open_first (new_session_slot d.strings d.opened port));
  number = h.opened;
  session = refl;
  input = refl;
  opened = ap (λ (c : Core). c.opened) a.after ∙ (let more : d.opened + 1 ≡ suc d.opened = omega arith in more ∙ ap suc h.opened);
  registry = ap (λ (c : Core). c.registry) a.after ∙ h.registry;
}

-- ---- it is ended

ended_at : (place : Option (SessionSlot DeviceState)) (n : ℕ) → ((slot : SessionSlot DeviceState) → place ≡ Some slot → slot.number ≡ n) → on_session_slot no_more n (place ∷ others_free) ≡ None ∷ others_free
unfolding on_session_slot
ended_at None n number = refl
ended_at (Some slot) n number = on_there no_more slot n (number slot refl)

none_let_go : (place : Option (SessionSlot DeviceState)) (n : ℕ) (t : Table) → session_in place ≡ None → ((slot : SessionSlot DeviceState) → place ≡ Some slot → slot.number ≡ n) → session_let_go t (session_in (session_slot_of (place ∷ others_free) n)) ≡ t
unfolding session_slot_of
none_let_go None n t none number = refl
none_let_go (Some slot) n t none number = ap (λ (o : Option (SessionSlot DeviceState)). session_let_go t (session_in o)) (slot_there slot n (number slot refl)) ∙ ap (session_let_go t) none

-- where it was over nothing comes back
pub is_ended : (d e : Core) (n : ℕ) (t : Table) → IsEnded d n t → e ≡ after_end_session d n → IsEmpty e (suc n) t
is_ended d e n t h after = record {
  slots = ap (λ (c : Core). c.slots) after ∙ (ap (λ (l : Slots). on_session_slot no_more n l) h.slots ∙ ended_at h.place n h.number);
  opened = ap (λ (c : Core). c.opened) after ∙ h.opened;
  registry = ap (λ (c : Core). c.registry) after
      ∙ (ap (λ (l : Slots). session_let_go d.registry (session_in (session_slot_of l n))) h.slots
      ∙ (none_let_go h.place n d.registry h.session h.number ∙ h.registry));
}

-- else all that it held does
pub is_lost : (d e : Core) (n : ℕ) (t : Table) (s : RequestSession DeviceState) → IsAlone d n t s → e ≡ after_end_session d n → IsEmpty e (suc n) (given_back t s.held)
is_lost d e n t s h after = record {
  slots = ap (λ (c : Core). c.slots) after ∙ (ap (λ (l : Slots). on_session_slot no_more n l) h.slots ∙ on_there no_more h.slot n h.number);
  opened = ap (λ (c : Core). c.opened) after ∙ h.opened;
  registry = ap (λ (c : Core). c.registry) after
      ∙ (ap (session_let_go d.registry) (session_is d n t s h) ∙ ap (λ (r : Table). given_back r s.held) h.registry);
}

-- ---- no other session stands

none_free : (m : ℕ) → session_slot_of others_free m ≡ None
unfolding session_slot_of
none_free m = refl

by_other : (slot : SessionSlot DeviceState) (m : ℕ) (b : Bool) → (slot.number == m) ≡ b → (slot.number ≡ m → ⊥) → session_in (if b then Some slot else session_slot_of others_free m) ≡ None
by_other slot m true e other = absurd (other (eqb-true slot.number m e))
by_other slot m false e other = ap session_in (none_free m)

pub other_none : (d : Core) (n m : ℕ) (t : Table) (s : RequestSession DeviceState) → IsAlone d n t s → (n ≡ m → ⊥) → session_of d m ≡ None
unfolding session_slot_of
other_none d n m t s h other = ap (λ (l : Slots). session_in (session_slot_of l m)) h.slots ∙ by_other h.slot m (h.slot.number == m) refl (λ e. other (sym h.number ∙ e))
