-- A slot among those that stand, where each session has a number of its own.
use Rattle.std.specs.Prelude.{if◌then◌else◌, ◌==◌}
use Rattle.std.specs.Option.{option_and_then}
use Rattle.std.proofs.Common.{◌≡◌, ◌≢◌, ◌∙◌, ◌⊎◌, inl, inr, ℕ, List, [], ◌∷◌, Option, Some, None, Bool, true, false, refl, sym, ap, arith}
use Rattle.std.proofs.lemmas.Bool.Decides.{nat_tests}
use Rattle.device_api.specs.State.{DeviceState}
use Rattle.saned_core.specs.declared.session_slot.SessionSlot.{SessionSlot}
use Rattle.saned_core.specs.DaemonLimits.{HaveOwnNumbers, IsFree}
use Rattle.saned_core.specs.DaemonStates.{all_slots_taken, is_slot_number, on_session_slot, session_slot_of, with_session_slot}

abbrev pub Slot : Type 0
Slot = SessionSlot DeviceState

abbrev pub Slots : Type 0
Slots = List (Option Slot)

abbrev pub Change : Type 0
Change = Slot → Option Slot

abbrev pub KeepsNumber : Change → Type 0
KeepsNumber f = (slot new : Slot) → f slot ≡ Some new → new.number ≡ slot.number

pub decide : (a b : ℕ) → (a ≡ b) ⊎ (a ≢ b)
decide a b = by (a == b) refl
  where
    by : (v : Bool) → (a == b) ≡ v → (a ≡ b) ⊎ (a ≢ b)
    by true e = inl (grind (arith, nat_tests))
    by false e = inr (λ same. grind (arith, nat_tests))

number_off : (m : ℕ) (slot : Slot) → slot.number ≢ m → is_slot_number m (Some slot) ≡ false
number_off m slot off = grind (arith, nat_tests)

number_on : (m : ℕ) (slot : Slot) → slot.number ≡ m → is_slot_number m (Some slot) ≡ true
number_on m slot on = grind (arith, nat_tests)

number_of : (m : ℕ) (slot : Slot) → is_slot_number m (Some slot) ≡ true → slot.number ≡ m
number_of m slot on = grind (arith, nat_tests)

pub none_free : (n : ℕ) (slots : Slots) → IsFree n slots → session_slot_of slots n ≡ None
unfolding session_slot_of
none_free n [] free = refl
none_free n (None ∷ slots) free = none_free n slots free.1
none_free n (Some slot ∷ slots) free = rw (number_off n slot free.0) (none_free n slots free.1)

pub unused : (n : ℕ) (slots : Slots) → HaveOwnNumbers n slots → IsFree n slots
unused n [] own = tt
unused n (None ∷ slots) own = (tt, unused n slots own)
unused n (Some slot ∷ slots) own = (λ e. omega (arith, e, own.0), unused n slots own.2)

-- ---- one that changes

here_after : (f : Change) (n : ℕ) (new : Option Slot) (slot : Slot) (slots : Slots) → KeepsNumber f → f slot ≡ new → slot.number ≡ n → session_slot_of slots n ≡ None → (if is_slot_number n new then new else session_slot_of slots n) ≡ new
here_after f n None slot slots keeps e on none = none
here_after f n (Some s) slot slots keeps e on none = rw (number_on n s (keeps slot s e ∙ on)) refl

own_at : (f : Change) (n : ℕ) (slot : Slot) (slots : Slots) (b : Bool) → KeepsNumber f → session_slot_of slots slot.number ≡ None → is_slot_number n (Some slot) ≡ b → session_slot_of (on_session_slot f n slots) n ≡ option_and_then f (session_slot_of slots n)
    → session_slot_of (if b then f slot ∷ slots else Some slot ∷ on_session_slot f n slots) n ≡ option_and_then f (if b then Some slot else session_slot_of slots n)
unfolding session_slot_of
own_at f n slot slots true keeps alone e more =
    let on = number_of n slot e in
    here_after f n (f slot) slot slots keeps refl on (ap (session_slot_of slots) (sym on) ∙ alone)
own_at f n slot slots false keeps alone e more = rw e more

pub own_slot : (f : Change) (n k : ℕ) (slots : Slots) → KeepsNumber f → HaveOwnNumbers k slots → session_slot_of (on_session_slot f n slots) n ≡ option_and_then f (session_slot_of slots n)
unfolding session_slot_of on_session_slot
own_slot f n k [] keeps own = refl
own_slot f n k (None ∷ slots) keeps own = own_slot f n k slots keeps own
own_slot f n k (Some slot ∷ slots) keeps own = own_at f n slot slots (is_slot_number n (Some slot)) keeps (none_free slot.number slots own.1) refl (own_slot f n k slots keeps own.2)

-- ---- one more

pub opened_own : (slots : Slots) (new : Slot) → all_slots_taken slots ≡ false → IsFree new.number slots → session_slot_of (with_session_slot slots new) new.number ≡ Some new
unfolding session_slot_of with_session_slot
opened_own [] new room free = absurd (let wrong : true ≡ false = room in cc)
opened_own (None ∷ slots) new room free = rw (number_on new.number new refl) refl
opened_own (Some slot ∷ slots) new room free = rw (number_off new.number slot free.0) (opened_own slots new room free.1)

pub opened_other : (slots : Slots) (new : Slot) (m : ℕ) → m ≢ new.number → session_slot_of (with_session_slot slots new) m ≡ session_slot_of slots m
unfolding session_slot_of with_session_slot
opened_other [] new m off = refl
opened_other (None ∷ slots) new m off = rw (number_off m new (λ e. off (sym e))) refl
opened_other (Some slot ∷ slots) new m off = ap (λ (x : Option Slot). if is_slot_number m (Some slot) then Some slot else x) (opened_other slots new m off)
