-- What is done to one session leaves the others.
use Rattle.std.proofs.Common.{◌≡◌, ◌≢◌, ℕ, List, [], ◌∷◌, Option, Some, None, Bool, true, false, refl, sym, ap, arith}
use Rattle.std.specs.Option.{option_and_then}
use Rattle.std.proofs.lemmas.Bool.Decides.{nat_tests}
use Rattle.device_api.specs.State.{DeviceState}
use Rattle.saned_core.specs.declared.session_slot.SessionSlot.{SessionSlot}
use Rattle.saned_requests.specs.declared.session.Session.{Session}
use Rattle.saned_requests.specs.RequestAnswers.{RequestContext}
use Rattle.saned_core.specs.declared.session_slot.Fed.{Fed}
use Rattle.saned_core.specs.declared.session_slot.Fed.TheVariants.{Standing, Over, Starved}
use Rattle.saned_core.specs.DaemonStates.{is_slot_number, kept_if_open, session_slot_of, slot_if_open, on_session_slot}
use Rattle.saned_core.specs.Inside.{slot_after_feed, slot_or_none_after_feed}

abbrev pub KeepsNumber : (SessionSlot DeviceState → Option (SessionSlot DeviceState)) → Type 0
KeepsNumber f = (slot new : SessionSlot DeviceState) → f slot ≡ Some new → new.number ≡ slot.number

-- a slot of one number has no other
other_number : (f : SessionSlot DeviceState → Option (SessionSlot DeviceState)) (n m : ℕ) (slot : Option (SessionSlot DeviceState)) → n ≢ m → is_slot_number n slot ≡ true → is_slot_number m slot ≡ false
other_number f n m None h e = refl
other_number f n m (Some slot) h e = grind (arith, nat_tests)

other_after : (n m : ℕ) (slot : SessionSlot DeviceState) (new : Option (SessionSlot DeviceState)) → ((s : SessionSlot DeviceState) → new ≡ Some s → s.number ≡ slot.number) → n ≢ m → is_slot_number n (Some slot) ≡ true → is_slot_number m new ≡ false
other_after n m slot None k h e = refl
other_after n m slot (Some s) k h e = let same : s.number ≡ slot.number = k s refl in grind (arith, nat_tests)

apart_here : (f : SessionSlot DeviceState → Option (SessionSlot DeviceState)) (n m : ℕ) (slot : Option (SessionSlot DeviceState)) → KeepsNumber f → n ≢ m → is_slot_number n slot ≡ true → is_slot_number m (option_and_then f slot) ≡ false
apart_here f n m None k h e = refl
apart_here f n m (Some slot) k h e = other_after n m slot (f slot) (λ s q. k slot s q) h e

apart_at : (f : SessionSlot DeviceState → Option (SessionSlot DeviceState)) (n m : ℕ) (slot : Option (SessionSlot DeviceState)) (slots more : List (Option (SessionSlot DeviceState))) (b c : Bool) → is_slot_number n slot ≡ b → is_slot_number m slot ≡ c → KeepsNumber f → n ≢ m
    → session_slot_of more m ≡ session_slot_of slots m → on_session_slot f n slots ≡ more → session_slot_of (on_session_slot f n (slot ∷ slots)) m ≡ session_slot_of (slot ∷ slots) m
unfolding session_slot_of on_session_slot
apart_at f n m slot slots more true c e q k h w r = rw (e, apart_here f n m slot k h e, other_number f n m slot h e) refl
apart_at f n m slot slots more false true e q k h w r = rw (e, q) refl
apart_at f n m slot slots more false false e q k h w r = rw (e, q, r) w

pub apart : (slots : List (Option (SessionSlot DeviceState))) (f : SessionSlot DeviceState → Option (SessionSlot DeviceState)) (n m : ℕ) → KeepsNumber f → n ≢ m → session_slot_of (on_session_slot f n slots) m ≡ session_slot_of slots m
unfolding session_slot_of on_session_slot
apart [] f n m k h = refl
apart (slot ∷ slots) f n m k h = apart_at f n m slot slots (on_session_slot f n slots) (is_slot_number n slot) (is_slot_number m slot) refl refl k h (apart slots f n m k h) refl

-- ---- a slot whose session was fed keeps its number

pub some_number : (slot new : SessionSlot DeviceState) → Some slot ≡ Some new → new.number ≡ slot.number
some_number slot new e = let same : slot ≡ new = cc in ap (λ (s : SessionSlot DeviceState). s.number) (sym same)

stands : (session : Option (Session DeviceState)) (replies : List ℕ) (slot new : SessionSlot DeviceState) → slot_if_open session replies slot ≡ Some new → new.number ≡ slot.number
stands (Some session) replies slot new e = some_number slot new e
stands None [] slot new e = absurd (cc)
stands None (byte ∷ bytes) slot new e = some_number slot new e

pub if_stands : (slot new : SessionSlot DeviceState) → kept_if_open slot ≡ Some new → new.number ≡ slot.number
if_stands slot new e = stands slot.session slot.replies slot new e

pub feed_keeps : (fed : Fed) (d : RequestContext) (rest text : List ℕ) → KeepsNumber (slot_or_none_after_feed fed d rest text)
feed_keeps Standing d rest text slot new e = if_stands (slot_after_feed Standing d.session rest text slot) new e
feed_keeps Over d rest text slot new e = if_stands (slot_after_feed Over d.session rest text slot) new e
feed_keeps Starved d rest text slot new e = if_stands (slot_after_feed Starved d.session rest text slot) new e
