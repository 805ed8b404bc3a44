-- A slot among those that stand, by its number.
use Rattle.std.proofs.Common.{◌≡◌, ℕ, ◌<◌, List, [], ◌∷◌, length, Option, Some, None, Bool, true, false, cond, refl, ap, subst, ◌∙◌, sym, arith, zero, suc, slice_set, slice_index_or, nat_lt, ◌==◌}
use Rattle.std.specs.Option.{option_map, option_and_then}
use Rattle.std.specs.List.{position, position_or_len}
use Rattle.std.proofs.lemmas.List.Quantifiers.{position-Some}
use Rattle.std.proofs.lemmas.List.Sums.{fails_before_first}
use Rattle.std.proofs.lemmas.Bool.Decides.{nat_tests}
use Rattle.saned_core.specs.declared.session_slot.SessionSlot.{SessionSlot}
use Rattle.wire_codec.specs.Decoders.{DecoderState}
use Rattle.saned_core.specs.DaemonStates.{seen_session_slot, seen_session_slots, is_slot_number, session_slot_of, on_session_slot, session_in, with_session, no_more, kept_if_open, slot_if_open, after_taken, after_reply_bytes, all_slots_taken, with_session_slot}
use Rattle.saned_core.specs.Inside.{IsFirstSlot, IsMissing, is_vacant, TurnsSession, TurnsSlot}
use Rattle.saned_core.specs.Turns.{TurnsSessions, TurnsSlots}
use Rattle.saned_requests.specs.declared.session.Session.{Session}
use Rattle.saned_core.specs.declared.session_slot.DataStep.{DataStep}
use Rattle.device_api.specs.State.{DeviceState}

number-seen : {D S : Type 0} (f : D → S) (n : ℕ) (slot : Option (SessionSlot D)) → is_slot_number n (option_map (seen_session_slot f) slot) ≡ is_slot_number n slot
number-seen f n None = refl
number-seen f n (Some slot) = refl

-- what a search tells
pub found_first : {S : Type 0} (n : ℕ) (slots : List (Option (SessionSlot S))) (k : ℕ) → position (is_slot_number n) slots ≡ Some k → IsFirstSlot n slots k
found_first n slots k e = record {
  within = (position-Some (is_slot_number n) slots k None e).0;
  is = λ d. (position-Some (is_slot_number n) slots k d e).1;
  before = λ j d l. (position-Some (is_slot_number n) slots k d e).2 j l;
}

pub not_some : {A : Type 0} (b : Bool) (x : A) → cond b (Some x) None ≡ None → b ≡ false
not_some true x e = absurd (cc)
not_some false x e = refl

pub found_none : {S : Type 0} (n : ℕ) (slots : List (Option (SessionSlot S))) → position (is_slot_number n) slots ≡ None → IsMissing n slots
found_none n slots e =
    let past : nat_lt (position_or_len (is_slot_number n) slots) (length slots) ≡ false = not_some (nat_lt (position_or_len (is_slot_number n) slots) (length slots)) _ e in
    λ k d l. fails_before_first (is_slot_number n) slots k d (grind (arith, nat_tests))

-- a number that stands nowhere
pub no_slot : {D S : Type 0} (f : D → S) (n : ℕ) (slots : List (Option (SessionSlot D))) → IsMissing n slots → session_slot_of (seen_session_slots f slots) n ≡ None
unfolding session_slot_of
no_slot f n [] h = refl
no_slot f n (slot ∷ slots) h =
    let here : is_slot_number n (option_map (seen_session_slot f) slot) ≡ false = number-seen f n slot ∙ h 0 slot (omega arith) in
    rw here (no_slot f n slots (λ k d i. h (suc k) d (omega arith)))

pub on_no_slot : {D S : Type 0} (f : D → S) (n : ℕ) (slots : List (Option (SessionSlot D))) (g : SessionSlot S → Option (SessionSlot S)) → IsMissing n slots → on_session_slot g n (seen_session_slots f slots) ≡ seen_session_slots f slots
unfolding on_session_slot
on_no_slot f n [] g h = refl
on_no_slot f n (slot ∷ slots) g h =
    let here : is_slot_number n (option_map (seen_session_slot f) slot) ≡ false = number-seen f n slot ∙ h 0 slot (omega arith) in
    rw here (ap (λ (xs : List (Option (SessionSlot _))). option_map (seen_session_slot f) slot ∷ xs) (on_no_slot f n slots g (λ k d i. h (suc k) d (omega arith))))

-- the first of a number
pub first_slot : {D S : Type 0} (f : D → S) (n : ℕ) (slots : List (Option (SessionSlot D))) (k : ℕ) (here : Option (SessionSlot D)) → IsFirstSlot n slots k → here ≡ slice_index_or slots k here → session_slot_of (seen_session_slots f slots) n ≡ option_map (seen_session_slot f) here
unfolding session_slot_of
first_slot f n [] k here i e = absurd (omega (arith, i.within))
first_slot f n (slot ∷ slots) zero here i e =
    let own : is_slot_number n (option_map (seen_session_slot f) slot) ≡ true = number-seen f n slot ∙ i.is slot in
    rw own (ap (option_map (seen_session_slot f)) (sym e))
first_slot f n (slot ∷ slots) (suc k) here i e =
    let other : is_slot_number n (option_map (seen_session_slot f) slot) ≡ false = number-seen f n slot ∙ i.before 0 slot (omega arith) in
    rw other (first_slot f n slots k here (record { within = (let l : suc k < length (slot ∷ slots) = i.within in omega arith); is = i.is; before = λ j d l. i.before (suc j) d (omega arith) }) e)

pub on_first_slot : {D S : Type 0} (f : D → S) (n : ℕ) (slots : List (Option (SessionSlot D))) (k : ℕ) (here new : Option (SessionSlot D)) (g : SessionSlot S → Option (SessionSlot S)) → IsFirstSlot n slots k → here ≡ slice_index_or slots k here
    → option_map (seen_session_slot f) new ≡ option_and_then g (option_map (seen_session_slot f) here) → seen_session_slots f (slice_set slots k new) ≡ on_session_slot g n (seen_session_slots f slots)
unfolding on_session_slot
on_first_slot f n [] k here new g i e w = absurd (omega (arith, i.within))
on_first_slot f n (slot ∷ slots) zero here new g i e w =
    let own : is_slot_number n (option_map (seen_session_slot f) slot) ≡ true = number-seen f n slot ∙ i.is slot in
    rw own (ap (λ (x : Option (SessionSlot _)). x ∷ seen_session_slots f slots) (w ∙ ap (λ (x : Option (SessionSlot _)). option_and_then g (option_map (seen_session_slot f) x)) e))
on_first_slot f n (slot ∷ slots) (suc k) here new g i e w =
    let other : is_slot_number n (option_map (seen_session_slot f) slot) ≡ false = number-seen f n slot ∙ i.before 0 slot (omega arith) in
    rw other (ap (λ (xs : List (Option (SessionSlot _))). option_map (seen_session_slot f) slot ∷ xs) (on_first_slot f n slots k here new g (record { within = (let l : suc k < length (slot ∷ slots) = i.within in omega arith); is = i.is; before = λ j d l. i.before (suc j) d (omega arith) }) e w))

-- a slot that is as it was
pub same_slot : {D S : Type 0} (f : D → S) (slots : List (Option (SessionSlot D))) (k : ℕ) (here new : Option (SessionSlot D)) → here ≡ slice_index_or slots k here
    → option_map (seen_session_slot f) new ≡ option_map (seen_session_slot f) here → seen_session_slots f (slice_set slots k new) ≡ seen_session_slots f slots
same_slot f [] k here new e w = refl
same_slot f (slot ∷ slots) zero here new e w = ap (λ (x : Option (SessionSlot _)). x ∷ seen_session_slots f slots) (w ∙ ap (option_map (seen_session_slot f)) e)
same_slot f (slot ∷ slots) (suc k) here new e w = ap (λ (xs : List (Option (SessionSlot _))). option_map (seen_session_slot f) slot ∷ xs) (same_slot f slots k here new e w)

-- a turn of a slot is one of the slots
turn_of : {D : Type 0} (f : D → DeviceState) (n : ℕ) (slots : List (Option (SessionSlot D))) (k : ℕ) (here new : Option (SessionSlot D)) (step : DataStep) (buf : List ℕ) (o : Option (Session DeviceState)) → IsFirstSlot n slots k → here ≡ slice_index_or slots k here
    → TurnsSession o (option_map (seen_session_slot f) here) step (option_map (seen_session_slot f) new) buf → TurnsSessions o n (seen_session_slots f slots) step (seen_session_slots f (slice_set slots k new)) buf
turn_of f n slots k here new step buf None i e t = (t.0, same_slot f slots k here new e t.1)
turn_of f n slots k here new step buf (Some s) i e t = (t.0, t.1, on_first_slot f n slots k here new (with_session t.0) i e t.2)

pub turn_of_slot : {D : Type 0} (f : D → DeviceState) (n : ℕ) (slots : List (Option (SessionSlot D))) (k : ℕ) (here new : Option (SessionSlot D)) (step : DataStep) (buf : List ℕ) → IsFirstSlot n slots k → here ≡ slice_index_or slots k here
    → TurnsSlot (option_map (seen_session_slot f) here) step (option_map (seen_session_slot f) new) buf → TurnsSlots n (seen_session_slots f slots) step (seen_session_slots f (slice_set slots k new)) buf
turn_of_slot f n slots k here new step buf i e t =
    subst (λ (x : Option (SessionSlot DeviceState)). TurnsSessions (session_in x) n (seen_session_slots f slots) step (seen_session_slots f (slice_set slots k new)) buf) (sym (first_slot f n slots k here i e))
    (turn_of f n slots k here new step buf (session_in (option_map (seen_session_slot f) here)) i e t)

pub set_twice : {A : Type 0} (xs : List A) (k : ℕ) (a b : A) → slice_set (slice_set xs k a) k b ≡ slice_set xs k b
set_twice [] k a b = refl
set_twice (x ∷ xs) zero a b = refl
set_twice (x ∷ xs) (suc k) a b = ap (λ (ys : List _). x ∷ ys) (set_twice xs k a b)

pub none_more : {D S : Type 0} (f : D → S) (slot : Option (SessionSlot D)) → None ≡ option_and_then no_more (option_map (seen_session_slot f) slot)
none_more f None = refl
none_more f (Some slot) = refl

standing_of : {D S : Type 0} (f : D → S) (n : ℕ) (input : DecoderState) (replies : List ℕ) (session : Option (Session D)) → option_map (seen_session_slot f) (kept_if_open (record { number = n; input = input; replies = replies; session = session })) ≡ kept_if_open (seen_session_slot f (record { number = n; input = input; replies = replies; session = session }))
standing_of f n input [] None = refl
standing_of f n input (b ∷ bytes) None = refl
standing_of f n input replies (Some s) = refl

-- whether a slot stands does not turn on how its devices are seen
pub standing-seen : {D S : Type 0} (f : D → S) (slot : Option (SessionSlot D)) → option_map (seen_session_slot f) (option_and_then kept_if_open slot) ≡ option_and_then kept_if_open (option_map (seen_session_slot f) slot)
standing-seen f None = refl
standing-seen f (Some slot) = standing_of f slot.number slot.input slot.replies slot.session

pub taken-standing : {S : Type 0} (count : ℕ) (slot : Option (SessionSlot S)) → option_and_then kept_if_open (option_map (after_reply_bytes count) slot) ≡ option_and_then (after_taken count) slot
taken-standing count None = refl
taken-standing count (Some slot) = refl

-- ---- the first place that is free

pub full_slots : {D : Type 0} (f : D → DeviceState) (slots : List (Option (SessionSlot D))) (new : SessionSlot DeviceState) → ((k : ℕ) (d : Option (SessionSlot D)) → k < length slots → is_vacant (slice_index_or slots k d) ≡ false)
    → (all_slots_taken (seen_session_slots f slots) ≡ true) × (with_session_slot (seen_session_slots f slots) new ≡ seen_session_slots f slots)
unfolding with_session_slot
full_slots f [] new h = (refl, refl)
full_slots f (None ∷ slots) new h = absurd (let e : true ≡ false = h 0 None (omega arith) in cc)
full_slots f (Some slot ∷ slots) new h =
    let more = full_slots f slots new (λ k d i. h (suc k) d (omega arith)) in
    (more.0, ap (λ (xs : List (Option (SessionSlot DeviceState))). Some (seen_session_slot f slot) ∷ xs) more.1)

pub vacant_slot : {D : Type 0} (f : D → DeviceState) (slots : List (Option (SessionSlot D))) (k : ℕ) (new : SessionSlot D) → k < length slots → ((d : Option (SessionSlot D)) → is_vacant (slice_index_or slots k d) ≡ true) → ((j : ℕ) (d : Option (SessionSlot D)) → j < k → is_vacant (slice_index_or slots j d) ≡ false)
    → (all_slots_taken (seen_session_slots f slots) ≡ false) × (seen_session_slots f (slice_set slots k (Some new)) ≡ with_session_slot (seen_session_slots f slots) (seen_session_slot f new)) × (slice_index_or slots k None ≡ None)
unfolding with_session_slot
vacant_slot f [] k new i is other = absurd (omega arith)
vacant_slot f (None ∷ slots) zero new i is other = (refl, refl, refl)
vacant_slot f (Some slot ∷ slots) zero new i is other = absurd (let e : false ≡ true = is None in cc)
vacant_slot f (None ∷ slots) (suc k) new i is other = absurd (let e : true ≡ false = other 0 None (omega arith) in cc)
vacant_slot f (Some slot ∷ slots) (suc k) new i is other =
    let more = vacant_slot f slots k new (omega arith) is (λ j d l. other (suc j) d (omega arith)) in
    (more.0, ap (λ (xs : List (Option (SessionSlot DeviceState))). Some (seen_session_slot f slot) ∷ xs) more.1, more.2)

pub found_full : {S : Type 0} (slots : List (Option (SessionSlot S))) → position is_vacant slots ≡ None → (k : ℕ) (d : Option (SessionSlot S)) → k < length slots → is_vacant (slice_index_or slots k d) ≡ false
found_full slots e =
    let past : nat_lt (position_or_len is_vacant slots) (length slots) ≡ false = not_some (nat_lt (position_or_len is_vacant slots) (length slots)) _ e in
    λ k d l. fails_before_first is_vacant slots k d (grind (arith, nat_tests))

spent : {S : Type 0} (replies : List ℕ) (slot : SessionSlot S) → (length replies == 0) ≡ true → slot_if_open None replies slot ≡ None
spent [] slot e = refl
spent (b ∷ bytes) slot e = absurd (grind (arith, nat_tests, e))

unspent : {S : Type 0} (replies : List ℕ) (slot : SessionSlot S) → (length replies == 0) ≡ false → slot_if_open None replies slot ≡ Some slot
unspent [] slot e = absurd (grind (arith, nat_tests, e))
unspent (b ∷ bytes) slot e = refl

over_as : {S : Type 0} (slot : SessionSlot S) → slot.session ≡ None → kept_if_open slot ≡ slot_if_open None slot.replies (record slot { session = None })
over_as slot e = ap (λ (x : Option (Session _)). slot_if_open x slot.replies (record slot { session = x })) e

-- a slot whose session is over
pub spent_slot : {S : Type 0} (o : Option (SessionSlot S)) (slot : SessionSlot S) → o ≡ Some slot → slot.session ≡ None → (length slot.replies == 0) ≡ true → option_and_then kept_if_open o ≡ None
spent_slot o slot e n l = ap (option_and_then kept_if_open) e ∙ over_as slot n ∙ spent slot.replies (record slot { session = None }) l

pub over_slot : {S : Type 0} (o : Option (SessionSlot S)) (slot : SessionSlot S) → o ≡ Some slot → slot.session ≡ None → (length slot.replies == 0) ≡ false → option_and_then kept_if_open o ≡ Some (record slot { session = None })
over_slot o slot e n l = ap (option_and_then kept_if_open) e ∙ over_as slot n ∙ unspent slot.replies (record slot { session = None }) l
