-- Eight slots that stand have eight numbers.
use Rattle.std.specs.Prelude.{if◌then◌else◌, ◌||◌, nat_eq, Contains}
use Rattle.std.specs.List.{AllByRecursion, IsDistinct}
use Rattle.std.specs.Set.{is_member}
use Rattle.std.proofs.Common.{◌≡◌, ◌≢◌, ◌<◌, ◌≤◌, ◌∙◌, ℕ, List, [], ◌∷◌, Some, None, Bool, true, false, length, refl, sym, arith}
use Rattle.std.proofs.lemmas.Bool.Decides.{Decides-eqb, nat_tests}
use Rattle.std.proofs.lemmas.Cmp.{nat_eq_equiv}
use Rattle.std.proofs.lemmas.Map.Made.{is_member-Decides, length-le_from_is_member}
use Rattle.saned_core.specs.DaemonLimits.{HasDaemonLimits, HaveOwnNumbers, IsFree}
use Rattle.saned_core.specs.DaemonStates.{Core, all_slots_taken, is_slot_number, session_slot_of}
use Rattle.in_flight.specs.FreePlaces.{FewerThanEightLeaveAPlace}
use Rattle.in_flight.proofs.Slots.{Slot, Slots}

abbrev numbers_of : Slots → List ℕ
numbers_of [] = []
numbers_of (None ∷ slots) = numbers_of slots
numbers_of (Some slot ∷ slots) = slot.number ∷ numbers_of slots

length_taken : (slots : Slots) → all_slots_taken slots ≡ true → length (numbers_of slots) ≡ length slots
length_taken [] all = refl
length_taken (None ∷ slots) all = absurd (let wrong : false ≡ true = all in cc)
length_taken (Some slot ∷ slots) all = let more = length_taken slots all in omega (arith, more)

off_number : (n m : ℕ) → m ≢ n → nat_eq n m ≡ false
off_number n m off = grind (arith, nat_tests)

apart_from : (n : ℕ) (slots : Slots) → IsFree n slots → AllByRecursion (λ m. nat_eq n m ≡ false) (numbers_of slots)
apart_from n [] free = tt
apart_from n (None ∷ slots) free = apart_from n slots free.1
apart_from n (Some slot ∷ slots) free = (off_number n slot.number free.0, apart_from n slots free.1)

own_distinct : (k : ℕ) (slots : Slots) → HaveOwnNumbers k slots → IsDistinct nat_eq (numbers_of slots)
unfolding IsDistinct
own_distinct k [] own = tt
own_distinct k (None ∷ slots) own = own_distinct k slots own
own_distinct k (Some slot ∷ slots) own = (apart_from slot.number slots own.1, own_distinct k slots own.2)

same_number : (q : ℕ) (slot : Slot) → nat_eq q slot.number ≡ true → is_slot_number q (Some slot) ≡ true
same_number q slot e = grind (arith, nat_tests)

standing : (slots : Slots) (q : ℕ) → is_member nat_eq (numbers_of slots) q ≡ true → session_slot_of slots q ≢ None
unfolding session_slot_of
standing [] q e none = let wrong : false ≡ true = e in cc
standing (None ∷ slots) q e none = standing slots q e none
standing (Some slot ∷ slots) q e none = by (is_slot_number q (Some slot)) refl (λ at. standing slots q at) none
  where
    later : (b : Bool) → nat_eq q slot.number ≡ b → (b || is_member nat_eq (numbers_of slots) q) ≡ true → is_slot_number q (Some slot) ≡ false → is_member nat_eq (numbers_of slots) q ≡ true
    later true at h off = absurd (let wrong : true ≡ false = sym (same_number q slot at) ∙ off in cc)
    later false at h off = h

    by : (b : Bool) → is_slot_number q (Some slot) ≡ b → (is_member nat_eq (numbers_of slots) q ≡ true → session_slot_of slots q ≢ None) → (if b then Some slot else session_slot_of slots q) ≡ None → ⊥
    by true at more h = let wrong : Some slot ≡ None = h in cc
    by false at more h = more (later (nat_eq q slot.number) refl e at) h

room_by : (b : Bool) (d : Core) (numbers : List ℕ) → HasDaemonLimits d → ((n : ℕ) → session_slot_of d.slots n ≢ None → Contains numbers n) → length numbers < 8 → all_slots_taken d.slots ≡ b → b ≡ false
room_by false d numbers limits known few e = refl
room_by true d numbers limits known few e =
    let most : length (numbers_of d.slots) ≤ length numbers =
    length-le_from_is_member nat_eq_equiv (numbers_of d.slots) numbers (own_distinct d.opened d.slots limits.1)
    (λ q at. (is_member-Decides Decides-eqb numbers q).1 (known q (standing d.slots q at))) in
    let eight : length (numbers_of d.slots) ≡ 8 = length_taken d.slots e ∙ limits.0 in
    absurd (omega (arith, most, eight, few))

pub a_place_is_left : FewerThanEightLeaveAPlace
a_place_is_left d numbers limits known few = room_by (all_slots_taken d.slots) d numbers limits known few refl
