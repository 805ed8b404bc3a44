-- The kinds of words meet the laws of a kind.
use Rattle.std.proofs.Common.{◌≡◌, ℕ, ◌+◌, ◌*◌, ◌%◌, ◌^◌, ◌≤◌, ◌<◌, Ok, Err, Some, None, refl, arith, ◌⊎◌, inl, inr}
use Rattle.std.proofs.lemmas.Bool.{cases_lt, lt-ltb, le-ltb, eq-eqb}
use Rattle.std.proofs.lemmas.Bool.Decides.{nat_tests}
use Rattle.wire_format.specs.declared.fault.Fault.{Fault}
use Rattle.wire_format.specs.WordKinds.{Among, IsKind}
use Rattle.sane_fixed.specs.declared.byte_order.ByteOrder.TheVariants.{Little, Big}
use Rattle.wire_message.specs.Kinds.{length_from, words_size, place, at_least, order}

-- ---- a length

length_judge : (low n : ℕ) → low ≤ n → n ≤ 1024 → (length_from low).judge n ≡ Ok n
length_judge low n p q = grind (arith, nat_tests)

length_inside : (low least most : ℕ) → (length_from low).part least most ≡ None → (least ≤ 1024) × (low ≤ most)
length_inside low least most h = (grind (arith, nat_tests), grind (arith, nat_tests))

length_more : (low : ℕ) → low ≤ 1024 → (k least most : ℕ) → least ≡ 256 * k → least + 255 ≤ most → most < 2 ^ 32 → (length_from low).part least most ≡ None → Among (length_from low) least most
length_more low small k least most e wide fits h =
    let inside = length_inside low least most h in
    elim (cases_lt low least) [
      | inl lt ↦ record { n = least; value = least; above = omega arith; below = omega arith; is = length_judge low least (omega arith) inside.0 }
      | inr le ↦ record { n = low; value = low; above = le; below = inside.1; is = length_judge low low (omega arith) small }
    ]

length_bad : (low least most : ℕ) (fault : Fault) → low ≤ 1024 → (length_from low).part least most ≡ Some fault → (n : ℕ) → least ≤ n → n ≤ most → (length_from low).judge n ≡ Err fault
length_bad low least most fault small h n from to = grind (arith, nat_tests)

length_less : (low least most least' most' : ℕ) (fault : Fault) → low ≤ 1024 → (length_from low).part least most ≡ Some fault → least ≤ least' → least' ≤ most' → most' ≤ most → (length_from low).part least' most' ≡ Some fault
length_less low least most least' most' fault small h p q r = grind (arith, nat_tests)

length_nothing : (low : ℕ) → low ≤ 1024 → (length_from low).part 0 4294967295 ≡ None
length_nothing low small = grind (arith, nat_tests)

pub length_kind : (low : ℕ) → low ≤ 1024 → IsKind (length_from low)
length_kind low small = record {
  more = length_more low small;
  bad = λ least most fault. length_bad low least most fault small;
  less = λ least most least' most' fault. length_less low least most least' most' fault small;
  nothing = length_nothing low small;
}

-- ---- the size of whole words

size_judge : (n : ℕ) → n ≤ 4096 → n % 4 ≡ 0 → words_size.judge n ≡ Ok n
size_judge n le e = rw (le-ltb 4096 n le, eq-eqb (n % 4) 0 e) refl

size_more : (k least most : ℕ) → least ≡ 256 * k → least + 255 ≤ most → most < 2 ^ 32 → words_size.part least most ≡ None → Among words_size least most
size_more k least most e wide fits h =
    elim (cases_lt 4096 least) [
      | inl lt ↦ let t = lt-ltb 4096 least lt in let no_part = rw t at h in absurd (cc no_part)
      | inr le ↦ record { n = least; value = least; above = omega arith; below = omega arith; is = size_judge least le (omega arith) }
    ]

size_bad : (least most : ℕ) (fault : Fault) → words_size.part least most ≡ Some fault → (n : ℕ) → least ≤ n → n ≤ most → words_size.judge n ≡ Err fault
size_bad least most fault h n from to = grind (arith, nat_tests)

size_less : (least most least' most' : ℕ) (fault : Fault) → words_size.part least most ≡ Some fault → least ≤ least' → least' ≤ most' → most' ≤ most → words_size.part least' most' ≡ Some fault
size_less least most least' most' fault h p q r = grind (arith, nat_tests)

pub size_kind : IsKind words_size
size_kind = record { more = size_more; bad = size_bad; less = size_less; nothing = refl }

-- ---- a signed number that is no smaller

place_judge : (low n : ℕ) → place low ≤ place n → (at_least low).judge n ≡ Ok n
place_judge low n le = rw (le-ltb (place n) (place low) le) refl

place_last : (low : ℕ) → low < 2 ^ 32 → place low ≤ place 2147483647
place_last low fits = grind (arith, nat_tests)

place_inside : (low least most : ℕ) → (at_least low).part least most ≡ None → ((least < 2147483648) × (2147483647 < most)) ⊎ (place low ≤ place most)
place_inside low least most h = grind (arith, nat_tests)

place_more : (low : ℕ) → low < 2 ^ 32 → (k least most : ℕ) → least ≡ 256 * k → least + 255 ≤ most → most < 2 ^ 32 → (at_least low).part least most ≡ None → Among (at_least low) least most
place_more low small k least most e wide fits h =
    elim (place_inside low least most h) [
      | inl across ↦ record { n = 2147483647; value = 2147483647; above = omega arith; below = omega arith; is = place_judge low 2147483647 (place_last low small) }
      | inr le ↦ record { n = most; value = most; above = omega arith; below = omega arith; is = place_judge low most le }
    ]

place_bad : (low least most : ℕ) (fault : Fault) → (at_least low).part least most ≡ Some fault → (n : ℕ) → least ≤ n → n ≤ most → (at_least low).judge n ≡ Err fault
place_bad low least most fault h n from to = grind (arith, nat_tests)

place_less : (low least most least' most' : ℕ) (fault : Fault) → (at_least low).part least most ≡ Some fault → least ≤ least' → least' ≤ most' → most' ≤ most → (at_least low).part least' most' ≡ Some fault
place_less low least most least' most' fault h p q r = grind (arith, nat_tests)

pub at_least_kind : (low : ℕ) → low < 2 ^ 32 → IsKind (at_least low)
at_least_kind low small = record { more = place_more low small; bad = place_bad low; less = place_less low; nothing = refl }

-- ---- the byte order

order_inside : (least most : ℕ) → order.part least most ≡ None → ((least ≤ 4660) × (4660 ≤ most)) ⊎ ((least ≤ 17185) × (17185 ≤ most))
order_inside least most h = grind (arith, nat_tests)

order_more : (k least most : ℕ) → least ≡ 256 * k → least + 255 ≤ most → most < 2 ^ 32 → order.part least most ≡ None → Among order least most
order_more k least most e wide fits h =
    elim (order_inside least most h) [
      | inl p ↦ record { n = 4660; value = Little; above = p.0; below = p.1; is = refl }
      | inr p ↦ record { n = 17185; value = Big; above = p.0; below = p.1; is = refl }
    ]

order_bad : (least most : ℕ) (fault : Fault) → order.part least most ≡ Some fault → (n : ℕ) → least ≤ n → n ≤ most → order.judge n ≡ Err fault
order_bad least most fault h n from to = grind (arith, nat_tests)

order_less : (least most least' most' : ℕ) (fault : Fault) → order.part least most ≡ Some fault → least ≤ least' → least' ≤ most' → most' ≤ most → order.part least' most' ≡ Some fault
order_less least most least' most' fault h p q r = grind (arith, nat_tests)

pub order_kind : IsKind order
order_kind = record { more = order_more; bad = order_bad; less = order_less; nothing = refl }
