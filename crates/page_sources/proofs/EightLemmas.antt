-- Products in parts, and the numbers of eights of a row.
use Rattle.std.proofs.Common.{Bool, true, false, cond, leb, ◌&&◌, subst, sym, ◌≡◌, ℕ, ◌+◌, ◌-◌, ◌*◌, ◌/◌, ◌%◌, ◌<◌, ◌≤◌, List, inl, inr, take, drop, arith, refl, ap, ◌∙◌}
use Rattle.std.specs.Prelude.{slice_index, nat_lt, MatchBool}
use Rattle.netpbm.specs.Pnm.{number_in}
use Rattle.netpbm.specs.Raster.{NoneAbove, SomeAbove}
use Rattle.std.proofs.lemmas.Bool.{cases_lt}
use Rattle.std.proofs.lemmas.Bool.Decides.{nat_tests}
use Rattle.std.proofs.Math.Nat.{mul-add, mul_assoc}
use Rattle.std.proofs.lemmas.List.{get_or-take, get_or-drop}
use Rattle.page_sources.proofs.ScalingLemmas.{scaled_by_factor, scaled_fits}

-- ---- a product with a factor in parts

-- what is carried: a sum of two bytes is below what was added where it came out too long
pub carry_is : (b r one : ℕ) → r < 65536 → ((b % 65536 + r) % 65536 < r → one ≡ 1) → (r ≤ (b % 65536 + r) % 65536 → one ≡ 0) → one ≡ (b % 65536 + r) / 65536
carry_is b r one small below other =
    let part : b % 65536 < 65536 = omega arith in
    elim (cases_lt ((b % 65536 + r) % 65536) r) as (λ _. one ≡ (b % 65536 + r) / 65536) [
      | inl less ↦ let is = below less in omega (arith, is, less, part, small)
      | inr more ↦ let is = other more in omega (arith, is, more, part, small)
    ]

-- the parts of a product
product_parts : (n u d l : ℕ) → n * (u * 4294967296 + d * 65536 + l) ≡ n * u * 4294967296 + n * d * 65536 + n * l
product_parts n u d l =
    let outer = mul-add n (u * 4294967296 + d * 65536) l in
    let inner = mul-add n (u * 4294967296) (d * 65536) in
    omega (arith, outer, inner, mul_assoc n u 4294967296, mul_assoc n d 65536)

upper_of : (a b c : ℕ) → (a * 4294967296 + b * 65536 + c) / 4294967296 ≡ a + (b / 65536 + (b % 65536 + c / 65536) / 65536)
upper_of a b c = omega arith

pub parts_scaled : (n m u d l one : ℕ) → 1 ≤ m → m ≤ 65535 → n ≤ m → u * 4294967296 + d * 65536 + l ≡ 281470681743360 / m + 1 → one ≡ (n * d % 65536 + n * l / 65536) / 65536
    → (n * u % 65536 + (n * d / 65536 + one) % 65536) % 65536 ≡ n * 65535 / m
parts_scaled n m u d l one some most limit factor carried =
    let by_factor : n * (u * 4294967296 + d * 65536 + l) / 4294967296 ≡ n * 65535 / m =
    ap (λ (f : ℕ). n * f / 4294967296) factor ∙ scaled_by_factor n m some most limit in
    let parts = product_parts n u d l in
    let upper = upper_of (n * u) (n * d) (n * l) in
    let whole : n * u + (n * d / 65536 + one) ≡ n * 65535 / m =
    ap (λ (o : ℕ). n * u + (n * d / 65536 + o)) carried ∙ (sym upper ∙ (ap (λ (p : ℕ). p / 4294967296) (sym parts) ∙ by_factor)) in
    let fits = scaled_fits n m limit in
    omega (arith, whole, fits)

-- ---- eights of a row

-- the number at a place, which is that of an eight
pub word_of_eight : (bytes : List ℕ) (n i : ℕ)
    → 256 * slice_index bytes (2 * (8 * n + i)) + slice_index bytes (2 * (8 * n + i) + 1) ≡ 256 * slice_index bytes (16 * n + 2 * i) + slice_index bytes (16 * n + 2 * i + 1)
word_of_eight bytes n i =
    let first : 2 * (8 * n + i) ≡ 16 * n + 2 * i = omega arith in
    let second : 2 * (8 * n + i) + 1 ≡ 16 * n + 2 * i + 1 = omega arith in
    ap (λ (k : ℕ). 256 * slice_index bytes k + slice_index bytes (2 * (8 * n + i) + 1)) first
    ∙ ap (λ (k : ℕ). 256 * slice_index bytes (16 * n + 2 * i) + slice_index bytes k) second

pub word_at : (bytes : List ℕ) (n j : ℕ) → 8 * n ≤ j
    → 256 * slice_index bytes (16 * n + 2 * (j - 8 * n)) + slice_index bytes (16 * n + 2 * (j - 8 * n) + 1) ≡ 256 * slice_index bytes (2 * j) + slice_index bytes (2 * j + 1)
word_at bytes n j more =
    let place : 8 * n + (j - 8 * n) ≡ j = omega (arith, more) in
    sym (word_of_eight bytes n (j - 8 * n)) ∙ ap (λ (k : ℕ). 256 * slice_index bytes (2 * k) + slice_index bytes (2 * k + 1)) place

-- ---- whether the numbers of an eight are above the greatest

number_is_word : (m : ℕ) (bytes : List ℕ) (i : ℕ) → 256 ≤ m → number_in m bytes i ≡ 256 * slice_index bytes (2 * i) + slice_index bytes (2 * i + 1)
number_is_word m bytes i two =
    let test : nat_lt m 256 ≡ false = grind (arith, nat_tests, two) in
    ap (λ (t : Bool). cond t (slice_index bytes i) (256 * slice_index bytes (2 * i) + slice_index bytes (2 * i + 1))) test

-- ---- a part of a row

-- a byte of a part
part_byte : (bytes : List ℕ) (from to i : ℕ) → i < to - from → slice_index (take (to - from) (drop from bytes)) i ≡ slice_index bytes (from + i)
part_byte bytes from to i less = get_or-take (to - from) (drop from bytes) i 0 less ∙ get_or-drop from bytes i 0

pub byte_of_part : (m : ℕ) (bytes : List ℕ) (at count i : ℕ) → m < 256 → i < count → slice_index (take (at + count - at) (drop at bytes)) i ≡ number_in m bytes (at + i)
byte_of_part m bytes at count i one less =
    let test : nat_lt m 256 ≡ true = grind (arith, nat_tests, one) in
    part_byte bytes at (at + count) i (omega (arith, less))
    ∙ sym (ap (λ (t : Bool). cond t (slice_index bytes (at + i)) (256 * slice_index bytes (2 * (at + i)) + slice_index bytes (2 * (at + i) + 1))) test)

pub word_of_part : (m : ℕ) (bytes : List ℕ) (at count i : ℕ) → 256 ≤ m → i < count
    → 256 * slice_index (take (2 * (at + count) - 2 * at) (drop (2 * at) bytes)) (2 * i) + slice_index (take (2 * (at + count) - 2 * at) (drop (2 * at) bytes)) (2 * i + 1) ≡ number_in m bytes (at + i)
word_of_part m bytes at count i two less =
    let part = take (2 * (at + count) - 2 * at) (drop (2 * at) bytes) in
    let upper : 2 * at + 2 * i ≡ 2 * (at + i) = omega arith in
    let lower : 2 * at + (2 * i + 1) ≡ 2 * (at + i) + 1 = omega arith in
    let first : slice_index part (2 * i) ≡ slice_index bytes (2 * (at + i)) = part_byte bytes (2 * at) (2 * (at + count)) (2 * i) (omega (arith, less)) ∙ ap (slice_index bytes) upper in
    let second : slice_index part (2 * i + 1) ≡ slice_index bytes (2 * (at + i) + 1) = part_byte bytes (2 * at) (2 * (at + count)) (2 * i + 1) (omega (arith, less)) ∙ ap (slice_index bytes) lower in
    ap (λ (v : ℕ). 256 * v + slice_index part (2 * i + 1)) first
    ∙ (ap (λ (v : ℕ). 256 * slice_index bytes (2 * (at + i)) + v) second
    ∙ sym (number_is_word m bytes (at + i) two))

-- ---- the greatest of each lane

-- the greatest of each lane's bytes tell whether all fit under one whose lower byte is the greatest
pub uppers_tell : (fits : Bool) (m eights : ℕ) (bytes greatest : List ℕ) → 256 ≤ m → m % 256 ≡ 255 → ((i : ℕ) → slice_index bytes i < 256)
    → ((i : ℕ) → i < 16 * eights → slice_index bytes i ≤ slice_index greatest (i % 16))
    → ((k : ℕ) → k < 16 → 0 < slice_index greatest k → (n : ℕ) × (n < eights) × (slice_index greatest k ≡ slice_index bytes (16 * n + k)))
    → (fits ≡ true → (k : ℕ) → k < 8 → slice_index greatest (2 * k) ≤ m / 256)
    → (fits ≡ false → (k : ℕ) × (k < 8) × (m / 256 < slice_index greatest (2 * k)))
    → MatchBool fits (NoneAbove m bytes (8 * eights)) (SomeAbove m bytes (8 * eights))
uppers_tell true m eights bytes greatest two last small most one within above = λ i inside.
    let lane : 2 * i % 16 ≡ 2 * (i % 8) = omega arith in
    let below = most (2 * i) (omega (arith, inside)) in
    let upper = subst (λ (k : ℕ). slice_index bytes (2 * i) ≤ slice_index greatest k) lane below in
    let fit = within refl (i % 8) (omega arith) in
    omega (arith, upper, fit, last, small (2 * i + 1), number_is_word m bytes i two)
uppers_tell false m eights bytes greatest two last small most one within above =
    let (k, few, more) = above refl in
    let (n, inside, is) = one (2 * k) (omega (arith, few)) (omega (arith, more)) in
    let place : 16 * n + 2 * k ≡ 2 * (8 * n + k) = omega arith in
    let upper : slice_index greatest (2 * k) ≡ slice_index bytes (2 * (8 * n + k)) = is ∙ ap (slice_index bytes) place in
    (8 * n + k, omega (arith, inside, few), omega (arith, more, upper, last, number_is_word m bytes (8 * n + k) two))

-- one number more is tested
pub fits_next : (fit : Bool) (m i v : ℕ) (bytes : List ℕ) → v ≡ number_in m bytes i → MatchBool fit (NoneAbove m bytes i) (SomeAbove m bytes i) → MatchBool (fit && leb v m) (NoneAbove m bytes (i + 1)) (SomeAbove m bytes (i + 1))
fits_next true m i v bytes is none =
    let P : Bool → Type 0 = λ t. leb v m ≡ t → MatchBool (true && t) (NoneAbove m bytes (i + 1)) (SomeAbove m bytes (i + 1)) in
    (elim (leb v m) as P [
      | true ↦ λ e. λ j less. elim (cases_lt j i) as (λ _. number_in m bytes j ≤ m) [
        | inl low ↦ none j low
        | inr high ↦
            let here : i ≡ j = omega (arith, less, high) in
            let below : v ≤ m = grind (arith, nat_tests, e) in
            subst (λ (k : ℕ). number_in m bytes k ≤ m) here (omega (arith, below, is))
      ]
      | false ↦ λ e. let above : m < v = grind (arith, nat_tests, e) in (i, omega arith, omega (arith, above, is))
    ]) refl
fits_next false m i v bytes is some =
    let (j, inside, above) = some in
    (j, omega (arith, inside), above)
