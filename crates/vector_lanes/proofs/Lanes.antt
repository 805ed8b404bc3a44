-- Lanes of a vector: of eight or sixteen numbers, beside others, chosen by a test, as they are loaded and turned.
use Rattle.std.proofs.Common.{Fits, w16, Bool, true, false, cond, ltb, map, replicate, subst, sym, ◌≡◌, ℕ, zero, suc, ◌+◌, ◌*◌, ◌/◌, ◌%◌, ◌^◌, ◌<◌, ◌≤◌, ◌⊎◌, List, [], ◌∷◌, inl, inr, length, get_or, arith, refl, ap, ◌∙◌}
use Rattle.std.specs.Prelude.{slice_index}
use Rattle.std.specs.Simd.Lanes.{chunk, zip2, sel_l, Each1, number_l, digits_l}
use Rattle.std.proofs.lemmas.Bool.{cases_lt}
use Rattle.std.proofs.lemmas.Bool.Decides.{nat_tests}
use Rattle.std.proofs.Math.Nat.{mul-le-mul}
use Rattle.std.proofs.lemmas.List.{length-map, get_or-map}
use Rattle.std.proofs.lemmas.Simd.{length-chunk, get_or-chunk, length-zip2, get_or-zip2, get_or-replicate, get_or_wider, get_or-sel_l, length-sel_l, Each1-from_get_or}

-- a lane of eight lanes beside eight of one value
pub splat_lane : (f : ℕ → ℕ → ℕ) (xs : List ℕ) (y i : ℕ) → length xs ≡ 8 → i < 8 → get_or (zip2 f xs (replicate 8 y)) i 0 ≡ f (get_or xs i 0) y
splat_lane f xs y i long less =
    get_or-zip2 f xs (replicate 8 y) i 0 0 0 (subst (λ (n : ℕ). i < n) (sym long) less) less ∙ ap (f (get_or xs i 0)) (get_or-replicate 8 i y 0 less)

pub length-splat : (f : ℕ → ℕ → ℕ) (xs : List ℕ) (y : ℕ) → length xs ≡ 8 → length (zip2 f xs (replicate 8 y)) ≡ 8
length-splat f xs y long = length-zip2 f xs (replicate 8 y) long ∙ long

-- the same of eight lanes that were cast
pub cast_lane : (f : ℕ → ℕ → ℕ) (g : ℕ → ℕ) (xs : List ℕ) (y i : ℕ) → length xs ≡ 8 → i < 8 → get_or (zip2 f (map g xs) (replicate 8 y)) i 0 ≡ f (g (get_or xs i 0)) y
cast_lane f g xs y i long less =
    splat_lane f (map g xs) y i (length-map xs g ∙ long) less ∙ ap (λ (x : ℕ). f x y) (get_or-map g xs i 0 0 (subst (λ (n : ℕ). i < n) (sym long) less))

-- a lane of two vectors
pub lane_of_two : (f : ℕ → ℕ → ℕ) (xs ys : List ℕ) (i : ℕ) → length xs ≡ 8 → length ys ≡ 8 → i < 8 → get_or (zip2 f xs ys) i 0 ≡ f (get_or xs i 0) (get_or ys i 0)
lane_of_two f xs ys i lx ly less =
    get_or-zip2 f xs ys i 0 0 0 (subst (λ (n : ℕ). i < n) (sym lx) less) (subst (λ (n : ℕ). i < n) (sym ly) less)

pub length-of_two : (f : ℕ → ℕ → ℕ) (xs ys : List ℕ) → length xs ≡ 8 → length ys ≡ 8 → length (zip2 f xs ys) ≡ 8
length-of_two f xs ys lx ly = length-zip2 f xs ys (lx ∙ sym ly) ∙ lx

-- a list of eight, lane by lane
pub eighth : (f g : ℕ → ℕ) → ((j : ℕ) → j < 8 → f j ≡ g j) → (i : ℕ) → i < 8
    → slice_index (f 0 ∷ f 1 ∷ f 2 ∷ f 3 ∷ f 4 ∷ f 5 ∷ f 6 ∷ f 7 ∷ []) i ≡ g i
eighth f g each zero less = each 0 less
eighth f g each (suc zero) less = each 1 less
eighth f g each (suc (suc zero)) less = each 2 less
eighth f g each (suc (suc (suc zero))) less = each 3 less
eighth f g each (suc (suc (suc (suc zero)))) less = each 4 less
eighth f g each (suc (suc (suc (suc (suc zero))))) less = each 5 less
eighth f g each (suc (suc (suc (suc (suc (suc zero)))))) less = each 6 less
eighth f g each (suc (suc (suc (suc (suc (suc (suc zero))))))) less = each 7 less
eighth f g each (suc (suc (suc (suc (suc (suc (suc (suc n)))))))) less = absurd (omega arith)

pub lt_holds : (x y : ℕ) → x < y → ltb x y ≡ true
lt_holds x y low = grind (arith, nat_tests, low)

pub lt_fails : (x y : ℕ) → y ≤ x → ltb x y ≡ false
lt_fails x y high = grind (arith, nat_tests, high)

-- one in each lane that a test passes, else none
abbrev pub ones : List ℕ
ones = replicate 8 1

abbrev pub nones : List ℕ
nones = replicate 8 0

-- a lane where one of two stands by a test
pub chosen_lane : (n : ℕ) (a b xs ys : List ℕ) (i : ℕ) → length a ≡ n → length b ≡ n → length xs ≡ n → length ys ≡ n → i < n
    → get_or (sel_l (zip2 ltb a b) xs ys) i 0 ≡ cond (ltb (get_or a i 0) (get_or b i 0)) (get_or xs i 0) (get_or ys i 0)
chosen_lane n a b xs ys i la lb lx ly less =
    let tests = zip2 ltb a b in
    let long : length tests ≡ n = length-zip2 ltb a b (la ∙ sym lb) ∙ la in
    let in_a : i < length a = subst (λ (m : ℕ). i < m) (sym la) less in
    let in_b : i < length b = subst (λ (m : ℕ). i < m) (sym lb) less in
    let in_xs : i < length xs = subst (λ (m : ℕ). i < m) (sym lx) less in
    let in_ys : i < length ys = subst (λ (m : ℕ). i < m) (sym ly) less in
    let in_tests : i < length tests = subst (λ (m : ℕ). i < m) (sym long) less in
    let test : get_or tests i false ≡ ltb (get_or a i 0) (get_or b i 0) = get_or-zip2 ltb a b i 0 0 false in_a in_b in
    get_or-sel_l tests xs ys i 0 in_tests in_xs in_ys
    ∙ ap (λ (t : Bool). cond t (get_or xs i 0) (get_or ys i 0)) test

pub length-chosen : (n : ℕ) (a b xs ys : List ℕ) → length a ≡ n → length b ≡ n → length xs ≡ n → length ys ≡ n → length (sel_l (zip2 ltb a b) xs ys) ≡ n
length-chosen n a b xs ys la lb lx ly =
    let long : length (zip2 ltb a b) ≡ n = length-zip2 ltb a b (la ∙ sym lb) ∙ la in
    length-sel_l (zip2 ltb a b) xs ys (long ∙ sym lx) (long ∙ sym ly) ∙ long

pub tested_lane : (a b : List ℕ) (i : ℕ) → length a ≡ 8 → length b ≡ 8 → i < 8
    → get_or (sel_l (zip2 ltb a b) ones nones) i 0 ≡ cond (ltb (get_or a i 0) (get_or b i 0)) 1 0
tested_lane a b i la lb less =
    let one : get_or ones i 0 ≡ 1 = get_or-replicate 8 i 1 0 less in
    let none : get_or nones i 0 ≡ 0 = get_or-replicate 8 i 0 0 less in
    chosen_lane 8 a b ones nones i la lb refl refl less
    ∙ (ap (λ (v : ℕ). cond (ltb (get_or a i 0) (get_or b i 0)) v (get_or nones i 0)) one
    ∙ ap (λ (v : ℕ). cond (ltb (get_or a i 0) (get_or b i 0)) 1 v) none)

-- ---- the greater of two, as it is chosen

pub greater_first : (x y : ℕ) → x ≤ cond (ltb x y) y x
greater_first x y = elim (cases_lt x y) as (λ _. x ≤ cond (ltb x y) y x) [
  | inl low ↦ let is : cond (ltb x y) y x ≡ y = ap (λ (t : Bool). cond t y x) (lt_holds x y low) in omega (arith, is, low)
  | inr high ↦ let is : cond (ltb x y) y x ≡ x = ap (λ (t : Bool). cond t y x) (lt_fails x y high) in omega (arith, is)
]

pub greater_second : (x y : ℕ) → y ≤ cond (ltb x y) y x
greater_second x y = elim (cases_lt x y) as (λ _. y ≤ cond (ltb x y) y x) [
  | inl low ↦ let is : cond (ltb x y) y x ≡ y = ap (λ (t : Bool). cond t y x) (lt_holds x y low) in omega (arith, is)
  | inr high ↦ let is : cond (ltb x y) y x ≡ x = ap (λ (t : Bool). cond t y x) (lt_fails x y high) in omega (arith, is, high)
]

pub greater_one : (x y : ℕ) → (cond (ltb x y) y x ≡ x) ⊎ (cond (ltb x y) y x ≡ y)
greater_one x y = elim (cases_lt x y) as (λ _. (cond (ltb x y) y x ≡ x) ⊎ (cond (ltb x y) y x ≡ y)) [
  | inl low ↦ inr (ap (λ (t : Bool). cond t y x) (lt_holds x y low))
  | inr high ↦ inl (ap (λ (t : Bool). cond t y x) (lt_fails x y high))
]

-- ---- a load of sixteen bytes as eight numbers

two_digits : (l : List ℕ) → length l ≡ 2 → number_l 256 l ≡ get_or l 0 0 + 256 * get_or l 1 0
two_digits [] e = absurd (omega (arith, e))
two_digits (x ∷ []) e = absurd (omega (arith, e))
two_digits (x ∷ y ∷ []) e = omega arith
two_digits (x ∷ y ∷ z ∷ l) e = absurd (omega (arith, e))

abbrev pub turned_load : ℕ → List ℕ → List ℕ
turned_load at bytes = digits_l 65536 8 (number_l 256 (chunk at 16 bytes))

pub turned_word : (at : ℕ) (bytes : List ℕ) (i : ℕ) → at + 16 ≤ length bytes → Each1 (λ x. x < 256) (chunk at 16 bytes) → i < 8
    → get_or (turned_load at bytes) i 0 ≡ get_or bytes (at + 2 * i) 0 + 256 * get_or bytes (at + 2 * i + 1) 0
turned_word at bytes i room small less =
    let v = chunk at 16 bytes in
    let long : length v ≡ 16 = length-chunk at 16 bytes room in
    let two : length (chunk (2 * i) 2 v) ≡ 2 = length-chunk (2 * i) 2 v (omega (arith, long, less)) in
    let first : get_or (chunk (2 * i) 2 v) 0 0 ≡ get_or bytes (at + 2 * i) 0 =
    get_or-chunk (2 * i) 2 v 0 0 (omega arith) ∙ (ap (λ (k : ℕ). get_or v k 0) (omega arith) ∙ get_or-chunk at 16 bytes (2 * i) 0 (omega (arith, less))) in
    let same : at + (2 * i + 1) ≡ at + 2 * i + 1 = omega arith in
    let second : get_or (chunk (2 * i) 2 v) 1 0 ≡ get_or bytes (at + 2 * i + 1) 0 =
    get_or-chunk (2 * i) 2 v 1 0 (omega arith) ∙ (get_or-chunk at 16 bytes (2 * i + 1) 0 (omega (arith, less)) ∙ ap (λ (k : ℕ). get_or bytes k 0) same) in
    get_or_wider 256 2 65536 8 v i refl small less ∙ (two_digits (chunk (2 * i) 2 v) two
    ∙ (ap (λ (n : ℕ). n + 256 * get_or (chunk (2 * i) 2 v) 1 0) first ∙ ap (λ (n : ℕ). get_or bytes (at + 2 * i) 0 + 256 * n) second))

-- ---- eight numbers of two bytes, which are turned

abbrev raised : List ℕ → List ℕ
raised v = zip2 (λ a b. a * b % 65536) v (replicate 8 256)

abbrev lowered : List ℕ → List ℕ
lowered v = zip2 (λ a b. a / 2 ^ b) v (replicate 8 8)

abbrev pub turned_lanes : List ℕ → List ℕ
turned_lanes v = zip2 (λ a b. (a + b) % 65536) (raised v) (lowered v)

pub length-turned : (v : List ℕ) → length v ≡ 8 → length (turned_lanes v) ≡ 8
length-turned v long =
    let up : length (raised v) ≡ 8 = length-splat (λ a b. a * b % 65536) v 256 long in
    let down : length (lowered v) ≡ 8 = length-splat (λ a b. a / 2 ^ b) v 8 long in
    length-of_two (λ a b. (a + b) % 65536) (raised v) (lowered v) up down

pub turned_lane : (v : List ℕ) (i : ℕ) → length v ≡ 8 → i < 8
    → get_or (turned_lanes v) i 0 ≡ (get_or v i 0 * 256 % 65536 + get_or v i 0 / 256) % 65536
turned_lane v i long less =
    let up : length (raised v) ≡ 8 = length-splat (λ a b. a * b % 65536) v 256 long in
    let down : length (lowered v) ≡ 8 = length-splat (λ a b. a / 2 ^ b) v 8 long in
    lane_of_two (λ a b. (a + b) % 65536) (raised v) (lowered v) i up down less
    ∙ (ap (λ (x : ℕ). (x + get_or (lowered v) i 0) % 65536) (splat_lane (λ a b. a * b % 65536) v 256 i long less)
    ∙ ap (λ (x : ℕ). (get_or v i 0 * 256 % 65536 + x) % 65536) (splat_lane (λ a b. a / 2 ^ b) v 8 i long less))

-- ---- products

pub product_small : (x w : ℕ) → x < 65536 → w < 65536 → x * w ≤ 4294836225
product_small x w few light =
    let first : x ≤ 65535 = omega (arith, few) in
    let second : w ≤ 65535 = omega (arith, light) in
    mul-le-mul first second

pub product_fits : (x w : ℕ) → x < 65536 → w < 65536 → x * w % 4294967296 ≡ x * w
product_fits x w few light =
    let most = product_small x w few light in
    omega (arith, most)

-- eight lanes shifted by 16
abbrev pub shifted : List ℕ → List ℕ
shifted v = zip2 (λ a b. a / 2 ^ b) v (replicate 8 16)

pub shifted_lane : (v : List ℕ) (i : ℕ) → length v ≡ 8 → i < 8 → get_or (shifted v) i 0 ≡ get_or v i 0 / 65536
shifted_lane v i long less = splat_lane (λ a b. a / 2 ^ b) v 16 i long less

pub length-shifted : (v : List ℕ) → length v ≡ 8 → length (shifted v) ≡ 8
length-shifted v long = length-splat (λ a b. a / 2 ^ b) v 16 long

pub shifted_fit : (v : List ℕ) → length v ≡ 8 → ((i : ℕ) → i < 8 → get_or v i 0 < 4294967296) → Each1 (Fits w16) (shifted v)
shifted_fit v long limit =
    Each1-from_get_or (Fits w16) (shifted v) 0 (λ i l.
    let less : i < 8 = subst (λ (n : ℕ). i < n) (length-shifted v long) l in
    let small : get_or v i 0 / 65536 < 65536 = omega (arith, limit i less) in
    record { fits = subst (λ (n : ℕ). n < 65536) (sym (shifted_lane v i long less)) small })
