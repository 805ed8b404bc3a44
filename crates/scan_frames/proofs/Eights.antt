-- Eight lanes of a vector, and sixteen.
use Rattle.std.proofs.Common.{Fits, false, cond, ltb, w8, w16, map, replicate, subst, sym, ◌≡◌, ℕ, ◌+◌, ◌-◌, ◌*◌, ◌/◌, ◌%◌, ◌^◌, ◌<◌, ◌≤◌, List, [], ◌∷◌, ◌++◌, length, get_or, arith, refl, ap, ◌∙◌}
use Rattle.std.specs.Prelude.{slice_index}
use Rattle.netpbm.specs.FileText.{binary, concat_up_to}
use Rattle.scan_frames.specs.Line.{numbers}
use Rattle.scan_frames.proofs.Lines.{numbers_at}
use Rattle.vector_lanes.proofs.Lanes.{splat_lane, length-splat}
use Rattle.scan_frames.specs.declared.lanes.TheConstants.{LEFTMOST_FIRST}
use Rattle.std.specs.Simd.Lanes.{chunk}
use Rattle.std.proofs.lemmas.List.{get_or_append_left}
use Rattle.std.specs.Simd.Lanes.{zip2, mask_l, Each1}
use Rattle.std.proofs.lemmas.List.{length-map, get_or-map}
use Rattle.std.proofs.lemmas.Grind.{common_steps}
use Rattle.std.proofs.lemmas.Simd.{mask_l-lt, bit_mask_l, length-chunk, get_or-chunk, length-zip2, get_or-zip2, Each1-from_get_or}

-- a lane of a load, in its first copy
pub of_load : (at n : ℕ) (xs : List ℕ) → at + n ≤ length xs → (j : ℕ) → j < n → get_or (chunk at n xs ++ chunk at n xs) j 0 ≡ get_or xs (at + j) 0
of_load at n xs room j less =
    let long : length (chunk at n xs) ≡ n = length-chunk at n xs room in
    get_or_append_left (chunk at n xs) (chunk at n xs) 0 j (omega arith) ∙ get_or-chunk at n xs j 0 less

-- what the table of eight bits gives
abbrev as_leftmost_first : ℕ → ℕ
as_leftmost_first lanes = binary (λ j. lanes / 2 ^ (3 * j % 8) % 2) 8

table_is_rule : LEFTMOST_FIRST ≡ numbers as_leftmost_first 256
unfolding concat_up_to
table_is_rule = refl

pub leftmost_first_is : (lanes : ℕ) → lanes < 256 → slice_index LEFTMOST_FIRST lanes ≡ binary (λ j. lanes / 2 ^ (3 * j % 8) % 2) 8
leftmost_first_is lanes less =
    ap (λ (l : List ℕ). slice_index l lanes) table_is_rule ∙ numbers_at as_leftmost_first 256 lanes less

-- the mask of n lanes, of those below a limit
pub mask_fits : (v : List ℕ) (y n : ℕ) → length v ≡ n → mask_l (map (λ x. ltb x y) v) < 2 ^ n
mask_fits v y n long =
    subst (λ (n : ℕ). mask_l (map (λ x. ltb x y) v) < 2 ^ n) (length-map v (λ x. ltb x y) ∙ long) (mask_l-lt (map (λ x. ltb x y) v))

pub mask_lane : (v : List ℕ) (y n i : ℕ) → length v ≡ n → i < n → mask_l (map (λ x. ltb x y) v) / 2 ^ i % 2 ≡ cond (ltb (get_or v i 0) y) 1 0
mask_lane v y n i long less =
    bit_mask_l (map (λ x. ltb x y) v) i
    ∙ ap (λ t. cond t 1 0) (get_or-map (λ x. ltb x y) v i 0 false (subst (λ (n : ℕ). i < n) (sym long) less))

-- sixteen lanes, the last of each eight first
abbrev mirror : ℕ → ℕ
mirror i = 8 * (i / 8) + (7 - i % 8)

abbrev mirrors : List ℕ
mirrors = 7 ∷ 6 ∷ 5 ∷ 4 ∷ 3 ∷ 2 ∷ 1 ∷ 0 ∷ 15 ∷ 14 ∷ 13 ∷ 12 ∷ 11 ∷ 10 ∷ 9 ∷ 8 ∷ []

mirrors_are : mirrors ≡ numbers mirror 16
unfolding concat_up_to
mirrors_are = refl

pub mirrored_lane : (v : List ℕ) (i : ℕ) → length v ≡ 16 → i < 16 → slice_index (map (λ k. get_or (v ++ v) k 0) mirrors) i ≡ get_or v (8 * (i / 8) + (7 - i % 8)) 0
mirrored_lane v i long less =
    get_or-map (λ k. get_or (v ++ v) k 0) mirrors i 0 0 less
    ∙ (ap (λ (k : ℕ). get_or (v ++ v) k 0) (ap (λ (l : List ℕ). slice_index l i) mirrors_are ∙ numbers_at mirror 16 i less)
    ∙ get_or_append_left v v 0 (mirror i) (omega (arith, less, long)))

-- the two bytes of sixteen bits, each from its most significant on
pub lower_bits : (n : ℕ) → n % 256 ≡ binary (λ j. n / 2 ^ (7 - j) % 2) 8
lower_bits n = omega arith

pub upper_bits : (n : ℕ) → n < 65536 → n / 256 ≡ binary (λ j. n / 2 ^ (15 - j) % 2) 8
upper_bits n less = omega arith

-- a product with a weight
pub product_fits : (x w : ℕ) → x < 65536 → w ≤ 1000 → x * w % 4294967296 ≡ w * x
product_fits x w small light =
    let most : x * w ≤ 65535 * 1000 = grind (arith, common_steps) in
    omega (arith, most)

-- the sum of three lanes
pub sum_lane : (a b d : List ℕ) (i : ℕ) → length a ≡ 8 → length b ≡ 8 → length d ≡ 8 → i < 8
    → get_or (zip2 (λ x y. (x + y) % 4294967296) (zip2 (λ x y. (x + y) % 4294967296) a b) d) i 0 ≡ ((get_or a i 0 + get_or b i 0) % 4294967296 + get_or d i 0) % 4294967296
sum_lane a b d i la lb ld less =
    let ab = zip2 (λ x y. (x + y) % 4294967296) a b in
    let lab : length ab ≡ 8 = length-zip2 (λ x y. (x + y) % 4294967296) a b (la ∙ sym lb) ∙ la in
    get_or-zip2 (λ x y. (x + y) % 4294967296) ab d i 0 0 0 (subst (λ (n : ℕ). i < n) (sym lab) less) (subst (λ (n : ℕ). i < n) (sym ld) less)
    ∙ ap (λ (x : ℕ). (x + get_or d i 0) % 4294967296) (get_or-zip2 (λ x y. (x + y) % 4294967296) a b i 0 0 0 (subst (λ (n : ℕ). i < n) (sym la) less) (subst (λ (n : ℕ). i < n) (sym lb) less))

-- eight lanes shifted by 11
abbrev pub shifted : List ℕ → List ℕ
shifted v = zip2 (λ a b. a / 2 ^ b) v (replicate 8 11)

pub shifted_lane : (v : List ℕ) (i : ℕ) → length v ≡ 8 → i < 8 → get_or (shifted v) i 0 ≡ get_or v i 0 / 2048
shifted_lane v i long less = splat_lane (λ a b. a / 2 ^ b) v 11 i long less

pub length-shifted : (v : List ℕ) → length v ≡ 8 → length (shifted v) ≡ 8
length-shifted v long = length-splat (λ a b. a / 2 ^ b) v 11 long

pub shifted_fit : (v : List ℕ) → length v ≡ 8 → ((i : ℕ) → i < 8 → get_or v i 0 ≤ 65535000) → Each1 (Fits w16) (shifted v)
shifted_fit v long limit =
    Each1-from_get_or (Fits w16) (shifted v) 0 (λ i l.
    let less : i < 8 = subst (λ (n : ℕ). i < n) (length-shifted v long) l in
    let small : get_or v i 0 / 2048 < 65536 = omega (arith, limit i less) in
    record { fits = subst (λ (n : ℕ). n < 65536) (sym (shifted_lane v i long less)) small })

-- eight lanes divided by 125
abbrev pub quotients : List ℕ → List ℕ
quotients v = zip2 (λ a b. a / b) v (replicate 8 125)

pub quotient_lane : (v : List ℕ) (i : ℕ) → length v ≡ 8 → i < 8 → get_or (quotients v) i 0 ≡ get_or v i 0 / 125
quotient_lane v i long less = splat_lane (λ a b. a / b) v 125 i long less

pub length-quotients : (v : List ℕ) → length v ≡ 8 → length (quotients v) ≡ 8
length-quotients v long = length-splat (λ a b. a / b) v 125 long

pub quotients_fit : (v : List ℕ) → length v ≡ 8 → ((i : ℕ) → i < 8 → get_or v i 0 < 32000) → Each1 (Fits w8) (quotients v)
quotients_fit v long limit =
    Each1-from_get_or (Fits w8) (quotients v) 0 (λ i l.
    let less : i < 8 = subst (λ (n : ℕ). i < n) (length-quotients v long) l in
    let small : get_or v i 0 / 125 < 256 = omega (arith, limit i less) in
    record { fits = subst (λ (n : ℕ). n < 256) (sym (quotient_lane v i long less)) small })
