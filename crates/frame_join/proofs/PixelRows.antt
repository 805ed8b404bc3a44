-- Which bytes of a frame's lines show pixels, line by line.
use Rattle.std.proofs.Common.{◌≡◌, ℕ, zero, suc, ◌<◌, ◌≤◌, ◌+◌, ◌-◌, ◌*◌, ◌/◌, ◌%◌, Bool, true, false, List, [], ◌∷◌, ◌++◌, length, take, drop, arith, refl, sym, ap, ◌∙◌, length-append, inl, inr}
use Rattle.std.specs.Prelude.{nat_lt, slice_index}
use Rattle.std.proofs.Math.Nat.{mod-add-div', mul-mod_left}
use Rattle.std.proofs.lemmas.Nat.{mod-mul-add}
use Rattle.std.proofs.lemmas.Bool.{cases_lt}
use Rattle.std.proofs.lemmas.List.{get_or-drop, get_or_append_left, get_or-take, length-drop, drop-drop, take-append-drop, get_or-append-add, length-take-le}
use Rattle.frame_join.specs.Pixels.{pixels_from, with_byte}
use Rattle.frame_join.proofs.TestLemmas.{lt_true, lt_from, lt_false}

none_from : (size line at : ℕ) → pixels_from size line at [] ≡ []
unfolding pixels_from
none_from size line at = refl

-- ---- bytes one after another

with-append : (b : Bool) (x : ℕ) (xs ys : List ℕ) → with_byte b x (xs ++ ys) ≡ with_byte b x xs ++ ys
with-append true x xs ys = refl
with-append false x xs ys = refl

pub pixels-append : (size line at : ℕ) (xs ys : List ℕ) → pixels_from size line at (xs ++ ys) ≡ pixels_from size line at xs ++ pixels_from size line (at + length xs) ys
unfolding pixels_from
pixels-append size line at [] ys = ap (λ (n : ℕ). pixels_from size line n ys) (let e : at ≡ at + 0 = omega arith in e)
pixels-append size line at (x ∷ xs) ys =
    let more = pixels-append size line (at + 1) xs ys ∙ ap (λ (n : ℕ). pixels_from size line (at + 1) xs ++ pixels_from size line n ys) (let e : at + 1 + length xs ≡ at + length (x ∷ xs) = omega arith in e) in
    ap (with_byte (nat_lt (at % line) size) x) more ∙ with-append (nat_lt (at % line) size) x (pixels_from size line (at + 1) xs) (pixels_from size line (at + length (x ∷ xs)) ys)

-- the place in the line of the next byte, within a line
next_place : (line at : ℕ) → at % line + 1 < line → (at + 1) % line ≡ at % line + 1
next_place line at h =
    let e : at + 1 ≡ at / line * line + (at % line + 1) = omega (arith, mod-add-div' at line) in
    ap (λ (n : ℕ). n % line) e ∙ mod-mul-add (at / line) line (at % line + 1) h

-- bytes of one line that show pixels all do
pub pixels_within : (size line at : ℕ) (xs : List ℕ) → size ≤ line → at % line + length xs ≤ size → pixels_from size line at xs ≡ xs
unfolding pixels_from
pixels_within size line at [] fits h = refl
pixels_within size line at (x ∷ []) fits h = ap (λ (b : Bool). with_byte b x []) (lt_true (at % line) size (omega (arith, h)))
pixels_within size line at (x ∷ y ∷ xs) fits h =
    let next = next_place line at (omega (arith, h, fits)) in
    ap (λ (b : Bool). with_byte b x (pixels_from size line (at + 1) (y ∷ xs))) (lt_true (at % line) size (omega (arith, h)))
    ∙ ap (λ (l : List ℕ). x ∷ l) (pixels_within size line (at + 1) (y ∷ xs) fits (omega (arith, h, next)))

-- bytes behind the pixels of a line show none
pub pixels_behind : (size line at : ℕ) (xs : List ℕ) → size ≤ at % line → at % line + length xs ≤ line → pixels_from size line at xs ≡ []
unfolding pixels_from
pixels_behind size line at [] low h = refl
pixels_behind size line at (x ∷ []) low h = ap (λ (b : Bool). with_byte b x []) (lt_false (at % line) size low)
pixels_behind size line at (x ∷ y ∷ xs) low h =
    let next = next_place line at (omega (arith, h)) in
    ap (λ (b : Bool). with_byte b x (pixels_from size line (at + 1) (y ∷ xs))) (lt_false (at % line) size low)
    ∙ pixels_behind size line (at + 1) (y ∷ xs) (omega (arith, low, next)) (omega (arith, h, next))

-- ---- line by line

-- a whole line, and what stands behind it
pub pixels_line : (size line m : ℕ) (bytes : List ℕ) → 1 ≤ line → size ≤ line → line ≤ length bytes → pixels_from size line (m * line) bytes ≡ take size bytes ++ pixels_from size line ((m + 1) * line) (drop line bytes)
pixels_line size line m bytes some fits whole =
    let front = take size bytes in
    let behind = take (line - size) (drop size bytes) in
    let rest = drop line bytes in
    let cut : bytes ≡ front ++ (behind ++ rest) = cut_line size line bytes fits whole in
    let start : m * line % line ≡ 0 = mul-mod_left m line in
    let length_front : length front ≡ size = length-take-le size bytes (omega (arith, fits, whole)) in
    let length_behind : length behind ≡ line - size = length-take-le (line - size) (drop size bytes) (omega (arith, length-drop size bytes, fits, whole)) in
    let first : pixels_from size line (m * line) front ≡ front = pixels_within size line (m * line) front fits (omega (arith, start, length_front)) in
    let second = behind_line size line m behind some fits length_behind in
    ap (pixels_from size line (m * line)) cut
    ∙ pixels-append size line (m * line) front (behind ++ rest)
    ∙ ap (λ (l : List ℕ). l ++ pixels_from size line (m * line + length front) (behind ++ rest)) first
    ∙ ap (λ (n : ℕ). front ++ pixels_from size line (m * line + n) (behind ++ rest)) length_front
    ∙ ap (λ (l : List ℕ). front ++ l) (pixels-append size line (m * line + size) behind rest
    ∙ ap (λ (l : List ℕ). l ++ pixels_from size line (m * line + size + length behind) rest) second
    ∙ ap (λ (n : ℕ). pixels_from size line n rest) (let e : m * line + size + length behind ≡ (m + 1) * line = omega (arith, length_behind, fits) in e))
  where
    cut_line : (size line : ℕ) (bytes : List ℕ) → size ≤ line → line ≤ length bytes → bytes ≡ take size bytes ++ (take (line - size) (drop size bytes) ++ drop line bytes)
    cut_line size line bytes fits whole =
        sym (take-append-drop size bytes)
        ∙ ap (λ (l : List ℕ). take size bytes ++ l) (sym (take-append-drop (line - size) (drop size bytes)) ∙ ap (λ (l : List ℕ). take (line - size) (drop size bytes) ++ l) (drop-drop (line - size) size bytes ∙ ap (λ (n : ℕ). drop n bytes) (let e : size + (line - size) ≡ line = omega (arith, fits) in e)))

    behind_line : (size line m : ℕ) (behind : List ℕ) → 1 ≤ line → size ≤ line → length behind ≡ line - size → pixels_from size line (m * line + size) behind ≡ []
    behind_line size line m [] some fits e = none_from size line (m * line + size)
    behind_line size line m (x ∷ xs) some fits e =
        let less : size < line = omega (arith, e, fits) in
        let place : (m * line + size) % line ≡ size = mod-mul-add m line size less in
        pixels_behind size line (m * line + size) (x ∷ xs) (omega (arith, place)) (omega (arith, place, e))

-- byte k of the pixels of line y
pub pixel_at : (size line y m k : ℕ) (bytes : List ℕ) → 1 ≤ line → size ≤ line → k < size → (y + 1) * line ≤ length bytes → slice_index (pixels_from size line (m * line) bytes) (y * size + k) ≡ slice_index bytes (y * line + k)
pixel_at size line zero m k bytes some fits low there =
    let whole : line ≤ length bytes = omega (arith, there) in
    let front : length (take size bytes) ≡ size = length-take-le size bytes (omega (arith, fits, whole)) in
    ap (λ (l : List ℕ). slice_index l (zero * size + k)) (pixels_line size line m bytes some fits whole)
    ∙ ap (λ (i : ℕ). slice_index (take size bytes ++ pixels_from size line ((m + 1) * line) (drop line bytes)) i) (let e : zero * size + k ≡ k = omega arith in e)
    ∙ get_or_append_left (take size bytes) (pixels_from size line ((m + 1) * line) (drop line bytes)) 0 k (omega (arith, low, front))
    ∙ get_or-take size bytes k 0 low
    ∙ ap (λ (i : ℕ). slice_index bytes i) (let e : k ≡ zero * line + k = omega arith in e)
pixel_at size line (suc y) m k bytes some fits low there =
    let whole : line ≤ length bytes = omega (arith, there) in
    let front : length (take size bytes) ≡ size = length-take-le size bytes (omega (arith, fits, whole)) in
    let rest = pixels_from size line ((m + 1) * line) (drop line bytes) in
    let less : (y + 1) * line ≤ length (drop line bytes) = omega (arith, there, length-drop line bytes) in
    ap (λ (l : List ℕ). slice_index l (suc y * size + k)) (pixels_line size line m bytes some fits whole)
    ∙ ap (λ (i : ℕ). slice_index (take size bytes ++ rest) i) (let e : suc y * size + k ≡ length (take size bytes) + (y * size + k) = omega (arith, front) in e)
    ∙ get_or-append-add (take size bytes) rest (y * size + k) 0
    ∙ pixel_at size line y (m + 1) k (drop line bytes) some fits low less
    ∙ get_or-drop line bytes (y * line + k) 0
    ∙ ap (λ (i : ℕ). slice_index bytes i) (let e : line + (y * line + k) ≡ suc y * line + k = omega arith in e)

-- ---- how many bytes show pixels

none_is : (bytes : List ℕ) → length bytes ≡ 0 → bytes ≡ []
none_is [] e = refl
none_is (b ∷ bytes) e = absurd (omega (arith, e))

pub length-pixels : (size line n m : ℕ) (bytes : List ℕ) → 1 ≤ line → size ≤ line → length bytes ≡ n * line → length (pixels_from size line (m * line) bytes) ≡ n * size
length-pixels size line zero m bytes some fits e = ap (λ (l : List ℕ). length (pixels_from size line (m * line) l)) (none_is bytes (omega (arith, e))) ∙ ap length (none_from size line (m * line)) ∙ omega arith
length-pixels size line (suc n) m bytes some fits e =
    let whole : line ≤ length bytes = omega (arith, e) in
    let front : length (take size bytes) ≡ size = length-take-le size bytes (omega (arith, fits, whole)) in
    let rest = pixels_from size line ((m + 1) * line) (drop line bytes) in
    let more = length-pixels size line n (m + 1) (drop line bytes) some fits (omega (arith, e, length-drop line bytes)) in
    ap length (pixels_line size line m bytes some fits whole) ∙ length-append (take size bytes) rest ∙ omega (arith, front, more)

one_byte : (size at x : ℕ) → length (with_byte (nat_lt at size) x []) ≤ size - at
one_byte size at x = elim (nat_lt at size) as (λ t. nat_lt at size ≡ t → length (with_byte t x []) ≤ size - at) [
  | true ↦ λ q. omega (arith, lt_from at size q)
  | false ↦ λ q. omega arith
] refl

one_more : (size at x : ℕ) (rest : List ℕ) → length rest ≤ size - (at + 1) → length (with_byte (nat_lt at size) x rest) ≤ size - at
one_more size at x rest h = elim (nat_lt at size) as (λ t. nat_lt at size ≡ t → length (with_byte t x rest) ≤ size - at) [
  | true ↦ λ q. omega (arith, h, lt_from at size q)
  | false ↦ λ q. omega (arith, h)
] refl

-- so many of a part of a line
few_within : (size line at : ℕ) (bytes : List ℕ) → at % line + length bytes ≤ line → length (pixels_from size line at bytes) ≤ size - at % line
unfolding pixels_from
few_within size line at [] h = omega arith
few_within size line at (x ∷ []) h = one_byte size (at % line) x
few_within size line at (x ∷ y ∷ bytes) h =
    let next = next_place line at (omega (arith, h)) in
    one_more size (at % line) x (pixels_from size line (at + 1) (y ∷ bytes)) (omega (arith, next, few_within size line (at + 1) (y ∷ bytes) (omega (arith, h, next))))

pub length-pixels-le : (size line n m : ℕ) (bytes : List ℕ) → 1 ≤ line → size ≤ line → length bytes ≤ n * line → length (pixels_from size line (m * line) bytes) ≤ n * size
length-pixels-le size line zero m bytes some fits few = omega (arith, ap (λ (l : List ℕ). length (pixels_from size line (m * line) l)) (none_is bytes (omega (arith, few))) ∙ ap length (none_from size line (m * line)))
length-pixels-le size line (suc n) m bytes some fits few = elim (cases_lt (length bytes) line) [
  | inl part ↦ (
      let start : m * line % line ≡ 0 = mul-mod_left m line in
      let most = few_within size line (m * line) bytes (omega (arith, start, part)) in
      omega (arith, most, start))
  | inr whole ↦ (
      let le : line ≤ length bytes = omega (arith, whole) in
      let front : length (take size bytes) ≡ size = length-take-le size bytes (omega (arith, fits, le)) in
      let rest = pixels_from size line ((m + 1) * line) (drop line bytes) in
      let more = length-pixels-le size line n (m + 1) (drop line bytes) some fits (omega (arith, few, length-drop line bytes)) in
      let both = ap length (pixels_line size line m bytes some fits le) ∙ length-append (take size bytes) rest in
      omega (arith, front, more, both))
]
