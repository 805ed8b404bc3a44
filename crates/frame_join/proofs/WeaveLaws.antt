-- The bytes of three colors side by side, a byte each or two.
use Rattle.std.proofs.Common.{◌≡◌, ℕ, zero, suc, ◌+◌, ◌*◌, ◌/◌, ◌%◌, ◌<◌, ◌-◌, ◌≤◌, Bool, inl, inr, refl, arith, ap, ◌∙◌}
use Rattle.std.proofs.lemmas.Bool.{cases_lt}
use Rattle.std.specs.Prelude.{if◌then◌else◌, slice_index}
use Rattle.sane_fixed.specs.declared.byte_order.ByteOrder.{ByteOrder}
use Rattle.sane_fixed.specs.declared.byte_order.ByteOrder.TheVariants.{Little, Big}
use Rattle.frame_join.specs.ColorPlanes.{Planes, nth_plane, side_byte}
use Rattle.frame_join.specs.FrameFile.{place_in}
use Rattle.frame_join.proofs.TestLemmas.{eq_true, eq_false}

-- the byte of a color of pixel x
pub side_byte_of : (planes : Planes) (y j x c : ℕ) → j ≡ 3 * x + c → c < 3 → side_byte planes 8 y j ≡ slice_index (nth_plane planes c).bytes (y * (nth_plane planes c).line + x)
side_byte_of planes y j x c at less =
    let color : j / 1 % 3 ≡ c = omega (arith, at, less) in
    let place : j / 3 * 1 + j % 1 ≡ x = omega (arith, at, less) in
    ap (λ (q : ℕ). slice_index (nth_plane planes q).bytes (y * (nth_plane planes q).line + (j / 3 * 1 + j % 1))) color
    ∙ ap (λ (t : ℕ). slice_index (nth_plane planes c).bytes (y * (nth_plane planes c).line + t)) place

-- byte o of pixel x, which has two of each color
pub side_word_of : (planes : Planes) (y j x o : ℕ) → j ≡ 6 * x + o → o < 6 → side_byte planes 16 y j ≡ slice_index (nth_plane planes (o / 2)).bytes (y * (nth_plane planes (o / 2)).line + (2 * x + o % 2))
side_word_of planes y j x o at less =
    let color : j / 2 % 3 ≡ o / 2 = omega (arith, at, less) in
    let place : j / 6 * 2 + j % 2 ≡ 2 * x + o % 2 = omega (arith, at, less) in
    ap (λ (q : ℕ). slice_index (nth_plane planes q).bytes (y * (nth_plane planes q).line + (j / 6 * 2 + j % 2))) color
    ∙ ap (λ (t : ℕ). slice_index (nth_plane planes (o / 2)).bytes (y * (nth_plane planes (o / 2)).line + t)) place

pub one_of_six : (P : ℕ → Type 0) → P 0 → P 1 → P 2 → P 3 → P 4 → P 5 → (o : ℕ) → o < 6 → P o
one_of_six P a b c d e f zero less = a
one_of_six P a b c d e f (suc zero) less = b
one_of_six P a b c d e f (suc (suc zero)) less = c
one_of_six P a b c d e f (suc (suc (suc zero))) less = d
one_of_six P a b c d e f (suc (suc (suc (suc zero)))) less = e
one_of_six P a b c d e f (suc (suc (suc (suc (suc zero))))) less = f
one_of_six P a b c d e f (suc (suc (suc (suc (suc (suc n)))))) less = absurd (omega arith)

-- ---- the two bytes of a sample in either order

place_first : (j : ℕ) → j % 2 ≡ 0 → place_in Little 16 j ≡ j + 1
place_first j even = ap (λ (t : Bool). if t then j + 1 else j - 1) (eq_true (j % 2) 0 even)

place_second : (j : ℕ) → j % 2 ≡ 1 → place_in Little 16 j ≡ j - 1
place_second j odd = ap (λ (t : Bool). if t then j + 1 else j - 1) (eq_false (j % 2) 0 (λ e. omega (arith, e, odd)))

-- where byte o of a pixel stands
pub place_in_pixel : (order : ByteOrder) (j x o : ℕ) → j ≡ 6 * x + o → o < 6 → place_in order 16 j ≡ 6 * x + place_in order 16 o
place_in_pixel Big j x o at less = at
place_in_pixel Little j x o at less = elim (cases_lt (o % 2) 1) as (λ _. place_in Little 16 j ≡ 6 * x + place_in Little 16 o) [
  | inl even ↦ omega (arith, at, place_first j (omega (arith, at, even)), place_first o (omega (arith, even)))
  | inr odd ↦ omega (arith, at, place_second j (omega (arith, at, odd)), place_second o (omega (arith, odd)))
]

pub place_low : (order : ByteOrder) (o : ℕ) → o < 6 → place_in order 16 o < 6
place_low Big o less = less
place_low Little o less = one_of_six (λ o. place_in Little 16 o < 6) (omega arith) (omega arith) (omega arith) (omega arith) (omega arith) (omega arith) o less

pub place_back : (order : ByteOrder) (o : ℕ) → o < 6 → place_in order 16 (place_in order 16 o) ≡ o
place_back Big o less = refl
place_back Little o less = one_of_six (λ o. place_in Little 16 (place_in Little 16 o) ≡ o) refl refl refl refl refl refl o less

-- the first byte of color n of a pixel, and the second one
pub place_one : (order : ByteOrder) (n : ℕ) → n < 3 → place_in order 16 (2 * n) ≡ 2 * n + place_in order 16 0
place_one Big n less = omega arith
place_one Little n less = place_first (2 * n) (omega arith)

pub place_two : (order : ByteOrder) (n : ℕ) → n < 3 → place_in order 16 (2 * n + 1) ≡ 2 * n + (1 - place_in order 16 0)
place_two Big n less = omega arith
place_two Little n less = omega (arith, place_second (2 * n + 1) (omega arith))

pub place_turn : (order : ByteOrder) → place_in order 16 0 ≤ 1
place_turn Big = omega arith
place_turn Little = omega arith
