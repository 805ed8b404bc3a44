-- Digests and words as lower-case hexadecimal digits: their bytes, and that digits tell them apart.
use Rattle.std.proofs.Common.{◌≡◌, ◌≢◌, ℕ, zero, suc, ◌/◌, ◌%◌, ◌<◌, List, [], ◌∷◌, ◌++◌, arith, refl, sym, ap, ◌∙◌, inl, inr, Ok, Result}
use Rattle.std.specs.Prelude.{slice_index}
use Rattle.std.specs.Int.{w32, byte_at, bytes_low_first, bytes_high_first, to_le_bytes, to_be_bytes}
use Rattle.std.specs.List.{AllByRecursion}
use Rattle.std.proofs.lemmas.List.Elements.{All-from_recursion, All-contains, Contains-append_cases}
use Rattle.std.proofs.lemmas.Option.{none-some}
use Rattle.md5.specs.Md5.{md5, digest_bytes}
use Rattle.hex.specs.Hex.{IsBytes, encode_with, encode_lower, lower_digits, decode_of, hex_digit_value}
use Rattle.hex.specs.declared.error.FromHexError.{FromHexError}
use Rattle.hex.proofs.HexLemmas.{IsDigits-lower_digits, decode_of-encode_lower}
use Rattle.sane_fixed.specs.Text.{IsText}
use Rattle.md5_auth.specs.Allowed.{mark, answer_text}

-- ---- bytes

byte_at-lt : (i n : ℕ) → byte_at i n < 256
byte_at-lt zero n = omega arith
byte_at-lt (suc i) n = omega arith

IsBytes-cons : (b : ℕ) (bs : List ℕ) → b < 256 → IsBytes bs → IsBytes (b ∷ bs)
IsBytes-cons b bs low all zero = low
IsBytes-cons b bs low all (suc i) = all i

IsBytes-nil : IsBytes []
IsBytes-nil i = omega arith

IsBytes-append : (xs ys : List ℕ) → IsBytes xs → IsBytes ys → IsBytes (xs ++ ys)
IsBytes-append [] ys all more = more
IsBytes-append (x ∷ xs) ys all more = IsBytes-cons x (xs ++ ys) (all 0) (IsBytes-append xs ys (λ i. all (suc i)) more)

IsBytes-low_first : (i k n : ℕ) → IsBytes (bytes_low_first i k n)
IsBytes-low_first i zero n = IsBytes-nil
IsBytes-low_first i (suc k) n = IsBytes-cons (byte_at i n) (bytes_low_first (suc i) k n) (byte_at-lt i n) (IsBytes-low_first (suc i) k n)

IsBytes-high_first : (k n : ℕ) → IsBytes (bytes_high_first k n)
IsBytes-high_first zero n = IsBytes-nil
IsBytes-high_first (suc k) n = IsBytes-cons (byte_at k n) (bytes_high_first k n) (byte_at-lt k n) (IsBytes-high_first k n)

pub IsBytes-to_be_bytes : (n : ℕ) → IsBytes (to_be_bytes w32 n)
IsBytes-to_be_bytes n = IsBytes-high_first 4 n

IsBytes-digest_bytes : (h : List ℕ) (n : ℕ) → IsBytes (digest_bytes h n)
unfolding digest_bytes
IsBytes-digest_bytes h zero = IsBytes-nil
IsBytes-digest_bytes h (suc n) = IsBytes-append (digest_bytes h n) (to_le_bytes w32 (slice_index h n)) (IsBytes-digest_bytes h n) (IsBytes-low_first 0 4 (slice_index h n))

pub IsBytes-md5 : (m : List ℕ) → IsBytes (md5 m)
unfolding md5
IsBytes-md5 m = IsBytes-digest_bytes _ 4

-- ---- digits

digit_some : (d : ℕ) → d < 16 → slice_index lower_digits d ≢ 0
digit_some d low e = none-some d (sym (ap hex_digit_value e) ∙ IsDigits-lower_digits d low)

digits_some : (bytes : List ℕ) → IsBytes bytes → AllByRecursion (λ c. c ≢ 0) (encode_lower bytes)
unfolding encode_with
digits_some [] all = tt
digits_some (b ∷ bs) all =
    let low : b < 256 = all 0 in
    (digit_some (b / 16) (omega arith), (digit_some (b % 16) (omega arith), digits_some bs (λ i. all (suc i))))

pub IsText-encode_lower : (bytes : List ℕ) → IsBytes bytes → IsText (encode_lower bytes)
IsText-encode_lower bytes all c = All-contains (λ x. x ≢ 0) (encode_lower bytes) 0 (All-from_recursion (λ x. x ≢ 0) (encode_lower bytes) (digits_some bytes all)) c refl

mark_some : AllByRecursion (λ c. c ≢ 0) mark
mark_some = (λ e. omega arith, (λ e. omega arith, (λ e. omega arith, (λ e. omega arith, (λ e. omega arith, tt)))))

pub IsText-answer_text : (m : List ℕ) → IsText (answer_text (md5 m))
IsText-answer_text m c =
    elim (Contains-append_cases mark (encode_lower (md5 m)) 0 c) [
      | inl h ↦ All-contains (λ x. x ≢ 0) mark 0 (All-from_recursion (λ x. x ≢ 0) mark mark_some) h refl
      | inr h ↦ IsText-encode_lower (md5 m) (IsBytes-md5 m) h
    ]

same_ok : (x y : List ℕ) → ◌≡◌ {A = Result (List ℕ) FromHexError} (Ok x) (Ok y) → x ≡ y
same_ok x y e = (cc)

pub same_digest : (x y : List ℕ) → IsBytes x → IsBytes y → answer_text x ≡ answer_text y → x ≡ y
same_digest x y xs ys e =
    let digits : encode_lower x ≡ encode_lower y = (cc) in
    same_ok x y (sym (decode_of-encode_lower x xs) ∙ ap decode_of digits ∙ decode_of-encode_lower y ys)

encode_with-append : (t xs ys : List ℕ) → encode_with t (xs ++ ys) ≡ encode_with t xs ++ encode_with t ys
unfolding encode_with
encode_with-append t [] ys = refl
encode_with-append t (x ∷ xs) ys = ap (λ l. slice_index t (x / 16) ∷ slice_index t (x % 16) ∷ l) (encode_with-append t xs ys)
