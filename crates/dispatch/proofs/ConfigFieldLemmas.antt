-- The fields of a line, taken off from the left, and the numbers in them.
use Rattle.std.proofs.Common.{◌≡◌, ◌≢◌, ℕ, zero, suc, ◌<◌, ◌≤◌, ◌^◌, Bool, true, false, cond, List, [], ◌∷◌, length, take, drop, get_or, arith, refl, sym, ap, ◌∙◌, subst, inl, inr, ◌⊎◌}
use Rattle.std.specs.Prelude.{filter, decimal}
use Rattle.std.specs.List.{slice_split, onto_first}
use Rattle.std.specs.Str.Parse.{digits_value, AllDigits}
use Rattle.std.proofs.lemmas.Str.Parse.{IsNumeralModel, numerals_by_value, tells_digits}
use Rattle.std.proofs.lemmas.Fmt.{decimal_is_IsNumeral, length-decimal-le, first_decimal, decimal_digit, decimal-digits_value, decimal_nonempty, decimal_injective}
use Rattle.std.proofs.lemmas.Int.Digits.{digits_value-lt}
use Rattle.std.proofs.Math.Nat.{pow-le-pow_right}
use Rattle.sane_fixed.proofs.DigitLemmas.{digit_count-whole, AllDigits-whole}
use Rattle.dispatch.specs.ConfigLines.{is_blank, is_some, fields_of, IsNumberField}
use Rattle.dispatch.specs.FieldCounts.{blank_count, word_length, IsPlainNumber}

-- blanks in front are no part of a field
pub after_blanks : (bytes : List ℕ) → fields_of bytes ≡ fields_of (drop (blank_count bytes) bytes)
unfolding fields_of
after_blanks [] = refl
after_blanks (b ∷ bytes) =
    let P : Bool → Type 0 = λ t. filter is_some (cond t ([] ∷ slice_split is_blank bytes) (onto_first b (slice_split is_blank bytes)))
    ≡ filter is_some (slice_split is_blank (drop (cond t (suc (blank_count bytes)) 0) (b ∷ bytes))) in
    elim (is_blank b) as (λ t. (is_blank b ≡ t) → P t) [
      | true ↦ λ e. after_blanks bytes
      | false ↦ λ e. rw e refl
    ] refl

-- the pieces between blanks: what stands before the first blank, and others
pub record IsCut (bytes : List ℕ) : Type 0 where
  pub parts : List (List ℕ)
  pub pieces : slice_split is_blank bytes ≡ take (word_length bytes) bytes ∷ parts
  pub others : filter is_some parts ≡ fields_of (drop (word_length bytes) bytes)

pub cut : (bytes : List ℕ) → IsCut bytes
unfolding fields_of
cut [] = record { parts = []; pieces = refl; others = refl }
cut (b ∷ bytes) =
    elim (is_blank b) as (λ t. (is_blank b ≡ t) → IsCut (b ∷ bytes)) [
      | true ↦ λ e. record { parts = slice_split is_blank bytes; pieces = rw e refl; others = rw (e, e) refl }
      | false ↦ λ e.
          let more = cut bytes in
          record { parts = more.parts; pieces = rw (e, more.pieces) refl; others = rw e more.others }
    ] refl

first_is : (piece : List ℕ) → length piece ≢ 0 → is_some piece ≡ true
first_is [] some = absurd (some refl)
first_is (b ∷ bytes) some = refl

-- bytes that begin with no blank have a field in front, or none at all
pub some_field : (bytes : List ℕ) → length (take (word_length bytes) bytes) ≢ 0 → fields_of bytes ≡ take (word_length bytes) bytes ∷ fields_of (drop (word_length bytes) bytes)
unfolding fields_of
some_field bytes some =
    let c = cut bytes in
    let first : is_some (take (word_length bytes) bytes) ≡ true = first_is (take (word_length bytes) bytes) some in
    ap (filter is_some) c.pieces ∙ rw first (ap (λ l. take (word_length bytes) bytes ∷ l) c.others)

pub no_field : (bytes : List ℕ) → length (take (word_length (drop (blank_count bytes) bytes)) (drop (blank_count bytes) bytes)) ≡ 0 → fields_of bytes ≡ []
unfolding fields_of
no_field [] none = refl
no_field (b ∷ bytes) none =
    elim (is_blank b) as (λ t. (is_blank b ≡ t) → fields_of (b ∷ bytes) ≡ []) [
      | true ↦ λ e. rw e (no_field bytes (rw e at none))
      | false ↦ λ e. absurd (let at : suc (length (take (word_length bytes) bytes)) ≡ 0 = rw (e, e) at none in omega arith)
    ] refl

-- ---- numbers

model : IsNumeralModel (AllDigits 10) (digits_value 10)
model = numerals_by_value (AllDigits 10) tells_digits

no_leading_zero : (n : ℕ) → n < 10000 → (length (decimal n) ≡ 1) ⊎ (get_or (decimal n) 0 0 ≢ 48)
no_leading_zero zero few = inl (ap length (decimal_digit 0 (omega arith)))
no_leading_zero (suc n) few = inr (λ e. omega (arith, first_decimal (suc n) (omega arith) (omega arith), e))

plain_decimal : (n : ℕ) → n < 10000 → IsPlainNumber (decimal n)
plain_decimal n few =
    let is = decimal_is_IsNumeral n (omega arith) in
    (decimal_nonempty n (omega arith), length-decimal-le 4 n (omega arith) (omega arith) (omega arith), digit_count-whole (decimal n) is.0.1, no_leading_zero n few)

pub is_plain : (text : List ℕ) (n : ℕ) → n < 10000 → text ≡ decimal n → IsPlainNumber text
is_plain text n few e = subst IsPlainNumber (sym e) (plain_decimal n few)

first_digit : (text : List ℕ) → (length text ≡ 1) ⊎ (get_or text 0 0 ≢ 48) → get_or text 0 0 ≡ 48 → length text ≡ 1
first_digit text (inl one) e = one
first_digit text (inr other) e = absurd (other e)

pub small_number : (text : List ℕ) → IsPlainNumber text → digits_value 10 text < 10000
small_number text p =
    let limit : 10 ^ length text ≤ 10 ^ 4 = pow-le-pow_right (omega arith) p.1 in
    omega (arith, digits_value-lt 10 text (AllDigits-whole text p.2), limit)

pub decimal_of : (text : List ℕ) → IsPlainNumber text → text ≡ decimal (digits_value 10 text)
decimal_of text p =
    sym (decimal-digits_value model text (AllDigits-whole text p.2) p.0 (first_digit text p.3) (omega (arith, small_number text p)))

-- ---- the two steps together

pub taken_off : (bytes from word rest : List ℕ) (n m : ℕ) → n ≡ blank_count bytes → from ≡ drop n bytes → m ≡ word_length from → word ≡ take m from → rest ≡ drop m from
    → length word ≢ 0 → fields_of bytes ≡ word ∷ fields_of rest
taken_off bytes from word rest n m blanks from_is letters word_is rest_is some =
    let starts : fields_of bytes ≡ fields_of from = after_blanks bytes ∙ ap (λ (k : ℕ). fields_of (drop k bytes)) (sym blanks) ∙ ap fields_of (sym from_is) in
    let front : word ≡ take (word_length from) from = word_is ∙ ap (λ (k : ℕ). take k from) letters in
    let behind : rest ≡ drop (word_length from) from = rest_is ∙ ap (λ (k : ℕ). drop k from) letters in
    starts ∙ rw (front, behind) (some_field from (rw front at some))

pub none_left : (bytes from word : List ℕ) (n m : ℕ) → n ≡ blank_count bytes → from ≡ drop n bytes → m ≡ word_length from → word ≡ take m from → length word ≡ 0 → fields_of bytes ≡ []
none_left bytes from word n m blanks from_is letters word_is none =
    let at : from ≡ drop (blank_count bytes) bytes = from_is ∙ ap (λ (k : ℕ). drop k bytes) blanks in
    let front : word ≡ take (word_length from) from = word_is ∙ ap (λ (k : ℕ). take k from) letters in
    no_field bytes (rw (front, at) at none)

-- a text spells at most one number
pub other_number : (text : List ℕ) (n least most : ℕ) → most < 10000 → n < 2 ^ 32 → text ≡ decimal n → (n < least) ⊎ (most < n) → (m : ℕ) → ¬ IsNumberField least most text m
other_number text n least most few fits spells out m is =
    let same : n ≡ m = decimal_injective n m (omega (arith, fits)) (omega (arith, is.2, few)) (sym spells ∙ is.0) in
    elim out [ inl low ↦ omega (arith, is.1, low, same) | inr high ↦ omega (arith, is.2, high, same) ]
