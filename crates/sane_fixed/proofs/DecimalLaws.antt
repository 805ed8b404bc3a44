-- Reading the text of a fixed number from the left finds what the grammar says, and nothing else.
use Rattle.std.proofs.Common.{◌≡◌, ℕ, ◌<◌, ◌≤◌, ◌==◌, ◌&&◌, Bool, true, false, List, [], ◌∷◌, ◌++◌, length, take, drop, arith, cond, refl, sym, ap, ◌∙◌, option_map, IfSome, IfNone}
use Rattle.std.specs.Prelude.{Option, Some, None, ℤ, nat_le}
use Rattle.std.specs.Char.{digit_value}
use Rattle.std.specs.Str.Parse.{AllDigits}
use Rattle.std.proofs.lemmas.Bool.Decides.{nat_tests}
use Rattle.std.proofs.lemmas.Bool.{and_parts}
use Rattle.std.proofs.lemmas.List.{take_at, drop_at, take-append-drop, length-take}
use Rattle.std.proofs.lemmas.Option.{cond_some, option_and_then_some}
use Rattle.sane_fixed.specs.declared.fixed.Fixed.{Fixed}
use Rattle.sane_fixed.specs.Digits.{digit_count}
use Rattle.sane_fixed.specs.Decimal.{sign_text, fraction_text, SpellsFixed}
use Rattle.sane_fixed.specs.DecimalReading.{sign_at, whole_at, fraction_in, fixed_of}
use Rattle.sane_fixed.proofs.DigitLemmas.{AllDigits-take-digit_count, AllDigits-whole, digit_count-digits, digit_count-whole, digit_count-le}

-- ---- the sign

is_minus : (b : ℕ) → (b == 45) ≡ true → b ≡ 45
is_minus b h = grind (arith, nat_tests)

digit_is_no_minus : (b : ℕ) → digit_value b < 10 → (b == 45) ≡ false
digit_is_no_minus b h = grind (arith, nat_tests)

sign_found : (text : List ℕ) → text ≡ sign_text (sign_at text).0 ++ (sign_at text).1
sign_found [] = refl
sign_found (b ∷ bytes) =
    let P : Bool → Type 0 = λ t. (b == 45) ≡ t → b ∷ bytes ≡ sign_text (cond {A = Bool × List ℕ} t (true, bytes) (false, b ∷ bytes)).0 ++ (cond {A = Bool × List ℕ} t (true, bytes) (false, b ∷ bytes)).1 in
    elim (b == 45) as P [ true ↦ λ e. ap (λ n. n ∷ bytes) (is_minus b e) | false ↦ λ e. refl ] refl

sign_at-text : (negative : Bool) (whole rest : List ℕ) → AllDigits 10 whole → 1 ≤ length whole → sign_at (sign_text negative ++ (whole ++ rest)) ≡ (negative, whole ++ rest)
sign_at-text true whole rest all some = refl
sign_at-text false [] rest all some = absurd (let h : 1 ≤ 0 = some in omega arith)
sign_at-text false (d ∷ ds) rest all some = rw (digit_is_no_minus d all.0) refl

-- ---- the digits before the point

record FoundWhole (bytes whole rest : List ℕ) : Type 0 where
  pub bytes_are : bytes ≡ whole ++ rest
  pub digits : AllDigits 10 whole
  pub some : 1 ≤ length whole
  pub most : length whole ≤ 9

whole_found : (bytes whole rest : List ℕ) → whole_at bytes ≡ Some (whole, rest) → FoundWhole bytes whole rest
unfolding whole_at
whole_found bytes whole rest e =
    let found = cond_some (nat_le 1 (digit_count bytes) && nat_le (digit_count bytes) 9) (take (digit_count bytes) bytes, drop (digit_count bytes) bytes) (whole, rest) e in
    let tests = and_parts (nat_le 1 (digit_count bytes)) (nat_le (digit_count bytes) 9) found.0 in
    let low : 1 ≤ digit_count bytes = grind (arith, nat_tests) in
    let high : digit_count bytes ≤ 9 = grind (arith, nat_tests) in
    let front : take (digit_count bytes) bytes ≡ whole = ap (λ (p : List ℕ × List ℕ). p.0) found.1 in
    let after : drop (digit_count bytes) bytes ≡ rest = ap (λ (p : List ℕ × List ℕ). p.1) found.1 in
    let size : length whole ≡ digit_count bytes = ap length (sym front) ∙ (let s : length (take (digit_count bytes) bytes) ≡ digit_count bytes = omega (arith, length-take (digit_count bytes) bytes, digit_count-le bytes) in s) in
    record {
      bytes_are = rw (sym front, sym after) (sym (take-append-drop (digit_count bytes) bytes));
      digits = rw (sym front) (AllDigits-take-digit_count bytes);
      some = omega arith;
      most = omega arith;
    }

whole_at-digits : (whole rest : List ℕ) → AllDigits 10 whole → 1 ≤ length whole → length whole ≤ 9 → digit_count rest ≡ 0 → whole_at (whole ++ rest) ≡ Some (whole, rest)
unfolding whole_at
whole_at-digits whole rest all some most none =
    let count : digit_count (whole ++ rest) ≡ length whole = digit_count-digits whole rest all none in
    let low : nat_le 1 (length whole) ≡ true = grind (arith, nat_tests) in
    let high : nat_le (length whole) 9 ≡ true = grind (arith, nat_tests) in
    rw (count, low, high, take_at whole rest (length whole) refl, drop_at whole rest (length whole) refl) refl

-- ---- the fraction

digit_count-fraction_text : (fraction : List ℕ) → digit_count (fraction_text fraction) ≡ 0
digit_count-fraction_text [] = refl
digit_count-fraction_text (d ∷ ds) = refl

record FoundFraction (bytes fraction : List ℕ) : Type 0 where
  pub bytes_are : bytes ≡ fraction_text fraction
  pub digits : AllDigits 10 fraction
  pub most : length fraction ≤ 16

point_first : (digits : List ℕ) → 1 ≤ length digits → 46 ∷ digits ≡ fraction_text digits
point_first [] h = absurd (let g : 1 ≤ 0 = h in omega arith)
point_first (d ∷ ds) h = refl

not_none : {A : Type 0} (x : A) → ◌≡◌ {A = Option A} None (Some x) → ⊥
not_none x e = (cc)

same_some : (a b : List ℕ) → ◌≡◌ {A = Option (List ℕ)} (Some a) (Some b) → a ≡ b
same_some a b e = (cc)

fraction_found : (bytes fraction : List ℕ) → fraction_in bytes ≡ Some fraction → FoundFraction bytes fraction
unfolding fraction_in
fraction_found [] fraction e = rw (sym (same_some [] fraction e)) (record { bytes_are = refl; digits = tt; most = omega arith })
fraction_found (b ∷ digits) fraction e =
    let found = cond_some ((b == 46) && ((digit_count digits == length digits) && (nat_le 1 (length digits) && nat_le (length digits) 16))) digits fraction e in
    let tests = and_parts (b == 46) ((digit_count digits == length digits) && (nat_le 1 (length digits) && nat_le (length digits) 16)) found.0 in
    let inner = and_parts (digit_count digits == length digits) (nat_le 1 (length digits) && nat_le (length digits) 16) tests.1 in
    let sizes = and_parts (nat_le 1 (length digits)) (nat_le (length digits) 16) inner.1 in
    let point : b ≡ 46 = grind (arith, nat_tests) in
    let all : digit_count digits ≡ length digits = grind (arith, nat_tests) in
    let low : 1 ≤ length digits = grind (arith, nat_tests) in
    let high : length digits ≤ 16 = grind (arith, nat_tests) in
    rw (sym found.1) (record { bytes_are = rw point (point_first digits low); digits = AllDigits-whole digits all; most = high })

fraction_in-text : (fraction : List ℕ) → AllDigits 10 fraction → length fraction ≤ 16 → fraction_in (fraction_text fraction) ≡ Some fraction
unfolding fraction_in
fraction_in-text [] all most = refl
fraction_in-text (d ∷ ds) all most =
    let count : digit_count (d ∷ ds) ≡ length (d ∷ ds) = digit_count-whole (d ∷ ds) all in
    let same : (digit_count (d ∷ ds) == length (d ∷ ds)) ≡ true = grind (arith, nat_tests) in
    let low : nat_le 1 (length (d ∷ ds)) ≡ true = grind (arith, nat_tests) in
    let high : nat_le (length (d ∷ ds)) 16 ≡ true = grind (arith, nat_tests) in
    rw (same, low, high) refl

-- ---- the whole text

pub spells_from_fixed_of : (text : List ℕ) (word : ℤ) → fixed_of text ≡ Some word → SpellsFixed text word
unfolding fixed_of
spells_from_fixed_of text word e =
    option_and_then_some _ (whole_at (sign_at text).1) word e (λ w ew e1.
    option_and_then_some _ (fraction_in w.1) word e1 (λ f ef e2.
    let whole = whole_found (sign_at text).1 w.0 w.1 ew in
    let fraction = fraction_found w.1 f ef in
    record {
      negative = (sign_at text).0;
      whole = w.0;
      fraction = f;
      is_decimal = record {
        text_is = sign_found text ∙ ap (λ l. sign_text (sign_at text).0 ++ l) (whole.bytes_are ∙ ap (λ l. w.0 ++ l) fraction.bytes_are);
        whole_digits = whole.digits;
        whole_some = whole.some;
        whole_most = whole.most;
        fraction_digits = fraction.digits;
        fraction_most = fraction.most;
      };
      word_is = e2;
    }))

pub fixed_of-spells : (text : List ℕ) (word : ℤ) → SpellsFixed text word → fixed_of text ≡ Some word
unfolding fixed_of
fixed_of-spells text word s =
    let d = s.is_decimal in
    let sign : sign_at text ≡ (s.negative, s.whole ++ fraction_text s.fraction) = ap sign_at d.text_is ∙ sign_at-text s.negative s.whole (fraction_text s.fraction) d.whole_digits d.whole_some in
    let whole = whole_at-digits s.whole (fraction_text s.fraction) d.whole_digits d.whole_some d.whole_most (digit_count-fraction_text s.fraction) in
    let fraction = fraction_in-text s.fraction d.fraction_digits d.fraction_most in
    rw (sign, whole, fraction) s.word_is

-- ---- what a reader answers, from what reading the bytes gives

pub found_from_value : (r : Option Fixed) (text : List ℕ) → option_map (λ (f : Fixed). f.0) r ≡ fixed_of text → IfSome r (λ f. SpellsFixed text f.0)
found_from_value None text e = tt
found_from_value (Some f) text e = spells_from_fixed_of text f.0 (sym e)

pub none_from_value : (r : Option Fixed) (text : List ℕ) → option_map (λ (f : Fixed). f.0) r ≡ fixed_of text → IfNone r ((word : ℤ) → SpellsFixed text word → ⊥)
none_from_value None text e = λ word s. not_none word (e ∙ fixed_of-spells text word s)
none_from_value (Some f) text e = tt
