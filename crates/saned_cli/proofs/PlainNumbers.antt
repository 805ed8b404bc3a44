-- Texts that write a number plainly: in decimal digits, without a sign or a leading zero.
use Rattle.std.proofs.Common.{◌≡◌, ◌≢◌, ℕ, zero, suc, ◌<◌, ◌^◌, ◌⊎◌, List, length, get_or, arith, sym, ap, ◌∙◌, subst, inl, inr, Some, Result, Ok, Err}
use Rattle.std.specs.Prelude.{decimal, IfSome, IfNone}
use Rattle.std.specs.Result.{result_ok}
use Rattle.std.specs.Str.Parse.{digits_value, AllDigits, IsNumeral, ParsesUnsigned, without_leading_plus}
use Rattle.std.proofs.lemmas.Str.Parse.{IsNumeralModel, numerals_by_value, tells_digits, without_leading_plus_none}
use Rattle.std.proofs.lemmas.Fmt.{first_decimal, decimal_digit, decimal-digits_value, decimal_injective, decimal_nonempty, parse-decimal}
use Rattle.saned_cli.specs.OptionsOfDaemon.{IsNumberOf}
use Rattle.saned_cli.specs.OptionWords.{BeginsPlainly}

begins : (n : ℕ) → n < 2 ^ 64 → BeginsPlainly (decimal n)
begins zero few = (decimal_nonempty 0 few, (λ e. omega (arith, ap (λ (t : List ℕ). get_or t 0 0) (decimal_digit 0 (omega arith)), e)), inl (ap length (decimal_digit 0 (omega arith))))
begins (suc n) few = (decimal_nonempty (suc n) few, (λ e. omega (arith, first_decimal (suc n) (omega arith) few, e)), inr (λ e. omega (arith, first_decimal (suc n) (omega arith) few, e)))

pub begins_plainly : (text : List ℕ) (n : ℕ) → n < 2 ^ 64 → text ≡ decimal n → BeginsPlainly text
begins_plainly text n few e = subst BeginsPlainly (sym e) (begins n few)

first_digit : (text : List ℕ) → (length text ≡ 1) ⊎ (get_or text 0 0 ≢ 48) → get_or text 0 0 ≡ 48 → length text ≡ 1
first_digit text (inl one) e = one
first_digit text (inr other) e = absurd (other e)

model : IsNumeralModel (AllDigits 10) (digits_value 10)
model = numerals_by_value (AllDigits 10) tells_digits

written : (text : List ℕ) → BeginsPlainly text → IsNumeral 10 text → digits_value 10 text < 2 ^ 64 → text ≡ decimal (digits_value 10 text)
written text p is few = sym (decimal-digits_value model text is.1 is.0 (first_digit text p.2) few)

pub some_written : {E : Type 0} (text : List ℕ) (r : Result ℕ E) → BeginsPlainly text → ParsesUnsigned 64 10 text r → IfSome (result_ok r) (λ n. text ≡ decimal n)
some_written text (Ok n) p h =
    let same : without_leading_plus text ≡ text = without_leading_plus_none text p.1 in
    let is : IsNumeral 10 text × (digits_value 10 text < 2 ^ 64) = subst (λ (t : List ℕ). IsNumeral 10 t × (digits_value 10 t < 2 ^ 64)) same h.0 in
    written text p is.0 is.1 ∙ ap (λ (t : List ℕ). decimal (digits_value 10 t)) (sym same) ∙ ap decimal (sym h.1)
some_written text (Err e) p h = tt

pub none_written : {E : Type 0} (text : List ℕ) (r : Result ℕ E) → ParsesUnsigned 64 10 text r → IfNone (result_ok r) ((n : ℕ) → n < 2 ^ 64 → text ≢ decimal n)
none_written text (Ok n) h = tt
none_written text (Err e) h = λ n few same. absurd (refused (parse-decimal 64 n text (Err e) few few same h))
  where
    refused : {X Y : Type 0} {e : X} {n : Y} → Err e ≡ Ok n → ⊥
    refused p = cc

-- a text that writes a number outside of the bounds writes none within them
pub other_number : (text : List ℕ) (n least most default : ℕ) → n < 2 ^ 64 → text ≡ decimal n → (n < least) ⊎ (most < n) → (m : ℕ) → m < 2 ^ 64 → ¬ IsNumberOf least most default (Some text) m
other_number text n least most default few is (inl under) m fewer p = let same = decimal_injective n m few fewer (sym is ∙ p.0) in omega (arith, same, under, p.1, p.2)
other_number text n least most default few is (inr over) m fewer p = let same = decimal_injective n m few fewer (sym is ∙ p.0) in omega (arith, same, over, p.1, p.2)
