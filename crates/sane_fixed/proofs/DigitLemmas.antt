-- Digits at the front of a text, and the number that they stand for.
use Rattle.std.proofs.Common.{◌≡◌, ℕ, ◌<◌, ◌≤◌, ◌+◌, ◌*◌, ◌^◌, Bool, true, false, List, [], ◌∷◌, ◌++◌, length, take, get_or, arith, suc, cond, refl, subst, ap, ◌∙◌}
use Rattle.std.proofs.Math.Seq.{take-length}
use Rattle.std.specs.Char.{is_ascii_digit, digit_value}
use Rattle.std.specs.Str.Parse.{digits_value, AllDigits}
use Rattle.std.proofs.lemmas.Str.Parse.{digit_at, digits_value-take-le}
use Rattle.std.proofs.lemmas.Str.{digit_value_digit}
use Rattle.std.proofs.lemmas.Int.Digits.{digits_value-lt, digits_value_more}
use Rattle.std.proofs.lemmas.Bool.Decides.{nat_tests}
use Rattle.std.proofs.Math.Nat.{pow-le-pow_right}
use Rattle.sane_fixed.specs.Digits.{digit_count}

pub digit_from_test : (b : ℕ) → is_ascii_digit b ≡ true → digit_value b < 10
digit_from_test b h = grind (arith, nat_tests)

pub AllDigits-take-digit_count : (bytes : List ℕ) → AllDigits 10 (take (digit_count bytes) bytes)
AllDigits-take-digit_count [] = tt
AllDigits-take-digit_count (b ∷ bytes) =
    let P : Bool → Type 0 = λ t. (is_ascii_digit b ≡ t) → AllDigits 10 (take (cond t (suc (digit_count bytes)) 0) (b ∷ bytes)) in
    elim (is_ascii_digit b) as P [ true ↦ λ h. (digit_from_test b h, AllDigits-take-digit_count bytes) | false ↦ λ h. tt ] refl

-- a few digits stand for less than 10 ^ 16, and so does a front of them
pub digits_value-take-lt : (digits : List ℕ) (i : ℕ) → AllDigits 10 digits → length digits ≤ 16 → digits_value 10 (take i digits) < 10 ^ 16
digits_value-take-lt digits i all few =
    let cap : 10 ^ length digits ≤ 10 ^ 16 = pow-le-pow_right (omega arith) few in
    omega (arith, digits_value-take-le 10 digits i (omega arith), digits_value-lt 10 digits all)

-- one digit more
pub digits_value-digit : (digits : List ℕ) (i : ℕ) → AllDigits 10 digits → i < length digits → digits_value 10 (take (i + 1) digits) + 48 ≡ digits_value 10 (take i digits) * 10 + get_or digits i 0
digits_value-digit digits i all in_range =
    omega (arith, digits_value_more 10 digits i in_range, digit_value_digit (get_or digits i 0) (digit_at digits i all in_range))

pub AllDigits-whole : (bytes : List ℕ) → digit_count bytes ≡ length bytes → AllDigits 10 bytes
AllDigits-whole bytes e =
    subst (λ (l : List ℕ). AllDigits 10 l) (ap (λ (n : ℕ). take n bytes) e ∙ take-length bytes) (AllDigits-take-digit_count bytes)

pub test_from_digit : (b : ℕ) → digit_value b < 10 → is_ascii_digit b ≡ true
test_from_digit b h = grind (arith, nat_tests)

-- digits before what begins with none
pub digit_count-digits : (digits rest : List ℕ) → AllDigits 10 digits → digit_count rest ≡ 0 → digit_count (digits ++ rest) ≡ length digits
digit_count-digits [] rest all none = none
digit_count-digits (d ∷ ds) rest all none = rw (test_from_digit d all.0) (ap suc (digit_count-digits ds rest all.1 none))

pub digit_count-whole : (digits : List ℕ) → AllDigits 10 digits → digit_count digits ≡ length digits
digit_count-whole [] all = refl
digit_count-whole (d ∷ ds) all = rw (test_from_digit d all.0) (ap suc (digit_count-whole ds all.1))

pub digit_count-le : (bytes : List ℕ) → digit_count bytes ≤ length bytes
digit_count-le [] = omega arith
digit_count-le (b ∷ bs) =
    let P : Bool → Type 0 = λ t. cond t (suc (digit_count bs)) 0 ≤ suc (length bs) in
    elim (is_ascii_digit b) as P [ true ↦ omega (arith, digit_count-le bs) | false ↦ omega arith ]
