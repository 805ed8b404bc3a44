-- The decimal texts of fixed numbers: an optional `-`, 1 to 9 digits, and optionally a point and 1 to 16 digits.
use Rattle.std.specs.Prelude.{ℕ, ◌+◌, ◌*◌, ◌/◌, ◌^◌, ◌≤◌, ◌≡◌, ℤ, pos, neg_ℤ, Bool, true, false, if◌then◌else◌, nat_le}
use Rattle.std.specs.Prelude.{nat_lt, Option, Some, None, List, [], ◌∷◌, ◌++◌, length}
use Rattle.std.specs.Str.Parse.{digits_value, AllDigits}

-- `-` before a negative number, and nothing before another
abbrev pub sign_text : Bool → List ℕ
sign_text true = 45 ∷ []
sign_text false = []

-- a point and the digits after it, or nothing where there are none
abbrev pub fraction_text : List ℕ → List ℕ
fraction_text [] = []
fraction_text (digit ∷ digits) = 46 ∷ digit ∷ digits

-- **decimal text (`IsDecimal`, `SpellsFixed`)**: an optional `-`, 1 to 9 digits, and optionally a point and 1 to 16
-- digits. It spells the word of its magnitude times 65536, rounded to the nearest whole number, halves away from zero,
-- with the sign put; none where that leaves 32 bits.
--
-- the text is that sign, those digits before the point and those after it
pub record IsDecimal (text : List ℕ) (negative : Bool) (whole fraction : List ℕ) : Type 0 where
  pub text_is : text ≡ sign_text negative ++ (whole ++ fraction_text fraction)
  pub whole_digits : AllDigits 10 whole
  pub whole_some : 1 ≤ length whole
  pub whole_most : length whole ≤ 9
  pub fraction_digits : AllDigits 10 fraction
  pub fraction_most : length fraction ≤ 16

-- n / d rounded to the nearest whole number, halves up
abbrev pub rounded_quotient : ℕ → ℕ → ℕ
rounded_quotient n d = (2 * n + d) / (2 * d)

-- what the digits before and after the point stand for, in units of 1/65536
abbrev pub magnitude_of : List ℕ → List ℕ → ℕ
magnitude_of whole fraction =
    rounded_quotient ((digits_value 10 whole * 10 ^ length fraction + digits_value 10 fraction)
    * 65536) (10 ^ length fraction)

-- the word of that sign, if it fits in 32 bits
abbrev pub word_of : Bool → ℕ → Option ℤ
word_of true magnitude = if nat_le magnitude (2 ^ 31) then Some (neg_ℤ (pos magnitude)) else None
word_of false magnitude = if nat_lt magnitude (2 ^ 31) then Some (pos magnitude) else None

-- the text spells the fixed number of that word
pub record SpellsFixed (text : List ℕ) (word : ℤ) : Type 0 where
  pub negative : Bool
  pub whole : List ℕ
  pub fraction : List ℕ
  pub is_decimal : IsDecimal text negative whole fraction
  pub word_is : word_of negative (magnitude_of whole fraction) ≡ Some word
