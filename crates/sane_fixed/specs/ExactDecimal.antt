-- The exact decimal text of a fixed number: what is shown of it.
use Rattle.std.specs.Prelude.{ℕ, zero, suc, ◌+◌, ◌*◌, ◌/◌, ◌%◌, ◌^◌, ◌≡◌, ◌≢◌, ℤ, pos, negsuc, unsigned_abs, Bool, true}
use Rattle.std.specs.Prelude.{false, ◌==◌, if◌then◌else◌, List, [], ◌∷◌, ◌++◌, length, slice_index}
use Rattle.std.specs.Fmt.{decimal}
use Rattle.std.specs.Str.Parse.{digits_value}
use Rattle.sane_fixed.specs.Decimal.{sign_text, fraction_text, IsDecimal}

-- whether a `-` belongs before the number
abbrev pub is_below_zero : ℤ → Bool
is_below_zero (pos _) = false
is_below_zero (negsuc _) = true

-- **exact decimal (`IsExactDecimal`)**: the text of word / 65536 itself, with no zero too many and no bare point.
pub record IsExactDecimal (text : List ℕ) (word : ℤ) : Type 0 where
  pub whole : List ℕ
  pub fraction : List ℕ
  pub is_decimal : IsDecimal text (is_below_zero word) whole fraction
  pub exact : (digits_value 10 whole * 10 ^ length fraction + digits_value 10 fraction) * 65536
      ≡ unsigned_abs word * 10 ^ length fraction
  pub no_zero_in_front : slice_index whole 0 ≡ 48 → length whole ≡ 1
  pub no_zero_at_the_end : (front : List ℕ) → fraction ≢ front ++ 48 ∷ []
  pub no_point_where_whole : unsigned_abs word % 65536 ≡ 0 → fraction ≡ []

-- the digits of rest / 65536 after the point, up to the last that is not 0, that many at most
unfoldable pub fraction_digits : ℕ → ℕ → List ℕ
fraction_digits zero rest = []
fraction_digits (suc places) rest =
    if rest == 0 then [] else (48 + rest * 10 / 65536) ∷ fraction_digits places (rest * 10 % 65536)

-- the text of word / 65536; the sixteen binary digits of its fraction have at most sixteen decimal digits
unfoldable pub exact_decimal : ℤ → List ℕ
exact_decimal word =
    sign_text (is_below_zero word)
    ++ (decimal (unsigned_abs word / 65536) ++ fraction_text (fraction_digits 16 (unsigned_abs word % 65536)))
