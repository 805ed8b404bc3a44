-- How the text of a fixed number is read from the left: the word that it spells.
use Rattle.std.specs.Prelude.{ℕ, ℤ, Bool, true, false, if◌then◌else◌, nat_le, ◌&&◌, ◌==◌, Option, Some, None}
use Rattle.std.specs.Prelude.{option_and_then, List, [], ◌∷◌, length, take, drop}
use Rattle.sane_fixed.specs.Digits.{digit_count}
use Rattle.sane_fixed.specs.Decimal.{magnitude_of, word_of}

infixl 10 ◌>>=◌
abbrev pub ◌>>=◌ : {A B : Type 0} → Option A → (A → Option B) → Option B
o >>= f = option_and_then f o

-- whether a `-` stands first, and what follows it
abbrev pub sign_at : List ℕ → Bool × List ℕ
sign_at [] = (false, [])
sign_at (b ∷ bytes) = if b == 45 then (true, bytes) else (false, b ∷ bytes)

-- the 1 to 9 digits before a point, and what follows
unfoldable pub whole_at : List ℕ → Option (List ℕ × List ℕ)
whole_at bytes =
    if nat_le 1 (digit_count bytes) && nat_le (digit_count bytes) 9
    then Some (take (digit_count bytes) bytes, drop (digit_count bytes) bytes)
    else None

-- the digits of a fraction: nothing, or a point and 1 to 16 digits up to the end
unfoldable pub fraction_in : List ℕ → Option (List ℕ)
fraction_in [] = Some []
fraction_in (b ∷ digits) =
    if (b == 46) && ((digit_count digits == length digits) && (nat_le 1 (length digits) && nat_le (length digits) 16))
    then Some digits
    else None

-- **its reading (`fixed_of`)**: the same as a computation from the left; the two are proved to agree.
--
-- the word that a text spells
unfoldable pub fixed_of : List ℕ → Option ℤ
fixed_of text = do
  whole ← whole_at (sign_at text).1
  fraction ← fraction_in whole.1
  word_of (sign_at text).0 (magnitude_of whole.0 fraction)
