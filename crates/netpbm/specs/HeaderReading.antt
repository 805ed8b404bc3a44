-- How the header of a Netpbm file is read from the left: what it tells, and the bytes after it.
use Rattle.std.specs.Prelude.{ℕ, Bool, true, false, ◌&&◌, ◌==◌, nat_le, if◌then◌else◌, Option, Some, None}
use Rattle.std.specs.Prelude.{option_and_then, List, [], ◌∷◌, take, drop}
use Rattle.std.specs.Str.Parse.{digits_value}
use Rattle.sane_fixed.specs.Digits.{digit_count}
use Rattle.netpbm.specs.declared.format.PnmFormat.{PnmFormat}
use Rattle.netpbm.specs.declared.format.PnmFormat.TheVariants.{Pbm, Pgm, Ppm}
use Rattle.netpbm.specs.declared.format.Header.{Header}
use Rattle.netpbm.specs.Pnm.{is_white, ends_comment}

infixl 10 ◌>>=◌
abbrev pub ◌>>=◌ : {A B : Type 0} → Option A → (A → Option B) → Option B
o >>= f = option_and_then f o

-- the format, told by the first two bytes
abbrev pub format_of : List ℕ → Option PnmFormat
format_of (p ∷ kind ∷ _) =
    if p == 80
    then (if kind == 52 then Some Pbm else (if kind == 53 then Some Pgm else (if kind == 54 then Some Ppm else None)))
    else None
format_of _ = None

-- what follows the white space and the comments
abbrev pub after_filler : Bool → List ℕ → List ℕ
after_filler _ [] = []
after_filler false (b ∷ bytes) =
    if is_white b then after_filler false bytes else (if b == 35 then after_filler true bytes else b ∷ bytes)
after_filler true (b ∷ bytes) = if ends_comment b then after_filler false bytes else after_filler true bytes

-- a number of 1 to 10 digits, and what follows
unfoldable pub number_at : List ℕ → Option (ℕ × List ℕ)
number_at bytes =
    if nat_le 1 (digit_count bytes) && nat_le (digit_count bytes) 10
    then Some (digits_value 10 (take (digit_count bytes) bytes), drop (digit_count bytes) bytes)
    else None

-- a gap and a number, and what follows
unfoldable pub field_at : List ℕ → Option (ℕ × List ℕ)
field_at [] = None
field_at (b ∷ bytes) = if is_white b then number_at (after_filler false bytes) else None

-- the white space byte that ends the header, and what follows
unfoldable pub end_at : List ℕ → Option (List ℕ)
end_at [] = None
end_at (b ∷ bytes) = if is_white b then Some bytes else None

-- the greatest value, and what follows
unfoldable pub maxval_at : PnmFormat → List ℕ → Option (ℕ × List ℕ)
maxval_at Pbm bytes = Some (1, bytes)
maxval_at Pgm bytes = field_at bytes
maxval_at Ppm bytes = field_at bytes

-- **header reading (`header_at`)**: the header as a computation from the left; proved to find exactly what the grammar
-- has.
--
-- the header that a text begins with, and the bytes after it
unfoldable pub header_at : List ℕ → Option (Header × List ℕ)
header_at text = do
  format ← format_of text
  width ← field_at (drop 2 text)
  height ← field_at width.1
  maxval ← maxval_at format height.1
  raster ← end_at maxval.1
  if (nat_le 1 width.0 && nat_le width.0 65536)
      && ((nat_le 1 height.0 && nat_le height.0 65536) && (nat_le 1 maxval.0 && nat_le maxval.0 65535))
      then Some (record { format = format; width = width.0; height = height.0; maxval = maxval.0 }, raster) else None
