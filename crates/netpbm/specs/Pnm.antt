-- The grammar of a Netpbm file, by cases on its bytes, and the picture that a text denotes.
use Rattle.std.specs.Prelude.{ℕ, ◌+◌, ◌-◌, ◌*◌, ◌/◌, ◌%◌, ◌^◌, ◌≤◌, ◌≡◌, Bool, true, false, ◌||◌, ◌==◌, nat_lt}
use Rattle.std.specs.Prelude.{if◌then◌else◌, IsTrue, List, [], ◌∷◌, ◌++◌, length, slice_index}
use Rattle.std.specs.Str.Parse.{digits_value, AllDigits}
use Rattle.netpbm.specs.Picture.{Picture, IsPlace}
use Rattle.netpbm.specs.declared.format.PnmFormat.{PnmFormat}
use Rattle.netpbm.specs.declared.format.PnmFormat.TheVariants.{Pbm, Pgm, Ppm}
use Rattle.netpbm.specs.declared.format.Header.{Header}

-- **white space, comment, gap, number, field**: white space is one of the bytes 20, 09, 0A, 0D, 0B, 0C (hexadecimal;
-- the last two are a leniency of ours). A comment is `#`, bytes other than 0A and 0D, and one of these. A gap is a
-- white space byte, then any number of white space bytes and comments. A number is 1 to 10 digits; a field is a gap and
-- a number.
--
-- space, tab, line feed, carriage return, vertical tab, form feed
abbrev pub is_white : ℕ → Bool
is_white b = (b == 32) || ((b == 9) || ((b == 10) || ((b == 13) || ((b == 11) || (b == 12)))))

-- line feed or carriage return
abbrev pub ends_comment : ℕ → Bool
ends_comment b = (b == 10) || (b == 13)

-- no byte inside a comment ends it
abbrev pub NoneEnds : List ℕ → Type 0
NoneEnds [] = Unit {0}
NoneEnds (b ∷ bytes) = (ends_comment b ≡ false) × NoneEnds bytes

-- white space bytes and comments, any number of each; a comment is `#`, bytes that do not end it, and one that does
pub data IsFiller : List ℕ → Type 0 where
  nothing : IsFiller []
  white : (b : ℕ) (more : List ℕ) → is_white b ≡ true → IsFiller more → IsFiller (b ∷ more)
  comment : (inside : List ℕ) (last : ℕ) (more : List ℕ) → NoneEnds inside → ends_comment last ≡ true → IsFiller more
      → IsFiller (35 ∷ (inside ++ (last ∷ more)))

-- what stands before a number: a white space byte, and then any number of them and of comments
pub record IsGap (bytes : List ℕ) : Type 0 where
  pub first : ℕ
  pub filler : List ℕ
  pub bytes_are : bytes ≡ first ∷ filler
  pub is_first : is_white first ≡ true
  pub is_filler : IsFiller filler

-- 1 to 10 decimal digits
pub record IsNumber (digits : List ℕ) (n : ℕ) : Type 0 where
  pub all_digits : AllDigits 10 digits
  pub some : 1 ≤ length digits
  pub most : length digits ≤ 10
  pub value : n ≡ digits_value 10 digits

-- a gap and a number
pub record IsField (bytes : List ℕ) (n : ℕ) : Type 0 where
  pub gap : List ℕ
  pub number : List ℕ
  pub bytes_are : bytes ≡ gap ++ number
  pub is_gap : IsGap gap
  pub is_number : IsNumber number n

-- `P4`, `P5` or `P6`
abbrev pub magic : PnmFormat → List ℕ
magic Pbm = 80 ∷ 52 ∷ []
magic Pgm = 80 ∷ 53 ∷ []
magic Ppm = 80 ∷ 54 ∷ []

-- what stands for the greatest value: nothing for bits, whose greatest value is 1, else a field
abbrev pub IsMaxval : PnmFormat → List ℕ → ℕ → Type 0
IsMaxval Pbm bytes m = (bytes ≡ []) × (m ≡ 1)
IsMaxval Pgm bytes m = IsField bytes m × (1 ≤ m) × (m ≤ 65535)
IsMaxval Ppm bytes m = IsField bytes m × (1 ≤ m) × (m ≤ 65535)

-- **header (`IsHeader`)**: `P4`, `P5` or `P6`, a field for the width, one for the height, but for `P4` one for the
-- greatest value, and one white space byte. Sides are 1 to 65,536, the greatest value 1 to 65,535.
--
-- the bytes before the raster, up to the one white space byte that ends them
pub record IsHeader (head : List ℕ) (h : Header) : Type 0 where
  pub width_field : List ℕ
  pub height_field : List ℕ
  pub maxval_field : List ℕ
  pub last : ℕ
  pub bytes : head ≡ magic h.format ++ (width_field ++ (height_field ++ (maxval_field ++ (last ∷ []))))
  pub is_width : IsField width_field h.width
  pub is_height : IsField height_field h.height
  pub is_maxval : IsMaxval h.format maxval_field h.maxval
  pub is_last : IsTrue (is_white last)
  pub width_some : 1 ≤ h.width
  pub width_most : h.width ≤ 65536
  pub height_some : 1 ≤ h.height
  pub height_most : h.height ≤ 65536

abbrev pub channels_of : PnmFormat → ℕ
channels_of Pbm = 1
channels_of Pgm = 1
channels_of Ppm = 3

-- the bytes of one sample of grays or colors
abbrev pub sample_bytes : ℕ → ℕ
sample_bytes maxval = if nat_lt maxval 256 then 1 else 2

-- the bytes of a row of bits
abbrev pub bit_row : ℕ → ℕ
bit_row width = (width + 7) / 8

-- how many bytes the raster has
abbrev pub raster_length : PnmFormat → ℕ → ℕ → ℕ → ℕ
raster_length Pbm width height _ = bit_row width * height
raster_length Pgm width height maxval = width * height * sample_bytes maxval
raster_length Ppm width height maxval = width * height * 3 * sample_bytes maxval

-- the number at place i of the raster's samples: one byte, or two, the more significant first
abbrev pub number_in : ℕ → List ℕ → ℕ → ℕ
number_in maxval raster i =
    if nat_lt maxval 256 then slice_index raster i
    else 256 * slice_index raster (2 * i) + slice_index raster (2 * i + 1)

-- the sample at column x of row y and channel k of a raster that is so wide and has that greatest value
abbrev pub sample_in : PnmFormat → ℕ → ℕ → List ℕ → ℕ → ℕ → ℕ → ℕ
sample_in Pbm width maxval raster x y k = slice_index raster (y * bit_row width + x / 8) / 2 ^ (7 - x % 8) % 2
sample_in Pgm width maxval raster x y k = number_in maxval raster (y * width + x)
sample_in Ppm width maxval raster x y k = number_in maxval raster ((y * width + x) * 3 + k)

-- the raster shows the picture
pub record Shows (h : Header) (raster : List ℕ) (p : Picture) : Type 0 where
  pub size : length raster ≡ raster_length h.format h.width h.height h.maxval
  pub width : p.width ≡ h.width
  pub height : p.height ≡ h.height
  pub channels : p.channels ≡ channels_of h.format
  pub greatest : p.greatest ≡ h.maxval
  pub samples : (x y k : ℕ) → IsPlace p x y k → p.at x y k ≡ sample_in h.format h.width h.maxval raster x y k
  pub in_range : (x y k : ℕ) → IsPlace p x y k → p.at x y k ≤ p.greatest

-- the text is the bytes of a header, and then the raster
pub record Begins (text : List ℕ) (h : Header) (raster : List ℕ) : Type 0 where
  pub head : List ℕ
  pub text_is : text ≡ head ++ raster
  pub is_header : IsHeader head h

-- **denotes (`Denotes`)**: the whole text is a header and a raster of exactly the bytes that it tells of, with nothing
-- after it, and shows the picture. A raster of `P4` has rows of bits filled to whole bytes, the leftmost the most
-- significant; the filling is ignored. Any other has one byte a sample below a greatest value of 256, two from there
-- on, the more significant first. No sample is above the greatest value.
pub record Denotes (text : List ℕ) (p : Picture) : Type 0 where
  pub header : Header
  pub raster : List ℕ
  pub begins : Begins text header raster
  pub shows : Shows header raster p

-- **whole (`IsWhole`)**: a text that denotes some picture. Two laws are proved: a text denotes at most one picture, and
-- no proper prefix of a whole text is whole.
abbrev pub IsWhole : List ℕ → Type 0
IsWhole text = (p : Picture) × Denotes text p
