-- The text that the writer gives for a picture.
use Rattle.std.specs.Prelude.{ℕ, zero, suc, ◌+◌, ◌*◌, ◌/◌, ◌%◌, ◌≡◌, ◌≤◌, nat_lt, if◌then◌else◌, List, [], ◌∷◌, ◌++◌}
use Rattle.std.specs.Prelude.{codes, decimal}
use Rattle.netpbm.specs.declared.format.PnmFormat.{PnmFormat}
use Rattle.netpbm.specs.declared.format.PnmFormat.TheVariants.{Pbm, Pgm, Ppm}
use Rattle.netpbm.specs.declared.format.Header.{Header}
use Rattle.netpbm.specs.Picture.{Picture, IsPlace}
use Rattle.netpbm.specs.Pnm.{magic, bit_row, channels_of}

-- the lists f 0, f 1 and so on, n of them, one after another
unfoldable pub concat_up_to : (ℕ → List ℕ) → ℕ → List ℕ
concat_up_to f zero = []
concat_up_to f (suc n) = concat_up_to f n ++ f n

abbrev pub maxval_text : PnmFormat → ℕ → List ℕ
maxval_text Pbm _ = []
maxval_text Pgm m = decimal m ++ 10 ∷ []
maxval_text Ppm m = decimal m ++ 10 ∷ []

-- the header, with a comment in its second line
abbrev pub header_text : Header → List ℕ
header_text h =
    magic h.format
    ++ (10 ∷ codes "# SANE data follows"
    ++ (10 ∷ decimal h.width ++ (32 ∷ decimal h.height ++ (10 ∷ maxval_text h.format h.maxval))))

-- one byte, or two, the more significant first
abbrev pub sample_text : ℕ → ℕ → List ℕ
sample_text maxval v = if nat_lt maxval 256 then v ∷ [] else v / 256 ∷ v % 256 ∷ []

-- the number whose binary digits are f 0 to f (n - 1)
abbrev pub binary : (ℕ → ℕ) → ℕ → ℕ
binary f zero = 0
binary f (suc n) = 2 * binary f n + f n

-- the samples of one row, `at x k` in column x and each of the channels k
abbrev pub samples_text : ℕ → ℕ → ℕ → (ℕ → ℕ → ℕ) → List ℕ
samples_text channels maxval width at =
    concat_up_to (λ x. concat_up_to (λ k. sample_text maxval (at x k)) channels) width

-- the byte of the eight bits from column 8 * b on, the leftmost as the most significant, with 0 past the row's end
abbrev pub bits_byte : ℕ → (ℕ → ℕ) → ℕ → ℕ
bits_byte width at b = binary (λ j. if nat_lt (8 * b + j) width then at (8 * b + j) else 0) 8

abbrev pub row_text : PnmFormat → ℕ → ℕ → (ℕ → ℕ → ℕ) → List ℕ
row_text Pbm maxval width at = concat_up_to (λ b. bits_byte width (λ x. at x 0) b ∷ []) (bit_row width)
row_text Pgm maxval width at = samples_text 1 maxval width at
row_text Ppm maxval width at = samples_text 3 maxval width at

-- the rows from the top
abbrev pub raster_text : Header → (ℕ → ℕ → ℕ → ℕ) → List ℕ
raster_text h at = concat_up_to (λ y. row_text h.format h.maxval h.width (λ x k. at x y k)) h.height

-- **the writer's text (`file_text`)**: of the texts that denote a picture the one that we write: the comment line `#
-- SANE data follows` after the magic, and filling bits 0.
abbrev pub file_text : Header → (ℕ → ℕ → ℕ → ℕ) → List ℕ
file_text h at = header_text h ++ raster_text h at

-- the picture can be written under the header
pub record Suits (h : Header) (p : Picture) : Type 0 where
  pub width : p.width ≡ h.width
  pub height : p.height ≡ h.height
  pub channels : p.channels ≡ channels_of h.format
  pub greatest : p.greatest ≡ h.maxval
  pub width_some : 1 ≤ h.width
  pub width_most : h.width ≤ 65536
  pub height_some : 1 ≤ h.height
  pub height_most : h.height ≤ 65536
  pub maxval_some : 1 ≤ h.maxval
  pub maxval_most : h.maxval ≤ 65535
  pub bits : h.format ≡ Pbm → h.maxval ≡ 1
  pub in_range : (x y k : ℕ) → IsPlace p x y k → p.at x y k ≤ p.greatest
