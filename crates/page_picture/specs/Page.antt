-- A page as contracts see it: a picture of three channels and 16 bits a sample, and its dots per inch.
use Rattle.std.specs.Prelude.{ℕ, ◌+◌, ◌*◌, ◌^◌, ◌<◌, ◌≤◌, ◌≡◌, List, length, slice_index}

-- **page (`PageView`, `IsPageView`)**: a picture of three channels and greatest value 65535, with sides of 1 to 16,384
-- and 1 to 1,200 dots per inch.
--
-- the samples stand row by row from the top, the three of a place side by side
pub record PageView : Type 0 where
  pub width : ℕ
  pub height : ℕ
  pub dpi : ℕ
  pub samples : List ℕ

-- the limits of a page
pub record IsShaped (s : PageView) : Type 0 where
  pub width_some : 1 ≤ s.width
  pub width_most : s.width ≤ 16384
  pub height_some : 1 ≤ s.height
  pub height_most : s.height ≤ 16384
  pub dpi_some : 1 ≤ s.dpi
  pub dpi_most : s.dpi ≤ 1200
  pub size : length s.samples ≡ s.width * s.height * 3

-- a page: its limits, and samples of 0 to 65535
pub record IsPageView (s : PageView) : Type 0 where
  pub shape : IsShaped s
  pub sixteen_bits : (i : ℕ) → slice_index s.samples i < 2 ^ 16

-- the sample of channel k at column x of row y
abbrev pub page_sample_at : PageView → ℕ → ℕ → ℕ → ℕ
page_sample_at s x y k = slice_index s.samples ((y * s.width + x) * 3 + k)

-- these are the samples of row y, from the left
pub record IsRow (s : PageView) (y : ℕ) (row : List ℕ) : Type 0 where
  pub each : (x k : ℕ) → x < s.width → k < 3 → slice_index row (3 * x + k) ≡ page_sample_at s x y k
