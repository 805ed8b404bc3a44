-- A picture that comes in one frame of known height: the test on the frame's parameters, and what it says.
use Rattle.std.specs.Prelude.{ℕ, ◌*◌, ◌≤◌, ◌≡◌, ◌==◌, ◌&&◌, ◌||◌, ◌⊎◌, nat_le, Bool, true, false, Option, Some, None}
use Rattle.sane_fixed.specs.declared.frame_format.FrameFormat.{FrameFormat}
use Rattle.sane_fixed.specs.declared.frame_format.FrameFormat.TheVariants.{Gray, Rgb, Red, Green, Blue}
use Rattle.sane_fixed.specs.declared.params.Params.{Params}
use Rattle.page_picture.specs.Shows.{row_size, HasLineShape}
use Rattle.page_picture.specs.Extent.{is_side}

-- the depths of a frame; rows of bits are gray
abbrev pub is_depth : FrameFormat → ℕ → Bool
is_depth Gray depth = (depth == 1) || ((depth == 8) || (depth == 16))
is_depth Rgb depth = (depth == 8) || (depth == 16)
is_depth Red depth = (depth == 8) || (depth == 16)
is_depth Green depth = (depth == 8) || (depth == 16)
is_depth Blue depth = (depth == 8) || (depth == 16)

-- the depth and the width are admitted, and a line has room for its samples
abbrev pub is_shaped : Params → Bool
is_shaped p =
    is_depth p.format p.depth
    && (is_side p.pixels_per_line
    && (nat_le (row_size p.format p.pixels_per_line p.depth) p.bytes_per_line && nat_le p.bytes_per_line 1048576))

-- frames of the format are a picture each
abbrev pub is_alone_format : FrameFormat → Bool
is_alone_format Gray = true
is_alone_format Rgb = true
is_alone_format Red = false
is_alone_format Green = false
is_alone_format Blue = false

-- the number of lines is known, and one of a picture
abbrev pub is_known : Option ℕ → Bool
is_known None = false
is_known (Some n) = is_side n

-- the number of lines, 0 where it is not known
abbrev pub lines_in : Option ℕ → ℕ
lines_in None = 0
lines_in (Some n) = n

-- **a frame that is a picture (`is_alone`)**: one GRAY or RGB frame of known lines with the last flag, of an accepted
-- shape.
abbrev pub is_alone : Params → Bool
is_alone p = is_alone_format p.format && (p.last_frame && (is_known p.lines && is_shaped p))

-- what the test on depth, width and line says
pub record ShapeParts (p : Params) : Type 0 where
  pub depth : p.depth ≤ 16
  pub bits : p.depth ≡ 1 → p.format ≡ Gray
  pub depths : (p.depth ≡ 1) ⊎ ((p.depth ≡ 8) ⊎ (p.depth ≡ 16))
  pub line_shape : HasLineShape p
  pub width_some : 1 ≤ p.pixels_per_line
  pub width_most : p.pixels_per_line ≤ 65536
  pub row_some : 1 ≤ row_size p.format p.pixels_per_line p.depth
  pub fits : row_size p.format p.pixels_per_line p.depth ≤ p.bytes_per_line
  pub line_most : p.bytes_per_line ≤ 1048576

-- what the whole test says
pub record AloneParts (p : Params) : Type 0 where
  pub shape : ShapeParts p
  pub format : is_alone_format p.format ≡ true
  pub last : p.last_frame ≡ true
  pub lines_known : p.lines ≡ Some (lines_in p.lines)
  pub lines_some : 1 ≤ lines_in p.lines
  pub lines_most : lines_in p.lines ≤ 65536

-- the bytes of a row of the picture
abbrev pub row_bytes : Params → ℕ
row_bytes p = row_size p.format p.pixels_per_line p.depth

-- the most lines of a frame
abbrev pub most_lines : Option ℕ → ℕ
most_lines None = 65536
most_lines (Some n) = n

-- the most bytes that the frame may have
abbrev pub most_bytes : Params → ℕ
most_bytes params = most_lines params.lines * params.bytes_per_line
