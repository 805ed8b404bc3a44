-- Frames that are kept until their picture is whole: one whose height only its end tells, and those of one color each.
use Rattle.std.specs.Prelude.{ℕ, ◌==◌, ◌&&◌, Bool, true, false, not, if◌then◌else◌, Option, Some, None}
use Rattle.sane_fixed.specs.declared.frame_format.FrameFormat.{FrameFormat}
use Rattle.sane_fixed.specs.declared.frame_format.FrameFormat.TheVariants.{Gray, Rgb, Red, Green, Blue}
use Rattle.sane_fixed.specs.declared.byte_order.ByteOrder.{ByteOrder}
use Rattle.sane_fixed.specs.declared.byte_order.ByteOrder.TheVariants.{Little, Big}
use Rattle.sane_fixed.specs.declared.params.Params.{Params}
use Rattle.page_picture.specs.Shows.{Frame}
use Rattle.frame_join.specs.AloneFrame.{is_alone_format, is_known, is_shaped, lines_in}

abbrev pub is_unknown : Option ℕ → Bool
is_unknown None = true
is_unknown (Some _) = false

-- **a frame of unknown height, a pass (`is_open_ended`, `is_pass`), what may follow (`is_accepted`)**: a GRAY or RGB
-- frame whose lines are not told; a frame of one color of known lines. The first frame is a picture alone, of unknown
-- height, or a pass. After a pass come frames of the other colors, alike in width, lines, depth and byte order; the
-- third alone is the last.
--
-- a frame of these parameters is a picture whose height its end tells
abbrev pub is_open_ended : Params → Bool
is_open_ended p = is_alone_format p.format && (p.last_frame && (is_unknown p.lines && is_shaped p))

-- the number of a color; 3 for what is none
abbrev pub color_number : FrameFormat → ℕ
color_number Gray = 3
color_number Rgb = 3
color_number Red = 0
color_number Green = 1
color_number Blue = 2

-- a frame of these parameters is one color of a picture of known height
abbrev pub is_pass : Params → Bool
is_pass p = not (is_alone_format p.format) && (is_known p.lines && is_shaped p)

-- the same, and the last of the picture's frames or not
abbrev pub is_pass_that : Bool → Params → Bool
is_pass_that last p = is_pass p && (if last then p.last_frame else not p.last_frame)

abbrev pub same_order : ByteOrder → ByteOrder → Bool
same_order Little Little = true
same_order Little Big = false
same_order Big Little = false
same_order Big Big = true

-- two frames have one width, one number of lines, one depth and one byte order
abbrev pub is_alike : Params → ByteOrder → Params → ByteOrder → Bool
is_alike p order q other =
    (p.pixels_per_line == q.pixels_per_line)
    && ((lines_in p.lines == lines_in q.lines) && ((p.depth == q.depth) && same_order order other))

-- a frame of these parameters shows another color of the picture than the frame f
abbrev pub goes_with : Frame → Params → ByteOrder → Bool
goes_with f p order = not (color_number f.params.format == color_number p.format) && is_alike f.params f.order p order
