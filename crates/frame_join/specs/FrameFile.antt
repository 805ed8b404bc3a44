-- The file of a frame that is a picture, byte by byte, and how much of it may go out.
use Rattle.std.specs.Prelude.{ℕ, ◌+◌, ◌-◌, ◌*◌, ◌/◌, ◌%◌, ◌^◌, ◌≡◌, ◌==◌, true, min, if◌then◌else◌, Option, Some, None}
use Rattle.std.specs.Prelude.{List, [], ◌∷◌, ◌++◌, length, slice_index}
use Rattle.netpbm.specs.declared.format.PnmFormat.{PnmFormat}
use Rattle.netpbm.specs.declared.format.PnmFormat.TheVariants.{Pbm, Pgm, Ppm}
use Rattle.netpbm.specs.declared.format.Header.{Header}
use Rattle.netpbm.specs.FileText.{concat_up_to, header_text}
use Rattle.sane_fixed.specs.declared.frame_format.FrameFormat.{FrameFormat}
use Rattle.sane_fixed.specs.declared.frame_format.FrameFormat.TheVariants.{Gray, Rgb, Red, Green, Blue}
use Rattle.sane_fixed.specs.declared.byte_order.ByteOrder.{ByteOrder}
use Rattle.sane_fixed.specs.declared.byte_order.ByteOrder.TheVariants.{Little, Big}
use Rattle.sane_fixed.specs.declared.params.Params.{Params}
use Rattle.page_picture.specs.Meaning.{greatest_at}
use Rattle.page_picture.specs.Shows.{Frame}
use Rattle.frame_join.specs.AloneFrame.{is_alone, is_alone_format, lines_in, row_bytes}
use Rattle.frame_join.specs.ColorPlanes.{planes_of, side_by_side}

-- the format of the file of a frame
abbrev pub format_alone : FrameFormat → ℕ → PnmFormat
format_alone Gray depth = if depth == 1 then Pbm else Pgm
format_alone Rgb depth = Ppm
format_alone Red depth = Pgm
format_alone Green depth = Pgm
format_alone Blue depth = Pgm

-- the header of the file of a frame
abbrev pub header_alone : Params → Header
header_alone p = record {
  format = format_alone p.format p.depth;
  width = p.pixels_per_line;
  height = lines_in p.lines;
  maxval = greatest_at p.depth;
}

-- where byte j of a row of the file stands in the frame's line
abbrev pub place_in : ByteOrder → ℕ → ℕ → ℕ
place_in Big depth j = j
place_in Little depth j = if depth == 16 then (if j % 2 == 0 then j + 1 else j - 1) else j

-- the bits past the row's end are 0
abbrev pub trimmed_byte : ℕ → ℕ → ℕ → ℕ → ℕ
trimmed_byte width depth j byte =
    if depth == 1 then byte / 2 ^ (8 * (j + 1) - width) * 2 ^ (8 * (j + 1) - width) else byte

-- byte j of row y of the file's raster
abbrev pub raster_byte : Frame → ℕ → ℕ → ℕ
raster_byte f y j =
    trimmed_byte f.params.pixels_per_line f.params.depth j (slice_index f.payload (y * f.params.bytes_per_line
    + place_in f.order f.params.depth j))

-- the first n bytes of row y
abbrev pub row_front : Frame → ℕ → ℕ → List ℕ
row_front f y n = concat_up_to (λ j. raster_byte f y j ∷ []) n

-- the first n rows of the raster
unfoldable pub rows_front : Frame → ℕ → List ℕ
rows_front f n = concat_up_to (λ y. row_front f y (row_bytes f.params)) n

-- the header and the first n rows
abbrev pub file_front : Frame → ℕ → List ℕ
file_front f n = header_text (header_alone f.params) ++ rows_front f n

-- the complete rows that came, the picture's last row excepted
abbrev pub rows_to_go : Frame → ℕ
rows_to_go f = min (length f.payload / f.params.bytes_per_line) (lines_in f.params.lines - 1)

-- what may go out while the frame is under way; of a frame that is kept nothing
abbrev pub gone_under : Frame → List ℕ
gone_under f = if is_alone f.params then file_front f (rows_to_go f) else []

-- so many lines, or those that so many bytes make where their number is not known
abbrev pub height_at : Option ℕ → ℕ → ℕ → ℕ
height_at (Some lines) line size = lines
height_at None line size = size / line

abbrev pub frame_height : Frame → ℕ
frame_height f = height_at f.params.lines f.params.bytes_per_line (length f.payload)

-- the frame told of the height that it shows
abbrev pub with_height : Frame → Frame
with_height f = record f { params = record f.params { lines = Some (frame_height f) } }

-- the file of the frames of a whole picture; of other frames nothing
abbrev pub file_of : List Frame → List ℕ
file_of [] = []
file_of (f ∷ []) = if is_alone_format f.params.format then file_front (with_height f) (frame_height f) else []
file_of (a ∷ b ∷ []) = []
file_of (a ∷ b ∷ c ∷ rest) = file_front (side_by_side c (planes_of (a ∷ b ∷ c ∷ []))) (lines_in c.params.lines)

-- all that was given when a pull gives nothing into a buffer with room: of a frame whose rows go straight through, the
-- header and the complete rows without the picture's last row; of a whole picture, the file
abbrev pub AllGone : Option Frame → List Frame → List ℕ → Type 0
AllGone (Some f) _ given = given ≡ gone_under f
AllGone None frames given = given ≡ file_of frames

-- no frame is under way, or one whose rows go straight through
abbrev pub GoesThrough : Option Frame → Type 0
GoesThrough None = Unit {0}
GoesThrough (Some f) = is_alone f.params ≡ true
