-- Which picture a list of frames shows: where each of its samples stands (SANE Standard 1.06, "Scan parameters").
use Rattle.std.specs.Prelude.{ℕ, ◌+◌, ◌-◌, ◌*◌, ◌/◌, ◌%◌, ◌^◌, ◌≤◌, ◌≡◌, ◌≢◌, ◌==◌, ◌⊎◌, Bool, true, false}
use Rattle.std.specs.Prelude.{if◌then◌else◌, Option, Some, None, List, [], ◌∷◌, length, slice_index}
use Rattle.sane_fixed.specs.declared.frame_format.FrameFormat.{FrameFormat}
use Rattle.sane_fixed.specs.declared.frame_format.FrameFormat.TheVariants.{Gray, Rgb, Red, Green, Blue}
use Rattle.sane_fixed.specs.declared.byte_order.ByteOrder.{ByteOrder}
use Rattle.sane_fixed.specs.declared.byte_order.ByteOrder.TheVariants.{Little, Big}
use Rattle.sane_fixed.specs.declared.params.Params.{Params}
use Rattle.netpbm.specs.Picture.{Picture, IsPlace, IsPicture}
use Rattle.netpbm.specs.Pnm.{bit_row}
use Rattle.page_picture.specs.Meaning.{greatest_at}

-- a frame: what was told of it, its byte order, and its bytes
pub record Frame : Type 0 where
  pub params : Params
  pub order : ByteOrder
  pub payload : List ℕ

-- the number that two bytes make in the byte order
abbrev pub two_bytes : ByteOrder → List ℕ → ℕ → ℕ
two_bytes Little bytes i = slice_index bytes i + 256 * slice_index bytes (i + 1)
two_bytes Big bytes i = 256 * slice_index bytes i + slice_index bytes (i + 1)

-- the sample at column x of row y and channel k of a frame that has so many channels: two bytes, one byte, or one bit,
-- the leftmost the most significant
abbrev pub frame_sample : ℕ → Frame → ℕ → ℕ → ℕ → ℕ
frame_sample channels frame x y k =
    let line = y * frame.params.bytes_per_line in
    if frame.params.depth == 16 then two_bytes frame.order frame.payload (line + 2 * (channels * x + k))
    else (if frame.params.depth == 8 then slice_index frame.payload (line + (channels * x + k))
    else slice_index frame.payload (line + x / 8) / 2 ^ (7 - x % 8) % 2)

-- the channels that stand side by side in a frame
abbrev pub channels_within : FrameFormat → ℕ
channels_within Gray = 1
channels_within Rgb = 3
channels_within Red = 1
channels_within Green = 1
channels_within Blue = 1

-- the channels of a picture that comes in one frame of the format
abbrev pub channels_alone : FrameFormat → Option ℕ
channels_alone Gray = Some 1
channels_alone Rgb = Some 3
channels_alone Red = None
channels_alone Green = None
channels_alone Blue = None

-- the channel of the picture that a frame of one color holds
abbrev pub color_of : FrameFormat → Option ℕ
color_of Gray = None
color_of Rgb = None
color_of Red = Some 0
color_of Green = Some 1
color_of Blue = Some 2

-- the bytes of a row's samples
abbrev pub row_size : FrameFormat → ℕ → ℕ → ℕ
row_size format width depth = if depth == 1 then bit_row width else width * channels_within format * (depth / 8)

-- the bits of a sample: 8 or 16, in grays also 1
abbrev pub IsDepth : FrameFormat → ℕ → Type 0
IsDepth Gray depth = (depth ≡ 1) ⊎ ((depth ≡ 8) ⊎ (depth ≡ 16))
IsDepth Rgb depth = (depth ≡ 8) ⊎ (depth ≡ 16)
IsDepth Red depth = (depth ≡ 8) ⊎ (depth ≡ 16)
IsDepth Green depth = (depth ≡ 8) ⊎ (depth ≡ 16)
IsDepth Blue depth = (depth ≡ 8) ⊎ (depth ≡ 16)

-- the limits of a frame's lines, and that a line has room for its samples
pub record HasLineShape (p : Params) : Type 0 where
  pub depth : IsDepth p.format p.depth
  pub width_some : 1 ≤ p.pixels_per_line
  pub width_most : p.pixels_per_line ≤ 65536
  pub enough : row_size p.format p.pixels_per_line p.depth ≤ p.bytes_per_line
  pub line_most : p.bytes_per_line ≤ 1048576

-- the number of lines is this, where it is known
abbrev pub HasLines : Option ℕ → ℕ → Type 0
HasLines None height = Unit {0}
HasLines (Some lines) height = lines ≡ height

-- the frame has the shape of the picture, and whole lines; both have the limits of what they are
pub record FitsPicture (frame : Frame) (p : Picture) : Type 0 where
  pub shape : HasLineShape frame.params
  pub is_picture : IsPicture p
  pub width : p.width ≡ frame.params.pixels_per_line
  pub height : HasLines frame.params.lines p.height
  pub greatest : p.greatest ≡ greatest_at frame.params.depth
  pub size : length frame.payload ≡ p.height * frame.params.bytes_per_line

-- one frame shows all channels of the picture
pub record ShowsAlone (frame : Frame) (p : Picture) : Type 0 where
  pub last : frame.params.last_frame ≡ true
  pub channels : channels_alone frame.params.format ≡ Some p.channels
  pub fits : FitsPicture frame p
  pub samples : (x y k : ℕ) → IsPlace p x y k → p.at x y k ≡ frame_sample p.channels frame x y k

-- one frame in the byte order shows one channel of the picture
pub record ShowsColor (order : ByteOrder) (frame : Frame) (p : Picture) (channel : ℕ) (last : Bool) : Type 0 where
  pub same_order : frame.order ≡ order
  pub last_is : frame.params.last_frame ≡ last
  pub color : color_of frame.params.format ≡ Some channel
  pub lines_known : frame.params.lines ≡ Some p.height
  pub fits : FitsPicture frame p
  pub samples : (x y : ℕ) → IsPlace p x y channel → p.at x y channel ≡ frame_sample 1 frame x y 0

-- three frames in one byte order show a channel each, in whatever order the colors come; the third alone is the last
pub record ShowsColors (a b c : Frame) (p : Picture) : Type 0 where
  pub first : ℕ
  pub second : ℕ
  pub third : ℕ
  pub each_once : (first ≢ second) × (first ≢ third) × (second ≢ third)
  pub channels : p.channels ≡ 3
  pub first_shows : ShowsColor a.order a p first false
  pub second_shows : ShowsColor a.order b p second false
  pub third_shows : ShowsColor a.order c p third true

-- **frames show a picture (`ShowsFrames`)**: the list of frames is one GRAY or RGB frame, or RED, GREEN and BLUE once
-- each in any order, of equal width, lines, depth and byte order. The last alone has the last flag, and each payload
-- has whole lines. Each sample of the picture stands at its place: with B bytes a line and c channels, sample (x, y, k)
-- is the byte y * B + c * x + k at depth 8, the two bytes from y * B + 2 (c * x + k) in the byte order at depth 16, and
-- bit 7 - x mod 8 of byte y * B + floor(x / 8) at depth 1.
abbrev pub ShowsFrames : List Frame → Picture → Type 0
ShowsFrames [] p = ⊥
ShowsFrames (a ∷ []) p = ShowsAlone a p
ShowsFrames (a ∷ b ∷ []) p = ⊥
ShowsFrames (a ∷ b ∷ c ∷ []) p = ShowsColors a b c p
ShowsFrames (a ∷ b ∷ c ∷ d ∷ rest) p = ⊥
