-- The frames that a scan gives: what is told of each, and its bytes (SANE Standard 1.06, "Scan parameters").
use Rattle.std.specs.Prelude.{ℕ, ◌+◌, ◌*◌, ◌≤◌, ◌≡◌, ◌==◌, ◌⊎◌, ◌&&◌, Bool, true, false, if◌then◌else◌, Option, Some}
use Rattle.std.specs.Prelude.{None, List, [], ◌∷◌}
use Rattle.netpbm.specs.FileText.{concat_up_to}
use Rattle.sane_fixed.specs.declared.frame_format.FrameFormat.{FrameFormat}
use Rattle.sane_fixed.specs.declared.frame_format.FrameFormat.TheVariants.{Gray as GrayFrame, Rgb as RgbFrame}
use Rattle.sane_fixed.specs.declared.frame_format.FrameFormat.TheVariants.{Red as RedFrame, Green as GreenFrame}
use Rattle.sane_fixed.specs.declared.frame_format.FrameFormat.TheVariants.{Blue as BlueFrame}
use Rattle.sane_fixed.specs.declared.params.Params.{Params}
use Rattle.page_picture.specs.Page.{PageView}
use Rattle.page_picture.specs.Extent.{across, down, is_side, shows_depth}
use Rattle.page_picture.specs.Meaning.{sample_of}
use Rattle.page_picture.specs.Shows.{Frame, channels_within}
use Rattle.page_picture.specs.declared.scene.DeviceKind.{DeviceKind}
use Rattle.page_picture.specs.declared.scene.DeviceKind.TheVariants.{Flatbed, Hand, ThreePass, Feeder}
use Rattle.page_picture.specs.declared.scene.Mode.{Mode}
use Rattle.page_picture.specs.declared.scene.Mode.TheVariants.{Gray, Color}
use Rattle.scan_frames.specs.Line.{packing_of, line_size, line_of}
use Rattle.scan_frames.specs.declared.setup.Setup.{Setup}
use Rattle.scan_frames.specs.declared.setup.PassOrder.{PassOrder}
use Rattle.scan_frames.specs.declared.setup.PassOrder.TheVariants.{Rgb, Rbg, Gbr, Grb, Brg, Bgr}

-- **setup (`Setup`, `IsSetup`)**: what the options of a scanner say: the scene, the byte order, the order of passes,
-- the lost pixels of a line, the most bytes of a read, and what the first read of a frame answers in place of bytes.
-- `IsSetup` has the limits of these.
pub record IsSetup (s : Setup) : Type 0 where
  pub depth : (s.scene.depth ≡ 1) ⊎ ((s.scene.depth ≡ 8) ⊎ (s.scene.depth ≡ 16))
  pub resolution_some : 1 ≤ s.scene.resolution
  pub resolution_most : s.scene.resolution ≤ 1200
  pub loss : s.loss ≤ 64
  pub limit_some : 1 ≤ s.limit
  pub limit_most : s.limit ≤ 65536

-- the sides of the picture, on a page of so many rows and dots per inch
abbrev pub width_of : Setup → ℕ
width_of s = across s.scene.kind s.scene

abbrev pub height_on : Setup → ℕ → ℕ → ℕ
height_on s rows dpi = down s.scene.kind rows dpi s.scene

abbrev pub height_of : Setup → PageView → ℕ
height_of s page = height_on s page.height page.dpi

-- whether the scene means a picture on the page
abbrev pub has_picture_on : Setup → ℕ → ℕ → Bool
has_picture_on s rows dpi =
    shows_depth s.scene.mode s.scene.depth && (is_side (width_of s) && is_side (height_on s rows dpi))

abbrev pub has_picture : Setup → PageView → Bool
has_picture s page = has_picture_on s page.height page.dpi

-- a three-pass scanner takes colors one by one, in three passes
abbrev pub takes_colors : DeviceKind → Mode → Bool
takes_colors Flatbed _ = false
takes_colors Hand _ = false
takes_colors Feeder _ = false
takes_colors ThreePass Gray = false
takes_colors ThreePass Color = true

-- the number of the last pass, from 0
abbrev pub last_pass : Setup → ℕ
last_pass s = if takes_colors s.scene.kind s.scene.mode then 2 else 0

-- the first, second and third of three
abbrev pub nth_color : FrameFormat → FrameFormat → FrameFormat → ℕ → FrameFormat
nth_color a b c pass = if pass == 0 then a else (if pass == 1 then b else c)

abbrev pub color_at : PassOrder → ℕ → FrameFormat
color_at Rgb pass = nth_color RedFrame GreenFrame BlueFrame pass
color_at Rbg pass = nth_color RedFrame BlueFrame GreenFrame pass
color_at Gbr pass = nth_color GreenFrame BlueFrame RedFrame pass
color_at Grb pass = nth_color GreenFrame RedFrame BlueFrame pass
color_at Brg pass = nth_color BlueFrame RedFrame GreenFrame pass
color_at Bgr pass = nth_color BlueFrame GreenFrame RedFrame pass

-- the format of a frame that shows the whole picture
abbrev pub frame_format_of : Mode → FrameFormat
frame_format_of Gray = GrayFrame
frame_format_of Color = RgbFrame

abbrev pub format_at : Setup → ℕ → FrameFormat
format_at s pass =
    if takes_colors s.scene.kind s.scene.mode then color_at s.passes pass else frame_format_of s.scene.mode

-- the picture's channel that stands as number k in a frame of the format
abbrev pub channel_in : FrameFormat → ℕ → ℕ
channel_in GrayFrame k = k
channel_in RgbFrame k = k
channel_in RedFrame _ = 0
channel_in GreenFrame _ = 1
channel_in BlueFrame _ = 2

abbrev pub bytes_per_line : Setup → ℕ → ℕ
bytes_per_line s pass = line_size (packing_of s.scene.depth) (channels_within (format_at s pass)) (width_of s + s.loss)

-- line y of a pass
abbrev pub line_bytes : Setup → PageView → ℕ → ℕ → List ℕ
line_bytes s page pass y =
    line_of (packing_of s.scene.depth) s.order (channels_within (format_at s pass)) (width_of s)
    (λ x k. sample_of page s.scene x y (channel_in (format_at s pass) k)) (bytes_per_line s pass)

-- the bytes of a pass, and their number
abbrev pub payload : Setup → PageView → ℕ → List ℕ
payload s page pass = concat_up_to (line_bytes s page pass) (height_of s page)

abbrev pub pass_length : Setup → PageView → ℕ → ℕ
pass_length s page pass = height_of s page * bytes_per_line s pass

-- a hand scanner does not know its lines before the end
abbrev pub lines_in_params : DeviceKind → ℕ → Option ℕ
lines_in_params Flatbed lines = Some lines
lines_in_params Hand _ = None
lines_in_params ThreePass lines = Some lines
lines_in_params Feeder lines = Some lines

-- what is told of a pass, with 0 in the places of width, lines and bytes where there is no picture
abbrev pub if_picture : Bool → ℕ → ℕ
if_picture there n = if there then n else 0

abbrev pub params_on : Setup → ℕ → ℕ → ℕ → Params
params_on s rows dpi pass = record {
  format = format_at s pass;
  last_frame = last_pass s == pass;
  bytes_per_line = if_picture (has_picture_on s rows dpi) (bytes_per_line s pass);
  pixels_per_line = if_picture (has_picture_on s rows dpi) (width_of s);
  lines = if has_picture_on s rows dpi then lines_in_params s.scene.kind (height_on s rows dpi) else Some 0;
  depth = s.scene.depth;
}

-- what is told of a pass where no picture can be: 0 pixels, lines and bytes
abbrev pub params_without : Setup → ℕ → Params
params_without s pass = record {
  format = format_at s pass;
  last_frame = last_pass s == pass;
  bytes_per_line = 0;
  pixels_per_line = 0;
  lines = Some 0;
  depth = s.scene.depth;
}

abbrev pub params_at : Setup → PageView → ℕ → Params
params_at s page pass = params_on s page.height page.dpi pass

abbrev pub frame_of : Setup → PageView → ℕ → Frame
frame_of s page pass = record {
  params = params_at s page pass;
  order = s.order;
  payload = payload s page pass;
}

-- **frames of a scan (`frames_of`, `params_at`, `payload`)**: one frame; in color on a three-pass scanner three, a
-- color each, in the order of passes. What is told of a pass has 0 for width, lines and bytes per line where there is
-- no picture; a hand scanner does not tell its lines. A pass's bytes are its lines one after another.
abbrev pub frames_of : Setup → PageView → List Frame
frames_of s page =
    if takes_colors s.scene.kind s.scene.mode
    then frame_of s page 0 ∷ frame_of s page 1 ∷ frame_of s page 2 ∷ []
    else frame_of s page 0 ∷ []
