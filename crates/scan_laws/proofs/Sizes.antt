-- How many bytes a scan has at most.
use Rattle.std.proofs.Common.{◌≡◌, ◌≤◌, ◌+◌, ◌*◌, ◌∙◌, ap, refl, ℕ, Bool, true, false, List, [], ◌∷◌, length, arith}
use Rattle.std.specs.Prelude.{◌==◌, if◌then◌else◌}
use Rattle.std.proofs.lemmas.Nat.{mul-le}
use Rattle.sane_fixed.specs.declared.frame_format.FrameFormat.{FrameFormat}
use Rattle.sane_fixed.specs.declared.frame_format.FrameFormat.TheVariants.{Gray as GrayFrame, Rgb as RgbFrame, Red as RedFrame, Green as GreenFrame, Blue as BlueFrame}
use Rattle.page_picture.specs.Page.{PageView}
use Rattle.page_picture.specs.Shows.{Frame, channels_within}
use Rattle.scan_frames.specs.Frames.{bytes_per_line, color_at, format_at, frame_format_of, nth_color, frame_of, frames_of, has_picture, height_of, payload, takes_colors, width_of}
use Rattle.scan_frames.specs.Line.{packing_of, line_size}
use Rattle.scan_frames.specs.declared.setup.Packing.{Packing}
use Rattle.scan_frames.specs.declared.setup.Packing.TheVariants.{Bits, Bytes, Words}
use Rattle.scan_frames.specs.declared.setup.PassOrder.{PassOrder}
use Rattle.scan_frames.specs.declared.setup.PassOrder.TheVariants.{Rgb, Rbg, Gbr, Grb, Brg, Bgr}
use Rattle.scan_frames.specs.declared.setup.Setup.{Setup}
use Rattle.device_api.specs.ScannerLimits.{IsAllowed}
use Rattle.device_api.proofs.KindLaws.{sides_most}
use Rattle.device_api.proofs.RunLaws.{length-payload}
use Rattle.scan_laws.specs.Weights.{weight, greatest_weight}

-- ---- the bytes of a line

line_by : (p : Packing) (m : FrameFormat) (pixels : ℕ) → line_size p (channels_within m) pixels ≤ 6 * pixels
line_by Bits m pixels = omega arith
line_by Bytes GrayFrame pixels = omega arith
line_by Bytes RgbFrame pixels = omega arith
line_by Bytes RedFrame pixels = omega arith
line_by Bytes GreenFrame pixels = omega arith
line_by Bytes BlueFrame pixels = omega arith
line_by Words GrayFrame pixels = omega arith
line_by Words RgbFrame pixels = omega arith
line_by Words RedFrame pixels = omega arith
line_by Words GreenFrame pixels = omega arith
line_by Words BlueFrame pixels = omega arith

-- ---- all frames

-- a frame alone
pass_by : (s : Setup) (page : PageView) (pass w h : ℕ) → IsAllowed s → width_of s ≤ w → height_of s page ≤ h → length (payload s page pass) ≤ h * (6 * (w + 64))
pass_by s page pass w h a wide high =
    let size : length (payload s page pass) ≡ height_of s page * bytes_per_line s pass = length-payload s page pass in
    let line : bytes_per_line s pass ≤ 6 * (width_of s + s.loss) = line_by (packing_of s.scene.depth) (format_at s pass) (width_of s + s.loss) in
    let loss = a.limits.loss in
    let room : bytes_per_line s pass ≤ 6 * (w + 64) = omega arith in
    let most : height_of s page * bytes_per_line s pass ≤ h * (6 * (w + 64)) = mul-le (height_of s page) (bytes_per_line s pass) h (6 * (w + 64)) high room in
    omega arith

-- a frame of one color has a third of them
third_by : (p : Packing) (m : FrameFormat) (pixels : ℕ) → channels_within m ≡ 1 → line_size p (channels_within m) pixels ≤ 2 * pixels
third_by Bits m pixels one = omega arith
third_by Bytes m pixels one = rw one (omega arith)
third_by Words m pixels one = rw one (omega arith)

nth_one : (a b c : FrameFormat) (pass : ℕ) → channels_within a ≡ 1 → channels_within b ≡ 1 → channels_within c ≡ 1 → channels_within (nth_color a b c pass) ≡ 1
nth_one a b c pass x y z = by_tests (pass == 0) (pass == 1)
  where
    by_tests : (t u : Bool) → channels_within (if t then a else (if u then b else c)) ≡ 1
    by_tests true u = x
    by_tests false true = y
    by_tests false false = z

one_channel : (o : PassOrder) (pass : ℕ) → channels_within (color_at o pass) ≡ 1
one_channel Rgb pass = nth_one RedFrame GreenFrame BlueFrame pass refl refl refl
one_channel Rbg pass = nth_one RedFrame BlueFrame GreenFrame pass refl refl refl
one_channel Gbr pass = nth_one GreenFrame BlueFrame RedFrame pass refl refl refl
one_channel Grb pass = nth_one GreenFrame RedFrame BlueFrame pass refl refl refl
one_channel Brg pass = nth_one BlueFrame RedFrame GreenFrame pass refl refl refl
one_channel Bgr pass = nth_one BlueFrame GreenFrame RedFrame pass refl refl refl

color_by : (s : Setup) (page : PageView) (pass w h : ℕ) → takes_colors s.scene.kind s.scene.mode ≡ true → IsAllowed s → width_of s ≤ w → height_of s page ≤ h → length (payload s page pass) ≤ h * (2 * (w + 64))
color_by s page pass w h three a wide high =
    let size : length (payload s page pass) ≡ height_of s page * bytes_per_line s pass = length-payload s page pass in
    let format : format_at s pass ≡ color_at s.passes pass = ap (λ (b : Bool). if b then color_at s.passes pass else frame_format_of s.scene.mode) three in
    let one : channels_within (format_at s pass) ≡ 1 = ap channels_within format ∙ one_channel s.passes pass in
    let line : bytes_per_line s pass ≤ 2 * (width_of s + s.loss) = third_by (packing_of s.scene.depth) (format_at s pass) (width_of s + s.loss) one in
    let loss = a.limits.loss in
    let room : bytes_per_line s pass ≤ 2 * (w + 64) = omega arith in
    let most : height_of s page * bytes_per_line s pass ≤ h * (2 * (w + 64)) = mul-le (height_of s page) (bytes_per_line s pass) h (2 * (w + 64)) high room in
    omega arith

frames : (three : Bool) → Setup → PageView → List Frame
frames three s page = if three then frame_of s page 0 ∷ frame_of s page 1 ∷ frame_of s page 2 ∷ [] else frame_of s page 0 ∷ []

all_by : (s : Setup) (page : PageView) (three : Bool) (w h : ℕ) → takes_colors s.scene.kind s.scene.mode ≡ three → IsAllowed s → width_of s ≤ w → height_of s page ≤ h → weight (frames three s page) ≤ h * (6 * (w + 64))
unfolding frames
all_by s page true w h e a wide high =
    let first = color_by s page 0 w h e a wide high in
    let second = color_by s page 1 w h e a wide high in
    let third = color_by s page 2 w h e a wide high in
    let split : h * (6 * (w + 64)) ≡ 3 * (h * (2 * (w + 64))) = omega arith in
    omega (arith, first, second, third, split)
all_by s page false w h e a wide high = let first = pass_by s page 0 w h a wide high in omega (arith, first)

pub weighs : (s : Setup) (page : PageView) → IsAllowed s → has_picture s page ≡ true → weight (frames_of s page) ≤ greatest_weight
unfolding frames
weighs s page a there =
    let b = sides_most s page a there in
    let most : weight (frames_of s page) ≤ b.1 * (6 * (b.0 + 64)) = all_by s page (takes_colors s.scene.kind s.scene.mode) b.0 b.1 refl a b.2 b.3 in
    omega (arith, most, b.4)
