-- A join takes the frames of a scan.
use Rattle.std.proofs.Common.{◌≡◌, ◌<◌, ◌≤◌, ◌+◌, ◌*◌, ◌/◌, ◌++◌, ◌∙◌, sym, ap, refl, ℕ, Bool, true, false, List, [], ◌∷◌, length, replicate, length-append, arith, ◌⊎◌, inl, inr}
use Rattle.std.specs.Prelude.{nat_lt, nat_le, ◌==◌, ◌^◌, ◌&&◌, if◌then◌else◌, slice_index, Option, Some, None}
use Rattle.std.proofs.lemmas.Bool.Decides.{nat_tests}
use Rattle.std.proofs.lemmas.List.{length-replicate, get_or-replicate, get_or_past}
use Rattle.std.proofs.Math.Nat.{mul-le-mul_right, mul-div_cancel, zero-div, one-le-mul}
use Rattle.sane_fixed.specs.declared.frame_format.FrameFormat.{FrameFormat}
use Rattle.sane_fixed.specs.declared.frame_format.FrameFormat.TheVariants.{Gray as GrayFrame, Rgb as RgbFrame, Red as RedFrame, Green as GreenFrame, Blue as BlueFrame}
use Rattle.page_picture.specs.Page.{PageView, IsShaped, IsPageView}
use Rattle.page_picture.specs.Shows.{Frame, ShowsFrames, channels_within}
use Rattle.page_picture.specs.declared.scene.Mode.{Mode}
use Rattle.page_picture.specs.declared.scene.Mode.TheVariants.{Gray, Color}
use Rattle.scan_frames.specs.Frames.{bytes_per_line, color_at, format_at, frame_format_of, frame_of, frames_of, has_picture, height_of, if_picture, lines_in_params, params_at, payload, takes_colors, width_of}
use Rattle.scan_frames.specs.Line.{packing_of, line_size}
use Rattle.scan_frames.specs.declared.setup.Packing.{Packing}
use Rattle.scan_frames.specs.declared.setup.Packing.TheVariants.{Bits, Bytes, Words}
use Rattle.scan_frames.specs.declared.setup.PassOrder.{PassOrder}
use Rattle.scan_frames.specs.declared.setup.PassOrder.TheVariants.{Rgb, Rbg, Gbr, Grb, Brg, Bgr}
use Rattle.scan_frames.specs.declared.setup.Setup.{Setup}
use Rattle.scan_frames.proofs.Frames.{has_sides}
use Rattle.scan_frames.proofs.FramesShow.{meant, shows_frames}
use Rattle.device_api.specs.ScannerLimits.{IsAllowed}
use Rattle.device_api.proofs.KindLaws.{lines_or_none}
use Rattle.device_api.proofs.RunLaws.{length-payload}
use Rattle.frame_join.specs.AloneFrame.{is_alone_format, most_bytes, most_lines}
use Rattle.page_picture.specs.Extent.{is_side as is_join_side}
use Rattle.frame_join.specs.FrameHistory.{is_accepted, is_full, is_full_at, is_joined}
use Rattle.frame_join.proofs.AcceptLaws.{shown_is_accepted, colors_are_accepted}
use Rattle.scan_laws.specs.Joins.{no_frame_left, JoinTakes, TakesAll}

-- ---- what is told of a frame does not depend on the page's samples: it is that of a black page

black : PageView → PageView
black page = record { width = 1; height = page.height; dpi = page.dpi; samples = replicate (1 * page.height * 3) 0 }

small : (n i : ℕ) → slice_index (replicate n 0) i < 2 ^ 16
small n i = by_place (nat_lt i n) refl
  where
    by_place : (b : Bool) → nat_lt i n ≡ b → slice_index (replicate n 0) i < 2 ^ 16
    by_place true e = let at : slice_index (replicate n 0) i ≡ 0 = get_or-replicate n i 0 0 (grind (arith, nat_tests)) in omega arith
    by_place false e =
        let zeros : List ℕ = replicate n 0 in
        let size : length zeros ≡ n = length-replicate n 0 in
        let beyond : n ≤ i = grind (arith, nat_tests) in
        let past : length zeros ≤ i = omega arith in
        let at : slice_index zeros i ≡ 0 = get_or_past zeros i 0 past in
        omega arith

is_black : (page : PageView) → IsShaped page → IsPageView (black page)
unfolding black
is_black page is = record {
  shape = record {
    width_some = omega arith;
    width_most = omega arith;
    height_some = is.height_some;
    height_most = is.height_most;
    dpi_some = is.dpi_some;
    dpi_most = is.dpi_most;
    size = length-replicate (1 * page.height * 3) 0;
  };
  sixteen_bits = small (1 * page.height * 3);
}

frames : (three : Bool) → Setup → PageView → List Frame
frames three s page = if three then frame_of s page 0 ∷ frame_of s page 1 ∷ frame_of s page 2 ∷ [] else frame_of s page 0 ∷ []

-- the three frames, or the one, each behind those before it
abbrev AllAccepted : Bool → Setup → PageView → Type 0
AllAccepted true s page =
    (is_accepted [] (params_at s page 0) s.order ≡ true)
    × (is_accepted (frame_of s page 0 ∷ []) (params_at s page 1) s.order ≡ true)
    × (is_accepted (frame_of s page 0 ∷ frame_of s page 1 ∷ []) (params_at s page 2) s.order ≡ true)
AllAccepted false s page = is_accepted [] (params_at s page 0) s.order ≡ true

black_accepted : (three : Bool) (s : Setup) (page : PageView) → ShowsFrames (frames three s (black page)) (meant s (black page)) → AllAccepted three s page
unfolding black frames
black_accepted true s page shows = colors_are_accepted (frame_of s (black page) 0) (frame_of s (black page) 1) (frame_of s (black page) 2) (meant s (black page)) shows
black_accepted false s page shows = shown_is_accepted (frame_of s (black page) 0) (meant s (black page)) shows

all_accepted : (s : Setup) (page : PageView) → IsAllowed s → IsShaped page → has_picture s page ≡ true → AllAccepted (takes_colors s.scene.kind s.scene.mode) s page
unfolding black frames
all_accepted s page a is there =
    black_accepted (takes_colors s.scene.kind s.scene.mode) s page (shows_frames s (black page) a.limits (is_black page is) a.gamma a.channel_gamma there)

-- ---- the sizes of a frame

some_size : (p : Packing) (m : FrameFormat) (pixels : ℕ) → 1 ≤ pixels → 1 ≤ line_size p (channels_within m) pixels
some_size Bits m pixels some = omega arith
some_size Bytes GrayFrame pixels some = omega arith
some_size Bytes RgbFrame pixels some = omega arith
some_size Bytes RedFrame pixels some = omega arith
some_size Bytes GreenFrame pixels some = omega arith
some_size Bytes BlueFrame pixels some = omega arith
some_size Words GrayFrame pixels some = omega arith
some_size Words RgbFrame pixels some = omega arith
some_size Words RedFrame pixels some = omega arith
some_size Words GreenFrame pixels some = omega arith
some_size Words BlueFrame pixels some = omega arith

some_bytes : (s : Setup) (page : PageView) (pass : ℕ) → has_picture s page ≡ true → 1 ≤ bytes_per_line s pass
some_bytes s page pass there =
    some_size (packing_of s.scene.depth) (format_at s pass) (width_of s + s.loss) (let w = (has_sides s page there).width_some in omega arith)

-- the lines and the bytes of a line that are told of a frame
told_lines : (s : Setup) (page : PageView) (pass : ℕ) → has_picture s page ≡ true → (params_at s page pass).lines ≡ lines_in_params s.scene.kind (height_of s page)
told_lines s page pass there = ap (λ (b : Bool). if b then lines_in_params s.scene.kind (height_of s page) else Some 0) there

told_bytes : (s : Setup) (page : PageView) (pass : ℕ) → has_picture s page ≡ true → (params_at s page pass).bytes_per_line ≡ bytes_per_line s pass
told_bytes s page pass there = ap (λ (b : Bool). if_picture b (bytes_per_line s pass)) there

eq_true : (n : ℕ) → (n == n) ≡ true
eq_true n = grind (arith, nat_tests)

side : (n : ℕ) → 1 ≤ n → n ≤ 65536 → is_join_side n ≡ true
side n low high = both (nat_le 1 n) (nat_le n 65536) (grind (arith, nat_tests)) (grind (arith, nat_tests))
  where
    both : (a b : Bool) → a ≡ true → b ≡ true → (a && b) ≡ true
    both true b e f = f
    both false b e f = e

full_by : (told : Option ℕ) (height line : ℕ) → (told ≡ Some height) ⊎ (told ≡ None) → 1 ≤ height → height ≤ 65536 → 1 ≤ line → is_full_at told line (height * line) ≡ true
full_by told height line (inl known) low high some = ap (λ (t : Option ℕ). is_full_at t line (height * line)) known ∙ eq_true (height * line)
full_by told height line (inr untold) low high some =
    let back : height * line / line ≡ height = mul-div_cancel height (omega arith) in
    ap (λ (t : Option ℕ). is_full_at t line (height * line)) untold
    ∙ ap (λ (n : ℕ). is_join_side n && (height * line == n * line)) back ∙ (let is = side height low high in let same = eq_true (height * line) in rw (is, same) refl)

short_by : (told : Option ℕ) (height line : ℕ) → (told ≡ Some height) ⊎ (told ≡ None) → 1 ≤ height → 1 ≤ line → is_full_at told line 0 ≡ false
short_by told height line (inl known) low some =
    ap (λ (t : Option ℕ). is_full_at t line 0) known ∙ (let most : 1 ≤ height * line = one-le-mul low some in grind (arith, nat_tests))
short_by told height line (inr untold) low some = ap (λ (t : Option ℕ). is_full_at t line 0) untold ∙ ap (λ (n : ℕ). is_join_side n && (0 == n * line)) (zero-div line)

most_by : (told : Option ℕ) (height line : ℕ) → (told ≡ Some height) ⊎ (told ≡ None) → height ≤ 65536 → height * line ≤ most_lines told * line
most_by told height line (inl known) high = rw known (omega arith)
most_by told height line (inr untold) high = rw untold (mul-le-mul_right line high)

-- a frame of a scan, without its acceptance
record IsTaken (s : Setup) (page : PageView) (pass : ℕ) : Type 0 where
  fits : (front rest : List ℕ) → front ++ rest ≡ payload s page pass → length front ≤ most_bytes (params_at s page pass)
  full : is_full (frame_of s page pass) ≡ true
  none_is_short : is_full (record (frame_of s page pass) { payload = [] }) ≡ false

is_taken : (s : Setup) (page : PageView) (pass : ℕ) → has_picture s page ≡ true → IsTaken s page pass
is_taken s page pass there =
    let sides = has_sides s page there in
    let height = height_of s page in
    let line = bytes_per_line s pass in
    let some = some_bytes s page pass there in
    let lines = told_lines s page pass there in
    let bytes = told_bytes s page pass there in
    let told = lines_in_params s.scene.kind height in
    let either = lines_or_none s.scene.kind height in
    let size : length (payload s page pass) ≡ height * line = length-payload s page pass in
    let at : (n : ℕ) → is_full_at (params_at s page pass).lines (params_at s page pass).bytes_per_line n ≡ is_full_at told line n =
    λ n. ap (λ (o : Option ℕ). is_full_at o (params_at s page pass).bytes_per_line n) lines ∙ ap (λ (b : ℕ). is_full_at told b n) bytes in
    let most : most_bytes (params_at s page pass) ≡ most_lines told * line =
    ap (λ (o : Option ℕ). most_lines o * (params_at s page pass).bytes_per_line) lines ∙ ap (λ (b : ℕ). most_lines told * b) bytes in
    record {
      fits = λ front rest all.
          let whole : length front + length rest ≡ length (payload s page pass) = sym (length-append front rest) ∙ ap length all in
          let room = most_by told height line either sides.height_most in
          omega arith;
      full = at (length (payload s page pass)) ∙ ap (λ (n : ℕ). is_full_at told line n) size ∙ full_by told height line either sides.height_some sides.height_most some;
      none_is_short = at 0 ∙ short_by told height line either sides.height_some some;
    }

takes_it : (s : Setup) (page : PageView) (pass : ℕ) (ended more : List Frame) → IsTaken s page pass → is_joined ended ≡ false → is_accepted ended (params_at s page pass) s.order ≡ true → (params_at s page pass).last_frame ≡ no_frame_left more
    → JoinTakes ended (frame_of s page pass) more
takes_it s page pass ended more t unjoined accepted last =
    record { unjoined = unjoined; accepted = accepted; fits = t.fits; full = t.full; none_is_short = t.none_is_short; last = last }

-- ---- all frames

one_color : (o : PassOrder) → is_alone_format (color_at o 0) ≡ false
one_color Rgb = refl
one_color Rbg = refl
one_color Gbr = refl
one_color Grb = refl
one_color Brg = refl
one_color Bgr = refl

all_channels : (m : Mode) → is_alone_format (frame_format_of m) ≡ true
all_channels Gray = refl
all_channels Color = refl

last_told : (s : Setup) (page : PageView) (three : Bool) (pass : ℕ) → takes_colors s.scene.kind s.scene.mode ≡ three → (params_at s page pass).last_frame ≡ ((if three then 2 else 0) == pass)
last_told s page three pass e = ap (λ (b : Bool). (if b then 2 else 0) == pass) e

alone_told : (s : Setup) (three : Bool) → takes_colors s.scene.kind s.scene.mode ≡ three → is_alone_format (format_at s 0) ≡ is_alone_format (if three then color_at s.passes 0 else frame_format_of s.scene.mode)
alone_told s three e = ap (λ (b : Bool). is_alone_format (if b then color_at s.passes 0 else frame_format_of s.scene.mode)) e

take_all : (s : Setup) (page : PageView) (three : Bool) → takes_colors s.scene.kind s.scene.mode ≡ three → has_picture s page ≡ true → AllAccepted three s page → TakesAll [] (frames three s page)
unfolding frames
take_all s page true e there a =
    let first = takes_it s page 0 [] (frame_of s page 1 ∷ frame_of s page 2 ∷ []) (is_taken s page 0 there) refl a.0 (last_told s page true 0 e) in
    let second = takes_it s page 1 (frame_of s page 0 ∷ []) (frame_of s page 2 ∷ []) (is_taken s page 1 there) (alone_told s true e ∙ one_color s.passes) a.1 (last_told s page true 1 e) in
    let third = takes_it s page 2 (frame_of s page 0 ∷ frame_of s page 1 ∷ []) [] (is_taken s page 2 there) refl a.2 (last_told s page true 2 e) in
    (first, (second, (third, refl)))
take_all s page false e there a = (
  takes_it s page 0 [] [] (is_taken s page 0 there) refl a (last_told s page false 0 e),
  alone_told s false e ∙ all_channels s.scene.mode,
)

pub takes_frames : (s : Setup) (page : PageView) → IsAllowed s → IsShaped page → has_picture s page ≡ true → TakesAll [] (frames_of s page)
unfolding frames
takes_frames s page a is there = take_all s page (takes_colors s.scene.kind s.scene.mode) refl there (all_accepted s page a is there)

-- they are a whole picture
pub joined_frames : (s : Setup) (page : PageView) → is_joined (frames_of s page) ≡ true
unfolding frames
joined_frames s page = by_colors (takes_colors s.scene.kind s.scene.mode) refl
  where
    by_colors : (three : Bool) → takes_colors s.scene.kind s.scene.mode ≡ three → is_joined (frames three s page) ≡ true
    by_colors true e = refl
    by_colors false e = alone_told s false e ∙ all_channels s.scene.mode
