-- What is kept of frames shows the picture that the frames show, and makes its file.
use Rattle.std.proofs.Common.{◌≡◌, ℕ, ◌<◌, ◌≤◌, ◌+◌, ◌-◌, ◌*◌, ◌/◌, ◌%◌, ◌⊎◌, inl, inr, Bool, true, false, List, [], ◌∷◌, length, arith, refl, sym, ap, ◌∙◌, subst, map}
use Rattle.std.specs.Prelude.{◌==◌, if◌then◌else◌, Some, slice_index, ◌^◌}
use Rattle.std.proofs.Math.Nat.{mul-div_cancel}
use Rattle.netpbm.specs.Picture.{Picture, IsPlace}
use Rattle.netpbm.specs.FileText.{concat_up_to}
use Rattle.netpbm.specs.Pnm.{bit_row}
use Rattle.sane_fixed.specs.declared.params.Params.{Params}
use Rattle.sane_fixed.specs.declared.byte_order.ByteOrder.{ByteOrder}
use Rattle.sane_fixed.specs.declared.frame_format.FrameFormat.{FrameFormat}
use Rattle.sane_fixed.specs.declared.frame_format.FrameFormat.TheVariants.{Gray, Rgb, Red, Green, Blue}
use Rattle.page_picture.specs.Shows.{Frame, HasLineShape, FitsPicture, ShowsAlone, ShowsColor, ShowsColors, frame_sample, two_bytes, channels_within, channels_alone, color_of, row_size}
use Rattle.frame_join.specs.AloneFrame.{is_alone_format, lines_in, row_bytes, ShapeParts}
use Rattle.frame_join.specs.ColorPlanes.{Plane, plane_of, plane_in, planes_of, nth_plane, side_byte, side_rows, all_colors}
use Rattle.frame_join.specs.KeptFrame.{color_number}
use Rattle.frame_join.specs.FrameFile.{file_of, file_front, frame_height}
use Rattle.frame_join.proofs.TestLemmas.{eq_from, not_eq_from}
use Rattle.frame_join.proofs.KeptLaws.{PassParts, pass_depth}
use Rattle.frame_join.proofs.HeightLaws.{height_known}
use Rattle.frame_join.proofs.StreamLaws.{joined_same}
use Rattle.frame_join.proofs.SideLaws.{two_same, row_eight, row_sixteen}
use Rattle.frame_join.proofs.PixelParams.{narrow, narrowed}
use Rattle.frame_join.proofs.PixelFrames.{IsWhole, narrow_byte, narrow_size}

-- ---- samples

-- the place of a sample among those of a row
place_low : (g : FrameFormat) (w x k : ℕ) → x < w → k < channels_within g → channels_within g * x + k < w * channels_within g
place_low Gray w x k a b = omega (arith, a, b)
place_low Rgb w x k a b = omega (arith, a, b)
place_low Red w x k a b = omega (arith, a, b)
place_low Green w x k a b = omega (arith, a, b)
place_low Blue w x k a b = omega (arith, a, b)

-- the bytes of a row at each depth
row_at : (g : FrameFormat) (w d e : ℕ) → d ≡ e → row_size g w d ≡ row_size g w e
row_at g w d e same = ap (row_size g w) same

deep_sample : (f : Frame) (ch x y k : ℕ) → IsWhole f → ch ≡ channels_within f.params.format → x < f.params.pixels_per_line → k < ch → y < frame_height f → f.params.depth ≡ 16 → two_bytes f.order (narrowed f).payload (y * row_bytes f.params + 2 * (ch * x + k)) ≡ two_bytes f.order f.payload (y * f.params.bytes_per_line + 2 * (ch * x + k))
deep_sample f ch x y k w is column channel row deep =
    let c = channels_within f.params.format in
    let low : c * x + k < f.params.pixels_per_line * c = place_low f.params.format f.params.pixels_per_line x k column (subst (λ (n : ℕ). k < n) is channel) in
    let same : ch * x + k ≡ c * x + k = ap (λ (n : ℕ). n * x + k) is in
    let size : row_bytes f.params ≡ f.params.pixels_per_line * c * 2 = row_at f.params.format f.params.pixels_per_line f.params.depth 16 deep in
    let i = 2 * (ch * x + k) in
    let inside : i + 1 < row_bytes f.params = omega (arith, low, same, size) in
    two_same f.order (narrowed f).payload f.payload (y * row_bytes f.params + i) (y * f.params.bytes_per_line + i)
    (narrow_byte f y i w row (omega (arith, inside)))
    (ap (λ (n : ℕ). slice_index (narrowed f).payload n) (let e : y * row_bytes f.params + i + 1 ≡ y * row_bytes f.params + (i + 1) = omega arith in e)
    ∙ narrow_byte f y (i + 1) w row inside
    ∙ ap (λ (n : ℕ). slice_index f.payload n) (let e : y * f.params.bytes_per_line + (i + 1) ≡ y * f.params.bytes_per_line + i + 1 = omega arith in e))

byte_sample : (f : Frame) (ch x y k : ℕ) → IsWhole f → ch ≡ channels_within f.params.format → x < f.params.pixels_per_line → k < ch → y < frame_height f → f.params.depth ≡ 8 → slice_index (narrowed f).payload (y * row_bytes f.params + (ch * x + k)) ≡ slice_index f.payload (y * f.params.bytes_per_line + (ch * x + k))
byte_sample f ch x y k w is column channel row deep =
    let c = channels_within f.params.format in
    let low : c * x + k < f.params.pixels_per_line * c = place_low f.params.format f.params.pixels_per_line x k column (subst (λ (n : ℕ). k < n) is channel) in
    let same : ch * x + k ≡ c * x + k = ap (λ (n : ℕ). n * x + k) is in
    let size : row_bytes f.params ≡ f.params.pixels_per_line * c * 1 = row_at f.params.format f.params.pixels_per_line f.params.depth 8 deep in
    narrow_byte f y (ch * x + k) w row (omega (arith, low, same, size))

bit_sample : (f : Frame) (x y : ℕ) → IsWhole f → x < f.params.pixels_per_line → y < frame_height f → f.params.depth ≡ 1 → slice_index (narrowed f).payload (y * row_bytes f.params + x / 8) ≡ slice_index f.payload (y * f.params.bytes_per_line + x / 8)
bit_sample f x y w column row deep =
    let size : row_bytes f.params ≡ bit_row f.params.pixels_per_line = row_at f.params.format f.params.pixels_per_line f.params.depth 1 deep in
    narrow_byte f y (x / 8) w row (omega (arith, column, size))

other_depth : (d : ℕ) → (d ≡ 1) ⊎ ((d ≡ 8) ⊎ (d ≡ 16)) → (d == 16) ≡ false → (d == 8) ≡ false → d ≡ 1
other_depth d (inl e) a b = e
other_depth d (inr (inl e)) a b = absurd (not_eq_from d 8 b e)
other_depth d (inr (inr e)) a b = absurd (not_eq_from d 16 a e)

pub narrow_sample : (f : Frame) (ch x y k : ℕ) → IsWhole f → ch ≡ channels_within f.params.format → x < f.params.pixels_per_line → k < ch → y < frame_height f → frame_sample ch (narrowed f) x y k ≡ frame_sample ch f x y k
narrow_sample f ch x y k w is column channel row =
    elim (f.params.depth == 16) as (λ t. (f.params.depth == 16) ≡ t → by f ch x y k t (f.params.depth == 8)) [
      | true ↦ λ deep. deep_sample f ch x y k w is column channel row (eq_from f.params.depth 16 deep)
      | false ↦ λ not_deep. elim (f.params.depth == 8) as (λ u. (f.params.depth == 8) ≡ u → by f ch x y k false u) [
        | true ↦ λ eight. byte_sample f ch x y k w is column channel row (eq_from f.params.depth 8 eight)
        | false ↦ λ not_eight. ap (λ (b : ℕ). b / 2 ^ (7 - x % 8) % 2) (bit_sample f x y w column row (other_depth f.params.depth w.shape.depths not_deep not_eight))
      ] refl
    ] refl
  where
    by : Frame → ℕ → ℕ → ℕ → ℕ → Bool → Bool → Type 0
    by f ch x y k t u =
        (if t then two_bytes f.order (narrowed f).payload (y * row_bytes f.params + 2 * (ch * x + k))
        else (if u then slice_index (narrowed f).payload (y * row_bytes f.params + (ch * x + k)) else slice_index (narrowed f).payload (y * row_bytes f.params + x / 8) / 2 ^ (7 - x % 8) % 2))
        ≡ (if t then two_bytes f.order f.payload (y * f.params.bytes_per_line + 2 * (ch * x + k))
        else (if u then slice_index f.payload (y * f.params.bytes_per_line + (ch * x + k)) else slice_index f.payload (y * f.params.bytes_per_line + x / 8) / 2 ^ (7 - x % 8) % 2))

-- ---- one frame

shape_narrow : (p : Params) → HasLineShape p → ShapeParts p → HasLineShape (narrow p)
shape_narrow p s parts = record { depth = s.depth; width_some = s.width_some; width_most = s.width_most; enough = omega arith; line_most = omega (arith, parts.fits, s.line_most) }

same_factor : (m n l : ℕ) → 1 ≤ l → m * l ≡ n * l → m ≡ n
same_factor m n l some e = sym (mul-div_cancel m (omega (arith, some))) ∙ (ap (λ (k : ℕ). k / l) e ∙ mul-div_cancel n (omega (arith, some)))

-- the picture is as high as the frame
height_is : (f : Frame) (p : Picture) → IsWhole f → length f.payload ≡ p.height * f.params.bytes_per_line → p.height ≡ frame_height f
height_is f p w size = same_factor p.height (frame_height f) f.params.bytes_per_line w.some (sym size ∙ w.size)

fits_narrow : (f : Frame) (p : Picture) → IsWhole f → FitsPicture f p → FitsPicture (narrowed f) p
fits_narrow f p w fits = record {
  shape = shape_narrow f.params fits.shape w.shape;
  is_picture = fits.is_picture;
  width = fits.width;
  height = fits.height;
  greatest = fits.greatest;
  size = narrow_size f w ∙ ap (λ (n : ℕ). n * row_bytes f.params) (sym (height_is f p w fits.size));
}

fits_wide : (f : Frame) (p : Picture) → IsWhole f → FitsPicture (narrowed f) p → FitsPicture f p
fits_wide f p w fits =
    let same : p.height ≡ frame_height f = same_factor p.height (frame_height f) (row_bytes f.params) w.shape.row_some (sym fits.size ∙ narrow_size f w) in
    record {
      shape = w.shape.line_shape;
      is_picture = fits.is_picture;
      width = fits.width;
      height = fits.height;
      greatest = fits.greatest;
      size = w.size ∙ ap (λ (n : ℕ). n * f.params.bytes_per_line) (sym same);
    }

-- a place of the picture in the frame
record InFrame (f : Frame) (x y : ℕ) : Type 0 where
  column : x < f.params.pixels_per_line
  row : y < frame_height f

in_frame : (f : Frame) (p : Picture) (x y k : ℕ) → IsWhole f → FitsPicture f p → IsPlace p x y k → InFrame f x y
in_frame f p x y k w fits at = record { column = omega (arith, at.column, fits.width); row = omega (arith, at.row, height_is f p w fits.size) }

channels_is : (g : FrameFormat) (c : ℕ) → channels_alone g ≡ Some c → c ≡ channels_within g
channels_is Gray c e = cc
channels_is Rgb c e = cc
channels_is Red c e = absurd (cc)
channels_is Green c e = absurd (cc)
channels_is Blue c e = absurd (cc)

color_channel : (g : FrameFormat) (c : ℕ) → color_of g ≡ Some c → 1 ≡ channels_within g
color_channel Gray c e = absurd (cc)
color_channel Rgb c e = absurd (cc)
color_channel Red c e = refl
color_channel Green c e = refl
color_channel Blue c e = refl

pub shows_narrow : (f : Frame) (p : Picture) → IsWhole f → ShowsAlone f p → ShowsAlone (narrowed f) p
shows_narrow f p w shows = record {
  last = shows.last;
  channels = shows.channels;
  fits = fits_narrow f p w shows.fits;
  samples = λ x y k at. (let i = in_frame f p x y k w shows.fits at in shows.samples x y k at ∙ sym (narrow_sample f p.channels x y k w (channels_is f.params.format p.channels shows.channels) i.column at.channel i.row));
}

pub shows_wide : (f : Frame) (p : Picture) → IsWhole f → ShowsAlone (narrowed f) p → ShowsAlone f p
shows_wide f p w shows =
    let fits = fits_wide f p w shows.fits in
    record {
      last = shows.last;
      channels = shows.channels;
      fits = fits;
      samples = λ x y k at. (let i = in_frame f p x y k w fits at in shows.samples x y k at ∙ narrow_sample f p.channels x y k w (channels_is f.params.format p.channels shows.channels) i.column at.channel i.row);
    }

-- ---- one color

color_narrow : (o : ByteOrder) (f : Frame) (p : Picture) (channel : ℕ) (last : Bool) → IsWhole f → ShowsColor o f p channel last → ShowsColor o (narrowed f) p channel last
color_narrow o f p channel last w shows = record {
  same_order = shows.same_order;
  last_is = shows.last_is;
  color = shows.color;
  lines_known = shows.lines_known;
  fits = fits_narrow f p w shows.fits;
  samples = λ x y at. (let i = in_frame f p x y channel w shows.fits at in shows.samples x y at ∙ sym (narrow_sample f 1 x y 0 w (color_channel f.params.format channel shows.color) i.column (omega arith) i.row));
}

color_wide : (o : ByteOrder) (f : Frame) (p : Picture) (channel : ℕ) (last : Bool) → IsWhole f → ShowsColor o (narrowed f) p channel last → ShowsColor o f p channel last
color_wide o f p channel last w shows =
    let fits = fits_wide f p w shows.fits in
    record {
      same_order = shows.same_order;
      last_is = shows.last_is;
      color = shows.color;
      lines_known = shows.lines_known;
      fits = fits;
      samples = λ x y at. (let i = in_frame f p x y channel w fits at in shows.samples x y at ∙ narrow_sample f 1 x y 0 w (color_channel f.params.format channel shows.color) i.column (omega arith) i.row);
    }

pub colors_narrow : (a b c : Frame) (p : Picture) → IsWhole a → IsWhole b → IsWhole c → ShowsColors a b c p → ShowsColors (narrowed a) (narrowed b) (narrowed c) p
colors_narrow a b c p wa wb wc s = record {
  first = s.first;
  second = s.second;
  third = s.third;
  each_once = s.each_once;
  channels = s.channels;
  first_shows = color_narrow a.order a p s.first false wa s.first_shows;
  second_shows = color_narrow a.order b p s.second false wb s.second_shows;
  third_shows = color_narrow a.order c p s.third true wc s.third_shows;
}

pub colors_wide : (a b c : Frame) (p : Picture) → IsWhole a → IsWhole b → IsWhole c → ShowsColors (narrowed a) (narrowed b) (narrowed c) p → ShowsColors a b c p
colors_wide a b c p wa wb wc s = record {
  first = s.first;
  second = s.second;
  third = s.third;
  each_once = s.each_once;
  channels = s.channels;
  first_shows = color_wide a.order a p s.first false wa s.first_shows;
  second_shows = color_wide a.order b p s.second false wb s.second_shows;
  third_shows = color_wide a.order c p s.third true wc s.third_shows;
}

-- ---- the file of three colors

-- a byte of each frame's rows
abbrev AreWide : ℕ → ℕ → List Frame → Type 0
AreWide y i [] = Unit {0}
AreWide y i (f ∷ frames) = (IsWhole f × (y < frame_height f) × (i < row_bytes f.params)) × AreWide y i frames

abbrev narrow_all : List Frame → List Frame
narrow_all frames = map narrowed frames

abbrev at_place : ℕ → ℕ → Plane → ℕ
at_place y i plane = slice_index plane.bytes (y * plane.line + i)

plane_byte : (k : ℕ) (frames : List Frame) (y i : ℕ) → AreWide y i frames → at_place y i (plane_of k (narrow_all frames)) ≡ at_place y i (plane_of k frames)
plane_byte k [] y i all = refl
plane_byte k (f ∷ frames) y i all =
    let P : Bool → Type 0 = λ t. at_place y i (if t then plane_in (narrowed f) else plane_of k (narrow_all frames)) ≡ at_place y i (if t then plane_in f else plane_of k frames) in
    elim (color_number f.params.format == k) as P [
      | true ↦ narrow_byte f y i all.0.0 all.0.1 all.0.2
      | false ↦ plane_byte k frames y i all.1
    ]

nth_byte : (k : ℕ) (frames : List Frame) (y i : ℕ) → AreWide y i frames → at_place y i (nth_plane (planes_of (narrow_all frames)) k) ≡ at_place y i (nth_plane (planes_of frames) k)
nth_byte k frames y i all =
    let P : Bool → Bool → Type 0 = λ t u. at_place y i (if t then plane_of 0 (narrow_all frames) else (if u then plane_of 1 (narrow_all frames) else plane_of 2 (narrow_all frames))) ≡ at_place y i (if t then plane_of 0 frames else (if u then plane_of 1 frames else plane_of 2 frames)) in
    elim (k == 0) as (λ t. P t (k == 1)) [
      | true ↦ plane_byte 0 frames y i all
      | false ↦ elim (k == 1) as (λ u. P false u) [ true ↦ plane_byte 1 frames y i all | false ↦ plane_byte 2 frames y i all ]
    ]

-- three whole colors of one width, height and depth
pub record IsTrio (a b c : Frame) : Type 0 where
  pub whole : IsWhole a × IsWhole b × IsWhole c
  pub pass : PassParts a.params × PassParts b.params × PassParts c.params
  pub widths : (a.params.pixels_per_line ≡ c.params.pixels_per_line) × (b.params.pixels_per_line ≡ c.params.pixels_per_line)
  pub lines : (lines_in a.params.lines ≡ lines_in c.params.lines) × (lines_in b.params.lines ≡ lines_in c.params.lines)
  pub depths : (a.params.depth ≡ c.params.depth) × (b.params.depth ≡ c.params.depth)

one_channel : (g : FrameFormat) → is_alone_format g ≡ false → channels_within g ≡ 1
one_channel Gray e = absurd (cc)
one_channel Rgb e = absurd (cc)
one_channel Red e = refl
one_channel Green e = refl
one_channel Blue e = refl

pass_row : (p : Params) (d : ℕ) → PassParts p → p.depth ≡ d → (d ≡ 8) ⊎ (d ≡ 16) → row_bytes p ≡ p.pixels_per_line * (d / 8)
pass_row p d parts deep (inl e) = row_at p.format p.pixels_per_line p.depth 8 (deep ∙ e) ∙ ap (λ (c : ℕ). p.pixels_per_line * c * 1) (one_channel p.format parts.format) ∙ (let s : p.pixels_per_line * 1 * 1 ≡ p.pixels_per_line * (d / 8) = rw e (omega arith) in s)
pass_row p d parts deep (inr e) = row_at p.format p.pixels_per_line p.depth 16 (deep ∙ e) ∙ ap (λ (c : ℕ). p.pixels_per_line * c * 2) (one_channel p.format parts.format) ∙ (let s : p.pixels_per_line * 1 * 2 ≡ p.pixels_per_line * (d / 8) = rw e (omega arith) in s)

-- where a byte of the row of three colors stands in its color's row
column_low : (w d j : ℕ) → (d ≡ 8) ⊎ (d ≡ 16) → j < w * 3 * (d / 8) → j / (3 * (d / 8)) * (d / 8) + j % (d / 8) < w * (d / 8)
column_low w d j (inl e) low =
    let small : j < w * 3 * 1 = rw e at low in
    let s : j / 3 * 1 + j % 1 < w * 1 = omega (arith, small) in
    rw e s
column_low w d j (inr e) low =
    let small : j < w * 3 * 2 = rw e at low in
    let s : j / 6 * 2 + j % 2 < w * 2 = omega (arith, small) in
    rw e s

all_row : (p : Params) → (p.depth ≡ 8) ⊎ (p.depth ≡ 16) → row_bytes (all_colors p) ≡ p.pixels_per_line * 3 * (p.depth / 8)
all_row p (inl e) = row_eight p e ∙ (let s : p.pixels_per_line * 3 ≡ p.pixels_per_line * 3 * (p.depth / 8) = rw e (omega arith) in s)
all_row p (inr e) = row_sixteen p e ∙ (let s : p.pixels_per_line * 6 ≡ p.pixels_per_line * 3 * (p.depth / 8) = rw e (omega arith) in s)

wide_one : (c f : Frame) (y i : ℕ) → IsWhole f → PassParts f.params → PassParts c.params → f.params.pixels_per_line ≡ c.params.pixels_per_line → lines_in f.params.lines ≡ lines_in c.params.lines → f.params.depth ≡ c.params.depth → y < lines_in c.params.lines → i < c.params.pixels_per_line * (c.params.depth / 8) → IsWhole f × (y < frame_height f) × (i < row_bytes f.params)
wide_one c f y i w pf pc width lines depth row low =
    let size : row_bytes f.params ≡ c.params.pixels_per_line * (c.params.depth / 8) = pass_row f.params c.params.depth pf depth (pass_depth c.params pc) ∙ ap (λ (n : ℕ). n * (c.params.depth / 8)) width in
    (w, omega (arith, row, lines, height_known f pf.lines_known), omega (arith, low, size))

side_same : (a b c : Frame) (y j : ℕ) → IsTrio a b c → y < lines_in c.params.lines → j < row_bytes (all_colors c.params) → side_byte (planes_of (narrow_all (a ∷ b ∷ c ∷ []))) c.params.depth y j ≡ side_byte (planes_of (a ∷ b ∷ c ∷ [])) c.params.depth y j
side_same a b c y j t row low =
    let deep = pass_depth c.params t.pass.2 in
    let s = c.params.depth / 8 in
    let i = j / (3 * s) * s + j % s in
    let inside : i < c.params.pixels_per_line * s = column_low c.params.pixels_per_line c.params.depth j deep (subst (λ (n : ℕ). j < n) (all_row c.params deep) low) in
    let first = wide_one c a y i t.whole.0 t.pass.0 t.pass.2 t.widths.0 t.lines.0 t.depths.0 row inside in
    let second = wide_one c b y i t.whole.1 t.pass.1 t.pass.2 t.widths.1 t.lines.1 t.depths.1 row inside in
    let third = wide_one c c y i t.whole.2 t.pass.2 t.pass.2 refl refl refl row inside in
    nth_byte (j / s % 3) (a ∷ b ∷ c ∷ []) y i (first, (second, (third, tt)))

rows_same : (a b c : Frame) → IsTrio a b c → side_rows (planes_of (narrow_all (a ∷ b ∷ c ∷ []))) c.params.depth (row_bytes (all_colors c.params)) (lines_in c.params.lines) ≡ side_rows (planes_of (a ∷ b ∷ c ∷ [])) c.params.depth (row_bytes (all_colors c.params)) (lines_in c.params.lines)
unfolding side_rows
rows_same a b c t =
    let size = row_bytes (all_colors c.params) in
    let less = planes_of (narrow_all (a ∷ b ∷ c ∷ [])) in
    let more = planes_of (a ∷ b ∷ c ∷ []) in
    joined_same (λ y. concat_up_to (λ j. side_byte less c.params.depth y j ∷ []) size) (λ y. concat_up_to (λ j. side_byte more c.params.depth y j ∷ []) size) (lines_in c.params.lines)
    (λ y row. joined_same (λ j. side_byte less c.params.depth y j ∷ []) (λ j. side_byte more c.params.depth y j ∷ []) size (λ j low. ap (λ (n : ℕ). n ∷ []) (side_same a b c y j t row low)))

pub colors_file : (a b c : Frame) → IsTrio a b c → file_of (narrow_all (a ∷ b ∷ c ∷ [])) ≡ file_of (a ∷ b ∷ c ∷ [])
colors_file a b c t = ap (λ (l : List ℕ). file_front (record { params = all_colors c.params; order = c.order; payload = l }) (lines_in c.params.lines)) (rows_same a b c t)
