-- Frames that show a picture pass the tests on their parameters.
use Rattle.std.proofs.Common.{◌≡◌, ℕ, Bool, ◌≤◌, ◌⊎◌, inl, inr, true, false, not, [], ◌∷◌, arith, refl, sym, ap, ◌∙◌}
use Rattle.std.specs.Prelude.{◌==◌, ◌&&◌, ◌||◌, if◌then◌else◌, nat_le, Option, Some, None}
use Rattle.sane_fixed.specs.declared.params.Params.{Params}
use Rattle.sane_fixed.specs.declared.byte_order.ByteOrder.{ByteOrder}
use Rattle.sane_fixed.specs.declared.byte_order.ByteOrder.TheVariants.{Little, Big}
use Rattle.sane_fixed.specs.declared.frame_format.FrameFormat.{FrameFormat}
use Rattle.sane_fixed.specs.declared.frame_format.FrameFormat.TheVariants.{Gray, Rgb, Red, Green, Blue}
use Rattle.netpbm.specs.Picture.{Picture}
use Rattle.page_picture.specs.Meaning.{greatest_at}
use Rattle.page_picture.specs.Shows.{Frame, ShowsAlone, ShowsColor, ShowsColors, HasLines, HasLineShape, IsDepth, channels_alone, color_of, row_size}
use Rattle.frame_join.specs.AloneFrame.{is_alone, is_alone_format, is_known, is_depth, is_shaped, lines_in, AloneParts}
use Rattle.frame_join.specs.KeptFrame.{is_unknown, is_open_ended, is_pass, is_pass_that, color_number, is_alike, same_order, goes_with}
use Rattle.frame_join.specs.FrameHistory.{is_accepted}
use Rattle.frame_join.proofs.TestLemmas.{le_true, eq_true, eq_false, and_true, not_false, or_left, or_right}
use Rattle.page_picture.specs.Extent.{is_side}

side_true : (n : ℕ) → 1 ≤ n → n ≤ 65536 → is_side n ≡ true
side_true n low high = and_true (nat_le 1 n) (nat_le n 65536) (le_true 1 n low) (le_true n 65536 high)

depth_true : (g : FrameFormat) (d : ℕ) → IsDepth g d → is_depth g d ≡ true
depth_true Gray d (inl e) = rw e refl
depth_true Gray d (inr (inl e)) = rw e refl
depth_true Gray d (inr (inr e)) = rw e refl
depth_true Rgb d (inl e) = rw e refl
depth_true Rgb d (inr e) = rw e refl
depth_true Red d (inl e) = rw e refl
depth_true Red d (inr e) = rw e refl
depth_true Green d (inl e) = rw e refl
depth_true Green d (inr e) = rw e refl
depth_true Blue d (inl e) = rw e refl
depth_true Blue d (inr e) = rw e refl

pub shaped_is : (q : Params) → HasLineShape q → is_shaped q ≡ true
shaped_is q s =
    let enough = nat_le (row_size q.format q.pixels_per_line q.depth) q.bytes_per_line in
    let line = nat_le q.bytes_per_line 1048576 in
    let a = and_true enough line (le_true (row_size q.format q.pixels_per_line q.depth) q.bytes_per_line s.enough) (le_true q.bytes_per_line 1048576 s.line_most) in
    let b = and_true (is_side q.pixels_per_line) (enough && line) (side_true q.pixels_per_line s.width_some s.width_most) a in
    and_true (is_depth q.format q.depth) (is_side q.pixels_per_line && (enough && line)) (depth_true q.format q.depth s.depth) b

known_is : (o : Option ℕ) (n : ℕ) → o ≡ Some n → 1 ≤ n → n ≤ 65536 → is_known o ≡ true
known_is o n e low high = ap is_known e ∙ side_true n low high

-- what is said of the parameters of a picture of known height is what is tested
pub alone_is : (q : Params) → AloneParts q → is_alone q ≡ true
alone_is q s =
    and_true (is_alone_format q.format) (q.last_frame && (is_known q.lines && is_shaped q)) s.format
    (and_true q.last_frame (is_known q.lines && is_shaped q) s.last
    (and_true (is_known q.lines) (is_shaped q) (known_is q.lines (lines_in q.lines) s.lines_known s.lines_some s.lines_most) (shaped_is q s.shape.line_shape)))

-- ---- one frame

alone_format : (g : FrameFormat) (c : ℕ) → channels_alone g ≡ Some c → is_alone_format g ≡ true
alone_format Gray c e = refl
alone_format Rgb c e = refl
alone_format Red c e = absurd (cc)
alone_format Green c e = absurd (cc)
alone_format Blue c e = absurd (cc)

one_by : (o : Option ℕ) (format last shaped : Bool) (height : ℕ) → format ≡ true → last ≡ true → shaped ≡ true → HasLines o height → 1 ≤ height → height ≤ 65536 → ((format && (last && (is_known o && shaped))) || (format && (last && (is_unknown o && shaped)))) ≡ true
one_by None format last shaped height a b c has low high =
    or_right (format && (last && (false && shaped))) (format && (last && (true && shaped))) (and_true format (last && (true && shaped)) a (and_true last (true && shaped) b c))
one_by (Some n) format last shaped height a b c has low high =
    let known : is_side n ≡ true = ap is_side has ∙ side_true height low high in
    or_left (format && (last && (is_side n && shaped))) (format && (last && (false && shaped))) (and_true format (last && (is_side n && shaped)) a (and_true last (is_side n && shaped) b (and_true (is_side n) shaped known c)))

either : (a b c : Bool) → (a || b) ≡ true → (a || (b || c)) ≡ true
either true b c h = refl
either false b c h = or_left b c h

pub shown_is_accepted : (frame : Frame) (p : Picture) → ShowsAlone frame p → is_accepted [] frame.params frame.order ≡ true
shown_is_accepted frame p shows =
    let q = frame.params in
    let is = shows.fits.is_picture in
    either (is_alone q) (is_open_ended q) (is_pass_that false q)
    (one_by q.lines (is_alone_format q.format) q.last_frame (is_shaped q) p.height (alone_format q.format p.channels shows.channels) shows.last (shaped_is q shows.fits.shape) shows.fits.height is.height_some is.height_most)

-- ---- three frames

color_format : (g : FrameFormat) (n : ℕ) → color_of g ≡ Some n → (is_alone_format g ≡ false) × (color_number g ≡ n)
color_format Gray n e = absurd (cc)
color_format Rgb n e = absurd (cc)
color_format Red n e = (refl, cc)
color_format Green n e = (refl, cc)
color_format Blue n e = (refl, cc)

flag_is : (last : Bool) (t : Bool) → t ≡ last → (if last then t else not t) ≡ true
flag_is true t e = e
flag_is false t e = not_false t e

pass_is : (order : ByteOrder) (f : Frame) (p : Picture) (channel : ℕ) (last : Bool) → ShowsColor order f p channel last → is_pass_that last f.params ≡ true
pass_is order f p channel last shows =
    let q = f.params in
    let is = shows.fits.is_picture in
    let pass : is_pass q ≡ true = and_true (not (is_alone_format q.format)) (is_known q.lines && is_shaped q) (not_false (is_alone_format q.format) (color_format q.format channel shows.color).0) (and_true (is_known q.lines) (is_shaped q) (known_is q.lines p.height shows.lines_known is.height_some is.height_most) (shaped_is q shows.fits.shape)) in
    and_true (is_pass q) (if last then q.last_frame else not q.last_frame) pass (flag_is last q.last_frame shows.last_is)

order_same : (o : ByteOrder) → same_order o o ≡ true
order_same Little = refl
order_same Big = refl

order_true : (a b : ByteOrder) → a ≡ b → same_order a b ≡ true
order_true a b e = ap (same_order a) (sym e) ∙ order_same a

-- a color has depth 8 or 16, which its greatest value tells
depth_by : (g : FrameFormat) (d : ℕ) → is_alone_format g ≡ false → IsDepth g d → (d ≡ 8) ⊎ (d ≡ 16)
depth_by Gray d one deep = absurd (cc)
depth_by Rgb d one deep = absurd (cc)
depth_by Red d one deep = deep
depth_by Green d one deep = deep
depth_by Blue d one deep = deep

same_depth : (d e m : ℕ) → (d ≡ 8) ⊎ (d ≡ 16) → (e ≡ 8) ⊎ (e ≡ 16) → m ≡ greatest_at d → m ≡ greatest_at e → d ≡ e
same_depth d e m (inl a) (inl b) x y = a ∙ sym b
same_depth d e m (inr a) (inr b) x y = a ∙ sym b
same_depth d e m (inl a) (inr b) x y = absurd (let clash : 255 ≡ 65535 = sym (ap greatest_at a) ∙ (sym x ∙ (y ∙ ap greatest_at b)) in omega (arith, clash))
same_depth d e m (inr a) (inl b) x y = absurd (let clash : 65535 ≡ 255 = sym (ap greatest_at a) ∙ (sym x ∙ (y ∙ ap greatest_at b)) in omega (arith, clash))

goes_is : (order : ByteOrder) (f g : Frame) (p : Picture) (j k : ℕ) (s t : Bool) → (j ≡ k → ⊥) → ShowsColor order f p j s → ShowsColor order g p k t → goes_with f g.params g.order ≡ true
goes_is order f g p j k s t differ one two =
    let q = f.params in
    let r = g.params in
    let a = color_format q.format j one.color in
    let b = color_format r.format k two.color in
    let number : (color_number q.format == color_number r.format) ≡ false = eq_false (color_number q.format) (color_number r.format) (λ e. differ (sym a.1 ∙ (e ∙ b.1))) in
    let width : (q.pixels_per_line == r.pixels_per_line) ≡ true = eq_true q.pixels_per_line r.pixels_per_line (sym one.fits.width ∙ two.fits.width) in
    let lines : (lines_in q.lines == lines_in r.lines) ≡ true = eq_true (lines_in q.lines) (lines_in r.lines) (ap lines_in one.lines_known ∙ sym (ap lines_in two.lines_known)) in
    let depth : (q.depth == r.depth) ≡ true = eq_true q.depth r.depth (same_depth q.depth r.depth p.greatest (depth_by q.format q.depth a.0 one.fits.shape.depth) (depth_by r.format r.depth b.0 two.fits.shape.depth) one.fits.greatest two.fits.greatest) in
    let orders : same_order f.order g.order ≡ true = order_true f.order g.order (one.same_order ∙ sym two.same_order) in
    and_true (not (color_number q.format == color_number r.format)) (is_alike q f.order r g.order) (not_false (color_number q.format == color_number r.format) number)
    (and_true (q.pixels_per_line == r.pixels_per_line) ((lines_in q.lines == lines_in r.lines) && ((q.depth == r.depth) && same_order f.order g.order)) width
    (and_true (lines_in q.lines == lines_in r.lines) ((q.depth == r.depth) && same_order f.order g.order) lines
    (and_true (q.depth == r.depth) (same_order f.order g.order) depth orders)))

pub colors_are_accepted : (a b c : Frame) (p : Picture) → ShowsColors a b c p → (is_accepted [] a.params a.order ≡ true) × (is_accepted (a ∷ []) b.params b.order ≡ true) × (is_accepted (a ∷ b ∷ []) c.params c.order ≡ true)
colors_are_accepted a b c p shows =
    let first = pass_is a.order a p shows.first false shows.first_shows in
    let second = pass_is a.order b p shows.second false shows.second_shows in
    let third = pass_is a.order c p shows.third true shows.third_shows in
    let ab = goes_is a.order a b p shows.first shows.second false false shows.each_once.0 shows.first_shows shows.second_shows in
    let ac = goes_is a.order a c p shows.first shows.third false true shows.each_once.1 shows.first_shows shows.third_shows in
    let bc = goes_is a.order b c p shows.second shows.third false true shows.each_once.2 shows.second_shows shows.third_shows in (
      or_right (is_alone a.params) (is_open_ended a.params || is_pass_that false a.params) (or_right (is_open_ended a.params) (is_pass_that false a.params) first),
      and_true (is_pass_that false b.params) (goes_with a b.params b.order) second ab,
      and_true (is_pass_that true c.params) (goes_with a c.params c.order && goes_with b c.params c.order) third (and_true (goes_with a c.params c.order) (goes_with b c.params c.order) ac bc),
    )
