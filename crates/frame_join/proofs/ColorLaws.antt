-- Frames of one color each, one after another, and what is kept of them.
use Rattle.std.proofs.Common.{◌≡◌, ℕ, ◌≤◌, Bool, true, false, not, List, [], ◌∷◌, ◌++◌, arith, refl, sym, ap, ◌∙◌}
use Rattle.std.specs.Prelude.{◌==◌, ◌&&◌, ◌||◌, if◌then◌else◌}
use Rattle.std.proofs.lemmas.Bool.{and_parts}
use Rattle.sane_fixed.specs.declared.params.Params.{Params}
use Rattle.sane_fixed.specs.declared.byte_order.ByteOrder.{ByteOrder}
use Rattle.sane_fixed.specs.declared.byte_order.ByteOrder.TheVariants.{Little, Big}
use Rattle.sane_fixed.specs.declared.frame_format.FrameFormat.{FrameFormat}
use Rattle.sane_fixed.specs.declared.frame_format.FrameFormat.TheVariants.{Gray, Rgb, Red, Green, Blue}
use Rattle.page_picture.specs.Shows.{Frame}
use Rattle.frame_join.specs.AloneFrame.{is_alone_format, is_alone, is_known, is_shaped, lines_in}
use Rattle.frame_join.specs.KeptFrame.{color_number, is_unknown, is_open_ended, is_pass, is_pass_that, is_alike, same_order, goes_with}
use Rattle.frame_join.specs.ColorPlanes.{Plane, Planes, no_plane, plane_in, plane_of, planes_of, nth_plane}
use Rattle.frame_join.specs.FrameHistory.{is_accepted}
use Rattle.frame_join.specs.PixelJoinStates.{PixelJoinState, IsColor}
use Rattle.frame_join.specs.Inside.{put_plane, is_there, has_two, accepts_next}
use Rattle.frame_join.proofs.TestLemmas.{lt_true, eq_true, eq_from, or_false, or_other, not_true}
use Rattle.frame_join.proofs.KeptLaws.{pass_parts}

-- ---- the planes of frames, one more

-- one of the frames is of that color
abbrev pub has_color : ℕ → List Frame → Bool
has_color k [] = false
has_color k (f ∷ frames) = (color_number f.params.format == k) || has_color k frames

plane_other : (k : ℕ) (frames : List Frame) (f : Frame) → (color_number f.params.format == k) ≡ false → plane_of k (frames ++ f ∷ []) ≡ plane_of k frames
plane_other k [] f other = rw other refl
plane_other k (g ∷ frames) f other = ap (λ (p : Plane). if color_number g.params.format == k then plane_in g else p) (plane_other k frames f other)

pub plane_new : (k : ℕ) (frames : List Frame) (f : Frame) → has_color k frames ≡ false → (color_number f.params.format == k) ≡ true → plane_of k (frames ++ f ∷ []) ≡ plane_in f
plane_new k [] f none same = rw same refl
plane_new k (g ∷ frames) f none same =
    let parts = or_false (color_number g.params.format == k) (has_color k frames) none in
    ap (λ (t : Bool). if t then plane_in g else plane_of k (frames ++ f ∷ [])) parts.0 ∙ plane_new k frames f parts.1 same

pub plane_none : (k : ℕ) (frames : List Frame) → has_color k frames ≡ false → plane_of k frames ≡ no_plane
plane_none k [] none = refl
plane_none k (g ∷ frames) none =
    let parts = or_false (color_number g.params.format == k) (has_color k frames) none in
    ap (λ (t : Bool). if t then plane_in g else plane_of k frames) parts.0 ∙ plane_none k frames parts.1

abbrev three : Plane → Plane → Plane → Planes
three a b c = record { red = a; green = b; blue = c }

same_planes : (a b c x y z : Plane) → a ≡ x → b ≡ y → c ≡ z → three a b c ≡ three x y z
same_planes a b c x y z p q r = ap (λ (w : Plane). three w b c) p ∙ (ap (λ (w : Plane). three x w c) q ∙ ap (λ (w : Plane). three x y w) r)

number_is : (f : Frame) (g : FrameFormat) (k : ℕ) → f.params.format ≡ g → (color_number g == k) ≡ (color_number f.params.format == k)
number_is f g k e = ap (λ (g : FrameFormat). color_number g == k) (sym e)

-- a frame of a color is put into the color's place
pub planes_put : (frames : List Frame) (f : Frame) → is_alone_format f.params.format ≡ false → has_color (color_number f.params.format) frames ≡ false → put_plane (color_number f.params.format) (plane_in f) (planes_of frames) ≡ planes_of (frames ++ f ∷ [])
planes_put frames f one none = by_format f.params.format refl one
  where
    others : (g : FrameFormat) (k : ℕ) → f.params.format ≡ g → (color_number g == k) ≡ false → plane_of k frames ≡ plane_of k (frames ++ f ∷ [])
    others g k e other = sym (plane_other k frames f (sym (number_is f g k e) ∙ other))

    new : (g : FrameFormat) → f.params.format ≡ g → plane_in f ≡ plane_of (color_number g) (frames ++ f ∷ [])
    new g e = sym (plane_new (color_number g) frames f (ap (λ (g : FrameFormat). has_color (color_number g) frames) (sym e) ∙ none) (eq_true (color_number f.params.format) (color_number g) (ap color_number e)))

    put : (g : FrameFormat) → f.params.format ≡ g → put_plane (color_number f.params.format) (plane_in f) (planes_of frames) ≡ put_plane (color_number g) (plane_in f) (planes_of frames)
    put g e = ap (λ (g : FrameFormat). put_plane (color_number g) (plane_in f) (planes_of frames)) e

    by_format : (g : FrameFormat) → f.params.format ≡ g → is_alone_format g ≡ false → put_plane (color_number f.params.format) (plane_in f) (planes_of frames) ≡ planes_of (frames ++ f ∷ [])
    by_format Gray e one = absurd (cc)
    by_format Rgb e one = absurd (cc)
    by_format Red e one = put Red e ∙ same_planes (plane_in f) (plane_of 1 frames) (plane_of 2 frames) _ _ _ (new Red e) (others Red 1 e refl) (others Red 2 e refl)
    by_format Green e one = put Green e ∙ same_planes (plane_of 0 frames) (plane_in f) (plane_of 2 frames) _ _ _ (others Green 0 e refl) (new Green e) (others Green 2 e refl)
    by_format Blue e one = put Blue e ∙ same_planes (plane_of 0 frames) (plane_of 1 frames) (plane_in f) _ _ _ (others Blue 0 e refl) (others Blue 1 e refl) (new Blue e)

pub nth_is : (frames : List Frame) (g : FrameFormat) → is_alone_format g ≡ false → nth_plane (planes_of frames) (color_number g) ≡ plane_of (color_number g) frames
nth_is frames Gray one = absurd (cc)
nth_is frames Rgb one = absurd (cc)
nth_is frames Red one = refl
nth_is frames Green one = refl
nth_is frames Blue one = refl

-- ---- a further color

-- each frame's lines have bytes
abbrev pub HaveLines : List Frame → Type 0
HaveLines [] = Unit {0}
HaveLines (f ∷ frames) = (1 ≤ f.params.bytes_per_line) × HaveLines frames

there_is : (k : ℕ) (frames : List Frame) → HaveLines frames → is_there (plane_of k frames) ≡ has_color k frames
there_is k [] lines = refl
there_is k (f ∷ frames) lines =
    let P : Bool → Type 0 = λ t. is_there (if t then plane_in f else plane_of k frames) ≡ (t || has_color k frames) in
    elim (color_number f.params.format == k) as P [
      | true ↦ lt_true 0 f.params.bytes_per_line (omega (arith, lines.0))
      | false ↦ there_is k frames lines.1
    ]

-- how many of three there are
abbrev two_of : Bool → Bool → Bool → Bool
two_of r g b = (r && (g || b)) || (g && b)

two_is : (frames : List Frame) → HaveLines frames → has_two (planes_of frames) ≡ two_of (has_color 0 frames) (has_color 1 frames) (has_color 2 frames)
two_is frames lines =
    ap (λ (t : Bool). two_of t (is_there (plane_of 1 frames)) (is_there (plane_of 2 frames))) (there_is 0 frames lines)
    ∙ (ap (λ (t : Bool). two_of (has_color 0 frames) t (is_there (plane_of 2 frames))) (there_is 1 frames lines)
    ∙ ap (two_of (has_color 0 frames) (has_color 1 frames)) (there_is 2 frames lines))

one_has : (g : FrameFormat) → is_alone_format g ≡ false → two_of ((color_number g == 0) || false) ((color_number g == 1) || false) ((color_number g == 2) || false) ≡ false
one_has Gray one = absurd (cc)
one_has Rgb one = absurd (cc)
one_has Red one = refl
one_has Green one = refl
one_has Blue one = refl

two_have : (g h : FrameFormat) → is_alone_format g ≡ false → is_alone_format h ≡ false → (color_number g == color_number h) ≡ false → two_of ((color_number g == 0) || ((color_number h == 0) || false)) ((color_number g == 1) || ((color_number h == 1) || false)) ((color_number g == 2) || ((color_number h == 2) || false)) ≡ true
two_have Gray h a b c = absurd (cc)
two_have Rgb h a b c = absurd (cc)
two_have Red Gray a b c = absurd (cc)
two_have Red Rgb a b c = absurd (cc)
two_have Red Red a b c = absurd (cc)
two_have Red Green a b c = refl
two_have Red Blue a b c = refl
two_have Green Gray a b c = absurd (cc)
two_have Green Rgb a b c = absurd (cc)
two_have Green Red a b c = refl
two_have Green Green a b c = absurd (cc)
two_have Green Blue a b c = refl
two_have Blue Gray a b c = absurd (cc)
two_have Blue Rgb a b c = absurd (cc)
two_have Blue Red a b c = refl
two_have Blue Green a b c = refl
two_have Blue Blue a b c = absurd (cc)

-- ---- what it says that frames came one after another

order_is : (a b : ByteOrder) → same_order a b ≡ true → a ≡ b
order_is Little Little h = refl
order_is Little Big h = absurd (cc)
order_is Big Little h = absurd (cc)
order_is Big Big h = refl

-- frames of one width, height, depth and byte order
pub record Alike (f g : Frame) : Type 0 where
  pub width : f.params.pixels_per_line ≡ g.params.pixels_per_line
  pub lines : lines_in f.params.lines ≡ lines_in g.params.lines
  pub depth : f.params.depth ≡ g.params.depth
  pub order : f.order ≡ g.order

alike_parts : (f g : Frame) → is_alike f.params f.order g.params g.order ≡ true → Alike f g
alike_parts f g h =
    let p = f.params in
    let q = g.params in
    let deep = (p.depth == q.depth) && same_order f.order g.order in
    let one = and_parts (p.pixels_per_line == q.pixels_per_line) ((lines_in p.lines == lines_in q.lines) && deep) h in
    let two = and_parts (lines_in p.lines == lines_in q.lines) deep one.1 in
    let three = and_parts (p.depth == q.depth) (same_order f.order g.order) two.1 in
    record {
      width = eq_from p.pixels_per_line q.pixels_per_line one.0;
      lines = eq_from (lines_in p.lines) (lines_in q.lines) two.0;
      depth = eq_from p.depth q.depth three.0;
      order = order_is f.order g.order three.1;
    }

-- two colors of one picture
pub record GoesWith (f g : Frame) : Type 0 where
  pub other : (color_number f.params.format == color_number g.params.format) ≡ false
  pub alike : Alike f g

pub goes_parts : (f g : Frame) → goes_with f g.params g.order ≡ true → GoesWith f g
goes_parts f g h =
    let parts = and_parts (not (color_number f.params.format == color_number g.params.format)) (is_alike f.params f.order g.params g.order) h in
    record { other = not_true (color_number f.params.format == color_number g.params.format) parts.0; alike = alike_parts f g parts.1 }

-- the flag of a color
flag : (last : Bool) (p : Params) → is_pass_that last p ≡ true → p.last_frame ≡ last
flag true p h = (and_parts (is_pass p) p.last_frame h).1
flag false p h = not_true p.last_frame (and_parts (is_pass p) (not p.last_frame) h).1

pub record IsSecond (a b : Frame) : Type 0 where
  pub flag : b.params.last_frame ≡ false
  pub goes : GoesWith a b

pub second_parts : (a b : Frame) → is_accepted (a ∷ []) b.params b.order ≡ true → IsSecond a b
second_parts a b h =
    let parts = and_parts (is_pass_that false b.params) (goes_with a b.params b.order) h in
    record { flag = flag false b.params parts.0; goes = goes_parts a b parts.1 }

pub record IsThird (a b c : Frame) : Type 0 where
  pub flag : c.params.last_frame ≡ true
  pub first : GoesWith a c
  pub second : GoesWith b c

pub third_parts : (a b c : Frame) → is_accepted (a ∷ b ∷ []) c.params c.order ≡ true → IsThird a b c
third_parts a b c h =
    let parts = and_parts (is_pass_that true c.params) (goes_with a c.params c.order && goes_with b c.params c.order) h in
    let both = and_parts (goes_with a c.params c.order) (goes_with b c.params c.order) parts.1 in
    record { flag = flag true c.params parts.0; first = goes_parts a c both.0; second = goes_parts b c both.1 }

-- a first frame that is one color
pub record IsFirst (a : Frame) : Type 0 where
  pub flag : a.params.last_frame ≡ false

not_alone : (a b : Bool) → a ≡ false → (a && b) ≡ false
not_alone true b e = absurd (cc)
not_alone false b e = refl

pub pass_not_alone : (p : Params) → is_pass p ≡ true → is_alone p ≡ false
pass_not_alone p pass = not_alone (is_alone_format p.format) (p.last_frame && (is_known p.lines && is_shaped p)) (pass_parts p pass).format

pass_not_open : (p : Params) → is_pass p ≡ true → is_open_ended p ≡ false
pass_not_open p pass = not_alone (is_alone_format p.format) (p.last_frame && (is_unknown p.lines && is_shaped p)) (pass_parts p pass).format

pub first_parts : (a : Frame) → is_pass a.params ≡ true → is_accepted [] a.params a.order ≡ true → IsFirst a
first_parts a pass h =
    let one : (is_open_ended a.params || is_pass_that false a.params) ≡ true = or_other (is_alone a.params) (is_open_ended a.params || is_pass_that false a.params) h (pass_not_alone a.params pass) in
    record { flag = flag false a.params (or_other (is_open_ended a.params) (is_pass_that false a.params) one (pass_not_open a.params pass)) }

-- ---- the test on a further color

abbrev next_of : Planes → Params → ByteOrder → Params → ByteOrder → Bool
next_of planes q r p o = is_pass_that (has_two planes) p && (not (is_there (nth_plane planes (color_number p.format))) && is_alike q r p o)

next_is : (v : PixelJoinState) (planes : Planes) (q : Params) (r : ByteOrder) (p : Params) (o : ByteOrder) → v.planes ≡ planes → v.params ≡ q → v.order ≡ r → accepts_next v p o ≡ next_of planes q r p o
next_is v planes q r p o a b c =
    ap (λ (x : Planes). next_of x v.params v.order p o) a
    ∙ (ap (λ (x : Params). next_of planes x v.order p o) b ∙ ap (λ (x : ByteOrder). next_of planes q x p o) c)

-- only a color passes, so that the rest is asked of colors alone
gate : (last : Bool) (p : Params) (x y : Bool) → (is_pass p ≡ true → x ≡ y) → (is_pass_that last p && x) ≡ (is_pass_that last p && y)
gate last p x y same =
    let rest = if last then p.last_frame else not p.last_frame in
    let P : Bool → Type 0 = λ t. is_pass p ≡ t → ((t && rest) && x) ≡ ((t && rest) && y) in
    let at : (is_pass p && rest && x) ≡ (is_pass p && rest && y) = elim (is_pass p) as P [
      | true ↦ λ pass. ap (λ (z : Bool). rest && z) (same pass)
      | false ↦ λ _. refl
    ] refl in
    at

kept_there : (frames : List Frame) (p : Params) → HaveLines frames → is_pass p ≡ true → is_there (nth_plane (planes_of frames) (color_number p.format)) ≡ has_color (color_number p.format) frames
kept_there frames p lines pass =
    ap is_there (nth_is frames p.format (pass_parts p pass).format) ∙ there_is (color_number p.format) frames lines

one_other : (x l : Bool) → (not (x || false) && l) ≡ (not x && l)
one_other true l = refl
one_other false l = refl

two_others : (x y l : Bool) → (not (x || (y || false)) && l) ≡ ((not x && l) && (not y && l))
two_others true y l = refl
two_others false true true = refl
two_others false true false = refl
two_others false false true = refl
two_others false false false = refl

lines_of : (f : Frame) → is_pass f.params ≡ true → 1 ≤ f.params.bytes_per_line
lines_of f pass = let shape = (pass_parts f.params pass).shape in omega (arith, shape.row_some, shape.fits)

pub after_one : (a : Frame) (v : PixelJoinState) (p : Params) (o : ByteOrder) → IsColor [] a → v.planes ≡ planes_of (a ∷ []) → v.params ≡ a.params → v.order ≡ a.order → accepts_next v p o ≡ is_accepted (a ∷ []) p o
after_one a v p o first planes params order =
    let frames = a ∷ [] in
    let lines : HaveLines frames = (lines_of a first.pass, tt) in
    let alike = is_alike a.params a.order p o in
    let two : has_two (planes_of frames) ≡ false = two_is frames lines ∙ one_has a.params.format (pass_parts a.params first.pass).format in
    next_is v (planes_of frames) a.params a.order p o planes params order
    ∙ (ap (λ (t : Bool). is_pass_that t p && (not (is_there (nth_plane (planes_of frames) (color_number p.format))) && alike)) two
    ∙ gate false p (not (is_there (nth_plane (planes_of frames) (color_number p.format))) && alike) (goes_with a p o) (λ pass.
    ap (λ (t : Bool). not t && alike) (kept_there frames p lines pass) ∙ one_other (color_number a.params.format == color_number p.format) alike))

same_alike : (a b : Frame) (p : Params) (o : ByteOrder) → Alike a b → is_alike b.params b.order p o ≡ is_alike a.params a.order p o
same_alike a b p o alike =
    ap (λ (n : ℕ). (n == p.pixels_per_line) && ((lines_in b.params.lines == lines_in p.lines) && ((b.params.depth == p.depth) && same_order b.order o))) (sym alike.width)
    ∙ (ap (λ (n : ℕ). (a.params.pixels_per_line == p.pixels_per_line) && ((n == lines_in p.lines) && ((b.params.depth == p.depth) && same_order b.order o))) (sym alike.lines)
    ∙ (ap (λ (n : ℕ). (a.params.pixels_per_line == p.pixels_per_line) && ((lines_in a.params.lines == lines_in p.lines) && ((n == p.depth) && same_order b.order o))) (sym alike.depth)
    ∙ ap (λ (r : ByteOrder). (a.params.pixels_per_line == p.pixels_per_line) && ((lines_in a.params.lines == lines_in p.lines) && ((a.params.depth == p.depth) && same_order r o))) (sym alike.order)))

pub after_two : (a b : Frame) (v : PixelJoinState) (p : Params) (o : ByteOrder) → IsColor [] a → IsColor (a ∷ []) b → v.planes ≡ planes_of (a ∷ b ∷ []) → v.params ≡ b.params → v.order ≡ b.order → accepts_next v p o ≡ is_accepted (a ∷ b ∷ []) p o
after_two a b v p o first second planes params order =
    let frames = a ∷ b ∷ [] in
    let lines : HaveLines frames = (lines_of a first.pass, (lines_of b second.pass, tt)) in
    let parts = second_parts a b second.accepted in
    let before = is_alike a.params a.order p o in
    let alike = is_alike b.params b.order p o in
    let same : alike ≡ before = same_alike a b p o parts.goes.alike in
    let two : has_two (planes_of frames) ≡ true = two_is frames lines ∙ two_have a.params.format b.params.format (pass_parts a.params first.pass).format (pass_parts b.params second.pass).format parts.goes.other in
    next_is v (planes_of frames) b.params b.order p o planes params order
    ∙ (ap (λ (t : Bool). is_pass_that t p && (not (is_there (nth_plane (planes_of frames) (color_number p.format))) && alike)) two
    ∙ gate true p (not (is_there (nth_plane (planes_of frames) (color_number p.format))) && alike) (goes_with a p o && goes_with b p o) (λ pass.
    ap (λ (t : Bool). not t && alike) (kept_there frames p lines pass)
    ∙ (two_others (color_number a.params.format == color_number p.format) (color_number b.params.format == color_number p.format) alike
    ∙ ap (λ (l : Bool). (not (color_number a.params.format == color_number p.format) && l) && (not (color_number b.params.format == color_number p.format) && alike)) same)))
