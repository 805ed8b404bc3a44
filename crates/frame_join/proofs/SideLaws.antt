-- The frame that has three colors side by side shows what the three show.
use Rattle.std.proofs.Common.{◌≡◌, ◌≢◌, ℕ, zero, suc, ◌<◌, ◌≤◌, ◌+◌, ◌*◌, ◌/◌, ◌%◌, ◌⊎◌, inl, inr, Bool, true, false, List, [], ◌∷◌, length, get_or, arith, refl, sym, ap, ◌∙◌, subst}
use Rattle.std.specs.Prelude.{◌==◌, if◌then◌else◌, Option, Some, slice_index}
use Rattle.netpbm.specs.FileText.{concat_up_to}
use Rattle.netpbm.proofs.WritingLaws.{length-joined, joined_at}
use Rattle.netpbm.specs.Picture.{Picture, IsPlace, IsPicture}
use Rattle.sane_fixed.specs.declared.params.Params.{Params}
use Rattle.sane_fixed.specs.declared.byte_order.ByteOrder.{ByteOrder}
use Rattle.sane_fixed.specs.declared.byte_order.ByteOrder.TheVariants.{Little, Big}
use Rattle.sane_fixed.specs.declared.frame_format.FrameFormat.{FrameFormat}
use Rattle.sane_fixed.specs.declared.frame_format.FrameFormat.TheVariants.{Gray, Rgb, Red, Green, Blue}
use Rattle.page_picture.proofs.MeaningLemmas.{greatest_limits}
use Rattle.page_picture.specs.Meaning.{greatest_at}
use Rattle.page_picture.specs.Shows.{Frame, row_size, frame_sample, two_bytes, color_of, HasLines, ShowsAlone, ShowsColor, ShowsColors}
use Rattle.frame_join.specs.AloneFrame.{is_alone_format, lines_in, row_bytes, ShapeParts, AloneParts}
use Rattle.frame_join.specs.KeptFrame.{color_number}
use Rattle.frame_join.specs.ColorPlanes.{Plane, Planes, plane_in, plane_of, planes_of, nth_plane, side_byte, side_rows, all_colors, side_by_side}
use Rattle.frame_join.specs.FrameFile.{raster_byte, place_in, trimmed_byte}
use Rattle.frame_join.specs.FrameHistory.{is_full, is_full_at}
use Rattle.frame_join.specs.PixelJoinStates.{AreColors}
use Rattle.frame_join.proofs.TestLemmas.{eq_true, eq_from, not_eq_from}
use Rattle.frame_join.proofs.FrameLaws.{sample_eight, sample_sixteen}
use Rattle.frame_join.proofs.StreamLaws.{small_append, frame_picture, frame_sample_small, place_below}
use Rattle.frame_join.proofs.KeptLaws.{PassParts, pass_parts, pass_depth}
use Rattle.frame_join.proofs.ColorLaws.{nth_is, first_parts, second_parts, third_parts}

-- ---- bytes side by side

pub length-side_rows : (planes : Planes) (d size n : ℕ) → length (side_rows planes d size n) ≡ n * size
unfolding side_rows
length-side_rows planes d size n = length-joined (λ y. concat_up_to (λ j. side_byte planes d y j ∷ []) size) size n (λ y. row_length y)
  where
    row_length : (y : ℕ) → length (concat_up_to (λ j. side_byte planes d y j ∷ []) size) ≡ size
    row_length y = omega (arith, length-joined (λ j. side_byte planes d y j ∷ []) 1 size (λ _. refl))

pub side_at : (planes : Planes) (d size n y j i : ℕ) → y < n → j < size → i ≡ y * size + j → get_or (side_rows planes d size n) i 0 ≡ side_byte planes d y j
unfolding side_rows
side_at planes d size n y j i row column at =
    ap (λ (i : ℕ). get_or (concat_up_to (λ y. concat_up_to (λ j. side_byte planes d y j ∷ []) size) n) i 0) at
    ∙ (joined_at (λ y. concat_up_to (λ j. side_byte planes d y j ∷ []) size) size n y j row_length row column
    ∙ (ap (λ (i : ℕ). get_or (concat_up_to (λ j. side_byte planes d y j ∷ []) size) i 0) (let one : j ≡ j * 1 + 0 = omega arith in one)
    ∙ joined_at (λ j. side_byte planes d y j ∷ []) 1 size j 0 (λ _. refl) column (omega arith)))
  where
    row_length : (y : ℕ) → length (concat_up_to (λ j. side_byte planes d y j ∷ []) size) ≡ size
    row_length y = omega (arith, length-joined (λ j. side_byte planes d y j ∷ []) 1 size (λ _. refl))

joined_small : (f : ℕ → List ℕ) (n : ℕ) → ((k i : ℕ) → slice_index (f k) i < 256) → (i : ℕ) → slice_index (concat_up_to f n) i < 256
unfolding concat_up_to
joined_small f zero small i = omega arith
joined_small f (suc n) small i = small_append (concat_up_to f n) (f n) (joined_small f n small) (small n) i

one_small : (b i : ℕ) → b < 256 → slice_index (b ∷ []) i < 256
one_small b zero small = small
one_small b (suc i) small = omega arith

abbrev pub AreSmall : Planes → Type 0
AreSmall planes = (k i : ℕ) → slice_index (nth_plane planes k).bytes i < 256

pub side_small : (planes : Planes) (d size n : ℕ) → AreSmall planes → (i : ℕ) → slice_index (side_rows planes d size n) i < 256
unfolding side_rows
side_small planes d size n small i =
    joined_small (λ y. concat_up_to (λ j. side_byte planes d y j ∷ []) size) n (λ y i. joined_small (λ j. side_byte planes d y j ∷ []) size (λ j i. one_small (side_byte planes d y j) i (small (j / (d / 8) % 3) (y * (nth_plane planes (j / (d / 8) % 3)).line + (j / (3 * (d / 8)) * (d / 8) + j % (d / 8))))) i) i

-- ---- one of three colors

-- the frame f is one of the colors, of the width, height, depth and byte order of the frame c
pub record OneOf (planes : Planes) (c f : Frame) : Type 0 where
  pub plane : nth_plane planes (color_number f.params.format) ≡ plane_in f
  pub pass : PassParts f.params
  pub width : f.params.pixels_per_line ≡ c.params.pixels_per_line
  pub lines : lines_in f.params.lines ≡ lines_in c.params.lines
  pub depth : f.params.depth ≡ c.params.depth
  pub order : f.order ≡ c.order

pub two_same : (o : ByteOrder) (s t : List ℕ) (i j : ℕ) → get_or s i 0 ≡ get_or t j 0 → get_or s (i + 1) 0 ≡ get_or t (j + 1) 0 → two_bytes o s i ≡ two_bytes o t j
two_same Little s t i j a b = omega (arith, a, b)
two_same Big s t i j a b = omega (arith, a, b)

deep_eight : (planes : Planes) (f : Frame) (y x k : ℕ) → nth_plane planes k ≡ plane_in f → k < 3 → side_byte planes 8 y (3 * x + k) ≡ get_or f.payload (y * f.params.bytes_per_line + x) 0
deep_eight planes f y x k plane low =
    let color : (3 * x + k) / 1 % 3 ≡ k = omega (arith, low) in
    let place : (3 * x + k) / 3 * 1 + (3 * x + k) % 1 ≡ x = omega (arith, low) in
    ap (λ (n : ℕ). slice_index (nth_plane planes n).bytes (y * (nth_plane planes n).line + ((3 * x + k) / 3 * 1 + (3 * x + k) % 1))) color
    ∙ (ap (λ (q : Plane). slice_index q.bytes (y * q.line + ((3 * x + k) / 3 * 1 + (3 * x + k) % 1))) plane
    ∙ ap (λ (n : ℕ). get_or f.payload (y * f.params.bytes_per_line + n) 0) place)

deep_sixteen : (planes : Planes) (f : Frame) (y x k b : ℕ) → nth_plane planes k ≡ plane_in f → k < 3 → b < 2 → side_byte planes 16 y (2 * (3 * x + k) + b) ≡ get_or f.payload (y * f.params.bytes_per_line + (2 * x + b)) 0
deep_sixteen planes f y x k b plane low less =
    let j = 2 * (3 * x + k) + b in
    let color : j / 2 % 3 ≡ k = omega (arith, low, less) in
    let place : j / 6 * 2 + j % 2 ≡ 2 * x + b = omega (arith, low, less) in
    ap (λ (n : ℕ). slice_index (nth_plane planes n).bytes (y * (nth_plane planes n).line + (j / 6 * 2 + j % 2))) color
    ∙ (ap (λ (q : Plane). slice_index q.bytes (y * q.line + (j / 6 * 2 + j % 2))) plane
    ∙ ap (λ (n : ℕ). get_or f.payload (y * f.params.bytes_per_line + n) 0) place)

-- the bytes of a row of all colors
pub row_eight : (p : Params) → p.depth ≡ 8 → row_bytes (all_colors p) ≡ p.pixels_per_line * 3
row_eight p deep = rw deep (omega arith)

pub row_sixteen : (p : Params) → p.depth ≡ 16 → row_bytes (all_colors p) ≡ p.pixels_per_line * 6
row_sixteen p deep = rw deep (omega arith)

eight : (planes : Planes) (c f : Frame) (x y k : ℕ) → OneOf planes c f → c.params.depth ≡ 8 → k ≡ color_number f.params.format → k < 3 → x < c.params.pixels_per_line → y < lines_in c.params.lines → frame_sample 3 (side_by_side c planes) x y k ≡ frame_sample 1 f x y 0
eight planes c f x y k one deep color low column row =
    let g = side_by_side c planes in
    let size = row_bytes (all_colors c.params) in
    let plane : nth_plane planes k ≡ plane_in f = ap (nth_plane planes) color ∙ one.plane in
    let inside : 3 * x + k < size = omega (arith, row_eight c.params deep, low, column) in
    let same : y * f.params.bytes_per_line + x ≡ y * f.params.bytes_per_line + (1 * x + 0) = omega arith in
    sample_eight 3 g x y k deep
    ∙ (side_at planes c.params.depth size (lines_in c.params.lines) y (3 * x + k) (y * size + (3 * x + k)) row inside refl
    ∙ (ap (λ (d : ℕ). side_byte planes d y (3 * x + k)) deep
    ∙ (deep_eight planes f y x k plane low
    ∙ (ap (λ (i : ℕ). get_or f.payload i 0) same ∙ sym (sample_eight 1 f x y 0 (one.depth ∙ deep))))))

sixteen : (planes : Planes) (c f : Frame) (x y k : ℕ) → OneOf planes c f → c.params.depth ≡ 16 → k ≡ color_number f.params.format → k < 3 → x < c.params.pixels_per_line → y < lines_in c.params.lines → frame_sample 3 (side_by_side c planes) x y k ≡ frame_sample 1 f x y 0
sixteen planes c f x y k one deep color low column row =
    let g = side_by_side c planes in
    let size = row_bytes (all_colors c.params) in
    let plane : nth_plane planes k ≡ plane_in f = ap (nth_plane planes) color ∙ one.plane in
    let B = f.params.bytes_per_line in
    let place = y * size + 2 * (3 * x + k) in
    let at = y * B + 2 * (1 * x + 0) in
    let byte : (b i j : ℕ) → b < 2 → i ≡ place + b → j ≡ at + b → get_or g.payload i 0 ≡ get_or f.payload j 0 = λ b i j less e h.
    side_at planes c.params.depth size (lines_in c.params.lines) y (2 * (3 * x + k) + b) i row (omega (arith, row_sixteen c.params deep, low, column, less)) (omega (arith, e))
    ∙ (ap (λ (d : ℕ). side_byte planes d y (2 * (3 * x + k) + b)) deep
    ∙ (deep_sixteen planes f y x k b plane low less ∙ ap (λ (n : ℕ). get_or f.payload n 0) (let z : y * B + (2 * x + b) ≡ j = omega (arith, h) in z))) in
    sample_sixteen 3 g x y k deep
    ∙ (two_same c.order g.payload f.payload place at (byte 0 place at (omega arith) (omega arith) (omega arith)) (byte 1 (place + 1) (at + 1) (omega arith) refl refl)
    ∙ (ap (λ (o : ByteOrder). two_bytes o f.payload at) (sym one.order) ∙ sym (sample_sixteen 1 f x y 0 (one.depth ∙ deep))))

pub side_sample : (planes : Planes) (c f : Frame) (x y k : ℕ) → OneOf planes c f → k ≡ color_number f.params.format → k < 3 → x < c.params.pixels_per_line → y < lines_in c.params.lines → frame_sample 3 (side_by_side c planes) x y k ≡ frame_sample 1 f x y 0
side_sample planes c f x y k one color low column row = by_depth (pass_depth f.params one.pass)
  where
    by_depth : (f.params.depth ≡ 8) ⊎ (f.params.depth ≡ 16) → frame_sample 3 (side_by_side c planes) x y k ≡ frame_sample 1 f x y 0
    by_depth (inl deep) = eight planes c f x y k one (sym one.depth ∙ deep) color low column row
    by_depth (inr deep) = sixteen planes c f x y k one (sym one.depth ∙ deep) color low column row

-- ---- three colors that came whole

pub full_pass : (f : Frame) → PassParts f.params → is_full f ≡ true → length f.payload ≡ lines_in f.params.lines * f.params.bytes_per_line
full_pass f parts full =
    eq_from (length f.payload) (lines_in f.params.lines * f.params.bytes_per_line) (ap (λ (o : Option ℕ). is_full_at o f.params.bytes_per_line (length f.payload)) (sym parts.lines_known) ∙ full)

-- what three colors are, where they stand, and what they have
pub record Three (a b c : Frame) : Type 0 where
  pub first : OneOf (planes_of (a ∷ b ∷ c ∷ [])) c a
  pub second : OneOf (planes_of (a ∷ b ∷ c ∷ [])) c b
  pub third : OneOf (planes_of (a ∷ b ∷ c ∷ [])) c c
  pub apart : (color_number a.params.format ≢ color_number b.params.format) × (color_number a.params.format ≢ color_number c.params.format) × (color_number b.params.format ≢ color_number c.params.format)
  pub flags : (a.params.last_frame ≡ false) × (b.params.last_frame ≡ false) × (c.params.last_frame ≡ true)
  pub sizes : (length a.payload ≡ lines_in a.params.lines * a.params.bytes_per_line) × (length b.payload ≡ lines_in b.params.lines * b.params.bytes_per_line) × (length c.payload ≡ lines_in c.params.lines * c.params.bytes_per_line)
  pub small : AreSmall (planes_of (a ∷ b ∷ c ∷ []))

plane_first : (a b c : Frame) → plane_of (color_number a.params.format) (a ∷ b ∷ c ∷ []) ≡ plane_in a
plane_first a b c = ap (λ (t : Bool). if t then plane_in a else plane_of (color_number a.params.format) (b ∷ c ∷ [])) (eq_true (color_number a.params.format) (color_number a.params.format) refl)

plane_second : (a b c : Frame) → (color_number a.params.format == color_number b.params.format) ≡ false → plane_of (color_number b.params.format) (a ∷ b ∷ c ∷ []) ≡ plane_in b
plane_second a b c other =
    ap (λ (t : Bool). if t then plane_in a else plane_of (color_number b.params.format) (b ∷ c ∷ [])) other
    ∙ ap (λ (t : Bool). if t then plane_in b else plane_of (color_number b.params.format) (c ∷ [])) (eq_true (color_number b.params.format) (color_number b.params.format) refl)

plane_third : (a b c : Frame) → (color_number a.params.format == color_number c.params.format) ≡ false → (color_number b.params.format == color_number c.params.format) ≡ false → plane_of (color_number c.params.format) (a ∷ b ∷ c ∷ []) ≡ plane_in c
plane_third a b c other more =
    ap (λ (t : Bool). if t then plane_in a else plane_of (color_number c.params.format) (b ∷ c ∷ [])) other
    ∙ (ap (λ (t : Bool). if t then plane_in b else plane_of (color_number c.params.format) (c ∷ [])) more
    ∙ ap (λ (t : Bool). if t then plane_in c else plane_of (color_number c.params.format) []) (eq_true (color_number c.params.format) (color_number c.params.format) refl))

-- every plane has bytes
planes_small : (a b c : Frame) → ((i : ℕ) → slice_index a.payload i < 256) → ((i : ℕ) → slice_index b.payload i < 256) → ((i : ℕ) → slice_index c.payload i < 256) → AreSmall (planes_of (a ∷ b ∷ c ∷ []))
planes_small a b c first second third k i = by_number (k == 0) (k == 1)
  where
    one : (n : ℕ) → slice_index (plane_of n (a ∷ b ∷ c ∷ [])).bytes i < 256
    one n =
        let P : Bool → Type 0 = λ t. slice_index (if t then plane_in a else plane_of n (b ∷ c ∷ [])).bytes i < 256 in
        let Q : Bool → Type 0 = λ t. slice_index (if t then plane_in b else plane_of n (c ∷ [])).bytes i < 256 in
        let R : Bool → Type 0 = λ t. slice_index (if t then plane_in c else plane_of n []).bytes i < 256 in
        elim (color_number a.params.format == n) as P [
          | true ↦ first i
          | false ↦ elim (color_number b.params.format == n) as Q [
            | true ↦ second i
            | false ↦ elim (color_number c.params.format == n) as R [ true ↦ third i | false ↦ omega arith ]
          ]
        ]

    by_number : (t u : Bool) → slice_index (if t then plane_of 0 (a ∷ b ∷ c ∷ []) else (if u then plane_of 1 (a ∷ b ∷ c ∷ []) else plane_of 2 (a ∷ b ∷ c ∷ []))).bytes i < 256
    by_number true u = one 0
    by_number false true = one 1
    by_number false false = one 2

pub three_parts : (a b c : Frame) → AreColors (a ∷ b ∷ c ∷ []) → Three a b c
three_parts a b c colors =
    let frames = a ∷ b ∷ c ∷ [] in
    let pa = pass_parts a.params colors.0.pass in
    let pb = pass_parts b.params colors.1.pass in
    let pc = pass_parts c.params colors.2.pass in
    let sb = second_parts a b colors.1.accepted in
    let sc = third_parts a b c colors.2.accepted in
    record {
      first = record {
        plane = nth_is frames a.params.format pa.format ∙ plane_first a b c;
        pass = pa;
        width = sc.first.alike.width;
        lines = sc.first.alike.lines;
        depth = sc.first.alike.depth;
        order = sc.first.alike.order;
      };
      second = record {
        plane = nth_is frames b.params.format pb.format ∙ plane_second a b c sb.goes.other;
        pass = pb;
        width = sc.second.alike.width;
        lines = sc.second.alike.lines;
        depth = sc.second.alike.depth;
        order = sc.second.alike.order;
      };
      third = record {
        plane = nth_is frames c.params.format pc.format ∙ plane_third a b c sc.first.other sc.second.other;
        pass = pc;
        width = refl;
        lines = refl;
        depth = refl;
        order = refl;
      };
      apart = (not_eq_from _ _ sb.goes.other, not_eq_from _ _ sc.first.other, not_eq_from _ _ sc.second.other);
      flags = ((first_parts a colors.0.pass colors.0.accepted).flag, sb.flag, sc.flag);
      sizes = (full_pass a pa colors.0.full, full_pass b pb colors.1.full, full_pass c pc colors.2.full);
      small = planes_small a b c colors.0.bytes colors.1.bytes colors.2.bytes;
    }

-- ---- the frame side by side

all_shape : (p : Params) → PassParts p → ShapeParts (all_colors p)
all_shape p parts = by_depth (pass_depth p parts)
  where
    made : (p.depth ≡ 8) ⊎ (p.depth ≡ 16) → (1 ≤ row_size Rgb p.pixels_per_line p.depth) → (row_size Rgb p.pixels_per_line p.depth ≤ 1048576) → (p.depth ≡ 1 → ⊥) → ShapeParts (all_colors p)
    made deep low high bits = record {
      depth = omega (arith, deep);
      bits = λ e. absurd (bits e);
      depths = inr deep;
      line_shape = record {
        depth = deep;
        width_some = parts.shape.width_some;
        width_most = parts.shape.width_most;
        enough = omega arith;
        line_most = high;
      };
      width_some = parts.shape.width_some;
      width_most = parts.shape.width_most;
      row_some = low;
      fits = omega arith;
      line_most = high;
    }

    by_depth : (p.depth ≡ 8) ⊎ (p.depth ≡ 16) → ShapeParts (all_colors p)
    by_depth (inl deep) = made (inl deep) (omega (arith, row_eight p deep, parts.shape.width_some)) (omega (arith, row_eight p deep, parts.shape.width_most)) (λ e. omega (arith, e, deep))
    by_depth (inr deep) = made (inr deep) (omega (arith, row_sixteen p deep, parts.shape.width_some)) (omega (arith, row_sixteen p deep, parts.shape.width_most)) (λ e. omega (arith, e, deep))

pub all_alone : (p : Params) → PassParts p → AloneParts (all_colors p)
all_alone p parts = record {
  shape = all_shape p parts;
  format = refl;
  last = refl;
  lines_known = parts.lines_known;
  lines_some = parts.lines_some;
  lines_most = parts.lines_most;
}

-- a byte of the file's raster, out of the color that it stands in
pub side_raster : (planes : Planes) (c : Frame) (y j : ℕ) → PassParts c.params → y < lines_in c.params.lines → j < row_bytes (all_colors c.params) → raster_byte (side_by_side c planes) y j ≡ side_byte planes c.params.depth y (place_in c.order c.params.depth j)
side_raster planes c y j parts row column =
    let g = side_by_side c planes in
    let d = c.params.depth in
    let size = row_bytes (all_colors c.params) in
    let place = place_in c.order d j in
    let inside : place < size = place_below g j (all_alone c.params parts) column in
    whole (pass_depth c.params parts) (slice_index g.payload (y * size + place)) ∙ side_at planes d size (lines_in c.params.lines) y place (y * size + place) row inside refl
  where
    whole : (c.params.depth ≡ 8) ⊎ (c.params.depth ≡ 16) → (byte : ℕ) → trimmed_byte c.params.pixels_per_line c.params.depth j byte ≡ byte
    whole (inl deep) byte = ap (λ (d : ℕ). trimmed_byte c.params.pixels_per_line d j byte) deep
    whole (inr deep) byte = ap (λ (d : ℕ). trimmed_byte c.params.pixels_per_line d j byte) deep

-- ---- what the frames show

color_is : (g : FrameFormat) (n : ℕ) → color_of g ≡ Some n → n ≡ color_number g
color_is Gray n e = absurd (cc)
color_is Rgb n e = absurd (cc)
color_is Red n e = cc
color_is Green n e = cc
color_is Blue n e = cc

color_some : (g : FrameFormat) → is_alone_format g ≡ false → color_of g ≡ Some (color_number g)
color_some Gray e = absurd (cc)
color_some Rgb e = absurd (cc)
color_some Red e = refl
color_some Green e = refl
color_some Blue e = refl

color_low : (g : FrameFormat) → is_alone_format g ≡ false → color_number g < 3
color_low Gray e = absurd (cc)
color_low Rgb e = absurd (cc)
color_low Red e = omega arith
color_low Green e = omega arith
color_low Blue e = omega arith

-- one of three numbers below 3
pick : (k a b c : ℕ) → k < 3 → a < 3 → b < 3 → c < 3 → a ≢ b → a ≢ c → b ≢ c → (k ≡ a) ⊎ ((k ≡ b) ⊎ (k ≡ c))
pick k a b c low la lb lc ab ac bc =
    let G = (k ≡ a) ⊎ ((k ≡ b) ⊎ (k ≡ c)) in
    let P : Bool → Type 0 = λ t. (k == a) ≡ t → G in
    let Q : Bool → Type 0 = λ t. (k == a) ≡ false → (k == b) ≡ t → G in
    elim (k == a) as P [
      | true ↦ λ e. inl (eq_from k a e)
      | false ↦ λ e. (elim (k == b) as Q [
        | true ↦ λ _ h. inr (inl (eq_from k b h))
        | false ↦ λ x y. (let na = not_eq_from k a x in let nb = not_eq_from k b y in inr (inr (omega (arith, low, la, lb, lc, ab, ac, bc, na, nb))))
      ] e refl)
    ] refl

-- what three frames show, the frame that has them side by side shows
pub side_shows : (a b c : Frame) (p : Picture) → Three a b c → ShowsColors a b c p → ShowsAlone (side_by_side c (planes_of (a ∷ b ∷ c ∷ []))) p
side_shows a b c p three shows =
    let planes = planes_of (a ∷ b ∷ c ∷ []) in
    let g = side_by_side c planes in
    let fits = shows.third_shows.fits in
    let height : lines_in c.params.lines ≡ p.height = ap lines_in shows.third_shows.lines_known in
    record {
      last = refl;
      channels = ap (λ (n : ℕ). Some n) (sym shows.channels);
      fits = record {
        shape = (all_alone c.params three.third.pass).shape.line_shape;
        is_picture = fits.is_picture;
        width = fits.width;
        height = fits.height;
        greatest = fits.greatest;
        size = length-side_rows planes c.params.depth (row_bytes (all_colors c.params)) (lines_in c.params.lines) ∙ ap (λ (n : ℕ). n * row_bytes (all_colors c.params)) height;
      };
      samples = λ x y k at. sample x y k at ∙ ap (λ (n : ℕ). frame_sample n g x y k) (sym shows.channels);
    }
  where
    one : (f : Frame) (last : Bool) (channel : ℕ) (x y k : ℕ) → IsPlace p x y k → OneOf (planes_of (a ∷ b ∷ c ∷ [])) c f → ShowsColor a.order f p channel last → k ≡ channel → p.at x y k ≡ frame_sample 3 (side_by_side c (planes_of (a ∷ b ∷ c ∷ []))) x y k
    one f last channel x y k at of shows_one e =
        let color = color_is f.params.format channel shows_one.color in
        let fits = shows.third_shows.fits in
        let height : lines_in c.params.lines ≡ p.height = ap lines_in shows.third_shows.lines_known in
        let place : IsPlace p x y channel = subst (λ (n : ℕ). IsPlace p x y n) e at in
        ap (p.at x y) e
        ∙ (shows_one.samples x y place
        ∙ sym (side_sample (planes_of (a ∷ b ∷ c ∷ [])) c f x y k of (e ∙ color) (omega (arith, at.channel, shows.channels)) (omega (arith, at.column, fits.width)) (omega (arith, at.row, height))))

    low : (f : Frame) (last : Bool) (channel : ℕ) → PassParts f.params → ShowsColor a.order f p channel last → channel < 3
    low f last channel parts shows_one = omega (arith, color_is f.params.format channel shows_one.color, color_low f.params.format parts.format)

    sample : (x y k : ℕ) → IsPlace p x y k → p.at x y k ≡ frame_sample 3 (side_by_side c (planes_of (a ∷ b ∷ c ∷ []))) x y k
    sample x y k at = elim (pick k shows.first shows.second shows.third (omega (arith, at.channel, shows.channels)) (low a false shows.first three.first.pass shows.first_shows) (low b false shows.second three.second.pass shows.second_shows) (low c true shows.third three.third.pass shows.third_shows) shows.each_once.0 shows.each_once.1 shows.each_once.2) [
      | inl e ↦ one a false shows.first x y k at three.first shows.first_shows e
      | inr (inl e) ↦ one b false shows.second x y k at three.second shows.second_shows e
      | inr (inr e) ↦ one c true shows.third x y k at three.third shows.third_shows e
    ]

side_picture_at : (planes : Planes) (c : Frame) → PassParts c.params → AreSmall planes → IsPicture (frame_picture (side_by_side c planes))
side_picture_at planes c parts small =
    let alone = all_alone c.params parts in
    record {
      width_some = alone.shape.width_some;
      width_most = alone.shape.width_most;
      height_some = alone.lines_some;
      height_most = alone.lines_most;
      greatest_some = (greatest_limits c.params.depth).0;
      greatest_most = (greatest_limits c.params.depth).1;
      in_range = λ x y k at. frame_sample_small (side_by_side c planes) 3 x y k (side_small planes c.params.depth (row_bytes (all_colors c.params)) (lines_in c.params.lines) small);
    }

known_has : (o : Option ℕ) (n m : ℕ) → o ≡ Some n → n ≡ m → HasLines o m
known_has o n m e h = subst (λ (o : Option ℕ). HasLines o m) (sym e) h

-- three colors that came whole show a picture
pub colors_show : (a b c : Frame) → Three a b c → ShowsColors a b c (frame_picture (side_by_side c (planes_of (a ∷ b ∷ c ∷ []))))
colors_show a b c three = record {
  first = color_number a.params.format;
  second = color_number b.params.format;
  third = color_number c.params.format;
  each_once = three.apart;
  channels = refl;
  first_shows = one a false three.first refl three.flags.0 three.sizes.0;
  second_shows = one b false three.second (three.second.order ∙ sym three.first.order) three.flags.1 three.sizes.1;
  third_shows = one c true three.third (sym three.first.order) three.flags.2 three.sizes.2;
}
  where
    one : (f : Frame) (last : Bool) → OneOf (planes_of (a ∷ b ∷ c ∷ [])) c f → f.order ≡ a.order → f.params.last_frame ≡ last → length f.payload ≡ lines_in f.params.lines * f.params.bytes_per_line → ShowsColor a.order f (frame_picture (side_by_side c (planes_of (a ∷ b ∷ c ∷ [])))) (color_number f.params.format) last
    one f last of order flag size = record {
      same_order = order;
      last_is = flag;
      color = color_some f.params.format of.pass.format;
      lines_known = of.pass.lines_known ∙ ap (λ (n : ℕ). Some n) of.lines;
      fits = record {
        shape = of.pass.shape.line_shape;
        is_picture = side_picture_at (planes_of (a ∷ b ∷ c ∷ [])) c three.third.pass three.small;
        width = sym of.width;
        height = known_has f.params.lines (lines_in f.params.lines) (lines_in c.params.lines) of.pass.lines_known of.lines;
        greatest = ap greatest_at (sym of.depth);
        size = size ∙ ap (λ (n : ℕ). n * f.params.bytes_per_line) of.lines;
      };
      samples = λ x y at. side_sample (planes_of (a ∷ b ∷ c ∷ [])) c f x y (color_number f.params.format) of refl (color_low f.params.format of.pass.format) at.column at.row;
    }
