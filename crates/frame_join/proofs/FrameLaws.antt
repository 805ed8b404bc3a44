-- The file of a frame denotes the picture that the frame shows.
use Rattle.std.proofs.Common.{◌≡◌, ℕ, ◌<◌, ◌≤◌, ◌+◌, ◌-◌, ◌*◌, ◌/◌, ◌%◌, ◌^◌, inl, inr, true, false, List, [], ◌∷◌, length, get_or, arith, refl, sym, ap, ◌∙◌, subst}
use Rattle.std.specs.Prelude.{nat_le, ◌==◌, ◌&&◌, ◌⊎◌, Option, Some, None}
use Rattle.std.proofs.lemmas.Bool.{and_parts}
use Rattle.std.proofs.lemmas.Bool.Decides.{nat_tests}
use Rattle.std.proofs.lemmas.Nat.{mul-add-lt, pow-add, pow_pos}
use Rattle.std.proofs.Math.Nat.{div-div-eq-div-mul, mul-div_cancel}
use Rattle.netpbm.specs.declared.format.PnmFormat.{PnmFormat}
use Rattle.netpbm.specs.declared.format.PnmFormat.TheVariants.{Pbm, Pgm, Ppm}
use Rattle.netpbm.specs.Picture.{Picture, IsPlace}
use Rattle.netpbm.specs.Pnm.{Denotes, raster_length, sample_in, channels_of, number_in, bit_row}
use Rattle.netpbm.specs.FileText.{header_text}
use Rattle.netpbm.proofs.WritingLaws.{length-joined, joined_at, header_parts}
use Rattle.sane_fixed.specs.declared.frame_format.FrameFormat.{FrameFormat}
use Rattle.sane_fixed.specs.declared.frame_format.FrameFormat.TheVariants.{Gray, Rgb, Red, Green, Blue}
use Rattle.sane_fixed.specs.declared.byte_order.ByteOrder.{ByteOrder}
use Rattle.sane_fixed.specs.declared.byte_order.ByteOrder.TheVariants.{Little, Big}
use Rattle.sane_fixed.specs.declared.params.Params.{Params}
use Rattle.page_picture.specs.Meaning.{greatest_at}
use Rattle.page_picture.specs.Shows.{Frame, ShowsAlone, row_size, frame_sample, two_bytes, channels_within, channels_alone, HasLines, IsDepth}
use Rattle.frame_join.specs.AloneFrame.{is_depth, is_shaped, ShapeParts, AloneParts, row_bytes, lines_in, is_alone, is_alone_format, is_known}
use Rattle.frame_join.specs.FrameFile.{header_alone, format_alone, raster_byte, row_front, rows_front, file_front, place_in}
use Rattle.page_picture.specs.Extent.{is_side}

-- ---- what the test on parameters says

depth_parts : (f : FrameFormat) (d : ℕ) → is_depth f d ≡ true → (d ≡ 1 → f ≡ Gray) × ((d ≡ 1) ⊎ ((d ≡ 8) ⊎ (d ≡ 16)))
depth_parts Gray d b = ((λ _. refl), grind (arith, nat_tests))
depth_parts Rgb d b = ((λ e. absurd (grind (arith, nat_tests))), grind (arith, nat_tests))
depth_parts Red d b = ((λ e. absurd (grind (arith, nat_tests))), grind (arith, nat_tests))
depth_parts Green d b = ((λ e. absurd (grind (arith, nat_tests))), grind (arith, nat_tests))
depth_parts Blue d b = ((λ e. absurd (grind (arith, nat_tests))), grind (arith, nat_tests))

depth_is : (f : FrameFormat) (d : ℕ) → is_depth f d ≡ true → IsDepth f d
depth_is Gray d e = grind (arith, nat_tests)
depth_is Rgb d e = grind (arith, nat_tests)
depth_is Red d e = grind (arith, nat_tests)
depth_is Green d e = grind (arith, nat_tests)
depth_is Blue d e = grind (arith, nat_tests)

pub known_parts : (o : Option ℕ) → is_known o ≡ true → (o ≡ Some (lines_in o)) × (1 ≤ lines_in o) × (lines_in o ≤ 65536)
known_parts None h = absurd (cc)
known_parts (Some n) h =
    let tests = and_parts (nat_le 1 n) (nat_le n 65536) h in
    (refl, grind (arith, nat_tests), grind (arith, nat_tests))

row_positive : (f : FrameFormat) (w d : ℕ) → 1 ≤ w → (d ≡ 1) ⊎ ((d ≡ 8) ⊎ (d ≡ 16)) → 1 ≤ row_size f w d
row_positive f w d some (inl e) = rw e (omega (arith, some))
row_positive Gray w d some (inr (inl e)) = rw e (omega (arith, some))
row_positive Rgb w d some (inr (inl e)) = rw e (omega (arith, some))
row_positive Red w d some (inr (inl e)) = rw e (omega (arith, some))
row_positive Green w d some (inr (inl e)) = rw e (omega (arith, some))
row_positive Blue w d some (inr (inl e)) = rw e (omega (arith, some))
row_positive Gray w d some (inr (inr e)) = rw e (omega (arith, some))
row_positive Rgb w d some (inr (inr e)) = rw e (omega (arith, some))
row_positive Red w d some (inr (inr e)) = rw e (omega (arith, some))
row_positive Green w d some (inr (inr e)) = rw e (omega (arith, some))
row_positive Blue w d some (inr (inr e)) = rw e (omega (arith, some))

pub shape_parts : (p : Params) → is_shaped p ≡ true → ShapeParts p
shape_parts p h =
    let r = row_size p.format p.pixels_per_line p.depth in
    let four = and_parts (is_depth p.format p.depth) (is_side p.pixels_per_line && (nat_le r p.bytes_per_line && nat_le p.bytes_per_line 1048576)) h in
    let five = and_parts (is_side p.pixels_per_line) (nat_le r p.bytes_per_line && nat_le p.bytes_per_line 1048576) four.1 in
    let six = and_parts (nat_le r p.bytes_per_line) (nat_le p.bytes_per_line 1048576) five.1 in
    let seven = and_parts (nat_le 1 p.pixels_per_line) (nat_le p.pixels_per_line 65536) five.0 in
    let deep = depth_parts p.format p.depth four.0 in
    let some : 1 ≤ p.pixels_per_line = grind (arith, nat_tests) in
    let wide : p.pixels_per_line ≤ 65536 = grind (arith, nat_tests) in
    let fits : r ≤ p.bytes_per_line = grind (arith, nat_tests) in
    let long : p.bytes_per_line ≤ 1048576 = grind (arith, nat_tests) in
    record {
      depth = omega (arith, deep.1);
      bits = deep.0;
      depths = deep.1;
      line_shape = record {
        depth = depth_is p.format p.depth four.0;
        width_some = some;
        width_most = wide;
        enough = fits;
        line_most = long;
      };
      width_some = some;
      width_most = wide;
      row_some = row_positive p.format p.pixels_per_line p.depth some deep.1;
      fits = fits;
      line_most = long;
    }

pub alone_parts : (p : Params) → is_alone p ≡ true → AloneParts p
alone_parts p h =
    let one = and_parts (is_alone_format p.format) (p.last_frame && (is_known p.lines && is_shaped p)) h in
    let two = and_parts p.last_frame (is_known p.lines && is_shaped p) one.1 in
    let three = and_parts (is_known p.lines) (is_shaped p) two.1 in
    let lines = known_parts p.lines three.0 in
    record {
      shape = shape_parts p three.1;
      format = one.0;
      last = two.0;
      lines_known = lines.0;
      lines_some = lines.1;
      lines_most = lines.2;
    }

-- ---- bytes of the raster

pub length-row_front : (f : Frame) (y n : ℕ) → length (row_front f y n) ≡ n
length-row_front f y n = omega (arith, length-joined (λ j. raster_byte f y j ∷ []) 1 n (λ _. refl))

pub length-rows_front : (f : Frame) (n : ℕ) → length (rows_front f n) ≡ n * row_bytes f.params
unfolding rows_front
length-rows_front f n = length-joined (λ y. row_front f y (row_bytes f.params)) (row_bytes f.params) n (λ y. length-row_front f y (row_bytes f.params))

pub raster_at : (f : Frame) (n y j i : ℕ) → y < n → j < row_bytes f.params → i ≡ y * row_bytes f.params + j → get_or (rows_front f n) i 0 ≡ raster_byte f y j
unfolding rows_front
raster_at f n y j i row column at =
    ap (λ (i : ℕ). get_or (rows_front f n) i 0) at
    ∙ (joined_at (λ y. row_front f y (row_bytes f.params)) (row_bytes f.params) n y j (λ y. length-row_front f y (row_bytes f.params)) row column
    ∙ (ap (λ (i : ℕ). get_or (row_front f y (row_bytes f.params)) i 0) (let one : j ≡ j * 1 + 0 = omega arith in one)
    ∙ joined_at (λ j. raster_byte f y j ∷ []) 1 (row_bytes f.params) j 0 (λ _. refl) column (omega arith)))

pub place_eight : (o : ByteOrder) (j : ℕ) → place_in o 8 j ≡ j
place_eight Big j = refl
place_eight Little j = refl

pub place_one : (o : ByteOrder) (j : ℕ) → place_in o 1 j ≡ j
place_one Big j = refl
place_one Little j = refl

eight : (f : Frame) (n c x y k : ℕ) → f.params.depth ≡ 8 → channels_within f.params.format ≡ c → x < f.params.pixels_per_line → y < n → k < c → number_in 255 (rows_front f n) ((y * f.params.pixels_per_line + x) * c + k) ≡ get_or f.payload (y * f.params.bytes_per_line + (c * x + k)) 0
eight f n c x y k deep channels column row channel =
    let w = f.params.pixels_per_line in
    let size : row_bytes f.params ≡ w * c = rw (deep, channels) (omega arith) in
    let inside : x * c + k < row_bytes f.params = rw size (omega (arith, mul-add-lt x c k w column channel)) in
    let place : (y * w + x) * c + k ≡ y * row_bytes f.params + (x * c + k) = rw size (omega arith) in
    raster_at f n y (x * c + k) ((y * w + x) * c + k) row inside place
    ∙ (let B = f.params.bytes_per_line in
    let shown : raster_byte f y (x * c + k) ≡ get_or f.payload (y * B + (x * c + k)) 0 = rw (deep, place_eight f.order (x * c + k)) refl in
    shown ∙ ap (λ (i : ℕ). get_or f.payload i 0) (let e : y * B + (x * c + k) ≡ y * B + (c * x + k) = omega arith in e))

pub place_even : (o : ByteOrder) (i : ℕ) (b : List ℕ) (q : ℕ) → 256 * get_or b (q + place_in o 16 (2 * i)) 0 + get_or b (q + place_in o 16 (2 * i + 1)) 0 ≡ two_bytes o b (q + 2 * i)
place_even Big i b q =
    let e : q + 2 * i + 1 ≡ q + (2 * i + 1) = omega arith in
    rw e refl
place_even Little i b q =
    let even : (2 * i % 2 == 0) ≡ true = rw (let z : 2 * i % 2 ≡ 0 = omega arith in z) refl in
    let odd : ((2 * i + 1) % 2 == 0) ≡ false = rw (let z : (2 * i + 1) % 2 ≡ 1 = omega arith in z) refl in
    let back : 2 * i + 1 - 1 ≡ 2 * i = omega arith in
    let on : q + (2 * i + 1) ≡ q + 2 * i + 1 = omega arith in
    rw (even, odd, back, on) (omega arith)

sixteen : (f : Frame) (n c x y k : ℕ) → f.params.depth ≡ 16 → channels_within f.params.format ≡ c → x < f.params.pixels_per_line → y < n → k < c → number_in 65535 (rows_front f n) ((y * f.params.pixels_per_line + x) * c + k) ≡ two_bytes f.order f.payload (y * f.params.bytes_per_line + 2 * (c * x + k))
sixteen f n c x y k deep channels column row channel =
    let w = f.params.pixels_per_line in
    let B = f.params.bytes_per_line in
    let i = x * c + k in
    let size : row_bytes f.params ≡ w * c * 2 = rw (deep, channels) (omega arith) in
    let below : i < w * c = omega (arith, mul-add-lt x c k w column channel) in
    let first : 2 * i < row_bytes f.params = rw size (omega (arith, below)) in
    let second : 2 * i + 1 < row_bytes f.params = rw size (omega (arith, below)) in
    let place : 2 * ((y * w + x) * c + k) ≡ y * row_bytes f.params + 2 * i = rw size (omega arith) in
    let after : 2 * ((y * w + x) * c + k) + 1 ≡ y * row_bytes f.params + (2 * i + 1) = rw size (omega arith) in
    let high = raster_at f n y (2 * i) (2 * ((y * w + x) * c + k)) row first place in
    let low = raster_at f n y (2 * i + 1) (2 * ((y * w + x) * c + k) + 1) row second after in
    let shown_high : raster_byte f y (2 * i) ≡ get_or f.payload (y * B + place_in f.order 16 (2 * i)) 0 = rw deep refl in
    let shown_low : raster_byte f y (2 * i + 1) ≡ get_or f.payload (y * B + place_in f.order 16 (2 * i + 1)) 0 = rw deep refl in
    let at : y * B + 2 * i ≡ y * B + 2 * (c * x + k) = omega arith in
    rw (high, low, shown_high, shown_low) (place_even f.order i f.payload (y * B) ∙ ap (two_bytes f.order f.payload) at)

-- a bit that stands above those that are cut off
kept_bit : (b m n : ℕ) → m ≤ n → b / 2 ^ m * 2 ^ m / 2 ^ n % 2 ≡ b / 2 ^ n % 2
kept_bit b m n le =
    let split : 2 ^ n ≡ 2 ^ m * 2 ^ (n - m) = ap (λ (k : ℕ). 2 ^ k) (let e : n ≡ m + (n - m) = omega (arith, le) in e) ∙ pow-add 2 m (n - m) in
    let one : b / 2 ^ m * 2 ^ m / (2 ^ m * 2 ^ (n - m)) ≡ b / (2 ^ m * 2 ^ (n - m)) =
    sym (div-div-eq-div-mul (b / 2 ^ m * 2 ^ m) (2 ^ m) (2 ^ (n - m)))
    ∙ (ap (λ (a : ℕ). a / 2 ^ (n - m)) (mul-div_cancel (b / 2 ^ m) (pow_pos m))
    ∙ div-div-eq-div-mul b (2 ^ m) (2 ^ (n - m))) in
    rw split (ap (λ (a : ℕ). a % 2) one)

bit : (f : Frame) (n x y : ℕ) → f.params.depth ≡ 1 → x < f.params.pixels_per_line → y < n → get_or (rows_front f n) (y * bit_row f.params.pixels_per_line + x / 8) 0 / 2 ^ (7 - x % 8) % 2 ≡ get_or f.payload (y * f.params.bytes_per_line + x / 8) 0 / 2 ^ (7 - x % 8) % 2
bit f n x y deep column row =
    let w = f.params.pixels_per_line in
    let B = f.params.bytes_per_line in
    let size : row_bytes f.params ≡ bit_row w = rw deep refl in
    let inside : x / 8 < row_bytes f.params = rw size (omega arith) in
    let place : y * bit_row w + x / 8 ≡ y * row_bytes f.params + x / 8 = rw size refl in
    let there = raster_at f n y (x / 8) (y * bit_row w + x / 8) row inside place in
    let b = get_or f.payload (y * B + x / 8) 0 in
    let m = 8 * (x / 8 + 1) - w in
    let shown : raster_byte f y (x / 8) ≡ b / 2 ^ m * 2 ^ m = rw (deep, place_one f.order (x / 8)) refl in
    rw (there, shown) (kept_bit b m (7 - x % 8) (omega arith))

-- ---- the whole file

pub sample_one : (c : ℕ) (f : Frame) (x y k : ℕ) → f.params.depth ≡ 1 → frame_sample c f x y k ≡ get_or f.payload (y * f.params.bytes_per_line + x / 8) 0 / 2 ^ (7 - x % 8) % 2
sample_one c f x y k deep = rw deep refl

pub sample_eight : (c : ℕ) (f : Frame) (x y k : ℕ) → f.params.depth ≡ 8 → frame_sample c f x y k ≡ get_or f.payload (y * f.params.bytes_per_line + (c * x + k)) 0
sample_eight c f x y k deep = rw deep refl

pub sample_sixteen : (c : ℕ) (f : Frame) (x y k : ℕ) → f.params.depth ≡ 16 → frame_sample c f x y k ≡ two_bytes f.order f.payload (y * f.params.bytes_per_line + 2 * (c * x + k))
sample_sixteen c f x y k deep = rw deep refl

pub record RasterOf (f : Frame) (n : ℕ) (g : PnmFormat) (m c : ℕ) : Type 0 where
  pub channels : channels_of g ≡ c
  pub bits : g ≡ Pbm → m ≡ 1
  pub some : 1 ≤ m
  pub most : m ≤ 65535
  pub size : length (rows_front f n) ≡ raster_length g f.params.pixels_per_line n m
  pub samples : (x y k : ℕ) → x < f.params.pixels_per_line → y < n → k < c → sample_in g f.params.pixels_per_line m (rows_front f n) x y k ≡ frame_sample c f x y k

raster_one : (f : Frame) (n : ℕ) → f.params.depth ≡ 1 → RasterOf f n Pbm 1 1
raster_one f n deep = record {
  channels = refl;
  bits = λ _. refl;
  some = omega arith;
  most = omega arith;
  size = length-rows_front f n ∙ (let size : row_bytes f.params ≡ bit_row f.params.pixels_per_line = rw deep refl in rw size (omega arith));
  samples = λ x y k a b _. bit f n x y deep a b ∙ sym (sample_one 1 f x y k deep);
}

raster_eight : (f : Frame) (n : ℕ) → f.params.depth ≡ 8 → f.params.format ≡ Gray → RasterOf f n Pgm 255 1
raster_eight f n deep same = record {
  channels = refl;
  bits = λ e. absurd (cc);
  some = omega arith;
  most = omega arith;
  size = length-rows_front f n ∙ (let size : row_bytes f.params ≡ f.params.pixels_per_line = rw (deep, same) (omega arith) in rw size (omega arith));
  samples = λ x y k a b c.
      let place : y * f.params.pixels_per_line + x ≡ (y * f.params.pixels_per_line + x) * 1 + k = omega arith in
      ap (number_in 255 (rows_front f n)) place ∙ (eight f n 1 x y k deep (rw same refl) a b c ∙ sym (sample_eight 1 f x y k deep));
}

raster_gray : (f : Frame) (n : ℕ) → f.params.depth ≡ 16 → f.params.format ≡ Gray → RasterOf f n Pgm 65535 1
raster_gray f n deep same = record {
  channels = refl;
  bits = λ e. absurd (cc);
  some = omega arith;
  most = omega arith;
  size = length-rows_front f n ∙ (let size : row_bytes f.params ≡ f.params.pixels_per_line * 2 = rw (deep, same) (omega arith) in rw size (omega arith));
  samples = λ x y k a b c.
      let place : y * f.params.pixels_per_line + x ≡ (y * f.params.pixels_per_line + x) * 1 + k = omega arith in
      ap (number_in 65535 (rows_front f n)) place ∙ (sixteen f n 1 x y k deep (rw same refl) a b c ∙ sym (sample_sixteen 1 f x y k deep));
}

raster_color_eight : (f : Frame) (n : ℕ) → f.params.depth ≡ 8 → f.params.format ≡ Rgb → RasterOf f n Ppm 255 3
raster_color_eight f n deep same = record {
  channels = refl;
  bits = λ e. absurd (cc);
  some = omega arith;
  most = omega arith;
  size = length-rows_front f n ∙ (let size : row_bytes f.params ≡ f.params.pixels_per_line * 3 = rw (deep, same) (omega arith) in rw size (omega arith));
  samples = λ x y k a b c. eight f n 3 x y k deep (rw same refl) a b c ∙ sym (sample_eight 3 f x y k deep);
}

raster_color : (f : Frame) (n : ℕ) → f.params.depth ≡ 16 → f.params.format ≡ Rgb → RasterOf f n Ppm 65535 3
raster_color f n deep same = record {
  channels = refl;
  bits = λ e. absurd (cc);
  some = omega arith;
  most = omega arith;
  size = length-rows_front f n ∙ (let size : row_bytes f.params ≡ f.params.pixels_per_line * 6 = rw (deep, same) (omega arith) in rw size (omega arith));
  samples = λ x y k a b c. sixteen f n 3 x y k deep (rw same refl) a b c ∙ sym (sample_sixteen 3 f x y k deep);
}

moved : (f : Frame) (n : ℕ) (g g2 : PnmFormat) (m m2 c c2 : ℕ) → g2 ≡ g → m2 ≡ m → c2 ≡ c → RasterOf f n g m c → RasterOf f n g2 m2 c2
moved f n g g2 m m2 c c2 a b d r = rw (a, b, d) r

some_same : (a b : ℕ) → Some a ≡ Some b → b ≡ a
some_same a b e = cc

by_format : (f : Frame) (n c d : ℕ) (g : FrameFormat) → f.params.format ≡ g → f.params.depth ≡ d → is_alone_format g ≡ true → channels_alone g ≡ Some c → (d ≡ 8) ⊎ (d ≡ 16) → RasterOf f n (format_alone g d) (greatest_at d) c
by_format f n c d Gray same deep alone channels (inl e) =
    moved f n Pgm (format_alone Gray d) 255 (greatest_at d) 1 c (rw e refl) (rw e refl) (some_same 1 c channels) (raster_eight f n (deep ∙ e) same)
by_format f n c d Gray same deep alone channels (inr e) =
    moved f n Pgm (format_alone Gray d) 65535 (greatest_at d) 1 c (rw e refl) (rw e refl) (some_same 1 c channels) (raster_gray f n (deep ∙ e) same)
by_format f n c d Rgb same deep alone channels (inl e) =
    moved f n Ppm Ppm 255 (greatest_at d) 3 c refl (rw e refl) (some_same 3 c channels) (raster_color_eight f n (deep ∙ e) same)
by_format f n c d Rgb same deep alone channels (inr e) =
    moved f n Ppm Ppm 65535 (greatest_at d) 3 c refl (rw e refl) (some_same 3 c channels) (raster_color f n (deep ∙ e) same)
by_format f n c d Red same deep alone channels e = absurd (cc)
by_format f n c d Green same deep alone channels e = absurd (cc)
by_format f n c d Blue same deep alone channels e = absurd (cc)

bits_format : (g : FrameFormat) (d : ℕ) → g ≡ Gray → d ≡ 1 → format_alone g d ≡ Pbm
bits_format g d a b = rw (a, b) refl

bits_channels : (g : FrameFormat) (c : ℕ) → g ≡ Gray → channels_alone g ≡ Some c → c ≡ 1
bits_channels g c a e = some_same 1 c (rw a at e)

one_greatest : (d : ℕ) → d ≡ 1 → greatest_at d ≡ 1
one_greatest d e = rw e refl

pub raster_of : (f : Frame) (n c : ℕ) → AloneParts f.params → channels_alone f.params.format ≡ Some c → RasterOf f n (format_alone f.params.format f.params.depth) (greatest_at f.params.depth) c
raster_of f n c parts channels = by_depth parts.shape.depths
  where
    by_depth : (f.params.depth ≡ 1) ⊎ ((f.params.depth ≡ 8) ⊎ (f.params.depth ≡ 16)) → RasterOf f n (format_alone f.params.format f.params.depth) (greatest_at f.params.depth) c
    by_depth (inl deep) =
        moved f n Pbm (format_alone f.params.format f.params.depth) 1 (greatest_at f.params.depth) 1 c (bits_format f.params.format f.params.depth (parts.shape.bits deep) deep) (one_greatest f.params.depth deep) (bits_channels f.params.format c (parts.shape.bits deep) channels) (raster_one f n deep)
    by_depth (inr deep) = by_format f n c f.params.depth f.params.format refl refl parts.format channels deep

-- the file of a frame denotes a picture that has the frame's samples
pub denotes_front : (f : Frame) (p : Picture) → AloneParts f.params → channels_alone f.params.format ≡ Some p.channels → p.width ≡ f.params.pixels_per_line → p.height ≡ lines_in f.params.lines → p.greatest ≡ greatest_at f.params.depth → ((x y k : ℕ) → IsPlace p x y k → p.at x y k ≡ frame_sample p.channels f x y k) → ((x y k : ℕ) → IsPlace p x y k → p.at x y k ≤ p.greatest) → Denotes (file_front f (lines_in f.params.lines)) p
denotes_front f p parts channels width height greatest samples in_range =
    let h = header_alone f.params in
    let r = raster_of f (lines_in f.params.lines) p.channels parts channels in
    record {
      header = h;
      raster = rows_front f (lines_in f.params.lines);
      begins = record {
        head = header_text h;
        text_is = refl;
        is_header = header_parts h.format h.width h.height h.maxval parts.shape.width_most parts.lines_most parts.shape.width_some parts.lines_some r.some r.most r.bits;
      };
      shows = record {
        size = r.size;
        width = width;
        height = height;
        channels = sym r.channels;
        greatest = greatest;
        samples = λ x y k at. samples x y k at ∙ sym (r.samples x y k (subst (λ (n : ℕ). x < n) width at.column) (subst (λ (n : ℕ). y < n) height at.row) at.channel);
        in_range = in_range;
      };
    }

pub known_height : (o : Option ℕ) (n : ℕ) → o ≡ Some (lines_in o) → HasLines o n → n ≡ lines_in o
known_height None n e h = absurd (cc)
known_height (Some lines) n e h = sym h

-- what the frame shows, the file denotes
pub denotes_shown : (f : Frame) (p : Picture) → AloneParts f.params → ShowsAlone f p → Denotes (file_front f (lines_in f.params.lines)) p
denotes_shown f p parts shows = denotes_front f p parts shows.channels shows.fits.width (known_height f.params.lines p.height parts.lines_known shows.fits.height) shows.fits.greatest shows.samples shows.fits.is_picture.in_range
