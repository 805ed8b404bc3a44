-- What a frame gives for the file is the text that a writer gives for the picture that the frame shows.
use Rattle.std.proofs.Common.{◌≡◌, ℕ, zero, suc, ◌<◌, ◌≤◌, ◌+◌, ◌-◌, ◌*◌, ◌/◌, ◌%◌, ◌^◌, ◌⊎◌, inl, inr, true, false, List, [], ◌∷◌, ◌++◌, get_or, arith, refl, sym, ap, ◌∙◌, append_assoc}
use Rattle.std.specs.Prelude.{nat_lt, if◌then◌else◌, slice_index}
use Rattle.std.proofs.lemmas.Bool.Decides.{nat_tests}
use Rattle.std.proofs.lemmas.List.{append-nil}
use Rattle.std.proofs.lemmas.Nat.{pow-add}
use Rattle.std.proofs.Math.Nat.{div-div-eq-div-mul}
use Rattle.sane_fixed.specs.declared.frame_format.FrameFormat.{FrameFormat}
use Rattle.sane_fixed.specs.declared.frame_format.FrameFormat.TheVariants.{Gray, Rgb, Red, Green, Blue}
use Rattle.netpbm.specs.declared.format.PnmFormat.{PnmFormat}
use Rattle.netpbm.specs.declared.format.PnmFormat.TheVariants.{Pbm, Pgm, Ppm}
use Rattle.netpbm.specs.Pnm.{bit_row}
use Rattle.netpbm.specs.FileText.{concat_up_to, header_text, sample_text, samples_text, row_text, binary, bits_byte}
use Rattle.page_picture.specs.Meaning.{greatest_at}
use Rattle.page_picture.specs.Shows.{Frame, frame_sample, two_bytes, channels_within}
use Rattle.frame_join.specs.AloneFrame.{AloneParts, is_alone, is_alone_format, row_bytes}
use Rattle.frame_join.specs.FrameFile.{header_alone, format_alone, raster_byte, row_front, rows_front, file_front, place_in}
use Rattle.frame_join.proofs.FrameLaws.{alone_parts, place_one, place_eight, place_even, sample_one, sample_eight, sample_sixteen}
use Rattle.frame_join.proofs.StreamLaws.{joined_same}

-- ---- lists one after another

joined_add : (g : ℕ → List ℕ) (n k : ℕ) → concat_up_to g (n + k) ≡ concat_up_to g n ++ concat_up_to (λ i. g (n + i)) k
unfolding concat_up_to
joined_add g n zero = ap (concat_up_to g) (let e : n + 0 ≡ n = omega arith in e) ∙ sym (append-nil (concat_up_to g n))
joined_add g n (suc k) =
    let e : n + suc k ≡ suc (n + k) = omega arith in
    ap (concat_up_to g) e ∙ (ap (λ (l : List ℕ). l ++ g (n + k)) (joined_add g n k) ∙ append_assoc (concat_up_to g n) (concat_up_to (λ i. g (n + i)) k) (g (n + k)))

joined_two : (g : ℕ → List ℕ) → concat_up_to g 2 ≡ g 0 ++ g 1
unfolding concat_up_to
joined_two g = refl

regroup : (g : ℕ → List ℕ) (c w : ℕ) → concat_up_to g (w * c) ≡ concat_up_to (λ x. concat_up_to (λ k. g (x * c + k)) c) w
unfolding concat_up_to
regroup g c zero = ap (concat_up_to g) (let e : 0 * c ≡ 0 = omega arith in e)
regroup g c (suc w) =
    let e : suc w * c ≡ w * c + c = omega arith in
    ap (concat_up_to g) e ∙ (joined_add g (w * c) c ∙ ap (λ (l : List ℕ). l ++ concat_up_to (λ k. g (w * c + k)) c) (regroup g c w))

-- ---- rows of bytes

byte_eight : (f : Frame) (c x y k : ℕ) → f.params.depth ≡ 8 → raster_byte f y (x * c + k) ≡ frame_sample c f x y k
byte_eight f c x y k deep =
    let B = f.params.bytes_per_line in
    let shown : raster_byte f y (x * c + k) ≡ get_or f.payload (y * B + (x * c + k)) 0 = rw (deep, place_eight f.order (x * c + k)) refl in
    let e : y * B + (x * c + k) ≡ y * B + (c * x + k) = omega arith in
    shown ∙ (ap (λ (i : ℕ). get_or f.payload i 0) e ∙ sym (sample_eight c f x y k deep))

row_eight : (f : Frame) (c y : ℕ) → f.params.depth ≡ 8 → channels_within f.params.format ≡ c → row_front f y (row_bytes f.params) ≡ samples_text c 255 f.params.pixels_per_line (λ x k. frame_sample c f x y k)
row_eight f c y deep channels =
    let w = f.params.pixels_per_line in
    let g = λ (j : ℕ). raster_byte f y j ∷ [] in
    let size : row_bytes f.params ≡ w * c = rw (deep, channels) (omega arith) in
    ap (row_front f y) size
    ∙ (regroup g c w
    ∙ joined_same (λ x. concat_up_to (λ k. g (x * c + k)) c) (λ x. concat_up_to (λ k. sample_text 255 (frame_sample c f x y k)) c) w (λ x _. joined_same (λ k. g (x * c + k)) (λ k. sample_text 255 (frame_sample c f x y k)) c (λ k _. ap (λ (b : ℕ). b ∷ []) (byte_eight f c x y k deep))))

-- ---- rows of pairs of bytes

high_low : (a b v : ℕ) → a < 256 → b < 256 → 256 * a + b ≡ v → (a ≡ v / 256) × (b ≡ v % 256)
high_low a b v p q e = (omega (arith, p, q, e), omega (arith, p, q, e))

pair_text : (a b v : ℕ) → a ≡ v / 256 → b ≡ v % 256 → a ∷ b ∷ [] ≡ sample_text 65535 v
pair_text a b v p q = ap (λ (n : ℕ). n ∷ b ∷ []) p ∙ ap (λ (n : ℕ). v / 256 ∷ n ∷ []) q

pair_sixteen : (f : Frame) (c x y k : ℕ) → f.params.depth ≡ 16 → ((i : ℕ) → slice_index f.payload i < 256) → concat_up_to (λ b. raster_byte f y ((x * c + k) * 2 + b) ∷ []) 2 ≡ sample_text 65535 (frame_sample c f x y k)
pair_sixteen f c x y k deep small =
    let B = f.params.bytes_per_line in
    let i = x * c + k in
    let first : i * 2 + 0 ≡ 2 * i = omega arith in
    let second : i * 2 + 1 ≡ 2 * i + 1 = omega arith in
    let high : raster_byte f y (2 * i) ≡ get_or f.payload (y * B + place_in f.order 16 (2 * i)) 0 = rw deep refl in
    let low : raster_byte f y (2 * i + 1) ≡ get_or f.payload (y * B + place_in f.order 16 (2 * i + 1)) 0 = rw deep refl in
    let at : y * B + 2 * i ≡ y * B + 2 * (c * x + k) = omega arith in
    let value = place_even f.order i f.payload (y * B) ∙ (ap (two_bytes f.order f.payload) at ∙ sym (sample_sixteen c f x y k deep)) in
    let parts = high_low (get_or f.payload (y * B + place_in f.order 16 (2 * i)) 0) (get_or f.payload (y * B + place_in f.order 16 (2 * i + 1)) 0) (frame_sample c f x y k) (small (y * B + place_in f.order 16 (2 * i))) (small (y * B + place_in f.order 16 (2 * i + 1))) value in
    joined_two (λ b. raster_byte f y (i * 2 + b) ∷ [])
    ∙ pair_text (raster_byte f y (i * 2 + 0)) (raster_byte f y (i * 2 + 1)) (frame_sample c f x y k) (ap (raster_byte f y) first ∙ (high ∙ parts.0)) (ap (raster_byte f y) second ∙ (low ∙ parts.1))

row_sixteen : (f : Frame) (c y : ℕ) → f.params.depth ≡ 16 → channels_within f.params.format ≡ c → ((i : ℕ) → slice_index f.payload i < 256) → row_front f y (row_bytes f.params) ≡ samples_text c 65535 f.params.pixels_per_line (λ x k. frame_sample c f x y k)
row_sixteen f c y deep channels small =
    let w = f.params.pixels_per_line in
    let g = λ (j : ℕ). raster_byte f y j ∷ [] in
    let pair = λ (i : ℕ). concat_up_to (λ b. g (i * 2 + b)) 2 in
    let size : row_bytes f.params ≡ w * c * 2 = rw (deep, channels) (omega arith) in
    ap (row_front f y) size
    ∙ (regroup g 2 (w * c)
    ∙ (regroup pair c w
    ∙ joined_same (λ x. concat_up_to (λ k. pair (x * c + k)) c) (λ x. concat_up_to (λ k. sample_text 65535 (frame_sample c f x y k)) c) w (λ x _. joined_same (λ k. pair (x * c + k)) (λ k. sample_text 65535 (frame_sample c f x y k)) c (λ k _. pair_sixteen f c x y k deep small))))

-- ---- rows of bits

binary_same : (f g : ℕ → ℕ) (n : ℕ) → ((j : ℕ) → j < n → f j ≡ g j) → binary f n ≡ binary g n
binary_same f g zero all = refl
binary_same f g (suc n) all =
    let front = binary_same f g n (λ j h. all j (omega (arith, h))) in
    let last = all n (omega arith) in
    let step : 2 * binary f n + f n ≡ 2 * binary g n + g n = omega (arith, front, last) in
    step

-- zeros at the end
binary_zeros : (f : ℕ → ℕ) (n m : ℕ) → ((i : ℕ) → i < m → f (n + i) ≡ 0) → binary f (n + m) ≡ binary f n * 2 ^ m
binary_zeros f n zero none =
    let e : n + 0 ≡ n = omega arith in
    let one : binary f n ≡ binary f n * 1 = omega arith in
    ap (binary f) e ∙ one
binary_zeros f n (suc m) none =
    let e : n + suc m ≡ suc (n + m) = omega arith in
    let front = binary_zeros f n m (λ i h. none i (omega (arith, h))) in
    let last = none m (omega arith) in
    let power : 2 ^ suc m ≡ 2 ^ m * 2 = ap (λ (k : ℕ). 2 ^ k) (let s : suc m ≡ m + 1 = omega arith in s) ∙ pow-add 2 m 1 in
    let step : 2 * binary f (n + m) + f (n + m) ≡ binary f n * (2 ^ m * 2) = omega (arith, front, last) in
    ap (binary f) e ∙ (step ∙ ap (λ (k : ℕ). binary f n * k) (sym power))

next_digit : (a b q : ℕ) → a ≡ b → b ≡ q / 2 → 2 * a + q % 2 ≡ q
next_digit a b q e g = omega (arith, e, g)

-- the first digits of a byte
front_digits : (byte n : ℕ) → byte < 256 → n ≤ 8 → binary (λ j. byte / 2 ^ (7 - j) % 2) n ≡ byte / 2 ^ (8 - n)
front_digits byte zero small few = let none : 0 ≡ byte / 256 = omega (arith, small) in none
front_digits byte (suc n) small few =
    let front = front_digits byte n small (omega (arith, few)) in
    let q = byte / 2 ^ (7 - n) in
    let split : 2 ^ (8 - n) ≡ 2 ^ (7 - n) * 2 = ap (λ (k : ℕ). 2 ^ k) (let e : 8 - n ≡ 7 - n + 1 = omega (arith, few) in e) ∙ pow-add 2 (7 - n) 1 in
    let half : byte / 2 ^ (8 - n) ≡ q / 2 = ap (λ (d : ℕ). byte / d) split ∙ sym (div-div-eq-div-mul byte (2 ^ (7 - n)) 2) in
    let same : 8 - suc n ≡ 7 - n = omega arith in
    next_digit (binary (λ j. byte / 2 ^ (7 - j) % 2) n) (byte / 2 ^ (8 - n)) q front half ∙ ap (λ (k : ℕ). byte / 2 ^ k) (sym same)

nat_lt_yes : (a b : ℕ) → a < b → nat_lt a b ≡ true
nat_lt_yes a b h = grind (arith, nat_tests)

nat_lt_no : (a b : ℕ) → b ≤ a → nat_lt a b ≡ false
nat_lt_no a b h = grind (arith, nat_tests)

bit_at : (f : Frame) (y b j : ℕ) → f.params.depth ≡ 1 → j < 8 → frame_sample 1 f (8 * b + j) y 0 ≡ get_or f.payload (y * f.params.bytes_per_line + b) 0 / 2 ^ (7 - j) % 2
bit_at f y b j deep h =
    let whole : (8 * b + j) / 8 ≡ b = omega (arith, h) in
    let rest : (8 * b + j) % 8 ≡ j = omega (arith, h) in
    sample_one 1 f (8 * b + j) y 0 deep
    ∙ (ap (λ (i : ℕ). get_or f.payload (y * f.params.bytes_per_line + i) 0 / 2 ^ (7 - (8 * b + j) % 8) % 2) whole
    ∙ ap (λ (i : ℕ). get_or f.payload (y * f.params.bytes_per_line + b) 0 / 2 ^ (7 - i) % 2) rest)

byte_one : (f : Frame) (y b : ℕ) → f.params.depth ≡ 1 → ((i : ℕ) → slice_index f.payload i < 256) → 8 * b < f.params.pixels_per_line → raster_byte f y b ≡ bits_byte f.params.pixels_per_line (λ x. frame_sample 1 f x y 0) b
byte_one f y b deep small inside =
    let w = f.params.pixels_per_line in
    let byte = get_or f.payload (y * f.params.bytes_per_line + b) 0 in
    let m = 8 * (b + 1) - w in
    let n = 8 - m in
    let F = λ (j : ℕ). if nat_lt (8 * b + j) w then frame_sample 1 f (8 * b + j) y 0 else 0 in
    let shown : raster_byte f y b ≡ byte / 2 ^ m * 2 ^ m = rw (deep, place_one f.order b) refl in
    let split : 8 ≡ n + m = omega (arith, inside) in
    let zeros : (i : ℕ) → i < m → F (n + i) ≡ 0 = λ i h. rw (nat_lt_no (8 * b + (n + i)) w (omega (arith, h))) refl in
    let digits : (j : ℕ) → j < n → F j ≡ byte / 2 ^ (7 - j) % 2 = λ j h. rw (nat_lt_yes (8 * b + j) w (omega (arith, h))) (bit_at f y b j deep (omega (arith, h))) in
    let back : 8 - n ≡ m = omega (arith, inside) in
    shown
    ∙ sym (ap (binary F) split
    ∙ (binary_zeros F n m zeros
    ∙ ap (λ (k : ℕ). k * 2 ^ m) (binary_same F (λ j. byte / 2 ^ (7 - j) % 2) n digits ∙ (front_digits byte n (small (y * f.params.bytes_per_line + b)) (omega arith) ∙ ap (λ (k : ℕ). byte / 2 ^ k) back))))

row_one : (f : Frame) (y : ℕ) → f.params.depth ≡ 1 → ((i : ℕ) → slice_index f.payload i < 256) → row_front f y (row_bytes f.params) ≡ row_text Pbm 1 f.params.pixels_per_line (λ x k. frame_sample 1 f x y k)
row_one f y deep small =
    let w = f.params.pixels_per_line in
    let size : row_bytes f.params ≡ bit_row w = rw deep refl in
    ap (row_front f y) size
    ∙ joined_same (λ b. raster_byte f y b ∷ []) (λ b. bits_byte w (λ x. frame_sample 1 f x y 0) b ∷ []) (bit_row w) (λ b h. ap (λ (k : ℕ). k ∷ []) (byte_one f y b deep small (omega (arith, h))))

-- ---- the whole file

abbrev RowIs : Frame → ℕ → PnmFormat → ℕ → ℕ → Type 0
RowIs f y g m c = row_front f y (row_bytes f.params) ≡ row_text g m f.params.pixels_per_line (λ x k. frame_sample c f x y k)

moved : (f : Frame) (y : ℕ) (g g2 : PnmFormat) (m m2 c c2 : ℕ) → g2 ≡ g → m2 ≡ m → c2 ≡ c → RowIs f y g m c → RowIs f y g2 m2 c2
moved f y g g2 m m2 c c2 a b d r = rw (a, b, d) r

row_is : (f : Frame) (y : ℕ) → AloneParts f.params → ((i : ℕ) → slice_index f.payload i < 256) → row_front f y (row_bytes f.params) ≡ row_text (format_alone f.params.format f.params.depth) (greatest_at f.params.depth) f.params.pixels_per_line (λ x k. frame_sample (channels_within f.params.format) f x y k)
row_is f y parts small = by_depth parts.shape.depths
  where
    by_format : (d : ℕ) (g : FrameFormat) → f.params.format ≡ g → f.params.depth ≡ d → is_alone_format g ≡ true → (d ≡ 8) ⊎ (d ≡ 16) → RowIs f y (format_alone g d) (greatest_at d) (channels_within g)
    by_format d Gray same deep alone (inl e) =
        moved f y Pgm (format_alone Gray d) 255 (greatest_at d) 1 1 (rw e refl) (rw e refl) refl (row_eight f 1 y (deep ∙ e) (rw same refl))
    by_format d Gray same deep alone (inr e) =
        moved f y Pgm (format_alone Gray d) 65535 (greatest_at d) 1 1 (rw e refl) (rw e refl) refl (row_sixteen f 1 y (deep ∙ e) (rw same refl) small)
    by_format d Rgb same deep alone (inl e) =
        moved f y Ppm Ppm 255 (greatest_at d) 3 3 refl (rw e refl) refl (row_eight f 3 y (deep ∙ e) (rw same refl))
    by_format d Rgb same deep alone (inr e) =
        moved f y Ppm Ppm 65535 (greatest_at d) 3 3 refl (rw e refl) refl (row_sixteen f 3 y (deep ∙ e) (rw same refl) small)
    by_format d Red same deep alone e = absurd (cc)
    by_format d Green same deep alone e = absurd (cc)
    by_format d Blue same deep alone e = absurd (cc)

    bits_format : (g : FrameFormat) (d : ℕ) → g ≡ Gray → d ≡ 1 → format_alone g d ≡ Pbm
    bits_format g d a b = rw (a, b) refl

    bits_channels : (g : FrameFormat) → g ≡ Gray → channels_within g ≡ 1
    bits_channels g a = rw a refl

    one_greatest : (d : ℕ) → d ≡ 1 → greatest_at d ≡ 1
    one_greatest d e = rw e refl

    by_depth : (f.params.depth ≡ 1) ⊎ ((f.params.depth ≡ 8) ⊎ (f.params.depth ≡ 16)) → RowIs f y (format_alone f.params.format f.params.depth) (greatest_at f.params.depth) (channels_within f.params.format)
    by_depth (inl deep) =
        moved f y Pbm (format_alone f.params.format f.params.depth) 1 (greatest_at f.params.depth) 1 (channels_within f.params.format) (bits_format f.params.format f.params.depth (parts.shape.bits deep) deep) (one_greatest f.params.depth deep) (bits_channels f.params.format (parts.shape.bits deep)) (row_one f y deep small)
    by_depth (inr deep) = by_format f.params.depth f.params.format refl refl parts.format deep

pub front_by_parts : (f : Frame) (n : ℕ) → AloneParts f.params → ((i : ℕ) → slice_index f.payload i < 256) → file_front f n ≡ header_text (header_alone f.params) ++ concat_up_to (λ y. row_text (header_alone f.params).format (header_alone f.params).maxval (header_alone f.params).width (λ x k. frame_sample (channels_within f.params.format) f x y k)) n
unfolding rows_front
front_by_parts f n parts small =
    ap (λ (l : List ℕ). header_text (header_alone f.params) ++ l)
    (joined_same (λ y. row_front f y (row_bytes f.params)) (λ y. row_text (format_alone f.params.format f.params.depth) (greatest_at f.params.depth) f.params.pixels_per_line (λ x k. frame_sample (channels_within f.params.format) f x y k)) n (λ y _. row_is f y parts small))

pub front_is_text : (f : Frame) (n : ℕ) → is_alone f.params ≡ true → ((i : ℕ) → slice_index f.payload i < 256) → file_front f n ≡ header_text (header_alone f.params) ++ concat_up_to (λ y. row_text (header_alone f.params).format (header_alone f.params).maxval (header_alone f.params).width (λ x k. frame_sample (channels_within f.params.format) f x y k)) n
front_is_text f n alone small = front_by_parts f n (alone_parts f.params alone) small
