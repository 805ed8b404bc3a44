-- What the writer gives denotes the picture.
use Rattle.std.proofs.Common.{◌≡◌, ℕ, zero, suc, ◌<◌, ◌≤◌, ◌+◌, ◌-◌, ◌*◌, ◌/◌, ◌%◌, ◌^◌, inl, inr, Bool, true, false, List, [], ◌∷◌, ◌++◌, length, get_or, arith, refl, sym, ap, ◌∙◌, subst, append_assoc, add-one, length-append, rules}
use Rattle.std.specs.Prelude.{codes, decimal, nat_lt, if◌then◌else◌}
use Rattle.std.proofs.lemmas.Bool.{cases_lt}
use Rattle.std.proofs.lemmas.Bool.Decides.{nat_tests}
use Rattle.std.proofs.lemmas.List.{append-nil, get_or_append_left, get_or-append-add}
use Rattle.std.proofs.lemmas.Nat.{mul-add-lt}
use Rattle.std.proofs.lemmas.Fmt.{decimal_is_IsNumeral, length-decimal-le}
use Rattle.netpbm.specs.declared.format.PnmFormat.{PnmFormat}
use Rattle.netpbm.specs.declared.format.PnmFormat.TheVariants.{Pbm, Pgm, Ppm}
use Rattle.netpbm.specs.declared.format.Header.{Header}
use Rattle.netpbm.specs.Picture.{Picture, IsPlace}
use Rattle.netpbm.specs.Pnm.{is_white, NoneEnds, nothing, comment, IsNumber, IsField, IsHeader, Denotes, raster_length, sample_in, channels_of, number_in, sample_bytes, bit_row}
use Rattle.netpbm.specs.FileText.{concat_up_to, header_text, sample_text, samples_text, row_text, raster_text, file_text, binary, bits_byte, Suits}

-- ---- lists one after another

pub joined-zero : (f : ℕ → List ℕ) → concat_up_to f 0 ≡ []
unfolding concat_up_to
joined-zero f = refl

pub joined-more : (f : ℕ → List ℕ) (n : ℕ) → concat_up_to f (n + 1) ≡ concat_up_to f n ++ f n
unfolding concat_up_to
joined-more f n = rw add-one refl

-- before a loop that adds the lists one after another
pub joined_none : (f : ℕ → List ℕ) (before : List ℕ) → before ≡ before ++ concat_up_to f 0
joined_none f before = sym (ap (λ l. before ++ l) (joined-zero f) ∙ append-nil before)

-- a loop that adds the lists one after another
pub joined_step : (f : ℕ → List ℕ) (before now after : List ℕ) (n : ℕ) → now ≡ before ++ concat_up_to f n → after ≡ now ++ f n → after ≡ before ++ concat_up_to f (n + 1)
joined_step f before now after n e s =
    s ∙ (ap (λ l. l ++ f n) e ∙ (append_assoc before (concat_up_to f n) (f n) ∙ ap (λ l. before ++ l) (sym (joined-more f n))))

pub length-joined : (f : ℕ → List ℕ) (size n : ℕ) → ((i : ℕ) → length (f i) ≡ size) → length (concat_up_to f n) ≡ n * size
unfolding concat_up_to
length-joined f size zero all = omega arith
length-joined f size (suc n) all = omega (arith, length-append (concat_up_to f n) (f n), all n, length-joined f size n all)

pub joined_at : (f : ℕ → List ℕ) (size n i j : ℕ) → ((i : ℕ) → length (f i) ≡ size) → i < n → j < size → get_or (concat_up_to f n) (i * size + j) 0 ≡ get_or (f i) j 0
unfolding concat_up_to
joined_at f size zero i j all a b = absurd (omega arith)
joined_at f size (suc n) i j all a b =
    let front = length-joined f size n all in
    elim (cases_lt i n) as (λ _. get_or (concat_up_to f n ++ f n) (i * size + j) 0 ≡ get_or (f i) j 0) [
      | inl less ↦ get_or_append_left (concat_up_to f n) (f n) 0 (i * size + j) (omega (arith, mul-add-lt i size j n less b)) ∙ joined_at f size n i j all less b
      | inr more ↦
          let same : i ≡ n = omega arith in
          let place : i * size + j ≡ length (concat_up_to f n) + j = omega (arith, ap (λ (k : ℕ). k * size) same) in
          ap (λ (k : ℕ). get_or (concat_up_to f n ++ f n) k 0) place ∙ (get_or-append-add (concat_up_to f n) (f n) j 0 ∙ ap (λ (k : ℕ). get_or (f k) j 0) (sym same))
    ]

-- ---- the header

pub decimal_number : (n : ℕ) → n ≤ 65536 → IsNumber (decimal n) n
decimal_number n small =
    let wide : n < 2 ^ 64 = omega arith in
    let is = decimal_is_IsNumeral n wide in
    record { all_digits = is.0.1; some = is.0.0; most = length-decimal-le 10 n (omega arith) (omega arith) wide; value = sym is.1 }

pub plain_field : (b n : ℕ) → is_white b ≡ true → n ≤ 65536 → IsField (b ∷ decimal n) n
plain_field b n w small = record { gap = b ∷ []; number = decimal n; bytes_are = refl; is_gap = record { first = b; filler = []; bytes_are = refl; is_first = w; is_filler = nothing }; is_number = decimal_number n small }

-- no byte of the writer's comment ends it
comment_inside : NoneEnds (codes " SANE data follows")
comment_inside = search rules

pub comment_field : (n : ℕ) → n ≤ 65536 → IsField (10 ∷ codes "# SANE data follows" ++ (10 ∷ decimal n)) n
comment_field n small = record { gap = 10 ∷ codes "# SANE data follows" ++ (10 ∷ []); number = decimal n; bytes_are = refl; is_gap = record { first = 10; filler = codes "# SANE data follows" ++ (10 ∷ []); bytes_are = refl; is_first = refl; is_filler = comment (codes " SANE data follows") 10 [] comment_inside refl nothing }; is_number = decimal_number n small }

pub header_parts : (f : PnmFormat) (w h m : ℕ) → w ≤ 65536 → h ≤ 65536 → 1 ≤ w → 1 ≤ h → 1 ≤ m → m ≤ 65535 → (f ≡ Pbm → m ≡ 1) → IsHeader (header_text (record { format = f; width = w; height = h; maxval = m })) (record { format = f; width = w; height = h; maxval = m })
header_parts Pbm w h m a b c d e g one = record {
  width_field = 10 ∷ codes "# SANE data follows" ++ (10 ∷ decimal w);
  height_field = 32 ∷ decimal h;
  maxval_field = [];
  last = 10;
  bytes = refl;
  is_width = comment_field w a;
  is_height = plain_field 32 h refl b;
  is_maxval = (refl, one refl);
  is_last = refl;
  width_some = c;
  width_most = a;
  height_some = d;
  height_most = b;
}
header_parts Pgm w h m a b c d e g one = record {
  width_field = 10 ∷ codes "# SANE data follows" ++ (10 ∷ decimal w);
  height_field = 32 ∷ decimal h;
  maxval_field = 10 ∷ decimal m;
  last = 10;
  bytes = refl;
  is_width = comment_field w a;
  is_height = plain_field 32 h refl b;
  is_maxval = (plain_field 10 m refl (omega arith), e, g);
  is_last = refl;
  width_some = c;
  width_most = a;
  height_some = d;
  height_most = b;
}
header_parts Ppm w h m a b c d e g one = record {
  width_field = 10 ∷ codes "# SANE data follows" ++ (10 ∷ decimal w);
  height_field = 32 ∷ decimal h;
  maxval_field = 10 ∷ decimal m;
  last = 10;
  bytes = refl;
  is_width = comment_field w a;
  is_height = plain_field 32 h refl b;
  is_maxval = (plain_field 10 m refl (omega arith), e, g);
  is_last = refl;
  width_some = c;
  width_most = a;
  height_some = d;
  height_most = b;
}

-- ---- samples of one or two bytes

length-sample_text : (m v : ℕ) → length (sample_text m v) ≡ sample_bytes m
length-sample_text m v =
    let P : Bool → Type 0 = λ t. length (if t then v ∷ [] else v / 256 ∷ v % 256 ∷ []) ≡ (if t then 1 else 2) in
    elim (nat_lt m 256) as P [ true ↦ refl | false ↦ refl ]

-- a number whose bytes stand in their place
number_in_is : (m : ℕ) (raster : List ℕ) (i v : ℕ) → ((j : ℕ) → j < sample_bytes m → get_or raster (i * sample_bytes m + j) 0 ≡ get_or (sample_text m v) j 0) → number_in m raster i ≡ v
number_in_is m raster i v each =
    let P : Bool → Type 0 = λ t. ((j : ℕ) → j < (if t then 1 else 2) → get_or raster (i * (if t then 1 else 2) + j) 0 ≡ get_or (if t then v ∷ [] else v / 256 ∷ v % 256 ∷ []) j 0) → (if t then get_or raster i 0 else 256 * get_or raster (2 * i) 0 + get_or raster (2 * i + 1) 0) ≡ v in
    elim (nat_lt m 256) as P [
      | true ↦ λ e. ap (λ (k : ℕ). get_or raster k 0) (let p : i ≡ i * 1 + 0 = omega arith in p) ∙ e 0 (omega arith)
      | false ↦ λ e.
          let high : get_or raster (2 * i) 0 ≡ v / 256 = ap (λ (k : ℕ). get_or raster k 0) (let p : 2 * i ≡ i * 2 + 0 = omega arith in p) ∙ e 0 (omega arith) in
          let low : get_or raster (2 * i + 1) 0 ≡ v % 256 = ap (λ (k : ℕ). get_or raster k 0) (let p : 2 * i + 1 ≡ i * 2 + 1 = omega arith in p) ∙ e 1 (omega arith) in
          omega arith
    ] each

length-pixel : (c m : ℕ) (at : ℕ → ℕ) → length (concat_up_to (λ k. sample_text m (at k)) c) ≡ c * sample_bytes m
length-pixel c m at = length-joined (λ k. sample_text m (at k)) (sample_bytes m) c (λ k. length-sample_text m (at k))

length-row : (c m w : ℕ) (at : ℕ → ℕ → ℕ) → length (samples_text c m w at) ≡ w * (c * sample_bytes m)
length-row c m w at = length-joined (λ x. concat_up_to (λ k. sample_text m (at x k)) c) (c * sample_bytes m) w (λ x. length-pixel c m (at x))

length-rows : (c m w h : ℕ) (at : ℕ → ℕ → ℕ → ℕ) → length (concat_up_to (λ y. samples_text c m w (λ x k. at x y k)) h) ≡ h * (w * (c * sample_bytes m))
length-rows c m w h at = length-joined (λ y. samples_text c m w (λ x k. at x y k)) (w * (c * sample_bytes m)) h (λ y. length-row c m w (λ x k. at x y k))

-- the byte j of the sample at x, y, k
byte_at : (c m w h : ℕ) (at : ℕ → ℕ → ℕ → ℕ) (x y k j : ℕ) → x < w → y < h → k < c → j < sample_bytes m → get_or (concat_up_to (λ y. samples_text c m w (λ x k. at x y k)) h) (((y * w + x) * c + k) * sample_bytes m + j) 0 ≡ get_or (sample_text m (at x y k)) j 0
byte_at c m w h at x y k j column row channel inside =
    let s = sample_bytes m in
    let in_pixel : k * s + j < c * s = omega (arith, mul-add-lt k s j c channel inside) in
    let in_row : x * (c * s) + (k * s + j) < w * (c * s) = omega (arith, mul-add-lt x (c * s) (k * s + j) w column in_pixel) in
    let place : ((y * w + x) * c + k) * s + j ≡ y * (w * (c * s)) + (x * (c * s) + (k * s + j)) = omega arith in
    ap (λ (i : ℕ). get_or (concat_up_to (λ y. samples_text c m w (λ x k. at x y k)) h) i 0) place
    ∙ (joined_at (λ y. samples_text c m w (λ x k. at x y k)) (w * (c * s)) h y (x * (c * s) + (k * s + j)) (λ y. length-row c m w (λ x k. at x y k)) row in_row
    ∙ (joined_at (λ x. concat_up_to (λ k. sample_text m (at x y k)) c) (c * s) w x (k * s + j) (λ x. length-pixel c m (at x y)) column in_pixel
    ∙ joined_at (λ k. sample_text m (at x y k)) s c k j (λ k. length-sample_text m (at x y k)) channel inside))

pub sample_back : (c m w h : ℕ) (at : ℕ → ℕ → ℕ → ℕ) (x y k : ℕ) → x < w → y < h → k < c → number_in m (concat_up_to (λ y. samples_text c m w (λ x k. at x y k)) h) ((y * w + x) * c + k) ≡ at x y k
sample_back c m w h at x y k column row channel =
    number_in_is m (concat_up_to (λ y. samples_text c m w (λ x k. at x y k)) h) ((y * w + x) * c + k) (at x y k) (λ j inside. byte_at c m w h at x y k j column row channel inside)

-- ---- bits

pub binary_bit : (f : ℕ → ℕ) → ((i : ℕ) → f i < 2) → (j : ℕ) → j < 8 → binary f 8 / 2 ^ (7 - j) % 2 ≡ f j
binary_bit f all zero h = omega (arith, all 0, all 1, all 2, all 3, all 4, all 5, all 6, all 7)
binary_bit f all (suc zero) h = omega (arith, all 0, all 1, all 2, all 3, all 4, all 5, all 6, all 7)
binary_bit f all (suc (suc zero)) h = omega (arith, all 0, all 1, all 2, all 3, all 4, all 5, all 6, all 7)
binary_bit f all (suc (suc (suc zero))) h = omega (arith, all 0, all 1, all 2, all 3, all 4, all 5, all 6, all 7)
binary_bit f all (suc (suc (suc (suc zero)))) h = omega (arith, all 0, all 1, all 2, all 3, all 4, all 5, all 6, all 7)
binary_bit f all (suc (suc (suc (suc (suc zero))))) h = omega (arith, all 0, all 1, all 2, all 3, all 4, all 5, all 6, all 7)
binary_bit f all (suc (suc (suc (suc (suc (suc zero)))))) h = omega (arith, all 0, all 1, all 2, all 3, all 4, all 5, all 6, all 7)
binary_bit f all (suc (suc (suc (suc (suc (suc (suc zero))))))) h = omega (arith, all 0, all 1, all 2, all 3, all 4, all 5, all 6, all 7)
binary_bit f all (suc (suc (suc (suc (suc (suc (suc (suc j)))))))) h = absurd (omega arith)

length-bit_row : (w : ℕ) (at : ℕ → ℕ) → length (concat_up_to (λ b. bits_byte w at b ∷ []) (bit_row w)) ≡ bit_row w
length-bit_row w at = omega (arith, length-joined (λ b. bits_byte w at b ∷ []) 1 (bit_row w) (λ b. refl))

bit_byte_at : (w h : ℕ) (at : ℕ → ℕ → ℕ) (x y : ℕ) → x < w → y < h → get_or (concat_up_to (λ y. concat_up_to (λ b. bits_byte w (λ x. at x y) b ∷ []) (bit_row w)) h) (y * bit_row w + x / 8) 0 ≡ bits_byte w (λ x. at x y) (x / 8)
bit_byte_at w h at x y column row =
    let inside : x / 8 < bit_row w = omega arith in
    joined_at (λ y. concat_up_to (λ b. bits_byte w (λ x. at x y) b ∷ []) (bit_row w)) (bit_row w) h y (x / 8) (λ y. length-bit_row w (λ x. at x y)) row inside
    ∙ (ap (λ (i : ℕ). get_or (concat_up_to (λ b. bits_byte w (λ x. at x y) b ∷ []) (bit_row w)) i 0) (let p : x / 8 ≡ x / 8 * 1 + 0 = omega arith in p)
    ∙ joined_at (λ b. bits_byte w (λ x. at x y) b ∷ []) 1 (bit_row w) (x / 8) 0 (λ b. refl) inside (omega arith))

-- a bit of the row, or 0 past its end
bit_below : (w : ℕ) (at : ℕ → ℕ) → ((x : ℕ) → x < w → at x ≤ 1) → (x : ℕ) → (if nat_lt x w then at x else 0) < 2
bit_below w at all x =
    let P : Bool → Type 0 = λ t. nat_lt x w ≡ t → (if t then at x else 0) < 2 in
    elim (nat_lt x w) as P [ true ↦ λ e. omega (arith, all x (lt_from_test x w e)) | false ↦ λ e. omega arith ] refl
  where
    lt_from_test : (x w : ℕ) → nat_lt x w ≡ true → x < w
    lt_from_test x w e = grind (arith, nat_tests)

bit_in : (w : ℕ) (at : ℕ → ℕ) (x : ℕ) → x < w → (if nat_lt (8 * (x / 8) + x % 8) w then at (8 * (x / 8) + x % 8) else 0) ≡ at x
bit_in w at x inside =
    let place : 8 * (x / 8) + x % 8 ≡ x = omega arith in
    let test : nat_lt x w ≡ true = grind (arith, nat_tests) in
    rw (place, test) refl

pub bit_back : (w h : ℕ) (at : ℕ → ℕ → ℕ) → ((x y : ℕ) → x < w → y < h → at x y ≤ 1) → (x y : ℕ) → x < w → y < h → get_or (concat_up_to (λ y. concat_up_to (λ b. bits_byte w (λ x. at x y) b ∷ []) (bit_row w)) h) (y * bit_row w + x / 8) 0 / 2 ^ (7 - x % 8) % 2 ≡ at x y
bit_back w h at all x y column row =
    let f : ℕ → ℕ = λ j. if nat_lt (8 * (x / 8) + j) w then at (8 * (x / 8) + j) y else 0 in
    ap (λ (b : ℕ). b / 2 ^ (7 - x % 8) % 2) (bit_byte_at w h at x y column row)
    ∙ (binary_bit f (λ j. bit_below w (λ x. at x y) (λ x c. all x y c row) (8 * (x / 8) + j)) (x % 8) (omega arith)
    ∙ bit_in w (λ x. at x y) x column)

-- ---- the whole file

record RasterShows (f : PnmFormat) (w h m : ℕ) (raster : List ℕ) (at : ℕ → ℕ → ℕ → ℕ) : Type 0 where
  size : length raster ≡ raster_length f w h m
  samples : (x y k : ℕ) → x < w → y < h → k < channels_of f → at x y k ≡ sample_in f w m raster x y k

raster_shows : (f : PnmFormat) (w h m : ℕ) (at : ℕ → ℕ → ℕ → ℕ) → (f ≡ Pbm → m ≡ 1) → ((x y k : ℕ) → x < w → y < h → k < channels_of f → at x y k ≤ m) → RasterShows f w h m (concat_up_to (λ y. row_text f m w (λ x k. at x y k)) h) at
raster_shows Pbm w h m at one all = record {
  size = omega (arith, length-joined (λ y. row_text Pbm m w (λ x k. at x y k)) (bit_row w) h (λ y. length-bit_row w (λ x. at x y 0)));
  samples = λ x y k a b c.
      let first : k ≡ 0 = omega arith in
      let low : (x y : ℕ) → x < w → y < h → at x y 0 ≤ 1 = λ x y a b. omega (arith, all x y 0 a b (omega arith), one refl) in
      ap (λ (k : ℕ). at x y k) first ∙ sym (bit_back w h (λ x y. at x y 0) low x y a b);
}
raster_shows Pgm w h m at one all = record {
  size = omega (arith, length-rows 1 m w h at);
  samples = λ x y k a b c.
      let place : (y * w + x) * 1 + k ≡ y * w + x = omega arith in
      sym (ap (number_in m (concat_up_to (λ y. samples_text 1 m w (λ x k. at x y k)) h)) (sym place) ∙ sample_back 1 m w h at x y k a b c);
}
raster_shows Ppm w h m at one all = record {
  size = omega (arith, length-rows 3 m w h at);
  samples = λ x y k a b c. sym (sample_back 3 m w h at x y k a b c);
}

pub denotes_file : (h : Header) (p : Picture) → Suits h p → Denotes (file_text h p.at) p
denotes_file h p suits =
    let place : (x y k : ℕ) → x < h.width → y < h.height → k < channels_of h.format → IsPlace p x y k = λ x y k a b c. record {
      column = subst (λ (n : ℕ). x < n) (sym suits.width) a;
      row = subst (λ (n : ℕ). y < n) (sym suits.height) b;
      channel = subst (λ (n : ℕ). k < n) (sym suits.channels) c;
    } in
    let back : (x y k : ℕ) → x < h.width → y < h.height → k < channels_of h.format → p.at x y k ≤ h.maxval = λ x y k a b c.
    subst (λ (n : ℕ). p.at x y k ≤ n) suits.greatest (suits.in_range x y k (place x y k a b c)) in
    let r = raster_shows h.format h.width h.height h.maxval p.at suits.bits back in
    record {
      header = h;
      raster = raster_text h p.at;
      begins = record {
        head = header_text h;
        text_is = refl;
        is_header = header_parts h.format h.width h.height h.maxval suits.width_most suits.height_most suits.width_some suits.height_some suits.maxval_some suits.maxval_most suits.bits;
      };
      shows = record {
        size = r.size;
        width = suits.width;
        height = suits.height;
        channels = suits.channels;
        greatest = suits.greatest;
        samples = λ x y k at. r.samples x y k (subst (λ (n : ℕ). x < n) suits.width at.column) (subst (λ (n : ℕ). y < n) suits.height at.row) (subst (λ (n : ℕ). k < n) suits.channels at.channel);
        in_range = suits.in_range;
      };
    }
