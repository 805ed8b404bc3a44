-- From the samples of a line to its bytes.
use Rattle.std.proofs.Common.{◌≡◌, ℕ, zero, suc, ◌<◌, ◌+◌, ◌*◌, ◌/◌, ◌%◌, inl, inr, Bool, true, false, List, [], ◌∷◌, length, arith, refl, sym, ap, ◌∙◌, subst}
use Rattle.std.specs.Prelude.{nat_lt, ◌==◌, slice_index, if◌then◌else◌}
use Rattle.std.proofs.lemmas.Bool.{cases_lt}
use Rattle.std.proofs.lemmas.Bool.Decides.{nat_tests}
use Rattle.std.proofs.lemmas.List.{ext_get_or}
use Rattle.netpbm.specs.FileText.{binary}
use Rattle.netpbm.proofs.WritingLaws.{joined_at, length-joined}
use Rattle.page_picture.specs.Shows.{channels_within}
use Rattle.page_picture.specs.Tone.{tone, brightness, in_channel}
use Rattle.page_picture.specs.Columns.{Columns, place_at}
use Rattle.page_picture.specs.declared.scene.Mode.{Mode}
use Rattle.page_picture.specs.declared.scene.Mode.TheVariants.{Gray}
use Rattle.page_picture.specs.declared.scene.Scene.{Scene}
use Rattle.sane_fixed.specs.declared.byte_order.ByteOrder.{ByteOrder}
use Rattle.sane_fixed.specs.declared.frame_format.FrameFormat.{FrameFormat}
use Rattle.sane_fixed.specs.declared.frame_format.FrameFormat.TheVariants.{Gray as GrayFrame, Rgb as RgbFrame, Red as RedFrame, Green as GreenFrame, Blue as BlueFrame}
use Rattle.scan_frames.specs.declared.setup.Packing.{Packing}
use Rattle.scan_frames.specs.declared.setup.Packing.TheVariants.{Bits, Bytes, Words}
use Rattle.page_picture.specs.declared.scene.DeviceKind.{DeviceKind}
use Rattle.page_picture.specs.declared.scene.DeviceKind.TheVariants.{ThreePass}
use Rattle.scan_frames.specs.declared.setup.Setup.{Setup}
use Rattle.scan_frames.specs.Line.{packing_of, line_byte, numbers, line_of, half}
use Rattle.scan_frames.specs.Frames.{channel_in, color_at, format_at, frame_format_of, takes_colors}
use Rattle.scan_frames.specs.Inside.{HasSample, sample_in_row, value_at, gray_in, bit_in, bits_in}
use Rattle.scan_frames.specs.Samples.{HasZeros}

pub length-numbers : (f : ℕ → ℕ) (n : ℕ) → length (numbers f n) ≡ n
length-numbers f n = omega (arith, length-joined (λ i. f i ∷ []) 1 n (λ i. refl))

pub numbers_at : (f : ℕ → ℕ) (n i : ℕ) → i < n → slice_index (numbers f n) i ≡ f i
numbers_at f n i h =
    let place : i ≡ i * 1 + 0 = omega arith in
    ap (λ (j : ℕ). slice_index (numbers f n) j) place ∙ joined_at (λ i. f i ∷ []) 1 n i 0 (λ i. refl) h (omega arith)

-- a list with those numbers
pub numbers_are : (f : ℕ → ℕ) (n : ℕ) (xs : List ℕ) → length xs ≡ n → ((i : ℕ) → i < n → slice_index xs i ≡ f i) → xs ≡ numbers f n
numbers_are f n xs size each =
    ext_get_or 0 xs (numbers f n) (size ∙ sym (length-numbers f n)) (λ i h. let inside : i < n = omega arith in each i inside ∙ sym (numbers_at f n i inside))

pub line_is : (p : Packing) (order : ByteOrder) (c w : ℕ) (at : ℕ → ℕ → ℕ) (n : ℕ) (line : List ℕ) → length line ≡ n → ((j : ℕ) → j < n → slice_index line j ≡ line_byte p order c w at j) → line ≡ line_of p order c w at n
unfolding line_of
line_is p order c w at n line size each = numbers_are (line_byte p order c w at) n line size each

-- the place of a sample in its line
pub sample_place : (m : FrameFormat) (w j : ℕ) → j < channels_within m * w → (j / channels_within m < w) × ((j % channels_within m < channels_within m) × (channels_within m * (j / channels_within m) + j % channels_within m ≡ j))
sample_place GrayFrame w j h = (omega arith, (omega arith, omega arith))
sample_place RgbFrame w j h = (omega arith, (omega arith, omega arith))
sample_place RedFrame w j h = (omega arith, (omega arith, omega arith))
sample_place GreenFrame w j h = (omega arith, (omega arith, omega arith))
sample_place BlueFrame w j h = (omega arith, (omega arith, omega arith))

-- a line, from its samples at each column and channel
bytes_sample : (order : ByteOrder) (m : FrameFormat) (w : ℕ) (at : ℕ → ℕ → ℕ) (line : List ℕ) → ((x k : ℕ) → x < w → k < channels_within m → HasSample Bytes order line (channels_within m * x + k) (at x k)) → (j : ℕ) → j < channels_within m * w → slice_index line j ≡ at (j / channels_within m) (j % channels_within m)
bytes_sample order m w at line each j h =
    let p = sample_place m w j h in
    ap (λ (i : ℕ). slice_index line i) (sym p.1.1) ∙ each (j / channels_within m) (j % channels_within m) p.0 p.1.0

words_sample : (order : ByteOrder) (m : FrameFormat) (w : ℕ) (at : ℕ → ℕ → ℕ) (line : List ℕ) → ((x k : ℕ) → x < w → k < channels_within m → HasSample Words order line (channels_within m * x + k) (at x k)) → (i : ℕ) → i < channels_within m * w → HasSample Words order line i (at (i / channels_within m) (i % channels_within m))
words_sample order m w at line each i h =
    let p = sample_place m w i h in
    subst (λ (t : ℕ). HasSample Words order line t (at (i / channels_within m) (i % channels_within m))) p.1.1 (each (i / channels_within m) (i % channels_within m) p.0 p.1.0)

bytes_at : (order : ByteOrder) (m : FrameFormat) (w : ℕ) (at : ℕ → ℕ → ℕ) (line : List ℕ) → ((x k : ℕ) → x < w → k < channels_within m → HasSample Bytes order line (channels_within m * x + k) (at x k)) → HasZeros Bytes (channels_within m * w) line → (j : ℕ) → slice_index line j ≡ line_byte Bytes order (channels_within m) w at j
bytes_at order m w at line each zeros j =
    let P : Bool → Type 0 = λ t. slice_index line j ≡ (if t then at (j / channels_within m) (j % channels_within m) else 0) in
    elim (nat_lt j (channels_within m * w)) as (λ t. nat_lt j (channels_within m * w) ≡ t → P t) [
      | true ↦ λ e. bytes_sample order m w at line each j (grind (arith, nat_tests))
      | false ↦ λ e. zeros j (grind (arith, nat_tests))
    ] refl

-- the two bytes of a sample, by the place of each
words_half : (order : ByteOrder) (line : List ℕ) (j v : ℕ) → HasSample Words order line (j / 2) v → slice_index line j ≡ half order (j % 2) v
words_half order line j v has =
    elim (cases_lt (j % 2) 1) as (λ _. slice_index line j ≡ half order (j % 2) v) [
      | inl less ↦
          let part : j % 2 ≡ 0 = omega arith in
          let place : j ≡ 2 * (j / 2) = omega arith in
          ap (λ (i : ℕ). slice_index line i) place ∙ (has.0 ∙ ap (λ (t : ℕ). half order t v) (sym part))
      | inr more ↦
          let part : j % 2 ≡ 1 = omega arith in
          let place : j ≡ 2 * (j / 2) + 1 = omega arith in
          ap (λ (i : ℕ). slice_index line i) place ∙ (has.1 ∙ ap (λ (t : ℕ). half order t v) (sym part))
    ]

words_at : (order : ByteOrder) (m : FrameFormat) (w : ℕ) (at : ℕ → ℕ → ℕ) (line : List ℕ) → ((x k : ℕ) → x < w → k < channels_within m → HasSample Words order line (channels_within m * x + k) (at x k)) → HasZeros Words (channels_within m * w) line → (j : ℕ) → slice_index line j ≡ line_byte Words order (channels_within m) w at j
words_at order m w at line each zeros j =
    let P : Bool → Type 0 = λ t. slice_index line j ≡ (if t then half order (j % 2) (at (j / 2 / channels_within m) (j / 2 % channels_within m)) else 0) in
    elim (nat_lt j (2 * (channels_within m * w))) as (λ t. nat_lt j (2 * (channels_within m * w)) ≡ t → P t) [
      | true ↦ λ e.
          let less : j < 2 * (channels_within m * w) = grind (arith, nat_tests) in
          words_half order line j (at (j / 2 / channels_within m) (j / 2 % channels_within m)) (words_sample order m w at line each (j / 2) (omega arith))
      | false ↦ λ e. zeros j (grind (arith, nat_tests))
    ] refl

-- a line whose samples stand there, and with zeros behind them
pub line_from_samples : (p : Packing) (order : ByteOrder) (m : FrameFormat) (w : ℕ) (at : ℕ → ℕ → ℕ) (line : List ℕ) (n : ℕ) → length line ≡ n → (p ≡ Bits → ⊥) → ((x k : ℕ) → x < w → k < channels_within m → HasSample p order line (channels_within m * x + k) (at x k)) → HasZeros p (channels_within m * w) line → line ≡ line_of p order (channels_within m) w at n
line_from_samples Bits order m w at line n size not each zeros = absurd (not refl)
line_from_samples Bytes order m w at line n size not each zeros = line_is Bytes order (channels_within m) w at n line size (λ j h. bytes_at order m w at line each zeros j)
line_from_samples Words order m w at line n size not each zeros = line_is Words order (channels_within m) w at n line size (λ j h. words_at order m w at line each zeros j)

-- numbers whose binary digits are the same
pub binary_same : (f g : ℕ → ℕ) (n : ℕ) → ((j : ℕ) → j < n → f j ≡ g j) → binary f n ≡ binary g n
binary_same f g zero same = refl
binary_same f g (suc n) same =
    let before = binary_same f g n (λ j less. same j (omega (arith, less))) in
    let last = same n (omega arith) in
    omega (arith, before, last)

-- a line whose bytes are those of its bits
pub line_from_bits : (order : ByteOrder) (c : ℕ) (scene : Scene) (row places : List ℕ) (channel w : ℕ) (at : ℕ → ℕ → ℕ) (line : List ℕ) (n : ℕ) → length line ≡ n → length places ≡ w → ((x : ℕ) → x < w → sample_in_row scene row (slice_index places x) channel ≡ at x 0) → ((b : ℕ) → b < n → slice_index line b ≡ bits_in scene row places channel b) → line ≡ line_of Bits order c w at n
unfolding bits_in bit_in
line_from_bits order c scene row places channel w at line n size count each bytes =
    let bit : (x : ℕ) → bit_in scene row places channel x ≡ (if nat_lt x w then at x 0 else 0) =
    λ x. subst (λ (t : ℕ). (if nat_lt x t then sample_in_row scene row (slice_index places x) channel else 0) ≡ (if nat_lt x w then at x 0 else 0)) (sym count)
    (let P : Bool → Type 0 = λ t. (if t then sample_in_row scene row (slice_index places x) channel else 0) ≡ (if t then at x 0 else 0) in
    elim (nat_lt x w) as (λ t. nat_lt x w ≡ t → P t) [ true ↦ λ e. each x (grind (arith, nat_tests)) | false ↦ λ e. refl ] refl)
    in
    line_is Bits order c w at n line size (λ b h. bytes b h ∙ binary_same (λ j. bit_in scene row places channel (8 * b + j)) (λ j. if nat_lt (8 * b + j) w then at (8 * b + j) 0 else 0) 8 (λ j less. bit (8 * b + j)))

-- the places of a map's columns
abbrev pub ArePlaces : Columns → List ℕ → Type 0
ArePlaces columns places = (x : ℕ) → x < columns.count → slice_index places x ≡ place_at columns x

-- the line of a frame, as `make_line` says it
abbrev pub IsLine : ByteOrder → FrameFormat → Scene → List ℕ → Columns → List ℕ → ℕ → Type 0
IsLine order format scene row columns line n =
    line ≡ line_of (packing_of scene.depth) order (channels_within format) columns.count (value_at scene format row columns) n

pub bits_line : (order : ByteOrder) (format : FrameFormat) (scene : Scene) (row places : List ℕ) (channel : ℕ) (columns : Columns) (line : List ℕ) (n : ℕ) → packing_of scene.depth ≡ Bits → channel ≡ channel_in format 0 → length line ≡ n → length places ≡ columns.count → ArePlaces columns places → ((b : ℕ) → b < n → slice_index line b ≡ bits_in scene row places channel b) → IsLine order format scene row columns line n
bits_line order format scene row places channel columns line n is of size count each bytes =
    subst (λ (p : Packing). line ≡ line_of p order (channels_within format) columns.count (value_at scene format row columns) n) (sym is)
    (line_from_bits order (channels_within format) scene row places channel columns.count (value_at scene format row columns) line n size count (λ x h. ap (λ (t : ℕ). sample_in_row scene row t channel) (each x h) ∙ ap (sample_in_row scene row (place_at columns x)) of) bytes)

pub samples_line : (order : ByteOrder) (format : FrameFormat) (scene : Scene) (row places : List ℕ) (columns : Columns) (line : List ℕ) (n : ℕ) (p : Packing) → p ≡ packing_of scene.depth → (p ≡ Bits → ⊥) → length line ≡ n → length places ≡ columns.count → ArePlaces columns places → ((x k : ℕ) → x < length places → k < channels_within format → HasSample p order line (channels_within format * x + k) (sample_in_row scene row (slice_index places x) (channel_in format k))) → HasZeros (packing_of scene.depth) (channels_within format * columns.count) line → IsLine order format scene row columns line n
samples_line order format scene row places columns line n p is not size count each here zeros =
    subst (λ (p : Packing). line ≡ line_of p order (channels_within format) columns.count (value_at scene format row columns) n) is
    (line_from_samples p order format columns.count (value_at scene format row columns) line n size not
    (λ x k h less. subst (λ (t : ℕ). HasSample p order line (channels_within format * x + k) (sample_in_row scene row t (channel_in format k))) (each x h) (here x k (subst (λ (t : ℕ). x < t) (sym count) h) less)) (subst (λ (q : Packing). HasZeros q (channels_within format * columns.count) line) (sym is) zeros))

-- the same, where the samples were put by an equal format
pub samples_line_by : (order : ByteOrder) (g format : FrameFormat) (scene : Scene) (row places : List ℕ) (columns : Columns) (line : List ℕ) (n : ℕ) (p : Packing) → g ≡ format → p ≡ packing_of scene.depth → (p ≡ Bits → ⊥) → length line ≡ n → length places ≡ columns.count → ArePlaces columns places → ((x k : ℕ) → x < length places → k < channels_within g → HasSample p order line (channels_within g * x + k) (sample_in_row scene row (slice_index places x) (channel_in g k))) → HasZeros (packing_of scene.depth) (channels_within format * columns.count) line → IsLine order format scene row columns line n
samples_line_by order g format scene row places columns line n p same is not size count each here zeros =
    subst (λ (f : FrameFormat). HasZeros (packing_of scene.depth) (channels_within f * columns.count) line → IsLine order f scene row columns line n) same
    (λ z. samples_line order g scene row places columns line n p is not size count each here z) zeros

-- the tone at depth 8
pub tone_bytes : (depth : ℕ) (table : List ℕ) (v : ℕ) → packing_of depth ≡ Bytes → tone depth table v ≡ slice_index table (v / 256)
tone_bytes depth table v =
    let P : Bool → Bool → Type 0 = λ a b. (if a then Words else (if b then Bytes else Bits)) ≡ Bytes → (if a then v else (if b then slice_index table (v / 256) else (if nat_lt (slice_index table (v / 256)) 128 then 1 else 0))) ≡ slice_index table (v / 256) in
    elim (depth == 16) as (λ a. P a (depth == 8)) [
      | true ↦ λ e. cc
      | false ↦ elim (depth == 8) as (λ b. P false b) [ true ↦ λ e. refl | false ↦ λ e. cc ]
    ]

gray_value : (scene : Scene) (row : List ℕ) (place k : ℕ) → packing_of scene.depth ≡ Bytes → scene.mode ≡ Gray → sample_in_row scene row place k ≡ slice_index scene.gamma (gray_in row place / 256)
gray_value scene row place k is mode =
    ap (λ (m : Mode). in_channel m scene.depth scene.channel_gamma k (tone scene.depth scene.gamma (brightness scene.mode (λ i. slice_index row (3 * place + i)) k))) mode
    ∙ tone_bytes scene.depth scene.gamma (brightness scene.mode (λ i. slice_index row (3 * place + i)) k) is
    ∙ (ap (λ (m : Mode). slice_index scene.gamma (brightness m (λ i. slice_index row (3 * place + i)) k / 256)) mode
    ∙ ap (λ (t : ℕ). slice_index scene.gamma ((299 * slice_index row t + 587 * slice_index row (3 * place + 1) + 114 * slice_index row (3 * place + 2)) / 1000 / 256)) (let e : 3 * place + 0 ≡ 3 * place = omega arith in e))

-- the frames of a gray picture are gray
pub gray_format : (kind : DeviceKind) (s : Setup) (pass : ℕ) → s.scene.kind ≡ kind → s.scene.mode ≡ Gray → format_at s pass ≡ GrayFrame
gray_format kind s pass of mode =
    ap (λ (m : Mode). if takes_colors s.scene.kind m then color_at s.passes pass else frame_format_of m) mode
    ∙ ap (λ (k : DeviceKind). if takes_colors k Gray then color_at s.passes pass else GrayFrame) of
    ∙ by_kind kind
  where
    by_kind : (kind : DeviceKind) → (if takes_colors kind Gray then color_at s.passes pass else GrayFrame) ≡ GrayFrame
    by_kind ThreePass = refl
    by_kind _ = refl

pub grays_line : (order : ByteOrder) (format : FrameFormat) (scene : Scene) (row places : List ℕ) (columns : Columns) (line : List ℕ) (n : ℕ) → packing_of scene.depth ≡ Bytes → scene.mode ≡ Gray → format ≡ GrayFrame → length line ≡ n → length places ≡ columns.count → ArePlaces columns places → ((x : ℕ) → x < length places → slice_index line x ≡ slice_index scene.gamma (gray_in row (slice_index places x) / 256)) → HasZeros (packing_of scene.depth) (channels_within format * columns.count) line → IsLine order format scene row columns line n
grays_line order format scene row places columns line n is mode gray size count each here zeros =
    let at : (x k : ℕ) → x < length places → k < channels_within format → HasSample Bytes order line (channels_within format * x + k) (sample_in_row scene row (slice_index places x) (channel_in format k)) =
    λ x k h less.
    let one : channels_within format ≡ 1 = ap channels_within gray in
    let first : k ≡ 0 = omega arith in
    let place : channels_within format * x + k ≡ x = ap (λ (t : ℕ). t * x + k) one ∙ omega arith in
    ap (λ (t : ℕ). slice_index line t) place ∙ (here x h ∙ sym (gray_value scene row (slice_index places x) (channel_in format k) is mode))
    in
    samples_line order format scene row places columns line n Bytes (sym is) (λ e. cc) size count each at zeros
