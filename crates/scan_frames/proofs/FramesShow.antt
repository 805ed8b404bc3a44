-- The frames show the picture.
use Rattle.std.proofs.Common.{◌≡◌, ◌⊎◌, ℕ, ◌<◌, ◌≤◌, ◌+◌, ◌-◌, ◌*◌, ◌/◌, ◌%◌, inl, inr, Bool, true, false, List, [], ◌∷◌, arith, refl, sym, ap, ◌∙◌, subst}
use Rattle.std.specs.Prelude.{nat_lt, ◌==◌, slice_index, if◌then◌else◌, Some, None, not, ◌^◌, ◌≢◌}
use Rattle.std.proofs.lemmas.Bool.Decides.{nat_tests}
use Rattle.netpbm.specs.Picture.{Picture, IsPicture}
use Rattle.netpbm.specs.Pnm.{bit_row}
use Rattle.netpbm.specs.FileText.{bits_byte}
use Rattle.netpbm.proofs.WritingLaws.{joined_at, length-joined, binary_bit}
use Rattle.sane_fixed.specs.declared.byte_order.ByteOrder.{ByteOrder}
use Rattle.sane_fixed.specs.declared.byte_order.ByteOrder.TheVariants.{Little, Big}
use Rattle.sane_fixed.specs.declared.frame_format.FrameFormat.{FrameFormat}
use Rattle.sane_fixed.specs.declared.frame_format.FrameFormat.TheVariants.{Gray as GrayFrame, Rgb as RgbFrame, Red as RedFrame, Green as GreenFrame, Blue as BlueFrame}
use Rattle.page_picture.specs.Page.{PageView, IsPageView}
use Rattle.page_picture.specs.Seen.{seen_at}
use Rattle.page_picture.specs.Tone.{tone, brightness, in_channel}
use Rattle.page_picture.specs.Meaning.{channels_in, sample_of, picture_of}
use Rattle.page_picture.specs.Extent.{shows_depth}
use Rattle.page_picture.specs.Shows.{Frame, two_bytes, frame_sample, channels_within, channels_alone, color_of, row_size, IsDepth, HasLineShape, HasLines, FitsPicture, ShowsAlone, ShowsColor, ShowsColors, ShowsFrames}
use Rattle.page_picture.specs.declared.scene.DeviceKind.{DeviceKind}
use Rattle.page_picture.specs.declared.scene.DeviceKind.TheVariants.{Hand, ThreePass}
use Rattle.page_picture.specs.declared.scene.Mode.{Mode}
use Rattle.page_picture.specs.declared.scene.Mode.TheVariants.{Gray, Color}
use Rattle.page_picture.specs.declared.scene.Scene.{Scene}
use Rattle.page_picture.proofs.MeaningLemmas.{is_picture, AreBytes}
use Rattle.scan_frames.specs.declared.setup.Packing.{Packing}
use Rattle.scan_frames.specs.declared.setup.Packing.TheVariants.{Bits, Bytes, Words}
use Rattle.scan_frames.specs.declared.setup.PassOrder.{PassOrder}
use Rattle.scan_frames.specs.declared.setup.PassOrder.TheVariants.{Rgb, Rbg, Gbr, Grb, Brg, Bgr}
use Rattle.scan_frames.specs.declared.setup.Setup.{Setup}
use Rattle.scan_frames.specs.Line.{packing_of, line_size, line_byte, line_of, half}
use Rattle.scan_frames.specs.Frames.{IsSetup, has_picture, height_of, width_of, takes_colors, color_at, frame_format_of, format_at, channel_in, bytes_per_line, line_bytes, payload, lines_in_params, if_picture, params_at, frame_of, frames_of}
use Rattle.scan_frames.proofs.Lines.{numbers_at, gray_format}
use Rattle.scan_frames.proofs.Scans.{length-line_bytes}
use Rattle.scan_frames.proofs.Frames.{has_sides, line_most}

-- ---- a byte of the payload

line_of_at : (p : Packing) (order : ByteOrder) (c w : ℕ) (at : ℕ → ℕ → ℕ) (n j : ℕ) → j < n → slice_index (line_of p order c w at n) j ≡ line_byte p order c w at j
unfolding line_of
line_of_at p order c w at n j h = numbers_at (line_byte p order c w at) n j h

-- the samples of a line of a pass
abbrev pub samples_at : Setup → PageView → ℕ → ℕ → ℕ → ℕ → ℕ
samples_at setup page pass y x k = sample_of page setup.scene x y (channel_in (format_at setup pass) k)

-- byte j of line y, where the samples are packed in that way
pub payload_at : (setup : Setup) (page : PageView) (pass : ℕ) (p : Packing) → packing_of setup.scene.depth ≡ p → (y j : ℕ) → y < height_of setup page → j < bytes_per_line setup pass → slice_index (payload setup page pass) (y * bytes_per_line setup pass + j) ≡ line_byte p setup.order (channels_within (format_at setup pass)) (width_of setup) (samples_at setup page pass y) j
payload_at setup page pass p packing y j row inside =
    joined_at (line_bytes setup page pass) (bytes_per_line setup pass) (height_of setup page) y j (length-line_bytes setup page pass) row inside
    ∙ (line_of_at (packing_of setup.scene.depth) setup.order (channels_within (format_at setup pass)) (width_of setup) (samples_at setup page pass y) (bytes_per_line setup pass) j inside
    ∙ ap (λ (q : Packing). line_byte q setup.order (channels_within (format_at setup pass)) (width_of setup) (samples_at setup page pass y) j) packing)

place_back : (m : FrameFormat) (w x k : ℕ) → x < w → k < channels_within m → ((channels_within m * x + k) / channels_within m ≡ x) × (((channels_within m * x + k) % channels_within m ≡ k) × (channels_within m * x + k < channels_within m * w))
place_back GrayFrame w x k a b = (omega arith, (omega arith, omega arith))
place_back RgbFrame w x k a b = (omega arith, (omega arith, omega arith))
place_back RedFrame w x k a b = (omega arith, (omega arith, omega arith))
place_back GreenFrame w x k a b = (omega arith, (omega arith, omega arith))
place_back BlueFrame w x k a b = (omega arith, (omega arith, omega arith))

bytes_back : (order : ByteOrder) (m : FrameFormat) (w : ℕ) (at : ℕ → ℕ → ℕ) (x k : ℕ) → x < w → k < channels_within m → line_byte Bytes order (channels_within m) w at (channels_within m * x + k) ≡ at x k
bytes_back order m w at x k a b =
    let p = place_back m w x k a b in
    let j = channels_within m * x + k in
    let test : nat_lt j (channels_within m * w) ≡ true = let h = p.1.1 in grind (arith, nat_tests) in
    subst (λ (t : Bool). (if t then at (j / channels_within m) (j % channels_within m) else 0) ≡ at x k) (sym test)
    (ap (λ (t : ℕ). at t (j % channels_within m)) p.0 ∙ ap (at x) p.1.0)

words_back : (order : ByteOrder) (m : FrameFormat) (w : ℕ) (at : ℕ → ℕ → ℕ) (x k part : ℕ) → part < 2 → x < w → k < channels_within m → line_byte Words order (channels_within m) w at (2 * (channels_within m * x + k) + part) ≡ half order part (at x k)
words_back order m w at x k part h a b =
    let p = place_back m w x k a b in
    let i = channels_within m * x + k in
    let j = 2 * i + part in
    let under : i < channels_within m * w = p.1.1 in
    let test : nat_lt j (2 * (channels_within m * w)) ≡ true = let h : j < 2 * (channels_within m * w) = omega arith in grind (arith, nat_tests) in
    let whole : j / 2 ≡ i = omega arith in
    let rest : j % 2 ≡ part = omega arith in
    subst (λ (t : Bool). (if t then half order (j % 2) (at (j / 2 / channels_within m) (j / 2 % channels_within m)) else 0) ≡ half order part (at x k)) (sym test)
    (ap (λ (t : ℕ). half order t (at (j / 2 / channels_within m) (j / 2 % channels_within m))) rest
    ∙ (ap (λ (t : ℕ). half order part (at (t / channels_within m) (t % channels_within m))) whole
    ∙ (ap (λ (t : ℕ). half order part (at t (i % channels_within m))) p.0 ∙ ap (λ (t : ℕ). half order part (at x t)) p.1.0)))

-- a number from its two bytes
halves : (order : ByteOrder) (bytes : List ℕ) (i v : ℕ) → slice_index bytes i ≡ half order 0 v → slice_index bytes (i + 1) ≡ half order 1 v → two_bytes order bytes i ≡ v
halves Little bytes i v a b = omega arith
halves Big bytes i v a b = omega arith

-- no channel's table bears on a bit
one_bit : (m : Mode) (tables : List (List ℕ)) (k v : ℕ) → v ≤ 1 → in_channel m 1 tables k v ≤ 1
one_bit Gray tables k v small = small
one_bit Color tables k v small = small

-- a sample at depth 1 is a bit
pub bit_sample : (page : PageView) (scene : Scene) (x y k : ℕ) → scene.depth ≡ 1 → sample_of page scene x y k ≤ 1
unfolding sample_of
bit_sample page scene x y k is =
    let v = brightness scene.mode (seen_at page scene x y) k in
    subst (λ (d : ℕ). in_channel scene.mode d scene.channel_gamma k (tone d scene.gamma v) ≤ 1) (sym is)
    (one_bit scene.mode scene.channel_gamma k (tone 1 scene.gamma v) (elim (nat_lt (slice_index scene.gamma (v / 256)) 128) as (λ t. (if t then 1 else 0) ≤ 1) [ true ↦ omega arith | false ↦ omega arith ]))

gray_bits : (m : Mode) (depth : ℕ) → depth ≡ 1 → shows_depth m depth ≡ true → m ≡ Gray
gray_bits Gray depth is e = refl
gray_bits Color depth is e = let one : (depth == 1) ≡ true = grind (arith, nat_tests) in absurd (let f : not true ≡ true = ap not (sym one) ∙ e in cc)

-- at depth 1 a frame is gray
pub bits_gray : (setup : Setup) (page : PageView) (pass : ℕ) → has_picture setup page ≡ true → setup.scene.depth ≡ 1 → format_at setup pass ≡ GrayFrame
bits_gray setup page pass has is = gray_format setup.scene.kind setup pass refl (gray_bits setup.scene.mode setup.scene.depth is (has_sides setup page has).depth)

pub bit_under : (w : ℕ) (at : ℕ → ℕ) → ((x : ℕ) → at x ≤ 1) → (x : ℕ) → (if nat_lt x w then at x else 0) < 2
bit_under w at all x = elim (nat_lt x w) as (λ t. (if t then at x else 0) < 2) [ true ↦ omega (arith, all x) | false ↦ omega arith ]

bit_inside : (w : ℕ) (at : ℕ → ℕ) (x : ℕ) → x < w → (if nat_lt (8 * (x / 8) + x % 8) w then at (8 * (x / 8) + x % 8) else 0) ≡ at x
bit_inside w at x inside =
    let place : 8 * (x / 8) + x % 8 ≡ x = omega arith in
    let test : nat_lt x w ≡ true = grind (arith, nat_tests) in
    rw (place, test) refl

byte_bit : (w : ℕ) (at : ℕ → ℕ) → ((x : ℕ) → at x ≤ 1) → (x : ℕ) → x < w → bits_byte w at (x / 8) / 2 ^ (7 - x % 8) % 2 ≡ at x
byte_bit w at all x inside =
    binary_bit (λ j. if nat_lt (8 * (x / 8) + j) w then at (8 * (x / 8) + j) else 0) (λ j. bit_under w at all (8 * (x / 8) + j)) (x % 8) (omega arith) ∙ bit_inside w at x inside

-- ---- a sample of a frame

picked : (setup : Setup) (page : PageView) → has_picture setup page ≡ true → (n : ℕ) → if_picture (has_picture setup page) n ≡ n
picked setup page has n = ap (λ (t : Bool). if_picture t n) has

-- a sample of a payload, as `frame_sample` reads it
abbrev read_sample : ByteOrder → List ℕ → ℕ → ℕ → ℕ → ℕ → ℕ → ℕ → ℕ
read_sample order bytes b depth c x y k =
    if depth == 16 then two_bytes order bytes (y * b + 2 * (c * x + k))
    else (if depth == 8 then slice_index bytes (y * b + (c * x + k))
    else slice_index bytes (y * b + x / 8) / 2 ^ (7 - x % 8) % 2)

wide_sample : (order : ByteOrder) (bytes : List ℕ) (b depth c x y k : ℕ) → depth ≡ 16 → read_sample order bytes b depth c x y k ≡ two_bytes order bytes (y * b + 2 * (c * x + k))
wide_sample order bytes b depth c x y k is = ap (λ (d : ℕ). read_sample order bytes b d c x y k) is

byte_sample : (order : ByteOrder) (bytes : List ℕ) (b depth c x y k : ℕ) → depth ≡ 8 → read_sample order bytes b depth c x y k ≡ slice_index bytes (y * b + (c * x + k))
byte_sample order bytes b depth c x y k is = ap (λ (d : ℕ). read_sample order bytes b d c x y k) is

bit_read : (order : ByteOrder) (bytes : List ℕ) (b depth c x y k : ℕ) → depth ≡ 1 → read_sample order bytes b depth c x y k ≡ slice_index bytes (y * b + x / 8) / 2 ^ (7 - x % 8) % 2
bit_read order bytes b depth c x y k is = ap (λ (d : ℕ). read_sample order bytes b d c x y k) is

sample_read : (setup : Setup) (page : PageView) (pass : ℕ) → has_picture setup page ≡ true → (setup.scene.depth ≡ 1) ⊎ ((setup.scene.depth ≡ 8) ⊎ (setup.scene.depth ≡ 16)) → (x y k : ℕ) → x < width_of setup → y < height_of setup page → k < channels_within (format_at setup pass) → read_sample setup.order (payload setup page pass) (bytes_per_line setup pass) setup.scene.depth (channels_within (format_at setup pass)) x y k ≡ samples_at setup page pass y x k
sample_read setup page pass has (inl is) x y k column row channel =
    let format = format_at setup pass in
    let w = width_of setup in
    let b = bytes_per_line setup pass in
    let packing : packing_of setup.scene.depth ≡ Bits = ap packing_of is in
    let gray = bits_gray setup page pass has is in
    let one : channels_within format ≡ 1 = ap channels_within gray in
    let first : k ≡ 0 = omega arith in
    let b_is : b ≡ (w + setup.loss + 7) / 8 = ap (λ (p : Packing). line_size p (channels_within format) (w + setup.loss)) packing in
    let inside : x / 8 < b = omega arith in
    let here = payload_at setup page pass Bits packing y (x / 8) row inside in
    bit_read setup.order (payload setup page pass) b setup.scene.depth (channels_within format) x y k is
    ∙ (ap (λ (t : ℕ). t / 2 ^ (7 - x % 8) % 2) here
    ∙ (byte_bit w (λ x. samples_at setup page pass y x 0) (λ x. bit_sample page setup.scene x y (channel_in format 0) is) x column
    ∙ ap (samples_at setup page pass y x) (sym first)))
sample_read setup page pass has (inr (inl is)) x y k column row channel =
    let format = format_at setup pass in
    let c = channels_within format in
    let w = width_of setup in
    let b = bytes_per_line setup pass in
    let packing : packing_of setup.scene.depth ≡ Bytes = ap packing_of is in
    let b_is : b ≡ c * (w + setup.loss) = ap (λ (p : Packing). line_size p c (w + setup.loss)) packing in
    let i = c * x + k in
    let under : i < c * w = (place_back format w x k column channel).1.1 in
    let more : c * (w + setup.loss) ≡ c * w + c * setup.loss = omega arith in
    byte_sample setup.order (payload setup page pass) b setup.scene.depth c x y k is
    ∙ (payload_at setup page pass Bytes packing y i row (omega arith)
    ∙ bytes_back setup.order format w (samples_at setup page pass y) x k column channel)
sample_read setup page pass has (inr (inr is)) x y k column row channel =
    let format = format_at setup pass in
    let c = channels_within format in
    let w = width_of setup in
    let b = bytes_per_line setup pass in
    let bytes = payload setup page pass in
    let packing : packing_of setup.scene.depth ≡ Words = ap packing_of is in
    let b_is : b ≡ 2 * (c * (w + setup.loss)) = ap (λ (p : Packing). line_size p c (w + setup.loss)) packing in
    let i = c * x + k in
    let under : i < c * w = (place_back format w x k column channel).1.1 in
    let more : c * (w + setup.loss) ≡ c * w + c * setup.loss = omega arith in
    let here : (part : ℕ) → part < 2 → slice_index bytes (y * b + (2 * i + part)) ≡ half setup.order part (samples_at setup page pass y x k) = λ part h.
    payload_at setup page pass Words packing y (2 * i + part) row (omega arith)
    ∙ words_back setup.order format w (samples_at setup page pass y) x k part h column channel in
    let first : slice_index bytes (y * b + 2 * i) ≡ half setup.order 0 (samples_at setup page pass y x k) = ap (slice_index bytes) (let e : y * b + 2 * i ≡ y * b + (2 * i + 0) = omega arith in e) ∙ here 0 (omega arith) in
    let second : slice_index bytes (y * b + 2 * i + 1) ≡ half setup.order 1 (samples_at setup page pass y x k) = ap (slice_index bytes) (let e : y * b + 2 * i + 1 ≡ y * b + (2 * i + 1) = omega arith in e) ∙ here 1 (omega arith) in
    wide_sample setup.order bytes b setup.scene.depth c x y k is
    ∙ halves setup.order bytes (y * b + 2 * i) (samples_at setup page pass y x k) first second

-- a sample of a frame is that of the picture's channel
pub shown_sample : (setup : Setup) (page : PageView) (pass : ℕ) → IsSetup setup → has_picture setup page ≡ true → (x y k : ℕ) → x < width_of setup → y < height_of setup page → k < channels_within (format_at setup pass) → frame_sample (channels_within (format_at setup pass)) (frame_of setup page pass) x y k ≡ samples_at setup page pass y x k
shown_sample setup page pass is has x y k column row channel =
    ap (λ (b : ℕ). read_sample setup.order (payload setup page pass) b setup.scene.depth (channels_within (format_at setup pass)) x y k) (picked setup page has (bytes_per_line setup pass))
    ∙ sample_read setup page pass has is.depth x y k column row channel

-- ---- the shape of a frame

-- a frame has room for its pixels
abbrev row_bytes : ℕ → ℕ → ℕ → ℕ
row_bytes c w depth = if depth == 1 then bit_row w else w * c * (depth / 8)

row_fits : (c w loss depth : ℕ) → (depth ≡ 1) ⊎ ((depth ≡ 8) ⊎ (depth ≡ 16)) → row_bytes c w depth ≤ line_size (packing_of depth) c (w + loss)
row_fits c w loss depth (inl is) = subst (λ (d : ℕ). row_bytes c w d ≤ line_size (packing_of d) c (w + loss)) (sym is) (omega arith)
row_fits c w loss depth (inr (inl is)) =
    let more : c * (w + loss) ≡ c * w + c * loss = omega arith in
    subst (λ (d : ℕ). row_bytes c w d ≤ line_size (packing_of d) c (w + loss)) (sym is) (omega arith)
row_fits c w loss depth (inr (inr is)) =
    let more : c * (w + loss) ≡ c * w + c * loss = omega arith in
    subst (λ (d : ℕ). row_bytes c w d ≤ line_size (packing_of d) c (w + loss)) (sym is) (omega arith)

-- the depths that a frame may have
any_depth : (m : FrameFormat) (depth : ℕ) → (depth ≡ 8) ⊎ (depth ≡ 16) → IsDepth m depth
any_depth GrayFrame depth h = inr h
any_depth RgbFrame depth h = h
any_depth RedFrame depth h = h
any_depth GreenFrame depth h = h
any_depth BlueFrame depth h = h

is_depth : (setup : Setup) (page : PageView) (pass : ℕ) → has_picture setup page ≡ true → (setup.scene.depth ≡ 1) ⊎ ((setup.scene.depth ≡ 8) ⊎ (setup.scene.depth ≡ 16)) → IsDepth (format_at setup pass) setup.scene.depth
is_depth setup page pass has (inl is) = subst (λ (m : FrameFormat). IsDepth m setup.scene.depth) (sym (bits_gray setup page pass has is)) (inl is)
is_depth setup page pass has (inr deeper) = any_depth (format_at setup pass) setup.scene.depth deeper

line_shape : (setup : Setup) (page : PageView) (pass : ℕ) → IsSetup setup → has_picture setup page ≡ true → HasLineShape (params_at setup page pass)
line_shape setup page pass is has =
    let sides = has_sides setup page has in
    let pixels = picked setup page has (width_of setup) in
    let bytes = picked setup page has (bytes_per_line setup pass) in
    let some = sides.width_some in
    let most = sides.width_most in
    let short = line_most setup page pass has is.loss in
    record {
      depth = is_depth setup page pass has is.depth;
      width_some = omega arith;
      width_most = omega arith;
      enough = subst (λ (n : ℕ). row_size (format_at setup pass) n setup.scene.depth ≤ if_picture (has_picture setup page) (bytes_per_line setup pass)) (sym pixels)
          (subst (λ (b : ℕ). row_size (format_at setup pass) (width_of setup) setup.scene.depth ≤ b) (sym bytes)
          (row_fits (channels_within (format_at setup pass)) (width_of setup) setup.loss setup.scene.depth is.depth));
      line_most = omega arith;
    }

has_lines : (kind : DeviceKind) (n : ℕ) → HasLines (lines_in_params kind n) n
has_lines Hand n = tt
has_lines _ n = refl

-- the picture that the frames are to show
abbrev pub meant : Setup → PageView → Picture
meant setup page = picture_of page setup.scene (width_of setup, height_of setup page)

pub is_meant : (setup : Setup) (page : PageView) → IsPageView page → ((i : ℕ) → slice_index setup.scene.gamma i < 2 ^ 8) → AreBytes setup.scene.channel_gamma → has_picture setup page ≡ true → IsPicture (meant setup page)
is_meant setup page page_view table channels has =
    is_picture page setup.scene (width_of setup, height_of setup page) page_view table channels (ap (λ (t : Bool). if t then Some (width_of setup, height_of setup page) else None) has)

fits : (setup : Setup) (page : PageView) (pass : ℕ) → IsSetup setup → IsPicture (meant setup page) → has_picture setup page ≡ true → FitsPicture (frame_of setup page pass) (meant setup page)
fits setup page pass is picture has = record {
  shape = line_shape setup page pass is has;
  is_picture = picture;
  width = sym (picked setup page has (width_of setup));
  height = subst (λ (t : Bool). HasLines (if t then lines_in_params setup.scene.kind (height_of setup page) else Some 0) (height_of setup page)) (sym has) (has_lines setup.scene.kind (height_of setup page));
  greatest = refl;
  size = length-joined (line_bytes setup page pass) (bytes_per_line setup pass) (height_of setup page) (length-line_bytes setup page pass)
      ∙ ap (λ (n : ℕ). height_of setup page * n) (sym (picked setup page has (bytes_per_line setup pass)));
}

-- ---- one frame

mode_channels : (m : Mode) → channels_alone (frame_format_of m) ≡ Some (channels_in m)
mode_channels Gray = refl
mode_channels Color = refl

mode_within : (m : Mode) → channels_within (frame_format_of m) ≡ channels_in m
mode_within Gray = refl
mode_within Color = refl

mode_channel : (m : Mode) (k : ℕ) → channel_in (frame_format_of m) k ≡ k
mode_channel Gray k = refl
mode_channel Color k = refl

pub shows_alone : (setup : Setup) (page : PageView) → IsSetup setup → IsPicture (meant setup page) → has_picture setup page ≡ true → takes_colors setup.scene.kind setup.scene.mode ≡ false → ShowsAlone (frame_of setup page 0) (meant setup page)
shows_alone setup page is picture has one =
    let mode = setup.scene.mode in
    let format : format_at setup 0 ≡ frame_format_of mode = ap (λ (t : Bool). if t then color_at setup.passes 0 else frame_format_of mode) one in
    let within : channels_within (format_at setup 0) ≡ channels_in mode = ap channels_within format ∙ mode_within mode in
    record {
      last = ap (λ (t : Bool). (if t then 2 else 0) == 0) one;
      channels = ap channels_alone format ∙ mode_channels mode;
      fits = fits setup page 0 is picture has;
      samples = λ x y k place.
          let channel : k < channels_within (format_at setup 0) = subst (λ (n : ℕ). k < n) (sym within) place.channel in
          ap (sample_of page setup.scene x y) (sym (ap (λ (f : FrameFormat). channel_in f k) format ∙ mode_channel mode k))
          ∙ (sym (shown_sample setup page 0 is has x y k place.column place.row channel)
          ∙ ap (λ (n : ℕ). frame_sample n (frame_of setup page 0) x y k) within);
    }

-- ---- three frames

-- the channel of a pass
abbrev pub pass_channel : PassOrder → ℕ → ℕ
pass_channel order pass = channel_in (color_at order pass) 0

channels_once : (order : PassOrder) → (pass_channel order 0 ≢ pass_channel order 1) × (pass_channel order 0 ≢ pass_channel order 2) × (pass_channel order 1 ≢ pass_channel order 2)
channels_once Rgb = (λ e. absurd (omega arith), λ e. absurd (omega arith), λ e. absurd (omega arith))
channels_once Rbg = (λ e. absurd (omega arith), λ e. absurd (omega arith), λ e. absurd (omega arith))
channels_once Gbr = (λ e. absurd (omega arith), λ e. absurd (omega arith), λ e. absurd (omega arith))
channels_once Grb = (λ e. absurd (omega arith), λ e. absurd (omega arith), λ e. absurd (omega arith))
channels_once Brg = (λ e. absurd (omega arith), λ e. absurd (omega arith), λ e. absurd (omega arith))
channels_once Bgr = (λ e. absurd (omega arith), λ e. absurd (omega arith), λ e. absurd (omega arith))

-- a frame of one color
pub record IsColor (format : FrameFormat) (channel : ℕ) : Type 0 where
  pub color : color_of format ≡ Some channel
  pub within : channels_within format ≡ 1
  pub channel_is : (k : ℕ) → channel_in format k ≡ channel

is_color : (order : PassOrder) (pass : ℕ) → (pass ≡ 0) ⊎ ((pass ≡ 1) ⊎ (pass ≡ 2)) → IsColor (color_at order pass) (pass_channel order pass)
is_color order pass (inl e) = subst (λ (p : ℕ). IsColor (color_at order p) (pass_channel order p)) (sym e) (first order)
  where
    first : (order : PassOrder) → IsColor (color_at order 0) (pass_channel order 0)
    first Rgb = record { color = refl; within = refl; channel_is = λ k. refl }
    first Rbg = record { color = refl; within = refl; channel_is = λ k. refl }
    first Gbr = record { color = refl; within = refl; channel_is = λ k. refl }
    first Grb = record { color = refl; within = refl; channel_is = λ k. refl }
    first Brg = record { color = refl; within = refl; channel_is = λ k. refl }
    first Bgr = record { color = refl; within = refl; channel_is = λ k. refl }
is_color order pass (inr (inl e)) = subst (λ (p : ℕ). IsColor (color_at order p) (pass_channel order p)) (sym e) (second order)
  where
    second : (order : PassOrder) → IsColor (color_at order 1) (pass_channel order 1)
    second Rgb = record { color = refl; within = refl; channel_is = λ k. refl }
    second Rbg = record { color = refl; within = refl; channel_is = λ k. refl }
    second Gbr = record { color = refl; within = refl; channel_is = λ k. refl }
    second Grb = record { color = refl; within = refl; channel_is = λ k. refl }
    second Brg = record { color = refl; within = refl; channel_is = λ k. refl }
    second Bgr = record { color = refl; within = refl; channel_is = λ k. refl }
is_color order pass (inr (inr e)) = subst (λ (p : ℕ). IsColor (color_at order p) (pass_channel order p)) (sym e) (third order)
  where
    third : (order : PassOrder) → IsColor (color_at order 2) (pass_channel order 2)
    third Rgb = record { color = refl; within = refl; channel_is = λ k. refl }
    third Rbg = record { color = refl; within = refl; channel_is = λ k. refl }
    third Gbr = record { color = refl; within = refl; channel_is = λ k. refl }
    third Grb = record { color = refl; within = refl; channel_is = λ k. refl }
    third Brg = record { color = refl; within = refl; channel_is = λ k. refl }
    third Bgr = record { color = refl; within = refl; channel_is = λ k. refl }

shows_color : (setup : Setup) (page : PageView) (pass : ℕ) (last : Bool) → IsSetup setup → IsPicture (meant setup page) → has_picture setup page ≡ true → setup.scene.kind ≡ ThreePass → setup.scene.mode ≡ Color → (pass ≡ 0) ⊎ ((pass ≡ 1) ⊎ (pass ≡ 2)) → (2 == pass) ≡ last → ShowsColor setup.order (frame_of setup page pass) (meant setup page) (pass_channel setup.passes pass) last
shows_color setup page pass last is picture has kind mode number at_last =
    let three : takes_colors setup.scene.kind setup.scene.mode ≡ true = ap (λ (k : DeviceKind). takes_colors k setup.scene.mode) kind ∙ ap (takes_colors ThreePass) mode in
    let format : format_at setup pass ≡ color_at setup.passes pass = ap (λ (t : Bool). if t then color_at setup.passes pass else frame_format_of setup.scene.mode) three in
    let color = is_color setup.passes pass number in
    let one : channels_within (format_at setup pass) ≡ 1 = ap channels_within format ∙ color.within in
    record {
      same_order = refl;
      last_is = ap (λ (t : Bool). (if t then 2 else 0) == pass) three ∙ at_last;
      color = ap color_of format ∙ color.color;
      lines_known = ap (λ (t : Bool). if t then lines_in_params setup.scene.kind (height_of setup page) else Some 0) has ∙ ap (λ (k : DeviceKind). lines_in_params k (height_of setup page)) kind;
      fits = fits setup page pass is picture has;
      samples = λ x y place.
          let channel : 0 < channels_within (format_at setup pass) = omega arith in
          ap (sample_of page setup.scene x y) (sym (ap (λ (f : FrameFormat). channel_in f 0) format ∙ color.channel_is 0))
          ∙ (sym (shown_sample setup page pass is has x y 0 place.column place.row channel)
          ∙ ap (λ (n : ℕ). frame_sample n (frame_of setup page pass) x y 0) one);
    }

pub shows_colors : (setup : Setup) (page : PageView) → IsSetup setup → IsPicture (meant setup page) → has_picture setup page ≡ true → setup.scene.kind ≡ ThreePass → setup.scene.mode ≡ Color → ShowsColors (frame_of setup page 0) (frame_of setup page 1) (frame_of setup page 2) (meant setup page)
shows_colors setup page is picture has kind mode = record {
  first = pass_channel setup.passes 0;
  second = pass_channel setup.passes 1;
  third = pass_channel setup.passes 2;
  each_once = channels_once setup.passes;
  channels = ap channels_in mode;
  first_shows = shows_color setup page 0 false is picture has kind mode (inl refl) refl;
  second_shows = shows_color setup page 1 false is picture has kind mode (inr (inl refl)) refl;
  third_shows = shows_color setup page 2 true is picture has kind mode (inr (inr refl)) refl;
}

-- ---- all frames

by_kind : (kind : DeviceKind) (mode : Mode) (setup : Setup) (page : PageView) → setup.scene.kind ≡ kind → setup.scene.mode ≡ mode → IsSetup setup → IsPicture (meant setup page) → has_picture setup page ≡ true → ShowsFrames (frames_of setup page) (meant setup page)
by_kind kind mode setup page k m is picture has =
    let frames : Bool → List Frame = λ t. if t then frame_of setup page 0 ∷ frame_of setup page 1 ∷ frame_of setup page 2 ∷ [] else frame_of setup page 0 ∷ [] in
    let takes : takes_colors setup.scene.kind setup.scene.mode ≡ takes_colors kind mode = ap (λ (k : DeviceKind). takes_colors k setup.scene.mode) k ∙ ap (takes_colors kind) m in
    let alone : takes_colors kind mode ≡ false → ShowsFrames (frames_of setup page) (meant setup page) =
    λ one. subst (λ (t : Bool). ShowsFrames (frames t) (meant setup page)) (sym (takes ∙ one)) (shows_alone setup page is picture has (takes ∙ one)) in
    let three : kind ≡ ThreePass → mode ≡ Color → ShowsFrames (frames_of setup page) (meant setup page) =
    λ a b. subst (λ (t : Bool). ShowsFrames (frames t) (meant setup page)) (sym (takes ∙ (ap (λ (k : DeviceKind). takes_colors k mode) a ∙ ap (takes_colors ThreePass) b))) (shows_colors setup page is picture has (k ∙ a) (m ∙ b)) in
    cases kind mode alone three
  where
    cases : (kind : DeviceKind) (mode : Mode) → (takes_colors kind mode ≡ false → ShowsFrames (frames_of setup page) (meant setup page)) → (kind ≡ ThreePass → mode ≡ Color → ShowsFrames (frames_of setup page) (meant setup page)) → ShowsFrames (frames_of setup page) (meant setup page)
    cases ThreePass Gray alone three = alone refl
    cases ThreePass Color alone three = three refl refl
    cases _ mode alone three = alone refl

pub shows_frames : (setup : Setup) (page : PageView) → IsSetup setup → IsPageView page → ((i : ℕ) → slice_index setup.scene.gamma i < 2 ^ 8) → AreBytes setup.scene.channel_gamma → has_picture setup page ≡ true → ShowsFrames (frames_of setup page) (meant setup page)
shows_frames setup page is page_view table channels has =
    by_kind setup.scene.kind setup.scene.mode setup page refl refl is (is_meant setup page page_view table channels has) has
