-- Lines that show the bytes of a row.
use Rattle.std.proofs.Common.{◌≡◌, ℕ, ◌<◌, ◌≤◌, ◌+◌, ◌-◌, ◌*◌, ◌/◌, ◌%◌, Bool, true, false, List, [], ◌++◌, length, drop, get_or, arith, refl, sym, ap, ◌∙◌, subst}
use Rattle.std.specs.Prelude.{nat_lt, ◌==◌, slice_index, if◌then◌else◌}
use Rattle.std.proofs.Common.{length-append, length-drop}
use Rattle.std.proofs.lemmas.Bool.Decides.{nat_tests}
use Rattle.netpbm.specs.FileText.{binary, bits_byte}
use Rattle.std.proofs.lemmas.List.{get_or-drop, get_or_append_left, get_or-append_right}
use Rattle.page_picture.specs.Page.{PageView, page_sample_at}
use Rattle.page_picture.specs.Columns.{Columns, IsRun, columns_of, place_at}
use Rattle.page_picture.specs.Source.{SourceState, bytes_in, sample_byte}
use Rattle.page_picture.specs.declared.sources.SampleBytes.{SampleBytes}
use Rattle.page_picture.specs.declared.sources.SampleBytes.TheVariants.{Upper, Both}
use Rattle.sane_fixed.specs.declared.byte_order.ByteOrder.{ByteOrder}
use Rattle.sane_fixed.specs.declared.byte_order.ByteOrder.TheVariants.{Big}
use Rattle.page_picture.specs.Seen.{column_seen, row_seen, seen_at, dot_at}
use Rattle.page_picture.specs.Tone.{tone, brightness, in_channel}
use Rattle.page_picture.specs.Meaning.{sample_of}
use Rattle.page_picture.specs.Shows.{channels_within}
use Rattle.page_picture.specs.declared.scene.Scene.{Scene}
use Rattle.page_picture.specs.declared.scene.Mode.{Mode}
use Rattle.page_picture.specs.declared.scene.Mode.TheVariants.{Gray, Color}
use Rattle.sane_fixed.specs.declared.frame_format.FrameFormat.{FrameFormat}
use Rattle.sane_fixed.specs.declared.frame_format.FrameFormat.TheVariants.{Gray as GrayFrame, Rgb as RgbFrame}
use Rattle.scan_frames.specs.declared.setup.Packing.{Packing}
use Rattle.scan_frames.specs.declared.setup.Packing.TheVariants.{Bits, Bytes, Words}
use Rattle.scan_frames.specs.declared.setup.Setup.{Setup}
use Rattle.scan_frames.specs.Line.{packing_of, line_of}
use Rattle.scan_frames.specs.Frames.{width_of, channel_in, format_at, bytes_per_line, line_bytes}
use Rattle.scan_frames.specs.Samples.{HasZeros}
use Rattle.scan_frames.specs.Tables.{AreComposed}
use Rattle.scan_frames.proofs.Lines.{line_from_samples, line_is, binary_same, tone_bytes}
use Rattle.scan_frames.proofs.Grays.{tone_of_bits}
use Rattle.scan_frames.specs.Inside.{IsPlain, IsSame, HasSample, PutsGrays, PutsColors, PutsGrayBits, PutsChannel, ShowsChannel, AreAsTheyAre, MakesOfRow, black, black_in, blacks_in}
use Rattle.scan_frames.proofs.Scans.{brightness-same, some_channels, three_channels}
use Rattle.scan_frames.proofs.Seen.{on_page}
use Rattle.scan_frames.proofs.Zeros.{bits_past}

-- what the picture has where it shows a place of the page
sample_on_page : (page : PageView) (scene : Scene) (x y k place row : ℕ) → column_seen scene page.dpi x ≡ place → place < page.width → row_seen scene page.dpi y ≡ row → row < page.height → k < 3
    → sample_of page scene x y k ≡ in_channel scene.mode scene.depth scene.channel_gamma k (tone scene.depth scene.gamma (brightness scene.mode (λ i. page_sample_at page place row i) k))
unfolding sample_of
sample_on_page page scene x y k place row column inside height on less =
    ap (λ v. in_channel scene.mode scene.depth scene.channel_gamma k (tone scene.depth scene.gamma v)) (brightness-same scene.mode (seen_at page scene x y) (λ i. page_sample_at page place row i) k less (λ i few.
    ap (λ (c : ℕ). dot_at page c (row_seen scene page.dpi y) i) column ∙ ap (λ (r : ℕ). dot_at page place r i) height ∙ on_page page place row i inside on))

-- a column of a run
pub column_of_run : (scene : Scene) (page : PageView) (x place : ℕ) → place_at (columns_of scene page.width page.dpi) x ≡ place → place < page.width → column_seen scene page.dpi x ≡ place
column_of_run scene page x place at inside =
    let d = column_seen scene page.dpi x in
    let P : Bool → Type 0 = λ t. (if t then d else page.width) ≡ place → d ≡ place in
    elim (nat_lt d page.width) as P [ true ↦ λ e. e | false ↦ λ e. absurd (omega arith) ] at

-- the sample of a byte of gray
pub gray_on_page : (page : PageView) (scene : Scene) (x y k place row : ℕ) → packing_of scene.depth ≡ Bytes → scene.mode ≡ Gray → column_seen scene page.dpi x ≡ place → place < page.width → row_seen scene page.dpi y ≡ row → row < page.height → k < 3
    → sample_of page scene x y k ≡ slice_index scene.gamma (brightness Gray (λ i. page_sample_at page place row i) 0 / 256)
gray_on_page page scene x y k place row packing mode column inside height on less =
    sample_on_page page scene x y k place row column inside height on less
    ∙ ap (λ (m : Mode). in_channel m scene.depth scene.channel_gamma k (tone scene.depth scene.gamma (brightness m (λ i. page_sample_at page place row i) k))) mode
    ∙ tone_bytes scene.depth scene.gamma (brightness Gray (λ i. page_sample_at page place row i) k) packing

channel_bytes : (depth : ℕ) (tables : List (List ℕ)) (k v : ℕ) → packing_of depth ≡ Bytes → in_channel Color depth tables k v ≡ slice_index (get_or tables k []) v
channel_bytes depth tables k v packing =
    let P : Bool → Bool → Type 0 = λ a b. (if a then Words else (if b then Bytes else Bits)) ≡ Bytes → (if b then slice_index (get_or tables k []) v else v) ≡ slice_index (get_or tables k []) v in
    (elim (depth == 16) as (λ a. P a (depth == 8)) [
      | true ↦ λ e. cc
      | false ↦ elim (depth == 8) as (λ b. P false b) [ true ↦ λ e. refl | false ↦ λ e. cc ]
    ]) packing

-- the sample of a byte of color that its channel's table does not change
byte_on_page : (page : PageView) (scene : Scene) (tables : List (List ℕ)) (x y k place row : ℕ) → packing_of scene.depth ≡ Bytes → scene.mode ≡ Color → AreComposed scene tables → IsSame (get_or tables k []) → column_seen scene page.dpi x ≡ place → place < page.width → row_seen scene page.dpi y ≡ row → row < page.height → k < 3
    → page_sample_at page place row k / 256 < 256 → sample_of page scene x y k ≡ page_sample_at page place row k / 256
byte_on_page page scene tables x y k place row packing mode composed same column inside height on less small =
    let v = page_sample_at page place row k in
    sample_on_page page scene x y k place row column inside height on less
    ∙ ap (λ (m : Mode). in_channel m scene.depth scene.channel_gamma k (tone scene.depth scene.gamma (brightness m (λ i. page_sample_at page place row i) k))) mode
    ∙ ap (in_channel Color scene.depth scene.channel_gamma k) (tone_bytes scene.depth scene.gamma v packing)
    ∙ channel_bytes scene.depth scene.channel_gamma k (slice_index scene.gamma (v / 256)) packing
    ∙ sym (composed k (v / 256) less small)
    ∙ same (v / 256) small

-- the sample of a byte of color that no table changes
pub color_on_page : (page : PageView) (scene : Scene) (tables : List (List ℕ)) (x y k place row : ℕ) → packing_of scene.depth ≡ Bytes → scene.mode ≡ Color → AreComposed scene tables → IsPlain tables → column_seen scene page.dpi x ≡ place → place < page.width → row_seen scene page.dpi y ≡ row → row < page.height → k < 3
    → page_sample_at page place row k / 256 < 256 → sample_of page scene x y k ≡ page_sample_at page place row k / 256
color_on_page page scene tables x y k place row packing mode composed plain column inside height on less small =
    byte_on_page page scene tables x y k place row packing mode composed (λ v few. plain k v less few) column inside height on less small

-- samples of two bytes are of depth 16
depth_of_words : (depth : ℕ) → packing_of depth ≡ Words → depth ≡ 16
depth_of_words depth packing =
    let P : Bool → Bool → Type 0 = λ a b. (if a then Words else (if b then Bytes else Bits)) ≡ Words → a ≡ true in
    let is : (depth == 16) ≡ true = (elim (depth == 16) as (λ a. P a (depth == 8)) [
      | true ↦ λ e. refl
      | false ↦ elim (depth == 8) as (λ b. P false b) [ true ↦ λ e. cc | false ↦ λ e. cc ]
    ]) packing in
    grind (arith, nat_tests, is)

-- the sample of a color of two bytes
tone_words : (depth : ℕ) (table : List ℕ) (tables : List (List ℕ)) (k v : ℕ) → packing_of depth ≡ Words → in_channel Color depth tables k (tone depth table v) ≡ v
tone_words depth table tables k v packing =
    subst (λ (d : ℕ). in_channel Color d tables k (tone d table v) ≡ v) (sym (depth_of_words depth packing)) refl

word_on_page : (page : PageView) (scene : Scene) (x y k place row : ℕ) → packing_of scene.depth ≡ Words → scene.mode ≡ Color → column_seen scene page.dpi x ≡ place → place < page.width → row_seen scene page.dpi y ≡ row → row < page.height → k < 3
    → sample_of page scene x y k ≡ page_sample_at page place row k
word_on_page page scene x y k place row packing mode column inside height on less =
    sample_on_page page scene x y k place row column inside height on less
    ∙ ap (λ (m : Mode). in_channel m scene.depth scene.channel_gamma k (tone scene.depth scene.gamma (brightness m (λ i. page_sample_at page place row i) k))) mode
    ∙ tone_words scene.depth scene.gamma scene.channel_gamma k (page_sample_at page place row k) packing

-- a line that shows the picture at each place
samples_shown : (setup : Setup) (page : PageView) (pass y : ℕ) (line : List ℕ) (p : Packing) → packing_of setup.scene.depth ≡ p → (p ≡ Bits → ⊥) → length line ≡ bytes_per_line setup pass → HasZeros (packing_of setup.scene.depth) (channels_within (format_at setup pass) * width_of setup) line
    → ((x k : ℕ) → x < width_of setup → k < channels_within (format_at setup pass) → HasSample p setup.order line (channels_within (format_at setup pass) * x + k) (sample_of page setup.scene x y (channel_in (format_at setup pass) k))) → line ≡ line_bytes setup page pass y
samples_shown setup page pass y line p packing not size zeros each =
    let format = format_at setup pass in
    let at : ℕ → ℕ → ℕ = λ x k. sample_of page setup.scene x y (channel_in format k) in
    subst (λ (p : Packing). line ≡ line_of p setup.order (channels_within format) (width_of setup) at (bytes_per_line setup pass)) (sym packing)
    (line_from_samples p setup.order format (width_of setup) at line (bytes_per_line setup pass) size not each (subst (λ (p : Packing). HasZeros p (channels_within format * width_of setup) line) packing zeros))

-- a line of bytes that shows the picture at each place
pub shown_line : (setup : Setup) (page : PageView) (pass y : ℕ) (line : List ℕ) → packing_of setup.scene.depth ≡ Bytes → length line ≡ bytes_per_line setup pass → HasZeros (packing_of setup.scene.depth) (channels_within (format_at setup pass) * width_of setup) line
    → ((x k : ℕ) → x < width_of setup → k < channels_within (format_at setup pass) → slice_index line (channels_within (format_at setup pass) * x + k) ≡ sample_of page setup.scene x y (channel_in (format_at setup pass) k)) → line ≡ line_bytes setup page pass y
shown_line setup page pass y line packing size zeros each = samples_shown setup page pass y line Bytes packing (λ e. cc) size zeros each

-- ---- a line whose front was put

behind_front : (count : ℕ) (part line : List ℕ) (j : ℕ) → length part ≡ count → count ≤ j → slice_index (part ++ drop count line) j ≡ slice_index line j
behind_front count part line j size past =
    let place : count + (j - count) ≡ j = omega arith in
    get_or-append_right part (drop count line) count j 0 size past ∙ (get_or-drop count line (j - count) 0 ∙ ap (slice_index line) place)

zeros_behind : (p : Packing) (count : ℕ) (part line : List ℕ) → p ≡ Bytes → length part ≡ count → HasZeros p count line → HasZeros p count (part ++ drop count line)
zeros_behind Bits count part line is size zeros = tt
zeros_behind Words count part line is size zeros = cc is
zeros_behind Bytes count part line is size zeros = λ j past. behind_front count part line j size past ∙ zeros j past

length_front : (count : ℕ) (part line : List ℕ) → length part ≡ count → count ≤ length line → length (part ++ drop count line) ≡ length line
length_front count part line size room = length-append part (drop count line) ∙ (let rest = length-drop count line in omega arith)

-- a line in gray whose front was put of the next row's bytes
pub gray_made : (s t : SourceState) (setup : Setup) (pass first : ℕ) (columns : Columns) (part line : List ℕ) → packing_of setup.scene.depth ≡ Bytes → setup.scene.mode ≡ Gray → format_at setup pass ≡ GrayFrame
    → columns ≡ columns_of setup.scene s.page.width s.page.dpi → IsRun columns → first ≡ columns.left → ((x : ℕ) → x < columns.count → place_at columns x ≡ first + x) → length part ≡ columns.count → columns.count ≤ length line → length line ≡ bytes_per_line setup pass
    → HasZeros (packing_of setup.scene.depth) (channels_within (format_at setup pass) * columns.count) line → PutsGrays s setup.scene.gamma first t part → MakesOfRow s setup pass t (part ++ drop columns.count line)
gray_made s t setup pass first columns part line packing mode gray of run left places size room long zeros put =
    let format = format_at setup pass in
    let whole = part ++ drop columns.count line in
    let one : channels_within format ≡ 1 = ap channels_within gray in
    let count : columns.count ≡ width_of setup = ap (λ (c : Columns). c.count) of in
    let wide : columns.width ≡ s.page.width = ap (λ (c : Columns). c.width) of in
    let all : channels_within format * columns.count ≡ columns.count = ap (λ n. n * columns.count) one ∙ omega arith in
    let same : columns.count ≡ channels_within format * width_of setup = sym all ∙ ap (λ n. channels_within format * n) count in
    let behind : HasZeros (packing_of setup.scene.depth) (channels_within format * width_of setup) whole =
    subst (λ n. HasZeros (packing_of setup.scene.depth) n whole) same (zeros_behind (packing_of setup.scene.depth) columns.count part line packing size (subst (λ n. HasZeros (packing_of setup.scene.depth) n line) all zeros)) in
    record {
      more = put.more;
      after = put.after;
      bytes = λ steady y height. shown_line setup s.page pass y whole packing (length_front columns.count part line size room ∙ long) behind (λ x k less channel.
          let first_one : channels_within format * x + k ≡ x = ap (λ n. n * x + k) one ∙ omega arith in
          let within : x < length part = omega arith in
          let inside : first + x < s.page.width = let end = run.inside in omega arith in
          let column = column_of_run setup.scene s.page x (first + x) (sym (ap (λ (c : Columns). place_at c x) of) ∙ places x (omega arith)) inside in
          ap (slice_index whole) first_one
          ∙ (get_or_append_left part (drop columns.count line) 0 x within
          ∙ (put.here steady x within
          ∙ sym (gray_on_page s.page setup.scene x y (channel_in format k) (first + x) s.given packing mode column inside height put.more (three_channels format k channel)))));
    }

-- a line in color
pub color_made : (s t : SourceState) (setup : Setup) (pass first : ℕ) (tables : List (List ℕ)) (columns : Columns) (part line : List ℕ) (n : ℕ) → packing_of setup.scene.depth ≡ Bytes → setup.scene.mode ≡ Color → format_at setup pass ≡ RgbFrame → AreComposed setup.scene tables → IsPlain tables
    → columns ≡ columns_of setup.scene s.page.width s.page.dpi → IsRun columns → first ≡ columns.left → ((x : ℕ) → x < columns.count → place_at columns x ≡ first + x) → n ≡ 3 * columns.count → length part ≡ n → n ≤ length line → length line ≡ bytes_per_line setup pass → ((i : ℕ) → slice_index (part ++ drop n line) i < 256)
    → HasZeros (packing_of setup.scene.depth) (channels_within (format_at setup pass) * columns.count) line → PutsColors s first t part → MakesOfRow s setup pass t (part ++ drop n line)
color_made s t setup pass first tables columns part line n packing mode rgb composed plain of run left places number size room long small zeros put =
    let format = format_at setup pass in
    let whole = part ++ drop n line in
    let three : channels_within format ≡ 3 = ap channels_within rgb in
    let count : columns.count ≡ width_of setup = ap (λ (c : Columns). c.count) of in
    let wide : columns.width ≡ s.page.width = ap (λ (c : Columns). c.width) of in
    let all : channels_within format * columns.count ≡ n = ap (λ m. m * columns.count) three ∙ sym number in
    let same : n ≡ channels_within format * width_of setup = sym all ∙ ap (λ m. channels_within format * m) count in
    let behind : HasZeros (packing_of setup.scene.depth) (channels_within format * width_of setup) whole =
    subst (λ m. HasZeros (packing_of setup.scene.depth) m whole) same (zeros_behind (packing_of setup.scene.depth) n part line packing size (subst (λ m. HasZeros (packing_of setup.scene.depth) m line) all zeros)) in
    record {
      more = put.more;
      after = put.after;
      bytes = λ steady y height. shown_line setup s.page pass y whole packing (length_front n part line size room ∙ long) behind (λ x k less channel.
          let few : k < 3 = omega (arith, channel, three) in
          let at : channels_within format * x + k ≡ 3 * x + k = ap (λ m. m * x + k) three in
          let within : 3 * x + k < length part = omega arith in
          let inside : first + x < s.page.width = let end = run.inside in omega arith in
          let column = column_of_run setup.scene s.page x (first + x) (sym (ap (λ (c : Columns). place_at c x) of) ∙ places x (omega arith)) inside in
          let shown = get_or_append_left part (drop n line) 0 (3 * x + k) within ∙ put.here steady x k few within in
          ap (slice_index whole) at
          ∙ (shown
          ∙ (sym (color_on_page s.page setup.scene tables x y k (first + x) s.given packing mode composed plain column inside height put.more few (subst (λ v. v < 256) shown (small (3 * x + k))))
          ∙ ap (λ (f : FrameFormat). sample_of s.page setup.scene x y (channel_in f k)) (sym rgb))));
    }

-- ---- one channel

-- the bytes of a sample of two
both_first : (at : ℕ → ℕ) (x : ℕ) → sample_byte Both at (2 * x) ≡ at x / 256
both_first at x =
    let whole : 2 * x % 2 ≡ 0 = omega arith in
    let even : (2 * x % 2 == 0) ≡ true = grind (arith, nat_tests, whole) in
    let place : 2 * x / 2 ≡ x = omega arith in
    ap (λ t. if t then at (2 * x / 2) / 256 else at (2 * x / 2) % 256) even ∙ ap (λ i. at i / 256) place

both_second : (at : ℕ → ℕ) (x : ℕ) → sample_byte Both at (2 * x + 1) ≡ at x % 256
both_second at x =
    let rest : (2 * x + 1) % 2 ≡ 1 = omega arith in
    let odd : ((2 * x + 1) % 2 == 0) ≡ false = grind (arith, nat_tests, rest) in
    let place : (2 * x + 1) / 2 ≡ x = omega arith in
    ap (λ t. if t then at ((2 * x + 1) / 2) / 256 else at ((2 * x + 1) / 2) % 256) odd ∙ ap (λ i. at i % 256) place

-- a line of one channel whose bytes are those of the next row
pub channel_made : (s t : SourceState) (setup : Setup) (pass : ℕ) (tables : List (List ℕ)) (which : SampleBytes) (channel first : ℕ) (columns : Columns) (line : List ℕ) → ShowsChannel setup pass tables which channel → AreComposed setup.scene tables
    → columns ≡ columns_of setup.scene s.page.width s.page.dpi → IsRun columns → first ≡ columns.left → ((x : ℕ) → x < columns.count → place_at columns x ≡ first + x) → length line ≡ bytes_per_line setup pass → ((i : ℕ) → slice_index line i < 256)
    → HasZeros (packing_of setup.scene.depth) (channels_within (format_at setup pass) * columns.count) line → PutsChannel s (record { which = which; channel = channel; first = first }) columns.count t line → MakesOfRow s setup pass t line
channel_made s t setup pass tables which channel first columns line shows composed of run left places size small zeros put = record {
  more = put.more;
  after = put.after;
  bytes = λ steady y height. by_bytes which shows.shown put.here steady y height;
}
  where
    format : FrameFormat
    format = format_at setup pass

    count : columns.count ≡ width_of setup
    count = ap (λ (c : Columns). c.count) of

    behind : HasZeros (packing_of setup.scene.depth) (channels_within format * width_of setup) line
    behind = subst (λ n. HasZeros (packing_of setup.scene.depth) (channels_within format * n) line) count zeros

    place : (x k : ℕ) → k < channels_within format → channels_within format * x + k ≡ x
    place x k less = ap (λ n. n * x + k) shows.one ∙ (let none : k < 1 = subst (λ n. k < n) shows.one less in omega (arith, none))

    own : (k : ℕ) → k < channels_within format → channel ≡ channel_in format k
    own k less = shows.channel_is ∙ ap (channel_in format) (let none : k < 1 = subst (λ n. k < n) shows.one less in omega (arith, none))

    inside : (x : ℕ) → x < width_of setup → first + x < s.page.width
    inside x less = let end = run.inside in let wide : columns.width ≡ s.page.width = ap (λ (c : Columns). c.width) of in omega (arith, end, wide, less, left, count)

    seen : (x : ℕ) → x < width_of setup → column_seen setup.scene s.page.dpi x ≡ first + x
    seen x less = column_of_run setup.scene s.page x (first + x) (sym (ap (λ (c : Columns). place_at c x) of) ∙ places x (omega (arith, less, count))) (inside x less)

    by_bytes : (which : SampleBytes) → AreAsTheyAre setup tables which channel → (s.steady ≡ true → (j : ℕ) → j < bytes_in which * columns.count → slice_index line j ≡ sample_byte which (λ x. page_sample_at s.page (first + x) s.given channel) j)
        → s.steady ≡ true → (y : ℕ) → row_seen setup.scene s.page.dpi y ≡ s.given → line ≡ line_bytes setup s.page pass y
    by_bytes Upper as_is here steady y height = samples_shown setup s.page pass y line Bytes as_is.0 (λ e. cc) size behind (λ x k less only.
        let is = here steady x (omega (arith, less, count)) in
        ap (slice_index line) (place x k only)
        ∙ (is
        ∙ (sym (byte_on_page s.page setup.scene tables x y channel (first + x) s.given as_is.0 shows.mode composed as_is.1 (seen x less) (inside x less) height put.more shows.few (subst (λ v. v < 256) is (small x)))
        ∙ ap (sample_of s.page setup.scene x y) (own k only))))
    by_bytes Both as_is here steady y height = samples_shown setup s.page pass y line Words as_is.0 (λ e. cc) size behind (λ x k less only.
        let at : ℕ → ℕ = λ x. page_sample_at s.page (first + x) s.given channel in
        let v = page_sample_at s.page (first + x) s.given channel in
        let halves : HasSample Words Big line x v = (
          here steady (2 * x) (omega (arith, less, count)) ∙ both_first at x,
          here steady (2 * x + 1) (omega (arith, less, count)) ∙ both_second at x,
        ) in
        let value : v ≡ sample_of s.page setup.scene x y (channel_in format k) =
        sym (word_on_page s.page setup.scene x y channel (first + x) s.given as_is.0 shows.mode (seen x less) (inside x less) height put.more shows.few)
        ∙ ap (sample_of s.page setup.scene x y) (own k only) in
        subst (λ (o : ByteOrder). HasSample Words o line (channels_within format * x + k) (sample_of s.page setup.scene x y (channel_in format k))) (sym as_is.1)
        (subst (λ (i : ℕ). HasSample Words Big line i (sample_of s.page setup.scene x y (channel_in format k))) (sym (place x k only))
        (subst (λ (w : ℕ). HasSample Words Big line x w) value halves)))

-- ---- bits of bytes

-- the byte of eight bytes, by the bit of each
pub blacks_of : (bytes : List ℕ) (b : ℕ) (f : ℕ → ℕ) → 8 * b + 8 ≤ length bytes → ((j : ℕ) → j < 8 → f j ≡ black (slice_index bytes (8 * b + j))) → binary f 8 ≡ blacks_in bytes b
unfolding blacks_in black_in
blacks_of bytes b f room each =
    binary_same f (λ j. if nat_lt (8 * b + j) (length bytes) then black (slice_index bytes (8 * b + j)) else 0) 8 (λ j less.
    let inside : nat_lt (8 * b + j) (length bytes) ≡ true = grind (arith, nat_tests) in
    each j less ∙ sym (ap (λ t. if t then black (slice_index bytes (8 * b + j)) else 0) inside))

-- behind the last byte
pub blacks_behind : (bytes : List ℕ) (b : ℕ) → length bytes ≤ 8 * b → blacks_in bytes b ≡ 0
unfolding blacks_in black_in
blacks_behind bytes b past = bits_past (length bytes) (λ x. black (slice_index bytes x)) b (omega arith)

-- the bits of a row of grays
pub bits_put : (s t : SourceState) (table : List ℕ) (first count : ℕ) (grays line : List ℕ) → length grays ≡ count → PutsGrays s table first t grays → ((b : ℕ) → b < length line → slice_index line b ≡ blacks_in grays b) → PutsGrayBits s table first count t line
unfolding blacks_in black_in
bits_put s t table first count grays line size put bits =
    let shown : ℕ → ℕ = λ x. slice_index table (brightness Gray (λ k. page_sample_at s.page (first + x) s.given k) 0 / 256) in
    record {
      more = put.more;
      after = put.after;
      here = λ steady b less.
          let P : ℕ → ℕ → Type 0 = λ n x. (if nat_lt x n then black (slice_index grays x) else 0) ≡ (if nat_lt x n then black (shown x) else 0) in
          let each : (x : ℕ) → P (length grays) x = λ x. elim (nat_lt x (length grays)) as (λ t. nat_lt x (length grays) ≡ t → (if t then black (slice_index grays x) else 0) ≡ (if t then black (shown x) else 0)) [
            | true ↦ λ e. ap black (put.here steady x (grind (arith, nat_tests)))
            | false ↦ λ e. refl
          ] refl in
          bits b less
          ∙ (binary_same (λ j. if nat_lt (8 * b + j) (length grays) then black (slice_index grays (8 * b + j)) else 0) (λ j. if nat_lt (8 * b + j) (length grays) then black (shown (8 * b + j)) else 0) 8 (λ j less. each (8 * b + j))
          ∙ ap (λ n. bits_byte n (λ x. black (shown x)) b) size);
    }

-- the sample of a bit
bit_on_page : (page : PageView) (scene : Scene) (x y k place row : ℕ) → packing_of scene.depth ≡ Bits → scene.mode ≡ Gray → column_seen scene page.dpi x ≡ place → place < page.width → row_seen scene page.dpi y ≡ row → row < page.height → k < 3
    → sample_of page scene x y k ≡ black (slice_index scene.gamma (brightness Gray (λ i. page_sample_at page place row i) 0 / 256))
bit_on_page page scene x y k place row packing mode column inside height on less =
    sample_on_page page scene x y k place row column inside height on less
    ∙ ap (λ (m : Mode). in_channel m scene.depth scene.channel_gamma k (tone scene.depth scene.gamma (brightness m (λ i. page_sample_at page place row i) k))) mode
    ∙ tone_of_bits scene.depth scene.gamma (brightness Gray (λ i. page_sample_at page place row i) 0) packing

-- a line of bits that shows the picture at each place
pub bits_made : (s t : SourceState) (setup : Setup) (pass first : ℕ) (columns : Columns) (line : List ℕ) → packing_of setup.scene.depth ≡ Bits → setup.scene.mode ≡ Gray
    → columns ≡ columns_of setup.scene s.page.width s.page.dpi → IsRun columns → first ≡ columns.left → ((x : ℕ) → x < columns.count → place_at columns x ≡ first + x) → length line ≡ bytes_per_line setup pass
    → PutsGrayBits s setup.scene.gamma first columns.count t line → MakesOfRow s setup pass t line
bits_made s t setup pass first columns line packing mode of run left places long put =
    let format = format_at setup pass in
    let count : columns.count ≡ width_of setup = ap (λ (c : Columns). c.count) of in
    let wide : columns.width ≡ s.page.width = ap (λ (c : Columns). c.width) of in
    let shown : ℕ → ℕ = λ x. black (slice_index setup.scene.gamma (brightness Gray (λ k. page_sample_at s.page (first + x) s.given k) 0 / 256)) in
    record {
      more = put.more;
      after = put.after;
      bytes = λ steady y height.
          let at : ℕ → ℕ → ℕ = λ x k. sample_of s.page setup.scene x y (channel_in format k) in
          let each : (x : ℕ) → (if nat_lt x columns.count then shown x else 0) ≡ (if nat_lt x columns.count then at x 0 else 0) = λ x. elim (nat_lt x columns.count) as (λ t. nat_lt x columns.count ≡ t → (if t then shown x else 0) ≡ (if t then at x 0 else 0)) [
            | true ↦ λ e.
                let less : x < columns.count = grind (arith, nat_tests) in
                let inside : first + x < s.page.width = let end = run.inside in omega arith in
                let column = column_of_run setup.scene s.page x (first + x) (sym (ap (λ (c : Columns). place_at c x) of) ∙ places x less) inside in
                sym (bit_on_page s.page setup.scene x y (channel_in format 0) (first + x) s.given packing mode column inside height put.more (three_channels format 0 (some_channels format)))
            | false ↦ λ e. refl
          ] refl in
          subst (λ (p : Packing). line ≡ line_of p setup.order (channels_within format) (width_of setup) at (bytes_per_line setup pass)) (sym packing)
          (line_is Bits setup.order (channels_within format) (width_of setup) at (bytes_per_line setup pass) line long (λ b less.
          put.here steady b (subst (λ n. b < n) (sym long) less)
          ∙ (binary_same (λ j. if nat_lt (8 * b + j) columns.count then shown (8 * b + j) else 0) (λ j. if nat_lt (8 * b + j) columns.count then at (8 * b + j) 0 else 0) 8 (λ j less. each (8 * b + j))
          ∙ ap (λ n. bits_byte n (λ x. at x 0) b) count)));
    }
