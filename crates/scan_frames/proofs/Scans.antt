-- A frame from line to line.
use Rattle.std.proofs.Common.{◌≡◌, ℕ, ◌<◌, ◌≤◌, ◌+◌, ◌-◌, ◌*◌, ◌/◌, ◌%◌, inl, inr, Bool, true, false, List, ◌++◌, length, take, drop, get_or, arith, refl, sym, ap, ◌∙◌, subst, length-drop}
use Rattle.std.specs.Prelude.{nat_lt, slice_index, if◌then◌else◌}
use Rattle.std.proofs.lemmas.Bool.{cases_lt}
use Rattle.std.proofs.lemmas.Bool.Decides.{nat_tests}
use Rattle.std.proofs.lemmas.List.{ext_get_or, get_or-take, get_or-drop, length-take-le}
use Rattle.std.proofs.lemmas.Nat.{le-div, mul-le, mod-mul-add}
use Rattle.std.proofs.Math.Nat.{div-mul-le_self}
use Rattle.std.proofs.Math.Seq.{take-append_seam}
use Rattle.netpbm.specs.FileText.{concat_up_to}
use Rattle.netpbm.proofs.WritingLaws.{joined_at, length-joined}
use Rattle.sane_fixed.specs.declared.byte_order.ByteOrder.{ByteOrder}
use Rattle.sane_fixed.specs.declared.frame_format.FrameFormat.{FrameFormat}
use Rattle.sane_fixed.specs.declared.frame_format.FrameFormat.TheVariants.{Gray as GrayFrame, Rgb as RgbFrame, Red as RedFrame, Green as GreenFrame, Blue as BlueFrame}
use Rattle.page_picture.specs.Page.{PageView}
use Rattle.page_picture.specs.Extent.{top_of}
use Rattle.page_picture.specs.Seen.{dot_at, seen_at, row_seen, column_seen}
use Rattle.page_picture.specs.Tone.{tone, brightness, in_channel}
use Rattle.page_picture.specs.Meaning.{sample_of}
use Rattle.page_picture.specs.Columns.{Columns, columns_of, place_at}
use Rattle.page_picture.specs.Shows.{channels_within}
use Rattle.page_picture.specs.Source.{SourceState}
use Rattle.page_picture.specs.declared.scene.Scene.{Scene}
use Rattle.page_picture.specs.declared.scene.Mode.{Mode}
use Rattle.page_picture.specs.declared.scene.Mode.TheVariants.{Gray, Color}
use Rattle.scan_frames.specs.declared.setup.Packing.{Packing}
use Rattle.scan_frames.specs.declared.setup.Packing.TheVariants.{Bits, Bytes, Words}
use Rattle.scan_frames.specs.declared.setup.Setup.{Setup}
use Rattle.scan_frames.specs.Line.{packing_of, line_byte, numbers, line_of, half}
use Rattle.scan_frames.specs.Frames.{width_of, channel_in, format_at, bytes_per_line, line_bytes}
use Rattle.scan_frames.specs.Samples.{HasZeros}
use Rattle.scan_frames.specs.Rows.{IsWhiteBehind, TakesRows}
use Rattle.scan_frames.specs.Tables.{AreComposed}
use Rattle.scan_frames.specs.PassReading.{FrameProgress, IsFrame, given_in, row_of}
use Rattle.scan_frames.specs.Inside.{value_at, IsSeen, IsLineCounted, MakesLine, left_of_line}
use Rattle.scan_frames.proofs.Lines.{length-numbers, numbers_at, sample_place, binary_same}
use Rattle.scan_frames.proofs.Seen.{off_page}

-- a slice that was lent from a vector, put back
pub put_back : {X : Type 0} (n : ℕ) (xs new : List X) → n ≡ length xs → length new ≡ length xs → take n (new ++ drop (length new) xs) ≡ new
put_back n xs new e h = rw (e, ← h) (take-append_seam new _)

-- ---- lines

pub length-line_of : (p : Packing) (order : ByteOrder) (c w : ℕ) (at : ℕ → ℕ → ℕ) (n : ℕ) → length (line_of p order c w at n) ≡ n
unfolding line_of
length-line_of p order c w at n = length-numbers (line_byte p order c w at) n

-- a frame has some channel, and it is one of the picture's three
pub some_channels : (m : FrameFormat) → 0 < channels_within m
some_channels GrayFrame = omega arith
some_channels RgbFrame = omega arith
some_channels RedFrame = omega arith
some_channels GreenFrame = omega arith
some_channels BlueFrame = omega arith

pub three_channels : (m : FrameFormat) (k : ℕ) → k < channels_within m → channel_in m k < 3
three_channels GrayFrame k h = omega arith
three_channels RgbFrame k h = omega arith
three_channels RedFrame k h = omega arith
three_channels GreenFrame k h = omega arith
three_channels BlueFrame k h = omega arith

numbers-same : (f g : ℕ → ℕ) (n : ℕ) → ((j : ℕ) → f j ≡ g j) → numbers f n ≡ numbers g n
numbers-same f g n same =
    ext_get_or 0 (numbers f n) (numbers g n) (length-numbers f n ∙ sym (length-numbers g n)) (λ i h.
    let inside : i < n = omega (arith, length-numbers f n) in
    numbers_at f n i inside ∙ (same i ∙ sym (numbers_at g n i inside)))

-- two lines whose pixels show the same
byte-same : (p : Packing) (order : ByteOrder) (m : FrameFormat) (w : ℕ) (f g : ℕ → ℕ → ℕ) → ((x k : ℕ) → x < w → k < channels_within m → f x k ≡ g x k) → (j : ℕ) → line_byte p order (channels_within m) w f j ≡ line_byte p order (channels_within m) w g j
byte-same Bits order m w f g same j =
    let first : 0 < channels_within m = some_channels m in
    binary_same (λ i. if nat_lt (8 * j + i) w then f (8 * j + i) 0 else 0) (λ i. if nat_lt (8 * j + i) w then g (8 * j + i) 0 else 0) 8 (λ i few.
    let P : Bool → Type 0 = λ t. (if t then f (8 * j + i) 0 else 0) ≡ (if t then g (8 * j + i) 0 else 0) in
    elim (nat_lt (8 * j + i) w) as (λ t. nat_lt (8 * j + i) w ≡ t → P t) [ true ↦ λ e. same (8 * j + i) 0 (grind (arith, nat_tests)) first | false ↦ λ e. refl ] refl)
byte-same Bytes order m w f g same j =
    let P : Bool → Type 0 = λ t. (if t then f (j / channels_within m) (j % channels_within m) else 0) ≡ (if t then g (j / channels_within m) (j % channels_within m) else 0) in
    elim (nat_lt j (channels_within m * w)) as (λ t. nat_lt j (channels_within m * w) ≡ t → P t) [
      | true ↦ λ e. let p = sample_place m w j (grind (arith, nat_tests)) in same (j / channels_within m) (j % channels_within m) p.0 p.1.0
      | false ↦ λ e. refl
    ] refl
byte-same Words order m w f g same j =
    let P : Bool → Type 0 = λ t. (if t then half order (j % 2) (f (j / 2 / channels_within m) (j / 2 % channels_within m)) else 0) ≡ (if t then half order (j % 2) (g (j / 2 / channels_within m) (j / 2 % channels_within m)) else 0) in
    elim (nat_lt j (2 * (channels_within m * w))) as (λ t. nat_lt j (2 * (channels_within m * w)) ≡ t → P t) [
      | true ↦ λ e.
          let less : j < 2 * (channels_within m * w) = grind (arith, nat_tests) in
          let p = sample_place m w (j / 2) (omega arith) in
          ap (half order (j % 2)) (same (j / 2 / channels_within m) (j / 2 % channels_within m) p.0 p.1.0)
      | false ↦ λ e. refl
    ] refl

pub line-same : (p : Packing) (order : ByteOrder) (m : FrameFormat) (w : ℕ) (f g : ℕ → ℕ → ℕ) (n : ℕ) → ((x k : ℕ) → x < w → k < channels_within m → f x k ≡ g x k) → line_of p order (channels_within m) w f n ≡ line_of p order (channels_within m) w g n
unfolding line_of
line-same p order m w f g n same = numbers-same (line_byte p order (channels_within m) w f) (line_byte p order (channels_within m) w g) n (byte-same p order m w f g same)

-- ---- what a row shows

pub brightness-same : (m : Mode) (f g : ℕ → ℕ) (k : ℕ) → k < 3 → ((i : ℕ) → i < 3 → f i ≡ g i) → brightness m f k ≡ brightness m g k
brightness-same Gray f g k h same = let a = same 0 (omega arith) in let b = same 1 (omega arith) in let c = same 2 (omega arith) in cc
brightness-same Color f g k h same = same k h

place_seen : (page : PageView) (scene : Scene) (row : List ℕ) (x y i : ℕ) → IsSeen page (row_seen scene page.dpi y) row → i < 3 → slice_index row (3 * place_at (columns_of scene page.width page.dpi) x + i) ≡ seen_at page scene x y i
place_seen page scene row x y i seen less =
    let d = column_seen scene page.dpi x in
    let r = row_seen scene page.dpi y in
    let P : Bool → Type 0 = λ t. slice_index row (3 * (if t then d else page.width) + i) ≡ dot_at page d r i in
    elim (nat_lt d page.width) as (λ t. nat_lt d page.width ≡ t → P t) [
      | true ↦ λ e. seen.each d i (grind (arith, nat_tests)) less
      | false ↦ λ e. seen.each page.width i (omega arith) less ∙ (off_page page page.width r i (omega arith) ∙ sym (off_page page d r i (grind (arith, nat_tests))))
    ] refl

value_seen : (page : PageView) (scene : Scene) (format : FrameFormat) (row : List ℕ) (x y k : ℕ) → IsSeen page (row_seen scene page.dpi y) row → k < channels_within format → value_at scene format row (columns_of scene page.width page.dpi) x k ≡ sample_of page scene x y (channel_in format k)
unfolding sample_of
value_seen page scene format row x y k seen less =
    ap (λ v. in_channel scene.mode scene.depth scene.channel_gamma (channel_in format k) (tone scene.depth scene.gamma v)) (brightness-same scene.mode (λ i. slice_index row (3 * place_at (columns_of scene page.width page.dpi) x + i)) (seen_at page scene x y) (channel_in format k) (three_channels format k less) (λ i h. place_seen page scene row x y i seen h))

-- the line that was made is the line of the frame
pub made_line : (page : PageView) (setup : Setup) (pass : ℕ) (row : List ℕ) (y n : ℕ) → IsSeen page (row_of setup page y) row → n ≡ bytes_per_line setup pass → line_of (packing_of setup.scene.depth) setup.order (channels_within (format_at setup pass)) (width_of setup) (value_at setup.scene (format_at setup pass) row (columns_of setup.scene page.width page.dpi)) n ≡ line_bytes setup page pass y
made_line page setup pass row y n seen size =
    let format = format_at setup pass in
    let at : ℕ → ℕ → ℕ = λ x k. sample_of page setup.scene x y (channel_in format k) in
    line-same (packing_of setup.scene.depth) setup.order format (width_of setup) (value_at setup.scene format row (columns_of setup.scene page.width page.dpi)) at n (λ x k h less. value_seen page setup.scene format row x y k seen less)
    ∙ ap (line_of (packing_of setup.scene.depth) setup.order (channels_within format) (width_of setup) at) size

pub length-line_bytes : (setup : Setup) (page : PageView) (pass y : ℕ) → length (line_bytes setup page pass y) ≡ bytes_per_line setup pass
length-line_bytes setup page pass y =
    length-line_of (packing_of setup.scene.depth) setup.order (channels_within (format_at setup pass)) (width_of setup) (λ x k. sample_of page setup.scene x y (channel_in (format_at setup pass) k)) (bytes_per_line setup pass)

rows_grow : (setup : Setup) (page : PageView) (y : ℕ) → 1 ≤ setup.scene.resolution → row_of setup page y ≤ row_of setup page (y + 1)
rows_grow setup page y some =
    let n = (top_of setup.scene + y) * page.dpi in
    let more : (top_of setup.scene + (y + 1)) * page.dpi ≡ n + page.dpi = omega arith in
    let below : n / setup.scene.resolution * setup.scene.resolution ≤ (top_of setup.scene + (y + 1)) * page.dpi = omega (arith, div-mul-le_self n setup.scene.resolution) in
    le-div (n / setup.scene.resolution) ((top_of setup.scene + (y + 1)) * page.dpi) setup.scene.resolution (omega arith) below

pub next_frame : (s t : SourceState) (setup : Setup) (f g : FrameProgress) (n : ℕ) → IsFrame s setup f → f.made < f.height → t ≡ record s { given = n } → f.taken ≤ n → n ≤ s.page.height → IsWhiteBehind s.page.width g.row → n ≤ row_of setup s.page f.made + 1 → HasZeros (packing_of setup.scene.depth) (channels_within (format_at setup f.pass) * f.columns.count) g.line → length g.line ≡ length f.line → (s.steady ≡ true → g.line ≡ line_bytes setup s.page f.pass f.made) → g.pass ≡ f.pass → g.columns ≡ f.columns → g.tables ≡ f.tables → g.height ≡ f.height → g.taken ≡ n → g.made ≡ f.made + 1 → g.left ≡ length g.line → MakesLine s setup f t g
next_frame s t setup f g n is more after further within white behind zeros same_line bytes gp gc gs gh gt gm gf =
    let format = format_at setup f.pass in
    let last : g.made - 1 ≡ f.made = omega arith in
    let made : IsFrame (record s { given = n }) setup g = record {
      picture = is.picture;
      columns = gc ∙ is.columns;
      tables = subst (AreComposed setup.scene) (sym gs) is.tables;
      height = gh ∙ is.height;
      row = white;
      taken = gt;
      within = omega arith;
      untaken = λ none. absurd (omega arith);
      behind = λ some. subst (λ (m : ℕ). g.taken ≤ row_of setup s.page m + 1) (sym last) (omega arith);
      line = same_line ∙ (is.line ∙ ap (bytes_per_line setup) (sym gp));
      zeros = subst (λ (p : ℕ). HasZeros (packing_of setup.scene.depth) (channels_within (format_at setup p) * width_of setup) g.line) (sym gp)
          (subst (λ (c : Columns). HasZeros (packing_of setup.scene.depth) (channels_within format * c.count) g.line) is.columns zeros);
      made = omega arith;
      left = omega arith;
      bytes = λ steady first need.
          bytes steady
          ∙ (ap (line_bytes setup s.page f.pass) (sym last)
          ∙ ap (λ (p : ℕ). line_bytes setup s.page p (g.made - 1)) (sym gp));
    } in
    record {
      source = subst (λ (u : SourceState). TakesRows s u) (sym after) (record { further = omega (arith, is.taken); after = refl });
      frame = subst (λ (u : SourceState). IsFrame u setup g) (sym after) made;
      pass_is = gp;
      line = same_line;
      made = gm;
      left = gf;
    }

-- a line that shows the row that is seen
pub seen_line : (s : SourceState) (setup : Setup) (f : FrameProgress) (row line : List ℕ) → IsFrame s setup f → IsSeen s.page (row_of setup s.page f.made) row → line ≡ line_of (packing_of setup.scene.depth) setup.order (channels_within (format_at setup f.pass)) f.columns.count (value_at setup.scene (format_at setup f.pass) row f.columns) (length f.line) → line ≡ line_bytes setup s.page f.pass f.made
seen_line s setup f row line is seen bytes =
    let format = format_at setup f.pass in
    bytes
    ∙ (ap (λ (c : Columns). line_of (packing_of setup.scene.depth) setup.order (channels_within format) c.count (value_at setup.scene format row c) (length f.line)) is.columns
    ∙ made_line s.page setup f.pass row f.made (length f.line) seen is.line)

-- a line of another row than the last one shows a row that was not taken
pub row_untaken : (s : SourceState) (setup : Setup) (f : FrameProgress) → 1 ≤ setup.scene.resolution → IsFrame s setup f → (0 < f.made → row_of setup s.page (f.made - 1) ≡ row_of setup s.page f.made → ⊥) → f.taken ≤ row_of setup s.page f.made
row_untaken s setup f some is other =
    elim (cases_lt 0 f.made) as (λ _. f.taken ≤ row_of setup s.page f.made) [
      | inl begun ↦
          let next : f.made - 1 + 1 ≡ f.made = omega arith in
          let grows : row_of setup s.page (f.made - 1) ≤ row_of setup s.page f.made = subst (λ (m : ℕ). row_of setup s.page (f.made - 1) ≤ row_of setup s.page m) next (rows_grow setup s.page (f.made - 1) some) in
          let behind = is.behind begun in
          elim (cases_lt (row_of setup s.page (f.made - 1)) (row_of setup s.page f.made)) as (λ _. f.taken ≤ row_of setup s.page f.made) [
            | inl less ↦ omega arith
            | inr more ↦ absurd (other begun (omega arith))
          ]
      | inr none ↦ let first = is.untaken (omega arith) in omega arith
    ]

-- a line that shows the same row of the page is the same
line_again : (setup : Setup) (page : PageView) (pass y z : ℕ) → row_of setup page y ≡ row_of setup page z → line_bytes setup page pass y ≡ line_bytes setup page pass z
unfolding sample_of
line_again setup page pass y z same =
    let format = format_at setup pass in
    let scene = setup.scene in
    ap (λ (r : ℕ). line_of (packing_of scene.depth) setup.order (channels_within format) (width_of setup) (λ x k. in_channel scene.mode scene.depth scene.channel_gamma (channel_in format k) (tone scene.depth scene.gamma (brightness scene.mode (dot_at page (column_seen scene page.dpi x) r) (channel_in format k)))) (bytes_per_line setup pass)) same

pub frame_again : (s : SourceState) (setup : Setup) (f : FrameProgress) → IsFrame s setup f → f.made < f.height → 0 < f.made → row_of setup s.page (f.made - 1) ≡ row_of setup s.page f.made → MakesLine s setup f s (record f { made = f.made + 1; left = length f.line })
frame_again s setup f is more begun same =
    let last : f.made ≡ f.made + 1 - 1 = omega arith in
    record {
      source = record { further = omega arith; after = refl };
      frame = record {
        picture = is.picture;
        columns = is.columns;
        tables = is.tables;
        height = is.height;
        row = is.row;
        taken = is.taken;
        within = is.within;
        untaken = λ none. absurd (omega arith);
        behind = λ some. subst (λ (m : ℕ). f.taken ≤ row_of setup s.page m + 1) last (let behind = is.behind begun in omega arith);
        line = is.line;
        zeros = is.zeros;
        made = omega arith;
        left = omega arith;
        bytes = λ steady first need. is.bytes steady begun (inr same) ∙ (line_again setup s.page f.pass (f.made - 1) f.made same ∙ ap (line_bytes setup s.page f.pass) last);
      };
      pass_is = refl;
      line = refl;
      made = refl;
      left = refl;
    }

-- ---- what is given

-- a part of one of many lists of one size
pub joined_part : (f : ℕ → List ℕ) (size n i a k : ℕ) → ((i : ℕ) → length (f i) ≡ size) → i < n → a + k ≤ size → take k (drop (i * size + a) (concat_up_to f n)) ≡ take k (drop a (f i))
joined_part f size n i a k all inside fits =
    let whole = length-joined f size n all in
    let rows : (i + 1) * size ≤ n * size = mul-le (i + 1) size n size (omega arith) (omega arith) in
    let more : (i + 1) * size ≡ i * size + size = omega arith in
    let left : length (take k (drop (i * size + a) (concat_up_to f n))) ≡ k = length-take-le k (drop (i * size + a) (concat_up_to f n)) (omega (arith, length-drop (i * size + a) (concat_up_to f n))) in
    let right : length (take k (drop a (f i))) ≡ k = length-take-le k (drop a (f i)) (omega (arith, length-drop a (f i), all i)) in
    ext_get_or 0 (take k (drop (i * size + a) (concat_up_to f n))) (take k (drop a (f i))) (left ∙ sym right) (λ j h.
    let less : j < k = omega arith in
    let place : i * size + a + j ≡ i * size + (a + j) = omega arith in
    get_or-take k (drop (i * size + a) (concat_up_to f n)) j 0 less
    ∙ (get_or-drop (i * size + a) (concat_up_to f n) j 0
    ∙ (ap (λ (p : ℕ). get_or (concat_up_to f n) p 0) place
    ∙ (joined_at f size n i (a + j) all inside (omega arith)
    ∙ sym (get_or-take k (drop a (f i)) j 0 less ∙ get_or-drop a (f i) j 0)))))

pub mul-split : (m b : ℕ) → 1 ≤ m → m * b ≡ (m - 1) * b + b
mul-split m b some =
    let k = m - 1 in
    let e : m ≡ k + 1 = omega arith in
    ap (λ (t : ℕ). t * b) e ∙ (let f : (k + 1) * b ≡ k * b + b = omega arith in f)

-- (m - 1) whole lines and the front of the last
pub lines_and_front : (m b left : ℕ) → 1 ≤ m → left ≤ b → m * b - left ≡ (m - 1) * b + (b - left)
lines_and_front m b left some fits =
    let e : m * b ≡ (m - 1) * b + b = omega (arith, mul-split m b some) in
    omega arith

-- inside a line what is left of it is what was not given
pub left_in_line : (f : FrameProgress) → IsLineCounted f → 0 < f.left → f.left ≡ left_of_line f
left_in_line f is some =
    let some_made : 1 ≤ f.made = elim (cases_lt 0 f.made) as (λ _. 1 ≤ f.made) [ inl more ↦ more | inr none ↦ absurd (let e : f.left ≡ 0 = is.none (omega arith) in omega arith) ] in
    let less : f.left < length f.line = is.begun some_made in
    let front : given_in f ≡ (f.made - 1) * length f.line + (length f.line - f.left) = lines_and_front f.made (length f.line) f.left some_made (omega arith) in
    let part : given_in f % length f.line ≡ length f.line - f.left = ap (λ (t : ℕ). t % length f.line) front ∙ mod-mul-add (f.made - 1) (length f.line) (length f.line - f.left) (omega arith) in
    omega arith

-- between two lines the whole next one is left
pub left_whole : (f : FrameProgress) → f.left ≡ 0 → 0 < length f.line → length f.line ≡ left_of_line f
left_whole f none some =
    let whole : given_in f ≡ f.made * length f.line + 0 = omega arith in
    let part : given_in f % length f.line ≡ 0 = ap (λ (t : ℕ). t % length f.line) whole ∙ mod-mul-add f.made (length f.line) 0 some in
    omega arith

-- a whole line that was made and not given
pub made_not_given : (f g : FrameProgress) → f.left ≡ 0 → length g.line ≡ length f.line → g.made ≡ f.made + 1 → g.left ≡ length g.line → given_in g ≡ given_in f
made_not_given f g none line made left =
    let b = length f.line in
    let e : (f.made + 1) * b ≡ f.made * b + b = omega arith in
    let m : g.made * length g.line ≡ (f.made + 1) * b = ap (λ (t : ℕ). t * length g.line) made ∙ ap (λ (t : ℕ). (f.made + 1) * t) line in
    omega arith
