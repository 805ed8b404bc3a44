-- How a stream of rows goes on.
use Rattle.std.proofs.Common.{◌≡◌, ℕ, zero, suc, ◌<◌, ◌≤◌, ◌+◌, ◌-◌, ◌*◌, ◌/◌, ◌%◌, ◌^◌, inl, inr, Bool, true, false, List, [], ◌∷◌, ◌++◌, length, take, drop, arith, refl, sym, ap, ◌∙◌, subst, append_assoc, length-append}
use Rattle.std.specs.Prelude.{nat_lt, nat_le, ◌==◌, ◌||◌, ◌⊎◌, if◌then◌else◌, Some, slice_index}
use Rattle.std.proofs.lemmas.Bool.{and_parts, cases_lt}
use Rattle.std.proofs.lemmas.Bool.Decides.{nat_tests}
use Rattle.std.proofs.lemmas.Nat.{mul-add-lt}
use Rattle.std.proofs.lemmas.List.{drop-drop, drop-append-le, get_or-drop, get_or_append_left, take_more, take_all, length-take-le, append-nil, length-drop, take-append-drop, get_or-append_right}
use Rattle.std.proofs.Math.Nat.{mul-le-mul_right}
use Rattle.netpbm.specs.Picture.{Picture}
use Rattle.netpbm.specs.declared.format.PnmFormat.{PnmFormat}
use Rattle.netpbm.specs.declared.format.PnmFormat.TheVariants.{Pbm, Pgm, Ppm}
use Rattle.netpbm.specs.Pnm.{Denotes, IsWhole, magic}
use Rattle.netpbm.specs.NoFile.{HoldsNoFile}
use Rattle.netpbm.specs.FileText.{concat_up_to, header_text}
use Rattle.netpbm.proofs.WritingLaws.{joined-zero, joined-more}
use Rattle.netpbm.proofs.PnmLaws.{no_prefix}
use Rattle.sane_fixed.specs.declared.frame_format.FrameFormat.{FrameFormat}
use Rattle.sane_fixed.specs.declared.frame_format.FrameFormat.TheVariants.{Gray, Rgb, Red, Green, Blue}
use Rattle.sane_fixed.specs.declared.byte_order.ByteOrder.{ByteOrder}
use Rattle.sane_fixed.specs.declared.byte_order.ByteOrder.TheVariants.{Little, Big}
use Rattle.sane_fixed.specs.declared.params.Params.{Params}
use Rattle.frame_join.specs.declared.join_stage.Stage.{Stage}
use Rattle.frame_join.specs.declared.join_stage.Stage.TheVariants.{Idle, Under, Keeping, Between, Whole, WholeColors, Failed}
use Rattle.page_picture.specs.Meaning.{greatest_at}
use Rattle.page_picture.specs.Shows.{Frame, row_size, frame_sample, two_bytes, channels_within, channels_alone}
use Rattle.frame_join.specs.AloneFrame.{AloneParts, row_bytes, lines_in, is_alone_format, most_bytes}
use Rattle.frame_join.specs.FrameFile.{header_alone, raster_byte, row_front, rows_front, file_front, place_in, trimmed_byte}
use Rattle.frame_join.specs.JoinStages.{is_under, is_colors}
use Rattle.frame_join.specs.PixelJoinStates.{PixelJoinState, HasGoneOut, StreamsRows}
use Rattle.frame_join.specs.Inside.{is_whole, is_ready}
use Rattle.frame_join.proofs.KeptLaws.{ready_row, ready_held}
use Rattle.frame_join.proofs.FrameLaws.{length-row_front, length-rows_front, denotes_front}

-- ---- lists one after another

pub joined_same : (f g : ℕ → List ℕ) (n : ℕ) → ((i : ℕ) → i < n → f i ≡ g i) → concat_up_to f n ≡ concat_up_to g n
unfolding concat_up_to
joined_same f g zero all = refl
joined_same f g (suc n) all =
    let front = joined_same f g n (λ i h. all i (omega (arith, h))) in
    let last = all n (omega arith) in
    ap (λ (l : List ℕ). l ++ f n) front ∙ ap (λ (l : List ℕ). concat_up_to g n ++ l) last

joined_split : (f : ℕ → List ℕ) (n k : ℕ) → (rest : List ℕ) × (concat_up_to f (n + k) ≡ concat_up_to f n ++ rest)
joined_split f n zero = ([], ap (concat_up_to f) (let e : n + 0 ≡ n = omega arith in e) ∙ sym (append-nil (concat_up_to f n)))
joined_split f n (suc k) =
    let front = joined_split f n k in
    let e : n + suc k ≡ n + k + 1 = omega arith in
    (front.0 ++ f (n + k), ap (concat_up_to f) e ∙ (joined-more f (n + k) ∙ (ap (λ (l : List ℕ). l ++ f (n + k)) front.1 ∙ append_assoc (concat_up_to f n) front.0 (f (n + k)))))

joined_rest : (f : ℕ → List ℕ) (n m : ℕ) → n ≤ m → (rest : List ℕ) × (concat_up_to f m ≡ concat_up_to f n ++ rest)
joined_rest f n m le =
    let parts = joined_split f n (m - n) in
    let e : m ≡ n + (m - n) = omega (arith, le) in
    (parts.0, ap (concat_up_to f) e ∙ parts.1)

pub row_front-more : (f : Frame) (y n : ℕ) → row_front f y (n + 1) ≡ row_front f y n ++ raster_byte f y n ∷ []
row_front-more f y n = joined-more (λ j. raster_byte f y j ∷ []) n

pub row_front-zero : (f : Frame) (y : ℕ) → row_front f y 0 ≡ []
row_front-zero f y = joined-zero (λ j. raster_byte f y j ∷ [])

pub rows_front-more : (f : Frame) (n : ℕ) → rows_front f (n + 1) ≡ rows_front f n ++ row_front f n (row_bytes f.params)
unfolding rows_front
rows_front-more f n = joined-more (λ y. row_front f y (row_bytes f.params)) n

pub rows_front-zero : (f : Frame) → rows_front f 0 ≡ []
unfolding rows_front
rows_front-zero f = joined-zero (λ y. row_front f y (row_bytes f.params))

rows_rest : (f : Frame) (n m : ℕ) → n ≤ m → (rest : List ℕ) × (rows_front f m ≡ rows_front f n ++ rest)
unfolding rows_front
rows_rest f n m le = joined_rest (λ y. row_front f y (row_bytes f.params)) n m le

row_rest : (f : Frame) (y n m : ℕ) → n ≤ m → (rest : List ℕ) × (row_front f y m ≡ row_front f y n ++ rest)
row_rest f y n m le = joined_rest (λ j. raster_byte f y j ∷ []) n m le

-- ---- a frame that has more bytes

abbrev pub grown : Frame → List ℕ → Frame
grown f bytes = record f { payload = f.payload ++ bytes }

pair_even : (n j : ℕ) → j < n * 2 → j % 2 ≡ 0 → j + 1 < n * 2
pair_even n j h e = omega arith

pub place_below_at : (o : ByteOrder) (f : FrameFormat) (w d j : ℕ) → (d ≡ 1) ⊎ ((d ≡ 8) ⊎ (d ≡ 16)) → j < row_size f w d → place_in o d j < row_size f w d
place_below_at Big f w d j deep h = h
place_below_at Little f w d j (inl e) h =
    let small : j < row_size f w 1 = rw e at h in
    rw e small
place_below_at Little f w d j (inr (inl e)) h =
    let small : j < row_size f w 8 = rw e at h in
    rw e small
place_below_at Little f w d j (inr (inr e)) h =
    let n = w * channels_within f in
    let small : j < n * 2 = rw e at h in
    let P : Bool → Type 0 = λ t. (j % 2 == 0) ≡ t → (if t then j + 1 else j - 1) < n * 2 in
    let inside : (if j % 2 == 0 then j + 1 else j - 1) < n * 2 = elim (j % 2 == 0) as P [
      | true ↦ λ q. pair_even n j small (grind (arith, nat_tests))
      | false ↦ λ q. omega (arith, small)
    ] refl in
    rw e inside

pub place_below : (f : Frame) (j : ℕ) → AloneParts f.params → j < row_bytes f.params → place_in f.order f.params.depth j < f.params.bytes_per_line
place_below f j parts h = omega (arith, place_below_at f.order f.params.format f.params.pixels_per_line f.params.depth j parts.shape.depths h, parts.shape.fits)

raster_byte_same : (f : Frame) (bytes : List ℕ) (y j : ℕ) → AloneParts f.params → (y + 1) * f.params.bytes_per_line ≤ length f.payload → j < row_bytes f.params → raster_byte (grown f bytes) y j ≡ raster_byte f y j
raster_byte_same f bytes y j parts whole h =
    let inside = place_below f j parts h in
    ap (trimmed_byte f.params.pixels_per_line f.params.depth j) (get_or_append_left f.payload bytes 0 (y * f.params.bytes_per_line + place_in f.order f.params.depth j) (omega (arith, inside, whole)))

row_front_same : (f : Frame) (bytes : List ℕ) (y n : ℕ) → AloneParts f.params → (y + 1) * f.params.bytes_per_line ≤ length f.payload → n ≤ row_bytes f.params → row_front (grown f bytes) y n ≡ row_front f y n
row_front_same f bytes y n parts whole le =
    joined_same (λ j. raster_byte (grown f bytes) y j ∷ []) (λ j. raster_byte f y j ∷ []) n (λ j h. ap (λ (b : ℕ). b ∷ []) (raster_byte_same f bytes y j parts whole (omega (arith, h, le))))

rows_front_same : (f : Frame) (bytes : List ℕ) (n : ℕ) → AloneParts f.params → n * f.params.bytes_per_line ≤ length f.payload → rows_front (grown f bytes) n ≡ rows_front f n
unfolding rows_front
rows_front_same f bytes n parts whole =
    joined_same (λ y. row_front (grown f bytes) y (row_bytes f.params)) (λ y. row_front f y (row_bytes f.params)) n (λ y h. row_front_same f bytes y (row_bytes f.params) parts (omega (arith, whole, mul-le-mul_right f.params.bytes_per_line (let e : y + 1 ≤ n = omega (arith, h) in e))) (omega arith))

-- ---- one byte goes out

pub goes_head : (f : Frame) (given : List ℕ) (v : PixelJoinState) → HasGoneOut f given v → v.headed < length v.head → HasGoneOut f (given ++ slice_index v.head v.headed ∷ []) (record v { headed = v.headed + 1 })
goes_head f given v s less =
    let none = s.ahead less in
    let row : v.row ≡ 0 = omega (arith, none) in
    let column : v.column ≡ 0 = omega (arith, none) in
    let empty : rows_front f v.row ++ row_front f v.row v.column ≡ [] =
    ap (λ (n : ℕ). rows_front f n ++ row_front f v.row v.column) row
    ∙ (ap (λ (n : ℕ). rows_front f 0 ++ row_front f v.row n) column
    ∙ (ap (λ (l : List ℕ). l ++ row_front f v.row 0) (rows_front-zero f) ∙ row_front-zero f v.row)) in
    let before : given ≡ take v.headed v.head = s.given_is ∙ (ap (λ (l : List ℕ). take v.headed v.head ++ l) empty ∙ append-nil (take v.headed v.head)) in
    let after : given ++ slice_index v.head v.headed ∷ [] ≡ take (v.headed + 1) v.head ++ (rows_front f v.row ++ row_front f v.row v.column) =
    ap (λ (l : List ℕ). l ++ slice_index v.head v.headed ∷ []) before
    ∙ (sym (take_more v.head v.headed 0 less)
    ∙ (sym (append-nil (take (v.headed + 1) v.head)) ∙ ap (λ (l : List ℕ). take (v.headed + 1) v.head ++ l) (sym empty))) in
    record {
      params = s.params;
      order = s.order;
      alone = s.alone;
      bytes = s.bytes;
      head = s.head;
      headed = omega (arith, less);
      given_is = after;
      ahead = λ _. none;
      rows = s.rows;
      column = s.column;
      row_begun = s.row_begun;
    }

pub goes_column : (f : Frame) (given : List ℕ) (v : PixelJoinState) → HasGoneOut f given v → length v.head ≤ v.headed → v.row < lines_in f.params.lines → v.column + 1 < row_bytes f.params → HasGoneOut f (given ++ raster_byte f v.row v.column ∷ []) (record v { column = v.column + 1 })
goes_column f given v s done row more =
    let t = take v.headed v.head in
    let a = rows_front f v.row in
    let b = row_front f v.row v.column in
    let x = raster_byte f v.row v.column ∷ [] in
    let after : given ++ x ≡ t ++ (a ++ row_front f v.row (v.column + 1)) =
    ap (λ (l : List ℕ). l ++ x) s.given_is
    ∙ (append_assoc t (a ++ b) x
    ∙ ap (λ (l : List ℕ). t ++ l) (append_assoc a b x ∙ ap (λ (l : List ℕ). a ++ l) (sym (row_front-more f v.row v.column)))) in
    record {
      params = s.params;
      order = s.order;
      alone = s.alone;
      bytes = s.bytes;
      head = s.head;
      headed = s.headed;
      given_is = after;
      ahead = λ h. absurd (omega (arith, h, done));
      rows = s.rows;
      column = more;
      row_begun = λ _. row;
    }

pub goes_row : (f : Frame) (given held : List ℕ) (v : PixelJoinState) → HasGoneOut f given v → length v.head ≤ v.headed → v.row < lines_in f.params.lines → v.column + 1 ≡ row_bytes f.params → HasGoneOut f (given ++ raster_byte f v.row v.column ∷ []) (record v { column = 0; row = v.row + 1; held = held })
goes_row f given held v s done row last =
    let t = take v.headed v.head in
    let a = rows_front f v.row in
    let b = row_front f v.row v.column in
    let x = raster_byte f v.row v.column ∷ [] in
    let whole : row_front f v.row (row_bytes f.params) ≡ b ++ x = ap (row_front f v.row) (sym last) ∙ row_front-more f v.row v.column in
    let rows : rows_front f (v.row + 1) ++ row_front f (v.row + 1) 0 ≡ a ++ (b ++ x) =
    ap (λ (l : List ℕ). rows_front f (v.row + 1) ++ l) (row_front-zero f (v.row + 1))
    ∙ (append-nil (rows_front f (v.row + 1))
    ∙ (rows_front-more f v.row ∙ ap (λ (l : List ℕ). a ++ l) whole)) in
    let after : given ++ x ≡ t ++ (rows_front f (v.row + 1) ++ row_front f (v.row + 1) 0) =
    ap (λ (l : List ℕ). l ++ x) s.given_is
    ∙ (append_assoc t (a ++ b) x
    ∙ ap (λ (l : List ℕ). t ++ l) (append_assoc a b x ∙ sym rows)) in
    record {
      params = s.params;
      order = s.order;
      alone = s.alone;
      bytes = s.bytes;
      head = s.head;
      headed = s.headed;
      given_is = after;
      ahead = λ h. absurd (omega (arith, h, done));
      rows = omega (arith, row);
      column = omega (arith, s.alone.shape.row_some);
      row_begun = λ h. absurd (omega (arith, h));
    }

pub head_goes : (f : Frame) (given : List ℕ) (v : PixelJoinState) → StreamsRows f given v → v.headed < length v.head → StreamsRows f (given ++ slice_index v.head v.headed ∷ []) (record v { headed = v.headed + 1 })
head_goes f given v s less = record {
  goes = goes_head f given v s.goes less;
  most = s.most;
  reach = s.reach;
  held = s.held;
  line_begun = s.line_begun;
  line_may_go = s.line_may_go;
  last_row_waits = s.last_row_waits;
}

pub held_byte : (f : Frame) (given : List ℕ) (v : PixelJoinState) → StreamsRows f given v → trimmed_byte v.params.pixels_per_line v.params.depth v.column (slice_index v.held (place_in v.order v.params.depth v.column)) ≡ raster_byte f v.row v.column
held_byte f given v s =
    let place = place_in f.order f.params.depth v.column in
    ap (λ (p : Params). trimmed_byte p.pixels_per_line p.depth v.column (slice_index v.held (place_in v.order p.depth v.column))) s.goes.params
    ∙ (ap (λ (o : ByteOrder). trimmed_byte f.params.pixels_per_line f.params.depth v.column (slice_index v.held (place_in o f.params.depth v.column))) s.goes.order
    ∙ ap (trimmed_byte f.params.pixels_per_line f.params.depth v.column) (ap (λ (l : List ℕ). slice_index l place) s.held ∙ get_or-drop (v.row * f.params.bytes_per_line) f.payload place 0))

pub record Ready (f : Frame) (v : PixelJoinState) : Type 0 where
  pub row : v.row < lines_in f.params.lines
  pub line : (v.row + 1) * f.params.bytes_per_line ≤ length f.payload
  pub goes : is_under v.stage ≡ true → v.row + 1 < lines_in f.params.lines

pub held_length : (f : Frame) (given : List ℕ) (v : PixelJoinState) → StreamsRows f given v → length v.held + v.row * f.params.bytes_per_line ≡ length f.payload
held_length f given v s =
    let e : length v.held ≡ length f.payload - v.row * f.params.bytes_per_line = ap (λ (l : List ℕ). length l) s.held ∙ length-drop (v.row * f.params.bytes_per_line) f.payload in
    omega (arith, e, s.reach)

not_whole_under : (s : Stage) → is_under s ≡ true → is_whole s ≡ false
not_whole_under Idle e = refl
not_whole_under Under e = refl
not_whole_under Keeping e = refl
not_whole_under Between e = refl
not_whole_under Whole e = absurd (cc)
not_whole_under WholeColors e = refl
not_whole_under (Failed _) e = refl

or_right : (a b : Bool) → (a || b) ≡ true → a ≡ false → b ≡ true
or_right true b h e = absurd (cc)
or_right false b h e = h

pub ready_is : (f : Frame) (given : List ℕ) (v : PixelJoinState) → StreamsRows f given v → is_colors v.stage ≡ false → is_ready v ≡ true → Ready f v
ready_is f given v s one ready =
    let lines : lines_in v.params.lines ≡ lines_in f.params.lines = ap (λ (p : Params). lines_in p.lines) s.goes.params in
    let B : v.params.bytes_per_line ≡ f.params.bytes_per_line = ap (λ (p : Params). p.bytes_per_line) s.goes.params in
    let two = and_parts (nat_le v.params.bytes_per_line (length v.held)) (is_whole v.stage || nat_lt (v.row + 1) (lines_in v.params.lines)) (ready_held v ready one) in
    let line : v.params.bytes_per_line ≤ length v.held = le_of v.params.bytes_per_line (length v.held) two.0 in
    let size = held_length f given v s in
    record {
      row = omega (arith, ready_row v ready, lines);
      line = omega (arith, line, B, size);
      goes = λ under.
          let waits = or_right (is_whole v.stage) (nat_lt (v.row + 1) (lines_in v.params.lines)) two.1 (not_whole_under v.stage under) in
          omega (arith, le_test (v.row + 1) (lines_in v.params.lines) waits, lines);
    }
  where
    le_test : (a b : ℕ) → nat_lt a b ≡ true → a < b
    le_test a b e = grind (arith, nat_tests)

    le_of : (a b : ℕ) → nat_le a b ≡ true → a ≤ b
    le_of a b e = grind (arith, nat_tests)

pub column_goes : (f : Frame) (given : List ℕ) (v : PixelJoinState) → StreamsRows f given v → length v.head ≤ v.headed → Ready f v → v.column + 1 < row_bytes f.params → StreamsRows f (given ++ raster_byte f v.row v.column ∷ []) (record v { column = v.column + 1 })
column_goes f given v s done ready more = record {
  goes = goes_column f given v s.goes done ready.row more;
  most = s.most;
  reach = s.reach;
  held = s.held;
  line_begun = λ _. ready.line;
  line_may_go = λ _. ready.goes;
  last_row_waits = s.last_row_waits;
}

pub row_goes : (f : Frame) (given : List ℕ) (v : PixelJoinState) → StreamsRows f given v → length v.head ≤ v.headed → Ready f v → v.column + 1 ≡ row_bytes f.params → StreamsRows f (given ++ raster_byte f v.row v.column ∷ []) (record v { column = 0; row = v.row + 1; held = drop v.params.bytes_per_line v.held })
row_goes f given v s done ready last =
    let B = f.params.bytes_per_line in
    let rest : drop v.params.bytes_per_line v.held ≡ drop ((v.row + 1) * B) f.payload =
    ap (λ (p : Params). drop p.bytes_per_line v.held) s.goes.params
    ∙ (ap (drop B) s.held
    ∙ (drop-drop B (v.row * B) f.payload ∙ ap (λ (n : ℕ). drop n f.payload) (let e : v.row * B + B ≡ (v.row + 1) * B = omega arith in e))) in
    record {
      goes = goes_row f given (drop v.params.bytes_per_line v.held) v s.goes done ready.row last;
      most = s.most;
      reach = ready.line;
      held = rest;
      line_begun = λ h. absurd (omega (arith, h));
      line_may_go = λ h. absurd (omega (arith, h));
      last_row_waits = ready.goes;
    }

-- ---- bytes come

pub small_append : (xs ys : List ℕ) → ((i : ℕ) → slice_index xs i < 256) → ((i : ℕ) → slice_index ys i < 256) → (i : ℕ) → slice_index (xs ++ ys) i < 256
small_append xs ys first second i = elim (cases_lt i (length xs)) as (λ _. slice_index (xs ++ ys) i < 256) [
  | inl less ↦ rw (get_or_append_left xs ys 0 i less) (first i)
  | inr more ↦ rw (get_or-append_right xs ys (length xs) i 0 refl (omega (arith, more))) (second (i - length xs))
]

pub bytes_come : (f : Frame) (given bytes : List ℕ) (v : PixelJoinState) → StreamsRows f given v → ((i : ℕ) → slice_index bytes i < 256) → length f.payload + length bytes ≤ most_bytes f.params → StreamsRows (grown f bytes) given (record v { held = v.held ++ bytes })
bytes_come f given bytes v s small room =
    let size : length (f.payload ++ bytes) ≡ length f.payload + length bytes = length-append f.payload bytes in
    let rows : rows_front (grown f bytes) v.row ≡ rows_front f v.row = rows_front_same f bytes v.row s.goes.alone s.reach in
    let row : row_front (grown f bytes) v.row v.column ≡ row_front f v.row v.column = same_column v.column refl in
    record {
      goes = record {
        params = s.goes.params;
        order = s.goes.order;
        alone = s.goes.alone;
        bytes = small_append f.payload bytes s.goes.bytes small;
        head = s.goes.head;
        headed = s.goes.headed;
        given_is = s.goes.given_is ∙ ap (λ (l : List ℕ). take v.headed v.head ++ l) (ap (λ (l : List ℕ). l ++ row_front f v.row v.column) (sym rows) ∙ ap (λ (l : List ℕ). rows_front (grown f bytes) v.row ++ l) (sym row));
        ahead = s.goes.ahead;
        rows = s.goes.rows;
        column = s.goes.column;
        row_begun = s.goes.row_begun;
      };
      most = omega (arith, size, room);
      reach = omega (arith, size, s.reach);
      held = ap (λ (l : List ℕ). l ++ bytes) s.held ∙ sym (drop-append-le (v.row * f.params.bytes_per_line) f.payload bytes s.reach);
      line_begun = λ h. omega (arith, size, s.line_begun h);
      line_may_go = s.line_may_go;
      last_row_waits = s.last_row_waits;
    }
  where
    same_column : (n : ℕ) → v.column ≡ n → row_front (grown f bytes) v.row n ≡ row_front f v.row n
    same_column zero e = row_front-zero (grown f bytes) v.row ∙ sym (row_front-zero f v.row)
    same_column (suc n) e = row_front_same f bytes v.row (suc n) s.goes.alone (s.line_begun (omega (arith, e))) (omega (arith, e, s.goes.column))

-- ---- what went out is the front of the whole file

same_column_at : (f : Frame) (y n : ℕ) → n ≡ 0 → row_front f y n ≡ []
same_column_at f y n e = ap (row_front f y) e ∙ row_front-zero f y

rows_more : (f : Frame) (given : List ℕ) (v : PixelJoinState) → HasGoneOut f given v → (more : List ℕ) × (rows_front f (lines_in f.params.lines) ≡ (rows_front f v.row ++ row_front f v.row v.column) ++ more)
rows_more f given v s = by_column v.column refl
  where
    by_column : (n : ℕ) → v.column ≡ n → (more : List ℕ) × (rows_front f (lines_in f.params.lines) ≡ (rows_front f v.row ++ row_front f v.row v.column) ++ more)
    by_column zero e =
        let rest = rows_rest f v.row (lines_in f.params.lines) s.rows in
        let same : rows_front f v.row ≡ rows_front f v.row ++ row_front f v.row v.column = sym (append-nil (rows_front f v.row)) ∙ ap (λ (l : List ℕ). rows_front f v.row ++ l) (sym (same_column_at f v.row v.column e)) in
        (rest.0, rest.1 ∙ ap (λ (l : List ℕ). l ++ rest.0) same)
    by_column (suc n) e =
        let begun = s.row_begun (omega (arith, e)) in
        let a = rows_front f v.row in
        let b = row_front f v.row v.column in
        let rest = rows_rest f (v.row + 1) (lines_in f.params.lines) (omega (arith, begun)) in
        let row = row_rest f v.row v.column (row_bytes f.params) (omega (arith, s.column)) in (
          row.0 ++ rest.0,
          rest.1
              ∙ (ap (λ (l : List ℕ). l ++ rest.0) (rows_front-more f v.row ∙ (ap (λ (l : List ℕ). a ++ l) row.1 ∙ sym (append_assoc a b row.0)))
              ∙ append_assoc (a ++ b) row.0 rest.0),
        )

pub file_more : (f : Frame) (given : List ℕ) (v : PixelJoinState) → HasGoneOut f given v → (more : List ℕ) × (given ++ more ≡ file_front f (lines_in f.params.lines))
file_more f given v s = elim (cases_lt v.headed (length v.head)) as (λ _. (more : List ℕ) × (given ++ more ≡ file_front f (lines_in f.params.lines))) [
  | inl less ↦
      let none = s.ahead less in
      let all = rows_front f (lines_in f.params.lines) in
      let row : rows_front f v.row ≡ [] = ap (rows_front f) (let e : v.row ≡ 0 = omega (arith, none) in e) ∙ rows_front-zero f in
      let column : row_front f v.row v.column ≡ [] = same_column_at f v.row v.column (omega (arith, none)) in
      let t = take v.headed v.head in
      let d = drop v.headed v.head in
      let before : given ≡ t = s.given_is ∙ (ap (λ (l : List ℕ). t ++ (l ++ row_front f v.row v.column)) row ∙ (ap (λ (l : List ℕ). t ++ l) column ∙ append-nil t)) in
      (d ++ all, ap (λ (l : List ℕ). l ++ (d ++ all)) before ∙ (sym (append_assoc t d all) ∙ ap (λ (l : List ℕ). l ++ all) (take-append-drop v.headed v.head ∙ s.head)))
  | inr done ↦
      let rest = rows_more f given v s in
      let t = take v.headed v.head in
      let ab = rows_front f v.row ++ row_front f v.row v.column in
      let whole : t ≡ header_text (header_alone f.params) = take_all v.headed v.head done ∙ s.head in
      (rest.0, ap (λ (l : List ℕ). l ++ rest.0) s.given_is ∙ (append_assoc t ab rest.0 ∙ (ap (λ (l : List ℕ). t ++ l) (sym rest.1) ∙ ap (λ (l : List ℕ). l ++ rows_front f (lines_in f.params.lines)) whole)))
]

pub given_length : (f : Frame) (given : List ℕ) (v : PixelJoinState) → HasGoneOut f given v → length given ≡ v.headed + (v.row * row_bytes f.params + v.column)
given_length f given v s =
    let t = take v.headed v.head in
    let a = rows_front f v.row in
    let b = row_front f v.row v.column in
    ap (λ (l : List ℕ). length l) s.given_is
    ∙ omega (arith, length-append t (a ++ b), length-append a b, length-take-le v.headed v.head s.headed, length-rows_front f v.row, length-row_front f v.row v.column)

file_length : (f : Frame) (n : ℕ) → length (file_front f n) ≡ length (header_text (header_alone f.params)) + n * row_bytes f.params
file_length f n = omega (arith, length-append (header_text (header_alone f.params)) (rows_front f n), length-rows_front f n)

-- ---- the picture of a frame

pub alone_channels : (g : FrameFormat) → is_alone_format g ≡ true → channels_alone g ≡ Some (channels_within g)
alone_channels Gray e = refl
alone_channels Rgb e = refl
alone_channels Red e = absurd (cc)
alone_channels Green e = absurd (cc)
alone_channels Blue e = absurd (cc)

abbrev pub frame_picture : Frame → Picture
frame_picture f = record {
  width = f.params.pixels_per_line;
  height = lines_in f.params.lines;
  channels = channels_within f.params.format;
  greatest = greatest_at f.params.depth;
  at = λ x y k. frame_sample (channels_within f.params.format) f x y k;
}

two_small : (o : ByteOrder) (b : List ℕ) (i : ℕ) → ((i : ℕ) → slice_index b i < 256) → two_bytes o b i ≤ 65535
two_small Little b i small = omega (arith, small i, small (i + 1))
two_small Big b i small = omega (arith, small i, small (i + 1))

sample_small : (c d : ℕ) (o : ByteOrder) (b : List ℕ) (i j r : ℕ) → ((i : ℕ) → slice_index b i < 256) → (if d == 16 then two_bytes o b i else (if d == 8 then slice_index b j else slice_index b r / 2 ^ (7 - c % 8) % 2)) ≤ greatest_at d
sample_small c d o b i j r small =
    let P : Bool → Type 0 = λ t. (if t then two_bytes o b i else (if d == 8 then slice_index b j else slice_index b r / 2 ^ (7 - c % 8) % 2)) ≤ (if t then 65535 else (if d == 8 then 255 else 1)) in
    let Q : Bool → Type 0 = λ t. (if t then slice_index b j else slice_index b r / 2 ^ (7 - c % 8) % 2) ≤ (if t then 255 else 1) in
    elim (d == 16) as P [
      | true ↦ two_small o b i small
      | false ↦ elim (d == 8) as Q [
        | true ↦ omega (arith, small j)
        | false ↦ bit_small (slice_index b r / 2 ^ (7 - c % 8))
      ]
    ]
  where
    bit_small : (n : ℕ) → n % 2 ≤ 1
    bit_small n = omega arith

pub frame_sample_small : (f : Frame) (c x y k : ℕ) → ((i : ℕ) → slice_index f.payload i < 256) → frame_sample c f x y k ≤ greatest_at f.params.depth
frame_sample_small f c x y k small =
    let line = y * f.params.bytes_per_line in
    sample_small x f.params.depth f.order f.payload (line + 2 * (c * x + k)) (line + (c * x + k)) (line + x / 8) small

pub denotes_picture : (f : Frame) → AloneParts f.params → ((i : ℕ) → slice_index f.payload i < 256) → Denotes (file_front f (lines_in f.params.lines)) (frame_picture f)
denotes_picture f parts small =
    denotes_front f (frame_picture f) parts (alone_channels f.params.format parts.format) refl refl refl (λ x y k at. refl) (λ x y k at. frame_sample_small f (channels_within f.params.format) x y k small)

-- ---- before the last row what went out is not whole

pub goes_holds_none : (f : Frame) (given : List ℕ) (v : PixelJoinState) → HasGoneOut f given v → v.row < lines_in f.params.lines → HoldsNoFile given
goes_holds_none f given v s row = λ n whole.
    let rest = file_more f given v s in
    let front : List ℕ = take n given in
    let more : List ℕ = drop n given ++ rest.0 in
    let all : front ++ more ≡ file_front f (lines_in f.params.lines) =
    sym (append_assoc front (drop n given) rest.0) ∙ ap (λ (l : List ℕ). l ++ rest.0) (take-append-drop n given) ∙ rest.1 in
    let full : IsWhole (front ++ more) = (frame_picture f, subst (λ (l : List ℕ). Denotes l (frame_picture f)) (sym all) (denotes_picture f s.alone s.bytes)) in
    let none : more ≡ [] = no_prefix front more whole full in
    let same : length given + length rest.0 ≡ length (file_front f (lines_in f.params.lines)) = sym (length-append given rest.0) ∙ ap (λ (l : List ℕ). length l) rest.1 in
    let parts : length (drop n given) + length rest.0 ≡ 0 = sym (length-append (drop n given) rest.0) ∙ ap (λ (l : List ℕ). length l) none in
    let below = mul-add-lt v.row (row_bytes f.params) v.column (lines_in f.params.lines) row s.column in
    let head : v.headed ≤ length (header_text (header_alone f.params)) = subst (λ (l : List ℕ). v.headed ≤ length l) s.head s.headed in
    omega (arith, same, parts, below, head, given_length f given v s, file_length f (lines_in f.params.lines))

magic_some : (g : PnmFormat) → 1 ≤ length (magic g)
magic_some Pbm = omega arith
magic_some Pgm = omega arith
magic_some Ppm = omega arith

pub nothing_is_not_whole : IsWhole [] → ⊥
nothing_is_not_whole whole =
    let b = whole.1.begins in
    let g = whole.1.header.format in
    let one : 0 ≡ length b.head + length whole.1.raster = ap (λ (l : List ℕ). length l) b.text_is ∙ length-append b.head whole.1.raster in
    let tail = b.is_header.width_field ++ (b.is_header.height_field ++ (b.is_header.maxval_field ++ (b.is_header.last ∷ []))) in
    let two : length b.head ≡ length (magic g) + length tail = ap (λ (l : List ℕ). length l) b.is_header.bytes ∙ length-append (magic g) tail in
    omega (arith, one, two, magic_some g)

nothing_before : (n : ℕ) → IsWhole (take n []) → ⊥
nothing_before zero whole = nothing_is_not_whole whole
nothing_before (suc n) whole = nothing_is_not_whole whole

pub nothing_holds_none : HoldsNoFile []
nothing_holds_none = nothing_before
