-- How the bytes of a file go out of a join.
use Rattle.std.proofs.Common.{◌≡◌, ℕ, zero, suc, ◌<◌, ◌≤◌, ◌+◌, ◌-◌, ◌*◌, ◌/◌, ◌⊎◌, inl, inr, Bool, true, false, List, [], ◌∷◌, ◌++◌, length, get_or, take, drop, set, arith, refl, sym, ap, ◌∙◌, subst, append_assoc}
use Rattle.std.specs.Prelude.{nat_lt, nat_le, ◌==◌, ◌&&◌, ◌||◌, if◌then◌else◌, Option, Some, None, slice_index}
use Rattle.std.proofs.lemmas.Bool.{and_parts, cases_lt}
use Rattle.std.proofs.lemmas.List.{append-nil, take_all, take_more, take_more_set, drop-drop, drop-set-lt}
use Rattle.std.proofs.Math.Nat.{lt-div-mul-add, div-mul-le_self, lt_of_mul-lt-mul_left, mul-le-mul_right}
use Rattle.netpbm.specs.FileText.{header_text}
use Rattle.sane_fixed.specs.declared.byte_order.ByteOrder.{ByteOrder}
use Rattle.sane_fixed.specs.declared.byte_order.ByteOrder.TheVariants.{Little, Big}
use Rattle.sane_fixed.specs.declared.params.Params.{Params}
use Rattle.frame_join.specs.declared.join_stage.Stage.{Stage}
use Rattle.frame_join.specs.declared.join_stage.Stage.TheVariants.{Idle, Under, Keeping, Between, Whole, WholeColors, Failed}
use Rattle.page_picture.specs.Shows.{Frame}
use Rattle.frame_join.specs.AloneFrame.{is_alone, lines_in, most_lines, most_bytes, row_bytes}
use Rattle.frame_join.specs.ColorPlanes.{Planes, planes_of, side_by_side, side_byte}
use Rattle.frame_join.specs.FrameHistory.{JoinHistory, after_pull}
use Rattle.frame_join.specs.FrameFile.{header_alone, rows_front, row_front, file_front, raster_byte, trimmed_byte, place_in, AllGone, GoesThrough, file_of, gone_under, rows_to_go, with_height, frame_height}
use Rattle.frame_join.specs.JoinStages.{fault_in, is_under, is_keeping, is_colors}
use Rattle.frame_join.specs.PixelJoinStates.{PixelJoinState, PixelRepresents, PixelRepresentsAt, HasGoneOut, StreamsRows, HasColors, IsPixelDrained, AreColors, IsPartOfColors}
use Rattle.frame_join.specs.Inside.{is_whole, can_give, may_go, sample_at, after_samples, after_row, is_ready, is_held}
use Rattle.frame_join.proofs.TestLemmas.{lt_true, lt_false, not_lt_from, le_true, eq_true, eq_false, or_false, or_other, or_right}
use Rattle.frame_join.proofs.StreamLaws.{head_goes, column_goes, row_goes, goes_head, goes_column, goes_row, ready_is, held_byte, held_length, row_front-zero}
use Rattle.frame_join.proofs.KeptLaws.{ready_row, pass_parts}
use Rattle.frame_join.proofs.SideLaws.{side_raster}
use Rattle.frame_join.proofs.AcceptLaws.{alone_is}
use Rattle.frame_join.proofs.FrameLaws.{place_eight}
use Rattle.frame_join.proofs.JoinLaws.{at_stage, fault_at}

-- ---- a byte goes out

-- the next byte of the raster
abbrev pub next_sample : PixelJoinState → ℕ
next_sample v = sample_at v v.column

-- the next byte of the file
abbrev pub next_byte : PixelJoinState → ℕ
next_byte v = if nat_lt v.headed (length v.head) then slice_index v.head v.headed else next_sample v

-- the value once a byte has gone
abbrev pub after_next : PixelJoinState → PixelJoinState
after_next v = if nat_lt v.headed (length v.head) then record v { headed = v.headed + 1 } else after_samples 1 v

-- the next byte and the value after it, by what the tests say
byte_head : (v : PixelJoinState) → v.headed < length v.head → next_byte v ≡ slice_index v.head v.headed
byte_head v less = ap (λ (t : Bool). if t then slice_index v.head v.headed else next_sample v) (lt_true v.headed (length v.head) less)

byte_raster : (v : PixelJoinState) → length v.head ≤ v.headed → next_byte v ≡ next_sample v
byte_raster v done = ap (λ (t : Bool). if t then slice_index v.head v.headed else next_sample v) (lt_false v.headed (length v.head) done)

abbrev on_raster : Bool → PixelJoinState → PixelJoinState
on_raster last v = if last then after_row v else record v { column = v.column + 1 }

after_head : (v : PixelJoinState) → v.headed < length v.head → after_next v ≡ record v { headed = v.headed + 1 }
after_head v less = ap (λ (t : Bool). if t then record v { headed = v.headed + 1 } else on_raster (v.column + 1 == row_bytes v.params) v) (lt_true v.headed (length v.head) less)

after_raster : (v : PixelJoinState) → length v.head ≤ v.headed → after_next v ≡ on_raster (v.column + 1 == row_bytes v.params) v
after_raster v done = ap (λ (t : Bool). if t then record v { headed = v.headed + 1 } else on_raster (v.column + 1 == row_bytes v.params) v) (lt_false v.headed (length v.head) done)

after_column : (f : Frame) (v : PixelJoinState) → v.params ≡ f.params → length v.head ≤ v.headed → v.column + 1 < row_bytes f.params → after_next v ≡ record v { column = v.column + 1 }
after_column f v params done more =
    let size : row_bytes v.params ≡ row_bytes f.params = ap row_bytes params in
    after_raster v done ∙ ap (λ (t : Bool). on_raster t v) (eq_false (v.column + 1) (row_bytes v.params) (λ e. omega (arith, e, size, more)))

after_last : (f : Frame) (v : PixelJoinState) → v.params ≡ f.params → length v.head ≤ v.headed → v.column + 1 ≡ row_bytes f.params → after_next v ≡ after_row v
after_last f v params done last =
    let size : row_bytes v.params ≡ row_bytes f.params = ap row_bytes params in
    after_raster v done ∙ ap (λ (t : Bool). on_raster t v) (eq_true (v.column + 1) (row_bytes v.params) (omega (arith, last, size)))

-- which of three a step is
data StepOf (f : Frame) (v : PixelJoinState) : Type 0 where
  in_head : v.headed < length v.head → StepOf f v
  in_row : length v.head ≤ v.headed → is_ready v ≡ true → v.column + 1 < row_bytes f.params → StepOf f v
  at_end : length v.head ≤ v.headed → is_ready v ≡ true → v.column + 1 ≡ row_bytes f.params → StepOf f v

step_of : (f : Frame) (given : List ℕ) (v : PixelJoinState) → HasGoneOut f given v → (nat_lt v.headed (length v.head) || is_ready v) ≡ true → StepOf f v
step_of f given v s goes = elim (cases_lt v.headed (length v.head)) as (λ _. StepOf f v) [
  | inl less ↦ in_head less
  | inr done ↦
      let ready : is_ready v ≡ true = or_other (nat_lt v.headed (length v.head)) (is_ready v) goes (lt_false v.headed (length v.head) done) in
      elim (cases_lt (v.column + 1) (row_bytes f.params)) as (λ _. StepOf f v) [
        | inl more ↦ in_row done ready more
        | inr full ↦ at_end done ready (omega (arith, full, s.column))
      ]
]

stream_goes : (f : Frame) (given : List ℕ) (v : PixelJoinState) → StreamsRows f given v → is_colors v.stage ≡ false → (nat_lt v.headed (length v.head) || is_ready v) ≡ true → StreamsRows f (given ++ next_byte v ∷ []) (after_next v)
stream_goes f given v s one goes = by_step (step_of f given v s.goes goes)
  where
    moved : (b : ℕ) (w : PixelJoinState) → next_byte v ≡ b → after_next v ≡ w → StreamsRows f (given ++ b ∷ []) w → StreamsRows f (given ++ next_byte v ∷ []) (after_next v)
    moved b w e g new = subst (λ (w : PixelJoinState). StreamsRows f (given ++ next_byte v ∷ []) w) (sym g) (subst (λ (b : ℕ). StreamsRows f (given ++ b ∷ []) w) (sym e) new)

    sample : length v.head ≤ v.headed → next_byte v ≡ raster_byte f v.row v.column
    sample done =
        let place = place_in v.order v.params.depth v.column in
        byte_raster v done
        ∙ (ap (λ (t : Bool). if t then side_byte v.planes v.params.depth v.row place else trimmed_byte v.params.pixels_per_line v.params.depth v.column (slice_index v.held place)) one
        ∙ held_byte f given v s)

    row : after_row v ≡ record v { column = 0; row = v.row + 1; held = drop v.params.bytes_per_line v.held }
    row = ap (λ (t : Bool). if t then record v { column = 0; row = v.row + 1 } else record v { column = 0; row = v.row + 1; held = drop v.params.bytes_per_line v.held }) one

    by_step : StepOf f v → StreamsRows f (given ++ next_byte v ∷ []) (after_next v)
    by_step (in_head less) = moved (slice_index v.head v.headed) (record v { headed = v.headed + 1 }) (byte_head v less) (after_head v less) (head_goes f given v s less)
    by_step (in_row done ready more) = moved (raster_byte f v.row v.column) (record v { column = v.column + 1 }) (sample done) (after_column f v s.goes.params done more) (column_goes f given v s done (ready_is f given v s one ready) more)
    by_step (at_end done ready last) = moved (raster_byte f v.row v.column) (record v { column = 0; row = v.row + 1; held = drop v.params.bytes_per_line v.held }) (sample done) (after_last f v s.goes.params done last ∙ row) (row_goes f given v s done (ready_is f given v s one ready) last)

planes_stay : (v : PixelJoinState) → (after_next v).planes ≡ v.planes
planes_stay v =
    let P : Bool → Type 0 = λ t. (if t then record v { headed = v.headed + 1 } else on_raster (v.column + 1 == row_bytes v.params) v).planes ≡ v.planes in
    let Q : Bool → Type 0 = λ t. (on_raster t v).planes ≡ v.planes in
    let R : Bool → Type 0 = λ t. (if t then record v { column = 0; row = v.row + 1 } else record v { column = 0; row = v.row + 1; held = drop v.params.bytes_per_line v.held }).planes ≡ v.planes in
    elim (nat_lt v.headed (length v.head)) as P [
      | true ↦ refl
      | false ↦ elim (v.column + 1 == row_bytes v.params) as Q [ true ↦ elim (is_colors v.stage) as R [ true ↦ refl | false ↦ refl ] | false ↦ refl ]
    ]

-- the frame of all colors
abbrev beside : Frame → Frame → Frame → Frame
beside a b c = side_by_side c (planes_of (a ∷ b ∷ c ∷ []))

colors_go : (a b c : Frame) (given : List ℕ) (v : PixelJoinState) → HasColors a b c given v → is_colors v.stage ≡ true → (nat_lt v.headed (length v.head) || is_ready v) ≡ true → HasColors a b c (given ++ next_byte v ∷ []) (after_next v)
colors_go a b c given v s all goes = record {
  colors = s.colors;
  planes = planes_stay v ∙ s.planes;
  goes = by_step (step_of (beside a b c) given v s.goes goes);
}
  where
    moved : (byte : ℕ) (w : PixelJoinState) → next_byte v ≡ byte → after_next v ≡ w → HasGoneOut (beside a b c) (given ++ byte ∷ []) w → HasGoneOut (beside a b c) (given ++ next_byte v ∷ []) (after_next v)
    moved byte w e h new = subst (λ (w : PixelJoinState). HasGoneOut (beside a b c) (given ++ next_byte v ∷ []) w) (sym h) (subst (λ (x : ℕ). HasGoneOut (beside a b c) (given ++ x ∷ []) w) (sym e) new)

    lines : is_ready v ≡ true → v.row < lines_in c.params.lines
    lines ready = let same : lines_in v.params.lines ≡ lines_in c.params.lines = ap (λ (p : Params). lines_in p.lines) s.goes.params in omega (arith, ready_row v ready, same)

    sample : length v.head ≤ v.headed → is_ready v ≡ true → next_byte v ≡ raster_byte (beside a b c) v.row v.column
    sample done ready =
        let place = place_in v.order v.params.depth v.column in
        byte_raster v done
        ∙ (ap (λ (t : Bool). if t then side_byte v.planes v.params.depth v.row place else trimmed_byte v.params.pixels_per_line v.params.depth v.column (slice_index v.held place)) all
        ∙ (ap (λ (q : Planes). side_byte q v.params.depth v.row place) s.planes
        ∙ (ap (λ (p : Params). side_byte (planes_of (a ∷ b ∷ c ∷ [])) p.depth v.row (place_in v.order p.depth v.column)) s.goes.params
        ∙ (ap (λ (o : ByteOrder). side_byte (planes_of (a ∷ b ∷ c ∷ [])) c.params.depth v.row (place_in o c.params.depth v.column)) s.goes.order
        ∙ sym (side_raster (planes_of (a ∷ b ∷ c ∷ [])) c v.row v.column (pass_parts c.params s.colors.2.pass) (lines ready) s.goes.column)))))

    row : after_row v ≡ record v { column = 0; row = v.row + 1 }
    row = ap (λ (t : Bool). if t then record v { column = 0; row = v.row + 1 } else record v { column = 0; row = v.row + 1; held = drop v.params.bytes_per_line v.held }) all

    by_step : StepOf (beside a b c) v → HasGoneOut (beside a b c) (given ++ next_byte v ∷ []) (after_next v)
    by_step (in_head less) = moved (slice_index v.head v.headed) (record v { headed = v.headed + 1 }) (byte_head v less) (after_head v less) (goes_head (beside a b c) given v s.goes less)
    by_step (in_row done ready more) = moved (raster_byte (beside a b c) v.row v.column) (record v { column = v.column + 1 }) (sample done ready) (after_column (beside a b c) v s.goes.params done more) (goes_column (beside a b c) given v s.goes done (lines ready) more)
    by_step (at_end done ready last) = moved (raster_byte (beside a b c) v.row v.column) (record v { column = 0; row = v.row + 1 }) (sample done ready) (after_last (beside a b c) v s.goes.params done last ∙ row) (goes_row (beside a b c) given v.held v s.goes done (lines ready) last)

stage_stays : (v : PixelJoinState) → (after_next v).stage ≡ v.stage
stage_stays v =
    let P : Bool → Type 0 = λ t. (if t then record v { headed = v.headed + 1 } else on_raster (v.column + 1 == row_bytes v.params) v).stage ≡ v.stage in
    let Q : Bool → Type 0 = λ t. (on_raster t v).stage ≡ v.stage in
    let R : Bool → Type 0 = λ t. (if t then record v { column = 0; row = v.row + 1 } else record v { column = 0; row = v.row + 1; held = drop v.params.bytes_per_line v.held }).stage ≡ v.stage in
    elim (nat_lt v.headed (length v.head)) as P [
      | true ↦ refl
      | false ↦ elim (v.column + 1 == row_bytes v.params) as Q [ true ↦ elim (is_colors v.stage) as R [ true ↦ refl | false ↦ refl ] | false ↦ refl ]
    ]

pub next_carries : (past : JoinHistory) (v : PixelJoinState) → may_go v ≡ true → PixelRepresents past v → PixelRepresents (after_pull (next_byte v ∷ []) past) (after_next v)
next_carries past v may stands = by_stage v.stage refl
  where
    goes : (nat_lt v.headed (length v.head) || is_ready v) ≡ true
    goes = (and_parts (can_give v.stage) (nat_lt v.headed (length v.head) || is_ready v) may).1

    stuck : (s : Stage) → v.stage ≡ s → can_give s ≡ false → ⊥
    stuck s e none =
        let b : true ≡ false = sym (and_parts (can_give v.stage) (nat_lt v.headed (length v.head) || is_ready v) may).0 ∙ (ap can_give e ∙ none) in
        cc

    there : (s : Stage) → v.stage ≡ s → PixelRepresentsAt s (after_pull (next_byte v ∷ []) past) (after_next v) → PixelRepresents (after_pull (next_byte v ∷ []) past) (after_next v)
    there s e at = record {
      fault = stands.fault ∙ ap fault_in (sym (stage_stays v));
      at_stage = subst (λ (s : Stage). PixelRepresentsAt s (after_pull (next_byte v ∷ []) past) (after_next v)) (sym (stage_stays v ∙ e)) at;
    }

    by_stage : (s : Stage) → v.stage ≡ s → PixelRepresents (after_pull (next_byte v ∷ []) past) (after_next v)
    by_stage Idle e = absurd (stuck Idle e refl)
    by_stage Keeping e = absurd (stuck Keeping e refl)
    by_stage Between e = absurd (stuck Between e refl)
    by_stage (Failed x) e = absurd (stuck (Failed x) e refl)
    by_stage Under e =
        let at = at_stage Under past v e stands in
        there Under e (at.0, at.1, at.2, stream_goes at.0 past.given v at.3 (ap is_colors e) goes)
    by_stage Whole e =
        let at = at_stage Whole past v e stands in
        there Whole e (at.0, at.1, at.2, at.3, stream_goes (with_height at.0) past.given v at.4 (ap is_colors e) goes)
    by_stage WholeColors e =
        let at = at_stage WholeColors past v e stands in
        there WholeColors e (at.0, at.1, at.2, at.3, at.4, colors_go at.0 at.1 at.2 past.given v at.5 (ap is_colors e) goes)

-- ---- nothing more may go out

-- the ways in which a stream has to wait
abbrev Why : Frame → PixelJoinState → Type 0
Why f v = (v.row ≡ lines_in f.params.lines) ⊎ ((length v.held < f.params.bytes_per_line) ⊎ ((is_whole v.stage ≡ false) × (lines_in f.params.lines ≤ v.row + 1)))

record Waits (f : Frame) (given : List ℕ) (v : PixelJoinState) : Type 0 where
  column : v.column ≡ 0
  given_is : given ≡ file_front f v.row
  why : Why f v

-- no row is begun, and so what went out is the header and the rows before
whole_rows_gone : (f : Frame) (given : List ℕ) (v : PixelJoinState) → HasGoneOut f given v → length v.head ≤ v.headed → v.column ≡ 0 → given ≡ file_front f v.row
whole_rows_gone f given v s done zero_column =
    let header : take v.headed v.head ≡ header_text (header_alone f.params) = take_all v.headed v.head done ∙ s.head in
    let empty : row_front f v.row v.column ≡ [] = ap (row_front f v.row) zero_column ∙ row_front-zero f v.row in
    s.given_is ∙ (ap (λ (l : List ℕ). l ++ (rows_front f v.row ++ row_front f v.row v.column)) header ∙ ap (λ (l : List ℕ). header_text (header_alone f.params) ++ l) (ap (λ (l : List ℕ). rows_front f v.row ++ l) empty ∙ append-nil (rows_front f v.row)))

and_false : (a b : Bool) → (a && b) ≡ false → a ≡ true → b ≡ false
and_false true b h e = h
and_false false b h e = absurd (cc)

not_ready : (v : PixelJoinState) → is_ready v ≡ false → v.row < lines_in v.params.lines → (is_colors v.stage ≡ false) × (is_held v ≡ false)
not_ready v stopped row = or_false (is_colors v.stage) (is_held v) (and_false (nat_lt v.row (lines_in v.params.lines)) (is_colors v.stage || is_held v) stopped (lt_true v.row (lines_in v.params.lines) row))

why_at : (f : Frame) (given : List ℕ) (v : PixelJoinState) → StreamsRows f given v → is_ready v ≡ false → Why f v
why_at f given v s no_line =
    let lines : lines_in v.params.lines ≡ lines_in f.params.lines = ap (λ (p : Params). lines_in p.lines) s.goes.params in
    let B : v.params.bytes_per_line ≡ f.params.bytes_per_line = ap (λ (p : Params). p.bytes_per_line) s.goes.params in
    elim (cases_lt v.row (lines_in f.params.lines)) as (λ _. Why f v) [
      | inr past_end ↦ inl (omega (arith, past_end, s.goes.rows))
      | inl row ↦ elim (cases_lt (length v.held) f.params.bytes_per_line) as (λ _. Why f v) [
        | inl short ↦ inr (inl short)
        | inr long ↦
            let held = (not_ready v no_line (omega (arith, row, lines))).1 in
            let c = and_false (nat_le v.params.bytes_per_line (length v.held)) (is_whole v.stage || nat_lt (v.row + 1) (lines_in v.params.lines)) held (le_true v.params.bytes_per_line (length v.held) (omega (arith, long, B))) in
            let d = or_false (is_whole v.stage) (nat_lt (v.row + 1) (lines_in v.params.lines)) c in
            inr (inr (d.0, omega (arith, not_lt_from (v.row + 1) (lines_in v.params.lines) d.1, lines)))
      ]
    ]

waits : (f : Frame) (given : List ℕ) (v : PixelJoinState) → StreamsRows f given v → (is_under v.stage || is_whole v.stage) ≡ true → (nat_lt v.headed (length v.head) || is_ready v) ≡ false → Waits f given v
waits f given v s moving stops =
    let tests = or_false (nat_lt v.headed (length v.head)) (is_ready v) stops in
    let done : length v.head ≤ v.headed = not_lt_from v.headed (length v.head) tests.0 in
    let why = why_at f given v s tests.1 in
    let zero_column = column_zero v.column refl why in
    record { column = zero_column; given_is = whole_rows_gone f given v s.goes done zero_column; why = why }
  where
    left_of : (a b : Bool) → (a || b) ≡ true → b ≡ false → a ≡ true
    left_of true b h e = refl
    left_of false b h e = absurd (cc)

    column_zero : (n : ℕ) → v.column ≡ n → Why f v → v.column ≡ 0
    column_zero zero e why = e
    column_zero (suc n) e (inl last) = absurd (omega (arith, last, s.goes.row_begun (omega (arith, e))))
    column_zero (suc n) e (inr (inl short)) = absurd (omega (arith, short, s.line_begun (omega (arith, e)), held_length f given v s))
    column_zero (suc n) e (inr (inr waiting)) =
        let under : is_under v.stage ≡ true = left_of (is_under v.stage) (is_whole v.stage) moving waiting.0 in
        absurd (omega (arith, waiting.1, s.line_may_go (omega (arith, e)) under))

div_is : (n B row : ℕ) → row * B ≤ n → n < (row + 1) * B → n / B ≡ row
div_is n B row low high =
    let some : 0 < B = positive B high in
    let up : n < n / B * B + B = lt-div-mul-add some in
    let down : n / B * B ≤ n = div-mul-le_self n B in
    let a : row < n / B + 1 = lt_of_mul-lt-mul_left B (let e : B * row < B * (n / B + 1) = omega (arith, up, low) in e) in
    let b : n / B < row + 1 = lt_of_mul-lt-mul_left B (let e : B * (n / B) < B * (row + 1) = omega (arith, down, high) in e) in
    omega (arith, a, b)
  where
    positive : (B : ℕ) → n < (row + 1) * B → 0 < B
    positive zero h = absurd (omega (arith, h))
    positive (suc k) h = omega arith

div_least : (n B row : ℕ) → 0 < B → row * B ≤ n → row ≤ n / B
div_least n B row some low =
    let up : n < n / B * B + B = lt-div-mul-add some in
    let a : row < n / B + 1 = lt_of_mul-lt-mul_left B (let e : B * row < B * (n / B + 1) = omega (arith, up, low) in e) in
    omega (arith, a)

under_rows : (f : Frame) (given : List ℕ) (v : PixelJoinState) → StreamsRows f given v → Why f v → v.row < lines_in f.params.lines → v.row ≡ rows_to_go f
under_rows f given v s (inl last) row = absurd (omega (arith, last, row))
under_rows f given v s (inr (inl short)) row =
    let q : length f.payload / f.params.bytes_per_line ≡ v.row = div_is (length f.payload) f.params.bytes_per_line v.row s.reach (omega (arith, short, held_length f given v s)) in
    omega (arith, q, row)
under_rows f given v s (inr (inr waiting)) row =
    let shape = s.goes.alone.shape in
    let q : v.row ≤ length f.payload / f.params.bytes_per_line = div_least (length f.payload) f.params.bytes_per_line v.row (omega (arith, shape.row_some, shape.fits)) s.reach in
    omega (arith, q, row, waiting.1)

whole_rows : (f : Frame) (given : List ℕ) (v : PixelJoinState) → StreamsRows f given v → Why f v → is_whole v.stage ≡ true → length f.payload ≡ lines_in f.params.lines * f.params.bytes_per_line → v.row ≡ lines_in f.params.lines
whole_rows f given v s (inl last) whole size = last
whole_rows f given v s (inr (inl short)) whole size =
    let a : lines_in f.params.lines < v.row + 1 = lt_of_mul-lt-mul_left f.params.bytes_per_line (let e : f.params.bytes_per_line * lines_in f.params.lines < f.params.bytes_per_line * (v.row + 1) = omega (arith, short, size, held_length f given v s) in e) in
    omega (arith, a, s.goes.rows)
whole_rows f given v s (inr (inr waiting)) whole size = absurd (let x : true ≡ false = sym whole ∙ waiting.0 in cc)

-- the file of three colors is out
colors_gone : (a b c : Frame) (given : List ℕ) (v : PixelJoinState) → HasColors a b c given v → is_colors v.stage ≡ true → (nat_lt v.headed (length v.head) || is_ready v) ≡ false → given ≡ file_of (a ∷ b ∷ c ∷ [])
colors_gone a b c given v s all stops =
    let g = side_by_side c (planes_of (a ∷ b ∷ c ∷ [])) in
    let tests = or_false (nat_lt v.headed (length v.head)) (is_ready v) stops in
    let done : length v.head ≤ v.headed = not_lt_from v.headed (length v.head) tests.0 in
    let lines : lines_in v.params.lines ≡ lines_in c.params.lines = ap (λ (p : Params). lines_in p.lines) s.goes.params in
    let last : v.row ≡ lines_in c.params.lines = elim (cases_lt v.row (lines_in c.params.lines)) as (λ _. v.row ≡ lines_in c.params.lines) [
      | inl row ↦ absurd (let clash : true ≡ false = sym all ∙ (not_ready v tests.1 (omega (arith, row, lines))).0 in cc)
      | inr done ↦ omega (arith, done, s.goes.rows)
    ] in
    whole_rows_gone g given v s.goes done (column_zero v.column refl last) ∙ ap (file_front g) last
  where
    column_zero : (n : ℕ) → v.column ≡ n → v.row ≡ lines_in c.params.lines → v.column ≡ 0
    column_zero zero e last = e
    column_zero (suc n) e last = absurd (omega (arith, last, s.goes.row_begun (omega (arith, e))))

-- the file of colors of which some are to come
part_file : (frames : List Frame) (p : Params) (o : ByteOrder) → IsPartOfColors frames p o → AreColors frames → file_of frames ≡ []
part_file [] p o part colors = absurd part
part_file (a ∷ []) p o part colors = ap (λ (t : Bool). if t then file_front (with_height a) (frame_height a) else []) (pass_parts a.params colors.pass).format
part_file (a ∷ b ∷ []) p o part colors = refl
part_file (a ∷ b ∷ c ∷ rest) p o part colors = absurd part

pub spent : (past : JoinHistory) (v : PixelJoinState) → PixelRepresents past v → may_go v ≡ false → past.fault ≡ None → AllGone past.under past.ended past.given
spent past v stands stop fault = by_stage v.stage refl
  where
    moved : (u : Option Frame) (es : List Frame) → past.under ≡ u → past.ended ≡ es → AllGone u es past.given → AllGone past.under past.ended past.given
    moved u es a b all = subst (λ (u : Option Frame). AllGone u past.ended past.given) (sym a) (subst (λ (es : List Frame). AllGone u es past.given) (sym b) all)

    stops : (s : Stage) → v.stage ≡ s → can_give s ≡ true → (nat_lt v.headed (length v.head) || is_ready v) ≡ false
    stops s e moving = and_false (can_give v.stage) (nat_lt v.headed (length v.head) || is_ready v) stop (ap can_give e ∙ moving)

    by_stage : (s : Stage) → v.stage ≡ s → AllGone past.under past.ended past.given
    by_stage Idle e =
        let at = at_stage Idle past v e stands in
        moved None [] at.1 at.0 at.2
    by_stage (Failed x) e = absurd (let y : None ≡ Some x = sym fault ∙ fault_at (Failed x) past v e stands in cc)
    by_stage Under e =
        let at = at_stage Under past v e stands in
        let f = at.0 in
        let w = waits f past.given v at.3 (ap (λ (s : Stage). is_under s || is_whole s) e) (stops Under e refl) in
        let rows = under_rows f past.given v at.3 w.why (at.3.last_row_waits (ap is_under e)) in
        let alone : gone_under f ≡ file_front f (rows_to_go f) = ap (λ (t : Bool). if t then file_front f (rows_to_go f) else []) (alone_is f.params at.3.goes.alone) in
        moved (Some f) past.ended at.2 refl (w.given_is ∙ (ap (file_front f) rows ∙ sym alone))
    by_stage Keeping e =
        let at = at_stage Keeping past v e stands in
        let f = at.0 in
        moved (Some f) past.ended at.1 refl (at.2.silent.given_is ∙ sym (ap (λ (t : Bool). if t then file_front f (rows_to_go f) else []) at.2.kept))
    by_stage Between e =
        let at = at_stage Between past v e stands in
        moved None past.ended at.0 refl (at.1.silent.given_is ∙ sym (part_file past.ended v.params v.order at.1.part at.1.colors))
    by_stage Whole e =
        let at = at_stage Whole past v e stands in
        let f = at.0 in
        let w = waits (with_height f) past.given v at.4 (ap (λ (s : Stage). is_under s || is_whole s) e) (stops Whole e refl) in
        let rows = whole_rows (with_height f) past.given v at.4 w.why (ap is_whole e) at.3 in
        let file : file_of (f ∷ []) ≡ file_front (with_height f) (frame_height f) = ap (λ (t : Bool). if t then file_front (with_height f) (frame_height f) else []) at.4.goes.alone.format in
        moved None (f ∷ []) at.2 at.1 (w.given_is ∙ (ap (file_front (with_height f)) rows ∙ sym file))
    by_stage WholeColors e =
        let at = at_stage WholeColors past v e stands in
        moved None (at.0 ∷ at.1 ∷ at.2 ∷ []) at.4 at.3 (colors_gone at.0 at.1 at.2 past.given v at.5 (ap is_colors e) (stops WholeColors e refl))

pub drained : (past : JoinHistory) (v : PixelJoinState) → PixelRepresents past v → GoesThrough past.under → may_go v ≡ false → IsPixelDrained v
drained past v stands through stop = by_stage v.stage refl
  where
    little : (f : Frame) (v : PixelJoinState) → StreamsRows f past.given v → Why f v → v.params.bytes_per_line ≡ f.params.bytes_per_line → v.row < lines_in f.params.lines → length v.held ≤ v.params.bytes_per_line
    little f v s (inl last) B row = absurd (omega (arith, last, row))
    little f v s (inr (inl short)) B row = omega (arith, short, B)
    little f v s (inr (inr waiting)) B row =
        let known : most_bytes f.params ≡ lines_in f.params.lines * f.params.bytes_per_line = ap (λ (o : Option ℕ). most_lines o * f.params.bytes_per_line) s.goes.alone.lines_known in
        let high : lines_in f.params.lines * f.params.bytes_per_line ≤ (v.row + 1) * f.params.bytes_per_line = mul-le-mul_right f.params.bytes_per_line waiting.1 in
        omega (arith, high, B, s.most, known, held_length f past.given v s)

    rests : (s : Stage) → v.stage ≡ s → is_keeping s ≡ false → is_under s ≡ false → IsPixelDrained v
    rests s e a b = record {
      through = ap is_keeping e ∙ a;
      little = λ under. absurd (let clash : true ≡ false = sym under ∙ (ap is_under e ∙ b) in cc);
    }

    by_stage : (s : Stage) → v.stage ≡ s → IsPixelDrained v
    by_stage Idle e = rests Idle e refl refl
    by_stage Between e = rests Between e refl refl
    by_stage Whole e = rests Whole e refl refl
    by_stage WholeColors e = rests WholeColors e refl refl
    by_stage (Failed x) e = rests (Failed x) e refl refl
    by_stage Keeping e =
        let at = at_stage Keeping past v e stands in
        let alone : is_alone at.0.params ≡ true = subst GoesThrough at.1 through in
        absurd (let clash : true ≡ false = sym alone ∙ at.2.kept in cc)
    by_stage Under e = record {
      through = ap is_keeping e;
      little = λ under.
          let at = at_stage Under past v e stands in
          let f = at.0 in
          let w = waits f past.given v at.3 (ap (λ (s : Stage). is_under s || is_whole s) e) (and_false (can_give v.stage) (nat_lt v.headed (length v.head) || is_ready v) stop (ap can_give e)) in
          little f v at.3 w.why (ap (λ (p : Params). p.bytes_per_line) at.3.goes.params) (at.3.last_row_waits under);
    }

-- ---- the loop of `pull`

pub pull_step : (past : JoinHistory) (now new : PixelJoinState) (before after : List ℕ) (byte : ℕ) → may_go now ≡ true → byte ≡ next_byte now → new ≡ after_next now → after ≡ before ++ byte ∷ [] → PixelRepresents (after_pull before past) now → PixelRepresents (after_pull after past) new
pull_step past now new before after byte may b n a stands =
    let step = next_carries (after_pull before past) now may stands in
    let all : past.given ++ before ++ next_byte now ∷ [] ≡ past.given ++ after =
    append_assoc past.given before (next_byte now ∷ []) ∙ ap (λ (l : List ℕ). past.given ++ l) (ap (λ (x : ℕ). before ++ x ∷ []) (sym b) ∙ sym a) in
    subst (λ (w : PixelJoinState). PixelRepresents (after_pull after past) w) (sym n) (subst (λ (l : List ℕ). PixelRepresents (record past { given = l }) (after_next now)) all step)

-- the header gives a byte
pub head_step : (past : JoinHistory) (now new : PixelJoinState) (before after : List ℕ) (byte : ℕ) → can_give now.stage ≡ true → now.headed < length now.head → byte ≡ slice_index now.head now.headed → new ≡ record now { headed = now.headed + 1 } → after ≡ before ++ byte ∷ [] → PixelRepresents (after_pull before past) now → PixelRepresents (after_pull after past) new
head_step past now new before after byte moving less b n a stands =
    let may : may_go now ≡ true = ap (λ (t : Bool). t && (nat_lt now.headed (length now.head) || is_ready now)) moving ∙ ap (λ (t : Bool). t || is_ready now) (lt_true now.headed (length now.head) less) in
    pull_step past now new before after byte may (b ∙ sym (byte_head now less)) (n ∙ sym (after_head now less)) a stands

-- ---- bytes of one row

row_on : (v : PixelJoinState) (n : ℕ) → v.column + n < row_bytes v.params → after_samples n v ≡ record v { column = v.column + n }
row_on v n more = ap (λ (t : Bool). if t then after_row v else record v { column = v.column + n }) (eq_false (v.column + n) (row_bytes v.params) (λ e. omega (arith, e, more)))

pub no_samples : (v : PixelJoinState) (n : ℕ) → n ≡ 0 → v.column < row_bytes v.params → after_samples n v ≡ v
no_samples v n none less =
    let same : v.column + n ≡ v.column = omega (arith, none) in
    row_on v n (omega (arith, same, less)) ∙ ap (λ (c : ℕ). record v { column = c }) same

pub row_may : (v : PixelJoinState) → can_give v.stage ≡ true → is_ready v ≡ true → may_go v ≡ true
row_may v moving ready = ap (λ (t : Bool). t && (nat_lt v.headed (length v.head) || is_ready v)) moving ∙ or_right (nat_lt v.headed (length v.head)) (is_ready v) ready

pub row_step : (past : JoinHistory) (v : PixelJoinState) (n : ℕ) (before after : List ℕ) (byte : ℕ) → can_give v.stage ≡ true → length v.head ≤ v.headed → is_ready v ≡ true → v.column + n < row_bytes v.params → byte ≡ sample_at v (v.column + n) → after ≡ before ++ byte ∷ [] → PixelRepresents (after_pull before past) (after_samples n v) → PixelRepresents (after_pull after past) (after_samples (n + 1) v)
row_step past v n before after byte moving done ready more b a stands =
    let w : PixelJoinState = record v { column = v.column + n } in
    let here : PixelRepresents (after_pull before past) w = subst (λ (u : PixelJoinState). PixelRepresents (after_pull before past) u) (row_on v n more) stands in
    let on : v.column + (n + 1) ≡ v.column + n + 1 = omega arith in
    let next : after_samples (n + 1) v ≡ after_next w = ap (λ (c : ℕ). if c == row_bytes v.params then after_row v else record v { column = c }) on ∙ sym (after_raster w done) in
    pull_step past w (after_samples (n + 1) v) before after byte (row_may w moving ready) (b ∙ sym (byte_raster w done)) next a here

-- the byte at a column of three colors of a byte each
pub woven : (v : PixelJoinState) (column : ℕ) → is_colors v.stage ≡ true → v.params.depth ≡ 8 → side_byte v.planes 8 v.row column ≡ sample_at v column
woven v column colors eight =
    let other : ℕ = trimmed_byte v.params.pixels_per_line v.params.depth column (slice_index v.held (place_in v.order v.params.depth column)) in
    sym (ap (λ (t : Bool). if t then side_byte v.planes v.params.depth v.row (place_in v.order v.params.depth column) else other) colors
    ∙ (ap (λ (d : ℕ). side_byte v.planes d v.row (place_in v.order d column)) eight ∙ ap (side_byte v.planes 8 v.row) (place_eight v.order column)))

-- the byte at a column of three colors of two bytes each
pub woven_words : (v : PixelJoinState) (column : ℕ) → is_colors v.stage ≡ true → v.params.depth ≡ 16 → side_byte v.planes 16 v.row (place_in v.order 16 column) ≡ sample_at v column
woven_words v column colors deep =
    let other : ℕ = trimmed_byte v.params.pixels_per_line v.params.depth column (slice_index v.held (place_in v.order v.params.depth column)) in
    sym (ap (λ (t : Bool). if t then side_byte v.planes v.params.depth v.row (place_in v.order v.params.depth column) else other) colors
    ∙ ap (λ (d : ℕ). side_byte v.planes d v.row (place_in v.order d column)) deep)

-- the byte at a column of samples of two bytes, the less significant first
pub turned : (v : PixelJoinState) (column : ℕ) → is_colors v.stage ≡ false → v.params.depth ≡ 16 → v.order ≡ Little → slice_index v.held (place_in Little 16 column) ≡ sample_at v column
turned v column plain deep little =
    let side : ℕ = side_byte v.planes v.params.depth v.row (place_in v.order v.params.depth column) in
    sym (ap (λ (t : Bool). if t then side else trimmed_byte v.params.pixels_per_line v.params.depth column (slice_index v.held (place_in v.order v.params.depth column))) plain
    ∙ (ap (λ (d : ℕ). trimmed_byte v.params.pixels_per_line d column (slice_index v.held (place_in v.order d column))) deep
    ∙ ap (λ (o : ByteOrder). slice_index v.held (place_in o 16 column)) little))

-- the byte at a column of a row of bits
place_one : (o : ByteOrder) (column : ℕ) → place_in o 1 column ≡ column
place_one Little column = refl
place_one Big column = refl

pub cut_off : (v : PixelJoinState) (column : ℕ) → is_colors v.stage ≡ false → v.params.depth ≡ 1 → trimmed_byte v.params.pixels_per_line 1 column (slice_index v.held column) ≡ sample_at v column
cut_off v column plain bits =
    let side : ℕ = side_byte v.planes v.params.depth v.row (place_in v.order v.params.depth column) in
    sym (ap (λ (t : Bool). if t then side else trimmed_byte v.params.pixels_per_line v.params.depth column (slice_index v.held (place_in v.order v.params.depth column))) plain
    ∙ (ap (λ (d : ℕ). trimmed_byte v.params.pixels_per_line d column (slice_index v.held (place_in v.order d column))) bits
    ∙ ap (λ (p : ℕ). trimmed_byte v.params.pixels_per_line 1 column (slice_index v.held p)) (place_one v.order column)))

-- n bytes of the row, each the one at its column
pub row_steps : (past : JoinHistory) (v : PixelJoinState) (n : ℕ) (front bytes : List ℕ) → can_give v.stage ≡ true → length v.head ≤ v.headed → is_ready v ≡ true → v.column < row_bytes v.params → v.column + n ≤ row_bytes v.params → n ≤ length bytes → ((j : ℕ) → j < n → get_or bytes j 0 ≡ sample_at v (v.column + j)) → PixelRepresents (after_pull front past) v → PixelRepresents (after_pull (front ++ take n bytes) past) (after_samples n v)
row_steps past v zero front bytes moving done ready inside row room each stands =
    subst (λ (u : PixelJoinState). PixelRepresents (after_pull (front ++ []) past) u) (sym (no_samples v 0 refl inside))
    (subst (λ (xs : List ℕ). PixelRepresents (after_pull xs past) v) (sym (append-nil front)) stands)
row_steps past v (suc n) front bytes moving done ready inside row room each stands =
    let byte = get_or bytes n 0 in
    let last : n + 1 ≡ suc n = omega arith in
    let before = row_steps past v n front bytes moving done ready inside (omega arith) (omega arith) (λ j less. each j (omega arith)) stands in
    let more : front ++ take (suc n) bytes ≡ (front ++ take n bytes) ++ byte ∷ [] =
    ap (λ (k : ℕ). front ++ take k bytes) (sym last) ∙ (ap (λ (xs : List ℕ). front ++ xs) (take_more bytes n 0 (omega arith)) ∙ sym (append_assoc front (take n bytes) (byte ∷ []))) in
    subst (λ (k : ℕ). PixelRepresents (after_pull (front ++ take (suc n) bytes) past) (after_samples k v)) last
    (row_step past v n (front ++ take n bytes) (front ++ take (suc n) bytes) byte moving done ready (omega arith) (each n (omega arith)) more before)

pub went_on : (i : ℕ) (first now : PixelJoinState) → (i ≡ 0 → now ≡ first) → (0 < i → may_go first ≡ true) → may_go now ≡ true → may_go first ≡ true
went_on zero first now same went may = subst (λ (v : PixelJoinState). may_go v ≡ true) (same refl) may
went_on (suc i) first now same went may = went (omega arith)

pub step_take : (xs : List ℕ) (i : ℕ) (y : ℕ) → i < length xs → take (i + 1) (set xs i y) ≡ take i xs ++ y ∷ []
step_take xs i y h = take_more_set xs i y h

pub step_drop : (xs first : List ℕ) (i y : ℕ) → drop i xs ≡ drop i first → drop (i + 1) (set xs i y) ≡ drop (i + 1) first
step_drop xs first i y e =
    drop-set-lt (i + 1) xs i y (omega arith) ∙ (sym (drop-drop 1 i xs) ∙ (ap (drop 1) e ∙ drop-drop 1 i first))

-- what stands past a run stood there before
pub run_on : (at end : ℕ) (new now first : List ℕ) → at ≤ end → drop end new ≡ drop end now → drop at now ≡ drop at first → drop end new ≡ drop end first
run_on at end new now first low rest before =
    let e : at + (end - at) ≡ end = omega (arith, low) in
    rest ∙ (sym (drop-drop (end - at) at now ∙ ap (λ (n : ℕ). drop n now) e) ∙ (ap (drop (end - at)) before ∙ (drop-drop (end - at) at first ∙ ap (λ (n : ℕ). drop n first) e)))
