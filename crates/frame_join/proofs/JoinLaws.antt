-- How a join carries on what it was told.
use Rattle.std.proofs.Common.{◌≡◌, ℕ, ◌<◌, ◌≤◌, ◌+◌, ◌-◌, ◌*◌, ◌/◌, ◌⊎◌, inl, inr, Bool, true, false, not, List, [], ◌∷◌, ◌++◌, length, take, drop, length-append, arith, refl, sym, ap, ◌∙◌, subst}
use Rattle.std.specs.Prelude.{nat_lt, ◌==◌, ◌&&◌, ◌||◌, if◌then◌else◌, Option, Some, None, slice_index}
use Rattle.std.proofs.lemmas.Bool.{and_parts, cases_lt}
use Rattle.std.proofs.Math.Nat.{mul-sub}
use Rattle.std.proofs.Math.Seq.{drop-nil}
use Rattle.netpbm.specs.NoFile.{HoldsNoFile}
use Rattle.netpbm.specs.FileText.{header_text}
use Rattle.sane_fixed.specs.declared.byte_order.ByteOrder.{ByteOrder}
use Rattle.sane_fixed.specs.declared.params.Params.{Params}
use Rattle.frame_join.specs.declared.join_stage.JoinFault.{JoinFault}
use Rattle.frame_join.specs.declared.join_stage.JoinFault.TheVariants.{Shape, Long, Short, NoMem}
use Rattle.frame_join.specs.declared.join_stage.Stage.{Stage}
use Rattle.frame_join.specs.declared.join_stage.Stage.TheVariants.{Idle, Under, Keeping, Between, Whole, WholeColors, Failed}
use Rattle.page_picture.specs.Shows.{Frame}
use Rattle.frame_join.specs.AloneFrame.{AloneParts, most_lines, most_bytes, is_alone, row_bytes}
use Rattle.frame_join.specs.KeptFrame.{is_unknown, is_open_ended, is_pass, is_pass_that, color_number, goes_with}
use Rattle.frame_join.specs.ColorPlanes.{Plane, Planes, plane_in, planes_of, nth_plane, all_colors, side_by_side}
use Rattle.frame_join.specs.FrameHistory.{JoinHistory, after_begin, after_feed, after_end, after_begin_at, after_feed_at, after_end_at, with_fault, is_full, is_full_at, is_joined, is_accepted}
use Rattle.frame_join.specs.FrameFile.{header_alone, rows_front, row_front, with_height}
use Rattle.frame_join.specs.JoinStages.{fault_in, is_under, is_keeping}
use Rattle.frame_join.specs.PixelJoinStates.{PixelJoinState, PixelRepresents, PixelRepresentsAt, HasGoneOut, StreamsRows, IsSilent, KeepsFrame, IsPartOfColors, IsColor, AreColors}
use Rattle.frame_join.specs.Inside.{value_fed, value_ended, value_ended_at, kept_ended, with_known_height, color_put, color_ended, headed_by, put_plane, value_begun, value_begun_at, accepts_next, new_pixel_join, new_keeping_join}
use Rattle.frame_join.proofs.TestLemmas.{lt_true, lt_false, not_lt_from, same_test, or_cases, or_other}
use Rattle.frame_join.proofs.FrameLaws.{alone_parts}
use Rattle.frame_join.proofs.StreamLaws.{grown, held_length, bytes_come, small_append, goes_holds_none, nothing_holds_none, row_front-zero, rows_front-zero}
use Rattle.frame_join.proofs.KeptLaws.{open_parts, OpenParts, pass_parts, pass_that_is_pass}
use Rattle.frame_join.proofs.ColorLaws.{has_color, planes_put, plane_none, nth_is, first_parts, second_parts, third_parts, after_one, after_two, pass_not_alone}
use Rattle.frame_join.proofs.SideLaws.{three_parts, all_alone, side_small}
use Rattle.frame_join.proofs.HeightLaws.{full_size, settled_known, settled_alone, height_open}

-- ---- the steps, where it is known what stands

pub feed_none : (bytes : List ℕ) (starved : Bool) (past : JoinHistory) → past.fault ≡ None → past.under ≡ None → after_feed bytes starved past ≡ past
unfolding after_feed
feed_none bytes starved past a b =
    ap (λ (o : Option JoinFault). after_feed_at o past.under bytes starved past) a ∙ ap (λ (u : Option Frame). after_feed_at None u bytes starved past) b

pub feed_failed : (bytes : List ℕ) (starved : Bool) (past : JoinHistory) (x : JoinFault) → past.fault ≡ Some x → after_feed bytes starved past ≡ past
unfolding after_feed
feed_failed bytes starved past x a = ap (λ (o : Option JoinFault). after_feed_at o past.under bytes starved past) a

pub feed_under : (bytes : List ℕ) (starved : Bool) (past : JoinHistory) (f : Frame) → past.fault ≡ None → past.under ≡ Some f → after_feed bytes starved past ≡ after_feed_at None (Some f) bytes starved past
unfolding after_feed
feed_under bytes starved past f a b =
    ap (λ (o : Option JoinFault). after_feed_at o past.under bytes starved past) a ∙ ap (λ (u : Option Frame). after_feed_at None u bytes starved past) b

pub end_none : (past : JoinHistory) → past.fault ≡ None → past.under ≡ None → after_end past ≡ past
unfolding after_end
end_none past a b = ap (λ (o : Option JoinFault). after_end_at o past.under past) a ∙ ap (λ (u : Option Frame). after_end_at None u past) b

pub end_failed : (past : JoinHistory) (x : JoinFault) → past.fault ≡ Some x → after_end past ≡ past
unfolding after_end
end_failed past x a = ap (λ (o : Option JoinFault). after_end_at o past.under past) a

pub end_under : (past : JoinHistory) (f : Frame) → past.fault ≡ None → past.under ≡ Some f → after_end past ≡ after_end_at None (Some f) past
unfolding after_end
end_under past f a b = ap (λ (o : Option JoinFault). after_end_at o past.under past) a ∙ ap (λ (u : Option Frame). after_end_at None u past) b

pub begin_failed : (p : Params) (o : ByteOrder) (starved : Bool) (past : JoinHistory) (x : JoinFault) → past.fault ≡ Some x → after_begin p o starved past ≡ past
unfolding after_begin
begin_failed p o starved past x a = ap (λ (g : Option JoinFault). after_begin_at g past.under p o starved past) a

pub begin_under : (p : Params) (o : ByteOrder) (starved : Bool) (past : JoinHistory) (f : Frame) → past.fault ≡ None → past.under ≡ Some f → after_begin p o starved past ≡ with_fault Shape past
unfolding after_begin
begin_under p o starved past f a b = ap (λ (g : Option JoinFault). after_begin_at g past.under p o starved past) a ∙ ap (λ (u : Option Frame). after_begin_at None u p o starved past) b

pub begin_idle : (p : Params) (o : ByteOrder) (starved : Bool) (past : JoinHistory) → past.fault ≡ None → past.under ≡ None → after_begin p o starved past ≡ after_begin_at None None p o starved past
unfolding after_begin
begin_idle p o starved past a b = ap (λ (g : Option JoinFault). after_begin_at g past.under p o starved past) a ∙ ap (λ (u : Option Frame). after_begin_at None u p o starved past) b

-- ---- what stands at a stage

pub at_stage : (s : Stage) (past : JoinHistory) (v : PixelJoinState) → v.stage ≡ s → PixelRepresents past v → PixelRepresentsAt s past v
at_stage s past v e stands = subst (λ (s : Stage). PixelRepresentsAt s past v) e stands.at_stage

pub fault_at : (s : Stage) (past : JoinHistory) (v : PixelJoinState) → v.stage ≡ s → PixelRepresents past v → past.fault ≡ fault_in s
fault_at s past v e stands = stands.fault ∙ ap fault_in e

-- ---- bytes come

left_length : (a b c n h : ℕ) → n ≤ a * c → b * c ≤ n → h + b * c ≡ n → (a - b) * c - h ≡ a * c - n
left_length a b c n h x y z =
    let e : (a - b) * c ≡ a * c - b * c = mul_comm_sub a b c in
    omega (arith, e, x, y, z)
  where
    mul_comm_sub : (a b c : ℕ) → (a - b) * c ≡ a * c - b * c
    mul_comm_sub a b c = let one : c * (a - b) ≡ c * a - c * b = mul-sub c a b in omega (arith, one)

test_shift : (x m n k : ℕ) → x ≡ m - n → n ≤ m → nat_lt x k ≡ nat_lt m (n + k)
test_shift x m n k e le = elim (cases_lt x k) as (λ _. nat_lt x k ≡ nat_lt m (n + k)) [
  | inl less ↦ lt_true x k less ∙ sym (lt_true m (n + k) (omega (arith, e, le, less)))
  | inr more ↦ lt_false x k more ∙ sym (lt_false m (n + k) (omega (arith, e, le, more)))
]

-- the test for too many bytes, where so much of the frame is held from the row on
long_test : (f : Frame) (bytes : List ℕ) (v : PixelJoinState) → v.params ≡ f.params → length f.payload ≤ most_bytes f.params → v.row * f.params.bytes_per_line ≤ length f.payload → length v.held + v.row * f.params.bytes_per_line ≡ length f.payload → nat_lt ((most_lines v.params.lines - v.row) * v.params.bytes_per_line - length v.held) (length bytes) ≡ nat_lt (most_bytes f.params) (length f.payload + length bytes)
long_test f bytes v params most reach held =
    ap (λ (p : Params). nat_lt ((most_lines p.lines - v.row) * p.bytes_per_line - length v.held) (length bytes)) params
    ∙ test_shift ((most_lines f.params.lines - v.row) * f.params.bytes_per_line - length v.held) (most_bytes f.params) (length f.payload) (length bytes) (left_length (most_lines f.params.lines) v.row f.params.bytes_per_line (length f.payload) (length v.held) most reach held) most

no_rows : (v : PixelJoinState) (line : ℕ) → v.row ≡ 0 → v.row * line ≡ 0
no_rows v line e = ap (λ (n : ℕ). n * line) e ∙ (let z : 0 * line ≡ 0 = omega arith in z)

abbrev pub past_fed : Bool → Bool → Frame → List ℕ → JoinHistory → JoinHistory
past_fed long starved f bytes past =
    if long then with_fault Long past
    else (if starved then with_fault NoMem past else record past { under = Some (grown f bytes) })

abbrev pub join_fed : Bool → Bool → List ℕ → PixelJoinState → PixelJoinState
join_fed long starved bytes v =
    if long then record v { stage = Failed Long }
    else (if starved then record v { stage = Failed NoMem } else record v { held = v.held ++ bytes })

-- after a fault
failed_stands : (past : JoinHistory) (v : PixelJoinState) (fault : JoinFault) → HoldsNoFile past.given → PixelRepresents (with_fault fault past) (record v { stage = Failed fault })
failed_stands past v fault none = record { fault = refl; at_stage = none }

stream_fed : (long starved : Bool) (f : Frame) (bytes : List ℕ) (past : JoinHistory) (v : PixelJoinState) → v.stage ≡ Under → past.fault ≡ None → past.ended ≡ [] → StreamsRows f past.given v → ((i : ℕ) → slice_index bytes i < 256) → (long ≡ false → length f.payload + length bytes ≤ most_bytes f.params) → PixelRepresents (past_fed long starved f bytes past) (join_fed long starved bytes v)
stream_fed true starved f bytes past v under fault ended s small room = failed_stands past v Long (goes_holds_none f past.given v s.goes (s.last_row_waits (ap is_under under)))
stream_fed false true f bytes past v under fault ended s small room = failed_stands past v NoMem (goes_holds_none f past.given v s.goes (s.last_row_waits (ap is_under under)))
stream_fed false false f bytes past v under fault ended s small room = record {
  fault = fault ∙ sym (ap fault_in under);
  at_stage = subst (λ (t : Stage). PixelRepresentsAt t (record past { under = Some (grown f bytes) }) (record v { held = v.held ++ bytes })) (sym under) (grown f bytes, ended, refl, bytes_come f past.given bytes v s small (room refl));
}

silent_holds_none : (given : List ℕ) (v : PixelJoinState) → IsSilent given v → HoldsNoFile given
silent_holds_none given v silent = subst HoldsNoFile (sym silent.given_is) nothing_holds_none

kept_fed : (long starved : Bool) (f : Frame) (bytes : List ℕ) (past : JoinHistory) (v : PixelJoinState) → v.stage ≡ Keeping → past.fault ≡ None → KeepsFrame f past v → ((i : ℕ) → slice_index bytes i < 256) → (long ≡ false → length f.payload + length bytes ≤ most_bytes f.params) → PixelRepresents (past_fed long starved f bytes past) (join_fed long starved bytes v)
kept_fed true starved f bytes past v at fault k small room = failed_stands past v Long (silent_holds_none past.given v k.silent)
kept_fed false true f bytes past v at fault k small room = failed_stands past v NoMem (silent_holds_none past.given v k.silent)
kept_fed false false f bytes past v at fault k small room = record {
  fault = fault ∙ sym (ap fault_in at);
  at_stage = subst (λ (t : Stage). PixelRepresentsAt t (record past { under = Some (grown f bytes) }) (record v { held = v.held ++ bytes })) (sym at) (
    grown f bytes,
    refl,
    record {
      accepted = k.accepted;
      kept = k.kept;
      colors = k.colors;
      planes = k.planes;
      params = k.params;
      order = k.order;
      held = ap (λ (l : List ℕ). l ++ bytes) k.held;
      bytes = small_append f.payload bytes k.bytes small;
      most = omega (arith, length-append f.payload bytes, room refl);
      silent = record { given_is = k.silent.given_is; head = k.silent.head; headed = k.silent.headed; row = k.silent.row; column = k.silent.column };
    },
  );
}

pub feed_carries : (bytes : List ℕ) (starved : Bool) (past : JoinHistory) (v : PixelJoinState) → ((i : ℕ) → slice_index bytes i < 256) → PixelRepresents past v → PixelRepresents (after_feed bytes starved past) (value_fed bytes starved v)
feed_carries bytes starved past v small stands = by_stage v.stage refl
  where
    kept : after_feed bytes starved past ≡ past → (is_under v.stage || is_keeping v.stage) ≡ false → PixelRepresents (after_feed bytes starved past) (value_fed bytes starved v)
    kept a b =
        let same : value_fed bytes starved v ≡ v = ap (λ (t : Bool). if not t then v else join_fed (nat_lt ((most_lines v.params.lines - v.row) * v.params.bytes_per_line - length v.held) (length bytes)) starved bytes v) b in
        subst (λ (q : JoinHistory). PixelRepresents q (value_fed bytes starved v)) (sym a) (subst (λ (w : PixelJoinState). PixelRepresents past w) (sym same) stands)

    still : (s : Stage) → v.stage ≡ s → past.under ≡ None → fault_in s ≡ None → (is_under s || is_keeping s) ≡ false → PixelRepresents (after_feed bytes starved past) (value_fed bytes starved v)
    still s e under fault none = kept (feed_none bytes starved past (fault_at s past v e stands ∙ fault) under) (ap (λ (s : Stage). is_under s || is_keeping s) e ∙ none)

    taken : (s : Stage) (f : Frame) → v.stage ≡ s → fault_in s ≡ None → past.under ≡ Some f → (is_under s || is_keeping s) ≡ true → nat_lt ((most_lines v.params.lines - v.row) * v.params.bytes_per_line - length v.held) (length bytes) ≡ nat_lt (most_bytes f.params) (length f.payload + length bytes) → PixelRepresents (past_fed (nat_lt (most_bytes f.params) (length f.payload + length bytes)) starved f bytes past) (join_fed (nat_lt (most_bytes f.params) (length f.payload + length bytes)) starved bytes v) → PixelRepresents (after_feed bytes starved past) (value_fed bytes starved v)
    taken s f e fault under takes test new =
        let long = nat_lt (most_bytes f.params) (length f.payload + length bytes) in
        let opened : value_fed bytes starved v ≡ join_fed (nat_lt ((most_lines v.params.lines - v.row) * v.params.bytes_per_line - length v.held) (length bytes)) starved bytes v =
        ap (λ (t : Bool). if not t then v else join_fed (nat_lt ((most_lines v.params.lines - v.row) * v.params.bytes_per_line - length v.held) (length bytes)) starved bytes v) (ap (λ (s : Stage). is_under s || is_keeping s) e ∙ takes) in
        let value : value_fed bytes starved v ≡ join_fed long starved bytes v = opened ∙ ap (λ (t : Bool). join_fed t starved bytes v) test in
        let told : after_feed bytes starved past ≡ past_fed long starved f bytes past = feed_under bytes starved past f (fault_at s past v e stands ∙ fault) under in
        subst (λ (q : JoinHistory). PixelRepresents q (value_fed bytes starved v)) (sym told) (subst (λ (w : PixelJoinState). PixelRepresents (past_fed long starved f bytes past) w) (sym value) new)

    by_stage : (s : Stage) → v.stage ≡ s → PixelRepresents (after_feed bytes starved past) (value_fed bytes starved v)
    by_stage Idle e = still Idle e (at_stage Idle past v e stands).1 refl refl
    by_stage Between e = still Between e (at_stage Between past v e stands).0 refl refl
    by_stage Whole e = still Whole e (at_stage Whole past v e stands).2 refl refl
    by_stage WholeColors e = still WholeColors e (at_stage WholeColors past v e stands).4 refl refl
    by_stage (Failed x) e = kept (feed_failed bytes starved past x (fault_at (Failed x) past v e stands)) (ap (λ (s : Stage). is_under s || is_keeping s) e)
    by_stage Under e =
        let at = at_stage Under past v e stands in
        let f = at.0 in
        let s = at.3 in
        taken Under f e refl at.2 refl (long_test f bytes v s.goes.params s.most s.reach (held_length f past.given v s))
        (stream_fed (nat_lt (most_bytes f.params) (length f.payload + length bytes)) starved f bytes past v e (fault_at Under past v e stands) at.1 s small (not_lt_from (most_bytes f.params) (length f.payload + length bytes)))
    by_stage Keeping e =
        let at = at_stage Keeping past v e stands in
        let f = at.0 in
        let k = at.2 in
        let none = no_rows v f.params.bytes_per_line k.silent.row in
        let size : length v.held ≡ length f.payload = ap (λ (l : List ℕ). length l) k.held in
        taken Keeping f e refl at.1 refl (long_test f bytes v k.params k.most (omega (arith, none)) (omega (arith, none, size)))
        (kept_fed (nat_lt (most_bytes f.params) (length f.payload + length bytes)) starved f bytes past v e (fault_at Keeping past v e stands) k small (not_lt_from (most_bytes f.params) (length f.payload + length bytes)))

-- ---- nothing has gone yet

given_none : (f : Frame) (given head : List ℕ) (headed row column : ℕ) → given ≡ [] → headed ≡ 0 → row ≡ 0 → column ≡ 0 → given ≡ take headed head ++ (rows_front f row ++ row_front f row column)
given_none f given head headed row column a b c d =
    a
    ∙ sym (ap (λ (n : ℕ). take n head ++ (rows_front f row ++ row_front f row column)) b
    ∙ (ap (λ (n : ℕ). rows_front f n ++ row_front f row column) c
    ∙ (ap (λ (l : List ℕ). l ++ row_front f row column) (rows_front-zero f)
    ∙ (ap (λ (n : ℕ). row_front f row n) d ∙ row_front-zero f row))))

-- the file of a frame is about to go out
pub begins : (f : Frame) (given : List ℕ) (v : PixelJoinState) → AloneParts f.params → ((i : ℕ) → slice_index f.payload i < 256) → v.params ≡ f.params → v.order ≡ f.order → v.head ≡ header_text (header_alone f.params) → given ≡ [] → v.headed ≡ 0 → v.row ≡ 0 → v.column ≡ 0 → HasGoneOut f given v
begins f given v parts small params order head none headed row column = record {
  params = params;
  order = order;
  alone = parts;
  bytes = small;
  head = head;
  headed = omega (arith, headed);
  given_is = given_none f given v.head v.headed v.row v.column none headed row column;
  ahead = λ _. omega (arith, row, column);
  rows = omega (arith, row);
  column = omega (arith, column, parts.shape.row_some);
  row_begun = λ h. absurd (omega (arith, h, column));
}

-- ---- the frame ends

full_known : (f : Frame) → AloneParts f.params → is_full f ≡ (length f.payload == most_bytes f.params)
full_known f parts =
    ap (λ (o : Option ℕ). is_full_at o f.params.bytes_per_line (length f.payload)) parts.lines_known
    ∙ ap (λ (o : Option ℕ). length f.payload == most_lines o * f.params.bytes_per_line) (sym parts.lines_known)

full_test : (f : Frame) (given : List ℕ) (v : PixelJoinState) → StreamsRows f given v → (length v.held == (most_lines v.params.lines - v.row) * v.params.bytes_per_line) ≡ is_full f
full_test f given v s =
    let L = most_lines f.params.lines in
    let B = f.params.bytes_per_line in
    let one : B * (L - v.row) ≡ B * L - B * v.row = mul-sub B L v.row in
    let size = held_length f given v s in
    ap (λ (p : Params). length v.held == (most_lines p.lines - v.row) * p.bytes_per_line) s.goes.params
    ∙ (same_test (length v.held) ((L - v.row) * B) (length f.payload) (L * B) (λ e. omega (arith, e, one, size, s.most, s.reach)) (λ e. omega (arith, e, one, size, s.most, s.reach))
    ∙ sym (full_known f s.goes.alone))

ended_streams : (f : Frame) (given : List ℕ) (v : PixelJoinState) → StreamsRows f given v → StreamsRows f given (record v { stage = Whole })
ended_streams f given v s = record {
  goes = record {
    params = s.goes.params;
    order = s.goes.order;
    alone = s.goes.alone;
    bytes = s.goes.bytes;
    head = s.goes.head;
    headed = s.goes.headed;
    given_is = s.goes.given_is;
    ahead = s.goes.ahead;
    rows = s.goes.rows;
    column = s.goes.column;
    row_begun = s.goes.row_begun;
  };
  most = s.most;
  reach = s.reach;
  held = s.held;
  line_begun = s.line_begun;
  line_may_go = λ _ e. absurd (let x : false ≡ true = e in cc);
  last_row_waits = λ e. absurd (let x : false ≡ true = e in cc);
}

abbrev pub past_ended : Bool → Frame → JoinHistory → JoinHistory
past_ended full f past = if full then record past { ended = past.ended ++ f ∷ []; under = None } else with_fault Short past

abbrev stream_closed : Bool → PixelJoinState → PixelJoinState
stream_closed full v = if full then record v { stage = Whole } else record v { stage = Failed Short }

stream_ended : (full : Bool) (f : Frame) (past : JoinHistory) (v : PixelJoinState) → v.stage ≡ Under → past.fault ≡ None → past.ended ≡ [] → StreamsRows f past.given v → (full ≡ true → is_full f ≡ true) → PixelRepresents (past_ended full f past) (stream_closed full v)
stream_ended true f past v under fault ended s full = record {
  fault = fault;
  at_stage = (f, ap (λ (l : List Frame). l ++ f ∷ []) ended, refl, full_size f (full refl), subst (λ (g : Frame). StreamsRows g past.given (record v { stage = Whole })) (sym (settled_known f s.goes.alone.lines_known)) (ended_streams f past.given v s));
}
stream_ended false f past v under fault ended s full = failed_stands past v Short (goes_holds_none f past.given v s.goes (s.last_row_waits (ap is_under under)))

-- a frame that is kept is a picture of unknown height, or one color
pub kept_sort : (frames : List Frame) (f : Frame) → is_accepted frames f.params f.order ≡ true → is_alone f.params ≡ false → ((is_open_ended f.params ≡ true) × (frames ≡ [])) ⊎ (is_pass f.params ≡ true)
kept_sort [] f accepted kept = elim (or_cases (is_open_ended f.params) (is_pass_that false f.params) (or_other (is_alone f.params) (is_open_ended f.params || is_pass_that false f.params) accepted kept)) [
  | inl rolled ↦ inl (rolled, refl)
  | inr pass ↦ inr (pass_that_is_pass false f.params pass)
]
kept_sort (a ∷ []) f accepted kept = inr (pass_that_is_pass false f.params (and_parts (is_pass_that false f.params) (goes_with a f.params f.order) accepted).0)
kept_sort (a ∷ b ∷ []) f accepted kept = inr (pass_that_is_pass true f.params (and_parts (is_pass_that true f.params) (goes_with a f.params f.order && goes_with b f.params f.order) accepted).0)
kept_sort (a ∷ b ∷ c ∷ rest) f accepted kept = absurd (cc)

drop_none : (n : ℕ) (l : List ℕ) → n ≡ 0 → drop n l ≡ l
drop_none n l e = ap (λ (k : ℕ). drop k l) e

-- the height of a frame is told
height_ended : (f : Frame) (past : JoinHistory) (v : PixelJoinState) → past.fault ≡ None → past.ended ≡ [] → KeepsFrame f past v → OpenParts f.params → is_full f ≡ true → PixelRepresents (record past { ended = past.ended ++ f ∷ []; under = None }) (with_known_height v)
height_ended f past v fault ended k parts full =
    let q : Params = record v.params { lines = Some (length v.held / v.params.bytes_per_line) } in
    let told : q ≡ (with_height f).params =
    ap (λ (p : Params). record p { lines = Some (length v.held / p.bytes_per_line) }) k.params
    ∙ (ap (λ (l : List ℕ). record f.params { lines = Some (length l / f.params.bytes_per_line) }) k.held
    ∙ ap (λ (n : ℕ). record f.params { lines = Some n }) (sym (height_open f parts.lines))) in
    let head : v.head ++ header_text (header_alone q) ≡ header_text (header_alone (with_height f).params) = ap (λ (l : List ℕ). l ++ header_text (header_alone q)) k.silent.head ∙ ap (λ (p : Params). header_text (header_alone p)) told in
    let size = full_size f full in
    let none = no_rows v f.params.bytes_per_line k.silent.row in
    record {
      fault = fault;
      at_stage = (
        f,
        ap (λ (l : List Frame). l ++ f ∷ []) ended,
        refl,
        size,
        record {
          goes = begins (with_height f) past.given (with_known_height v) (settled_alone f parts full) k.bytes told k.order head k.silent.given_is k.silent.headed k.silent.row k.silent.column;
          most = omega (arith, size);
          reach = omega (arith, none);
          held = k.held ∙ sym (drop_none (v.row * f.params.bytes_per_line) f.payload none);
          line_begun = λ h. absurd (omega (arith, h, k.silent.column));
          line_may_go = λ _ e. absurd (let x : false ≡ true = e in cc);
          last_row_waits = λ e. absurd (let x : false ≡ true = e in cc);
        },
      );
    }

-- ---- a color ends

planes_after : (frames : List Frame) (f : Frame) (past : JoinHistory) (v : PixelJoinState) → past.ended ≡ frames → KeepsFrame f past v → is_pass f.params ≡ true → has_color (color_number f.params.format) frames ≡ false → (color_put v).planes ≡ planes_of (frames ++ f ∷ [])
planes_after frames f past v ended k pass none =
    ap (λ (p : Params). put_plane (color_number p.format) (record { line = p.bytes_per_line; bytes = v.held }) v.planes) k.params
    ∙ (ap (λ (l : List ℕ). put_plane (color_number f.params.format) (record { line = f.params.bytes_per_line; bytes = l }) v.planes) k.held
    ∙ (ap (put_plane (color_number f.params.format) (plane_in f)) (k.planes ∙ ap planes_of ended)
    ∙ planes_put frames f (pass_parts f.params pass).format none))

held_after : (frames : List Frame) (f : Frame) (past : JoinHistory) (v : PixelJoinState) → past.ended ≡ frames → KeepsFrame f past v → is_pass f.params ≡ true → has_color (color_number f.params.format) frames ≡ false → (color_put v).held ≡ []
held_after frames f past v ended k pass none =
    ap (λ (p : Params). (nth_plane v.planes (color_number p.format)).bytes) k.params
    ∙ (ap (λ (q : Planes). (nth_plane q (color_number f.params.format)).bytes) (k.planes ∙ ap planes_of ended)
    ∙ ap (λ (q : Plane). q.bytes) (nth_is frames f.params.format (pass_parts f.params pass).format ∙ plane_none (color_number f.params.format) frames none))

none_yet : (a b : Bool) → a ≡ false → b ≡ false → (a || b) ≡ false
none_yet true b x y = absurd (cc)
none_yet false b x y = y

waits_on : (frames : List Frame) (f : Frame) (past : JoinHistory) (v : PixelJoinState) → past.fault ≡ None → past.ended ≡ frames → KeepsFrame f past v → is_pass f.params ≡ true → has_color (color_number f.params.format) frames ≡ false → f.params.last_frame ≡ false → AreColors (frames ++ f ∷ []) → (v.params ≡ f.params → v.order ≡ f.order → IsPartOfColors (frames ++ f ∷ []) v.params v.order) → PixelRepresents (record past { ended = frames ++ f ∷ []; under = None }) (color_ended v)
waits_on frames f past v fault ended k pass none flag colors part =
    let more : v.params.last_frame ≡ false = ap (λ (p : Params). p.last_frame) k.params ∙ flag in
    let same : color_ended v ≡ color_put v = ap (λ (t : Bool). if t then headed_by (all_colors v.params) (record (color_put v) { stage = WholeColors }) else color_put v) more in
    subst (λ (w : PixelJoinState). PixelRepresents (record past { ended = frames ++ f ∷ []; under = None }) w) (sym same) (record {
      fault = fault;
      at_stage = (
        refl,
        record {
          part = part k.params k.order;
          colors = colors;
          planes = planes_after frames f past v ended k pass none;
          held = held_after frames f past v ended k pass none;
          silent = record { given_is = k.silent.given_is; head = k.silent.head; headed = k.silent.headed; row = k.silent.row; column = k.silent.column };
        },
      );
    })

colors_whole : (a b f : Frame) (past : JoinHistory) (v : PixelJoinState) → past.fault ≡ None → past.ended ≡ a ∷ b ∷ [] → KeepsFrame f past v → is_pass f.params ≡ true → has_color (color_number f.params.format) (a ∷ b ∷ []) ≡ false → f.params.last_frame ≡ true → AreColors (a ∷ b ∷ f ∷ []) → PixelRepresents (record past { ended = a ∷ b ∷ f ∷ []; under = None }) (color_ended v)
colors_whole a b f past v fault ended k pass none flag colors =
    let last : v.params.last_frame ≡ true = ap (λ (p : Params). p.last_frame) k.params ∙ flag in
    let w = headed_by (all_colors v.params) (record (color_put v) { stage = WholeColors }) in
    let same : color_ended v ≡ w = ap (λ (t : Bool). if t then headed_by (all_colors v.params) (record (color_put v) { stage = WholeColors }) else color_put v) last in
    let planes = planes_of (a ∷ b ∷ f ∷ []) in
    let three = three_parts a b f colors in
    let head : v.head ++ header_text (header_alone (all_colors v.params)) ≡ header_text (header_alone (all_colors f.params)) = ap (λ (l : List ℕ). l ++ header_text (header_alone (all_colors v.params))) k.silent.head ∙ ap (λ (p : Params). header_text (header_alone (all_colors p))) k.params in
    subst (λ (w : PixelJoinState). PixelRepresents (record past { ended = a ∷ b ∷ f ∷ []; under = None }) w) (sym same) (record {
      fault = fault;
      at_stage = (
        a,
        b,
        f,
        refl,
        refl,
        record {
          colors = colors;
          planes = planes_after (a ∷ b ∷ []) f past v ended k pass none;
          goes = begins (side_by_side f planes) past.given w (all_alone f.params three.third.pass) (side_small planes f.params.depth (row_bytes (all_colors f.params)) _ three.small) (ap all_colors k.params) k.order head k.silent.given_is k.silent.headed k.silent.row k.silent.column;
        },
      );
    })

color_kept : (f : Frame) (past : JoinHistory) (v : PixelJoinState) → past.fault ≡ None → KeepsFrame f past v → is_pass f.params ≡ true → is_full f ≡ true → PixelRepresents (record past { ended = past.ended ++ f ∷ []; under = None }) (color_ended v)
color_kept f past v fault k pass full = by_frames past.ended refl
  where
    color : (frames : List Frame) → past.ended ≡ frames → IsColor frames f
    color frames e = record { accepted = ap (λ (l : List Frame). is_accepted l f.params f.order) (sym e) ∙ k.accepted; pass = pass; full = full; bytes = k.bytes }

    colors : (frames : List Frame) → past.ended ≡ frames → AreColors frames
    colors frames e = subst AreColors e k.colors

    there : (frames : List Frame) → past.ended ≡ frames → PixelRepresents (record past { ended = frames ++ f ∷ []; under = None }) (color_ended v) → PixelRepresents (record past { ended = past.ended ++ f ∷ []; under = None }) (color_ended v)
    there frames e new = subst (λ (l : List Frame). PixelRepresents (record past { ended = l ++ f ∷ []; under = None }) (color_ended v)) (sym e) new

    by_frames : (frames : List Frame) → past.ended ≡ frames → PixelRepresents (record past { ended = past.ended ++ f ∷ []; under = None }) (color_ended v)
    by_frames [] e =
        let one = color [] e in
        there [] e (waits_on [] f past v fault e k pass refl (first_parts f pass one.accepted).flag one (λ x y. (x, y)))
    by_frames (a ∷ []) e =
        let one = color (a ∷ []) e in
        let second = second_parts a f one.accepted in
        there (a ∷ []) e (waits_on (a ∷ []) f past v fault e k pass (none_yet _ _ second.goes.other refl) second.flag (colors (a ∷ []) e, one) (λ x y. (x, y)))
    by_frames (a ∷ b ∷ []) e =
        let one = color (a ∷ b ∷ []) e in
        let third = third_parts a b f one.accepted in
        let before = colors (a ∷ b ∷ []) e in
        there (a ∷ b ∷ []) e (colors_whole a b f past v fault e k pass (none_yet _ _ third.first.other (none_yet _ _ third.second.other refl)) third.flag (before.0, before.1, one))
    by_frames (a ∷ b ∷ c ∷ rest) e = absurd (let clash : false ≡ true = (color (a ∷ b ∷ c ∷ rest) e).accepted in cc)

-- ---- the frame ends, whichever it is

abbrev kept_closed : Bool → Bool → PixelJoinState → PixelJoinState
kept_closed full unknown v =
    if not full then record v { stage = Failed Short } else (if unknown then with_known_height v else color_ended v)

kept_is : (f : Frame) (past : JoinHistory) (v : PixelJoinState) → KeepsFrame f past v → kept_ended v ≡ kept_closed (is_full f) (is_unknown f.params.lines) v
kept_is f past v k =
    ap (λ (t : Bool). kept_closed t (is_unknown v.params.lines) v)
    (ap (λ (p : Params). is_full_at p.lines p.bytes_per_line (length v.held)) k.params ∙ ap (λ (l : List ℕ). is_full_at f.params.lines f.params.bytes_per_line (length l)) k.held)
    ∙ ap (λ (p : Params). kept_closed (is_full f) (is_unknown p.lines) v) k.params

kept_closes : (full : Bool) (f : Frame) (past : JoinHistory) (v : PixelJoinState) → past.fault ≡ None → KeepsFrame f past v → is_full f ≡ full → PixelRepresents (past_ended full f past) (kept_closed full (is_unknown f.params.lines) v)
kept_closes false f past v fault k e = failed_stands past v Short (silent_holds_none past.given v k.silent)
kept_closes true f past v fault k e = elim (kept_sort past.ended f k.accepted k.kept) [
  | inl rolled ↦
      let parts = open_parts f.params rolled.0 in
      let same : with_known_height v ≡ kept_closed true (is_unknown f.params.lines) v = ap (λ (o : Option ℕ). kept_closed true (is_unknown o) v) (sym parts.lines) in
      subst (λ (w : PixelJoinState). PixelRepresents (past_ended true f past) w) same (height_ended f past v fault rolled.1 k parts e)
  | inr pass ↦
      let same : color_ended v ≡ kept_closed true (is_unknown f.params.lines) v = ap (λ (o : Option ℕ). kept_closed true (is_unknown o) v) (sym (pass_parts f.params pass).lines_known) in
      subst (λ (w : PixelJoinState). PixelRepresents (past_ended true f past) w) same (color_kept f past v fault k pass e)
]

pub end_carries : (past : JoinHistory) (v : PixelJoinState) → PixelRepresents past v → PixelRepresents (after_end past) (value_ended v)
end_carries past v stands = by_stage v.stage refl
  where
    moved : (q : JoinHistory) (w : PixelJoinState) → after_end past ≡ q → value_ended v ≡ w → PixelRepresents q w → PixelRepresents (after_end past) (value_ended v)
    moved q w a b new = subst (λ (q : JoinHistory). PixelRepresents q (value_ended v)) (sym a) (subst (λ (w : PixelJoinState). PixelRepresents q w) (sym b) new)

    still : (s : Stage) → v.stage ≡ s → past.under ≡ None → fault_in s ≡ None → value_ended_at s v ≡ v → PixelRepresents (after_end past) (value_ended v)
    still s e under fault same = moved past v (end_none past (fault_at s past v e stands ∙ fault) under) (ap (λ (s : Stage). value_ended_at s v) e ∙ same) stands

    by_stage : (s : Stage) → v.stage ≡ s → PixelRepresents (after_end past) (value_ended v)
    by_stage Idle e = still Idle e (at_stage Idle past v e stands).1 refl refl
    by_stage Between e = still Between e (at_stage Between past v e stands).0 refl refl
    by_stage Whole e = still Whole e (at_stage Whole past v e stands).2 refl refl
    by_stage WholeColors e = still WholeColors e (at_stage WholeColors past v e stands).4 refl refl
    by_stage (Failed x) e = moved past v (end_failed past x (fault_at (Failed x) past v e stands)) (ap (λ (s : Stage). value_ended_at s v) e) stands
    by_stage Under e =
        let at = at_stage Under past v e stands in
        let f = at.0 in
        let fault = fault_at Under past v e stands in
        moved (past_ended (is_full f) f past) (stream_closed (is_full f) v)
        (end_under past f fault at.2)
        (ap (λ (s : Stage). value_ended_at s v) e ∙ ap (λ (t : Bool). stream_closed t v) (full_test f past.given v at.3))
        (stream_ended (is_full f) f past v e fault at.1 at.3 (λ h. h))
    by_stage Keeping e =
        let at = at_stage Keeping past v e stands in
        let f = at.0 in
        let fault = fault_at Keeping past v e stands in
        moved (past_ended (is_full f) f past) (kept_closed (is_full f) (is_unknown f.params.lines) v)
        (end_under past f fault at.1)
        (ap (λ (s : Stage). value_ended_at s v) e ∙ kept_is f past v at.2)
        (kept_closes (is_full f) f past v fault at.2 refl)

-- ---- a frame begins

fresh_streams : (p : Params) (o : ByteOrder) (given : List ℕ) → is_alone p ≡ true → given ≡ [] → StreamsRows (record { params = p; order = o; payload = [] }) given (new_pixel_join p o)
fresh_streams p o given alone empty =
    let parts = alone_parts p alone in
    let f : Frame = record { params = p; order = o; payload = [] } in
    record {
      goes = begins f given (new_pixel_join p o) parts (λ i. omega arith) refl refl refl empty refl refl refl;
      most = omega arith;
      reach = omega arith;
      held = sym (drop-nil (0 * p.bytes_per_line));
      line_begun = λ h. absurd (omega (arith, h));
      line_may_go = λ h. absurd (omega (arith, h));
      last_row_waits = λ _. omega (arith, parts.lines_some);
    }

abbrev new_frame : Params → ByteOrder → Frame
new_frame p o = record { params = p; order = o; payload = [] }

abbrev past_begun : Bool → Bool → Params → ByteOrder → JoinHistory → JoinHistory
past_begun accepted starved p o past =
    if not accepted then with_fault Shape past
    else (if starved then with_fault NoMem past
    else record past { under = Some (new_frame p o) })

abbrev join_begun : Bool → Bool → PixelJoinState → PixelJoinState → PixelJoinState
join_begun accepted starved began v =
    if not accepted then record v { stage = Failed Shape }
    else (if starved then record v { stage = Failed NoMem } else began)

-- a frame that is accepted begins, or memory runs out, or it is not accepted
begun_stands : (accepted starved : Bool) (p : Params) (o : ByteOrder) (past : JoinHistory) (began v : PixelJoinState) → past.given ≡ [] → (accepted ≡ true → PixelRepresents (record past { under = Some (new_frame p o) }) began) → PixelRepresents (past_begun accepted starved p o past) (join_begun accepted starved began v)
begun_stands false starved p o past began v given new = failed_stands past v Shape (subst HoldsNoFile (sym given) nothing_holds_none)
begun_stands true true p o past began v given new = failed_stands past v NoMem (subst HoldsNoFile (sym given) nothing_holds_none)
begun_stands true false p o past began v given new = new refl

-- the first frame: which of the two it is
first_is : (alone other starved : Bool) (p : Params) (o : ByteOrder) (v : PixelJoinState) → (if alone then (if starved then record v { stage = Failed NoMem } else new_pixel_join p o) else (if other then (if starved then record v { stage = Failed NoMem } else new_keeping_join p o) else record v { stage = Failed Shape })) ≡ join_begun (alone || other) starved (if alone then new_pixel_join p o else new_keeping_join p o) v
first_is true other starved p o v = refl
first_is false true starved p o v = refl
first_is false false starved p o v = refl

no_most : (p : Params) → 0 ≤ most_bytes p
no_most p = omega arith

kept_begins : (frames : List Frame) (p : Params) (o : ByteOrder) (past : JoinHistory) (v : PixelJoinState) → past.ended ≡ frames → is_accepted frames p o ≡ true → is_alone p ≡ false → AreColors frames → v.planes ≡ planes_of frames → v.params ≡ p → v.order ≡ o → v.held ≡ [] → IsSilent past.given v → KeepsFrame (new_frame p o) (record past { under = Some (new_frame p o) }) v
kept_begins frames p o past v ended accepted kept colors planes params order held silent = record {
  accepted = ap (λ (l : List Frame). is_accepted l p o) ended ∙ accepted;
  kept = kept;
  colors = subst AreColors (sym ended) colors;
  planes = planes ∙ ap planes_of (sym ended);
  params = params;
  order = order;
  held = held;
  bytes = λ i. omega arith;
  most = no_most p;
  silent = silent;
}

first_stands : (alone : Bool) (p : Params) (o : ByteOrder) (past : JoinHistory) → is_alone p ≡ alone → is_accepted [] p o ≡ true → past.fault ≡ None → past.ended ≡ [] → past.given ≡ [] → PixelRepresents (record past { under = Some (new_frame p o) }) (if alone then new_pixel_join p o else new_keeping_join p o)
first_stands true p o past alone accepted fault ended given = record {
  fault = fault;
  at_stage = (new_frame p o, ended, refl, fresh_streams p o past.given alone given);
}
first_stands false p o past alone accepted fault ended given = record {
  fault = fault;
  at_stage = (new_frame p o, refl, kept_begins [] p o past (new_keeping_join p o) ended accepted alone tt refl refl refl refl (record { given_is = given; head = refl; headed = refl; row = refl; column = refl }));
}

first_step : (p : Params) (o : ByteOrder) (starved : Bool) (past : JoinHistory) (frames : List Frame) → frames ≡ [] → (if is_joined frames then past else (if not (is_accepted frames p o) then with_fault Shape past else (if starved then with_fault NoMem past else record past { under = Some (new_frame p o) }))) ≡ past_begun (is_accepted [] p o) starved p o past
first_step p o starved past [] e = refl
first_step p o starved past (f ∷ rest) e = absurd (cc)

joined_step : (p : Params) (o : ByteOrder) (starved : Bool) (past : JoinHistory) (frames : List Frame) → is_joined frames ≡ true → (if is_joined frames then past else (if not (is_accepted frames p o) then with_fault Shape past else (if starved then with_fault NoMem past else record past { under = Some (new_frame p o) }))) ≡ past
joined_step p o starved past frames e = ap (λ (t : Bool). if t then past else (if not (is_accepted frames p o) then with_fault Shape past else (if starved then with_fault NoMem past else record past { under = Some (new_frame p o) }))) e

next_step : (p : Params) (o : ByteOrder) (starved : Bool) (past : JoinHistory) (frames : List Frame) → is_joined frames ≡ false → (if is_joined frames then past else (if not (is_accepted frames p o) then with_fault Shape past else (if starved then with_fault NoMem past else record past { under = Some (new_frame p o) }))) ≡ past_begun (is_accepted frames p o) starved p o past
next_step p o starved past frames e = ap (λ (t : Bool). if t then past else (if not (is_accepted frames p o) then with_fault Shape past else (if starved then with_fault NoMem past else record past { under = Some (new_frame p o) }))) e

-- colors of which some are to come
pub part_parts : (frames : List Frame) (v : PixelJoinState) → IsPartOfColors frames v.params v.order → AreColors frames → v.planes ≡ planes_of frames → (is_joined frames ≡ false) × ((p : Params) (o : ByteOrder) → accepts_next v p o ≡ is_accepted frames p o) × ((p : Params) (o : ByteOrder) → is_accepted frames p o ≡ true → is_alone p ≡ false)
part_parts [] v part colors planes = absurd part
part_parts (a ∷ []) v part colors planes = (
  (pass_parts a.params colors.pass).format,
  (λ p o. after_one a v p o colors planes part.0 part.1),
  (λ p o h. pass_not_alone p (pass_that_is_pass false p (and_parts (is_pass_that false p) (goes_with a p o) h).0)),
)
part_parts (a ∷ b ∷ []) v part colors planes = (
  refl,
  (λ p o. after_two a b v p o colors.0 colors.1 planes part.0 part.1),
  (λ p o h. pass_not_alone p (pass_that_is_pass true p (and_parts (is_pass_that true p) (goes_with a p o && goes_with b p o) h).0)),
)
part_parts (a ∷ b ∷ c ∷ rest) v part colors planes = absurd part

pub begin_carries : (p : Params) (o : ByteOrder) (starved : Bool) (past : JoinHistory) (v : PixelJoinState) → PixelRepresents past v → PixelRepresents (after_begin p o starved past) (value_begun p o starved v)
begin_carries p o starved past v stands = by_stage v.stage refl
  where
    moved : (q : JoinHistory) (w : PixelJoinState) → after_begin p o starved past ≡ q → value_begun p o starved v ≡ w → PixelRepresents q w → PixelRepresents (after_begin p o starved past) (value_begun p o starved v)
    moved q w a b new = subst (λ (q : JoinHistory). PixelRepresents q (value_begun p o starved v)) (sym a) (subst (λ (w : PixelJoinState). PixelRepresents q w) (sym b) new)

    inside : (s : Stage) (f : Frame) → v.stage ≡ s → fault_in s ≡ None → past.under ≡ Some f → value_begun_at s p o starved v ≡ record v { stage = Failed Shape } → HoldsNoFile past.given → PixelRepresents (after_begin p o starved past) (value_begun p o starved v)
    inside s f e fault under value none =
        moved (with_fault Shape past) (record v { stage = Failed Shape })
        (begin_under p o starved past f (fault_at s past v e stands ∙ fault) under)
        (ap (λ (s : Stage). value_begun_at s p o starved v) e ∙ value)
        (failed_stands past v Shape none)

    whole : (s : Stage) → v.stage ≡ s → fault_in s ≡ None → past.under ≡ None → is_joined past.ended ≡ true → value_begun_at s p o starved v ≡ v → PixelRepresents (after_begin p o starved past) (value_begun p o starved v)
    whole s e fault under joined value =
        moved past v
        (begin_idle p o starved past (fault_at s past v e stands ∙ fault) under ∙ joined_step p o starved past past.ended joined)
        (ap (λ (s : Stage). value_begun_at s p o starved v) e ∙ value)
        stands

    by_stage : (s : Stage) → v.stage ≡ s → PixelRepresents (after_begin p o starved past) (value_begun p o starved v)
    by_stage Idle e =
        let at = at_stage Idle past v e stands in
        let fault = fault_at Idle past v e stands in
        let began = if is_alone p then new_pixel_join p o else new_keeping_join p o in
        moved (past_begun (is_accepted [] p o) starved p o past) (join_begun (is_accepted [] p o) starved began v)
        (begin_idle p o starved past fault at.1 ∙ first_step p o starved past past.ended at.0)
        (ap (λ (s : Stage). value_begun_at s p o starved v) e ∙ first_is (is_alone p) (is_open_ended p || is_pass_that false p) starved p o v)
        (begun_stands (is_accepted [] p o) starved p o past began v at.2 (λ accepted. first_stands (is_alone p) p o past refl accepted fault at.0 at.2))
    by_stage Between e =
        let at = at_stage Between past v e stands in
        let w = at.1 in
        let fault = fault_at Between past v e stands in
        let parts = part_parts past.ended v w.part w.colors w.planes in
        let began : PixelJoinState = record v { stage = Keeping; params = p; order = o } in
        moved (past_begun (is_accepted past.ended p o) starved p o past) (join_begun (is_accepted past.ended p o) starved began v)
        (begin_idle p o starved past fault at.0 ∙ next_step p o starved past past.ended parts.0)
        (ap (λ (s : Stage). value_begun_at s p o starved v) e ∙ ap (λ (t : Bool). join_begun t starved began v) (parts.1 p o))
        (begun_stands (is_accepted past.ended p o) starved p o past began v w.silent.given_is (λ accepted. record {
          fault = fault;
          at_stage = (new_frame p o, refl, kept_begins past.ended p o past began refl accepted (parts.2 p o accepted) w.colors w.planes refl refl w.held (record { given_is = w.silent.given_is; head = w.silent.head; headed = w.silent.headed; row = w.silent.row; column = w.silent.column }));
        }))
    by_stage Whole e =
        let at = at_stage Whole past v e stands in
        whole Whole e refl at.2 (ap is_joined at.1 ∙ at.4.goes.alone.format) refl
    by_stage WholeColors e =
        let at = at_stage WholeColors past v e stands in
        whole WholeColors e refl at.4 (ap is_joined at.3) refl
    by_stage (Failed x) e =
        moved past v (begin_failed p o starved past x (fault_at (Failed x) past v e stands)) (ap (λ (s : Stage). value_begun_at s p o starved v) e) stands
    by_stage Under e =
        let at = at_stage Under past v e stands in
        inside Under at.0 e refl at.2 refl (goes_holds_none at.0 past.given v at.3.goes (at.3.last_row_waits (ap is_under e)))
    by_stage Keeping e =
        let at = at_stage Keeping past v e stands in
        inside Keeping at.0 e refl at.1 refl (silent_holds_none past.given v at.2.silent)

-- ---- the same of what the calls left

pub end_carried : (past : JoinHistory) (v new : PixelJoinState) → new ≡ value_ended v → PixelRepresents past v → PixelRepresents (after_end past) new
end_carried past v new e stands = subst (λ (w : PixelJoinState). PixelRepresents (after_end past) w) (sym e) (end_carries past v stands)

pub feed_carried : (bytes : List ℕ) (starved : Bool) (past : JoinHistory) (v new : PixelJoinState) → ((i : ℕ) → slice_index bytes i < 256) → new ≡ value_fed bytes starved v → PixelRepresents past v → PixelRepresents (after_feed bytes starved past) new
feed_carried bytes starved past v new small e stands = subst (λ (w : PixelJoinState). PixelRepresents (after_feed bytes starved past) w) (sym e) (feed_carries bytes starved past v small stands)

pub begin_carried : (p : Params) (o : ByteOrder) (starved : Bool) (past : JoinHistory) (v new : PixelJoinState) → new ≡ value_begun p o starved v → PixelRepresents past v → PixelRepresents (after_begin p o starved past) new
begin_carried p o starved past v new e stands = subst (λ (w : PixelJoinState). PixelRepresents (after_begin p o starved past) w) (sym e) (begin_carries p o starved past v stands)

-- a join to which no frame came stands for no frame
pub idle_has_none : (past : JoinHistory) (v : PixelJoinState) → PixelRepresents past v → v.stage ≡ Idle → past.ended ≡ []
idle_has_none past v stands idle = (rw idle at stands.at_stage).0
