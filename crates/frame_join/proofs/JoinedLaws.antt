-- What a join says of the frames that came, by what it says of what is kept of them.
use Rattle.std.proofs.Common.{◌≡◌, ◌≢◌, ℕ, suc, ◌≤◌, ◌⊎◌, inl, inr, Bool, true, false, List, [], ◌∷◌, ◌++◌, length, arith, refl, sym, ap, ◌∙◌, subst, map}
use Rattle.std.specs.Prelude.{if◌then◌else◌, Option, Some, None, option_map, Ok, Err}
use Rattle.netpbm.specs.Picture.{Picture}
use Rattle.page_picture.specs.Shows.{Frame, ShowsFrames}
use Rattle.frame_join.specs.declared.join_stage.Stage.{Stage}
use Rattle.frame_join.specs.declared.join_stage.Stage.TheVariants.{Idle, Under, Keeping, Between, Whole, WholeColors, Failed}
use Rattle.frame_join.specs.AloneFrame.{is_alone}
use Rattle.frame_join.specs.KeptFrame.{is_open_ended, is_pass}
use Rattle.frame_join.specs.FrameFile.{file_of, file_front, gone_under, rows_to_go, AllGone, GoesThrough}
use Rattle.frame_join.specs.FrameHistory.{JoinHistory, is_full, answer_of_end, after_pull, history_frames, with_last, IsJoined}
use Rattle.frame_join.specs.JoinStages.{is_keeping, fault_in}
use Rattle.frame_join.specs.Inside.{answer_at}
use Rattle.frame_join.specs.PixelJoinStates.{PixelJoinState, PixelRepresents, PixelRepresentsAt, AreColors, IsPartOfColors}
use Rattle.frame_join.specs.Pixels.{is_kept, pixels_of, pixel_history}
use Rattle.frame_join.specs.JoinStates.{JoinState, Represents, IsComing, AreEnded}
use Rattle.frame_join.proofs.TestLemmas.{or_right}
use Rattle.frame_join.proofs.KeptLaws.{pass_parts}
use Rattle.frame_join.proofs.SideLaws.{three_parts}
use Rattle.frame_join.proofs.HeightLaws.{shown_full, color_full}
use Rattle.frame_join.proofs.EndLaws.{answers, joined_no_fault, joined_under}
use Rattle.frame_join.proofs.PixelParams.{narrowed, pixels_kept, pixels_same, kept_is_alone, kept_not_alone, same_pass}
use Rattle.frame_join.proofs.PixelFrames.{whole_of}
use Rattle.frame_join.proofs.PixelShows.{IsTrio}
use Rattle.frame_join.proofs.PixelPasts.{AreTrio, file_same, answer_same}
use Rattle.frame_join.proofs.PixelSteps.{in_kept, under_alone, some_same}

-- ---- a whole picture

pub joined_less : (past : JoinHistory) → IsJoined past → IsJoined (pixel_history past)
joined_less past joined = answer_same past ∙ joined

pub joined_more : (past : JoinHistory) → IsJoined (pixel_history past) → IsJoined past
joined_more past joined = sym (answer_same past) ∙ joined

pub calm_joined : (past : JoinHistory) (v : JoinState) → Represents past v → IsJoined past → past.fault ≡ None
calm_joined past v stands joined = joined_no_fault (pixel_history past) v.pixels stands.pixels (joined_less past joined)

none_map : (u : Option Frame) → option_map pixels_of u ≡ None → u ≡ None
none_map None e = refl
none_map (Some f) e = absurd (let clash : Some (pixels_of f) ≡ None = e in cc)

pub rest_joined : (past : JoinHistory) (v : JoinState) → Represents past v → IsJoined past → past.under ≡ None
rest_joined past v stands joined = none_map past.under (joined_under (pixel_history past) v.pixels stands.pixels (joined_less past joined))

-- ---- three colors

color_kept : (f : Frame) → is_pass (pixels_of f).params ≡ true → is_pass f.params ≡ true
color_kept f pass = sym (same_pass f.params) ∙ pass

pass_kept : (f : Frame) → is_pass f.params ≡ true → is_kept f.params ≡ true
pass_kept f pass = or_right (is_open_ended f.params) (is_pass f.params) pass

trio_from : (a b c : Frame) → AreColors (pixels_of a ∷ pixels_of b ∷ pixels_of c ∷ []) → AreEnded (a ∷ b ∷ c ∷ []) → IsTrio a b c
trio_from a b c colors ended =
    let pa = color_kept a colors.0.pass in
    let pb = color_kept b colors.1.pass in
    let pc = color_kept c colors.2.pass in
    let ka = pass_kept a pa in
    let kb = pass_kept b pb in
    let kc = pass_kept c pc in
    let less : AreColors (narrowed a ∷ narrowed b ∷ narrowed c ∷ []) =
    subst (λ (f : Frame). AreColors (narrowed a ∷ narrowed b ∷ f ∷ [])) (pixels_kept c kc)
    (subst (λ (f : Frame). AreColors (narrowed a ∷ f ∷ pixels_of c ∷ [])) (pixels_kept b kb)
    (subst (λ (f : Frame). AreColors (f ∷ pixels_of b ∷ pixels_of c ∷ [])) (pixels_kept a ka) colors)) in
    let t = three_parts (narrowed a) (narrowed b) (narrowed c) less in
    record {
      whole = (whole_of a ka ended.0.full, whole_of b kb ended.1.0.full, whole_of c kc ended.1.1.0.full);
      pass = (pass_parts a.params pa, pass_parts b.params pb, pass_parts c.params pc);
      widths = (t.first.width, t.second.width);
      lines = (t.first.lines, t.second.lines);
      depths = (t.first.depth, t.second.depth);
    }

few_trio : (frames : List Frame) → length frames ≤ 2 → AreTrio frames
few_trio [] few = tt
few_trio (a ∷ []) few = tt
few_trio (a ∷ b ∷ []) few = tt
few_trio (a ∷ b ∷ c ∷ rest) few = absurd (omega (arith, few))

length_map : (frames : List Frame) → length (map pixels_of frames) ≡ length frames
length_map [] = refl
length_map (f ∷ frames) = ap (λ (n : ℕ). suc n) (length_map frames)

few_map : (frames : List Frame) (n : ℕ) → length (map pixels_of frames) ≡ n → n ≤ 2 → AreTrio frames
few_map frames n e few = few_trio frames (omega (arith, few, sym (length_map frames) ∙ e))

three_trio : (frames : List Frame) (a b c : Frame) → map pixels_of frames ≡ a ∷ b ∷ c ∷ [] → AreColors (a ∷ b ∷ c ∷ []) → AreEnded frames → AreTrio frames
three_trio [] a b c e colors ended = tt
three_trio (f ∷ []) a b c e colors ended = tt
three_trio (f ∷ g ∷ []) a b c e colors ended = tt
three_trio (f ∷ g ∷ h ∷ []) a b c e colors ended = trio_from f g h (subst AreColors (sym e) colors) ended
three_trio (f ∷ g ∷ h ∷ i ∷ rest) a b c e colors ended = absurd (let clash : length (pixels_of f ∷ pixels_of g ∷ pixels_of h ∷ pixels_of i ∷ map pixels_of rest) ≡ 3 = ap length e in omega (arith, clash))

part_trio : (v : JoinState) (frames : List Frame) → IsPartOfColors (map pixels_of frames) v.pixels.params v.pixels.order → AreTrio frames
part_trio v [] part = absurd part
part_trio v (a ∷ []) part = tt
part_trio v (a ∷ b ∷ []) part = tt
part_trio v (a ∷ b ∷ c ∷ rest) part = absurd part

pub trio_of : (past : JoinHistory) (v : JoinState) → Represents past v → past.fault ≡ None → past.under ≡ None → AreTrio past.ended
trio_of past v stands calm none = by v.pixels.stage stands.pixels.at_stage (sym stands.pixels.fault ∙ calm)
  where
    rests : option_map pixels_of past.under ≡ None
    rests = ap (option_map pixels_of) none

    by : (s : Stage) → PixelRepresentsAt s (pixel_history past) v.pixels → fault_in s ≡ None → AreTrio past.ended
    by Idle at calm = few_map past.ended 0 (ap length at.0) (omega arith)
    by Under at calm = few_map past.ended 0 (ap length at.1) (omega arith)
    by Keeping at calm = absurd (let clash : None ≡ Some at.0 = sym rests ∙ at.1 in cc)
    by Between at calm = part_trio v past.ended at.1.part
    by Whole at calm = few_map past.ended 1 (ap length at.1) (omega arith)
    by WholeColors at calm = three_trio past.ended at.0 at.1 at.2 at.3 at.5.colors stands.ended
    by (Failed x) at calm = absurd (let clash : Some x ≡ None = calm in cc)

pub file_joined : (past : JoinHistory) (v : JoinState) → Represents past v → past.fault ≡ None → past.under ≡ None → file_of (map pixels_of past.ended) ≡ file_of past.ended
file_joined past v stands calm none = file_same past.ended stands.ended (trio_of past v stands calm none)

-- ---- what has gone

gone_same : (f : Frame) → (is_kept f.params ≡ true) ⊎ (is_kept f.params ≡ false) → gone_under (pixels_of f) ≡ gone_under f
gone_same f (inl kept) =
    let apart = kept_not_alone f.params kept in
    ap (λ (t : Bool). if t then file_front (pixels_of f) (rows_to_go (pixels_of f)) else []) (kept_is_alone f.params ∙ apart)
    ∙ sym (ap (λ (t : Bool). if t then file_front f (rows_to_go f) else []) apart)
gone_same f (inr through) = ap gone_under (pixels_same f through)

one_of : (t : Bool) → (t ≡ true) ⊎ (t ≡ false)
one_of true = inl refl
one_of false = inr refl

pub all_gone : (past : JoinHistory) (v : JoinState) → Represents past v → past.fault ≡ None → AllGone (option_map pixels_of past.under) (map pixels_of past.ended) past.given → AllGone past.under past.ended past.given
all_gone past v stands calm gone = by past.under refl gone
  where
    by : (u : Option Frame) → past.under ≡ u → AllGone (option_map pixels_of u) (map pixels_of past.ended) past.given → AllGone u past.ended past.given
    by None e gone = gone ∙ file_joined past v stands calm e
    by (Some f) e gone = gone ∙ gone_same f (one_of (is_kept f.params))

pub goes_less : (u : Option Frame) → GoesThrough u → GoesThrough (option_map pixels_of u)
goes_less None through = tt
goes_less (Some f) through = kept_is_alone f.params ∙ through

-- ---- bytes go out

still_keeps : (past : JoinHistory) (v : JoinState) (bytes : List ℕ) (w : PixelJoinState) → Represents past v → PixelRepresents (after_pull bytes (pixel_history past)) w → is_keeping w.stage ≡ true → is_keeping v.pixels.stage ≡ true
still_keeps past v bytes w stands pixels keeping = elim (is_keeping v.pixels.stage) as (λ t. is_keeping v.pixels.stage ≡ t → t ≡ true) [
  | true ↦ λ e. refl
  | false ↦ λ through. absurd (
      let k = in_kept (after_pull bytes (pixel_history past)) w pixels keeping in
      clash_of past.under refl k.frame k.under k.fault k.keeps.kept through)
] refl
  where
    clash_of : (u : Option Frame) → past.under ≡ u → (g : Frame) → option_map pixels_of past.under ≡ Some g → past.fault ≡ None → is_alone g.params ≡ false → is_keeping v.pixels.stage ≡ false → ⊥
    clash_of None e g told calm apart through = let clash : None ≡ Some g = sym (ap (option_map pixels_of) e) ∙ told in cc
    clash_of (Some f) e g told calm apart through =
        let same : pixels_of f ≡ g = some_same (pixels_of f) g (sym (ap (option_map pixels_of) e) ∙ told) in
        let clash : true ≡ false = sym (under_alone past v stands through calm f e) ∙ (sym (kept_is_alone f.params) ∙ (ap (λ (h : Frame). is_alone h.params) same ∙ apart)) in
        cc

come_on : (u : Option Frame) (v : JoinState) (w : PixelJoinState) → IsComing u v → IsComing u (record v { pixels = w })
come_on None v w c = c
come_on (Some f) v w c = record { kept = c.kept; line = c.line; came = c.came; most = c.most }

pub pull_stands : (past : JoinHistory) (v : JoinState) (bytes : List ℕ) (w : PixelJoinState) → Represents past v → PixelRepresents (after_pull bytes (pixel_history past)) w → Represents (after_pull bytes past) (record v { pixels = w })
pull_stands past v bytes w stands pixels = record {
  pixels = pixels;
  ended = stands.ended;
  coming = λ keeping. come_on past.under v w (stands.coming (still_keeps past v bytes w stands pixels keeping));
}

-- ---- a frame that lacks bytes shows no picture

short_at : (frames : List Frame) (f : Frame) (p : Picture) → 1 ≤ f.params.bytes_per_line → is_full f ≡ false → ShowsFrames (frames ++ f ∷ []) p → ⊥
short_at [] f p some short shows = let clash : true ≡ false = sym (shown_full f p shows some) ∙ short in cc
short_at (a ∷ []) f p some short shows = shows
short_at (a ∷ b ∷ []) f p some short shows =
    let third = shows.third_shows in
    let clash : true ≡ false = sym (color_full f p.height third.lines_known third.fits.size) ∙ short in
    cc
short_at (a ∷ b ∷ c ∷ []) f p some short shows = shows
short_at (a ∷ b ∷ c ∷ d ∷ rest) f p some short shows = shows

pub short_shows : (past : JoinHistory) (f : Frame) (p : Picture) → past.under ≡ Some f → 1 ≤ f.params.bytes_per_line → is_full f ≡ false → ShowsFrames (history_frames past) p → ⊥
short_shows past f p under some short shows = short_at past.ended f p some short (subst (λ (u : Option Frame). ShowsFrames (with_last past.ended u) p) under shows)

-- ---- for those above

silent_at : (s : Stage) (past : JoinHistory) (w : PixelJoinState) → answer_at s ≡ Ok false → PixelRepresentsAt s past w → past.under ≡ None → past.given ≡ []
silent_at Idle past w e at under = at.2
silent_at Under past w e at under = absurd (let clash : None ≡ Some at.0 = sym under ∙ at.2 in cc)
silent_at Keeping past w e at under = absurd (let clash : None ≡ Some at.0 = sym under ∙ at.1 in cc)
silent_at Between past w e at under = at.1.silent.given_is
silent_at Whole past w e at under = absurd (let clash : Ok true ≡ Ok false = e in cc)
silent_at WholeColors past w e at under = absurd (let clash : Ok true ≡ Ok false = e in cc)
silent_at (Failed fault) past w e at under = absurd (let clash : Err fault ≡ Ok false = e in cc)

-- between frames a join has given nothing, if its picture is not whole
pub rests_silent : (past : JoinHistory) (v : JoinState) → Represents past v → past.under ≡ None → answer_of_end past ≡ Ok false → past.given ≡ []
rests_silent past v stands under part =
    silent_at v.pixels.stage (pixel_history past) v.pixels (sym (answers (pixel_history past) v.pixels stands.pixels) ∙ (answer_same past ∙ part)) stands.pixels.at_stage (ap (option_map pixels_of) under)

pub some_more : (frames : List Frame) → frames ≢ [] → map pixels_of frames ≢ []
some_more [] some e = some refl
some_more (f ∷ frames) some e = cc
