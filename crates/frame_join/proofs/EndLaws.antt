-- What an end answers, and what whole frames show.
use Rattle.std.proofs.Common.{◌≡◌, ◌≢◌, ℕ, take, drop, ◌<◌, ◌+◌, ◌*◌, ◌⊎◌, inl, inr, Bool, true, false, List, [], ◌∷◌, ◌++◌, length, arith, refl, sym, ap, ◌∙◌, subst}
use Rattle.std.specs.Prelude.{nat_lt, ◌↔◌, if◌then◌else◌, Option, Some, None, Ok, Err, slice_index}
use Rattle.netpbm.specs.Picture.{Picture}
use Rattle.std.specs.Prelude.{nat_lt}
use Rattle.std.proofs.lemmas.Bool.{ltb-true}
use Rattle.std.proofs.lemmas.Bool.Decides.{nat_tests}
use Rattle.std.proofs.lemmas.List.{take_all, take-append-drop, length-drop}
use Rattle.frame_join.proofs.FrontLaws.{no_front}
use Rattle.netpbm.specs.Pnm.{IsWhole}
use Rattle.netpbm.specs.NoFile.{HoldsNoFile}
use Rattle.sane_fixed.specs.declared.frame_format.FrameFormat.{FrameFormat}
use Rattle.sane_fixed.specs.declared.frame_format.FrameFormat.TheVariants.{Gray, Rgb, Red, Green, Blue}
use Rattle.frame_join.specs.declared.join_stage.JoinFault.{JoinFault}
use Rattle.frame_join.specs.declared.join_stage.JoinFault.TheVariants.{Long, Short, NoMem}
use Rattle.frame_join.specs.declared.join_stage.Stage.{Stage}
use Rattle.frame_join.specs.declared.join_stage.Stage.TheVariants.{Idle, Under, Keeping, Between, Whole, WholeColors, Failed}
use Rattle.page_picture.proofs.MeaningLemmas.{greatest_limits}
use Rattle.page_picture.specs.Shows.{Frame, ShowsAlone, ShowsColors, ShowsFrames, HasLines, channels_within, channels_alone}
use Rattle.frame_join.specs.AloneFrame.{AloneParts, lines_in, most_bytes, is_alone, is_alone_format}
use Rattle.frame_join.specs.KeptFrame.{is_open_ended, is_pass}
use Rattle.frame_join.specs.ColorPlanes.{planes_of, side_by_side}
use Rattle.frame_join.specs.FrameHistory.{JoinHistory, after_feed, after_end, after_feed_at, after_end_at, is_full, is_joined, is_accepted, history_frames, answer_by, with_last, answer_of_end, IsJoined}
use Rattle.frame_join.specs.FrameFile.{file_front, file_of, AllGone, with_height, frame_height}
use Rattle.frame_join.specs.JoinStages.{fault_in, is_under}
use Rattle.frame_join.specs.PixelJoinStates.{PixelJoinState, PixelRepresents, AreColors, IsPartOfColors}
use Rattle.frame_join.specs.PictureText.{IsPictureFile}
use Rattle.frame_join.specs.Inside.{value_ended, answer_at}
use Rattle.frame_join.proofs.AcceptLaws.{alone_is}
use Rattle.frame_join.proofs.FrameLaws.{denotes_shown}
use Rattle.frame_join.proofs.StreamLaws.{grown, goes_holds_none, nothing_holds_none, frame_picture, frame_sample_small, alone_channels}
use Rattle.frame_join.proofs.KeptLaws.{open_parts, pass_parts}
use Rattle.frame_join.proofs.SideLaws.{three_parts, side_shows, colors_show}
use Rattle.frame_join.proofs.HeightLaws.{shown_full, color_full, settled_shows, unsettled_shows}
use Rattle.frame_join.proofs.OwnText.{is_file}
use Rattle.frame_join.proofs.JoinLaws.{at_stage, fault_at, end_none, end_under, end_carries, past_fed, past_ended, part_parts, kept_sort}

-- ---- what `end` answers

answered : (past : JoinHistory) (o : Option JoinFault) (u : Option Frame) (es : List Frame) → past.fault ≡ o → past.under ≡ u → past.ended ≡ es → answer_of_end past ≡ answer_by o u es
answered past o u es a b c =
    ap (λ (o : Option JoinFault). answer_by o past.under past.ended) a
    ∙ (ap (λ (u : Option Frame). answer_by o u past.ended) b ∙ ap (answer_by o u) c)

pub answers : (past : JoinHistory) (v : PixelJoinState) → PixelRepresents past v → answer_of_end past ≡ answer_at v.stage
answers past v stands = by_stage v.stage refl
  where
    told : (s : Stage) (u : Option Frame) (b : Bool) → v.stage ≡ s → fault_in s ≡ None → past.under ≡ u → answer_by None u past.ended ≡ Ok b → answer_at s ≡ Ok b → answer_of_end past ≡ answer_at v.stage
    told s u b e fault under answer same = answered past None u past.ended (fault_at s past v e stands ∙ fault) under refl ∙ (answer ∙ (sym same ∙ sym (ap answer_at e)))

    by_stage : (s : Stage) → v.stage ≡ s → answer_of_end past ≡ answer_at v.stage
    by_stage Idle e =
        let at = at_stage Idle past v e stands in
        told Idle None false e refl at.1 (ap (λ (l : List Frame). Ok (is_joined l)) at.0) refl
    by_stage (Failed x) e = answered past (Some x) past.under past.ended (fault_at (Failed x) past v e stands) refl refl ∙ sym (ap answer_at e)
    by_stage Under e =
        let at = at_stage Under past v e stands in
        told Under (Some at.0) false e refl at.2 refl refl
    by_stage Keeping e =
        let at = at_stage Keeping past v e stands in
        told Keeping (Some at.0) false e refl at.1 refl refl
    by_stage Between e =
        let at = at_stage Between past v e stands in
        let parts = part_parts past.ended v at.1.part at.1.colors at.1.planes in
        told Between None false e refl at.0 (ap (λ (b : Bool). Ok b) parts.0) refl
    by_stage Whole e =
        let at = at_stage Whole past v e stands in
        told Whole None true e refl at.2 (ap (λ (l : List Frame). Ok (is_joined l)) at.1 ∙ ap (λ (b : Bool). Ok b) at.4.goes.alone.format) refl
    by_stage WholeColors e =
        let at = at_stage WholeColors past v e stands in
        told WholeColors None true e refl at.4 (ap (λ (l : List Frame). Ok (is_joined l)) at.3) refl

stage_joined : (s : Stage) → answer_at s ≡ Ok true → (s ≡ Whole) ⊎ (s ≡ WholeColors)
stage_joined Idle e = absurd (cc)
stage_joined Under e = absurd (cc)
stage_joined Keeping e = absurd (cc)
stage_joined Between e = absurd (cc)
stage_joined Whole e = inl refl
stage_joined WholeColors e = inr refl
stage_joined (Failed x) e = absurd (cc)

pub joined_stage : (past : JoinHistory) (v : PixelJoinState) → PixelRepresents past v → IsJoined past → (v.stage ≡ Whole) ⊎ (v.stage ≡ WholeColors)
joined_stage past v stands joined = stage_joined v.stage (sym (answers past v stands) ∙ joined)

pub joined_no_fault : (past : JoinHistory) (v : PixelJoinState) → PixelRepresents past v → IsJoined past → past.fault ≡ None
joined_no_fault past v stands joined = elim (joined_stage past v stands joined) [
  | inl whole ↦ fault_at Whole past v whole stands
  | inr colors ↦ fault_at WholeColors past v colors stands
]

pub joined_under : (past : JoinHistory) (v : PixelJoinState) → PixelRepresents past v → IsJoined past → past.under ≡ None
joined_under past v stands joined = elim (joined_stage past v stands joined) [
  | inl whole ↦ (at_stage Whole past v whole stands).2
  | inr colors ↦ (at_stage WholeColors past v colors stands).4
]

-- where no fault stands and what went out is no whole text, no front of it is one
fronts_hold : (past : JoinHistory) (v : PixelJoinState) → PixelRepresents past v → past.fault ≡ None → (IsWhole past.given → ⊥) → HoldsNoFile past.given
fronts_hold past v stands calm part = λ n. by n (nat_lt n (length past.given)) refl
  where
    by : (n : ℕ) (less : Bool) → nat_lt n (length past.given) ≡ less → IsWhole (take n past.given) → ⊥
    by n true e =
        let some : drop n past.given ≢ [] = λ none. omega (arith, ltb-true n (length past.given) e, length-drop n past.given, ap (λ (l : List ℕ). length l) none) in
        no_front past v (take n past.given) (drop n past.given) stands calm (sym (take-append-drop n past.given)) some
    by n false e = λ whole. part (subst IsWhole (take_all n past.given (grind (arith, nat_tests, e))) whole)

-- unless the picture is whole and all of its file went out, what went out holds no whole text
pub holds_none : (past : JoinHistory) (v : PixelJoinState) → PixelRepresents past v → (IsJoined past → IsWhole past.given → ⊥) → HoldsNoFile past.given
holds_none past v stands part = by_stage v.stage refl
  where
    nothing : past.given ≡ [] → HoldsNoFile past.given
    nothing none = subst HoldsNoFile (sym none) nothing_holds_none

    by_stage : (s : Stage) → v.stage ≡ s → HoldsNoFile past.given
    by_stage Idle e = nothing (at_stage Idle past v e stands).2
    by_stage (Failed x) e = at_stage (Failed x) past v e stands
    by_stage Under e =
        let at = at_stage Under past v e stands in
        goes_holds_none at.0 past.given v at.3.goes (at.3.last_row_waits (ap is_under e))
    by_stage Keeping e = nothing (at_stage Keeping past v e stands).2.silent.given_is
    by_stage Between e = nothing (at_stage Between past v e stands).1.silent.given_is
    by_stage Whole e = fronts_hold past v stands (fault_at Whole past v e stands) (part (answers past v stands ∙ ap answer_at e))
    by_stage WholeColors e = fronts_hold past v stands (fault_at WholeColors past v e stands) (part (answers past v stands ∙ ap answer_at e))

-- so it is no whole text itself
pub not_whole : (past : JoinHistory) (v : PixelJoinState) → PixelRepresents past v → (IsJoined past → ⊥) → IsWhole past.given → ⊥
not_whole past v stands unjoined whole = holds_none past v stands (λ joined. absurd (unjoined joined)) (length past.given) (subst IsWhole (sym (take_all (length past.given) past.given (omega arith))) whole)

-- ---- what whole frames show

known_lines : (o : Option ℕ) → o ≡ Some (lines_in o) → HasLines o (lines_in o)
known_lines None e = absurd (cc)
known_lines (Some n) e = refl

-- a frame that came whole shows a picture
pub frame_shows : (f : Frame) → AloneParts f.params → ((i : ℕ) → slice_index f.payload i < 256) → length f.payload ≡ lines_in f.params.lines * f.params.bytes_per_line → ShowsAlone f (frame_picture f)
frame_shows f parts small size = record {
  last = parts.last;
  channels = alone_channels f.params.format parts.format;
  fits = record {
    shape = parts.shape.line_shape;
    is_picture = record {
      width_some = parts.shape.width_some;
      width_most = parts.shape.width_most;
      height_some = parts.lines_some;
      height_most = parts.lines_most;
      greatest_some = (greatest_limits f.params.depth).0;
      greatest_most = (greatest_limits f.params.depth).1;
      in_range = λ x y k at. frame_sample_small f (channels_within f.params.format) x y k small;
    };
    width = refl;
    height = known_lines f.params.lines parts.lines_known;
    greatest = refl;
    size = size;
  };
  samples = λ x y k at. refl;
}

-- the frames of a whole picture show one
pub joined_shows : (past : JoinHistory) (v : PixelJoinState) → PixelRepresents past v → IsJoined past → (p : Picture) × ShowsFrames past.ended p
joined_shows past v stands joined = elim (joined_stage past v stands joined) [
  | inl whole ↦
      let at = at_stage Whole past v whole stands in
      let g = with_height at.0 in
      (frame_picture g, subst (λ (es : List Frame). ShowsFrames es (frame_picture g)) (sym at.1) (unsettled_shows at.0 (frame_picture g) (frame_shows g at.4.goes.alone at.4.goes.bytes at.3)))
  | inr colors ↦
      let at = at_stage WholeColors past v colors stands in
      let g = side_by_side at.2 (planes_of (at.0 ∷ at.1 ∷ at.2 ∷ [])) in
      (frame_picture g, subst (λ (es : List Frame). ShowsFrames es (frame_picture g)) (sym at.3) (colors_show at.0 at.1 at.2 (three_parts at.0 at.1 at.2 at.5.colors)))
]

-- once nothing more may go out of a whole picture, what went out denotes what the frames show
pub gone_file : (past : JoinHistory) (v : PixelJoinState) → PixelRepresents past v → IsJoined past → AllGone past.under past.ended past.given → (p : Picture) → ShowsFrames past.ended p → IsPictureFile past.given p
gone_file past v stands joined gone p shows = by_stage (joined_stage past v stands joined)
  where
    all : past.given ≡ file_of past.ended
    all = subst (λ (u : Option Frame). AllGone u past.ended past.given) (joined_under past v stands joined) gone

    by_stage : (v.stage ≡ Whole) ⊎ (v.stage ≡ WholeColors) → IsPictureFile past.given p
    by_stage (inl whole) =
        let at = at_stage Whole past v whole stands in
        let f = at.0 in
        let alone : ShowsAlone f p = subst (λ (es : List Frame). ShowsFrames es p) at.1 shows in
        let file : past.given ≡ file_front (with_height f) (frame_height f) = all ∙ (ap file_of at.1 ∙ ap (λ (t : Bool). if t then file_front (with_height f) (frame_height f) else []) at.4.goes.alone.format) in
        let parts = at.4.goes.alone in
        subst (λ (l : List ℕ). IsPictureFile l p) (sym file) (is_file (with_height f) p parts at.4.goes.bytes (settled_shows f p (omega (arith, parts.shape.row_some, parts.shape.fits)) alone))
    by_stage (inr colors) =
        let at = at_stage WholeColors past v colors stands in
        let a = at.0 in
        let b = at.1 in
        let c = at.2 in
        let three = three_parts a b c at.5.colors in
        let three_shows : ShowsColors a b c p = subst (λ (es : List Frame). ShowsFrames es p) at.3 shows in
        subst (λ (l : List ℕ). IsPictureFile l p) (sym (all ∙ ap file_of at.3)) (is_file (side_by_side c (planes_of (a ∷ b ∷ c ∷ []))) p at.5.goes.alone at.5.goes.bytes (side_shows a b c p three three_shows))

-- the file of a whole picture is that of one frame
pub joined_file : (past : JoinHistory) (v : PixelJoinState) → PixelRepresents past v → IsJoined past → (f : Frame) × (is_alone f.params ≡ true) × ((i : ℕ) → slice_index f.payload i < 256) × (file_of past.ended ≡ file_front f (lines_in f.params.lines))
joined_file past v stands joined = elim (joined_stage past v stands joined) [
  | inl whole ↦
      let at = at_stage Whole past v whole stands in
      let f = at.0 in
      (with_height f, alone_is (with_height f).params at.4.goes.alone, at.4.goes.bytes, ap file_of at.1 ∙ ap (λ (t : Bool). if t then file_front (with_height f) (frame_height f) else []) at.4.goes.alone.format)
  | inr colors ↦
      let at = at_stage WholeColors past v colors stands in
      let g = side_by_side at.2 (planes_of (at.0 ∷ at.1 ∷ at.2 ∷ [])) in
      (g, alone_is g.params at.5.goes.alone, at.5.goes.bytes, ap file_of at.3)
]

-- ---- where frames show a picture, the end of the last makes it whole

no_alone : (g : FrameFormat) (c : ℕ) → is_alone_format g ≡ false → channels_alone g ≡ Some c → ⊥
no_alone Gray c a e = cc
no_alone Rgb c a e = cc
no_alone Red c a e = cc
no_alone Green c a e = cc
no_alone Blue c a e = cc

ends_joined : (past : JoinHistory) (f : Frame) → past.fault ≡ None → past.under ≡ Some f → is_full f ≡ true → is_joined (past.ended ++ f ∷ []) ≡ true → IsJoined (after_end past)
ends_joined past f fault under full joined =
    let told : after_end past ≡ past_ended true f past = end_under past f fault under ∙ ap (λ (t : Bool). past_ended t f past) full in
    subst IsJoined (sym told) (answered (past_ended true f past) None None (past.ended ++ f ∷ []) fault refl refl ∙ ap (λ (b : Bool). Ok b) joined)

pub shown_joins : (past : JoinHistory) (v : PixelJoinState) → PixelRepresents past v → past.fault ≡ None → (p : Picture) → ShowsFrames (history_frames past) p → IsJoined (after_end past)
shown_joins past v stands fault p shows = by_stage v.stage refl
  where
    frames_at : (u : Option Frame) (es : List Frame) → past.under ≡ u → past.ended ≡ es → ShowsFrames (with_last es u) p
    frames_at u es a b = subst (λ (es : List Frame). ShowsFrames (with_last es u) p) b (subst (λ (u : Option Frame). ShowsFrames (with_last past.ended u) p) a shows)

    whole : (s : Stage) → v.stage ≡ s → past.under ≡ None → answer_at s ≡ Ok true → IsJoined (after_end past)
    whole s e under answer = subst IsJoined (sym (end_none past fault under)) (answers past v stands ∙ (ap answer_at e ∙ answer))

    part : (es : List Frame) → past.ended ≡ es → past.under ≡ None → IsPartOfColors es v.params v.order → AreColors es → IsJoined (after_end past)
    part [] e under is colors = absurd is
    part (a ∷ []) e under is colors =
        let alone : ShowsAlone a p = frames_at None (a ∷ []) under e in
        absurd (no_alone a.params.format p.channels (pass_parts a.params colors.pass).format alone.channels)
    part (a ∷ b ∷ []) e under is colors = absurd (frames_at None (a ∷ b ∷ []) under e)
    part (a ∷ b ∷ c ∷ rest) e under is colors = absurd is

    kept : (es : List Frame) (f : Frame) → past.ended ≡ es → past.under ≡ Some f → is_accepted es f.params f.order ≡ true → ((is_open_ended f.params ≡ true) × (es ≡ [])) ⊎ (is_pass f.params ≡ true) → IsJoined (after_end past)
    kept [] f e under accepted (inl rolled) =
        let alone : ShowsAlone f p = frames_at (Some f) [] under e in
        let parts = open_parts f.params rolled.0 in
        ends_joined past f fault under (shown_full f p alone (omega (arith, parts.shape.row_some, parts.shape.fits))) (ap (λ (l : List Frame). is_joined (l ++ f ∷ [])) e ∙ parts.format)
    kept [] f e under accepted (inr pass) =
        let alone : ShowsAlone f p = frames_at (Some f) [] under e in
        absurd (no_alone f.params.format p.channels (pass_parts f.params pass).format alone.channels)
    kept (a ∷ []) f e under accepted sort = absurd (frames_at (Some f) (a ∷ []) under e)
    kept (a ∷ b ∷ []) f e under accepted sort =
        let colors : ShowsColors a b f p = frames_at (Some f) (a ∷ b ∷ []) under e in
        ends_joined past f fault under (color_full f p.height colors.third_shows.lines_known colors.third_shows.fits.size) (ap (λ (l : List Frame). is_joined (l ++ f ∷ [])) e)
    kept (a ∷ b ∷ c ∷ rest) f e under accepted sort = absurd (let clash : false ≡ true = accepted in cc)

    by_stage : (s : Stage) → v.stage ≡ s → IsJoined (after_end past)
    by_stage Idle e =
        let at = at_stage Idle past v e stands in
        absurd (frames_at None [] at.1 at.0)
    by_stage (Failed x) e = absurd (let y : None ≡ Some x = sym fault ∙ fault_at (Failed x) past v e stands in cc)
    by_stage Between e =
        let at = at_stage Between past v e stands in
        part past.ended refl at.0 at.1.part at.1.colors
    by_stage Whole e = whole Whole e (at_stage Whole past v e stands).2 refl
    by_stage WholeColors e = whole WholeColors e (at_stage WholeColors past v e stands).4 refl
    by_stage Keeping e =
        let at = at_stage Keeping past v e stands in
        kept past.ended at.0 refl at.1 at.2.accepted (kept_sort past.ended at.0 at.2.accepted at.2.kept)
    by_stage Under e =
        let at = at_stage Under past v e stands in
        let f = at.0 in
        let parts = at.3.goes.alone in
        let alone : ShowsAlone f p = frames_at (Some f) [] at.2 at.1 in
        ends_joined past f fault at.2 (shown_full f p alone (omega (arith, parts.shape.row_some, parts.shape.fits))) (ap (λ (l : List Frame). is_joined (l ++ f ∷ [])) at.1 ∙ parts.format)

-- ---- the clauses of `end`

joined_frames_at : (o : Option JoinFault) (u : Option Frame) (past : JoinHistory) → past.fault ≡ o → past.under ≡ u → IsJoined (after_end_at o u past) → (o ≡ None) × ((after_end_at o u past).ended ≡ with_last past.ended u)
joined_frames_at (Some x) u past a b joined = absurd (let y : Err x ≡ Ok true = sym (answered past (Some x) past.under past.ended a refl refl) ∙ joined in cc)
joined_frames_at None None past a b joined = (refl, refl)
joined_frames_at None (Some f) past a b joined =
    let P : Bool → Type 0 = λ t. IsJoined (past_ended t f past) → (past_ended t f past).ended ≡ past.ended ++ f ∷ [] in
    let by_full : (t : Bool) → P t = λ t. elim t as P [
      | true ↦ λ j. refl
      | false ↦ λ j. absurd (let y : Err Short ≡ Ok true = j in cc)
    ] in
    (refl, by_full (is_full f) joined)

joined_frames : (past : JoinHistory) → IsJoined (after_end past) → (past.fault ≡ None) × ((after_end past).ended ≡ history_frames past)
unfolding after_end
joined_frames past joined = joined_frames_at past.fault past.under past refl refl joined

pub end_answer : (past : JoinHistory) (v new : PixelJoinState) → new ≡ value_ended v → PixelRepresents past v → answer_at new.stage ≡ answer_of_end (after_end past)
end_answer past v new e stands =
    ap (λ (w : PixelJoinState). answer_at w.stage) e ∙ sym (answers (after_end past) (value_ended v) (end_carries past v stands))

pub end_exact : (past : JoinHistory) (v new : PixelJoinState) → new ≡ value_ended v → PixelRepresents past v → (answer_at new.stage ≡ Ok true) ↔ ((past.fault ≡ None) × ((p : Picture) × ShowsFrames (history_frames past) p))
end_exact past v new e stands = (there, back)
  where
    there : answer_at new.stage ≡ Ok true → (past.fault ≡ None) × ((p : Picture) × ShowsFrames (history_frames past) p)
    there true_now =
        let joined : IsJoined (after_end past) = sym (end_answer past v new e stands) ∙ true_now in
        let frames = joined_frames past joined in
        let shows = joined_shows (after_end past) (value_ended v) (end_carries past v stands) joined in
        (frames.0, (shows.0, subst (λ (es : List Frame). ShowsFrames es shows.0) frames.1 shows.1))

    back : (past.fault ≡ None) × ((p : Picture) × ShowsFrames (history_frames past) p) → answer_at new.stage ≡ Ok true
    back h = end_answer past v new e stands ∙ shown_joins past v stands h.0 h.1.0 h.1.1

-- ---- only an end makes a picture whole
