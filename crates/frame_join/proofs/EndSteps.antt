-- How a frame ends, and what a join then says of the frames.
use Rattle.std.proofs.Common.{◌≡◌, ℕ, ◌*◌, ◌≤◌, length, Bool, true, false, not, List, arith, refl, sym, ap, ◌∙◌, subst, map}
use Rattle.std.specs.Prelude.{◌&&◌, ◌||◌, ◌↔◌, Option, Some, None, option_map, Result, Ok, Err}
use Rattle.std.proofs.lemmas.Bool.{and_parts}
use Rattle.netpbm.specs.Picture.{Picture}
use Rattle.netpbm.specs.Pnm.{IsWhole}
use Rattle.netpbm.specs.NoFile.{HoldsNoFile}
use Rattle.page_picture.specs.Shows.{Frame, ShowsFrames}
use Rattle.frame_join.specs.declared.join_stage.JoinFault.{JoinFault}
use Rattle.frame_join.specs.declared.join_stage.JoinFault.TheVariants.{Short}
use Rattle.frame_join.specs.declared.join_stage.Stage.{Stage}
use Rattle.frame_join.specs.declared.join_stage.Stage.TheVariants.{Idle, Under, Keeping, Between, Whole, WholeColors, Failed}
use Rattle.frame_join.specs.AloneFrame.{is_alone, row_bytes}
use Rattle.frame_join.specs.FrameFile.{file_of, frame_height, AllGone}
use Rattle.frame_join.specs.ColorPlanes.{planes_of}
use Rattle.frame_join.specs.FrameHistory.{JoinHistory, is_full, is_full_at, with_fault, after_end, answer_of_end, history_frames, with_last, IsJoined}
use Rattle.frame_join.specs.JoinStages.{is_keeping, is_between, is_colors}
use Rattle.frame_join.specs.PixelJoinStates.{PixelJoinState, PixelRepresents, PixelRepresentsAt}
use Rattle.frame_join.specs.Pixels.{is_kept, pixels_of, pixel_history}
use Rattle.frame_join.specs.PictureText.{IsPictureFile}
use Rattle.frame_join.specs.JoinStates.{JoinState, Represents}
use Rattle.frame_join.proofs.TestLemmas.{or_left, or_right, not_true}
use Rattle.frame_join.proofs.KeptLaws.{kept_shape}
use Rattle.frame_join.proofs.EndLaws.{joined_shows, gone_file, holds_none, not_whole}
use Rattle.frame_join.proofs.PixelPasts.{end_same, answer_same, frames_same, shown_wide, shown_narrow, IsSure, AreSure, sure, sure-append}
use Rattle.frame_join.proofs.PixelSteps.{under_alone, alone_not_kept, fails_kept, in_kept}
use Rattle.frame_join.proofs.PixelParams.{pixels_kept}
use Rattle.frame_join.proofs.PixelFrames.{length_most, narrow_size, whole_of}
use Rattle.frame_join.proofs.PixelKeeping.{IsIn, is_in, full_is, short_is, fault_stands, end_stands, full_frame, through_frame}
use Rattle.frame_join.proofs.JoinedLaws.{joined_less, joined_more, file_joined, calm_joined, rest_joined, short_shows}

-- a frame is under way that is kept, and bytes of it have not come
abbrev pub lacks : JoinState → Bool
lacks v = is_keeping v.pixels.stage && not (is_full_at v.pixels.params.lines v.line v.came)

record IsShort (past : JoinHistory) (v : JoinState) : Type 0 where
  keeping : is_keeping v.pixels.stage ≡ true
  at : IsIn past v
  short : is_full at.frame ≡ false

is_short : (past : JoinHistory) (v : JoinState) → Represents past v → lacks v ≡ true → IsShort past v
is_short past v stands e =
    let parts = and_parts (is_keeping v.pixels.stage) (not (is_full_at v.pixels.params.lines v.line v.came)) e in
    let i = is_in past v stands parts.0 in
    record { keeping = parts.0; at = i; short = sym (full_is past v i) ∙ not_true (is_full_at v.pixels.params.lines v.line v.came) parts.1 }

pub ends_short : (past : JoinHistory) (v : JoinState) (w : PixelJoinState) → Represents past v → lacks v ≡ true → w ≡ record v.pixels { stage = Failed Short } → Represents (after_end past) (record v { pixels = w })
ends_short past v w stands e failing =
    let s = is_short past v stands e in
    subst (λ (q : JoinHistory). Represents q (record v { pixels = w })) (sym (short_is past v s.at s.short))
    (fault_stands Short past v (record v { pixels = w }) stands (subst (λ (x : PixelJoinState). PixelRepresents (with_fault Short (pixel_history past)) x) (sym failing) (fails_kept Short (pixel_history past) v.pixels stands.pixels s.keeping)))

pub short_answer : (past : JoinHistory) (v : JoinState) → Represents past v → lacks v ≡ true → Err Short ≡ answer_of_end (after_end past)
short_answer past v stands e = let s = is_short past v stands e in sym (ap answer_of_end (short_is past v s.at s.short))

pub short_exact : (past : JoinHistory) (v : JoinState) → Represents past v → lacks v ≡ true → (Err Short ≡ Ok true) ↔ ((past.fault ≡ None) × ((p : Picture) × ShowsFrames (history_frames past) p))
short_exact past v stands e =
    let s = is_short past v stands e in
    let shape = kept_shape s.at.frame.params s.at.come.kept in
    ((λ bad. absurd (let clash : Err Short ≡ Ok true = bad in cc)), (λ h. absurd (short_shows past s.at.frame h.1.0 s.at.under (omega (arith, shape.row_some, shape.fits)) s.short h.1.1)))

-- ---- all bytes came, or the frame is not kept

full_if : (k f : Bool) → (k && not f) ≡ false → k ≡ true → f ≡ true
full_if true true e h = refl
full_if true false e h = absurd (let clash : true ≡ false = e in cc)
full_if false f e h = absurd (let clash : false ≡ true = h in cc)

all_there : (past : JoinHistory) (v : JoinState) → Represents past v → lacks v ≡ false → past.fault ≡ None → (f : Frame) → past.under ≡ Some f → (is_full (pixels_of f) ≡ is_full f) × ((is_alone f.params || is_kept f.params) ≡ true)
all_there past v stands e calm f under = elim (is_keeping v.pixels.stage) as (λ t. is_keeping v.pixels.stage ≡ t → (is_full (pixels_of f) ≡ is_full f) × ((is_alone f.params || is_kept f.params) ≡ true)) [
  | true ↦ λ keeping. (
      let i = is_in past v stands keeping in
      full_frame past v i (sym (full_is past v i) ∙ full_if (is_keeping v.pixels.stage) (is_full_at v.pixels.params.lines v.line v.came) e keeping) f under)
  | false ↦ λ through. through_frame past v stands through calm f under
] refl

pub ends_all : (past : JoinHistory) (v : JoinState) (w : PixelJoinState) → Represents past v → lacks v ≡ false → PixelRepresents (after_end (pixel_history past)) w → Represents (after_end past) (record v { pixels = w })
ends_all past v w stands e pixels = end_stands past v (record v { pixels = w }) stands (all_there past v stands e) pixels

pub ends_answer : (past : JoinHistory) (v : JoinState) → Represents past v → lacks v ≡ false → answer_of_end (after_end (pixel_history past)) ≡ answer_of_end (after_end past)
ends_answer past v stands e = ap answer_of_end (sym (end_same past (λ calm f under. (all_there past v stands e calm f under).0))) ∙ answer_same (after_end past)

some_frame : (f g : Frame) → Some f ≡ Some g → f ≡ g
some_frame f g e = cc

frames_sure : (past : JoinHistory) (v : JoinState) → Represents past v → lacks v ≡ false → past.fault ≡ None → AreSure (history_frames past)
frames_sure past v stands e calm = by past.under refl
  where
    one : (f : Frame) → past.under ≡ Some f → IsSure f
    one f under = elim (is_keeping v.pixels.stage) as (λ t. is_keeping v.pixels.stage ≡ t → IsSure f) [
      | true ↦ λ keeping. (
          let i = is_in past v stands keeping in
          let full = sym (full_is past v i) ∙ full_if (is_keeping v.pixels.stage) (is_full_at v.pixels.params.lines v.line v.came) e keeping in
          let same : i.frame ≡ f = some_frame i.frame f (sym i.under ∙ under) in
          subst IsSure same (record { admitted = or_right (is_alone i.frame.params) (is_kept i.frame.params) i.come.kept; full = λ _. full }))
      | false ↦ λ through. (
          let alone = under_alone past v stands through calm f under in
          record { admitted = or_left (is_alone f.params) (is_kept f.params) alone; full = λ kept. absurd (let clash : true ≡ false = sym kept ∙ alone_not_kept f.params alone in cc) })
    ] refl

    by : (u : Option Frame) → past.under ≡ u → AreSure (with_last past.ended u)
    by None under = sure past.ended stands.ended
    by (Some f) under = sure-append past.ended f (sure past.ended stands.ended) (one f under)

pub ends_exact : (past : JoinHistory) (v : JoinState) (r : Result Bool JoinFault) → Represents past v → lacks v ≡ false → (r ≡ Ok true) ↔ ((past.fault ≡ None) × ((p : Picture) × ShowsFrames (history_frames (pixel_history past)) p)) → (r ≡ Ok true) ↔ ((past.fault ≡ None) × ((p : Picture) × ShowsFrames (history_frames past) p))
ends_exact past v r stands e iff = (
  (λ done. (
      let h = iff.0 done in
      (h.0, (h.1.0, shown_wide (history_frames past) h.1.0 (frames_sure past v stands e h.0) (subst (λ (fs : List Frame). ShowsFrames fs h.1.0) (frames_same past) h.1.1))))),
  (λ h. iff.1 (h.0, (h.1.0, subst (λ (fs : List Frame). ShowsFrames fs h.1.0) (sym (frames_same past)) (shown_narrow (history_frames past) h.1.0 (frames_sure past v stands e h.0) h.1.1)))),
)

-- ---- what was given, and what the frames show

pub given_exactly : (past : JoinHistory) (v : JoinState) (b : Bool) → Represents past v → (b ≡ true) ↔ (IsJoined (pixel_history past) × (past.given ≡ file_of (map pixels_of past.ended))) → (b ≡ true) ↔ (IsJoined past × (past.given ≡ file_of past.ended))
given_exactly past v b stands iff = (
  (λ done. (let h = iff.0 done in let j = joined_more past h.0 in (j, h.1 ∙ file_joined past v stands (calm_joined past v stands j) (rest_joined past v stands j)))),
  (λ h. iff.1 (joined_less past h.0, h.1 ∙ sym (file_joined past v stands (calm_joined past v stands h.0) (rest_joined past v stands h.0)))),
)

pub shown_less : (past : JoinHistory) (v : JoinState) → Represents past v → (p : Picture) → ShowsFrames past.ended p → ShowsFrames (map pixels_of past.ended) p
shown_less past v stands p shows = shown_narrow past.ended p (sure past.ended stands.ended) shows

pub shown_more : (past : JoinHistory) (v : JoinState) → Represents past v → (p : Picture) → ShowsFrames (map pixels_of past.ended) p → ShowsFrames past.ended p
shown_more past v stands p shows = shown_wide past.ended p (sure past.ended stands.ended) shows

-- ---- what those above need

pub holds_no_file : (past : JoinHistory) (v : JoinState) → Represents past v → (IsJoined past → IsWhole past.given → ⊥) → HoldsNoFile past.given
holds_no_file past v stands part = holds_none (pixel_history past) v.pixels stands.pixels (λ j. part (joined_more past j))

pub whole_not : (past : JoinHistory) (v : JoinState) → Represents past v → (IsJoined past → ⊥) → IsWhole past.given → ⊥
whole_not past v stands unjoined whole = not_whole (pixel_history past) v.pixels stands.pixels (λ j. unjoined (joined_more past j)) whole

pub whole_shows : (past : JoinHistory) (v : JoinState) → Represents past v → IsJoined past → (p : Picture) × ShowsFrames past.ended p
whole_shows past v stands joined =
    let h = joined_shows (pixel_history past) v.pixels stands.pixels (joined_less past joined) in
    (h.0, shown_more past v stands h.0 h.1)

pub all_denotes : (past : JoinHistory) (v : JoinState) → Represents past v → IsJoined past → AllGone past.under past.ended past.given → (p : Picture) → ShowsFrames past.ended p → IsPictureFile past.given p
all_denotes past v stands joined gone p shows =
    let rest = rest_joined past v stands joined in
    let calm = calm_joined past v stands joined in
    let file : past.given ≡ file_of past.ended = subst (λ (u : Option Frame). AllGone u past.ended past.given) rest gone in
    let less : AllGone (option_map pixels_of past.under) (map pixels_of past.ended) past.given = subst (λ (u : Option Frame). AllGone u (map pixels_of past.ended) past.given) (sym (ap (option_map pixels_of) rest)) (file ∙ sym (file_joined past v stands calm rest)) in
    gone_file (pixel_history past) v.pixels stands.pixels (joined_less past joined) less p (shown_less past v stands p shows)

-- ---- how much is kept

pub held_pixels : (past : JoinHistory) (v : JoinState) (f : Frame) → Represents past v → is_keeping v.pixels.stage ≡ true → past.under ≡ Some f → v.pixels.held ≡ (pixels_of f).payload
held_pixels past v f stands keeping under =
    let k = in_kept (pixel_history past) v.pixels stands.pixels keeping in
    let same : k.frame ≡ pixels_of f = some_frame k.frame (pixels_of f) (sym k.under ∙ ap (option_map pixels_of) under) in
    k.keeps.held ∙ ap (λ (g : Frame). g.payload) same

pub held_most : (past : JoinHistory) (v : JoinState) (f : Frame) (n : ℕ) → Represents past v → is_keeping v.pixels.stage ≡ true → past.under ≡ Some f → length f.payload ≤ n * f.params.bytes_per_line → length v.pixels.held ≤ n * row_bytes f.params
held_most past v f n stands keeping under few =
    let i = is_in past v stands keeping in
    let same : i.frame ≡ f = some_frame i.frame f (sym i.under ∙ under) in
    let kept : is_kept f.params ≡ true = subst (λ (g : Frame). is_kept g.params ≡ true) same i.come.kept in
    let shape = kept_shape f.params kept in
    let most = length_most (row_bytes f.params) f.params.bytes_per_line n f.payload (omega (arith, shape.row_some, shape.fits)) shape.fits few in
    omega (arith, most, ap (λ (l : List ℕ). length l) (held_pixels past v f stands keeping under), ap (λ (g : Frame). length g.payload) (pixels_kept f kept))

planes_at : (s : Stage) (past : JoinHistory) (w : PixelJoinState) → PixelRepresentsAt s past w → (is_keeping s || (is_between s || is_colors s)) ≡ true → w.planes ≡ planes_of past.ended
planes_at Idle past w at e = absurd (let clash : false ≡ true = e in cc)
planes_at Under past w at e = absurd (let clash : false ≡ true = e in cc)
planes_at Keeping past w at e = at.2.planes
planes_at Between past w at e = at.1.planes
planes_at Whole past w at e = absurd (let clash : false ≡ true = e in cc)
planes_at WholeColors past w at e = at.5.planes ∙ sym (ap planes_of at.3)
planes_at (Failed x) past w at e = absurd (let clash : false ≡ true = e in cc)

pub planes_pixels : (past : JoinHistory) (v : JoinState) → Represents past v → (is_keeping v.pixels.stage || (is_between v.pixels.stage || is_colors v.pixels.stage)) ≡ true → v.pixels.planes ≡ planes_of (map pixels_of past.ended)
planes_pixels past v stands e = planes_at v.pixels.stage (pixel_history past) v.pixels stands.pixels.at_stage e

pub ended_size : (f : Frame) → is_kept f.params ≡ true → is_full f ≡ true → length (pixels_of f).payload ≡ frame_height f * row_bytes f.params
ended_size f kept full = ap (λ (g : Frame). length g.payload) (pixels_kept f kept) ∙ narrow_size f (whole_of f kept full)
