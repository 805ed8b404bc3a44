-- Histories, and what is kept of them.
use Rattle.std.proofs.Common.{◌≡◌, ℕ, ◌+◌, inl, inr, Bool, true, false, not, List, [], ◌∷◌, ◌++◌, length, refl, sym, ap, ◌∙◌, subst, map}
use Rattle.std.specs.Prelude.{◌||◌, if◌then◌else◌, nat_lt, Option, Some, None, option_map, Ok}
use Rattle.netpbm.specs.Picture.{Picture}
use Rattle.sane_fixed.specs.declared.params.Params.{Params}
use Rattle.sane_fixed.specs.declared.byte_order.ByteOrder.{ByteOrder}
use Rattle.sane_fixed.specs.declared.frame_format.FrameFormat.{FrameFormat}
use Rattle.sane_fixed.specs.declared.frame_format.FrameFormat.TheVariants.{Gray, Rgb, Red, Green, Blue}
use Rattle.page_picture.specs.Shows.{Frame, ShowsAlone, ShowsColors, ShowsFrames, color_of}
use Rattle.frame_join.specs.declared.join_stage.JoinFault.{JoinFault}
use Rattle.frame_join.specs.declared.join_stage.JoinFault.TheVariants.{Shape, Long, Short, NoMem}
use Rattle.frame_join.specs.AloneFrame.{is_alone_format, is_alone, most_bytes}
use Rattle.frame_join.specs.FrameFile.{file_of}
use Rattle.frame_join.specs.FrameHistory.{JoinHistory, is_accepted, is_joined, is_full, with_fault, after_begin_at, after_feed_at, after_end_at, after_begin, after_feed, after_end, answer_by, answer_of_end, history_frames, with_last}
use Rattle.frame_join.specs.Pixels.{is_kept, pixel_params, pixel_bytes, pixels_of, pixels_from, pixel_history}
use Rattle.frame_join.specs.JoinStates.{AreEnded}
use Rattle.frame_join.proofs.TestLemmas.{or_cases}
use Rattle.frame_join.proofs.FrameLaws.{alone_parts}
use Rattle.frame_join.proofs.PixelParams.{narrow, narrowed, pixels_kept, pixels_same, accepted_same, joined_same_frames, same_format}
use Rattle.frame_join.proofs.PixelFrames.{IsWhole, whole_of, narrow_file}
use Rattle.frame_join.proofs.PixelShows.{shows_narrow, shows_wide, colors_narrow, colors_wide, IsTrio, colors_file}

-- ---- a frame begins

abbrev pub new_frame : Params → ByteOrder → Frame
new_frame params order = record { params = params; order = order; payload = [] }

no_bytes : (p : Params) → pixel_bytes p [] ≡ []
unfolding pixels_from
no_bytes p = elim (is_kept p) as (λ t. (if t then pixels_from (row p) p.bytes_per_line 0 [] else []) ≡ []) [ true ↦ refl | false ↦ refl ]
  where
    row : Params → ℕ
    row p = (narrow p).bytes_per_line

new_same : (p : Params) (o : ByteOrder) → pixels_of (new_frame p o) ≡ new_frame (pixel_params p) o
new_same p o = ap (λ (l : List ℕ). record { params = pixel_params p; order = o; payload = l }) (no_bytes p)

abbrev pub begins_by : Bool → Bool → Bool → Frame → JoinHistory → JoinHistory
begins_by joined accepted starved f past =
    if joined then past
    else (if not accepted then with_fault Shape past
    else (if starved then with_fault NoMem past
    else record past { under = Some f }))

begins_same : (joined accepted starved : Bool) (f : Frame) (past : JoinHistory) → pixel_history (begins_by joined accepted starved f past) ≡ begins_by joined accepted starved (pixels_of f) (pixel_history past)
begins_same true accepted starved f past = refl
begins_same false false starved f past = refl
begins_same false true true f past = refl
begins_same false true false f past = refl

begun_same : (o : Option JoinFault) (u : Option Frame) (p : Params) (order : ByteOrder) (starved : Bool) (past : JoinHistory) → pixel_history (after_begin_at o u p order starved past) ≡ after_begin_at o (option_map pixels_of u) (pixel_params p) order starved (pixel_history past)
begun_same (Some fault) u p order starved past = refl
begun_same None (Some f) p order starved past = refl
begun_same None None p order starved past =
    begins_same (is_joined past.ended) (is_accepted past.ended p order) starved (new_frame p order) past
    ∙ (ap (λ (t : Bool). begins_by t (is_accepted past.ended p order) starved (pixels_of (new_frame p order)) (pixel_history past)) (sym (joined_same_frames past.ended))
    ∙ (ap (λ (t : Bool). begins_by (is_joined (map pixels_of past.ended)) t starved (pixels_of (new_frame p order)) (pixel_history past)) (sym (accepted_same past.ended p order))
    ∙ ap (λ (f : Frame). begins_by (is_joined (map pixels_of past.ended)) (is_accepted (map pixels_of past.ended) (pixel_params p) order) starved f (pixel_history past)) (new_same p order)))

pub begin_same : (p : Params) (o : ByteOrder) (starved : Bool) (past : JoinHistory) → pixel_history (after_begin p o starved past) ≡ after_begin (pixel_params p) o starved (pixel_history past)
unfolding after_begin
begin_same p o starved past = begun_same past.fault past.under p o starved past

-- ---- bytes come to a frame that is not kept

abbrev pub feeds_by : Bool → Bool → Frame → List ℕ → JoinHistory → JoinHistory
feeds_by long starved f bytes past =
    if long then with_fault Long past
    else (if starved then with_fault NoMem past
    else record past { under = Some (record f { payload = f.payload ++ bytes }) })

feeds_same : (long starved : Bool) (f : Frame) (bytes : List ℕ) (past : JoinHistory) → is_kept f.params ≡ false → pixel_history (feeds_by long starved f bytes past) ≡ feeds_by long starved f bytes (pixel_history past)
feeds_same true starved f bytes past through = refl
feeds_same false true f bytes past through = refl
feeds_same false false f bytes past through = ap (λ (g : Frame). record (pixel_history past) { under = Some g }) (pixels_same (record f { payload = f.payload ++ bytes }) through)

fed_same : (o : Option JoinFault) (u : Option Frame) (bytes : List ℕ) (starved : Bool) (past : JoinHistory) → (o ≡ None → (f : Frame) → u ≡ Some f → is_kept f.params ≡ false) → pixel_history (after_feed_at o u bytes starved past) ≡ after_feed_at o (option_map pixels_of u) bytes starved (pixel_history past)
fed_same (Some fault) u bytes starved past through = refl
fed_same None None bytes starved past through = refl
fed_same None (Some f) bytes starved past through =
    let no = through refl f refl in
    feeds_same (nat_lt (most_bytes f.params) (length f.payload + length bytes)) starved f bytes past no
    ∙ ap (λ (g : Frame). feeds_by (nat_lt (most_bytes g.params) (length g.payload + length bytes)) starved g bytes (pixel_history past)) (sym (pixels_same f no))

pub feed_same : (bytes : List ℕ) (starved : Bool) (past : JoinHistory) → (past.fault ≡ None → (f : Frame) → past.under ≡ Some f → is_kept f.params ≡ false) → pixel_history (after_feed bytes starved past) ≡ after_feed bytes starved (pixel_history past)
unfolding after_feed
feed_same bytes starved past through = fed_same past.fault past.under bytes starved past through

-- ---- a frame ends that has all its bytes, or is not kept

map-append-one : (frames : List Frame) (f : Frame) → map pixels_of (frames ++ f ∷ []) ≡ map pixels_of frames ++ pixels_of f ∷ []
map-append-one [] f = refl
map-append-one (g ∷ frames) f = ap (λ (l : List Frame). pixels_of g ∷ l) (map-append-one frames f)

abbrev pub ends_by : Bool → Frame → JoinHistory → JoinHistory
ends_by full f past = if full then record past { ended = past.ended ++ f ∷ []; under = None } else with_fault Short past

ends_same : (full : Bool) (f : Frame) (past : JoinHistory) → pixel_history (ends_by full f past) ≡ ends_by full (pixels_of f) (pixel_history past)
ends_same true f past = ap (λ (l : List Frame). record (pixel_history past) { ended = l; under = None }) (map-append-one past.ended f)
ends_same false f past = refl

closed_same : (o : Option JoinFault) (u : Option Frame) (past : JoinHistory) → (o ≡ None → (f : Frame) → u ≡ Some f → is_full (pixels_of f) ≡ is_full f) → pixel_history (after_end_at o u past) ≡ after_end_at o (option_map pixels_of u) (pixel_history past)
closed_same (Some fault) u past same = refl
closed_same None None past same = refl
closed_same None (Some f) past same = ends_same (is_full f) f past ∙ ap (λ (t : Bool). ends_by t (pixels_of f) (pixel_history past)) (sym (same refl f refl))

pub end_same : (past : JoinHistory) → (past.fault ≡ None → (f : Frame) → past.under ≡ Some f → is_full (pixels_of f) ≡ is_full f) → pixel_history (after_end past) ≡ after_end (pixel_history past)
unfolding after_end
end_same past same = closed_same past.fault past.under past same

-- ---- answers

answer_same_by : (o : Option JoinFault) (u : Option Frame) (ended : List Frame) → answer_by o (option_map pixels_of u) (map pixels_of ended) ≡ answer_by o u ended
answer_same_by (Some fault) u ended = refl
answer_same_by None (Some f) ended = refl
answer_same_by None None ended = ap (λ (t : Bool). Ok t) (joined_same_frames ended)

pub answer_same : (past : JoinHistory) → answer_of_end (pixel_history past) ≡ answer_of_end past
answer_same past = answer_same_by past.fault past.under past.ended

pub frames_same : (past : JoinHistory) → history_frames (pixel_history past) ≡ map pixels_of (history_frames past)
frames_same past = by past.under past.ended
  where
    by : (u : Option Frame) (ended : List Frame) → with_last (map pixels_of ended) (option_map pixels_of u) ≡ map pixels_of (with_last ended u)
    by None ended = refl
    by (Some f) ended = sym (map-append-one ended f)

-- ---- pictures

-- a frame was admitted, and has all its bytes if it is kept
pub record IsSure (f : Frame) : Type 0 where
  pub admitted : (is_alone f.params || is_kept f.params) ≡ true
  pub full : is_kept f.params ≡ true → is_full f ≡ true

abbrev pub AreSure : List Frame → Type 0
AreSure [] = Unit {0}
AreSure (f ∷ frames) = IsSure f × AreSure frames

pub sure : (frames : List Frame) → AreEnded frames → AreSure frames
sure [] ended = tt
sure (f ∷ frames) ended = (record { admitted = ended.0.admitted; full = λ _. ended.0.full }, sure frames ended.1)

pub sure-append : (frames : List Frame) (f : Frame) → AreSure frames → IsSure f → AreSure (frames ++ f ∷ [])
sure-append [] f all one = (one, tt)
sure-append (g ∷ frames) f all one = (all.0, sure-append frames f all.1 one)

not_color : (g : FrameFormat) (n : ℕ) → color_of g ≡ Some n → is_alone_format g ≡ false
not_color Gray n e = absurd (cc)
not_color Rgb n e = absurd (cc)
not_color Red n e = refl
not_color Green n e = refl
not_color Blue n e = refl

color_is_kept : (f : Frame) (n : ℕ) → IsSure f → color_of f.params.format ≡ Some n → is_kept f.params ≡ true
color_is_kept f n e color = elim (or_cases (is_alone f.params) (is_kept f.params) e.admitted) [
  | inl alone ↦ absurd (let clash : true ≡ false = sym (alone_parts f.params alone).format ∙ not_color f.params.format n color in cc)
  | inr kept ↦ kept
]

whole_color : (f : Frame) (n : ℕ) → IsSure f → color_of f.params.format ≡ Some n → IsWhole f
whole_color f n e color = let kept = color_is_kept f n e color in whole_of f kept (e.full kept)

color_told : (f : Frame) (n : ℕ) → color_of (pixels_of f).params.format ≡ Some n → color_of f.params.format ≡ Some n
color_told f n e = ap color_of (sym (same_format f.params)) ∙ e

pub shown_wide : (frames : List Frame) (p : Picture) → AreSure frames → ShowsFrames (map pixels_of frames) p → ShowsFrames frames p
shown_wide [] p ended shows = shows
shown_wide (f ∷ []) p ended shows = elim (is_kept f.params) as (λ t. is_kept f.params ≡ t → ShowsAlone f p) [
  | true ↦ λ kept. shows_wide f p (whole_of f kept (ended.0.full kept)) (subst (λ (g : Frame). ShowsAlone g p) (pixels_kept f kept) shows)
  | false ↦ λ through. subst (λ (g : Frame). ShowsAlone g p) (pixels_same f through) shows
] refl
shown_wide (a ∷ b ∷ []) p ended shows = shows
shown_wide (a ∷ b ∷ c ∷ []) p ended shows =
    let wa = whole_color a shows.first ended.0 (color_told a shows.first shows.first_shows.color) in
    let wb = whole_color b shows.second ended.1.0 (color_told b shows.second shows.second_shows.color) in
    let wc = whole_color c shows.third ended.1.1.0 (color_told c shows.third shows.third_shows.color) in
    colors_wide a b c p wa wb wc (subst (λ (f : Frame). ShowsColors (narrowed a) (narrowed b) f p) (pixels_kept c wc.kept) (subst (λ (f : Frame). ShowsColors (narrowed a) f (pixels_of c) p) (pixels_kept b wb.kept) (subst (λ (f : Frame). ShowsColors f (pixels_of b) (pixels_of c) p) (pixels_kept a wa.kept) shows)))
shown_wide (a ∷ b ∷ c ∷ d ∷ rest) p ended shows = shows

pub shown_narrow : (frames : List Frame) (p : Picture) → AreSure frames → ShowsFrames frames p → ShowsFrames (map pixels_of frames) p
shown_narrow [] p ended shows = shows
shown_narrow (f ∷ []) p ended shows = elim (is_kept f.params) as (λ t. is_kept f.params ≡ t → ShowsAlone (pixels_of f) p) [
  | true ↦ λ kept. subst (λ (g : Frame). ShowsAlone g p) (sym (pixels_kept f kept)) (shows_narrow f p (whole_of f kept (ended.0.full kept)) shows)
  | false ↦ λ through. subst (λ (g : Frame). ShowsAlone g p) (sym (pixels_same f through)) shows
] refl
shown_narrow (a ∷ b ∷ []) p ended shows = shows
shown_narrow (a ∷ b ∷ c ∷ []) p ended shows =
    let wa = whole_color a shows.first ended.0 shows.first_shows.color in
    let wb = whole_color b shows.second ended.1.0 shows.second_shows.color in
    let wc = whole_color c shows.third ended.1.1.0 shows.third_shows.color in
    subst (λ (f : Frame). ShowsColors f (pixels_of b) (pixels_of c) p) (sym (pixels_kept a wa.kept)) (subst (λ (f : Frame). ShowsColors (narrowed a) f (pixels_of c) p) (sym (pixels_kept b wb.kept)) (subst (λ (f : Frame). ShowsColors (narrowed a) (narrowed b) f p) (sym (pixels_kept c wc.kept)) (colors_narrow a b c p wa wb wc shows)))
shown_narrow (a ∷ b ∷ c ∷ d ∷ rest) p ended shows = shows

-- ---- files

-- three frames are a trio
abbrev pub AreTrio : List Frame → Type 0
AreTrio [] = Unit {0}
AreTrio (a ∷ []) = Unit {0}
AreTrio (a ∷ b ∷ []) = Unit {0}
AreTrio (a ∷ b ∷ c ∷ rest) = IsTrio a b c

pub file_same : (frames : List Frame) → AreEnded frames → AreTrio frames → file_of (map pixels_of frames) ≡ file_of frames
file_same [] ended trio = refl
file_same (f ∷ []) ended trio = elim (is_kept f.params) as (λ t. is_kept f.params ≡ t → file_of (pixels_of f ∷ []) ≡ file_of (f ∷ [])) [
  | true ↦ λ kept. (
      ap (λ (g : Frame). file_of (g ∷ [])) (pixels_kept f kept)
      ∙ ap (λ (l : List ℕ). if is_alone_format f.params.format then l else []) (narrow_file f (whole_of f kept ended.0.full)))
  | false ↦ λ through. ap (λ (g : Frame). file_of (g ∷ [])) (pixels_same f through)
] refl
file_same (a ∷ b ∷ []) ended trio = refl
file_same (a ∷ b ∷ c ∷ rest) ended trio =
    ap (λ (f : Frame). file_of (f ∷ pixels_of b ∷ pixels_of c ∷ [])) (pixels_kept a trio.whole.0.kept)
    ∙ (ap (λ (f : Frame). file_of (narrowed a ∷ f ∷ pixels_of c ∷ [])) (pixels_kept b trio.whole.1.kept)
    ∙ (ap (λ (f : Frame). file_of (narrowed a ∷ narrowed b ∷ f ∷ [])) (pixels_kept c trio.whole.2.kept)
    ∙ colors_file a b c trio))
