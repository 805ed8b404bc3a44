-- The whole file of a picture has gone exactly where nothing more of it may go.
use Rattle.std.proofs.Common.{◌≡◌, ◌∙◌, Bool, true, false, not, ◌↔◌, Option, [], ◌∷◌, Ok, refl, sym, subst}
use Rattle.netpbm.specs.Picture.{Picture}
use Rattle.netpbm.specs.Pnm.{IsWhole}
use Rattle.page_picture.specs.Shows.{Frame, ShowsFrames}
use Rattle.frame_join.specs.FrameFile.{AllGone, file_of}
use Rattle.frame_join.specs.FrameHistory.{JoinHistory, IsJoined, after_pull}
use Rattle.frame_join.specs.PixelJoinStates.{PixelJoinState, PixelRepresents}
use Rattle.frame_join.specs.PictureText.{IsPictureFile}
use Rattle.frame_join.specs.Inside.{answer_at, may_go}
use Rattle.frame_join.proofs.EndLaws.{answers, gone_file, joined_no_fault, joined_shows, joined_under, not_whole}
use Rattle.frame_join.proofs.FrontLaws.{no_front}
use Rattle.frame_join.proofs.PullLaws.{after_next, next_byte, next_carries, spent}

pub all_given : (past : JoinHistory) (v : PixelJoinState) → PixelRepresents past v → answer_at v.stage ≡ Ok true → may_go v ≡ false → IsJoined past × (past.given ≡ file_of past.ended)
all_given past v stands answer stops =
    let joined : IsJoined past = answers past v stands ∙ answer in
    let gone = spent past v stands stops (joined_no_fault past v stands joined) in
    (joined, subst (λ (u : Option Frame). AllGone u past.ended past.given) (joined_under past v stands joined) gone)

pub some_left : (past : JoinHistory) (v : PixelJoinState) → PixelRepresents past v → may_go v ≡ true → IsJoined past → past.given ≡ file_of past.ended → ⊥
some_left past v stands goes joined all =
    let shown = joined_shows past v stands joined in
    let gone = subst (λ (u : Option Frame). AllGone u past.ended past.given) (sym (joined_under past v stands joined)) all in
    let whole : IsWhole past.given = (shown.0, (gone_file past v stands joined gone shown.0 shown.1).denotes) in
    no_front (after_pull (next_byte v ∷ []) past) (after_next v) past.given (next_byte v ∷ []) (next_carries past v goes stands) (joined_no_fault past v stands joined) refl (λ e. cc) whole

pub given_exactly : (past : JoinHistory) (v : PixelJoinState) (goes : Bool) → PixelRepresents past v → answer_at v.stage ≡ Ok true → goes ≡ may_go v → (not goes ≡ true) ↔ (IsJoined past × (past.given ≡ file_of past.ended))
given_exactly past v true stands answer is = (λ no. (let clash : false ≡ true = no in cc), λ all. absurd (some_left past v stands (sym is) all.0 all.1))
given_exactly past v false stands answer is = (λ _. all_given past v stands answer (sym is), λ _. refl)

pub no_more_whole : (past : JoinHistory) (v : PixelJoinState) → PixelRepresents past v → may_go v ≡ true → IsJoined past → IsWhole past.given → ⊥
no_more_whole past v stands goes joined whole =
    no_front (after_pull (next_byte v ∷ []) past) (after_next v) past.given (next_byte v ∷ []) (next_carries past v goes stands) (joined_no_fault past v stands joined) refl (λ e. cc) whole

pub given_file : (past : JoinHistory) (v : PixelJoinState) → PixelRepresents past v → answer_at v.stage ≡ Ok true → may_go v ≡ false → (p : Picture) → ShowsFrames past.ended p → IsPictureFile past.given p
given_file past v stands answer stops p shows =
    let joined : IsJoined past = answers past v stands ∙ answer in
    gone_file past v stands joined (spent past v stands stops (joined_no_fault past v stands joined)) p shows

pub given_whole : (past : JoinHistory) (v : PixelJoinState) (goes : Bool) → PixelRepresents past v → answer_at v.stage ≡ Ok true → goes ≡ may_go v → (not goes ≡ true) ↔ IsWhole past.given
given_whole past v true stands answer is = (λ no. (let clash : false ≡ true = no in cc), λ whole. absurd (no_more_whole past v stands (sym is) (answers past v stands ∙ answer) whole))
given_whole past v false stands answer is = (
  λ _.
      let shown = joined_shows past v stands (answers past v stands ∙ answer) in
      (shown.0, (given_file past v stands answer (sym is) shown.0 shown.1).denotes),
  λ _. refl,
)

pub given_shown : (past : JoinHistory) (v : PixelJoinState) (goes : Bool) → PixelRepresents past v → answer_at v.stage ≡ Ok true → goes ≡ may_go v → not goes ≡ true → (p : Picture) → ShowsFrames past.ended p → IsPictureFile past.given p
given_shown past v true stands answer is none p shows = absurd (let clash : false ≡ true = none in cc)
given_shown past v false stands answer is _ p shows = given_file past v stands answer (sym is) p shows

pub never_whole : (past : JoinHistory) (v : PixelJoinState) → PixelRepresents past v → (answer_at v.stage ≡ Ok true → ⊥) → (false ≡ true) ↔ IsWhole past.given
never_whole past v stands other = (λ no. absurd (let clash : false ≡ true = no in cc), λ whole. absurd (not_whole past v stands (λ joined. other (sym (answers past v stands) ∙ joined)) whole))
