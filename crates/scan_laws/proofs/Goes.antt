-- A join goes through a frame that it takes.
use Rattle.std.proofs.Common.{◌≡◌, ◌∙◌, ◌+◌, ◌≤◌, ap, refl, ℕ, Bool, true, false, List, [], ◌∷◌, ◌++◌, length, length-append, arith}
use Rattle.std.specs.Prelude.{nat_lt, Some, None}
use Rattle.std.proofs.lemmas.Bool.Decides.{nat_tests}
use Rattle.page_picture.specs.Shows.{Frame}
use Rattle.frame_join.specs.AloneFrame.{most_bytes}
use Rattle.frame_join.specs.FrameHistory.{JoinHistory, after_begin, after_end, after_feed, with_fault, is_accepted, is_joined}
use Rattle.frame_join.specs.declared.join_stage.JoinFault.TheVariants.{Short}
use Rattle.scan_laws.specs.Joins.{JoinTakes, IsOpenJoin, with_bytes, with_frame_begun}

pub begins : (ended more : List Frame) (f : Frame) (past : JoinHistory) (starved : Bool) → JoinTakes ended f more → IsOpenJoin ended None past → after_begin f.params f.order starved past ≡ with_frame_begun starved (with_bytes f []) past
unfolding after_begin
begins ended more f past starved t o =
    let joined : is_joined past.ended ≡ false = ap is_joined o.ended_is ∙ t.unjoined in
    let accepted : is_accepted past.ended f.params f.order ≡ true = ap (λ (fs : List Frame). is_accepted fs f.params f.order) o.ended_is ∙ t.accepted in
    rw (o.no_fault, o.under_is, joined, accepted) refl

pub feeds : (ended more : List Frame) (f : Frame) (past : JoinHistory) (starved : Bool) (heard bytes rest : List ℕ) → JoinTakes ended f more → IsOpenJoin ended (Some (with_bytes f heard)) past → (heard ++ bytes) ++ rest ≡ f.payload
    → after_feed bytes starved past ≡ with_frame_begun starved (with_bytes f (heard ++ bytes)) past
unfolding after_feed
feeds ended more f past starved heard bytes rest t o all =
    let room = t.fits (heard ++ bytes) rest all in
    let size : length (heard ++ bytes) ≡ length heard + length bytes = length-append heard bytes in
    let fits : nat_lt (most_bytes f.params) (length heard + length bytes) ≡ false = let few : length heard + length bytes ≤ most_bytes f.params = omega arith in grind (arith, nat_tests) in
    rw (o.no_fault, o.under_is, fits) refl

pub ends : (ended more : List Frame) (f : Frame) (past : JoinHistory) → JoinTakes ended f more → IsOpenJoin ended (Some f) past → after_end past ≡ record past { ended = ended ++ f ∷ []; under = None }
unfolding after_end
ends ended more f past t o =
    let full = t.full in
    let same = o.ended_is in
    rw (o.no_fault, o.under_is, full, same) refl

pub is_short : (ended more : List Frame) (f : Frame) (past : JoinHistory) → JoinTakes ended f more → IsOpenJoin ended (Some (with_bytes f [])) past → after_end past ≡ with_fault Short past
unfolding after_end
is_short ended more f past t o =
    let none = t.none_is_short in
    rw (o.no_fault, o.under_is, none) refl
