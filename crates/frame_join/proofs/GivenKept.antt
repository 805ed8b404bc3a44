-- Bytes and ends leave what was given of the file; with a fault no front of that is whole.
use Rattle.std.proofs.Common.{◌≡◌, ◌∙◌, ◌+◌, ℕ, Bool, true, false, Option, Some, None, Ok, Err, List, length, take, arith, refl, sym, ap, subst}
use Rattle.std.specs.Prelude.{nat_lt, if◌then◌else◌}
use Rattle.std.proofs.lemmas.List.{take_all}
use Rattle.netpbm.specs.Pnm.{IsWhole}
use Rattle.netpbm.specs.NoFile.{HoldsNoFile}
use Rattle.page_picture.specs.Shows.{Frame}
use Rattle.frame_join.specs.declared.join_stage.JoinFault.{JoinFault}
use Rattle.frame_join.specs.declared.join_stage.JoinFault.TheVariants.{Long, Short, NoMem}
use Rattle.frame_join.specs.AloneFrame.{most_bytes}
use Rattle.frame_join.specs.FrameHistory.{JoinHistory, IsJoined, with_fault, after_feed_at, after_end_at, is_full, after_feed, after_end, answer_by}
use Rattle.frame_join.specs.JoinStates.{JoinState, Represents}

closed_given : (full : Bool) (past grown : JoinHistory) → grown.given ≡ past.given → (if full then grown else with_fault Short past).given ≡ past.given
closed_given true past grown e = e
closed_given false past grown e = refl

closed_gives : (fault : Option JoinFault) (under : Option Frame) (past : JoinHistory) → (after_end_at fault under past).given ≡ past.given
closed_gives (Some f) under past = refl
closed_gives None None past = refl
closed_gives None (Some f) past = closed_given (is_full f) past _ refl

pub end_gives : (past : JoinHistory) → (after_end past).given ≡ past.given
unfolding after_end
end_gives past = closed_gives past.fault past.under past

fed_given : (long starved : Bool) (past grown : JoinHistory) → grown.given ≡ past.given → (if long then with_fault Long past else (if starved then with_fault NoMem past else grown)).given ≡ past.given
fed_given true starved past grown e = refl
fed_given false true past grown e = refl
fed_given false false past grown e = e

fed_with : (fault : Option JoinFault) (under : Option Frame) (bytes : List ℕ) (starved : Bool) (past : JoinHistory) → (after_feed_at fault under bytes starved past).given ≡ past.given
fed_with (Some f) under bytes starved past = refl
fed_with None None bytes starved past = refl
fed_with None (Some f) bytes starved past = fed_given (nat_lt (most_bytes f.params) (length f.payload + length bytes)) starved past _ refl

pub feed_gives : (bytes : List ℕ) (starved : Bool) (past : JoinHistory) → (after_feed bytes starved past).given ≡ past.given
unfolding after_feed
feed_gives bytes starved past = fed_with past.fault past.under bytes starved past

-- a text is the longest front of itself
pub whole_front : (text : List ℕ) → IsWhole text → IsWhole (take (length text) text)
whole_front text whole = subst IsWhole (sym (take_all (length text) text (omega arith))) whole

pub holds_not_whole : (text : List ℕ) → HoldsNoFile text → IsWhole text → ⊥
holds_not_whole text holds whole = holds (length text) (whole_front text whole)

-- what the law says of histories whose file was not given to its end
abbrev pub NoneBefore : Type 0
NoneBefore = (past : JoinHistory) (join : JoinState) → Represents past join → (IsJoined past → IsWhole past.given → ⊥) → HoldsNoFile past.given

pub faulty_holds : (past : JoinHistory) (join : JoinState) (fault : JoinFault) → NoneBefore → Represents past join → past.fault ≡ Some fault → HoldsNoFile past.given
faulty_holds past join fault law stands at = law past join stands (λ joined.
    let clash : Err fault ≡ Ok true = ap (λ (f : Option JoinFault). answer_by f past.under past.ended) (sym at) ∙ joined in
    absurd (cc))
