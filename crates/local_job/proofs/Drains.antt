-- A file goes out piece by piece.
use Rattle.std.proofs.Common.{◌≡◌, ◌≢◌, ℕ, ◌+◌, ◌<◌, ◌≤◌, ◌^◌, List, [], ◌++◌, Option, Some, None, Ok, Err, true, length, take, drop, sym, ap, ◌∙◌, subst, arith, length-append}
use Rattle.std.specs.Io.KnownBytes.{Appends}
use Rattle.std.proofs.KnownBytes.{Appends-trans}
use Rattle.std.proofs.lemmas.List.{append_assoc, append-nil, take-append-drop, length-drop}
use Rattle.netpbm.specs.Picture.{Picture}
use Rattle.netpbm.specs.NoFile.{HoldsNoFile}
use Rattle.page_picture.specs.Shows.{ShowsFrames}
use Rattle.local_job.specs.Inside.{JoinIsDrainedTo}
use Rattle.scan_job.specs.FileOutputs.{StopsShort}
use Rattle.frame_join.specs.FrameHistory.{JoinHistory, IsJoined, after_end, after_pull, answer_of_end}
use Rattle.frame_join.specs.JoinStates.{JoinState, Represents}
use Rattle.frame_join.specs.PictureText.{IsPictureFile}
use Rattle.frame_join.specs.declared.join_stage.JoinFault.{JoinFault}
use Rattle.frame_join.proofs.GivenKept.{NoneBefore, end_gives, faulty_holds}

-- after so many pulls: what was given, and that the output took it
pub record IsUnderway (past : JoinHistory) (first : Option (List ℕ)) (pulls : ℕ) (join : JoinState) (contents : Option (List ℕ)) : Type 0 where
  pub bytes : List ℕ
  pub stands : Represents (after_pull bytes past) join
  pub taken : Appends first contents (past.given ++ bytes)
  pub some : pulls ≤ length bytes

-- giving nothing changes nothing
pulled_none : (past : JoinHistory) → after_pull [] past ≡ past
pulled_none past = ap (λ (l : List ℕ). record past { given = l }) (append-nil past.given)

pulled_twice : (past : JoinHistory) (xs ys : List ℕ) → after_pull ys (after_pull xs past) ≡ after_pull (xs ++ ys) past
pulled_twice past xs ys = ap (λ (l : List ℕ). record past { given = l }) (append_assoc past.given xs ys)

pub begun : (past : JoinHistory) (first contents : Option (List ℕ)) (join : JoinState) → Represents past join → Appends first contents past.given → IsUnderway past first 0 join contents
begun past first contents join stands taken = record {
  bytes = [];
  stands = subst (λ (q : JoinHistory). Represents q join) (sym (pulled_none past)) stands;
  taken = subst (λ (l : List ℕ). Appends first contents l) (sym (append-nil past.given)) taken;
  some = omega arith;
}

pub one_more : (past : JoinHistory) (first old new : Option (List ℕ)) (i n : ℕ) (was now : JoinState) (piece : List ℕ) → n ≢ 0 → length piece ≡ n
    → ((q : JoinHistory) → Represents q was → Represents (after_pull piece q) now) → Appends old new piece → IsUnderway past first i was old → IsUnderway past first (i + 1) now new
one_more past first old new i n was now piece some size carried took u = record {
  bytes = u.bytes ++ piece;
  stands = subst (λ (q : JoinHistory). Represents q now) (pulled_twice past u.bytes piece) (carried (after_pull u.bytes past) u.stands);
  taken = subst (λ (l : List ℕ). Appends first new l) (append_assoc past.given u.bytes piece) (Appends-trans first old new (past.given ++ u.bytes) piece u.taken took);
  some = omega (arith, length-append u.bytes piece, size, u.some, λ (e : n ≡ 0). some e);
}

pub at_end : (past : JoinHistory) (first contents : Option (List ℕ)) (i : ℕ) (was now : JoinState) (piece : List ℕ) → piece ≡ [] → ((q : JoinHistory) → Represents q was → Represents (after_pull piece q) now)
    → ((q : JoinHistory) → Represents q was → IsJoined q → (p : Picture) → ShowsFrames q.ended p → IsPictureFile q.given p) → IsUnderway past first i was contents → JoinIsDrainedTo past first now contents
at_end past first contents i was now piece none carried denotes u = record {
  bytes = u.bytes;
  stands = subst (λ (q : JoinHistory). Represents q now) (ap (λ (l : List ℕ). after_pull l (after_pull u.bytes past)) none ∙ pulled_none (after_pull u.bytes past)) (carried (after_pull u.bytes past) u.stands);
  taken = u.taken;
  denotes = λ joined p shows. denotes (after_pull u.bytes past) u.stands joined p shows;
}

pub stopped : (past : JoinHistory) (first old new : Option (List ℕ)) (i k : ℕ) (was now : JoinState) (piece : List ℕ) → past.fault ≡ None → k < length piece
    → ((q : JoinHistory) → Represents q was → Represents (after_pull piece q) now)
    → ((q : JoinHistory) (join : JoinState) (front more : List ℕ) → Represents q join → q.fault ≡ None → q.given ≡ front ++ more → more ≢ [] → HoldsNoFile front)
    → Appends old new (take k piece) → IsUnderway past first i was old → StopsShort first new
stopped past first old new i k was now piece no_fault less carried law took u =
    let given = past.given ++ u.bytes in
    let cut : given ++ piece ≡ (given ++ take k piece) ++ drop k piece = ap (λ (l : List ℕ). given ++ l) (sym (take-append-drop k piece)) ∙ sym (append_assoc given (take k piece) (drop k piece)) in
    record {
      text = given ++ take k piece;
      taken = Appends-trans first old new given (take k piece) u.taken took;
      none = law (after_pull piece (after_pull u.bytes past)) now (given ++ take k piece) (drop k piece) (carried (after_pull u.bytes past) u.stands) no_fault cut (λ e. omega (arith, ap (λ (l : List ℕ). length l) e, length-drop k piece, less));
    }

-- a fault came to stand, and what was given is as before
pub refused : (first contents : Option (List ℕ)) (given : List ℕ) (past : JoinHistory) (join : JoinState) (fault : JoinFault) → NoneBefore → Represents past join → past.fault ≡ Some fault → past.given ≡ given
    → Appends first contents given → StopsShort first contents
refused first contents given past join fault law stands at same taken = record {
  text = given;
  taken = taken;
  none = subst HoldsNoFile same (faulty_holds past join fault law stands at);
}

-- a frame that ended was refused
pub stopped_at_end : (first contents : Option (List ℕ)) (past : JoinHistory) (join : JoinState) (fault : JoinFault) → NoneBefore → Represents (after_end past) join → answer_of_end (after_end past) ≡ Err fault
    → Appends first contents past.given → StopsShort first contents
stopped_at_end first contents past join fault law stands answer taken = record {
  text = past.given;
  taken = taken;
  none = subst HoldsNoFile (end_gives past) (law (after_end past) join stands (λ joined. let clash : Err fault ≡ Ok true = sym answer ∙ joined in absurd (cc)));
}

pub never : (past : JoinHistory) (first contents : Option (List ℕ)) (i : ℕ) (join : JoinState) → past.fault ≡ None → 2 ^ 40 ≤ i
    → ((q : JoinHistory) (join : JoinState) → Represents q join → q.fault ≡ None → length q.given < 2 ^ 40) → IsUnderway past first i join contents → ⊥
never past first contents i join no_fault many law u =
    omega (arith, law (after_pull u.bytes past) join u.stands no_fault, length-append past.given u.bytes, u.some, many)
