-- Bytes that come into a join, and a fault that comes to stand.
use Rattle.std.proofs.Common.{◌≡◌, ◌≤◌, ◌+◌, arith, ℕ, List, ◌++◌, Option, Some, None, Bool, true, false, length, refl, sym, ap, ◌∙◌}
use Rattle.std.specs.Prelude.{nat_lt, if◌then◌else◌}
use Rattle.std.proofs.lemmas.Bool.Decides.{nat_tests}
use Rattle.page_picture.specs.Shows.{Frame}
use Rattle.frame_join.specs.declared.join_stage.JoinFault.{JoinFault}
use Rattle.frame_join.specs.declared.join_stage.JoinFault.TheVariants.{Long, NoMem}
use Rattle.frame_join.specs.AloneFrame.{most_bytes}
use Rattle.frame_join.specs.FrameHistory.{JoinHistory, after_feed_at, with_fault, after_feed}
use Rattle.frame_join.specs.JoinStates.{JoinState}
use Rattle.local_job.specs.Inside.{stop_of_join, JoinIsDrainedTo, FeedsJoin}
use Rattle.scan_job.specs.Stops.{no_memory}

-- the history with more bytes in its frame
abbrev grown : JoinHistory → Frame → List ℕ → JoinHistory
grown past f bytes = record past { under = Some (record f { payload = f.payload ++ bytes }) }

fed_by : (past : JoinHistory) (f : Frame) (bytes : List ℕ) (long starved : Bool) → (if long then with_fault Long past else (if starved then with_fault NoMem past else grown past f bytes)).fault ≡ None → past.fault ≡ None
    → (if long then with_fault Long past else (if starved then with_fault NoMem past else grown past f bytes)) ≡ grown past f bytes
fed_by past f bytes true starved none no_fault = let clash : Some Long ≡ None = none in absurd (cc)
fed_by past f bytes false true none no_fault = let clash : Some NoMem ≡ None = none in absurd (cc)
fed_by past f bytes false false none no_fault = refl

fed_here : (past : JoinHistory) (f : Frame) (bytes : List ℕ) (starved : Bool) → past.fault ≡ None → past.under ≡ Some f → after_feed bytes starved past ≡ after_feed_at None (Some f) bytes starved past
unfolding after_feed
fed_here past f bytes starved no_fault under = ap (λ (o : Option JoinFault). after_feed_at o past.under bytes starved past) no_fault ∙ ap (λ (u : Option Frame). after_feed_at None u bytes starved past) under

pub fed_well : (past : JoinHistory) (f : Frame) (bytes : List ℕ) (starved : Bool) → past.fault ≡ None → past.under ≡ Some f → (after_feed bytes starved past).fault ≡ None → after_feed bytes starved past ≡ grown past f bytes
fed_well past f bytes starved no_fault under none =
    let here = fed_here past f bytes starved no_fault under in
    here ∙ fed_by past f bytes (nat_lt (most_bytes f.params) (length f.payload + length bytes)) starved (ap (λ (q : JoinHistory). q.fault) (sym here) ∙ none) no_fault

pub feeds : (past : JoinHistory) (f : Frame) (first contents : Option (List ℕ)) (join : JoinState) → JoinIsDrainedTo (record past { under = Some f }) first join contents → FeedsJoin past f first join contents
feeds past f first contents join d = record { given = past.given ++ d.bytes; stands = d.stands; taken = d.taken }

-- bytes for which there is room are refused for lack of memory alone
fed_fault : (past : JoinHistory) (f : Frame) (bytes : List ℕ) (starved : Bool) (fault : JoinFault) → past.fault ≡ None → (if starved then with_fault NoMem past else grown past f bytes).fault ≡ Some fault → stop_of_join fault ≡ no_memory
fed_fault past f bytes true fault no_fault e = let same : NoMem ≡ fault = cc in ap stop_of_join (sym same)
fed_fault past f bytes false fault no_fault e = absurd (let clash : None ≡ Some fault = sym no_fault ∙ e in cc)

fed_room : (past : JoinHistory) (f : Frame) (bytes : List ℕ) (long starved : Bool) (fault : JoinFault) → long ≡ false → past.fault ≡ None
    → (if long then with_fault Long past else (if starved then with_fault NoMem past else grown past f bytes)).fault ≡ Some fault → stop_of_join fault ≡ no_memory
fed_room past f bytes true starved fault room no_fault e = absurd (let clash : true ≡ false = room in cc)
fed_room past f bytes false starved fault room no_fault e = fed_fault past f bytes starved fault no_fault e

pub fed_cause : (past : JoinHistory) (f : Frame) (bytes : List ℕ) (starved : Bool) (fault : JoinFault) → past.fault ≡ None → past.under ≡ Some f → length f.payload + length bytes ≤ most_bytes f.params
    → (after_feed bytes starved past).fault ≡ Some fault → stop_of_join fault ≡ no_memory
fed_cause past f bytes starved fault no_fault under room e =
    let here = fed_here past f bytes starved no_fault under in
    fed_room past f bytes (nat_lt (most_bytes f.params) (length f.payload + length bytes)) starved fault (grind (arith, nat_tests, room)) no_fault (ap (λ (q : JoinHistory). q.fault) (sym here) ∙ e)
