-- The data of a frame on its way to the join.
use Rattle.std.proofs.Common.{◌≡◌, ◌∙◌, ℕ, ◌+◌, ◌-◌, Option, Some, None, Bool, true, false, List, [], ◌++◌, length, take, drop, refl, sym, ap, subst, append_assoc}
use Rattle.std.specs.Prelude.{nat_lt, if◌then◌else◌}
use Rattle.std.proofs.lemmas.List.{append-nil, take_rest, take-append-drop, length-drop}
use Rattle.std.proofs.Math.Seq.{take-add}
use Rattle.page_picture.specs.Shows.{Frame}
use Rattle.frame_join.specs.declared.join_stage.JoinFault.{JoinFault}
use Rattle.frame_join.specs.declared.join_stage.JoinFault.TheVariants.{Long, NoMem}
use Rattle.frame_join.specs.AloneFrame.{most_bytes}
use Rattle.frame_join.specs.FrameHistory.{JoinHistory, after_feed_at, with_fault, after_feed}
use Rattle.frame_join.specs.JoinStates.{JoinState, Represents}
use Rattle.data_records.specs.declared.records.RecordPhase.{RecordPhase}
use Rattle.data_records.specs.declared.records.RecordPhase.TheVariants as phases
use Rattle.data_records.specs.Records.{RecordsContinue, CarriesRecords, HasEnded, TellsEnd}
use Rattle.data_records.specs.declared.records.Step.TheVariants as steps
use Rattle.client_replies.specs.ProtocolStates.{with_payload}
use Rattle.net_client.specs.FramePieces.{ReadsTo, ReadsEnd, ReadsFault}

-- ---- records, one step after another (these two belong to the reader's own laws)

no_step : (phase : RecordPhase) → CarriesRecords phase phase [] []
no_step phase text payload status = (λ c. (payload, refl, c), λ m. subst (λ (x : List ℕ). RecordsContinue phase text x status) (sym m.1) m.2)

pub two_steps : (old between new : RecordPhase) (u v g h : List ℕ) → CarriesRecords old between u g → CarriesRecords between new v h → CarriesRecords old new (u ++ v) (g ++ h)
two_steps old between new u v g h first next text payload status = (
  λ c.
      let a = (first (v ++ text) payload status).0 (subst (λ (t : List ℕ). RecordsContinue old t payload status) (append_assoc u v text) c) in
      let b = (next text a.0 status).0 a.2 in
      (b.0, a.1 ∙ ap (λ (t : List ℕ). g ++ t) b.1 ∙ sym (append_assoc g h b.0), b.2),
  λ m.
      let b = (next text (h ++ m.0) status).1 (m.0, refl, m.2) in
      let a = (first (v ++ text) payload status).1 (h ++ m.0, m.1 ∙ append_assoc g h m.0, b) in
      subst (λ (t : List ℕ). RecordsContinue old t payload status) (sym (append_assoc u v text)) a,
)

-- a step that tells no end leaves a reader that has not ended
pub more_tells : (phase : RecordPhase) → TellsEnd phase steps.More → HasEnded phase → ⊥
more_tells (phases.Ended status) t h = let clash : steps.More ≡ steps.End status = t in cc
more_tells phase t h = absurd h

pub bytes_tell : (phase : RecordPhase) (from to : ℕ) → TellsEnd phase (steps.Bytes from to) → HasEnded phase → ⊥
bytes_tell (phases.Ended status) from to t h = let clash : steps.Bytes from to ≡ steps.End status = t in cc
bytes_tell phase from to t h = absurd h

-- ---- bytes taken

took_none : (past : JoinHistory) (frame : Frame) → past.under ≡ Some frame → with_payload past frame [] ≡ past
took_none past frame under =
    ap (λ (l : List ℕ). record past { under = Some (record frame { payload = l }) }) (append-nil frame.payload) ∙ ap (λ (u : Option Frame). record past { under = u }) (sym under)

fed_by : (past : JoinHistory) (f : Frame) (bytes : List ℕ) (long starved : Bool) → (if long then with_fault Long past else (if starved then with_fault NoMem past else with_payload past f bytes)).fault ≡ None
    → (if long then with_fault Long past else (if starved then with_fault NoMem past else with_payload past f bytes)) ≡ with_payload past f bytes
fed_by past f bytes true starved none = let clash : Some Long ≡ None = none in absurd (cc)
fed_by past f bytes false true none = let clash : Some NoMem ≡ None = none in absurd (cc)
fed_by past f bytes false false none = refl

fed_here : (past : JoinHistory) (f : Frame) (bytes : List ℕ) (starved : Bool) → past.fault ≡ None → past.under ≡ Some f → after_feed bytes starved past ≡ after_feed_at None (Some f) bytes starved past
unfolding after_feed
fed_here past f bytes starved calm under = ap (λ (o : Option JoinFault). after_feed_at o past.under bytes starved past) calm ∙ ap (λ (u : Option Frame). after_feed_at None u bytes starved past) under

pub fed_well : (past : JoinHistory) (f : Frame) (bytes : List ℕ) (starved : Bool) → past.fault ≡ None → past.under ≡ Some f → (after_feed bytes starved past).fault ≡ None → after_feed bytes starved past ≡ with_payload past f bytes
fed_well past f bytes starved calm under none =
    let here = fed_here past f bytes starved calm under in
    here ∙ fed_by past f bytes (nat_lt (most_bytes f.params) (length f.payload + length bytes)) starved (ap (λ (q : JoinHistory). q.fault) (sym here) ∙ none)

took_more : (past : JoinHistory) (frame : Frame) (xs ys : List ℕ) → with_payload (with_payload past frame xs) (record frame { payload = frame.payload ++ xs }) ys ≡ with_payload past frame (xs ++ ys)
took_more past frame xs ys = ap (λ (l : List ℕ). record past { under = Some (record frame { payload = l }) }) (append_assoc frame.payload xs ys)

-- ---- the loop over a piece

pub reads_none : (phase : RecordPhase) (past : JoinHistory) (frame : Frame) (join : JoinState) → Represents past join → past.under ≡ Some frame → ReadsTo phase past frame [] phase join
reads_none phase past frame join stands under = record {
  given = [];
  carries = no_step phase;
  stands = subst (λ (p : JoinHistory). Represents p join) (sym (took_none past frame under)) stands;
}

-- what a step used is what follows in the piece
pub used_next : (piece : List ℕ) (at used : ℕ) → take at piece ++ take used (take (length piece - at) (drop at piece)) ≡ take (at + used) piece
used_next piece at used = ap (λ (l : List ℕ). take at piece ++ take used l) (take_rest piece at) ∙ sym (take-add at used piece)

pub reads_more : (old mid new : RecordPhase) (past : JoinHistory) (frame : Frame) (piece : List ℕ) (at used : ℕ) (join : JoinState) → ReadsTo old past frame (take at piece) mid join
    → CarriesRecords mid new (take used (take (length piece - at) (drop at piece))) [] → ReadsTo old past frame (take (at + used) piece) new join
reads_more old mid new past frame piece at used join r c = record {
  given = r.given;
  carries = subst (λ (l : List ℕ). CarriesRecords old new l r.given) (used_next piece at used)
      (subst (λ (l : List ℕ). CarriesRecords old new (take at piece ++ take used (take (length piece - at) (drop at piece))) l) (append-nil r.given) (two_steps old mid new _ _ r.given [] r.carries c));
  stands = r.stands;
}

pub reads_bytes : (old mid new : RecordPhase) (past : JoinHistory) (frame : Frame) (piece : List ℕ) (at used : ℕ) (bytes : List ℕ) (starved : Bool) (was join : JoinState) → ReadsTo old past frame (take at piece) mid was
    → past.fault ≡ None → CarriesRecords mid new (take used (take (length piece - at) (drop at piece))) bytes
    → ((q : JoinHistory) → Represents q was → Represents (after_feed bytes starved q) join) → ((q : JoinHistory) → Represents q join → q.fault ≡ None) → ReadsTo old past frame (take (at + used) piece) new join
reads_bytes old mid new past frame piece at used bytes starved was join r calm c feeds free =
    let p : JoinHistory = with_payload past frame r.given in
    let grown : Frame = record frame { payload = frame.payload ++ r.given } in
    let stood = feeds p r.stands in
    let well : after_feed bytes starved p ≡ with_payload past frame (r.given ++ bytes) = fed_well p grown bytes starved calm refl (free (after_feed bytes starved p) stood) ∙ took_more past frame r.given bytes in
    record {
      given = r.given ++ bytes;
      carries = subst (λ (l : List ℕ). CarriesRecords old new l (r.given ++ bytes)) (used_next piece at used) (two_steps old mid new _ _ r.given bytes r.carries c);
      stands = subst (λ (q : JoinHistory). Represents q join) well stood;
    }

pub reads_fault : (old mid new : RecordPhase) (past : JoinHistory) (frame : Frame) (piece : List ℕ) (at used : ℕ) (bytes : List ℕ) (starved : Bool) (was join : JoinState) (fault : JoinFault)
    → ReadsTo old past frame (take at piece) mid was → CarriesRecords mid new (take used (take (length piece - at) (drop at piece))) bytes
    → ((q : JoinHistory) → Represents q was → Represents (after_feed bytes starved q) join) → ((q : JoinHistory) → Represents q join → q.fault ≡ Some fault) → ReadsFault old past frame piece fault new join
reads_fault old mid new past frame piece at used bytes starved was join fault r c feeds stands_fault =
    let stood = feeds (with_payload past frame r.given) r.stands in
    record {
      used = take (at + used) piece;
      rest = drop (at + used) piece;
      before = r.given;
      last = bytes;
      starved = starved;
      whole = sym (take-append-drop (at + used) piece);
      carries = subst (λ (l : List ℕ). CarriesRecords old new l (r.given ++ bytes)) (used_next piece at used) (two_steps old mid new _ _ r.given bytes r.carries c);
      stands = stood;
      fails = stands_fault _ stood;
    }

pub reads_end : (old mid new : RecordPhase) (past : JoinHistory) (frame : Frame) (piece : List ℕ) (at used status : ℕ) (join : JoinState) → ReadsTo old past frame (take at piece) mid join
    → CarriesRecords mid new (take used (take (length piece - at) (drop at piece))) [] → new ≡ phases.Ended status → ReadsEnd old past frame piece status join
reads_end old mid new past frame piece at used status join r c ended = record {
  used = take (at + used) piece;
  rest = drop (at + used) piece;
  whole = sym (take-append-drop (at + used) piece);
  reads = subst (λ (p : RecordPhase). ReadsTo old past frame (take (at + used) piece) p join) ended (reads_more old mid new past frame piece at used join r c);
}

pub rest_length : (piece : List ℕ) (at : ℕ) → length (take (length piece - at) (drop at piece)) ≡ length piece - at
rest_length piece at = ap (λ (l : List ℕ). length l) (take_rest piece at) ∙ length-drop at piece
