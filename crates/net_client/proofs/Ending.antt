-- The end of a frame.
use Rattle.std.proofs.Common.{◌≡◌, ◌∙◌, ℕ, Option, Some, None, Bool, true, false, List, [], ◌∷◌, ◌++◌, length, refl, sym, ap, subst, inl, inr}
use Rattle.std.specs.Prelude.{Ok, Err, if◌then◌else◌}
use Rattle.std.proofs.lemmas.List.{append-nil}
use Rattle.wire_format.specs.Writer.{behind}
use Rattle.sane_fixed.specs.declared.status.Status.{Status}
use Rattle.sane_fixed.specs.declared.status.Status.TheVariants as statuses
use Rattle.netpbm.specs.Picture.{Picture}
use Rattle.netpbm.specs.Pnm.{IsWhole}
use Rattle.frame_join.proofs.EndSteps.{whole_not}
use Rattle.page_picture.specs.Shows.{Frame, ShowsFrames}
use Rattle.frame_join.specs.declared.join_stage.JoinFault.{JoinFault}
use Rattle.frame_join.specs.declared.join_stage.JoinFault.TheVariants as faults
use Rattle.frame_join.specs.FrameHistory.{JoinHistory, empty_history, after_end_at, with_fault, is_full, is_joined, after_end, after_pull, IsJoined, answer_by}
use Rattle.frame_join.specs.JoinStates.{JoinState, Represents}
use Rattle.data_records.specs.declared.records.RecordPhase.{RecordPhase}
use Rattle.data_records.specs.declared.records.RecordPhase.TheVariants as phases
use Rattle.data_records.specs.Records.{HasEnded}
use Rattle.scan_job.specs.declared.job.Task.{Task}
use Rattle.scan_job.specs.declared.job.Task.TheVariants as tasks
use Rattle.scan_job.specs.declared.outcome.Outcome.{Outcome}
use Rattle.scan_job.specs.declared.outcome.Outcome.TheVariants.{Running, Done, Ended}
use Rattle.scan_job.specs.declared.outcome.Why.{Why}
use Rattle.client_replies.specs.declared.progress.Progress.{Progress}
use Rattle.client_replies.specs.declared.progress.Progress.TheVariants as stages
use Rattle.client_replies.specs.declared.progress.Notes.{Notes}
use Rattle.client_replies.specs.declared.progress.Next.{Next}
use Rattle.client_replies.specs.declared.progress.Next.TheVariants.{Wait, Stop}
use Rattle.client_replies.specs.Asking.{request_for}
use Rattle.client_replies.specs.ReplyTurns.{turn, stop_unjoined, frame_ended_by, frame_ended, FrameEnd}
use Rattle.sane_fixed.specs.Status.{status_of}
use Rattle.net_client.specs.Sending.{optional_request_text}
use Rattle.net_client.specs.ClientStates.{TurnsPage, TakesPage, Stays, Turns, ClientState, ClientRepresents, after_client_end}
use Rattle.client_replies.specs.ProtocolStates.{is_batch, is_ended, is_turning, turns, is_running, scans, IsWithinFrame, FitsAt, HistoryFits, FitsDone, NextFits, next_outcome, is_receiving, with_payload}
use Rattle.net_client.specs.Inside.{GoesOnBy, IsBehindFrame, RepresentsWithin}
use Rattle.net_client.specs.FramePieces.{TakesEndRecord, ReadsTo, ReadsEnd, ReadsFault, Receives}
use Rattle.client_replies.proofs.Fitting.{within_is_unjoined, faulty_is_unjoined, ended_unjoined}
use Rattle.client_replies.proofs.TurnRows.{more_pages, EndRow, EndStops, EndMisfits, NextFrame, NextPage, LastPage, end_row}
use Rattle.net_client.proofs.Hearings.{between, settles_well, differs, running_is}
use Rattle.frame_join.specs.PictureText.{IsPictureFile}

-- ---- what the join says at the end of a frame

closed_none : (fault : Option JoinFault) (under : Option Frame) (past : JoinHistory) → fault ≡ None → past.fault ≡ fault → past.under ≡ under → (after_end_at fault under past).fault ≡ None → (after_end_at fault under past).under ≡ None
closed_none (Some x) under past e f u calm = absurd (let clash : Some x ≡ None = e in cc)
closed_none None None past e f u calm = u
closed_none None (Some frame) past e f u calm = by_full (is_full frame) frame past calm
  where
    by_full : (full : Bool) (frame : Frame) (past : JoinHistory) → (if full then record past { ended = past.ended ++ frame ∷ []; under = None } else with_fault faults.Short past).fault ≡ None
        → (if full then record past { ended = past.ended ++ frame ∷ []; under = None } else with_fault faults.Short past).under ≡ None
    by_full true frame past calm = refl
    by_full false frame past calm = absurd (let clash : Some faults.Short ≡ None = calm in cc)

end_none : (past : JoinHistory) → past.fault ≡ None → (after_end past).fault ≡ None → (after_end past).under ≡ None
unfolding after_end
end_none past e calm = closed_none past.fault past.under past e refl refl calm

closed_gives : (fault : Option JoinFault) (under : Option Frame) (past : JoinHistory) → (after_end_at fault under past).given ≡ past.given
closed_gives (Some x) under past = refl
closed_gives None None past = refl
closed_gives None (Some frame) past = by_full (is_full frame) frame past
  where
    by_full : (full : Bool) (frame : Frame) (past : JoinHistory) → (if full then record past { ended = past.ended ++ frame ∷ []; under = None } else with_fault faults.Short past).given ≡ past.given
    by_full true frame past = refl
    by_full false frame past = refl

end_gives : (past : JoinHistory) → (after_end past).given ≡ past.given
unfolding after_end
end_gives past = closed_gives past.fault past.under past

answer_calm : (fault : Option JoinFault) (under : Option Frame) (after_client_end : List Frame) (b : Bool) → answer_by fault under after_client_end ≡ Ok b → fault ≡ None
answer_calm (Some x) under after_client_end b e = absurd (let clash : Err x ≡ Ok b = e in cc)
answer_calm None under after_client_end b e = refl

answer_fault : (fault : Option JoinFault) (under : Option Frame) (after_client_end : List Frame) (x : JoinFault) → answer_by fault under after_client_end ≡ Err x → fault ≡ Some x
answer_fault (Some y) under after_client_end x e = ap Some (cc (e))
answer_fault None (Some f) after_client_end x e = absurd (let clash : Ok false ≡ Err x = e in cc)
answer_fault None None after_client_end x e = absurd (let clash : Ok (is_joined after_client_end) ≡ Err x = e in cc)

not_joined : (fault : Option JoinFault) (under : Option Frame) (after_client_end : List Frame) → under ≡ None → answer_by fault under after_client_end ≡ Ok false → is_joined after_client_end ≡ false
not_joined (Some x) under after_client_end u e = absurd (let clash : Err x ≡ Ok false = e in cc)
not_joined None (Some f) after_client_end u e = absurd (let clash : Some f ≡ None = u in cc)
not_joined None None after_client_end u e = let same : Ok (is_joined after_client_end) ≡ Ok false = e in cc

batched : (task : Task) (file : ℕ) → more_pages task file ≡ true → is_batch task ≡ true
batched (tasks.Batch count) file e = refl
batched task file e = absurd (let clash : false ≡ true = e in cc)

done_whole : (task : Task) (past : JoinHistory) → scans task ≡ true → IsJoined past → FitsDone task past
done_whole tasks.Scan past s j = j
done_whole (tasks.Batch count) past s j = inl j
done_whole task past s j = absurd (let clash : false ≡ true = s in cc)

row_fits : (task : Task) (file : ℕ) (past : JoinHistory) (ending : FrameEnd) → EndRow task file past ending → scans task ≡ true → IsWithinFrame past → (IsWhole past.given → ⊥) → NextFits task ending.history ending.next
row_fits task file past ending (EndStops status why f) s w short = ended_unjoined task past (within_is_unjoined past w)
row_fits task file past ending (EndMisfits x status why f e) s w short =
    let closed = after_end past in ended_unjoined task closed (faulty_is_unjoined closed x (answer_fault closed.fault closed.under closed.ended x e))
row_fits task file past ending (NextFrame e) s w short =
    let closed = after_end past in
    let calm = answer_calm closed.fault closed.under closed.ended false e in
    let none = end_none past w.0 calm in
    (s, (calm, none, not_joined closed.fault closed.under closed.ended none e))
row_fits task file past ending (NextPage joined more) s w short = (batched task file more, (joined, λ whole. short (subst IsWhole (end_gives past) whole)))
row_fits task file past ending (LastPage joined last) s w short = done_whole task (after_end past) s joined

pub ended_gives_by : (task : Task) (file : ℕ) (past : JoinHistory) (status : Option Status) → (frame_ended_by task file past status).history.given ≡ past.given
ended_gives_by task file past None = refl
ended_gives_by task file past (Some statuses.Eof) = end_gives past
ended_gives_by task file past (Some status) = refl

-- ---- the client at the end of a frame

pub ends_frame : (old new : ClientState) (join : JoinState) (past : JoinHistory) (status : ℕ) (next : Next) → Represents past old.join → scans old.target.task ≡ true → IsWithinFrame past
    → next ≡ (frame_ended old.target.task old.notes.file past status).next → Represents (frame_ended old.target.task old.notes.file past status).history join
    → GoesOnBy (record old { join = join }) next new → TakesEndRecord old past status new
ends_frame old new join past status next was s w next_is stands settles =
    let e : FrameEnd = frame_ended old.target.task old.notes.file past status in
    let fits = row_fits old.target.task old.notes.file past e (end_row old.target.task old.notes.file past (status_of status)) s w (whole_not past old.join was (within_is_unjoined past w)) in
    let same : GoesOnBy (between old old.progress old.notes join) e.next new = subst (λ (x : Next). GoesOnBy (record old { join = join }) x new) next_is settles in
    let well = settles_well old new old.progress (turn old.notes e.next) join e.history fits stands same in
    record { protocol = well.0; serves = well.1; said = same.text; rest = differs old new old.progress (turn old.notes e.next) join same }

-- behind a frame START is sent for the next one, or nothing
row_waits : (task : Task) (file : ℕ) (past : JoinHistory) (ending : FrameEnd) (progress : Progress) → EndRow task file past ending → ending.next ≡ Wait progress → IsBehindFrame progress
row_waits task file past ending progress (NextFrame calm) e = let same : stages.Starting false ≡ progress = cc in subst IsBehindFrame same tt
row_waits task file past ending progress (NextPage joined more) e = let same : stages.Turning ≡ progress = cc in subst IsBehindFrame same tt
row_waits task file past ending progress _ e = absurd (cc)

pub behind_frame : (task : Task) (file : ℕ) (past : JoinHistory) (status : ℕ) (progress : Progress) → Wait progress ≡ (frame_ended task file past status).next → IsBehindFrame progress
behind_frame task file past status progress e = row_waits task file past (frame_ended task file past status) progress (end_row task file past (status_of status)) (sym e)

pub waits_so : (old new : ClientState) (progress : Progress) → is_running old.outcome ≡ true → new ≡ record old { progress = progress; out = new.out } → behind old.out (optional_request_text (request_for old.target old.notes.word progress)) ≡ Some new.out
    → GoesOnBy old (Wait progress) new
waits_so old new progress running rest text = record { rest = rest ∙ ap (λ (o : Outcome). record old { outcome = o; progress = progress; out = new.out }) (running_is old.outcome running); text = text }

pub stops_so : (old new : ClientState) (status : Status) (why : Why) → new ≡ after_client_end status why old → GoesOnBy old (Stop status why) new
stops_so old new status why e = record {
  rest = subst (λ (v : ClientState). v ≡ record (after_client_end status why old) { out = v.out }) (sym e) refl;
  text = ap (λ (l : List ℕ). Some l) (append-nil old.out) ∙ ap (λ (v : ClientState). Some v.out) (sym e);
}

-- ---- a piece

receiving_at : (outcome : Outcome) (progress : Progress) (past : JoinHistory) (task : Task) → is_receiving outcome progress ≡ true → HistoryFits task outcome progress past → (scans task ≡ true) × IsWithinFrame past × (is_running outcome ≡ true)
receiving_at Running (stages.Imaging port opened) past task r f = (f.0, f.1, refl)
receiving_at (Done reports) (stages.Imaging port opened) past task r f = absurd (let clash : false ≡ true = r in cc)
receiving_at (Ended status why) (stages.Imaging port opened) past task r f = absurd (let clash : false ≡ true = r in cc)
receiving_at outcome progress past task r f = absurd (let clash : false ≡ true = r in cc)

pub receives_at : (v : ClientState) (past : JoinHistory) → is_receiving v.outcome v.progress ≡ true → ClientRepresents past v → (scans v.target.task ≡ true) × IsWithinFrame past × (is_running v.outcome ≡ true)
receives_at v past r s = receiving_at v.outcome v.progress past v.target.task r s.fits

pub is_running_then : (outcome : Outcome) (progress : Progress) → is_receiving outcome progress ≡ true → is_running outcome ≡ true
is_running_then Running progress r = refl
is_running_then (Done reports) (stages.Imaging port opened) r = r
is_running_then (Ended status why) (stages.Imaging port opened) r = r
is_running_then outcome progress r = absurd (let clash : false ≡ true = r in cc)

receiving_fits : (outcome : Outcome) (progress : Progress) (task : Task) (past then_ : JoinHistory) → is_receiving outcome progress ≡ true → HistoryFits task outcome progress past → IsWithinFrame then_ → HistoryFits task outcome progress then_
receiving_fits Running (stages.Imaging port opened) task past then_ r f w = (f.0, w)
receiving_fits (Done reports) (stages.Imaging port opened) task past then_ r f w = absurd (let clash : false ≡ true = r in cc)
receiving_fits (Ended status why) (stages.Imaging port opened) task past then_ r f w = absurd (let clash : false ≡ true = r in cc)
receiving_fits outcome progress task past then_ r f w = absurd (let clash : false ≡ true = r in cc)

took_within : (past : JoinHistory) (frame : Frame) (given : List ℕ) → past.fault ≡ None → IsWithinFrame (with_payload past frame given)
took_within past frame given calm = (calm, (_, refl))

pub goes : (old : ClientState) (past : JoinHistory) (piece : List ℕ) (phase : RecordPhase) (join : JoinState) → is_receiving old.outcome old.progress ≡ true → ClientRepresents past old → (HasEnded phase → ⊥)
    → ((q : JoinHistory) (f : Frame) → RepresentsWithin q f old.join → ReadsTo old.phase q f piece phase join) → Receives old past piece (record old { phase = phase; join = join })
goes old past piece phase join r serves going reads =
    let at = receives_at old past r serves in
    let told = reads past at.1.1.0 (record { stands = serves.stands; clear = at.1.0; under = at.1.1.1 }) in
    inl (record {
      frame = at.1.1.0;
      under = at.1.1.1;
      reads = told;
      going = going;
      serves = record { stands = told.stands; fits = receiving_fits old.outcome old.progress old.target.task past (with_payload past at.1.1.0 told.given) r serves.fits (took_within past at.1.1.0 told.given at.1.0) };
      rest = refl;
    })

pub ends : (old : ClientState) (new : ClientState) (past : JoinHistory) (piece : List ℕ) (status : ℕ) (join : JoinState) → is_receiving old.outcome old.progress ≡ true → ClientRepresents past old
    → ((q : JoinHistory) (f : Frame) → RepresentsWithin q f old.join → ReadsEnd old.phase q f piece status join)
    → ((q : JoinHistory) → Represents q join → scans old.target.task ≡ true → IsWithinFrame q → TakesEndRecord (record old { phase = phases.Head; join = join }) q status new)
    → Receives old past piece new
ends old new past piece status join r serves reads done =
    let at = receives_at old past r serves in
    let told = reads past at.1.1.0 (record { stands = serves.stands; clear = at.1.0; under = at.1.1.1 }) in
    inr (inl (record {
      frame = at.1.1.0;
      under = at.1.1.1;
      status = status;
      join = join;
      reads = told;
      ends = done (with_payload past at.1.1.0 told.reads.given) told.reads.stands at.0 (took_within past at.1.1.0 told.reads.given at.1.0);
    }))

fault_fits : (task : Task) (notes : Notes) (fault : JoinFault) (past : JoinHistory) → past.fault ≡ Some fault → HistoryFits task (next_outcome task notes (stop_unjoined fault)) stages.Over past
fault_fits task notes faults.Shape past e = ended_unjoined task past (faulty_is_unjoined past faults.Shape e)
fault_fits task notes faults.Long past e = ended_unjoined task past (faulty_is_unjoined past faults.Long e)
fault_fits task notes faults.Short past e = ended_unjoined task past (faulty_is_unjoined past faults.Short e)
fault_fits task notes faults.NoMem past e = ended_unjoined task past (faulty_is_unjoined past faults.NoMem e)

pub fails : (old : ClientState) (past : JoinHistory) (piece : List ℕ) (fault : JoinFault) (phase : RecordPhase) (join : JoinState) → is_receiving old.outcome old.progress ≡ true → ClientRepresents past old
    → ((q : JoinHistory) (f : Frame) → RepresentsWithin q f old.join → ReadsFault old.phase q f piece fault phase join)
    → Receives old past piece (record old { outcome = next_outcome old.target.task old.notes (stop_unjoined fault); progress = stages.Over; phase = phase; join = join })
fails old past piece fault phase join r serves reads =
    let at = receives_at old past r serves in
    let told = reads past at.1.1.0 (record { stands = serves.stands; clear = at.1.0; under = at.1.1.1 }) in
    inr (inr (record {
      frame = at.1.1.0;
      under = at.1.1.1;
      fault = fault;
      reads = told;
      serves = record { stands = told.stands; fits = fault_fits old.target.task old.notes fault _ told.fails };
      rest = refl;
    }))

-- ---- the file

at_pulled : (progress : Progress) (past : JoinHistory) (bytes : List ℕ) → is_turning progress ≡ false → FitsAt progress past → FitsAt progress (after_pull bytes past)
at_pulled (stages.Imaging port opened) past bytes no_turn w = w
at_pulled stages.Turning past bytes no_turn j = absurd (let clash : true ≡ false = no_turn in cc)
at_pulled progress past bytes no_turn b = b

done_pulled : (task : Task) (past : JoinHistory) (bytes : List ℕ) → FitsDone task past → FitsDone task (after_pull bytes past)
done_pulled tasks.Scan past bytes f = f
done_pulled (tasks.Batch count) past bytes f = f
done_pulled task past bytes f = f

pub fits_pulled : (task : Task) (outcome : Outcome) (progress : Progress) (past : JoinHistory) (bytes : List ℕ) → is_ended outcome ≡ false → turns outcome progress ≡ false → HistoryFits task outcome progress past
    → HistoryFits task outcome progress (after_pull bytes past)
fits_pulled task Running progress past bytes no_end no_turn f = (f.0, at_pulled progress past bytes no_turn f.1)
fits_pulled task (Done reports) progress past bytes no_end no_turn f = done_pulled task past bytes f
fits_pulled task (Ended status why) progress past bytes no_end no_turn f = absurd (let clash : true ≡ false = no_end in cc)

-- ---- the file of a batch's page

page_fits : (task : Task) (outcome : Outcome) (progress : Progress) (past : JoinHistory) (bytes : List ℕ) → turns outcome progress ≡ true → (IsWhole (past.given ++ bytes) → ⊥) → HistoryFits task outcome progress past
    → HistoryFits task outcome progress (after_pull bytes past)
page_fits task Running stages.Turning past bytes t short f = (f.0, (f.1.0, short))
page_fits task Running progress past bytes t short f = absurd (let clash : false ≡ true = t in cc)
page_fits task (Done reports) progress past bytes t short f = absurd (let clash : false ≡ true = t in cc)
page_fits task (Ended status why) progress past bytes t short f = absurd (let clash : false ≡ true = t in cc)

batch_scans : (task : Task) → is_batch task ≡ true → scans task ≡ true
batch_scans tasks.List e = absurd (let clash : false ≡ true = e in cc)
batch_scans tasks.Show e = absurd (let clash : false ≡ true = e in cc)
batch_scans tasks.SetOnly e = absurd (let clash : false ≡ true = e in cc)
batch_scans tasks.Scan e = refl
batch_scans (tasks.Batch count) e = refl

next_page : (task : Task) (outcome : Outcome) (progress : Progress) (past : JoinHistory) → turns outcome progress ≡ true → HistoryFits task outcome progress past → HistoryFits task outcome (stages.Starting true) empty_history
next_page task Running stages.Turning past t f = (batch_scans task f.0, (refl, refl, refl))
next_page task Running progress past t f = absurd (let clash : false ≡ true = t in cc)
next_page task (Done reports) progress past t f = absurd (let clash : false ≡ true = t in cc)
next_page task (Ended status why) progress past t f = absurd (let clash : false ≡ true = t in cc)

pub page_turns : (old new : ClientState) (past : JoinHistory) → turns old.outcome old.progress ≡ true → ClientRepresents past old → TurnsPage old new → ClientRepresents empty_history new
page_turns old new past t serves turn_ =
    subst (λ (v : ClientState). ClientRepresents empty_history v) (sym turn_.rest) (record { stands = turn_.stands; fits = next_page old.target.task old.outcome old.progress past t serves.fits })

pub page_stays : (old : ClientState) (past : JoinHistory) (bytes : List ℕ) (join : JoinState) → turns old.outcome old.progress ≡ true → ClientRepresents past old → Represents (after_pull bytes past) join → (IsWhole (past.given ++ bytes) → ⊥)
    → TakesPage old past bytes (record old { join = join })
page_stays old past bytes join t serves stands short = Stays short refl (record { stands = stands; fits = page_fits old.target.task old.outcome old.progress past bytes t short serves.fits })

pub page_turned : (old new : ClientState) (past : JoinHistory) (bytes : List ℕ) → turns old.outcome old.progress ≡ true → ClientRepresents past old → IsWhole (past.given ++ bytes)
    → ((p : Picture) → ShowsFrames past.ended p → IsPictureFile (past.given ++ bytes) p) → TurnsPage old new → TakesPage old past bytes new
page_turned old new past bytes t serves whole denotes turn_ = Turns whole denotes turn_ (page_turns old new past t serves turn_)

pub ended_turns_none : (outcome : Outcome) (progress : Progress) → is_ended outcome ≡ true → turns outcome progress ≡ true → ⊥
ended_turns_none Running progress e t = let clash : false ≡ true = e in cc
ended_turns_none (Done reports) progress e t = let clash : false ≡ true = e in cc
ended_turns_none (Ended status why) progress e t = let clash : false ≡ true = t in cc

pub no_length : (bytes : List ℕ) → bytes ≡ [] → length bytes ≡ 0
no_length bytes none = ap (λ (l : List ℕ). length l) none

pub pulled_none : (past : JoinHistory) → after_pull [] past ≡ past
pulled_none past = ap (λ (l : List ℕ). record past { given = l }) (append-nil past.given)
