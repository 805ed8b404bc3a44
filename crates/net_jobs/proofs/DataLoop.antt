-- How far a job is, call by call of its data connections.
use Rattle.std.proofs.Common.{◌≡◌, ◌∙◌, ◌+◌, ◌<◌, ◌⊎◌, ℕ, Bool, true, false, Option, Some, None, Result, Ok, Err, List, [], ◌∷◌, ◌++◌, length, refl, sym, ap, subst, append_assoc, inl, inr, arith, length-append}
use Rattle.std.specs.Prelude.{◌&&◌, nat_lt, if◌then◌else◌}
use Rattle.std.proofs.lemmas.Bool.{ltb-true}
use Rattle.std.specs.Io.KnownBytes.{Consumes}
use Rattle.sane_fixed.specs.declared.status.Status.{Status}
use Rattle.sane_fixed.specs.declared.status.Status.TheVariants as statuses
use Rattle.wire_format.specs.Writer.{behind}
use Rattle.page_picture.specs.Shows.{Frame}
use Rattle.frame_join.specs.declared.join_stage.JoinFault.{JoinFault}
use Rattle.frame_join.specs.declared.join_stage.JoinFault.TheVariants.{Shape, Long, Short, NoMem}
use Rattle.frame_join.specs.AloneFrame.{most_bytes}
use Rattle.frame_join.specs.FrameHistory.{JoinHistory, with_fault, after_feed_at, after_end_at, is_full, after_feed, after_end}
use Rattle.data_records.specs.declared.records.RecordPhase.{RecordPhase}
use Rattle.data_records.specs.declared.records.RecordPhase.TheVariants as phases
use Rattle.data_records.specs.Records.{CarriesRecords, RecordsContinue}
use Rattle.scan_job.specs.declared.job.Job.{Job}
use Rattle.scan_job.specs.declared.job.Task.{Task}
use Rattle.scan_job.specs.declared.job.Task.TheVariants as tasks
use Rattle.scan_job.specs.declared.outcome.Outcome.{Outcome}
use Rattle.scan_job.specs.declared.outcome.Outcome.TheVariants.{Running, Done, Ended}
use Rattle.scan_job.specs.declared.outcome.Why.TheVariants as whys
use Rattle.client_replies.specs.declared.progress.JobTarget.{JobTarget}
use Rattle.client_replies.specs.declared.progress.Link.TheVariants as links
use Rattle.client_replies.specs.declared.progress.Progress.{Progress}
use Rattle.client_replies.specs.declared.progress.Progress.TheVariants as stages
use Rattle.client_replies.specs.declared.progress.Notes.{Notes}
use Rattle.client_replies.specs.declared.progress.Next.TheVariants.{Wait, Finish}
use Rattle.client_replies.specs.ReplyTurns.{stop_unjoined, page_whole, frame_joined, frame_ended_by}
use Rattle.sane_fixed.specs.Status.{status_of}
use Rattle.client_replies.specs.ProtocolStates.{ProtocolState, target_of, is_running, is_receiving, is_lost_by, next_outcome, next_progress, with_payload, wanted_port, progress_connected, FitsAt}
use Rattle.client_replies.proofs.Fitting.{may_end}
use Rattle.net_client.specs.ClientStates.{ClientState, protocol_of, ClientRepresents, after_client_end, phase_connected}
use Rattle.net_client.specs.FramePieces.{Receives, TakesBytes, TakesFrameEnd, FailsAtBytes, TakesEndRecord}
use Rattle.net_client.proofs.Hearings.{fits_at, calm_at}
use Rattle.net_client.proofs.FrameRecords.{two_steps}
use Rattle.net_jobs.specs.JobJournal.{JobMove, Dials, after_loss, dialled_by, HasLoss}
use Rattle.net_jobs.specs.RunPromises.{EndsBy, ByLoss, ByMemory, ByLength}
use Rattle.net_jobs.specs.JobTraces.{Opened, Came, Finished, JobTrace, EventLeads, protocol_after_frame, sent_after, frame_end_at}
use Rattle.net_jobs.specs.Links.{DialBrings}
use Rattle.net_jobs.proofs.InvariantRecords.{came_in, BetweenFrames, LinkMatchesTrace, ClientFollowsTrace, GivenFiles, RunInvariant, AsksPorts}
use Rattle.net_jobs.proofs.Tracing.{did_leave, did_quiet, did_say}
use Rattle.net_jobs.proofs.DataStreams.{records_end, brought_one, read_more, front_of, begin_more}
use Rattle.net_jobs.proofs.KeepingInvariant.{following, asked_now, falls}

-- ---- a connection is lost

-- by a move that tells of a loss
pub lost_from : {R : Type 0} (left_of : R → Option (List ℕ)) (job : Job) (moves more : List JobMove) (read_ wrote left : List ℕ) (coming0 coming : Option (List (List ℕ))) (given : GivenFiles) (stream after_ : Option R) (old new : ClientState) → is_running old.outcome ≡ true
    → new ≡ after_client_end statuses.IoError whys.Lost old → HasLoss more → (s : RunInvariant left_of job moves read_ wrote left coming0 coming given stream old) → AsksPorts (dialled_by more) s.did.events s.trace.protocol new.outcome
    → (t : RunInvariant left_of job more read_ wrote left coming0 coming given after_ new) × (t.history ≡ s.history)
lost_from left_of job moves more read_ wrote left coming0 coming given stream after_ old new running new_is loss s asked =
    let at = fits_at s.history old running s.serves in
    let f = following left_of moves coming0 coming s.trace s.rest stream old s.history running s.stands in (
      record {
        target = ap (λ (v : ClientState). v.target) new_is ∙ s.target;
        history = s.history;
        serves = subst (λ (v : ClientState). ClientRepresents s.history v) (sym new_is) (record { stands = s.serves.stands; fits = may_end old.target.task old.progress s.history at.0 at.1 });
        given_is = s.given_is;
        trace = s.trace;
        pages_is = s.pages_is;
        rest = s.rest;
        did = s.did;
        asked = asked;
        stands = inr (falls left_of more coming0 coming s.trace s.rest s.rest stream old new s.history f running (ByLoss loss (ap (λ (v : ClientState). v.outcome) new_is)) (ap (λ (v : ClientState). is_running v.outcome) new_is));
      },
      refl,
    )

-- one that asks for no data connection
pub stage_lost : {R : Type 0} (left_of : R → Option (List ℕ)) (job : Job) (moves more : List JobMove) (read_ wrote left : List ℕ) (coming0 coming : Option (List (List ℕ))) (given : GivenFiles) (stream after_ : Option R) (old new : ClientState) → is_running old.outcome ≡ true
    → new ≡ after_client_end statuses.IoError whys.Lost old → HasLoss more → dialled_by more ≡ dialled_by moves → (s : RunInvariant left_of job moves read_ wrote left coming0 coming given stream old)
    → (t : RunInvariant left_of job more read_ wrote left coming0 coming given after_ new) × (t.history ≡ s.history)
stage_lost left_of job moves more read_ wrote left coming0 coming given stream after_ old new running new_is loss asks s =
    lost_from left_of job moves more read_ wrote left coming0 coming given stream after_ old new running new_is loss s (inl (asks ∙ asked_now (dialled_by moves) s.did.events s.trace.protocol old.outcome running s.asked))

-- ---- the data connection is made

abbrev number_in : Option ℕ → ℕ
number_in None = 0
number_in (Some n) = n

port_of : (progress : Progress) (port : ℕ) → wanted_port progress ≡ Some port → progress ≡ stages.Imaging port false
port_of (stages.Imaging other false) port e = ap (λ (o : Option ℕ). stages.Imaging (number_in o) false) e
port_of (stages.Imaging other true) port e = absurd (let clash : None ≡ Some port = e in cc)
port_of progress port e = absurd (let clash : None ≡ Some port = e in cc)

no_read : CarriesRecords phases.Head phases.Head [] []
no_read text payload status = (λ c. (payload, refl, c), λ m. subst (λ (x : List ℕ). RecordsContinue phases.Head text x status) (sym m.1) m.2)

shut : (b : Bool) → (b && false) ≡ false
shut true = refl
shut false = refl

is_open_at : (c : ClientState) (port : ℕ) → c.progress ≡ stages.Imaging port false → is_receiving c.outcome c.progress ≡ false
is_open_at c port e = ap (λ (p : Progress). is_receiving c.outcome p) e ∙ shut (is_running c.outcome)

between : {R : Type 0} (left_of : R → Option (List ℕ)) (coming0 coming : Option (List (List ℕ))) (streams : List (List ℕ)) (stream : Option R) (c : ClientState) (past : JoinHistory) → is_receiving c.outcome c.progress ≡ false
    → LinkMatchesTrace left_of coming0 coming streams stream c past → BetweenFrames coming0 coming streams c past
between left_of coming0 coming streams None c past e l = l
between left_of coming0 coming streams (Some conn) c past e l = absurd (let clash : true ≡ false = sym l.receives ∙ e in cc)

opened_from : {R : Type 0} (left_of : R → Option (List ℕ)) (job : Job) (moves : List JobMove) (read_ wrote : List ℕ) (coming0 coming now : Option (List (List ℕ))) (given : GivenFiles) (stream : Option R) (conn : R) (old new : ClientState) (port : ℕ)
    → is_running old.outcome ≡ true → old.progress ≡ stages.Imaging port false → DialBrings coming now (left_of conn)
    → new ≡ record old { progress = progress_connected old.progress; phase = phase_connected old.progress old.phase } → ((past : JoinHistory) → ClientRepresents past old → ClientRepresents past new)
    → (s : RunInvariant left_of job moves read_ wrote old.out coming0 coming given stream old) → ClientFollowsTrace left_of coming0 coming s.trace s.rest stream old s.history → RunInvariant left_of job (Dials port true ∷ moves) read_ wrote new.out coming0 now given (Some conn) new
opened_from left_of job moves read_ wrote coming0 coming now given stream conn old new port running e brings new_is serves s f =
    let b = between left_of coming0 coming s.trace.streams stream old s.history (is_open_at old port e) f.linked in
    let within = subst (λ (p : Progress). FitsAt p s.history) e (fits_at s.history old running s.serves).1 in
    let frame : Frame = within.1.0 in
    let none : frame.payload ≡ [] = ap came_in (sym within.1.1) ∙ b.empty port e in
    let brought = brought_one coming0 coming now (left_of conn) b.wholes b.brought brings in
    let trace : JobTrace = record s.trace { protocol = record s.trace.protocol { progress = progress_connected s.trace.protocol.progress } } in
    let lives : EventLeads (target_of job) s.trace (Opened port) trace = (ap (λ (t : ProtocolState). is_running t.outcome) (sym f.protocol_is) ∙ running, ap (λ (t : ProtocolState). wanted_port t.progress) (sym f.protocol_is) ∙ ap wanted_port e, refl) in
    let phase : new.phase ≡ phases.Head = ap (λ (v : ClientState). v.phase) new_is ∙ ap (λ (p : Progress). phase_connected p old.phase) e in
    record {
      target = ap (λ (v : ClientState). v.target) new_is ∙ s.target;
      history = s.history;
      serves = serves s.history s.serves;
      given_is = s.given_is;
      trace = trace;
      pages_is = s.pages_is;
      rest = s.rest;
      did = did_leave job trace read_ wrote s.rest old.out new.out (sym (ap (λ (v : ClientState). v.out) new_is)) (did_quiet job s.trace trace (Opened port) read_ wrote s.rest old.out lives refl refl s.did);
      asked = inl (ap (λ (l : List ℕ). port ∷ l) (asked_now (dialled_by moves) s.did.events s.trace.protocol old.outcome running s.asked));
      stands = inl (record {
        protocol_is = ap (λ (v : ClientState). protocol_of v s.history) new_is ∙ ap (λ (t : ProtocolState). record t { progress = progress_connected t.progress }) f.protocol_is;
        rest_is = ap (λ (v : ClientState). v.input.rest) new_is ∙ f.rest_is;
        linked = record {
          wholes = b.wholes;
          begin = b.begin;
          whole = brought.0;
          brought = brought.1;
          bytes = [];
          reads = brought.2;
          frame = frame;
          under = within.1.1;
          carries = subst (λ (p : RecordPhase). CarriesRecords phases.Head p [] frame.payload) (sym phase) (subst (λ (l : List ℕ). CarriesRecords phases.Head phases.Head [] l) (sym none) no_read);
          receives = ap (λ (v : ClientState). is_receiving v.outcome v.progress) new_is ∙ ap (λ (p : Progress). is_receiving old.outcome (progress_connected p)) e ∙ ap (λ (b : Bool). b && true) running;
        };
      });
    }

pub stage_opened : {R : Type 0} (left_of : R → Option (List ℕ)) (job : Job) (moves : List JobMove) (read_ wrote : List ℕ) (coming0 coming now : Option (List (List ℕ))) (given : GivenFiles) (stream : Option R) (conn : R) (old new : ClientState) (port : ℕ)
    → is_running old.outcome ≡ true → wanted_port old.progress ≡ Some port → DialBrings coming now (left_of conn)
    → new ≡ record old { progress = progress_connected old.progress; phase = phase_connected old.progress old.phase } → ((past : JoinHistory) → ClientRepresents past old → ClientRepresents past new)
    → RunInvariant left_of job moves read_ wrote old.out coming0 coming given stream old → RunInvariant left_of job (Dials port true ∷ moves) read_ wrote new.out coming0 now given (Some conn) new
stage_opened left_of job moves read_ wrote coming0 coming now given stream conn old new port running wants brings new_is serves s =
    let e : old.progress ≡ stages.Imaging port false = port_of old.progress port wants in
    let f = following left_of moves coming0 coming s.trace s.rest stream old s.history running s.stands in
    opened_from left_of job moves read_ wrote coming0 coming now given stream conn old new port running e brings new_is serves s f

-- ---- bytes of it

-- the frame that the client sees is the one whose bytes the connection carries
carried_in : (past : JoinHistory) (a b : Frame) (old : RecordPhase) (bytes : List ℕ) → past.under ≡ Some a → past.under ≡ Some b → CarriesRecords phases.Head old bytes a.payload → CarriesRecords phases.Head old bytes b.payload
carried_in past a b old bytes at_a at_b c = subst (λ (l : List ℕ). CarriesRecords phases.Head old bytes l) (ap came_in (sym at_a ∙ at_b)) c

abbrev pub came_course : JobTrace → Frame → List ℕ → JobTrace
came_course trace frame given = record trace { protocol = record trace.protocol { history = with_payload trace.protocol.history frame given } }

lives_came : (target : JobTarget) (trace : JobTrace) (old : ClientState) (past : JoinHistory) (frame : Frame) (given : List ℕ) → protocol_of old past ≡ trace.protocol → is_running old.outcome ≡ true → past.under ≡ Some frame
    → EventLeads target trace (Came given) (came_course trace frame given)
lives_came target trace old past frame given exchange_is running under = (
  frame,
  ap (λ (t : ProtocolState). is_running t.outcome) (sym exchange_is) ∙ running,
  ap (λ (t : ProtocolState). t.history.under) (sym exchange_is) ∙ under,
  refl,
)

pub stage_goes : {R : Type 0} (left_of : R → Option (List ℕ)) (job : Job) (moves : List JobMove) (read_ wrote : List ℕ) (coming0 coming : Option (List (List ℕ))) (given : GivenFiles) (was now : R) (old new : ClientState) (piece : List ℕ)
    → is_running old.outcome ≡ true → Consumes (left_of was) (left_of now) piece
    → (s : RunInvariant left_of job moves read_ wrote old.out coming0 coming given (Some was) old) → ClientFollowsTrace left_of coming0 coming s.trace s.rest (Some was) old s.history → TakesBytes old s.history piece new
    → RunInvariant left_of job moves read_ wrote new.out coming0 coming given (Some now) new
stage_goes left_of job moves read_ wrote coming0 coming given was now old new piece running consumed s f g =
    let l = f.linked in
    let more = read_more coming0 coming (left_of was) (left_of now) l.wholes l.whole l.bytes piece l.brought l.reads consumed in
    let trace : JobTrace = came_course s.trace g.frame g.reads.given in
    let lives = lives_came (target_of job) s.trace old s.history g.frame g.reads.given f.protocol_is running g.under in
    record {
      target = ap (λ (v : ClientState). v.target) g.rest ∙ s.target;
      history = with_payload s.history g.frame g.reads.given;
      serves = g.serves;
      given_is = s.given_is;
      trace = trace;
      pages_is = s.pages_is;
      rest = s.rest;
      did = did_leave job trace read_ wrote s.rest old.out new.out (sym (ap (λ (v : ClientState). v.out) g.rest)) (did_quiet job s.trace trace (Came g.reads.given) read_ wrote s.rest old.out lives refl refl s.did);
      asked = inl (asked_now (dialled_by moves) s.did.events s.trace.protocol old.outcome running s.asked);
      stands = inl (record {
        protocol_is = ap (λ (v : ClientState). protocol_of v (with_payload s.history g.frame g.reads.given)) g.rest ∙ ap (λ (t : ProtocolState). record t { history = with_payload t.history g.frame g.reads.given }) f.protocol_is;
        rest_is = ap (λ (v : ClientState). v.input.rest) g.rest ∙ f.rest_is;
        linked = record {
          wholes = l.wholes;
          begin = l.begin;
          whole = more.0;
          brought = more.1;
          bytes = l.bytes ++ piece;
          reads = more.2;
          frame = record g.frame { payload = g.frame.payload ++ g.reads.given };
          under = refl;
          carries = two_steps phases.Head old.phase new.phase l.bytes piece g.frame.payload g.reads.given (carried_in s.history l.frame g.frame old.phase l.bytes l.under g.under l.carries) g.reads.carries;
          receives = ap (λ (v : ClientState). is_receiving v.outcome v.progress) g.rest ∙ l.receives;
        };
      });
    }

-- ---- the end record

abbrev text_in : List ℕ → Option (List ℕ) → List ℕ
text_in else_ None = else_
text_in else_ (Some text) = text

pub behind_some : (out new : List ℕ) (text : Option (List ℕ)) → behind out text ≡ Some new → (said : List ℕ) × (text ≡ Some said) × (new ≡ out ++ said)
behind_some out new None e = absurd (let clash : None ≡ Some new = e in cc)
behind_some out new (Some said) e = (said, refl, ap (λ (o : Option (List ℕ)). text_in new o) (sym e))

-- no frame's end makes a client wait for the data of a frame
unjoined_shut : (fault : JoinFault) (outcome : Outcome) → is_receiving outcome (next_progress (stop_unjoined fault)) ≡ false
unjoined_shut Shape outcome = refl
unjoined_shut Long outcome = refl
unjoined_shut Short outcome = refl
unjoined_shut NoMem outcome = refl

more_shut : (more : Bool) (outcome : Outcome) → is_receiving outcome (next_progress (if more then Wait stages.Turning else Finish [])) ≡ false
more_shut true outcome = refl
more_shut false outcome = refl

page_shut : (task : Task) (file : ℕ) (outcome : Outcome) → is_receiving outcome (next_progress (page_whole task file)) ≡ false
page_shut (tasks.Batch count) file outcome = more_shut (nat_lt file count) outcome
page_shut task file outcome = refl

joined_shut : (task : Task) (file : ℕ) (answer : Result Bool JoinFault) (outcome : Outcome) → is_receiving outcome (next_progress (frame_joined task file answer)) ≡ false
joined_shut task file (Ok true) outcome = page_shut task file outcome
joined_shut task file (Ok false) outcome = refl
joined_shut task file (Err fault) outcome = unjoined_shut fault outcome

status_shut : (task : Task) (file : ℕ) (past : JoinHistory) (status : Option Status) (outcome : Outcome) → is_receiving outcome (next_progress (frame_ended_by task file past status).next) ≡ false
status_shut task file past None outcome = refl
status_shut task file past (Some statuses.Eof) outcome = joined_shut task file _ outcome
status_shut task file past (Some status) outcome = refl

-- and none makes it wait for a data connection
unjoined_quiet : (fault : JoinFault) (port : ℕ) → next_progress (stop_unjoined fault) ≡ stages.Imaging port false → ⊥
unjoined_quiet Shape port e = let clash : stages.Over ≡ stages.Imaging port false = e in cc
unjoined_quiet Long port e = let clash : stages.Over ≡ stages.Imaging port false = e in cc
unjoined_quiet Short port e = let clash : stages.Over ≡ stages.Imaging port false = e in cc
unjoined_quiet NoMem port e = let clash : stages.Over ≡ stages.Imaging port false = e in cc

more_quiet : (more : Bool) (port : ℕ) → next_progress (if more then Wait stages.Turning else Finish []) ≡ stages.Imaging port false → ⊥
more_quiet true port e = let clash : stages.Turning ≡ stages.Imaging port false = e in cc
more_quiet false port e = let clash : stages.Over ≡ stages.Imaging port false = e in cc

page_quiet : (task : Task) (file port : ℕ) → next_progress (page_whole task file) ≡ stages.Imaging port false → ⊥
page_quiet (tasks.Batch count) file port e = more_quiet (nat_lt file count) port e
page_quiet task file port e = let clash : stages.Over ≡ stages.Imaging port false = e in cc

joined_quiet : (task : Task) (file port : ℕ) (answer : Result Bool JoinFault) → next_progress (frame_joined task file answer) ≡ stages.Imaging port false → ⊥
joined_quiet task file port (Ok true) e = page_quiet task file port e
joined_quiet task file port (Ok false) e = let clash : stages.Starting false ≡ stages.Imaging port false = e in cc
joined_quiet task file port (Err fault) e = unjoined_quiet fault port e

status_quiet : (task : Task) (file port : ℕ) (past : JoinHistory) (status : Option Status) → next_progress (frame_ended_by task file past status).next ≡ stages.Imaging port false → ⊥
status_quiet task file port past None e = let clash : stages.Over ≡ stages.Imaging port false = e in cc
status_quiet task file port past (Some statuses.Eof) e = joined_quiet task file port _ e
status_quiet task file port past (Some status) e = let clash : stages.Over ≡ stages.Imaging port false = e in cc

abbrev ended_course : JobTarget → JobTrace → ℕ → List ℕ → List ℕ → JobTrace
ended_course target trace status stream said = record { text = trace.text; streams = trace.streams ++ stream ∷ []; pages = trace.pages; sent = trace.sent ++ said; protocol = protocol_after_frame target trace.protocol status }

-- a frame's end changes nothing of what was given
closed_given : (full : Bool) (past grown : JoinHistory) → grown.given ≡ past.given → (if full then grown else with_fault Short past).given ≡ past.given
closed_given true past grown e = e
closed_given false past grown e = refl

closed_gives : (fault : Option JoinFault) (under : Option Frame) (past : JoinHistory) → (after_end_at fault under past).given ≡ past.given
closed_gives (Some f) under past = refl
closed_gives None None past = refl
closed_gives None (Some f) past = closed_given (is_full f) past _ refl

end_gives : (past : JoinHistory) → (after_end past).given ≡ past.given
unfolding after_end
end_gives past = closed_gives past.fault past.under past

status_gives : (task : Task) (file : ℕ) (past : JoinHistory) (status : Option Status) → (frame_ended_by task file past status).history.given ≡ past.given
status_gives task file past None = refl
status_gives task file past (Some statuses.Eof) = end_gives past
status_gives task file past (Some status) = refl

fed_given : (long starved : Bool) (past grown : JoinHistory) → grown.given ≡ past.given → (if long then with_fault Long past else (if starved then with_fault NoMem past else grown)).given ≡ past.given
fed_given true starved past grown e = refl
fed_given false true past grown e = refl
fed_given false false past grown e = e

fed_with : (fault : Option JoinFault) (under : Option Frame) (bytes : List ℕ) (starved : Bool) (past : JoinHistory) → (after_feed_at fault under bytes starved past).given ≡ past.given
fed_with (Some f) under bytes starved past = refl
fed_with None None bytes starved past = refl
fed_with None (Some f) bytes starved past = fed_given (nat_lt (most_bytes f.params) (length f.payload + length bytes)) starved past _ refl

feed_gives : (bytes : List ℕ) (starved : Bool) (past : JoinHistory) → (after_feed bytes starved past).given ≡ past.given
unfolding after_feed
feed_gives bytes starved past = fed_with past.fault past.under bytes starved past

pub stage_ends : {R : Type 0} (left_of : R → Option (List ℕ)) (job : Job) (moves : List JobMove) (read_ wrote : List ℕ) (coming0 coming : Option (List (List ℕ))) (given : GivenFiles) (was now : R) (old new : ClientState) (piece : List ℕ)
    → is_running old.outcome ≡ true → Consumes (left_of was) (left_of now) piece
    → (s : RunInvariant left_of job moves read_ wrote old.out coming0 coming given (Some was) old) → ClientFollowsTrace left_of coming0 coming s.trace s.rest (Some was) old s.history → TakesFrameEnd old s.history piece new
    → RunInvariant left_of job moves read_ wrote new.out coming0 coming given None new
stage_ends left_of job moves read_ wrote coming0 coming given was now old new piece running consumed s f e =
    let l = f.linked in
    let bytes : List ℕ = e.reads.reads.given in
    let frame : Frame = record e.frame { payload = e.frame.payload ++ bytes } in
    let past : JoinHistory = with_payload s.history e.frame bytes in
    let protocol : ProtocolState = record (protocol_of old s.history) { history = past } in
    let more = read_more coming0 coming (left_of was) (left_of now) l.wholes l.whole l.bytes piece l.brought l.reads consumed in
    let stream : List ℕ = l.bytes ++ e.reads.used in
    let first : JobTrace = came_course s.trace e.frame bytes in
    let came = lives_came (target_of job) s.trace old s.history e.frame bytes f.protocol_is running e.under in
    let same : protocol ≡ first.protocol = ap (λ (t : ProtocolState). record t { history = with_payload t.history e.frame bytes }) f.protocol_is in
    let alike : protocol_after_frame old.target protocol e.status ≡ protocol_after_frame (target_of job) first.protocol e.status = ap (λ (x : JobTarget). protocol_after_frame x protocol e.status) s.target ∙ ap (λ (t : ProtocolState). protocol_after_frame (target_of job) t e.status) same in
    let sent : sent_after old.target protocol e.status ≡ sent_after (target_of job) first.protocol e.status = ap (λ (x : JobTarget). sent_after x protocol e.status) s.target ∙ ap (λ (t : ProtocolState). sent_after (target_of job) t e.status) same in
    let says = behind_some old.out new.out (sent_after old.target protocol e.status) e.ends.said in
    let trace : JobTrace = ended_course (target_of job) first e.status stream says.0 in
    let carries = two_steps phases.Head old.phase (phases.Ended e.status) l.bytes e.reads.used e.frame.payload bytes (carried_in s.history l.frame e.frame old.phase l.bytes l.under e.under l.carries) e.reads.reads.carries in
    let lives : EventLeads (target_of job) first (Finished e.status) trace
    = (frame, stream, says.0, ap (λ (t : ProtocolState). is_receiving t.outcome t.progress) (sym f.protocol_is) ∙ l.receives, refl, records_end stream frame.payload e.status carries, sym sent ∙ says.1, refl) in
    let did = did_say job first trace (Finished e.status) read_ wrote s.rest old.out says.0 lives refl refl (did_quiet job s.trace first (Came bytes) read_ wrote s.rest old.out came refl refl s.did) in
    record {
      target = ap (λ (v : ClientState). v.target) e.ends.rest ∙ s.target;
      history = (frame_end_at old.target protocol e.status).history;
      serves = e.ends.serves;
      given_is = status_gives old.target.task old.notes.file past (status_of e.status) ∙ s.given_is;
      trace = trace;
      pages_is = s.pages_is;
      rest = s.rest;
      did = did_leave job trace read_ wrote s.rest (old.out ++ says.0) new.out (sym says.2) did;
      asked = inl (asked_now (dialled_by moves) s.did.events s.trace.protocol old.outcome running s.asked);
      stands = inl (record {
        protocol_is = e.ends.protocol ∙ alike;
        rest_is = ap (λ (v : ClientState). v.input.rest) e.ends.rest ∙ f.rest_is;
        linked = record {
          wholes = l.wholes ++ more.0 ∷ [];
          begin = begin_more l.wholes s.trace.streams more.0 stream l.begin
              (front_of coming0 (left_of now) more.0 (l.bytes ++ piece) stream e.reads.rest (ap (λ (x : List ℕ). l.bytes ++ x) e.reads.whole ∙ sym (append_assoc l.bytes e.reads.used e.reads.rest)) more.2);
          brought = more.1;
          empty = λ port at. absurd (status_quiet old.target.task old.notes.file port past (status_of e.status) (sym (ap (λ (t : ProtocolState). t.progress) e.ends.protocol) ∙ at));
        };
      });
    }

-- ---- more bytes of a frame than it was to have, or no memory for them

unjoined_over : (task : Task) (notes : Notes) (fault : JoinFault) → is_running (next_outcome task notes (stop_unjoined fault)) ≡ false
unjoined_over task notes Shape = refl
unjoined_over task notes Long = refl
unjoined_over task notes Short = refl
unjoined_over task notes NoMem = refl

-- bytes that the join refuses are more than the frame was to have, or there is no memory for them
refused_as : (long starved : Bool) (past grown : JoinHistory) (fault : JoinFault) → grown.fault ≡ None → (if long then with_fault Long past else (if starved then with_fault NoMem past else grown)).fault ≡ Some fault
    → ((long ≡ true) × (fault ≡ Long)) ⊎ (fault ≡ NoMem)
refused_as true starved past grown fault clear e = inl (refl, (let same : Some Long ≡ Some fault = e in cc))
refused_as false true past grown fault clear e = inr (let same : Some NoMem ≡ Some fault = e in cc)
refused_as false false past grown fault clear e = absurd (let clash : None ≡ Some fault = sym clear ∙ e in cc)

refused_by : (past : JoinHistory) (standing : Option JoinFault) (frame : Frame) (bytes : List ℕ) (starved : Bool) (fault : JoinFault) → standing ≡ None → past.fault ≡ None
    → (after_feed_at standing (Some frame) bytes starved past).fault ≡ Some fault
    → ((most_bytes frame.params < length frame.payload + length bytes) × (fault ≡ Long)) ⊎ (fault ≡ NoMem)
refused_by past (Some f) frame bytes starved fault none clear e = absurd (let clash : Some f ≡ None = none in cc)
refused_by past None frame bytes starved fault none clear e =
    elim (refused_as (nat_lt (most_bytes frame.params) (length frame.payload + length bytes)) starved past (record past { under = Some (record frame { payload = frame.payload ++ bytes }) }) fault clear e) [
      | inl w ↦ inl (ltb-true (most_bytes frame.params) (length frame.payload + length bytes) w.0, w.1)
      | inr w ↦ inr w
    ]

counted : (a b c : List ℕ) → length (a ++ b) + length c ≡ length a + length (b ++ c)
counted a b c =
    let e : length (a ++ b) ≡ length a + length b = length-append a b in
    let f : length (b ++ c) ≡ length b + length c = length-append b c in
    omega arith

refused : (past : JoinHistory) (frame : Frame) (before last : List ℕ) (starved : Bool) (fault : JoinFault) → past.fault ≡ None → (after_feed last starved (with_payload past frame before)).fault ≡ Some fault
    → ((most_bytes frame.params < length frame.payload + length (before ++ last)) × (fault ≡ Long)) ⊎ (fault ≡ NoMem)
unfolding after_feed
refused past frame before last starved fault clear e =
    elim (refused_by (with_payload past frame before) past.fault (record frame { payload = frame.payload ++ before }) last starved fault clear clear e) [
      | inl w ↦ inl (subst (λ (n : ℕ). most_bytes frame.params < n) (counted frame.payload before last) w.0, w.1)
      | inr w ↦ inr w
    ]

ends_by : (moves : List JobMove) (protocol : ProtocolState) (rest : List ℕ) (outcome : Outcome) (task : Task) (notes : Notes) (frame : Frame) (bytes : List ℕ) (fault : JoinFault) → protocol.history.under ≡ Some frame → outcome ≡ next_outcome task notes (stop_unjoined fault)
    → ((most_bytes frame.params < length frame.payload + length bytes) × (fault ≡ Long)) ⊎ (fault ≡ NoMem) → EndsBy moves protocol rest outcome
ends_by moves protocol rest outcome task notes frame bytes fault under ends (inl w) = ByLength frame bytes under w.0 (ends ∙ ap (λ (f : JoinFault). next_outcome task notes (stop_unjoined f)) w.1)
ends_by moves protocol rest outcome task notes frame bytes fault under ends (inr w) = ByMemory (ends ∙ ap (λ (f : JoinFault). next_outcome task notes (stop_unjoined f)) w)

pub stage_fails : {R : Type 0} (left_of : R → Option (List ℕ)) (job : Job) (moves : List JobMove) (read_ wrote : List ℕ) (coming0 coming : Option (List (List ℕ))) (given : GivenFiles) (was : R) (old new : ClientState) (piece : List ℕ)
    → is_running old.outcome ≡ true
    → (s : RunInvariant left_of job moves read_ wrote old.out coming0 coming given (Some was) old) → ClientFollowsTrace left_of coming0 coming s.trace s.rest (Some was) old s.history → FailsAtBytes old s.history piece new
    → RunInvariant left_of job moves read_ wrote new.out coming0 coming given None new
stage_fails left_of job moves read_ wrote coming0 coming given was old new piece running s f e = record {
  target = ap (λ (v : ClientState). v.target) e.rest ∙ s.target;
  history = after_feed e.reads.last e.reads.starved (with_payload s.history e.frame e.reads.before);
  serves = e.serves;
  given_is = feed_gives e.reads.last e.reads.starved (with_payload s.history e.frame e.reads.before) ∙ s.given_is;
  trace = s.trace;
  pages_is = s.pages_is;
  rest = s.rest;
  did = did_leave job s.trace read_ wrote s.rest old.out new.out (sym (ap (λ (v : ClientState). v.out) e.rest)) s.did;
  asked = inl (asked_now (dialled_by moves) s.did.events s.trace.protocol old.outcome running s.asked);
  stands = inr (falls left_of moves coming0 coming s.trace s.rest s.rest (Some was) old new s.history f running
      (ends_by moves s.trace.protocol s.rest new.outcome old.target.task old.notes e.frame (e.reads.before ++ e.reads.last) e.fault (ap (λ (t : ProtocolState). t.history.under) (sym f.protocol_is) ∙ e.under) (ap (λ (v : ClientState). v.outcome) e.rest)
      (refused s.history e.frame e.reads.before e.reads.last e.reads.starved e.fault (calm_at old.progress s.history (fits_at s.history old running s.serves).1) e.reads.fails))
      (ap (λ (v : ClientState). is_running v.outcome) e.rest ∙ unjoined_over old.target.task old.notes e.fault));
}

-- ---- a piece of the data connection

pub receiving_runs : (outcome : Outcome) (progress : Progress) → is_receiving outcome progress ≡ true → is_running outcome ≡ true
receiving_runs Running progress e = refl
receiving_runs (Done reports) (stages.Imaging port opened) e = absurd (let clash : false ≡ true = e in cc)
receiving_runs (Done reports) progress e = absurd (let clash : false ≡ true = e in cc)
receiving_runs (Ended status why) (stages.Imaging port opened) e = absurd (let clash : false ≡ true = e in cc)
receiving_runs (Ended status why) progress e = absurd (let clash : false ≡ true = e in cc)

ends_shut : (old new : ClientState) (past : JoinHistory) (status : ℕ) → TakesEndRecord old past status new → is_receiving new.outcome new.progress ≡ false
ends_shut old new past status e = ap (λ (t : ProtocolState). is_receiving new.outcome t.progress) e.protocol ∙ status_shut old.target.task old.notes.file past (status_of status) new.outcome

pub stage_received : {R : Type 0} (left_of : R → Option (List ℕ)) (job : Job) (moves : List JobMove) (read_ wrote : List ℕ) (coming0 coming : Option (List (List ℕ))) (given : GivenFiles) (was now : R) (old new : ClientState) (piece : List ℕ)
    → is_running old.outcome ≡ true → Consumes (left_of was) (left_of now) piece → is_receiving new.outcome new.progress ≡ true
    → (s : RunInvariant left_of job moves read_ wrote old.out coming0 coming given (Some was) old) → Receives old s.history piece new
    → RunInvariant left_of job moves read_ wrote new.out coming0 coming given (Some now) new
stage_received left_of job moves read_ wrote coming0 coming given was now old new piece running consumed still s (inl g) =
    stage_goes left_of job moves read_ wrote coming0 coming given was now old new piece running consumed s (following left_of moves coming0 coming s.trace s.rest (Some was) old s.history running s.stands) g
stage_received left_of job moves read_ wrote coming0 coming given was now old new piece running consumed still s (inr (inl e)) =
    absurd (let clash : true ≡ false = sym still ∙ ends_shut _ new _ e.status e.ends in cc)
stage_received left_of job moves read_ wrote coming0 coming given was now old new piece running consumed still s (inr (inr e)) =
    absurd (let clash : true ≡ false = sym still ∙ ap (λ (v : ClientState). is_receiving v.outcome v.progress) e.rest in cc)

pub stage_let_go : {R : Type 0} (left_of : R → Option (List ℕ)) (job : Job) (moves : List JobMove) (read_ wrote : List ℕ) (coming0 coming : Option (List (List ℕ))) (given : GivenFiles) (was now : R) (old new : ClientState) (piece : List ℕ)
    → is_receiving old.outcome old.progress ≡ true → Consumes (left_of was) (left_of now) piece → is_receiving new.outcome new.progress ≡ false
    → (s : RunInvariant left_of job moves read_ wrote old.out coming0 coming given (Some was) old) → Receives old s.history piece new
    → RunInvariant left_of job moves read_ wrote new.out coming0 coming given None new
stage_let_go left_of job moves read_ wrote coming0 coming given was now old new piece receives consumed still s (inl g) =
    absurd (let clash : true ≡ false = sym receives ∙ sym (ap (λ (v : ClientState). is_receiving v.outcome v.progress) g.rest) ∙ still in cc)
stage_let_go left_of job moves read_ wrote coming0 coming given was now old new piece receives consumed still s (inr (inl e)) =
    let running = receiving_runs old.outcome old.progress receives in
    stage_ends left_of job moves read_ wrote coming0 coming given was now old new piece running consumed s (following left_of moves coming0 coming s.trace s.rest (Some was) old s.history running s.stands) e
stage_let_go left_of job moves read_ wrote coming0 coming given was now old new piece receives consumed still s (inr (inr e)) =
    let running = receiving_runs old.outcome old.progress receives in
    stage_fails left_of job moves read_ wrote coming0 coming given was old new piece running s (following left_of moves coming0 coming s.trace s.rest (Some was) old s.history running s.stands) e

-- ---- the data connection is lost

pub lost_image : (outcome : Outcome) (progress : Progress) → is_receiving outcome progress ≡ true → is_lost_by links.Image outcome progress ≡ true
lost_image outcome (stages.Imaging port true) e = e
lost_image outcome (stages.Imaging port false) e = absurd (let clash : false ≡ true = sym (shut (is_running outcome)) ∙ e in cc)
lost_image outcome progress e = absurd (let clash : false ≡ true = e in cc)

-- while its connection is not made
pub lost_wanted : (outcome : Outcome) (progress : Progress) (port : ℕ) → is_running outcome ≡ true → wanted_port progress ≡ Some port → is_lost_by links.Image outcome progress ≡ true
lost_wanted outcome (stages.Imaging other opened) port running e = ap (λ (b : Bool). b && true) running
lost_wanted outcome progress port running e = absurd (let clash : None ≡ Some port = e in cc)

pub stage_missed : {R : Type 0} (left_of : R → Option (List ℕ)) (job : Job) (moves : List JobMove) (read_ wrote left : List ℕ) (coming0 coming : Option (List (List ℕ))) (given : GivenFiles) (stream after_ : Option R) (old new : ClientState) (port : ℕ) → is_running old.outcome ≡ true
    → wanted_port old.progress ≡ Some port → new ≡ after_loss links.Image old
    → (s : RunInvariant left_of job moves read_ wrote left coming0 coming given stream old) → (t : RunInvariant left_of job (Dials port false ∷ moves) read_ wrote left coming0 coming given after_ new) × (t.history ≡ s.history)
stage_missed left_of job moves read_ wrote left coming0 coming given stream after_ old new port running wants lost s =
    let new_is : new ≡ after_client_end statuses.IoError whys.Lost old = lost ∙ ap (λ (b : Bool). if b then after_client_end statuses.IoError whys.Lost old else old) (lost_wanted old.outcome old.progress port running wants) in
    let f = following left_of moves coming0 coming s.trace s.rest stream old s.history running s.stands in
    let asked : AsksPorts (port ∷ dialled_by moves) s.did.events s.trace.protocol new.outcome = inr (
      port,
      ap (λ (t : ProtocolState). wanted_port t.progress) (sym f.protocol_is) ∙ wants,
      ap (λ (t : ProtocolState). is_running t.outcome) (sym f.protocol_is) ∙ running,
      ap (λ (v : ClientState). is_running v.outcome) new_is,
      ap (λ (l : List ℕ). port ∷ l) (asked_now (dialled_by moves) s.did.events s.trace.protocol old.outcome running s.asked),
    ) in
    lost_from left_of job moves (Dials port false ∷ moves) read_ wrote left coming0 coming given stream after_ old new running new_is tt s asked
