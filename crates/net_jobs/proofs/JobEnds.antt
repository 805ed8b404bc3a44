-- How a job over streams is over.
use Rattle.std.proofs.Common.{◌≡◌, ◌≢◌, ◌∙◌, ◌⊎◌, ◌<◌, ℕ, Bool, true, false, Option, Some, None, Ok, Err, Result, List, [], ◌∷◌, ◌++◌, length, take, drop, refl, sym, ap, subst, inl, inr}
use Rattle.std.specs.Prelude.{if◌then◌else◌, IfOk, IfErr}
use Rattle.std.specs.Result.{is_ok}
use Rattle.std.proofs.lemmas.List.{take-append-drop}
use Rattle.sane_fixed.specs.declared.status.Status.{Status}
use Rattle.sane_fixed.specs.declared.status.Status.TheVariants as statuses
use Rattle.netpbm.specs.Picture.{Picture}
use Rattle.frame_join.specs.declared.join_stage.JoinFault.TheVariants.{Short}
use Rattle.frame_join.specs.FrameHistory.{JoinHistory, IsJoined, after_pull}
use Rattle.page_picture.specs.Shows.{ShowsFrames}
use Rattle.frame_join.specs.JoinStates.{JoinState, Represents}
use Rattle.scan_job.specs.declared.job.Job.{Job}
use Rattle.scan_job.specs.Outcomes.{IfEnded}
use Rattle.scan_job.specs.declared.job.Task.{Task}
use Rattle.scan_job.specs.declared.outcome.Outcome.{Outcome}
use Rattle.scan_job.specs.declared.outcome.Outcome.TheVariants.{Running, Done, Ended}
use Rattle.scan_job.specs.declared.outcome.Why.TheVariants as whys
use Rattle.scan_job.specs.declared.report.Reports.{Reports}
use Rattle.client_replies.specs.declared.progress.JobTarget.{JobTarget}
use Rattle.client_replies.specs.declared.progress.Progress.{Progress}
use Rattle.client_replies.specs.declared.progress.Progress.TheVariants as stages
use Rattle.client_replies.specs.declared.progress.Notes.{Notes}
use Rattle.scan_job.specs.declared.stop.Stop.{Stop}
use Rattle.client_replies.proofs.Fitting.{may_end}
use Rattle.client_replies.specs.ReplyTurns.{frame_ended_by}
use Rattle.sane_fixed.specs.Status.{status_of}
use Rattle.client_replies.specs.ProtocolStates.{ProtocolState, target_of, is_running, is_ended, is_batch, turns, next_outcome, HistoryFits, FitsEnded}
use Rattle.net_client.specs.ClientStates.{ClientState, ClientRepresents, IsNewClient, after_client_end}
use Rattle.net_jobs.specs.JobTraces.{TraceEvent, Replied, Opened, Came, Finished, Gave, Turned, JobTrace, BytesMatchTrace, EventsLead, EndWell}
use Rattle.net_jobs.specs.JobJournal.{PortsAreTold, JobMove, MovesLead, WritesShort, Writes, Fails, bytes_written_by, heard_by, dialled_by, has_write_failed}
use Rattle.net_jobs.specs.Inside.{CallNotes, TakesLeave, StopsAs, Silent, Whole, Short}
use Rattle.net_jobs.specs.Links.{JobLinks, LinkViews, views_of, Calls, Called, HasBrought, BeginWith}
use Rattle.net_jobs.proofs.InvariantRecords.{LinkMatchesTrace, ClientFollowsTrace, Falls, GivenFiles, RunInvariant, AsksPorts, more_given}
use Rattle.net_jobs.specs.RunPromises.{SeenStreams, EndsBy, ByLoss, ByMemory, ByGarble, ByLength, HasEndingCause, RanWithTrace}
use Rattle.net_jobs.proofs.Tracing.{did_quiet}
use Rattle.net_jobs.proofs.KeepingInvariant.{lets_go}
use Rattle.net_jobs.proofs.Turning.{some_left}
use Rattle.net_jobs.proofs.Asking.{asked_for}
use Rattle.net_jobs.proofs.DataLoop.{receiving_runs}
use Rattle.net_jobs.proofs.Refusing.{course_refuses}

-- ---- each frame of a job that has not ended otherwise ended with EOF

pub runs_on : (o : Outcome) → is_running o ≡ true → is_ended o ≡ false
runs_on Running e = refl
runs_on (Done reports) e = refl
runs_on (Ended status why) e = absurd (let clash : false ≡ true = e in cc)

eof_only : (task : Task) (notes : Notes) (file : ℕ) (past : JoinHistory) (status : Option Status) → is_ended (next_outcome task notes (frame_ended_by task file past status).next) ≡ false → status ≡ Some statuses.Eof
eof_only task notes file past None e = absurd (let clash : true ≡ false = e in cc)
eof_only task notes file past (Some statuses.Eof) e = refl
eof_only task notes file past (Some status) e = absurd (let clash : true ≡ false = e in cc)

pub turning_runs : (o : Outcome) (progress : Progress) → turns o progress ≡ true → is_ended o ≡ false
turning_runs Running progress e = refl
turning_runs (Done reports) progress e = refl
turning_runs (Ended status why) progress e = absurd (let clash : false ≡ true = e in cc)

pub ends_well : (target : JobTarget) (first : JobTrace) (events : List TraceEvent) (trace : JobTrace) → EventsLead target first events trace → is_ended trace.protocol.outcome ≡ false → EndWell events
ends_well target first [] trace r e = tt
ends_well target first (Replied x ∷ before) trace r e = ends_well target first before r.0 r.1 (runs_on r.0.protocol.outcome r.2.2)
ends_well target first (Opened port ∷ before) trace r e = ends_well target first before r.0 r.1 (runs_on r.0.protocol.outcome r.2.0)
ends_well target first (Came bytes ∷ before) trace r e = ends_well target first before r.0 r.1 (runs_on r.0.protocol.outcome r.2.1)
ends_well target first (Finished status ∷ before) trace r e = (
  eof_only target.task r.0.protocol.notes r.0.protocol.notes.file r.0.protocol.history (status_of status) (ap (λ (c : JobTrace). is_ended c.protocol.outcome) (sym r.2.7) ∙ e),
  ends_well target first before r.0 r.1 (runs_on r.0.protocol.outcome (receiving_runs r.0.protocol.outcome r.0.protocol.progress r.2.3)),
)
ends_well target first (Turned bytes ∷ before) trace r e = ends_well target first before r.0 r.1 (turning_runs r.0.protocol.outcome r.0.protocol.progress r.2.1)
ends_well target first (Gave bytes ∷ before) trace r e = ends_well target first before r.0 r.1 (ap (λ (c : JobTrace). is_ended c.protocol.outcome) (sym r.2) ∙ e)

-- ---- what was drained

abbrev gave_course : JobTrace → List ℕ → JobTrace
gave_course trace bytes = record trace { protocol = record trace.protocol { history = after_pull bytes trace.protocol.history } }

pub gave_linked : {R : Type 0} (left_of : R → Option (List ℕ)) (coming0 coming : Option (List (List ℕ))) (streams : List (List ℕ)) (stream : Option R) (c : ClientState) (join : JoinState) (past : JoinHistory) (bytes : List ℕ)
    → LinkMatchesTrace left_of coming0 coming streams stream c past → LinkMatchesTrace left_of coming0 coming streams stream (record c { join = join }) (after_pull bytes past)
gave_linked left_of coming0 coming streams None c join past bytes l = record { wholes = l.wholes; begin = l.begin; brought = l.brought; empty = l.empty }
gave_linked left_of coming0 coming streams (Some conn) c join past bytes l = record {
  wholes = l.wholes;
  begin = l.begin;
  whole = l.whole;
  brought = l.brought;
  bytes = l.bytes;
  reads = l.reads;
  frame = l.frame;
  under = l.under;
  carries = l.carries;
  receives = l.receives;
}

pub stage_gave_by : {R : Type 0} (left_of : R → Option (List ℕ)) (job : Job) (moves : List JobMove) (read_ wrote left : List ℕ) (coming0 coming : Option (List (List ℕ))) (given : GivenFiles) (bytes : List ℕ) (stream : Option R) (c : ClientState) (join : JoinState)
    → c.target ≡ target_of job → (past : JoinHistory) → past.given ≡ given.bytes → ClientRepresents (after_pull bytes past) (record c { join = join }) → (trace : JobTrace) (rest : List ℕ) → trace.pages ≡ given.pages → (did : BytesMatchTrace job trace (record { read_ = read_; wrote = wrote; rest = rest; left = left })) → AsksPorts (dialled_by moves) did.events trace.protocol c.outcome
    → ClientFollowsTrace left_of coming0 coming trace rest stream c past ⊎ Falls moves coming0 coming trace rest c
    → (s : RunInvariant left_of job moves read_ wrote left coming0 coming (more_given given bytes) stream (record c { join = join })) × (s.history ≡ after_pull bytes past)
stage_gave_by left_of job moves read_ wrote left coming0 coming given bytes stream c join target past given_is serves trace rest pages_is did asked (inl f) = (
  record {
    target = target;
    history = after_pull bytes past;
    serves = serves;
    given_is = ap (λ (l : List ℕ). l ++ bytes) given_is;
    trace = gave_course trace bytes;
    pages_is = pages_is;
    rest = rest;
    did = did_quiet job trace (gave_course trace bytes) (Gave bytes) read_ wrote rest left refl refl refl did;
    asked = asked;
    stands = inl (record {
      protocol_is = ap (λ (t : ProtocolState). record t { history = after_pull bytes t.history }) f.protocol_is;
      rest_is = f.rest_is;
      linked = gave_linked left_of coming0 coming trace.streams stream c join past bytes f.linked;
    });
  },
  refl,
)
stage_gave_by left_of job moves read_ wrote left coming0 coming given bytes stream c join target past given_is serves trace rest pages_is did asked (inr f) = (
  record {
    target = target;
    history = after_pull bytes past;
    serves = serves;
    given_is = ap (λ (l : List ℕ). l ++ bytes) given_is;
    trace = trace;
    pages_is = pages_is;
    rest = rest;
    did = did;
    asked = asked;
    stands = inr (record {
      cause = f.cause;
      is_over = f.is_over;
      was_running = f.was_running;
      wholes = f.wholes;
      unread = f.unread;
      begin = f.begin;
      brought = f.brought;
      few = f.few;
    });
  },
  refl,
)

-- ---- only a batch turns a page

pub turning_batch : (task : Task) (outcome : Outcome) (progress : Progress) (past : JoinHistory) → turns outcome progress ≡ true → HistoryFits task outcome progress past → is_batch task ≡ true
turning_batch task Running stages.Turning past e f = f.0
turning_batch task Running progress past e f = absurd (let clash : false ≡ true = e in cc)
turning_batch task (Done reports) progress past e f = absurd (let clash : false ≡ true = e in cc)
turning_batch task (Ended status why) progress past e f = absurd (let clash : false ≡ true = e in cc)

-- ---- the end

-- how leave was taken of the daemon, by its links
pub data Leaves {L : Type 0} (views : LinkViews L) (was : L) (before : CallNotes) (out : List ℕ) (now : L) (behind : CallNotes) : Type 0 where
  PartedBefore : before.write_failed ≡ true → now ≡ was → behind ≡ before → Leaves views was before out now behind
  PartsWhole : before.write_failed ≡ false → Called views was (Writes out) now → behind ≡ before → Leaves views was before out now behind
  PartsShort : before.write_failed ≡ false → (n : ℕ) → n < length out → Called views was (Fails (take n out)) now → behind ≡ record before { write_failed = true } → Leaves views was before out now behind

pub leaves_links : {C D : Type 0} (remaining contents : C → Option (List ℕ)) (ports prepared : D → Option (List ℕ)) (was now : C) (dial : D) (before behind : CallNotes) (out : List ℕ) → TakesLeave contents was before out now behind
    → Leaves (views_of remaining contents ports prepared) (record { control = was; dial = dial }) before out (record { control = now; dial = dial }) behind
leaves_links {C} {D} remaining contents ports prepared was now dial before behind out (Silent failed same notes) = PartedBefore failed (ap (λ (c : C). let l : JobLinks C D = record { control = c; dial = dial } in l) same) notes
leaves_links remaining contents ports prepared was now dial before behind out (Whole up took notes) = PartsWhole up (took, refl) notes
leaves_links remaining contents ports prepared was now dial before behind out (Short up n short took notes) = PartsShort up n short (took, refl) notes

-- a write that fails changes nothing of how a job that is over has ended
pub falls_short : (c : ClientState) (n : ℕ) → is_running c.outcome ≡ false → n < length c.out → WritesShort c (take n c.out) (record c { out = drop n c.out })
falls_short c n over short =
    let new : ClientState = record c { out = drop n c.out } in
    record {
      rest = drop n c.out;
      front = sym (take-append-drop n c.out);
      short = some_left n c.out short;
      new_is = ap (λ (b : Bool). if b then after_client_end statuses.IoError whys.Lost new else new) (sym over);
    }

pub stops_over : (outcome : Outcome) (stop : Stop) → StopsAs outcome stop → is_running outcome ≡ false
stops_over Running stop ends = absurd ends
stops_over (Done reports) stop ends = refl
stops_over (Ended status why) stop ends = refl

-- ---- what such a job promises

-- only what ends a job otherwise falls out of its trace
not_done : (moves : List JobMove) (protocol : ProtocolState) (rest : List ℕ) (outcome : Outcome) (reports : Reports) → outcome ≡ Done reports → EndsBy moves protocol rest outcome → ⊥
not_done moves protocol rest outcome reports e (ByLoss loss x) = let clash : Done reports ≡ Ended statuses.IoError whys.Lost = sym e ∙ x in cc
not_done moves protocol rest outcome reports e (ByMemory x) = let clash : Done reports ≡ Ended statuses.NoMem whys.Memory = sym e ∙ x in cc
not_done moves protocol rest outcome reports e (ByGarble procedure awaits no_start x) = let clash : Done reports ≡ Ended statuses.IoError whys.Malformed = sym e ∙ x in cc
not_done moves protocol rest outcome reports e (ByLength frame bytes under long x) = let clash : Done reports ≡ Ended statuses.IoError whys.Long = sym e ∙ x in cc

pub followed : {R : Type 0} (left_of : R → Option (List ℕ)) (moves : List JobMove) (coming0 coming : Option (List (List ℕ))) (trace : JobTrace) (rest : List ℕ) (stream : Option R) (c : ClientState) (past : JoinHistory) (reports : Reports) → c.outcome ≡ Done reports
    → ClientFollowsTrace left_of coming0 coming trace rest stream c past ⊎ Falls moves coming0 coming trace rest c → ClientFollowsTrace left_of coming0 coming trace rest stream c past
followed left_of moves coming0 coming trace rest stream c past reports e (inl f) = f
followed left_of moves coming0 coming trace rest stream c past reports e (inr f) = absurd (not_done moves trace.protocol rest c.outcome reports e f.cause)

-- no connection is open behind a job's end
pub record Unopened (coming0 coming : Option (List (List ℕ))) (streams : List (List ℕ)) : Type 0 where
  pub wholes : List (List ℕ)
  pub begin : BeginWith wholes streams
  pub brought : HasBrought coming0 coming wholes

pub unopened : {R : Type 0} (left_of : R → Option (List ℕ)) (coming0 coming : Option (List (List ℕ))) (streams : List (List ℕ)) (stream : Option R) (c : ClientState) (past : JoinHistory) → is_running c.outcome ≡ false
    → LinkMatchesTrace left_of coming0 coming streams stream c past → Unopened coming0 coming streams
unopened left_of coming0 coming streams None c past over l = record { wholes = l.wholes; begin = l.begin; brought = l.brought }
unopened left_of coming0 coming streams (Some conn) c past over l = absurd (let clash : true ≡ false = sym (receiving_runs c.outcome c.progress l.receives) ∙ over in cc)

pub task_is : (c : ClientState) (job : Job) → c.target ≡ target_of job → c.target.task ≡ job.task
task_is c job e = ap (λ (x : JobTarget). x.task) e

-- what a job did, whether it follows its trace or not
pub record RanBy {L O : Type 0} (views : LinkViews L) (job : Job) (was now : SeenStreams L O) (outcome : Outcome) (given : GivenFiles) (moves : List JobMove) (left : List ℕ) (fresh last : ClientState) : Type 0 where
  pub ran : RanWithTrace views job was now
  pub cause : (ran.trace.protocol.outcome ≡ outcome) ⊎ EndsBy ran.moves ran.trace.protocol ran.rest outcome
  pub pages_is : ran.trace.pages ≡ given.pages
  pub moves_is : ran.moves ≡ moves
  pub left_is : ran.left ≡ left
  pub first_is : ran.first ≡ fresh
  pub last_is : ran.last ≡ last

pub ran_by : {L O R : Type 0} (views : LinkViews L) (left_of : R → Option (List ℕ)) (job : Job) (was now : SeenStreams L O) (stream : Option R) (c : ClientState) (given : GivenFiles) (moves : List JobMove) (left : List ℕ) (fresh last : ClientState)
    → IsNewClient job fresh → MovesLead fresh moves last → PortsAreTold moves → Calls views was.links moves now.links → (s : RunInvariant left_of job moves (heard_by moves) (bytes_written_by moves) left was.coming now.coming given stream c)
    → (stands : ClientFollowsTrace left_of was.coming now.coming s.trace s.rest stream c s.history ⊎ Falls moves was.coming now.coming s.trace s.rest c)
    → RanBy views job was now c.outcome given moves left fresh last
ran_by views left_of job was now stream c given moves left fresh last is_fresh leads told calls s (inl f) =
    let l = lets_go left_of was.coming now.coming s.trace.streams stream c s.history f.linked in
    record {
      ran = record {
        moves = moves;
        first = fresh;
        last = last;
        fresh = is_fresh;
        leads = leads;
        told = told;
        rest = s.rest;
        left = left;
        trace = s.trace;
        calls = calls;
        did = s.did;
        asked = asked_for job s.did.events s.trace (dialled_by moves) c.outcome s.did.runs s.asked;
        wholes = l.wholes;
        unread = l.unread;
        begin = l.begin;
        brought = l.brought;
        few = l.few;
      };
      cause = inl (ap (λ (t : ProtocolState). t.outcome) (sym f.protocol_is));
      pages_is = s.pages_is;
      moves_is = refl;
      left_is = refl;
      first_is = refl;
      last_is = refl;
    }
ran_by views left_of job was now stream c given moves left fresh last is_fresh leads told calls s (inr f) = record {
  ran = record {
    moves = moves;
    first = fresh;
    last = last;
    fresh = is_fresh;
    leads = leads;
    told = told;
    rest = s.rest;
    left = left;
    trace = s.trace;
    calls = calls;
    did = s.did;
    asked = asked_for job s.did.events s.trace (dialled_by moves) c.outcome s.did.runs s.asked;
    wholes = f.wholes;
    unread = f.unread;
    begin = f.begin;
    brought = f.brought;
    few = f.few;
  };
  cause = inr f.cause;
  pages_is = s.pages_is;
  moves_is = refl;
  left_is = refl;
  first_is = refl;
  last_is = refl;
}

pub cause_of : (moves : List JobMove) (protocol : ProtocolState) (rest : List ℕ) (outcome told : Outcome) → outcome ≡ told → (protocol.outcome ≡ outcome) ⊎ EndsBy moves protocol rest outcome → HasEndingCause moves protocol rest told
cause_of moves protocol rest outcome told e (inl x) = inl (x ∙ e)
cause_of moves protocol rest outcome told e (inr x) = inr (inl (subst (λ (o : Outcome). EndsBy moves protocol rest o) e x))

-- a job that has ended otherwise has another status than GOOD
abbrev pub HasRefusal : Outcome → Type 0
HasRefusal outcome = IfEnded outcome (λ status why. status ≢ statuses.Good)

cut_refuses : (moves : List JobMove) (protocol : ProtocolState) (rest : List ℕ) (outcome : Outcome) → EndsBy moves protocol rest outcome → HasRefusal outcome
cut_refuses moves protocol rest outcome (ByLoss loss x) = subst HasRefusal (sym x) (λ e. cc)
cut_refuses moves protocol rest outcome (ByMemory x) = subst HasRefusal (sym x) (λ e. cc)
cut_refuses moves protocol rest outcome (ByGarble procedure awaits no_start x) = subst HasRefusal (sym x) (λ e. cc)
cut_refuses moves protocol rest outcome (ByLength frame bytes under long x) = subst HasRefusal (sym x) (λ e. cc)

-- however a job has ended otherwise, it has another status than GOOD
pub ran_refuses : (job : Job) (moves : List JobMove) (trace : JobTrace) (read_ wrote rest left : List ℕ) (outcome : Outcome) → BytesMatchTrace job trace (record { read_ = read_; wrote = wrote; rest = rest; left = left }) → (trace.protocol.outcome ≡ outcome) ⊎ EndsBy moves trace.protocol rest outcome → HasRefusal outcome
ran_refuses job moves trace read_ wrote rest left outcome did (inl e) = subst HasRefusal e (course_refuses job did.events trace did.runs)
ran_refuses job moves trace read_ wrote rest left outcome did (inr by) = cut_refuses moves trace.protocol rest outcome by

-- a picture that is whole is shown by its frames
abbrev pub WholeShows : Type 0
WholeShows = (past : JoinHistory) (join : JoinState) → Represents past join → IsJoined past → (p : Picture) × ShowsFrames past.ended p

-- what is written to its end is so where no write failed
pub all_written : (moves more : List JobMove) (left rest : List ℕ) → more ≡ moves → rest ≡ left → (has_write_failed moves ≡ false → left ≡ []) → has_write_failed more ≡ false → rest ≡ []
all_written moves more left rest same left_is all up = left_is ∙ all (ap has_write_failed (sym same) ∙ up)

-- ---- a job whose last bytes are not given

pub running_ends : (outcome : Outcome) (task : Task) (progress : Progress) (past : JoinHistory) → is_running outcome ≡ true → HistoryFits task outcome progress past → FitsEnded task past
running_ends Running task progress past e f = may_end task progress past f.0 f.1
running_ends (Done reports) task progress past e f = absurd (let clash : false ≡ true = e in cc)
running_ends (Ended status why) task progress past e f = absurd (let clash : false ≡ true = e in cc)

-- what is told is of a job that is done
pub done_told : {T E : Type 0} (outcome : Outcome) (r : Result T E) (Told : Reports → T → Type 0) → is_ok r ≡ true → IfOk r (λ t. (reports : Reports) × (outcome ≡ Done reports) × Told reports t) → (reports : Reports) × (outcome ≡ Done reports)
done_told outcome (Ok t) Told is told = (told.0, told.1)
done_told outcome (Err e) Told is told = absurd (let clash : false ≡ true = is in cc)

pub err_of : {T E : Type 0} (r : Result T E) (stop : E) (P : E → Type 0) → r ≡ Err stop → IfErr r P → P stop
err_of r stop P e is = subst (λ x. IfErr x P) e is
