-- Between two turns of a job: how far it is, and what of its files is where they go.
use Rattle.std.proofs.Common.{◌≡◌, ◌∙◌, ◌⊎◌, ◌+◌, ℕ, Bool, true, false, Option, Some, None, Ok, List, [], ◌∷◌, ◌++◌, length, take, drop, refl, sym, ap, subst, append_assoc, inl, inr}
use Rattle.std.specs.Prelude.{All}
use Rattle.std.proofs.lemmas.List.{append-nil, take-append-drop}
use Rattle.std.proofs.lemmas.List.Elements.{All-append, All-nil, All-from_recursion}
use Rattle.netpbm.specs.Picture.{Picture}
use Rattle.netpbm.specs.Pnm.{IsWhole}
use Rattle.netpbm.specs.NoFile.{HoldsNoFile}
use Rattle.frame_join.proofs.GivenKept.{NoneBefore}
use Rattle.page_picture.specs.Shows.{ShowsFrames}
use Rattle.frame_join.specs.FrameHistory.{JoinHistory, IsJoined, empty_history, after_pull}
use Rattle.frame_join.specs.JoinStates.{JoinState, Represents}
use Rattle.scan_job.specs.JobSize.{HasCount}
use Rattle.scan_job.specs.Shelves.{ReturnedOutput}
use Rattle.scan_job.specs.declared.job.Job.{Job}
use Rattle.scan_job.specs.declared.job.Task.{Task}
use Rattle.scan_job.specs.declared.job.Task.TheVariants as tasks
use Rattle.scan_job.specs.declared.outcome.Outcome.{Outcome}
use Rattle.scan_job.specs.declared.outcome.Outcome.TheVariants.{Running, Done, Ended}
use Rattle.client_replies.specs.declared.progress.JobTarget.{JobTarget}
use Rattle.client_replies.specs.declared.progress.Progress.{Progress}
use Rattle.client_replies.specs.declared.progress.Progress.TheVariants as stages
use Rattle.client_replies.specs.Asking.{request_for}
use Rattle.client_replies.specs.ProtocolStates.{ProtocolState, target_of, is_batch, is_running, is_receiving, is_ended, scans, turns, FitsEnded, protocol_of_next_page}
use Rattle.net_client.specs.Sending.{optional_request_text}
use Rattle.net_client.specs.ClientStates.{ClientState, ClientRepresents, IsNewClient, TurnsPage, protocol_of}
use Rattle.net_jobs.specs.JobTraces.{JobTrace, EventLeads, Turned}
use Rattle.net_jobs.specs.JobSteps.{FileGoesOn, PageEnds}
use Rattle.net_jobs.specs.JobJournal.{PortsAreTold, JobMove, MovesLead, Writes, Fails, given_by, bytes_written_by, heard_by, dialled_by, has_write_failed}
use Rattle.net_jobs.specs.Inside.{GivesAll, CallNotes, NotesMatch, no_notes, HasTakenBack, HoldsNone, OutputIsUnderWay, IsFiling, SinkState, TurnsOn, Fills, HasFiled, GivesPage}
use Rattle.net_jobs.specs.RunPromises.{EndsBy, ByLoss, ByMemory, ByGarble, ByLength}
use Rattle.net_jobs.specs.Links.{LinkViews, Calls}
use Rattle.net_jobs.proofs.InvariantRecords.{LinkMatchesTrace, ClientFollowsTrace, Falls, GivenFiles, no_files_given, RunInvariant, FullRunInvariant, turned_given, more_given}
use Rattle.net_jobs.specs.Outputs.{files_text, page_outputs_from}
use Rattle.net_jobs.specs.Batches.{IsPageFile}
use Rattle.net_jobs.proofs.ToldPorts.{told_short, told_written}
use Rattle.net_jobs.proofs.Tracing.{did_say}
use Rattle.net_jobs.proofs.KeepingInvariant.{following, asked_now, stage_on}
use Rattle.net_jobs.proofs.DataLoop.{behind_some}
use Rattle.net_jobs.proofs.RunInvariants.{none_open, stage_wrote, going_begun, gave_on}
use Rattle.net_jobs.proofs.FileNumbers.{Counts, counts, is_turning_at}
use Rattle.net_jobs.proofs.JobEnds.{WholeShows, falls_short, Leaves, PartedBefore, PartsWhole, PartsShort, stage_gave_by, task_is, running_ends, turning_batch}
use Rattle.net_jobs.proofs.Pages.{has_turned, turning_fits}
use Rattle.net_jobs.proofs.Steps.{AllGiven, AreStepsSoFar, LastDelivers, StepsBy, StepsSoFar, ended_not_done, running_not_done, steps_at, steps_given, steps_quiet, steps_still, steps_turned}
use Rattle.net_jobs.proofs.Shelves.{begins_with_none, none_under_way, outputs_more}
use Rattle.frame_join.specs.PictureText.{IsPictureFile}

-- what is stored of a job's files: the pages that were turned, each whole, and what was given of the one under way
pub record Stored (whole : Bool) (job : Job) (before now : SinkState) (given : GivenFiles) (c : ClientState) (past : JoinHistory) : Type 0 where
  pub under_way : OutputIsUnderWay before (page_outputs_from 1 given.pages) now (length given.pages + 1) given.bytes
  pub files : All IsPageFile given.pages
  pub none : scans job.task ≡ false → given.bytes ≡ []
  pub shown : whole ≡ true → scans job.task ≡ true → is_ended c.outcome ≡ false → IsJoined past → (p : Picture) → ShowsFrames past.ended p → IsPictureFile given.bytes p

pub record Laid {C R : Type 0} (views : LinkViews C) (left_of : R → Option (List ℕ)) (job : Job) (first : C) (coming0 : Option (List (List ℕ))) (before : SinkState) (notes : CallNotes) (whole : Bool) (control : C) (coming : Option (List (List ℕ))) (stream : Option R) (c : ClientState) (now : SinkState) : Type 0 where
  pub given : GivenFiles
  pub going : FullRunInvariant views left_of job first coming0 given notes control coming stream c
  pub steps : StepsBy whole job.task going.fresh going.moves c given
  pub shelf : Stored whole job before now given c going.stage.history

pub laid_first : {C R : Type 0} (views : LinkViews C) (left_of : R → Option (List ℕ)) (job : Job) (control : C) (coming : Option (List (List ℕ))) (before : SinkState) (c : ClientState) → IsNewClient job c → HoldsNone before
    → Laid views left_of job control coming before no_notes false control coming None c before
laid_first views left_of job control coming before c f none =
    let g = going_begun views left_of job control coming c f in
    record {
      given = no_files_given;
      going = g.0;
      steps = AllGiven g.2 (ended_not_done c.outcome Running (ap (λ (v : ClientState). v.outcome) f.value) tt);
      shelf = record {
        under_way = record { taken = begins_with_none before 1 none; asked = λ e. none };
        files = All-nil IsPageFile;
        none = λ other. refl;
        shown = λ w scanning alive joined. absurd (let clash : Ok false ≡ Ok true = subst (λ (q : JoinHistory). IsJoined q) g.1 joined in cc);
      };
    }

-- ---- the number of the file under way

falls_ended : (moves : List JobMove) (protocol : ProtocolState) (rest : List ℕ) (outcome : Outcome) → EndsBy moves protocol rest outcome → is_ended outcome ≡ true
falls_ended moves protocol rest outcome (ByLoss loss x) = ap is_ended x
falls_ended moves protocol rest outcome (ByMemory x) = ap is_ended x
falls_ended moves protocol rest outcome (ByGarble procedure awaits no_start x) = ap is_ended x
falls_ended moves protocol rest outcome (ByLength frame bytes under long x) = ap is_ended x

number_by : {R : Type 0} (left_of : R → Option (List ℕ)) (moves : List JobMove) (coming0 coming : Option (List (List ℕ))) (task : Task) (trace : JobTrace) (rest : List ℕ) (stream : Option R) (c : ClientState) (past : JoinHistory) → Counts task trace → is_ended c.outcome ≡ false
    → ClientFollowsTrace left_of coming0 coming trace rest stream c past ⊎ Falls moves coming0 coming trace rest c → c.notes.file ≡ length trace.pages + 1
number_by left_of moves coming0 coming task trace rest stream c past n alive (inl f) = ap (λ (t : ProtocolState). t.notes.file) f.protocol_is ∙ n.number
number_by left_of moves coming0 coming task trace rest stream c past n alive (inr f) = absurd (let clash : true ≡ false = sym (falls_ended moves trace.protocol rest c.outcome f.cause) ∙ alive in cc)

pub number_at : {R : Type 0} (left_of : R → Option (List ℕ)) (job : Job) (moves : List JobMove) (read_ wrote left : List ℕ) (coming0 coming : Option (List (List ℕ))) (given : GivenFiles) (stream : Option R) (c : ClientState) → HasCount job.task → RunInvariant left_of job moves read_ wrote left coming0 coming given stream c
    → is_ended c.outcome ≡ false → c.notes.file ≡ length given.pages + 1
number_at left_of job moves read_ wrote left coming0 coming given stream c h s alive =
    number_by left_of moves coming0 coming job.task s.trace s.rest stream c s.history (counts job s.did.events s.trace h s.did.runs) alive s.stands ∙ ap (λ (l : List JoinHistory). length l + 1) s.pages_is

-- ---- a page is turned

abbrev turned_course : JobTrace → List ℕ → List ℕ → JobTrace
turned_course trace bytes said = record { text = trace.text; streams = trace.streams; pages = trace.pages ++ after_pull bytes trace.protocol.history ∷ []; sent = trace.sent ++ said; protocol = protocol_of_next_page trace.protocol }

turning_shut : (outcome : Outcome) (progress : Progress) → turns outcome progress ≡ true → is_receiving outcome progress ≡ false
turning_shut outcome stages.Turning e = refl
turning_shut outcome progress e = ap (λ (p : Progress). is_receiving outcome p) (is_turning_at outcome progress e)

turning_running : (outcome : Outcome) (progress : Progress) → turns outcome progress ≡ true → is_running outcome ≡ true
turning_running Running progress e = refl
turning_running (Done reports) progress e = absurd (let clash : false ≡ true = e in cc)
turning_running (Ended status why) progress e = absurd (let clash : false ≡ true = e in cc)

not_over : (outcome : Outcome) → is_running outcome ≡ true → is_ended outcome ≡ false
not_over Running e = refl
not_over (Done reports) e = refl
not_over (Ended status why) e = absurd (let clash : false ≡ true = e in cc)

linked_none : {R : Type 0} (left_of : R → Option (List ℕ)) (coming0 coming : Option (List (List ℕ))) (streams : List (List ℕ)) (c new : ClientState) (past : JoinHistory) → LinkMatchesTrace left_of coming0 coming streams None c past → LinkMatchesTrace left_of coming0 coming streams None new empty_history
linked_none left_of coming0 coming streams c new past l = record { wholes = l.wholes; begin = l.begin; brought = l.brought; empty = λ port e. refl }

linked_turned : {R : Type 0} (left_of : R → Option (List ℕ)) (coming0 coming : Option (List (List ℕ))) (streams : List (List ℕ)) (stream : Option R) (c new : ClientState) (past : JoinHistory) → stream ≡ None → LinkMatchesTrace left_of coming0 coming streams stream c past
    → LinkMatchesTrace left_of coming0 coming streams stream new empty_history
linked_turned {R} left_of coming0 coming streams stream c new past none l =
    subst (λ (o : Option R). LinkMatchesTrace left_of coming0 coming streams o new empty_history) (sym none) (linked_none left_of coming0 coming streams c new past (subst (λ (o : Option R). LinkMatchesTrace left_of coming0 coming streams o c past) none l))

pub stage_turned : {R : Type 0} (left_of : R → Option (List ℕ)) (job : Job) (moves : List JobMove) (read_ wrote left : List ℕ) (coming0 coming : Option (List (List ℕ))) (given : GivenFiles) (stream : Option R) (c new : ClientState) (join : JoinState) (bytes said : List ℕ)
    → turns c.outcome c.progress ≡ true → (s : RunInvariant left_of job moves read_ wrote left coming0 coming given stream c) → IsWhole (s.history.given ++ bytes) → TurnsPage (record c { join = join }) new → ClientRepresents empty_history new
    → optional_request_text (request_for c.target c.notes.word (stages.Starting true)) ≡ Some said
    → (t : RunInvariant left_of job moves read_ wrote (left ++ said) coming0 coming (turned_given given (after_pull bytes s.history)) stream new) × (t.history ≡ empty_history)
stage_turned left_of job moves read_ wrote left coming0 coming given stream c new join bytes said turning s whole page serves says =
    let f = following left_of moves coming0 coming s.trace s.rest stream c s.history (turning_running c.outcome c.progress turning) s.stands in
    let trace : JobTrace = turned_course s.trace bytes said in
    let asks : optional_request_text (request_for (target_of job) s.trace.protocol.notes.word (stages.Starting true)) ≡ Some said
    = sym (ap (λ (t : ProtocolState). optional_request_text (request_for (target_of job) t.notes.word (stages.Starting true))) f.protocol_is) ∙ sym (ap (λ (e : JobTarget). optional_request_text (request_for e c.notes.word (stages.Starting true))) s.target) ∙ says in
    let turns_there : turns s.trace.protocol.outcome s.trace.protocol.progress ≡ true = sym (ap (λ (t : ProtocolState). turns t.outcome t.progress) f.protocol_is) ∙ turning in
    let whole_there : IsWhole (s.trace.protocol.history.given ++ bytes) = subst (λ (t : ProtocolState). IsWhole (t.history.given ++ bytes)) f.protocol_is whole in
    let lives : EventLeads (target_of job) s.trace (Turned bytes) trace = (said, turns_there, whole_there, asks, refl) in (
      record {
        target = ap (λ (v : ClientState). v.target) page.rest ∙ s.target;
        history = empty_history;
        serves = serves;
        given_is = refl;
        trace = trace;
        pages_is = ap (λ (l : List JoinHistory). l ++ after_pull bytes s.trace.protocol.history ∷ []) s.pages_is ∙ ap (λ (t : ProtocolState). given.pages ++ after_pull bytes t.history ∷ []) (sym f.protocol_is);
        rest = s.rest;
        did = did_say job s.trace trace (Turned bytes) read_ wrote s.rest left said lives refl refl s.did;
        asked = inl (asked_now (dialled_by moves) s.did.events s.trace.protocol c.outcome (turning_running c.outcome c.progress turning) s.asked);
        stands = inl (record {
          protocol_is = ap (λ (v : ClientState). protocol_of v empty_history) page.rest ∙ ap (λ (t : ProtocolState). protocol_of_next_page t) f.protocol_is;
          rest_is = ap (λ (v : ClientState). v.input.rest) page.rest ∙ f.rest_is;
          linked = linked_turned left_of coming0 coming s.trace.streams stream c new s.history (none_open left_of coming0 coming s.trace.streams stream c s.history (turning_shut c.outcome c.progress turning) f.linked) f.linked;
        });
      },
      refl,
    )

-- ---- a turn's end: what the job gave of its files

-- the file of a page that is turned
turned_file : (past : JoinHistory) (join : JoinState) (bytes : List ℕ) → WholeShows → Represents past join → IsJoined past
    → ((p : Picture) → ShowsFrames past.ended p → IsPictureFile (past.given ++ bytes) p) → IsPageFile (after_pull bytes past)
turned_file past join bytes shows stands joined denotes = let p = shows past join stands joined in record { picture = p.0; shows = p.1; file = denotes p.0 p.1 }

pub one_file : (page : JoinHistory) → IsPageFile page → All IsPageFile (page ∷ [])
one_file page file = All-from_recursion IsPageFile (page ∷ []) (file, tt)

files_more : (pages : List JoinHistory) (page : JoinHistory) → files_text (pages ++ page ∷ []) ≡ files_text pages ++ page.given
files_more [] page = append-nil page.given
files_more (other ∷ pages) page = ap (λ (l : List ℕ). other.given ++ l) (files_more pages page) ∙ sym (append_assoc other.given (files_text pages) page.given)

-- bytes of its file went out so, of a client that has none to turn
goes_on : (c now : ClientState) (gives : List JobMove) → turns c.outcome c.progress ≡ false → GivesPage c gives now → FileGoesOn c gives now
goes_on c now gives still (inl on) = record { still = still; runs_out = on.0 }
goes_on c now gives still (inr ends) = absurd (let clash : true ≡ false = sym ends.begins ∙ still in cc)

-- or they were its last
goes_out : (c was now : ClientState) (gives : List JobMove) → turns c.outcome c.progress ≡ true → TurnsPage was now → GivesPage c gives now → PageEnds c gives now
goes_out c was now gives turning turned (inl on) = absurd (let clash : true ≡ false = sym turning ∙ sym on.1 ∙ has_turned was now turned in cc)
goes_out c was now gives turning turned (inr ends) = ends

-- a client that waits for its page's file to be taken does not go on with it once no bytes are left
none_to_turn : (b : Bool) (c now : ClientState) (past : JoinHistory) (bytes : List ℕ) → turns c.outcome c.progress ≡ b → WholeShows → ClientRepresents past c
    → now ≡ record c { join = now.join } → ClientRepresents (after_pull bytes past) now → (is_ended c.outcome ≡ false → IsJoined past → (p : Picture) → ShowsFrames past.ended p → IsPictureFile (past.given ++ bytes) p) → turns c.outcome c.progress ≡ false
none_to_turn false c now past bytes e shows serves rest after denotes = e
none_to_turn true c now past bytes e shows serves rest after denotes =
    let joined = (turning_fits c.target.task c.outcome c.progress past e serves.fits).0 in
    let p = shows past c.join serves.stands joined in
    let turning : turns now.outcome now.progress ≡ true = ap (λ (v : ClientState). turns v.outcome v.progress) rest ∙ e in
    absurd ((turning_fits now.target.task now.outcome now.progress (after_pull bytes past) turning after.fits).1 (p.0, (denotes (not_over c.outcome (turning_running c.outcome c.progress e)) joined p.0 p.1).denotes))

-- a job that turned a page, whether the shelf kept its output or refused it
pub record PageIsTurned {C R : Type 0} (views : LinkViews C) (left_of : R → Option (List ℕ)) (job : Job) (first : C) (coming0 : Option (List (List ℕ))) (given : GivenFiles) (page : JoinHistory) (notes : CallNotes) (control : C) (coming : Option (List (List ℕ))) (stream : Option R) (now : ClientState) : Type 0 where
  pub going : FullRunInvariant views left_of job first coming0 (turned_given given page) notes control coming stream now
  pub anew : going.stage.history ≡ empty_history
  pub alive : is_ended now.outcome ≡ false
  pub file : IsPageFile page

pub page_turned : {C R : Type 0} (views : LinkViews C) (left_of : R → Option (List ℕ)) (job : Job) (first : C) (coming0 : Option (List (List ℕ))) (before : SinkState) (notes : CallNotes) (control : C) (coming : Option (List (List ℕ))) (stream : Option R) (c now : ClientState) (then_ : SinkState) (given : GivenFiles) (gives : List JobMove) (kept : Bool)
    → WholeShows
    → (g : FullRunInvariant views left_of job first coming0 given notes control coming stream c) → GivesAll c gives now
    → (e : TurnsOn g.stage.history c (length given.pages + 1) before (page_outputs_from 1 given.pages) (given_by gives) kept now then_)
    → (t : PageIsTurned views left_of job first coming0 given (after_pull (given_by gives) g.stage.history) notes control coming stream now) × (t.going.moves ≡ gives ++ g.moves) × (t.going.fresh ≡ g.fresh)
page_turned views left_of job first coming0 before notes control coming stream c now then_ given gives kept shows g all e =
    let s = g.stage in
    let bytes : List ℕ = given_by gives in
    let says = behind_some c.out now.out (optional_request_text (request_for c.target c.notes.word (stages.Starting true))) e.client.text in
    let t = stage_turned left_of job g.moves (heard_by g.moves) (bytes_written_by g.moves) g.left coming0 coming given stream c now e.join bytes says.0 e.turning s e.whole e.client e.serves says.1 in
    let page : JoinHistory = after_pull bytes s.history in
    let fits = turning_fits c.target.task c.outcome c.progress s.history e.turning s.serves.fits in
    let text : files_text (given.pages ++ page ∷ []) ++ [] ≡ (files_text given.pages ++ given.bytes) ++ bytes = append-nil (files_text (given.pages ++ page ∷ [])) ∙ files_more given.pages page
    ∙ ap (λ (l : List ℕ). files_text given.pages ++ (l ++ bytes)) s.given_is ∙ sym (append_assoc (files_text given.pages) given.bytes bytes) in
    let h = gave_on views left_of job first coming0 given (turned_given given page) notes control coming stream c now gives (g.left ++ says.0) all g t.0 (λ x. ap (λ (l : List ℕ). l ++ says.0) (g.left_is x) ∙ sym says.2) text in
    let runs : is_running now.outcome ≡ true = ap (λ (v : ClientState). is_running v.outcome) e.client.rest ∙ turning_running c.outcome c.progress e.turning in
    (record { going = h.0; anew = h.1 ∙ t.1; alive = not_over now.outcome runs; file = turned_file s.history c.join bytes shows s.serves.stands fits.0 e.denotes }, h.2, h.3)

pub laid_next : {C R : Type 0} (views : LinkViews C) (left_of : R → Option (List ℕ)) (job : Job) (first : C) (coming0 : Option (List (List ℕ))) (before : SinkState) (notes : CallNotes) (control : C) (coming : Option (List (List ℕ))) (stream : Option R) (c now : ClientState) (then_ : SinkState) (given : GivenFiles) (gives : List JobMove)
    → WholeShows
    → scans job.task ≡ true → All IsPageFile given.pages → (g : FullRunInvariant views left_of job first coming0 given notes control coming stream c) → LastDelivers job.task g.fresh g.moves c given → GivesAll c gives now → GivesPage c gives now
    → (e : TurnsOn g.stage.history c (length given.pages + 1) before (page_outputs_from 1 given.pages) (given_by gives) true now then_)
    → Laid views left_of job first coming0 before notes true control coming stream now then_
laid_next views left_of job first coming0 before notes control coming stream c now then_ given gives shows scanning files g last all out_of e =
    let page : JoinHistory = after_pull (given_by gives) g.stage.history in
    let turned = page_turned views left_of job first coming0 before notes control coming stream c now then_ given gives true shows g all e in
    let t = turned.0 in
    let batch : is_batch job.task ≡ true = sym (ap is_batch (task_is c job g.stage.target)) ∙ turning_batch c.target.task c.outcome c.progress g.stage.history e.turning g.stage.serves.fits in
    let steps = steps_turned job.task g.fresh g.moves c given page gives now scanning batch (ap (λ (l : List ℕ). l ++ given_by gives) g.stage.given_is) last (goes_out c (record c { join = e.join }) now gives e.turning e.client out_of) in
    record {
      given = turned_given given page;
      going = t.going;
      steps = subst (λ (l : List JobMove). StepsSoFar t.going.fresh l now (turned_given given page)) (sym turned.1) (subst (λ (v : ClientState). StepsSoFar v (gives ++ g.moves) now (turned_given given page)) (sym turned.2) steps);
      shelf = record {
        under_way = record {
          taken = none_under_way before then_ (page_outputs_from 1 (given.pages ++ page ∷ [])) (length (given.pages ++ page ∷ []) + 1)
              (subst (λ (l : List ReturnedOutput). HasTakenBack before l then_) (sym (outputs_more 1 given.pages page)) e.taken) e.none;
          asked = λ x. e.none;
        };
        files = All-append IsPageFile given.pages (page ∷ []) files (one_file page t.file);
        none = λ other. refl;
        shown = λ w scan alive joined. absurd (let clash : Ok false ≡ Ok true = subst (λ (q : JoinHistory). IsJoined q) t.anew joined in cc);
      };
    }

pub laid_more : {C R : Type 0} (views : LinkViews C) (left_of : R → Option (List ℕ)) (job : Job) (first : C) (coming0 : Option (List (List ℕ))) (before : SinkState) (notes : CallNotes) (control : C) (coming : Option (List (List ℕ))) (stream : Option R) (c now : ClientState) (then_ : SinkState) (given : GivenFiles) (gives : List JobMove)
    → WholeShows
    → scans job.task ≡ true → All IsPageFile given.pages → (g : FullRunInvariant views left_of job first coming0 given notes control coming stream c) → LastDelivers job.task g.fresh g.moves c given → GivesAll c gives now → GivesPage c gives now
    → HasFiled g.stage.history c (length given.pages + 1) before (page_outputs_from 1 given.pages) (given_by gives) now then_
    → Laid views left_of job first coming0 before notes true control coming stream now then_
laid_more views left_of job first coming0 before notes control coming stream c now then_ given gives shows scanning files g last all out_of (inl e) =
    let s = g.stage in
    let bytes : List ℕ = given_by gives in
    let serves = subst (λ (v : ClientState). ClientRepresents (after_pull bytes s.history) v) e.rest e.serves in
    let gave = stage_gave_by left_of job g.moves (heard_by g.moves) (bytes_written_by g.moves) g.left coming0 coming given bytes stream c now.join s.target s.history s.given_is serves s.trace s.rest s.pages_is s.did s.asked s.stands in
    let at = subst (λ (v : ClientState). (t : RunInvariant left_of job g.moves (heard_by g.moves) (bytes_written_by g.moves) g.left coming0 coming (more_given given bytes) stream v) × (t.history ≡ after_pull bytes s.history)) (sym e.rest) gave in
    let h = gave_on views left_of job first coming0 given (more_given given bytes) notes control coming stream c now gives g.left all g at.0 (λ x. g.left_is x ∙ sym (ap (λ (v : ClientState). v.out) e.rest)) (sym (append_assoc (files_text given.pages) given.bytes bytes)) in
    let past_is = h.1 ∙ at.1 in
    let still = none_to_turn (turns c.outcome c.progress) c now s.history bytes refl shows s.serves e.rest e.serves e.denotes in
    let steps = steps_given job.task g.fresh g.moves c given gives now true scanning last (inl (goes_on c now gives still out_of)) in
    record {
      given = more_given given bytes;
      going = h.0;
      steps = subst (λ (l : List JobMove). StepsSoFar h.0.fresh l now (more_given given bytes)) (sym h.2) (subst (λ (v : ClientState). StepsSoFar v (gives ++ g.moves) now (more_given given bytes)) (sym h.3) steps);
      shelf = record {
        under_way = subst (λ (l : List ℕ). OutputIsUnderWay before (page_outputs_from 1 given.pages) then_ (length given.pages + 1) (l ++ bytes)) s.given_is e.under_way;
        files = files;
        none = λ other. absurd (let clash : true ≡ false = sym scanning ∙ other in cc);
        shown = λ w scan alive joined p shows.
            subst (λ (l : List ℕ). IsPictureFile (l ++ bytes) p) s.given_is
            (e.denotes (sym (ap (λ (v : ClientState). is_ended v.outcome) e.rest) ∙ alive) (subst (λ (q : JoinHistory). IsJoined q) past_is joined) p (subst (λ (q : JoinHistory). ShowsFrames q.ended p) past_is shows));
      };
    }
laid_more views left_of job first coming0 before notes control coming stream c now then_ given gives shows scanning files g last all out_of (inr e) =
    laid_next views left_of job first coming0 before notes control coming stream c now then_ given gives shows scanning files g last all out_of e

-- one that writes nothing
pub laid_none : {C R : Type 0} {was_whole : Bool} (views : LinkViews C) (left_of : R → Option (List ℕ)) (job : Job) (first : C) (coming0 : Option (List (List ℕ))) (before : SinkState) (notes : CallNotes) (control : C) (coming : Option (List (List ℕ))) (stream : Option R) (c old : ClientState) (now : SinkState) (given : GivenFiles) (past : JoinHistory)
    → scans job.task ≡ false → Stored was_whole job before now given old past → (g : FullRunInvariant views left_of job first coming0 given notes control coming stream c) → LastDelivers job.task g.fresh g.moves c given
    → Laid views left_of job first coming0 before notes true control coming stream c now
laid_none views left_of job first coming0 before notes control coming stream c old now given past other shelf g last = record {
  given = given;
  going = g;
  steps = steps_still job.task g.fresh g.moves c given false other last (refl, (refl, refl));
  shelf = record { under_way = shelf.under_way; files = shelf.files; none = shelf.none; shown = λ w scan. absurd (let clash : true ≡ false = sym scan ∙ other in cc) };
}

-- ---- the end

-- what a job that is over did, before its outcome is told
pub record Shut {C R : Type 0} (views : LinkViews C) (left_of : R → Option (List ℕ)) (job : Job) (first : C) (coming0 : Option (List (List ℕ))) (before : SinkState) (notes : CallNotes) (whole : Bool) (control : C) (coming : Option (List (List ℕ))) (stream : Option R) (c : ClientState) (now : SinkState) : Type 0 where
  pub given : GivenFiles
  pub moves : List JobMove
  pub left : List ℕ
  pub calls : Calls views first moves control
  pub stage : RunInvariant left_of job moves (heard_by moves) (bytes_written_by moves) left coming0 coming given stream c
  pub notes_are : NotesMatch moves notes
  pub fresh : ClientState
  pub last : ClientState
  pub is_fresh : IsNewClient job fresh
  pub leads : MovesLead fresh moves last
  pub told : PortsAreTold moves
  pub ends : last.outcome ≡ c.outcome
  pub steps : (whole ≡ true) ⊎ (is_ended c.outcome ≡ true) → StepsSoFar fresh moves last given
  pub gave : files_text given.pages ++ given.bytes ≡ given_by moves
  pub all : has_write_failed moves ≡ false → left ≡ []
  pub shelf : Stored whole job before now given c stage.history

same_shelf : {whole : Bool} (job : Job) (before now : SinkState) (given : GivenFiles) (c : ClientState) (past then_ : JoinHistory) → then_ ≡ past → Stored whole job before now given c past → Stored whole job before now given c then_
same_shelf job before now given c past then_ same s = record {
  under_way = s.under_way;
  files = s.files;
  none = s.none;
  shown = λ w scan alive joined p shows. s.shown w scan alive (subst (λ (q : JoinHistory). IsJoined q) same joined) p (subst (λ (q : JoinHistory). ShowsFrames q.ended p) same shows);
}

-- leave was taken of the daemon: the last bytes were written
pub shut_parted : {C R : Type 0} {whole : Bool} (views : LinkViews C) (left_of : R → Option (List ℕ)) (job : Job) (first : C) (coming0 : Option (List (List ℕ))) (before : SinkState) (was behind : CallNotes) (control then_ : C) (coming : Option (List (List ℕ))) (stream : Option R) (c : ClientState) (now : SinkState)
    → is_running c.outcome ≡ false → Leaves views control was c.out then_ behind → (d : Laid views left_of job first coming0 before was whole control coming stream c now)
    → (e : Shut views left_of job first coming0 before behind whole then_ coming stream c now) × (e.given ≡ d.given)
shut_parted {whole = whole} views left_of job first coming0 before was behind control then_ coming stream c now over (PartedBefore up same notes) d = (
  record {
    given = d.given;
    moves = d.going.moves;
    left = d.going.left;
    calls = subst (λ x. Calls views first d.going.moves x) (sym same) d.going.calls;
    stage = d.going.stage;
    notes_are = subst (λ (n : CallNotes). NotesMatch d.going.moves n) (sym notes) d.going.notes_are;
    fresh = d.going.fresh;
    last = c;
    is_fresh = d.going.is_fresh;
    leads = d.going.leads;
    told = d.going.told.told;
    ends = refl;
    steps = steps_at whole job.task d.going.fresh d.going.moves c d.given d.steps;
    gave = d.going.gave;
    all = λ e. absurd (let clash : true ≡ false = sym up ∙ sym d.going.notes_are.write_failed ∙ e in cc);
    shelf = d.shelf;
  },
  refl,
)
shut_parted {whole = whole} views left_of job first coming0 before was behind control then_ coming stream c now over (PartsWhole up called notes) d =
    let g = d.going in
    let s = stage_wrote left_of job g.moves (heard_by g.moves) (bytes_written_by g.moves) g.left c.out [] coming0 coming d.given stream c c (g.left_is up ∙ sym (append-nil c.out)) refl g.stage in
    let t = stage_on left_of job g.moves (Writes c.out ∷ g.moves) (heard_by g.moves) (bytes_written_by g.moves ++ c.out) [] coming0 coming d.given stream c refl (λ l. l) s.0 in (
      record {
        given = d.given;
        moves = Writes c.out ∷ g.moves;
        left = [];
        calls = (control, g.calls, called);
        stage = t.0;
        notes_are = subst (λ (n : CallNotes). NotesMatch (Writes c.out ∷ g.moves) n) (sym notes) (record { loss = g.notes_are.loss; write_failed = g.notes_are.write_failed });
        fresh = g.fresh;
        last = record c { out = [] };
        is_fresh = g.is_fresh;
        leads = (c, g.leads, record { all = refl; new_is = refl });
        told = told_written c.out g.moves g.told.told;
        ends = refl;
        steps = λ either. steps_quiet g.fresh g.moves c (Writes c.out) (record c { out = [] }) d.given (steps_at whole job.task g.fresh g.moves c d.given d.steps either) (g.notes_are.write_failed ∙ up) tt (record { all = refl; new_is = refl });
        gave = g.gave;
        all = λ e. refl;
        shelf = same_shelf job before now d.given c g.stage.history t.0.history (t.1 ∙ s.1) d.shelf;
      },
      refl,
    )
shut_parted {whole = whole} views left_of job first coming0 before was behind control then_ coming stream c now over (PartsShort up n short called notes) d =
    let g = d.going in
    let s = stage_wrote left_of job g.moves (heard_by g.moves) (bytes_written_by g.moves) g.left (take n c.out) (drop n c.out) coming0 coming d.given stream c c (g.left_is up ∙ sym (take-append-drop n c.out)) refl g.stage in
    let t = stage_on left_of job g.moves (Fails (take n c.out) ∷ g.moves) (heard_by g.moves) (bytes_written_by g.moves ++ take n c.out) (drop n c.out) coming0 coming d.given stream c refl (λ l. tt) s.0 in (
      record {
        given = d.given;
        moves = Fails (take n c.out) ∷ g.moves;
        left = drop n c.out;
        calls = (control, g.calls, called);
        stage = t.0;
        notes_are = subst (λ (x : CallNotes). NotesMatch (Fails (take n c.out) ∷ g.moves) x) (sym notes) (record { loss = g.notes_are.loss; write_failed = refl });
        fresh = g.fresh;
        last = record c { out = drop n c.out };
        is_fresh = g.is_fresh;
        leads = (c, g.leads, falls_short c n over short);
        told = told_short (take n c.out) g.moves g.told.told;
        ends = refl;
        steps = λ either. steps_quiet g.fresh g.moves c (Fails (take n c.out)) (record c { out = drop n c.out }) d.given (steps_at whole job.task g.fresh g.moves c d.given d.steps either) (g.notes_are.write_failed ∙ up) tt (falls_short c n over short);
        gave = g.gave;
        all = λ e. absurd (let clash : true ≡ false = e in cc);
        shelf = same_shelf job before now d.given c g.stage.history t.0.history (t.1 ∙ s.1) d.shelf;
      },
      refl,
    )

-- ---- a turn's end, whatever the task

-- how far the job is before its files are filled, as the contract wants it
under_way_at : {was_whole : Bool} (job : Job) (before was : SinkState) (given : GivenFiles) (old : ClientState) (past then_ : JoinHistory) → then_.given ≡ given.bytes → Stored was_whole job before was given old past
    → OutputIsUnderWay before (page_outputs_from 1 given.pages) was (length given.pages + 1) then_.given
under_way_at job before was given old past then_ given_is s = subst (λ (l : List ℕ). OutputIsUnderWay before (page_outputs_from 1 given.pages) was (length given.pages + 1) l) (sym given_is) s.under_way

-- what a contract of this kind says of the file under way
pub from_here : {C R : Type 0} {was_whole : Bool} (views : LinkViews C) (left_of : R → Option (List ℕ)) (job : Job) (first : C) (coming0 : Option (List (List ℕ))) (before was : SinkState) (notes : CallNotes) (control : C) (coming : Option (List (List ℕ))) (stream : Option R) (c old : ClientState) (given : GivenFiles) (past : JoinHistory)
    (Then : SinkState → List ReturnedOutput → ℕ → JoinHistory → Type 0) → scans job.task ≡ true → HasCount job.task → Stored was_whole job before was given old past → (g : FullRunInvariant views left_of job first coming0 given notes control coming stream c)
    → ((before : SinkState) (outputs : List ReturnedOutput) (k : ℕ) (q : JoinHistory) → IsFiling q c k before outputs was → Then before outputs k q)
    → Then before (page_outputs_from 1 given.pages) (length given.pages + 1) g.stage.history
from_here views left_of job first coming0 before was notes control coming stream c old given past Then scanning h shelf g goes =
    goes before (page_outputs_from 1 given.pages) (length given.pages + 1) g.stage.history (record {
      scanning = ap scans (task_is c job g.stage.target) ∙ scanning;
      number = λ alive. number_at left_of job g.moves (heard_by g.moves) (bytes_written_by g.moves) g.left coming0 coming given stream c h g.stage alive;
      serves = g.stage.serves;
      under_way = under_way_at job before was given old past g.stage.history g.stage.given_is shelf;
    })

laid_by : {C R : Type 0} {was_whole : Bool} (views : LinkViews C) (left_of : R → Option (List ℕ)) (job : Job) (first : C) (coming0 : Option (List (List ℕ))) (before was : SinkState) (notes : CallNotes) (control : C) (coming : Option (List (List ℕ))) (stream : Option R) (c old now : ClientState) (then_ : SinkState) (given : GivenFiles) (past : JoinHistory) (is_scanning b : Bool)
    → is_scanning ≡ b → is_scanning ≡ scans job.task → HasCount job.task → WholeShows
    → Stored was_whole job before was given old past → (g : FullRunInvariant views left_of job first coming0 given notes control coming stream c) → LastDelivers job.task g.fresh g.moves c given
    → (is_scanning ≡ false → (now ≡ c) × (then_ ≡ was))
    → (is_scanning ≡ true → Fills c was now then_)
    → Laid views left_of job first coming0 before notes true control coming stream now then_
laid_by views left_of job first coming0 before was notes control coming stream c old now then_ given past is_scanning true e scanning h shows shelf g last none goes =
    let gives = goes e in
    let went = from_here views left_of job first coming0 before was notes control coming stream c old given past (λ b outputs k q. GivesPage c gives.0 now × HasFiled q c k b outputs (given_by gives.0) now then_) (sym scanning ∙ e) h shelf g gives.2 in
    laid_more views left_of job first coming0 before notes control coming stream c now then_ given gives.0 shows (sym scanning ∙ e) shelf.files g last gives.1 went.0 went.1
laid_by views left_of job first coming0 before was notes control coming stream c old now then_ given past is_scanning false e scanning h shows shelf g last none goes =
    let same = none e in
    subst (λ (v : ClientState). Laid views left_of job first coming0 before notes true control coming stream v then_) (sym same.0)
    (subst (λ (o : SinkState). Laid views left_of job first coming0 before notes true control coming stream c o) (sym same.1)
    (laid_none views left_of job first coming0 before notes control coming stream c old was given past (sym scanning ∙ e) shelf g last))

pub laid_then : {C R : Type 0} {was_whole : Bool} (views : LinkViews C) (left_of : R → Option (List ℕ)) (job : Job) (first : C) (coming0 : Option (List (List ℕ))) (before was : SinkState) (notes : CallNotes) (control : C) (coming : Option (List (List ℕ))) (stream : Option R) (c old now : ClientState) (then_ : SinkState) (given : GivenFiles) (past : JoinHistory) (is_scanning : Bool)
    → is_scanning ≡ scans job.task → HasCount job.task → WholeShows
    → Stored was_whole job before was given old past → (g : FullRunInvariant views left_of job first coming0 given notes control coming stream c) → LastDelivers job.task g.fresh g.moves c given
    → (is_scanning ≡ false → (now ≡ c) × (then_ ≡ was))
    → (is_scanning ≡ true → Fills c was now then_)
    → Laid views left_of job first coming0 before notes true control coming stream now then_
laid_then views left_of job first coming0 before was notes control coming stream c old now then_ given past is_scanning scanning h shows shelf g last none goes =
    laid_by views left_of job first coming0 before was notes control coming stream c old now then_ given past is_scanning is_scanning refl scanning h shows shelf g last none goes

-- ---- a job whose last bytes are not given

-- the shelf has what was given, and no front of that of the file under way is a whole file
pub record Lying {C R : Type 0} (views : LinkViews C) (left_of : R → Option (List ℕ)) (job : Job) (first : C) (coming0 : Option (List (List ℕ))) (before : SinkState) (notes : CallNotes) (control : C) (coming : Option (List (List ℕ))) (stream : Option R) (c : ClientState) (now : SinkState) : Type 0 where
  pub laid : Laid views left_of job first coming0 before notes false control coming stream c now
  pub none : HoldsNoFile laid.given.bytes

pub ended_part : (task : Task) (past : JoinHistory) → FitsEnded task past → IsJoined past → IsWhole past.given → ⊥
ended_part tasks.List past f joined w = f joined
ended_part tasks.Show past f joined w = f joined
ended_part tasks.SetOnly past f joined w = f joined
ended_part tasks.Scan past f joined w = f joined
ended_part (tasks.Batch count) past f joined w = f joined w

running_short : {R : Type 0} (left_of : R → Option (List ℕ)) (job : Job) (moves : List JobMove) (read_ wrote left : List ℕ) (coming0 coming : Option (List (List ℕ))) (given : GivenFiles) (stream : Option R) (c : ClientState) → NoneBefore → is_running c.outcome ≡ true
    → RunInvariant left_of job moves read_ wrote left coming0 coming given stream c → HoldsNoFile given.bytes
running_short left_of job moves read_ wrote left coming0 coming given stream c law runs s =
    subst HoldsNoFile s.given_is (law s.history c.join s.serves.stands (ended_part c.target.task s.history (running_ends c.outcome c.target.task c.progress s.history runs s.serves.fits)))

pub lying_first : {C R : Type 0} (views : LinkViews C) (left_of : R → Option (List ℕ)) (job : Job) (control : C) (coming : Option (List (List ℕ))) (before : SinkState) (c : ClientState) → NoneBefore → IsNewClient job c → HoldsNone before
    → Lying views left_of job control coming before no_notes control coming None c before
lying_first views left_of job control coming before c law f none =
    let d = laid_first views left_of job control coming before c f none in
    record { laid = d; none = running_short left_of job d.going.moves (heard_by d.going.moves) (bytes_written_by d.going.moves) d.going.left coming coming d.given None c law (ap (λ (v : ClientState). is_running v.outcome) f.value) d.going.stage }

pub lying_fresh : {C R : Type 0} (views : LinkViews C) (left_of : R → Option (List ℕ)) (job : Job) (notes : CallNotes) (control : C) (coming : Option (List (List ℕ))) (before : SinkState) (c : ClientState) → notes ≡ no_notes → NoneBefore → IsNewClient job c → HoldsNone before
    → Lying views left_of job control coming before notes control coming None c before
lying_fresh views left_of job notes control coming before c fresh law f none =
    subst (λ (n : CallNotes). Lying views left_of job control coming before n control coming None c before) (sym fresh) (lying_first views left_of job control coming before c law f none)

-- a turn in which the shelf took what was given, and the job runs on
pub lying_gave : {C R : Type 0} (views : LinkViews C) (left_of : R → Option (List ℕ)) (job : Job) (first : C) (coming0 : Option (List (List ℕ))) (before : SinkState) (notes : CallNotes) (control : C) (coming : Option (List (List ℕ))) (stream : Option R) (c : ClientState) (now : SinkState) → NoneBefore → is_running c.outcome ≡ true
    → Laid views left_of job first coming0 before notes true control coming stream c now → Lying views left_of job first coming0 before notes control coming stream c now
lying_gave views left_of job first coming0 before notes control coming stream c now law runs d = record {
  laid = record { given = d.given; going = d.going; steps = AllGiven d.steps (running_not_done c.outcome runs); shelf = record { under_way = d.shelf.under_way; files = d.shelf.files; none = d.shelf.none; shown = λ w. absurd (let clash : false ≡ true = w in cc) } };
  none = running_short left_of job d.going.moves (heard_by d.going.moves) (bytes_written_by d.going.moves) d.going.left coming0 coming d.given stream c law runs d.going.stage;
}

-- one in which nothing was given
pub lying_went : {C R : Type 0} (views : LinkViews C) (left_of : R → Option (List ℕ)) (job : Job) (first : C) (coming0 : Option (List (List ℕ))) (before : SinkState) (notes then_ : CallNotes) (control next : C) (coming come : Option (List (List ℕ))) (stream behind : Option R) (c new : ClientState) (now : SinkState)
    → (p : Lying views left_of job first coming0 before notes control coming stream c now) → (g : FullRunInvariant views left_of job first coming0 p.laid.given then_ next come behind new) → AreStepsSoFar job.task g.fresh g.moves new p.laid.given
    → Lying views left_of job first coming0 before then_ next come behind new now
lying_went views left_of job first coming0 before notes then_ control next coming come stream behind c new now p g s = record {
  laid = record { given = p.laid.given; going = g; steps = s; shelf = record { under_way = p.laid.shelf.under_way; files = p.laid.shelf.files; none = p.laid.shelf.none; shown = λ w. absurd (let clash : false ≡ true = w in cc) } };
  none = p.none;
}
