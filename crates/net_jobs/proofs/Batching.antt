-- How a job over streams is over, with the output of its last file under way, and a batch behind that.
use Rattle.std.proofs.Common.{◌≡◌, ◌∙◌, ◌⊎◌, ◌≤◌, ◌+◌, ℕ, Bool, true, false, Option, Some, None, Ok, Err, Result, List, [], ◌∷◌, ◌++◌, length, refl, sym, ap, subst, append_assoc, inl, inr, arith, length-append}
use Rattle.std.specs.Prelude.{All, IfErr}
use Rattle.std.proofs.lemmas.List.{append-nil}
use Rattle.std.proofs.lemmas.List.Elements.{All-append, All-nil, All-same}
use Rattle.sane_fixed.specs.declared.status.Status.{Status}
use Rattle.sane_fixed.specs.declared.status.Status.TheVariants as statuses
use Rattle.netpbm.specs.NoFile.{HoldsNoFile}
use Rattle.frame_join.proofs.GivenKept.{NoneBefore}
use Rattle.page_picture.specs.Shows.{Frame}
use Rattle.frame_join.specs.declared.join_stage.JoinFault.{JoinFault}
use Rattle.frame_join.specs.FrameHistory.{JoinHistory, IsJoined, is_joined, after_pull, answer_of_end, answer_by}
use Rattle.frame_join.specs.JoinStates.{JoinState, Represents}
use Rattle.frame_join.proofs.JoinedLaws.{rests_silent}
use Rattle.frame_join.proofs.StreamLaws.{nothing_holds_none}
use Rattle.scan_job.specs.JobSize.{HasCount}
use Rattle.scan_job.specs.Outcomes.{over_as}
use Rattle.scan_job.specs.declared.job.Job.{Job}
use Rattle.scan_job.specs.declared.job.Task.{Task}
use Rattle.scan_job.specs.declared.job.Task.TheVariants as tasks
use Rattle.scan_job.specs.declared.outcome.Outcome.{Outcome}
use Rattle.scan_job.specs.declared.outcome.Outcome.TheVariants.{Running, Done, Ended}
use Rattle.scan_job.specs.declared.outcome.Why.{Why}
use Rattle.scan_job.specs.declared.outcome.Why.TheVariants as whys
use Rattle.scan_job.specs.declared.report.Reports.{Reports}
use Rattle.scan_job.specs.declared.stop.Stop.{Stop}
use Rattle.client_replies.specs.ProtocolStates.{ProtocolState, target_of, is_running, is_ended, scans, HistoryFits, FitsDone, FitsEnded, IsBetweenFrames}
use Rattle.net_client.specs.ClientStates.{ClientState}
use Rattle.net_jobs.specs.JobJournal.{JobMove, dialled_by, given_by}
use Rattle.net_jobs.specs.Inside.{GivesAll, StopsAs, CallNotes, NotesMatch, HasTaken, HasTakenBack, HoldsNone, FillsShort, OutputIsUnderWay, SinkState, TurnsOn, FallsShort, HasFiledShort, CameDone, CameEnded, CameTo}
use Rattle.net_jobs.specs.JobSteps.{MovesStopWithin, StepsGive}
use Rattle.net_jobs.specs.RunPromises.{ByMemory, IfReports, SeenStreams}
use Rattle.net_jobs.specs.Links.{LinkViews, HasBrought}
use Rattle.net_jobs.proofs.InvariantRecords.{GivenFiles, FullRunInvariant, turned_given}
use Rattle.net_jobs.proofs.Asking.{asked_for}
use Rattle.net_jobs.specs.Outputs.{files_text, page_outputs_from}
use Rattle.scan_job.specs.FileOutputs.{refused_output}
use Rattle.net_jobs.specs.Batches.{IsPageFile, MayScan, last_whole_page}
use Rattle.net_jobs.proofs.FileNumbers.{IsFew, HasSome, counts}
use Rattle.net_jobs.proofs.JobEnds.{WholeShows, stops_over, HasRefusal, Leaves, all_written, ran_refuses, cause_of, followed, unopened, task_is, ran_by, ends_well}
use Rattle.net_jobs.proofs.Steps.{LastDelivers, same_steps, same_stop, stops_within}
use Rattle.net_jobs.proofs.Shelving.{Shut, Stored, Lying, PageIsTurned, shut_parted, ended_part, one_file, page_turned, from_here}
use Rattle.frame_join.specs.PictureText.{IsPictureFile}

-- ---- a join between frames has given nothing, if its picture is not whole

between_answers : (fault : Option JoinFault) (under : Option Frame) (ended : List Frame) → fault ≡ None → under ≡ None → is_joined ended ≡ false → answer_by fault under ended ≡ Ok false
between_answers (Some f) under ended a b c = absurd (let clash : Some f ≡ None = a in cc)
between_answers None (Some f) ended a b c = absurd (let clash : Some f ≡ None = b in cc)
between_answers None None ended a b c = ap (λ (x : Bool). Ok x) c

between_silent : (past : JoinHistory) (v : JoinState) → Represents past v → IsBetweenFrames past → past.given ≡ []
between_silent past v s b = rests_silent past v s b.1 (between_answers past.fault past.under past.ended b.0 b.1 b.2)

-- ---- a job that is done

done_fits : (task : Task) (outcome : Outcome) (reports : Reports) (v : ClientState) (past : JoinHistory) → outcome ≡ Done reports → HistoryFits task outcome v.progress past → FitsDone task past
done_fits task outcome reports v past e f = subst (λ (o : Outcome). HistoryFits task o v.progress past) e f

-- only a job that scans has a whole picture then
joined_scans : (task : Task) (past : JoinHistory) → FitsDone task past → IsJoined past → scans task ≡ true
joined_scans tasks.List past f joined = absurd (f joined)
joined_scans tasks.Show past f joined = absurd (f joined)
joined_scans tasks.SetOnly past f joined = absurd (f joined)
joined_scans tasks.Scan past f joined = refl
joined_scans (tasks.Batch count) past f joined = refl

none_between : (past : JoinHistory) (v : JoinState) → Represents past v → (IsJoined past → ⊥) → IsJoined past ⊎ IsBetweenFrames past → past.given ≡ []
none_between past v s unjoined (inl joined) = absurd (unjoined joined)
none_between past v s unjoined (inr b) = between_silent past v s b

done_none : (task : Task) (past : JoinHistory) (v : JoinState) → Represents past v → FitsDone task past → (IsJoined past → ⊥) → (scans task ≡ false → past.given ≡ []) → past.given ≡ []
done_none tasks.List past v s f unjoined none = none refl
done_none tasks.Show past v s f unjoined none = none refl
done_none tasks.SetOnly past v s f unjoined none = none refl
done_none tasks.Scan past v s f unjoined none = absurd (unjoined f)
done_none (tasks.Batch count) past v s f unjoined none = none_between past v s unjoined f

last_few : (a : Result Bool JoinFault) (page : JoinHistory) → length (last_whole_page a page) ≤ 1
last_few (Ok true) page = omega arith
last_few (Ok false) page = omega arith
last_few (Err fault) page = omega arith

last_one : (a : Result Bool JoinFault) (page : JoinHistory) → a ≡ Ok true → length (last_whole_page a page) ≡ 1
last_one (Ok true) page e = refl
last_one (Ok false) page e = absurd (let clash : Ok false ≡ Ok true = e in cc)
last_one (Err fault) page e = absurd (let clash : Err fault ≡ Ok true = e in cc)

last_none : (a : Result Bool JoinFault) (page : JoinHistory) → (a ≡ Ok true → ⊥) → last_whole_page a page ≡ []
last_none (Ok true) page e = absurd (e refl)
last_none (Ok false) page e = refl
last_none (Err fault) page e = refl

batch_some : (count n file : ℕ) (past : JoinHistory) → file ≡ n + 1 → IsJoined past ⊎ HasSome (tasks.Batch count) file → 1 ≤ n + length (last_whole_page (answer_of_end past) past)
batch_some count n file past e (inl joined) = omega (arith, last_one (answer_of_end past) past joined)
batch_some count n file past e (inr some) = omega (arith, e, some)

may_scan : (task : Task) (n file : ℕ) (past : JoinHistory) → FitsDone task past → IsFew task n → file ≡ n + 1 → IsJoined past ⊎ HasSome task file → MayScan task (n + length (last_whole_page (answer_of_end past) past))
may_scan tasks.List n file past f few e some = omega (arith, few, ap (λ (l : List JoinHistory). length l) (last_none (answer_of_end past) past f))
may_scan tasks.Show n file past f few e some = omega (arith, few, ap (λ (l : List JoinHistory). length l) (last_none (answer_of_end past) past f))
may_scan tasks.SetOnly n file past f few e some = omega (arith, few, ap (λ (l : List JoinHistory). length l) (last_none (answer_of_end past) past f))
may_scan tasks.Scan n file past f few e some = omega (arith, few, last_one (answer_of_end past) past f)
may_scan (tasks.Batch count) n file past f few e some = (batch_some count n file past e some, omega (arith, few, last_few (answer_of_end past) past))

last_file : (a : Result Bool JoinFault) (page : JoinHistory) → (a ≡ Ok true → IsPageFile page) → All IsPageFile (last_whole_page a page)
last_file (Ok true) page file = one_file page (file refl)
last_file (Ok false) page file = All-nil IsPageFile
last_file (Err fault) page file = All-nil IsPageFile

pub came_done : {C R : Type 0} (views : LinkViews C) (left_of : R → Option (List ℕ)) (job : Job) (first : C) (coming0 : Option (List (List ℕ))) (before : SinkState) (notes : CallNotes) (links : C) (coming : Option (List (List ℕ))) (stream : Option R) (c : ClientState) (now : SinkState) (reports : Reports)
    → HasCount job.task → WholeShows → c.outcome ≡ Done reports
    → Shut views left_of job first coming0 before notes true links coming stream c now → CameTo views job (record { links = first; coming = coming0; output = before }) (record { links = links; coming = coming; output = now }) (Done reports) notes
came_done views left_of job first coming0 before notes links coming stream c now reports h shows done d =
    let s = d.stage in
    let f = followed left_of d.moves coming0 coming s.trace s.rest stream c s.history reports done s.stands in
    let l = unopened left_of coming0 coming s.trace.streams stream c s.history (ap is_running done) f.linked in
    let told : s.trace.protocol.outcome ≡ Done reports = ap (λ (t : ProtocolState). t.outcome) (sym f.protocol_is) ∙ done in
    let past_is : s.history ≡ s.trace.protocol.history = ap (λ (t : ProtocolState). t.history) f.protocol_is in
    let fits : FitsDone job.task s.history = subst (λ (t : Task). FitsDone t s.history) (task_is c job s.target) (done_fits c.target.task c.outcome reports c s.history done s.serves.fits) in
    let given_is : d.given.bytes ≡ s.history.given = sym s.given_is in
    let file : IsJoined s.history → IsPageFile s.history = λ joined.
    (let p = shows s.history c.join s.serves.stands joined in
    record { picture = p.0; shows = p.1; file = subst (λ (t : List ℕ). IsPictureFile t p.0) given_is (d.shelf.shown refl (joined_scans job.task s.history fits joined) (ap is_ended done) joined p.0 p.1) }) in
    let counted = counts job s.did.events s.trace h s.did.runs in
    let steps = d.steps (inl refl) in (
      record {
        ran = record {
          moves = d.moves;
          first = d.fresh;
          last = d.last;
          fresh = d.is_fresh;
          leads = d.leads;
          told = d.told;
          rest = s.rest;
          left = d.left;
          trace = s.trace;
          calls = d.calls;
          did = s.did;
          asked = asked_for job s.did.events s.trace (dialled_by d.moves) c.outcome s.did.runs s.asked;
          wholes = l.wholes;
          unread = [];
          begin = l.begin;
          brought = subst (λ (w : List (List ℕ)). HasBrought coming0 coming w) (sym (append-nil l.wholes)) l.brought;
          few = omega arith;
        };
        told = told;
        last_told = d.ends ∙ done;
        steps = steps.steps;
        went_out = subst (λ (q : List JoinHistory). StepsGive steps.steps.steps q s.trace.protocol.history.given) (sym s.pages_is)
            (subst (λ (t : List ℕ). StepsGive steps.steps.steps d.given.pages t) (given_is ∙ ap (λ (q : JoinHistory). q.given) past_is) steps.give);
        all = d.all;
        read_all = refl;
        end_well = ends_well (target_of job) _ s.did.events s.trace s.did.runs (ap is_ended told);
        count = subst (λ (n : ℕ). MayScan job.task n) (sym (length-append s.trace.pages (last_whole_page (answer_of_end s.trace.protocol.history) s.trace.protocol.history)))
            (may_scan job.task (length s.trace.pages) s.trace.protocol.notes.file s.trace.protocol.history (subst (λ (q : JoinHistory). FitsDone job.task q) past_is fits) counted.few counted.number (counted.done reports told));
        files = All-append IsPageFile s.trace.pages (last_whole_page (answer_of_end s.trace.protocol.history) s.trace.protocol.history) (All-same IsPageFile s.trace.pages d.given.pages s.pages_is d.shelf.files)
            (subst (λ (q : JoinHistory). All IsPageFile (last_whole_page (answer_of_end q) q)) past_is (last_file (answer_of_end s.history) s.history file));
        gave = ap (λ (l : List JoinHistory). files_text l ++ s.trace.protocol.history.given) s.pages_is ∙ ap (λ (l : List ℕ). files_text d.given.pages ++ l) (sym (ap (λ (q : JoinHistory). q.given) past_is) ∙ s.given_is) ∙ d.gave;
        under_way = subst (λ (q : List JoinHistory). OutputIsUnderWay before (page_outputs_from 1 q) now (length q + 1) s.trace.protocol.history.given) (sym s.pages_is)
            (subst (λ (t : List ℕ). OutputIsUnderWay before (page_outputs_from 1 d.given.pages) now (length d.given.pages + 1) t) (given_is ∙ ap (λ (q : JoinHistory). q.given) past_is) d.shelf.under_way);
        none = λ unjoined. sym (ap (λ (q : JoinHistory). q.given) past_is) ∙ done_none job.task s.history c.join s.serves.stands fits (λ joined. unjoined (subst (λ (q : JoinHistory). IsJoined q) past_is joined)) (λ other. s.given_is ∙ d.shelf.none other);
        last = λ joined. subst (λ (q : JoinHistory). IsPageFile q) past_is (file (subst (λ (q : JoinHistory). IsJoined q) (sym past_is) joined));
      },
      d.notes_are,
    )

-- ---- a job that has ended otherwise

gave_all : (pages given : List JoinHistory) (bytes : List ℕ) (was now : List JobMove) → pages ≡ given → files_text given ++ bytes ≡ given_by was → now ≡ was → files_text pages ++ bytes ≡ given_by now ++ []
gave_all pages given bytes was now same gave is = ap (λ (l : List JoinHistory). files_text l ++ bytes) same ∙ gave ∙ ap (λ (m : List JobMove). given_by m) (sym is) ∙ sym (append-nil (given_by now))

ended_fits : (outcome : Outcome) (status : Status) (why : Why) (task : Task) (v : ClientState) (past : JoinHistory) → outcome ≡ Ended status why → HistoryFits task outcome v.progress past → FitsEnded task past
ended_fits outcome status why task v past e f = subst (λ (o : Outcome). HistoryFits task o v.progress past) e f

pub came_ended : {L R : Type 0} {whole : Bool} (views : LinkViews L) (left_of : R → Option (List ℕ)) (job : Job) (first : L) (coming0 : Option (List (List ℕ))) (before : SinkState) (notes : CallNotes) (links : L) (coming : Option (List (List ℕ))) (stream : Option R) (c : ClientState) (now : SinkState) (status : Status) (why : Why)
    → NoneBefore → c.outcome ≡ Ended status why
    → Shut views left_of job first coming0 before notes whole links coming stream c now → CameTo views job (record { links = first; coming = coming0; output = before }) (record { links = links; coming = coming; output = now }) (Ended status why) notes
came_ended views left_of job first coming0 before notes links coming stream c now status why law over d =
    let s = d.stage in
    let r = ran_by views left_of job (record { links = first; coming = coming0; output = before }) (record { links = links; coming = coming; output = now }) stream c d.given d.moves d.left d.fresh d.last d.is_fresh d.leads d.told d.calls s s.stands in
    let fits = ended_fits c.outcome status why c.target.task c s.history over s.serves.fits in (
      record {
        ran = r.ran;
        cause = cause_of r.ran.moves r.ran.trace.protocol r.ran.rest c.outcome (Ended status why) over r.cause;
        all = λ other. all_written d.moves r.ran.moves d.left r.ran.left r.moves_is r.left_is d.all;
        refusal = subst HasRefusal over (ran_refuses job r.ran.moves r.ran.trace _ _ r.ran.rest r.ran.left c.outcome r.ran.did r.cause);
        last_told = inl (ap (λ (v : ClientState). v.outcome) r.last_is ∙ d.ends ∙ over);
        steps = λ told. (let x = same_steps d.fresh r.ran.first d.moves r.ran.moves d.last r.ran.last d.given r.first_is r.moves_is r.last_is (d.steps (inr (ap is_ended over))) in
            (x.steps, subst (λ (q : List JoinHistory). StepsGive x.steps.steps q d.given.bytes) (sym r.pages_is) x.give));
        sunk = λ sink other. absurd (other (ap (λ (v : ClientState). v.outcome) r.last_is ∙ d.ends ∙ over));
        files = All-same IsPageFile r.ran.trace.pages d.given.pages r.pages_is d.shelf.files;
        text = d.given.bytes;
        behind = [];
        gave = gave_all r.ran.trace.pages d.given.pages d.given.bytes d.moves r.ran.moves r.pages_is d.gave r.moves_is;
        none_behind = λ other. refl;
        sink = inl (subst (λ (q : List JoinHistory). HasTaken before (page_outputs_from 1 q) now (length q + 1) d.given.bytes) (sym r.pages_is) d.shelf.under_way.taken);
        none = subst HoldsNoFile s.given_is (law s.history c.join s.serves.stands (ended_part c.target.task s.history fits));
      },
      subst (λ (m : List JobMove). NotesMatch m notes) (sym r.moves_is) d.notes_are,
    )

-- there was no memory for what was to be told
came_untold : {L R : Type 0} {whole : Bool} (views : LinkViews L) (left_of : R → Option (List ℕ)) (job : Job) (first : L) (coming0 : Option (List (List ℕ))) (before : SinkState) (notes : CallNotes) (links : L) (coming : Option (List (List ℕ))) (stream : Option R) (c : ClientState) (now : SinkState) (reports : Reports)
    → c.outcome ≡ Done reports → (d : Shut views left_of job first coming0 before notes whole links coming stream c now) → HoldsNoFile d.given.bytes → CameTo views job (record { links = first; coming = coming0; output = before }) (record { links = links; coming = coming; output = now }) (Ended statuses.NoMem whys.Memory) notes
came_untold views left_of job first coming0 before notes links coming stream c now reports done d none =
    let s = d.stage in
    let r = ran_by views left_of job (record { links = first; coming = coming0; output = before }) (record { links = links; coming = coming; output = now }) stream c d.given d.moves d.left d.fresh d.last d.is_fresh d.leads d.told d.calls s s.stands in (
      record {
        ran = r.ran;
        cause = inr (inl (ByMemory refl));
        all = λ other. all_written d.moves r.ran.moves d.left r.ran.left r.moves_is r.left_is d.all;
        refusal = λ e. cc;
        last_told = inr (inl (reports, ap (λ (v : ClientState). v.outcome) r.last_is ∙ d.ends ∙ done, refl));
        steps = λ told. absurd (let clash : Done reports ≡ Ended statuses.NoMem whys.Memory = sym (ap (λ (v : ClientState). v.outcome) r.last_is ∙ d.ends ∙ done) ∙ told in cc);
        sunk = λ sink. absurd (let clash : whys.Memory ≡ whys.Sink = sink in cc);
        files = All-same IsPageFile r.ran.trace.pages d.given.pages r.pages_is d.shelf.files;
        text = d.given.bytes;
        behind = [];
        gave = gave_all r.ran.trace.pages d.given.pages d.given.bytes d.moves r.ran.moves r.pages_is d.gave r.moves_is;
        none_behind = λ other. refl;
        sink = inl (subst (λ (q : List JoinHistory). HasTaken before (page_outputs_from 1 q) now (length q + 1) d.given.bytes) (sym r.pages_is) d.shelf.under_way.taken);
        none = none;
      },
      subst (λ (m : List JobMove). NotesMatch m notes) (sym r.moves_is) d.notes_are,
    )

stopped_by : {L R : Type 0} {whole : Bool} (views : LinkViews L) (left_of : R → Option (List ℕ)) (job : Job) (first : L) (coming0 : Option (List (List ℕ))) (before : SinkState) (notes : CallNotes) (links : L) (coming : Option (List (List ℕ))) (stream : Option R) (c : ClientState) (now : SinkState) (outcome : Outcome) (stop : Stop)
    → NoneBefore → c.outcome ≡ outcome → StopsAs outcome stop → (d : Shut views left_of job first coming0 before notes whole links coming stream c now) → HoldsNoFile d.given.bytes
    → CameTo views job (record { links = first; coming = coming0; output = before }) (record { links = links; coming = coming; output = now }) (Ended stop.status stop.why) notes
stopped_by views left_of job first coming0 before notes links coming stream c now Running stop law over ends d none = absurd ends
stopped_by views left_of job first coming0 before notes links coming stream c now (Done reports) stop law over ends d none =
    subst (λ (x : Stop). CameTo views job (record { links = first; coming = coming0; output = before }) (record { links = links; coming = coming; output = now }) (Ended x.status x.why) notes) (sym ends) (came_untold views left_of job first coming0 before notes links coming stream c now reports over d none)
stopped_by views left_of job first coming0 before notes links coming stream c now (Ended status why) stop law over ends d none =
    subst (λ (x : Stop). CameTo views job (record { links = first; coming = coming0; output = before }) (record { links = links; coming = coming; output = now }) (Ended x.status x.why) notes) (sym ends) (came_ended views left_of job first coming0 before notes links coming stream c now status why law over d)

-- a job that is over of which nothing is told
pub came_stopped : {L R : Type 0} (views : LinkViews L) (left_of : R → Option (List ℕ)) (job : Job) (first : L) (coming0 : Option (List (List ℕ))) (before : SinkState) (was notes : CallNotes) (then_ links : L) (coming : Option (List (List ℕ))) (stream : Option R) (c : ClientState) (now : SinkState) (stop : Stop)
    → NoneBefore → StopsAs c.outcome stop → Leaves views then_ was c.out links notes → Lying views left_of job first coming0 before was then_ coming stream c now
    → CameTo views job (record { links = first; coming = coming0; output = before }) (record { links = links; coming = coming; output = now }) (Ended stop.status stop.why) notes
came_stopped views left_of job first coming0 before was notes then_ links coming stream c now stop law ends leaves p =
    let d = shut_parted views left_of job first coming0 before was notes then_ links coming stream c now (stops_over c.outcome stop ends) leaves p.laid in
    stopped_by views left_of job first coming0 before notes links coming stream c now c.outcome stop law refl ends d.0 (subst (λ (g : GivenFiles). HoldsNoFile g.bytes) (sym d.1) p.none)

-- ---- the shelf or an output did not take what it was to

refused_next : {L R : Type 0} (views : LinkViews L) (left_of : R → Option (List ℕ)) (job : Job) (first : L) (coming0 : Option (List (List ℕ))) (before : SinkState) (notes : CallNotes) (links : L) (coming : Option (List (List ℕ))) (stream : Option R) (new : ClientState) (now : SinkState) (given : GivenFiles) (page : JoinHistory)
    → (t : PageIsTurned views left_of job first coming0 given page notes links coming stream new) → MovesStopWithin t.going.fresh t.going.moves new → All IsPageFile given.pages → HoldsNone now
    → HasTakenBack before (page_outputs_from 1 given.pages ++ refused_output (length given.pages + 1) page.given ∷ []) now
    → CameTo views job (record { links = first; coming = coming0; output = before }) (record { links = links; coming = coming; output = now }) (Ended statuses.IoError whys.Sink) notes
refused_next views left_of job first coming0 before notes links coming stream new now given page t stop files none refused =
    let g = t.going in
    let s = g.stage in
    let r = ran_by views left_of job (record { links = first; coming = coming0; output = before }) (record { links = links; coming = coming; output = now }) stream new (turned_given given page) g.moves g.left g.fresh new g.is_fresh g.leads g.told.told g.calls s s.stands in (
      record {
        ran = r.ran;
        cause = inr (inr refl);
        all = λ other. absurd (other refl);
        refusal = λ e. cc;
        last_told = inr (inr refl);
        steps = λ told. absurd (let clash : true ≡ false = sym (ap is_ended (sym (ap (λ (v : ClientState). v.outcome) r.last_is) ∙ told)) ∙ t.alive in cc);
        sunk = λ sink other. same_stop g.fresh r.ran.first g.moves r.ran.moves new r.ran.last r.first_is r.moves_is r.last_is stop;
        files = All-same IsPageFile r.ran.trace.pages (given.pages ++ page ∷ []) r.pages_is (All-append IsPageFile given.pages (page ∷ []) files (one_file page t.file));
        text = [];
        none = nothing_holds_none;
        behind = [];
        gave = gave_all r.ran.trace.pages (given.pages ++ page ∷ []) [] g.moves r.ran.moves r.pages_is g.gave r.moves_is;
        none_behind = λ other. refl;
        sink = inr (refl, refl, record { shelved = given.pages; last = page; pages_are = r.pages_is; outputs = refused; none = none });
      },
      subst (λ (m : List JobMove). NotesMatch m notes) (sym r.moves_is) g.notes_are,
    )

sunk_by : {L R : Type 0} (views : LinkViews L) (left_of : R → Option (List ℕ)) (job : Job) (first : L) (coming0 : Option (List (List ℕ))) (before : SinkState) (notes : CallNotes) (links : L) (coming : Option (List (List ℕ))) (stream : Option R) (c new : ClientState) (now : SinkState) (given : GivenFiles) (gives : List JobMove)
    → WholeShows → scans job.task ≡ true → All IsPageFile given.pages
    → (g : FullRunInvariant views left_of job first coming0 given notes links coming stream c) → is_ended c.outcome ≡ false → LastDelivers job.task g.fresh g.moves c given → GivesAll c gives new
    → FallsShort g.stage.history.given (length given.pages + 1) before (page_outputs_from 1 given.pages) now ⊎ TurnsOn g.stage.history c (length given.pages + 1) before (page_outputs_from 1 given.pages) (given_by gives) false new now
    → CameTo views job (record { links = first; coming = coming0; output = before }) (record { links = links; coming = coming; output = now }) (Ended statuses.IoError whys.Sink) notes
sunk_by views left_of job first coming0 before notes links coming stream c new now given gives shows scanning files g alive last all (inl short) =
    let s = g.stage in
    let r = ran_by views left_of job (record { links = first; coming = coming0; output = before }) (record { links = links; coming = coming; output = now }) stream c given g.moves g.left g.fresh c g.is_fresh g.leads g.told.told g.calls s s.stands in (
      record {
        ran = r.ran;
        cause = inr (inr refl);
        all = λ other. absurd (other refl);
        refusal = λ e. cc;
        last_told = inr (inr refl);
        steps = λ told. absurd (let clash : true ≡ false = sym (ap is_ended (sym (ap (λ (v : ClientState). v.outcome) r.last_is) ∙ told)) ∙ alive in cc);
        sunk = λ sink other. same_stop g.fresh r.ran.first g.moves r.ran.moves c r.ran.last r.first_is r.moves_is r.last_is (stops_within job.task g.fresh g.moves c given [] c tt refl last);
        files = All-same IsPageFile r.ran.trace.pages given.pages r.pages_is files;
        text = s.history.given ++ short.behind;
        none = short.none;
        behind = short.behind;
        gave = ap (λ (q : List JoinHistory). files_text q ++ (s.history.given ++ short.behind)) r.pages_is ∙ ap (λ (l : List ℕ). files_text given.pages ++ (l ++ short.behind)) s.given_is
            ∙ sym (append_assoc (files_text given.pages) given.bytes short.behind) ∙ ap (λ (l : List ℕ). l ++ short.behind) g.gave ∙ ap (λ (m : List JobMove). given_by m ++ short.behind) (sym r.moves_is);
        none_behind = λ other. absurd (other refl);
        sink = inl (subst (λ (q : List JoinHistory). HasTaken before (page_outputs_from 1 q) now (length q + 1) (s.history.given ++ short.behind)) (sym r.pages_is) short.taken);
      },
      subst (λ (m : List JobMove). NotesMatch m notes) (sym r.moves_is) g.notes_are,
    )
sunk_by views left_of job first coming0 before notes links coming stream c new now given gives shows scanning files g alive last all (inr e) =
    let t = page_turned views left_of job first coming0 before notes links coming stream c new now given gives false shows g all e in
    refused_next views left_of job first coming0 before notes links coming stream new now given (after_pull (given_by gives) g.stage.history) t.0
    (same_stop g.fresh t.0.going.fresh (gives ++ g.moves) t.0.going.moves new new t.2 t.1 refl (stops_within job.task g.fresh g.moves c given gives new all.are all.leads last)) files e.none e.taken

sunk_at : {L R : Type 0} {was_whole : Bool} (views : LinkViews L) (left_of : R → Option (List ℕ)) (job : Job) (first : L) (coming0 : Option (List (List ℕ))) (before was : SinkState) (notes : CallNotes) (links : L) (coming : Option (List (List ℕ))) (stream : Option R) (c old new : ClientState) (now : SinkState) (given : GivenFiles) (past : JoinHistory) (is_scanning b : Bool) (result : Bool)
    → is_scanning ≡ b → is_scanning ≡ scans job.task → HasCount job.task → WholeShows
    → Stored was_whole job before was given old past → (g : FullRunInvariant views left_of job first coming0 given notes links coming stream c) → is_ended c.outcome ≡ false → LastDelivers job.task g.fresh g.moves c given
    → result ≡ false → (is_scanning ≡ false → result ≡ true)
    → FillsShort c was new now
    → CameTo views job (record { links = first; coming = coming0; output = before }) (record { links = links; coming = coming; output = now }) (Ended statuses.IoError whys.Sink) notes
sunk_at views left_of job first coming0 before was notes links coming stream c old new now given past is_scanning true result e scanning h shows shelf g alive last fails none goes =
    sunk_by views left_of job first coming0 before notes links coming stream c new now given goes.0 shows (sym scanning ∙ e) shelf.files g alive last goes.1
    (from_here views left_of job first coming0 before was notes links coming stream c old given past (λ b outputs k q. HasFiledShort q c k b outputs (given_by goes.0) new now) (sym scanning ∙ e) h shelf g goes.2)
sunk_at views left_of job first coming0 before was notes links coming stream c old new now given past is_scanning false result e scanning h shows shelf g alive last fails none goes =
    absurd (let clash : true ≡ false = sym (none e) ∙ fails in cc)

pub came_sunk : {L R : Type 0} {was_whole : Bool} (views : LinkViews L) (left_of : R → Option (List ℕ)) (job : Job) (first : L) (coming0 : Option (List (List ℕ))) (before was : SinkState) (notes : CallNotes) (links : L) (coming : Option (List (List ℕ))) (stream : Option R) (c old new : ClientState) (now : SinkState) (given : GivenFiles) (past : JoinHistory) (is_scanning result : Bool)
    → is_scanning ≡ scans job.task → HasCount job.task → WholeShows
    → Stored was_whole job before was given old past → (g : FullRunInvariant views left_of job first coming0 given notes links coming stream c) → is_ended c.outcome ≡ false → LastDelivers job.task g.fresh g.moves c given
    → result ≡ false → (is_scanning ≡ false → result ≡ true)
    → FillsShort c was new now
    → CameTo views job (record { links = first; coming = coming0; output = before }) (record { links = links; coming = coming; output = now }) (Ended statuses.IoError whys.Sink) notes
came_sunk views left_of job first coming0 before was notes links coming stream c old new now given past is_scanning result scanning h shows shelf g alive last fails none goes =
    sunk_at views left_of job first coming0 before was notes links coming stream c old new now given past is_scanning is_scanning result refl scanning h shows shelf g alive last fails none goes

-- ---- by the case of what a job came to

pub came_ok : {L T : Type 0} (views : LinkViews L) (job : Job) (was now : SeenStreams L SinkState) (notes : CallNotes) (result : Result (Reports × T) Stop) → CameTo views job was now (over_as result) notes → IfReports result (CameDone views job was now)
came_ok views job was now notes (Ok done) came = came.0
came_ok views job was now notes (Err stop) came = tt

pub came_err : {L T : Type 0} (Refused : Stop → Type 0) (views : LinkViews L) (job : Job) (was now : SeenStreams L SinkState) (notes : CallNotes) (result : Result (Reports × T) Stop) → CameTo views job was now (over_as result) notes
    → IfErr result (λ stop. Refused stop ⊎ CameEnded views job was now stop)
came_err Refused views job was now notes (Ok done) came = tt
came_err Refused views job was now notes (Err stop) came = inr came.0
