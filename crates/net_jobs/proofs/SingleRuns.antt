-- A job of one output, which is no batch.
use Rattle.std.proofs.Common.{◌≡◌, ◌≢◌, ◌∙◌, ◌⊎◌, ◌+◌, ◌↔◌, ℕ, Bool, true, false, Option, Ok, Err, Result, List, [], ◌∷◌, ◌++◌, length, refl, sym, ap, subst, inl, inr, arith, length-append}
use Rattle.std.specs.Prelude.{IfErr, IsTrue}
use Rattle.std.specs.Io.KnownBytes.{Appends}
use Rattle.netpbm.specs.Picture.{Picture}
use Rattle.page_picture.specs.Shows.{ShowsFrames}
use Rattle.frame_join.specs.declared.join_stage.JoinFault.{JoinFault}
use Rattle.frame_join.specs.FrameHistory.{JoinHistory, answer_of_end}
use Rattle.scan_job.specs.JobSize.{HasCount, IsBatch}
use Rattle.scan_job.specs.Stops.{failed_output}
use Rattle.scan_job.specs.declared.job.Job.{Job}
use Rattle.scan_job.specs.declared.job.Task.{Task}
use Rattle.scan_job.specs.declared.job.Task.TheVariants as tasks
use Rattle.scan_job.specs.declared.outcome.Outcome.TheVariants.{Ended}
use Rattle.scan_job.specs.declared.report.Reports.{Reports}
use Rattle.scan_job.specs.declared.stop.Stop.{Stop}
use Rattle.client_replies.specs.ProtocolStates.{is_batch}
use Rattle.net_jobs.specs.Batches.{IsPageFile, MayScan, RefusesBatch, last_whole_page, pages_of}
use Rattle.net_jobs.specs.Inside.{CameDone, CameEnded, HasTaken, LastIsRefused}
use Rattle.net_jobs.specs.Inside.SinkState.{OneOutput}
use Rattle.net_jobs.specs.JobTraces.{JobTrace, BytesMatchTrace}
use Rattle.net_jobs.specs.Links.{LinkViews}
use Rattle.net_jobs.specs.Outputs.{files_text, page_outputs_from}
use Rattle.net_jobs.specs.RunPromises.{IfReports, JobStreams, RanDone, RanEnded, RefusesJob, SeenStreams}
use Rattle.net_jobs.proofs.BatchEnds.{ran_alike, with_output}
use Rattle.net_jobs.proofs.FileNumbers.{IsFew, counts}
use Rattle.frame_join.specs.PictureText.{IsPictureFile}

pub single_by : (task : Task) (b : Bool) → IsTrue b ↔ IsBatch task → b ≡ false → is_batch task ≡ false
single_by (tasks.Batch count) b e unset = let clash : true ≡ false = sym (e.1 tt) ∙ unset in cc
single_by task b e unset = refl

-- ---- it turns no page

pub few_pages : (task : Task) → is_batch task ≡ false → HasCount task × ((n : ℕ) → IsFew task n → n ≡ 0)
few_pages tasks.List single = (tt, λ n few. few)
few_pages tasks.Show single = (tt, λ n few. few)
few_pages tasks.SetOnly single = (tt, λ n few. few)
few_pages tasks.Scan single = (tt, λ n few. few)
few_pages (tasks.Batch count) single = absurd (let clash : true ≡ false = single in cc)

no_pages : (pages : List JoinHistory) → length pages ≡ 0 → pages ≡ []
no_pages [] e = refl
no_pages (page ∷ pages) e = absurd (omega (arith, e))

none_turned : (job : Job) (trace : JobTrace) (read_ wrote rest left : List ℕ) → is_batch job.task ≡ false → BytesMatchTrace job trace (record { read_ = read_; wrote = wrote; rest = rest; left = left }) → trace.pages ≡ []
none_turned job trace read_ wrote rest left single did =
    let few = few_pages job.task single in
    no_pages trace.pages (few.1 (length trace.pages) (counts job did.events trace few.0 did.runs).few)

-- ---- its output took one file

took_one : (pages : List JoinHistory) (was now : Option (List ℕ)) (k : ℕ) (bytes : List ℕ) → pages ≡ [] → HasTaken (OneOutput was) (page_outputs_from 1 pages) (OneOutput now) k bytes → Appends was now bytes
took_one pages was now k bytes none taken = taken (ap (λ (l : List JoinHistory). page_outputs_from 1 l) none)

last_one : (a : Result Bool JoinFault) (page : JoinHistory) → length (last_whole_page a page) ≡ 1 → a ≡ Ok true
last_one (Ok true) page e = refl
last_one (Ok false) page e = absurd (omega (arith, e))
last_one (Err fault) page e = absurd (omega (arith, e))

last_none : (a : Result Bool JoinFault) (page : JoinHistory) → length (last_whole_page a page) ≡ 0 → a ≡ Ok true → ⊥
last_none (Ok true) page e joined = omega (arith, e)
last_none (Ok false) page e joined = let clash : Ok false ≡ Ok true = joined in cc
last_none (Err fault) page e joined = let clash : Err fault ≡ Ok true = joined in cc

scans_one : (task : Task) (n : ℕ) → task ≡ tasks.Scan → MayScan task n → n ≡ 1
scans_one task n scan may = subst (λ (t : Task). MayScan t n) scan may

scans_none : (task : Task) (n : ℕ) → is_batch task ≡ false → task ≢ tasks.Scan → MayScan task n → n ≡ 0
scans_none tasks.List n single other may = may
scans_none tasks.Show n single other may = may
scans_none tasks.SetOnly n single other may = may
scans_none tasks.Scan n single other may = absurd (other refl)
scans_none (tasks.Batch count) n single other may = absurd (let clash : true ≡ false = single in cc)

-- ---- what it came to

abbrev one_page : JobTrace → List JoinHistory
one_page trace = last_whole_page (answer_of_end trace.protocol.history) trace.protocol.history

page_count : (trace : JobTrace) (n : ℕ) → trace.pages ≡ [] → length (pages_of trace) ≡ n → length (one_page trace) ≡ n
page_count trace n none e = sym (ap (λ (l : List JoinHistory). length (l ++ one_page trace)) none) ∙ e

file_shown : (page : JoinHistory) → IsPageFile page → (p : Picture) × ShowsFrames page.ended p × IsPictureFile page.given p
file_shown page f = (f.picture, f.shows, f.file)

single_done : {L : Type 0} (views : LinkViews L) (job : Job) (was now : SeenStreams L (Option (List ℕ))) (reports : Reports) → is_batch job.task ≡ false
    → CameDone views job (with_output was (OneOutput was.output)) (with_output now (OneOutput now.output)) reports → RanDone views job was now reports
single_done views job was now reports single d =
    let trace = d.ran.trace in
    let pages : trace.pages ≡ [] = none_turned job trace _ _ _ _ single d.ran.did in
    record {
      single = single;
      ran = ran_alike views job was now (OneOutput was.output) (OneOutput now.output) d.ran;
      told = d.told;
      last_told = d.last_told;
      steps = d.steps;
      all = d.all;
      read_all = d.read_all;
      end_well = d.end_well;
      text = trace.protocol.history.given;
      taken = took_one trace.pages was.output now.output (length trace.pages + 1) trace.protocol.history.given pages d.under_way.taken;
      gave = sym (ap (λ (l : List JoinHistory). files_text l ++ trace.protocol.history.given) pages) ∙ d.gave;
      went_out = d.went_out.under_way;
      file = λ scan. file_shown trace.protocol.history (d.last (last_one (answer_of_end trace.protocol.history) trace.protocol.history (page_count trace 1 pages (scans_one job.task (length (pages_of trace)) scan d.count))));
      none = λ other. d.none (last_none (answer_of_end trace.protocol.history) trace.protocol.history (page_count trace 0 pages (scans_none job.task (length (pages_of trace)) single other d.count)));
    }

-- no output was refused that is never given back
sink_took : (pages : List JoinHistory) (was now : Option (List ℕ)) (k : ℕ) (text : List ℕ) (stop : Stop) → pages ≡ []
    → HasTaken (OneOutput was) (page_outputs_from 1 pages) (OneOutput now) k text ⊎ ((text ≡ []) × (stop ≡ failed_output) × LastIsRefused pages (OneOutput was) (OneOutput now)) → Appends was now text
sink_took pages was now k text stop none (inl taken) = took_one pages was now k text none taken
sink_took pages was now k text stop none (inr refused) =
    absurd (omega (arith, ap (λ (l : List JoinHistory). length l) (sym none ∙ refused.2.pages_are), length-append refused.2.shelved (refused.2.last ∷ [])))

single_ended : {L : Type 0} (views : LinkViews L) (job : Job) (was now : SeenStreams L (Option (List ℕ))) (stop : Stop) → is_batch job.task ≡ false
    → CameEnded views job (with_output was (OneOutput was.output)) (with_output now (OneOutput now.output)) stop → RanEnded views job was now stop
single_ended views job was now stop single d =
    let pages : d.ran.trace.pages ≡ [] = none_turned job d.ran.trace _ _ _ _ single d.ran.did in
    record {
      single = single;
      ran = ran_alike views job was now (OneOutput was.output) (OneOutput now.output) d.ran;
      cause = d.cause;
      last_told = d.last_told;
      all = d.all;
      refusal = d.refusal;
      text = d.text;
      taken = sink_took d.ran.trace.pages was.output now.output (length d.ran.trace.pages + 1) d.text stop pages d.sink;
      behind = d.behind;
      gave = sym (ap (λ (l : List JoinHistory). files_text l ++ d.text) pages) ∙ d.gave;
      none_behind = d.none_behind;
      steps = λ told. (let s = d.steps told in (s.0, s.1.under_way));
      sunk = d.sunk;
      none = d.none;
    }

-- by the case of what it gave
pub single_ok : {L T : Type 0} (views : LinkViews L) (job : Job) (was now : SeenStreams L (Option (List ℕ))) (result : Result (Reports × T) Stop) → is_batch job.task ≡ false
    → IfReports result (CameDone views job (with_output was (OneOutput was.output)) (with_output now (OneOutput now.output))) → IfReports result (RanDone views job was now)
single_ok views job was now (Ok done) single came = single_done views job was now done.0 single came
single_ok views job was now (Err stop) single came = tt

pub single_err : {L T C D W : Type 0} (Untouched : Type 0) (views : LinkViews L) (job : Job) (was now : SeenStreams L (Option (List ℕ))) (before behind : JobStreams C D W) (result : Result (Reports × T) Stop) → is_batch job.task ≡ false
    → IfErr result (λ stop. (RefusesBatch job (Ended stop.status stop.why) before behind × Untouched) ⊎ CameEnded views job (with_output was (OneOutput was.output)) (with_output now (OneOutput now.output)) stop)
    → IfErr result (λ stop. RefusesJob job (Ended stop.status stop.why) before behind ⊎ RanEnded views job was now stop)
single_err Untouched views job was now before behind (Ok done) single came = tt
single_err Untouched views job was now before behind (Err stop) single (inl refused) = inl (record { why = inr refused.0.why; same = refused.0.same })
single_err Untouched views job was now before behind (Err stop) single (inr ended) = inr (single_ended views job was now stop single ended)
