-- A batch whose last output was given back.
use Rattle.std.proofs.Common.{◌≡◌, ◌≢◌, ◌∙◌, ◌⊎◌, ◌+◌, ℕ, Bool, true, false, Option, None, Ok, Err, Result, List, [], ◌∷◌, ◌++◌, length, refl, sym, ap, subst, append_assoc, inl, inr}
use Rattle.std.specs.Prelude.{IfErr}
use Rattle.std.proofs.lemmas.List.{append-nil}
use Rattle.sane_fixed.specs.declared.status.Status.TheVariants as statuses
use Rattle.netpbm.specs.Pnm.{IsWhole}
use Rattle.frame_join.specs.declared.join_stage.JoinFault.{JoinFault}
use Rattle.frame_join.specs.FrameHistory.{JoinHistory, IsJoined, answer_of_end}
use Rattle.frame_join.proofs.StreamLaws.{nothing_holds_none, nothing_is_not_whole}
use Rattle.scan_job.specs.FileOutputs.{TakesBack, GivesBack}
use Rattle.scan_job.specs.Shelves.{Stock, ReturnedOutput}
use Rattle.scan_job.specs.Stops.{failed_output}
use Rattle.scan_job.specs.declared.job.Job.{Job}
use Rattle.scan_job.specs.declared.outcome.Outcome.TheVariants.{Done, Ended}
use Rattle.scan_job.specs.declared.outcome.Why.TheVariants as whys
use Rattle.scan_job.specs.declared.report.Reports.{Reports}
use Rattle.scan_job.specs.declared.stop.Stop.{Stop}
use Rattle.net_jobs.specs.Batches.{IsPageFile, last_whole_page, pages_of, BatchDone, BatchEnded, KeepsAllPages, RefusesBatch, RefusesLastPage}
use Rattle.net_jobs.specs.Inside.{CameDone, CameEnded, HasShelved, HasTaken, LastIsRefused, closed_as}
use Rattle.net_jobs.specs.Inside.SinkState.{OnShelf}
use Rattle.net_jobs.specs.JobTraces.{JobTrace}
use Rattle.net_jobs.specs.Links.{LinkViews}
use Rattle.net_jobs.specs.Outputs.{files_text, page_outputs_from}
use Rattle.net_jobs.specs.RunPromises.{IfReports, JobStreams, SeenStreams, RanWithTrace}
use Rattle.net_jobs.proofs.Shelves.{given_back, none_back, none_kept, none_same, left_behind, outputs_more}

-- ---- what a job did says nothing of its outputs

abbrev pub with_output : {L O : Type 0} → SeenStreams L O → {P : Type 0} → P → SeenStreams L P
with_output s output = record { links = s.links; coming = s.coming; output = output }

abbrev pub ran_alike : {L O P : Type 0} (views : LinkViews L) (job : Job) (was now : SeenStreams L O) (held holds : P) → RanWithTrace views job (with_output was held) (with_output now holds) → RanWithTrace views job was now
ran_alike views job was now held holds r = record {
  moves = r.moves;
  first = r.first;
  last = r.last;
  fresh = r.fresh;
  leads = r.leads;
  told = r.told;
  rest = r.rest;
  left = r.left;
  trace = r.trace;
  calls = r.calls;
  did = r.did;
  asked = r.asked;
  wholes = r.wholes;
  unread = r.unread;
  begin = r.begin;
  brought = r.brought;
  few = r.few;
}

-- ---- the last output is given back

last_back : (a : Result Bool JoinFault) (page : JoinHistory) (pages : List JoinHistory) (before was new : Option Stock) (out : Option (Option (List ℕ))) → HasShelved before (page_outputs_from 1 pages) was out (length pages + 1) page.given → ((a ≡ Ok true → ⊥) → out ≡ None)
    → (a ≡ Ok true → page.given ≢ []) → GivesBack was out true new → TakesBack before (page_outputs_from 1 (pages ++ last_whole_page a page)) new
last_back (Ok true) page pages before was new out taken none some back =
    subst (λ (l : List ReturnedOutput). TakesBack before l new) (sym (outputs_more 1 pages page)) (given_back before was new (page_outputs_from 1 pages) (length pages + 1) page.given out true (some refl) taken back)
last_back (Ok false) page pages before was new out taken none some back =
    subst (λ (l : List JoinHistory). TakesBack before (page_outputs_from 1 l) new) (sym (append-nil pages)) (none_back before was new (page_outputs_from 1 pages) (length pages + 1) page.given out true (none (λ e. (let clash : Ok false ≡ Ok true = e in cc))) taken back)
last_back (Err fault) page pages before was new out taken none some back =
    subst (λ (l : List JoinHistory). TakesBack before (page_outputs_from 1 l) new) (sym (append-nil pages)) (none_back before was new (page_outputs_from 1 pages) (length pages + 1) page.given out true (none (λ e. (let clash : Err fault ≡ Ok true = e in cc))) taken back)

-- or refused
last_refused : (a : Result Bool JoinFault) (page : JoinHistory) (pages : List JoinHistory) (before was new : Option Stock) (out : Option (Option (List ℕ))) → HasShelved before (page_outputs_from 1 pages) was out (length pages + 1) page.given → ((a ≡ Ok true → ⊥) → out ≡ None)
    → (a ≡ Ok true → page.given ≢ []) → GivesBack was out false new → RefusesLastPage (pages ++ last_whole_page a page) before new
last_refused (Ok true) page pages before was new out taken none some back =
    record { shelved = pages; last = page; pages_are = refl; outputs = given_back before was new (page_outputs_from 1 pages) (length pages + 1) page.given out false (some refl) taken back }
last_refused (Ok false) page pages before was new out taken none some back =
    absurd (let clash : false ≡ true = none_kept was new out false (none (λ e. (let clash : Ok false ≡ Ok true = e in cc))) back in cc)
last_refused (Err fault) page pages before was new out taken none some back =
    absurd (let clash : false ≡ true = none_kept was new out false (none (λ e. (let clash : Err fault ≡ Ok true = e in cc))) back in cc)

file_is_some : (page : JoinHistory) → IsPageFile page → page.given ≢ []
file_is_some page f e = nothing_is_not_whole (subst (λ (t : List ℕ). IsWhole t) e (f.picture, f.file.denotes))

-- ---- the files of all pages, and the last one's

files_append : (pages more : List JoinHistory) → files_text (pages ++ more) ≡ files_text pages ++ files_text more
files_append [] more = refl
files_append (page ∷ pages) more = ap (λ (l : List ℕ). page.given ++ l) (files_append pages more) ∙ sym (append_assoc page.given (files_text pages) (files_text more))

last_text : (a : Result Bool JoinFault) (page : JoinHistory) → ((a ≡ Ok true → ⊥) → page.given ≡ []) → files_text (last_whole_page a page) ≡ page.given
last_text (Ok true) page none = append-nil page.given
last_text (Ok false) page none = sym (none (λ e. (let clash : Ok false ≡ Ok true = e in cc)))
last_text (Err fault) page none = sym (none (λ e. (let clash : Err fault ≡ Ok true = e in cc)))

all_gave : (trace : JobTrace) → ((IsJoined trace.protocol.history → ⊥) → trace.protocol.history.given ≡ []) → files_text (pages_of trace) ≡ files_text trace.pages ++ trace.protocol.history.given
all_gave trace none =
    files_append trace.pages (last_whole_page (answer_of_end trace.protocol.history) trace.protocol.history) ∙ ap (λ (l : List ℕ). files_text trace.pages ++ l) (last_text (answer_of_end trace.protocol.history) trace.protocol.history none)

-- ---- the job is done

close_done : {L : Type 0} (views : LinkViews L) (job : Job) (was now : SeenStreams L (Option Stock)) (mid : Option Stock) (under out : Option (Option (List ℕ))) (reports : Reports)
    → CameDone views job (with_output was (OnShelf was.output under)) (with_output now (OnShelf mid out)) reports → GivesBack mid out true now.output → BatchDone views job was now reports
close_done views job was now mid under out reports d back =
    let page = d.ran.trace.protocol.history in
    record {
      ran = ran_alike views job was now (OnShelf was.output under) (OnShelf mid out) d.ran;
      told = d.told;
      last_told = d.last_told;
      steps = d.steps;
      went_out = d.went_out;
      all = d.all;
      read_all = d.read_all;
      end_well = d.end_well;
      count = d.count;
      files = d.files;
      gave = all_gave d.ran.trace d.none ∙ d.gave;
      outputs = last_back (answer_of_end page) page d.ran.trace.pages was.output mid now.output out d.under_way.taken (λ unjoined. d.under_way.asked (d.none unjoined)) (λ joined. file_is_some page (d.last joined)) back;
    }

-- but its last output was refused
close_refused : {L : Type 0} (views : LinkViews L) (job : Job) (was now : SeenStreams L (Option Stock)) (mid : Option Stock) (under out : Option (Option (List ℕ))) (reports : Reports)
    → CameDone views job (with_output was (OnShelf was.output under)) (with_output now (OnShelf mid out)) reports → GivesBack mid out false now.output → BatchEnded views job was now failed_output
close_refused views job was now mid under out reports d back =
    let page = d.ran.trace.protocol.history in
    record {
      ran = ran_alike views job was now (OnShelf was.output under) (OnShelf mid out) d.ran;
      cause = inr (inr refl);
      all = λ other. absurd (other refl);
      refusal = λ e. cc;
      last_told = inr (inr refl);
      steps = λ told. absurd (let clash : Done reports ≡ Ended statuses.IoError whys.Sink = sym d.last_told ∙ told in cc);
      sunk = λ sink other. inl d.steps;
      pages = pages_of d.ran.trace;
      finished = inr (refl, (reports, d.told));
      files = d.files;
      text = [];
      none = nothing_holds_none;
      behind = [];
      gave = ap (λ (l : List ℕ). l ++ []) (all_gave d.ran.trace d.none ∙ d.gave);
      none_behind = λ other. refl;
      shelf = inr (refl, refl, last_refused (answer_of_end page) page d.ran.trace.pages was.output mid now.output out d.under_way.taken (λ unjoined. d.under_way.asked (d.none unjoined)) (λ joined. file_is_some page (d.last joined)) back);
    }

-- ---- it has ended otherwise

-- what the shelf has once the output under way was given back
kept_or_refused : (trace : JobTrace) (text : List ℕ) (before mid new : Option Stock) (under out : Option (Option (List ℕ))) (stop : Stop) (is_taken : Bool) → GivesBack mid out is_taken new
    → HasTaken (OnShelf before under) (page_outputs_from 1 trace.pages) (OnShelf mid out) (length trace.pages + 1) text ⊎ ((text ≡ []) × (stop ≡ failed_output) × LastIsRefused trace.pages (OnShelf before under) (OnShelf mid out))
    → ((trace.pages ≡ trace.pages) × KeepsAllPages trace.pages text before new) ⊎ ((stop ≡ failed_output) × (text ≡ []) × RefusesLastPage trace.pages before new)
kept_or_refused trace text before mid new under out stop is_taken back (inl taken) =
    let left = left_behind before mid new (page_outputs_from 1 trace.pages) (length trace.pages + 1) text out is_taken taken back in
    inl (refl, record { left = left.0; is_left = left.1; outputs = left.2 })
kept_or_refused trace text before mid new under out stop is_taken back (inr refused) =
    let r = refused.2 in
    inr (refused.1, refused.0, subst (λ (o : Option Stock). RefusesLastPage trace.pages before o) (sym (none_same mid new out is_taken r.none back)) (record { shelved = r.shelved; last = r.last; pages_are = r.pages_are; outputs = r.outputs }))

close_ended : {L : Type 0} (views : LinkViews L) (job : Job) (was now : SeenStreams L (Option Stock)) (mid : Option Stock) (under out : Option (Option (List ℕ))) (stop : Stop) (is_taken : Bool)
    → CameEnded views job (with_output was (OnShelf was.output under)) (with_output now (OnShelf mid out)) stop → GivesBack mid out is_taken now.output → BatchEnded views job was now stop
close_ended views job was now mid under out stop is_taken d back = record {
  ran = ran_alike views job was now (OnShelf was.output under) (OnShelf mid out) d.ran;
  cause = d.cause;
  all = d.all;
  refusal = d.refusal;
  last_told = d.last_told;
  steps = d.steps;
  sunk = λ sink other. inr (d.sunk sink other);
  pages = d.ran.trace.pages;
  finished = inl refl;
  files = d.files;
  text = d.text;
  none = d.none;
  behind = d.behind;
  gave = d.gave;
  none_behind = d.none_behind;
  shelf = kept_or_refused d.ran.trace d.text was.output mid now.output under out stop is_taken back d.sink;
}

-- ---- by the case of what it came to

pub batch_ok : {L T : Type 0} (views : LinkViews L) (job : Job) (was now : SeenStreams L (Option Stock)) (mid : Option Stock) (under out : Option (Option (List ℕ))) (done : Result (Reports × T) Stop) (is_taken : Bool)
    → IfReports done (CameDone views job (with_output was (OnShelf was.output under)) (with_output now (OnShelf mid out))) → GivesBack mid out is_taken now.output → IfReports (closed_as done is_taken) (BatchDone views job was now)
batch_ok views job was now mid under out (Ok d) true came back = close_done views job was now mid under out d.0 came back
batch_ok views job was now mid under out (Ok d) false came back = tt
batch_ok views job was now mid under out (Err stop) is_taken came back = tt

pub batch_err : {L T C D S : Type 0} (Untouched : Type 0) (views : LinkViews L) (job : Job) (was now : SeenStreams L (Option Stock)) (mid : Option Stock) (under out : Option (Option (List ℕ))) (before between behind : JobStreams C D S) (done : Result (Reports × T) Stop) (is_taken : Bool)
    → IfReports done (CameDone views job (with_output was (OnShelf was.output under)) (with_output now (OnShelf mid out)))
    → IfErr done (λ stop. (RefusesBatch job (Ended stop.status stop.why) before between × Untouched) ⊎ CameEnded views job (with_output was (OnShelf was.output under)) (with_output now (OnShelf mid out)) stop)
    → (Untouched → behind ≡ between) → GivesBack mid out is_taken now.output
    → IfErr (closed_as done is_taken) (λ stop. RefusesBatch job (Ended stop.status stop.why) before behind ⊎ BatchEnded views job was now stop)
batch_err Untouched views job was now mid under out before between behind (Ok d) true came ended same back = tt
batch_err Untouched views job was now mid under out before between behind (Ok d) false came ended same back = inr (close_refused views job was now mid under out d.0 came back)
batch_err Untouched views job was now mid under out before between behind (Err stop) is_taken came (inl refused) same back = inl (record { why = refused.0.why; same = same refused.1 ∙ refused.0.same })
batch_err Untouched views job was now mid under out before between behind (Err stop) is_taken came (inr ended) same back = inr (close_ended views job was now mid under out stop is_taken ended back)
