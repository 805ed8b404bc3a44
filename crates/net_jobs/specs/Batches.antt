-- What is promised of a job over streams whose files go to the outputs of a shelf.
use Rattle.std.specs.Prelude.{ℕ, ◌+◌, ◌≡◌, ◌≢◌, ◌≤◌, ◌⊎◌, true, false, Bool, Result, Ok, Err, Option, Some, List, []}
use Rattle.std.specs.Prelude.{◌∷◌, ◌++◌, All, length}
use Rattle.sane_fixed.specs.declared.status.Status.TheVariants as statuses
use Rattle.netpbm.specs.Picture.{Picture}
use Rattle.page_picture.specs.Shows.{ShowsFrames}
use Rattle.frame_join.specs.declared.join_stage.JoinFault.{JoinFault}
use Rattle.frame_join.specs.FrameHistory.{JoinHistory, answer_of_end}
use Rattle.scan_job.specs.declared.job.Job.{Job}
use Rattle.scan_job.specs.declared.job.JobFault.{JobFault}
use Rattle.scan_job.specs.declared.job.Task.{Task}
use Rattle.scan_job.specs.declared.job.Task.TheVariants as tasks
use Rattle.scan_job.specs.declared.outcome.Outcome.{Outcome}
use Rattle.scan_job.specs.declared.outcome.Outcome.TheVariants.{Done, Ended}
use Rattle.scan_job.specs.declared.outcome.Why.TheVariants as whys
use Rattle.scan_job.specs.declared.report.Reports.{Reports}
use Rattle.scan_job.specs.JobSize.{HasJobFault}
use Rattle.scan_job.specs.Stops.{failed_output}
use Rattle.scan_job.specs.declared.stop.Stop.{Stop}
use Rattle.netpbm.specs.NoFile.{HoldsNoFile}
use Rattle.scan_job.specs.Shelves.{Stock, ReturnedOutput}
use Rattle.net_jobs.specs.JobTraces.{JobTrace, EndWell}
use Rattle.net_jobs.specs.JobJournal.{given_by, has_write_failed}
use Rattle.net_jobs.specs.JobSteps.{MovesAreSteps, MovesStopWithin, StepsGive}
use Rattle.net_jobs.specs.Links.{LinkViews}
use Rattle.net_jobs.specs.Outputs.{files_text, page_outputs_from}
use Rattle.scan_job.specs.FileOutputs.{TakesBack, AreLeft, refused_output}
use Rattle.net_jobs.specs.RunPromises.{JobStreams, SeenStreams, StreamViews, RanWithTrace, HasEndingCause, IsToldAs}
use Rattle.net_jobs.specs.RunPromises.{refused_as, seen}
use Rattle.frame_join.specs.PictureText.{IsPictureFile}

-- what was given of a page is a whole file, that of the picture that its frames show
pub record IsPageFile (page : JoinHistory) : Type 0 where
  pub picture : Picture
  pub shows : ShowsFrames page.ended picture
  pub file : IsPictureFile page.given picture

-- the page under way, if its picture is whole
abbrev pub last_whole_page : Result Bool JoinFault → JoinHistory → List JoinHistory
last_whole_page (Ok true) page = page ∷ []
last_whole_page (Ok false) page = []
last_whole_page (Err fault) page = []

-- The pages of a job that is done: those behind which another was asked for, and the last one. A batch that found no
-- further page has no such last one; a job that scans none has none either.
abbrev pub pages_of : JobTrace → List JoinHistory
pages_of trace = trace.pages ++ last_whole_page (answer_of_end trace.protocol.history) trace.protocol.history

-- as many pages as the job may scan: a batch at least one
abbrev pub MayScan : Task → ℕ → Type 0
MayScan tasks.Scan n = n ≡ 1
MayScan (tasks.Batch count) n = (1 ≤ n) × (n ≤ count)
MayScan task n = n ≡ 0

-- **Batch done, batch ended, batch refused**: what `run_batch` promises, as [PROMISES.md](PROMISES.md#net_jobs) has it.
-- Of a batch that ended otherwise the shelf **keeps all pages**, or **refuses the last** (`KeepsAllPages`,
-- `RefusesLastPage`). The pages of a job that is done are those that were turned and the last one, if its picture is
-- whole.
--
-- The job is done, as the client's rules have it for these replies and frames. Unless a write failed, all was written,
-- with CLOSE and EXIT. Each data connection began with its frame's records, which ended with EOF. The shelf kept one
-- output for each page, in their order, numbered from 1, each with the whole file of the picture that the page's frames
-- show. It was given back no other. Each piece that came was followed by the bytes of the files that it brought.
pub record BatchDone {L : Type 0} (views : LinkViews L) (job : Job) (was now : SeenStreams L (Option Stock))
    (reports : Reports) : Type 0 where
  pub ran : RanWithTrace views job was now
  pub told : ran.trace.protocol.outcome ≡ Done reports
  pub last_told : ran.last.outcome ≡ Done reports
  pub steps : MovesAreSteps ran.first ran.moves ran.last
  pub went_out : StepsGive steps.steps ran.trace.pages ran.trace.protocol.history.given
  pub all : has_write_failed ran.moves ≡ false → ran.left ≡ []
  pub read_all : ran.unread ≡ []
  pub end_well : EndWell ran.did.events
  pub count : MayScan job.task (length (pages_of ran.trace))
  pub files : All IsPageFile (pages_of ran.trace)
  pub gave : files_text (pages_of ran.trace) ≡ given_by ran.moves
  pub outputs : TakesBack was.output (page_outputs_from 1 (pages_of ran.trace)) now.output

-- the shelf kept the outputs of these pages, and at most one more was given back, which took these bytes
pub record KeepsAllPages (pages : List JoinHistory) (text : List ℕ) (before after : Option Stock) : Type 0 where
  pub left : List ReturnedOutput
  pub is_left : AreLeft (length pages + 1) text left
  pub outputs : TakesBack before (page_outputs_from 1 pages ++ left) after

-- it kept them but the last one's, which it refused, and no other was given back
pub record RefusesLastPage (pages : List JoinHistory) (before after : Option Stock) : Type 0 where
  pub shelved : List JoinHistory
  pub last : JoinHistory
  pub pages_are : pages ≡ shelved ++ last ∷ []
  pub outputs
      : TakesBack before (page_outputs_from 1 shelved ++ refused_output (length shelved + 1) last.given ∷ []) after

-- The pages with finished files: those behind which another was asked for, and the last one of a job that was done but
-- for the shelf.
abbrev pub AreFinished : JobTrace → List JoinHistory → Type 0
AreFinished trace pages = (pages ≡ trace.pages)
    ⊎ ((pages ≡ pages_of trace) × ((reports : Reports) × (trace.protocol.outcome ≡ Done reports)))

-- The job has ended otherwise, with a cause: an output could not be had, did not take its file, or was refused as it
-- was given back, or another. All that was to go out was written, unless a write failed, or an output did. The pages
-- before have whole files, and at most one more output stands, which took no whole file. The shelf kept the output of
-- each page, but for one that it refused, which was the last and ended the job. What went out to the outputs is what
-- was given, and where one failed bytes more. Where it is told as the client ended, each piece that came was followed
-- by the bytes of the files that it brought.
pub record BatchEnded {L : Type 0} (views : LinkViews L) (job : Job) (was now : SeenStreams L (Option Stock))
    (stop : Stop) : Type 0 where
  pub ran : RanWithTrace views job was now
  pub cause : HasEndingCause ran.moves ran.trace.protocol ran.rest (Ended stop.status stop.why)
  pub all : stop.why ≢ whys.Sink → has_write_failed ran.moves ≡ false → ran.left ≡ []
  pub refusal : stop.status ≢ statuses.Good
  pub last_told : IsToldAs ran.last.outcome (Ended stop.status stop.why)
  pub pages : List JoinHistory
  pub finished : AreFinished ran.trace pages
  pub files : All IsPageFile pages
  pub text : List ℕ
  pub none : HoldsNoFile text
  pub behind : List ℕ
  pub gave : files_text pages ++ text ≡ given_by ran.moves ++ behind
  pub none_behind : stop.why ≢ whys.Sink → behind ≡ []
  pub steps : ran.last.outcome ≡ Ended stop.status stop.why
      → (s : MovesAreSteps ran.first ran.moves ran.last) × StepsGive s.steps ran.trace.pages text
  pub sunk : stop.why ≡ whys.Sink → (ran.last.outcome ≡ Ended stop.status stop.why → ⊥)
      → MovesAreSteps ran.first ran.moves ran.last ⊎ MovesStopWithin ran.first ran.moves ran.last
  pub shelf : ((pages ≡ ran.trace.pages) × KeepsAllPages pages text was.output now.output)
      ⊎ ((stop ≡ failed_output) × (text ≡ []) × RefusesLastPage pages was.output now.output)

-- a job that is refused, for a fault or for lack of memory for its buffers, touches no stream and no shelf
pub record RefusesBatch {C D S : Type 0} (job : Job) (outcome : Outcome) (was now : JobStreams C D S) : Type 0 where
  pub why : ((fault : JobFault) × HasJobFault job (Some fault) × (outcome ≡ refused_as fault))
      ⊎ (outcome ≡ Ended statuses.NoMem whys.Memory)
  pub same : now ≡ was

-- **Runs, stops (`RunsBatch`, `StopsBatch`)**: the same of a job whose files go to a shelf, as `RunsJob` and `StopsJob`
-- of one output.
abbrev pub RunsBatch : {C D S : Type 0} → StreamViews C D S (Option Stock) → Job → JobStreams C D S → JobStreams C D S
    → Reports → Type 0
RunsBatch views job was now reports =
    BatchDone views.links job (seen views.coming views.output was) (seen views.coming views.output now) reports

abbrev pub StopsBatch : {C D S : Type 0} → StreamViews C D S (Option Stock) → Job → JobStreams C D S → JobStreams C D S
    → Stop → Type 0
StopsBatch views job was now stop = RefusesBatch job (Ended stop.status stop.why) was now
    ⊎ BatchEnded views.links job (seen views.coming views.output was) (seen views.coming views.output now) stop
