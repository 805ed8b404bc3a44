-- What doing a job on a daemon comes to: what it prints, what passed over its streams, and how it ends otherwise.
use Rattle.std.specs.Prelude.{ℕ, ◌≡◌, Option, List}
use Rattle.scan_job.specs.Shelves.{Stock}
use Rattle.scan_job.specs.declared.job.Job.{Job}
use Rattle.scan_job.specs.declared.report.Reports.{Reports}
use Rattle.scan_job.specs.declared.stop.Stop.{Stop}
use Rattle.net_jobs.specs.Batches.{BatchDone, StopsBatch}
use Rattle.net_jobs.specs.Links.{LinkViews, views_of}
use Rattle.net_jobs.specs.RunPromises.{JobStreams, SeenStreams, StreamViews, RanDone, StopsJob, seen, stream_views}
use Rattle.net_jobs.specs.RunPromises.{streams}
use Rattle.scanimage_cli.specs.CallStreams.{DialledPorts, HeldOutput, PassedControl}
use Rattle.scanimage_cli.specs.DeviceList.{net_prefix}
use Rattle.scanimage_cli.specs.Ending.{ended_by}
use Rattle.scanimage_cli.specs.Printing.{Prints}
use Rattle.scanimage_cli.specs.declared.ending.Ending.{Ending}
use Rattle.scanimage_cli.specs.declared.printed.Printout.{Printout}

-- a job, and the host that does it
pub record HostJob : Type 0 where
  pub host : List ℕ
  pub job : Job

abbrev pub host_job : List ℕ → Job → HostJob
host_job host job = record { host = host; job = job }

-- **doing a job over the net (`NetJobIsDone`, `NetJobEnds`, `NetBatchIsDone`, `NetBatchEnds`; `DoesNetJob`,
-- `EndsNetJob`, `DoesNetBatch`, `EndsNetBatch`)**: the same of what passed over the streams of a job that a host does
-- (`HostJob`), as far as it is seen (`StreamViews`); one that stopped may have touched none.
--
-- the job is done over its streams, its file at the output, and what its reports come to is to be printed
pub record DoesNetJob {L : Type 0} (views : LinkViews L) (asked : HostJob) (was now : SeenStreams L (Option (List ℕ)))
    (printed : Printout) : Type 0 where
  pub reports : Reports
  pub ran : RanDone views asked.job was now reports
  pub prints : Prints asked.job.task (net_prefix asked.host) asked.job.device reports printed

-- the job stopped: before it touched a stream, or behind what passed over them
pub record EndsNetJob {C D W : Type 0} (views : StreamViews C D W (Option (List ℕ))) (job : Job)
    (was now : JobStreams C D W) (ending : Ending) : Type 0 where
  pub stop : Stop
  pub told : ending ≡ ended_by stop
  pub reason : StopsJob views job was now stop

-- the batch is done over its streams, its pages on the shelf, and what its reports come to is to be printed
pub record DoesNetBatch {L : Type 0} (views : LinkViews L) (asked : HostJob) (was now : SeenStreams L (Option Stock))
    (printed : Printout) : Type 0 where
  pub reports : Reports
  pub ran : BatchDone views asked.job was now reports
  pub prints : Prints asked.job.task (net_prefix asked.host) asked.job.device reports printed

-- the batch stopped: before it touched a stream or the shelf, or behind what passed over them
pub record EndsNetBatch {C D S : Type 0} (views : StreamViews C D S (Option Stock)) (job : Job)
    (was now : JobStreams C D S) (ending : Ending) : Type 0 where
  pub stop : Stop
  pub told : ending ≡ ended_by stop
  pub reason : StopsBatch views job was now stop

-- ---- the same of a call, stream by stream

abbrev pub NetJobIsDone : {C D W : Type 0} → List ℕ → Job → PassedControl C → DialledPorts D
    → HeldOutput W (Option (List ℕ)) → Printout → Type 0
NetJobIsDone host job control dial output =
    DoesNetJob (views_of control.remaining control.contents dial.ports dial.prepared)
    (record { host = host; job = job }) (seen dial.coming output.contents (streams control.was dial.was output.was))
    (seen dial.coming output.contents (streams control.now dial.now output.now))

abbrev pub NetJobEnds : {C D W : Type 0} → Job → PassedControl C → DialledPorts D → HeldOutput W (Option (List ℕ))
    → Ending → Type 0
NetJobEnds job control dial output =
    EndsNetJob
    (stream_views (views_of control.remaining control.contents dial.ports dial.prepared) dial.coming output.contents)
    job (streams control.was dial.was output.was) (streams control.now dial.now output.now)

abbrev pub NetBatchIsDone : {C D S : Type 0} → List ℕ → Job → PassedControl C → DialledPorts D
    → HeldOutput S (Option Stock) → Printout → Type 0
NetBatchIsDone host job control dial shelf =
    DoesNetBatch (views_of control.remaining control.contents dial.ports dial.prepared)
    (record { host = host; job = job }) (seen dial.coming shelf.contents (streams control.was dial.was shelf.was))
    (seen dial.coming shelf.contents (streams control.now dial.now shelf.now))

abbrev pub NetBatchEnds : {C D S : Type 0} → Job → PassedControl C → DialledPorts D → HeldOutput S (Option Stock)
    → Ending → Type 0
NetBatchEnds job control dial shelf =
    EndsNetBatch
    (stream_views (views_of control.remaining control.contents dial.ports dial.prepared) dial.coming shelf.contents)
    job (streams control.was dial.was shelf.was) (streams control.now dial.now shelf.now)
