-- What doing a job on a scanner of this machine comes to: what it prints, what it leaves, and how it ends otherwise.
use Rattle.std.specs.Prelude.{◌≡◌, []}
use Rattle.device_api.specs.State.{DeviceState}
use Rattle.scan_job.specs.declared.job.Job.{Job}
use Rattle.scan_job.specs.declared.report.Reports.{Reports}
use Rattle.scan_job.specs.declared.stop.Stop.{Stop}
use Rattle.local_job.specs.FrameReading.{IsRefusal}
use Rattle.local_job.specs.LocalBatch.{IsBatchDone, IsBatchEndedBy}
use Rattle.local_job.specs.LocalPages.{DeviceAndShelf}
use Rattle.local_job.specs.LocalRun.{DeviceAndOutput, IsDone, IsEndedBy}
use Rattle.scanimage_cli.specs.Ending.{ended_by}
use Rattle.scanimage_cli.specs.Printing.{Prints}
use Rattle.scanimage_cli.specs.declared.ending.Ending.{Ending}
use Rattle.scanimage_cli.specs.declared.printed.Printout.{Printout}

-- **doing a job here (`DoesJob`, `EndsJob`, `DoesBatch`, `EndsBatch`)**: done as a local job is done, for some reports,
-- and what they come to is to be printed; or stopped, with a refusal, as such a job stops.
pub record DoesJob (job : Job) (was now : DeviceAndOutput) (printed : Printout) : Type 0 where
  pub reports : Reports
  pub done : IsDone job was now reports
  pub prints : Prints job.task [] job.device reports printed

-- the job stopped with a status that is a refusal, for a reason
pub record EndsJob (old : DeviceState) (job : Job) (new : DeviceState) (ending : Ending) : Type 0 where
  pub stop : Stop
  pub told : ending ≡ ended_by stop
  pub refusal : IsRefusal stop
  pub reason : IsEndedBy old job new stop

-- the batch is done, its pages on the shelf, and what its reports come to is to be printed
pub record DoesBatch (job : Job) (was now : DeviceAndShelf) (printed : Printout) : Type 0 where
  pub reports : Reports
  pub done : IsBatchDone job was now reports
  pub prints : Prints job.task [] job.device reports printed

-- the batch stopped with a status that is a refusal, for a reason, its whole pages on the shelf
pub record EndsBatch (job : Job) (was now : DeviceAndShelf) (ending : Ending) : Type 0 where
  pub stop : Stop
  pub told : ending ≡ ended_by stop
  pub refusal : IsRefusal stop
  pub reason : IsBatchEndedBy job was now stop
