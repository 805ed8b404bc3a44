-- Runs of one job that end Done.
use Rattle.std.specs.Prelude.{ℕ, ◌≡◌, List, [], ◌∷◌}
use Rattle.device_api.specs.State.{DeviceState}
use Rattle.scan_job.specs.declared.job.Job.{Job}
use Rattle.scan_job.specs.declared.job.Task.TheVariants as tasks
use Rattle.scan_job.specs.declared.outcome.Outcome.TheVariants.{Done}
use Rattle.scan_job.specs.declared.report.Reports.{Reports}
use Rattle.net_client.specs.ClientStates.{ClientState}
use Rattle.net_jobs.specs.JobSteps.{given_by_steps}
use Rattle.saned_core.specs.DaemonStates.{Core}
use Rattle.interleaving.specs.Interleavings.{job_journal}
use Rattle.scan_world.specs.Page.{IsScan, IsSteady}
use Rattle.programs_refine.specs.Keeping.{AllLoopsAreKept, history_of}
use Rattle.programs_refine.specs.Programs.{Acts, RunOverConnections}
use Rattle.programs_refine.specs.WorkedRuns.{owned_by_first}

-- **run to Done (`IsDoneRun`, `IsKeptRun`)**: acts of a server and of one job's loop from this daemon on that are a run
-- over connections, in which the job is Done with these reports and this file went out; and that all is kept of its
-- loop, so that the file of a scan is exactly the picture that its settings mean on the page of its start, where the
-- pages that came are steady.
pub record IsDoneRun (job : Job) (d : Core) (reports : Reports) (file : List ℕ) : Type 0 where
  pub acts : Acts
  pub last : ClientState
  pub run : RunOverConnections (job ∷ []) owned_by_first d acts (λ i. last)
  pub done : last.outcome ≡ Done reports
  pub went_out : given_by_steps (job_journal 0 acts) ≡ file

pub record IsKeptRun (devices : List DeviceState) (job : Job) (d : Core) (reports : Reports)
    (file : List ℕ) : Type 0 where
  pub is : IsDoneRun job d reports file
  pub kept : AllLoopsAreKept devices (job ∷ []) d is.acts (λ i. is.last)
  pub scanned : job.task ≡ tasks.Scan
      → IsSteady (history_of devices kept.seed (job ∷ []) d kept.events) kept.v 0 job.device
      → IsScan (history_of devices kept.seed (job ∷ []) d kept.events) kept.v 0 job 0 file
