-- The promise of a world, of what programs come to.
use Rattle.std.specs.Prelude.{ℕ, ◌≡◌, ◌+◌, true, false, Some, List, All, length, slice_get}
use Rattle.netpbm.specs.Pnm.{IsWhole}
use Rattle.page_sources.specs.SourceView.{source_state}
use Rattle.device_api.specs.ScannerLimits.{HasLimits}
use Rattle.device_api.specs.State.{DeviceState}
use Rattle.dispatch.specs.RegistryFault.{HaveOwnNames}
use Rattle.scan_job.specs.declared.job.Job.{Job}
use Rattle.client_replies.specs.ProtocolStates.{is_running}
use Rattle.net_client.specs.ClientStates.{ClientState}
use Rattle.net_jobs.specs.JobSteps.{files_by_steps, given_by_steps}
use Rattle.saned_core.specs.DaemonStates.{Core}
use Rattle.interleaving.specs.Interleavings.{job_journal}
use Rattle.interleaving.specs.HandingOn.{Owner}
use Rattle.event_world.specs.declared.event.Event.{Event}
use Rattle.event_world.specs.Worlds.{IsFitJob, WorldCore}
use Rattle.world_refines.specs.NewWorlds.{IsNewDaemon}
use Rattle.scan_world.specs.Histories.{History, LedTo, of_jobs}
use Rattle.scan_world.specs.Promise.{CountIsKept, FileIsKept, OutcomeIsKept, PageIsKept}
use Rattle.programs_refine.specs.Programs.{Acts, EndsAlike, IsWorldOf, RunOverConnections, StopsAlike}
use Rattle.programs_refine.specs.WorldHistory.{AlwaysHearsInTurn, AlwaysWantsBeforeItFlows, AreOfConnections}
use Rattle.md5_auth.specs.Challenges.{HasGiven}

-- a new daemon of these devices, each within its limits, and of a seed, and jobs that a client takes
pub record AreFit (devices : List DeviceState) (jobs : List Job) (d : Core) : Type 0 where
  pub daemon : IsNewDaemon devices d
  pub seed : List ℕ
  pub seeded : HasGiven seed 0 d.stream
  -- no two have one name
  pub names : HaveOwnNames devices
  pub limits : All HasLimits devices
  pub fit : All IsFitJob jobs

-- in a world of those, if there is any job at all (`other`), a job that wants the data connection of a frame has none
-- that flows
abbrev pub WorldsWantBeforeItFlows : Type 0
WorldsWantBeforeItFlows = (devices : List DeviceState) (jobs : List Job) (other : Job) (d : Core) (w : WorldCore)
    → AreFit devices jobs d → IsWorldOf d jobs w → AlwaysWantsBeforeItFlows source_state w

-- nor does any job that runs hear what it did not ask for
abbrev pub WorldsHearInTurn : Type 0
WorldsHearInTurn = (devices : List DeviceState) (jobs : List Job) (other : Job) (d : Core) (w : WorldCore)
    → AreFit devices jobs d → IsWorldOf d jobs w → AlwaysHearsInTurn source_state w

-- these devices, users, seed and jobs, and these events
abbrev pub history_of : List DeviceState → List ℕ → List Job → Core → List Event → History
history_of devices seed jobs d events =
    record { devices = devices; users = d.users; seed = seed; jobs = jobs; events = of_jobs events }

-- **is kept (`LoopIsKept`, `StoppedIsKept`, `AllLoopsAreKept`)**: what a world promises of the outcome, the files and
-- the count of pages of a job holds of what its loop came to, by a history of such events that led to a world where it
-- is so. Of a job that was stopped while it ran, no whole file went out but of pages that were turned, and each of
-- these is kept.
--
-- a world's promise on the outcome and the files of a job, said of what its loop came to; memory ran out where it did
-- in the world
pub record LoopIsKept (h : History) (v : WorldCore) (i : ℕ) (job : Job) (acts : Acts)
    (last : ClientState) : Type 0 where
  pub ends : EndsAlike v i acts last
  pub outcome : OutcomeIsKept h v i job ends.endpoint.out_of_memory last.outcome
  pub file : FileIsKept h v i job ends.endpoint.out_of_memory last.outcome (Some ends.text)
  pub pages : (k : ℕ) (bytes : List ℕ) → slice_get ends.finished k ≡ Some bytes
      → PageIsKept h v i job ends.endpoint.out_of_memory (length ends.finished) (k + 1) (Some bytes)
  pub count : CountIsKept h v i job last.outcome (length ends.finished)

-- a job whose loop was stopped while it ran, as one that is killed: what went out of its file is no whole file, and
-- each page that was turned is kept
pub record StoppedIsKept (h : History) (v : WorldCore) (i : ℕ) (job : Job) (acts : Acts) : Type 0 where
  pub stops : StopsAlike v i acts
  pub not_whole : IsWhole (given_by_steps (job_journal i acts)) → ⊥
  pub pages : (k : ℕ) (bytes : List ℕ) → slice_get (files_by_steps (job_journal i acts)) k ≡ Some bytes
      → PageIsKept h v i job stops.endpoint.out_of_memory (length (files_by_steps (job_journal i acts))) (k
      + 1) (Some bytes)

-- of each job that is over, and of each that was stopped, in a world that events of connections led to
pub record AllLoopsAreKept (devices : List DeviceState) (jobs : List Job) (d : Core) (acts : Acts)
    (last : ℕ → ClientState) : Type 0 where
  pub seed : List ℕ
  pub events : List Event
  pub are : AreOfConnections events
  pub v : WorldCore
  pub led : LedTo (history_of devices seed jobs d events) v
  pub each : (i : ℕ) (job : Job) → slice_get jobs i ≡ Some job → is_running (last i).outcome ≡ false
      → LoopIsKept (history_of devices seed jobs d events) v i job acts (last i)
  pub stopped : (i : ℕ) (job : Job) → slice_get jobs i ≡ Some job → is_running (last i).outcome ≡ true
      → StoppedIsKept (history_of devices seed jobs d events) v i job acts

abbrev pub ProgramsKeepAll : Type 0
ProgramsKeepAll =
    (devices : List DeviceState) (jobs : List Job) (owner : Owner) (d : Core) (acts : Acts) (last : ℕ → ClientState)
    → AreFit devices jobs d → RunOverConnections jobs owner d acts last → AllLoopsAreKept devices jobs d acts last
