-- What is promised of jobs among strangers, of what their loops come to.
use Rattle.std.specs.Prelude.{ℕ, ◌≡◌, ◌≢◌, true, false, Some, List, [], ◌∷◌, All, map, slice_get}
use Rattle.rand_chacha.specs.ChaCha.{ChaCha}
use Rattle.md5_auth.specs.declared.users.Entry.{Entry}
use Rattle.sane_fixed.specs.declared.status.Status.{Status}
use Rattle.sane_fixed.specs.declared.status.Status.TheVariants.{Good, Eof}
use Rattle.netpbm.specs.Pnm.{IsWhole}
use Rattle.page_sources.specs.SourceView.{source_state}
use Rattle.device_api.specs.ScannerLimits.{HasLimits}
use Rattle.device_api.specs.State.{DeviceState}
use Rattle.dispatch.specs.RegistryFault.{HaveOwnNames}
use Rattle.dispatch.specs.Table.{Table, fresh_table}
use Rattle.scan_job.specs.declared.job.Job.{Job}
use Rattle.scan_job.specs.declared.job.Task.TheVariants as tasks
use Rattle.scan_job.specs.declared.outcome.Outcome.TheVariants.{Done, Ended}
use Rattle.scan_job.specs.declared.outcome.Why.{Why}
use Rattle.scan_job.specs.declared.report.Reports.{Reports}
use Rattle.scan_job.specs.JobSize.{HasCount}
use Rattle.client_replies.specs.ProtocolStates.{is_running}
use Rattle.net_client.specs.ClientStates.{ClientState, IsNewClient}
use Rattle.net_jobs.specs.JobSteps.{files_by_steps, given_by_steps}
use Rattle.saned_requests.specs.declared.session.StringSize.{StringSize}
use Rattle.saned_core.specs.declared.session_slot.Fed.TheVariants.{Starved}
use Rattle.saned_core.specs.DaemonStates.{Core}
use Rattle.saned_serve.specs.declared.sockets.Got.TheVariants.{Moved}
use Rattle.saned_serve.specs.SessionActions.SessionAction.{Feed, Hears, Opens, Take}
use Rattle.saned_serve.specs.Journal.LoopAction.{Of}
use Rattle.interleaving.specs.Interleavings.{job_journal}
use Rattle.interleaving.specs.Interleavings.JointAction.{OfJob, OfServer}
use Rattle.interleaving.specs.AmongStrangers.{owned_by_none}
use Rattle.interleaving.specs.HandingOn.{HandsOn, Owner}
use Rattle.event_world.specs.JobEvents.{is_done}
use Rattle.event_world.specs.Worlds.{IsFitJob, WorldCore}
use Rattle.world_refines.specs.GhostStates.{Ghost, name_at}
use Rattle.world_refines.specs.NewWorlds.{HaveSourcesAt, PageSources, info_of_state, initial_ghost}
use Rattle.world_refines.specs.WorldPromises.{FileIsOfFirstStart, HasScannedPage, IsOutcome, PagesAreCounted}
use Rattle.strangers.specs.Together.{JointEvent, KeptAmongStrangers}
use Rattle.programs_refine.specs.StepTraffic.{traffic_of}
use Rattle.programs_refine.specs.Programs.{Acts, EndsAlike, IsWorldOf, StopsAlike}
use Rattle.programs_refine.specs.AmongStrangers.{AlwaysAmong, AreOfStrangers, LeadsAmong, RunAmongStrangers}
use Rattle.programs_refine.specs.WorldHistory.{HearsInTurn, WantsBeforeItFlows}
use Rattle.programs_refine.specs.Keeping.{AreFit}
use Rattle.programs_refine.specs.WorkedRuns.{lost_client, loses, new_core}
use Rattle.md5_auth.specs.Challenges.{HasGiven}

-- ---- what is kept

-- of a job whose loop is over, by what the world stands for in the end
pub record LoopIsKeptAmong (u : Ghost) (v : WorldCore) (i : ℕ) (job : Job) (acts : Acts)
    (last : ClientState) : Type 0 where
  pub ends : EndsAlike v i acts last
  pub is_of : u.jobs i ≡ job
  -- its outcome is the model's, and a refusal names a status
  pub outcome : IsOutcome u i last.outcome
  pub statuses : (status : Status) (why : Why) → last.outcome ≡ Ended status why → (status ≢ Good) × (status ≢ Eof)
  -- its file is whole only where it is done, and of a scan that is done it is the picture of its start
  pub short : is_done last.outcome ≡ false → IsWhole ends.text → ⊥
  pub scanned : (reports : Reports) → job.task ≡ tasks.Scan → last.outcome ≡ Done reports
      → FileIsOfFirstStart u i ends.text
  -- each finished page is that of the start of its number, and a batch that is done has them all, or all there were
  pub pages : (k : ℕ) (bytes : List ℕ) → slice_get ends.finished k ≡ Some bytes → HasScannedPage u i k bytes
  pub count : (count : ℕ) (reports : Reports) → job.task ≡ tasks.Batch count → last.outcome ≡ Done reports
      → PagesAreCounted u i count ends.endpoint

-- of a job whose loop was stopped while it ran, as one that is killed: no whole file went out but of pages that were
-- turned
pub record StoppedIsKeptAmong (u : Ghost) (v : WorldCore) (i : ℕ) (job : Job) (acts : Acts) : Type 0 where
  pub stops : StopsAlike v i acts
  pub is_of : u.jobs i ≡ job
  pub not_whole : IsWhole (given_by_steps (job_journal i acts)) → ⊥
  pub pages : (k : ℕ) (bytes : List ℕ) → slice_get (files_by_steps (job_journal i acts)) k ≡ Some bytes
      → HasScannedPage u i k bytes

-- devices with such sources, and a job that stands for those that there are not and names no device
pub record AreKnown (sources : ℕ → PageSources) (other : Job) (devices : List DeviceState) : Type 0 where
  pub have : HaveSourcesAt sources devices
  pub unnamed : (k : ℕ) → name_at (map info_of_state devices) k ≢ Some other.device

-- in a world of those, a job that wants the data connection of a frame has none that flows, and a reply comes to a job
-- only after the request that it answers was taken, whatever connections and strangers did
abbrev pub WorldsKeepTurnAmongStrangers : Type 0
WorldsKeepTurnAmongStrangers =
    (sources : ℕ → PageSources) (other : Job) (devices : List DeviceState) (jobs : List Job) (d : Core) (w : WorldCore)
    → AreFit devices jobs d → AreKnown sources other devices → IsWorldOf d jobs w
    → AlwaysAmong source_state w WantsBeforeItFlows × AlwaysAmong source_state w HearsInTurn

-- **kept of loops among strangers (`AllLoopsAreKeptAmong`, `LoopIsKeptAmong`, `StoppedIsKeptAmong`)**: events of
-- connections and acts of strangers led from the new world of that daemon and these jobs to one in which all is kept
-- that is promised of jobs among strangers. By what that world stands for, each job whose loop is over has an outcome
-- by the model, no whole file if it is not done, the picture of its start if it is a scan that is done, and finished
-- pages of its starts. Each that was stopped has no whole file but of such pages.
pub record AllLoopsAreKeptAmong (sources : ℕ → PageSources) (other : Job) (devices : List DeviceState)
    (jobs : List Job) (owner : Owner) (d : Core) (acts : Acts) (last : ℕ → ClientState) : Type 0 where
  pub w : WorldCore
  pub is_of : IsWorldOf d jobs w
  pub events : List JointEvent
  pub v : WorldCore
  pub leads : LeadsAmong source_state w events v
  pub strangers : AreOfStrangers owner events
  pub kept
      : KeptAmongStrangers source_state events (initial_ghost sources jobs other devices w.daemon.users w.endpoints) w v
      leads.runs
  pub each : (i : ℕ) (job : Job) → slice_get jobs i ≡ Some job → is_running (last i).outcome ≡ false
      → LoopIsKeptAmong kept.all.ghost_then v i job acts (last i)
  pub stopped : (i : ℕ) (job : Job) → slice_get jobs i ≡ Some job → is_running (last i).outcome ≡ true
      → StoppedIsKeptAmong kept.all.ghost_then v i job acts

abbrev pub ProgramsKeepAmongStrangers : Type 0
ProgramsKeepAmongStrangers =
    (sources : ℕ → PageSources) (other : Job) (devices : List DeviceState) (jobs : List Job) (owner : Owner) (d : Core)
    (acts : Acts) (last : ℕ → ClientState) → AreFit devices jobs d → AreKnown sources other devices
    → RunAmongStrangers jobs owner d acts last → AllLoopsAreKeptAmong sources other devices jobs owner d acts last

-- the smallest lie: strangers made the file whole of a job that is not done
abbrev pub StrangersCompleteNoLoop : Type 0
StrangersCompleteNoLoop =
    (sources : ℕ → PageSources) (other : Job) (devices : List DeviceState) (jobs : List Job) (owner : Owner) (d : Core)
    (acts : Acts) (last : ℕ → ClientState) → AllLoopsAreKeptAmong sources other devices jobs owner d acts last
    → (i : ℕ) (job : Job) → slice_get jobs i ≡ Some job → is_done (last i).outcome ≡ false
    → IsWhole (given_by_steps (job_journal i acts)) → ⊥

-- each page that a job turned is that of the start of its number, whatever its loop came to
abbrev pub TurnedPagesAreScanned : Type 0
TurnedPagesAreScanned =
    (sources : ℕ → PageSources) (other : Job) (devices : List DeviceState) (jobs : List Job) (owner : Owner) (d : Core)
    (acts : Acts) (last : ℕ → ClientState) → (k : AllLoopsAreKeptAmong sources other devices jobs owner d acts last)
    → (i : ℕ) (job : Job) → slice_get jobs i ≡ Some job → (n : ℕ) (bytes : List ℕ)
    → slice_get (files_by_steps (job_journal i acts)) n ≡ Some bytes → HasScannedPage k.kept.all.ghost_then i n bytes

-- ---- such a run

-- a stranger comes and says a byte, with which the daemon runs out of memory; then the job finds its connection lost
abbrev pub stranger_acts : ℕ → ℕ → Acts
stranger_acts port byte =
    OfJob 0 loses ∷ OfServer (Of 0 (Feed (byte ∷ []) Starved false))
    ∷ OfServer (Of 0 (Hears (Moved 1) 4096 (byte ∷ [])))
    ∷ OfServer (Of 0 (Take 4096 [])) ∷ OfServer (Of 0 (Opens port)) ∷ []

-- **a stranger comes (`StrangerComesIsARun`, `StrangerComesIsKept`)**: beside any one job that its loop takes, that is
-- a run among strangers, and without them none. If a world takes devices and job, all of that is kept of it.
abbrev pub StrangerComesIsARun : Type 0
StrangerComesIsARun =
    (job : Job) (c : ClientState) (registry : Table) (users : List Entry) (strings : StringSize) (stream : ChaCha)
    (port byte : ℕ) → IsNewClient job c → HasCount job.task
    → RunAmongStrangers (job ∷ []) owned_by_none (new_core registry users strings stream) (stranger_acts port byte)
    (λ i. lost_client c)
    × (HandsOn traffic_of owned_by_none (stranger_acts port byte) → ⊥)

abbrev pub StrangerComesIsKept : Type 0
StrangerComesIsKept =
    (sources : ℕ → PageSources) (other : Job) (devices : List DeviceState) (job : Job) (c : ClientState)
    (users : List Entry) (strings : StringSize) (stream : ChaCha) (seed : List ℕ) (port byte : ℕ)
    → HasGiven seed 0 stream → HaveOwnNames devices
    → All HasLimits devices → IsFitJob job → IsNewClient job c → AreKnown sources other devices
    → AllLoopsAreKeptAmong sources other devices (job ∷ []) owned_by_none
    (new_core (fresh_table devices) users strings stream) (stranger_acts port byte) (λ i. lost_client c)
