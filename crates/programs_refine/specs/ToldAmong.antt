-- What a world promises of jobs, of what their loops come to while strangers speak to the server: with the event that
-- explains an ending, and the world in front of it.
use Rattle.std.specs.Prelude.{ℕ, ◌≡◌, true, false, Some, List, [], ◌∷◌, All, slice_get}
use Rattle.rand_chacha.specs.ChaCha.{ChaCha}
use Rattle.md5_auth.specs.declared.users.Entry.{Entry}
use Rattle.netpbm.specs.Pnm.{IsWhole}
use Rattle.device_api.specs.ScannerLimits.{HasLimits}
use Rattle.device_api.specs.State.{DeviceState}
use Rattle.dispatch.specs.RegistryFault.{HaveOwnNames}
use Rattle.dispatch.specs.Table.{fresh_table}
use Rattle.scan_job.specs.declared.job.Job.{Job}
use Rattle.client_replies.specs.ProtocolStates.{is_running}
use Rattle.net_client.specs.ClientStates.{ClientState, IsNewClient}
use Rattle.net_jobs.specs.JobSteps.{given_by_steps}
use Rattle.saned_requests.specs.declared.session.StringSize.{StringSize}
use Rattle.saned_core.specs.DaemonStates.{Core}
use Rattle.interleaving.specs.Interleavings.{job_journal}
use Rattle.interleaving.specs.AmongStrangers.{owned_by_none}
use Rattle.interleaving.specs.HandingOn.{Owner}
use Rattle.event_world.specs.JobEvents.{is_done}
use Rattle.event_world.specs.Worlds.{IsFitJob, WorldCore}
use Rattle.world_refines.specs.NewWorlds.{PageSources}
use Rattle.strangers.specs.Together.{JointEvent, events_among}
use Rattle.scan_world.specs.Histories.{History, LedTo}
use Rattle.programs_refine.specs.Programs.{Acts}
use Rattle.programs_refine.specs.AmongStrangers.{AreOfStrangers, RunAmongStrangers}
use Rattle.programs_refine.specs.WorldHistory.{AreOfConnections}
use Rattle.programs_refine.specs.Keeping.{AreFit, LoopIsKept, StoppedIsKept}
use Rattle.programs_refine.specs.KeepingAmong.{AreKnown, stranger_acts}
use Rattle.programs_refine.specs.WorkedRuns.{lost_client, new_core}
use Rattle.md5_auth.specs.Challenges.{HasGiven}

-- these devices, users, seed and jobs, and these events and acts
abbrev pub joint_history : List DeviceState → List ℕ → List Job → Core → List JointEvent → History
joint_history devices seed jobs d events =
    record { devices = devices; users = d.users; seed = seed; jobs = jobs; events = events }

-- **told among strangers (`AllLoopsAreToldAmong`, `LoopIsKept`, `StoppedIsKept`)**: events of connections and acts of
-- strangers, each for a session that no job has, led to a world. By that history each job whose loop is over has all
-- that a world promises of its outcome, files, pages and count. Each that was stopped has no whole file but of pages
-- that were turned, and each of these is kept.
pub record AllLoopsAreToldAmong (devices : List DeviceState) (jobs : List Job) (owner : Owner) (d : Core) (acts : Acts)
    (last : ℕ → ClientState) : Type 0 where
  pub seed : List ℕ
  pub events : List JointEvent
  pub are : AreOfConnections (events_among events)
  pub strangers : AreOfStrangers owner events
  pub v : WorldCore
  pub led : LedTo (joint_history devices seed jobs d events) v
  pub each : (i : ℕ) (job : Job) → slice_get jobs i ≡ Some job → is_running (last i).outcome ≡ false
      → LoopIsKept (joint_history devices seed jobs d events) v i job acts (last i)
  pub stopped : (i : ℕ) (job : Job) → slice_get jobs i ≡ Some job → is_running (last i).outcome ≡ true
      → StoppedIsKept (joint_history devices seed jobs d events) v i job acts

abbrev pub ProgramsKeepAllAmongStrangers : Type 0
ProgramsKeepAllAmongStrangers =
    (devices : List DeviceState) (jobs : List Job) (owner : Owner) (d : Core) (acts : Acts) (last : ℕ → ClientState)
    → AreFit devices jobs d → RunAmongStrangers jobs owner d acts last
    → AllLoopsAreToldAmong devices jobs owner d acts last

-- the smallest lie: the file is whole of a job that is not done
abbrev pub NoneIsToldWhole : Type 0
NoneIsToldWhole =
    (devices : List DeviceState) (jobs : List Job) (owner : Owner) (d : Core) (acts : Acts) (last : ℕ → ClientState)
    → AllLoopsAreToldAmong devices jobs owner d acts last → (i : ℕ) (job : Job) → slice_get jobs i ≡ Some job
    → is_done (last i).outcome ≡ false → IsWhole (given_by_steps (job_journal i acts)) → ⊥

-- of the run in which a stranger comes all of that is told
abbrev pub StrangerComesIsTold : Type 0
StrangerComesIsTold =
    (devices : List DeviceState) (job : Job) (c : ClientState) (users : List Entry) (strings : StringSize)
    (stream : ChaCha) (seed : List ℕ) (port byte : ℕ) → HasGiven seed 0 stream → HaveOwnNames devices
    → All HasLimits devices → IsFitJob job → IsNewClient job c
    → AllLoopsAreToldAmong devices (job ∷ []) owned_by_none (new_core (fresh_table devices) users strings stream)
    (stranger_acts port byte) (λ i. lost_client c)

-- what is asked of devices and of the job that stands for those that there are not is met by some, of any devices
pub record SomeAreKnown (devices : List DeviceState) : Type 0 where
  pub sources : ℕ → PageSources
  pub other : Job
  pub known : AreKnown sources other devices

abbrev pub AllAreKnown : Type 0
AllAreKnown = (devices : List DeviceState) → Job → SomeAreKnown devices
