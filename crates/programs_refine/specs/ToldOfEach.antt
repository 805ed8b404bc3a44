-- What a world promises of jobs, of what whole loops come to while strangers speak to the server and other loops stop
-- within a step.
use Rattle.std.specs.Prelude.{ℕ, ◌≡◌, Bool, true, false, Some, List, [], ◌∷◌, All, slice_get}
use Rattle.rand_chacha.specs.ChaCha.{ChaCha}
use Rattle.md5_auth.specs.declared.users.Entry.{Entry}
use Rattle.netpbm.specs.Pnm.{IsWhole}
use Rattle.device_api.specs.ScannerLimits.{HasLimits}
use Rattle.device_api.specs.State.{DeviceState}
use Rattle.dispatch.specs.RegistryFault.{HaveOwnNames}
use Rattle.dispatch.specs.Table.{fresh_table}
use Rattle.scan_job.specs.declared.job.Job.{Job}
use Rattle.client_replies.specs.ProtocolStates.{is_running}
use Rattle.net_client.specs.ClientStates.{ClientState, IsNewClient}
use Rattle.net_jobs.specs.JobSteps.{given_by_steps}
use Rattle.saned_requests.specs.declared.session.StringSize.{StringSize}
use Rattle.saned_core.specs.DaemonStates.{Core}
use Rattle.interleaving.specs.Interleavings.{job_journal}
use Rattle.interleaving.specs.AmongStrangers.{owned_by_none}
use Rattle.interleaving.specs.HandingOn.{Owner}
use Rattle.event_world.specs.JobEvents.{is_done}
use Rattle.event_world.specs.Worlds.{IsFitJob, WorldCore}
use Rattle.strangers.specs.Together.{JointEvent, events_among}
use Rattle.scan_world.specs.Histories.{LedTo}
use Rattle.programs_refine.specs.Programs.{Acts}
use Rattle.programs_refine.specs.AmongStrangers.{AreOfStrangers}
use Rattle.programs_refine.specs.WorldHistory.{AreOfConnections}
use Rattle.programs_refine.specs.Keeping.{AreFit, LoopIsKept, StoppedIsKept}
use Rattle.programs_refine.specs.StoppedAmong.{RunOfAnyLoopsAmong, but_the_second, killed_acts, lost_or_killed}
use Rattle.programs_refine.specs.ToldAmong.{joint_history}
use Rattle.programs_refine.specs.WorkedRuns.{new_core}
use Rattle.md5_auth.specs.Challenges.{HasGiven}

-- **told of whole loops among strangers (`WholeLoopsAreToldAmong`)**: what is told of loops among strangers, of each
-- that did whole steps, by one history of events of connections and acts of strangers.
pub record WholeLoopsAreToldAmong (devices : List DeviceState) (jobs : List Job) (owner : Owner) (d : Core)
    (whole : ℕ → Bool) (acts : Acts) (last : ℕ → ClientState) : Type 0 where
  pub seed : List ℕ
  pub events : List JointEvent
  pub are : AreOfConnections (events_among events)
  pub strangers : AreOfStrangers owner events
  pub v : WorldCore
  pub led : LedTo (joint_history devices seed jobs d events) v
  pub each : (i : ℕ) (job : Job) → slice_get jobs i ≡ Some job → whole i ≡ true → is_running (last i).outcome ≡ false
      → LoopIsKept (joint_history devices seed jobs d events) v i job acts (last i)
  pub stopped : (i : ℕ) (job : Job) → slice_get jobs i ≡ Some job → whole i ≡ true → is_running (last i).outcome ≡ true
      → StoppedIsKept (joint_history devices seed jobs d events) v i job acts

abbrev pub ProgramsTellEachAmongStrangers : Type 0
ProgramsTellEachAmongStrangers =
    (devices : List DeviceState) (jobs : List Job) (owner : Owner) (d : Core) (whole : ℕ → Bool) (acts : Acts)
    (last : ℕ → ClientState) → AreFit devices jobs d → RunOfAnyLoopsAmong jobs owner d whole acts last
    → WholeLoopsAreToldAmong devices jobs owner d whole acts last

-- the smallest lie: strangers and loops that stopped made the file whole of another job, which is not done
abbrev pub NoOtherIsToldWhole : Type 0
NoOtherIsToldWhole =
    (devices : List DeviceState) (jobs : List Job) (owner : Owner) (d : Core) (whole : ℕ → Bool) (acts : Acts)
    (last : ℕ → ClientState) → WholeLoopsAreToldAmong devices jobs owner d whole acts last
    → (i : ℕ) (job : Job) → slice_get jobs i ≡ Some job → whole i ≡ true → is_done (last i).outcome ≡ false
    → IsWhole (given_by_steps (job_journal i acts)) → ⊥

-- of the run in which one is killed among strangers all of that is told of the other
abbrev pub KilledAmongIsTold : Type 0
KilledAmongIsTold =
    (devices : List DeviceState) (one two : Job) (c b : ClientState) (users : List Entry) (strings : StringSize)
    (stream : ChaCha) (seed : List ℕ) (port byte : ℕ) → HasGiven seed 0 stream → HaveOwnNames devices
    → All HasLimits devices → IsFitJob one → IsFitJob two
    → IsNewClient one c → IsNewClient two b
    → WholeLoopsAreToldAmong devices (one ∷ two ∷ []) owned_by_none
    (new_core (fresh_table devices) users strings stream) but_the_second (killed_acts port byte) (lost_or_killed c b)
