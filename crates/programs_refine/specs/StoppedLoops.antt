-- Runs in which the loops of some jobs stop within a step: what is promised of all others is promised as before.
use Rattle.std.specs.Prelude.{ℕ, ◌≡◌, Bool, true, false, Option, Some, List, ◌∷◌, All, slice_get}
use Rattle.device_api.specs.State.{DeviceState}
use Rattle.scan_job.specs.declared.job.Job.{Job}
use Rattle.scan_job.specs.JobSize.{HasCount}
use Rattle.client_replies.specs.ProtocolStates.{is_running}
use Rattle.net_client.specs.ClientStates.{ClientState, IsNewClient}
use Rattle.net_jobs.specs.JobSteps.{IsDelivery, JobStep, StepsLead}
use Rattle.saned_core.specs.DaemonStates.{Core}
use Rattle.saned_serve.specs.ListenerTraces.{ListenerTrace}
use Rattle.saned_serve.specs.Journal.{JournalLeads}
use Rattle.interleaving.specs.Interleavings.{job_journal, server_journal}
use Rattle.interleaving.specs.HandingOn.{Owner}
use Rattle.interleaving.specs.Parts.{ControlHandsOn, DataIsFromDaemon}
use Rattle.event_world.specs.declared.event.Event.{Event}
use Rattle.event_world.specs.Worlds.{WorldCore}
use Rattle.scan_world.specs.Histories.{LedTo}
use Rattle.programs_refine.specs.StepTraffic.{traffic_of}
use Rattle.programs_refine.specs.Programs.{Acts, HasOpenedNone, OwnersAreJobs}
use Rattle.programs_refine.specs.WorldHistory.{AreOfConnections}
use Rattle.programs_refine.specs.Keeping.{AreFit, LoopIsKept, StoppedIsKept, history_of}

-- **stops within (`StopsWithin`, `LoopsLeadOrStop`)**: a loop whose last move was that a piece came. Behind it some
-- bytes of the file went out, or none, and the loop did nothing more for its job: its output failed, or it was killed.
-- Up to that piece it did whole steps. A loop that has no memory for what it is to tell is none of these, as it still
-- writes CLOSE and EXIT (`LoopsLeadOrNot`).
pub record StopsWithin (first : ClientState) (steps : List JobStep) (last : ClientState) : Type 0 where
  pub step : JobStep
  pub before : List JobStep
  pub steps_are : steps ≡ step ∷ before
  pub came : IsDelivery step.move
  -- the client in front of that piece
  pub leads : StepsLead first before last

-- each loop did whole steps, or stopped within its last
pub record LoopsLeadOrStop (jobs : List Job) (whole : ℕ → Bool) (acts : Acts) (last : ℕ → ClientState) : Type 0 where
  pub first : ℕ → ClientState
  pub fresh : (i : ℕ) (job : Job) → slice_get jobs i ≡ Some job → IsNewClient job (first i)
  pub loops : (i : ℕ) (job : Job) → slice_get jobs i ≡ Some job → whole i ≡ true
      → StepsLead (first i) (job_journal i acts) (last i)
  pub stops : (i : ℕ) → whole i ≡ false → StopsWithin (first i) (job_journal i acts) (last i)

-- a run over connections, but for those
pub record RunOfAnyLoops (jobs : List Job) (owner : Owner) (d : Core) (whole : ℕ → Bool) (acts : Acts)
    (last : ℕ → ClientState) : Type 0 where
  pub new : HasOpenedNone d
  pub owns : OwnersAreJobs owner jobs
  pub counts : All (λ (job : Job). HasCount job.task) jobs
  pub loops : LoopsLeadOrStop jobs whole acts last
  pub end : Core
  pub before : Option ListenerTrace
  pub after : Option ListenerTrace
  pub serves : JournalLeads d before (server_journal acts) end after
  pub hands_on : ControlHandsOn traffic_of owner acts
  pub from_daemon : DataIsFromDaemon traffic_of owner acts

-- all that is promised of a loop, of each that did whole steps
pub record WholeLoopsAreKept (devices : List DeviceState) (jobs : List Job) (d : Core) (whole : ℕ → Bool) (acts : Acts)
    (last : ℕ → ClientState) : Type 0 where
  pub seed : List ℕ
  pub events : List Event
  pub are : AreOfConnections events
  pub v : WorldCore
  pub led : LedTo (history_of devices seed jobs d events) v
  pub each : (i : ℕ) (job : Job) → slice_get jobs i ≡ Some job → whole i ≡ true → is_running (last i).outcome ≡ false
      → LoopIsKept (history_of devices seed jobs d events) v i job acts (last i)
  pub stopped : (i : ℕ) (job : Job) → slice_get jobs i ≡ Some job → whole i ≡ true → is_running (last i).outcome ≡ true
      → StoppedIsKept (history_of devices seed jobs d events) v i job acts

abbrev pub ProgramsKeepEach : Type 0
ProgramsKeepEach =
    (devices : List DeviceState) (jobs : List Job) (owner : Owner) (d : Core) (whole : ℕ → Bool) (acts : Acts)
    (last : ℕ → ClientState) → AreFit devices jobs d → RunOfAnyLoops jobs owner d whole acts last
    → WholeLoopsAreKept devices jobs d whole acts last
