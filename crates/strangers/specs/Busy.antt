-- Who has a device that a job is told is busy, whether a job or a stranger.
use Rattle.std.specs.Prelude.{ℕ, ◌≡◌, ◌≢◌, ◌⊎◌, ◌++◌, Some, List, [], ◌∷◌, slice_get}
use Rattle.sane_fixed.specs.declared.status.Status.TheVariants.{DeviceBusy}
use Rattle.page_picture.specs.Source.{SourceState}
use Rattle.page_sources.specs.declared.kinds.Source.{Source}
use Rattle.device_api.specs.State.{DeviceState}
use Rattle.dispatch.specs.declared.table.place.Lease.{Lease}
use Rattle.saned_requests.specs.declared.session.Session.{Session as RequestSession}
use Rattle.saned_requests.specs.Holding.{held_by}
use Rattle.saned_core.specs.declared.session_slot.SessionId.{SessionId}
use Rattle.saned_core.specs.DaemonStates.{session_of}
use Rattle.scan_job.specs.declared.outcome.Outcome.TheVariants.{Ended}
use Rattle.scan_job.specs.declared.outcome.Why.TheVariants.{Answer}
use Rattle.system_model.specs.Causes.{IsCauseAmong, Names, WasHeld}
use Rattle.event_world.specs.declared.endpoint.Endpoint.{Endpoint}
use Rattle.event_world.specs.declared.event.Event.TheVariants.{ToDaemon}
use Rattle.event_world.specs.Worlds.{Leads, WorldCore}
use Rattle.world_refines.specs.GhostStates.{Ghost, job_state}
use Rattle.world_refines.specs.WorldRefinement.{IsNobodys}
use Rattle.strangers.specs.Among.{MayHaveStrangers}
use Rattle.strangers.specs.Together.{AllGoOn, JointEvent, RunsAmong}
use Rattle.strangers.specs.Together.JointEvent.{OfJobs}

-- the session of that number has a lease of a device of that name
pub record LeasesNamed (w : WorldCore) (n : ℕ) (name : List ℕ) : Type 0 where
  pub session : RequestSession DeviceState
  pub stands : session_of w.daemon n ≡ Some session
  pub word : ℕ
  pub lease : Lease DeviceState
  pub held : held_by session.held word ≡ Some lease
  pub named : lease.device.info.name ≡ name

-- that session is not the one of job i's endpoint
abbrev pub IsNotOf : WorldCore → ℕ → ℕ → Type 0
IsNotOf w i n = (endpoint : Endpoint) (id : SessionId) → slice_get w.endpoints i ≡ Some endpoint
    → endpoint.link ≡ Some id → id.number ≢ n

-- **another had it (`HadInFront`, `LeasesNamed`)**: in front of some delivery from job i to the daemon, a session had a
-- device of that name that is not the job's: another job's or a stranger's.
pub record HadInFront (source : Source → SourceState) (xs : List JointEvent) (w v : WorldCore) (i : ℕ)
    (name : List ℕ) : Type 0 where
  pub front : List JointEvent
  pub count : ℕ
  pub back : List JointEvent
  pub parts : xs ≡ front ++ OfJobs (ToDaemon i count) ∷ back
  pub world : WorldCore
  pub before : RunsAmong source front w world
  pub behind : RunsAmong source (OfJobs (ToDaemon i count) ∷ back) world v
  pub session : ℕ
  pub leases : LeasesNamed world session name
  pub other : IsNotOf world i session

-- a job that found its device held found it so in front of one of its deliveries
abbrev pub BusyHasHolder : Type 0
BusyHasHolder =
    (source : Source → SourceState) (xs : List JointEvent) (t : Ghost) (w v : WorldCore) (run : RunsAmong source xs w v)
    → MayHaveStrangers t w → (all : AllGoOn source xs t w v run) → (i : ℕ) (endpoint : Endpoint)
    → slice_get w.endpoints i ≡ Some endpoint → (IsCauseAmong WasHeld (job_state t i).session.met → ⊥)
    → IsCauseAmong WasHeld (job_state all.ghost_then i).session.met → HadInFront source xs w v i (t.jobs i).device

-- so a job that ended with DEVICE_BUSY found another with its device, or a setting of its own names that status
abbrev pub BusyIsExplained : Type 0
BusyIsExplained =
    (source : Source → SourceState) (xs : List JointEvent) (t : Ghost) (w v : WorldCore) (run : RunsAmong source xs w v)
    → MayHaveStrangers t w → (all : AllGoOn source xs t w v run) → (i : ℕ) (endpoint now : Endpoint)
    → slice_get w.endpoints i ≡ Some endpoint → (IsCauseAmong WasHeld (job_state t i).session.met → ⊥)
    → slice_get v.endpoints i ≡ Some now → now.client.outcome ≡ Ended DeviceBusy Answer
    → HadInFront source xs w v i (t.jobs i).device
    ⊎ IsCauseAmong (Names DeviceBusy) (job_state all.ghost_then i).session.met

-- an example: a stranger's session has it in front of a delivery
abbrev pub HadByStranger : Type 0
HadByStranger = (source : Source → SourceState) (w v : WorldCore) (i count n : ℕ) (name : List ℕ)
    → Leads source (ToDaemon i count) w v → IsNobodys w n → LeasesNamed w n name
    → HadInFront source (OfJobs (ToDaemon i count) ∷ []) w v i name

-- the smallest lie: that it found its device held, though nothing of the job's was delivered
abbrev pub BusyByItself : Type 0
BusyByItself =
    (source : Source → SourceState) (xs : List JointEvent) (t : Ghost) (w v : WorldCore) (run : RunsAmong source xs w v)
    → MayHaveStrangers t w → (all : AllGoOn source xs t w v run) → (i : ℕ) (endpoint : Endpoint)
    → slice_get w.endpoints i ≡ Some endpoint → (IsCauseAmong WasHeld (job_state t i).session.met → ⊥)
    → ((front : List JointEvent) (count : ℕ) (back : List JointEvent)
    → xs ≡ front ++ OfJobs (ToDaemon i count) ∷ back → ⊥)
    → IsCauseAmong WasHeld (job_state all.ghost_then i).session.met → ⊥
