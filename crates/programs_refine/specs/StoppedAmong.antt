-- Runs among strangers in which the loops of some jobs stop within a step: of all others all is kept as before.
use Rattle.std.specs.Prelude.{ℕ, zero, suc, ◌≡◌, Bool, true, false, Option, Some, List, [], ◌∷◌, All, slice_get}
use Rattle.rand_chacha.specs.ChaCha.{ChaCha}
use Rattle.md5_auth.specs.declared.users.Entry.{Entry}
use Rattle.netpbm.specs.Pnm.{IsWhole}
use Rattle.page_sources.specs.SourceView.{source_state}
use Rattle.device_api.specs.ScannerLimits.{HasLimits}
use Rattle.device_api.specs.State.{DeviceState}
use Rattle.dispatch.specs.RegistryFault.{HaveOwnNames}
use Rattle.dispatch.specs.Table.{Table, fresh_table}
use Rattle.scan_job.specs.declared.job.Job.{Job}
use Rattle.scan_job.specs.JobSize.{HasCount}
use Rattle.client_replies.specs.ProtocolStates.{is_running}
use Rattle.net_client.specs.ClientStates.{ClientState, IsNewClient}
use Rattle.net_jobs.specs.JobJournal.JobMove.{Resumes}
use Rattle.net_jobs.specs.JobSteps.{JobStep, given_by_steps}
use Rattle.saned_requests.specs.declared.session.StringSize.{StringSize}
use Rattle.saned_core.specs.DaemonStates.{Core}
use Rattle.saned_serve.specs.ListenerTraces.{ListenerTrace}
use Rattle.saned_serve.specs.Journal.{JournalLeads}
use Rattle.interleaving.specs.Interleavings.{job_journal, server_journal}
use Rattle.interleaving.specs.Interleavings.JointAction.{OfJob}
use Rattle.interleaving.specs.AmongStrangers.{owned_by_none}
use Rattle.interleaving.specs.HandingOn.{Owner}
use Rattle.interleaving.specs.Parts.{ControlHandsOnAmong, DataIsFromDaemon}
use Rattle.event_world.specs.JobEvents.{is_done}
use Rattle.event_world.specs.Worlds.{IsFitJob, WorldCore}
use Rattle.world_refines.specs.NewWorlds.{PageSources, initial_ghost}
use Rattle.strangers.specs.Together.{JointEvent, KeptAmongStrangers}
use Rattle.programs_refine.specs.StepTraffic.{traffic_of}
use Rattle.programs_refine.specs.Programs.{Acts, HasOpenedNone, IsWorldOf, OwnersAreJobs}
use Rattle.programs_refine.specs.Keeping.{AreFit}
use Rattle.programs_refine.specs.StoppedLoops.{LoopsLeadOrStop}
use Rattle.programs_refine.specs.WorkedRuns.{lost_client, new_core}
use Rattle.programs_refine.specs.AmongStrangers.{AreOfStrangers, LeadsAmong, RunAmongStrangers}
use Rattle.programs_refine.specs.KeepingAmong.{AreKnown, LoopIsKeptAmong, StoppedIsKeptAmong, stranger_acts}
use Rattle.md5_auth.specs.Challenges.{HasGiven}

-- a run among strangers, but that the loops of some jobs may stop within a step
pub record RunOfAnyLoopsAmong (jobs : List Job) (owner : Owner) (d : Core) (whole : ℕ → Bool) (acts : Acts)
    (last : ℕ → ClientState) : Type 0 where
  pub new : HasOpenedNone d
  pub owns : OwnersAreJobs owner jobs
  pub counts : All (λ (job : Job). HasCount job.task) jobs
  pub loops : LoopsLeadOrStop jobs whole acts last
  pub end : Core
  pub before : Option ListenerTrace
  pub after : Option ListenerTrace
  pub serves : JournalLeads d before (server_journal acts) end after
  pub hands_on : ControlHandsOnAmong traffic_of owner acts
  pub from_daemon : DataIsFromDaemon traffic_of owner acts

-- **kept of whole loops among strangers (`WholeLoopsAreKeptAmong`)**: each loop that did whole steps keeps what loops
-- among strangers keep, by one world that events of connections and acts of strangers led to.
pub record WholeLoopsAreKeptAmong (sources : ℕ → PageSources) (other : Job) (devices : List DeviceState)
    (jobs : List Job) (owner : Owner) (d : Core) (whole : ℕ → Bool) (acts : Acts)
    (last : ℕ → ClientState) : Type 0 where
  pub w : WorldCore
  pub is_of : IsWorldOf d jobs w
  pub events : List JointEvent
  pub v : WorldCore
  pub leads : LeadsAmong source_state w events v
  pub strangers : AreOfStrangers owner events
  pub kept
      : KeptAmongStrangers source_state events (initial_ghost sources jobs other devices w.daemon.users w.endpoints) w v
      leads.runs
  pub each : (i : ℕ) (job : Job) → slice_get jobs i ≡ Some job → whole i ≡ true → is_running (last i).outcome ≡ false
      → LoopIsKeptAmong kept.all.ghost_then v i job acts (last i)
  pub stopped : (i : ℕ) (job : Job) → slice_get jobs i ≡ Some job → whole i ≡ true → is_running (last i).outcome ≡ true
      → StoppedIsKeptAmong kept.all.ghost_then v i job acts

abbrev pub ProgramsKeepEachAmongStrangers : Type 0
ProgramsKeepEachAmongStrangers =
    (sources : ℕ → PageSources) (other : Job) (devices : List DeviceState) (jobs : List Job) (owner : Owner) (d : Core)
    (whole : ℕ → Bool) (acts : Acts) (last : ℕ → ClientState) → AreFit devices jobs d → AreKnown sources other devices
    → RunOfAnyLoopsAmong jobs owner d whole acts last
    → WholeLoopsAreKeptAmong sources other devices jobs owner d whole acts last

-- the smallest lie: strangers and loops that stopped made the file whole of another job, which is not done
abbrev pub StoppedLoopsCompleteNone : Type 0
StoppedLoopsCompleteNone =
    (sources : ℕ → PageSources) (other : Job) (devices : List DeviceState) (jobs : List Job) (owner : Owner) (d : Core)
    (whole : ℕ → Bool) (acts : Acts) (last : ℕ → ClientState)
    → WholeLoopsAreKeptAmong sources other devices jobs owner d whole acts last
    → (i : ℕ) (job : Job) → slice_get jobs i ≡ Some job → whole i ≡ true → is_done (last i).outcome ≡ false
    → IsWhole (given_by_steps (job_journal i acts)) → ⊥

-- ---- such a run

-- it looks again at what came too soon, and does no more
abbrev pub looks_once_more : JobStep
looks_once_more = record { move = Resumes; gives = []; turned = false }

-- all loops did whole steps but the second
abbrev pub but_the_second : ℕ → Bool
but_the_second zero = true
but_the_second (suc zero) = false
but_the_second (suc (suc i)) = true

-- a stranger comes and says a byte, the first job finds its connection lost, and the loop of the second is killed
-- within its first step
abbrev pub killed_acts : ℕ → ℕ → Acts
killed_acts port byte = OfJob 1 looks_once_more ∷ stranger_acts port byte

-- what they came to, of which the one that was killed is as it was
abbrev pub lost_or_killed : ClientState → ClientState → ℕ → ClientState
lost_or_killed lost killed zero = lost_client lost
lost_or_killed lost killed (suc i) = killed

-- **one is killed among strangers (`KilledAmongIsARun`, `KilledAmongIsKept`)**: beside any two jobs that loops take,
-- that is such a run, and no run of whole loops, whatever they came to. If a world takes devices and jobs, all of that
-- is kept of the first.
abbrev pub KilledAmongIsARun : Type 0
KilledAmongIsARun =
    (one two : Job) (c b : ClientState) (registry : Table) (users : List Entry) (strings : StringSize) (stream : ChaCha)
    (port byte : ℕ) → IsNewClient one c → IsNewClient two b → HasCount one.task → HasCount two.task
    → RunOfAnyLoopsAmong (one ∷ two ∷ []) owned_by_none (new_core registry users strings stream) but_the_second
    (killed_acts port byte) (lost_or_killed c b)
    × ((last : ℕ → ClientState) → RunAmongStrangers (one ∷ two ∷ []) owned_by_none
    (new_core registry users strings stream) (killed_acts port byte) last → ⊥)

abbrev pub KilledAmongIsKept : Type 0
KilledAmongIsKept =
    (sources : ℕ → PageSources) (other : Job) (devices : List DeviceState) (one two : Job) (c b : ClientState)
    (users : List Entry) (strings : StringSize) (stream : ChaCha) (seed : List ℕ) (port byte : ℕ)
    → HasGiven seed 0 stream → HaveOwnNames devices
    → All HasLimits devices → IsFitJob one → IsFitJob two → IsNewClient one c → IsNewClient two b
    → AreKnown sources other devices
    → WholeLoopsAreKeptAmong sources other devices (one ∷ two ∷ []) owned_by_none
    (new_core (fresh_table devices) users strings stream) but_the_second (killed_acts port byte) (lost_or_killed c b)
