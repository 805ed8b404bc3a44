-- What a server and the loops of jobs do over connections while strangers speak to that server too.
use Rattle.std.specs.Prelude.{ℕ, ◌≡◌, true, false, Option, None, List, [], ◌∷◌, All, Some, slice_get}
use Rattle.page_picture.specs.Source.{SourceState}
use Rattle.page_sources.specs.declared.kinds.Source.{Source}
use Rattle.scan_job.specs.declared.job.Job.{Job}
use Rattle.scan_job.specs.JobSize.{HasCount}
use Rattle.client_replies.specs.ProtocolStates.{is_running}
use Rattle.net_client.specs.ClientStates.{ClientState}
use Rattle.saned_core.specs.DaemonStates.{Core}
use Rattle.in_flight.specs.InFlight.{DiffersInFlight}
use Rattle.saned_serve.specs.ListenerTraces.{ListenerTrace}
use Rattle.saned_serve.specs.Journal.{JournalLeads}
use Rattle.saned_serve.specs.Serving.{DaemonAndListeners, ServeLimits}
use Rattle.saned_serve.specs.declared.serving.ServeEnd.{ServeEnd}
use Rattle.interleaving.specs.Interleavings.{server_journal}
use Rattle.interleaving.specs.HandingOn.{Owner}
use Rattle.interleaving.specs.Parts.{ControlHandsOnAmong, DataIsFromDaemon}
use Rattle.event_world.specs.declared.event.Event.{Event}
use Rattle.event_world.specs.Worlds.{Runs, WorldCore}
use Rattle.strangers.specs.Together.{JointEvent, RunsAmong, events_among}
use Rattle.strangers.specs.Together.JointEvent.{OfJobs, OfStranger}
use Rattle.programs_refine.specs.LedInto.{Interleaves}
use Rattle.programs_refine.specs.StepTraffic.{traffic_of}
use Rattle.programs_refine.specs.Programs.{Acts, EndsAlike, HasOpenedNone, IsWorldOf, JobsLead}
use Rattle.programs_refine.specs.Programs.{OwnersAreJobs, RunOverConnections, StopsAlike}
use Rattle.programs_refine.specs.WorldHistory.{AreLosses, AreOfConnections, HearsInTurn, WantsBeforeItFlows}

-- ---- the premises

-- **run among strangers (`RunAmongStrangers`)**: a run over connections, but that the server also serves sessions that
-- no job has, whatever is said in them.
pub record RunAmongStrangers (jobs : List Job) (owner : Owner) (d : Core) (acts : Acts)
    (last : ℕ → ClientState) : Type 0 where
  pub new : HasOpenedNone d
  pub owns : OwnersAreJobs owner jobs
  -- a batch has 1 to 16 pages
  pub counts : All (λ (job : Job). HasCount job.task) jobs
  pub loops : JobsLead jobs acts last
  pub end : Core
  pub before : Option ListenerTrace
  pub after : Option ListenerTrace
  pub serves : JournalLeads d before (server_journal acts) end after
  pub hands_on : ControlHandsOnAmong traffic_of owner acts
  pub from_daemon : DataIsFromDaemon traffic_of owner acts

-- a run over connections is one, in which no stranger speaks
abbrev pub RunsAreAmongStrangers : Type 0
RunsAreAmongStrangers =
    (jobs : List Job) (owner : Owner) (d : Core) (acts : Acts) (last : ℕ → ClientState)
    → RunOverConnections jobs owner d acts last → RunAmongStrangers jobs owner d acts last

-- acts in which the journal of a server that has served and such loops are interleaved are a run among strangers, with
-- what is assumed of connections
abbrev pub LoopsLeadIntoRunsAmong : Type 0
LoopsLeadIntoRunsAmong =
    (limits : ServeLimits) (was now : DaemonAndListeners) (end : ServeEnd) (jobs : List Job) (owner : Owner)
    (acts : Acts)
    (last : ℕ → ClientState) → Interleaves limits was now end jobs acts last → HasOpenedNone was.daemon
    → OwnersAreJobs owner jobs → All (λ (job : Job). HasCount job.task) jobs
    → ControlHandsOnAmong traffic_of owner acts → DataIsFromDaemon traffic_of owner acts
    → RunAmongStrangers jobs owner was.daemon acts last

-- ---- what they come to

-- each act of a stranger is for a session that no job has
abbrev pub AreOfStrangers : Owner → List JointEvent → Type 0
AreOfStrangers owner [] = Unit {0}
AreOfStrangers owner (OfJobs e ∷ xs) = AreOfStrangers owner xs
AreOfStrangers owner (OfStranger a ∷ xs) = (owner a.session ≡ None) × AreOfStrangers owner xs

-- events of connections and acts of any strangers lead from one world to the other
pub record LeadsAmong (source : Source → SourceState) (w : WorldCore) (xs : List JointEvent)
    (v : WorldCore) : Type 0 where
  pub are : AreOfConnections (events_among xs)
  pub runs : RunsAmong source xs w v

-- they lead to a world whose daemon is the server's, but for replies that are on their way, to jobs or strangers
pub record HasDaemonAmong (source : Source → SourceState) (owner : Owner) (w : WorldCore) (end : Core) : Type 0 where
  pub events : List JointEvent
  pub v : WorldCore
  pub leads : LeadsAmong source w events v
  pub strangers : AreOfStrangers owner events
  pub on_their_way : ℕ → List ℕ
  pub daemon : DiffersInFlight on_their_way end v.daemon

-- from there losses alone lead on to where each job that is over is as its loop has it, and each that runs is stopped
pub record AreAWorldAmong (source : Source → SourceState) (jobs : List Job) (owner : Owner) (w : WorldCore)
    (acts : Acts) (end : Core) (last : ℕ → ClientState) : Type 0 where
  pub serves : HasDaemonAmong source owner w end
  pub losses : List Event
  pub are : AreLosses losses
  pub v : WorldCore
  pub leads_on : Runs source losses serves.v v
  pub jobs_are : (i : ℕ) (job : Job) → slice_get jobs i ≡ Some job → is_running (last i).outcome ≡ false
      → EndsAlike v i acts (last i)
  pub stopped_are : (i : ℕ) (job : Job) → slice_get jobs i ≡ Some job → is_running (last i).outcome ≡ true
      → StopsAlike v i acts

-- **come to a world among strangers (`ComeToAWorldAmong`, `AreAWorldAmong`, `HasDaemonAmong`, `LeadsAmong`,
-- `AreOfStrangers`)**: from the new world of that daemon and these jobs, events of connections and acts of strangers,
-- each for a session that no job has, lead to a world whose daemon is the server's, but for replies on their way. From
-- there losses alone lead to a world in which each job that is over has the outcome that its loop has, and each job
-- that runs has lost its connection. The files are what went out.
pub record ComeToAWorldAmong (source : Source → SourceState) (jobs : List Job) (owner : Owner) (d : Core) (acts : Acts)
    (end : Core) (last : ℕ → ClientState) : Type 0 where
  pub w : WorldCore
  pub is_of : IsWorldOf d jobs w
  pub leads_on : AreAWorldAmong source jobs owner w acts end last

-- so it is of each world to which connections and strangers lead
abbrev pub AlwaysAmong : (Source → SourceState) → WorldCore → (WorldCore → Type 0) → Type 0
AlwaysAmong source w Holds = (events : List JointEvent) (v : WorldCore) → LeadsAmong source w events v → Holds v

abbrev pub ProgramsAreAWorldAmongStrangers : Type 0
ProgramsAreAWorldAmongStrangers =
    (source : Source → SourceState) (jobs : List Job) (owner : Owner) (d : Core) (acts : Acts) (last : ℕ → ClientState)
    → (run : RunAmongStrangers jobs owner d acts last)
    → ((w : WorldCore) → IsWorldOf d jobs w
    → AlwaysAmong source w WantsBeforeItFlows × AlwaysAmong source w HearsInTurn)
    → ComeToAWorldAmong source jobs owner d acts run.end last
