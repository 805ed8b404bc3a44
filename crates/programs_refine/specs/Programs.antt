-- What a server and the loops of jobs do over connections is what some list of events does to a world.
use Rattle.std.specs.Prelude.{ℕ, ◌≡◌, ◌<◌, ◌⊎◌, ◌++◌, true, false, Option, Some, None, List, [], ◌∷◌, All, length}
use Rattle.std.specs.Prelude.{slice_get}
use Rattle.page_picture.specs.Source.{SourceState}
use Rattle.page_sources.specs.declared.kinds.Source.{Source}
use Rattle.scan_job.specs.declared.job.Job.{Job}
use Rattle.scan_job.specs.declared.job.Task.{Task}
use Rattle.sane_fixed.specs.declared.status.Status.TheVariants as statuses
use Rattle.scan_job.specs.declared.outcome.Outcome.{Outcome}
use Rattle.scan_job.specs.declared.outcome.Outcome.TheVariants.{Ended}
use Rattle.scan_job.specs.declared.outcome.Why.TheVariants as whys
use Rattle.event_world.specs.JobEvents.{is_done}
use Rattle.scan_job.specs.JobSize.{HasCount}
use Rattle.client_replies.specs.ProtocolStates.{is_batch, is_running}
use Rattle.net_client.specs.ClientStates.{ClientState, IsNewClient}
use Rattle.saned_core.specs.DaemonStates.{Core}
use Rattle.net_jobs.specs.JobSteps.{JobStep, StepsLead, files_by_steps, given_by_steps}
use Rattle.in_flight.specs.InFlight.{DiffersInFlight}
use Rattle.saned_serve.specs.ListenerTraces.{ListenerTrace}
use Rattle.saned_serve.specs.Journal.{JournalLeads}
use Rattle.interleaving.specs.Interleavings.{JointAction, job_journal, server_journal}
use Rattle.interleaving.specs.HandingOn.{HaveOneSession, Owner}
use Rattle.interleaving.specs.Parts.{ControlHandsOn, DataIsFromDaemon}
use Rattle.event_world.specs.declared.event.Event.{Event}
use Rattle.event_world.specs.declared.endpoint.Endpoint.{Endpoint}
use Rattle.event_world.specs.Worlds.{AreNew, Runs, WorldCore}
use Rattle.programs_refine.specs.StepTraffic.{traffic_of}
use Rattle.programs_refine.specs.WorldHistory.{AlwaysHearsInTurn, AlwaysWantsBeforeItFlows, AreLosses, LeadsBy}

-- all that the server and the jobs did, the newest first
abbrev pub Acts : Type 0
Acts = List (JointAction JobStep)

-- ---- the premises

-- a daemon whose first session is still to come
pub record HasOpenedNone (d : Core) : Type 0 where
  pub slots : d.slots ≡ None ∷ None ∷ None ∷ None ∷ None ∷ None ∷ None ∷ None ∷ []
  pub opened : d.opened ≡ 0

-- the loop of each job began with a new client, and its steps, so many as there were, led to `last`
pub record JobsLead (jobs : List Job) (acts : Acts) (last : ℕ → ClientState) : Type 0 where
  pub first : ℕ → ClientState
  pub fresh : (i : ℕ) (job : Job) → slice_get jobs i ≡ Some job → IsNewClient job (first i)
  pub loops : (i : ℕ) (job : Job) → slice_get jobs i ≡ Some job → StepsLead (first i) (job_journal i acts) (last i)

-- each control connection that the server has is that of a job, and no job has two
pub record OwnersAreJobs (owner : Owner) (jobs : List Job) : Type 0 where
  pub within : (k i : ℕ) → owner k ≡ Some i → i < length jobs
  pub one : HaveOneSession owner

-- ---- what they come to

-- the files of a job in a world: those of its finished pages, in their order, and the one under way
pub record HasFilesOf (finished : List (List ℕ)) (text : List ℕ) (p : Endpoint) : Type 0 where
  pub file : p.file ≡ Some text
  pub count : p.finished ≡ length finished
  pub room : length p.pages ≡ 16
  pub each : (k : ℕ) (bytes : List ℕ) → slice_get finished k ≡ Some bytes → slice_get p.pages k ≡ Some (Some bytes)

abbrev pub IsDoneBatch : Task → Outcome → Type 0
IsDoneBatch task outcome = (is_batch task ≡ true) × (is_done outcome ≡ true)

-- they are what went out; of a batch that is done with its last page none is under way any more
abbrev pub WentOut : Type 0 → List (List ℕ) → List ℕ → List (List ℕ) → List ℕ → Type 0
WentOut DoneBatch turned last finished text = ((finished ≡ turned) × (text ≡ last))
    ⊎ (DoneBatch × (finished ≡ turned ++ last ∷ []) × (text ≡ []))

-- a job that is over has that outcome in the world, and its files are what went out
pub record EndsAlike (v : WorldCore) (i : ℕ) (acts : Acts) (last : ClientState) : Type 0 where
  pub endpoint : Endpoint
  pub at : slice_get v.endpoints i ≡ Some endpoint
  pub outcome : endpoint.client.outcome ≡ last.outcome
  pub finished : List (List ℕ)
  pub text : List ℕ
  pub files : HasFilesOf finished text endpoint
  pub went_out
      : WentOut (IsDoneBatch endpoint.task last.outcome) (files_by_steps (job_journal i acts))
      (given_by_steps (job_journal i acts)) finished text

-- a job that runs has lost its connection in the world, and its files are what went out
pub record StopsAlike (v : WorldCore) (i : ℕ) (acts : Acts) : Type 0 where
  pub endpoint : Endpoint
  pub at : slice_get v.endpoints i ≡ Some endpoint
  pub lost : endpoint.client.outcome ≡ Ended statuses.IoError whys.Lost
  pub files : HasFilesOf (files_by_steps (job_journal i acts)) (given_by_steps (job_journal i acts)) endpoint

-- events of connections lead to a world whose daemon is the server's, but for replies that are on their way to their
-- jobs
pub record HasDaemonOf (source : Source → SourceState) (w : WorldCore) (end : Core) : Type 0 where
  pub events : List Event
  pub v : WorldCore
  pub leads : LeadsBy source w events v
  pub on_their_way : ℕ → List ℕ
  pub daemon : DiffersInFlight on_their_way end v.daemon

-- from there losses alone lead on to where each job that is over is as its loop has it, so also one that lost what the
-- daemon still has
pub record AreAWorld (source : Source → SourceState) (jobs : List Job) (w : WorldCore) (acts : Acts) (end : Core)
    (last : ℕ → ClientState) : Type 0 where
  pub serves : HasDaemonOf source w end
  pub losses : List Event
  pub are : AreLosses losses
  pub v : WorldCore
  pub leads_on : Runs source losses serves.v v
  pub jobs_are : (i : ℕ) (job : Job) → slice_get jobs i ≡ Some job → is_running (last i).outcome ≡ false
      → EndsAlike v i acts (last i)
  -- and each job that runs, as where it is killed
  pub stopped_are : (i : ℕ) (job : Job) → slice_get jobs i ≡ Some job → is_running (last i).outcome ≡ true
      → StopsAlike v i acts

-- ---- the law

-- **run over connections (`RunOverConnections`)**: a daemon that has opened no session yet, jobs of which a batch has 1
-- to 16 pages, the loop of each from a new client on, the journal of the server, and connections that hand on what they
-- are given. Each control connection is a job's (`OwnersAreJobs`, `ControlHandsOn`), and the other end of each data
-- connection is the daemon (`DataIsFromDaemon`).
pub record RunOverConnections (jobs : List Job) (owner : Owner) (d : Core) (acts : Acts)
    (last : ℕ → ClientState) : Type 0 where
  pub new : HasOpenedNone d
  pub owns : OwnersAreJobs owner jobs
  -- a batch has 1 to 16 pages
  pub counts : All (λ (job : Job). HasCount job.task) jobs
  pub loops : JobsLead jobs acts last
  pub end : Core
  pub before : Option ListenerTrace
  pub after : Option ListenerTrace
  pub serves : JournalLeads d before (server_journal acts) end after
  pub hands_on : ControlHandsOn traffic_of owner acts
  pub from_daemon : DataIsFromDaemon traffic_of owner acts

-- the world of a daemon and of jobs that were just begun
pub record IsWorldOf (d : Core) (jobs : List Job) (w : WorldCore) : Type 0 where
  pub daemon : w.daemon ≡ d
  pub endpoints : AreNew jobs w.endpoints

-- **come to a world (`ComeToAWorld`, `AreAWorld`, `EndsAlike`, `StopsAlike`, `HasDaemonOf`)**: from the new world of
-- that daemon and these jobs, events of connections lead to a world whose daemon is the server's, but for replies on
-- their way. From there losses alone (`AreLosses`) lead to a world in which each job that is over has the outcome that
-- its loop has, and each job that runs has lost its connection. The files are what went out (`WentOut`, `HasFilesOf`):
-- those of the finished pages and the one under way, or, of a batch that is done with its last page (`IsDoneBatch`),
-- all of finished pages.
pub record ComeToAWorld (source : Source → SourceState) (jobs : List Job) (d : Core) (acts : Acts) (end : Core)
    (last : ℕ → ClientState) : Type 0 where
  pub w : WorldCore
  pub is_of : IsWorldOf d jobs w
  pub leads_on : AreAWorld source jobs w acts end last

abbrev pub ProgramsAreAWorld : Type 0
ProgramsAreAWorld =
    (source : Source → SourceState) (jobs : List Job) (owner : Owner) (d : Core) (acts : Acts) (last : ℕ → ClientState)
    → (run : RunOverConnections jobs owner d acts last)
    → ((w : WorldCore) → IsWorldOf d jobs w → AlwaysWantsBeforeItFlows source w × AlwaysHearsInTurn source w)
    → ComeToAWorld source jobs d acts run.end last
