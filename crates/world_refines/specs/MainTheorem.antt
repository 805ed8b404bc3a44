-- What a list of events does to what stands, in whatever order they come, and what is promised behind it.
use Rattle.std.specs.Prelude.{ℕ, ◌≡◌, ◌≢◌, ◌≤◌, ◌<◌, ◌++◌, true, false, Option, Some, None, IsSome, List, [], ◌∷◌, All}
use Rattle.std.specs.Prelude.{map, slice_get, ◌⊎◌}
use Rattle.sane_fixed.specs.declared.status.Status.{Status}
use Rattle.sane_fixed.specs.declared.status.Status.TheVariants.{Good, Eof}
use Rattle.netpbm.specs.NoFile.{HoldsNoFile}
use Rattle.page_picture.specs.Source.{SourceState}
use Rattle.page_sources.specs.declared.kinds.Source.{Source}
use Rattle.device_api.specs.ScannerLimits.{HasLimits, IsHeldPage}
use Rattle.device_api.specs.State.{DeviceState, held_from}
use Rattle.dispatch.specs.RegistryFault.{HaveOwnNames}
use Rattle.scan_job.specs.declared.job.Job.{Job}
use Rattle.scan_job.specs.declared.job.Task.TheVariants as tasks
use Rattle.scan_job.specs.declared.outcome.Outcome.TheVariants.{Done, Ended}
use Rattle.scan_job.specs.declared.outcome.Why.{Why}
use Rattle.scan_job.specs.declared.report.Reports.{Reports}
use Rattle.sane_fixed.specs.declared.device_info.DeviceInfo.{DeviceInfo}
use Rattle.system_model.specs.Devices.{Make}
use Rattle.system_model.specs.Marks.{MarksLead, device_view}
use Rattle.system_model.specs.MoveRuns.{all_marks}
use Rattle.system_model.specs.Transitions.{IsHistory, Transition, after_all, IsUnderWay}
use Rattle.event_world.specs.declared.event.Event.{Event}
use Rattle.event_world.specs.declared.event.Event.TheVariants.{Connect, ToDaemon, ToClient, DataConnect, DataTurn}
use Rattle.event_world.specs.declared.event.Event.TheVariants.{DataToClient, LoseControl, LoseImage, Cancel, Load}
use Rattle.event_world.specs.declared.event.Event.TheVariants.{Unplug}
use Rattle.event_world.specs.declared.event.JobEvent.TheVariants as actions
use Rattle.client_replies.specs.ProtocolStates.{is_running}
use Rattle.event_world.specs.declared.endpoint.Endpoint.{Endpoint}
use Rattle.event_world.specs.JobEvents.{is_done}
use Rattle.event_world.specs.JobMoves.{IsNextMove, moves_left_of}
use Rattle.event_world.specs.Endpoints.{finished_page}
use Rattle.event_world.specs.Rounds.{RestsAt}
use Rattle.event_world.specs.Worlds.{AreNew, IsFitJob, Runs, WorldCore}
use Rattle.world_refines.specs.GhostStates.{Ghost, job_state}
use Rattle.world_refines.specs.WorldRefinement.{HasNoStrangers, WorldRefines}
use Rattle.world_refines.specs.Costs.{Pays}
use Rattle.world_refines.specs.FailedSources.{AllAlong, FailsInSome}
use Rattle.world_refines.specs.GhostEvents.{GhostCan, MayHaveSource, CanLoad, CanUnplug, GhostConnects, Dials, GivesUp}
use Rattle.world_refines.specs.GhostEvents.{GhostHappens, LaysIn, LosesControl, LosesImage, TakesOut, GhostTurns}
use Rattle.world_refines.specs.Answering.{AnswersSome}
use Rattle.world_refines.specs.ClientDeliveries.{GhostHears}
use Rattle.world_refines.specs.DataDeliveries.{GhostSees}
use Rattle.world_refines.specs.NewWorlds.{HaveSourcesAt, IsNewDaemon, PageSources, info_of_state, initial_ghost}
use Rattle.world_refines.specs.NewWorlds.{make_of}
use Rattle.world_refines.specs.WorldPromises.{FileIsOfFirstStart, HasScannedPage, PagesAreCounted, IsOutcome}
use Rattle.system_model.specs.Causes.{IsCauseAmong, WasUnsaid}

-- **events one after another (`GhostComes`, `GhostComesAll`, `EventsFollow`)**: each takes its steps of the model if it
-- can happen, and else changes nothing, on what those before it left. A page that is laid in is within its limits.
-- Their transitions are a history, its marks are enabled at each device, and what fails in them failed in one of the
-- events.
abbrev pub GhostComes : (Source → SourceState) → Event → Ghost → List Transition → Ghost → Type 0
GhostComes source (Connect i) t steps u =
    GhostHappens (GhostCan t i actions.Connect) (GhostConnects t i steps u) t steps u
GhostComes source (ToDaemon i n) t steps u =
    GhostHappens (GhostCan t i (actions.ToDaemon n)) (AnswersSome n t i steps u) t steps u
GhostComes source (ToClient i n) t steps u =
    GhostHappens (GhostCan t i (actions.ToClient n)) (GhostHears n t i steps u) t steps u
GhostComes source (DataConnect i) t steps u =
    GhostHappens (GhostCan t i actions.DataConnect) (Dials t i steps u) t steps u
GhostComes source (DataTurn i) t steps u =
    GhostHappens (GhostCan t i actions.DataTurn) (GhostTurns t i steps u) t steps u
GhostComes source (DataToClient i n) t steps u =
    GhostHappens (GhostCan t i (actions.DataToClient n)) (GhostSees n t i steps u) t steps u
GhostComes source (LoseControl i) t steps u =
    GhostHappens (GhostCan t i actions.LoseControl) (LosesControl t i steps u) t steps u
GhostComes source (LoseImage i) t steps u =
    GhostHappens (GhostCan t i actions.LoseImage) (LosesImage t i steps u) t steps u
GhostComes source (Cancel i) t steps u = GhostHappens (GhostCan t i actions.Cancel) (GivesUp t i steps u) t steps u
GhostComes source (Load name page) t steps u =
    GhostHappens (CanLoad t name) (LaysIn t name (source page).page steps u) t steps u
GhostComes source (Unplug name) t steps u = GhostHappens (CanUnplug t name) (TakesOut t name steps u) t steps u

-- events one after another
abbrev pub GhostComesAll : (Source → SourceState) → List Event → Ghost → List Transition → Ghost → Type 0
GhostComesAll source [] t steps v = (steps ≡ []) × (v ≡ t)
GhostComesAll source (e ∷ es) t steps v = (first : List Transition) × (more : List Transition) × (u : Ghost)
    × (steps ≡ first ++ more) × GhostComes source e t first u × GhostComesAll source es u more v

-- a page that is laid in is within its limits
abbrev pub IsTrueLoad : (Source → SourceState) → Event → Type 0
IsTrueLoad source (Load name page) = IsHeldPage (held_from (source page))
IsTrueLoad source e = Unit {0}

abbrev pub AreTrueLoads : (Source → SourceState) → List Event → Type 0
AreTrueLoads source [] = Unit {0}
AreTrueLoads source (e ∷ es) = IsTrueLoad source e × AreTrueLoads source es

-- a page comes only into a device of which is said what its source is
abbrev pub IsFittingLoad : (Source → SourceState) → List DeviceInfo → (ℕ → Make) → Event → Type 0
IsFittingLoad source infos make (Load name page) = MayHaveSource infos make name (source page)
IsFittingLoad source infos make e = Unit {0}

abbrev pub AreFittingLoads : (Source → SourceState) → List DeviceInfo → (ℕ → Make) → List Event → Type 0
AreFittingLoads source infos make [] = Unit {0}
AreFittingLoads source infos make (e ∷ es) = IsFittingLoad source infos make e × AreFittingLoads source infos make es

-- Whatever a world stands for, events make of it a world that stands for what they do to that. Their steps are enabled,
-- and so are their marks at each device: two clients never hold one, a start takes the page that is next, and no page
-- is laid in within a scan.
pub record RunRefines (source : Source → SourceState) (events : List Event) (t : Ghost) (w v : WorldCore) : Type 0 where
  pub ghost_then : Ghost
  pub steps : List Transition
  pub comes : GhostComesAll source events t steps ghost_then
  pub legal : IsHistory t.system steps
  pub rules_are : ghost_then.system ≡ after_all t.system steps
  pub marks : (d : ℕ)
      → MarksLead (device_view (t.system.make d) (t.system.device d)) (all_marks d t.system steps)
      (device_view (t.system.make d) ((after_all t.system steps).device d))
  pub stands : WorldRefines ghost_then v
  -- they bring no stranger
  pub alone : HasNoStrangers w → HasNoStrangers v
  -- each source that fails by them failed in one of the events, and counted it, and so each reply that breaks a session
  -- off
  pub failures : AllAlong (FailsInSome source events t w v) t.system steps
  -- moves that sufficed suffice
  pub pays : Pays t w → Pays ghost_then v

abbrev pub EventsFollow : Type 0
EventsFollow = (source : Source → SourceState) (events : List Event) (t : Ghost) (w v : WorldCore) → WorldRefines t w
    → AreTrueLoads source events → AreFittingLoads source t.infos t.system.make events → Runs source events w v
    → RunRefines source events t w v

-- ---- the headline

-- **kept (`Promises`, `AllIsKept`)**: the headline, from a new world on, behind any events. Each outcome is right, and
-- no refusal has the status GOOD or EOF. Each file of a scan that is done and of a finished page is meant, no front of
-- that of a job that is not done is whole, and a file is missing only if the job is told as out of memory. A job that
-- runs out of moves is over.
--
-- Of each job: its outcome is the model's, and one that is refused names a status. The file of a scan that is done and
-- those of a batch's finished pages denote what the job's settings mean on the pages of its starts. No front of the
-- file of a job that is not done is whole, and a file is missing only if the job is told as out of memory. A batch has
-- its pages, and a job that runs has a next move.
pub record Promises (u : Ghost) (v : WorldCore) : Type 0 where
  pub outcomes : (i : ℕ) (endpoint : Endpoint) → slice_get v.endpoints i ≡ Some endpoint
      → IsOutcome u i endpoint.client.outcome
  pub statuses : (i : ℕ) (endpoint : Endpoint) (status : Status) (why : Why) → slice_get v.endpoints i ≡ Some endpoint
      → endpoint.client.outcome ≡ Ended status why → (status ≢ Good) × (status ≢ Eof)
  pub short : (i : ℕ) (endpoint : Endpoint) (file : List ℕ) → slice_get v.endpoints i ≡ Some endpoint
      → is_done endpoint.client.outcome ≡ false → endpoint.file ≡ Some file → HoldsNoFile file
  pub starved : (i : ℕ) (endpoint : Endpoint) → slice_get v.endpoints i ≡ Some endpoint → endpoint.file ≡ None
      → endpoint.out_of_memory ≡ true
  -- page k of the finished ones, from 1
  pub pages_lost : (i k : ℕ) (endpoint : Endpoint) → slice_get v.endpoints i ≡ Some endpoint → 0 < k
      → k ≤ endpoint.finished → k ≤ 16 → finished_page endpoint k ≡ None → endpoint.out_of_memory ≡ true
  pub scans : (i : ℕ) (endpoint : Endpoint) (reports : Reports) (file : List ℕ)
      → slice_get v.endpoints i ≡ Some endpoint → (u.jobs i).task ≡ tasks.Scan → endpoint.client.outcome ≡ Done reports
      → endpoint.file ≡ Some file → FileIsOfFirstStart u i file
  pub batches : (i count : ℕ) (endpoint : Endpoint) (reports : Reports) → slice_get v.endpoints i ≡ Some endpoint
      → (u.jobs i).task ≡ tasks.Batch count → endpoint.client.outcome ≡ Done reports
      → PagesAreCounted u i count endpoint
  pub moves : (i : ℕ) (endpoint : Endpoint) (event : Option Event) → slice_get v.endpoints i ≡ Some endpoint
      → IsNextMove v.daemon i endpoint event
      → (is_running endpoint.client.outcome ≡ true → IsSome event)
      × (is_running endpoint.client.outcome ≡ false → event ≡ None)
  -- the loss of its control connection is the next one only where it is told as out of memory, or a reply to it could
  -- not be said
  pub losses : (i : ℕ) (endpoint : Endpoint) → slice_get v.endpoints i ≡ Some endpoint
      → IsNextMove v.daemon i endpoint (Some (LoseControl i))
      → (endpoint.out_of_memory ≡ true)
      ⊎ (IsUnderWay (job_state u i).client.stage × IsCauseAmong WasUnsaid (job_state u i).session.met)
  -- none runs out of moves: one that has none left is over, and one that rests behind rounds of next moves is
  pub left : (i : ℕ) (endpoint : Endpoint) → slice_get v.endpoints i ≡ Some endpoint → moves_left_of endpoint ≡ 0
      → is_running endpoint.client.outcome ≡ false
  pub rests : (i : ℕ) (endpoint : Endpoint) → slice_get v.endpoints i ≡ Some endpoint → RestsAt v i
      → is_running endpoint.client.outcome ≡ false
  pub pages : (i k : ℕ) (endpoint : Endpoint) (file : List ℕ) → slice_get v.endpoints i ≡ Some endpoint
      → k < endpoint.finished → slice_get endpoint.pages k ≡ Some (Some file) → HasScannedPage u i k file

-- From a new world on it is so behind any events, in whatever order they come and in whatever pieces bytes are
-- delivered: all is kept of what they made of a world in which nothing had happened.
pub record PromisesAreKept (source : Source → SourceState) (events : List Event) (t : Ghost)
    (w v : WorldCore) : Type 0 where
  pub run : RunRefines source events t w v
  pub alone : HasNoStrangers v
  pub promises : Promises run.ghost_then v

abbrev pub AllIsKept : Type 0
AllIsKept =
    (source : Source → SourceState) (events : List Event) (sources : ℕ → PageSources) (jobs : List Job) (other : Job)
    (devices : List DeviceState) (w v : WorldCore) → AreNew jobs w.endpoints → IsNewDaemon devices w.daemon
    → HaveOwnNames devices → All HasLimits devices → All IsFitJob jobs → AreTrueLoads source events →
    HaveSourcesAt sources devices
    → AreFittingLoads source (map info_of_state devices) (λ k. make_of (sources k) (slice_get devices k)) events →
    Runs source events w v
    → PromisesAreKept source events (initial_ghost sources jobs other devices w.daemon.users w.endpoints) w v
