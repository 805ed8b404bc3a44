-- What the calls of a world answer, and what each promises, for whatever history led to the world.
use Rattle.std.specs.Prelude.{ℕ, ◌≡◌, ◌≢◌, ◌⊎◌, ◌<◌, ◌≤◌, ◌^◌, if◌then◌else◌, Bool, false, min, Option, Some, None}
use Rattle.std.specs.Prelude.{Ok, Err, option_map, option_and_then, List, []}
use Rattle.std.specs.Prelude.{◌∷◌, ◌++◌, Contains, length, slice_get, true}
use Rattle.page_sources.specs.SourceView.{source_state}
use Rattle.page_sources.specs.declared.kinds.Source.{Source}
use Rattle.sane_fixed.specs.declared.status.Status.{Status}
use Rattle.sane_fixed.specs.declared.status.Status.TheVariants as statuses
use Rattle.device_api.specs.State.{DeviceState, is_at_rest, page_of}
use Rattle.dispatch.specs.Table.{after_unplug, listed_infos, unplug_answer}
use Rattle.saned_requests.specs.declared.session.Session.{Session}
use Rattle.saned_core.specs.DaemonStates.{Core}
use Rattle.saned_core.specs.Loading.{core_after_load, daemon_load_answer}
use Rattle.client_replies.specs.ProtocolStates.{is_batch}
use Rattle.scan_job.specs.declared.job.Job.{Job}
use Rattle.scan_job.specs.declared.outcome.Outcome.{Outcome}
use Rattle.scan_job.specs.declared.outcome.Outcome.TheVariants.{Running, Ended}
use Rattle.scan_job.specs.declared.outcome.Why.{Why}
use Rattle.scan_job.specs.declared.outcome.Why.TheVariants as whys
use Rattle.event_world.specs.declared.endpoint.Endpoint.{Endpoint}
use Rattle.event_world.specs.declared.event.Event.{Event}
use Rattle.event_world.specs.declared.event.Event.TheVariants.{Cancel, Connect, Load}
use Rattle.event_world.specs.declared.event.Event.TheVariants.{LoseControl, LoseImage, ToDaemon, Unplug}
use Rattle.event_world.specs.declared.event.JobEvent.{JobEvent}
use Rattle.event_world.specs.declared.event.JobEvent.TheVariants as moves
use Rattle.event_world.specs.Endpoints.{finished_page}
use Rattle.event_world.specs.JobEvents.{job_event_of}
use Rattle.event_world.specs.JobMoves.{IsNextMove, moves_left_of}
use Rattle.event_world.specs.Rounds.{total_left}
use Rattle.event_world.specs.Worlds.{Runs, WorldCore}
use Rattle.world_refines.specs.FailedSources.{CutIn}
use Rattle.scan_world.specs.Endings.{IsEndingExplained}
use Rattle.strangers.specs.Together.JointEvent.{OfJobs}
use Rattle.scan_world.specs.Histories.{HasEvent, History, LedTo, Moment, EachStep, and_then, history_up_to}
use Rattle.scan_world.specs.Promise.{CountIsKept, FileIsKept, JobAnswers, MoveIsKept, OutcomeIsKept, PageIsKept}
use Rattle.scan_world.specs.Sessions.{CanAt, Has, SessionAt}

-- ---- what they answer of job i

abbrev pub outcome_at : WorldCore → ℕ → Option Outcome
outcome_at w i = option_map (λ (p : Endpoint). p.client.outcome) (slice_get w.endpoints i)

abbrev pub file_answered : WorldCore → ℕ → Option (List ℕ)
file_answered w i = option_and_then (λ (p : Endpoint). p.file) (slice_get w.endpoints i)

abbrev pub page_answered : WorldCore → ℕ → ℕ → Option (List ℕ)
page_answered w i k = option_and_then (λ (p : Endpoint). finished_page p k) (slice_get w.endpoints i)

abbrev pub is_starved : Option Endpoint → Bool
is_starved None = false
is_starved (Some p) = p.out_of_memory

abbrev pub starved_at : WorldCore → ℕ → Bool
starved_at w i = is_starved (slice_get w.endpoints i)

abbrev pub finished_by : Option Endpoint → ℕ
finished_by None = 0
finished_by (Some p) = min p.finished 16

abbrev pub finished_at : WorldCore → ℕ → ℕ
finished_at w i = finished_by (slice_get w.endpoints i)

abbrev pub moves_answered : Option Endpoint → ℕ
moves_answered None = 0
moves_answered (Some p) = moves_left_of p

abbrev pub left_at : WorldCore → ℕ → ℕ
left_at w i = moves_answered (slice_get w.endpoints i)

-- **all answers (`AnswersAre`, `outcome_at`, `file_answered`, `page_answered`, `finished_at`, `starved_at`, `IsMoveAt`,
-- `left_at`)**: what the calls of a world answer of the job in a place.
--
-- the event is the next move of the job, if there is one
abbrev pub MovesNext : Core → ℕ → Option Endpoint → Option Event → Type 0
MovesNext d i None event = event ≡ None
MovesNext d i (Some p) event = IsNextMove d i p event

abbrev pub IsMoveAt : WorldCore → ℕ → Option Event → Type 0
IsMoveAt w i event = MovesNext w.daemon i (slice_get w.endpoints i) event

-- these are the answers of all calls
pub record AnswersAre (w : WorldCore) (i : ℕ) (a : JobAnswers) : Type 0 where
  pub outcome : outcome_at w i ≡ Some a.outcome
  pub file : file_answered w i ≡ a.file
  pub pages : (k : ℕ) → page_answered w i k ≡ a.file_at k
  pub finished : finished_at w i ≡ a.finished
  pub starved : starved_at w i ≡ a.starved
  pub next_move : IsMoveAt w i a.next_move
  pub moves_left : left_at w i ≡ a.moves_left

-- ---- what they promise of it

-- the history led to the world, and the job is the one of that place
-- **for each history (`IsJobAt`, `ForEach`, `KeepsOutcome`, `KeepsScanFile`, `KeepsPage`, `KeepsPageCount`)**: that a
-- promise is kept for whatever history led to the world and has the job in that place.
pub record IsJobAt (h : History) (w : WorldCore) (i : ℕ) (job : Job) : Type 0 where
  pub led : LedTo h w
  pub job_at : slice_get h.jobs i ≡ Some job

-- for each history that led to the world
abbrev pub ForEach : WorldCore → ℕ → (History → Job → Type 0) → Type 0
ForEach w i Promise = (h : History) (job : Job) → IsJobAt h w i job → Promise h job

-- `outcome`, where there is one
abbrev pub KeepsOutcome : WorldCore → ℕ → Outcome → Type 0
KeepsOutcome w i outcome = ForEach w i (λ h job. OutcomeIsKept h w i job (starved_at w i) outcome)

-- **ended in (`EndedIn`, `KeepsEnding`)**: a job ended in one of the events of a history. It ran in the world in front
-- of the event and had ended so in the world behind it, by a cause among the events up to it.
--
-- it ended in one of the events
pub record EndedIn (h : History) (w : WorldCore) (i : ℕ) (job : Job) (status : Status) (why : Why) : Type 0 where
  pub event : Event
  pub at : Moment h w event
  pub ran : outcome_at at.before i ≡ Some Running
  pub ended : outcome_at at.behind i ≡ Some (Ended status why)
  pub led_behind : LedTo (history_up_to h (at.front ++ OfJobs event ∷ [])) at.behind
  pub caused : IsEndingExplained (history_up_to h (at.front ++ OfJobs event ∷ []))
      at.behind i job (starved_at at.behind i) status why

-- so did each that ended
abbrev pub KeepsEnding : WorldCore → ℕ → Outcome → Type 0
KeepsEnding w i outcome =
    ForEach w i (λ h job.
    (status : Status) (why : Why) → outcome ≡ Ended status why → EndedIn h w i job status why)

abbrev pub KeepsScanFile : WorldCore → ℕ → Option (List ℕ) → Type 0
KeepsScanFile w i given =
    ForEach w i (λ h job.
    (outcome : Outcome) → outcome_at w i ≡ Some outcome → FileIsKept h w i job (starved_at w i) outcome given)

abbrev pub KeepsPage : WorldCore → ℕ → ℕ → Option (List ℕ) → Type 0
KeepsPage w i k given = ForEach w i (λ h job. PageIsKept h w i job (starved_at w i) (finished_at w i) k given)

abbrev pub KeepsPageCount : WorldCore → ℕ → ℕ → Type 0
KeepsPageCount w i given =
    ForEach w i (λ h job.
    (outcome : Outcome) → outcome_at w i ≡ Some outcome → CountIsKept h w i job outcome given)

-- in a delivery of its request its session answered, as it stood, with a reply that passes a limit of the wire, or that
-- has no spelling
abbrev pub HadUnsaidReply : History → WorldCore → ℕ → Job → Type 0
HadUnsaidReply h w i job = (n : ℕ) × (at : Moment h w (ToDaemon i n)) × CutIn at.before i job

-- **good move (`IsGoodMove`, `HadUnsaidReply`)**: a job has a next move just while it runs. That is the loss of the
-- control connection only if the job is told as out of memory, or if its session, as it stood in a delivery of its
-- request, answered with a reply that cannot be said on the wire.
--
-- `next_move`: it is the loss of the control connection only where the job is told as out of memory, or had such a
-- reply
pub record IsGoodMove (h : History) (w : WorldCore) (i : ℕ) (job : Job) (given : Option Event) : Type 0 where
  pub move : (outcome : Outcome) → outcome_at w i ≡ Some outcome → MoveIsKept outcome given
  pub loss : given ≡ Some (LoseControl i) → (starved_at w i ≡ true) ⊎ HadUnsaidReply h w i job

-- ---- what a new world has

-- **few moves (`FewMoves`)**: at most 2^34 moves are left of each job, and 2^36 of a batch.
--
-- at most 2^34 moves are left of a job, and 2^36 of a batch
abbrev pub FewMoves : List Job → WorldCore → Type 0
FewMoves jobs w =
    (i : ℕ) (job : Job) → slice_get jobs i ≡ Some job → left_at w i ≤ (if is_batch job.task then 2 ^ 36 else 2 ^ 34)

-- **none starved (`NoneStarved`)**: no job is told as out of memory.
abbrev pub NoneStarved : WorldCore → Type 0
NoneStarved w = (i : ℕ) → starved_at w i ≡ false

-- ---- what events leave of a job

-- **left of a job (`JobStays`, `OverStays`, `AreOthers`, `OthersStay`, `StarvedStays`, `MovesFall`, `MoveLowers`)**:
-- what events leave of a job. A job that is over shows what it showed. A job that none of them came to is as it was.
-- That memory ran out stays told. No moves come back, and an event that can happen lowers those of its job.
--
-- a job shows what it showed
pub record JobStays (w v : WorldCore) (i : ℕ) : Type 0 where
  pub outcome : outcome_at v i ≡ outcome_at w i
  pub file : file_answered v i ≡ file_answered w i
  pub finished : finished_at v i ≡ finished_at w i
  pub pages : (k : ℕ) → page_answered v i k ≡ page_answered w i k

-- so does each that is over
abbrev pub OverStays : WorldCore → WorldCore → Type 0
OverStays w v = (i : ℕ) (outcome : Outcome) → outcome_at w i ≡ Some outcome → outcome ≢ Running → JobStays w v i

-- none of these events is the job's
abbrev pub AreOthers : List Event → ℕ → Type 0
AreOthers events i = (own : JobEvent) → Contains events (job_event_of i own) → ⊥

-- a job that no event came to is as it was: so out of memory, too, it is told only behind an event of its own
abbrev pub OthersStay : List Event → WorldCore → WorldCore → Type 0
OthersStay events w v = (i : ℕ) → AreOthers events i → slice_get v.endpoints i ≡ slice_get w.endpoints i

-- that memory ran out for a job, once told, stays told
abbrev pub StarvedStays : WorldCore → WorldCore → Type 0
StarvedStays w v = (i : ℕ) → starved_at w i ≡ true → starved_at v i ≡ true

-- no event brings moves back
abbrev pub MovesFall : WorldCore → WorldCore → Type 0
MovesFall w v = (i : ℕ) → left_at v i ≤ left_at w i

-- an event of a job that can happen to it lowers its moves
abbrev pub MoveLowers : Event → WorldCore → WorldCore → Type 0
MoveLowers e w v =
    (i : ℕ) (own : JobEvent) → e ≡ job_event_of i own → CanAt w i own → 0 < left_at w i
    → left_at v i < left_at w i

-- **nothing, memory (`IdleStays`, `StarvesBy`, `TakesMemory`)**: an event that cannot happen to its job changes
-- nothing. Memory runs out for a job only in an event of its own that can happen and that takes memory: a session is
-- opened, requests are answered, replies are heard, a record is sent, or its bytes come to a file.
--
-- an event that cannot happen to its job changes nothing
abbrev pub IdleStays : Event → WorldCore → WorldCore → Type 0
IdleStays e w v = (i : ℕ) (own : JobEvent) → e ≡ job_event_of i own → (CanAt w i own → ⊥) → v ≡ w

-- it takes memory
abbrev pub TakesMemory : JobEvent → Type 0
TakesMemory moves.DataConnect = ⊥
TakesMemory moves.LoseControl = ⊥
TakesMemory moves.LoseImage = ⊥
TakesMemory moves.Cancel = ⊥
TakesMemory own = Unit {0}

-- memory runs out for a job only in such an event of its own
abbrev pub StarvesBy : Event → WorldCore → WorldCore → Type 0
StarvesBy e w v =
    (i : ℕ) → starved_at w i ≡ false → starved_at v i ≡ true
    → (own : JobEvent) × (e ≡ job_event_of i own) × CanAt w i own × TakesMemory own

-- **pages and devices (`LoadLays`, `UnplugTakes`)**: a page that is laid in is taken if the daemon takes it: its device
-- is listed, at rest and has room. A device is taken out if it is listed and nobody has it. Nothing else changes.
abbrev pub LoadLays : Event → WorldCore → WorldCore → Type 0
LoadLays e w v =
    (name : List ℕ) (source : Source) → e ≡ Load name source
    → (daemon_load_answer w.daemon name ≢ Ok tt → v ≡ w)
    × (daemon_load_answer w.daemon name ≡ Ok tt
    → v ≡ record w { daemon = core_after_load w.daemon name (source_state source) })

abbrev pub UnplugTakes : Event → WorldCore → WorldCore → Type 0
UnplugTakes e w v =
    (name : List ℕ) → e ≡ Unplug name
    → ((status : Status) → unplug_answer w.daemon.registry name ≡ Err status → v ≡ w)
    × ((device : DeviceState) → unplug_answer w.daemon.registry name ≡ Ok device
    → v ≡ record w { daemon = record w.daemon { registry = after_unplug w.daemon.registry name } })

-- **a step of events (`IsWorldStep`)**: what each event does, wherever it stands among others.
pub record IsWorldStep (e : Event) (w v : WorldCore) : Type 0 where
  -- it lowers the moves of its job, where it can happen
  pub lowers : MoveLowers e w v
  -- it changes nothing, where it cannot
  pub idle : IdleStays e w v
  -- memory runs out in it for no job but its own, and only where it takes memory
  pub starves : StarvesBy e w v
  -- it lays a page in, or takes a device out, as the daemon answers
  pub loads : LoadLays e w v
  pub unplugs : UnplugTakes e w v

-- **ends (`Reaches`, `CancelEnds`, `LossEnds`, `ImageLossEnds`)**: an event, wherever it stands among some: those in
-- front of it lead to a world, and it and those behind it lead on from there. If a job runs in that world, a cancel
-- ends it as cancelled. The loss of its control connection, once that came, ends it as lost, and so does the loss of
-- its data connection, if that stands.
--
-- Of the event, wherever it stands among these: those in front of it lead to a world of which this holds, and it
-- and the others from there
-- to v.
abbrev pub Reaches : List Event → WorldCore → WorldCore → Event → (List Event → WorldCore → Type 0) → Type 0
Reaches events w v e Holds =
    (front back : List Event) → events ≡ front ++ e ∷ back
    → (u : WorldCore) × Runs source_state front w u × Runs source_state (e ∷ back) u v × Holds front u

-- a job that runs ends by a cancel
abbrev pub CancelEnds : List Event → WorldCore → WorldCore → Type 0
CancelEnds events w v =
    (i : ℕ) → Reaches events w v (Cancel i) (λ front u. outcome_at u i ≡ Some Running
    → outcome_at v i ≡ Some (Ended statuses.Cancelled whys.Cancelled))

-- once it was connected, by the loss of its control connection
abbrev pub LossEnds : History → List Event → WorldCore → WorldCore → Type 0
LossEnds h events w v =
    (i : ℕ) → Reaches events w v (LoseControl i) (λ front u. outcome_at u i ≡ Some Running
    → HasEvent (and_then h front) (Connect i) → outcome_at v i ≡ Some (Ended statuses.IoError whys.Lost))

-- and by that of its data connection, where that stands
abbrev pub ImageLossEnds : List Event → WorldCore → WorldCore → Type 0
ImageLossEnds events w v =
    (i : ℕ) → Reaches events w v (LoseImage i) (λ front u. outcome_at u i ≡ Some Running
    → CanAt u i moves.LoseImage → outcome_at v i ≡ Some (Ended statuses.IoError whys.Lost))

-- ---- what they leave of devices

-- **holders and pages (`OneHolder`, `SessionsStay`, `ScansStay`, `PageStays`, `StartsOnFirst`, `HoldsOn`, `HasLeft`,
-- `ListStays`)**: jobs whose sessions have a device of one name are one. What comes to others, and devices taken out,
-- leave a session as it stands, and pages laid in what it has within a scan. Within a scan the first page of a device
-- that a session has stays. A start takes the first of those that it has. A session has its device until it is over.
-- What is listed changes only when a device is taken out.
--
-- two clients never hold one device
abbrev pub OneHolder : WorldCore → Type 0
OneHolder w = (i j : ℕ) (name : List ℕ) (a b : DeviceState) → Has w i name a → Has w j name b → i ≡ j

-- events of others, and devices that are taken out, leave a session as it stands, with all that it has
abbrev pub SessionsStay : List Event → WorldCore → WorldCore → Type 0
SessionsStay events w v =
    (i : ℕ) (s : Session DeviceState) → AreOthers events i
    → ((name : List ℕ) (source : Source) → Contains events (Load name source) → ⊥) → SessionAt w i s → SessionAt v i s

-- they and pages that are laid in leave a device that it has within a scan
abbrev pub ScansStay : List Event → WorldCore → WorldCore → Type 0
ScansStay events w v =
    (i : ℕ) (name : List ℕ) (d : DeviceState) → AreOthers events i → is_at_rest d.phase ≡ false → Has w i name d
    → Has v i name d

-- within a scan the page stays: a device that a session has in front of an event and behind it, neither time at rest,
-- has the same first page
abbrev pub PageStays : Event → WorldCore → WorldCore → Type 0
PageStays e w v =
    (i : ℕ) (name : List ℕ) (a b : DeviceState) → Has w i name a → Has v i name b
    → is_at_rest a.phase ≡ false → is_at_rest b.phase ≡ false → page_of b ≡ page_of a

-- and a start takes the first page of those that the device has
abbrev pub StartsOnFirst : Event → WorldCore → WorldCore → Type 0
StartsOnFirst e w v =
    (i n : ℕ) (name : List ℕ) (a b : DeviceState) → e ≡ ToDaemon i n → Has w i name a → Has v i name b
    → is_at_rest b.phase ≡ false → page_of b ≡ page_of a

-- no session of the job stands
abbrev pub HasLeft : WorldCore → ℕ → Type 0
HasLeft w i = (s : Session DeviceState) → SessionAt w i s → ⊥

-- a session has its device until its control connection is lost, or requests are delivered to it behind its job's end,
-- or end it
abbrev pub HoldsOn : Event → WorldCore → WorldCore → Type 0
HoldsOn e w v =
    (i : ℕ) (name : List ℕ) (d : DeviceState) → Has w i name d
    → ((x : DeviceState) × Has v i name x)
    ⊎ ((e ≡ LoseControl i) ⊎ ((n : ℕ) × (e ≡ ToDaemon i n) × ((outcome_at w i ≢ Some Running) ⊎ HasLeft v i)))

-- the list of devices is as it was, where none is taken out
abbrev pub ListStays : Event → WorldCore → WorldCore → Type 0
ListStays e w v =
    ((name : List ℕ) → e ≢ Unplug name) → listed_infos v.daemon.registry ≡ listed_infos w.daemon.registry

-- **a step of devices (`IsHeldStep`)**: what each event leaves of a device that a session has, and of the list.
pub record IsHeldStep (e : Event) (w v : WorldCore) : Type 0 where
  pub page_stays : PageStays e w v
  pub first_page : StartsOnFirst e w v
  pub holds_on : HoldsOn e w v
  pub listed : ListStays e w v

-- ---- moves until no job runs

-- **ran out (`RunsOut`, `AreNextMoves`, `NoneRuns`)**: next moves came, each that of a job in the world to which those
-- in front of it led. They are at most as many as all jobs had left. Then no job runs.
--
-- each of these events is the next move of a job, in the world that those in front of it led to
abbrev pub AreNextMoves : List Event → WorldCore → WorldCore → Type 0
AreNextMoves events w v = EachStep (λ e u x. (i : ℕ) × IsMoveAt u i (Some e)) events w v

-- none of these jobs runs
abbrev pub NoneRuns : List Job → WorldCore → Type 0
NoneRuns jobs w =
    (i : ℕ) (job : Job) (outcome : Outcome) → slice_get jobs i ≡ Some job → outcome_at w i ≡ Some outcome
    → outcome ≢ Running

-- `run_all`: next moves came, at most as many as all jobs had left, which led to the new world; and then no job runs
pub record RunsOut (h : History) (old new : WorldCore) : Type 0 where
  pub moves : List Event
  pub few : length moves ≤ total_left old.endpoints
  pub next : AreNextMoves moves old new
  pub led : LedTo (and_then h moves) new
  pub over : NoneRuns h.jobs new
