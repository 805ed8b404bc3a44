-- A JOB IN WHOSE WAY NOTHING STANDS, and what it comes to.
use Rattle.std.specs.Prelude.{ℕ, ◌≡◌, ◌≢◌, ◌⊎◌, true, false, Some, None, List, [], ◌∷◌, All, Contains, map, slice_get}
use Rattle.md5_auth.specs.declared.users.Entry.{Entry}
use Rattle.page_picture.specs.Meaning.{meaning_of}
use Rattle.page_picture.specs.Source.{SourceState}
use Rattle.page_picture.specs.declared.scene.DeviceKind.TheVariants.{Feeder, Flatbed}
use Rattle.page_sources.specs.declared.kinds.Source.{Source}
use Rattle.device_api.specs.State.{DeviceState, HeldPage, feeds}
use Rattle.scan_frames.specs.declared.setup.Setup.{Setup}
use Rattle.dispatch.specs.Table.{listed_infos}
use Rattle.virtual_scanner.specs.New.{new_device, new_scanner}
use Rattle.sane_fixed.specs.declared.byte_order.ByteOrder.TheVariants.{Little}
use Rattle.sane_fixed.specs.declared.status.Status.{Status}
use Rattle.sane_fixed.specs.declared.status.Status.TheVariants as statuses
use Rattle.client_replies.specs.ProtocolStates.{scans}
use Rattle.scan_job.specs.declared.job.Job.{Job}
use Rattle.scan_job.specs.declared.outcome.Outcome.{Outcome}
use Rattle.scan_job.specs.declared.outcome.Outcome.TheVariants.{Done, Ended, Running}
use Rattle.scan_job.specs.declared.outcome.Why.{Why}
use Rattle.scan_job.specs.declared.outcome.Why.TheVariants as whys
use Rattle.scan_job.specs.declared.report.Reports.{Reports}
use Rattle.event_world.specs.declared.event.Event.{Event}
use Rattle.event_world.specs.declared.event.Event.TheVariants.{Cancel, Load, LoseControl, LoseImage, Unplug}
use Rattle.event_world.specs.Worlds.{WorldCore}
use Rattle.world_refines.specs.GhostStates.{backend_of, is_allowed, is_guarded}
use Rattle.scan_world.specs.Calls.{AreNextMoves, HadUnsaidReply, IsJobAt, RunsOut, outcome_at, starved_at}
use Rattle.scan_world.specs.Endings.{IsUnforced}
use Rattle.scan_world.specs.Histories.{HasEvent, HasNoActs, History, LedTo, Moment, and_then, begun, history_up_to}
use Rattle.scan_world.specs.Lies.{NamesNothing}
use Rattle.scan_world.specs.Page.{CameFor, Settled}
use Rattle.scan_world.specs.Settings.{PutsInForce}
use Rattle.scan_world.specs.Trays.{first_tray}

-- it does not cancel the job, take a connection of it, or take its device out
abbrev pub LeavesAlone : ℕ → Job → Event → Type 0
LeavesAlone i job (Cancel j) = j ≢ i
LeavesAlone i job (LoseControl j) = j ≢ i
LeavesAlone i job (LoseImage j) = j ≢ i
LeavesAlone i job (Unplug name) = name ≢ job.device
LeavesAlone i job event = Unit {0}

-- its user and password are allowed for each challenge, where a line of these users names its backend
abbrev pub IsAllowedAlways : List Entry → Job → Type 0
IsAllowedAlways users job =
    is_guarded users (backend_of job.device) ≡ true → (challenge : List ℕ)
    → is_allowed users job.user job.password (backend_of job.device) challenge ≡ true

-- so they are by a line of just these
abbrev pub LinesAllow : Type 0
LinesAllow =
    (users : List Entry) (job : Job) → Contains users (record {
      user = job.user;
      password = job.password;
      backend = backend_of job.device;
    }) → (is_guarded users (backend_of job.device) ≡ true) × IsAllowedAlways users job

-- a feeder that it scans had a page as the world was made, it alone names it, and no event brought one for it
pub record IsSupplied (h : History) (i : ℕ) (job : Job) (device : DeviceState) (Among : ℕ → Type 0) : Type 0 where
  pub some : first_tray device ≢ []
  pub only : (j : ℕ) → Among j → j ≡ i
  pub unladen : (source : Source) → HasEvent h (Load job.device source) → ⊥

-- **clear (`IsClear`, `IsSupplied`, `LeavesAlone`, `IsAllowedAlways`)**: nothing stands in the way of a job. Its device
-- is there, and only these jobs (`Among`), such as itself alone, name it. Its settings can be in force and name no
-- status. If it scans, they mean a picture on each page that came for it, whose sources cannot fail. A feeder had a
-- page at first, only this job names it, and no event brought one for it. If a line of the users names its backend, its
-- password is right for each challenge. No event gave it up, took a connection of it, or took its device out. No
-- stranger did anything.
pub record IsClear (h : History) (i : ℕ) (job : Job) (Among : ℕ → Type 0) : Type 0 where
  pub device : DeviceState
  pub is_there : Contains h.devices device
  pub named : device.info.name ≡ job.device
  pub supplied : scans job.task ≡ true → feeds device ≡ true → IsSupplied h i job device Among
  pub alone : (j : ℕ) (other : Job) → slice_get h.jobs j ≡ Some other → other.device ≡ job.device → Among j
  pub forced : IsUnforced h job → ⊥
  pub unnamed : NamesNothing h job
  pub meant : scans job.task ≡ true → (s : Settled h job) (held : HeldPage) → CameFor h job.device held
      → meaning_of held.page s.setup.scene ≢ None
  pub firm : scans job.task ≡ true → (held : HeldPage) → CameFor h job.device held → held.infallible ≡ true
  pub allowed : IsAllowedAlways h.users job
  pub left : (event : Event) → HasEvent h event → LeavesAlone i job event
  pub undisturbed : HasNoActs h

-- **plain (`PlainIsClear`)**: in a new world, a job is clear that is alone on a flatbed. Its settings can be in force
-- there and mean a picture on the page, whose source cannot fail, and its password is right.
abbrev pub PlainIsClear : Type 0
PlainIsClear =
    (name : List ℕ) (source : SourceState) (users : List Entry) (seed : List ℕ) (job : Job) (setup : Setup)
    → job.device ≡ name → PutsInForce Flatbed job.settings.items setup → source.infallible ≡ true
    → meaning_of source.page setup.scene ≢ None → IsAllowedAlways users job
    → IsClear (begun (new_scanner Flatbed name source Little ∷ []) users seed (job ∷ [])) 0 job (λ j. j ≡ 0)

-- **loaded (`FeederIsClear`)**: in a new world, a job is clear that is alone on a feeder with one page or more. Its
-- settings can be in force there and mean a picture on each page, no source can fail, and its password is right.
abbrev pub FeederIsClear : Type 0
FeederIsClear =
    (name : List ℕ) (sources : List SourceState) (users : List Entry) (seed : List ℕ) (job : Job) (setup : Setup)
    → job.device ≡ name → PutsInForce Feeder job.settings.items setup → sources ≢ []
    → All (λ (s : SourceState). s.infallible ≡ true) sources
    → All (λ (s : SourceState). meaning_of s.page setup.scene ≢ None) sources
    → IsAllowedAlways users job
    → IsClear (begun (new_device Feeder name sources Little ∷ []) users seed (job ∷ [])) 0 job (λ j. j ≡ 0)

-- its next move was the loss of its control connection. In front of that it was told as out of memory, or its session
-- had answered a delivered request with a reply that cannot be said
abbrev pub BrokeOff : History → WorldCore → ℕ → Job → Type 0
BrokeOff h w i job =
    (at : Moment h w (LoseControl i))
    × ((starved_at at.before i ≡ true) ⊎ HadUnsaidReply (history_up_to h at.front) at.before i job)

-- **comes to (`ComesTo`, `BrokeOff`, `ComesClear`, `ClearsUp`, `ClearsBy`)**: a job is done, or told as out of memory,
-- or its next move was the loss of its connection, for want of memory or at a reply that cannot be said. `run_all`
-- brings each clear job there. So do next moves that are run, for each job that is over behind them.
abbrev pub ComesTo : History → WorldCore → ℕ → Job → Outcome → Type 0
ComesTo h w i job outcome =
    ((reports : Reports) × (outcome ≡ Done reports))
    ⊎ (((starved_at w i ≡ true) ⊎ (outcome ≡ Ended statuses.NoMem whys.Memory)) ⊎ BrokeOff h w i job)

-- `run_all`: a job that was clear in front of its moves
pub record ComesClear (h : History) (old new : WorldCore) (i : ℕ) (job : Job) : Type 0 where
  pub out : RunsOut h old new
  pub outcome : Outcome
  pub is : outcome_at new i ≡ Some outcome
  pub comes : ComesTo (and_then h out.moves) new i job outcome

abbrev pub ClearsUp : WorldCore → WorldCore → Type 0
ClearsUp old new =
    (h : History) → LedTo h old → (i : ℕ) (job : Job) → slice_get h.jobs i ≡ Some job → IsClear h i job (λ j. j ≡ i)
    → ComesClear h old new i job

-- **two (`BothCome`, `SharesClear`, `IsEither`)**: two jobs name one device, and are clear but for each other. Each
-- comes to what a clear job comes to, or is answered that the device is busy, and one at most is.
abbrev pub IsEither : ℕ → ℕ → ℕ → Type 0
IsEither i j k = (k ≡ i) ⊎ (k ≡ j)

pub record BothCome (h : History) (old new : WorldCore) (i j : ℕ) (a b : Job) : Type 0 where
  pub out : RunsOut h old new
  pub first : Outcome
  pub first_is : outcome_at new i ≡ Some first
  pub second : Outcome
  pub second_is : outcome_at new j ≡ Some second
  pub comes : ComesTo (and_then h out.moves) new i a first ⊎ (first ≡ Ended statuses.DeviceBusy whys.Answer)
  pub comes_too : ComesTo (and_then h out.moves) new j b second ⊎ (second ≡ Ended statuses.DeviceBusy whys.Answer)
  pub one : first ≡ Ended statuses.DeviceBusy whys.Answer → second ≢ Ended statuses.DeviceBusy whys.Answer

abbrev pub SharesClear : WorldCore → WorldCore → Type 0
SharesClear old new =
    (h : History) → LedTo h old → (i j : ℕ) (a b : Job) → i ≢ j → slice_get h.jobs i ≡ Some a
    → slice_get h.jobs j ≡ Some b → b.device ≡ a.device → IsClear h i a (IsEither i j) → IsClear h j b (IsEither i j)
    → BothCome h old new i j a b

-- `run`, of events that are next moves, one after another: a job that was clear in front of them and is over behind
-- them
abbrev pub ClearsBy : List Event → WorldCore → WorldCore → Type 0
ClearsBy events old new =
    (h : History) → LedTo h old → AreNextMoves events old new → (i : ℕ) (job : Job) → slice_get h.jobs i ≡ Some job
    → IsClear h i job (λ j. j ≡ i) → (outcome : Outcome) → outcome_at new i ≡ Some outcome → outcome ≢ Running
    → ComesTo (and_then h events) new i job outcome

-- **listed (`AllAreListed`)**: where no event took a device out, all devices are listed, once, in their order.
abbrev pub AllAreListed : Type 0
AllAreListed =
    (h : History) (w : WorldCore) (i : ℕ) (job : Job) → IsJobAt h w i job
    → ((name : List ℕ) → HasEvent h (Unplug name) → ⊥)
    → listed_infos w.daemon.registry ≡ map (λ (d : DeviceState). d.info) h.devices

-- **no lie (`StoppedIsNoLie`, `RefusedIsNoLie`, `TurnedAwayIsNoLie`, `BothBusyIsNoLie`, `NeitherIsNoLie`)**: a clear
-- job that is not told as out of memory, and whose session did not break off, does not end otherwise, by next moves
-- that are run or by `run_all`. Of two that are clear but for each other, at most one is told busy, and neither is told
-- anything else.
abbrev pub StoppedIsNoLie : Type 0
StoppedIsNoLie =
    (h : History) (w : WorldCore) (i : ℕ) (job : Job) (status : Status) (why : Why) → starved_at w i ≡ false
    → status ≢ statuses.NoMem → (BrokeOff h w i job → ⊥) → ComesTo h w i job (Ended status why) → ⊥

-- it ended so, and neither memory nor a reply explains that, whatever next moves came behind these events
pub record CameRefused (h : History) (new : WorldCore) (i : ℕ) (job : Job) (status : Status) (why : Why) : Type 0 where
  pub ended : outcome_at new i ≡ Some (Ended status why)
  pub enough : starved_at new i ≡ false
  pub other : status ≢ statuses.NoMem
  pub whole : (moves : List Event) → BrokeOff (and_then h moves) new i job → ⊥

-- a clear job that is refused by next moves that are run
abbrev pub RefusedIsNoLie : Type 0
RefusedIsNoLie =
    (events : List Event) (old new : WorldCore) (h : History) (i : ℕ) (job : Job) (status : Status) (why : Why)
    → LedTo h old → AreNextMoves events old new → slice_get h.jobs i ≡ Some job → IsClear h i job (λ j. j ≡ i)
    → CameRefused h new i job status why → ClearsBy events old new → ⊥

-- a clear job that is refused behind `run_all`
abbrev pub TurnedAwayIsNoLie : Type 0
TurnedAwayIsNoLie =
    (old new : WorldCore) (h : History) (i : ℕ) (job : Job) (status : Status) (why : Why) → LedTo h old
    → slice_get h.jobs i ≡ Some job → IsClear h i job (λ j. j ≡ i) → CameRefused h new i job status why
    → ClearsUp old new → ⊥

-- two jobs of these places that name one device, and are clear but for each other
pub record AreClear (h : History) (old : WorldCore) (i j : ℕ) (a b : Job) : Type 0 where
  pub led : LedTo h old
  pub apart : i ≢ j
  pub first_at : slice_get h.jobs i ≡ Some a
  pub second_at : slice_get h.jobs j ≡ Some b
  pub same : b.device ≡ a.device
  pub first : IsClear h i a (IsEither i j)
  pub second : IsClear h j b (IsEither i j)

-- both told busy
abbrev pub BothBusyIsNoLie : Type 0
BothBusyIsNoLie =
    (old new : WorldCore) (h : History) (i j : ℕ) (a b : Job) → AreClear h old i j a b
    → outcome_at new i ≡ Some (Ended statuses.DeviceBusy whys.Answer)
    → outcome_at new j ≡ Some (Ended statuses.DeviceBusy whys.Answer) → SharesClear old new → ⊥

-- one of them refused otherwise
abbrev pub NeitherIsNoLie : Type 0
NeitherIsNoLie =
    (old new : WorldCore) (h : History) (i j : ℕ) (a b : Job) (status : Status) (why : Why) → AreClear h old i j a b
    → status ≢ statuses.DeviceBusy → CameRefused h new i a status why → SharesClear old new → ⊥
