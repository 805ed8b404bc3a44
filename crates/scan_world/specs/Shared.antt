-- HISTORIES IN WHICH STRANGERS ACT: there are some; and where none acts, all is as it is among jobs alone.
use Rattle.std.specs.Prelude.{ℕ, ◌≡◌, ◌≢◌, ◌++◌, false, Some, List, [], ◌∷◌}
use Rattle.netpbm.specs.Picture.{Picture}
use Rattle.netpbm.specs.Pnm.{Denotes}
use Rattle.page_picture.specs.Meaning.{meaning_of}
use Rattle.page_sources.specs.SourceView.{source_state}
use Rattle.sane_fixed.specs.declared.status.Status.TheVariants.{DeviceBusy}
use Rattle.md5_auth.specs.declared.users.Entry.{Entry}
use Rattle.device_api.specs.State.{DeviceState, HeldPage}
use Rattle.saned_requests.specs.declared.session.Session.{Session}
use Rattle.saned_core.specs.DaemonStates.{is_closed}
use Rattle.saned_serve.specs.SessionActions.SessionAction.{Opens}
use Rattle.scan_job.specs.declared.job.Job.{Job}
use Rattle.scan_job.specs.declared.job.Task.TheVariants as tasks
use Rattle.scan_job.specs.declared.report.Reports.{Reports}
use Rattle.event_world.specs.declared.event.Event.{Event}
use Rattle.event_world.specs.Worlds.{AreNew, Runs, WorldCore}
use Rattle.world_refines.specs.NewWorlds.{IsNewDaemon}
use Rattle.world_refines.specs.WorldRefinement.{IsNobodys}
use Rattle.strangers.specs.Among.{StrangerAct, StrangerActs}
use Rattle.strangers.specs.Together.{JointEvent, events_among}
use Rattle.strangers.specs.Together.JointEvent.{OfStranger}
use Rattle.scan_world.specs.Calls.{IsJobAt}
use Rattle.scan_world.specs.Endings.{AnswerIsExplained}
use Rattle.scan_world.specs.Histories.{HasNoActs, History, LedTo, and_then, begun, history_up_to}
use Rattle.scan_world.specs.Lies.{Always}
use Rattle.scan_world.specs.Page.{CameFor, IsScan, Settled}
use Rattle.scan_world.specs.Promise.{JobIsDone}
use Rattle.scan_world.specs.Sessions.{Asked, Has, IsAtOpen, SessionAt, StrangerHas}

-- **shared (`with_stranger`, `AStrangerCame`, `AStrangerMayCome`)**: whatever led to a world that has a job, a stranger
-- may come to it while a place for a session is free. That is such a history too, and the session is no job's.
abbrev pub with_stranger : History → WorldCore → ℕ → List JointEvent
with_stranger h w port = h.events ++ OfStranger (record { session = w.daemon.opened; act = Opens port }) ∷ []

pub record AStrangerCame (h : History) (w : WorldCore) (port : ℕ) : Type 0 where
  pub world_then : WorldCore
  pub led : LedTo (history_up_to h (with_stranger h w port)) world_then
  pub nobodys : IsNobodys world_then w.daemon.opened

abbrev pub AStrangerMayCome : Type 0
AStrangerMayCome = (h : History) (w : WorldCore) (i port : ℕ) (job : Job) → IsJobAt h w i job
    → is_closed w.daemon ≡ false → AStrangerCame h w port

-- **apart (`HoldersStandApart`, `ActsLeaveSessions`)**: no job and no stranger have devices of one name. Whatever a
-- stranger does, the session of each job stands as it stood, with all that it has: its device, its settings and the
-- pages there.
abbrev pub HoldersStandApart : Type 0
HoldersStandApart = (h : History) (w : WorldCore) (i : ℕ) (job : Job) → IsJobAt h w i job
    → (j : ℕ) (name : List ℕ) (d : DeviceState) → Has w j name d → StrangerHas w name → ⊥

-- whatever he does
abbrev pub ActsLeaveSessions : Type 0
ActsLeaveSessions = (h : History) (w v : WorldCore) (i : ℕ) (job : Job) → IsJobAt h w i job
    → (a : StrangerAct) → StrangerActs a.session a.act w v
    → (j : ℕ) (s : Session DeviceState) → SessionAt w j s → SessionAt v j s

-- ---- where no stranger does anything

-- **alone (`EventsAreNoActs`, `LedAlone`, `RanAlone`, `NoneSharesAlone`, `BusyIsByJobs`)**: events bring no act of a
-- stranger. A history without one is a run of its events alone. In its worlds only sessions of jobs have devices, so a
-- busy device is another job's.
pub record EventsAreNoActs : Type 0 where
  pub first : (devices : List DeviceState) (users : List Entry) (seed : List ℕ) (jobs : List Job)
      → HasNoActs (begun devices users seed jobs)
  pub then_none : (h : History) (events : List Event) → HasNoActs h → HasNoActs (and_then h events)

-- a new world, and then its events alone
pub record RanAlone (h : History) (w : WorldCore) : Type 0 where
  pub first : WorldCore
  pub endpoints : AreNew h.jobs first.endpoints
  pub daemon : IsNewDaemon h.devices first.daemon
  pub runs : Runs source_state (events_among h.events) first w

abbrev pub LedAlone : Type 0
LedAlone = (h : History) (w : WorldCore) → HasNoActs h → LedTo h w → RanAlone h w

-- no stranger has anything
abbrev pub NoneSharesAlone : Type 0
NoneSharesAlone = (h : History) (w : WorldCore) (i : ℕ) (job : Job) (name : List ℕ) → IsJobAt h w i job
    → HasNoActs h → StrangerHas w name → ⊥

-- so what explains DEVICE_BUSY is another job's session
abbrev pub BusyIsByJobs : Type 0
BusyIsByJobs = (h : History) (w : WorldCore) (i : ℕ) (job : Job) → IsJobAt h w i job → HasNoActs h
    → AnswerIsExplained h w i job DeviceBusy
    → (asked : Asked h w i IsAtOpen) × (j : ℕ) × (d : DeviceState) × (j ≢ i) × Has asked.at.before j job.device d

-- ---- the smallest lies

-- **no lie (`TheirPageIsNoLie`, `TakenIsNoLie`)**: a file is no scan of a page that lay in no device at first and that
-- no event brought, such as a stranger's. A job whose device a stranger had whenever it asked is done only if it is a
-- list.
abbrev pub TheirPageIsNoLie : Type 0
TheirPageIsNoLie =
    (h : History) (w : WorldCore) (i count : ℕ) (job : Job) (file : List ℕ)
    → ((held : HeldPage) (s : Settled h job) (picture : Picture) → CameFor h job.device held
    → meaning_of held.page s.setup.scene ≡ Some picture → Denotes file picture → ⊥)
    → IsScan h w i job count file → ⊥

-- done, though a stranger had the device
abbrev pub TakenIsNoLie : Type 0
TakenIsNoLie =
    (h : History) (w : WorldCore) (i : ℕ) (job : Job) (reports : Reports) → job.task ≢ tasks.List
    → Always h w i (λ before. StrangerHas before job.device) → JobIsDone h w i job reports → ⊥
