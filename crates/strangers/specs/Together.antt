-- Jobs and strangers together: whatever happens to any of them, in any order, all stand, and what is promised of jobs
-- is kept.
use Rattle.std.specs.Prelude.{ℕ, ◌≡◌, ◌≢◌, ◌<◌, ◌++◌, false, Some, List, [], ◌∷◌, All, map, slice_get}
use Rattle.std.specs.List.{AllByRecursion}
use Rattle.netpbm.specs.NoFile.{HoldsNoFile}
use Rattle.page_picture.specs.Source.{SourceState}
use Rattle.page_sources.specs.declared.kinds.Source.{Source}
use Rattle.device_api.specs.ScannerLimits.{HasLimits}
use Rattle.device_api.specs.State.{DeviceState}
use Rattle.dispatch.specs.declared.table.place.Lease.{Lease}
use Rattle.dispatch.specs.RegistryFault.{HaveOwnNames}
use Rattle.saned_requests.specs.declared.session.Session.{Session as RequestSession}
use Rattle.saned_requests.specs.Holding.{held_by}
use Rattle.saned_core.specs.DaemonStates.{session_of, session_slot_of}
use Rattle.saned_serve.specs.SessionActions.{SessionAction}
use Rattle.saned_serve.specs.SessionActions.SessionAction.{Opens}
use Rattle.scan_job.specs.declared.job.Job.{Job}
use Rattle.system_model.specs.Marks.{MarksLead, device_view}
use Rattle.system_model.specs.MoveRuns.{all_marks}
use Rattle.system_model.specs.Transitions.{IsHistory, Transition, after_all}
use Rattle.event_world.specs.declared.endpoint.Endpoint.{Endpoint}
use Rattle.event_world.specs.declared.event.Event.{Event}
use Rattle.event_world.specs.declared.event.Event.TheVariants.{Load}
use Rattle.event_world.specs.JobEvents.{is_done}
use Rattle.event_world.specs.Worlds.{AreNew, IsFitJob, Leads, WorldCore}
use Rattle.world_refines.specs.Costs.{Pays}
use Rattle.world_refines.specs.GhostStates.{Ghost, name_at}
use Rattle.world_refines.specs.MainTheorem.{AreFittingLoads, AreTrueLoads, GhostComes, IsFittingLoad, IsTrueLoad}
use Rattle.world_refines.specs.MainTheorem.{Promises}
use Rattle.world_refines.specs.NewWorlds.{HaveSourcesAt, IsNewDaemon, PageSources, info_of_state, initial_ghost}
use Rattle.world_refines.specs.NewWorlds.{make_of}
use Rattle.world_refines.specs.WorldRefinement.{HasNoStrangers, IsNobodys, stranger_of}
use Rattle.strangers.specs.Among.{MayHaveStrangers, StrangerAct, StrangerActs}
use Rattle.strangers.specs.LeavingJobs.{IsUseOf, ghost_behind}

-- **a stranger's act among jobs (`WorldStays`, `IsUseOf`)**: it is steps of the model, each a use of a device by that
-- stranger. Behind it the world stands for what they lead to. No other session's slot is touched, nor a device that
-- another holds.
pub record WorldStays (t : Ghost) (w v : WorldCore) (n : ℕ) : Type 0 where
  pub steps : List Transition
  pub uses : AllByRecursion (IsUseOf (stranger_of w n)) steps
  pub legal : IsHistory t.system steps
  pub stands : MayHaveStrangers (ghost_behind steps t) v
  pub slots : (m : ℕ) → m ≢ n → session_slot_of v.daemon.slots m ≡ session_slot_of w.daemon.slots m
  pub held : (k j : ℕ) → j ≢ stranger_of w n → (t.system.device k).holder ≡ Some j
      → (after_all t.system steps).device k ≡ t.system.device k

abbrev pub StrangersKeepWorlds : Type 0
StrangersKeepWorlds =
    (t : Ghost) (w v : WorldCore) (n : ℕ) (act : SessionAction) → MayHaveStrangers t w → StrangerActs n act w v
    → WorldStays t w v n

-- it lays no page in, which may come to a device that a stranger holds
abbrev pub LaysNoPage : Event → Type 0
LaysNoPage (Load name page) = ⊥
LaysNoPage e = Unit {0}

-- a stranger's session is nobody's still, with the devices that it holds and the replies that wait
pub record StrangerIsLeft (w v : WorldCore) (n : ℕ) : Type 0 where
  pub nobodys : IsNobodys v n
  pub slot : session_slot_of v.daemon.slots n ≡ session_slot_of w.daemon.slots n

-- **an event among strangers (`JobsGoOn`, `JobGoesOn`, `StrangerIsLeft`)**: an event of a job or a device is the same
-- steps of the model as in a world of jobs alone, and all stand behind them. Each stranger's session is as it was,
-- except that a page may be laid into a device that a stranger holds.
pub record JobGoesOn (source : Source → SourceState) (e : Event) (t : Ghost) (w v : WorldCore) : Type 0 where
  pub steps : List Transition
  pub ghost_then : Ghost
  pub comes : GhostComes source e t steps ghost_then
  pub legal : IsHistory t.system steps
  pub rules_are : ghost_then.system ≡ after_all t.system steps
  pub stands : MayHaveStrangers ghost_then v
  pub strangers : LaysNoPage e → (n : ℕ) → n < w.daemon.opened → IsNobodys w n → StrangerIsLeft w v n
  pub pays : Pays t w → Pays ghost_then v

abbrev pub JobsGoOn : Type 0
JobsGoOn = (source : Source → SourceState) (e : Event) (t : Ghost) (w v : WorldCore) → MayHaveStrangers t w
    → IsTrueLoad source e → IsFittingLoad source t.infos t.system.make e → Leads source e w v
    → JobGoesOn source e t w v

-- ---- one after another

-- **a history of jobs and strangers (`JointEvent`, `RunsAmong`, `ComesAmong`)**: events of jobs and devices, and acts
-- of strangers, one after another. Each takes its steps of the model; those of an act are uses of devices by its
-- stranger. Behind each the world stands for what it led to.
pub data JointEvent : Type 0 where
  OfJobs : Event → JointEvent
  OfStranger : StrangerAct → JointEvent

-- the events among them
abbrev pub events_among : List JointEvent → List Event
events_among [] = []
events_among (OfJobs e ∷ xs) = e ∷ events_among xs
events_among (OfStranger a ∷ xs) = events_among xs

abbrev pub RunsAmong : (Source → SourceState) → List JointEvent → WorldCore → WorldCore → Type 0
RunsAmong source [] w v = v ≡ w
RunsAmong source (OfJobs e ∷ xs) w v = (u : WorldCore) × Leads source e w u × RunsAmong source xs u v
RunsAmong source (OfStranger a ∷ xs) w v =
    (u : WorldCore) × StrangerActs a.session a.act w u × RunsAmong source xs u v

abbrev pub ComesAmong : (source : Source → SourceState) (xs : List JointEvent) (w v : WorldCore)
    → RunsAmong source xs w v → Ghost → List Transition → Ghost → Type 0
ComesAmong source [] w v run t steps u = (steps ≡ []) × (u ≡ t)
ComesAmong source (OfJobs e ∷ xs) w v run t steps u = (first more : List Transition) × (mid : Ghost)
    × (steps ≡ first ++ more) × GhostComes source e t first mid × (mid.system ≡ after_all t.system first)
    × MayHaveStrangers mid run.0 × ComesAmong source xs run.0 v run.2 mid more u
ComesAmong source (OfStranger a ∷ xs) w v run t steps u = (first more : List Transition) × (steps ≡ first ++ more)
    × AllByRecursion (IsUseOf (stranger_of w a.session)) first × MayHaveStrangers (ghost_behind first t) run.0
    × ComesAmong source xs run.0 v run.2 (ghost_behind first t) more u

-- **all go on (`AllGoOn`)**: their steps are one history of the model, and its marks may come at each device: no two
-- hold one, a start takes the page that is next, and no page is laid in within a scan, whoever it is.
pub record AllGoOn (source : Source → SourceState) (xs : List JointEvent) (t : Ghost) (w v : WorldCore)
    (run : RunsAmong source xs w v) : Type 0 where
  pub ghost_then : Ghost
  pub steps : List Transition
  pub comes : ComesAmong source xs w v run t steps ghost_then
  pub legal : IsHistory t.system steps
  pub rules_are : ghost_then.system ≡ after_all t.system steps
  pub marks : (d : ℕ)
      → MarksLead (device_view (t.system.make d) (t.system.device d)) (all_marks d t.system steps)
      (device_view (t.system.make d) ((after_all t.system steps).device d))
  pub stands : MayHaveStrangers ghost_then v
  -- moves that sufficed suffice
  pub pays : Pays t w → Pays ghost_then v

abbrev pub AllGoOnTogether : Type 0
AllGoOnTogether = (source : Source → SourceState) (xs : List JointEvent) (t : Ghost) (w v : WorldCore)
    → MayHaveStrangers t w → AreTrueLoads source (events_among xs)
    → AreFittingLoads source t.infos t.system.make (events_among xs) → (run : RunsAmong source xs w v)
    → AllGoOn source xs t w v run

-- ---- what is kept of every job

-- **kept among strangers (`KeptAmongStrangers`, `AllIsKeptAmongStrangers`)**: from a new world on, behind any events
-- and any acts of any strangers, in any order, all is kept that is promised of jobs in a world of jobs alone: outcomes,
-- files, finished pages, moves. (The other job stands for the numbers without a job, and names no device. A job that
-- finds every session taken by strangers is shut out as one out of memory is, and told so.)
pub record KeptAmongStrangers (source : Source → SourceState) (xs : List JointEvent) (t : Ghost) (w v : WorldCore)
    (run : RunsAmong source xs w v) : Type 0 where
  pub all : AllGoOn source xs t w v run
  pub promises : Promises all.ghost_then v

abbrev pub AllIsKeptAmongStrangers : Type 0
AllIsKeptAmongStrangers =
    (source : Source → SourceState) (xs : List JointEvent) (sources : ℕ → PageSources) (jobs : List Job) (other : Job)
    (devices : List DeviceState) (w v : WorldCore) → AreNew jobs w.endpoints → IsNewDaemon devices w.daemon
    → HaveOwnNames devices → All HasLimits devices → All IsFitJob jobs
    → ((k : ℕ) → name_at (map info_of_state devices) k ≢ Some other.device)
    → AreTrueLoads source (events_among xs) → HaveSourcesAt sources devices
    → AreFittingLoads source (map info_of_state devices) (λ k. make_of (sources k) (slice_get devices k))
    (events_among xs)
    → (run : RunsAmong source xs w v)
    → KeptAmongStrangers source xs (initial_ghost sources jobs other devices w.daemon.users w.endpoints) w v run

-- the smallest lie: a file that is whole, of a job that is not done
abbrev pub StrangersCompleteNoFile : Type 0
StrangersCompleteNoFile =
    (source : Source → SourceState) (xs : List JointEvent) (t : Ghost) (w v : WorldCore) (run : RunsAmong source xs w v)
    → KeptAmongStrangers source xs t w v run → (i : ℕ) (endpoint : Endpoint) (file : List ℕ)
    → slice_get v.endpoints i ≡ Some endpoint → is_done endpoint.client.outcome ≡ false → endpoint.file ≡ Some file
    → HoldsNoFile file

-- ---- no two hold one device

-- the session of that number has a lease of the device of that place
pub record Leases (w : WorldCore) (n place : ℕ) : Type 0 where
  pub session : RequestSession DeviceState
  pub stands : session_of w.daemon n ≡ Some session
  pub word : ℕ
  pub lease : Lease DeviceState
  pub held : held_by session.held word ≡ Some lease
  pub of_place : lease.place ≡ place

-- **one holder among all (`OneHolderAmong`, `Leases`)**: no two sessions hold one device, whether they are jobs' or
-- strangers'.
abbrev pub OneHolderAmong : Type 0
OneHolderAmong =
    (t : Ghost) (w : WorldCore) (m n place : ℕ) → MayHaveStrangers t w → Leases w m place → Leases w n place → m ≡ n

-- ---- and there are such histories

-- **there are strangers (`ThereAreStrangers`)**: in any new world a stranger may come, whatever its jobs; behind that
-- one session is no endpoint's.
pub record StrangerCame (source : Source → SourceState) (port : ℕ) (w : WorldCore) : Type 0 where
  pub world_then : WorldCore
  pub runs : RunsAmong source (OfStranger (record { session = 0; act = Opens port }) ∷ []) w world_then
  pub stranger : HasNoStrangers world_then → ⊥

abbrev pub ThereAreStrangers : Type 0
ThereAreStrangers =
    (source : Source → SourceState) (port : ℕ) (jobs : List Job) (devices : List DeviceState) (w : WorldCore)
    → AreNew jobs w.endpoints → IsNewDaemon devices w.daemon → StrangerCame source port w
