-- WHAT THE PROMISE REFUSES: of each part of it the smallest lies. So no part of it holds of whatever happens.
use Rattle.std.specs.Prelude.{ℕ, ◌≡◌, ◌≢◌, ◌⊎◌, ◌<◌, ◌≤◌, ◌-◌, Bool, true, false, Some, None, Ok, Err, List, [], ◌∷◌}
use Rattle.std.specs.Prelude.{Contains, length, slice_get, take}
use Rattle.netpbm.specs.Picture.{Picture}
use Rattle.netpbm.specs.Pnm.{Denotes, IsWhole}
use Rattle.scan_laws.specs.SetInfo.{has_bit}
use Rattle.page_picture.specs.Meaning.{meaning_of}
use Rattle.page_picture.specs.Page.{PageView}
use Rattle.page_sources.specs.SourceView.{source_state}
use Rattle.page_sources.specs.declared.kinds.Source.{Source}
use Rattle.saned_core.specs.Loading.{core_after_load, daemon_load_answer}
use Rattle.sane_fixed.specs.declared.device_info.DeviceInfo.{DeviceInfo}
use Rattle.sane_fixed.specs.declared.status.Status.TheVariants.{Cancelled, DeviceBusy, Inval, Jammed, NoDocs, IoError}
use Rattle.sane_fixed.specs.declared.status.Status.TheVariants.{NoMem, AccessDenied}
use Rattle.device_api.specs.State.{DeviceState, HeldPage, is_at_rest, page_of}
use Rattle.dispatch.specs.Table.{find_name, listed_infos, unplug_answer}
use Rattle.saned_requests.specs.declared.session.Session.{Session}
use Rattle.client_replies.specs.ProtocolStates.{scans}
use Rattle.scan_job.specs.declared.job.Job.{Job}
use Rattle.scan_job.specs.declared.job.Task.TheVariants as tasks
use Rattle.scan_job.specs.declared.outcome.Outcome.TheVariants.{Done, Running}
use Rattle.scan_job.specs.declared.outcome.Why.TheVariants as whys
use Rattle.scan_job.specs.declared.outcome.Outcome.{Outcome}
use Rattle.scan_job.specs.declared.report.Report.{Report}
use Rattle.scan_job.specs.declared.report.Reports.{Reports}
use Rattle.event_world.specs.declared.event.Event.{Event}
use Rattle.event_world.specs.declared.event.Event.TheVariants.{Cancel, DataToClient, Load, LoseControl, LoseImage}
use Rattle.event_world.specs.declared.event.Event.TheVariants.{ToClient, ToDaemon, Unplug}
use Rattle.event_world.specs.declared.event.JobEvent.{JobEvent}
use Rattle.event_world.specs.JobEvents.{job_event_of}
use Rattle.event_world.specs.Worlds.{WorldCore}
use Rattle.world_refines.specs.FailedSources.{CutIn}
use Rattle.world_refines.specs.GhostStates.{backend_of, is_allowed, is_guarded}
use Rattle.scan_world.specs.Calls.{CancelEnds, IsGoodMove, IsHeldStep, IsWorldStep, OneHolder, RunsOut, left_at}
use Rattle.scan_world.specs.Calls.{outcome_at, starved_at}
use Rattle.scan_world.specs.Endings.{DeviceFailed, IsEndingExplained, IsUnforced}
use Rattle.scan_world.specs.Histories.{HasEvent, History, LedTo, Moment, EachStep}
use Rattle.scan_world.specs.Page.{CameInTime, IsSteady, Settled}
use Rattle.scan_world.specs.Promise.{CountIsKept, FileIsKept, JobIsDone, MoveIsKept, PageIsKept}
use Rattle.scan_world.specs.Sessions.{AtJob, CanAt, Happened, Has, SessionAt, StrangerHas}
use Rattle.scan_world.specs.Trays.{CountsPages, IsOfTray, OwnTray, first_tray}

-- ---- of an ending

-- **lies (`BusyIsNoLie`, `InvalIsNoLie`, `UnheardIsNoLie`, `DeniedIsNoLie`, `EmptyIsNoLie`, `FailedIsNoLie`,
-- `LostIsNoLie`, `MemoryIsNoLie`, `JammedIsNoLie`, `UnscannedIsNoLie`, `FirmIsNoLie`, `CancelledIsNoLie`,
-- `ListIsNoLie`, `NowhereIsNoLie`, `HiddenIsNoLie`, `AllowedIsNoLie`, `NeverHadIsNoLie`, `SilentIsNoLie`,
-- `RoundedIsNoLie`, `FileIsNoLie`, `UnchangedStandAside`, `RefusedStandAside`, `PageIsNoLie`, `FewIsNoLie`,
-- `TrayPageIsNoLie`, `WholeIsNoLie`, `MissingIsNoLie`, `StuckIsNoLie`, `MovedIsNoLie`, `LossIsNoLie`, `IdleIsNoLie`,
-- `GoneOnIsNoLie`, `GivenUpIsNoLie`, `StarvedIsNoLie`, `LaidIsNoLie`, `TornOutIsNoLie`, `StillRunsIsNoLie`,
-- `SharedIsNoLie`, `SwappedIsNoLie`, `GivenAwayIsNoLie`, `UnseededIsNoLie`, `Always`, `NamesNothing`, `DenotesNone`)**:
-- the smallest lies, each with the part of the promise that refuses it: an ending of each kind without what explains
-- it; a list of other devices; settings on no device, or not told; a file of another page, or whole too soon, or none;
-- a move too few, too many, or a loss where nothing is wrong; a run that does nothing, a cancel that ends nothing, a
-- `run_all` that gives a job up; a device of two holders, and another page in mid-scan. `Always` says what was so in
-- front of each delivery of a job's requests. `NamesNothing` says that its options name no status.
--
-- this is so in front of each delivery of the job's requests
abbrev pub Always : History → WorldCore → ℕ → (WorldCore → Type 0) → Type 0
Always h w i Is = (n : ℕ) (at : Moment h w (ToDaemon i n)) → Is at.before

-- its options name no status, whatever its settings
abbrev pub NamesNothing : History → Job → Type 0
NamesNothing h job = (s : Settled h job) → s.setup.told ≡ None

-- busy, though no other job had the device, and no stranger
abbrev pub BusyIsNoLie : Type 0
BusyIsNoLie =
    (h : History) (w : WorldCore) (i : ℕ) (job : Job) (starved : Bool) → NamesNothing h job
    → Always h w i (λ before. (j : ℕ) (d : DeviceState) → Has before j job.device d → j ≡ i)
    → Always h w i (λ before. StrangerHas before job.device → ⊥)
    → IsEndingExplained h w i job starved DeviceBusy whys.Answer → ⊥

-- INVAL, though the device was listed, and the settings can be in force and mean a picture on its page
abbrev pub InvalIsNoLie : Type 0
InvalIsNoLie =
    (h : History) (w : WorldCore) (i : ℕ) (job : Job) (starved : Bool) → NamesNothing h job → (IsUnforced h job → ⊥)
    → Always h w i (λ before. find_name job.device before.daemon.registry ≢ None)
    → Always h w i (λ before. (d : DeviceState) → Has before i job.device d
    → meaning_of (page_of d) d.setup.scene ≢ None)
    → IsEndingExplained h w i job starved Inval whys.Answer → ⊥

-- INVAL by its settings, though its device was never listed as it asked for it
abbrev pub UnheardIsNoLie : Type 0
UnheardIsNoLie =
    (h : History) (w : WorldCore) (i : ℕ) (job : Job) (starved : Bool)
    → Always h w i (λ before. find_name job.device before.daemon.registry ≡ None)
    → IsEndingExplained h w i job starved Inval whys.Setting → ⊥

-- denied, with the right password
abbrev pub DeniedIsNoLie : Type 0
DeniedIsNoLie =
    (h : History) (w : WorldCore) (i : ℕ) (job : Job) (starved : Bool) → NamesNothing h job
    → ((challenge : List ℕ) → is_allowed h.users job.user job.password (backend_of job.device) challenge ≡ true)
    → IsEndingExplained h w i job starved AccessDenied whys.Answer → ⊥

-- NO_DOCS, with a page in the tray
abbrev pub EmptyIsNoLie : Type 0
EmptyIsNoLie =
    (h : History) (w : WorldCore) (i : ℕ) (job : Job) (starved : Bool) → NamesNothing h job
    → Always h w i (λ before. (d : DeviceState) → Has before i job.device d → d.pages ≢ [])
    → IsEndingExplained h w i job starved NoDocs whys.Answer → ⊥

-- IO_ERROR, though in no event the source of its device failed
abbrev pub FailedIsNoLie : Type 0
FailedIsNoLie =
    (h : History) (w : WorldCore) (i : ℕ) (job : Job) (starved : Bool) → NamesNothing h job
    → ((e : Event) (at : Moment h w e) → DeviceFailed at.before at.behind i job.device → ⊥)
    → IsEndingExplained h w i job starved IoError whys.Answer → ⊥

-- lost, where no connection of it that stood was lost, and it is not told as out of memory
abbrev pub LostIsNoLie : Type 0
LostIsNoLie =
    (h : History) (w : WorldCore) (i : ℕ) (job : Job) → (Happened h w i (LoseControl i) → ⊥)
    → (Happened h w i (LoseImage i) → ⊥) → IsEndingExplained h w i job false IoError whys.Lost → ⊥

-- out of memory at the client, to which nothing could come
abbrev pub MemoryIsNoLie : Type 0
MemoryIsNoLie =
    (h : History) (w : WorldCore) (i : ℕ) (job : Job) (starved : Bool)
    → ((n : ℕ) → Happened h w i (ToClient i n) → ⊥)
    → ((n : ℕ) → Happened h w i (DataToClient i n) → ⊥) → IsEndingExplained h w i job starved NoMem whys.Memory → ⊥

-- jammed, though no option names that
abbrev pub JammedIsNoLie : Type 0
JammedIsNoLie =
    (h : History) (w : WorldCore) (i : ℕ) (job : Job) (starved : Bool) → NamesNothing h job
    → IsEndingExplained h w i job starved Jammed whys.Answer → ⊥

-- NO_DOCS, or IO_ERROR, of a job that does not scan
abbrev pub UnscannedIsNoLie : Type 0
UnscannedIsNoLie =
    (h : History) (w : WorldCore) (i : ℕ) (job : Job) (starved : Bool) → scans job.task ≡ false
    → (IsEndingExplained h w i job starved NoDocs whys.Answer ⊎ IsEndingExplained h w i job starved IoError whys.Answer)
    → ⊥

-- IO_ERROR, though no page that can fail came for its device
abbrev pub FirmIsNoLie : Type 0
FirmIsNoLie =
    (h : History) (w : WorldCore) (i : ℕ) (job : Job) (starved : Bool) → NamesNothing h job
    → ((held : HeldPage) → CameInTime h w i job.device held → held.infallible ≡ true)
    → IsEndingExplained h w i job starved IoError whys.Answer → ⊥

-- cancelled, though nobody gave it up
abbrev pub CancelledIsNoLie : Type 0
CancelledIsNoLie =
    (h : History) (w : WorldCore) (i : ℕ) (job : Job) (starved : Bool) → (HasEvent h (Cancel i) → ⊥)
    → IsEndingExplained h w i job starved Cancelled whys.Cancelled → ⊥

-- ---- of a job that is done

-- other devices than those that were listed, none of them, one of them twice, or in another order
abbrev pub ListIsNoLie : Type 0
ListIsNoLie =
    (h : History) (w : WorldCore) (i : ℕ) (job : Job) (reports : Reports) (infos : List DeviceInfo)
    → job.task ≡ tasks.List
    → Always h w i (λ before. listed_infos before.daemon.registry ≡ infos) → reports.devices ≢ infos
    → JobIsDone h w i job reports → ⊥

-- a show of no option
abbrev pub ShownIsNoLie : Type 0
ShownIsNoLie =
    (h : History) (w : WorldCore) (i : ℕ) (job : Job) (reports : Reports) → job.task ≡ tasks.Show → reports.options ≡ []
    → JobIsDone h w i job reports → ⊥

-- a batch of fewer pages than its count, though its device had one whenever it asked
abbrev pub CountIsNoLie : Type 0
CountIsNoLie =
    (h : History) (w : WorldCore) (i : ℕ) (job : Job) (reports : Reports) (count finished : ℕ)
    → job.task ≡ tasks.Batch count
    → finished ≢ count → Always h w i (λ before. (d : DeviceState) → Has before i job.device d → d.pages ≢ [])
    → CountIsKept h w i job (Done reports) finished → ⊥

-- a batch of fewer pages than its count, though as many lay in the tray of its own
abbrev pub FewIsNoLie : Type 0
FewIsNoLie =
    (h : History) (w : WorldCore) (i : ℕ) (job : Job) (finished count : ℕ) (tray : OwnTray h i job)
    → count ≤ length (first_tray tray.device) → finished ≢ count → CountsPages h w i job finished count → ⊥

-- page k of another page than the k-th of its tray
abbrev pub TrayPageIsNoLie : Type 0
TrayPageIsNoLie =
    (h : History) (w : WorldCore) (i : ℕ) (job : Job) (tray : OwnTray h i job) (k : ℕ) (page : PageView) (file : List ℕ)
    → slice_get (first_tray tray.device) (k - 1) ≡ Some page
    → ((s : Settled h job) (picture : Picture) → meaning_of page s.setup.scene ≡ Some picture → Denotes file picture
    → ⊥)
    → IsOfTray h w i job tray k file → ⊥

-- settings put on a device that is not there
abbrev pub NowhereIsNoLie : Type 0
NowhereIsNoLie =
    (h : History) (w : WorldCore) (i : ℕ) (job : Job) (reports : Reports) → job.task ≢ tasks.List
    → ((device : DeviceState) → Contains h.devices device → device.info.name ≡ job.device → ⊥)
    → JobIsDone h w i job reports → ⊥

-- done, though the device was not listed whenever it asked
abbrev pub HiddenIsNoLie : Type 0
HiddenIsNoLie =
    (h : History) (w : WorldCore) (i : ℕ) (job : Job) (reports : Reports) → job.task ≢ tasks.List
    → Always h w i (λ before. find_name job.device before.daemon.registry ≡ None) → JobIsDone h w i job reports → ⊥

-- done, with the wrong password
abbrev pub AllowedIsNoLie : Type 0
AllowedIsNoLie =
    (h : History) (w : WorldCore) (i : ℕ) (job : Job) (reports : Reports) → job.task ≢ tasks.List
    → is_guarded h.users (backend_of job.device) ≡ true
    → ((challenge : List ℕ) → is_allowed h.users job.user job.password (backend_of job.device) challenge ≡ false)
    → JobIsDone h w i job reports → ⊥

-- done, though behind each delivery of its requests its session stood, and did not have the device
abbrev pub NeverHadIsNoLie : Type 0
NeverHadIsNoLie =
    (h : History) (w : WorldCore) (i : ℕ) (job : Job) (reports : Reports) → job.task ≢ tasks.List
    → ((n : ℕ) (at : Moment h w (ToDaemon i n)) → ((s : Session DeviceState) × SessionAt at.behind i s)
    × ((d : DeviceState) → Has at.behind i job.device d → ⊥))
    → JobIsDone h w i job reports → ⊥

-- settings of which nothing is told
abbrev pub SilentIsNoLie : Type 0
SilentIsNoLie =
    (h : History) (w : WorldCore) (i : ℕ) (job : Job) (reports : Reports) (setting : List ℕ × List ℕ)
    (more : List (List ℕ × List ℕ)) → job.task ≢ tasks.List → job.settings.items ≡ setting ∷ more
    → reports.settings ≡ [] → JobIsDone h w i job reports → ⊥

-- another value than was asked for, without INEXACT
abbrev pub RoundedIsNoLie : Type 0
RoundedIsNoLie =
    (h : History) (w : WorldCore) (i : ℕ) (job : Job) (reports : Reports) (report : Report) (more : List Report)
    → job.task ≢ tasks.List → reports.settings ≡ report ∷ more → report.given ≢ report.asked
    → has_bit report.info 1 ≡ false → JobIsDone h w i job reports → ⊥

-- ---- of a file

-- this file denotes nothing that settings of the job mean on the first page of its device in this world
abbrev pub DenotesNone : History → ℕ → Job → List ℕ → WorldCore → Type 0
DenotesNone h i job bytes before =
    (d : DeviceState) (s : Settled h job) (picture : Picture) → Has before i job.device d
    → meaning_of (page_of d) s.setup.scene ≡ Some picture → Denotes bytes picture → ⊥

-- the file of another page, as of one that came in mid-scan
abbrev pub FileIsNoLie : Type 0
FileIsNoLie =
    (h : History) (w : WorldCore) (i : ℕ) (job : Job) (starved : Bool) (reports : Reports) (bytes : List ℕ)
    → IsSteady h w i job.device → job.task ≡ tasks.Scan → Always h w i (DenotesNone h i job bytes)
    → FileIsKept h w i job starved (Done reports) (Some bytes) → ⊥

-- pages whose event changed nothing are none of those that must be steady
abbrev pub UnchangedStandAside : Type 0
UnchangedStandAside =
    (h : History) (w : WorldCore) (i : ℕ) (name : List ℕ)
    → ((device : DeviceState) → Contains h.devices device → device.info.name ≡ name
    → (held : HeldPage) → Contains device.pages held → held.steady ≡ true)
    → ((source : Source) (at : Moment h w (Load name source))
    → ((source_state source).steady ≡ true) ⊎ (at.behind ≡ at.before)) → IsSteady h w i name

-- nor are pages that the daemon refused, as those for a full tray
abbrev pub RefusedStandAside : Type 0
RefusedStandAside =
    (h : History) (w : WorldCore) (i : ℕ) (name : List ℕ)
    → ((device : DeviceState) → Contains h.devices device → device.info.name ≡ name
    → (held : HeldPage) → Contains device.pages held → held.steady ≡ true)
    → ((source : Source) (at : Moment h w (Load name source))
    → ((source_state source).steady ≡ true) ⊎ (daemon_load_answer at.before.daemon name ≢ Ok tt)) → IsSteady h w i name

-- page k of another page, as of the first again
abbrev pub PageIsNoLie : Type 0
PageIsNoLie =
    (h : History) (w : WorldCore) (i : ℕ) (job : Job) (starved : Bool) (finished k : ℕ) (bytes : List ℕ)
    → IsSteady h w i job.device
    → Always h w i (λ before. AtJob before i (λ p. p.finished ≡ k - 1) → DenotesNone h i job bytes before)
    → PageIsKept h w i job starved finished k (Some bytes) → ⊥

-- a whole file in front of what a job that is not done has
abbrev pub WholeIsNoLie : Type 0
WholeIsNoLie =
    (h : History) (w : WorldCore) (i : ℕ) (job : Job) (starved : Bool) (outcome : Outcome) (bytes : List ℕ)
    (n : ℕ) → ((reports : Reports) → outcome ≡ Done reports → ⊥) → IsWhole (take n bytes)
    → FileIsKept h w i job starved outcome (Some bytes) → ⊥

-- no file, though the job is not told as out of memory
abbrev pub MissingIsNoLie : Type 0
MissingIsNoLie =
    (h : History) (w : WorldCore) (i : ℕ) (job : Job) (outcome : Outcome)
    → FileIsKept h w i job false outcome None → ⊥

-- ---- of a move

-- none for a job that runs
abbrev pub StuckIsNoLie : Type 0
StuckIsNoLie = MoveIsKept Running None → ⊥

-- one for a job that is done
abbrev pub MovedIsNoLie : Type 0
MovedIsNoLie = (reports : Reports) (event : Event) → MoveIsKept (Done reports) (Some event) → ⊥

-- the loss of its connection, though it is not told as out of memory, and each of its replies can be said
abbrev pub LossIsNoLie : Type 0
LossIsNoLie =
    (h : History) (w : WorldCore) (i : ℕ) (job : Job) → starved_at w i ≡ false
    → ((n : ℕ) (at : Moment h w (ToDaemon i n)) → CutIn at.before i job → ⊥)
    → IsGoodMove h w i job (Some (LoseControl i)) → ⊥

-- ---- of a run

-- a run that does nothing, though its event could happen
abbrev pub IdleIsNoLie : Type 0
IdleIsNoLie =
    (w : WorldCore) (i : ℕ) (own : JobEvent) → CanAt w i own → 0 < left_at w i
    → EachStep IsWorldStep (job_event_of i own ∷ []) w w → ⊥

-- a job that is told as out of memory by an event that could not happen to it, or by a cancel
abbrev pub StarvedIsNoLie : Type 0
StarvedIsNoLie =
    (w v : WorldCore) (i : ℕ) → starved_at w i ≡ false → starved_at v i ≡ true
    → ((own : JobEvent) → (CanAt w i own → ⊥) → EachStep IsWorldStep (job_event_of i own ∷ []) w v → ⊥)
    × (EachStep IsWorldStep (Cancel i ∷ []) w v → ⊥)

-- a page that is laid in at rest and changes nothing, though its device has room for it
abbrev pub LaidIsNoLie : Type 0
LaidIsNoLie =
    (w : WorldCore) (name : List ℕ) (source : Source) → daemon_load_answer w.daemon name ≡ Ok tt
    → core_after_load w.daemon name (source_state source) ≢ w.daemon
    → EachStep IsWorldStep (Load name source ∷ []) w w → ⊥

-- a device that is taken out though a session has it
abbrev pub TornOutIsNoLie : Type 0
TornOutIsNoLie =
    (w v : WorldCore) (name : List ℕ) → unplug_answer w.daemon.registry name ≡ Err DeviceBusy
    → listed_infos v.daemon.registry ≢ listed_infos w.daemon.registry → EachStep IsWorldStep (Unplug name ∷ []) w v → ⊥

-- a cancel that leaves its job running
abbrev pub GoneOnIsNoLie : Type 0
GoneOnIsNoLie =
    (w v : WorldCore) (i : ℕ) → outcome_at w i ≡ Some Running → outcome_at v i ≡ Some Running
    → CancelEnds (Cancel i ∷ []) w v → ⊥

-- moves until no job runs that are a cancel
abbrev pub GivenUpIsNoLie : Type 0
GivenUpIsNoLie = (h : History) (w v : WorldCore) (i : ℕ) (out : RunsOut h w v) → out.moves ≡ Cancel i ∷ [] → ⊥

-- moves until no job runs, behind which one runs
abbrev pub StillRunsIsNoLie : Type 0
StillRunsIsNoLie =
    (h : History) (w v : WorldCore) (i : ℕ) (job : Job) → slice_get h.jobs i ≡ Some job
    → outcome_at v i ≡ Some Running → RunsOut h w v → ⊥

-- ---- of devices

-- two jobs that both have a device
abbrev pub SharedIsNoLie : Type 0
SharedIsNoLie =
    (w : WorldCore) (i j : ℕ) (name : List ℕ) (a b : DeviceState) → i ≢ j → Has w i name a → Has w j name b
    → OneHolder w → ⊥

-- another page in mid-scan
abbrev pub SwappedIsNoLie : Type 0
SwappedIsNoLie =
    (w v : WorldCore) (i : ℕ) (name : List ℕ) (a b : DeviceState) (e : Event) → Has w i name a → Has v i name b
    → is_at_rest a.phase ≡ false → is_at_rest b.phase ≡ false → page_of b ≢ page_of a
    → EachStep IsHeldStep (e ∷ []) w v → ⊥

-- a session has a device no more, though its connection was not lost and no request was delivered to it
abbrev pub GivenAwayIsNoLie : Type 0
GivenAwayIsNoLie =
    (w v : WorldCore) (i : ℕ) (name : List ℕ) (d : DeviceState) (e : Event) → Has w i name d
    → ((x : DeviceState) → Has v i name x → ⊥) → e ≢ LoseControl i → ((n : ℕ) → e ≢ ToDaemon i n)
    → EachStep IsHeldStep (e ∷ []) w v → ⊥

-- ---- of challenges

-- challenges of a generator that is in no state of a seed
abbrev pub UnseededIsNoLie : Type 0
UnseededIsNoLie = (h : History) (w : WorldCore) (led : LedTo h w) → led.first.daemon.stream.stream ≢ 0 → ⊥
