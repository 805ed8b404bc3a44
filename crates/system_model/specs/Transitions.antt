-- The steps of a world, when they may come, and what stands after them.
use Rattle.std.specs.Prelude.{ℕ, ◌≡◌, ◌≢◌, ◌<◌, ◌^◌, ◌-◌, ◌⊎◌, List, [], ◌∷◌, ◌++◌, true, false, Option, Some, None}
use Rattle.std.specs.Prelude.{length}
use Rattle.std.specs.List.{AllByRecursion}
use Rattle.sane_fixed.specs.declared.status.Status.TheVariants.{Good, Eof}
use Rattle.sane_fixed.specs.declared.params.Params.{Params}
use Rattle.page_picture.specs.Shows.{Frame}
use Rattle.system_model.specs.AbstractMessages.{AbstractReply}
use Rattle.device_api.specs.Kinds.{Page, laid_in, has_room}
use Rattle.system_model.specs.Devices.{Make, IsPageShaped, read_status_of}
use Rattle.system_model.specs.Client.{JobStage, Idle, Running, Done, Ended, AbstractProgress, Imaging, request_awaited}
use Rattle.system_model.specs.AbstractDevices.{AbstractDevice, DeviceInvariant, Resting, Reading}
use Rattle.system_model.specs.Marks.{Mark, MarksLead, IsMarkOf, device_view}
use Rattle.system_model.specs.Daemon.{Waiting, Streaming, Ending, FailureCounts}
use Rattle.system_model.specs.SystemStates.{JobState, SystemState, with_entry, wanted_place, make_for, device_for}
use Rattle.system_model.specs.SystemStates.{listed_devices}
use Rattle.system_model.specs.Actions

pub data Transition : Type 0 where
  -- this comes to the job of client i
  By : (i : ℕ) → (action : Actions.Action) → Transition
  -- a page is laid into device d, or it is listed no more
  Loads : (d : ℕ) → (page : Page) → Transition
  Unplugs : (d : ℕ) → Transition
  -- client i, who has no job, uses device d: it shows these marks, and is left so
  Uses : (i d : ℕ) → (shown : List Mark) → (left : AbstractDevice) → Transition

-- job state i becomes this, and the device that it wants this
abbrev pub state_with_job : SystemState → ℕ → JobState → AbstractDevice → SystemState
state_with_job s i p dev = record s { job = with_entry s.job i p; device = with_entry s.device (wanted_place s i) dev }

abbrev pub with_device_at : SystemState → ℕ → AbstractDevice → SystemState
with_device_at s d dev = record s { device = with_entry s.device d dev }

abbrev pub with_page_laid_in : Make → Page → AbstractDevice → AbstractDevice
with_page_laid_in k page dev = record dev { tray = laid_in k.model page dev.tray }

abbrev pub without_listing : AbstractDevice → AbstractDevice
without_listing dev = record dev { listed = false }

-- what stands after a step
abbrev pub after_transition : SystemState → Transition → SystemState
after_transition s (By i x) =
    state_with_job s i (Actions.job_after_action i (make_for s i) (listed_devices s) (s.job i) (device_for s i) x)
    (Actions.device_after i (make_for s i) (listed_devices s) (s.job i) (device_for s i) x)
after_transition s (Loads d page) = with_device_at s d (with_page_laid_in (s.make d) page (s.device d))
after_transition s (Unplugs d) = with_device_at s d (without_listing (s.device d))
after_transition s (Uses i d shown left) = with_device_at s d left

abbrev pub after_all : SystemState → List Transition → SystemState
after_all s [] = s
after_all s (x ∷ xs) = after_all (after_transition s x) xs

-- a job that is to run, or runs
abbrev pub IsUnderWay : JobStage → Type 0
IsUnderWay Idle = Unit {0}
IsUnderWay (Running progress) = Unit {0}
IsUnderWay Done = ⊥
IsUnderWay (Ended status why) = ⊥

abbrev pub IsRunning : JobStage → Type 0
IsRunning stage = (g : AbstractProgress) × (stage ≡ Running g)

abbrev pub IsImaging : JobStage → Type 0
IsImaging stage = (params : Params) × (heard : List ℕ) × (stage ≡ Running (Imaging params heard))

-- a client that runs waits for a reply
abbrev pub MayBreak : JobStage → Type 0
MayBreak stage = (g : AbstractProgress) → stage ≡ Running g → request_awaited g ≢ []

-- the count of failures rose, or stood at its top
abbrev pub IsFault : FailureCounts → Type 0
IsFault f = (f.before < f.after) ⊎ (f.before ≡ 2 ^ 64 - 1)

-- and a source of the device can fail
abbrev pub MayFail : Make → Option FailureCounts → Type 0
MayFail k None = Unit {0}
MayFail k (Some f) = (k.fallible ≡ true) × IsFault f

-- the session of client i reads a frame of its device
abbrev pub ReadsFrameOf : ℕ → JobState → AbstractDevice → Frame → List ℕ → List Frame → Type 0
ReadsFrameOf i p dev f rest more = (p.session.transfer ≡ Streaming) × (dev.holder ≡ Some i)
    × (dev.phase ≡ Reading f rest more)

-- Of the frame these bytes are sent next, and the rest is still to be read: as many as the page means there, and where
-- the device's sources are steady the same.
pub record SendsOfFrame (i : ℕ) (k : Make) (p : JobState) (dev : AbstractDevice) (f : Frame) (bytes rest : List ℕ)
    (more : List Frame) : Type 0 where
  pub meant : List ℕ
  pub as_many : length bytes ≡ length meant
  pub same : k.steady ≡ true → bytes ≡ meant
  pub reads : ReadsFrameOf i p dev f (meant ++ rest) more

-- the actions that may come to the job of client i; a session breaks off where memory runs out, or over a reply that is
-- due
abbrev pub IsActionEnabled : ℕ → Make → JobState → AbstractDevice → Actions.Action → Type 0
IsActionEnabled i k p dev Actions.Connects = p.client.stage ≡ Idle
IsActionEnabled i k p dev (Actions.Answers challenge fault) = (p.served ≡ true) × (p.todo ≢ []) × MayFail k fault
IsActionEnabled i k p dev (Actions.Hears r) = IsRunning p.client.stage
    × ((rest : List AbstractReply) × (p.due ≡ r ∷ rest))
IsActionEnabled i k p dev Actions.Dials = IsImaging p.client.stage × (p.session.transfer ≡ Waiting)
IsActionEnabled i k p dev (Actions.Turns bytes) = (f : Frame) × (rest : List ℕ) × (more : List Frame)
    × SendsOfFrame i k p dev f bytes rest more × (read_status_of k dev.options ≡ None) × (bytes ≢ [])
IsActionEnabled i k p dev Actions.TurnsLast = (f : Frame) × (more : List Frame) × ReadsFrameOf i p dev f [] more
    × (read_status_of k dev.options ≡ None)
IsActionEnabled i k p dev (Actions.TurnsNamed status) =
    (f : Frame) × (rest : List ℕ) × (more : List Frame) × ReadsFrameOf i p dev f rest more
    × (read_status_of k dev.options ≡ Some status) × (status ≢ Eof) × (status ≢ Good)
IsActionEnabled i k p dev Actions.TurnsShort = (f : Frame) × (rest : List ℕ) × (more : List Frame)
    × ReadsFrameOf i p dev f rest more × (read_status_of k dev.options ≡ Some Eof)
IsActionEnabled i k p dev (Actions.TurnsFault fault) = (f : Frame) × (rest : List ℕ) × (more : List Frame)
    × ReadsFrameOf i p dev f rest more × MayFail k (Some fault)
IsActionEnabled i k p dev Actions.TurnsOff = p.session.transfer ≡ Ending
IsActionEnabled i k p dev (Actions.Reads bytes) = IsImaging p.client.stage
    × ((left : List ℕ) × (p.session.flight ≡ bytes ++ left)) × (bytes ≢ [])
IsActionEnabled i k p dev (Actions.Finishes status) = IsImaging p.client.stage × (p.session.flight ≡ [])
    × (p.session.ending ≡ Some status)
IsActionEnabled i k p dev (Actions.Loses memory) = p.linked ≡ true
IsActionEnabled i k p dev (Actions.LosesImage memory) = p.image ≡ true
IsActionEnabled i k p dev (Actions.Breaks memory) = (p.served ≡ true) × MayBreak p.client.stage
    × (memory ≡ false → p.due ≢ [])
IsActionEnabled i k p dev Actions.RunsOutOfMemory = IsRunning p.client.stage
IsActionEnabled i k p dev Actions.Stops = IsUnderWay p.client.stage

-- **a client without a job (`HasNoJob`, `IsUsedBy`)**: it is not connected, and the device that it names is not listed.
-- It may still hold devices, and use them. It holds each of them, or takes it first. They show that client's marks,
-- each of which may come as the device stands, and the device is left fit.
pub record HasNoJob (s : SystemState) (i : ℕ) : Type 0 where
  pub idle : (s.job i).client.stage ≡ Idle
  pub linked : (s.job i).linked ≡ false
  pub nowhere : (device_for s i).listed ≡ false

-- it holds the device, or takes it first
abbrev pub IsHisToUse : ℕ → Option ℕ → List Mark → Type 0
IsHisToUse i holder shown = (holder ≡ Some i) ⊎ ((holder ≡ None) × (shown ≢ []))

pub record IsUsedBy (i d : ℕ) (k : Make) (dev : AbstractDevice) (shown : List Mark)
    (left : AbstractDevice) : Type 0 where
  pub his : IsHisToUse i dev.holder shown
  pub own : AllByRecursion (IsMarkOf i d) shown
  pub leads : MarksLead (device_view k dev) shown (device_view k left)
  pub fit : DeviceInvariant k left

-- the steps that may come
abbrev pub IsEnabled : SystemState → Transition → Type 0
IsEnabled s (By i x) = IsActionEnabled i (make_for s i) (s.job i) (device_for s i) x
IsEnabled s (Loads d page) = ((s.device d).listed ≡ true) × ((s.device d).phase ≡ Resting)
    × (has_room (s.make d).model (s.device d).tray ≡ true) × IsPageShaped page
IsEnabled s (Unplugs d) = ((s.device d).listed ≡ true) × ((s.device d).holder ≡ None)
IsEnabled s (Uses i d shown left) = HasNoJob s i × IsUsedBy i d (s.make d) (s.device d) shown left

-- **history (`IsHistory`, `after_all`)**: enabled transitions one after another, from any client in any order.
abbrev pub IsHistory : SystemState → List Transition → Type 0
IsHistory s [] = Unit {0}
IsHistory s (x ∷ xs) = IsEnabled s x × IsHistory (after_transition s x) xs
