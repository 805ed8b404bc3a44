-- The promises, each a statement about all that may stand or come.
use Rattle.std.specs.Prelude.{true, false, ℕ, ◌+◌, ◌<◌, ◌^◌, ◌≡◌, ◌≢◌, ◌≤◌, ◌⊎◌, suc, List, [], ◌∷◌, ◌++◌, Option, Some}
use Rattle.std.specs.Prelude.{None, length}
use Rattle.scan_job.specs.declared.outcome.Why.{Why}
use Rattle.sane_fixed.specs.declared.status.Status.{Status}
use Rattle.page_picture.specs.Shows.{Frame}
use Rattle.device_api.specs.Kinds.{Page}
use Rattle.system_model.specs.AbstractMessages.{Challenge, AbstractRequest}
use Rattle.system_model.specs.Devices.{Make, OptionsInForce, descriptors_in_force, readable_options}
use Rattle.system_model.specs.AbstractInForce.{AreAnswered, values_of}
use Rattle.system_model.specs.Client.{AbstractJob, further_pages, List_, Show, Scan, Batch, Done, Ended}
use Rattle.system_model.specs.Causes.{TrayRanOut, IsCauseAmong}
use Rattle.system_model.specs.AbstractDevices.{AbstractDevice, Begin, DeviceInvariant}
use Rattle.system_model.specs.Daemon.{TransferState, Environment, answer}
use Rattle.system_model.specs.Grounds.{HaveGrounds}
use Rattle.system_model.specs.SystemStates.{SystemState, listed_devices, initial_job, make_for}
use Rattle.system_model.specs.Actions
use Rattle.system_model.specs.Actions.{Action}
use Rattle.system_model.specs.Transitions.{Transition, By, Uses, HasNoJob, IsUnderWay, IsEnabled, IsHistory}
use Rattle.system_model.specs.Transitions.{after_transition, after_all}
use Rattle.system_model.specs.Sync.{IsPermitted, IsPictureOfStart, ArePictures, AllInForce}
use Rattle.system_model.specs.Invariants.{Invariant, IsCaused}
use Rattle.system_model.specs.Marks.{Mark, Took, MarksLead, device_view, starts_in}
use Rattle.system_model.specs.StepMarks.{touched_device, marks}
use Rattle.system_model.specs.Moves.{IsMove, turn_of}
use Rattle.system_model.specs.Variant.{control_variant, job_variant, action_cost, IsOthers}

-- HISTORIES
-- nothing has happened
abbrev pub initial_state : (ℕ → Make) → (ℕ → AbstractDevice) → (ℕ → AbstractJob) → List ℕ → SystemState
initial_state make device job places =
    record { make = make; device = device; job = λ i. initial_job (job i); places = places }

-- the invariant holds before anything has happened, where no device is held and all are fit
abbrev pub InitialStateIsInvariant : Type 0
InitialStateIsInvariant =
    (make : ℕ → Make) (device : ℕ → AbstractDevice) (job : ℕ → AbstractJob) (places : List ℕ) →
    ((d : ℕ) → (device d).holder ≡ None) → ((d : ℕ) → DeviceInvariant (make d) (device d))
    → Invariant (initial_state make device job places)

abbrev pub HistoriesKeepInvariant : Type 0
HistoriesKeepInvariant = (s : SystemState) (xs : List Transition) → Invariant s → IsHistory s xs
    → Invariant (after_all s xs)

-- JOBS THAT ARE DONE
-- A scan that is done has one page, and where the sources are steady its frames are those of the picture that its
-- settings mean on the page of its first start.
abbrev pub ScansAreRight : Type 0
ScansAreRight =
    (s : SystemState) (i : ℕ) → Invariant s → (s.job i).client.stage ≡ Done → (s.job i).session.job.task ≡ Scan →
    (begin : Begin) × (later : List Begin) × (frames : List Frame) × ((s.job i).session.started ≡ begin ∷ later)
    × ((s.job i).client.pages ≡ frames ∷ [])
    × IsPictureOfStart (make_for s i) (s.job i).session.job.settings begin frames

-- Whatever became of a job, each page that it finished is that of its start.
abbrev pub PagesAreRight : Type 0
PagesAreRight =
    (s : SystemState) (i : ℕ) → Invariant s →
    (begins : List Begin) × (later : List Begin) × ((s.job i).session.started ≡ begins ++ later)
    × ArePictures (make_for s i) (s.job i).session.job.settings begins (s.job i).client.pages

-- A batch that is done has its count of pages, or fewer, but one at least, and then the tray ran out.
abbrev pub BatchPagesAreCounted : Type 0
BatchPagesAreCounted =
    (s : SystemState) (i n : ℕ) → Invariant s → (s.job i).client.stage ≡ Done → (s.job i).session.job.task ≡ Batch n →
    (length (s.job i).client.pages ≡ suc n)
    ⊎ (((s.job i).client.pages ≢ []) × (length (s.job i).client.pages ≤ n)
    × IsCauseAmong TrayRanOut (s.job i).session.met)

-- Each setting of a job that is done is answered with the nearest admitted value, INEXACT just where it differs; a list
-- has no settings.
abbrev pub SettingsAreAnswered : Type 0
SettingsAreAnswered =
    (s : SystemState) (i : ℕ) → Invariant s → (s.job i).client.stage ≡ Done → (s.job i).session.job.task ≢ List_ →
    AreAnswered (make_for s i) (s.job i).session.job.settings (s.job i).client.reports

-- A job that opened a device is done only where that was allowed.
abbrev pub DoneIsAllowed : Type 0
DoneIsAllowed =
    (s : SystemState) (i : ℕ) → Invariant s → (s.job i).client.stage ≡ Done → (s.job i).session.job.task ≢ List_
    → IsPermitted (s.job i).session.job (s.job i).session.sent

-- A list that is done has the devices that were listed when the daemon read the request.
abbrev pub ListsAreRight : Type 0
ListsAreRight = (s : SystemState) (i : ℕ) → Invariant s → (s.job i).client.stage ≡ Done
    → (s.job i).session.job.task ≡ List_ → (s.job i).session.shown ≡ Some (s.job i).client.devices

-- what is listed: of the places in their order, those whose device is listed
abbrev pub IsListing : (ℕ → AbstractDevice) → List ℕ → List ℕ → Type 0
IsListing device [] ds = ds ≡ []
IsListing device (d ∷ places) ds =
    (((device d).listed ≡ true) × ((rest : List ℕ) × (ds ≡ d ∷ rest) × IsListing device places rest))
    ⊎ (((device d).listed ≡ false) × IsListing device places ds)

abbrev pub ListingsAreTrue : Type 0
ListingsAreTrue = (s : SystemState) → IsListing s.device s.places (listed_devices s)

-- A show that is done has the descriptors and the values of the options in force.
abbrev pub ShowsAreRight : Type 0
ShowsAreRight =
    (s : SystemState) (i : ℕ) → Invariant s → (s.job i).client.stage ≡ Done → (s.job i).session.job.task ≡ Show →
    (options : OptionsInForce)
    × AllInForce (make_for s i) (s.job i).session.job (s.job i).session.sent (s.job i).client.reports options
    × ((s.job i).client.known ≡ descriptors_in_force (make_for s i) options)
    × ((s.job i).client.values
    ≡ values_of (make_for s i) options (readable_options (descriptors_in_force (make_for s i) options)))

-- JOBS THAT ENDED
abbrev pub EndsAreCaused : Type 0
EndsAreCaused = (s : SystemState) (i : ℕ) (status : Status) (why : Why) → Invariant s
    → (s.job i).client.stage ≡ Ended status why → IsCaused (make_for s i) (s.job i).session status why

-- each cause that an answer adds is so
abbrev pub CausesAreGrounded : Type 0
CausesAreGrounded =
    (i : ℕ) (k : Make) (dev : AbstractDevice) (c : TransferState) (awaited : Option Challenge) (x : Environment)
    (q : AbstractRequest) → HaveGrounds i k dev awaited x (answer i k dev c awaited x q).causes

-- what a client has once it is over stays: its outcome, its reports, its pages
abbrev pub OutcomesLast : Type 0
OutcomesLast = (s : SystemState) (i : ℕ) (x : Action) → IsEnabled s (By i x) → (IsUnderWay (s.job i).client.stage → ⊥)
    → ((after_transition s (By i x)).job i).client ≡ (s.job i).client

-- a cancel, a loss, or out of memory at the client
abbrev pub IsEndingAction : Action → Type 0
IsEndingAction (Actions.Loses memory) = Unit {0}
IsEndingAction (Actions.LosesImage memory) = Unit {0}
IsEndingAction Actions.RunsOutOfMemory = Unit {0}
IsEndingAction Actions.Stops = Unit {0}
IsEndingAction x = ⊥

-- each of these ends a job
abbrev pub EndsEnd : Type 0
EndsEnd = (s : SystemState) (i : ℕ) (x : Action) → IsEndingAction x
    → IsUnderWay ((after_transition s (By i x)).job i).client.stage → ⊥

-- DEVICES
-- the marks of a step may come where its device stands, and lead to where it stands then
abbrev pub MarksAreEnabled : Type 0
MarksAreEnabled =
    (s : SystemState) (x : Transition) → Invariant s → IsEnabled s x →
    MarksLead (device_view (s.make (touched_device s x)) (s.device (touched_device s x))) (marks s x)
    (device_view (s.make (touched_device s x)) ((after_transition s x).device (touched_device s x)))

-- What is noted of a job is what its steps show: its starts are those of its marks, and the devices shown to it are
-- those that are listed then.
abbrev pub NotesAreTrue : Type 0
NotesAreTrue =
    (s : SystemState) (i : ℕ) (x : Action)
    → (((after_transition s (By i x)).job i).session.started
    ≡ (s.job i).session.started ++ starts_in (marks s (By i x)))
    × ((ds : List ℕ) → (s.job i).session.shown ≡ None → ((after_transition s (By i x)).job i).session.shown ≡ Some ds
    → ds ≡ listed_devices s)

-- CLIENTS WITHOUT A JOB **what a client without a job leaves (`UseLeaves`)**: of a device that it uses. That is listed
-- as it was, and held by nobody or by that client, before and after. Its pages are those that it had, without some that
-- came first.
pub record UseLeaves (i : ℕ) (dev left : AbstractDevice) : Type 0 where
  pub listed : left.listed ≡ dev.listed
  pub before : (dev.holder ≡ None) ⊎ (dev.holder ≡ Some i)
  pub after : (left.holder ≡ None) ⊎ (left.holder ≡ Some i)
  pub taken : List Page
  pub pages : dev.tray ≡ taken ++ left.tray

abbrev pub UsesLeave : Type 0
UsesLeave = (s : SystemState) (i d : ℕ) (shown : List Mark) (left : AbstractDevice)
    → IsEnabled s (Uses i d shown left) → UseLeaves i (s.device d) left

-- an example: it may take a device that is listed and that nobody holds
abbrev pub FreeDevicesAreUsed : Type 0
FreeDevicesAreUsed = (s : SystemState) (i d : ℕ) → Invariant s → HasNoJob s i → (s.device d).listed ≡ true
    → (s.device d).holder ≡ None → IsEnabled s (Uses i d (Took i d ∷ []) (record (s.device d) { holder = Some i }))

-- the smallest lie: that it uses a device that another holds
abbrev pub HeldDevicesAreNotUsed : Type 0
HeldDevicesAreNotUsed = (s : SystemState) (i j d : ℕ) (shown : List Mark) (left : AbstractDevice) → j ≢ i
    → (s.device d).holder ≡ Some j → IsEnabled s (Uses i d shown left) → ⊥

-- MOVES
-- a job that is not over has a next move, and none comes before it
abbrev pub NoDeadlock : Type 0
NoDeadlock =
    (s : SystemState) (i : ℕ) → Invariant s → IsUnderWay (s.job i).client.stage →
    (x : Action) × IsMove (s.job i) x × IsEnabled s (By i x)
    × ((y : Action) → IsMove (s.job i) y → IsEnabled s (By i y) → turn_of x ≤ turn_of y)

-- Each step of a running job pays its price: what it puts on the way is taken off its moves.
abbrev pub StepsArePaid : Type 0
StepsArePaid = (s : SystemState) (i : ℕ) (x : Action) → Invariant s → IsUnderWay (s.job i).client.stage
    → IsEnabled s (By i x) → control_variant (after_transition s (By i x)) i + action_cost x ≤ control_variant s i

-- So its number falls,
abbrev pub VariantDecreases : Type 0
VariantDecreases = (s : SystemState) (i : ℕ) (x : Action) → Invariant s → IsUnderWay (s.job i).client.stage
    → IsEnabled s (By i x) → job_variant (after_transition s (By i x)) i < job_variant s i

-- no step of another changes it,
abbrev pub OthersKeepVariant : Type 0
OthersKeepVariant = (s : SystemState) (i : ℕ) (x : Transition) → Invariant s → IsEnabled s x → IsOthers i x
    → (job_variant (after_transition s x) i ≡ job_variant s i)
    × (control_variant (after_transition s x) i ≡ control_variant s i)

-- it is 0 just where the job is over,
abbrev pub VariantEndsAtZero : Type 0
VariantEndsAtZero = (s : SystemState) (i : ℕ)
    → (IsUnderWay (s.job i).client.stage → 0 < job_variant s i)
    × ((IsUnderWay (s.job i).client.stage → ⊥) → job_variant s i ≡ 0)

-- and it is bounded where nothing has happened: for a job of 64 settings and one page, and for a batch of 16 pages.
abbrev pub VariantIsBounded : Type 0
VariantIsBounded =
    (make : ℕ → Make) (device : ℕ → AbstractDevice) (job : ℕ → AbstractJob) (places : List ℕ) (i : ℕ)
    → length (job i).settings ≤ 64 →
    (further_pages (job i).task ≡ 0 → job_variant (initial_state make device job places) i ≤ 2 ^ 34)
    × (further_pages (job i).task ≤ 15 → job_variant (initial_state make device job places) i ≤ 2 ^ 36)
