-- The marks that a step shows.
use Rattle.std.specs.Prelude.{ℕ, List, [], ◌∷◌, ◌++◌, Bool, true, false, Option, Some, None}
use Rattle.page_picture.specs.Shows.{Frame}
use Rattle.system_model.specs.AbstractMessages.{same_text, Challenge, AbstractRequest, Open, Authorize, Start, Cancel}
use Rattle.system_model.specs.AbstractMessages.{Close, Exit}
use Rattle.device_api.specs.Kinds.{Page}
use Rattle.system_model.specs.Devices.{Make, picture_frames}
use Rattle.system_model.specs.AbstractDevices.{AbstractDevice, ScanPhase, Resting, Between, Reading, Begin, is_resting}
use Rattle.system_model.specs.AbstractDevices.{is_held_by, ended_phase}
use Rattle.system_model.specs.Daemon.{TransferState, Quiet, Waiting, Streaming, Ending, Environment, FailureCounts}
use Rattle.system_model.specs.SystemStates.{JobState, SystemState, listed_devices, wanted_place, make_for, device_for}
use Rattle.system_model.specs.Actions
use Rattle.system_model.specs.Actions.{Action, environment_of}
use Rattle.system_model.specs.Marks.{Mark, Took, Started, Rested, Returned, Loaded, Removed, is_busy}
use Rattle.system_model.specs.Transitions.{Transition, By, Loads, Unplugs, Uses}

-- **marks of a step (`marks`, `touched_device`)**: what a step shows of the device that it comes to: the marks of an
-- answer, a turn or a loss; a page laid in; listed no more; of a client without a job the marks of its use.
--
-- THE MARKS OF AN ANSWER
abbrev pub rested_if : Bool → ℕ → ℕ → List Mark
rested_if true i d = Rested i d ∷ []
rested_if false i d = []

abbrev pub left_marks : Bool → ℕ → ℕ → List Mark
left_marks busy i d = rested_if busy i d ++ Returned i d ∷ []

abbrev pub page_marks : ℕ → ℕ → Begin → List Frame → List Mark
page_marks i d begin [] = []
page_marks i d begin (f ∷ more) = Started i d begin ∷ []

abbrev pub tray_marks : ℕ → ℕ → Make → AbstractDevice → List Page → List Mark
tray_marks i d k dev [] = []
tray_marks i d k dev (page ∷ tray) =
    page_marks i d (record { page = page; options = dev.options }) (picture_frames k dev.options page)

abbrev pub pass_marks : ℕ → ℕ → List Frame → List Mark
pass_marks i d [] = Rested i d ∷ []
pass_marks i d (f ∷ more) = []

abbrev pub start_marks : ℕ → ℕ → Make → AbstractDevice → ScanPhase → List Mark
start_marks i d k dev Resting = tray_marks i d k dev dev.tray
start_marks i d k dev (Between last more) = pass_marks i d more
start_marks i d k dev (Reading f rest more) = []

abbrev pub fault_marks : ℕ → ℕ → Make → AbstractDevice → Option FailureCounts → List Mark
fault_marks i d k dev None = start_marks i d k dev dev.phase
fault_marks i d k dev (Some f) = rested_if (is_busy dev.phase) i d

abbrev pub starts_marks : ℕ → ℕ → Make → AbstractDevice → Option FailureCounts → TransferState → List Mark
starts_marks i d k dev fault Quiet = fault_marks i d k dev fault
starts_marks i d k dev fault Waiting = []
starts_marks i d k dev fault Streaming = []
starts_marks i d k dev fault Ending = []

abbrev pub take_marks : ℕ → ℕ → Bool → Option ℕ → List Mark
take_marks i d false holder = []
take_marks i d true None = Took i d ∷ []
take_marks i d true (Some j) = []

abbrev pub open_marks : ℕ → ℕ → AbstractDevice → Bool → List Mark
open_marks i d dev true = []
open_marks i d dev false = take_marks i d dev.listed dev.holder

abbrev pub allow_marks : ℕ → ℕ → AbstractDevice → Bool → Bool → List Mark
allow_marks i d dev true true = take_marks i d dev.listed dev.holder
allow_marks i d dev true false = []
allow_marks i d dev false allowed = []

-- where a session that holds its device, or not, is over
abbrev pub lost_marks : Bool → ℕ → ℕ → AbstractDevice → List Mark
lost_marks true i d dev = left_marks (is_busy dev.phase) i d
lost_marks false i d dev = []

-- where the device is held, or not
abbrev pub answer_marks : Bool → ℕ → ℕ → Make → AbstractDevice → TransferState → Environment → AbstractRequest
    → List Mark
answer_marks true i d k dev c x Open = open_marks i d dev x.guarded
answer_marks true i d k dev c x (Authorize challenge) = left_marks (is_busy dev.phase) i d
answer_marks true i d k dev c x Start = starts_marks i d k dev x.fault c
answer_marks true i d k dev c x Cancel = rested_if (is_busy dev.phase) i d
answer_marks true i d k dev c x Close = left_marks (is_busy dev.phase) i d
answer_marks true i d k dev c x Exit = left_marks (is_busy dev.phase) i d
answer_marks true i d k dev c x q = []
answer_marks false i d k dev c x Open = open_marks i d dev x.guarded
answer_marks false i d k dev c x q = []

abbrev pub awaited_marks : ℕ → ℕ → AbstractDevice → Environment → Challenge → AbstractRequest → List Mark
awaited_marks i d dev x sent (Authorize challenge) = allow_marks i d dev (same_text challenge sent) (x.allows sent)
awaited_marks i d dev x sent q = lost_marks (is_held_by i dev.holder) i d dev

abbrev pub request_marks : ℕ → ℕ → Make → AbstractDevice → TransferState → Option Challenge → Environment
    → AbstractRequest → List Mark
request_marks i d k dev c None x q = answer_marks (is_held_by i dev.holder) i d k dev c x q
request_marks i d k dev c (Some sent) x q = awaited_marks i d dev x sent q

abbrev pub next_marks : ℕ → ℕ → Make → List ℕ → JobState → AbstractDevice → Challenge → Option FailureCounts
    → List AbstractRequest → List Mark
next_marks i d k listed_devices p dev challenge fault [] = []
next_marks i d k listed_devices p dev challenge fault (q ∷ rest) =
    request_marks i d k dev p.session.transfer p.session.awaited
    (environment_of p.session listed_devices challenge fault) q

-- THE MARKS OF A STEP
abbrev pub off_marks : Bool → TransferState → ℕ → ℕ → AbstractDevice → List Mark
off_marks true Streaming i d dev = rested_if (is_busy dev.phase) i d
off_marks held c i d dev = []

abbrev pub action_marks : ℕ → ℕ → Make → List ℕ → JobState → AbstractDevice → Action → List Mark
action_marks i d k listed_devices p dev (Actions.Answers challenge fault) =
    next_marks i d k listed_devices p dev challenge fault p.todo
action_marks i d k listed_devices p dev Actions.TurnsLast = rested_if (is_resting (ended_phase dev.phase)) i d
action_marks i d k listed_devices p dev Actions.TurnsShort = rested_if (is_resting (ended_phase dev.phase)) i d
action_marks i d k listed_devices p dev (Actions.TurnsNamed status) = Rested i d ∷ []
action_marks i d k listed_devices p dev (Actions.TurnsFault fault) = Rested i d ∷ []
action_marks i d k listed_devices p dev (Actions.Loses memory) = lost_marks (is_held_by i dev.holder) i d dev
action_marks i d k listed_devices p dev (Actions.LosesImage memory) =
    off_marks (is_held_by i dev.holder) p.session.transfer i d dev
action_marks i d k listed_devices p dev (Actions.Breaks memory) = lost_marks (is_held_by i dev.holder) i d dev
action_marks i d k listed_devices p dev x = []

abbrev pub marks : SystemState → Transition → List Mark
marks s (By i x) = action_marks i (wanted_place s i) (make_for s i) (listed_devices s) (s.job i) (device_for s i) x
marks s (Loads d page) = Loaded d page ∷ []
marks s (Unplugs d) = Removed d ∷ []
marks s (Uses i d shown left) = shown

-- the device that a step comes to
abbrev pub touched_device : SystemState → Transition → ℕ
touched_device s (By i x) = wanted_place s i
touched_device s (Loads d page) = d
touched_device s (Unplugs d) = d
touched_device s (Uses i d shown left) = d
