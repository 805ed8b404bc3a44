-- The variant: how many moves a running job may still take, its bytes on the way aside or not.
use Rattle.std.specs.Prelude.{ℕ, suc, ◌+◌, ◌*◌, ◌-◌, ◌≢◌, List, [], ◌∷◌, Bool, true, false, Option, Some, None, length}
use Rattle.sane_fixed.specs.declared.status.Status.{Status}
use Rattle.page_picture.specs.Shows.{Frame}
use Rattle.system_model.specs.AbstractMessages.{AbstractReply}
use Rattle.system_model.specs.Client.{AbstractJob, further_pages, ClientView, JobStage, Idle, Running, Done, Ended}
use Rattle.system_model.specs.Client.{AbstractProgress, Greeting, Listing, Opening, Allowing, Describing, Putting}
use Rattle.system_model.specs.Client.{Getting, Starting, Shaping, Imaging}
use Rattle.system_model.specs.ClientReplies.{hear_at}
use Rattle.system_model.specs.AbstractDevices.{AbstractDevice, ScanPhase, Resting, Between, Reading}
use Rattle.system_model.specs.Daemon.{TransferState, Quiet, Waiting, Streaming, Ending}
use Rattle.system_model.specs.SystemStates.{SessionView, JobState, SystemState, device_for}
use Rattle.system_model.specs.Actions
use Rattle.system_model.specs.Actions.{Action}
use Rattle.system_model.specs.Transitions.{Transition, By, Loads, Unplugs, Uses}

-- as many bytes as two of the wire's longest messages, each of at most 1,048,576: what one exchange puts on the way at
-- most
abbrev pub exchange_cost : ℕ
exchange_cost = 2097152

-- at least as much as one page costs: six for each of 539,216,256 bytes, and the exchanges of three frames
abbrev pub page_cost : ℕ
page_cost = 3270000000

-- the bytes of these frames
abbrev pub payload_total : List Frame → ℕ
payload_total [] = 0
payload_total (f ∷ more) = length f.payload + payload_total more

-- What the bytes of these frames cost, each alone in a record of five bytes that is sent in a turn of its own, and what
-- their exchanges cost: START and GET_PARAMETERS with their replies, the connection, the end record, and the request
-- behind it.
abbrev pub frames_cost : List Frame → ℕ
frames_cost [] = 0
frames_cost (f ∷ more) = 6 * length f.payload + (5 * exchange_cost + 10) + frames_cost more

-- where so many pages come behind this one
abbrev pub pages_variant : ScanPhase → ℕ → ℕ
pages_variant Resting later = page_cost * later
pages_variant (Between last more) later = 2 + (frames_cost more + page_cost * later)
pages_variant (Reading f rest more) later = 2

-- a frame of which so much is still to be sent
abbrev pub flow_variant : ScanPhase → ℕ → ℕ
flow_variant Resting later = 2
flow_variant (Between last more) later = 2
flow_variant (Reading f rest more) later =
    6 * length rest + (exchange_cost + 8) + (frames_cost more + page_cost * later)

abbrev pub start_variant : ScanPhase → ℕ → ℕ
start_variant Resting later = page_cost * suc later
start_variant (Between last more) later = 2 + (frames_cost more + page_cost * later)
start_variant (Reading f rest more) later = 2

abbrev pub image_variant : Option Status → TransferState → ScanPhase → ℕ → ℕ
image_variant None Waiting ph later = 1 + flow_variant ph later
image_variant None Quiet ph later = flow_variant ph later
image_variant None Streaming ph later = flow_variant ph later
image_variant None Ending ph later = flow_variant ph later
image_variant (Some status) c ph later = exchange_cost + pages_variant ph later

-- all that comes behind the settings: the values of a show, or the pages
abbrev pub tail_variant : ℕ → ℕ
tail_variant later = 64 * exchange_cost + page_cost * suc later

-- The request on the way, or the image; of a job with n settings.
abbrev pub progress_variant : AbstractProgress → ℕ → ℕ → ScanPhase → TransferState → Option Status → ℕ
progress_variant Greeting n later ph c e = 8 * exchange_cost + (4 * exchange_cost * n + tail_variant later)
progress_variant Listing n later ph c e = 2 * exchange_cost
progress_variant Opening n later ph c e = 6 * exchange_cost + (4 * exchange_cost * n + tail_variant later)
progress_variant (Allowing challenge) n later ph c e = 4 * exchange_cost + (4 * exchange_cost * n + tail_variant later)
progress_variant (Describing left) n later ph c e =
    2 * exchange_cost + (4 * exchange_cost * length left + tail_variant later)
progress_variant (Putting o v w left) n later ph c e =
    4 * exchange_cost + (4 * exchange_cost * length left + tail_variant later)
progress_variant (Getting o left) n later ph c e = 2 * exchange_cost + 2 * exchange_cost * length left
progress_variant Starting n later ph c e = start_variant ph later
progress_variant Shaping n later ph c e = 2 * exchange_cost + (1 + flow_variant ph later)
progress_variant (Imaging params heard) n later ph c e = image_variant e c ph later

abbrev pub stage_variant : JobStage → ℕ → ℕ → ScanPhase → TransferState → Option Status → ℕ
stage_variant Idle n later ph c e = 9 * exchange_cost + (1 + (4 * exchange_cost * n + tail_variant later))
stage_variant (Running g) n later ph c e = progress_variant g n later ph c e
stage_variant Done n later ph c e = 0
stage_variant (Ended status why) n later ph c e = 0

-- how many pages come behind the one under way
abbrev pub later_pages : AbstractJob → ClientView → ℕ
later_pages job m = further_pages job.task - length m.pages

abbrev pub stage_variant_of : JobStage → SessionView → ClientView → AbstractDevice → ℕ
stage_variant_of st b m dev =
    stage_variant st (length b.job.settings) (later_pages b.job m) dev.phase b.transfer b.ending

-- a client that runs: its session is over, its request is on the way, or the reply is
abbrev pub running_variant : Bool → List AbstractReply → AbstractProgress → SessionView → ClientView → AbstractDevice
    → ℕ
running_variant false due g b m dev = 1
running_variant true [] g b m dev = stage_variant_of (Running g) b m dev
running_variant true (r ∷ due) g b m dev = exchange_cost + stage_variant_of (hear_at g b.job m r).stage b m dev

-- the moves that may still be taken but for those of bytes that are on the way
abbrev pub control_variant_at : JobStage → JobState → AbstractDevice → ℕ
control_variant_at Idle p dev = stage_variant_of Idle p.session p.client dev
control_variant_at (Running g) p dev = running_variant p.served p.due g p.session p.client dev
control_variant_at Done p dev = 0
control_variant_at (Ended status why) p dev = 0

-- the bytes of a frame that are on the way to a client that runs
abbrev pub flight_variant_at : JobStage → JobState → ℕ
flight_variant_at Idle p = length p.session.flight
flight_variant_at (Running g) p = length p.session.flight
flight_variant_at Done p = 0
flight_variant_at (Ended status why) p = 0

abbrev pub control_variant_of : JobState → AbstractDevice → ℕ
control_variant_of p dev = control_variant_at p.client.stage p dev

abbrev pub variant_of : JobState → AbstractDevice → ℕ
variant_of p dev = control_variant_of p dev + flight_variant_at p.client.stage p

-- the number of job i
abbrev pub control_variant : SystemState → ℕ → ℕ
control_variant s i = control_variant_of (s.job i) (device_for s i)

-- **variant (`job_variant`, `control_variant`, `action_cost`)**: what a running job may still do; each action lowers it
-- by what it puts on the way. At most 2^34 for one page, 2^36 for a batch.
abbrev pub job_variant : SystemState → ℕ → ℕ
job_variant s i = variant_of (s.job i) (device_for s i)

-- What an action puts on the way, with the move itself: bytes of a request or a reply, or of a record. The bytes of a
-- piece that is taken are not counted here.
abbrev pub action_cost : Action → ℕ
action_cost Actions.Connects = exchange_cost + 1
action_cost (Actions.Answers challenge fault) = exchange_cost
action_cost (Actions.Hears reply) = exchange_cost
action_cost Actions.Dials = 1
action_cost (Actions.Turns bytes) = 5 + length bytes
action_cost Actions.TurnsLast = 6
action_cost (Actions.TurnsNamed status) = 6
action_cost Actions.TurnsShort = 6
action_cost (Actions.TurnsFault fault) = 6
action_cost Actions.TurnsOff = 6
action_cost (Actions.Reads bytes) = 0
action_cost (Actions.Finishes status) = exchange_cost
action_cost (Actions.Loses memory) = 1
action_cost (Actions.LosesImage memory) = 1
action_cost (Actions.Breaks memory) = 1
action_cost Actions.RunsOutOfMemory = 1
action_cost Actions.Stops = 1

-- a step that does not come to job i
abbrev pub IsOthers : ℕ → Transition → Type 0
IsOthers i (By j x) = i ≢ j
IsOthers i (Loads d page) = Unit {0}
IsOthers i (Unplugs d) = Unit {0}
IsOthers i (Uses j d shown left) = Unit {0}
