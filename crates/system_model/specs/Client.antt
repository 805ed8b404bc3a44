-- The client's rules: what it asks for, and what it is to be told next.
use Rattle.scan_job.specs.declared.outcome.Why.{Why}
use Rattle.scan_job.specs.declared.outcome.Why.TheVariants.{Setting, Malformed}
use Rattle.sane_fixed.specs.declared.status.Status.{Status}
use Rattle.sane_fixed.specs.declared.status.Status.TheVariants.{Inval, IoError}
use Rattle.sane_fixed.specs.declared.byte_order.ByteOrder.TheVariants.{Little}
use Rattle.std.specs.Prelude.{ℕ, List, [], ◌∷◌, Bool, true, false, Option, Some, None}
use Rattle.option_desc.specs.declared.value.Value.{Value}
use Rattle.sane_fixed.specs.declared.byte_order.ByteOrder.{ByteOrder as Order}
use Rattle.sane_fixed.specs.declared.params.Params.{Params}
use Rattle.page_picture.specs.Shows.{Frame}
use Rattle.option_desc.specs.declared.descriptor.Descriptor.{Descriptor}
use Rattle.system_model.specs.AbstractMessages.{RequestedSetting}
use Rattle.system_model.specs.AbstractMessages.{Challenge, AbstractReport, AbstractRequest, Init, GetDevices, Open}
use Rattle.system_model.specs.AbstractMessages.{Authorize, Describe, Get, Set, Parameters, Start, Cancel, Close, Exit}
use Rattle.system_model.specs.Devices.{resolve_setting, readable_options}

-- **client (`AbstractTask`, `AbstractJob`, `AbstractProgress`, `ClientView`), hearing (`hear_at`, `client_after_bytes`,
-- `end_frame`)**: what a client is to do, what it waits for, and what it knows. Hearing: what it makes of a reply, of
-- bytes, of a frame's end.
pub data AbstractTask : Type 0 where
  List_ : AbstractTask
  Show : AbstractTask
  SetOnly : AbstractTask
  Scan : AbstractTask
  -- a first page, and so many after it
  Batch : (further_pages : ℕ) → AbstractTask

-- how many pages may come after the first
abbrev pub further_pages : AbstractTask → ℕ
further_pages List_ = 0
further_pages Show = 0
further_pages SetOnly = 0
further_pages Scan = 0
further_pages (Batch n) = n

pub record AbstractJob : Type 0 where
  -- the place of the device that it names
  pub wants : ℕ
  -- whether a line of the daemon's users names the backend of that device, and whether the job's user and password are
  -- allowed there for a challenge
  pub guarded : Bool
  pub allows : Challenge → Bool
  pub settings : List RequestedSetting
  pub task : AbstractTask

-- what a running client waits for; each says what is still to come
pub data AbstractProgress : Type 0 where
  Greeting : AbstractProgress
  Listing : AbstractProgress
  Opening : AbstractProgress
  -- the device, for this challenge
  Allowing : (challenge : Challenge) → AbstractProgress
  -- the descriptors, and then these settings
  Describing : (left : List RequestedSetting) → AbstractProgress
  -- the answer to this setting, and then these
  Putting : (n : ℕ) → (value : Value) → (requested : RequestedSetting) → (left : List RequestedSetting)
      → AbstractProgress
  -- the value of this option, and then of these
  Getting : (n : ℕ) → (left : List ℕ) → AbstractProgress
  Starting : AbstractProgress
  Shaping : AbstractProgress
  -- the data of a frame, so much of it heard
  Imaging : (params : Params) → (heard : List ℕ) → AbstractProgress

pub data JobStage : Type 0 where
  Idle : JobStage
  Running : (progress : AbstractProgress) → JobStage
  Done : JobStage
  Ended : (status : Status) → (why : Why) → JobStage

-- what a client knows
pub record ClientView : Type 0 where
  pub stage : JobStage
  pub reports : List AbstractReport
  pub devices : List ℕ
  pub known : List Descriptor
  pub values : List Value
  -- the byte order of the frame under way
  pub order : Order
  -- the whole frames of the page under way, and those of the pages before it
  pub frames : List Frame
  pub pages : List (List Frame)

abbrev pub initial_client : ClientView
initial_client =
    record {
      stage = Idle;
      reports = [];
      devices = [];
      known = [];
      values = [];
      order = Little;
      frames = [];
      pages =
          [];
    }

abbrev pub with_ending : Status → Why → ClientView → ClientView
with_ending status why m = record m { stage = Ended status why }

abbrev pub with_progress : AbstractProgress → ClientView → ClientView
with_progress progress m = record m { stage = Running progress }

abbrev pub with_malformed : ClientView → ClientView
with_malformed m = with_ending IoError Malformed m

-- the request whose reply is waited for
abbrev pub request_awaited : AbstractProgress → List AbstractRequest
request_awaited Greeting = Init ∷ []
request_awaited Listing = GetDevices ∷ []
request_awaited Opening = Open ∷ []
request_awaited (Allowing challenge) = Authorize challenge ∷ []
request_awaited (Describing left) = Describe ∷ []
request_awaited (Putting n value requested left) = Set n value ∷ []
request_awaited (Getting n left) = Get n ∷ []
request_awaited Starting = Start ∷ []
request_awaited Shaping = Parameters ∷ []
request_awaited (Imaging params heard) = []

-- what is sent at the end of a job that is done
abbrev pub abstract_goodbye : AbstractTask → List AbstractRequest
abstract_goodbye List_ = Exit ∷ []
abstract_goodbye Show = Close ∷ Exit ∷ []
abstract_goodbye SetOnly = Close ∷ Exit ∷ []
abstract_goodbye Scan = Close ∷ Exit ∷ []
abstract_goodbye (Batch n) = Close ∷ Exit ∷ []

-- what a client that comes into this stage asks for
abbrev pub requests_sent : AbstractTask → JobStage → List AbstractRequest
requests_sent task Idle = []
requests_sent task (Running progress) = request_awaited progress
requests_sent task Done = abstract_goodbye task
requests_sent task (Ended status why) = []

-- CANCEL is sent from a frame's START reply to its end record
abbrev pub abstract_farewell : JobStage → List AbstractRequest
abstract_farewell Idle = []
abstract_farewell (Running Greeting) = Exit ∷ []
abstract_farewell (Running Listing) = Exit ∷ []
abstract_farewell (Running Opening) = Exit ∷ []
abstract_farewell (Running (Allowing challenge)) = Exit ∷ []
abstract_farewell (Running (Describing left)) = Exit ∷ []
abstract_farewell (Running (Putting n value requested left)) = Exit ∷ []
abstract_farewell (Running (Getting n left)) = Exit ∷ []
abstract_farewell (Running Starting) = Exit ∷ []
abstract_farewell (Running Shaping) = Cancel ∷ Exit ∷ []
abstract_farewell (Running (Imaging params heard)) = Cancel ∷ Exit ∷ []
abstract_farewell Done = []
abstract_farewell (Ended status why) = []

abbrev pub progress_after_init : AbstractTask → AbstractProgress
progress_after_init List_ = Listing
progress_after_init Show = Opening
progress_after_init SetOnly = Opening
progress_after_init Scan = Opening
progress_after_init (Batch n) = Opening

-- the next of these values
abbrev pub next_value : List ℕ → JobStage
next_value [] = Done
next_value (n ∷ left) = Running (Getting n left)

abbrev pub stage_after_settings : AbstractTask → List Descriptor → JobStage
stage_after_settings List_ known = Done
stage_after_settings Show known = next_value (readable_options known)
stage_after_settings SetOnly known = Done
stage_after_settings Scan known = Running Starting
stage_after_settings (Batch n) known = Running Starting

abbrev pub asks_setting : RequestedSetting → List RequestedSetting → Option (ℕ × Value) → JobStage
asks_setting requested left None = Ended Inval Setting
asks_setting requested left (Some (n, value)) = Running (Putting n value requested left)

-- the next of these settings, by these descriptors
abbrev pub stage_of_next_setting : AbstractTask → List Descriptor → List RequestedSetting → JobStage
stage_of_next_setting task known [] = stage_after_settings task known
stage_of_next_setting task known (requested ∷ left) = asks_setting requested left (resolve_setting known requested)

abbrev pub stage_after_put : AbstractTask → List Descriptor → List RequestedSetting → Bool → JobStage
stage_after_put task known left true = Running (Describing left)
stage_after_put task known left false = stage_of_next_setting task known left
