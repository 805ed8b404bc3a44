-- What stands: plain data that contracts alone see.
use Rattle.std.specs.Prelude.{ℕ, List, [], ◌∷◌, Bool, false, Option, None, if◌then◌else◌, ◌==◌}
use Rattle.sane_fixed.specs.declared.status.Status.{Status}
use Rattle.system_model.specs.AbstractMessages.{Challenge, AbstractRequest, AbstractReply}
use Rattle.system_model.specs.Devices.{Make}
use Rattle.system_model.specs.Client.{AbstractJob, ClientView, initial_client}
use Rattle.system_model.specs.AbstractDevices.{AbstractDevice, Begin}
use Rattle.system_model.specs.Daemon.{TransferState, Quiet}
use Rattle.system_model.specs.Causes.{Cause}

-- **system state (`SessionView`, `JobState`, `SystemState`)**: of each place its device. Of each client its job, what
-- it knows, the requests not answered and replies not heard, its links, the challenge, the bytes of a frame on the way,
-- and the starts and the causes met so far.
--
-- what stands of a job beside its control connection
pub record SessionView : Type 0 where
  pub job : AbstractJob
  pub transfer : TransferState
  -- the challenge that its session waits for an answer to, and the first that was sent to it
  pub awaited : Option Challenge
  pub sent : Option Challenge
  -- the bytes of the frame on the way, and the status of the end record behind them
  pub flight : List ℕ
  pub ending : Option Status
  -- the page and the options of each of its starts at rest
  pub started : List Begin
  -- the devices that were listed at its GET_DEVICES
  pub shown : Option (List ℕ)
  pub met : List Cause

-- what stands of one job
pub record JobState : Type 0 where
  pub session : SessionView
  -- what its client knows
  pub client : ClientView
  -- the requests sent and not answered, and the replies given and not heard
  pub todo : List AbstractRequest
  pub due : List AbstractReply
  -- whether its links stand, and its session
  pub linked : Bool
  pub image : Bool
  pub served : Bool

pub record SystemState : Type 0 where
  -- of each place: what never changes of its device, and the device
  pub make : ℕ → Make
  pub device : ℕ → AbstractDevice
  pub job : ℕ → JobState
  -- the places of the world's devices, in the order in which they are listed
  pub places : List ℕ

-- f, but x at i
abbrev pub with_entry : {X : Type 0} → (ℕ → X) → ℕ → X → ℕ → X
with_entry f i x j = if j == i then x else f j

abbrev pub initial_job : AbstractJob → JobState
initial_job job =
    record {
      session =
          record {
            job = job;
            transfer = Quiet;
            awaited = None;
            sent = None;
            flight = [];
            ending = None;
            started =
                [];
            shown = None;
            met = [];
          };
      client = initial_client;
      todo = [];
      due = [];
      linked = false;
      image = false;
      served = false;
    }

-- the place that client i's job names, what never changes there, and the device there
abbrev pub wanted_place : SystemState → ℕ → ℕ
wanted_place s i = (s.job i).session.job.wants

abbrev pub make_for : SystemState → ℕ → Make
make_for s i = s.make (wanted_place s i)

abbrev pub device_for : SystemState → ℕ → AbstractDevice
device_for s i = s.device (wanted_place s i)

-- the devices that are listed, in their order
abbrev pub listed_of : (ℕ → AbstractDevice) → List ℕ → List ℕ
listed_of device [] = []
listed_of device (d ∷ places) = if (device d).listed then d ∷ listed_of device places else listed_of device places

abbrev pub listed_devices : SystemState → List ℕ
listed_devices s = listed_of s.device s.places
