-- What is always so: of each job, of its finished pages, and of each device.
use Rattle.std.specs.Prelude.{ℕ, ◌≡◌, ◌≢◌, ◌≤◌, ◌⊎◌, List, [], ◌∷◌, ◌++◌, true, false, length, suc, Some, None}
use Rattle.scan_job.specs.declared.outcome.Why.{Why}
use Rattle.sane_fixed.specs.declared.status.Status.{Status}
use Rattle.system_model.specs.AbstractMessages.{AbstractReply}
use Rattle.system_model.specs.Devices.{Make, OptionsInForce, descriptors_in_force, readable_options}
use Rattle.system_model.specs.AbstractInForce.{abstract_in_force, values_of}
use Rattle.system_model.specs.Client.{AbstractTask, List_, Show, SetOnly, Scan, Batch, ClientView, JobStage, Idle}
use Rattle.system_model.specs.Client.{Running, Done, Ended, AbstractProgress, request_awaited}
use Rattle.system_model.specs.ClientReplies.{hear_at}
use Rattle.system_model.specs.AbstractDevices.{AbstractDevice, Begin, DeviceInvariant}
use Rattle.system_model.specs.Daemon.{TransferState, Quiet, Waiting, Streaming, Ending}
use Rattle.system_model.specs.Causes.{LinkOutOfMemory, WasUnsaid, Unforced, TrayRanOut, Explains, IsExplained}
use Rattle.system_model.specs.Causes.{IsCauseAmong}
use Rattle.system_model.specs.SystemStates.{SessionView, JobState, SystemState, make_for, device_for}
use Rattle.system_model.specs.Sync.{InSync, NotYet, AllInForce, ArePictures}

-- an ending has its cause
abbrev pub IsCaused : Make → SessionView → Status → Why → Type 0
IsCaused k b status why = IsExplained status why b.met
    ⊎ (((abstract_in_force k b.job.settings ≡ None) × (b.job.task ≢ List_)) × Explains Unforced status why)

-- a batch has the pages that it wants, or its tray ran out behind at least one
abbrev pub HasBatchPages : ℕ → SessionView → ClientView → Type 0
HasBatchPages n b m = (length m.pages ≡ suc n) ⊎ ((m.pages ≢ []) × (length m.pages ≤ n) × IsCauseAmong TrayRanOut b.met)

-- the descriptors and the values of the options in force were told
pub record ShowIsRight (k : Make) (b : SessionView) (m : ClientView) : Type 0 where
  pub options : OptionsInForce
  pub settled : AllInForce k b.job b.sent m.reports options
  pub known : m.known ≡ descriptors_in_force k options
  pub values : m.values ≡ values_of k options (readable_options (descriptors_in_force k options))

-- a job that is done kept its promise
abbrev pub IsRightlyDone : Make → SessionView → ClientView → AbstractTask → Type 0
IsRightlyDone k b m List_ = b.shown ≡ Some m.devices
IsRightlyDone k b m Show = ShowIsRight k b m
IsRightlyDone k b m SetOnly = (options : OptionsInForce) × AllInForce k b.job b.sent m.reports options
IsRightlyDone k b m Scan = ((options : OptionsInForce) × AllInForce k b.job b.sent m.reports options)
    × (length m.pages ≡ 1)
IsRightlyDone k b m (Batch n) = ((options : OptionsInForce) × AllInForce k b.job b.sent m.reports options)
    × HasBatchPages n b m

-- the client is right to be where it is
abbrev pub IsRight : ℕ → Make → SessionView → ClientView → AbstractDevice → JobStage → Type 0
IsRight i k b m dev Idle = ⊥
IsRight i k b m dev (Running g) = InSync i k b m dev g
IsRight i k b m dev Done = IsRightlyDone k b m b.job.task
IsRight i k b m dev (Ended status why) = IsCaused k b status why

-- no data stream
abbrev pub IsCalm : TransferState → Type 0
IsCalm Quiet = Unit {0}
IsCalm Waiting = Unit {0}
IsCalm Streaming = ⊥
IsCalm Ending = ⊥

-- its request is on the way
pub record RequestInFlight (i : ℕ) (k : Make) (p : JobState) (dev : AbstractDevice)
    (g : AbstractProgress) : Type 0 where
  pub linked : p.linked ≡ true
  pub served : p.served ≡ true
  pub todo : p.todo ≡ request_awaited g
  pub due : p.due ≡ []
  pub in_sync : InSync i k p.session p.client dev g

-- the reply is on the way, and the client will be right to hear it
pub record ReplyInFlight (i : ℕ) (k : Make) (p : JobState) (dev : AbstractDevice) (g : AbstractProgress) : Type 0 where
  pub linked : p.linked ≡ true
  pub served : p.served ≡ true
  pub todo : p.todo ≡ []
  pub reply : AbstractReply
  pub due : p.due ≡ reply ∷ []
  pub waits : request_awaited g ≢ []
  pub calm : IsCalm p.session.transfer
  pub right
      : IsRight i k p.session (hear_at g p.session.job p.client reply) dev
      (hear_at g p.session.job p.client reply).stage

-- the daemon ended the session: for lack of memory, or at a reply that it could not say
pub record SessionIsDead (p : JobState) (g : AbstractProgress) : Type 0 where
  pub cause : IsCauseAmong LinkOutOfMemory p.session.met ⊎ IsCauseAmong WasUnsaid p.session.met
  pub linked : p.linked ≡ true
  pub served : p.served ≡ false
  pub transfer : p.session.transfer ≡ Quiet
  pub todo : p.todo ≡ []
  pub due : p.due ≡ []
  pub waits : request_awaited g ≢ []

abbrev pub StageInvariant : ℕ → Make → JobState → AbstractDevice → JobStage → Type 0
StageInvariant i k p dev Idle = (p.served ≡ false) × (p.todo ≡ []) × (p.due ≡ []) × NotYet i p.session p.client dev None
StageInvariant i k p dev (Running g) = RequestInFlight i k p dev g ⊎ (ReplyInFlight i k p dev g ⊎ SessionIsDead p g)
StageInvariant i k p dev Done = IsRightlyDone k p.session p.client p.session.job.task
StageInvariant i k p dev (Ended status why) = IsCaused k p.session status why

abbrev pub JobInvariant : SystemState → ℕ → Type 0
JobInvariant s i = StageInvariant i (make_for s i) (s.job i) (device_for s i) (s.job i).client.stage

-- the finished pages are those of the job's first starts, whatever became of the job
pub record PagesAreOfStarts (k : Make) (b : SessionView) (m : ClientView) : Type 0 where
  pub begins : List Begin
  pub later : List Begin
  pub started : b.started ≡ begins ++ later
  pub pictures : ArePictures k b.job.settings begins m.pages

pub record Invariant (s : SystemState) : Type 0 where
  pub exchanges : (i : ℕ) → JobInvariant s i
  pub pages : (i : ℕ) → PagesAreOfStarts (make_for s i) (s.job i).session (s.job i).client
  pub fit : (d : ℕ) → DeviceInvariant (s.make d) (s.device d)
