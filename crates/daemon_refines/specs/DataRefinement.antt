-- The data connection of a session, as the model's actions.
use Rattle.std.specs.Prelude.{ℕ, ◌≡◌, Option, Some, None, Result, Ok, Err, List, [], take}
use Rattle.sane_fixed.specs.declared.status.Status.{Status}
use Rattle.sane_fixed.specs.declared.status.Status.TheVariants as code
use Rattle.device_api.specs.State.{DeviceState, Reads}
use Rattle.device_api.specs.State.Phase.{Reading}
use Rattle.saned_requests.specs.RequestAnswers.{RequestContext}
use Rattle.saned_core.specs.DaemonStates.{after_connected, after_lost, session_let_go}
use Rattle.system_model.specs.Devices.{Make}
use Rattle.system_model.specs.AbstractDevices.{AbstractDevice, device_let_go}
use Rattle.system_model.specs.Daemon.{TransferState, Quiet, Waiting, Streaming, Ending}
use Rattle.system_model.specs.SystemStates.{JobState, with_entry}
use Rattle.system_model.specs.AbstractSessions.{AbstractSession}
use Rattle.system_model.specs.Transitions.{IsActionEnabled}
use Rattle.system_model.specs.Actions.{Action, Turns, TurnsLast, TurnsNamed, TurnsShort, TurnsFault, device_after}
use Rattle.system_model.specs.Actions.{image_off, left_by_loss}
use Rattle.daemon_refines.specs.ContextRefinement.{abstract_device, IsMade, ContextRefines, TableRefines}
use Rattle.daemon_refines.specs.Failures.{IsTurnCounted}

-- the end record of a turn has this status
abbrev pub EndRecordIs : Status → Action → Type 0
EndRecordIs status TurnsLast = status ≡ code.Eof
EndRecordIs status TurnsShort = status ≡ code.Eof
EndRecordIs status (TurnsNamed name) = name ≡ status
EndRecordIs status (TurnsFault fault) = status ≡ code.IoError
EndRecordIs status _ = ⊥

-- **what a read is (`IsTurnOf`, `SendsAs`, `StreamServed`)**: the action that a read of the device is (bytes, the end,
-- a named status or a failure), and the record that it sends. The request context behind it is shown again.
abbrev pub IsTurnOf : Result ℕ Status → List ℕ → Action → Type 0
IsTurnOf (Ok n) window action = action ≡ Turns (take n window)
IsTurnOf (Err status) window action = EndRecordIs status action

-- one read is one turn of the model, which may come, and leaves the device as it leaves it by the model
pub record TurnServed (i : ℕ) (k : Make) (listed : List ℕ) (p : JobState) (s : DeviceState) (answer : Result ℕ Status)
    (after : DeviceState) (window : List ℕ) : Type 0 where
  pub action : Action
  pub is : IsTurnOf answer window action
  pub may : IsActionEnabled i k p (abstract_device (Some i) s) action
  pub device : device_after i k listed p (abstract_device (Some i) s) action ≡ abstract_device (Some i) after
  pub made : IsMade k after
  pub counted : IsTurnCounted s after action

-- a device that is read
abbrev pub TurnsAgree : Type 0
TurnsAgree =
    (i : ℕ) (k : Make) (listed : List ℕ) (p : JobState) (s after : DeviceState) (pass given : ℕ)
    (answer : Result ℕ Status) (window : List ℕ) →
    IsMade k s → s.phase ≡ Reading pass given → p.session.transfer ≡ Streaming → Reads s answer after window →
    TurnServed i k listed p s answer after window

-- the data connection is made: for a frame that waits for none, it changes nothing
abbrev pub transfer_connected : TransferState → TransferState
transfer_connected Quiet = Quiet
transfer_connected Waiting = Streaming
transfer_connected Streaming = Streaming
transfer_connected Ending = Ending

abbrev pub ConnectsAgree : Type 0
ConnectsAgree =
    (i : ℕ) (make : ℕ → Make) (d : RequestContext) (table : ℕ → AbstractDevice) (s : AbstractSession)
    → ContextRefines i make d table s →
    ContextRefines i make (record d { session = after_connected d.session }) table
    (record s { transfer = transfer_connected s.transfer })

-- the data connection is lost: the device of the frame, and the request context behind it
abbrev pub off_at : ℕ → TransferState → (ℕ → AbstractDevice) → Option ℕ → ℕ → AbstractDevice
off_at i c table None = table
off_at i c table (Some p) = with_entry table p (image_off i c (table p))

abbrev pub LossAgrees : Type 0
LossAgrees =
    (i : ℕ) (make : ℕ → Make) (d : RequestContext) (table : ℕ → AbstractDevice) (s : AbstractSession)
    → ContextRefines i make d table s →
    ContextRefines i make (record d { session = after_lost d.session }) (off_at i s.transfer table (s.words s.framed))
    (record s { transfer = left_by_loss s.transfer })

-- a session is over: what it held is given back
abbrev pub ReleaseAgrees : Type 0
ReleaseAgrees =
    (i : ℕ) (make : ℕ → Make) (d : RequestContext) (table : ℕ → AbstractDevice) (s : AbstractSession)
    → ContextRefines i make d table s →
    TableRefines i make [] (session_let_go d.registry (Some d.session)) (λ k. device_let_go i (table k))
