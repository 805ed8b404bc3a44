-- One turn of a session's data connection, as an action of the model.
use Rattle.std.specs.Prelude.{ℕ, ◌≡◌, ◌+◌, Some, List, ◌++◌, take, length}
use Rattle.std.specs.Int.{w32, to_be_bytes}
use Rattle.sane_fixed.specs.declared.status.Status.{Status}
use Rattle.sane_fixed.specs.declared.status.Status.TheVariants as code
use Rattle.device_api.specs.State.{DeviceState}
use Rattle.saned_requests.specs.declared.session.DataPhase.TheVariants as word
use Rattle.saned_requests.specs.declared.session.Session.{Session as RequestSession}
use Rattle.saned_requests.specs.RequestAnswers.{RequestContext}
use Rattle.saned_core.specs.declared.session_slot.DataStep.{DataStep}
use Rattle.saned_core.specs.declared.session_slot.DataStep.TheVariants.{Bytes}
use Rattle.saned_core.specs.Turns as daemon
use Rattle.system_model.specs.Devices.{Make}
use Rattle.system_model.specs.AbstractDevices.{AbstractDevice}
use Rattle.system_model.specs.SystemStates.{JobState, with_entry}
use Rattle.system_model.specs.AbstractSessions.{AbstractSession}
use Rattle.system_model.specs.Transitions.{IsActionEnabled}
use Rattle.system_model.specs.Actions.{Action, Turns, TurnsLast, TurnsNamed, TurnsShort, TurnsFault, TurnsOff}
use Rattle.system_model.specs.Actions.{device_after, job_after_action}
use Rattle.daemon_refines.specs.ContextRefinement.{ContextRefines}
use Rattle.daemon_refines.specs.Failures.{IsCountedAt}

-- the record that is sent: the bytes of the action behind their number, or the end with its status
abbrev pub SendsAs : DataStep → List ℕ → Action → Type 0
SendsAs step buf (Turns bytes) = (step ≡ Bytes (4 + length bytes))
    × (take (4 + length bytes) buf ≡ to_be_bytes w32 (length bytes) ++ bytes)
SendsAs step buf TurnsLast = daemon.WritesEndRecord code.Eof step buf
SendsAs step buf TurnsShort = daemon.WritesEndRecord code.Eof step buf
SendsAs step buf (TurnsNamed name) = (status : Status) × (name ≡ status)
    × daemon.WritesEndRecord status step buf
SendsAs step buf (TurnsFault fault) = daemon.WritesEndRecord code.IoError step buf
SendsAs step buf TurnsOff = daemon.WritesEndRecord code.Cancelled step buf
SendsAs step buf _ = ⊥

-- the action may come, and the request context behind the turn is shown again: the device and the frame are those that
-- the action leaves
pub record StreamServed (i : ℕ) (make : ℕ → Make) (d : RequestContext) (table : ℕ → AbstractDevice)
    (s : AbstractSession) (listed : List ℕ) (p : JobState) (place : ℕ) (step : DataStep)
    (new : RequestSession DeviceState) (buf : List ℕ) : Type 0 where
  pub action : Action
  pub may : IsActionEnabled i (make place) p (table place) action
  pub sends : SendsAs step buf action
  pub counted : IsCountedAt d.session.held new.held s.words place action
  pub shows
      : ContextRefines i make (record d { session = new })
      (with_entry table place (device_after i (make place) listed p (table place) action))
      (record s { transfer = (job_after_action i (make place) listed p (table place) action).session.transfer })

-- a frame that streams
abbrev pub StreamsAgree : Type 0
StreamsAgree =
    (i : ℕ) (make : ℕ → Make) (d : RequestContext) (table : ℕ → AbstractDevice) (s : AbstractSession) (listed : List ℕ)
    (p : JobState) (w : ℕ) (step : DataStep) (new : RequestSession DeviceState) (buf : List ℕ) →
    ContextRefines i make d table s → p.session.transfer ≡ s.transfer → d.session.transfer ≡ word.Streaming w →
    daemon.TurnsStream d.session step new buf
    → (place : ℕ) × (s.words w ≡ Some place) × StreamServed i make d table s listed p place step new buf

-- a frame that was cancelled
abbrev pub EndingsAgree : Type 0
EndingsAgree =
    (i : ℕ) (make : ℕ → Make) (d : RequestContext) (table : ℕ → AbstractDevice) (s : AbstractSession) (listed : List ℕ)
    (p : JobState) (place : ℕ) (step : DataStep) (new : RequestSession DeviceState) (buf : List ℕ) →
    ContextRefines i make d table s → p.session.transfer ≡ s.transfer → d.session.transfer ≡ word.Ending
    → daemon.TurnsStream d.session step new buf
    → (served : StreamServed i make d table s listed p place step new buf) × (served.action ≡ TurnsOff)
