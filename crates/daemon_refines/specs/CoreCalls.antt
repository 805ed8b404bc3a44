-- The other calls of a daemon for one of its sessions, by the model.
use Rattle.std.specs.Prelude.{ℕ, ◌≡◌, ◌≢◌, Some, List, []}
use Rattle.saned_requests.specs.declared.session.DataPhase.TheVariants as word
use Rattle.saned_core.specs.declared.session_slot.DataStep.{DataStep}
use Rattle.saned_requests.specs.declared.session.Session.{Session as RequestSession}
use Rattle.device_api.specs.State.{DeviceState}
use Rattle.saned_core.specs.DaemonStates.{Core, after_connected, after_lost, after_end_session, on_session_slot}
use Rattle.saned_core.specs.DaemonStates.{on_session, session_of}
use Rattle.saned_core.specs.Turns.{Turns}
use Rattle.system_model.specs.Devices.{Make}
use Rattle.system_model.specs.AbstractDevices.{AbstractDevice, device_let_go}
use Rattle.system_model.specs.Actions.{Action, TurnsOff, device_after, left_by_loss, job_after_action}
use Rattle.system_model.specs.SystemStates.{JobState, with_entry}
use Rattle.system_model.specs.Transitions.{IsActionEnabled}
use Rattle.system_model.specs.AbstractSessions.{AbstractSession}
use Rattle.daemon_refines.specs.ContextRefinement.{TableRefines}
use Rattle.daemon_refines.specs.DataRefinement.{transfer_connected, off_at}
use Rattle.daemon_refines.specs.Failures.{IsCountedAt}
use Rattle.daemon_refines.specs.Streams.{SendsAs}
use Rattle.daemon_refines.specs.Cores.{SessionRefines}

-- each session of another client stands as it stood, by these devices
abbrev pub OthersKeepRefining : ℕ → (ℕ → Make) → ℕ → Core → Core → (ℕ → AbstractDevice) → (ℕ → AbstractDevice) → Type 0
OthersKeepRefining i make n old new table devices = (j m : ℕ) (u : AbstractSession) → j ≢ i → m ≢ n
    → SessionRefines j make old m table u → SessionRefines j make new m devices u

-- and the session of that number is this one
pub record SessionRefinesAs (i : ℕ) (make : ℕ → Make) (n : ℕ) (old new : Core) (table devices : ℕ → AbstractDevice)
    (s : AbstractSession) : Type 0 where
  pub own : SessionRefines i make new n devices s
  pub others : OthersKeepRefining i make n old new table devices

-- its data connection is made
abbrev pub CoreConnects : Type 0
CoreConnects =
    (i : ℕ) (make : ℕ → Make) (n : ℕ) (old new : Core) (table : ℕ → AbstractDevice) (s : AbstractSession)
    → SessionRefines i make old n table s
    → new ≡ record old { slots = on_session_slot (on_session after_connected) n old.slots } →
    SessionRefinesAs i make n old new table table (record s { transfer = transfer_connected s.transfer })

-- it is lost
abbrev pub CoreLoses : Type 0
CoreLoses =
    (i : ℕ) (make : ℕ → Make) (n : ℕ) (old new : Core) (table : ℕ → AbstractDevice) (s : AbstractSession)
    → SessionRefines i make old n table s
    → new ≡ record old { slots = on_session_slot (on_session after_lost) n old.slots } →
    SessionRefinesAs i make n old new table (off_at i s.transfer table (s.words s.framed))
    (record s { transfer = left_by_loss s.transfer })

-- a turn of a frame that streams: an action that may come, and what it leaves
pub record CoreTurned (i : ℕ) (make : ℕ → Make) (n : ℕ) (old new : Core) (table : ℕ → AbstractDevice)
    (s : AbstractSession) (listed : List ℕ) (p : JobState) (place : ℕ) (step : DataStep) (buf : List ℕ) : Type 0 where
  pub action : Action
  pub may : IsActionEnabled i (make place) p (table place) action
  pub sends : SendsAs step buf action
  -- a failure is counted at a device that the session of that number held before and holds behind it
  pub counted : (a b : RequestSession DeviceState) → session_of old n ≡ Some a → session_of new n ≡ Some b
      → IsCountedAt a.held b.held s.words place action
  pub stands
      : SessionRefinesAs i make n old new table
      (with_entry table place (device_after i (make place) listed p (table place) action))
      (record s { transfer = (job_after_action i (make place) listed p (table place) action).session.transfer })

abbrev pub CoreTurns : Type 0
CoreTurns =
    (i : ℕ) (make : ℕ → Make) (n : ℕ) (old new : Core) (table : ℕ → AbstractDevice) (s : AbstractSession)
    (listed : List ℕ) (p : JobState) (w : ℕ) (step : DataStep) (buf : List ℕ)
    → (stands : SessionRefines i make old n table s) → p.session.transfer ≡ s.transfer →
    stands.session.transfer ≡ word.Streaming w → Turns n old step new buf →
    (place : ℕ) × (s.words w ≡ Some place) × CoreTurned i make n old new table s listed p place step buf

-- a turn of a frame that was cancelled
abbrev pub CoreTurnsOff : Type 0
CoreTurnsOff =
    (i : ℕ) (make : ℕ → Make) (n : ℕ) (old new : Core) (table : ℕ → AbstractDevice) (s : AbstractSession)
    (listed : List ℕ) (p : JobState) (place : ℕ) (step : DataStep) (buf : List ℕ)
    → (stands : SessionRefines i make old n table s) → p.session.transfer ≡ s.transfer →
    stands.session.transfer ≡ word.Ending → Turns n old step new buf
    → (turned : CoreTurned i make n old new table s listed p place step buf) × (turned.action ≡ TurnsOff)

-- the session is ended: all that it holds is given back
pub record CoreEnded (i : ℕ) (make : ℕ → Make) (n : ℕ) (old new : Core) (table : ℕ → AbstractDevice) : Type 0 where
  pub own : TableRefines i make [] new.registry (λ k. device_let_go i (table k))
  pub others : OthersKeepRefining i make n old new table (λ k. device_let_go i (table k))

abbrev pub CoreEnds : Type 0
CoreEnds =
    (i : ℕ) (make : ℕ → Make) (n : ℕ) (old new : Core) (table : ℕ → AbstractDevice) (s : AbstractSession)
    → SessionRefines i make old n table s → new ≡ after_end_session old n → CoreEnded i make n old new table
