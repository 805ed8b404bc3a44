-- A stranger: a session of the daemon that is no job's. What his calls leave to the jobs of a world.
use Rattle.std.specs.Prelude.{ℕ, ◌≡◌, ◌≢◌, ◌≤◌, ◌<◌, ◌⊎◌, false, Some, List, [], length, slice_get}
use Rattle.std.specs.List.{AllByRecursion}
use Rattle.saned_core.specs.declared.session_slot.SessionId.{SessionId}
use Rattle.saned_core.specs.declared.session_slot.Fed.{Fed}
use Rattle.saned_core.specs.DaemonStates.{Core, after_connected, after_end_session, after_lost, after_open_session}
use Rattle.saned_core.specs.DaemonStates.{after_taken, is_closed, on_session, on_session_slot, session_slot_of}
use Rattle.saned_core.specs.Feeding.{Feeds}
use Rattle.saned_core.specs.Turns.{Turns}
use Rattle.saned_core.specs.declared.session_slot.DataStep.{DataStep}
use Rattle.system_model.specs.Devices.{Make}
use Rattle.system_model.specs.AbstractDevices.{AbstractDevice}
use Rattle.system_model.specs.Marks.{Mark}
use Rattle.system_model.specs.Transitions.{By, IsUsedBy, Loads, Transition, Unplugs, Uses, after_all}
use Rattle.system_model.specs.AbstractSessions.{AbstractSession}
use Rattle.system_model.specs.SystemStates.{SystemState, device_for}
use Rattle.system_model.specs.Invariants.{Invariant}
use Rattle.daemon_refines.specs.ContextRefinement.{TableRefines}
use Rattle.daemon_refines.specs.OtherSessions.{LeavesOthers}
use Rattle.daemon_refines.specs.Cores.{RefinesAfterFeed, SessionRefines}
use Rattle.event_world.specs.declared.endpoint.Endpoint.{Endpoint}
use Rattle.event_world.specs.Worlds.{WorldCore}
use Rattle.world_refines.specs.GhostStates.{Ghost}
use Rattle.world_refines.specs.Speaks.{AsksAsHeld}
use Rattle.world_refines.specs.WorldRefinement.{EndpointRefinesAt, IsBelow}

-- the same system, with these devices
abbrev pub with_devices : (ℕ → AbstractDevice) → SystemState → SystemState
with_devices device s = record s { device = device }

abbrev pub ghost_with : (ℕ → AbstractDevice) → Ghost → Ghost
ghost_with device t = record t { system = with_devices device t.system }

-- behind these steps, which move no byte
abbrev pub ghost_behind : List Transition → Ghost → Ghost
ghost_behind steps t = record t { system = after_all t.system steps }

-- a use of a device by client i
abbrev pub IsUseOf : ℕ → Transition → Type 0
IsUseOf i (By j x) = ⊥
IsUseOf i (Loads d page) = ⊥
IsUseOf i (Unplugs d) = ⊥
IsUseOf i (Uses j d shown left) = j ≡ i

-- **the jobs stand (`JobsStand`)**: the model's invariant holds, each job asks for what it holds alone, and each
-- endpoint of the world refines its job. A world of jobs is so. Nothing is said of other sessions.
pub record JobsStand (t : Ghost) (w : WorldCore) : Type 0 where
  pub sound : Invariant t.system
  pub asks : (j : ℕ) → AsksAsHeld t.system j
  pub endpoints : (j : ℕ) (endpoint : Endpoint) → slice_get w.endpoints j ≡ Some endpoint
      → EndpointRefinesAt t w.daemon j endpoint

-- **stranger (`IsStrangers`, `MayCome`, `IsGone`)**: a session of the daemon that no endpoint of the world has. By the
-- model it is that of a client behind all jobs, which has no job, and so wants a place where nothing is listed. One may
-- come while a place for a session is free. One who is gone holds nothing.
pub record IsStrangers (t : Ghost) (w : WorldCore) (i n : ℕ) (s : AbstractSession) : Type 0 where
  pub beyond : length w.endpoints ≤ i
  pub nowhere : (device_for t.system i).listed ≡ false
  pub apart : (j : ℕ) (endpoint : Endpoint) (id : SessionId) → slice_get w.endpoints j ≡ Some endpoint
      → endpoint.link ≡ Some id → id.number ≢ n
  pub sits : SessionRefines i t.system.make w.daemon n t.system.device s

-- **left by a client (`IsLeftBy`)**: a device is as it was, or client i used it, by marks of its own.
abbrev pub IsLeftBy : ℕ → ℕ → Make → AbstractDevice → AbstractDevice → Type 0
IsLeftBy i d make old new = (new ≡ old) ⊎ ((shown : List Mark) × IsUsedBy i d make old shown new)

-- **leaves the jobs (`LeavesJobs`)**: behind a call for a stranger's session the devices are these, and with them the
-- jobs stand. No slot of another session is touched, so no reply that waits there. Each device that anybody else holds
-- is as it was, and so is what the sessions of all others stand for. Each device is as it was or used by him.
pub record LeavesJobs (t : Ghost) (w : WorldCore) (i n : ℕ) (e : Core) (device : ℕ → AbstractDevice) : Type 0 where
  pub stands : JobsStand (ghost_with device t) (record w { daemon = e })
  pub slots : (m : ℕ) → m ≢ n → session_slot_of e.slots m ≡ session_slot_of w.daemon.slots m
  pub held : (k j : ℕ) → j ≢ i → (t.system.device k).holder ≡ Some j → device k ≡ t.system.device k
  pub others : LeavesOthers i w.daemon.registry e.registry t.system.device device
  pub uses : (k : ℕ) → IsLeftBy i k (t.system.make k) (t.system.device k) (device k)

-- **whatever a stranger does (`SaysAnything`, `GoesOn`, `HasArrived`, `ActLeaves`)**: he is fed any bytes, also when
-- memory runs out; his data connection is made or lost, or a record or replies of his are taken, and he has a session
-- still; he comes; or any of these. Each leaves the jobs.
pub record SaysAnything (t : Ghost) (w : WorldCore) (i n : ℕ) (fed : Fed) (e : Core) : Type 0 where
  pub device : ℕ → AbstractDevice
  pub leaves : LeavesJobs t w i n e device
  pub own : RefinesAfterFeed fed i t.system.make e n device

abbrev pub StrangersSayAnything : Type 0
StrangersSayAnything =
    (t : Ghost) (w : WorldCore) (i n : ℕ) (s : AbstractSession) (piece : List ℕ) (fed : Fed) (e : Core) → JobsStand t w
    → IsStrangers t w i n s → Feeds n w.daemon piece fed e → SaysAnything t w i n fed e

-- he makes a data connection of his session, or loses it
pub record GoesOn (t : Ghost) (w : WorldCore) (i n : ℕ) (e : Core) : Type 0 where
  pub device : ℕ → AbstractDevice
  pub leaves : LeavesJobs t w i n e device
  pub session : AbstractSession
  pub own : SessionRefines i t.system.make e n device session

abbrev pub StrangersConnect : Type 0
StrangersConnect =
    (t : Ghost) (w : WorldCore) (i n : ℕ) (s : AbstractSession) → JobsStand t w → IsStrangers t w i n s
    → GoesOn t w i n (record w.daemon { slots = on_session_slot (on_session after_connected) n w.daemon.slots })

abbrev pub StrangersLoseData : Type 0
StrangersLoseData =
    (t : Ghost) (w : WorldCore) (i n : ℕ) (s : AbstractSession) → JobsStand t w → IsStrangers t w i n s
    → GoesOn t w i n (record w.daemon { slots = on_session_slot (on_session after_lost) n w.daemon.slots })

-- he is lost, or leaves: nothing is his any more
pub record IsGone (t : Ghost) (w : WorldCore) (i n : ℕ) (e : Core) : Type 0 where
  pub device : ℕ → AbstractDevice
  pub leaves : LeavesJobs t w i n e device
  pub own : TableRefines i t.system.make [] e.registry device

abbrev pub StrangersLeave : Type 0
StrangersLeave =
    (t : Ghost) (w : WorldCore) (i n : ℕ) (s : AbstractSession) → JobsStand t w → IsStrangers t w i n s
    → IsGone t w i n (after_end_session w.daemon n)

-- a record of his data is taken, or there is none to be had
abbrev pub StrangersTakeData : Type 0
StrangersTakeData =
    (t : Ghost) (w : WorldCore) (i n : ℕ) (s : AbstractSession) (step : DataStep) (buf : List ℕ) (e : Core)
    → JobsStand t w → IsStrangers t w i n s → Turns n w.daemon step e buf → GoesOn t w i n e

-- so many bytes of his replies are
abbrev pub StrangersTakeReplies : Type 0
StrangersTakeReplies =
    (t : Ghost) (w : WorldCore) (i n count : ℕ) (s : AbstractSession) → JobsStand t w → IsStrangers t w i n s
    → GoesOn t w i n (record w.daemon { slots = on_session_slot (after_taken count) n w.daemon.slots })

-- he comes: nothing is his, and a place is free; the session gets a number that no endpoint has
pub record MayCome (t : Ghost) (w : WorldCore) (i : ℕ) : Type 0 where
  pub beyond : length w.endpoints ≤ i
  pub nowhere : (device_for t.system i).listed ≡ false
  pub nothing : TableRefines i t.system.make [] w.daemon.registry t.system.device
  pub room : is_closed w.daemon ≡ false
  pub below : AllByRecursion (IsBelow w.daemon.opened) w.daemon.slots
  pub links : (j : ℕ) (endpoint : Endpoint) (id : SessionId) → slice_get w.endpoints j ≡ Some endpoint
      → endpoint.link ≡ Some id → id.number < w.daemon.opened

pub record HasArrived (t : Ghost) (w : WorldCore) (i : ℕ) (e : Core) : Type 0 where
  pub leaves : LeavesJobs t w i w.daemon.opened e t.system.device
  pub session : AbstractSession
  pub is : IsStrangers t (record w { daemon = e }) i w.daemon.opened session

abbrev pub StrangersCome : Type 0
StrangersCome =
    (t : Ghost) (w : WorldCore) (i port : ℕ) → JobsStand t w → MayCome t w i
    → HasArrived t w i (after_open_session w.daemon port)
