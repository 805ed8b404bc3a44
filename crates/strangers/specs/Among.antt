-- A world among strangers: whatever any of them does, all stand as before.
use Rattle.std.specs.Prelude.{ℕ, ◌≡◌, ◌≢◌, ◌<◌, ◌≤◌, ◌+◌, ◌⊎◌, false, Some, None, List, [], ◌∷◌, length, slice_get}
use Rattle.device_api.specs.State.{DeviceState}
use Rattle.saned_requests.specs.declared.session.Session.{Session as RequestSession}
use Rattle.saned_core.specs.declared.session_slot.SessionId.{SessionId}
use Rattle.saned_core.specs.DaemonLimits.{HasDaemonLimits}
use Rattle.saned_core.specs.DaemonStates.{session_of, session_slot_of}
use Rattle.saned_serve.specs.SessionActions.{ActsOn, SessionAction}
use Rattle.system_model.specs.AbstractDevices.{AbstractDevice}
use Rattle.system_model.specs.AbstractSessions.{AbstractSession}
use Rattle.system_model.specs.SystemStates.{device_for}
use Rattle.daemon_refines.specs.ContextRefinement.{TableRefines}
use Rattle.daemon_refines.specs.Cores.{SessionRefines}
use Rattle.event_world.specs.declared.endpoint.Endpoint.{Endpoint}
use Rattle.event_world.specs.Worlds.{WorldCore}
use Rattle.world_refines.specs.GhostStates.{Ghost}
use Rattle.world_refines.specs.WorldRefinement.{IsNobodys, StrangerStands, WorldRefines, stranger_of}
use Rattle.strangers.specs.LeavingJobs.{IsLeftBy, JobsStand, ghost_with}

-- **stands among (`StandsAmong`)**: all jobs stand, and all strangers. Each session that no endpoint has is by the
-- model that of a client behind all jobs: any session, with up to four devices. A client of such a number without a
-- session holds nothing.
pub record StandsAmong (t : Ghost) (w : WorldCore) : Type 0 where
  pub jobs : JobsStand t w
  pub limits : HasDaemonLimits w.daemon
  pub links : (j : ℕ) (endpoint : Endpoint) (id : SessionId) → slice_get w.endpoints j ≡ Some endpoint
      → endpoint.link ≡ Some id → id.number < w.daemon.opened
  -- a stranger has no job: that wants a place where nothing is listed
  pub nowhere : (n : ℕ) → (device_for t.system (stranger_of w n)).listed ≡ false
  pub strangers : (n : ℕ) → StrangerStands t w n

-- **acts of strangers (`StrangerActs`, `StrangersAct`)**: what the daemon does for a session that is nobody's, any of a
-- server's acts, while no endpoint changes. `StrangersAct`: such acts one after another, each of any stranger.
pub record StrangerActs (n : ℕ) (act : SessionAction) (w v : WorldCore) : Type 0 where
  pub nobodys : IsNobodys w n
  pub acts : ActsOn n w.daemon act v.daemon
  pub rest : v.endpoints ≡ w.endpoints

-- the jobs stand, and all strangers; no other session is touched, nor a device that another holds, and each device is
-- as it was or used by him
pub record ActLeaves (t : Ghost) (w v : WorldCore) (n : ℕ) : Type 0 where
  pub device : ℕ → AbstractDevice
  pub stands : StandsAmong (ghost_with device t) v
  pub slots : (m : ℕ) → m ≢ n → session_slot_of v.daemon.slots m ≡ session_slot_of w.daemon.slots m
  pub held : (k j : ℕ) → j ≢ stranger_of w n → (t.system.device k).holder ≡ Some j → device k ≡ t.system.device k
  pub uses : (k : ℕ) → IsLeftBy (stranger_of w n) k (t.system.make k) (t.system.device k) (device k)

abbrev pub StrangersDoAnything : Type 0
StrangersDoAnything =
    (t : Ghost) (w v : WorldCore) (n : ℕ) (act : SessionAction) → StandsAmong t w
    → StrangerActs n act w v → ActLeaves t w v n

-- ---- any number of acts, the newest last

pub record StrangerAct : Type 0 where
  pub session : ℕ
  pub act : SessionAction

abbrev pub StrangersAct : List StrangerAct → WorldCore → WorldCore → Type 0
StrangersAct [] w v = v ≡ w
StrangersAct (a ∷ acts) w v = (u : WorldCore) × StrangerActs a.session a.act w u × StrangersAct acts u v

-- a device that a job holds stays as it is, whatever they all do
pub record ActsLeave (t : Ghost) (w v : WorldCore) : Type 0 where
  pub device : ℕ → AbstractDevice
  pub stands : StandsAmong (ghost_with device t) v
  pub held : (k j : ℕ) → j < length w.endpoints → (t.system.device k).holder ≡ Some j
      → device k ≡ t.system.device k

abbrev pub StrangersDoAll : Type 0
StrangersDoAll =
    (t : Ghost) (w v : WorldCore) (acts : List StrangerAct) → StandsAmong t w → StrangersAct acts w v → ActsLeave t w v

-- ---- and in any world of jobs and strangers, whatever led there, they may come

-- **may have strangers (`MayHaveStrangers`)**: a world that refines, as each does to which events led, or acts of
-- strangers among them. Its daemon is within its limits. Of numbers that no job has it says only that they want no
-- device.
pub record MayHaveStrangers (t : Ghost) (w : WorldCore) : Type 0 where
  pub refines : WorldRefines t w
  pub limits : HasDaemonLimits w.daemon
  -- what is said of jobs that there are not is said of one that wants no device
  pub nowhere : (i : ℕ) → length w.endpoints ≤ i → (device_for t.system i).listed ≡ false

abbrev pub StrangersMayCome : Type 0
StrangersMayCome = (t : Ghost) (w : WorldCore) → MayHaveStrangers t w → StandsAmong t w
