-- What a server does for a session, one act after another, and what each does to the daemon.
use Rattle.std.specs.Prelude.{◌≡◌, ℕ, ◌≤◌, ◌⊎◌, Bool, true, false, not, ◌&&◌, Option, List, length, take}
use Rattle.saned_core.specs.declared.session_slot.Fed.{Fed}
use Rattle.saned_core.specs.declared.session_slot.Fed.TheVariants.{Standing, Over, Starved}
use Rattle.saned_core.specs.declared.session_slot.DataStep.{DataStep}
use Rattle.saned_core.specs.declared.session_slot.FrameState.{FrameState}
use Rattle.saned_core.specs.declared.session_slot.DataStep.TheVariants.{Idle, Bytes, Last}
use Rattle.saned_core.specs.DaemonStates.{Core, after_open_session, is_closed, after_end_session, session_of}
use Rattle.saned_core.specs.DaemonStates.{replies_of, after_taken, on_session_slot, on_session, frame_in, is_waiting}
use Rattle.saned_core.specs.DaemonStates.{after_connected, after_lost}
use Rattle.saned_core.specs.Feeding.{Feeds}
use Rattle.saned_core.specs.Turns.{Turns}
use Rattle.saned_serve.specs.declared.sockets.Got.{Got}
use Rattle.saned_serve.specs.ConnectionTraces.{ConnectionTrace, stirs}

-- **session action (`SessionAction`, `ActsOn`)**: what is done for one session. It is opened. Its connection is read,
-- and a piece is fed (and a frame that waits began with it or not). The listeners are asked to forget the connections
-- at its port that have ended, and tell so or do not. Replies are taken and written. Its frame is looked up. A data
-- connection does not come or comes. A record is taken and written. Its loss is told, the data connection is handed
-- back, the session is left. Each does to the daemon just what its method's contract says, or nothing.
pub data SessionAction : Type 0 where
  -- a connection came, a data port was opened for it, and a session with that port
  Opens : (port : ℕ) → SessionAction
  -- one read of the control connection, into a buffer of so many bytes
  Hears : (got : Got) (room : ℕ) (bytes : List ℕ) → SessionAction
  -- a piece is fed, this became of the session, and a frame that waits for its data connection
  -- began with it, or none
  Feed : (piece : List ℕ) (fed : Fed) (begins : Bool) → SessionAction
  -- the listeners are asked to forget the connections at that data port that have ended, and their
  -- listener trace tells so, or does not where they forget none
  Forgets : (told : Bool) (port : ℕ) → SessionAction
  -- these replies are taken, into a buffer of so many bytes
  Take : (room : ℕ) (bytes : List ℕ) → SessionAction
  -- one write of these bytes to the control connection
  Says : (got : Got) (bytes : List ℕ) → SessionAction
  -- where its frame is was looked up
  Looks : (frame : FrameState) → SessionAction
  -- no data connection came at that port
  Misses : (port : ℕ) → SessionAction
  -- one came, and the daemon was told
  Connect : (port : ℕ) → SessionAction
  -- a record is taken, into a buffer of so many bytes
  Turn : (room : ℕ) (step : DataStep) (bytes : List ℕ) → SessionAction
  -- one write of these bytes to the data connection
  Shows : (got : Got) (bytes : List ℕ) → SessionAction
  -- the daemon is told that the data connection is lost
  Lose : SessionAction
  -- the data connection is handed back
  HangsUp : (trace : Option ConnectionTrace) → SessionAction
  -- the data port is closed, the session ended, and the control connection handed back
  Leaves : (port : ℕ) (trace : Option ConnectionTrace) → SessionAction

-- how many bytes a turn wrote
abbrev pub written_by : DataStep → ℕ
written_by Idle = 0
written_by (Bytes n) = n
written_by (Last n) = n

-- the end record was written
abbrev pub is_end_record : DataStep → Bool
is_end_record Idle = false
is_end_record (Bytes n) = false
is_end_record (Last n) = true

-- there was no record to be had
abbrev pub is_idle : DataStep → Bool
is_idle Idle = true
is_idle (Bytes n) = false
is_idle (Last n) = false

-- the session is over
abbrev pub ends_session : Fed → Bool
ends_session Standing = false
ends_session Over = true
ends_session Starved = true

-- a place was free, and the session has the number of those that were opened before it
pub record IsOpened (d : Core) (port number : ℕ) (e : Core) : Type 0 where
  pub room : is_closed d ≡ false
  pub numbered : number ≡ d.opened
  pub after : e ≡ after_open_session d port

-- the first of the replies that wait: as many as the buffer has room for, or all
pub record AreRepliesTaken (d : Core) (number room : ℕ) (bytes : List ℕ) (e : Core) : Type 0 where
  pub front : bytes ≡ take (length bytes) (replies_of d number)
  pub most : (length bytes ≡ room) ⊎ (length bytes ≡ length (replies_of d number))
  pub after : e ≡ record d { slots = on_session_slot (after_taken (length bytes)) number d.slots }

-- a frame of a session waits for its connection, and none did before
abbrev pub frame_begins : Core → ℕ → Core → Bool
frame_begins d number e =
    not (is_waiting (frame_in (session_of d number))) && is_waiting (frame_in (session_of e number))

-- a frame waited for its connection
pub record IsConnected (d : Core) (number : ℕ) (e : Core) : Type 0 where
  pub waits : is_waiting (frame_in (session_of d number)) ≡ true
  pub after : e ≡ record d { slots = on_session_slot (on_session after_connected) number d.slots }

-- one record of what the device read, or the end record, stands at the start of a buffer of so
-- many bytes
pub record IsTurned (d : Core) (number room : ℕ) (step : DataStep) (bytes : List ℕ) (e : Core) : Type 0 where
  pub buffer : List ℕ
  pub size : length buffer ≡ room
  pub turns : Turns number d step e buffer
  pub fits : written_by step ≤ length buffer
  pub front : bytes ≡ take (written_by step) buffer

-- what an act for the session of a number does to a daemon
abbrev pub ActsOn : ℕ → Core → SessionAction → Core → Type 0
ActsOn number d (Opens port) e = IsOpened d port number e
ActsOn number d (Hears got room bytes) e = e ≡ d
ActsOn number d (Feed piece fed begins) e = Feeds number d piece fed e × (begins ≡ frame_begins d number e)
ActsOn number d (Forgets told port) e = e ≡ d
ActsOn number d (Take room bytes) e = AreRepliesTaken d number room bytes e
ActsOn number d (Says got bytes) e = e ≡ d
ActsOn number d (Looks frame) e = (frame ≡ frame_in (session_of d number)) × (e ≡ d)
ActsOn number d (Misses port) e = (is_waiting (frame_in (session_of d number)) ≡ true) × (e ≡ d)
ActsOn number d (Connect port) e = IsConnected d number e
ActsOn number d (Turn room step bytes) e = IsTurned d number room step bytes e
ActsOn number d (Shows got bytes) e = e ≡ d
ActsOn number d Lose e = e ≡ record d { slots = on_session_slot (on_session after_lost) number d.slots }
ActsOn number d (HangsUp trace) e = e ≡ d
ActsOn number d (Leaves port trace) e = e ≡ after_end_session d number

-- something moved: a connection came, bytes moved, or a connection was found lost
abbrev pub makes_progress : SessionAction → Bool
makes_progress (Opens port) = true
makes_progress (Hears got room bytes) = stirs got
makes_progress (Feed piece fed begins) = false
makes_progress (Forgets told port) = false
makes_progress (Take room bytes) = false
makes_progress (Says got bytes) = stirs got
makes_progress (Looks frame) = false
makes_progress (Misses port) = false
makes_progress (Connect port) = true
makes_progress (Turn room step bytes) = false
makes_progress (Shows got bytes) = stirs got
makes_progress Lose = false
makes_progress (HangsUp trace) = false
makes_progress (Leaves port trace) = false

-- how many sessions left with it
abbrev pub leaves : SessionAction → ℕ
leaves (Opens port) = 0
leaves (Hears got room bytes) = 0
leaves (Feed piece fed begins) = 0
leaves (Forgets told port) = 0
leaves (Take room bytes) = 0
leaves (Says got bytes) = 0
leaves (Looks frame) = 0
leaves (Misses port) = 0
leaves (Connect port) = 0
leaves (Turn room step bytes) = 0
leaves (Shows got bytes) = 0
leaves Lose = 0
leaves (HangsUp trace) = 0
leaves (Leaves port trace) = 1

-- it opens a session
abbrev pub opens_session : SessionAction → Bool
opens_session (Opens port) = true
opens_session (Hears got room bytes) = false
opens_session (Feed piece fed begins) = false
opens_session (Forgets told port) = false
opens_session (Take room bytes) = false
opens_session (Says got bytes) = false
opens_session (Looks frame) = false
opens_session (Misses port) = false
opens_session (Connect port) = false
opens_session (Turn room step bytes) = false
opens_session (Shows got bytes) = false
opens_session Lose = false
opens_session (HangsUp trace) = false
opens_session (Leaves port trace) = false
