-- Two daemons that are the same but for replies in flight: those that the one has given out wait in the other still.
use Rattle.std.specs.Prelude.{ℕ, ◌≡◌, if◌then◌else◌, ◌==◌, false, Option, Some, List, [], ◌++◌, length, take}
use Rattle.device_api.specs.State.{DeviceState}
use Rattle.saned_requests.specs.declared.session.Session.{Session}
use Rattle.saned_core.specs.declared.session_slot.DataStep.{DataStep}
use Rattle.saned_core.specs.declared.session_slot.Fed.{Fed}
use Rattle.saned_core.specs.declared.session_slot.Fed.TheVariants.{Standing, Over, Starved}
use Rattle.saned_core.specs.declared.session_slot.SessionSlot.{SessionSlot}
use Rattle.saned_core.specs.DaemonLimits.{HasDaemonLimits}
use Rattle.saned_core.specs.DaemonStates.{Core, after_connected, after_end_session, after_lost, after_open_session}
use Rattle.saned_core.specs.DaemonStates.{after_taken, frame_in, is_closed, on_session, on_session_slot, replies_in}
use Rattle.saned_core.specs.DaemonStates.{replies_of, session_in, session_of, session_slot_of}
use Rattle.saned_core.specs.Feeding.{Feeds, input_in}
use Rattle.saned_core.specs.Turns.{Turns}

-- a session in the one and in the other, where these bytes of its replies are in flight
pub record SlotDiffersInFlight (undelivered : List ℕ) (x y : Option (SessionSlot DeviceState)) : Type 0 where
  pub session : session_in y ≡ session_in x
  -- of one that goes on, what came of a request that is not whole yet
  pub input : (s : Session DeviceState) → session_in x ≡ Some s → input_in y ≡ input_in x
  pub replies : replies_in y ≡ undelivered ++ replies_in x

-- **differs in flight (`DiffersInFlight`, `SlotDiffersInFlight`)**: both daemons have the same table, users, string
-- form, challenges, count of sessions, sessions, and bytes of next requests. The other daemon's replies are the bytes
-- in flight and, behind them, those of the one. Both are within a daemon's limits.
--
-- the bytes in flight, by the number of their session
pub record DiffersInFlight (undelivered : ℕ → List ℕ) (d e : Core) : Type 0 where
  pub registry : e.registry ≡ d.registry
  pub users : e.users ≡ d.users
  pub strings : e.strings ≡ d.strings
  pub stream : e.stream ≡ d.stream
  pub opened : e.opened ≡ d.opened
  pub sessions : (n : ℕ) → SlotDiffersInFlight (undelivered n) (session_slot_of d.slots n) (session_slot_of e.slots n)
  pub limits : HasDaemonLimits d
  pub limits_there : HasDaemonLimits e

-- **undelivered (`undelivered_with`, `undelivered_after_feed`)**: the bytes in flight where one session's are others;
-- what is left of a session's where a piece was fed to it: all, or none where memory ran out.
abbrev pub undelivered_with : ℕ → List ℕ → (ℕ → List ℕ) → ℕ → List ℕ
undelivered_with n bytes undelivered m = if m == n then bytes else undelivered m

-- out of memory drops the replies that wait
abbrev pub undelivered_after_feed : Fed → List ℕ → List ℕ
undelivered_after_feed Standing undelivered = undelivered
undelivered_after_feed Over undelivered = undelivered
undelivered_after_feed Starved undelivered = []

-- **can follow (`CanFollow`)**: the other daemon can do this call as well, and then differs by these bytes.
pub record CanFollow (undelivered : ℕ → List ℕ) (d_new : Core) (Call : Core → Type 0) : Type 0 where
  pub e_new : Core
  pub call : Call e_new
  pub differs : DiffersInFlight undelivered d_new e_new

-- ---- at first

abbrev pub NothingIsInFlight : Type 0
NothingIsInFlight = (d : Core) → HasDaemonLimits d → DiffersInFlight (λ n. []) d d

-- ---- replies on their way

-- replies that the one gives out wait in the other still
abbrev pub TakesAreUnseen : Type 0
TakesAreUnseen =
    (undelivered : ℕ → List ℕ) (d e : Core) (n : ℕ) (bytes : List ℕ) → DiffersInFlight undelivered d e
    → bytes ≡ take (length bytes) (replies_of d n)
    → DiffersInFlight
    (undelivered_with n (undelivered n ++ bytes) undelivered)
    (record d { slots = on_session_slot (after_taken (length bytes)) n d.slots }) e

-- they come first of what the other gives out, and the one does not see it
abbrev pub DeliveriesAreUnseen : Type 0
DeliveriesAreUnseen =
    (undelivered : ℕ → List ℕ) (d e : Core) (n : ℕ) (piece rest : List ℕ) → DiffersInFlight undelivered d e
    → undelivered n ≡ piece ++ rest
    → (take (length piece) (replies_of e n) ≡ piece)
    × DiffersInFlight (undelivered_with n rest undelivered) d
    (record e { slots = on_session_slot (after_taken (length piece)) n e.slots })

-- ---- every other call

-- a place must be free in both: the other may keep a session that is over for the sake of its replies
abbrev pub OpensAreAlike : Type 0
OpensAreAlike =
    (undelivered : ℕ → List ℕ) (d e : Core) (port : ℕ) → DiffersInFlight undelivered d e → is_closed d ≡ false
    → is_closed e ≡ false
    → DiffersInFlight undelivered (after_open_session d port) (after_open_session e port)

abbrev pub FeedsAreAlike : Type 0
FeedsAreAlike =
    (undelivered : ℕ → List ℕ) (d e d_new : Core) (n : ℕ) (piece : List ℕ) (fed : Fed) → DiffersInFlight undelivered d e
    → Feeds n d piece fed d_new
    → CanFollow (undelivered_with n (undelivered_after_feed fed (undelivered n)) undelivered) d_new (λ e_new.
    Feeds n e piece fed e_new)

abbrev pub FramesAreAlike : Type 0
FramesAreAlike = (undelivered : ℕ → List ℕ) (d e : Core) (n : ℕ) → DiffersInFlight undelivered d e
    → frame_in (session_of e n) ≡ frame_in (session_of d n)

abbrev pub DataConnectionsAreAlike : Type 0
DataConnectionsAreAlike =
    (undelivered : ℕ → List ℕ) (d e : Core) (n : ℕ) → DiffersInFlight undelivered d e
    → DiffersInFlight undelivered (record d { slots = on_session_slot (on_session after_connected) n d.slots })
    (record e { slots = on_session_slot (on_session after_connected) n e.slots })

abbrev pub DataLossesAreAlike : Type 0
DataLossesAreAlike =
    (undelivered : ℕ → List ℕ) (d e : Core) (n : ℕ) → DiffersInFlight undelivered d e
    → DiffersInFlight undelivered (record d { slots = on_session_slot (on_session after_lost) n d.slots })
    (record e { slots = on_session_slot (on_session after_lost) n e.slots })

abbrev pub TurnsAreAlike : Type 0
TurnsAreAlike =
    (undelivered : ℕ → List ℕ) (d e d_new : Core) (n : ℕ) (step : DataStep) (buf : List ℕ)
    → DiffersInFlight undelivered d e → Turns n d step d_new buf
    → CanFollow undelivered d_new (λ e_new. Turns n e step e_new buf)

-- nothing of a session that was ended is in flight
abbrev pub EndsAreAlike : Type 0
EndsAreAlike =
    (undelivered : ℕ → List ℕ) (d e : Core) (n : ℕ) → DiffersInFlight undelivered d e
    → DiffersInFlight (undelivered_with n [] undelivered) (after_end_session d n) (after_end_session e n)
