-- What a daemon is to its callers: the table of devices, and the sessions that stand.
use Rattle.std.specs.Prelude.{ℕ, ◌+◌, ◌||◌, ◌==◌, Bool, true, false, if◌then◌else◌, Option, Some, None, option_map}
use Rattle.std.specs.Prelude.{option_and_then, List, [], ◌∷◌, map, drop}
use Rattle.rand_chacha.specs.ChaCha.{ChaCha}
use Rattle.device_api.specs.State.{DeviceState}
use Rattle.md5_auth.specs.declared.users.Entry.{Entry}
use Rattle.dispatch.specs.declared.table.place.Place.{Place}
use Rattle.dispatch.specs.Table.{Table, table}
use Rattle.saned_requests.specs.declared.session.DataPhase.{DataPhase}
use Rattle.saned_requests.specs.declared.session.DataPhase.TheVariants.{Quiet, Waiting, Streaming, Ending}
use Rattle.saned_core.specs.declared.session_slot.FrameState.{FrameState}
use Rattle.saned_core.specs.declared.session_slot.FrameState.TheVariants as frames
use Rattle.saned_requests.specs.declared.session.Session.{Session}
use Rattle.saned_requests.specs.declared.session.StringSize.{StringSize}
use Rattle.saned_core.specs.declared.session_slot.SessionSlot.{SessionSlot}
use Rattle.saned_requests.specs.Holding.{seen_session, with_cancelled, given_back, fresh_session}

-- **daemon (`DaemonState`, `core`)**: eight slots, the table, the users, whence the next challenge comes, and how many
-- sessions were opened; `core` sees each device as its state.
--
-- A daemon whose devices are seen as S.
pub record DaemonState (S : Type 0) : Type 0 where
  -- the places of sessions
  pub slots : List (Option (SessionSlot S))
  pub registry : List (Place S)
  pub users : List Entry
  -- how string values are sent
  pub strings : StringSize
  -- whence the next challenge comes
  pub stream : ChaCha
  -- how many sessions were opened
  pub opened : ℕ

-- ---- with each device seen as its state

abbrev pub seen_session_slot : {D S : Type 0} → (D → S) → SessionSlot D → SessionSlot S
seen_session_slot f s =
    record { number = s.number; input = s.input; replies = s.replies; session = option_map (seen_session f) s.session }

abbrev pub seen_session_slots : {D S : Type 0} → (D → S) → List (Option (SessionSlot D)) → List (Option (SessionSlot S))
seen_session_slots f slots = map (option_map (seen_session_slot f)) slots

abbrev pub core : {D S : Type 0} → (D → S) → DaemonState D → DaemonState S
core f d =
    record {
      slots = seen_session_slots f d.slots;
      registry = table f d.registry;
      users = d.users;
      strings =
          d.strings;
      stream = d.stream;
      opened = d.opened;
    }

abbrev pub Core : Type 0
Core = DaemonState DeviceState

-- ---- a session among those that stand

abbrev pub is_slot_number : {S : Type 0} → ℕ → Option (SessionSlot S) → Bool
is_slot_number n None = false
is_slot_number n (Some slot) = slot.number == n

-- **slot (`SessionSlot`, `session_slot_of`, `on_session_slot`)**: a session's number, what came and was not answered,
-- the bytes of replies that wait, and the session while it goes on. A slot stands as long as its session goes on or
-- replies wait.
unfoldable pub session_slot_of : {S : Type 0} → List (Option (SessionSlot S)) → ℕ → Option (SessionSlot S)
session_slot_of [] n = None
session_slot_of (slot ∷ slots) n = if is_slot_number n slot then slot else session_slot_of slots n

-- the session of that number, where it goes on
abbrev pub session_in : {S : Type 0} → Option (SessionSlot S) → Option (Session S)
session_in None = None
session_in (Some slot) = slot.session

abbrev pub session_of : {S : Type 0} → DaemonState S → ℕ → Option (Session S)
session_of d n = session_in (session_slot_of d.slots n)

-- something else, or nothing, in place of the slot of that number
unfoldable pub on_session_slot : {S : Type 0} → (SessionSlot S → Option (SessionSlot S)) → ℕ
    → List (Option (SessionSlot S)) → List (Option (SessionSlot S))
on_session_slot f n [] = []
on_session_slot f n (slot ∷ slots) =
    if is_slot_number n slot then option_and_then f slot ∷ slots else slot ∷ on_session_slot f n slots

-- a session in the first place that is free
abbrev pub all_slots_taken : {S : Type 0} → List (Option (SessionSlot S)) → Bool
all_slots_taken [] = true
all_slots_taken (None ∷ slots) = false
all_slots_taken (Some slot ∷ slots) = all_slots_taken slots

unfoldable pub with_session_slot : {S : Type 0} → List (Option (SessionSlot S)) → SessionSlot S
    → List (Option (SessionSlot S))
with_session_slot [] new = []
with_session_slot (None ∷ slots) new = Some new ∷ slots
with_session_slot (Some slot ∷ slots) new = Some slot ∷ with_session_slot slots new

abbrev pub on_session : {S : Type 0} → (Session S → Session S) → SessionSlot S → Option (SessionSlot S)
on_session f slot = Some (record slot { session = option_map f slot.session })

abbrev pub with_session : {S : Type 0} → Session S → SessionSlot S → Option (SessionSlot S)
with_session session slot = Some (record slot { session = Some session })

-- a slot stands as long as its session goes on or replies wait
abbrev pub slot_if_open : {S : Type 0} → Option (Session S) → List ℕ → SessionSlot S → Option (SessionSlot S)
slot_if_open (Some session) replies slot = Some slot
slot_if_open None [] slot = None
slot_if_open None (byte ∷ bytes) slot = Some slot

abbrev pub kept_if_open : {S : Type 0} → SessionSlot S → Option (SessionSlot S)
kept_if_open slot = slot_if_open slot.session slot.replies slot

-- what waits to be taken
abbrev pub replies_in : {S : Type 0} → Option (SessionSlot S) → List ℕ
replies_in None = []
replies_in (Some slot) = slot.replies

abbrev pub replies_of : {S : Type 0} → DaemonState S → ℕ → List ℕ
replies_of d n = replies_in (session_slot_of d.slots n)

abbrev pub after_reply_bytes : {S : Type 0} → ℕ → SessionSlot S → SessionSlot S
after_reply_bytes count slot = record slot { replies = drop count slot.replies }

abbrev pub after_taken : {S : Type 0} → ℕ → SessionSlot S → Option (SessionSlot S)
after_taken count slot = kept_if_open (after_reply_bytes count slot)

abbrev pub new_session_slot : StringSize → ℕ → ℕ → SessionSlot DeviceState
new_session_slot strings number port =
    record {
      number = number;
      input = record { rest = []; fault = None };
      replies = [];
      session =
          Some (fresh_session strings port);
    }

abbrev pub session_let_go : Table → Option (Session DeviceState) → Table
session_let_go t None = t
session_let_go t (Some s) = given_back t s.held

-- eight sessions stand, or no number is left
abbrev pub is_closed : Core → Bool
is_closed d = (d.opened == 18446744073709551615) || all_slots_taken d.slots

-- another session stands
abbrev pub after_open_session : Core → ℕ → Core
after_open_session d port =
    record d { slots = with_session_slot d.slots (new_session_slot d.strings d.opened port); opened = d.opened + 1 }

-- a session that ends: nothing of it stands, and its leases are given back
abbrev pub no_more : {S : Type 0} → SessionSlot S → Option (SessionSlot S)
no_more slot = None

abbrev pub after_end_session : Core → ℕ → Core
after_end_session d n =
    record d { slots = on_session_slot no_more n d.slots; registry = session_let_go d.registry (session_of d n) }

-- ---- frames

abbrev pub frame_state_of : DataPhase → FrameState
frame_state_of Quiet = frames.Quiet
frame_state_of (Waiting word) = frames.Waiting
frame_state_of (Streaming word) = frames.Streaming
frame_state_of Ending = frames.Ending

abbrev pub frame_in : {S : Type 0} → Option (Session S) → FrameState
frame_in None = frames.Quiet
frame_in (Some s) = frame_state_of s.transfer

abbrev pub is_waiting : FrameState → Bool
is_waiting frames.Quiet = false
is_waiting frames.Waiting = true
is_waiting frames.Streaming = false
is_waiting frames.Ending = false

abbrev pub data_phase_connected : DataPhase → DataPhase
data_phase_connected Quiet = Quiet
data_phase_connected (Waiting word) = Streaming word
data_phase_connected (Streaming word) = Streaming word
data_phase_connected Ending = Ending

abbrev pub after_connected : {S : Type 0} → Session S → Session S
after_connected s = record s { transfer = data_phase_connected s.transfer }

-- the data connection is lost: what streams ends, and its device is cancelled
abbrev pub lost_from : DataPhase → Session DeviceState → Session DeviceState
lost_from Quiet s = s
lost_from (Waiting word) s = s
lost_from (Streaming word) s = record s { held = with_cancelled s.held word; transfer = Quiet }
lost_from Ending s = record s { transfer = Quiet }

abbrev pub after_lost : Session DeviceState → Session DeviceState
after_lost s = lost_from s.transfer s
