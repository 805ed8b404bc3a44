-- What private functions promise: of a piece of bytes, case by case of what becomes of its session; of places, leases
-- and reads of a device.
use Rattle.std.specs.Prelude.{◌<◌, ◌≡◌, Bool, true, false, Option, Some, None, List, length, slice_index_or, Result}
use Rattle.std.specs.Prelude.{option_and_then, ℕ, option_map, [], ◌++◌}
use Rattle.saned_core.specs.declared.session_slot.SessionSlot.{SessionSlot}
use Rattle.saned_core.specs.DaemonStates.{is_slot_number, session_in, with_session, seen_session_slot}
use Rattle.saned_core.specs.DaemonStates.{seen_session_slots}
use Rattle.saned_core.specs.DaemonStates.{session_slot_of, on_session_slot, kept_if_open}
use Rattle.sane_fixed.specs.declared.status.Status.{Status}
use Rattle.device_api.specs.State.{DeviceState, Reads}
use Rattle.dispatch.specs.declared.table.place.Lease.{Lease}
use Rattle.saned_core.specs.declared.session_slot.DataStep.{DataStep}
use Rattle.saned_core.specs.declared.session_slot.DataStep.TheVariants.{Idle}
use Rattle.saned_requests.specs.declared.session.Session.{Session}
use Rattle.saned_requests.specs.Holding.{held_by, on_word, with_device}
use Rattle.saned_core.specs.Turns.{TurnsStream}
use Rattle.rand_chacha.specs.ChaCha.{ChaCha}
use Rattle.md5_auth.specs.declared.users.Entry.{Entry}
use Rattle.dispatch.specs.declared.table.place.Place.{Place}
use Rattle.dispatch.specs.Table.{Table, table}
use Rattle.wire_message.specs.declared.message.Reply.{Reply}
use Rattle.saned_requests.specs.declared.request_answer.RequestAnswer.{RequestAnswer}
use Rattle.saned_core.specs.declared.session_slot.Fed.{Fed}
use Rattle.saned_core.specs.declared.session_slot.Fed.TheVariants.{Standing, Over, Starved}
use Rattle.saned_requests.specs.RequestAnswers.{RequestContext}
use Rattle.saned_core.specs.Feeding.{Says, SaysAll, EndsWith, session_goes_on, replies_to, FedPiece, FeedProgress}
use Rattle.saned_core.specs.Feeding.{AnsweredSoFar, FeedsOn, FeedsOver, FeedOutOfMemory, input_in, no_input}
use Rattle.saned_core.specs.Feeding.{table_let_go}

-- its bytes stand behind those that wait
pub record IsSaid (reply : Reply) (before after : List ℕ) : Type 0 where
  pub text : List ℕ
  pub says : Says reply text
  pub after_is : after ≡ before ++ text

-- the replies that are said, by what becomes of the session; no word on them where memory ran out
pub record SaysAs (said : RequestAnswer) (before : List ℕ) (fed : Fed) (after : List ℕ) : Type 0 where
  pub told : List Reply
  pub text : List ℕ
  pub says : SaysAll told text
  pub after_is : after ≡ before ++ text
  pub whole : fed ≡ Standing → (session_goes_on said ≡ true) × (told ≡ replies_to said)
  pub ends : fed ≡ Over → EndsWith said told

abbrev pub SaidAs : RequestAnswer → List ℕ → Fed → List ℕ → Type 0
SaidAs said before Standing after = SaysAs said before Standing after
SaidAs said before Over after = SaysAs said before Over after
SaidAs said before Starved after = Unit {0}

-- the same, and the bytes of the replies behind those that wait
pub record GoesSoFar (was : FedPiece) (before : List ℕ) (now : FeedProgress) : Type 0 where
  pub text : List ℕ
  pub after_is : now.text ≡ before ++ text
  pub progress : AnsweredSoFar was (record now { text = text })

-- by what becomes of the session
abbrev pub FeedsContext : Fed → FedPiece → FeedProgress → Type 0
FeedsContext Standing was now = FeedsOn was now
FeedsContext Over was now = FeedsOver was now.context now.text
FeedsContext Starved was now = FeedOutOfMemory was now.context

-- the bytes stand behind the replies that wait, which are dropped where memory ran out
abbrev pub IsBehind : Fed → List ℕ → List ℕ → List ℕ → Type 0
IsBehind Standing before text after = after ≡ before ++ text
IsBehind Over before text after = after ≡ before ++ text
IsBehind Starved before text after = Unit {0}

pub record FeedsReplies (fed : Fed) (was : FedPiece) (before : List ℕ) (now : FeedProgress) : Type 0 where
  pub text : List ℕ
  pub after_is : IsBehind fed before text now.text
  pub feeds : FeedsContext fed was (record now { text = text })

-- ---- of a daemon

-- the slot of a session that was fed: one that is over keeps its replies, and none where memory ran out
abbrev pub slot_after_feed : {S : Type 0} → Fed → Session S → List ℕ → List ℕ → SessionSlot S → SessionSlot S
slot_after_feed Standing session rest text slot =
    record slot { input = record { rest = rest; fault = None }; replies = slot.replies ++ text; session = Some session }
slot_after_feed Over session rest text slot =
    record slot { input = no_input; replies = slot.replies ++ text; session = None }
slot_after_feed Starved session rest text slot = record slot { input = no_input; replies = []; session = None }

abbrev pub slot_or_none_after_feed : Fed → RequestContext → List ℕ → List ℕ → SessionSlot DeviceState
    → Option (SessionSlot DeviceState)
slot_or_none_after_feed fed d rest text slot = kept_if_open (slot_after_feed fed d.session rest text slot)

abbrev pub registry_after : Fed → RequestContext → Table
registry_after Standing d = d.registry
registry_after Over d = table_let_go d
registry_after Starved d = table_let_go d

-- a place among the slots, with what all sessions share
pub record PlaceState : Type 0 where
  pub slot : Option (SessionSlot DeviceState)
  pub registry : Table
  pub stream : ChaCha

abbrev pub place_state : {D : Type 0} → (D → DeviceState) → Option (SessionSlot D) → List (Place D) → ChaCha
    → PlaceState
place_state f slot registry stream =
    record { slot = option_map (seen_session_slot f) slot; registry = table f registry; stream = stream }

-- what a piece does to the session of a place, and to what it shares with others
pub record FeedsPlace (users : List Entry) (was : PlaceState) (piece : List ℕ) (fed : Fed)
    (now : PlaceState) : Type 0 where
  pub session : Session DeviceState
  pub stood : session_in was.slot ≡ Some session
  pub context : RequestContext
  pub rest : List ℕ
  pub text : List ℕ
  pub feeds
      : FeedsContext fed
      (record {
        users = users;
        context =
            record { session = session; registry = was.registry; stream = was.stream };
        before = input_in was.slot;
        piece =
            piece;
      }) (record { context = context; rest = rest; text = text })
  pub slot : now.slot ≡ option_map (slot_after_feed fed context.session rest text) was.slot
  pub registry : now.registry ≡ registry_after fed context
  pub stream : now.stream ≡ context.stream

-- the session of a number that goes on: what becomes of its slot, and nothing of any other
pub record FeedsIn (s : Session DeviceState) (users : List Entry) (n : ℕ) (input : List ℕ)
    (slots : List (Option (SessionSlot DeviceState))) (registry : Table) (stream : ChaCha) (piece : List ℕ) (fed : Fed)
    (slots_new : List (Option (SessionSlot DeviceState))) (registry_new : Table) (stream_new : ChaCha) : Type 0 where
  pub context : RequestContext
  pub rest : List ℕ
  pub text : List ℕ
  pub feeds
      : FeedsContext fed
      (record {
        users = users;
        context = record { session = s; registry = registry; stream = stream };
        before =
            input;
        piece = piece;
      }) (record { context = context; rest = rest; text = text })
  pub slots_is : slots_new ≡ on_session_slot (slot_or_none_after_feed fed context rest text) n slots
  pub registry_is : registry_new ≡ registry_after fed context
  pub stream_is : stream_new ≡ context.stream

-- one that is over, or was never opened, does nothing
abbrev pub FeedsIf : Option (Session DeviceState) → List Entry → ℕ → List ℕ → List (Option (SessionSlot DeviceState))
    → Table → ChaCha → List ℕ → Fed → List (Option (SessionSlot DeviceState)) → Table → ChaCha → Type 0
FeedsIf None users n input slots registry stream piece fed slots_new registry_new stream_new =
    (fed ≡ Over) × (slots_new ≡ slots) × (registry_new ≡ registry) × (stream_new ≡ stream)
FeedsIf (Some s) users n input slots registry stream piece fed slots_new registry_new stream_new =
    FeedsIn s users n input slots registry stream piece fed slots_new registry_new stream_new

-- the slots, and what their sessions share
pub record SlotsState : Type 0 where
  pub users : List Entry
  pub slots : List (Option (SessionSlot DeviceState))
  pub registry : Table
  pub stream : ChaCha

abbrev pub slots_state : {D : Type 0} → (D → DeviceState) → List Entry → List (Option (SessionSlot D)) → List (Place D)
    → ChaCha → SlotsState
slots_state f users slots registry stream =
    record { users = users; slots = seen_session_slots f slots; registry = table f registry; stream = stream }

abbrev pub FeedsAmong : ℕ → SlotsState → List ℕ → Fed → SlotsState → Type 0
FeedsAmong n was piece fed now =
    FeedsIf (session_in (session_slot_of was.slots n)) was.users n (input_in (session_slot_of was.slots n)) was.slots
    was.registry was.stream piece fed now.slots now.registry now.stream

-- ---- of a place among the slots

-- the first slot of that number, and that there is none
pub record IsFirstSlot {S : Type 0} (n : ℕ) (slots : List (Option (SessionSlot S))) (k : ℕ) : Type 0 where
  pub within : k < length slots
  pub is : (d : Option (SessionSlot S)) → is_slot_number n (slice_index_or slots k d) ≡ true
  pub before : (j : ℕ) (d : Option (SessionSlot S)) → j < k → is_slot_number n (slice_index_or slots j d) ≡ false

abbrev pub IsMissing : {S : Type 0} → ℕ → List (Option (SessionSlot S)) → Type 0
IsMissing {S = S} n slots = (k : ℕ) (d : Option (SessionSlot S)) → k < length slots
    → is_slot_number n (slice_index_or slots k d) ≡ false

-- no session has the place
abbrev pub is_vacant : {S : Type 0} → Option (SessionSlot S) → Bool
is_vacant None = true
is_vacant (Some slot) = false

-- ---- of the first of a list that is so

-- it stands at place k, and that there is none
pub record IsFirstOf {A : Type 0} (p : A → Bool) (xs : List A) (k : ℕ) : Type 0 where
  pub within : k < length xs
  pub is : (d : A) → p (slice_index_or xs k d) ≡ true
  pub before : (j : ℕ) (d : A) → j < k → p (slice_index_or xs j d) ≡ false

abbrev pub IsNoneOf : {A : Type 0} → (A → Bool) → List A → Type 0
IsNoneOf {A = A} p xs = (k : ℕ) (d : A) → k < length xs → p (slice_index_or xs k d) ≡ false

-- ---- of a read of a device, and of a slot's turn

-- one read of a device, where there is one
pub record ReadsDevice (lease : Lease DeviceState) (told : Option (Result ℕ Status)) (new : Option (Lease DeviceState))
    (window : List ℕ) : Type 0 where
  pub answer : Result ℕ Status
  pub after : DeviceState
  pub told_is : told ≡ Some answer
  pub reads : Reads lease.device answer after window
  pub new_is : new ≡ with_device lease after

abbrev pub ReadsLease : Option (Lease DeviceState) → Option (Result ℕ Status) → Option (Lease DeviceState) → List ℕ
    → Type 0
ReadsLease None told new window = (told ≡ None) × (new ≡ None)
ReadsLease (Some lease) told new window = ReadsDevice lease told new window

-- one read of the device that a word stands for
pub record ReadsWord (held : List (Option (Lease DeviceState))) (word : ℕ) (told : Option (Result ℕ Status))
    (new : List (Option (Lease DeviceState))) (window : List ℕ) : Type 0 where
  pub lease : Option (Lease DeviceState)
  pub reads : ReadsLease (held_by held word) told lease window
  pub new_is : new ≡ on_word (λ _. lease) held word

-- a turn of a slot's data connection; one whose session is over does nothing
abbrev pub TurnsSession : Option (Session DeviceState) → Option (SessionSlot DeviceState) → DataStep
    → Option (SessionSlot DeviceState) → List ℕ → Type 0
TurnsSession None old step new buf = (step ≡ Idle) × (new ≡ old)
TurnsSession (Some s) old step new buf = (t : Session DeviceState) × TurnsStream s step t buf
    × (new ≡ option_and_then (with_session t) old)

abbrev pub TurnsSlot : Option (SessionSlot DeviceState) → DataStep → Option (SessionSlot DeviceState) → List ℕ → Type 0
TurnsSlot old step new buf = TurnsSession (session_in old) old step new buf
