-- What a piece of bytes does to a session.
use Rattle.std.specs.Prelude.{ℕ, ◌≡◌, ◌≢◌, ◌≤◌, ◌⊎◌, Bool, true, false, Option, Some, None, List, [], ◌∷◌, ◌++◌, map}
use Rattle.std.specs.Prelude.{length}
use Rattle.md5_auth.specs.declared.users.Entry.{Entry}
use Rattle.device_api.specs.State.{DeviceState}
use Rattle.dispatch.specs.Table.{Table}
use Rattle.wire_format.specs.Lawful.{SpellsFront}
use Rattle.wire_format.specs.Limit.{limited_format, NeedsMore, IsNoStart}
use Rattle.wire_message.specs.Message.{message_limit, request as request_format, reply as reply_format}
use Rattle.wire_codec.specs.Decoders.{AreSpelled, DecoderState}
use Rattle.wire_codec.specs.Decoders.TakenMessage.{TakenRequest}
use Rattle.wire_writing.specs.WireLimits.{PassesLimit, reply_passes}
use Rattle.wire_writing.specs.ReplyWriting.{write_reply, replied_procedure}
use Rattle.wire_message.specs.declared.message.Request.{Request}
use Rattle.wire_message.specs.declared.message.Reply.{Reply}
use Rattle.saned_requests.specs.declared.request_answer.RequestAnswer.{RequestAnswer}
use Rattle.saned_requests.specs.declared.request_answer.RequestAnswer.TheVariants.{One, Two, Last}
use Rattle.saned_core.specs.declared.session_slot.Fed.{Fed}
use Rattle.saned_core.specs.declared.session_slot.Fed.TheVariants.{Standing, Over, Starved}
use Rattle.saned_requests.specs.declared.session.Session.{Session}
use Rattle.saned_core.specs.declared.session_slot.SessionSlot.{SessionSlot}
use Rattle.saned_requests.specs.Holding.{given_back}
use Rattle.saned_core.specs.DaemonStates.{Core, session_slot_of, session_of, on_session_slot, kept_if_open, no_more}
use Rattle.saned_requests.specs.RequestAnswers.{RequestContext, Answers, RequestOutOfMemory}

-- ---- replies as bytes

abbrev pub Says : Reply → List ℕ → Type 0
Says reply text = (write_reply.text reply ≡ Some text) × (length text ≤ message_limit)

abbrev pub SaysAll : List Reply → List ℕ → Type 0
SaysAll [] text = text ≡ []
SaysAll (reply ∷ replies) text = (front : List ℕ) × (back : List ℕ) × (text ≡ front ++ back) × Says reply front
    × SaysAll replies back

-- **unsaid (`IsUnsaid`)**: a reply that passes a limit of the wire, or that nothing spells.
abbrev pub IsUnsaid : Reply → Type 0
IsUnsaid reply = PassesLimit (reply_passes reply) (write_reply.text reply)
    ⊎ ((text : List ℕ) → (reply_format (replied_procedure reply)).spells text reply → ⊥)

-- ---- requests one after another

abbrev pub session_goes_on : RequestAnswer → Bool
session_goes_on (One reply) = true
session_goes_on (Two first second) = true
session_goes_on (Last reply) = false

abbrev pub optional_reply_list : Option Reply → List Reply
optional_reply_list None = []
optional_reply_list (Some reply) = reply ∷ []

abbrev pub replies_to : RequestAnswer → List Reply
replies_to (One reply) = reply ∷ []
replies_to (Two first second) = first ∷ second ∷ []
replies_to (Last reply) = optional_reply_list reply

-- what is said ends the session: it is the last, or a reply of it is not said
pub data EndsWith (said : RequestAnswer) (told : List Reply) : Type 0 where
  Done : session_goes_on said ≡ false → told ≡ replies_to said → EndsWith said told
  Cut : (before after : List Reply) (reply : Reply) → replies_to said ≡ before ++ reply ∷ after → IsUnsaid reply
      → told ≡ before → EndsWith said told

-- these requests are answered, and the session goes on behind each of them
abbrev pub AnswersAll : List Entry → RequestContext → List Request → List Reply → RequestContext → Type 0
AnswersAll users d [] told new = (told ≡ []) × (new ≡ d)
AnswersAll users d (q ∷ qs) told new = (said : RequestAnswer) × (mid : RequestContext) × (more : List Reply)
    × Answers users d q said mid × (session_goes_on said ≡ true) × AnswersAll users mid qs more new
    × (told ≡ replies_to said ++ more)

-- the requests that are whole with this piece, behind what had come, and what is left behind them
pub record DecodesRequests (old piece : List ℕ) (requests : List Request) (rest : List ℕ) : Type 0 where
  pub text : List ℕ
  pub whole : old ++ piece ≡ text ++ rest
  pub spelled : AreSpelled (map (λ q. TakenRequest q) requests) text

-- why a session is over: no spelling stands in the rest, or the request in front of it ended it
pub data FeedEndsSession (users : List Entry) (d : RequestContext) (rest : List ℕ) (told : List Reply)
    (new : RequestContext) : Type 0 where
  Garbled : IsNoStart message_limit request_format rest → told ≡ [] → new ≡ d → FeedEndsSession users d rest told new
  Ended : (left : List ℕ) (q : Request) (said : RequestAnswer)
      → SpellsFront (limited_format message_limit request_format) rest left q → Answers users d q said new
      → EndsWith said told → FeedEndsSession users d rest told new

-- a piece that comes to a session: the users, the session with what it shares, what had come before of a request, and
-- the piece
pub record FedPiece : Type 0 where
  pub users : List Entry
  pub context : RequestContext
  pub before : List ℕ
  pub piece : List ℕ

-- how far it is answered: the session, what is left of the bytes, and those of the replies
pub record FeedProgress : Type 0 where
  pub context : RequestContext
  pub rest : List ℕ
  pub text : List ℕ

-- requests of the piece that were answered, each of which the session went on behind, and the bytes of the replies
pub record AnsweredSoFar (was : FedPiece) (now : FeedProgress) : Type 0 where
  pub requests : List Request
  pub told : List Reply
  pub reads : DecodesRequests was.before was.piece requests now.rest
  pub answers : AnswersAll was.users was.context requests told now.context
  pub says : SaysAll told now.text

-- what is left begins a request
pub record FeedsOn (was : FedPiece) (now : FeedProgress) : Type 0 where
  pub so_far : AnsweredSoFar was now
  pub wants : NeedsMore message_limit request_format now.rest

-- the session is over
pub record FeedsOver (was : FedPiece) (new : RequestContext) (text : List ℕ) : Type 0 where
  pub rest : List ℕ
  pub mid : RequestContext
  pub front : List ℕ
  pub back : List ℕ
  pub last : List Reply
  pub so_far : AnsweredSoFar was (record { context = mid; rest = rest; text = front })
  pub closes : FeedEndsSession was.users mid rest last new
  pub says : SaysAll last back
  pub text_is : text ≡ front ++ back

-- the request in front of the rest is under way
pub record OutOfMemoryNext (users : List Entry) (d : RequestContext) (rest : List ℕ)
    (new : RequestContext) : Type 0 where
  pub left : List ℕ
  pub request : Request
  pub takes : SpellsFront (limited_format message_limit request_format) rest left request
  pub out_of_memory : RequestOutOfMemory users d request new

-- where memory ran out some requests were answered, and the next one may be under way
pub record FeedOutOfMemory (was : FedPiece) (new : RequestContext) : Type 0 where
  pub rest : List ℕ
  pub mid : RequestContext
  pub text : List ℕ
  pub so_far : AnsweredSoFar was (record { context = mid; rest = rest; text = text })
  pub out_of_memory : (new ≡ mid) ⊎ OutOfMemoryNext was.users mid rest new

-- ---- of a daemon

abbrev pub HasNoSession : Core → ℕ → Type 0
HasNoSession d n = session_of d n ≡ None

-- a session with what it shares with the others
abbrev pub core_context : Core → Session DeviceState → RequestContext
core_context d session = record { session = session; registry = d.registry; stream = d.stream }

-- what came to a session and is not answered yet
abbrev pub input_in : Option (SessionSlot DeviceState) → List ℕ
input_in None = []
input_in (Some slot) = slot.input.rest

abbrev pub input_of : Core → ℕ → List ℕ
input_of d n = input_in (session_slot_of d.slots n)

abbrev pub no_input : DecoderState
no_input = record { rest = []; fault = None }

-- all that the session held is given back
abbrev pub table_let_go : RequestContext → Table
table_let_go d = given_back d.registry d.session.held

-- a piece for the session of a number
abbrev pub fed_piece : Core → ℕ → Session DeviceState → List ℕ → FedPiece
fed_piece d n session piece =
    record { users = d.users; context = core_context d session; before = input_of d n; piece = piece }

-- the slot of a session that goes on, with these replies behind those that wait
abbrev pub answered_slot : FeedProgress → SessionSlot DeviceState → Option (SessionSlot DeviceState)
answered_slot now slot =
    Some (record slot {
      input = record { rest = now.rest; fault = None };
      replies = slot.replies ++ now.text;
      session =
          Some now.context.session;
    })

-- of one that is over: it stands as long as replies wait
abbrev pub ended_slot : List ℕ → SessionSlot DeviceState → Option (SessionSlot DeviceState)
ended_slot text slot = kept_if_open (record slot { input = no_input; replies = slot.replies ++ text; session = None })

-- the session goes on: each request that is whole with the piece was answered, and what is left begins one
pub record AnswersWhole (n : ℕ) (d : Core) (piece : List ℕ) (e : Core) : Type 0 where
  pub session : Session DeviceState
  pub stood : session_of d n ≡ Some session
  pub now : FeedProgress
  pub feeds : FeedsOn (fed_piece d n session piece) now
  pub slots : e.slots ≡ on_session_slot (answered_slot now) n d.slots
  pub registry : e.registry ≡ now.context.registry
  pub stream : e.stream ≡ now.context.stream

-- a request of the piece ended it, or a reply that is not said, or a rest that begins no request
pub record EndsWithin (n : ℕ) (d : Core) (piece : List ℕ) (e : Core) : Type 0 where
  pub session : Session DeviceState
  pub stood : session_of d n ≡ Some session
  pub context : RequestContext
  pub text : List ℕ
  pub feeds : FeedsOver (fed_piece d n session piece) context text
  pub slots : e.slots ≡ on_session_slot (ended_slot text) n d.slots
  pub registry : e.registry ≡ table_let_go context
  pub stream : e.stream ≡ context.stream

-- out of memory ended it, and its replies are dropped
pub record FailsOutOfMemory (n : ℕ) (d : Core) (piece : List ℕ) (e : Core) : Type 0 where
  pub session : Session DeviceState
  pub stood : session_of d n ≡ Some session
  pub context : RequestContext
  pub feeds : FeedOutOfMemory (fed_piece d n session piece) context
  pub slots : e.slots ≡ on_session_slot no_more n d.slots
  pub registry : e.registry ≡ table_let_go context
  pub stream : e.stream ≡ context.stream

-- each other session's slot is as it was, and of the daemon nothing changes but slots, table and challenges
pub record KeepsOtherSessions (n : ℕ) (d e : Core) : Type 0 where
  pub slots : (m : ℕ) → m ≢ n → session_slot_of e.slots m ≡ session_slot_of d.slots m
  pub rest : e ≡ record d { slots = e.slots; registry = e.registry; stream = e.stream }

-- **feeds (`Feeds`)**: what a call of `feed` promises, in five facts. If no session of that number goes on
-- (`HasNoSession`), it is `Over`, and the daemon as it was. Else some requests were answered one after another
-- (`AnsweredSoFar`): the bytes that came are their spellings and then a rest, and their replies' spellings stand behind
-- those that wait. Then more is wanted of the rest, and the session stands (`AnswersWhole`). Or it is over, since no
-- spelling begins so, or one more request ends it, and its leases are given back (`EndsWithin`). Or memory ran out,
-- perhaps in the midst of one more request, its leases are given back, and the replies are dropped
-- (`FailsOutOfMemory`). Each other session's slot is as it was, and all else of the daemon (`KeepsOtherSessions`).
pub record Feeds (n : ℕ) (d : Core) (piece : List ℕ) (fed : Fed) (e : Core) : Type 0 where
  pub idle : HasNoSession d n → (fed ≡ Over) × (e ≡ d)
  pub standing : fed ≡ Standing → AnswersWhole n d piece e
  pub over : fed ≡ Over → HasNoSession d n ⊎ EndsWithin n d piece e
  pub out_of_memory : fed ≡ Starved → FailsOutOfMemory n d piece e
  pub others : KeepsOtherSessions n d e
