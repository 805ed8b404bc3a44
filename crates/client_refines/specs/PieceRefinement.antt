-- The same for what the contracts of a client's calls tell: the replies of a piece, what came of a data connection, and
-- what the calls send.
use Rattle.std.specs.Prelude.{ℕ, ◌≡◌, Option, Some, None, true, List, [], ◌∷◌, ◌++◌}
use Rattle.sane_fixed.specs.declared.status.Status.{Status}
use Rattle.sane_fixed.specs.declared.status.Status.TheVariants as statuses
use Rattle.sane_fixed.specs.declared.device_info.DeviceInfo.{DeviceInfo}
use Rattle.page_picture.specs.Shows.{Frame}
use Rattle.frame_join.specs.FrameHistory.{JoinHistory, empty_history, after_pull}
use Rattle.wire_message.specs.declared.message.Reply.{Reply}
use Rattle.wire_message.specs.declared.message.Request.{Request}
use Rattle.scan_job.specs.declared.outcome.Outcome.TheVariants.{Ended}
use Rattle.scan_job.specs.declared.outcome.Why.TheVariants as whys
use Rattle.scan_job.specs.JobSize.{HasCount}
use Rattle.client_replies.specs.declared.progress.JobTarget.{JobTarget}
use Rattle.client_replies.specs.declared.progress.Progress.{Progress}
use Rattle.client_replies.specs.declared.progress.Progress.TheVariants as stages
use Rattle.sane_fixed.specs.Status.{status_of}
use Rattle.client_replies.specs.ProtocolStates.{ProtocolState, after_reply, is_running, is_receiving, turns}
use Rattle.net_client.specs.Sending.{requests_text}
use Rattle.data_records.specs.declared.records.RecordPhase.{RecordPhase}
use Rattle.data_records.specs.declared.records.RecordPhase.TheVariants as phases
use Rattle.data_records.specs.Records.{CarriesRecords, HasEnded}
use Rattle.net_client.specs.ClientStates.{ClientState, protocol_of, ClientRepresents, TakesPage, Stays, Turns}
use Rattle.net_client.specs.ReplyPieces.{Heeds, Whole, Garbled, OutOfMemoryBehind, OutOfMemoryAtOnce}
use Rattle.net_client.specs.FramePieces.{Receives}
use Rattle.system_model.specs.AbstractMessages as words
use Rattle.system_model.specs.Client as model
use Rattle.system_model.specs.ClientReplies.{hear_in, client_after_bytes, finish_in, client_after_stop}
use Rattle.client_refines.specs.DecodedReplies.{DecodedReply, Before, Says, Demands, decoded_reply_at}
use Rattle.client_refines.specs.ClientRefinement.{task_of, ClientRefines}
use Rattle.client_refines.specs.Replies.{client_refusing}
use Rattle.client_refines.specs.RequestRefinement.{ExpectedRequest, asks_of, AreRequests}

-- ---- what is sent

-- the bytes spell requests, one behind the other, which are these of the model
pub record SpellsSent (target : JobTarget) (sent : List ℕ) (asks : List ExpectedRequest) : Type 0 where
  pub requests : List Request
  pub text : requests_text requests ≡ Some sent
  pub same : AreRequests target requests asks

-- the START of a further page goes out as the page's file is taken
abbrev pub SpellsSentAt : JobTarget → ℕ → Progress → List ℕ → model.AbstractJob → model.ClientView → Type 0
SpellsSentAt target word stages.Turning sent job m = (sent ≡ [])
    × (model.requests_sent job.task m.stage ≡ words.Start ∷ [])
SpellsSentAt target word progress sent job m =
    SpellsSent target sent (asks_of word m.known (model.requests_sent job.task m.stage))

-- ---- the replies of a piece

-- a client view, and what it has asked for since the call
pub record ListeningClient : Type 0 where
  pub client : model.ClientView
  pub asks : List ExpectedRequest

-- it comes to know that, and asks for what it waits for then, as the client has that device word
abbrev pub listening_after : model.AbstractJob → ℕ → ListeningClient → model.ClientView → ListeningClient
listening_after job word h m =
    record { client = m; asks = h.asks ++ asks_of word m.known (model.requests_sent job.task m.stage) }

-- what is so of it once it has heard that
abbrev pub Hearing : model.AbstractJob → ℕ → ListeningClient → DecodedReply → (ListeningClient → Type 0) → Type 0
Hearing job word h Before Holds = Holds h
Hearing job word h (Says answer) Holds = Holds (listening_after job word h (hear_in h.client.stage job h.client answer))
Hearing job word h Demands Holds = Holds (listening_after job word h (client_refusing h.client))

-- **what a call hears and comes to (`HearingAll`, `HeedsAs`, `ReceivesPiece`, `TakesAs`)**: the client view goes from
-- reply to reply, and each time its requests are laid up. The case of the client's contract says how the client reads
-- then, and what was sent. There is one relation for a piece of the control connection, one for a data connection, and
-- one for the taking of a page's file.
--
-- what is so of it once it has heard these, one after another
abbrev pub HearingAll : (DeviceInfo → ℕ) → JobTarget → model.AbstractJob → ProtocolState → List Reply
    → (ListeningClient → Type 0) → ListeningClient → Type 0
HearingAll place target job t [] Holds h = Holds h
HearingAll place target job t (r ∷ rs) Holds h =
    Hearing job (after_reply target t r).notes.word h (decoded_reply_at place t.progress r) (λ n.
    HearingAll place target job (after_reply target t r) rs Holds n)

-- the client reads so, and what it has sent is what the client view has asked for
pub record ListeningRefines (place : DeviceInfo → ℕ) (target : JobTarget) (job : model.AbstractJob)
    (pages : List (List Frame)) (protocol : ProtocolState) (m : model.ClientView) (sent : List ℕ)
    (asks : List ExpectedRequest) : Type 0 where
  pub reads : ClientRefines place target job pages protocol m
  pub spells : SpellsSent target sent asks

abbrev pub new_listening_client : model.ClientView → ListeningClient
new_listening_client m = record { client = m; asks = [] }

-- What is so as a call ends: the replies were heard, and then the job has ended, where what comes next is none, or
-- where memory runs out.
abbrev pub HeedsAs : (DeviceInfo → ℕ) → model.AbstractJob → List (List Frame) → model.ClientView → (old : ClientState)
    → (past : JoinHistory) → (piece : List ℕ) → (new : ClientState) → Heeds old past piece new → Type 0
HeedsAs place job pages m old past piece new (Whole h wants) =
    HearingAll place old.target job (protocol_of old past) h.told (λ n.
    ListeningRefines place old.target job pages (protocol_of new h.history_then) n.client h.sent n.asks)
    (new_listening_client m)
HeedsAs place job pages m old past piece new (Garbled was h runs g) =
    HearingAll place old.target job (protocol_of old past) h.told
    (λ n. ListeningRefines place old.target job pages (protocol_of was h.history_then) n.client h.sent n.asks
    × ClientRefines place old.target job pages (protocol_of new h.history_then)
    (client_after_stop statuses.IoError whys.Malformed n.client))
    (new_listening_client m)
HeedsAs place job pages m old past piece new (OutOfMemoryBehind was h runs s) =
    HearingAll place old.target job (protocol_of old past) h.told
    (λ n. ListeningRefines place old.target job pages (protocol_of was h.history_then) n.client h.sent n.asks
    × ClientRefines place old.target job pages (protocol_of new h.history_then)
    (client_after_stop statuses.NoMem whys.Memory n.client))
    (new_listening_client m)
HeedsAs place job pages m old past piece new (OutOfMemoryAtOnce s) =
    ClientRefines place old.target job pages (protocol_of new past) (client_after_stop statuses.NoMem whys.Memory m)

abbrev pub PiecesAreHeardAlike : Type 0
PiecesAreHeardAlike =
    (place : DeviceInfo → ℕ) (job : model.AbstractJob) (pages : List (List Frame)) (old new : ClientState)
    (past : JoinHistory) (piece : List ℕ) (m : model.ClientView)
    → job.task ≡ task_of old.target.task → is_running old.outcome ≡ true → ClientRepresents past old
    → ClientRefines place old.target job pages (protocol_of old past) m
    → (heeds : Heeds old past piece new) → HeedsAs place job pages m old past piece new heeds

-- ---- a data connection

-- what the records in front of a piece gave
pub record RecordsBring (old new : RecordPhase) (piece given : List ℕ) : Type 0 where
  pub used : List ℕ
  pub rest : List ℕ
  pub whole : piece ≡ used ++ rest
  pub carries : CarriesRecords old new used given

-- the client stands for that history, of which so much was given, and reads so
pub record RefinesWithGiven (place : DeviceInfo → ℕ) (target : JobTarget) (job : model.AbstractJob)
    (pages : List (List Frame)) (given : List ℕ) (past : JoinHistory) (new : ClientState)
    (m : model.ClientView) : Type 0 where
  pub serves : ClientRepresents past new
  pub given_is : past.given ≡ given
  pub reads : ClientRefines place target job pages (protocol_of new past) m

-- an end record came: how the client reads then, and what it sends
pub record EndRecordRefines (place : DeviceInfo → ℕ) (target : JobTarget) (job : model.AbstractJob)
    (pages : List (List Frame)) (given : List ℕ) (past : JoinHistory) (new : ClientState) (m : model.ClientView)
    (sent : List ℕ) : Type 0 where
  pub stands : RefinesWithGiven place target job pages given past new m
  pub spells : SpellsSentAt target new.notes.word new.progress sent job m

-- a byte that is no status ends the job as malformed
abbrev pub EndByteRefines : (DeviceInfo → ℕ) → JobTarget → model.AbstractJob → List (List Frame) → List ℕ → JoinHistory
    → ClientState → model.ClientView → List ℕ → Option Status → Type 0
EndByteRefines place target job pages given past new m sent None =
    RefinesWithGiven place target job pages given past new (client_after_stop statuses.IoError whys.Malformed m)
    × (sent ≡ [])
EndByteRefines place target job pages given past new m sent (Some status) =
    EndRecordRefines place target job pages given past new (finish_in m.stage job.task m status) sent

-- What comes of a piece: bytes of the frame, or more than the frame may have, so that no more is read; or an end behind
-- them; or out of memory behind a front of them. Nothing more of the file is given.
pub data ReceivesPiece (place : DeviceInfo → ℕ) (job : model.AbstractJob) (pages : List (List Frame))
    (m : model.ClientView) (old : ClientState) (was : JoinHistory) (piece : List ℕ) (new : ClientState) : Type 0 where
  Goes : (given : List ℕ) (past : JoinHistory) → CarriesRecords old.phase new.phase piece given
      → new ≡ record old { phase = new.phase; join = new.join } → (HasEnded new.phase → ⊥)
      → RefinesWithGiven place old.target job pages was.given past new (client_after_bytes m.stage m given)
      → ReceivesPiece place job pages m old was piece new
  Overflows : (given : List ℕ) (past : JoinHistory) → RecordsBring old.phase new.phase piece given → new.out ≡ old.out
      → new.outcome ≡ Ended statuses.IoError whys.Long
      → RefinesWithGiven place old.target job pages was.given past new (client_after_bytes m.stage m given)
      → ReceivesPiece place job pages m old was piece new
  Ends : (given : List ℕ) (n : ℕ) (past : JoinHistory) (sent : List ℕ)
      → RecordsBring old.phase (phases.Ended n) piece given → new.out ≡ old.out ++ sent
      → EndByteRefines place old.target job pages was.given past new (client_after_bytes m.stage m given) sent
      (status_of n) → ReceivesPiece place job pages m old was piece new
  Starves : (given more : List ℕ) (phase : RecordPhase) (past : JoinHistory)
      → RecordsBring old.phase phase piece (given ++ more) → new.out ≡ old.out
      → new.outcome ≡ Ended statuses.NoMem whys.Memory
      → RefinesWithGiven place old.target job pages was.given past new
      (client_after_stop statuses.NoMem whys.Memory (client_after_bytes m.stage m given))
      → ReceivesPiece place job pages m old was piece new

abbrev pub PiecesAreReceivedAlike : Type 0
PiecesAreReceivedAlike =
    (place : DeviceInfo → ℕ) (job : model.AbstractJob) (pages : List (List Frame)) (old new : ClientState)
    (past : JoinHistory) (piece : List ℕ) (m : model.ClientView)
    → job.task ≡ task_of old.target.task → HasCount old.target.task → is_receiving old.outcome old.progress ≡ true
    → ClientRepresents past old → ClientRefines place old.target job pages (protocol_of old past) m
    → Receives old past piece new → ReceivesPiece place job pages m old past piece new

-- ---- the file of a page of a batch

-- Bytes of the file are taken, and the reading stays; behind the last of them START goes out, for which the model has
-- asked, and the page is one of those before.
abbrev pub TakesAs : (DeviceInfo → ℕ) → model.AbstractJob → List (List Frame) → model.ClientView → (old : ClientState)
    → (past : JoinHistory) → (bytes : List ℕ) → (new : ClientState) → TakesPage old past bytes new → Type 0
TakesAs place job pages m old past bytes new (Stays short rest serves) = (new.out ≡ old.out)
    × ClientRefines place old.target job pages (protocol_of new (after_pull bytes past)) m
TakesAs place job pages m old past bytes new (Turns whole shows turns serves) =
    (sent : List ℕ) × (new.out ≡ old.out ++ sent)
    × SpellsSent old.target sent (asks_of old.notes.word m.known (words.Start ∷ []))
    × ClientRefines place old.target job (pages ++ past.ended ∷ []) (protocol_of new empty_history) m

abbrev pub PagesAreTakenAlike : Type 0
PagesAreTakenAlike =
    (place : DeviceInfo → ℕ) (job : model.AbstractJob) (pages : List (List Frame)) (old new : ClientState)
    (past : JoinHistory) (bytes : List ℕ) (m : model.ClientView)
    → turns old.outcome old.progress ≡ true → ClientRepresents past old
    → ClientRefines place old.target job pages (protocol_of old past) m
    → (takes : TakesPage old past bytes new) → TakesAs place job pages m old past bytes new takes
