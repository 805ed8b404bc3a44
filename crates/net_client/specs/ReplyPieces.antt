-- What a piece of the control connection's bytes makes of a client.
use Rattle.std.specs.Prelude.{ℕ, ◌≡◌, true, Option, Some, None, List, ◌∷◌, ◌++◌, []}
use Rattle.wire_format.specs.Limit.{limited_format, NeedsMore, IsNoStart}
use Rattle.sane_fixed.specs.declared.status.Status.TheVariants as statuses
use Rattle.wire_message.specs.declared.message.Procedure.{Procedure}
use Rattle.wire_message.specs.declared.message.Procedure.TheVariants as procedures
use Rattle.wire_message.specs.declared.message.Reply.{Reply}
use Rattle.wire_message.specs.Message.{message_limit, reply}
use Rattle.frame_join.specs.FrameHistory.{JoinHistory}
use Rattle.frame_join.specs.declared.join_stage.JoinFault.TheVariants.{NoMem}
use Rattle.scan_job.specs.declared.outcome.Outcome.TheVariants.{Ended}
use Rattle.scan_job.specs.declared.outcome.Why.TheVariants as whys
use Rattle.client_replies.specs.declared.progress.JobTarget.{JobTarget}
use Rattle.client_replies.specs.declared.progress.Progress.{Progress}
use Rattle.client_replies.specs.declared.progress.Progress.TheVariants as stages
use Rattle.net_client.specs.ClientStates.{ClientState, protocol_of, ClientRepresents, sent_by, after_client_end}
use Rattle.client_replies.specs.ProtocolStates.{ProtocolState, after_reply, is_running}

-- the procedure whose reply is waited for
abbrev pub awaited_procedure : Progress → Option Procedure
awaited_procedure stages.Greeting = Some procedures.Init
awaited_procedure stages.Listing = Some procedures.GetDevices
awaited_procedure stages.Opening = Some procedures.Open
awaited_procedure (stages.Allowing resource answer) = Some procedures.Authorize
awaited_procedure stages.Reopening = Some procedures.Open
awaited_procedure stages.Describing = Some procedures.GetOptionDescriptors
awaited_procedure (stages.Putting n kind name value) = Some procedures.ControlOption
awaited_procedure (stages.Getting n kind size) = Some procedures.ControlOption
awaited_procedure (stages.Starting first) = Some procedures.Start
awaited_procedure (stages.Shaping port order) = Some procedures.GetParameters
awaited_procedure (stages.Imaging port opened) = None
awaited_procedure stages.Turning = None
awaited_procedure stages.Over = None

-- the text spells a reply that is waited for
pub record IsReply (progress : Progress) (text : List ℕ) (r : Reply) : Type 0 where
  pub procedure : Procedure
  pub awaited_is : awaited_procedure progress ≡ Some procedure
  pub spelled : (limited_format message_limit (reply procedure)).spells text r

-- One reply after another, each to what is waited for: the text that spells them, what is sent, and how the job goes
-- on.
abbrev pub HearsReplies : JobTarget → ProtocolState → List Reply → List ℕ → List ℕ → ProtocolState → Type 0
HearsReplies target t [] text sent u = (text ≡ []) × (sent ≡ []) × (u ≡ t)
HearsReplies target t (r ∷ rs) text sent u =
    (front : List ℕ) × (back : List ℕ) × (said : List ℕ) × (more : List ℕ) × (text ≡ front ++ back)
    × (sent ≡ said ++ more)
    × IsReply t.progress front r × (sent_by target t r ≡ Some said)
    × HearsReplies target (after_reply target t r) rs back more u

-- memory ran out: the job has ended so, and what was given of the file stays
pub record EndsOutOfMemory (old : ClientState) (past : JoinHistory) (new : ClientState) : Type 0 where
  pub outcome : new.outcome ≡ Ended statuses.NoMem whys.Memory
  pub progress : new.progress ≡ stages.Over
  pub target : new.target ≡ old.target
  pub out : new.out ≡ old.out
  pub history_then : JoinHistory
  pub given : history_then.given ≡ past.given
  pub serves : ClientRepresents history_then new

-- the same as replies come: no frame ends by them
pub record EndsOutOfMemoryHere (old : ClientState) (past : JoinHistory) (new : ClientState) : Type 0 where
  pub starved : EndsOutOfMemory old past new
  pub ended : starved.history_then.ended ≡ past.ended

-- the replies that came in a piece so far, and what is left of it
pub record HasHeard (old : ClientState) (past : JoinHistory) (piece : List ℕ) (new : ClientState) : Type 0 where
  pub told : List Reply
  pub text : List ℕ
  pub sent : List ℕ
  pub history_then : JoinHistory
  pub whole : old.input.rest ++ piece ≡ text ++ new.input.rest
  pub hears : HearsReplies old.target (protocol_of old past) told text sent (protocol_of new history_then)
  pub serves : ClientRepresents history_then new
  pub out : new.out ≡ old.out ++ sent
  pub target : new.target ≡ old.target

-- More is wanted of the reply that is waited for; or no reply is, and the rest waits with it, or is ignored where the
-- job is over.
abbrev pub WantsReply : Progress → List ℕ → Type 0
WantsReply progress rest = (procedure : Procedure) → awaited_procedure progress ≡ Some procedure
    → NeedsMore message_limit (reply procedure) rest

-- what comes next is no reply to what is waited for: the job has ended so
pub record IsGarbled (was : ClientState) (new : ClientState) : Type 0 where
  pub procedure : Procedure
  pub awaited_is : awaited_procedure was.progress ≡ Some procedure
  pub no_start : IsNoStart message_limit (reply procedure) was.input.rest
  pub ends : new ≡ record (after_client_end statuses.IoError whys.Malformed was) { input = new.input }

-- **heeds (`Heeds`, `HearsReplies`)**: what a piece of the control connection makes of a client. It spells replies, one
-- behind the other. The client hears each, and sends what follows. Then more is wanted, or what comes is no reply, or
-- memory ran out.
--
-- how hearing a piece ends: by replies alone, by what is none, or for lack of memory
pub data Heeds (old : ClientState) (past : JoinHistory) (piece : List ℕ) (new : ClientState) : Type 0 where
  Whole : HasHeard old past piece new → (is_running new.outcome ≡ true → WantsReply new.progress new.input.rest)
      → Heeds old past piece new
  Garbled : (was : ClientState) → HasHeard old past piece was → is_running was.outcome ≡ true → IsGarbled was new
      → Heeds old past piece new
  OutOfMemoryBehind : (was : ClientState) → (h : HasHeard old past piece was) → is_running was.outcome ≡ true
      → EndsOutOfMemoryHere was h.history_then new → Heeds old past piece new
  OutOfMemoryAtOnce : EndsOutOfMemoryHere old past new → Heeds old past piece new
