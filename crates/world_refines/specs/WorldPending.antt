-- What has come of messages that are not whole yet.
use Rattle.std.specs.Prelude.{ℕ, ◌≡◌, ◌++◌, true, List}
use Rattle.wire_format.specs.Limit.{limited_format}
use Rattle.wire_message.specs.Message.{message_limit, request as request_format}
use Rattle.wire_message.specs.declared.message.Request.{Request}
use Rattle.wire_message.specs.declared.message.Reply.{Reply}
use Rattle.data_records.specs.declared.records.RecordPhase.{RecordPhase}
use Rattle.data_records.specs.Records.{HasEnded}
use Rattle.scan_job.specs.declared.outcome.Outcome.{Outcome}
use Rattle.client_replies.specs.declared.progress.Progress.{Progress}
use Rattle.client_replies.specs.ProtocolStates.{is_receiving, is_running}
use Rattle.net_client.specs.ReplyPieces.{IsReply}
use Rattle.world_refines.specs.GhostStates.{Wires}

-- no request stands at its front, and no reply to what is waited for
abbrev pub HasNoRequest : List ℕ → Type 0
HasNoRequest text = (front back : List ℕ) (q : Request) → text ≡ front ++ back
    → (limited_format message_limit request_format).spells front q → ⊥

abbrev pub HasNoReply : Progress → List ℕ → Type 0
HasNoReply progress text = (front back : List ℕ) (r : Reply) → text ≡ front ++ back → IsReply progress front r → ⊥

-- **what pends (`Pends`, `HasNoRequest`, `HasNoReply`)**: what has come to a session has no request at its front, and
-- what has come to a client has no awaited reply at its front. A frame that is read has not ended.
--
-- what came to a session is no whole request, and what came to a client no whole reply; the frame that it reads has not
-- ended
pub record Pends (outcome : Outcome) (progress : Progress) (phase : RecordPhase) (x : Wires) : Type 0 where
  pub asking : HasNoRequest x.asking
  pub telling : is_running outcome ≡ true → HasNoReply progress x.telling
  pub reading : is_receiving outcome progress ≡ true → HasEnded phase → ⊥
