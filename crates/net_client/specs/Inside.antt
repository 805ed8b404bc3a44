-- What private functions alone promise.
use Rattle.std.specs.Prelude.{ℕ, List, ◌++◌, ◌≡◌, Some, Bool, true, false, None, ◌≢◌, ◌⊎◌, ◌<◌, []}
use Rattle.std.specs.Int.{w32, to_be_bytes}
use Rattle.client_replies.specs.ProtocolStates.{next_notes, next_outcome, next_progress, answer_to, after_reply}
use Rattle.client_replies.specs.declared.progress.Next.{Next}
use Rattle.client_replies.specs.declared.progress.Progress.{Progress}
use Rattle.client_replies.specs.declared.progress.Progress.TheVariants as stages
use Rattle.data_records.specs.Records.{HasEnded}
use Rattle.data_records.specs.declared.records.RecordPhase.{RecordPhase}
use Rattle.frame_join.specs.FrameHistory.{JoinHistory, with_fault, IsJoined}
use Rattle.frame_join.specs.JoinStates.{JoinState, Represents}
use Rattle.frame_join.specs.declared.join_stage.JoinFault.TheVariants.{NoMem}
use Rattle.net_client.specs.ClientStates.{ClientState, sends, after_client_end, protocol_of, ClientRepresents, sent_by}
use Rattle.net_client.specs.FramePieces.{ReadsTo, ReadsEnd, ReadsFault}
use Rattle.net_client.specs.declared.imaging.PieceResult.{PieceResult}
use Rattle.net_client.specs.declared.imaging.PieceResult.TheVariants.{More, Fault, End}
use Rattle.netpbm.specs.Picture.{Picture}
use Rattle.netpbm.specs.Pnm.{IsWhole}
use Rattle.page_picture.specs.Shows.{Frame, ShowsFrames}
use Rattle.sane_fixed.specs.declared.status.Status.TheVariants as statuses
use Rattle.scan_job.specs.declared.outcome.Outcome.{Outcome}
use Rattle.scan_job.specs.declared.outcome.Outcome.TheVariants.{Ended}
use Rattle.scan_job.specs.declared.outcome.Why.TheVariants as whys
use Rattle.wire_format.specs.Limit.{NeedsMore, IsNoStart}
use Rattle.wire_format.specs.Writer.{behind}
use Rattle.wire_message.specs.Message.{message_limit, reply}
use Rattle.wire_message.specs.declared.message.Procedure.{Procedure}
use Rattle.wire_message.specs.declared.message.Reply.{Reply}
use Rattle.wire_message.specs.declared.message_fault.WireFault.{WireFault}
use Rattle.wire_message.specs.declared.message_fault.WireFault.TheVariants as wire
use Rattle.frame_join.specs.PictureText.{IsPictureFile}

-- the text of a request of a code and a word
abbrev pub word_request : ℕ → ℕ → List ℕ
word_request code word = to_be_bytes w32 code ++ to_be_bytes w32 word

-- the job goes on so, and sends what it sends then
pub record GoesOnBy (old : ClientState) (next : Next) (new : ClientState) : Type 0 where
  pub rest : new
      ≡ record old {
        outcome = next_outcome old.target.task old.notes next;
        progress = next_progress next;
        notes =
            next_notes old.notes next;
        out = new.out;
      }
  pub text : behind old.out (sends old.target old.notes.word next) ≡ Some new.out

abbrev pub after_out_of_memory : ClientState → ClientState
after_out_of_memory v = after_client_end statuses.NoMem whys.Memory v

-- **within a frame (`RepresentsWithin`)**: the join stands for what was told to it, no fault does, and this frame is
-- under way.
pub record RepresentsWithin (past : JoinHistory) (frame : Frame) (join : JoinState) : Type 0 where
  pub stands : Represents past join
  pub clear : past.fault ≡ None
  pub under : past.under ≡ Some frame

-- a reader, what was told to the join, and the frame that is under way
pub record ReaderInFrame : Type 0 where
  pub reader : RecordPhase
  pub past : JoinHistory
  pub frame : Frame

-- a reader, and the join
pub record ReaderAndJoin : Type 0 where
  pub reader : RecordPhase
  pub join : JoinState

-- what a piece of the records brought, and what it left
abbrev pub HasRead : ReaderInFrame → List ℕ → PieceResult → ReaderAndJoin → Type 0
HasRead was piece More now = ReadsTo was.reader was.past was.frame piece now.reader now.join
HasRead was piece (End status) now = ReadsEnd was.reader was.past was.frame piece status now.join
HasRead was piece (Fault fault) now = ReadsFault was.reader was.past was.frame piece fault now.reader now.join

-- a reader that gave no end has not ended
abbrev pub HasNotEnded : PieceResult → RecordPhase → Type 0
HasNotEnded More phase = HasEnded phase → ⊥
HasNotEnded (Fault fault) phase = HasEnded phase → ⊥
HasNotEnded (End status) phase = Unit {0}

-- a client waits so behind a frame: for the next one, or for the file of its page to be taken
abbrev pub IsBehindFrame : Progress → Type 0
IsBehindFrame (stages.Starting first) = Unit {0}
IsBehindFrame stages.Turning = Unit {0}
IsBehindFrame progress = ⊥

-- START is sent then
abbrev pub is_starting : Progress → Bool
is_starting (stages.Starting first) = true
is_starting progress = false

-- Bytes that are to go out.

-- the bytes that have not gone, and room for so many more
pub record OutboxState : Type 0 where
  pub text : List ℕ
  pub room : ℕ

-- what a reply makes of a client: how the job goes on, and what is sent then
pub record HearsReply (old : ClientState) (past : JoinHistory) (r : Reply) (new : ClientState) : Type 0 where
  pub protocol : protocol_of new (answer_to old.target (protocol_of old past) r).history
      ≡ after_reply old.target (protocol_of old past) r
  pub serves : ClientRepresents (answer_to old.target (protocol_of old past) r).history new
  pub said : behind old.out (sent_by old.target (protocol_of old past) r) ≡ Some new.out
  pub rest : new
      ≡ record old { outcome = new.outcome; progress = new.progress; notes = new.notes; out = new.out; join = new.join }

-- the join stands for what was told, or for that and out of memory
abbrev pub RepresentsOrOutOfMemory : JoinHistory → JoinState → Type 0
RepresentsOrOutOfMemory past join = Represents past join ⊎ Represents (with_fault NoMem past) join

-- how a job ends by a fault of the decoder
abbrev pub outcome_by : WireFault → Outcome
outcome_by wire.NoMem = Ended statuses.NoMem whys.Memory
outcome_by wire.BadCode = Ended statuses.IoError whys.Malformed
outcome_by wire.BadValue = Ended statuses.IoError whys.Malformed
outcome_by wire.TooLong = Ended statuses.IoError whys.Malformed

-- reading failed, and the job has ended so
pub record FailsReading (procedure : Procedure) (old new : ClientState) : Type 0 where
  pub fault : WireFault
  pub ends : new ≡ record old { outcome = outcome_by fault; progress = stages.Over; input = new.input }
  pub no_start : fault ≢ wire.NoMem → IsNoStart message_limit (reply procedure) old.input.rest

-- reading a reply gave none: more is wanted, or it failed
abbrev pub StopsReading : Procedure → ClientState → ClientState → Type 0
StopsReading procedure old new = ((new ≡ old) × NeedsMore message_limit (reply procedure) old.input.rest)
    ⊎ FailsReading procedure old new

-- These bytes were taken, where there was room for so many. Where the picture is whole and nothing more comes, what was
-- given in all denotes it; before it is whole, what was given in all is not.
pub record GivesPicture (past : JoinHistory) (room : ℕ) (bytes : List ℕ) : Type 0 where
  pub denotes : IsJoined past → bytes ≡ [] → 0 < room
      → (p : Picture) → ShowsFrames past.ended p → IsPictureFile past.given p
  pub whole : (IsJoined past → ⊥) → IsWhole (past.given ++ bytes) → ⊥
