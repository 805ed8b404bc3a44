-- What a piece of a data connection's bytes makes of a client.
use Rattle.std.specs.Prelude.{ℕ, ◌≡◌, ◌⊎◌, Bool, Some, List, ◌++◌}
use Rattle.wire_format.specs.Writer.{behind}
use Rattle.page_picture.specs.Shows.{Frame}
use Rattle.frame_join.specs.declared.join_stage.JoinFault.{JoinFault}
use Rattle.frame_join.specs.FrameHistory.{JoinHistory, after_feed}
use Rattle.frame_join.specs.JoinStates.{JoinState, Represents}
use Rattle.data_records.specs.declared.records.RecordPhase.{RecordPhase}
use Rattle.data_records.specs.declared.records.RecordPhase.TheVariants as phases
use Rattle.data_records.specs.Records.{CarriesRecords, HasEnded}
use Rattle.client_replies.specs.declared.progress.Progress.TheVariants as stages
use Rattle.client_replies.specs.ReplyTurns.{turn, stop_unjoined, FrameEnd, frame_ended}
use Rattle.net_client.specs.ClientStates.{ClientState, protocol_of, sends, ClientRepresents}
use Rattle.client_replies.specs.ProtocolStates.{with_payload, next_outcome, protocol_after_turn}

-- a reader used the bytes, and the join took what they gave
pub record ReadsTo (old : RecordPhase) (past : JoinHistory) (frame : Frame) (used : List ℕ) (new : RecordPhase)
    (join : JoinState) : Type 0 where
  pub given : List ℕ
  pub carries : CarriesRecords old new used given
  pub stands : Represents (with_payload past frame given) join

-- the end record came
pub record ReadsEnd (old : RecordPhase) (past : JoinHistory) (frame : Frame) (piece : List ℕ) (status : ℕ)
    (join : JoinState) : Type 0 where
  pub used : List ℕ
  pub rest : List ℕ
  pub whole : piece ≡ used ++ rest
  pub reads : ReadsTo old past frame used (phases.Ended status) join

-- the last of the bytes that came made a fault
pub record ReadsFault (old : RecordPhase) (past : JoinHistory) (frame : Frame) (piece : List ℕ) (fault : JoinFault)
    (new : RecordPhase) (join : JoinState) : Type 0 where
  pub used : List ℕ
  pub rest : List ℕ
  pub before : List ℕ
  pub last : List ℕ
  pub starved : Bool
  pub whole : piece ≡ used ++ rest
  pub carries : CarriesRecords old new used (before ++ last)
  pub stands : Represents (after_feed last starved (with_payload past frame before)) join
  pub fails : (after_feed last starved (with_payload past frame before)).fault ≡ Some fault

-- ---- a piece of the data connection

abbrev pub frame_end_of : ClientState → JoinHistory → ℕ → FrameEnd
frame_end_of v past status = frame_ended v.target.task v.notes.file past status

-- the end record: how the job goes on, and what is sent then
pub record TakesEndRecord (old : ClientState) (past : JoinHistory) (status : ℕ) (new : ClientState) : Type 0 where
  pub protocol : protocol_of new (frame_end_of old past status).history
      ≡ protocol_after_turn old.target.task (turn old.notes (frame_end_of old past status).next)
      (frame_end_of old past status).history
  pub serves : ClientRepresents (frame_end_of old past status).history new
  pub said : behind old.out (sends old.target old.notes.word (frame_end_of old past status).next) ≡ Some new.out
  pub rest : new
      ≡ record old { outcome = new.outcome; progress = new.progress; notes = new.notes; out = new.out; join = new.join }

-- bytes of the frame came
pub record TakesBytes (old : ClientState) (past : JoinHistory) (piece : List ℕ) (new : ClientState) : Type 0 where
  pub frame : Frame
  pub under : past.under ≡ Some frame
  pub reads : ReadsTo old.phase past frame piece new.phase new.join
  pub going : HasEnded new.phase → ⊥
  pub serves : ClientRepresents (with_payload past frame reads.given) new
  pub rest : new ≡ record old { phase = new.phase; join = new.join }

-- the frame's records ended, and a new reader stands before those of the next
pub record TakesFrameEnd (old : ClientState) (past : JoinHistory) (piece : List ℕ) (new : ClientState) : Type 0 where
  pub frame : Frame
  pub under : past.under ≡ Some frame
  pub status : ℕ
  pub join : JoinState
  pub reads : ReadsEnd old.phase past frame piece status join
  pub ends : TakesEndRecord (record old { phase = phases.Head; join = join })
      (with_payload past frame reads.reads.given) status new

-- the bytes are too many, or there is no memory for them
pub record FailsAtBytes (old : ClientState) (past : JoinHistory) (piece : List ℕ) (new : ClientState) : Type 0 where
  pub frame : Frame
  pub under : past.under ≡ Some frame
  pub fault : JoinFault
  pub reads : ReadsFault old.phase past frame piece fault new.phase new.join
  pub serves : ClientRepresents (after_feed reads.last reads.starved (with_payload past frame reads.before)) new
  pub rest : new
      ≡ record old {
        outcome = next_outcome old.target.task old.notes (stop_unjoined fault);
        progress = stages.Over;
        phase =
            new.phase;
        join = new.join;
      }

-- **receives (`Receives`)**: what a piece of a data connection makes of it: bytes of the frame, the end record, bytes
-- too many, or out of memory.
abbrev pub Receives : ClientState → JoinHistory → List ℕ → ClientState → Type 0
Receives old past piece new = TakesBytes old past piece new
    ⊎ (TakesFrameEnd old past piece new ⊎ FailsAtBytes old past piece new)
