-- A client's value, and what it stands for.
use Rattle.std.specs.Prelude.{ℕ, ◌≡◌, ◌≢◌, ◌++◌, true, false, Option, Some, None, List, []}
use Rattle.wire_format.specs.Writer.{behind}
use Rattle.sane_fixed.specs.declared.status.Status.{Status}
use Rattle.netpbm.specs.Picture.{Picture}
use Rattle.netpbm.specs.Pnm.{IsWhole}
use Rattle.page_picture.specs.Shows.{ShowsFrames}
use Rattle.frame_join.specs.FrameHistory.{JoinHistory, empty_history, after_pull}
use Rattle.frame_join.specs.JoinStates.{JoinState, Represents}
use Rattle.wire_message.specs.declared.message.Reply.{Reply}
use Rattle.data_records.specs.declared.records.RecordPhase.{RecordPhase}
use Rattle.data_records.specs.declared.records.RecordPhase.TheVariants as phases
use Rattle.wire_codec.specs.Decoders.{DecoderState}
use Rattle.scan_job.specs.declared.job.Job.{Job}
use Rattle.scan_job.specs.declared.outcome.Outcome.{Outcome}
use Rattle.scan_job.specs.declared.outcome.Outcome.TheVariants.{Running, Ended}
use Rattle.scan_job.specs.declared.outcome.Why.{Why}
use Rattle.client_replies.specs.declared.progress.JobTarget.{JobTarget}
use Rattle.client_replies.specs.declared.progress.Progress.{Progress}
use Rattle.client_replies.specs.declared.progress.Progress.TheVariants as stages
use Rattle.client_replies.specs.declared.progress.Notes.{Notes}
use Rattle.client_replies.specs.declared.progress.Next.{Next}
use Rattle.client_replies.specs.declared.progress.Next.TheVariants.{Wait, Finish, Stop}
use Rattle.client_replies.specs.Asking.{request_for, goodbye}
use Rattle.client_replies.specs.ProtocolStates.{ProtocolState, HistoryFits, answer_to, target_of, next_file}
use Rattle.net_client.specs.Sending.{requests_text, optional_request_text}
use Rattle.frame_join.specs.PictureText.{IsPictureFile}

-- **client (`ClientState`, `ClientRepresents`)**: the job, its outcome, what it waits for and knows, the bytes to go
-- out, what came of the next reply, where it stands in a frame's records, and the join. It represents a history if the
-- join does and the history fits.
pub record ClientState : Type 0 where
  pub target : JobTarget
  pub outcome : Outcome
  pub progress : Progress
  pub notes : Notes
  pub out : List ℕ
  pub input : DecoderState
  pub phase : RecordPhase
  pub join : JoinState

-- **early reply (`HasEarlyReply`)**: bytes of a reply came before the request that it answers was taken of the client.
abbrev pub HasEarlyReply : ClientState → Type 0
HasEarlyReply c = (c.out ≢ []) × (c.input.rest ≢ [])

-- ---- how a job goes on

-- what is sent as a job goes on so
abbrev pub sends : JobTarget → ℕ → Next → Option (List ℕ)
sends target word (Wait progress) = optional_request_text (request_for target word progress)
sends target word (Finish devices) = requests_text (goodbye target.task word)
sends target word (Stop status why) = Some []

abbrev pub sent_by : JobTarget → ProtocolState → Reply → Option (List ℕ)
sent_by target protocol reply =
    sends target (answer_to target protocol reply).turn.notes.word (answer_to target protocol reply).turn.next

-- ---- which histories a client stands for

-- the client stands for what was told and given
pub record ClientRepresents (past : JoinHistory) (v : ClientState) : Type 0 where
  pub stands : Represents past v.join
  pub fits : HistoryFits v.target.task v.outcome v.progress past

abbrev pub protocol_of : ClientState → JoinHistory → ProtocolState
protocol_of v past = record { outcome = v.outcome; progress = v.progress; notes = v.notes; history = past }

-- the job ends so
abbrev pub after_client_end : Status → Why → ClientState → ClientState
after_client_end status why v = record v { outcome = Ended status why; progress = stages.Over }

-- ---- the calls that hear nothing

abbrev pub phase_connected : Progress → RecordPhase → RecordPhase
phase_connected (stages.Imaging port false) phase = phases.Head
phase_connected progress phase = phase

pub record IsNewClient (job : Job) (c : ClientState) : Type 0 where
  pub value : c ≡ record {
    target = target_of job;
    outcome = Running;
    progress = stages.Greeting;
    notes = record { word = 0; left = job.settings.items; reports = []; known = []; file = 1 };
    out = c.out;
    input = record { rest = []; fault = None };
    phase = phases.Head;
    join = c.join;
  }
  pub text : optional_request_text (request_for (target_of job) 0 stages.Greeting) ≡ Some c.out
  pub serves : ClientRepresents empty_history c

-- ---- the file

-- the next page of a batch: a new join, and its START
pub record TurnsPage (old new : ClientState) : Type 0 where
  pub rest : new
      ≡ record old {
        progress = stages.Starting true;
        notes = record old.notes { file = next_file old.notes.file };
        out =
            new.out;
        join = new.join;
      }
  pub text : behind old.out (optional_request_text (request_for old.target old.notes.word (stages.Starting true)))
      ≡ Some new.out
  pub stands : Represents empty_history new.join

-- **a page's file taken (`TakesPage`)**: bytes before the file's last; or the last one, so that the file denotes the
-- picture of the page's frames, START is asked for, and a new join stands.
pub data TakesPage (old : ClientState) (past : JoinHistory) (bytes : List ℕ) (new : ClientState) : Type 0 where
  Stays : (IsWhole (past.given ++ bytes) → ⊥) → new ≡ record old { join = new.join }
      → ClientRepresents (after_pull bytes past) new → TakesPage old past bytes new
  Turns : IsWhole (past.given ++ bytes)
      → ((p : Picture) → ShowsFrames past.ended p → IsPictureFile (past.given ++ bytes) p)
      → TurnsPage old new → ClientRepresents empty_history new → TakesPage old past bytes new
