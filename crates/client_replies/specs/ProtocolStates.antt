-- The protocol state of a job: how it goes on by each reply, and which histories of the join fit what it waits for.
use Rattle.std.specs.Prelude.{ℕ, ◌≡◌, ◌⊎◌, ◌+◌, nat_lt, if◌then◌else◌, ◌&&◌, ◌++◌, Bool, true, false, Option, Some}
use Rattle.std.specs.Prelude.{None, List, []}
use Rattle.sane_fixed.specs.declared.status.Status.{Status}
use Rattle.sane_fixed.specs.declared.status.Status.TheVariants as statuses
use Rattle.sane_fixed.specs.declared.params.Params.{Params}
use Rattle.sane_fixed.specs.declared.byte_order.ByteOrder.{ByteOrder}
use Rattle.option_desc.specs.declared.descriptor.Descriptor.{Descriptor}
use Rattle.option_desc.specs.declared.value.Value.{Value}
use Rattle.sane_fixed.specs.declared.device_info.DeviceInfo.{DeviceInfo}
use Rattle.netpbm.specs.Pnm.{IsWhole}
use Rattle.page_picture.specs.Shows.{Frame}
use Rattle.frame_join.specs.FrameHistory.{JoinHistory, empty_history, after_begin, IsJoined, is_joined}
use Rattle.wire_message.specs.declared.message.Reply.{Reply}
use Rattle.wire_message.specs.declared.message.Reply.TheVariants as replies
use Rattle.scan_job.specs.declared.job.Job.{Job}
use Rattle.scan_job.specs.declared.job.Task.{Task}
use Rattle.scan_job.specs.declared.job.Task.TheVariants as tasks
use Rattle.scan_job.specs.declared.outcome.Outcome.{Outcome}
use Rattle.scan_job.specs.declared.outcome.Outcome.TheVariants.{Running, Done, Ended}
use Rattle.client_replies.specs.declared.progress.Link.{Link}
use Rattle.client_replies.specs.declared.progress.Link.TheVariants as links
use Rattle.scan_job.specs.declared.report.Reports.{Reports}
use Rattle.client_replies.specs.declared.progress.JobTarget.{JobTarget}
use Rattle.client_replies.specs.declared.progress.Progress.{Progress}
use Rattle.client_replies.specs.declared.progress.Progress.TheVariants as stages
use Rattle.client_replies.specs.declared.progress.Notes.{Notes}
use Rattle.client_replies.specs.declared.progress.Next.{Next}
use Rattle.client_replies.specs.declared.progress.Next.TheVariants.{Wait, Finish, Stop}
use Rattle.client_replies.specs.ReplyTurns.{Turn, turn, stop_by_answer, stop_malformed, begun_by, turn_after_reply}

abbrev pub is_running : Outcome → Bool
is_running Running = true
is_running (Done reports) = false
is_running (Ended status why) = false

-- ---- how a job goes on

-- **protocol state (`ProtocolState`, `HistoryFits`)**: the outcome, what is waited for and known, and the history of
-- the join. A history fits what is waited for: the frames of a scan that is done show a picture, and a job that ended
-- has no whole file.
--
-- The protocol state so far, and what was told to the join and given of the file under way.
pub record ProtocolState : Type 0 where
  pub outcome : Outcome
  pub progress : Progress
  pub notes : Notes
  pub history : JoinHistory

abbrev pub options_shown : Task → List (Descriptor × Option Value) → List (Descriptor × Option Value)
options_shown tasks.Show known = known
options_shown task known = []

abbrev pub reports_of : Task → Notes → List DeviceInfo → Reports
reports_of task notes devices =
    record { settings = notes.reports; devices = devices; options = options_shown task notes.known }

abbrev pub next_outcome : Task → Notes → Next → Outcome
next_outcome task notes (Wait progress) = Running
next_outcome task notes (Finish devices) = Done (reports_of task notes devices)
next_outcome task notes (Stop status why) = Ended status why

abbrev pub next_progress : Next → Progress
next_progress (Wait progress) = progress
next_progress (Finish devices) = stages.Over
next_progress (Stop status why) = stages.Over

-- the reports leave with the outcome
abbrev pub next_notes : Notes → Next → Notes
next_notes notes (Wait progress) = notes
next_notes notes (Finish devices) = record notes { reports = []; known = [] }
next_notes notes (Stop status why) = notes

abbrev pub protocol_after_turn : Task → Turn → JoinHistory → ProtocolState
protocol_after_turn task t past = record {
  outcome = next_outcome task t.notes t.next;
  progress = next_progress t.next;
  notes = next_notes t.notes t.next;
  history = past;
}

-- the reply to GET_PARAMETERS begins a frame
pub record FrameTurn : Type 0 where
  pub next : Next
  pub history : JoinHistory

abbrev pub shaped_by : Status → ℕ → ByteOrder → Params → JoinHistory → FrameTurn
shaped_by statuses.Good port order params past = record {
  next = begun_by (after_begin params order false past).fault port;
  history = after_begin params order false past;
}
shaped_by status port order params past = record { next = stop_by_answer status; history = past }

abbrev pub after_params_reply : ℕ → ByteOrder → JoinHistory → Reply → FrameTurn
after_params_reply port order past (replies.GetParameters status params) = shaped_by status port order params past
after_params_reply port order past reply = record { next = stop_malformed; history = past }

-- a reply: what it makes of the job
pub record Answer : Type 0 where
  pub turn : Turn
  pub history : JoinHistory

abbrev pub heard_at : Progress → JobTarget → Notes → JoinHistory → Reply → Answer
heard_at (stages.Shaping port order) target notes past reply =
    record {
      turn = turn notes (after_params_reply port order past reply).next;
      history =
          (after_params_reply port order past reply).history;
    }
heard_at progress target notes past reply =
    record { turn = turn_after_reply target progress notes reply; history = past }

abbrev pub answer_to : JobTarget → ProtocolState → Reply → Answer
answer_to target protocol reply = heard_at protocol.progress target protocol.notes protocol.history reply

abbrev pub after_reply : JobTarget → ProtocolState → Reply → ProtocolState
after_reply target protocol reply =
    protocol_after_turn target.task (answer_to target protocol reply).turn (answer_to target protocol reply).history

-- ---- which histories a client stands for

-- no fault stands, no frame is under way, and the picture is not whole
abbrev pub IsBetweenFrames : JoinHistory → Type 0
IsBetweenFrames past = (past.fault ≡ None) × (past.under ≡ None) × (is_joined past.ended ≡ false)

-- no fault stands, and a frame is under way
abbrev pub IsWithinFrame : JoinHistory → Type 0
IsWithinFrame past = (past.fault ≡ None) × ((f : Frame) × (past.under ≡ Some f))

-- which jobs wait for what
abbrev pub lists : Task → Bool
lists tasks.List = true
lists task = false

abbrev pub shows : Task → Bool
shows tasks.Show = true
shows task = false

abbrev pub is_batch : Task → Bool
is_batch (tasks.Batch count) = true
is_batch task = false

abbrev pub scans : Task → Bool
scans tasks.Scan = true
scans (tasks.Batch count) = true
scans task = false

abbrev pub suits : Task → Progress → Bool
suits task stages.Greeting = true
suits task stages.Listing = lists task
suits task (stages.Getting n kind size) = shows task
suits task (stages.Starting first) = scans task
suits task (stages.Shaping port order) = scans task
suits task (stages.Imaging port opened) = scans task
suits task stages.Turning = is_batch task
suits task stages.Over = false
suits task progress = true

abbrev pub FitsAt : Progress → JoinHistory → Type 0
FitsAt (stages.Imaging port opened) past = IsWithinFrame past
FitsAt stages.Turning past = IsJoined past × (IsWhole past.given → ⊥)
FitsAt progress past = IsBetweenFrames past

-- a scan that is done has its whole picture, and a batch that of its last page, or it began none after the page before;
-- no other job has one
abbrev pub FitsDone : Task → JoinHistory → Type 0
FitsDone tasks.Scan past = IsJoined past
FitsDone (tasks.Batch count) past = IsJoined past ⊎ IsBetweenFrames past
FitsDone task past = IsJoined past → ⊥

-- a job that has ended otherwise has no whole picture, or, in a batch, one whose file was not given to its last byte
abbrev pub FitsEnded : Task → JoinHistory → Type 0
FitsEnded (tasks.Batch count) past = IsJoined past → IsWhole past.given → ⊥
FitsEnded task past = IsJoined past → ⊥

abbrev pub HistoryFits : Task → Outcome → Progress → JoinHistory → Type 0
HistoryFits task Running progress past = (suits task progress ≡ true) × FitsAt progress past
HistoryFits task (Done reports) progress past = FitsDone task past
HistoryFits task (Ended status why) progress past = FitsEnded task past

-- ---- the calls that hear nothing

-- the port of the data connection that is wanted
abbrev pub wanted_port : Progress → Option ℕ
wanted_port (stages.Imaging port false) = Some port
wanted_port progress = None

abbrev pub progress_connected : Progress → Progress
progress_connected (stages.Imaging port false) = stages.Imaging port true
progress_connected progress = progress

-- from the wanted port to the end record
abbrev pub is_imaging : Progress → Bool
is_imaging (stages.Imaging port opened) = true
is_imaging progress = false

abbrev pub is_lost_by : Link → Outcome → Progress → Bool
is_lost_by links.Control outcome progress = is_running outcome
is_lost_by links.Image outcome progress = is_running outcome && is_imaging progress

-- a new client of a job
abbrev pub target_of : Job → JobTarget
target_of job = record { user = job.user; password = job.password; device = job.device; task = job.task }

-- how a job goes on fits what was told to the join
abbrev pub NextFits : Task → JoinHistory → Next → Type 0
NextFits task past (Wait progress) = (suits task progress ≡ true) × FitsAt progress past
NextFits task past (Finish devices) = FitsDone task past
NextFits task past (Stop status why) = FitsEnded task past

abbrev pub IsWait : Next → Type 0
IsWait (Wait progress) = Unit {0}
IsWait (Finish devices) = ⊥
IsWait (Stop status why) = ⊥

-- ---- the file

abbrev pub is_ended : Outcome → Bool
is_ended Running = false
is_ended (Done reports) = false
is_ended (Ended status why) = true

abbrev pub is_turning : Progress → Bool
is_turning stages.Turning = true
is_turning progress = false

-- a job of a batch that runs waits for its page's file to be taken
abbrev pub turns : Outcome → Progress → Bool
turns outcome progress = is_running outcome && is_turning progress

abbrev pub next_file : ℕ → ℕ
next_file file = if nat_lt file 4294967295 then file + 1 else file

-- the data of a frame is read
abbrev pub is_receiving : Outcome → Progress → Bool
is_receiving outcome (stages.Imaging port opened) = is_running outcome && opened
is_receiving outcome progress = false

-- so many bytes more came of the frame under way
abbrev pub with_payload : JoinHistory → Frame → List ℕ → JoinHistory
with_payload past frame given = record past { under = Some (record frame { payload = frame.payload ++ given }) }

-- the next page of a batch
abbrev pub protocol_of_next_page : ProtocolState → ProtocolState
protocol_of_next_page protocol =
    record protocol {
      progress = stages.Starting true;
      notes = record protocol.notes { file = next_file protocol.notes.file };
      history =
          empty_history;
    }
