-- The trace of a job over any peer: what it heard, read and gave, what it sent for that, and how it goes on by each.
use Rattle.std.specs.Prelude.{ℕ, ◌≡◌, true, Option, Some, List, [], ◌∷◌, ◌++◌}
use Rattle.page_picture.specs.Shows.{Frame}
use Rattle.netpbm.specs.Pnm.{IsWhole}
use Rattle.frame_join.specs.FrameHistory.{JoinHistory, empty_history, after_pull}
use Rattle.wire_message.specs.declared.message.Reply.{Reply}
use Rattle.wire_message.specs.declared.message.Reply.TheVariants as replies
use Rattle.data_records.specs.Records.{IsRecords}
use Rattle.sane_fixed.specs.declared.status.Status.TheVariants as statuses
use Rattle.scan_job.specs.declared.job.Job.{Job}
use Rattle.scan_job.specs.declared.outcome.Outcome.TheVariants.{Running}
use Rattle.client_replies.specs.declared.progress.JobTarget.{JobTarget}
use Rattle.client_replies.specs.declared.progress.Progress.TheVariants as stages
use Rattle.client_replies.specs.ReplyTurns.{turn, frame_ended, FrameEnd}
use Rattle.sane_fixed.specs.Status.{status_of}
use Rattle.client_replies.specs.ProtocolStates.{ProtocolState, with_payload, protocol_after_turn, after_reply}
use Rattle.client_replies.specs.ProtocolStates.{progress_connected, target_of, is_receiving, is_running, turns}
use Rattle.client_replies.specs.ProtocolStates.{protocol_of_next_page, wanted_port}
use Rattle.client_replies.specs.Asking.{request_for}
use Rattle.net_client.specs.ClientStates.{sends, sent_by}
use Rattle.net_client.specs.ReplyPieces.{IsReply}
use Rattle.net_client.specs.Sending.{optional_request_text}

-- **Trace**: what a job lived through: the text of its replies, the data of each frame that ended, what it sent for
-- them, and how far it is. An **event** is a reply, a data connection made, bytes of a frame, a frame's end with its
-- status, bytes of the file given, or the last bytes of a page's file, with which a batch turns to the next page. One
-- event goes on to the next trace as the client's rules say (`EventLeads`), and a run is events one after another
-- (`EventsLead`). They **end well** if each frame ended with EOF.
pub data TraceEvent : Type 0 where
  Replied : Reply → TraceEvent
  Opened : ℕ → TraceEvent
  Came : List ℕ → TraceEvent
  Finished : ℕ → TraceEvent
  Gave : List ℕ → TraceEvent
  Turned : List ℕ → TraceEvent

-- the text of the replies so far, the data of each frame that ended, the pages that were turned, what was sent for all
-- this, and how far the job is
pub record JobTrace : Type 0 where
  pub text : List ℕ
  pub streams : List (List ℕ)
  pub pages : List JoinHistory
  pub sent : List ℕ
  pub protocol : ProtocolState

-- the end of a frame, as the client's rules have it
abbrev pub frame_end_at : JobTarget → ProtocolState → ℕ → FrameEnd
frame_end_at target t status = frame_ended target.task t.notes.file t.history status

abbrev pub protocol_after_frame : JobTarget → ProtocolState → ℕ → ProtocolState
protocol_after_frame target t status =
    protocol_after_turn target.task (turn t.notes (frame_end_at target t status).next)
    (frame_end_at target t status).history

abbrev pub sent_after : JobTarget → ProtocolState → ℕ → Option (List ℕ)
sent_after target t status = sends target t.notes.word (frame_end_at target t status).next

-- One event. A reply is spelled for what a running job waits for, and is answered as the client's rules say. The data
-- of a frame are records of its payload that end with that status. A page is turned when its file is whole.
abbrev pub EventLeads : JobTarget → JobTrace → TraceEvent → JobTrace → Type 0
EventLeads target was (Replied r) now =
    (front : List ℕ) × (said : List ℕ) × (is_running was.protocol.outcome ≡ true)
    × IsReply was.protocol.progress front r × (sent_by target was.protocol r ≡ Some said)
    × (now ≡ record {
      text = was.text ++ front;
      streams = was.streams;
      pages = was.pages;
      sent =
          was.sent ++ said;
      protocol = after_reply target was.protocol r;
    })
EventLeads target was (Opened port) now =
    (is_running was.protocol.outcome ≡ true) × (wanted_port was.protocol.progress ≡ Some port)
    × (now ≡ record was { protocol = record was.protocol { progress = progress_connected was.protocol.progress } })
EventLeads target was (Came bytes) now =
    (frame : Frame) × (is_running was.protocol.outcome ≡ true) × (was.protocol.history.under ≡ Some frame)
    × (now ≡ record was
    { protocol = record was.protocol { history = with_payload was.protocol.history frame bytes } })
EventLeads target was (Finished status) now =
    (frame : Frame) × (stream : List ℕ) × (said : List ℕ)
    × (is_receiving was.protocol.outcome was.protocol.progress ≡ true) × (was.protocol.history.under ≡ Some frame)
    × IsRecords stream frame.payload status
    × (sent_after target was.protocol status ≡ Some said)
    × (now ≡ record {
      text = was.text;
      streams = was.streams ++ stream ∷ [];
      pages = was.pages;
      sent =
          was.sent ++ said;
      protocol = protocol_after_frame target was.protocol status;
    })
EventLeads target was (Gave bytes) now =
    now ≡ record was { protocol = record was.protocol { history = after_pull bytes was.protocol.history } }
EventLeads target was (Turned bytes) now =
    (said : List ℕ) × (turns was.protocol.outcome was.protocol.progress ≡ true)
    × IsWhole (was.protocol.history.given ++ bytes)
    × (optional_request_text (request_for target was.protocol.notes.word (stages.Starting true)) ≡ Some said)
    × (now ≡ record {
      text = was.text;
      streams = was.streams;
      pages =
          was.pages ++ after_pull bytes was.protocol.history ∷ [];
      sent = was.sent ++ said;
      protocol =
          protocol_of_next_page was.protocol;
    })

-- events one after another, the newest first
abbrev pub EventsLead : JobTarget → JobTrace → List TraceEvent → JobTrace → Type 0
EventsLead target first [] now = now ≡ first
EventsLead target first (event ∷ before) now = (was : JobTrace) × EventsLead target first before was
    × EventLeads target was event now

-- each frame that ended did so with EOF
abbrev pub EndWell : List TraceEvent → Type 0
EndWell [] = Unit {0}
EndWell (Finished status ∷ events) = (status_of status ≡ Some statuses.Eof) × EndWell events
EndWell (event ∷ events) = EndWell events

-- ---- the ports of the data connections, the newest first

-- that of a START reply by which a frame begins
abbrev pub port_named : Reply → List ℕ
port_named (replies.Start statuses.Good port order []) = port ∷ []
port_named reply = []

abbrev pub ports_named : List TraceEvent → List ℕ
ports_named [] = []
ports_named (Replied reply ∷ events) = port_named reply ++ ports_named events
ports_named (event ∷ events) = ports_named events

-- a job before the first reply
abbrev pub initial_trace : Job → JobTrace
initial_trace job = record {
  text = [];
  streams = [];
  pages = [];
  sent = [];
  protocol =
      record {
        outcome = Running;
        progress = stages.Greeting;
        notes =
            record { word = 0; left = job.settings.items; reports = []; known = []; file = 1 };
        history = empty_history;
      };
}

-- the bytes that a job read on the control connection and wrote there, what it read of no reply yet, and what is to go
-- out
pub record ControlBytes : Type 0 where
  pub read_ : List ℕ
  pub wrote : List ℕ
  pub rest : List ℕ
  pub left : List ℕ

-- **Did** (`BytesMatchTrace`, `ControlBytes`): a front of what was read spells the replies of the trace, and the rest
-- waits. What was written, with what is left to go out, is the greeting and what the trace sent.
pub record BytesMatchTrace (job : Job) (trace : JobTrace) (bytes : ControlBytes) : Type 0 where
  pub events : List TraceEvent
  pub hello : List ℕ
  pub runs : EventsLead (target_of job) (initial_trace job) events trace
  pub read_is : bytes.read_ ≡ trace.text ++ bytes.rest
  pub hello_is : optional_request_text (request_for (target_of job) 0 stages.Greeting) ≡ Some hello
  pub wrote_is : hello ++ trace.sent ≡ bytes.wrote ++ bytes.left
