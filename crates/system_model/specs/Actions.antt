-- What happens, as far as messages tell. All that chance decides is in a step's arguments, so that what stands after it
-- is a function.
use Rattle.std.specs.Prelude.{ℕ, List, [], ◌∷◌, ◌++◌, Bool, true, false, Option, Some, None, if◌then◌else◌}
use Rattle.scan_job.specs.declared.outcome.Why.TheVariants.{Cancelled, Lost, Memory}
use Rattle.sane_fixed.specs.declared.status.Status.{Status}
use Rattle.sane_fixed.specs.declared.status.Status.TheVariants.{Eof, IoError, NoMem}
use Rattle.sane_fixed.specs.declared.status.Status.TheVariants as statuses
use Rattle.system_model.specs.AbstractMessages.{Challenge, AbstractRequest, Init, AbstractReply}
use Rattle.system_model.specs.Devices.{Make}
use Rattle.system_model.specs.Client.{ClientView, with_progress, Greeting, requests_sent, abstract_farewell}
use Rattle.system_model.specs.ClientReplies.{hear_in, client_after_bytes, finish_in, client_after_stop}
use Rattle.system_model.specs.AbstractDevices.{AbstractDevice, Begin, put_down, device_let_go, is_held_by}
use Rattle.system_model.specs.AbstractDevices.{without_first, without_prefix, read_on, ended_phase}
use Rattle.system_model.specs.Daemon.{TransferState, Quiet, Waiting, Streaming, Ending, FailureCounts, Environment}
use Rattle.system_model.specs.Daemon.{AnswerEffect, answer}
use Rattle.system_model.specs.Causes.{Cause, GaveUp, LinkLost, LinkOutOfMemory, WasUnsaid, ClientOutOfMemory}
use Rattle.system_model.specs.Causes.{SourceFailed, NamesEof, Names}
use Rattle.system_model.specs.SystemStates.{SessionView, JobState}

-- **action, transition (`Action`, `Transition`, `after_transition`), enabled transition (`IsEnabled`)**: what comes to
-- one job: a connection, an answer, a reply heard, a record sent or read, a loss, a cancel, out of memory, a session
-- that breaks off. A session breaks off for lack of memory, or at a due reply that is past the limits of the wire
-- (which explains no ending). Besides: a page laid in, a device unplugged, or used by a client without a job. All
-- chance is in a step's arguments, so what stands after it is a function. `IsEnabled` says when each may come.
pub data Action : Type 0 where
  -- the control connection is made
  Connects : Action
  -- the daemon answers the next request; where it asks, with this challenge; where its page source fails, so
  Answers : (challenge : Challenge) → (fault : Option FailureCounts) → Action
  -- the client takes the next reply
  Hears : (reply : AbstractReply) → Action
  -- the image connection is made
  Dials : Action
  -- a record of these bytes is sent
  Turns : (bytes : List ℕ) → Action
  -- the end record is sent: the frame is at its end; a status was named in place of its data, or EOF was; its source
  -- failed; it was cancelled
  TurnsLast : Action
  TurnsNamed : (status : Status) → Action
  TurnsShort : Action
  TurnsFault : (fault : FailureCounts) → Action
  TurnsOff : Action
  -- the client takes bytes of a frame, or its end
  Reads : (bytes : List ℕ) → Action
  Finishes : (status : Status) → Action
  -- losses, by out of memory or not; the end of the session by the daemon, for lack of memory or at a reply that cannot
  -- be said; out of memory at the client; a cancel
  Loses : (memory : Bool) → Action
  LosesImage : (memory : Bool) → Action
  Breaks : (memory : Bool) → Action
  RunsOutOfMemory : Action
  Stops : Action

-- what was noted first stays
abbrev pub first_noted : {X : Type 0} → Option X → Option X → Option X
first_noted None old = old
first_noted (Some x) None = Some x
first_noted (Some x) (Some old) = Some old

abbrev pub is_some_begun : List Begin → Bool
is_some_begun [] = false
is_some_begun (b ∷ more) = true

-- WHAT COMES OF A JOB
abbrev pub after_connection : JobState → JobState
after_connection p =
    record p { client = with_progress Greeting p.client; todo = Init ∷ []; linked = true; served = true }

abbrev pub environment_of : SessionView → List ℕ → Challenge → Option FailureCounts → Environment
environment_of b listed challenge fault =
    record {
      fault = fault;
      challenge = challenge;
      listed = listed;
      guarded = b.job.guarded;
      allows =
          b.job.allows;
      again = is_some_begun b.started;
    }

abbrev pub served_by : ℕ → Make → List ℕ → JobState → AbstractDevice → Challenge → Option FailureCounts
    → AbstractRequest → AnswerEffect
served_by i k listed p dev challenge fault q =
    answer i k dev p.session.transfer p.session.awaited (environment_of p.session listed challenge fault) q

abbrev pub session_after_answer : SessionView → AnswerEffect → SessionView
session_after_answer b v =
    record b {
      transfer = v.transfer;
      awaited = v.awaited;
      sent = first_noted v.awaited b.sent;
      started = b.started ++ v.begun;
      shown = first_noted v.shown b.shown;
      met = v.causes ++ b.met;
    }

abbrev pub job_after_answer : JobState → AnswerEffect → JobState
job_after_answer p v =
    record p {
      todo = without_first p.todo;
      due = p.due ++ v.told;
      served = v.goes_on;
      session =
          session_after_answer p.session v;
    }

abbrev pub answer_next : ℕ → Make → List ℕ → JobState → AbstractDevice → Challenge → Option FailureCounts
    → List AbstractRequest → JobState
answer_next i k listed p dev challenge fault [] = p
answer_next i k listed p dev challenge fault (q ∷ rest) =
    job_after_answer p (served_by i k listed p dev challenge fault q)

-- what a client comes to know, and what it asks for then
abbrev pub job_after_learning : JobState → ClientView → JobState
job_after_learning p m = record p { client = m; todo = p.todo ++ requests_sent p.session.job.task m.stage }

abbrev pub job_after_reply : JobState → AbstractReply → JobState
job_after_reply p r =
    record (job_after_learning p (hear_in p.client.stage p.session.job p.client r)) { due = without_first p.due }

abbrev pub with_transfer : SessionView → TransferState → SessionView
with_transfer b c = record b { transfer = c }

abbrev pub with_flight : SessionView → List ℕ → SessionView
with_flight b bytes = record b { flight = bytes }

abbrev pub session_at_end : SessionView → Status → List Cause → SessionView
session_at_end b status causes = record b { ending = Some status; transfer = Quiet; met = causes ++ b.met }

abbrev pub turned_last : JobState → Status → List Cause → JobState
turned_last p status causes = record p { session = session_at_end p.session status causes }

abbrev pub with_nothing_in_flight : SessionView → SessionView
with_nothing_in_flight b = record b { flight = []; ending = None }

abbrev pub job_after_frame_end : JobState → Status → JobState
job_after_frame_end p status =
    record (job_after_learning p (finish_in p.client.stage p.session.job.task p.client status))
    { image = false; session = with_nothing_in_flight p.session }

abbrev pub loss_cause : Bool → Cause
loss_cause memory = if memory then LinkOutOfMemory else LinkLost

abbrev pub session_after_loss : SessionView → Cause → SessionView
session_after_loss b cause = record b { flight = []; ending = None; transfer = Quiet; met = cause ∷ b.met }

-- a frame that waits for its connection waits on where an earlier one's is lost
abbrev pub left_by_loss : TransferState → TransferState
left_by_loss Quiet = Quiet
left_by_loss Waiting = Waiting
left_by_loss Streaming = Quiet
left_by_loss Ending = Quiet

abbrev pub without_image : SessionView → Cause → SessionView
without_image b cause = record b { flight = []; ending = None; transfer = left_by_loss b.transfer; met = cause ∷ b.met }

-- the session is over: for lack of memory, or for a reply past the limits of the wire, which explains no ending
abbrev pub break_causes : Bool → List Cause
break_causes memory = (if memory then LinkOutOfMemory else WasUnsaid) ∷ []

abbrev pub without_session : Bool → SessionView → SessionView
without_session memory b = record b { transfer = Quiet; met = break_causes memory ++ b.met }

abbrev pub with_cause : SessionView → Cause → SessionView
with_cause b cause = record b { met = cause ∷ b.met }

-- the job of client i after an action
abbrev pub job_after_action : ℕ → Make → List ℕ → JobState → AbstractDevice → Action → JobState
job_after_action i k listed p dev Connects = after_connection p
job_after_action i k listed p dev (Answers challenge fault) = answer_next i k listed p dev challenge fault p.todo
job_after_action i k listed p dev (Hears reply) = job_after_reply p reply
job_after_action i k listed p dev Dials = record p { image = true; session = with_transfer p.session Streaming }
job_after_action i k listed p dev (Turns bytes) =
    record p { session = with_flight p.session (p.session.flight ++ bytes) }
job_after_action i k listed p dev TurnsLast = turned_last p Eof []
job_after_action i k listed p dev (TurnsNamed status) = turned_last p status (Names status ∷ [])
job_after_action i k listed p dev TurnsShort = turned_last p Eof (NamesEof ∷ [])
job_after_action i k listed p dev (TurnsFault fault) = turned_last p IoError (SourceFailed ∷ [])
job_after_action i k listed p dev TurnsOff = turned_last p statuses.Cancelled []
job_after_action i k listed p dev (Reads bytes) =
    record p {
      client = client_after_bytes p.client.stage p.client bytes;
      session =
          with_flight p.session (without_prefix bytes p.session.flight);
    }
job_after_action i k listed p dev (Finishes status) = job_after_frame_end p status
job_after_action i k listed p dev (Loses memory) =
    record p {
      client = client_after_stop IoError Lost p.client;
      todo = [];
      due = [];
      linked = false;
      image =
          false;
      served = false;
      session = session_after_loss p.session (loss_cause memory);
    }
job_after_action i k listed p dev (LosesImage memory) =
    record p {
      client = client_after_stop IoError Lost p.client;
      image = false;
      session =
          without_image p.session (loss_cause memory);
    }
job_after_action i k listed p dev (Breaks memory) =
    record p { todo = []; due = []; served = false; session = without_session memory p.session }
job_after_action i k listed p dev RunsOutOfMemory =
    record p { client = client_after_stop NoMem Memory p.client; session = with_cause p.session ClientOutOfMemory }
job_after_action i k listed p dev Stops =
    record p {
      client = client_after_stop statuses.Cancelled Cancelled p.client;
      todo =
          p.todo ++ abstract_farewell p.client.stage;
      session = with_cause p.session GaveUp;
    }

-- WHAT COMES OF ITS DEVICE
abbrev pub device_after_answer : ℕ → Make → List ℕ → JobState → AbstractDevice → Challenge → Option FailureCounts
    → List AbstractRequest → AbstractDevice
device_after_answer i k listed p dev challenge fault [] = dev
device_after_answer i k listed p dev challenge fault (q ∷ rest) = (served_by i k listed p dev challenge fault q).device

-- a frame whose link is lost while it streams is cancelled
abbrev pub image_off : ℕ → TransferState → AbstractDevice → AbstractDevice
image_off i Quiet dev = dev
image_off i Waiting dev = dev
image_off i Streaming dev = if is_held_by i dev.holder then put_down dev else dev
image_off i Ending dev = dev

abbrev pub device_after : ℕ → Make → List ℕ → JobState → AbstractDevice → Action → AbstractDevice
device_after i k listed p dev Connects = dev
device_after i k listed p dev (Answers challenge fault) = device_after_answer i k listed p dev challenge fault p.todo
device_after i k listed p dev (Hears reply) = dev
device_after i k listed p dev Dials = dev
device_after i k listed p dev (Turns bytes) = record dev { phase = read_on dev.phase bytes }
device_after i k listed p dev TurnsLast = record dev { phase = ended_phase dev.phase }
device_after i k listed p dev (TurnsNamed status) = put_down dev
device_after i k listed p dev TurnsShort = record dev { phase = ended_phase dev.phase }
device_after i k listed p dev (TurnsFault fault) = put_down dev
device_after i k listed p dev TurnsOff = dev
device_after i k listed p dev (Reads bytes) = dev
device_after i k listed p dev (Finishes status) = dev
device_after i k listed p dev (Loses memory) = device_let_go i dev
device_after i k listed p dev (LosesImage memory) = image_off i p.session.transfer dev
device_after i k listed p dev (Breaks memory) = device_let_go i dev
device_after i k listed p dev RunsOutOfMemory = dev
device_after i k listed p dev Stops = dev
