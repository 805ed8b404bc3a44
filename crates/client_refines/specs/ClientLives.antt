-- That the beginning of a job, the ends that no message brings, and what the model does not speak of are read alike.
use Rattle.std.specs.Prelude.{ℕ, ◌≡◌, Some, List, [], map}
use Rattle.sane_fixed.specs.declared.status.Status.{Status}
use Rattle.sane_fixed.specs.declared.device_info.DeviceInfo.{DeviceInfo}
use Rattle.page_picture.specs.Shows.{Frame}
use Rattle.frame_join.specs.FrameHistory.{empty_history, after_pull}
use Rattle.scan_job.specs.declared.outcome.Outcome.{Outcome}
use Rattle.scan_job.specs.declared.outcome.Outcome.TheVariants.{Running, Done, Ended}
use Rattle.scan_job.specs.declared.outcome.Why.{Why}
use Rattle.client_replies.specs.declared.progress.JobTarget.{JobTarget}
use Rattle.client_replies.specs.declared.progress.Progress.TheVariants as stages
use Rattle.client_replies.specs.ProtocolStates.{ProtocolState, progress_connected}
use Rattle.system_model.specs.Client as model
use Rattle.system_model.specs.ClientReplies.{client_after_stop}
use Rattle.client_refines.specs.ClientRefinement.{requested_setting, ClientRefines, DoneAs, EndedAs}
use Rattle.scan_job.specs.declared.job.Task.{Task}
use Rattle.scan_job.specs.declared.report.Reports.{Reports}

-- ---- the beginning, and the ends that no message brings

-- **begun, stopped (`initial_protocol`, `stopped_by`), outcomes alike (`EndAlike`)**: a new client; a job that runs and
-- ends by no message. Outcomes are alike where the job runs, is done or has ended for both, with the same reports,
-- status and why.
abbrev pub initial_protocol : List (List ℕ × List ℕ) → ProtocolState
initial_protocol settings =
    record {
      outcome = Running;
      progress = stages.Greeting;
      notes =
          record { word = 0; left = settings; reports = []; known = []; file = 1 };
      history = empty_history;
    }

abbrev pub ClientsBeginAlike : Type 0
ClientsBeginAlike =
    (place : DeviceInfo → ℕ) (target : JobTarget) (job : model.AbstractJob) (settings : List (List ℕ × List ℕ))
    → map requested_setting settings ≡ job.settings
    → ClientRefines place target job [] (initial_protocol settings)
    (model.with_progress model.Greeting model.initial_client)

-- a job that runs ends so; another keeps its outcome
abbrev pub stopped_by : Status → Why → ProtocolState → Outcome → ProtocolState
stopped_by status why protocol Running = record protocol { outcome = Ended status why; progress = stages.Over }
stopped_by status why protocol (Done reports) = protocol
stopped_by status why protocol (Ended earlier reason) = protocol

abbrev pub JobsStopAlike : Type 0
JobsStopAlike =
    (place : DeviceInfo → ℕ) (target : JobTarget) (job : model.AbstractJob) (pages : List (List Frame))
    (protocol : ProtocolState) (m : model.ClientView) (status : Status) (why : Why)
    → ClientRefines place target job pages protocol m
    → ClientRefines place target job pages (stopped_by status why protocol protocol.outcome)
    (client_after_stop status why m)

-- ---- what no rule speaks of: bytes of the file that are taken, and the image connection at the client

abbrev pub PullsAndLinksAreUnseen : Type 0
PullsAndLinksAreUnseen =
    (place : DeviceInfo → ℕ) (target : JobTarget) (job : model.AbstractJob) (pages : List (List Frame))
    (protocol : ProtocolState) (m : model.ClientView) (bytes : List ℕ)
    → ClientRefines place target job pages protocol m
    → ClientRefines place target job pages (record protocol { history = after_pull bytes protocol.history }) m
    × ClientRefines place target job pages (record protocol { progress = progress_connected protocol.progress }) m

-- ---- outcomes

-- The job runs, is done or has ended for the client just where it does for the client view: done with the same reports,
-- ended with the same status and why.
pub record EndAlike (place : DeviceInfo → ℕ) (task : Task) (outcome : Outcome) (m : model.ClientView) : Type 0 where
  pub runs : outcome ≡ Running → (progress : model.AbstractProgress) × (m.stage ≡ model.Running progress)
  pub done : (reports : Reports) → outcome ≡ Done reports → DoneAs place task reports m
  pub ended : (status : Status) (why : Why) → outcome ≡ Ended status why → EndedAs status why m
  pub runs_by : (progress : model.AbstractProgress) → m.stage ≡ model.Running progress → outcome ≡ Running
  pub done_by : m.stage ≡ model.Done → (reports : Reports) × (outcome ≡ Done reports)
  pub ended_by : (status : Status) (why : Why) → m.stage ≡ model.Ended status why → outcome ≡ Ended status why

abbrev pub OutcomesAreAlike : Type 0
OutcomesAreAlike =
    (place : DeviceInfo → ℕ) (target : JobTarget) (job : model.AbstractJob) (pages : List (List Frame))
    (protocol : ProtocolState) (m : model.ClientView) → ClientRefines place target job pages protocol m
    → EndAlike place target.task protocol.outcome m
