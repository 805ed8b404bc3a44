-- That the data of a frame, its end and the turn to the next page of a batch make of a client what they make of the
-- reading.
use Rattle.std.specs.Prelude.{ℕ, ◌≡◌, Bool, false, Option, Some, None, List, [], ◌∷◌, ◌++◌}
use Rattle.sane_fixed.specs.declared.status.Status.{Status}
use Rattle.sane_fixed.specs.declared.device_info.DeviceInfo.{DeviceInfo}
use Rattle.page_picture.specs.Shows.{Frame}
use Rattle.frame_join.specs.FrameHistory.{JoinHistory, after_feed}
use Rattle.frame_join.specs.declared.join_stage.JoinFault.{JoinFault}
use Rattle.scan_job.specs.declared.job.Task.{Task}
use Rattle.scan_job.specs.declared.outcome.Outcome.TheVariants.{Running}
use Rattle.client_replies.specs.declared.progress.JobTarget.{JobTarget}
use Rattle.client_replies.specs.declared.progress.Progress.TheVariants as stages
use Rattle.client_replies.specs.ReplyTurns.{turn, stop_unjoined, frame_ended}
use Rattle.sane_fixed.specs.Status.{status_of}
use Rattle.client_replies.specs.ProtocolStates.{ProtocolState, HistoryFits, protocol_after_turn, protocol_of_next_page}
use Rattle.scan_job.specs.JobSize.{HasCount}
use Rattle.system_model.specs.Client as model
use Rattle.system_model.specs.ClientReplies.{client_after_bytes, finish_in}
use Rattle.client_refines.specs.ClientRefinement.{task_of, ClientRefines}

-- ---- the data of a frame

abbrev pub protocol_after_bytes_by : Task → ProtocolState → JoinHistory → Option JoinFault → ProtocolState
protocol_after_bytes_by task protocol past None = record protocol { history = past }
protocol_after_bytes_by task protocol past (Some fault) =
    protocol_after_turn task (turn protocol.notes (stop_unjoined fault)) past

-- what bytes of a frame make of a client that has memory
abbrev pub protocol_after_bytes : Task → ProtocolState → List ℕ → ProtocolState
protocol_after_bytes task protocol bytes =
    protocol_after_bytes_by task protocol (after_feed bytes false protocol.history)
    (after_feed bytes false protocol.history).fault

abbrev pub IsImagingProtocol : ProtocolState → Type 0
IsImagingProtocol protocol = (port : ℕ) × ((made : Bool) × (protocol.progress ≡ stages.Imaging port made))

abbrev pub BytesAreReadAlike : Type 0
BytesAreReadAlike =
    (place : DeviceInfo → ℕ) (target : JobTarget) (job : model.AbstractJob) (pages : List (List Frame))
    (protocol : ProtocolState) (m : model.ClientView) (bytes : List ℕ)
    → IsImagingProtocol protocol → protocol.outcome ≡ Running
    → HistoryFits target.task Running protocol.progress protocol.history
    → ClientRefines place target job pages protocol m
    → ClientRefines place target job pages (protocol_after_bytes target.task protocol bytes)
    (client_after_bytes m.stage m bytes)

-- how a job goes on at an end record
abbrev pub protocol_after_end : Task → ProtocolState → ℕ → ProtocolState
protocol_after_end task protocol n =
    protocol_after_turn task (turn protocol.notes (frame_ended task protocol.notes.file protocol.history n).next)
    (frame_ended task protocol.notes.file protocol.history n).history

abbrev pub FramesEndAlike : Type 0
FramesEndAlike =
    (place : DeviceInfo → ℕ) (target : JobTarget) (job : model.AbstractJob) (pages : List (List Frame))
    (protocol : ProtocolState) (m : model.ClientView) (n : ℕ) (status : Status)
    → job.task ≡ task_of target.task → HasCount target.task → status_of n ≡ Some status → IsImagingProtocol protocol
    → protocol.outcome ≡ Running → HistoryFits target.task Running protocol.progress protocol.history
    → ClientRefines place target job pages protocol m
    → ClientRefines place target job pages (protocol_after_end target.task protocol n)
    (finish_in m.stage job.task m status)

-- ---- the next page of a batch: the model asked for it already

abbrev pub PagesTurnUnseen : Type 0
PagesTurnUnseen =
    (place : DeviceInfo → ℕ) (target : JobTarget) (job : model.AbstractJob) (pages : List (List Frame))
    (protocol : ProtocolState) (m : model.ClientView)
    → protocol.outcome ≡ Running → protocol.progress ≡ stages.Turning
    → HistoryFits target.task Running protocol.progress protocol.history
    → ClientRefines place target job pages protocol m
    → ClientRefines place target job (pages ++ protocol.history.ended ∷ []) (protocol_of_next_page protocol) m
