-- That a reply makes of a client what its decoded reply makes of the reading.
use Rattle.std.specs.Prelude.{ℕ, ◌≡◌, List}
use Rattle.scan_job.specs.declared.outcome.Why.TheVariants as whys
use Rattle.sane_fixed.specs.declared.status.Status.TheVariants as statuses
use Rattle.sane_fixed.specs.declared.device_info.DeviceInfo.{DeviceInfo}
use Rattle.page_picture.specs.Shows.{Frame}
use Rattle.wire_message.specs.declared.message.Reply.{Reply}
use Rattle.scan_job.specs.declared.outcome.Outcome.TheVariants.{Running}
use Rattle.client_replies.specs.declared.progress.JobTarget.{JobTarget}
use Rattle.client_replies.specs.ProtocolStates.{ProtocolState, HistoryFits, after_reply}
use Rattle.system_model.specs.Client as model
use Rattle.system_model.specs.ClientReplies.{hear_in}
use Rattle.client_refines.specs.DecodedReplies.{DecodedReply, Before, Says, Demands, decoded_reply_at, IsShortAt}
use Rattle.client_refines.specs.ClientRefinement.{task_of, ClientRefines}

-- the password is not sent: the job ends
abbrev pub client_refusing : model.ClientView → model.ClientView
client_refusing m = model.with_ending statuses.AccessDenied whys.Plain m

-- **heard (`HeardAs`), read and closed (`protocol_after_bytes`, `protocol_after_end`), turned
-- (`protocol_of_next_page`)**: how the client reads once a reply, bytes of a frame, its end record came, and once it
-- turned to the next page.
abbrev pub HeardAs : (DeviceInfo → ℕ) → JobTarget → model.AbstractJob → List (List Frame) → ProtocolState
    → model.ClientView → DecodedReply → Type 0
HeardAs place target job pages protocol m Before = ClientRefines place target job pages protocol m
HeardAs place target job pages protocol m (Says answer) =
    ClientRefines place target job pages protocol (hear_in m.stage job m answer)
HeardAs place target job pages protocol m Demands = ClientRefines place target job pages protocol (client_refusing m)

-- what a reply makes of a client is what its decoded reply makes of the reading
abbrev pub RepliesAreHeardAlike : Type 0
RepliesAreHeardAlike =
    (place : DeviceInfo → ℕ) (target : JobTarget) (job : model.AbstractJob) (pages : List (List Frame))
    (protocol : ProtocolState) (m : model.ClientView) (r : Reply)
    → job.task ≡ task_of target.task → IsShortAt protocol.progress r → protocol.outcome ≡ Running
    → HistoryFits target.task Running protocol.progress protocol.history
    → ClientRefines place target job pages protocol m
    → HeardAs place target job pages (after_reply target protocol r) m (decoded_reply_at place protocol.progress r)
