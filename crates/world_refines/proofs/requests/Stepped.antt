-- A request that is answered is a step of the model, and the session goes on with the next.
use Rattle.std.proofs.Common.{◌≡◌, ◌≢◌, ◌∙◌, ℕ, List, [], ◌∷◌, Option, true, sym, ap}
use Rattle.sane_fixed.specs.declared.device_info.DeviceInfo.{DeviceInfo}
use Rattle.md5_auth.specs.declared.users.Entry.{Entry}
use Rattle.wire_message.specs.declared.message.Request.{Request as Asked}
use Rattle.saned_requests.specs.declared.request_answer.RequestAnswer.{RequestAnswer}
use Rattle.saned_requests.specs.RequestAnswers.{Answers, RequestContext}
use Rattle.saned_core.specs.Feeding.{session_goes_on}
use Rattle.scan_job.specs.declared.job.Job.{Job}
use Rattle.system_model.specs.AbstractMessages.{Challenge, AbstractRequest}
use Rattle.system_model.specs.Devices.{Make}
use Rattle.system_model.specs.AbstractDevices.{AbstractDevice}
use Rattle.system_model.specs.Daemon.{FailureCounts}
use Rattle.system_model.specs.Actions as actions
use Rattle.system_model.specs.Actions.{answer_next, job_after_answer, device_after_answer}
use Rattle.system_model.specs.SystemStates.{JobState, SystemState, listed_devices, make_for, device_for}
use Rattle.system_model.specs.Transitions.{By, IsEnabled, MayFail, after_transition, state_with_job}
use Rattle.world_refines.proofs.requests.Asked.{IsSession}
use Rattle.world_refines.proofs.requests.Replied.{IsAnswered}
use Rattle.world_refines.proofs.requests.Served.{devices_by, serving}
use Rattle.world_refines.proofs.state.StaysSteady.{answers_keep}

-- what stands behind the step
pub step_is : (s : SystemState) (i : ℕ) (r : AbstractRequest) (rest : List AbstractRequest) (challenge : Challenge) (fault : Option FailureCounts) → (s.job i).todo ≡ r ∷ rest →
    after_transition s (By i (actions.Answers challenge fault)) ≡ state_with_job s i (job_after_answer (s.job i) (serving i s.make (listed_devices s) s.device (s.job i) r challenge fault)) (serving i s.make (listed_devices s) s.device (s.job i) r challenge fault).device
step_is s i r rest challenge fault e =
    ap (λ (todo : List AbstractRequest). state_with_job s i (answer_next i (make_for s i) (listed_devices s) (s.job i) (device_for s i) challenge fault todo) (device_after_answer i (make_for s i) (listed_devices s) (s.job i) (device_for s i) challenge fault todo)) e
