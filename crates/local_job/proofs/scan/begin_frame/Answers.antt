use Rattle.std.proofs.Common.{◌≡◌, ◌∙◌, sym, subst, Some, true}
use Rattle.device_api.specs.State.{DeviceState}
use Rattle.frame_join.specs.FrameHistory.{JoinHistory, after_begin, is_accepted}
use Rattle.frame_join.specs.JoinStates.{Represents, is_out_of_memory}
use Rattle.local_job.proofs.JoinedPasses.{begun_well, begin_cause}
use Rattle.local_job.proofs.OutputEnds.{join_spares}
use Rattle.local_job.proofs.scan.begin_frame.Goals as goal

pub returns-in-None-clause-begun : goal.returns-in-None-clause-begun
returns-in-None-clause-begun g c = λ past is.
    let s : DeviceState = (goal.Device-dyn g c.args.device.now).state c.args.device.now.1 in
    let starved = is_out_of_memory c.begin.new.self in
    let stood = c.begin.ensures.carried past is.stands in
    let none = sym (c.fault.ensures _ stood) ∙ c.in-None.is in
    rw (← c.params-params.ensures.0, ← c.order.ensures) (subst (λ (q : JoinHistory). Represents q c.begin.new.self) (begun_well past _ _ starved is.no_fault is.none_under is.not_whole none) stood)

pub returns-in-Some-clause-cause : goal.returns-in-Some-clause-cause
returns-in-Some-clause-cause g c = λ past is accepted.
    let starved = is_out_of_memory c.begin.new.self in
    let stood = c.begin.ensures.carried past is.stands in
    let stands : (after_begin c.params-params.result c.order.result starved past).fault ≡ Some c.in-Some.fault = sym (c.fault.ensures _ stood) ∙ c.in-Some.is in
    let allowed : is_accepted past.ended c.params-params.result c.order.result ≡ true = rw (c.params-params.ensures.0, c.order.ensures) accepted in
    c.stop_of_join.ensures ∙ begin_cause past _ _ _ starved c.in-Some.fault is allowed stands

pub returns-in-Some-clause-output : goal.returns-in-Some-clause-output
returns-in-Some-clause-output g c = rw c.stop_of_join.ensures (join_spares c.in-Some.fault)
