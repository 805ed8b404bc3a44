-- The client view of a client that is not connected yet, and a client view that is stopped.
use Rattle.std.proofs.Common.{◌≡◌, ◌∙◌, ℕ, List, true, false, refl, sym, ap, subst}
use Rattle.scan_job.specs.declared.outcome.Why.{Why}
use Rattle.sane_fixed.specs.declared.status.Status.{Status}
use Rattle.sane_fixed.specs.declared.device_info.DeviceInfo.{DeviceInfo}
use Rattle.page_picture.specs.Shows.{Frame}
use Rattle.scan_job.specs.declared.outcome.Outcome.{Outcome}
use Rattle.scan_job.specs.declared.outcome.Outcome.TheVariants as outcomes
use Rattle.client_replies.specs.declared.progress.JobTarget.{JobTarget}
use Rattle.client_replies.specs.ProtocolStates.{ProtocolState, is_running}
use Rattle.system_model.specs.Client.{Done, Ended, Idle, AbstractJob, ClientView, AbstractProgress, Running, JobStage}
use Rattle.system_model.specs.ClientReplies.{client_after_stop, stage_after_stop}
use Rattle.system_model.specs.Transitions.{IsUnderWay}
use Rattle.client_refines.specs.ClientRefinement.{ClientRefines}
use Rattle.client_refines.proofs.Outcomes.{outcomes_alike}
use Rattle.world_refines.specs.WorldRefinement.{client_at_greeting}

-- ---- it runs just where the model has it under way

pub under_by : (st : JobStage) (g : AbstractProgress) → st ≡ Running g → IsUnderWay st
under_by st g e = subst IsUnderWay (sym e) tt

pub woken_under : (st : JobStage) (m : ClientView) → m.stage ≡ st → IsUnderWay (client_at_greeting st m).stage → IsUnderWay st
woken_under Idle m e u = tt
woken_under (Running g) m e u = tt
woken_under Done m e u = subst IsUnderWay e u
woken_under (Ended status why) m e u = subst IsUnderWay e u

pub woken_runs : (st : JobStage) (m : ClientView) → m.stage ≡ st → IsUnderWay st → (g : AbstractProgress) × ((client_at_greeting st m).stage ≡ Running g)
woken_runs Idle m e u = (_, refl)
woken_runs (Running g) m e u = (g, e)
woken_runs Done m e u = absurd u
woken_runs (Ended status why) m e u = absurd u

pub is_run : (o : Outcome) → o ≡ outcomes.Running → is_running o ≡ true
is_run o e = ap is_running e

pub run_is : (o : Outcome) → is_running o ≡ true → o ≡ outcomes.Running
run_is outcomes.Running e = refl
run_is (outcomes.Done reports) e = absurd (let clash : false ≡ true = e in cc)
run_is (outcomes.Ended status why) e = absurd (let clash : false ≡ true = e in cc)

pub runs_under : (place : DeviceInfo → ℕ) (target : JobTarget) (job : AbstractJob) (pages : List (List Frame)) (protocol : ProtocolState) (m : ClientView) → ClientRefines place target job pages protocol (client_at_greeting m.stage m) → is_running protocol.outcome ≡ true → IsUnderWay m.stage
runs_under place target job pages protocol m r e =
    let g = (outcomes_alike place target job pages protocol (client_at_greeting m.stage m) r).runs (run_is protocol.outcome e) in
    woken_under m.stage m refl (under_by (client_at_greeting m.stage m).stage g.0 g.1)

pub under_runs : (place : DeviceInfo → ℕ) (target : JobTarget) (job : AbstractJob) (pages : List (List Frame)) (protocol : ProtocolState) (m : ClientView) → ClientRefines place target job pages protocol (client_at_greeting m.stage m) → IsUnderWay m.stage → is_running protocol.outcome ≡ true
under_runs place target job pages protocol m r u =
    let g = woken_runs m.stage m refl u in
    is_run protocol.outcome ((outcomes_alike place target job pages protocol (client_at_greeting m.stage m) r).runs_by g.0 g.1)

-- ---- what is stopped

pub stopped_woken : (status : Status) (why : Why) (st : JobStage) (m : ClientView) → m.stage ≡ st → IsUnderWay st → client_after_stop status why (client_at_greeting st m) ≡ client_at_greeting (stage_after_stop status why st) (client_after_stop status why m)
stopped_woken status why Idle m e u = ap (λ (s : JobStage). record m { stage = stage_after_stop status why s }) (sym e)
stopped_woken status why (Running g) m e u = refl
stopped_woken status why Done m e u = absurd u
stopped_woken status why (Ended earlier reason) m e u = absurd u

pub stopped_over : (status : Status) (why : Why) (st : JobStage) (m : ClientView) → m.stage ≡ st → (IsUnderWay st → ⊥) → client_after_stop status why m ≡ m
stopped_over status why Idle m e n = absurd (n tt)
stopped_over status why (Running g) m e n = absurd (n tt)
stopped_over status why Done m e n = ap (λ (s : JobStage). record m { stage = stage_after_stop status why s }) e ∙ ap (λ (s : JobStage). record m { stage = s }) (sym e)
stopped_over status why (Ended earlier reason) m e n = ap (λ (s : JobStage). record m { stage = stage_after_stop status why s }) e ∙ ap (λ (s : JobStage). record m { stage = s }) (sym e)

pub stops_over : (status : Status) (why : Why) (st : JobStage) → IsUnderWay (stage_after_stop status why st) → ⊥
stops_over status why Idle u = u
stops_over status why (Running g) u = u
stops_over status why Done u = u
stops_over status why (Ended earlier reason) u = u

pub stops_idle : (status : Status) (why : Why) (st : JobStage) → stage_after_stop status why st ≡ Idle → ⊥
stops_idle status why st e = stops_over status why st (subst IsUnderWay (sym e) tt)

pub woken_known : (st : JobStage) (m : ClientView) → (client_at_greeting st m).known ≡ m.known
woken_known Idle m = refl
woken_known (Running g) m = refl
woken_known Done m = refl
woken_known (Ended status why) m = refl
