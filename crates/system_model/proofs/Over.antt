-- A JOB THAT IS OVER STAYS AS IT IS, and what ends a job.
use Rattle.std.proofs.Common.{◌≡◌, ◌∙◌, ℕ, List, [], ◌∷◌, Option, refl, sym, ap, subst}
use Rattle.scan_job.specs.declared.outcome.Why.{Why}
use Rattle.scan_job.specs.declared.outcome.Why.TheVariants.{Lost, Cancelled, Memory}
use Rattle.sane_fixed.specs.declared.status.Status.{Status}
use Rattle.sane_fixed.specs.declared.status.Status.TheVariants.{IoError, NoMem}
use Rattle.sane_fixed.specs.declared.status.Status.TheVariants as statuses
use Rattle.system_model.specs.AbstractMessages.{Challenge, AbstractRequest}
use Rattle.system_model.specs.Devices.{Make}
use Rattle.system_model.specs.Client.{JobStage, Idle, Running, Done, Ended, ClientView}
use Rattle.system_model.specs.ClientReplies.{stage_after_stop, client_after_stop}
use Rattle.system_model.specs.AbstractDevices.{AbstractDevice}
use Rattle.system_model.specs.Daemon.{FailureCounts}
use Rattle.system_model.specs.SystemStates.{JobState, listed_devices, make_for, device_for}
use Rattle.system_model.specs.Actions
use Rattle.system_model.specs.Actions.{Action, answer_next, job_after_action}
use Rattle.system_model.specs.Transitions.{IsUnderWay, IsRunning, IsImaging, IsActionEnabled}
use Rattle.system_model.specs.ModelPromises.{OutcomesLast, IsEndingAction, EndsEnd}
use Rattle.system_model.proofs.OtherJobs.{put_same}

same_stage : (status : Status) (why : Why) (st : JobStage) → (IsUnderWay st → ⊥) → stage_after_stop status why st ≡ st
same_stage status why Idle n = absurd (n tt)
same_stage status why (Running g) n = absurd (n tt)
same_stage status why Done n = refl
same_stage status why (Ended s w) n = refl

same_mind : (status : Status) (why : Why) (m : ClientView) → (IsUnderWay m.stage → ⊥) → client_after_stop status why m ≡ m
same_mind status why m n = ap (λ (st : JobStage). record m { stage = st }) (same_stage status why m.stage n)

runs : (st : JobStage) → IsRunning st → IsUnderWay st
runs st r = subst IsUnderWay (sym r.1) tt

images : (st : JobStage) → IsImaging st → IsUnderWay st
images st r = subst IsUnderWay (sym r.2) tt

next_mind : (i : ℕ) (k : Make) (ds : List ℕ) (p : JobState) (dev : AbstractDevice) (c : Challenge) (f : Option FailureCounts) (qs : List AbstractRequest) → (answer_next i k ds p dev c f qs).client ≡ p.client
next_mind i k ds p dev c f [] = refl
next_mind i k ds p dev c f (q ∷ rest) = refl

lasts : (i : ℕ) (k : Make) (ds : List ℕ) (p : JobState) (dev : AbstractDevice) (x : Action) → IsActionEnabled i k p dev x → (IsUnderWay p.client.stage → ⊥) → (job_after_action i k ds p dev x).client ≡ p.client
lasts i k ds p dev Actions.Connects l n = absurd (n (subst IsUnderWay (sym l) tt))
lasts i k ds p dev (Actions.Answers c f) l n = next_mind i k ds p dev c f p.todo
lasts i k ds p dev (Actions.Hears r) l n = absurd (n (runs p.client.stage l.0))
lasts i k ds p dev (Actions.Reads bytes) l n = absurd (n (images p.client.stage l.0))
lasts i k ds p dev (Actions.Finishes status) l n = absurd (n (images p.client.stage l.0))
lasts i k ds p dev (Actions.Loses memory) l n = same_mind IoError Lost p.client n
lasts i k ds p dev (Actions.LosesImage memory) l n = same_mind IoError Lost p.client n
lasts i k ds p dev Actions.RunsOutOfMemory l n = same_mind NoMem Memory p.client n
lasts i k ds p dev Actions.Stops l n = same_mind statuses.Cancelled Cancelled p.client n
lasts i k ds p dev x l n = refl

pub outcomes_last : OutcomesLast
outcomes_last s i x l n =
    ap (λ (q : JobState). q.client) (put_same s.job i (job_after_action i (make_for s i) (listed_devices s) (s.job i) (device_for s i) x)) ∙ lasts i (make_for s i) (listed_devices s) (s.job i) (device_for s i) x l n

over : (status : Status) (why : Why) (st : JobStage) → IsUnderWay (stage_after_stop status why st) → ⊥
over status why Idle u = u
over status why (Running g) u = u
over status why Done u = u
over status why (Ended s w) u = u

ends : (i : ℕ) (k : Make) (ds : List ℕ) (p : JobState) (dev : AbstractDevice) (x : Action) → IsEndingAction x → IsUnderWay (job_after_action i k ds p dev x).client.stage → ⊥
ends i k ds p dev (Actions.Loses memory) e u = over IoError Lost p.client.stage u
ends i k ds p dev (Actions.LosesImage memory) e u = over IoError Lost p.client.stage u
ends i k ds p dev Actions.RunsOutOfMemory e u = over NoMem Memory p.client.stage u
ends i k ds p dev Actions.Stops e u = over statuses.Cancelled Cancelled p.client.stage u
ends i k ds p dev x e u = absurd e

pub ends_end : EndsEnd
ends_end s i x e u =
    ends i (make_for s i) (listed_devices s) (s.job i) (device_for s i) x e
    (subst (λ (q : JobState). IsUnderWay q.client.stage) (put_same s.job i (job_after_action i (make_for s i) (listed_devices s) (s.job i) (device_for s i) x)) u)
