-- A source that fails in the answer to the only request of a delivery.
use Rattle.std.specs.Prelude.{length, map, option_map, position}
use Rattle.std.proofs.Common.{◌≡◌, ◌∙◌, ℕ, Bool, true, List, [], ◌∷◌, ◌++◌, Option, Some, None, refl, sym, ap, subst, length-append, arith}
use Rattle.md5_auth.specs.declared.users.Entry.{Entry}
use Rattle.sane_fixed.specs.declared.device_info.DeviceInfo.{DeviceInfo}
use Rattle.device_api.specs.State.{DeviceState}
use Rattle.dispatch.specs.declared.table.place.Lease.{Lease}
use Rattle.saned_requests.specs.Holding.{held_by}
use Rattle.saned_requests.specs.LeaseLaws.{HoldsWell}
use Rattle.saned_requests.specs.RequestAnswers.{RequestContext}
use Rattle.scan_job.specs.declared.job.Job.{Job}
use Rattle.system_model.specs.AbstractDevices.{AbstractDevice}
use Rattle.system_model.specs.AbstractMessages.{Challenge, AbstractRequest}
use Rattle.system_model.specs.Actions.{Answers}
use Rattle.system_model.specs.Client as model
use Rattle.system_model.specs.Client.{ClientView}
use Rattle.system_model.specs.Daemon.{FailureCounts}
use Rattle.system_model.specs.Deliveries.{Chance, answers}
use Rattle.system_model.specs.Devices.{Make}
use Rattle.system_model.specs.SystemStates.{JobState, SystemState}
use Rattle.system_model.specs.Transitions.{By, IsUnderWay, after_transition}
use Rattle.daemon_refines.specs.ContextRefinement.{ContextRefines}
use Rattle.daemon_refines.specs.Failures.{FailedAt, IsCounted}
use Rattle.daemon_refines.proofs.Changes.{Held}
use Rattle.daemon_refines.proofs.Moved.{unsome}
use Rattle.world_refines.specs.GhostStates.{abstract_job, name_at, place_named, place_or_length}
use Rattle.world_refines.specs.WorldRefinement.{info_at, session_by}
use Rattle.world_refines.specs.FailedSources.{AllAlong, FailsSo}
use Rattle.world_refines.proofs.state.Finding.{names_at}
use Rattle.world_refines.proofs.state.Infos.{is_name, name_here}
use Rattle.world_refines.proofs.requests.AnswersKeep.{stays}
use Rattle.world_refines.proofs.requests.Asked.{holds_wanted, past_end}
use Rattle.world_refines.proofs.requests.RequestDeliveries.{IsCountedAlone}

-- ---- the device of a lease has the name that the job has

name_by : (infos : List DeviceInfo) (name other : List ℕ) (o : Option ℕ) → position (is_name name) infos ≡ o → name_at infos (place_or_length (length infos) o) ≡ Some other → other ≡ name
name_by infos name other None e at = absurd (let clash : None ≡ Some other = sym (ap (option_map (λ (x : DeviceInfo). x.name)) (past_end infos)) ∙ at in cc)
name_by infos name other (Some j) e at = unsome other name (sym at ∙ name_here infos name j e)

pub lease_named : (i : ℕ) (make : ℕ → Make) (users : List Entry) (infos : List DeviceInfo) (job : Job) (d : RequestContext) (device : ℕ → AbstractDevice) (p : JobState) (w : ℕ) (l : Lease DeviceState) → p.session.job ≡ abstract_job users infos job → infos ≡ map info_at d.registry → ContextRefines i make d device (session_by i device p) →
    held_by d.session.held w ≡ Some l → l.device.info.name ≡ job.device
lease_named i make users infos job d device p w l job_is infos_are h held =
    let own = (h.devices.leases w l held).own in
    let place : l.place ≡ place_named infos job.device = holds_wanted i make d device p l.place h (record { word = w; lease = l; stands = held; place = refl }) ∙ ap (λ (j : model.AbstractJob). j.wants) job_is in
    let there : name_at infos (place_named infos job.device) ≡ Some own.place.info.name = ap (name_at infos) (sym place) ∙ (ap (λ (all : List DeviceInfo). name_at all l.place) infos_are ∙ names_at d.registry l.place own.place own.at) in
    own.name ∙ name_by infos job.device own.place.info.name (position (is_name job.device) infos) refl there

-- ---- the answers of a delivery

abbrev pub IfFailed : Option FailureCounts → Type 0 → Type 0
IfFailed None Failed = Unit {0}
IfFailed (Some fault) Failed = Failed

-- there is one at most, and where a source fails in it that is so
abbrev pub FailsAlone : Type 0 → List Chance → Type 0
FailsAlone Failed [] = Unit {0}
FailsAlone Failed (chance ∷ []) = IfFailed chance.1 Failed
FailsAlone Failed (chance ∷ other ∷ chances) = ⊥

by_fault : (F : Bool → ℕ → Type 0) (i : ℕ) (s : SystemState) (challenge : Challenge) (fault : Option FailureCounts) → (IsUnderWay (s.job i).client.stage → IfFailed fault (F true i)) → FailsSo F s (By i (Answers challenge fault))
by_fault F i s challenge None h = tt
by_fault F i s challenge (Some fault) h = h

-- of a job that is over nothing is asked
never_fails : (F : Bool → ℕ → Type 0) (i : ℕ) (s : SystemState) (chances : List Chance) → (IsUnderWay (s.job i).client.stage → ⊥) → AllAlong (FailsSo F) s (answers i chances)
never_fails F i s [] off = tt
never_fails F i s (chance ∷ chances) off = (
  by_fault F i s chance.0 chance.1 (λ under. absurd (off under)),
  never_fails F i (after_transition s (By i (Answers chance.0 chance.1))) chances (λ under. off (subst (λ (m : ClientView). IsUnderWay m.stage) (stays i s (chance ∷ [])).own.client under)),
)

pub fails_alone : (F : Bool → ℕ → Type 0) (i : ℕ) (s : SystemState) (chances : List Chance) → (IsUnderWay (s.job i).client.stage → FailsAlone (F true i) chances) → AllAlong (FailsSo F) s (answers i chances)
fails_alone F i s [] h = tt
fails_alone F i s (chance ∷ []) h = (by_fault F i s chance.0 chance.1 h, tt)
fails_alone F i s (chance ∷ other ∷ chances) h = never_fails F i s (chance ∷ other ∷ chances) (λ under. h under)

if_counted : (Failed : Type 0) (held now : Held) (fault : Option FailureCounts) → ((f : FailureCounts) → FailedAt held now 0 f → Failed) → IsCounted held now 0 fault → IfFailed fault Failed
if_counted Failed held now None by_failure c = tt
if_counted Failed held now (Some f) by_failure c = by_failure f c

pub counted_fails : (Failed : Type 0) (d new : RequestContext) (chances : List Chance) (asked later : List AbstractRequest) (next : AbstractRequest) → length chances ≡ length asked → next ∷ [] ≡ asked ++ later → ((f : FailureCounts) → FailedAt d.session.held new.session.held 0 f → HoldsWell new.registry new.session.held → Failed) → IsCountedAlone d chances new → FailsAlone Failed chances
counted_fails Failed d new [] asked later next count are by_failure c = tt
counted_fails Failed d new (chance ∷ []) asked later next count are by_failure c = if_counted Failed d.session.held new.session.held chance.1 (λ f failed. by_failure f failed c.1) c.0
counted_fails Failed d new (chance ∷ other ∷ chances) asked later next count are by_failure c =
    let all : 1 ≡ length (asked ++ later) = ap length are in
    let both = length-append asked later in omega (arith, all, both, count)
