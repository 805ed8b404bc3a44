-- The starts of a job are those of its marks.
use Rattle.std.specs.Prelude.{cond, eqb}
use Rattle.std.proofs.Common.{◌≡◌, ◌∙◌, ℕ, List, [], ◌∷◌, Bool, true, false, Option, refl, sym, ap, subst, eqb-true}
use Rattle.system_model.specs.AbstractMessages.{Challenge, AbstractRequest}
use Rattle.system_model.specs.Client.{AbstractJob}
use Rattle.system_model.specs.Devices.{Make}
use Rattle.system_model.specs.AbstractDevices.{AbstractDevice}
use Rattle.system_model.specs.Daemon.{FailureCounts}
use Rattle.system_model.specs.SystemStates.{JobState, SystemState, listed_devices, make_for, device_for, wanted_place}
use Rattle.system_model.specs.Actions
use Rattle.system_model.specs.Actions.{Action, answer_next, job_after_action}
use Rattle.system_model.specs.Transitions.{By, Loads, Transition, Unplugs, Uses, after_transition, after_all}
use Rattle.daemon_refines.proofs.Moved.{own}

-- ---- a job stays what it is

next_job : (i : ℕ) (k : Make) (ds : List ℕ) (p : JobState) (dev : AbstractDevice) (challenge : Challenge) (fault : Option FailureCounts) (qs : List AbstractRequest) → (answer_next i k ds p dev challenge fault qs).session.job ≡ p.session.job
next_job i k ds p dev challenge fault [] = refl
next_job i k ds p dev challenge fault (q ∷ rest) = refl

pub job_stays : (i : ℕ) (k : Make) (ds : List ℕ) (p : JobState) (dev : AbstractDevice) (x : Action) → (job_after_action i k ds p dev x).session.job ≡ p.session.job
job_stays i k ds p dev Actions.Connects = refl
job_stays i k ds p dev (Actions.Answers challenge fault) = next_job i k ds p dev challenge fault p.todo
job_stays i k ds p dev (Actions.Hears reply) = refl
job_stays i k ds p dev Actions.Dials = refl
job_stays i k ds p dev (Actions.Turns bytes) = refl
job_stays i k ds p dev Actions.TurnsLast = refl
job_stays i k ds p dev (Actions.TurnsNamed status) = refl
job_stays i k ds p dev Actions.TurnsShort = refl
job_stays i k ds p dev (Actions.TurnsFault fault) = refl
job_stays i k ds p dev Actions.TurnsOff = refl
job_stays i k ds p dev (Actions.Reads bytes) = refl
job_stays i k ds p dev (Actions.Finishes status) = refl
job_stays i k ds p dev (Actions.Loses memory) = refl
job_stays i k ds p dev (Actions.LosesImage memory) = refl
job_stays i k ds p dev (Actions.Breaks memory) = refl
job_stays i k ds p dev Actions.RunsOutOfMemory = refl
job_stays i k ds p dev Actions.Stops = refl

-- a step leaves the other parties
pub party_stays : (s : SystemState) (j : ℕ) (x : Action) (i : ℕ) → eqb i j ≡ false → (after_transition s (By j x)).job i ≡ s.job i
party_stays s j x i e = rw e refl

job_kept : (s : SystemState) (j : ℕ) (x : Action) (i : ℕ) (b : Bool) → eqb i j ≡ b → ((after_transition s (By j x)).job i).session.job ≡ (s.job i).session.job
job_kept s j x i false e = ap (λ (p : JobState). p.session.job) (party_stays s j x i e)
job_kept s j x i true e =
    let same : i ≡ j = eqb-true i j e in
    subst (λ (n : ℕ). ((after_transition s (By j x)).job n).session.job ≡ (s.job n).session.job) (sym same)
    (ap (λ (b : Bool). (cond b (job_after_action j (make_for s j) (listed_devices s) (s.job j) (device_for s j) x) (s.job j)).session.job) (own j) ∙ job_stays j (make_for s j) (listed_devices s) (s.job j) (device_for s j) x)

pub job_same : (s : SystemState) (x : Transition) (i : ℕ) → ((after_transition s x).job i).session.job ≡ (s.job i).session.job
job_same s (By j x) i = job_kept s j x i (eqb i j) refl
job_same s (Loads d page) i = refl
job_same s (Unplugs d) i = refl
job_same s (Uses u d shown left) i = refl

pub wants_same : (s : SystemState) (x : Transition) (i : ℕ) → wanted_place (after_transition s x) i ≡ wanted_place s i
wants_same s x i = ap (λ (job : AbstractJob). job.wants) (job_same s x i)

pub wants_all : (xs : List Transition) (s : SystemState) (i : ℕ) → wanted_place (after_all s xs) i ≡ wanted_place s i
wants_all [] s i = refl
wants_all (x ∷ xs) s i = wants_all xs (after_transition s x) i ∙ wants_same s x i
