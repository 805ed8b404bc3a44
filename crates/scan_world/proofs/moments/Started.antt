-- The page of each start of a job: the first that its device had in the world in front of it, as so many of its pages were finished.
use Rattle.std.specs.Prelude.{eqb, length, slice_get, ◌<◌, ◌≤◌, ◌+◌}
use Rattle.std.specs.List.{AllByRecursion}
use Rattle.std.proofs.Common.{◌≡◌, ◌∙◌, ◌⊎◌, ℕ, zero, suc, arith, List, [], ◌∷◌, ◌++◌, Bool, true, false, Option, Some, None, inl, inr, refl, sym, ap, subst, eqb-true}
use Rattle.std.proofs.lemmas.List.{append-nil}
use Rattle.device_api.specs.Kinds.{Page}
use Rattle.scan_job.specs.declared.job.Job.{Job}
use Rattle.system_model.specs.AbstractDevices.{AbstractDevice, Begin, Resting}
use Rattle.system_model.specs.AbstractMessages.{AbstractRequest, Challenge, Start}
use Rattle.system_model.specs.Actions
use Rattle.system_model.specs.Actions.{Action, answer_next, environment_of, job_after_action, served_by}
use Rattle.system_model.specs.Client.{ClientView, JobStage, Idle, Running, Done, Ended}
use Rattle.system_model.specs.Daemon.{FailureCounts}
use Rattle.system_model.specs.Devices.{Make}
use Rattle.system_model.specs.Invariants.{PagesAreOfStarts}
use Rattle.system_model.specs.Sync.{Ready}
use Rattle.system_model.specs.SystemStates.{JobState, SystemState, device_for, listed_devices, make_for, wanted_place}
use Rattle.system_model.specs.Transitions.{By, IsEnabled, IsHistory, IsUnderWay, Loads, Transition, Unplugs, Uses, after_all, after_transition}
use Rattle.event_world.specs.Worlds.{WorldCore}
use Rattle.world_refines.specs.FailedSources.{AllAlong}
use Rattle.world_refines.specs.GhostStates.{place_named}
use Rattle.strangers.specs.Together.{JointEvent}
use Rattle.scan_world.specs.Histories.{History, history_up_to}
use Rattle.scan_world.specs.Page.{StartedOn}
use Rattle.scan_world.proofs.Rows.{HasFinished}
use Rattle.scan_world.proofs.Along.{Fine, Here, Laws, fine_then, own_place}
use Rattle.scan_world.proofs.Begun.{party_stays}
use Rattle.scan_world.proofs.Evident.{IsAnswer}
use Rattle.scan_world.proofs.NoPictures.{starting}
use Rattle.scan_world.proofs.Pages.{IsBegun, IsOfDevice, IsOfOne}
use Rattle.scan_world.proofs.Scanned.{infos_of}
use Rattle.scan_world.proofs.moments.Entries.{own_party}
use Rattle.scan_world.proofs.moments.Finished.{as_many, count_at}
use Rattle.scan_world.proofs.moments.Judged.{Front, asked_start, has_there, here_then}
use Rattle.scan_world.proofs.moments.Moments.{AnsweredSo}
use Rattle.scan_world.proofs.moments.Requests.{BeginsAt, answers_met}
use Rattle.scan_world.proofs.moments.Tray.{page_there, rests_there, starts_ready}

-- ---- a start

pub record StartFact (h : History) (w : WorldCore) (changing : List JointEvent) (i : ℕ) (job : Job) (count : ℕ) (begin : Begin) : Type 0 where
  pub begun : IsBegun (history_up_to h changing) (place_named (infos_of h) job.device) begin
  pub started : StartedOn h w i job count begin.page

start_fact : (h : History) (w : WorldCore) (changing : List JointEvent) (i : ℕ) (job : Job) (s : SystemState) (begin : Begin) → Here h i job s → Fine (history_up_to h changing) job s → IsUnderWay (s.job i).client.stage → Front h w job s i → (rest : List AbstractRequest) → (s.job i).todo ≡ Start ∷ rest → (device_for s i).phase ≡ Resting → (later : List Page) → (device_for s i).tray ≡ begin.page ∷ later → StartFact h w changing i job (length (s.job i).session.started) begin
start_fact h w changing i job s begin e f on a rest todo rests later tray =
    let set = starting i (make_for s i) (s.job i) (device_for s i) (s.job i).client.stage rest on (e.sound.exchanges i) todo in
    let r = has_there h w i job s e.own_job e.fine a set.0 in
    let place : wanted_place s i ≡ place_named (infos_of h) job.device = e.fine.places i ∙ own_place h i job e.own_job.at in
    let pages = (subst (AllByRecursion (IsOfDevice (history_up_to h changing) (wanted_place s i))) tray (f.slots (wanted_place s i)).pages).0 in
    let begun : IsBegun (history_up_to h changing) (wanted_place s i) begin = ((f.slots (wanted_place s i)).held i set.0, pages) in
    let ready = starts_ready i (make_for s i) (s.job i) (device_for s i) (s.job i).client.stage rest on (e.sound.exchanges i) todo rests in
    let finished : HasFinished a.1.at.before i (length (a.1.ghost.system.job i).session.started) =
    count_at a.1.ghost a.1.at.before i rest (slice_get a.1.at.before.endpoints i) refl a.1.stands
    (ap (λ (u : SystemState). (u.job i).client.stage) a.1.state ∙ ready.1)
    (subst (λ (u : SystemState). Ready i (make_for u i) (u.job i).session (u.job i).client (device_for u i)) (sym a.1.state) ready.0) in
    record {
      begun = subst (λ (d : ℕ). IsBegun (history_up_to h changing) d begin) place begun;
      started = record {
        asked = asked_start h w i job s on a rest todo;
        finished = subst (λ (u : SystemState). HasFinished a.1.at.before i (length (u.job i).session.started)) a.1.state finished;
        device = r.0;
        has = r.1;
        rests = rests_there (Some i) (device_for s i) r.0 rests r.2 r.3;
        first = page_there (Some i) (device_for s i) r.0 begin.page later rests tray r.2 r.3;
      };
    }

-- ---- of a job, each by its number

abbrev AreStarts : History → WorldCore → List JointEvent → ℕ → Job → ℕ → List Begin → Type 0
AreStarts h w changing i job n [] = Unit {0}
AreStarts h w changing i job n (b ∷ begins) = StartFact h w changing i job n b × AreStarts h w changing i job (n + 1) begins

one_more : (h : History) (w : WorldCore) (changing : List JointEvent) (i : ℕ) (job : Job) (n : ℕ) (begins : List Begin) (b : Begin) → AreStarts h w changing i job n begins → StartFact h w changing i job (n + length begins) b → AreStarts h w changing i job n (begins ++ b ∷ [])
one_more h w changing i job n [] b all fact = (let same : n + 0 ≡ n = omega arith in subst (λ (k : ℕ). StartFact h w changing i job k b) same fact, tt)
one_more h w changing i job n (c ∷ begins) b all fact = (all.0, one_more h w changing i job (n + 1) begins b all.1 (let same : n + suc (length begins) ≡ n + 1 + length begins = omega arith in subst (λ (k : ℕ). StartFact h w changing i job k b) same fact))

start_at : (h : History) (w : WorldCore) (changing : List JointEvent) (i : ℕ) (job : Job) (n k : ℕ) (begins : List Begin) (b : Begin) → AreStarts h w changing i job n begins → slice_get begins k ≡ Some b → StartFact h w changing i job (n + k) b
start_at h w changing i job n k [] b all at = absurd (let clash : None ≡ Some b = at in cc)
start_at h w changing i job n zero (c ∷ begins) b all at =
    let one : c ≡ b = (let both : Some c ≡ Some b = at in cc) in
    let same : n ≡ n + 0 = omega arith in
    subst (λ (m : ℕ). StartFact h w changing i job m b) same (subst (StartFact h w changing i job n) one all.0)
start_at h w changing i job n (suc k) (c ∷ begins) b all at = let same : n + 1 + k ≡ n + suc k = omega arith in subst (λ (m : ℕ). StartFact h w changing i job m b) same (start_at h w changing i job (n + 1) k begins b all.1 at)

-- ---- a step

started_by : (i : ℕ) (k : Make) (ds : List ℕ) (p : JobState) (dev : AbstractDevice) (x : Action) → ((job_after_action i k ds p dev x).session.started ≡ p.session.started) ⊎ IsAnswer x
started_by i k ds p dev Actions.Connects = inl refl
started_by i k ds p dev (Actions.Answers challenge fault) = inr (challenge, fault, refl)
started_by i k ds p dev (Actions.Hears reply) = inl refl
started_by i k ds p dev Actions.Dials = inl refl
started_by i k ds p dev (Actions.Turns bytes) = inl refl
started_by i k ds p dev Actions.TurnsLast = inl refl
started_by i k ds p dev (Actions.TurnsNamed status) = inl refl
started_by i k ds p dev Actions.TurnsShort = inl refl
started_by i k ds p dev (Actions.TurnsFault fault) = inl refl
started_by i k ds p dev Actions.TurnsOff = inl refl
started_by i k ds p dev (Actions.Reads bytes) = inl refl
started_by i k ds p dev (Actions.Finishes status) = inl refl
started_by i k ds p dev (Actions.Loses memory) = inl refl
started_by i k ds p dev (Actions.LosesImage memory) = inl refl
started_by i k ds p dev (Actions.Breaks memory) = inl refl
started_by i k ds p dev Actions.RunsOutOfMemory = inl refl
started_by i k ds p dev Actions.Stops = inl refl

-- an answer starts at most one page
by_begun : (h : History) (w : WorldCore) (changing : List JointEvent) (i : ℕ) (job : Job) (s : SystemState) (q : AbstractRequest) (rest : List AbstractRequest) (begun : List Begin) → Here h i job s → Fine (history_up_to h changing) job s → IsUnderWay (s.job i).client.stage → Front h w job s i → (s.job i).todo ≡ q ∷ rest → BeginsAt (device_for s i) q begun → AreStarts h w changing i job 0 (s.job i).session.started → AreStarts h w changing i job 0 ((s.job i).session.started ++ begun)
by_begun h w changing i job s q rest [] e f on a todo begins all = subst (AreStarts h w changing i job 0) (sym (append-nil (s.job i).session.started)) all
by_begun h w changing i job s q rest (b ∷ more) e f on a todo begins all =
    let start : (s.job i).todo ≡ Start ∷ rest = todo ∙ ap (λ (x : AbstractRequest). x ∷ rest) begins.0 in
    let fact = start_fact h w changing i job s b e f on a rest start begins.1 begins.2.0 begins.2.1 in
    let same : length (s.job i).session.started ≡ 0 + length (s.job i).session.started = omega arith in
    subst (λ (xs : List Begin). AreStarts h w changing i job 0 ((s.job i).session.started ++ b ∷ xs)) (sym begins.3)
    (one_more h w changing i job 0 (s.job i).session.started b all (subst (λ (n : ℕ). StartFact h w changing i job n b) same fact))

answer_starts : (h : History) (w : WorldCore) (changing : List JointEvent) (i : ℕ) (job : Job) (s : SystemState) (challenge : Challenge) (fault : Option FailureCounts) (qs : List AbstractRequest) → (s.job i).todo ≡ qs → Here h i job s → Fine (history_up_to h changing) job s → IsUnderWay (s.job i).client.stage → Front h w job s i → AreStarts h w changing i job 0 (s.job i).session.started → AreStarts h w changing i job 0 (answer_next i (make_for s i) (listed_devices s) (s.job i) (device_for s i) challenge fault qs).session.started
answer_starts h w changing i job s challenge fault [] todo e f on a all = all
answer_starts h w changing i job s challenge fault (q ∷ rest) todo e f on a all =
    let p = s.job i in
    let met = answers_met i (make_for s i) (device_for s i) p.session.transfer p.session.awaited (environment_of p.session (listed_devices s) challenge fault) q in
    by_begun h w changing i job s q rest (served_by i (make_for s i) (listed_devices s) p (device_for s i) challenge fault q).begun e f on a todo met.2 all

step_starts : (h : History) (w : WorldCore) (changing : List JointEvent) (i : ℕ) (job : Job) (s : SystemState) (x : Action) → Here h i job s → Fine (history_up_to h changing) job s → IsUnderWay (s.job i).client.stage → AnsweredSo h w job s (By i x) → AreStarts h w changing i job 0 (s.job i).session.started → AreStarts h w changing i job 0 ((after_transition s (By i x)).job i).session.started
step_starts h w changing i job s x e f on so all = subst (λ (p : JobState). AreStarts h w changing i job 0 p.session.started) (sym (own_party s i x)) (elim (started_by i (make_for s i) (listed_devices s) (s.job i) (device_for s i) x) [
  | inl same ↦ subst (AreStarts h w changing i job 0) (sym same) all
  | inr a ↦
      let front : Front h w job s i = ((a.0, a.1), (subst (λ (y : Action). AnsweredSo h w job s (By i y)) a.2 so) on) in
      subst (λ (y : Action). AreStarts h w changing i job 0 (job_after_action i (make_for s i) (listed_devices s) (s.job i) (device_for s i) y).session.started) (sym a.2)
      (answer_starts h w changing i job s a.0 a.1 (s.job i).todo refl e f on front all)
])

-- ---- all steps: of a job that is over, those of its finished pages

abbrev AreFirst : History → WorldCore → List JointEvent → ℕ → Job → JobState → Type 0
AreFirst h w changing i job p = (k : ℕ) (b : Begin) → k < length p.client.pages → slice_get p.session.started k ≡ Some b → StartFact h w changing i job k b

abbrev Kept : History → WorldCore → List JointEvent → ℕ → Job → JobState → JobStage → Type 0
Kept h w changing i job p Idle = AreStarts h w changing i job 0 p.session.started
Kept h w changing i job p (Running g) = AreStarts h w changing i job 0 p.session.started
Kept h w changing i job p Done = AreFirst h w changing i job p
Kept h w changing i job p (Ended status why) = AreFirst h w changing i job p

all_first : (h : History) (w : WorldCore) (changing : List JointEvent) (i : ℕ) (job : Job) (p : JobState) → AreStarts h w changing i job 0 p.session.started → AreFirst h w changing i job p
all_first h w changing i job p all k b low at = let same : 0 + k ≡ k = omega arith in subst (λ (n : ℕ). StartFact h w changing i job n b) same (start_at h w changing i job 0 k p.session.started b all at)

kept_all : (h : History) (w : WorldCore) (changing : List JointEvent) (i : ℕ) (job : Job) (p : JobState) (stage : JobStage) → AreStarts h w changing i job 0 p.session.started → Kept h w changing i job p stage
kept_all h w changing i job p Idle all = all
kept_all h w changing i job p (Running g) all = all
kept_all h w changing i job p Done all = all_first h w changing i job p all
kept_all h w changing i job p (Ended status why) all = all_first h w changing i job p all

-- what comes later stands behind those of the finished pages
front_of : {X : Type 0} (xs ys : List X) (k : ℕ) → k < length xs → slice_get (xs ++ ys) k ≡ slice_get xs k
front_of [] ys k low = absurd (omega (arith, low))
front_of (x ∷ xs) ys zero low = refl
front_of (x ∷ xs) ys (suc k) low = front_of xs ys k (omega (arith, low))

pub app_length : {X : Type 0} (xs ys : List X) → length xs ≤ length (xs ++ ys)
app_length [] ys = omega arith
app_length (x ∷ xs) ys = let more = app_length xs ys in omega (arith, more)

pub enough : (k : Make) (p : JobState) → PagesAreOfStarts k p.session p.client → length p.client.pages ≤ length p.session.started
enough k p h =
    let same = as_many k p.session.job.settings h.begins p.client.pages h.pictures in
    let more = app_length h.begins h.later in
    subst (λ (n : ℕ). n ≤ length p.session.started) same (subst (λ (xs : List Begin). length h.begins ≤ length xs) (sym h.started) more)

over_first : (h : History) (w : WorldCore) (changing : List JointEvent) (i : ℕ) (job : Job) (p q : JobState) (more : List Begin) → q.client ≡ p.client → q.session.started ≡ p.session.started ++ more → length p.client.pages ≤ length p.session.started → AreFirst h w changing i job p → AreFirst h w changing i job q
over_first h w changing i job p q more client started enough first k b low at =
    let pages : length q.client.pages ≡ length p.client.pages = ap (λ (m : ClientView). length m.pages) client in
    let was : k < length p.client.pages = subst (λ (n : ℕ). k < n) pages low in
    let within : k < length p.session.started = omega (arith, was, enough) in
    first k b was (sym (front_of p.session.started more k within) ∙ (ap (λ (xs : List Begin). slice_get xs k) (sym started) ∙ at))

grown_next : (i : ℕ) (k : Make) (ds : List ℕ) (p : JobState) (dev : AbstractDevice) (challenge : Challenge) (fault : Option FailureCounts) (qs : List AbstractRequest) → (more : List Begin) × ((answer_next i k ds p dev challenge fault qs).session.started ≡ p.session.started ++ more)
grown_next i k ds p dev challenge fault [] = ([], sym (append-nil p.session.started))
grown_next i k ds p dev challenge fault (q ∷ rest) = ((served_by i k ds p dev challenge fault q).begun, refl)

grown : (s : SystemState) (i : ℕ) (x : Action) → (more : List Begin) × (((after_transition s (By i x)).job i).session.started ≡ (s.job i).session.started ++ more)
grown s i x = elim (started_by i (make_for s i) (listed_devices s) (s.job i) (device_for s i) x) [
  | inl same ↦ ([], ap (λ (p : JobState). p.session.started) (own_party s i x) ∙ (same ∙ sym (append-nil (s.job i).session.started)))
  | inr a ↦
      let g = grown_next i (make_for s i) (listed_devices s) (s.job i) (device_for s i) a.0 a.1 (s.job i).todo in
      (g.0, ap (λ (p : JobState). p.session.started) (own_party s i x) ∙ (ap (λ (y : Action). (job_after_action i (make_for s i) (listed_devices s) (s.job i) (device_for s i) y).session.started) a.2 ∙ g.1))
]

over_step : Laws → (h : History) (w : WorldCore) (changing : List JointEvent) (i : ℕ) (job : Job) (s : SystemState) (x : Action) (stage : JobStage) → (s.job i).client.stage ≡ stage → (IsUnderWay stage → ⊥) → Here h i job s → IsEnabled s (By i x) → AreFirst h w changing i job (s.job i) → AreFirst h w changing i job ((after_transition s (By i x)).job i)
over_step laws h w changing i job s x stage at off e may first =
    let g = grown s i x in
    let client = laws.last s i x may (λ on. off (subst IsUnderWay at on)) in
    over_first h w changing i job (s.job i) ((after_transition s (By i x)).job i) g.0 client g.1 (enough (make_for s i) (s.job i) (e.sound.pages i)) first

abbrev KeptAt : History → WorldCore → List JointEvent → ℕ → Job → SystemState → Type 0
KeptAt h w changing i job s = Kept h w changing i job (s.job i) (s.job i).client.stage

stage_stays : Laws → (s : SystemState) (i : ℕ) (x : Action) → IsEnabled s (By i x) → (IsUnderWay (s.job i).client.stage → ⊥) → ((after_transition s (By i x)).job i).client.stage ≡ (s.job i).client.stage
stage_stays laws s i x may off = ap (λ (m : ClientView). m.stage) (laws.last s i x may off)

own_step : Laws → (h : History) (w : WorldCore) (changing : List JointEvent) (i : ℕ) (job : Job) (s : SystemState) (x : Action) (stage : JobStage) → (s.job i).client.stage ≡ stage → Here h i job s → Fine (history_up_to h changing) job s → AnsweredSo h w job s (By i x) → IsEnabled s (By i x) → Kept h w changing i job (s.job i) stage → KeptAt h w changing i job (after_transition s (By i x))
own_step laws h w changing i job s x Idle at e f so may kept = kept_all h w changing i job ((after_transition s (By i x)).job i) _ (step_starts h w changing i job s x e f (subst IsUnderWay (sym at) tt) so kept)
own_step laws h w changing i job s x (Running g) at e f so may kept = kept_all h w changing i job ((after_transition s (By i x)).job i) _ (step_starts h w changing i job s x e f (subst IsUnderWay (sym at) tt) so kept)
own_step laws h w changing i job s x Done at e f so may kept =
    let q = (after_transition s (By i x)).job i in
    subst (Kept h w changing i job q) (sym (stage_stays laws s i x may (λ on. subst IsUnderWay at on) ∙ at)) (over_step laws h w changing i job s x Done at (λ on. on) e may kept)
own_step laws h w changing i job s x (Ended status why) at e f so may kept =
    let q = (after_transition s (By i x)).job i in
    subst (Kept h w changing i job q) (sym (stage_stays laws s i x may (λ on. subst IsUnderWay at on) ∙ at)) (over_step laws h w changing i job s x (Ended status why) at (λ on. on) e may kept)

abbrev kept_party : History → WorldCore → List JointEvent → ℕ → Job → JobState → Type 0
kept_party h w changing i job p = Kept h w changing i job p p.client.stage

by_step : Laws → (h : History) (w : WorldCore) (changing : List JointEvent) (i : ℕ) (job : Job) (s : SystemState) (j : ℕ) (x : Action) (b : Bool) → eqb i j ≡ b → Here h i job s → Fine (history_up_to h changing) job s → AnsweredSo h w job s (By j x) → IsEnabled s (By j x) → KeptAt h w changing i job s → KeptAt h w changing i job (after_transition s (By j x))
by_step laws h w changing i job s j x false e here f so may kept = subst (kept_party h w changing i job) (sym (party_stays s j x i e)) kept
by_step laws h w changing i job s j x true e here f so may kept =
    subst (λ (n : ℕ). AnsweredSo h w job s (By n x) → IsEnabled s (By n x) → KeptAt h w changing i job (after_transition s (By n x))) (eqb-true i j e)
    (λ r l. own_step laws h w changing i job s x (s.job i).client.stage refl here f r l kept) so may

one_step : Laws → (h : History) (w : WorldCore) (changing : List JointEvent) (i : ℕ) (job : Job) (s : SystemState) (x : Transition) → Here h i job s → Fine (history_up_to h changing) job s → AnsweredSo h w job s x → IsEnabled s x → KeptAt h w changing i job s → KeptAt h w changing i job (after_transition s x)
one_step laws h w changing i job s (By j x) here f so may kept = by_step laws h w changing i job s j x (eqb i j) refl here f so may kept
one_step laws h w changing i job s (Loads d page) here f so may kept = kept
one_step laws h w changing i job s (Unplugs d) here f so may kept = kept
one_step laws h w changing i job s (Uses u d shown left) here f so may kept = kept

all_steps : Laws → (h : History) (w : WorldCore) (changing : List JointEvent) (i : ℕ) (job : Job) (xs : List Transition) (s : SystemState) → Here h i job s → Fine (history_up_to h changing) job s → AllByRecursion (IsOfOne h) xs → AllByRecursion (IsOfOne (history_up_to h changing)) xs → AllAlong (AnsweredSo h w job) s xs → IsHistory s xs → KeptAt h w changing i job s → KeptAt h w changing i job (after_all s xs)
all_steps laws h w changing i job [] s e f of those so may kept = kept
all_steps laws h w changing i job (x ∷ xs) s e f of those so may kept =
    all_steps laws h w changing i job xs (after_transition s x) (here_then laws h w i job s x e of.0 may.0) (fine_then laws.legal (history_up_to h changing) job s x e.sound may.0 those.0 f) of.1 those.1 so.1 may.1 (one_step laws h w changing i job s x e f so.0 may.0 kept)

any_first : (h : History) (w : WorldCore) (changing : List JointEvent) (i : ℕ) (job : Job) (p : JobState) (stage : JobStage) → Kept h w changing i job p stage → AreFirst h w changing i job p
any_first h w changing i job p Idle kept = all_first h w changing i job p kept
any_first h w changing i job p (Running g) kept = all_first h w changing i job p kept
any_first h w changing i job p Done kept = kept
any_first h w changing i job p (Ended status why) kept = kept

-- the starts of the finished pages of a job
pub starts_first : Laws → (h : History) (w : WorldCore) (changing : List JointEvent) (i : ℕ) (job : Job) (steps : List Transition) (s : SystemState) → Here h i job s → Fine (history_up_to h changing) job s → AllByRecursion (IsOfOne h) steps → AllByRecursion (IsOfOne (history_up_to h changing)) steps → AllAlong (AnsweredSo h w job) s steps → IsHistory s steps → (s.job i).session.started ≡ [] → (k : ℕ) (b : Begin) → k < length ((after_all s steps).job i).client.pages → slice_get ((after_all s steps).job i).session.started k ≡ Some b → StartFact h w changing i job k b
starts_first laws h w changing i job steps s e f of those so may none =
    let first : KeptAt h w changing i job s = kept_all h w changing i job (s.job i) (s.job i).client.stage (subst (AreStarts h w changing i job 0) (sym none) tt) in
    any_first h w changing i job ((after_all s steps).job i) ((after_all s steps).job i).client.stage (all_steps laws h w changing i job steps s e f of those so may first)
