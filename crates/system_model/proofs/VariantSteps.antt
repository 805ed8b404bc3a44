-- THE NUMBER FALLS, no other raises it, it ends, and it is bounded.
use Rattle.std.proofs.Common.{◌≡◌, ◌∙◌, ◌≢◌, ◌≤◌, ◌<◌, ◌+◌, ℕ, List, [], ◌∷◌, Bool, true, false, Option, Some, refl, sym, subst, ap, inl, inr, length, length-append, cond, eqb, eqb-true, arith}
use Rattle.std.proofs.lemmas.Bool.{ne_eqb}
use Rattle.page_picture.specs.Shows.{Frame}
use Rattle.system_model.specs.AbstractMessages.{AbstractReply, AbstractRequest, Challenge}
use Rattle.system_model.specs.Devices.{Make}
use Rattle.system_model.specs.Client.{AbstractJob, ClientView, JobStage, Idle, Running, Done, Ended, AbstractProgress, Greeting, Listing, Opening, Allowing, Describing, Putting, Getting, Starting, Shaping, Imaging}
use Rattle.system_model.specs.ClientReplies.{hear_at}
use Rattle.system_model.specs.AbstractDevices.{AbstractDevice, ScanPhase, without_prefix}
use Rattle.system_model.specs.Daemon.{FailureCounts}
use Rattle.system_model.specs.SystemStates.{SessionView, JobState, SystemState, with_entry, listed_devices, wanted_place, make_for, device_for}
use Rattle.system_model.specs.Actions
use Rattle.system_model.specs.Actions.{Action, answer_next, job_after_action, device_after}
use Rattle.system_model.specs.Transitions.{Transition, By, Loads, Unplugs, Uses, IsUnderWay, IsActionEnabled, IsEnabled, after_transition, with_page_laid_in, without_listing}
use Rattle.system_model.specs.Sync.{DataUnderWay, InSync}
use Rattle.system_model.specs.Invariants.{IsRight, StageInvariant, Invariant}
use Rattle.system_model.specs.Variant.{exchange_cost, progress_variant, later_pages, stage_variant_of, running_variant, control_variant_at, control_variant_of, flight_variant_at, variant_of, control_variant, job_variant, action_cost, IsOthers}
use Rattle.system_model.specs.ModelPromises.{StepsArePaid, VariantDecreases, OthersKeepVariant, VariantEndsAtZero, VariantIsBounded}
use Rattle.system_model.proofs.OtherJobs.{Same, put_same}
use Rattle.system_model.proofs.Treats.{treats, same_treated}
use Rattle.system_model.proofs.Using.{used_same}
use Rattle.system_model.proofs.InvariantAfter.{same_job}
use Rattle.system_model.proofs.Turns.{without_append}
use Rattle.system_model.proofs.StageVariants.{at_least}
use Rattle.system_model.proofs.VariantFalls.{paid}

-- WHAT STANDS OF A JOB AFTER ITS OWN STEP
after_own : (F : JobState → AbstractDevice → ℕ) (s : SystemState) (i : ℕ) (x : Action) →
    F ((after_transition s (By i x)).job i) (device_for (after_transition s (By i x)) i)
    ≡ F (job_after_action i (make_for s i) (listed_devices s) (s.job i) (device_for s i) x) (device_after i (make_for s i) (listed_devices s) (s.job i) (device_for s i) x)
after_own F s i x =
    let p = job_after_action i (make_for s i) (listed_devices s) (s.job i) (device_for s i) x in
    let d = device_after i (make_for s i) (listed_devices s) (s.job i) (device_for s i) x in
    ap (λ (q : JobState). F q (with_entry s.device (wanted_place s i) d q.session.job.wants)) (put_same s.job i p)
    ∙ ap (λ (j : AbstractJob). F p (with_entry s.device (wanted_place s i) d j.wants)) (same_job i (make_for s i) (listed_devices s) (s.job i) (device_for s i) x)
    ∙ ap (λ (e : AbstractDevice). F p e) (put_same s.device (wanted_place s i) d)

pub steps_paid : StepsArePaid
steps_paid s i x h u l =
    let a = after_own control_variant_of s i x in
    let b = paid i (make_for s i) (listed_devices s) (s.job i) (device_for s i) x u l (h.fit (wanted_place s i)) (h.exchanges i) in
    subst (λ (n : ℕ). n + action_cost x ≤ control_variant s i) (sym a) b

-- BYTES ON THE WAY
abbrev taken : Action → ℕ
taken (Actions.Reads bytes) = length bytes
taken x = 0

abbrev given : Action → ℕ
given (Actions.Turns bytes) = length bytes
given x = 0

pays_more : (i : ℕ) (k : Make) (p : JobState) (dev : AbstractDevice) (x : Action) → IsActionEnabled i k p dev x → given x < action_cost x + taken x
pays_more i k p dev (Actions.Reads []) l = absurd (l.2 refl)
pays_more i k p dev (Actions.Reads (b ∷ bytes)) l = omega arith
pays_more i k p dev (Actions.Turns bytes) l = omega arith
pays_more i k p dev Actions.Connects l = omega arith
pays_more i k p dev (Actions.Answers c f) l = omega arith
pays_more i k p dev (Actions.Hears r) l = omega arith
pays_more i k p dev Actions.Dials l = omega arith
pays_more i k p dev Actions.TurnsLast l = omega arith
pays_more i k p dev (Actions.TurnsNamed s) l = omega arith
pays_more i k p dev Actions.TurnsShort l = omega arith
pays_more i k p dev (Actions.TurnsFault f) l = omega arith
pays_more i k p dev Actions.TurnsOff l = omega arith
pays_more i k p dev (Actions.Finishes s) l = omega arith
pays_more i k p dev (Actions.Loses m) l = omega arith
pays_more i k p dev (Actions.LosesImage m) l = omega arith
pays_more i k p dev (Actions.Breaks memory) l = omega arith
pays_more i k p dev Actions.RunsOutOfMemory l = omega arith
pays_more i k p dev Actions.Stops l = omega arith

next_flight : (i : ℕ) (k : Make) (places : List ℕ) (p : JobState) (dev : AbstractDevice) (c : Challenge) (f : Option FailureCounts) (todo : List AbstractRequest) → (answer_next i k places p dev c f todo).session.flight ≡ p.session.flight
next_flight i k places p dev c f [] = refl
next_flight i k places p dev c f (q ∷ rest) = refl

flight_low : (i : ℕ) (k : Make) (places : List ℕ) (p : JobState) (dev : AbstractDevice) (x : Action) → IsActionEnabled i k p dev x → length (job_after_action i k places p dev x).session.flight + taken x ≤ length p.session.flight + given x
flight_low i k places p dev (Actions.Reads bytes) l =
    let a : without_prefix bytes p.session.flight ≡ l.1.0 = ap (λ (x : List ℕ). without_prefix bytes x) l.1.1 ∙ without_append bytes l.1.0 in
    let b = ap (λ (x : List ℕ). length x) a in
    let c = ap (λ (x : List ℕ). length x) l.1.1 in
    let d = length-append bytes l.1.0 in
    omega arith
flight_low i k places p dev (Actions.Turns bytes) l = let a = length-append p.session.flight bytes in omega arith
flight_low i k places p dev (Actions.Answers c f) l = let a = ap (λ (x : List ℕ). length x) (next_flight i k places p dev c f p.todo) in omega arith
flight_low i k places p dev Actions.Connects l = omega arith
flight_low i k places p dev (Actions.Hears r) l = omega arith
flight_low i k places p dev Actions.Dials l = omega arith
flight_low i k places p dev Actions.TurnsLast l = omega arith
flight_low i k places p dev (Actions.TurnsNamed s) l = omega arith
flight_low i k places p dev Actions.TurnsShort l = omega arith
flight_low i k places p dev (Actions.TurnsFault f) l = omega arith
flight_low i k places p dev Actions.TurnsOff l = omega arith
flight_low i k places p dev (Actions.Finishes s) l = omega arith
flight_low i k places p dev (Actions.Loses m) l = omega arith
flight_low i k places p dev (Actions.LosesImage m) l = omega arith
flight_low i k places p dev (Actions.Breaks memory) l = omega arith
flight_low i k places p dev Actions.RunsOutOfMemory l = omega arith
flight_low i k places p dev Actions.Stops l = omega arith

way_low : (st : JobStage) (p : JobState) → flight_variant_at st p ≤ length p.session.flight
way_low Idle p = omega arith
way_low (Running g) p = omega arith
way_low Done p = omega arith
way_low (Ended s w) p = omega arith

way_is : (st : JobStage) (p : JobState) → IsUnderWay st → flight_variant_at st p ≡ length p.session.flight
way_is Idle p u = refl
way_is (Running g) p u = refl
way_is Done p u = absurd u
way_is (Ended s w) p u = absurd u

pub numbers_fall : VariantDecreases
numbers_fall s i x h u l =
    let a = after_own variant_of s i x in
    let q = job_after_action i (make_for s i) (listed_devices s) (s.job i) (device_for s i) x in
    let b = paid i (make_for s i) (listed_devices s) (s.job i) (device_for s i) x u l (h.fit (wanted_place s i)) (h.exchanges i) in
    let c = flight_low i (make_for s i) (listed_devices s) (s.job i) (device_for s i) x l in
    let d = pays_more i (make_for s i) (s.job i) (device_for s i) x l in
    let e = way_low q.client.stage q in
    let f = way_is (s.job i).client.stage (s.job i) u in
    subst (λ (n : ℕ). n < job_variant s i) (sym a) (omega arith)

-- OTHERS
carries_mine : (i : ℕ) (k : Make) (b : SessionView) (dev : AbstractDevice) (o : _) (more : List Frame) (heard rest : List ℕ) → DataUnderWay i k b dev o more heard rest → dev.holder ≡ Some i
carries_mine i k b dev o more heard rest (inl h) = h.held.mine
carries_mine i k b dev o more heard rest (inr (inl h)) = h.held.mine
carries_mine i k b dev o more heard rest (inr (inr (inl h))) = h.mine
carries_mine i k b dev o more heard rest (inr (inr (inr h))) = h.mine

abbrev SameNumber : AbstractProgress → SessionView → ClientView → AbstractDevice → AbstractDevice → Type 0
SameNumber g b m dev new = stage_variant_of (Running g) b m new ≡ stage_variant_of (Running g) b m dev

held_number : (i : ℕ) (b : SessionView) (m : ClientView) (dev new : AbstractDevice) (g : AbstractProgress) → Same i dev new → dev.holder ≡ Some i → SameNumber g b m dev new
held_number i b m dev new g s h = ap (λ (x : ScanPhase). progress_variant g (length b.job.settings) (later_pages b.job m) x b.transfer b.ending) (s.held h).2

moved_number : (i : ℕ) (k : Make) (b : SessionView) (m n : ClientView) (dev new : AbstractDevice) (g : AbstractProgress) → Same i dev new → InSync i k b n dev g → SameNumber g b m dev new
moved_number i k b m n dev new Greeting s h = refl
moved_number i k b m n dev new Listing s h = refl
moved_number i k b m n dev new Opening s h = refl
moved_number i k b m n dev new (Allowing c) s h = refl
moved_number i k b m n dev new (Describing left) s h = refl
moved_number i k b m n dev new (Putting o v w left) s h = refl
moved_number i k b m n dev new (Getting o left) s h = refl
moved_number i k b m n dev new Starting s (inl h) = held_number i b m dev new Starting s h.held.mine
moved_number i k b m n dev new Starting s (inr h) = held_number i b m dev new Starting s h.held.mine
moved_number i k b m n dev new Shaping s h = held_number i b m dev new Shaping s h.held.mine
moved_number i k b m n dev new (Imaging params heard) s h =
    held_number i b m dev new (Imaging params heard) s (carries_mine i k b dev h.continues.begin.options h.more heard h.rest h.carries)

-- (the client view of a client that heard a reply has the pages that it had)
right_number : (i : ℕ) (k : Make) (b : SessionView) (m n : ClientView) (dev new : AbstractDevice) (st : JobStage) → Same i dev new → IsRight i k b n dev st → stage_variant_of st b m new ≡ stage_variant_of st b m dev
right_number i k b m n dev new Idle s h = absurd h
right_number i k b m n dev new (Running g) s h = moved_number i k b m n dev new g s h
right_number i k b m n dev new Done s h = refl
right_number i k b m n dev new (Ended x w) s h = refl

same_moves : (i : ℕ) (k : Make) (p : JobState) (dev new : AbstractDevice) (st : JobStage) → Same i dev new → StageInvariant i k p dev st → control_variant_at st p new ≡ control_variant_at st p dev
same_moves i k p dev new Idle s h = refl
same_moves i k p dev new (Running g) s (inl h) =
    ap (λ (x : Bool). running_variant x p.due g p.session p.client new) h.served ∙ ap (λ (x : List AbstractReply). running_variant true x g p.session p.client new) h.due
    ∙ moved_number i k p.session p.client p.client dev new g s h.in_sync
    ∙ sym (ap (λ (x : Bool). running_variant x p.due g p.session p.client dev) h.served ∙ ap (λ (x : List AbstractReply). running_variant true x g p.session p.client dev) h.due)
same_moves i k p dev new (Running g) s (inr (inl h)) =
    ap (λ (x : Bool). running_variant x p.due g p.session p.client new) h.served ∙ ap (λ (x : List AbstractReply). running_variant true x g p.session p.client new) h.due
    ∙ ap (λ (n : ℕ). exchange_cost + n) (right_number i k p.session p.client (hear_at g p.session.job p.client h.reply) dev new (hear_at g p.session.job p.client h.reply).stage s h.right)
    ∙ sym (ap (λ (x : Bool). running_variant x p.due g p.session p.client dev) h.served ∙ ap (λ (x : List AbstractReply). running_variant true x g p.session p.client dev) h.due)
same_moves i k p dev new (Running g) s (inr (inr h)) =
    ap (λ (x : Bool). running_variant x p.due g p.session p.client new) h.served ∙ sym (ap (λ (x : Bool). running_variant x p.due g p.session p.client dev) h.served)
same_moves i k p dev new Done s h = refl
same_moves i k p dev new (Ended x w) s h = refl

put_moves : (i : ℕ) (k : Make) (p : JobState) (dev new : AbstractDevice) (b : Bool) → (b ≡ true → Same i dev new) → StageInvariant i k p dev p.client.stage → control_variant_of p (cond b new dev) ≡ control_variant_of p dev
put_moves i k p dev new true s h = same_moves i k p dev new p.client.stage (s refl) h
put_moves i k p dev new false s h = refl

-- a device at place w becomes another
device_moves : (s : SystemState) (i w : ℕ) (new : AbstractDevice) → Invariant s → (wanted_place s i ≡ w → Same i (s.device w) new) → control_variant_of (s.job i) (with_entry s.device w new (wanted_place s i)) ≡ control_variant s i
device_moves s i w new h same =
    put_moves i (make_for s i) (s.job i) (device_for s i) new (eqb (wanted_place s i) w)
    (λ e. let q : wanted_place s i ≡ w = eqb-true _ _ e in subst (λ (n : ℕ). Same i (s.device n) new) (sym q) (same q)) (h.exchanges i)

put_other : {X : Type 0} (f : ℕ → X) (j i : ℕ) (x : X) → i ≢ j → with_entry f j x i ≡ f i
put_other f j i x n = ap (λ (b : Bool). cond b x (f i)) (ne_eqb i j n)

other_moves : (s : SystemState) (i : ℕ) (x : Transition) → Invariant s → IsEnabled s x → IsOthers i x → ((after_transition s x).job i ≡ s.job i) × (control_variant_of (s.job i) ((after_transition s x).device (wanted_place s i)) ≡ control_variant s i)
other_moves s i (By j x) h l n =
    let t = treats j (make_for s j) (listed_devices s) (s.job j) (device_for s j) x l in
    (put_other s.job j i _ n, device_moves s i (wanted_place s j) (device_after j (make_for s j) (listed_devices s) (s.job j) (device_for s j) x) h (λ named. same_treated j i (make_for s j) (device_for s j) _ n t))
other_moves s i (Loads d page) h l n = (refl, device_moves s i d (with_page_laid_in (s.make d) page (s.device d)) h (λ named. record { held = λ x. (x, refl, refl); free = λ x. x }))
other_moves s i (Unplugs d) h l n = (refl, device_moves s i d (without_listing (s.device d)) h (λ named. record { held = λ x. (x, refl, refl); free = λ x. x }))
other_moves s i (Uses j d shown left) h l n = (refl, device_moves s i d left h (used_same s j d shown left h l.0 l.1 i))

pub others_raise_none : OthersKeepVariant
others_raise_none s i x h l n =
    let a = other_moves s i x h l n in
    let m : control_variant (after_transition s x) i ≡ control_variant s i = ap (λ (q : JobState). control_variant_of q ((after_transition s x).device q.session.job.wants)) a.0 ∙ a.1 in
    let w : flight_variant_at ((after_transition s x).job i).client.stage ((after_transition s x).job i) ≡ flight_variant_at (s.job i).client.stage (s.job i) = ap (λ (q : JobState). flight_variant_at q.client.stage q) a.0 in
    (ap (λ (v : ℕ). v + flight_variant_at ((after_transition s x).job i).client.stage ((after_transition s x).job i)) m ∙ ap (λ (v : ℕ). control_variant s i + v) w, m)

-- THE END AND THE BOUND
over_none : (st : JobStage) (p : JobState) (dev : AbstractDevice) → (IsUnderWay st → ⊥) → control_variant_at st p dev + flight_variant_at st p ≡ 0
over_none Idle p dev u = absurd (u tt)
over_none (Running g) p dev u = absurd (u tt)
over_none Done p dev u = refl
over_none (Ended s w) p dev u = refl

pub numbers_end : VariantEndsAtZero
numbers_end s i =
    (λ u. let a = at_least (s.job i).client.stage (s.job i) (device_for s i) u in omega arith, λ u. over_none (s.job i).client.stage (s.job i) (device_for s i) u)

pub numbers_bounded : VariantIsBounded
numbers_bounded make device job places i n = (λ e. omega arith, λ e. omega arith)
