-- Of two jobs that name one device, and no other does, one at most is answered that it is busy: who was answered so asked while the other
-- had it, and who has it is past its opening.
use Rattle.std.specs.Prelude.{◌≢◌, eqb, map, slice_get, slice_index_or}
use Rattle.std.specs.List.{AllByRecursion}
use Rattle.std.proofs.Common.{◌≡◌, ◌∙◌, ◌⊎◌, ℕ, zero, suc, List, [], ◌∷◌, ◌++◌, Bool, true, false, Some, None, inl, inr, refl, sym, ap, subst, eqb-true}
use Rattle.std.proofs.lemmas.Option.{get_or_from_slice_get}
use Rattle.scan_job.specs.declared.outcome.Why.{Why}
use Rattle.sane_fixed.specs.declared.status.Status.{Status}
use Rattle.sane_fixed.specs.declared.status.Status.TheVariants.{DeviceBusy, Inval}
use Rattle.sane_fixed.specs.declared.status.Status.TheVariants as codes
use Rattle.frame_join.specs.FrameHistory.{JoinHistory}
use Rattle.md5_auth.specs.declared.users.Entry.{Entry}
use Rattle.client_replies.specs.ProtocolStates.{target_of}
use Rattle.scan_job.specs.declared.job.Job.{Job}
use Rattle.scan_job.specs.declared.outcome.Outcome.TheVariants as outcomes
use Rattle.scan_job.specs.declared.outcome.Why.TheVariants as whys
use Rattle.event_world.specs.declared.endpoint.Endpoint.{Endpoint}
use Rattle.event_world.specs.Worlds.{WorldCore}
use Rattle.daemon_refines.proofs.Moved.{own}
use Rattle.system_model.specs.AbstractDevices.{AbstractDevice}
use Rattle.system_model.specs.Actions.{Action}
use Rattle.system_model.specs.Causes.{Cause, Explains, GaveUp, LinkLost, LinkOutOfMemory, SourceFailed, NamesEof, Names, Unforced, WasUnlisted, HadNoPicture, WasHeld, Disallowed, TrayWasEmpty, TrayRanOut, ClientOutOfMemory, IsCauseAmong, IsExplained, WasUnsaid}
use Rattle.system_model.specs.Client.{ClientView, JobStage, Idle, Running, Done, Ended}
use Rattle.system_model.specs.Devices.{Make}
use Rattle.system_model.specs.Invariants.{Invariant, IsCaused, StageInvariant}
use Rattle.system_model.specs.SystemStates.{JobState, SystemState, device_for, listed_devices, make_for, wanted_place}
use Rattle.system_model.specs.Transitions.{By, IsEnabled, IsHistory, IsUnderWay, Loads, Transition, Unplugs, Uses, after_all, after_transition}
use Rattle.world_refines.specs.FailedSources.{AllAlong}
use Rattle.world_refines.specs.GhostStates.{Ghost, abstract_job, job_state, name_at, place_named, place_of_info}
use Rattle.world_refines.specs.WorldRefinement.{HaveDifferentNames, WorldRefines, client_at_greeting}
use Rattle.event_world.specs.declared.event.Event.TheVariants.{ToDaemon}
use Rattle.strangers.specs.Together.JointEvent.{OfJobs}
use Rattle.scan_world.specs.Histories.{HasNoActs, History, LedTo, history_up_to}
use Rattle.scan_world.specs.Laws.{Below}
use Rattle.scan_world.specs.Lies.{NamesNothing}
use Rattle.scan_world.proofs.Along.{Fine, Laws, Own, fine_then, told_by}
use Rattle.scan_world.proofs.Begun.{job_same, party_stays}
use Rattle.scan_world.proofs.Elsewhere.{elsewhere, same_elsewhere}
use Rattle.scan_world.proofs.Quiet.{no_acts_front, none_shared}
use Rattle.scan_world.proofs.Ended.{comes_there, ended_reads, first_here, laws_of, steps_of_one, woken_ended}
use Rattle.scan_world.proofs.Evident.{Comes, IsAnswer, Opens, all_come, causes_by, met_by}
use Rattle.scan_world.proofs.Options.{streaming}
use Rattle.scan_world.proofs.Pages.{HasDevice, IsOfOne, name_there}
use Rattle.scan_world.proofs.Scanned.{at_first, infos_of, name_of}
use Rattle.scan_world.proofs.Unhindered.{has_own}
use Rattle.scan_world.proofs.moments.Entries.{own_party}
use Rattle.scan_world.proofs.moments.Judged.{Front, infos_there}
use Rattle.scan_world.proofs.moments.Moments.{AnsweredSo}
use Rattle.scan_world.proofs.moments.PastOpening.{IsPast, held_past, past_asks, past_stays}
use Rattle.scan_world.proofs.moments.Ran.{on_by}
use Rattle.scan_world.proofs.moments.Stands.{holder_has}

-- ---- what is fixed of both

-- job a, and job b, name the device of this job, and no other does; the options of neither name a status
pub record Pair (h : History) (o : Job) (a b : ℕ) (ja jb : Job) : Type 0 where
  pub a_at : slice_get h.jobs a ≡ Some ja
  pub b_at : slice_get h.jobs b ≡ Some jb
  pub a_named : ja.device ≡ o.device
  pub b_named : jb.device ≡ o.device
  pub apart : a ≢ b
  pub only : (m : ℕ) (x : Job) → slice_get h.jobs m ≡ Some x → x.device ≡ o.device → (m ≡ a) ⊎ (m ≡ b)
  pub a_nothing : NamesNothing h ja
  pub b_nothing : NamesNothing h jb
  pub undisturbed : HasNoActs h

swapped : (h : History) (o : Job) (a b : ℕ) (ja jb : Job) → Pair h o a b ja jb → Pair h o b a jb ja
swapped h o a b ja jb p = record { a_at = p.b_at; b_at = p.a_at; a_named = p.b_named; b_named = p.a_named; apart = λ e. p.apart (sym e); only = λ m x at named. other (p.only m x at named); a_nothing = p.b_nothing; b_nothing = p.a_nothing; undisturbed = p.undisturbed }
  where
    other : {A B : Type 0} → A ⊎ B → B ⊎ A
    other (inl x) = inr x
    other (inr y) = inl y

-- ---- where they look for their device

place_at : (h : History) (o : Job) (s : SystemState) (n : ℕ) (x : Job) → slice_get h.jobs n ≡ Some x → x.device ≡ o.device → Fine h o s → wanted_place s n ≡ place_named (infos_of h) o.device
place_at h o s n x at named f = f.places n ∙ (ap (λ (y : Job). place_named (infos_of h) y.device) (get_or_from_slice_get h.jobs n x (elsewhere h.devices o) at) ∙ ap (place_named (infos_of h)) named)

default_same : (jobs : List Job) (n : ℕ) (o x : Job) → x.device ≡ o.device → (slice_index_or jobs n o).device ≡ (slice_index_or jobs n x).device
default_same [] n o x e = sym e
default_same (job ∷ jobs) zero o x e = refl
default_same (job ∷ jobs) (suc n) o x e = default_same jobs n o x e

fine_for : (h : History) (o x : Job) (s : SystemState) → x.device ≡ o.device → Fine h o s → Fine h x s
fine_for h o x s e f = record { makes = f.makes; places = λ n. f.places n ∙ ap (place_named (infos_of h)) (default_same h.jobs n (elsewhere h.devices o) (elsewhere h.devices x) (same_elsewhere h.devices x o)); slots = f.slots }

front_of : (h : History) (w : WorldCore) (o : Job) (s : SystemState) (a : ℕ) (x : Action) → IsAnswer x → IsUnderWay (s.job a).client.stage → AnsweredSo h w o s (By a x) → Front h w o s a
front_of h w o s a x answer on so = ((answer.0, answer.1), (subst (λ (y : Action). AnsweredSo h w o s (By a y)) answer.2 so) on)

-- who holds it names it
who_holds : Below → (h : History) (w : WorldCore) (o : Job) (s : SystemState) (n m : ℕ) → HasNoActs h → Fine h o s → wanted_place s n ≡ place_named (infos_of h) o.device → Front h w o s n → (device_for s n).holder ≡ Some m → (x : Job) × (slice_get h.jobs m ≡ Some x) × (x.device ≡ o.device)
who_holds below h w o s n m quiet f place a held =
    let d = place_named (infos_of h) o.device in
    let there : HasDevice h d = subst (HasDevice h) place ((f.slots (wanted_place s n)).held m held) in
    let name : name_at (infos_of h) d ≡ Some o.device = name_there h.devices d there.0 there.1 ∙ ap (λ (x : List ℕ). Some x) (name_of h o.device there.0 there.1) in
    let named : name_at a.1.ghost.infos (wanted_place s n) ≡ Some o.device = subst (λ (k : ℕ). name_at a.1.ghost.infos k ≡ Some o.device) (sym place) (subst (λ (infos : _). name_at infos d ≡ Some o.device) (sym (infos_there h w o s n a)) name) in
    let front = no_acts_front h a.1.at.front (OfJobs (ToDaemon n a.1.n) ∷ a.1.at.back) a.1.at.split quiet in
    elim (holder_has a.1.ghost a.1.at.before (wanted_place s n) m o.device a.1.stands (ap (λ (u : SystemState). (u.device (wanted_place s n)).holder) a.1.state ∙ held) named) [
      | inl r ↦ has_own below (history_up_to h a.1.at.front) a.1.at.before o a.1.at.led_before m o.device r.0 r.1
      | inr x ↦ absurd (none_shared below (history_up_to h a.1.at.front) a.1.at.before o front a.1.at.led_before o.device x)
    ]

-- ---- a job that met that another had its device, and may be told so, or was

abbrev HitBy : List Cause → JobStage → Type 0
HitBy met Idle = IsCauseAmong WasHeld met
HitBy met (Running g) = IsCauseAmong WasHeld met
HitBy met Done = ⊥
HitBy met (Ended status why) = (status ≡ DeviceBusy) × (why ≡ whys.Answer)

abbrev pub Hit : JobState → Type 0
Hit p = HitBy p.session.met p.client.stage

-- and never met that its options name that status
abbrev Unnamed : JobState → Type 0
Unnamed p = IsUnderWay p.client.stage → IsCauseAmong (Names DeviceBusy) p.session.met → ⊥

hit_under : (met : List Cause) (stage : JobStage) → IsUnderWay stage → IsCauseAmong WasHeld met → HitBy met stage
hit_under met Idle on c = c
hit_under met (Running g) on c = c
hit_under met Done on c = absurd on
hit_under met (Ended status why) on c = absurd on

hit_over : (old new : List Cause) (stage : JobStage) → (IsUnderWay stage → ⊥) → HitBy new stage → HitBy old stage
hit_over old new Idle off hit = absurd (off tt)
hit_over old new (Running g) off hit = absurd (off tt)
hit_over old new Done off hit = hit
hit_over old new (Ended status why) off hit = hit

-- a cause of these, or of those before
among_either : (c : Cause) (xs ys : List Cause) → IsCauseAmong c (xs ++ ys) → IsCauseAmong c xs ⊎ IsCauseAmong c ys
among_either c [] ys m = inr m
among_either c (x ∷ xs) ys (inl same) = inl (inl same)
among_either c (x ∷ xs) ys (inr m) = elim (among_either c xs ys m) [
  | inl here ↦ inl (inr here)
  | inr there ↦ inr there
]

comes_of : (P : Cause → Type 0) (c : Cause) (xs : List Cause) → AllByRecursion P xs → IsCauseAmong c xs → P c
comes_of P c [] all m = absurd m
comes_of P c (x ∷ xs) all (inl same) = subst P (sym same) all.0
comes_of P c (x ∷ xs) all (inr m) = comes_of P c xs all.1 m

-- what explains the answer that it is busy
explains_busy : (c : Cause) → Explains c DeviceBusy whys.Answer → (c ≡ WasHeld) ⊎ (c ≡ Names DeviceBusy)
explains_busy GaveUp x = absurd (let clash : DeviceBusy ≡ codes.Cancelled = x.0 in cc)
explains_busy LinkLost x = absurd (let clash : DeviceBusy ≡ codes.IoError = x.0 in cc)
explains_busy LinkOutOfMemory x = absurd (let clash : DeviceBusy ≡ codes.IoError = x.0 in cc)
explains_busy WasUnsaid x = absurd x
explains_busy SourceFailed x = absurd (let clash : DeviceBusy ≡ codes.IoError = x.0 in cc)
explains_busy NamesEof x = absurd (let clash : DeviceBusy ≡ codes.IoError = x.0 in cc)
explains_busy (Names status) x = inr (ap (λ (s : Status). Names s) (sym x.0))
explains_busy Unforced x = absurd (let clash : DeviceBusy ≡ Inval = x.0 in cc)
explains_busy WasUnlisted x = absurd (let clash : DeviceBusy ≡ Inval = x.0 in cc)
explains_busy HadNoPicture x = absurd (let clash : DeviceBusy ≡ Inval = x.0 in cc)
explains_busy WasHeld x = inl refl
explains_busy Disallowed x = absurd (let clash : DeviceBusy ≡ codes.AccessDenied = x.0 in cc)
explains_busy TrayWasEmpty x = absurd (let clash : DeviceBusy ≡ codes.NoDocs = x.0 in cc)
explains_busy TrayRanOut x = absurd x
explains_busy ClientOutOfMemory x = absurd (let clash : DeviceBusy ≡ codes.NoMem = x.0 in cc)

busy_among : (met : List Cause) → IsExplained DeviceBusy whys.Answer met → IsCauseAmong WasHeld met ⊎ IsCauseAmong (Names DeviceBusy) met
busy_among [] x = absurd x
busy_among (c ∷ met) (inl e) = elim (explains_busy c e) [
  | inl same ↦ inl (inl (sym same))
  | inr same ↦ inr (inl (sym same))
]
busy_among (c ∷ met) (inr x) = elim (busy_among met x) [
  | inl m ↦ inl (inr m)
  | inr m ↦ inr (inr m)
]

caused_busy : (k : Make) (b : _) → IsCaused k b DeviceBusy whys.Answer → IsCauseAmong WasHeld b.met ⊎ IsCauseAmong (Names DeviceBusy) b.met
caused_busy k b (inl x) = busy_among b.met x
caused_busy k b (inr x) = absurd (let clash : DeviceBusy ≡ Inval = x.1.0 in cc)

-- what it met, where it is hit
hit_met : (i : ℕ) (k : Make) (p : JobState) (dev : AbstractDevice) (stage : JobStage) → StageInvariant i k p dev stage → HitBy p.session.met stage → IsCauseAmong WasHeld p.session.met ⊎ IsCauseAmong (Names DeviceBusy) p.session.met
hit_met i k p dev Idle h hit = inl hit
hit_met i k p dev (Running g) h hit = inl hit
hit_met i k p dev Done h hit = absurd hit
hit_met i k p dev (Ended status why) h (busy, answer) = caused_busy k p.session (subst (λ (s : Status). IsCaused k p.session s whys.Answer) busy (subst (λ (y : Why). IsCaused k p.session status y) answer h))

-- ---- one step of job a

pub record Besides (h : History) (s : SystemState) (a b : ℕ) (ja jb : Job) : Type 0 where
  pub one : Hit (s.job a) → IsPast (s.job b) × (Hit (s.job b) → ⊥)
  pub other : Hit (s.job b) → IsPast (s.job a) × (Hit (s.job a) → ⊥)
  pub unnamed : Unnamed (s.job a)
  pub unnamed_too : Unnamed (s.job b)
  pub is : (s.job a).session.job ≡ abstract_job h.users (infos_of h) ja
  pub is_too : (s.job b).session.job ≡ abstract_job h.users (infos_of h) jb

turned : (h : History) (s : SystemState) (a b : ℕ) (ja jb : Job) → Besides h s a b ja jb → Besides h s b a jb ja
turned h s a b ja jb x = record { one = x.other; other = x.one; unnamed = x.unnamed_too; unnamed_too = x.unnamed; is = x.is_too; is_too = x.is }

-- what is so in front of a step
pub record Stand (h : History) (w : WorldCore) (o : Job) (s : SystemState) (x : Transition) : Type 0 where
  pub below : Below
  pub apart : HaveDifferentNames (infos_of h)
  pub fine : Fine h o s
  pub sound : Invariant s
  pub of : IsOfOne h x
  pub answers : AnsweredSo h w o s x
  pub may : IsEnabled s x

comes_by : (h : History) (w : WorldCore) (o : Job) (s : SystemState) (a : ℕ) (x : Action) → Stand h w o s (By a x) → (c : Cause) → IsCauseAmong c (causes_by a (make_for s a) (listed_devices s) (s.job a) (device_for s a) x) → Comes a (make_for s a) (s.job a) (device_for s a) x c
comes_by h w o s a x st c m =
    comes_of (Comes a (make_for s a) (s.job a) (device_for s a) x) c (causes_by a (make_for s a) (listed_devices s) (s.job a) (device_for s a) x) (all_come st.below.grounds a (make_for s a) (listed_devices s) (s.job a) (device_for s a) x st.may) m

met_or : (h : History) (w : WorldCore) (o : Job) (s : SystemState) (a : ℕ) (x : Action) (c : Cause) → Stand h w o s (By a x) → IsCauseAmong c ((after_transition s (By a x)).job a).session.met → Comes a (make_for s a) (s.job a) (device_for s a) x c ⊎ IsCauseAmong c (s.job a).session.met
met_or h w o s a x c st m =
    let met = ap (λ (p : JobState). p.session.met) (own_party s a x) ∙ met_by a (make_for s a) (listed_devices s) (s.job a) (device_for s a) x in
    elim (among_either c (causes_by a (make_for s a) (listed_devices s) (s.job a) (device_for s a) x) (s.job a).session.met (subst (IsCauseAmong c) met m)) [
      | inl here ↦ inl (comes_by h w o s a x st c here)
      | inr there ↦ inr there
    ]

-- its options name no status of a turn
not_named : (h : History) (w : WorldCore) (o : Job) (s : SystemState) (a : ℕ) (ja : Job) (x : Action) → Stand h w o s (By a x) → slice_get h.jobs a ≡ Some ja → ja.device ≡ o.device → NamesNothing h ja → (s.job a).session.job ≡ abstract_job h.users (infos_of h) ja → IsUnderWay (s.job a).client.stage → Comes a (make_for s a) (s.job a) (device_for s a) x (Names DeviceBusy) → ⊥
not_named h w o s a ja x st at named nothing is on c =
    let own : Own h a ja = record { at = at; apart = st.apart; same = st.below.same } in
    let streamed = streaming a (make_for s a) (s.job a) (device_for s a) (s.job a).client.stage on (st.sound.exchanges a) c.1 in
    let told = told_by h a ja s DeviceBusy own (fine_for h o ja s named st.fine) is c.2 streamed.0 c.3 in
    let clash : None ≡ Some DeviceBusy = (sym (nothing told.0)) ∙ told.1 in cc

-- where it is hit it was, or it asks while job b has the device
hit_back : (h : History) (w : WorldCore) (o : Job) (s : SystemState) (a b : ℕ) (ja jb : Job) (x : Action) → Pair h o a b ja jb → Stand h w o s (By a x) → Besides h s a b ja jb → Invariant (after_transition s (By a x)) → Hit ((after_transition s (By a x)).job a) → Hit (s.job a) ⊎ (Opens (s.job a) × IsUnderWay (s.job a).client.stage × IsPast (s.job b))
hit_back h w o s a b ja jb x pair st bes sound hit = by_stage (s.job a).client.stage refl
  where
    now : JobState
    now = (after_transition s (By a x)).job a

    over : (IsUnderWay (s.job a).client.stage → ⊥) → Hit (s.job a)
    over off =
        let client : now.client ≡ (s.job a).client = st.below.last s a x st.may off in
        hit_over (s.job a).session.met now.session.met (s.job a).client.stage off (subst (λ (m : ClientView). HitBy now.session.met m.stage) client hit)

    held : IsUnderWay (s.job a).client.stage → Comes a (make_for s a) (s.job a) (device_for s a) x WasHeld ⊎ IsCauseAmong WasHeld (s.job a).session.met → Hit (s.job a) ⊎ (Opens (s.job a) × IsUnderWay (s.job a).client.stage × IsPast (s.job b))
    held on (inr m) = inl (hit_under (s.job a).session.met (s.job a).client.stage on m)
    held on (inl (answer, opens, (m, holder, not_own))) =
        let place = place_at h o s a ja pair.a_at pair.a_named st.fine in
        let own = who_holds st.below h w o s a m pair.undisturbed st.fine place (front_of h w o s a x answer on st.answers) holder in
        let same : m ≡ b = elim (pair.only m own.0 own.1 own.2) [
          | inl is ↦ absurd (not_own is)
          | inr is ↦ is
        ] in
        let by_b : (device_for s b).holder ≡ Some b = subst (λ (n : ℕ). (s.device n).holder ≡ Some b) (place ∙ sym (place_at h o s b jb pair.b_at pair.b_named st.fine)) (holder ∙ ap (λ (n : ℕ). Some n) same) in
        inr (opens, on, held_past b (make_for s b) (s.job b) (device_for s b) (st.sound.exchanges b) by_b)

    under : IsUnderWay (s.job a).client.stage → IsCauseAmong WasHeld now.session.met ⊎ IsCauseAmong (Names DeviceBusy) now.session.met → Hit (s.job a) ⊎ (Opens (s.job a) × IsUnderWay (s.job a).client.stage × IsPast (s.job b))
    under on (inl m) = held on (met_or h w o s a x WasHeld st m)
    under on (inr m) = elim (met_or h w o s a x (Names DeviceBusy) st m) [
      | inl c ↦ absurd (not_named h w o s a ja x st pair.a_at pair.a_named pair.a_nothing bes.is on c)
      | inr old ↦ absurd (bes.unnamed on old)
    ]

    met_now : IsCauseAmong WasHeld now.session.met ⊎ IsCauseAmong (Names DeviceBusy) now.session.met
    met_now = hit_met a (make_for (after_transition s (By a x)) a) now (device_for (after_transition s (By a x)) a) now.client.stage (sound.exchanges a) hit

    by_stage : (st : JobStage) → (s.job a).client.stage ≡ st → Hit (s.job a) ⊎ (Opens (s.job a) × IsUnderWay (s.job a).client.stage × IsPast (s.job b))
    by_stage Idle e = under (subst IsUnderWay (sym e) tt) met_now
    by_stage (Running g) e = under (subst IsUnderWay (sym e) tt) met_now
    by_stage Done e = inl (over (λ on. subst IsUnderWay e on))
    by_stage (Ended status why) e = inl (over (λ on. subst IsUnderWay e on))

own_beside : (h : History) (w : WorldCore) (o : Job) (s : SystemState) (a b : ℕ) (ja jb : Job) (x : Action) → Pair h o a b ja jb → Stand h w o s (By a x) → Invariant (after_transition s (By a x)) → eqb b a ≡ false → Besides h s a b ja jb → Besides h (after_transition s (By a x)) a b ja jb
own_beside h w o s a b ja jb x pair st sound apart bes =
    let q = after_transition s (By a x) in
    let b_same : q.job b ≡ s.job b = party_stays s a x b apart in
    let past : IsPast (s.job a) → IsPast (q.job a) = λ p. subst IsPast (sym (own_party s a x)) (past_stays a (make_for s a) (listed_devices s) (s.job a) (device_for s a) x st.may p) in
    let back : Hit (q.job a) → Hit (s.job a) ⊎ (Opens (s.job a) × IsUnderWay (s.job a).client.stage × IsPast (s.job b)) = λ hit. hit_back h w o s a b ja jb x pair st bes sound hit in
    let not_asks : Opens (s.job a) → IsUnderWay (s.job a).client.stage → IsPast (s.job a) → ⊥ = λ opens on p. past_asks a (make_for s a) (s.job a) (device_for s a) opens.0 opens.1 (st.sound.exchanges a) on opens.2 opens.3 p in
    record {
      one = λ hit. elim (back hit) [
        | inl old ↦ (let r = bes.one old in (subst IsPast (sym b_same) r.0, λ too. r.1 (subst Hit b_same too)))
        | inr new ↦ (subst IsPast (sym b_same) new.2, λ too. not_asks new.0 new.1 (bes.other (subst Hit b_same too)).0)
      ];
      other = λ too.
          let r = bes.other (subst Hit b_same too) in (
            past r.0,
            λ hit. elim (back hit) [
              | inl old ↦ r.1 old
              | inr new ↦ not_asks new.0 new.1 r.0
            ],
          );
      unnamed = λ on m.
          let was = on_by st.below.last s a x st.may a true (own a) on in
          elim (met_or h w o s a x (Names DeviceBusy) st m) [
            | inl c ↦ not_named h w o s a ja x st pair.a_at pair.a_named pair.a_nothing bes.is was c
            | inr old ↦ bes.unnamed was old
          ];
      unnamed_too = subst Unnamed (sym b_same) bes.unnamed_too;
      is = job_same s (By a x) a ∙ bes.is;
      is_too = job_same s (By a x) b ∙ bes.is_too;
    }

-- ---- of any job

unequal : (n m : ℕ) → n ≢ m → eqb n m ≡ false
unequal n m apart = by_bool (eqb n m) refl
  where
    by_bool : (b : Bool) → eqb n m ≡ b → eqb n m ≡ false
    by_bool true e = absurd (apart (eqb-true n m e))
    by_bool false e = e

other_beside : (h : History) (s : SystemState) (n a b : ℕ) (ja jb : Job) (x : Action) → eqb a n ≡ false → eqb b n ≡ false → Besides h s a b ja jb → Besides h (after_transition s (By n x)) a b ja jb
other_beside h s n a b ja jb x a_not b_not bes =
    let a_same = party_stays s n x a a_not in
    let b_same = party_stays s n x b b_not in
    record {
      one = λ hit. let r = bes.one (subst Hit a_same hit) in (subst IsPast (sym b_same) r.0, λ too. r.1 (subst Hit b_same too));
      other = λ hit. let r = bes.other (subst Hit b_same hit) in (subst IsPast (sym a_same) r.0, λ too. r.1 (subst Hit a_same too));
      unnamed = subst Unnamed (sym a_same) bes.unnamed;
      unnamed_too = subst Unnamed (sym b_same) bes.unnamed_too;
      is = job_same s (By n x) a ∙ bes.is;
      is_too = job_same s (By n x) b ∙ bes.is_too;
    }

by_job : (h : History) (w : WorldCore) (o : Job) (s : SystemState) (n a b : ℕ) (ja jb : Job) (x : Action) (c d : Bool) → eqb a n ≡ c → eqb b n ≡ d → Pair h o a b ja jb → Stand h w o s (By n x) → Invariant (after_transition s (By n x)) → Besides h s a b ja jb → Besides h (after_transition s (By n x)) a b ja jb
by_job h w o s n a b ja jb x true d is e pair st sound bes =
    let same : a ≡ n = eqb-true a n is in
    subst (λ (m : ℕ). Stand h w o s (By m x) → Invariant (after_transition s (By m x)) → Besides h (after_transition s (By m x)) a b ja jb) same
    (λ here now. own_beside h w o s a b ja jb x pair here now (unequal b a (λ same. pair.apart (sym same))) bes) st sound
by_job h w o s n a b ja jb x false true is e pair st sound bes =
    let same : b ≡ n = eqb-true b n e in
    subst (λ (m : ℕ). Stand h w o s (By m x) → Invariant (after_transition s (By m x)) → Besides h (after_transition s (By m x)) a b ja jb) same
    (λ here now. turned h (after_transition s (By b x)) b a jb ja (own_beside h w o s b a jb ja x (swapped h o a b ja jb pair) here now (unequal a b pair.apart) (turned h s a b ja jb bes))) st sound
by_job h w o s n a b ja jb x false false is e pair st sound bes = other_beside h s n a b ja jb x is e bes

one_step : (h : History) (w : WorldCore) (o : Job) (s : SystemState) (a b : ℕ) (ja jb : Job) (x : Transition) → Pair h o a b ja jb → Stand h w o s x → Invariant (after_transition s x) → Besides h s a b ja jb → Besides h (after_transition s x) a b ja jb
one_step h w o s a b ja jb (By n x) pair st sound bes = by_job h w o s n a b ja jb x (eqb a n) (eqb b n) refl refl pair st sound bes
one_step h w o s a b ja jb (Loads d page) pair st sound bes = record { one = bes.one; other = bes.other; unnamed = bes.unnamed; unnamed_too = bes.unnamed_too; is = bes.is; is_too = bes.is_too }
one_step h w o s a b ja jb (Unplugs d) pair st sound bes = record { one = bes.one; other = bes.other; unnamed = bes.unnamed; unnamed_too = bes.unnamed_too; is = bes.is; is_too = bes.is_too }
one_step h w o s a b ja jb (Uses u d shown left) pair st sound bes = record { one = bes.one; other = bes.other; unnamed = bes.unnamed; unnamed_too = bes.unnamed_too; is = bes.is; is_too = bes.is_too }

all_steps : (below : Below) (laws : Laws) (h : History) (w : WorldCore) (o : Job) (a b : ℕ) (ja jb : Job) (xs : List Transition) (s : SystemState) → Pair h o a b ja jb → HaveDifferentNames (infos_of h) → Fine h o s → Invariant s → AllByRecursion (IsOfOne h) xs → AllAlong (AnsweredSo h w o) s xs → IsHistory s xs → Besides h s a b ja jb → Besides h (after_all s xs) a b ja jb
all_steps below laws h w o a b ja jb [] s pair apart f sound of answers may bes = bes
all_steps below laws h w o a b ja jb (x ∷ xs) s pair apart f sound of answers may bes =
    let st : Stand h w o s x = record { below = below; apart = apart; fine = f; sound = sound; of = of.0; answers = answers.0; may = may.0 } in
    let now = laws.sound s (x ∷ []) sound (may.0, tt) in
    all_steps below laws h w o a b ja jb xs (after_transition s x) pair apart (fine_then laws.legal h o s x sound may.0 of.0 f) now of.1 answers.1 may.1 (one_step h w o s a b ja jb x pair st now bes)

-- ---- not both were answered so

ended_hit : (u : Ghost) (w : WorldCore) (i : ℕ) (p : Endpoint) → WorldRefines u w → slice_get w.endpoints i ≡ Some p → p.client.outcome ≡ outcomes.Ended codes.DeviceBusy whys.Answer → Hit (job_state u i)
ended_hit u w i p h at is =
    let me = job_state u i in
    let d = ended_reads (place_of_info u.infos) (target_of (u.jobs i)) me.session.job (map (λ (q : JoinHistory). q.ended) (u.pages i)) p.client.outcome p.client.progress p.client.notes (u.history i) (client_at_greeting me.client.stage me.client) codes.DeviceBusy whys.Answer (h.endpoints i p at).exchanges.reads.stands is in
    let stage = woken_ended me.client.stage me.client codes.DeviceBusy whys.Answer refl d in
    subst (HitBy me.session.met) (sym stage) (refl, refl)

own_first : (h : History) (w : WorldCore) (o : Job) (l : LedTo h w) (n : ℕ) (x : Job) → slice_get h.jobs n ≡ Some x → ((at_first h w o l).system.job n).session.job ≡ abstract_job h.users (infos_of h) x
own_first h w o l n x at = ap (λ (users : List Entry). abstract_job users (infos_of h) (slice_index_or h.jobs n (elsewhere h.devices o))) l.users_are ∙ ap (λ (y : Job). abstract_job h.users (infos_of h) y) (get_or_from_slice_get h.jobs n x (elsewhere h.devices o) at)

pub not_both : (below : Below) (h : History) (w : WorldCore) (i j : ℕ) (o other : Job) (p q : Endpoint) → LedTo h w → Pair h o i j o other → slice_get w.endpoints i ≡ Some p → slice_get w.endpoints j ≡ Some q → p.client.outcome ≡ outcomes.Ended codes.DeviceBusy whys.Answer → q.client.outcome ≡ outcomes.Ended codes.DeviceBusy whys.Answer → ⊥
not_both below h w i j o other p q l pair at there first second =
    let c = comes_there below h w o l in
    let t = at_first h w o l in
    let e = first_here below h w i o l pair.a_at in
    let none : (n : ℕ) → Hit (t.system.job n) → ⊥ = λ n hit. hit in
    let at_start : Besides h t.system i j o other = record {
      one = λ hit. absurd (none i hit);
      other = λ hit. absurd (none j hit);
      unnamed = λ on m. m;
      unnamed_too = λ on m. m;
      is = own_first h w o l i o pair.a_at;
      is_too = own_first h w o l j other pair.b_at;
    } in
    let now = all_steps below (laws_of below) h w o i j o other c.steps t.system pair e.own_job.apart e.fine e.sound (steps_of_one below h w o l) c.answered c.legal at_start in
    let here : Besides h c.ghost_then.system i j o other = subst (λ (s : SystemState). Besides h s i j o other) (sym c.rules_are) now in
    (here.one (ended_hit c.ghost_then w i p c.stands at first)).1 (ended_hit c.ghost_then w j q c.stands there second)
