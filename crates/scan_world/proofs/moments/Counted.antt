-- A batch that is done has all its pages, or its device had no more as it asked for a start behind just those.
use Rattle.std.specs.Prelude.{eqb, length}
use Rattle.std.specs.List.{AllByRecursion}
use Rattle.std.proofs.Common.{◌≡◌, ◌≢◌, ◌∙◌, ◌⊎◌, ℕ, suc, List, [], ◌∷◌, ◌++◌, Bool, true, false, Option, Some, None, inl, inr, refl, sym, ap, subst, eqb-true}
use Rattle.scan_job.specs.declared.outcome.Why.TheVariants.{Lost, Memory, Cancelled}
use Rattle.sane_fixed.specs.declared.status.Status.TheVariants.{NoDocs, IoError, NoMem}
use Rattle.sane_fixed.specs.declared.status.Status.TheVariants as statuses
use Rattle.scan_job.specs.declared.job.Job.{Job}
use Rattle.system_model.specs.AbstractMessages.{AbstractReply, AbstractRequest, Challenge, Start, Refused}
use Rattle.system_model.specs.AbstractDevices.{AbstractDevice, Resting, is_held_by}
use Rattle.system_model.specs.Actions
use Rattle.system_model.specs.Actions.{Action, answer_next, environment_of, job_after_action, served_by}
use Rattle.system_model.specs.Causes.{Cause, SourceFailed, NamesEof, Names, TrayRanOut, GaveUp, LinkLost, LinkOutOfMemory, WasUnsaid, ClientOutOfMemory, IsCauseAmong}
use Rattle.system_model.specs.Client.{AbstractJob, AbstractProgress, ClientView, JobStage, Idle, Running, Done, Ended, Greeting, Listing, Opening, Allowing, Describing, Putting, Getting, Starting, Shaping, Imaging, Batch, request_awaited}
use Rattle.system_model.specs.ClientReplies.{hear_at, hear_in, client_after_bytes, stage_after_stop, start_refused}
use Rattle.system_model.specs.Daemon.{Environment, FailureCounts, TransferState, Quiet, answer, answer_if, start_at, start_effect, start_or_fail, start_page}
use Rattle.system_model.specs.Devices.{Make}
use Rattle.system_model.specs.Invariants.{Invariant, StageInvariant}
use Rattle.system_model.specs.SystemStates.{JobState, SystemState, device_for, listed_devices, make_for}
use Rattle.system_model.specs.Transitions.{By, IsEnabled, IsActionEnabled, IsHistory, IsUnderWay, Loads, Transition, Unplugs, Uses, after_all, after_transition}
use Rattle.system_model.proofs.JobPromises.{batches_counted}
use Rattle.daemon_refines.proofs.Moved.{own}
use Rattle.event_world.specs.Worlds.{WorldCore}
use Rattle.world_refines.specs.FailedSources.{AllAlong}
use Rattle.scan_world.specs.Endings.{HadNoPage}
use Rattle.scan_world.specs.Histories.{History}
use Rattle.scan_world.proofs.Along.{Here, Laws}
use Rattle.scan_world.proofs.Begun.{job_stays, party_stays}
use Rattle.scan_world.proofs.Evident.{Comes, all_come, causes_by, causes_next, met_by}
use Rattle.scan_world.proofs.Pages.{IsOfOne}
use Rattle.scan_world.proofs.moments.Entries.{own_party}
use Rattle.scan_world.proofs.moments.Judged.{Front, here_then, no_page}
use Rattle.scan_world.proofs.moments.Moments.{AnsweredSo}
use Rattle.scan_world.proofs.moments.Tray.{dry_there, starts_ready}

-- ---- that cause comes of an answer alone

abbrev IsNotIt : Cause → Type 0
IsNotIt c = TrayRanOut ≡ c → ⊥

abbrev HasItNot : List Cause → Type 0
HasItNot cs = AllByRecursion IsNotIt cs

lost_not : (memory : Bool) → HasItNot (Actions.loss_cause memory ∷ [])
lost_not true = (λ e. (let clash : TrayRanOut ≡ LinkOutOfMemory = e in cc), tt)
lost_not false = (λ e. (let clash : TrayRanOut ≡ LinkLost = e in cc), tt)

broken_not : (memory : Bool) → HasItNot (Actions.break_causes memory)
broken_not true = (λ e. (let clash : TrayRanOut ≡ LinkOutOfMemory = e in cc), tt)
broken_not false = (λ e. (let clash : TrayRanOut ≡ WasUnsaid = e in cc), tt)

earlier : (cs met : List Cause) → HasItNot cs → IsCauseAmong TrayRanOut (cs ++ met) → IsCauseAmong TrayRanOut met
earlier [] met none m = m
earlier (c ∷ cs) met none (inl same) = absurd (none.0 same)
earlier (c ∷ cs) met none (inr m) = earlier cs met none.1 m

either_met : (cs met : List Cause) → IsCauseAmong TrayRanOut (cs ++ met) → IsCauseAmong TrayRanOut cs ⊎ IsCauseAmong TrayRanOut met
either_met [] met m = inr m
either_met (c ∷ cs) met (inl same) = inl (inl same)
either_met (c ∷ cs) met (inr m) = elim (either_met cs met m) [
  | inl a ↦ inl (inr a)
  | inr b ↦ inr b
]

pick_it : (P : Cause → Type 0) (cs : List Cause) → AllByRecursion P cs → IsCauseAmong TrayRanOut cs → P TrayRanOut
pick_it P [] a m = absurd m
pick_it P (c ∷ cs) a (inl same) = subst P (sym same) a.0
pick_it P (c ∷ cs) a (inr m) = pick_it P cs a.1 m

-- ---- what is told with it

page_told : (k : Make) (dev : AbstractDevice) (c : TransferState) (again : Bool) (fault : Option FailureCounts) → dev.phase ≡ Resting → dev.tray ≡ [] → IsCauseAmong TrayRanOut (start_or_fail k dev c again fault).causes → (start_or_fail k dev c again fault).told ≡ Refused NoDocs ∷ []
page_told k dev c again None rests none m = ap (λ (v : _). v.told) (ap (start_at k dev c again) rests) ∙ ap (λ (v : _). v.told) (ap (start_page k dev c again) none)
page_told k dev c again (Some fault) rests none m = absurd (elim m [
  | inl same ↦ (let clash : TrayRanOut ≡ SourceFailed = same in cc)
  | inr none ↦ none
])

start_told : (k : Make) (dev : AbstractDevice) (x : Environment) (c : TransferState) → c ≡ Quiet → dev.phase ≡ Resting → dev.tray ≡ [] → IsCauseAmong TrayRanOut (start_effect k dev x c).causes → (start_effect k dev x c).told ≡ Refused NoDocs ∷ []
start_told k dev x c quiet rests none m =
    ap (λ (d : TransferState). (start_effect k dev x d).told) quiet
    ∙ page_told k dev Quiet x.again x.fault rests none (subst (λ (d : TransferState). IsCauseAmong TrayRanOut (start_effect k dev x d).causes) quiet m)

-- whether the device is held
own_held : (i : ℕ) (o : Option ℕ) → o ≡ Some i → is_held_by i o ≡ true
own_held i None e = absurd (let clash : None ≡ Some i = e in cc)
own_held i (Some j) e = let same : j ≡ i = (let both : Some j ≡ Some i = e in cc) in ap (λ (n : ℕ). eqb n i) same ∙ own i

if_told : (b : Bool) (i : ℕ) (k : Make) (dev : AbstractDevice) (c : TransferState) (x : Environment) → b ≡ true → c ≡ Quiet → dev.phase ≡ Resting → dev.tray ≡ [] → IsCauseAmong TrayRanOut (answer_if b i k dev c x Start).causes → (answer_if b i k dev c x Start).told ≡ Refused NoDocs ∷ []
if_told true i k dev c x on quiet rests none m = start_told k dev x c quiet rests none m
if_told false i k dev c x on quiet rests none m = absurd (let clash : false ≡ true = on in cc)

answer_told : (i : ℕ) (k : Make) (dev : AbstractDevice) (c : TransferState) (awaited : Option Challenge) (x : Environment) → awaited ≡ None → dev.holder ≡ Some i → c ≡ Quiet → dev.phase ≡ Resting → dev.tray ≡ [] → IsCauseAmong TrayRanOut (answer i k dev c awaited x Start).causes → (answer i k dev c awaited x Start).told ≡ Refused NoDocs ∷ []
answer_told i k dev c None x free held quiet rests none m = if_told (is_held_by i dev.holder) i k dev c x (own_held i dev.holder held) quiet rests none m
answer_told i k dev c (Some sent) x free held quiet rests none m = absurd (let clash : Some sent ≡ None = free in cc)

-- ---- what is so of a job that met it

-- while it is under way its client is told that, or its session is over
abbrev Told : JobState → Type 0
Told p = (p.due ≡ Refused NoDocs ∷ []) ⊎ (p.served ≡ false)

abbrev pub CountedSo : History → WorldCore → ℕ → Job → JobState → Type 0
CountedSo h w i job p = IsCauseAmong TrayRanOut p.session.met → HadNoPage h w i job (length p.client.pages) × (IsUnderWay p.client.stage → Told p)

abbrev pub CountsTo : History → WorldCore → ℕ → Job → JobState → Type 0
CountsTo h w i job p = (n : ℕ) → p.session.job.task ≡ Batch n → (length p.client.pages ≡ suc n) ⊎ HadNoPage h w i job (length p.client.pages)

abbrev Kept : History → WorldCore → ℕ → Job → JobState → JobStage → Type 0
Kept h w i job p Idle = IsCauseAmong TrayRanOut p.session.met → ⊥
Kept h w i job p (Running g) = CountedSo h w i job p
Kept h w i job p Done = CountsTo h w i job p
Kept h w i job p (Ended status why) = Unit {0}

-- of a job that runs, whose client waits for nothing but data, it is not so
told_not : {A : Type 0} (i : ℕ) (k : Make) (p : JobState) (dev : AbstractDevice) (stage : JobStage) (g : AbstractProgress) → stage ≡ Running g → request_awaited g ≡ [] → StageInvariant i k p dev stage → Told p → A
told_not i k p dev Idle g at none inv told = absurd (let clash : Idle ≡ Running g = at in cc)
told_not i k p dev (Running f) g at none (inl r) (inl due) = absurd (let clash : [] ≡ Refused NoDocs ∷ [] = sym r.due ∙ due in cc)
told_not i k p dev (Running f) g at none (inl r) (inr off) = absurd (let clash : true ≡ false = sym r.served ∙ off in cc)
told_not i k p dev (Running f) g at none (inr (inl r)) told = let same : f ≡ g = (let both : Running f ≡ Running g = at in cc) in absurd (r.waits (ap request_awaited same ∙ none))
told_not i k p dev (Running f) g at none (inr (inr r)) told = let same : f ≡ g = (let both : Running f ≡ Running g = at in cc) in absurd (r.waits (ap request_awaited same ∙ none))
told_not i k p dev Done g at none inv told = absurd (let clash : Done ≡ Running g = at in cc)
told_not i k p dev (Ended status why) g at none inv told = absurd (let clash : Ended status why ≡ Running g = at in cc)

-- nor of one of which a request is to be answered
asked_not : {A : Type 0} (i : ℕ) (k : Make) (p : JobState) (dev : AbstractDevice) (stage : JobStage) (g : AbstractProgress) → stage ≡ Running g → StageInvariant i k p dev stage → p.served ≡ true → p.todo ≢ [] → Told p → A
asked_not i k p dev Idle g at inv on some told = absurd (let clash : Idle ≡ Running g = at in cc)
asked_not i k p dev (Running f) g at (inl r) on some (inl due) = absurd (let clash : [] ≡ Refused NoDocs ∷ [] = sym r.due ∙ due in cc)
asked_not i k p dev (Running f) g at (inl r) on some (inr off) = absurd (let clash : true ≡ false = sym on ∙ off in cc)
asked_not i k p dev (Running f) g at (inr (inl r)) on some told = absurd (some r.todo)
asked_not i k p dev (Running f) g at (inr (inr r)) on some told = absurd (some r.todo)
asked_not i k p dev Done g at inv on some told = absurd (let clash : Done ≡ Running g = at in cc)
asked_not i k p dev (Ended status why) g at inv on some told = absurd (let clash : Ended status why ≡ Running g = at in cc)

-- a reply that is due is that one
due_is : (i : ℕ) (k : Make) (p : JobState) (dev : AbstractDevice) (stage : JobStage) (g : AbstractProgress) (r : AbstractReply) (rest : List AbstractReply) → stage ≡ Running g → StageInvariant i k p dev stage → p.due ≡ r ∷ rest → Told p → r ≡ Refused NoDocs
due_is i k p dev stage g r rest at inv is (inl due) = (let both : r ∷ rest ≡ Refused NoDocs ∷ [] = sym is ∙ due in cc)
due_is i k p dev Idle g r rest at inv is (inr off) = absurd (let clash : Idle ≡ Running g = at in cc)
due_is i k p dev (Running f) g r rest at (inl x) is (inr off) = absurd (let clash : true ≡ false = sym x.served ∙ off in cc)
due_is i k p dev (Running f) g r rest at (inr (inl x)) is (inr off) = absurd (let clash : true ≡ false = sym x.served ∙ off in cc)
due_is i k p dev (Running f) g r rest at (inr (inr x)) is (inr off) = absurd (let clash : [] ≡ r ∷ rest = sym x.due ∙ is in cc)
due_is i k p dev Done g r rest at inv is (inr off) = absurd (let clash : Done ≡ Running g = at in cc)
due_is i k p dev (Ended status why) g r rest at inv is (inr off) = absurd (let clash : Ended status why ≡ Running g = at in cc)

-- ---- what its client makes of it

abbrev IsOverSame : ClientView → ClientView → Type 0
IsOverSame m n = (n.pages ≡ m.pages) × (IsUnderWay n.stage → ⊥)

by_frames : (frames : _) (pages : _) (m : ClientView) → IsOverSame m (start_refused NoDocs frames pages m)
by_frames [] [] m = (refl, λ on. on)
by_frames [] (page ∷ pages) m = (refl, λ on. on)
by_frames (f ∷ frames) pages m = (refl, λ on. on)

refused_ends : (g : AbstractProgress) (job : AbstractJob) (m : ClientView) → IsOverSame m (hear_at g job m (Refused NoDocs))
refused_ends Starting job m = by_frames m.frames m.pages m
refused_ends Greeting job m = (refl, λ on. on)
refused_ends Listing job m = (refl, λ on. on)
refused_ends Opening job m = (refl, λ on. on)
refused_ends (Allowing challenge) job m = (refl, λ on. on)
refused_ends (Describing left) job m = (refl, λ on. on)
refused_ends (Putting n value requested left) job m = (refl, λ on. on)
refused_ends (Getting n left) job m = (refl, λ on. on)
refused_ends Shaping job m = (refl, λ on. on)
refused_ends (Imaging params got) job m = (refl, λ on. on)

hears_ends : (stage : JobStage) (g : AbstractProgress) (job : AbstractJob) (m : ClientView) (r : AbstractReply) → stage ≡ Running g → r ≡ Refused NoDocs → IsOverSame m (hear_in stage job m r)
hears_ends stage g job m r at is = subst (λ (x : AbstractReply). IsOverSame m (hear_in stage job m x)) (sym is) (subst (λ (st : JobStage). IsOverSame m (hear_in st job m (Refused NoDocs))) (sym at) (refused_ends g job m))

read_pages : (stage : JobStage) (m : ClientView) (bytes : List ℕ) → (client_after_bytes stage m bytes).pages ≡ m.pages
read_pages (Running (Imaging params got)) m bytes = refl
read_pages Idle m bytes = refl
read_pages (Running Greeting) m bytes = refl
read_pages (Running Listing) m bytes = refl
read_pages (Running Opening) m bytes = refl
read_pages (Running (Allowing challenge)) m bytes = refl
read_pages (Running (Describing left)) m bytes = refl
read_pages (Running (Putting n value requested left)) m bytes = refl
read_pages (Running (Getting n left)) m bytes = refl
read_pages (Running Starting) m bytes = refl
read_pages (Running Shaping) m bytes = refl
read_pages Done m bytes = refl
read_pages (Ended status why) m bytes = refl

-- ---- one step of a job that runs

abbrev step_of : History → WorldCore → ℕ → Job → SystemState → Action → JobState
step_of h w i job s x = job_after_action i (make_for s i) (listed_devices s) (s.job i) (device_for s i) x

-- it met nothing new, and what it had is as it was
same_counted : (h : History) (w : WorldCore) (i : ℕ) (job : Job) (p q : JobState) (cs : List Cause) → HasItNot cs → q.session.met ≡ cs ++ p.session.met → q.client.pages ≡ p.client.pages → (Told p → Told q) → IsUnderWay p.client.stage → CountedSo h w i job p → CountedSo h w i job q
same_counted h w i job p q cs none met pages tells on was m =
    let ev = was (earlier cs p.session.met none (subst (IsCauseAmong TrayRanOut) met m)) in
    (subst (HadNoPage h w i job) (ap length (sym pages)) ev.0, λ still. tells (ev.1 on))

hears_counted : (h : History) (w : WorldCore) (i : ℕ) (job : Job) (s : SystemState) (g : AbstractProgress) (r : AbstractReply) (rest : List AbstractReply) → (s.job i).client.stage ≡ Running g → Here h i job s → (s.job i).due ≡ r ∷ rest → CountedSo h w i job (s.job i) → CountedSo h w i job (step_of h w i job s (Actions.Hears r))
hears_counted h w i job s g r rest at e is was m =
    let p = s.job i in
    let ev = was m in
    let told = ev.1 (subst IsUnderWay (sym at) tt) in
    let same = due_is i (make_for s i) p (device_for s i) p.client.stage g r rest at (e.sound.exchanges i) is told in
    let ends = hears_ends p.client.stage g p.session.job p.client r at same in
    (subst (HadNoPage h w i job) (ap length (sym ends.0)) ev.0, λ on. absurd (ends.1 on))

finish_counted : (h : History) (w : WorldCore) (i : ℕ) (job : Job) (s : SystemState) (status : _) (params : _) (got : List ℕ) → (s.job i).client.stage ≡ Running (Imaging params got) → Here h i job s → CountedSo h w i job (s.job i) → CountedSo h w i job (step_of h w i job s (Actions.Finishes status))
finish_counted h w i job s status params got at e was m =
    let p = s.job i in
    told_not i (make_for s i) p (device_for s i) p.client.stage (Imaging params got) at refl (e.sound.exchanges i) ((was m).1 (subst IsUnderWay (sym at) tt))

answer_counted : Laws → (h : History) (w : WorldCore) (i : ℕ) (job : Job) (s : SystemState) (g : AbstractProgress) (challenge : Challenge) (fault : Option FailureCounts) → (s.job i).client.stage ≡ Running g → Here h i job s → AnsweredSo h w job s (By i (Actions.Answers challenge fault)) → IsEnabled s (By i (Actions.Answers challenge fault)) → CountedSo h w i job (s.job i) → CountedSo h w i job (step_of h w i job s (Actions.Answers challenge fault))
answer_counted laws h w i job s g challenge fault at e so may was m =
    let x = Actions.Answers challenge fault in
    let p = s.job i in
    let k = make_for s i in
    let ds = listed_devices s in
    let dev = device_for s i in
    let on : IsUnderWay p.client.stage = subst IsUnderWay (sym at) tt in
    elim (either_met (causes_by i k ds p dev x) p.session.met (subst (IsCauseAmong TrayRanOut) (met_by i k ds p dev x) m)) [
      | inr old ↦ asked_not i k p dev p.client.stage g at (e.sound.exchanges i) may.0 may.1 ((was old).1 on)
      | inl new ↦
          let dry = (pick_it (Comes i k p dev x) (causes_by i k ds p dev x) (all_come laws.grounds i k ds p dev x may) new).1 in
          let front : Front h w job s i = ((challenge, fault), so on) in
          let ready = starts_ready i k p dev p.client.stage dry.0 on (e.sound.exchanges i) dry.1 dry.2 in
          let none = no_page h w i job s e on front dry.0 dry.1 dry.2 (dry_there i k p dev p.client.stage (e.sound.exchanges i) on dry) in
          let next = by_next i k ds p dev challenge fault p.todo dry.0 dry.1 ready.0.still.awaited ready.0.held.mine ready.0.still.transfer dry.2 dry.3 new in
          (subst (HadNoPage h w i job) (ap (λ (v : ClientView). length v.pages) (sym next.0)) none, λ still. inl (next.1 ∙ ap (λ (ds : List AbstractReply). ds ++ Refused NoDocs ∷ []) (due_none i k p dev p.client.stage g at (e.sound.exchanges i) may.1)))
    ]
  where
    due_none : (i : ℕ) (k : Make) (p : JobState) (dev : AbstractDevice) (stage : JobStage) (g : AbstractProgress) → stage ≡ Running g → StageInvariant i k p dev stage → p.todo ≢ [] → p.due ≡ []
    due_none i k p dev Idle g at inv some = absurd (let clash : Idle ≡ Running g = at in cc)
    due_none i k p dev (Running f) g at (inl r) some = r.due
    due_none i k p dev (Running f) g at (inr (inl r)) some = absurd (some r.todo)
    due_none i k p dev (Running f) g at (inr (inr r)) some = r.due
    due_none i k p dev Done g at inv some = absurd (let clash : Done ≡ Running g = at in cc)
    due_none i k p dev (Ended status why) g at inv some = absurd (let clash : Ended status why ≡ Running g = at in cc)

    by_next : (i : ℕ) (k : Make) (ds : List ℕ) (p : JobState) (dev : AbstractDevice) (challenge : Challenge) (fault : Option FailureCounts) (qs rest : List AbstractRequest) → qs ≡ Start ∷ rest → p.session.awaited ≡ None → dev.holder ≡ Some i → p.session.transfer ≡ Quiet → dev.phase ≡ Resting → dev.tray ≡ [] →
        IsCauseAmong TrayRanOut (causes_next i k ds p dev challenge fault qs) → ((answer_next i k ds p dev challenge fault qs).client ≡ p.client) × ((answer_next i k ds p dev challenge fault qs).due ≡ p.due ++ Refused NoDocs ∷ [])
    by_next i k ds p dev challenge fault [] rest todo awaited held quiet rests none m = absurd m
    by_next i k ds p dev challenge fault (q ∷ more) rest todo awaited held quiet rests none m =
        let same : q ≡ Start = (let both : q ∷ more ≡ Start ∷ rest = todo in cc) in
        let x = environment_of p.session ds challenge fault in
        let told = answer_told i k dev p.session.transfer p.session.awaited x awaited held quiet rests none (subst (λ (r : AbstractRequest). IsCauseAmong TrayRanOut (answer i k dev p.session.transfer p.session.awaited x r).causes) same m) in
        (refl, ap (λ (rs : List AbstractReply). p.due ++ rs) (ap (λ (r : AbstractRequest). (answer i k dev p.session.transfer p.session.awaited x r).told) same ∙ told))

running_counted : Laws → (h : History) (w : WorldCore) (i : ℕ) (job : Job) (s : SystemState) (g : AbstractProgress) (x : Action) → (s.job i).client.stage ≡ Running g → Here h i job s → AnsweredSo h w job s (By i x) → IsEnabled s (By i x) → CountedSo h w i job (s.job i) → CountedSo h w i job (step_of h w i job s x)
running_counted laws h w i job s g Actions.Connects at e so may was = absurd (let clash : Idle ≡ Running g = sym may ∙ at in cc)
running_counted laws h w i job s g (Actions.Answers challenge fault) at e so may was = answer_counted laws h w i job s g challenge fault at e so may was
running_counted laws h w i job s g (Actions.Hears reply) at e so may was = hears_counted h w i job s g reply may.1.0 at e may.1.1 was
running_counted laws h w i job s g Actions.Dials at e so may was = was
running_counted laws h w i job s g (Actions.Turns bytes) at e so may was = was
running_counted laws h w i job s g Actions.TurnsLast at e so may was = was
running_counted laws h w i job s g (Actions.TurnsNamed status) at e so may was =
    same_counted h w i job (s.job i) (step_of h w i job s (Actions.TurnsNamed status)) (Names status ∷ []) (λ c. (let clash : TrayRanOut ≡ Names status = c in cc), tt) refl refl (λ t. t) (subst IsUnderWay (sym at) tt) was
running_counted laws h w i job s g Actions.TurnsShort at e so may was =
    same_counted h w i job (s.job i) (step_of h w i job s Actions.TurnsShort) (NamesEof ∷ []) (λ c. (let clash : TrayRanOut ≡ NamesEof = c in cc), tt) refl refl (λ t. t) (subst IsUnderWay (sym at) tt) was
running_counted laws h w i job s g (Actions.TurnsFault fault) at e so may was =
    same_counted h w i job (s.job i) (step_of h w i job s (Actions.TurnsFault fault)) (SourceFailed ∷ []) (λ c. (let clash : TrayRanOut ≡ SourceFailed = c in cc), tt) refl refl (λ t. t) (subst IsUnderWay (sym at) tt) was
running_counted laws h w i job s g Actions.TurnsOff at e so may was = was
running_counted laws h w i job s g (Actions.Reads bytes) at e so may was =
    same_counted h w i job (s.job i) (step_of h w i job s (Actions.Reads bytes)) [] tt refl (read_pages (s.job i).client.stage (s.job i).client bytes) (λ t. t) (subst IsUnderWay (sym at) tt) was
running_counted laws h w i job s g (Actions.Finishes status) at e so may was = finish_counted h w i job s status may.0.0 may.0.1 may.0.2 e was
running_counted laws h w i job s g (Actions.Loses memory) at e so may was =
    same_counted h w i job (s.job i) (step_of h w i job s (Actions.Loses memory)) (Actions.loss_cause memory ∷ []) (lost_not memory) refl refl (λ t. inr refl) (subst IsUnderWay (sym at) tt) was
running_counted laws h w i job s g (Actions.LosesImage memory) at e so may was =
    same_counted h w i job (s.job i) (step_of h w i job s (Actions.LosesImage memory)) (Actions.loss_cause memory ∷ []) (lost_not memory) refl refl (λ t. t) (subst IsUnderWay (sym at) tt) was
running_counted laws h w i job s g (Actions.Breaks memory) at e so may was =
    same_counted h w i job (s.job i) (step_of h w i job s (Actions.Breaks memory)) (Actions.break_causes memory) (broken_not memory) refl refl (λ t. inr refl) (subst IsUnderWay (sym at) tt) was
running_counted laws h w i job s g Actions.RunsOutOfMemory at e so may was =
    same_counted h w i job (s.job i) (step_of h w i job s Actions.RunsOutOfMemory) (ClientOutOfMemory ∷ []) (λ c. (let clash : TrayRanOut ≡ ClientOutOfMemory = c in cc), tt) refl refl (λ t. t) (subst IsUnderWay (sym at) tt) was
running_counted laws h w i job s g Actions.Stops at e so may was =
    same_counted h w i job (s.job i) (step_of h w i job s Actions.Stops) (GaveUp ∷ []) (λ c. (let clash : TrayRanOut ≡ GaveUp = c in cc), tt) refl refl (λ t. t) (subst IsUnderWay (sym at) tt) was

-- ---- one step of a job that is to run

none_new : (i : ℕ) (k : Make) (ds : List ℕ) (p : JobState) (dev : AbstractDevice) (x : Action) → IsActionEnabled i k p dev x → p.served ≡ false → HasItNot (causes_by i k ds p dev x)
none_new i k ds p dev Actions.Connects may off = tt
none_new i k ds p dev (Actions.Answers challenge fault) may off = absurd (let clash : false ≡ true = sym off ∙ may.0 in cc)
none_new i k ds p dev (Actions.Hears reply) may off = tt
none_new i k ds p dev Actions.Dials may off = tt
none_new i k ds p dev (Actions.Turns bytes) may off = tt
none_new i k ds p dev Actions.TurnsLast may off = tt
none_new i k ds p dev (Actions.TurnsNamed status) may off = (λ c. (let clash : TrayRanOut ≡ Names status = c in cc), tt)
none_new i k ds p dev Actions.TurnsShort may off = (λ c. (let clash : TrayRanOut ≡ NamesEof = c in cc), tt)
none_new i k ds p dev (Actions.TurnsFault fault) may off = (λ c. (let clash : TrayRanOut ≡ SourceFailed = c in cc), tt)
none_new i k ds p dev Actions.TurnsOff may off = tt
none_new i k ds p dev (Actions.Reads bytes) may off = tt
none_new i k ds p dev (Actions.Finishes status) may off = tt
none_new i k ds p dev (Actions.Loses memory) may off = lost_not memory
none_new i k ds p dev (Actions.LosesImage memory) may off = lost_not memory
none_new i k ds p dev (Actions.Breaks memory) may off = broken_not memory
none_new i k ds p dev Actions.RunsOutOfMemory may off = (λ c. (let clash : TrayRanOut ≡ ClientOutOfMemory = c in cc), tt)
none_new i k ds p dev Actions.Stops may off = (λ c. (let clash : TrayRanOut ≡ GaveUp = c in cc), tt)

idle_off : (i : ℕ) (k : Make) (p : JobState) (dev : AbstractDevice) (stage : JobStage) → stage ≡ Idle → StageInvariant i k p dev stage → p.served ≡ false
idle_off i k p dev Idle at inv = inv.0
idle_off i k p dev (Running g) at inv = absurd (let clash : Running g ≡ Idle = at in cc)
idle_off i k p dev Done at inv = absurd (let clash : Done ≡ Idle = at in cc)
idle_off i k p dev (Ended status why) at inv = absurd (let clash : Ended status why ≡ Idle = at in cc)

idle_none : (h : History) (i : ℕ) (job : Job) (s : SystemState) (x : Action) → (s.job i).client.stage ≡ Idle → Here h i job s → IsEnabled s (By i x) → (IsCauseAmong TrayRanOut (s.job i).session.met → ⊥) → IsCauseAmong TrayRanOut (job_after_action i (make_for s i) (listed_devices s) (s.job i) (device_for s i) x).session.met → ⊥
idle_none h i job s x at e may was m =
    let p = s.job i in
    was (earlier (causes_by i (make_for s i) (listed_devices s) p (device_for s i) x) p.session.met (none_new i (make_for s i) (listed_devices s) p (device_for s i) x may (idle_off i (make_for s i) p (device_for s i) p.client.stage at (e.sound.exchanges i)))
    (subst (IsCauseAmong TrayRanOut) (met_by i (make_for s i) (listed_devices s) p (device_for s i) x) m))

-- ---- what it comes to

counts_done : (h : History) (w : WorldCore) (i : ℕ) (job : Job) (s : SystemState) → Invariant s → (s.job i).client.stage ≡ Done → CountedSo h w i job (s.job i) → CountsTo h w i job (s.job i)
counts_done h w i job s sound done so n batch = elim (batches_counted s i n sound done batch) [
  | inl all ↦ inl all
  | inr few ↦ inr (so few.2).0
]

kept_of : (h : History) (w : WorldCore) (i : ℕ) (job : Job) (s : SystemState) (stage : JobStage) → Invariant s → (s.job i).client.stage ≡ stage → (stage ≡ Idle → IsCauseAmong TrayRanOut (s.job i).session.met → ⊥) → CountedSo h w i job (s.job i) → Kept h w i job (s.job i) stage
kept_of h w i job s Idle sound at none so = none refl
kept_of h w i job s (Running g) sound at none so = so
kept_of h w i job s Done sound at none so = counts_done h w i job s sound at so
kept_of h w i job s (Ended status why) sound at none so = tt

abbrev KeptAt : History → WorldCore → ℕ → Job → SystemState → Type 0
KeptAt h w i job s = Kept h w i job (s.job i) (s.job i).client.stage

idle_step : (h : History) (w : WorldCore) (i : ℕ) (job : Job) (s : SystemState) (x : Action) → (s.job i).client.stage ≡ Idle → Here h i job s → Here h i job (after_transition s (By i x)) → IsEnabled s (By i x) → (IsCauseAmong TrayRanOut (s.job i).session.met → ⊥) → KeptAt h w i job (after_transition s (By i x))
idle_step h w i job s x at e f may was =
    let none : IsCauseAmong TrayRanOut ((after_transition s (By i x)).job i).session.met → ⊥ = subst (λ (p : JobState). IsCauseAmong TrayRanOut p.session.met → ⊥) (sym (own_party s i x)) (idle_none h i job s x at e may was) in
    kept_of h w i job (after_transition s (By i x)) ((after_transition s (By i x)).job i).client.stage f.sound refl (λ idle. none) (λ m. absurd (none m))

-- ---- a job that runs is not to run again

hears_on : (i : ℕ) (k : Make) (p : JobState) (dev : AbstractDevice) (stage : JobStage) (g : AbstractProgress) (r : AbstractReply) (rest : List AbstractReply) → stage ≡ Running g → StageInvariant i k p dev stage → p.due ≡ r ∷ rest → p.served ≡ true
hears_on i k p dev Idle g r rest at inv is = absurd (let clash : Idle ≡ Running g = at in cc)
hears_on i k p dev (Running f) g r rest at (inl x) is = x.served
hears_on i k p dev (Running f) g r rest at (inr (inl x)) is = x.served
hears_on i k p dev (Running f) g r rest at (inr (inr x)) is = absurd (let clash : [] ≡ r ∷ rest = sym x.due ∙ is in cc)
hears_on i k p dev Done g r rest at inv is = absurd (let clash : Done ≡ Running g = at in cc)
hears_on i k p dev (Ended status why) g r rest at inv is = absurd (let clash : Ended status why ≡ Running g = at in cc)

image_on : (i : ℕ) (k : Make) (p : JobState) (dev : AbstractDevice) (stage : JobStage) (g : AbstractProgress) → stage ≡ Running g → request_awaited g ≡ [] → StageInvariant i k p dev stage → p.served ≡ true
image_on i k p dev Idle g at none inv = absurd (let clash : Idle ≡ Running g = at in cc)
image_on i k p dev (Running f) g at none (inl x) = x.served
image_on i k p dev (Running f) g at none (inr (inl x)) = let same : f ≡ g = (let both : Running f ≡ Running g = at in cc) in absurd (x.waits (ap request_awaited same ∙ none))
image_on i k p dev (Running f) g at none (inr (inr x)) = let same : f ≡ g = (let both : Running f ≡ Running g = at in cc) in absurd (x.waits (ap request_awaited same ∙ none))
image_on i k p dev Done g at none inv = absurd (let clash : Done ≡ Running g = at in cc)
image_on i k p dev (Ended status why) g at none inv = absurd (let clash : Ended status why ≡ Running g = at in cc)

both_ways : {A : Type 0} (b : Bool) → b ≡ true → b ≡ false → A
both_ways b on off = absurd (let clash : true ≡ false = sym on ∙ off in cc)

stopped_not : {A : Type 0} (status : _) (why : _) (stage : JobStage) (g : AbstractProgress) → stage ≡ Running g → stage_after_stop status why stage ≡ Idle → A
stopped_not status why Idle g at idle = absurd (let clash : Idle ≡ Running g = at in cc)
stopped_not status why (Running f) g at idle = absurd (let clash : Ended status why ≡ Idle = idle in cc)
stopped_not status why Done g at idle = absurd (let clash : Done ≡ Idle = idle in cc)
stopped_not status why (Ended s r) g at idle = absurd (let clash : Ended s r ≡ Idle = idle in cc)

plain_not : {A : Type 0} (stage : JobStage) (g : AbstractProgress) → stage ≡ Running g → stage ≡ Idle → A
plain_not stage g at idle = absurd (let clash : Running g ≡ Idle = sym at ∙ idle in cc)

next_same : (i : ℕ) (k : Make) (ds : List ℕ) (p : JobState) (dev : AbstractDevice) (challenge : Challenge) (fault : Option FailureCounts) (qs : List AbstractRequest) → (answer_next i k ds p dev challenge fault qs).client ≡ p.client
next_same i k ds p dev challenge fault [] = refl
next_same i k ds p dev challenge fault (q ∷ rest) = refl

not_idle : {A : Type 0} (i : ℕ) (k : Make) (ds : List ℕ) (p : JobState) (dev : AbstractDevice) (g : AbstractProgress) (x : Action) → p.client.stage ≡ Running g → StageInvariant i k p dev p.client.stage → IsActionEnabled i k p dev x → (job_after_action i k ds p dev x).client.stage ≡ Idle → (job_after_action i k ds p dev x).served ≡ false → A
not_idle i k ds p dev g Actions.Connects at inv may idle off = plain_not p.client.stage g at may
not_idle i k ds p dev g (Actions.Answers challenge fault) at inv may idle off = plain_not p.client.stage g at (ap (λ (m : ClientView). m.stage) (sym (next_same i k ds p dev challenge fault p.todo)) ∙ idle)
not_idle i k ds p dev g (Actions.Hears reply) at inv may idle off = both_ways p.served (hears_on i k p dev p.client.stage g reply may.1.0 at inv may.1.1) off
not_idle i k ds p dev g Actions.Dials at inv may idle off = plain_not p.client.stage g at idle
not_idle i k ds p dev g (Actions.Turns bytes) at inv may idle off = plain_not p.client.stage g at idle
not_idle i k ds p dev g Actions.TurnsLast at inv may idle off = plain_not p.client.stage g at idle
not_idle i k ds p dev g (Actions.TurnsNamed status) at inv may idle off = plain_not p.client.stage g at idle
not_idle i k ds p dev g Actions.TurnsShort at inv may idle off = plain_not p.client.stage g at idle
not_idle i k ds p dev g (Actions.TurnsFault fault) at inv may idle off = plain_not p.client.stage g at idle
not_idle i k ds p dev g Actions.TurnsOff at inv may idle off = plain_not p.client.stage g at idle
not_idle i k ds p dev g (Actions.Reads bytes) at inv may idle off = both_ways p.served (image_on i k p dev p.client.stage (Imaging may.0.0 may.0.1) may.0.2 refl inv) off
not_idle i k ds p dev g (Actions.Finishes status) at inv may idle off = both_ways p.served (image_on i k p dev p.client.stage (Imaging may.0.0 may.0.1) may.0.2 refl inv) off
not_idle i k ds p dev g (Actions.Loses memory) at inv may idle off = stopped_not IoError Lost p.client.stage g at idle
not_idle i k ds p dev g (Actions.LosesImage memory) at inv may idle off = stopped_not IoError Lost p.client.stage g at idle
not_idle i k ds p dev g (Actions.Breaks memory) at inv may idle off = plain_not p.client.stage g at idle
not_idle i k ds p dev g Actions.RunsOutOfMemory at inv may idle off = stopped_not NoMem Memory p.client.stage g at idle
not_idle i k ds p dev g Actions.Stops at inv may idle off = stopped_not statuses.Cancelled Cancelled p.client.stage g at idle

running_step : Laws → (h : History) (w : WorldCore) (i : ℕ) (job : Job) (s : SystemState) (g : AbstractProgress) (x : Action) → (s.job i).client.stage ≡ Running g → Here h i job s → Here h i job (after_transition s (By i x)) → AnsweredSo h w job s (By i x) → IsEnabled s (By i x) → CountedSo h w i job (s.job i) → KeptAt h w i job (after_transition s (By i x))
running_step laws h w i job s g x at e f so may was =
    let t = after_transition s (By i x) in
    let here : t.job i ≡ job_after_action i (make_for s i) (listed_devices s) (s.job i) (device_for s i) x = own_party s i x in
    kept_of h w i job t (t.job i).client.stage f.sound refl
    (λ idle. not_idle i (make_for s i) (listed_devices s) (s.job i) (device_for s i) g x at (e.sound.exchanges i) may (ap (λ (p : JobState). p.client.stage) (sym here) ∙ idle) (ap (λ (p : JobState). p.served) (sym here) ∙ idle_off i (make_for t i) (t.job i) (device_for t i) (t.job i).client.stage idle (f.sound.exchanges i)))
    (subst (CountedSo h w i job) (sym here) (running_counted laws h w i job s g x at e so may was))

over_step : Laws → (h : History) (w : WorldCore) (i : ℕ) (job : Job) (s : SystemState) (x : Action) (stage : JobStage) → (s.job i).client.stage ≡ stage → (IsUnderWay stage → ⊥) → IsEnabled s (By i x) → Kept h w i job (s.job i) stage → KeptAt h w i job (after_transition s (By i x))
over_step laws h w i job s x Idle at off may k = absurd (off tt)
over_step laws h w i job s x (Running g) at off may k = absurd (off tt)
over_step laws h w i job s x Done at off may k =
    let t = after_transition s (By i x) in
    let client = laws.last s i x may (λ on. off (subst IsUnderWay at on)) in
    let own_job : (t.job i).session.job ≡ (s.job i).session.job = ap (λ (p : JobState). p.session.job) (own_party s i x) ∙ job_stays i (make_for s i) (listed_devices s) (s.job i) (device_for s i) x in
    subst (Kept h w i job (t.job i)) (sym (ap (λ (m : ClientView). m.stage) client ∙ at))
    (λ n batch. subst (λ (m : ClientView). (length m.pages ≡ suc n) ⊎ HadNoPage h w i job (length m.pages)) (sym client) (k n (ap (λ (j : AbstractJob). j.task) (sym own_job) ∙ batch)))
over_step laws h w i job s x (Ended status why) at off may k =
    let client = laws.last s i x may (λ on. off (subst IsUnderWay at on)) in
    subst (Kept h w i job ((after_transition s (By i x)).job i)) (sym (ap (λ (m : ClientView). m.stage) client ∙ at)) tt

own_step : Laws → (h : History) (w : WorldCore) (i : ℕ) (job : Job) (s : SystemState) (x : Action) (stage : JobStage) → (s.job i).client.stage ≡ stage → Here h i job s → Here h i job (after_transition s (By i x)) → AnsweredSo h w job s (By i x) → IsEnabled s (By i x) → Kept h w i job (s.job i) stage → KeptAt h w i job (after_transition s (By i x))
own_step laws h w i job s x Idle at e f so may k = idle_step h w i job s x at e f may k
own_step laws h w i job s x (Running g) at e f so may k = running_step laws h w i job s g x at e f so may k
own_step laws h w i job s x Done at e f so may k = over_step laws h w i job s x Done at (λ on. on) may k
own_step laws h w i job s x (Ended status why) at e f so may k = over_step laws h w i job s x (Ended status why) at (λ on. on) may k

abbrev kept_party : History → WorldCore → ℕ → Job → JobState → Type 0
kept_party h w i job p = Kept h w i job p p.client.stage

by_step : Laws → (h : History) (w : WorldCore) (i : ℕ) (job : Job) (s : SystemState) (j : ℕ) (x : Action) (b : Bool) → eqb i j ≡ b → Here h i job s → Here h i job (after_transition s (By j x)) → AnsweredSo h w job s (By j x) → IsEnabled s (By j x) → KeptAt h w i job s → KeptAt h w i job (after_transition s (By j x))
by_step laws h w i job s j x false e here now so may k = subst (kept_party h w i job) (sym (party_stays s j x i e)) k
by_step laws h w i job s j x true e here now so may k =
    subst (λ (n : ℕ). Here h i job (after_transition s (By n x)) → AnsweredSo h w job s (By n x) → IsEnabled s (By n x) → KeptAt h w i job (after_transition s (By n x))) (eqb-true i j e)
    (λ f r l. own_step laws h w i job s x (s.job i).client.stage refl here f r l k) now so may

one_step : Laws → (h : History) (w : WorldCore) (i : ℕ) (job : Job) (s : SystemState) (x : Transition) → Here h i job s → Here h i job (after_transition s x) → AnsweredSo h w job s x → IsEnabled s x → KeptAt h w i job s → KeptAt h w i job (after_transition s x)
one_step laws h w i job s (By j x) here now so may k = by_step laws h w i job s j x (eqb i j) refl here now so may k
one_step laws h w i job s (Loads d page) here now so may k = k
one_step laws h w i job s (Unplugs d) here now so may k = k
one_step laws h w i job s (Uses u d shown left) here now so may k = k

all_steps : Laws → (h : History) (w : WorldCore) (i : ℕ) (job : Job) (xs : List Transition) (s : SystemState) → Here h i job s → AllByRecursion (IsOfOne h) xs → AllAlong (AnsweredSo h w job) s xs → IsHistory s xs → KeptAt h w i job s → KeptAt h w i job (after_all s xs)
all_steps laws h w i job [] s e of so may k = k
all_steps laws h w i job (x ∷ xs) s e of so may k =
    let now = here_then laws h w i job s x e of.0 may.0 in
    all_steps laws h w i job xs (after_transition s x) now of.1 so.1 may.1 (one_step laws h w i job s x e now so.0 may.0 k)

-- what a job that is done counts to
pub counts : Laws → (h : History) (w : WorldCore) (i : ℕ) (job : Job) (steps : List Transition) (s : SystemState) → Here h i job s → AllByRecursion (IsOfOne h) steps → AllAlong (AnsweredSo h w job) s steps → IsHistory s steps → KeptAt h w i job s → ((after_all s steps).job i).client.stage ≡ Done → CountsTo h w i job ((after_all s steps).job i)
counts laws h w i job steps s e of so may first done = subst (Kept h w i job ((after_all s steps).job i)) done (all_steps laws h w i job steps s e of so may first)
