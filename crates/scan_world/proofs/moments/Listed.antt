-- A list that is done tells the devices that were listed in front of the delivery of its request.
use Rattle.std.specs.Prelude.{eqb, length, map, slice_get, ◌<◌}
use Rattle.std.specs.List.{AllByRecursion}
use Rattle.std.proofs.Common.{◌≡◌, ◌∙◌, ◌⊎◌, ℕ, List, [], ◌∷◌, Bool, true, false, Option, Some, None, inl, inr, refl, sym, ap, subst, eqb-true}
use Rattle.std.proofs.lemmas.Option.{get_or_from_slice_get}
use Rattle.sane_fixed.specs.declared.device_info.DeviceInfo.{DeviceInfo}
use Rattle.dispatch.specs.Table.{listed_infos}
use Rattle.saned_core.specs.declared.session_slot.SessionId.{SessionId}
use Rattle.saned_core.specs.DaemonStates.{Core}
use Rattle.scan_job.specs.declared.job.Job.{Job}
use Rattle.scan_job.specs.declared.job.Task.TheVariants as tasks
use Rattle.scan_job.specs.declared.outcome.Outcome.TheVariants.{Done}
use Rattle.scan_job.specs.declared.report.Reports.{Reports}
use Rattle.client_refines.specs.ClientRefinement.{task_of}
use Rattle.system_model.specs.AbstractMessages.{Challenge, AbstractRequest, GetDevices}
use Rattle.system_model.specs.AbstractDevices.{AbstractDevice}
use Rattle.system_model.specs.AbstractSessions.{AbstractSession}
use Rattle.system_model.specs.Actions
use Rattle.system_model.specs.Actions.{Action, answer_next, environment_of, first_noted, job_after_action, served_by}
use Rattle.system_model.specs.Client as model
use Rattle.system_model.specs.Client.{ClientView, JobStage}
use Rattle.system_model.specs.Daemon.{FailureCounts}
use Rattle.system_model.specs.Devices.{Make}
use Rattle.system_model.specs.Invariants.{Invariant, IsRightlyDone, StageInvariant}
use Rattle.system_model.specs.ModelPromises.{HistoriesKeepInvariant, NotesAreTrue, OutcomesLast}
use Rattle.system_model.specs.SystemStates.{JobState, SystemState, listed_devices, listed_of, make_for, device_for}
use Rattle.system_model.specs.Transitions.{By, IsEnabled, IsHistory, IsUnderWay, Loads, Transition, Unplugs, Uses, after_transition, after_all}
use Rattle.event_world.specs.declared.endpoint.Endpoint.{Endpoint}
use Rattle.event_world.specs.Worlds.{WorldCore}
use Rattle.daemon_refines.specs.Cores.{SessionRefines}
use Rattle.saned_core.specs.Feeding.{core_context}
use Rattle.world_refines.specs.GhostStates.{Ghost, place_of_info}
use Rattle.world_refines.specs.FailedSources.{AllAlong}
use Rattle.world_refines.specs.WorldPromises.{AreListed, IsOutcome}
use Rattle.world_refines.specs.WorldRefinement.{AreListedBelow, IsServed, WorldRefines, session_by}
use Rattle.world_refines.proofs.job_events.Constant.{Fixed}
use Rattle.world_refines.proofs.requests.Listing.{listed_told}
use Rattle.world_refines.proofs.state.Infos.{stand_there}
use Rattle.scan_world.specs.Histories.{History, LedTo}
use Rattle.scan_world.proofs.Elsewhere.{elsewhere}
use Rattle.scan_world.proofs.Joint.{all_fixed_by}
use Rattle.scan_world.proofs.Sources.{have_sources, sources_of}
use Rattle.scan_world.specs.Laws.{Below}
use Rattle.scan_world.proofs.Begun.{job_same, party_stays}
use Rattle.scan_world.specs.Sessions.{Asked, IsAtList}
use Rattle.scan_world.proofs.Changing.{changing_in}
use Rattle.scan_world.proofs.Ended.{comes_there}
use Rattle.scan_world.proofs.Evident.{IsAnswer}
use Rattle.scan_world.proofs.Jobs.{IsJob}
use Rattle.scan_world.proofs.Scanned.{at_first, infos_of, may_first}
use Rattle.scan_world.proofs.moments.Entries.{end_at, linked_by, own_party, past_end}
use Rattle.scan_world.proofs.moments.Judged.{Front, asked_there}
use Rattle.scan_world.proofs.moments.Moments.{AnsweredSo}
use Rattle.scan_world.proofs.moments.Requests.{answers_met}

-- ---- what was listed in front of a delivery

abbrev ListedAt : History → WorldCore → ℕ → List ℕ → Type 0
ListedAt h w i ds = (asked : Asked h w i IsAtList) × (ds ≡ map (place_of_info (infos_of h)) (listed_infos asked.at.before.daemon.registry))

served_context : (i : ℕ) (make : ℕ → Make) (core : Core) (link : Option SessionId) (served : Bool) (device : ℕ → AbstractDevice) (s : AbstractSession) → IsServed i make core link served device s → served ≡ true → (id : SessionId) × SessionRefines i make core id.number device s
served_context i make core link false device s h on = absurd (let clash : false ≡ true = on in cc)
served_context i make core None true device s h on = absurd h
served_context i make core (Some id) true device s h on = (id, h)

listed_by : (t : Ghost) (w : WorldCore) (i : ℕ) (p : Endpoint) → WorldRefines t w → slice_get w.endpoints i ≡ Some p → (t.system.job i).served ≡ true → listed_devices t.system ≡ map (place_of_info t.infos) (listed_infos w.daemon.registry)
listed_by t w i p h at on =
    let e = h.endpoints i p at in
    let r = served_context i t.system.make w.daemon p.link (t.system.job i).served t.system.device (session_by i t.system.device (t.system.job i)) e.served on in
    let told = listed_told i t.system.make (core_context w.daemon r.1.session) t.system.device (session_by i t.system.device (t.system.job i)) t.infos h.is_of.infos h.is_of.apart r.1.shows in
    ap (listed_of t.system.device) h.is_of.places ∙ sym told

listed_front : (h : History) (w : WorldCore) (job : Job) (s : SystemState) (i : ℕ) (rest : List AbstractRequest) → (a : Front h w job s i) → IsUnderWay (s.job i).client.stage → (s.job i).todo ≡ GetDevices ∷ rest → (s.job i).served ≡ true → (s.job i).linked ≡ true → ListedAt h w i (listed_devices s)
listed_front h w job s i rest a under todo on linked = elim (end_at (slice_get a.1.at.before.endpoints i)) [
  | inl none ↦ absurd (nobody none)
  | inr some ↦
      let told = listed_by a.1.ghost a.1.at.before i some.0 a.1.stands some.1 (ap (λ (u : SystemState). (u.job i).served) a.1.state ∙ on) in
      (asked_there h w i job s IsAtList GetDevices rest under a todo refl, sym (ap listed_devices a.1.state) ∙ (told ∙ ap (λ (infos : List DeviceInfo). map (place_of_info infos) (listed_infos a.1.at.before.daemon.registry)) (ap (λ (f : Fixed). f.1) a.1.fixed)))
]
  where
    nobody : slice_get a.1.at.before.endpoints i ≡ None → ⊥
    nobody none = let clash : false ≡ true = sym (a.1.stands.beyond i (past_end a.1.at.before.endpoints i none)).linked ∙ (ap (λ (u : SystemState). (u.job i).linked) a.1.state ∙ linked) in cc

-- ---- a step

noted_stays : {X : Type 0} (o : Option X) (x : X) → first_noted o (Some x) ≡ Some x
noted_stays None x = refl
noted_stays (Some y) x = refl

next_stays : (i : ℕ) (k : Make) (ds : List ℕ) (p : JobState) (dev : AbstractDevice) (challenge : Challenge) (fault : Option FailureCounts) (qs : List AbstractRequest) (old : List ℕ) → p.session.shown ≡ Some old → (answer_next i k ds p dev challenge fault qs).session.shown ≡ Some old
next_stays i k ds p dev challenge fault [] old is = is
next_stays i k ds p dev challenge fault (q ∷ rest) old is =
    ap (first_noted (served_by i k ds p dev challenge fault q).shown) is ∙ noted_stays (served_by i k ds p dev challenge fault q).shown old

shown_by : (i : ℕ) (k : Make) (ds : List ℕ) (p : JobState) (dev : AbstractDevice) (x : Action) → ((job_after_action i k ds p dev x).session.shown ≡ p.session.shown) ⊎ IsAnswer x
shown_by i k ds p dev Actions.Connects = inl refl
shown_by i k ds p dev (Actions.Answers challenge fault) = inr (challenge, fault, refl)
shown_by i k ds p dev (Actions.Hears reply) = inl refl
shown_by i k ds p dev Actions.Dials = inl refl
shown_by i k ds p dev (Actions.Turns bytes) = inl refl
shown_by i k ds p dev Actions.TurnsLast = inl refl
shown_by i k ds p dev (Actions.TurnsNamed status) = inl refl
shown_by i k ds p dev Actions.TurnsShort = inl refl
shown_by i k ds p dev (Actions.TurnsFault fault) = inl refl
shown_by i k ds p dev Actions.TurnsOff = inl refl
shown_by i k ds p dev (Actions.Reads bytes) = inl refl
shown_by i k ds p dev (Actions.Finishes status) = inl refl
shown_by i k ds p dev (Actions.Loses memory) = inl refl
shown_by i k ds p dev (Actions.LosesImage memory) = inl refl
shown_by i k ds p dev (Actions.Breaks memory) = inl refl
shown_by i k ds p dev Actions.RunsOutOfMemory = inl refl
shown_by i k ds p dev Actions.Stops = inl refl

shown_stays : (s : SystemState) (i : ℕ) (x : Action) (old : List ℕ) → (s.job i).session.shown ≡ Some old → ((after_transition s (By i x)).job i).session.shown ≡ Some old
shown_stays s i x old is =
    let p = s.job i in
    ap (λ (q : JobState). q.session.shown) (own_party s i x) ∙ elim (shown_by i (make_for s i) (listed_devices s) p (device_for s i) x) [
      | inl same ↦ same ∙ is
      | inr a ↦ subst (λ (y : Action). (job_after_action i (make_for s i) (listed_devices s) p (device_for s i) y).session.shown ≡ Some old) (sym a.2) (next_stays i (make_for s i) (listed_devices s) p (device_for s i) a.0 a.1 p.todo old is)
    ]

noted_first : {X : Type 0} (o : Option X) (x : X) → first_noted o None ≡ Some x → o ≡ Some x
noted_first None x e = e
noted_first (Some y) x e = e

-- what is shown first was asked for
next_asked : (i : ℕ) (k : Make) (listed : List ℕ) (p : JobState) (dev : AbstractDevice) (challenge : Challenge) (fault : Option FailureCounts) (qs : List AbstractRequest) (ds : List ℕ) → p.todo ≡ qs → p.session.shown ≡ None → (answer_next i k listed p dev challenge fault qs).session.shown ≡ Some ds → (rest : List AbstractRequest) × (p.todo ≡ GetDevices ∷ rest)
next_asked i k listed p dev challenge fault [] ds is none shows = absurd (let clash : None ≡ Some ds = sym none ∙ shows in cc)
next_asked i k listed p dev challenge fault (q ∷ rest) ds is none shows =
    let first : first_noted (served_by i k listed p dev challenge fault q).shown None ≡ Some ds = ap (first_noted (served_by i k listed p dev challenge fault q).shown) (sym none) ∙ shows in
    let asked = (answers_met i k dev p.session.transfer p.session.awaited (environment_of p.session listed challenge fault) q).1 ds (noted_first (served_by i k listed p dev challenge fault q).shown ds first) in
    (rest, is ∙ ap (λ (x : AbstractRequest). x ∷ rest) asked)

-- what was shown to the job was listed so
abbrev ShownBy : History → WorldCore → ℕ → SystemState → Type 0
ShownBy h w i s = (ds : List ℕ) → (s.job i).session.shown ≡ Some ds → ListedAt h w i ds

shown_on : NotesAreTrue → (h : History) (w : WorldCore) (job : Job) (i : ℕ) (s : SystemState) (x : Action) → Invariant s → IsEnabled s (By i x) → AnsweredSo h w job s (By i x) → IsUnderWay (s.job i).client.stage → ShownBy h w i s → ShownBy h w i (after_transition s (By i x))
shown_on notes h w job i s x sound may so on known ds is = elim (shown_by i (make_for s i) (listed_devices s) (s.job i) (device_for s i) x) [
  | inl same ↦ known ds (sym same ∙ (sym (ap (λ (q : JobState). q.session.shown) (own_party s i x)) ∙ is))
  | inr a ↦ elim (end_at (s.job i).session.shown) [
    | inl none ↦
        let front : Front h w job s i = ((a.0, a.1), (subst (λ (y : Action). AnsweredSo h w job s (By i y)) a.2 so) on) in
        let served : (s.job i).served ≡ true = (subst (λ (y : Action). IsEnabled s (By i y)) a.2 may).0 in
        let linked = linked_by i (make_for s i) (s.job i) (device_for s i) (s.job i).client.stage (sound.exchanges i) on served in
        let shows : (job_after_action i (make_for s i) (listed_devices s) (s.job i) (device_for s i) (Actions.Answers a.0 a.1)).session.shown ≡ Some ds =
        subst (λ (y : Action). (job_after_action i (make_for s i) (listed_devices s) (s.job i) (device_for s i) y).session.shown ≡ Some ds) a.2 (sym (ap (λ (q : JobState). q.session.shown) (own_party s i x)) ∙ is) in
        let asked = next_asked i (make_for s i) (listed_devices s) (s.job i) (device_for s i) a.0 a.1 (s.job i).todo ds refl none shows in
        subst (ListedAt h w i) (sym ((notes s i x).1 ds none is)) (listed_front h w job s i asked.0 front on asked.1 served linked)
    | inr old ↦
        let same : old.0 ≡ ds = (let both : Some old.0 ≡ Some ds = sym (shown_stays s i x old.0 old.1) ∙ is in cc) in
        subst (ListedAt h w i) same (known old.0 old.1)
  ]
]

shown_over : (h : History) (w : WorldCore) (i : ℕ) (s : SystemState) (x : Action) (old : List ℕ) → (s.job i).session.shown ≡ Some old → ShownBy h w i s → ShownBy h w i (after_transition s (By i x))
shown_over h w i s x old is known ds now =
    let same : old ≡ ds = (let both : Some old ≡ Some ds = sym (shown_stays s i x old is) ∙ now in cc) in
    subst (ListedAt h w i) same (known old is)

-- ---- all steps

abbrev KnownIn : History → WorldCore → ℕ → Option (List ℕ) → JobStage → Type 0
KnownIn h w i shown model.Idle = (ds : List ℕ) → shown ≡ Some ds → ListedAt h w i ds
KnownIn h w i shown (model.Running g) = (ds : List ℕ) → shown ≡ Some ds → ListedAt h w i ds
KnownIn h w i shown model.Done = (ds : List ℕ) → shown ≡ Some ds → ListedAt h w i ds
KnownIn h w i shown (model.Ended status why) = Unit {0}

abbrev Known : History → WorldCore → ℕ → SystemState → JobStage → Type 0
Known h w i s stage = KnownIn h w i (s.job i).session.shown stage

known_all : (h : History) (w : WorldCore) (i : ℕ) (s : SystemState) (stage : JobStage) → ShownBy h w i s → Known h w i s stage
known_all h w i s model.Idle k = k
known_all h w i s (model.Running g) k = k
known_all h w i s model.Done k = k
known_all h w i s (model.Ended status why) k = tt

abbrev Lists : SystemState → ℕ → Type 0
Lists s i = (s.job i).session.job.task ≡ model.List_

own_step : NotesAreTrue → OutcomesLast → (h : History) (w : WorldCore) (job : Job) (i : ℕ) (s : SystemState) (x : Action) (stage : JobStage) → (s.job i).client.stage ≡ stage → Invariant s → IsEnabled s (By i x) → AnsweredSo h w job s (By i x) → Lists s i → Known h w i s stage → Known h w i (after_transition s (By i x)) ((after_transition s (By i x)).job i).client.stage
own_step notes last h w job i s x model.Idle at sound may so lists known = known_all h w i (after_transition s (By i x)) _ (shown_on notes h w job i s x sound may so (subst IsUnderWay (sym at) tt) known)
own_step notes last h w job i s x (model.Running g) at sound may so lists known = known_all h w i (after_transition s (By i x)) _ (shown_on notes h w job i s x sound may so (subst IsUnderWay (sym at) tt) known)
own_step notes last h w job i s x model.Done at sound may so lists known =
    let inv : IsRightlyDone (make_for s i) (s.job i).session (s.job i).client (s.job i).session.job.task = subst (StageInvariant i (make_for s i) (s.job i) (device_for s i)) at (sound.exchanges i) in
    let shown : (s.job i).session.shown ≡ Some (s.job i).client.devices = subst (IsRightlyDone (make_for s i) (s.job i).session (s.job i).client) lists inv in
    known_all h w i (after_transition s (By i x)) _ (shown_over h w i s x (s.job i).client.devices shown known)
own_step notes last h w job i s x (model.Ended status why) at sound may so lists known =
    let off : IsUnderWay (s.job i).client.stage → ⊥ = λ on. subst IsUnderWay at on in
    subst (Known h w i (after_transition s (By i x))) (sym (ap (λ (m : ClientView). m.stage) (last s i x may off) ∙ at)) tt

abbrev KnownAt : History → WorldCore → ℕ → SystemState → Type 0
KnownAt h w i s = Known h w i s (s.job i).client.stage

abbrev known_party : History → WorldCore → ℕ → JobState → Type 0
known_party h w i p = KnownIn h w i p.session.shown p.client.stage

by_step : NotesAreTrue → OutcomesLast → (h : History) (w : WorldCore) (job : Job) (i : ℕ) (s : SystemState) (j : ℕ) (x : Action) (b : Bool) → eqb i j ≡ b → Invariant s → IsEnabled s (By j x) → AnsweredSo h w job s (By j x) → Lists s i → KnownAt h w i s → KnownAt h w i (after_transition s (By j x))
by_step notes last h w job i s j x false e sound may so lists known = subst (known_party h w i) (sym (party_stays s j x i e)) known
by_step notes last h w job i s j x true e sound may so lists known =
    subst (λ (n : ℕ). IsEnabled s (By n x) → AnsweredSo h w job s (By n x) → KnownAt h w i (after_transition s (By n x))) (eqb-true i j e)
    (λ m f. own_step notes last h w job i s x (s.job i).client.stage refl sound m f lists known) may so

one_step : NotesAreTrue → OutcomesLast → (h : History) (w : WorldCore) (job : Job) (i : ℕ) (s : SystemState) (x : Transition) → Invariant s → IsEnabled s x → AnsweredSo h w job s x → Lists s i → KnownAt h w i s → KnownAt h w i (after_transition s x)
one_step notes last h w job i s (By j x) sound may so lists known = by_step notes last h w job i s j x (eqb i j) refl sound may so lists known
one_step notes last h w job i s (Loads d page) sound may so lists known = known
one_step notes last h w job i s (Unplugs d) sound may so lists known = known
one_step notes last h w job i s (Uses u d shown left) sound may so lists known = known

all_steps : NotesAreTrue → OutcomesLast → HistoriesKeepInvariant → (h : History) (w : WorldCore) (job : Job) (i : ℕ) (xs : List Transition) (s : SystemState) → Invariant s → IsHistory s xs → AllAlong (AnsweredSo h w job) s xs → Lists s i → KnownAt h w i s → KnownAt h w i (after_all s xs)
all_steps notes last keeps h w job i [] s sound may so lists known = known
all_steps notes last keeps h w job i (x ∷ xs) s sound may so lists known =
    all_steps notes last keeps h w job i xs (after_transition s x) (keeps s (x ∷ []) sound (may.0, tt)) may.1 so.1 (ap (λ (j : _). j.task) (job_same s x i) ∙ lists) (one_step notes last h w job i s x sound may.0 so.0 lists known)

-- ---- the list

same_infos : (xs ys : List DeviceInfo) → map (λ (x : DeviceInfo). Some x) xs ≡ map (λ (x : DeviceInfo). Some x) ys → xs ≡ ys
same_infos [] [] e = refl
same_infos [] (y ∷ ys) e = absurd (let clash : [] ≡ Some y ∷ map (λ (x : DeviceInfo). Some x) ys = e in cc)
same_infos (x ∷ xs) [] e = absurd (let clash : Some x ∷ map (λ (z : DeviceInfo). Some z) xs ≡ [] = e in cc)
same_infos (x ∷ xs) (y ∷ ys) e =
    let both : Some x ∷ map (λ (z : DeviceInfo). Some z) xs ≡ Some y ∷ map (λ (z : DeviceInfo). Some z) ys = e in
    let one : x ≡ y = cc in
    let more : map (λ (z : DeviceInfo). Some z) xs ≡ map (λ (z : DeviceInfo). Some z) ys = cc in
    ap (λ (z : DeviceInfo). z ∷ xs) one ∙ ap (λ (zs : List DeviceInfo). y ∷ zs) (same_infos xs ys more)

first_sound : (below : Below) (h : History) (w : WorldCore) (job : Job) (l : LedTo h w) → Invariant (at_first h w job l).system
first_sound below h w job l = (may_first below.kept h w job l (sources_of h) (have_sources h)).refines.sound

pub list_kept : Below → (h : History) (w : WorldCore) (i : ℕ) (job : Job) (p : Endpoint) (reports : Reports) → IsJob h w i job p → job.task ≡ tasks.List → p.client.outcome ≡ Done reports → (asked : Asked h w i IsAtList) × (reports.devices ≡ listed_infos asked.at.before.daemon.registry)
list_kept below h w i job p reports j task is =
    let k = comes_there below h w job j.led in
    let t = at_first h w job j.led in
    let u = k.ghost_then in
    let fixed = all_fixed_by (changing_in h w j.led) t k.steps u k.comes in
    let promise = subst (IsOutcome u i) is (below.outcomes u w i p k.stands j.endpoint_at) in
    let own_job : u.jobs i ≡ job = ap (λ (f : Fixed). f.3 i) fixed ∙ get_or_from_slice_get h.jobs i job (elsewhere h.devices job) j.job_at in
    let listed : AreListed u i reports.devices = promise.devices (ap (λ (x : Job). x.task) own_job ∙ task) in
    let lists : Lists t.system i = ap (λ (x : Job). task_of x.task) (get_or_from_slice_get h.jobs i job (elsewhere h.devices job) j.job_at) ∙ ap task_of task in
    let known = all_steps below.notes below.last below.histories h w job i k.steps t.system (first_sound below h w job j.led) k.legal k.answered lists (λ ds none. absurd (let clash : None ≡ Some ds = none in cc)) in
    let there : ShownBy h w i u.system = subst (Known h w i u.system) promise.stage (subst (KnownAt h w i) (sym k.rules_are) known) in
    let r = there listed.places listed.shown in
    let table = r.0.at.before.daemon.registry in
    let infos : u.infos ≡ infos_of h = ap (λ (f : Fixed). f.1) fixed in
    let low : AllByRecursion (λ (n : ℕ). n < length (infos_of h)) (map (place_of_info (infos_of h)) (listed_infos table)) =
    subst (λ (xs : List DeviceInfo). AllByRecursion (λ (n : ℕ). n < length xs) (map (place_of_info (infos_of h)) (listed_infos table))) infos
    (subst (λ (ds : List ℕ). AllByRecursion (λ (n : ℕ). n < length u.infos) ds) r.1 (subst (AreListedBelow (length u.infos)) listed.shown (k.stands.shown i))) in
    let stand = stand_there (infos_of h) (listed_infos table) low in
    let told : map (slice_get (infos_of h)) (map (place_of_info (infos_of h)) (listed_infos table)) ≡ map (λ (x : DeviceInfo). Some x) reports.devices =
    subst (λ (ds : List ℕ). map (slice_get (infos_of h)) ds ≡ map (λ (x : DeviceInfo). Some x) reports.devices) r.1
    (subst (λ (xs : List DeviceInfo). map (slice_get xs) listed.places ≡ map (λ (x : DeviceInfo). Some x) reports.devices) infos listed.told) in
    (r.0, same_infos reports.devices (listed_infos table) (sym told ∙ stand))
