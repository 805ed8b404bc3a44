-- A file that is meant: on the page of its start.
use Rattle.std.specs.Prelude.{cond, eqb, length, map, slice_get, if◌then◌else◌, ◌<◌, ◌≤◌, ◌+◌, ◌-◌, Contains}
use Rattle.std.proofs.Common.{◌≡◌, ◌∙◌, ◌⊎◌, inl, inr, ℕ, suc, arith, List, [], ◌∷◌, ◌++◌, Bool, true, false, Option, Some, refl, sym, ap, subst, eqb-true}
use Rattle.std.proofs.lemmas.Option.{get_or_from_slice_get}
use Rattle.page_picture.specs.Meaning.{meaning_of}
use Rattle.page_picture.specs.Page.{PageView}
use Rattle.page_picture.specs.Shows.{Frame}
use Rattle.page_sources.specs.SourceView.{source_state}
use Rattle.page_sources.specs.declared.kinds.Source.{Source}
use Rattle.device_api.specs.State.{DeviceState, HeldPage, held_from}
use Rattle.daemon_refines.specs.ContextRefinement.{HaveSources}
use Rattle.daemon_refines.proofs.Moved.{own}
use Rattle.frame_join.specs.FrameHistory.{JoinHistory, is_joined}
use Rattle.scan_job.specs.declared.job.Job.{Job}
use Rattle.scan_job.specs.declared.job.Task.{Task}
use Rattle.scan_job.specs.declared.job.Task.TheVariants as tasks
use Rattle.scan_job.specs.declared.outcome.Outcome.TheVariants.{Done}
use Rattle.scan_job.specs.declared.report.Reports.{Reports}
use Rattle.client_replies.specs.ProtocolStates.{is_batch}
use Rattle.client_refines.specs.ClientRefinement.{task_of, wholes}
use Rattle.system_model.specs.AbstractDevices.{Begin}
use Rattle.system_model.specs.Client as model
use Rattle.system_model.specs.Client.{AbstractJob}
use Rattle.system_model.specs.Devices.{Make}
use Rattle.system_model.specs.Invariants.{IsRightlyDone, StageInvariant}
use Rattle.system_model.specs.SystemStates.{SystemState, device_for, make_for, wanted_place}
use Rattle.system_model.specs.Transitions.{after_all}
use Rattle.event_world.specs.declared.endpoint.Endpoint.{Endpoint}
use Rattle.event_world.specs.declared.event.Event.{Event}
use Rattle.event_world.specs.declared.event.Event.TheVariants.{Connect, ToDaemon, ToClient, DataConnect, DataTurn, DataToClient, LoseControl, LoseImage, Cancel, Load, Unplug}
use Rattle.event_world.specs.JobEvents.{is_done}
use Rattle.event_world.specs.Worlds.{WorldCore}
use Rattle.world_refines.specs.GhostStates.{Ghost, job_state, name_at, place_named}
use Rattle.world_refines.specs.MainTheorem.{IsFittingLoad}
use Rattle.world_refines.specs.NewWorlds.{HaveSourcesAt, PageSources, make_of}
use Rattle.world_refines.specs.WorldPromises.{IsMeant, IsOutcome, KeepsPromise}
use Rattle.world_refines.specs.WorldRefinement.{KeepsFiles, WorldRefines, is_laid}
use Rattle.world_refines.proofs.frames.Paged.{woken_pages}
use Rattle.world_refines.proofs.promise_proofs.Counted.{pages_count}
use Rattle.world_refines.proofs.job_events.Constant.{Fixed, makes_stay}
use Rattle.strangers.specs.Together.{JointEvent, events_among}
use Rattle.strangers.specs.Together.JointEvent.{OfJobs}
use Rattle.scan_world.specs.Endings.{HadNoPage}
use Rattle.scan_world.specs.Histories.{History, LedTo, history_up_to}
use Rattle.scan_world.specs.Laws.{Below}
use Rattle.scan_world.specs.Page.{CameFor, StartedOn}
use Rattle.scan_world.proofs.Begun.{wants_all}
use Rattle.scan_world.proofs.Changing.{changing_in}
use Rattle.scan_world.proofs.Ended.{FailuresCame, comes_by, comes_there, failures_changing, failures_more, fine_first, first_by, first_here, laws_of, make_by, of_changing, steps_by, steps_of_changing, steps_of_one}
use Rattle.scan_world.proofs.Elsewhere.{elsewhere}
use Rattle.scan_world.proofs.Joint.{all_fixed_by, events_in}
use Rattle.scan_world.proofs.Jobs.{IsJob}
use Rattle.scan_world.proofs.Lists.{In, contains_at, contains_in}
use Rattle.scan_world.proofs.Nearest.{nearest_for}
use Rattle.scan_world.proofs.Rows.{IsScanEver}
use Rattle.scan_world.proofs.Scanned.{at_first, ghost_by, infos_of, job_there, kept_by, name_of, wants_there}
use Rattle.scan_world.proofs.Sources.{each_fits, fallible_of_make, have_sources, load_fits, named_at, sources_of, steady_of_make}
use Rattle.scan_world.proofs.moments.Counted.{CountsTo, counts}
use Rattle.scan_world.proofs.moments.Moments.{Comes}
use Rattle.scan_world.proofs.moments.Started.{StartFact, app_length, starts_first}
use Rattle.scan_world.proofs.moments.Finished.{mapped_length}

-- ---- the job of these steps, and its device

pub job_of : (h : History) (w : WorldCore) (job : Job) (l : LedTo h w) (sources : ℕ → PageSources) (k : Comes h w job (changing_in h w l) (ghost_by h w job l sources)) (i : ℕ) → slice_get h.jobs i ≡ Some job → k.ghost_then.jobs i ≡ job
job_of h w job l sources k i at = ap (λ (f : Fixed). f.3 i) (all_fixed_by (changing_in h w l) (ghost_by h w job l sources) k.steps k.ghost_then k.comes) ∙ get_or_from_slice_get h.jobs i job (elsewhere h.devices job) at

make_of_it : (h : History) (w : WorldCore) (job : Job) (l : LedTo h w) (sources : ℕ → PageSources) (k : Comes h w job (changing_in h w l) (ghost_by h w job l sources)) (i : ℕ) → slice_get h.jobs i ≡ Some job → make_for k.ghost_then.system i ≡ make_by h sources (place_named (infos_of h) job.device)
make_of_it h w job l sources k i at =
    let t = ghost_by h w job l sources in
    ap (λ (s : SystemState). make_for s i) k.rules_are
    ∙ (ap (λ (m : ℕ → Make). m (wanted_place (after_all t.system k.steps) i)) (makes_stay t.system k.steps)
    ∙ ap (λ (d : ℕ). make_by h sources d) (wants_all k.steps t.system i ∙ wants_there h w job l sources i at))

meant_then : (h : History) (w : WorldCore) (i : ℕ) (job : Job) (l : LedTo h w) (sources : ℕ → PageSources) (k : Comes h w job (changing_in h w l) (ghost_by h w job l sources)) (begin : Begin) (file : List ℕ) → slice_get h.jobs i ≡ Some job → IsMeant (make_for k.ghost_then.system i) (k.ghost_then.jobs i).settings.items begin file → IsMeant (make_by h sources (place_named (infos_of h) job.device)) job.settings.items begin file
meant_then h w i job l sources k begin file at m =
    subst (λ (make : Make). IsMeant make job.settings.items begin file) (make_of_it h w job l sources k i at)
    (subst (λ (j : Job). IsMeant (make_for k.ghost_then.system i) j.settings.items begin file) (job_of h w job l sources k i at) m)

-- ---- where the pages are steady that changed the world

pub record SteadyRun (h : History) (w : WorldCore) (job : Job) (l : LedTo h w) : Type 0 where
  pub first : (device : DeviceState) → Contains h.devices device → device.info.name ≡ job.device → (held : HeldPage) → Contains device.pages held → held.steady ≡ true
  pub later : (source : Source) → In (OfJobs (Load job.device source)) (changing_in h w l) → (held_from (source_state source)).steady ≡ true

-- the sources of its device are, and of the others nothing is known
abbrev steady_at : (h : History) (w : WorldCore) → Job → LedTo h w → ℕ → PageSources
steady_at h w job l d = record { fallible = (sources_of (of_changing h w l) d).fallible; steady = eqb d (place_named (infos_of h) job.device) }

each_steady : (k l : Make) (pages : List HeldPage) → l.fallible ≡ k.fallible → HaveSources k pages → (l.steady ≡ true → (held : HeldPage) → In held pages → held.steady ≡ true) → HaveSources l pages
each_steady k l [] same all steady = tt
each_steady k l (held ∷ pages) same all steady = (
  record {
    infallible = λ e. all.0.infallible (sym same ∙ e);
    steady = λ e. steady e held (inl refl);
  },
  each_steady k l pages same all.1 (λ e x among. steady e x (inr among)),
)

steady_first : (h : History) (w : WorldCore) (job : Job) (l : LedTo h w) → SteadyRun h w job l → HaveSourcesAt (steady_at h w job l) h.devices
steady_first h w job l s k device at =
    let place = place_named (infos_of h) job.device in
    let g = of_changing h w l in
    each_steady (make_of (sources_of g k) (Some device)) (make_of (steady_at h w job l k) (Some device)) device.pages refl (have_sources g k device at) (λ e held among.
    let here : slice_get h.devices place ≡ Some device = ap (slice_get h.devices) (sym (eqb-true k place e)) ∙ at in
    s.first device (contains_at h.devices k device at) (name_of h job.device device here) held (contains_in device.pages held among))

steady_event : (h : History) (w : WorldCore) (job : Job) (l : LedTo h w) → SteadyRun h w job l → (e : Event) → In e (events_among (changing_in h w l)) → IsFittingLoad source_state (infos_of h) (make_by h (steady_at h w job l)) e
steady_event h w job l s (Connect j) among = tt
steady_event h w job l s (ToDaemon j n) among = tt
steady_event h w job l s (ToClient j n) among = tt
steady_event h w job l s (DataConnect j) among = tt
steady_event h w job l s (DataTurn j) among = tt
steady_event h w job l s (DataToClient j n) among = tt
steady_event h w job l s (LoseControl j) among = tt
steady_event h w job l s (LoseImage j) among = tt
steady_event h w job l s (Cancel j) among = tt
steady_event h w job l s (Unplug name) among = tt
steady_event h w job l s (Load name source) among = λ k named.
    let place = place_named (infos_of h) job.device in
    let b = steady_at h w job l in
    let g = of_changing h w l in
    let ever = load_fits g name source among k named in
    let same : (make_by h b k).fallible ≡ (make_by h (sources_of g) k).fallible = fallible_of_make (b k) (slice_get h.devices k) ∙ sym (fallible_of_make (sources_of g k) (slice_get h.devices k)) in
    record {
      infallible = λ e. ever.infallible (sym same ∙ e);
      steady = λ e.
          let here : k ≡ place = eqb-true k place (sym (steady_of_make (b k) (slice_get h.devices k)) ∙ e) in
          let there : name_at (infos_of h) place ≡ Some name = subst (λ (n : ℕ). name_at (infos_of h) n ≡ Some name) here named in
          let d = named_at h.devices place name there in
          let own_name : name ≡ job.device = sym d.2 ∙ name_of h job.device d.0 d.1 in
          s.later source (subst (λ (x : List ℕ). In (OfJobs (Load x source)) (changing_in h w l)) own_name (events_in (changing_in h w l) (Load name source) among));
    }

steady_steps : (below : Below) (h : History) (w : WorldCore) (job : Job) (l : LedTo h w) → SteadyRun h w job l → Comes h w job (changing_in h w l) (ghost_by h w job l (steady_at h w job l))
steady_steps below h w job l s = comes_by below h w job l (steady_at h w job l) (steady_first h w job l s) (each_fits (infos_of h) (make_by h (steady_at h w job l)) (events_among (changing_in h w l)) (steady_event h w job l s))

steady_fails : (h : History) (w : WorldCore) (job : Job) (l : LedTo h w) → FailuresCame h (of_changing h w l) (steady_at h w job l)
steady_fails h w job l d able device at = failures_changing h w l d able device at

steady_then : (h : History) (w : WorldCore) (job : Job) (l : LedTo h w) (i : ℕ) (k : Comes h w job (changing_in h w l) (ghost_by h w job l (steady_at h w job l))) → slice_get h.jobs i ≡ Some job → (make_for k.ghost_then.system i).steady ≡ true
steady_then h w job l i k at =
    let place = place_named (infos_of h) job.device in
    ap (λ (make : Make). make.steady) (make_of_it h w job l (steady_at h w job l) k i at) ∙ (steady_of_make (steady_at h w job l place) (slice_get h.devices place) ∙ own place)

-- ---- its finished pages

start_of : (below : Below) (h : History) (w : WorldCore) (i : ℕ) (job : Job) (l : LedTo h w) (sources : ℕ → PageSources) → HaveSourcesAt sources h.devices → FailuresCame h (of_changing h w l) sources → (c : Comes h w job (changing_in h w l) (ghost_by h w job l sources)) → slice_get h.jobs i ≡ Some job → (k : ℕ) (b : Begin) → k < length (job_state c.ghost_then i).client.pages → slice_get (job_state c.ghost_then i).session.started k ≡ Some b → StartFact h w (changing_in h w l) i job k b
start_of below h w i job l sources haves fails c at k b low started =
    let t = ghost_by h w job l sources in
    let here = first_by below h w i job l sources haves (failures_more h w l sources fails) at in
    let fine = fine_first h w job l sources (changing_in h w l) fails in
    let facts = starts_first (laws_of below) h w (changing_in h w l) i job c.steps t.system here fine (steps_by h w job l sources c) (steps_of_changing h w job l sources c) c.answered c.legal refl in
    facts k b (subst (λ (s : SystemState). k < length (s.job i).client.pages) c.rules_are low) (subst (λ (s : SystemState). slice_get (s.job i).session.started k ≡ Some b) c.rules_are started)

joined_of : (a b c : Bool) → cond a (cond b c false) false ≡ true → c ≡ true
joined_of true true c e = e
joined_of true false c e = absurd (let clash : false ≡ true = e in cc)
joined_of false b c e = absurd (let clash : false ≡ true = e in cc)

one_whole : (frames : List Frame) (b : Bool) → b ≡ true → (if b then frames ∷ [] else []) ≡ frames ∷ []
one_whole frames true e = refl
one_whole frames false e = absurd (let clash : false ≡ true = e in cc)

behind_length : {X : Type 0} (xs : List X) (x : X) → length (xs ++ x ∷ []) ≡ length xs + 1
behind_length [] x = refl
behind_length (y ∷ xs) x = let more = behind_length xs x in omega (arith, more)

by_laid : (task : Task) (past : JoinHistory) (pages : List JoinHistory) (p : Endpoint) (all : List (List Frame)) (laid : Bool) → is_laid task p.client.outcome past ≡ laid → KeepsFiles laid past pages p → all ≡ map (λ (q : JoinHistory). q.ended) pages ++ wholes past.ended → p.finished ≤ length all
by_laid task past pages p all false e files is =
    let few = app_length (map (λ (q : JoinHistory). q.ended) pages) (wholes past.ended) in
    let same = mapped_length (λ (q : JoinHistory). q.ended) pages in
    let count = files.count in
    subst (λ (xs : List (List Frame)). p.finished ≤ length xs) (sym is) (omega (arith, few, same, count))
by_laid task past pages p all true e files is =
    let joined : is_joined past.ended ≡ true = joined_of (is_done p.client.outcome) (is_batch task) (is_joined past.ended) e in
    let whole : wholes past.ended ≡ past.ended ∷ [] = one_whole past.ended (is_joined past.ended) joined in
    let count : p.finished ≡ length pages + 1 = files.count ∙ behind_length pages past in
    let as_many = behind_length (map (λ (q : JoinHistory). q.ended) pages) past.ended in
    let same = mapped_length (λ (q : JoinHistory). q.ended) pages in
    subst (λ (xs : List (List Frame)). p.finished ≤ length xs) (sym (is ∙ ap (λ (x : List (List Frame)). map (λ (q : JoinHistory). q.ended) pages ++ x) whole)) (omega (arith, count, as_many, same))

pub finished_low : (u : Ghost) (w : WorldCore) (i : ℕ) (p : Endpoint) → WorldRefines u w → slice_get w.endpoints i ≡ Some p → p.finished ≤ length (job_state u i).client.pages
finished_low u w i p h at =
    let s = h.endpoints i p at in
    let me = job_state u i in
    by_laid (u.jobs i).task (u.history i) (u.pages i) p me.client.pages (is_laid (u.jobs i).task p.client.outcome (u.history i)) refl s.exchanges.files (sym (woken_pages me.client.stage me.client) ∙ s.exchanges.reads.files.all)

-- a scan that is done has one
one_page : (u : Ghost) (w : WorldCore) (i : ℕ) (job : Job) (p : Endpoint) (reports : Reports) → WorldRefines u w → IsOutcome u i (Done reports) → slice_get w.endpoints i ≡ Some p → u.jobs i ≡ job → job.task ≡ tasks.Scan → 0 < length (job_state u i).client.pages
one_page u w i job p reports h done at own scan =
    let me = job_state u i in
    let task : me.session.job.task ≡ model.Scan = ap (λ (j : AbstractJob). j.task) (h.endpoints i p at).job_is ∙ ap task_of (ap (λ (j : Job). j.task) own ∙ scan) in
    let right : IsRightlyDone (make_for u.system i) me.session me.client me.session.job.task = subst (StageInvariant i (make_for u.system i) me (device_for u.system i)) done.stage (h.sound.exchanges i) in
    let one = (subst (IsRightlyDone (make_for u.system i) me.session me.client) task right).1 in
    omega (arith, one)

-- ---- a file that is meant

pub is_scan : (h : History) (w : WorldCore) (changing : List JointEvent) (i : ℕ) (job : Job) (sources : ℕ → PageSources) (count : ℕ) (begin : Begin) (file : List ℕ) → StartFact h w changing i job count begin → IsMeant (make_by h sources (place_named (infos_of h) job.device)) job.settings.items begin file → IsScanEver h w changing i job count file
is_scan h w changing i job sources count begin file fact meant =
    let there = fact.begun in
    let device = there.0.0 in
    let at = there.0.1 in
    let b = sources (place_named (infos_of h) job.device) in
    let m : IsMeant (make_of b (Some device)) job.settings.items begin file = subst (λ (o : Option DeviceState). IsMeant (make_of b o) job.settings.items begin file) at meant in
    let put = nearest_for device.setup.scene.kind device.setup.order job.settings.items begin.options m.in_force in
    let name : device.info.name ≡ job.device = name_of h job.device device at in
    let page = there.1 device at in
    record {
      settled = record {
        device = device;
        is_there = contains_at h.devices (place_named (infos_of h) job.device) device at;
        named = name;
        setup = begin.options;
        placed = put.0;
        in_force = put.1;
      };
      held = page.0;
      came = subst (λ (x : List ℕ). CameFor (history_up_to h changing) x page.0) name page.1;
      started = subst (StartedOn h w i job count) (sym page.2) fact.started;
      picture = m.picture;
      meant = ap (λ (x : PageView). meaning_of x begin.options.scene) page.2 ∙ m.meant;
      denotes = m.denotes.denotes;
      own = m.denotes.own;
    }

pub scan_right : Below → (h : History) (w : WorldCore) (i : ℕ) (job : Job) (p : Endpoint) (reports : Reports) (file : List ℕ) → (j : IsJob h w i job p) → SteadyRun h w job j.led → job.task ≡ tasks.Scan → p.client.outcome ≡ Done reports → p.file ≡ Some file → IsScanEver h w (changing_in h w j.led) i job 0 file
scan_right below h w i job p reports file j steady scan done is =
    let b = steady_at h w job j.led in
    let k = steady_steps below h w job j.led steady in
    let u = k.ghost_then in
    let own_job = job_of h w job j.led b k i j.job_at in
    let s = below.scans u w i p reports file k.stands j.endpoint_at (ap (λ (x : Job). x.task) own_job ∙ scan) done is in
    let promise = subst (IsOutcome u i) done (below.outcomes u w i p k.stands j.endpoint_at) in
    let low = one_page u w i job p reports k.stands promise j.endpoint_at own_job scan in
    let fact = start_of below h w i job j.led b (steady_first h w job j.led steady) (steady_fails h w job j.led) k j.job_at 0 s.begin low (ap (λ (bs : List Begin). slice_get bs 0) s.started) in
    is_scan h w (changing_in h w j.led) i job b 0 s.begin file fact (meant_then h w i job j.led b k s.begin file j.job_at (s.meant (steady_then h w job j.led i k j.job_at)))

pub page_right : Below → (h : History) (w : WorldCore) (i n : ℕ) (job : Job) (p : Endpoint) (file : List ℕ) → (j : IsJob h w i job p) → SteadyRun h w job j.led → n < p.finished → slice_get p.pages n ≡ Some (Some file) → IsScanEver h w (changing_in h w j.led) i job n file
page_right below h w i n job p file j steady low is =
    let b = steady_at h w job j.led in
    let k = steady_steps below h w job j.led steady in
    let u = k.ghost_then in
    let s = below.pages u w i n p file k.stands j.endpoint_at low is in
    let most = finished_low u w i p k.stands j.endpoint_at in
    let fact = start_of below h w i job j.led b (steady_first h w job j.led steady) (steady_fails h w job j.led) k j.job_at n s.begin (omega (arith, low, most)) s.started in
    is_scan h w (changing_in h w j.led) i job b n s.begin file fact (meant_then h w i job j.led b k s.begin file j.job_at (s.meant (steady_then h w job j.led i k j.job_at)))

-- ---- how many they are

few_or_none : (X : ℕ → Type 0) (finished count n : ℕ) (met : Type 0) → finished ≡ n → (finished ≡ count) ⊎ ((0 < finished) × (finished < count) × met) → (n ≡ suc (count - 1)) ⊎ X n → (finished ≡ count) ⊎ ((0 < finished) × (finished < count) × X finished)
few_or_none X finished count n met same (inl all) counts = inl all
few_or_none X finished count n met same (inr few) (inl all) = let some = few.0 in let less = few.1 in absurd (omega (arith, some, less, same, all))
few_or_none X finished count n met same (inr few) (inr none) = inr (few.0, few.1, subst X (sym same) none)

pub counted_there : Below → (h : History) (w : WorldCore) (i : ℕ) (job : Job) (p : Endpoint) → IsJob h w i job p → (count : ℕ) (reports : Reports) → job.task ≡ tasks.Batch count → p.client.outcome ≡ Done reports → (p.finished ≡ count) ⊎ ((0 < p.finished) × (p.finished < count) × HadNoPage h w i job p.finished)
counted_there below h w i job p j count reports batch done =
    let c = comes_there below h w job j.led in
    let u = c.ghost_then in
    let t = at_first h w job j.led in
    let k = kept_by below.kept h w job j.led in
    let me = job_state u i in
    let task : (u.jobs i).task ≡ tasks.Batch count = ap (λ (x : Job). x.task) (job_of h w job j.led (sources_of h) c i j.job_at) ∙ batch in
    let ruled : me.session.job.task ≡ model.Batch (count - 1) = ap (λ (x : AbstractJob). x.task) (c.stands.endpoints i p j.endpoint_at).job_is ∙ ap task_of task in
    let promise : KeepsPromise u i reports = subst (IsOutcome u i) done (below.outcomes u w i p c.stands j.endpoint_at) in
    let so : CountsTo h w i job me = subst (λ (s : SystemState). CountsTo h w i job (s.job i)) (sym c.rules_are)
    (counts (laws_of below) h w i job c.steps t.system (first_here below h w i job j.led j.job_at) (steps_of_one below h w job j.led) c.answered c.legal (λ m. m) (subst (λ (s : SystemState). (s.job i).client.stage ≡ model.Done) c.rules_are promise.stage)) in
    let pages = pages_count u w i p c.stands j.endpoint_at (ap is_done done) (ap is_batch task) in
    let known = k.promises.batches i count p reports j.endpoint_at (ap (λ (x : Job). x.task) (job_there h w job j.led k i j.job_at) ∙ batch) done in
    few_or_none (HadNoPage h w i job) p.finished count (length me.client.pages) _ pages known (so (count - 1) ruled)
