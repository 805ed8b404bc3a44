-- The tray of a feeder that one job alone names: what the job has started are its first pages, and what is left lies in it.
use Rattle.std.specs.Prelude.{◌<◌, cond, eqb, length, map, slice_get}
use Rattle.std.specs.List.{AllByRecursion}
use Rattle.std.proofs.Common.{◌≡◌, ◌∙◌, ℕ, List, [], ◌∷◌, ◌++◌, Bool, true, false, Option, Some, refl, sym, ap, subst, append_assoc, eqb-true}
use Rattle.std.proofs.lemmas.List.{append-nil}
use Rattle.std.proofs.lemmas.Option.{get_or_from_slice_get}
use Rattle.page_picture.specs.Page.{PageView}
use Rattle.page_sources.specs.declared.kinds.Source.{Source}
use Rattle.device_api.specs.Kinds.{Page, is_feeder}
use Rattle.device_api.specs.State.{DeviceState}
use Rattle.scan_job.specs.declared.job.Job.{Job}
use Rattle.daemon_refines.specs.Cores.{fresh_device}
use Rattle.daemon_refines.proofs.Moved.{own}
use Rattle.system_model.specs.AbstractDevices.{AbstractDevice, Begin, without_first}
use Rattle.system_model.specs.Actions.{Action}
use Rattle.system_model.specs.Marks.{IsMarkOf, DeviceView, Loaded, Mark, MarksLead, Removed, Rested, Returned, Started, Took, device_view, starts_in, view_after_mark}
use Rattle.system_model.specs.StepMarks.{marks, touched_device}
use Rattle.system_model.specs.MoveRuns.{all_marks, marks_at}
use Rattle.system_model.specs.ModelPromises.{NotesAreTrue}
use Rattle.system_model.specs.SystemStates.{JobState, SystemState, device_for, listed_devices, make_for, wanted_place}
use Rattle.system_model.specs.Transitions.{By, Loads, Transition, Unplugs, Uses, after_all, after_transition}
use Rattle.event_world.specs.declared.event.Event.{Event}
use Rattle.event_world.specs.declared.event.Event.TheVariants.{Connect, ToDaemon, ToClient, DataConnect, DataTurn, DataToClient, LoseControl, LoseImage, Cancel, Load, Unplug}
use Rattle.event_world.specs.Worlds.{WorldCore}
use Rattle.world_refines.specs.GhostStates.{job_state, name_at, place_named}
use Rattle.scan_world.specs.Calls.{IsJobAt}
use Rattle.sane_fixed.specs.declared.device_info.DeviceInfo.{DeviceInfo}
use Rattle.strangers.specs.Among.{StrangerAct}
use Rattle.strangers.specs.Together.{JointEvent}
use Rattle.strangers.specs.Together.JointEvent.{OfJobs, OfStranger}
use Rattle.scan_world.specs.Histories.{HasNoActs, History, LedTo}
use Rattle.scan_world.specs.Laws.{Below}
use Rattle.scan_world.specs.Trays.{OwnTray, first_tray}
use Rattle.scan_world.proofs.Along.{device_named}
use Rattle.scan_world.proofs.Begun.{party_stays, wants_same}
use Rattle.scan_world.proofs.Jobs.{item_there}
use Rattle.scan_world.proofs.Lists.{In, all_each, all_then, contains_in}
use Rattle.system_model.proofs.OwnMarks.{action_mine}
use Rattle.scan_world.proofs.Elsewhere.{elsewhere}
use Rattle.scan_world.proofs.Joint.{JointStep, each_of_any}
use Rattle.scan_world.proofs.OfJobs.{all_of_jobs}
use Rattle.scan_world.proofs.Pages.{IsOfOne, all_of_one, name_there, shows_own}
use Rattle.scan_world.proofs.Scanned.{at_first, infos_of, kept_by, name_of, untouched_at_first, wants_there}
use Rattle.scan_world.proofs.Sources.{sources_of}
use Rattle.scan_world.proofs.Traced.{StepOf, no_use}
use Rattle.scan_world.proofs.Unhindered.{kind_of_make, names_apart}

-- ---- the starts of a device, by its marks, take its pages

abbrev pub begun_pages : List Begin → List PageView
begun_pages begins = map (λ (b : Begin). b.page) begins

abbrev IsNotLoaded : Mark → Type 0
IsNotLoaded (Took i d) = Unit {0}
IsNotLoaded (Started i d begin) = Unit {0}
IsNotLoaded (Rested i d) = Unit {0}
IsNotLoaded (Returned i d) = Unit {0}
IsNotLoaded (Loaded d page) = ⊥
IsNotLoaded (Removed d) = Unit {0}

marks_take : (ms : List Mark) (s t : DeviceView) → MarksLead s ms t → AllByRecursion IsNotLoaded ms → is_feeder s.model ≡ true → begun_pages (starts_in ms) ++ t.tray ≡ s.tray
marks_take [] s t g n f = ap (λ (x : DeviceView). x.tray) (sym g)
marks_take (Took i d ∷ ms) s t g n f = marks_take ms (view_after_mark s (Took i d)) t g.1 n.1 f
marks_take (Started i d begin ∷ ms) s t g n f =
    let rest = marks_take ms (view_after_mark s (Started i d begin)) t g.1 n.1 f in
    let first : s.tray ≡ begin.page ∷ g.0.2.0 = g.0.2.1 in
    ap (λ (xs : List PageView). begin.page ∷ xs) (rest ∙ (ap (λ (b : Bool). cond b (without_first s.tray) s.tray) f ∙ ap without_first first)) ∙ sym first
marks_take (Rested i d ∷ ms) s t g n f = marks_take ms (view_after_mark s (Rested i d)) t g.1 n.1 f
marks_take (Returned i d ∷ ms) s t g n f = marks_take ms (view_after_mark s (Returned i d)) t g.1 n.1 f
marks_take (Loaded d page ∷ ms) s t g n f = absurd n.0
marks_take (Removed d ∷ ms) s t g n f = marks_take ms (view_after_mark s (Removed d)) t g.1 n.1 f

-- ---- no page is laid in

mine_unloaded : (i d : ℕ) (m : Mark) → IsMarkOf i d m → IsNotLoaded m
mine_unloaded i d (Took j e) h = tt
mine_unloaded i d (Started j e begin) h = tt
mine_unloaded i d (Rested j e) h = tt
mine_unloaded i d (Returned j e) h = tt
mine_unloaded i d (Loaded e page) h = absurd h
mine_unloaded i d (Removed e) h = tt

-- no event brings one for a device of the name
abbrev Unladen : History → List ℕ → Type 0
Unladen h name = (source : Source) → In (OfJobs (Load name source)) h.events → ⊥

laid_in : (h : History) (d : ℕ) (page : Page) (name : List ℕ) (event : Event) → In (OfJobs event) h.events → StepOf (infos_of h) event (Loads d page) → name_at (infos_of h) d ≡ Some name → Unladen h name → ⊥
laid_in h d page name (Connect i) among of is none = of
laid_in h d page name (ToDaemon i n) among of is none = of
laid_in h d page name (ToClient i n) among of is none = of
laid_in h d page name (DataConnect i) among of is none = of
laid_in h d page name (DataTurn i) among of is none = of
laid_in h d page name (DataToClient i n) among of is none = of
laid_in h d page name (LoseControl i) among of is none = of
laid_in h d page name (LoseImage i) among of is none = of
laid_in h d page name (Cancel i) among of is none = of
laid_in h d page name (Load other source) among of is none =
    let both : Some other ≡ Some name = sym of.0 ∙ is in
    let same : other ≡ name = cc in
    none source (subst (λ (x : List ℕ). In (OfJobs (Load x source)) h.events) same among)
laid_in h d page name (Unplug other) among of is none = of

laid_by : (h : History) (d : ℕ) (page : Page) (name : List ℕ) (x : JointEvent) → In x h.events → JointStep (infos_of h) x (Loads d page) → name_at (infos_of h) d ≡ Some name → Unladen h name → ⊥
laid_by h d page name (OfJobs e) among of is none = laid_in h d page name e among of is none
laid_by h d page name (OfStranger a) among of is none = of

step_unloaded : (h : History) (d : ℕ) (name : List ℕ) (s : SystemState) (x : Transition) → name_at (infos_of h) d ≡ Some name → Unladen h name → IsOfOne h x → (b : Bool) → eqb d (touched_device s x) ≡ b → AllByRecursion IsNotLoaded (cond b (marks s x) [])
step_unloaded h d name s x is none of false e = tt
step_unloaded h d name s (By j this_action) is none of true e = all_each (IsMarkOf j (wanted_place s j)) IsNotLoaded (marks s (By j this_action)) (mine_unloaded j (wanted_place s j)) (action_mine j (wanted_place s j) (make_for s j) (listed_devices s) (s.job j) (device_for s j) this_action)
step_unloaded h d name s (Loads place page) is none of true e = absurd (laid_by h place page name of.event of.among of.is (subst (λ (n : ℕ). name_at (infos_of h) n ≡ Some name) (eqb-true d place e) is) none)
step_unloaded h d name s (Unplugs place) is none of true e = (tt, tt)
step_unloaded h d name s (Uses u place shown left) is none of true e = all_each (IsMarkOf u place) IsNotLoaded shown (mine_unloaded u place) (shows_own (infos_of h) of.event u place shown left of.is)

all_unloaded : (h : History) (d : ℕ) (name : List ℕ) (xs : List Transition) (s : SystemState) → name_at (infos_of h) d ≡ Some name → Unladen h name → AllByRecursion (IsOfOne h) xs → AllByRecursion IsNotLoaded (all_marks d s xs)
all_unloaded h d name [] s is none of = tt
all_unloaded h d name (x ∷ xs) s is none of = all_then IsNotLoaded (marks_at d s x) (all_marks d (after_transition s x) xs) (step_unloaded h d name s x is none of.0 (eqb d (touched_device s x)) refl) (all_unloaded h d name xs (after_transition s x) is none of.1)

-- ---- the starts of the one job that names it

starts_then : (ms ns : List Mark) → starts_in (ms ++ ns) ≡ starts_in ms ++ starts_in ns
starts_then [] ns = refl
starts_then (Took i d ∷ ms) ns = starts_then ms ns
starts_then (Started i d begin ∷ ms) ns = ap (λ (bs : List Begin). begin ∷ bs) (starts_then ms ns)
starts_then (Rested i d ∷ ms) ns = starts_then ms ns
starts_then (Returned i d ∷ ms) ns = starts_then ms ns
starts_then (Loaded d page ∷ ms) ns = starts_then ms ns
starts_then (Removed d ∷ ms) ns = starts_then ms ns

none_more : (b : List Begin) (ms : List Mark) → starts_in ms ≡ [] → b ≡ b ++ starts_in ms
none_more b ms none = sym (append-nil b) ∙ ap (λ (bs : List Begin). b ++ bs) (sym none)

-- whoever names the device of that place, of so many jobs, is that one
abbrev IsNamedBy : SystemState → ℕ → ℕ → ℕ → Type 0
IsNamedBy s n i d = (j : ℕ) → j < n → wanted_place s j ≡ d → j ≡ i

other_none : (s : SystemState) (n i d j : ℕ) (x : Action) → IsNamedBy s n i d → j < n → eqb i j ≡ false → (b : Bool) → eqb d (wanted_place s j) ≡ b → starts_in (cond b (marks s (By j x)) []) ≡ []
other_none s n i d j x only low other false e = refl
other_none s n i d j x only low other true e =
    let same : j ≡ i = only j low (sym (eqb-true d (wanted_place s j) e)) in
    absurd (let clash : true ≡ false = sym (own i) ∙ (ap (eqb i) (sym same) ∙ other) in cc)

own_marks : (s : SystemState) (i d : ℕ) (x : Action) → wanted_place s i ≡ d → marks_at d s (By i x) ≡ marks s (By i x)
own_marks s i d x wants = ap (λ (n : ℕ). cond (eqb n (wanted_place s i)) (marks s (By i x)) []) (sym wants) ∙ ap (λ (b : Bool). cond b (marks s (By i x)) []) (own (wanted_place s i))

by_start : NotesAreTrue → (s : SystemState) (n i d j : ℕ) (x : Action) → IsNamedBy s n i d → wanted_place s i ≡ d → j < n → (b : Bool) → eqb i j ≡ b → ((after_transition s (By j x)).job i).session.started ≡ (s.job i).session.started ++ starts_in (marks_at d s (By j x))
by_start notes s n i d j x only wants low false e =
    ap (λ (p : JobState). p.session.started) (party_stays s j x i e) ∙ none_more (s.job i).session.started (marks_at d s (By j x)) (other_none s n i d j x only low e (eqb d (wanted_place s j)) refl)
by_start notes s n i d j x only wants low true e =
    let same : i ≡ j = eqb-true i j e in
    subst (λ (k : ℕ). ((after_transition s (By k x)).job i).session.started ≡ (s.job i).session.started ++ starts_in (marks_at d s (By k x))) same
    ((notes s i x).0 ∙ ap (λ (ms : List Mark). (s.job i).session.started ++ starts_in ms) (sym (own_marks s i d x wants)))

laid_none : (b : Bool) (d : ℕ) (page : Page) → starts_in (cond b (Loaded d page ∷ []) []) ≡ []
laid_none true d page = refl
laid_none false d page = refl

removed_none : (b : Bool) (d : ℕ) → starts_in (cond b (Removed d ∷ []) []) ≡ []
removed_none true d = refl
removed_none false d = refl

-- of jobs alone
abbrev IsNoUse : ℕ → Transition → Type 0
IsNoUse n (By j x) = j < n
IsNoUse n (Loads d page) = Unit {0}
IsNoUse n (Unplugs d) = Unit {0}
IsNoUse n (Uses u d shown left) = ⊥

no_use_by : (infos : List DeviceInfo) (x : JointEvent) (u d : ℕ) (shown : List Mark) (left : AbstractDevice) → ((a : StrangerAct) → x ≡ OfStranger a → ⊥) → JointStep infos x (Uses u d shown left) → ⊥
no_use_by infos (OfJobs e) u d shown left none of = no_use infos e u d shown left of
no_use_by infos (OfStranger a) u d shown left none of = none a refl

without_use : (h : History) (x : Transition) → HasNoActs h → IsOfOne h x → IsNoUse (length h.jobs) x
without_use h (By j x) none of = of.there
without_use h (Loads d page) none of = tt
without_use h (Unplugs d) none of = tt
without_use h (Uses u d shown left) none of = no_use_by (infos_of h) of.event u d shown left (λ a is. none a (contains_in h.events (OfStranger a) (subst (λ (y : JointEvent). In y h.events) is of.among))) of.is

one_start : NotesAreTrue → (s : SystemState) (n i d : ℕ) (x : Transition) → IsNamedBy s n i d → wanted_place s i ≡ d → IsNoUse n x → ((after_transition s x).job i).session.started ≡ (s.job i).session.started ++ starts_in (marks_at d s x)
one_start notes s n i d (By j x) only wants low = by_start notes s n i d j x only wants low (eqb i j) refl
one_start notes s n i d (Loads l page) only wants low = none_more (s.job i).session.started (marks_at d s (Loads l page)) (laid_none (eqb d l) l page)
one_start notes s n i d (Unplugs l) only wants low = none_more (s.job i).session.started (marks_at d s (Unplugs l)) (removed_none (eqb d l) l)
one_start notes s n i d (Uses u l shown left) only wants low = absurd low

own_starts : NotesAreTrue → (n i d : ℕ) (xs : List Transition) (s : SystemState) → IsNamedBy s n i d → wanted_place s i ≡ d → AllByRecursion (IsNoUse n) xs → ((after_all s xs).job i).session.started ≡ (s.job i).session.started ++ starts_in (all_marks d s xs)
own_starts notes n i d [] s only wants of = sym (append-nil (s.job i).session.started)
own_starts notes n i d (x ∷ xs) s only wants of =
    let t = after_transition s x in
    let more = starts_in (all_marks d t xs) in
    own_starts notes n i d xs t (λ j low is. only j low (sym (wants_same s x j) ∙ is)) (wants_same s x i ∙ wants) of.1
    ∙ (ap (λ (bs : List Begin). bs ++ more) (one_start notes s n i d x only wants of.0)
    ∙ (append_assoc (s.job i).session.started (starts_in (marks_at d s x)) more
    ∙ ap (λ (bs : List Begin). (s.job i).session.started ++ bs) (sym (starts_then (marks_at d s x) (all_marks d t xs)))))

-- ---- of a history

named_by : (h : History) (w : WorldCore) (i : ℕ) (job : Job) (l : LedTo h w) (tray : OwnTray h i job) → slice_get h.devices (place_named (infos_of h) job.device) ≡ Some tray.device → IsNamedBy (at_first h w job l).system (length h.jobs) i (place_named (infos_of h) job.device)
named_by h w i job l tray at j low is =
    let other = item_there h.jobs j low in
    let place : place_named (infos_of h) other.0.device ≡ place_named (infos_of h) job.device = sym (wants_other h w job l j other.0 other.1) ∙ is in
    let name : tray.device.info.name ≡ other.0.device = name_of h other.0.device tray.device (ap (slice_get h.devices) place ∙ at) in
    tray.alone j other.0 other.1 (sym name ∙ tray.named)
  where
    wants_other : (h : History) (w : WorldCore) (job : Job) (l : LedTo h w) (j : ℕ) (other : Job) → slice_get h.jobs j ≡ Some other → wanted_place (at_first h w job l).system j ≡ place_named (infos_of h) other.device
    wants_other h w job l j other at = ap (λ (x : Job). place_named (infos_of h) x.device) (get_or_from_slice_get h.jobs j other (elsewhere h.devices job) at)

pub takes_there : (below : Below) (h : History) (w : WorldCore) (i : ℕ) (job : Job) (at : IsJobAt h w i job) (tray : OwnTray h i job) → begun_pages (job_state (kept_by below.kept h w job at.led).run.ghost_then i).session.started ++ ((kept_by below.kept h w job at.led).run.ghost_then.system.device (place_named (infos_of h) job.device)).tray ≡ first_tray tray.device
takes_there below h w i job at tray =
    let l = at.led in
    let k = kept_by below.kept h w job l in
    let t = at_first h w job l in
    let u = k.run.ghost_then in
    let steps = k.run.steps in
    let d = place_named (infos_of h) job.device in
    let there : slice_get h.devices d ≡ Some tray.device = device_named h job.device tray.device (names_apart below h w job l) tray.is_there tray.named in
    let named : name_at (infos_of h) d ≡ Some job.device = name_there h.devices d tray.device there ∙ ap (λ (n : List ℕ). Some n) tray.named in
    let jobs = all_of_jobs h.events t steps u (untouched_at_first h w job l) k.run.comes in
    let of = all_of_one h steps (each_of_any h.events t steps u k.run.comes) jobs in
    let unladen : Unladen h job.device = λ source among. tray.unladen source (contains_in h.events (OfJobs (Load job.device source)) among) in
    let feeder : is_feeder (t.system.make d).model ≡ true = ap is_feeder (kind_of_make h d tray.device there) ∙ tray.feeder in
    let takes = marks_take (all_marks d t.system steps) (device_view (t.system.make d) (t.system.device d)) (device_view (t.system.make d) ((after_all t.system steps).device d)) (k.run.marks d) (all_unloaded h d job.device steps t.system named unladen of) feeder in
    let begun = own_starts below.notes (length h.jobs) i d steps t.system (named_by h w i job l tray there) (wants_there h w job l (sources_of h) i at.job_at) (all_each (IsOfOne h) (IsNoUse (length h.jobs)) steps (λ x o. without_use h x tray.undisturbed o) of) in
    let first : (t.system.device d).tray ≡ first_tray tray.device = ap (λ (o : Option DeviceState). (fresh_device o).tray) there in
    ap (λ (s : SystemState). begun_pages (s.job i).session.started ++ (s.device d).tray) k.run.rules_are
    ∙ (ap (λ (bs : List Begin). begun_pages bs ++ ((after_all t.system steps).device d).tray) begun ∙ (takes ∙ first))
