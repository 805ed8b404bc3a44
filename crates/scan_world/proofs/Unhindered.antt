-- What stands of a device in a world that a history led to: it is listed unless it was taken out, no feeder is without a page, its source
-- can fail only where a page's can that came for it, and a job that has it names it.
use Rattle.std.specs.Prelude.{cond, eqb, length, slice_get, Contains, ◌<◌, ◌≢◌}
use Rattle.std.specs.List.{AllByRecursion}
use Rattle.std.proofs.Common.{◌≡◌, ◌∙◌, ℕ, List, [], ◌∷◌, Bool, true, false, Option, Some, None, refl, sym, ap, subst, eqb-true, arith}
use Rattle.std.proofs.lemmas.Option.{get_or_from_slice_get, slice_get_within}
use Rattle.sane_fixed.specs.declared.device_info.DeviceInfo.{DeviceInfo}
use Rattle.page_picture.specs.declared.scene.DeviceKind.TheVariants.{Flatbed, Hand, ThreePass, Feeder}
use Rattle.device_api.specs.Kinds.{IsStocked, Model, is_feeder}
use Rattle.device_api.specs.State.{DeviceState, HeldPage, Phase as AnyPhase, feeds, left_behind}
use Rattle.device_api.specs.State.Phase.{AtRest as Rest, Between as Amid, Reading as Read}
use Rattle.dispatch.specs.Table.{find_name}
use Rattle.scan_job.specs.declared.job.Job.{Job}
use Rattle.daemon_refines.specs.Cores.{fresh_device}
use Rattle.daemon_refines.specs.ContextRefinement.{IsMade, page_views, pages_to_come, tray_of}
use Rattle.system_model.specs.AbstractDevices.{AbstractDevice}
use Rattle.system_model.specs.Client.{AbstractJob as RuledJob}
use Rattle.system_model.specs.Devices.{Make}
use Rattle.system_model.specs.Marks.{IsMarkOf, DeviceView, Loaded, Mark, MarksLead, Removed, Rested, Returned, Started, Took, device_view, view_after_mark}
use Rattle.system_model.specs.StepMarks.{marks, touched_device}
use Rattle.system_model.specs.MoveRuns.{all_marks, marks_at}
use Rattle.system_model.specs.SystemStates.{SystemState, device_for, listed_devices, make_for, wanted_place}
use Rattle.system_model.specs.Transitions.{By, Loads, Transition, Unplugs, Uses, after_all, after_transition}
use Rattle.event_world.specs.declared.event.Event.{Event}
use Rattle.event_world.specs.declared.event.Event.TheVariants.{Connect, ToDaemon, ToClient, DataConnect, DataTurn, DataToClient, LoseControl, LoseImage, Cancel, Load, Unplug}
use Rattle.event_world.specs.Worlds.{WorldCore}
use Rattle.world_refines.specs.GhostStates.{name_at, place_named}
use Rattle.world_refines.specs.NewWorlds.{make_of}
use Rattle.world_refines.specs.WorldRefinement.{HaveDifferentNames}
use Rattle.world_refines.proofs.job_events.Constant.{Fixed, makes_stay}
use Rattle.strangers.specs.Together.{JointEvent}
use Rattle.strangers.specs.Together.JointEvent.{OfJobs, OfStranger}
use Rattle.scan_world.specs.Histories.{History, LedTo}
use Rattle.scan_world.specs.Laws.{Below}
use Rattle.scan_world.specs.Sessions.{Has}
use Rattle.scan_world.proofs.Along.{device_named}
use Rattle.scan_world.proofs.Jobs.{item_there}
use Rattle.scan_world.proofs.Lists.{In, all_each, all_then}
use Rattle.system_model.proofs.OwnMarks.{action_mine}
use Rattle.scan_world.proofs.OfJobs.{all_of_jobs}
use Rattle.scan_world.proofs.Elsewhere.{elsewhere}
use Rattle.scan_world.proofs.Joint.{JointStep, all_fixed_by, each_of_any}
use Rattle.scan_world.proofs.Pages.{IsOfOne, all_of_one, name_there, shows_own}
use Rattle.scan_world.proofs.Scanned.{at_first, infos_of, kept_by, may_first, name_of, untouched_at_first}
use Rattle.scan_world.proofs.Sources.{have_sources, make_at, named_at, sources_of}
use Rattle.scan_world.proofs.Traced.{StepOf}
use Rattle.scan_world.proofs.moments.Opened.{listed_found}
use Rattle.scan_world.proofs.moments.Stands.{has_holds}

-- ---- the devices of a world have different names

pub names_apart : Below → (h : History) (w : WorldCore) (job : Job) → LedTo h w → HaveDifferentNames (infos_of h)
names_apart below h w job l = (may_first below.kept h w job l (sources_of h) (have_sources h)).refines.is_of.apart

-- ---- listed, unless it was taken out

abbrev IsNotRemoved : Mark → Type 0
IsNotRemoved (Took i d) = Unit {0}
IsNotRemoved (Started i d begin) = Unit {0}
IsNotRemoved (Rested i d) = Unit {0}
IsNotRemoved (Returned i d) = Unit {0}
IsNotRemoved (Loaded d page) = Unit {0}
IsNotRemoved (Removed d) = ⊥

mark_stays : (s : DeviceView) (m : Mark) → IsNotRemoved m → s.listed ≡ true → (view_after_mark s m).listed ≡ true
mark_stays s (Took i d) n on = on
mark_stays s (Started i d begin) n on = on
mark_stays s (Rested i d) n on = on
mark_stays s (Returned i d) n on = on
mark_stays s (Loaded d page) n on = on
mark_stays s (Removed d) n on = absurd n

pub listed_stays : (ms : List Mark) (s t : DeviceView) → MarksLead s ms t → AllByRecursion IsNotRemoved ms → s.listed ≡ true → t.listed ≡ true
listed_stays [] s t g n on = ap (λ (x : DeviceView). x.listed) (sym g) ∙ on
listed_stays (m ∷ ms) s t g n on = listed_stays ms (view_after_mark s m) t g.1 n.1 (mark_stays s m n.0 on)

mine_stays : (i d : ℕ) (m : Mark) → IsMarkOf i d m → IsNotRemoved m
mine_stays i d (Took j e) h = tt
mine_stays i d (Started j e begin) h = tt
mine_stays i d (Rested j e) h = tt
mine_stays i d (Returned j e) h = tt
mine_stays i d (Loaded e page) h = absurd h
mine_stays i d (Removed e) h = absurd h

-- the name of a place that is taken out is that of an event
taken_out : (h : History) (d : ℕ) (name : List ℕ) (event : Event) → In (OfJobs event) h.events → StepOf (infos_of h) event (Unplugs d) → name_at (infos_of h) d ≡ Some name → In (OfJobs (Unplug name)) h.events
taken_out h d name (Connect i) among of is = absurd of
taken_out h d name (ToDaemon i n) among of is = absurd of
taken_out h d name (ToClient i n) among of is = absurd of
taken_out h d name (DataConnect i) among of is = absurd of
taken_out h d name (DataTurn i) among of is = absurd of
taken_out h d name (DataToClient i n) among of is = absurd of
taken_out h d name (LoseControl i) among of is = absurd of
taken_out h d name (LoseImage i) among of is = absurd of
taken_out h d name (Cancel i) among of is = absurd of
taken_out h d name (Load other source) among of is = absurd of
taken_out h d name (Unplug other) among of is =
    let both : Some other ≡ Some name = sym of ∙ is in
    let same : other ≡ name = cc in
    subst (λ (x : List ℕ). In (OfJobs (Unplug x)) h.events) same among

out_by : (h : History) (d : ℕ) (name : List ℕ) (x : JointEvent) → In x h.events → JointStep (infos_of h) x (Unplugs d) → name_at (infos_of h) d ≡ Some name → In (OfJobs (Unplug name)) h.events
out_by h d name (OfJobs e) among of is = taken_out h d name e among of is
out_by h d name (OfStranger a) among of is = absurd of

step_stays : (h : History) (d : ℕ) (name : List ℕ) (s : SystemState) (x : Transition) → name_at (infos_of h) d ≡ Some name → (In (OfJobs (Unplug name)) h.events → ⊥) → IsOfOne h x → (b : Bool) → eqb d (touched_device s x) ≡ b → AllByRecursion IsNotRemoved (cond b (marks s x) [])
step_stays h d name s x is none of false e = tt
step_stays h d name s (By j this_action) is none of true e = all_each (IsMarkOf j (wanted_place s j)) IsNotRemoved (marks s (By j this_action)) (mine_stays j (wanted_place s j)) (action_mine j (wanted_place s j) (make_for s j) (listed_devices s) (s.job j) (device_for s j) this_action)
step_stays h d name s (Loads place page) is none of true e = (tt, tt)
step_stays h d name s (Unplugs place) is none of true e = absurd (none (out_by h place name of.event of.among of.is (subst (λ (n : ℕ). name_at (infos_of h) n ≡ Some name) (eqb-true d place e) is)))
step_stays h d name s (Uses u place shown left) is none of true e = all_each (IsMarkOf u place) IsNotRemoved shown (mine_stays u place) (shows_own (infos_of h) of.event u place shown left of.is)

pub all_stay : (h : History) (d : ℕ) (name : List ℕ) (xs : List Transition) (s : SystemState) → name_at (infos_of h) d ≡ Some name → (In (OfJobs (Unplug name)) h.events → ⊥) → AllByRecursion (IsOfOne h) xs → AllByRecursion IsNotRemoved (all_marks d s xs)
all_stay h d name [] s is none of = tt
all_stay h d name (x ∷ xs) s is none of = all_then IsNotRemoved (marks_at d s x) (all_marks d (after_transition s x) xs) (step_stays h d name s x is none of.0 (eqb d (touched_device s x)) refl) (all_stay h d name xs (after_transition s x) is none of.1)

pub listed_here : Below → (h : History) (w : WorldCore) (job : Job) → LedTo h w → (device : DeviceState) → Contains h.devices device → device.info.name ≡ job.device → (In (OfJobs (Unplug job.device)) h.events → ⊥) → find_name job.device w.daemon.registry ≢ None
listed_here below h w job l device there named none =
    let k = kept_by below.kept h w job l in
    let t = at_first h w job l in
    let u = k.run.ghost_then in
    let steps = k.run.steps in
    let d = place_named (infos_of h) job.device in
    let at : slice_get h.devices d ≡ Some device = device_named h job.device device (names_apart below h w job l) there named in
    let is : name_at (infos_of h) d ≡ Some job.device = name_there h.devices d device at ∙ ap (λ (n : List ℕ). Some n) named in
    let of = all_of_one h steps (each_of_any h.events t steps u k.run.comes) (all_of_jobs h.events t steps u (untouched_at_first h w job l) k.run.comes) in
    let first : (t.system.device d).listed ≡ true = ap (λ (o : Option DeviceState). (fresh_device o).listed) at in
    let on : ((after_all t.system steps).device d).listed ≡ true = listed_stays (all_marks d t.system steps) (device_view (t.system.make d) (t.system.device d)) (device_view (t.system.make d) ((after_all t.system steps).device d)) (k.run.marks d) (all_stay h d job.device steps t.system is none of) first in
    let infos : u.infos ≡ infos_of h = ap (λ (f : Fixed). f.1) (all_fixed_by h.events t steps u k.run.comes) in
    listed_found u w job.device d k.run.stands (subst (λ (s : SystemState). (s.device d).listed ≡ true) (sym k.run.rules_are) on) (subst (λ (x : List DeviceInfo). name_at x d ≡ Some job.device) (sym infos) is)

-- ---- who has it names it

pub has_own : Below → (h : History) (w : WorldCore) (job : Job) → LedTo h w → (j : ℕ) (name : List ℕ) (d : DeviceState) → Has w j name d → (other : Job) × (slice_get h.jobs j ≡ Some other) × (other.device ≡ name)
has_own below h w job l j name d has =
    let k = kept_by below.kept h w job l in
    let u = k.run.ghost_then in
    let fixed = all_fixed_by h.events (at_first h w job l) k.run.steps u k.run.comes in
    let count : u.count ≡ length h.jobs = ap (λ (f : Fixed). f.2) fixed in
    let low : j < length h.jobs = subst (λ (n : ℕ). j < n) (sym k.run.stands.is_of.count ∙ count) (slice_get_within w.endpoints j has.at.endpoint has.at.is_there) in
    let own = item_there h.jobs j low in
    let job_is : u.jobs j ≡ own.0 = ap (λ (f : Fixed). f.3 j) fixed ∙ get_or_from_slice_get h.jobs j own.0 (elsewhere h.devices job) own.1 in
    let infos : u.infos ≡ infos_of h = ap (λ (f : Fixed). f.1) fixed in
    let m = has_holds u w j name d k.run.stands has in
    let place : m.place ≡ place_named (infos_of h) own.0.device =
    m.wanted ∙ (ap (λ (x : RuledJob). x.wants) (k.run.stands.endpoints j has.at.endpoint has.at.is_there).job_is
    ∙ (ap (λ (x : List DeviceInfo). place_named x (u.jobs j).device) infos ∙ ap (λ (x : Job). place_named (infos_of h) x.device) job_is)) in
    let there : name_at (infos_of h) (place_named (infos_of h) own.0.device) ≡ Some name = subst (λ (n : ℕ). name_at (infos_of h) n ≡ Some name) place (subst (λ (x : List DeviceInfo). name_at x m.place ≡ Some name) infos m.named) in
    let s = named_at h.devices (place_named (infos_of h) own.0.device) name there in
    (own.0, own.1, sym (name_of h own.0.device s.0 s.1) ∙ s.2)

-- ---- what it is of

-- a device that a session has, of the kind and of the sources of the one that the world was made with
pub record IsOf (h : History) (device d : DeviceState) : Type 0 where
  pub place : ℕ
  pub at : slice_get h.devices place ≡ Some device
  pub made : IsMade (make_at h place) d
  pub stocked : IsStocked d.setup.scene.kind (tray_of d)

pub is_of : Below → (h : History) (w : WorldCore) (job : Job) → LedTo h w → (device : DeviceState) → Contains h.devices device → (j : ℕ) (d : DeviceState) → Has w j device.info.name d → IsOf h device d
is_of below h w job l device there j d has =
    let k = kept_by below.kept h w job l in
    let t = at_first h w job l in
    let u = k.run.ghost_then in
    let infos : u.infos ≡ infos_of h = ap (λ (f : Fixed). f.1) (all_fixed_by h.events t k.run.steps u k.run.comes) in
    let m = has_holds u w j device.info.name d k.run.stands has in
    let there_is : name_at (infos_of h) m.place ≡ Some device.info.name = subst (λ (x : List DeviceInfo). name_at x m.place ≡ Some device.info.name) infos m.named in
    let apart = names_apart below h w job l in
    let at = device_named h device.info.name device apart there refl in
    let named : name_at (infos_of h) (place_named (infos_of h) device.info.name) ≡ Some device.info.name = name_there h.devices (place_named (infos_of h) device.info.name) device at in
    let place : m.place ≡ place_named (infos_of h) device.info.name = apart m.place (place_named (infos_of h) device.info.name) device.info.name there_is named in
    let makes : u.system.make ≡ make_at h = ap (λ (s : SystemState). s.make) k.run.rules_are ∙ makes_stay t.system k.run.steps in
    let made : IsMade (make_at h m.place) d = subst (λ (f : ℕ → Make). IsMade (f m.place) d) makes m.made in
    let stocked : IsStocked (u.system.make m.place).model (tray_of d) = subst (λ (dev : AbstractDevice). IsStocked (u.system.make m.place).model dev.tray) m.is (k.run.stands.sound.fit m.place).stocked in
    record {
      place = m.place;
      at = ap (slice_get h.devices) place ∙ at;
      made = made;
      stocked = subst (λ (x : Model). IsStocked x (tray_of d)) m.made.kind stocked;
    }

pub kind_of_make : (h : History) (place : ℕ) (device : DeviceState) → slice_get h.devices place ≡ Some device → (make_at h place).model ≡ device.setup.scene.kind
kind_of_make h place device at = ap (λ (o : Option DeviceState). (make_of (sources_of h place) o).model) at

-- ---- no feeder is without a page

left_none : (b : Bool) (pages : List HeldPage) → pages ≡ [] → left_behind b pages ≡ []
left_none false pages e = e
left_none true [] e = refl
left_none true (p ∷ pages) e = absurd (let clash : p ∷ pages ≡ [] = e in cc)

come_none : (s : DeviceState) (phase : AnyPhase) → s.pages ≡ [] → page_views (pages_to_come phase s) ≡ []
come_none s (Rest c) e = ap page_views e
come_none s (Amid ended) e = ap page_views (left_none (feeds s) s.pages e)
come_none s (Read pass given) e = ap page_views (left_none (feeds s) s.pages e)

plain_stocked : (m : Model) → is_feeder m ≡ false → IsStocked m [] → ⊥
plain_stocked Flatbed e h = omega (arith, h)
plain_stocked Hand e h = omega (arith, h)
plain_stocked ThreePass e h = omega (arith, h)
plain_stocked Feeder e h = let clash : true ≡ false = e in cc

pub some_page : (h : History) (device d : DeviceState) → IsOf h device d → feeds device ≡ false → d.pages ≡ [] → ⊥
some_page h device d o plain none =
    let kind : d.setup.scene.kind ≡ device.setup.scene.kind = sym o.made.kind ∙ kind_of_make h o.place device o.at in
    plain_stocked d.setup.scene.kind (ap is_feeder kind ∙ plain) (subst (IsStocked d.setup.scene.kind) (come_none d d.phase none) o.stocked)
