-- What is so along all steps: the pages of each device, and what is fixed of one job.
use Rattle.std.specs.Prelude.{eqb, length, option_map, map, slice_get, slice_index_or, Contains, ◌<◌, ◌≢◌}
use Rattle.scan_job.specs.declared.job.Task.TheVariants as tasks
use Rattle.std.proofs.Common.{◌≡◌, ◌∙◌, ℕ, zero, suc, List, [], ◌∷◌, Bool, true, false, Some, None, refl, sym, ap, subst, eqb-true, arith}
use Rattle.std.proofs.lemmas.Option.{get_or_from_slice_get}
use Rattle.sane_fixed.specs.declared.status.Status.{Status}
use Rattle.device_api.specs.InForce as devices
use Rattle.device_api.specs.State.{DeviceState}
use Rattle.scan_frames.specs.declared.setup.Setup.{Setup}
use Rattle.scan_job.specs.declared.job.Job.{Job}
use Rattle.client_refines.specs.ClientRefinement.{requested_setting}
use Rattle.system_model.specs.Client.{AbstractJob as RuledJob}
use Rattle.system_model.specs.Devices.{Make, read_status_of}
use Rattle.system_model.specs.AbstractInForce.{SettingsResult, abstract_in_force}
use Rattle.system_model.specs.Settings.{SettingsMeanTheSame, pair_of}
use Rattle.system_model.specs.AbstractDevices.{AbstractDevice}
use Rattle.system_model.specs.SystemStates.{SystemState, make_for, device_for, wanted_place}
use Rattle.system_model.specs.Transitions.{By, IsEnabled, Loads, Transition, Unplugs, Uses, after_transition}
use Rattle.system_model.specs.Marks.{DeviceView, MarksLead, device_view}
use Rattle.system_model.specs.StepMarks.{marks, touched_device}
use Rattle.system_model.specs.ModelPromises.{CausesAreGrounded, HistoriesKeepInvariant, MarksAreEnabled, OutcomesLast}
use Rattle.system_model.specs.Invariants.{Invariant}
use Rattle.world_refines.specs.NewWorlds.{PageSources, make_of}
use Rattle.world_refines.specs.WorldRefinement.{HaveDifferentNames}
use Rattle.world_refines.specs.GhostStates.{name_at, place_named, abstract_job}
use Rattle.world_refines.proofs.state.Infos.{place_is}
use Rattle.daemon_refines.proofs.Moved.{own}
use Rattle.scan_world.specs.Histories.{History}
use Rattle.scan_world.specs.Page.{Settled}
use Rattle.scan_world.proofs.Lists.{contains_at}
use Rattle.scan_world.proofs.Marked.{Slotted, slotted_then}
use Rattle.scan_world.proofs.Asked.{AsksGuarded}
use Rattle.scan_world.proofs.Begun.{wants_same}
use Rattle.scan_world.proofs.Pages.{HasDevice, IsOfDevice, IsOfOne, loads_if, name_there}
use Rattle.scan_world.proofs.Elsewhere.{elsewhere}
use Rattle.scan_world.proofs.Options.{IsForced}
use Rattle.scan_world.proofs.Nearest.{nearest_for}
use Rattle.scan_world.proofs.Scanned.{infos_of, name_of}
use Rattle.scan_world.proofs.Sources.{CanFail}

-- ---- devices

-- the place that job j names; one that names nothing stands for those that there are not
abbrev pub place_of : History → Job → ℕ → ℕ
place_of h job j = place_named (infos_of h) (slice_index_or h.jobs j (elsewhere h.devices job)).device

-- its sources, and that a page which can fail came for it where they may
pub record Made (h : History) (d : ℕ) (make : Make) : Type 0 where
  pub sources : PageSources
  pub is : make ≡ make_of sources (slice_get h.devices d)
  pub fails : sources.fallible ≡ true → (device : DeviceState) → slice_get h.devices d ≡ Some device → CanFail h device.info.name

-- each device is so
pub record Fine (h : History) (job : Job) (s : SystemState) : Type 0 where
  pub makes : (d : ℕ) → Made h d (s.make d)
  pub places : (j : ℕ) → wanted_place s j ≡ place_of h job j
  pub slots : (d : ℕ) → Slotted (HasDevice h d) (IsOfDevice h d) (device_view (s.make d) (s.device d))

make_stays : (s : SystemState) (x : Transition) → (after_transition s x).make ≡ s.make
make_stays s (By i x) = refl
make_stays s (Loads d page) = refl
make_stays s (Unplugs d) = refl
make_stays s (Uses u d shown left) = refl

device_stays : (s : SystemState) (x : Transition) (d : ℕ) → eqb d (touched_device s x) ≡ false → (after_transition s x).device d ≡ s.device d
device_stays s (By i x) d e = rw e refl
device_stays s (Loads l page) d e = rw e refl
device_stays s (Unplugs l) d e = rw e refl
device_stays s (Uses u l shown left) d e = rw e refl

abbrev pub slot_at : SystemState → ℕ → DeviceView
slot_at s d = device_view (s.make d) (s.device d)

slot_stays : (s : SystemState) (x : Transition) (d : ℕ) → eqb d (touched_device s x) ≡ false → slot_at (after_transition s x) d ≡ slot_at s d
slot_stays s x d e = ap (λ (m : ℕ → Make). device_view (m d) ((after_transition s x).device d)) (make_stays s x) ∙ ap (λ (dev : AbstractDevice). device_view (s.make d) dev) (device_stays s x d e)

slot_goes : MarksAreEnabled → (s : SystemState) (x : Transition) → Invariant s → IsEnabled s x → MarksLead (slot_at s (touched_device s x)) (marks s x) (slot_at (after_transition s x) (touched_device s x))
slot_goes legal s x sound l = subst (λ (m : ℕ → Make). MarksLead (slot_at s (touched_device s x)) (marks s x) (device_view (m (touched_device s x)) ((after_transition s x).device (touched_device s x)))) (sym (make_stays s x)) (legal s x sound l)

slots_then : MarksAreEnabled → (h : History) (job : Job) (s : SystemState) (x : Transition) → Invariant s → IsEnabled s x → IsOfOne h x → Fine h job s → (d : ℕ) (b : Bool) → eqb d (touched_device s x) ≡ b → Slotted (HasDevice h d) (IsOfDevice h d) (slot_at (after_transition s x) d)
slots_then legal h job s x sound l of f d false e = subst (Slotted (HasDevice h d) (IsOfDevice h d)) (sym (slot_stays s x d e)) (f.slots d)
slots_then legal h job s x sound l of f d true e =
    let t = touched_device s x in
    subst (λ (n : ℕ). Slotted (HasDevice h n) (IsOfDevice h n) (slot_at (after_transition s x) n)) (sym (eqb-true d t e))
    (slotted_then (HasDevice h t) (IsOfDevice h t) (marks s x) (slot_at s t) (slot_at (after_transition s x) t) (slot_goes legal s x sound l) (loads_if h t s x of true (own t)) (f.slots t))

pub fine_then : MarksAreEnabled → (h : History) (job : Job) (s : SystemState) (x : Transition) → Invariant s → IsEnabled s x → IsOfOne h x → Fine h job s → Fine h job (after_transition s x)
fine_then legal h job s x sound l of f = record {
  makes = λ d. record { sources = (f.makes d).sources; is = ap (λ (m : ℕ → Make). m d) (make_stays s x) ∙ (f.makes d).is; fails = (f.makes d).fails };
  places = λ j. wants_same s x j ∙ f.places j;
  slots = λ d. slots_then legal h job s x sound l of f d (eqb d (touched_device s x)) refl;
}

-- ---- what a cause says

abbrev pub IsTold : History → Job → Status → Type 0
IsTold h job status = (s : Settled h job) × (s.setup.told ≡ Some status)

-- what is fixed of the job
pub record Own (h : History) (i : ℕ) (job : Job) : Type 0 where
  pub at : slice_get h.jobs i ≡ Some job
  pub apart : HaveDifferentNames (infos_of h)
  pub same : SettingsMeanTheSame

pub own_place : (h : History) (i : ℕ) (job : Job) → slice_get h.jobs i ≡ Some job → place_of h job i ≡ place_named (infos_of h) job.device
own_place h i job at = ap (λ (j : Job). place_named (infos_of h) j.device) (get_or_from_slice_get h.jobs i job (elsewhere h.devices job) at)

pub get_at : {X : Type 0} (xs : List X) (k : ℕ) (d : X) → k < length xs → slice_get xs k ≡ Some (slice_index_or xs k d)
get_at [] k d low = absurd (omega (arith, low))
get_at (x ∷ xs) zero d low = refl
get_at (x ∷ xs) (suc k) d low = get_at xs k d (omega (arith, low))

-- the device of that name is the one at its place
pub device_named : (h : History) (name : List ℕ) (device : DeviceState) → HaveDifferentNames (infos_of h) → Contains h.devices device → device.info.name ≡ name → slice_get h.devices (place_named (infos_of h) name) ≡ Some device
device_named h name device apart there named =
    let at : slice_get h.devices there.0 ≡ Some device = get_at h.devices there.0 device there.1 ∙ ap (λ (x : DeviceState). Some x) there.2 in
    let is : name_at (infos_of h) there.0 ≡ Some name = name_there h.devices there.0 device at ∙ ap (λ (x : List ℕ). Some x) named in
    ap (slice_get h.devices) (place_is (infos_of h) name there.0 apart is) ∙ at

pub same_pairs : (items : List (List ℕ × List ℕ)) → map pair_of (map requested_setting items) ≡ items
same_pairs [] = refl
same_pairs (s ∷ items) = ap (λ (x : List (List ℕ × List ℕ)). s ∷ x) (same_pairs items)

pub forced_there : (own_job : SettingsMeanTheSame) (k : Make) (job : Job) → option_map (λ (f : SettingsResult). f.options) (abstract_in_force k (map requested_setting job.settings.items)) ≡ option_map (λ (r : Setup × List devices.Placement). r.0) (devices.in_force k.model k.order job.settings.items)
forced_there same k job = same k (map requested_setting job.settings.items) ∙ ap (λ (x : List (List ℕ × List ℕ)). option_map (λ (r : Setup × List devices.Placement). r.0) (devices.in_force k.model k.order x)) (same_pairs job.settings.items)

pub settled_by : (h : History) (i : ℕ) (job : Job) (s : SystemState) → Own h i job → Fine h job s → (s.job i).session.job ≡ abstract_job h.users (infos_of h) job → (device_for s i).holder ≡ Some i → IsForced (make_for s i) (s.job i).session (device_for s i) → (r : Settled h job) × (r.setup ≡ (device_for s i).options) × (slice_get h.devices (wanted_place s i) ≡ Some r.device)
settled_by h i job s o f is mine forced =
    let d = place_named (infos_of h) job.device in
    let place : wanted_place s i ≡ d = f.places i ∙ own_place h i job o.at in
    let there : HasDevice h d = subst (HasDevice h) place ((f.slots (wanted_place s i)).held i mine) in
    let device = there.0 in
    let known = f.makes (wanted_place s i) in
    let b = known.sources in
    let make : make_for s i ≡ make_of b (Some device) = known.is ∙ ap (make_of b) (ap (slice_get h.devices) place ∙ there.1) in
    let ruled : abstract_in_force (make_of b (Some device)) (map requested_setting job.settings.items) ≡ Some (record { options = (device_for s i).options; reports = forced.0 }) =
    subst (λ (k : Make). abstract_in_force k (map requested_setting job.settings.items) ≡ Some (record { options = (device_for s i).options; reports = forced.0 })) make
    (ap (λ (j : RuledJob). abstract_in_force (make_for s i) j.settings) (sym is) ∙ forced.1) in
    let options : option_map (λ (r : Setup × List devices.Placement). r.0) (devices.in_force device.setup.scene.kind device.setup.order job.settings.items) ≡ Some (device_for s i).options = sym (forced_there o.same (make_of b (Some device)) job) ∙ ap (option_map (λ (x : SettingsResult). x.options)) ruled in
    let put = nearest_for device.setup.scene.kind device.setup.order job.settings.items (device_for s i).options options in (
      record {
        device = device;
        is_there = contains_at h.devices d device there.1;
        named = name_of h job.device device there.1;
        setup = (device_for s i).options;
        placed = put.0;
        in_force = put.1;
      },
      refl,
      ap (slice_get h.devices) place ∙ there.1,
    )

pub told_by : (h : History) (i : ℕ) (job : Job) (s : SystemState) (status : Status) → Own h i job → Fine h job s → (s.job i).session.job ≡ abstract_job h.users (infos_of h) job → (device_for s i).holder ≡ Some i → IsForced (make_for s i) (s.job i).session (device_for s i) → read_status_of (make_for s i) (device_for s i).options ≡ Some status → IsTold h job status
unfolding read_status_of
told_by h i job s status o f is mine forced r =
    let x = settled_by h i job s o f is mine forced in
    (x.0, ap (λ (y : Setup). y.told) x.1 ∙ r)

-- what a step of it needs
pub record Here (h : History) (i : ℕ) (job : Job) (s : SystemState) : Type 0 where
  pub own_job : Own h i job
  pub fine : Fine h job s
  pub is : (s.job i).session.job ≡ abstract_job h.users (infos_of h) job
  pub asks : AsksGuarded (s.job i)
  pub sound : Invariant s

abbrev pub NotForced : History → Job → Type 0
NotForced h job = (job.task ≢ tasks.List) × ((b : PageSources) × (abstract_in_force (make_of b (slice_get h.devices (place_named (infos_of h) job.device))) (map requested_setting job.settings.items) ≡ None))

pub record Laws : Type 0 where
  pub legal : MarksAreEnabled
  pub sound : HistoriesKeepInvariant
  pub last : OutcomesLast
  pub grounds : CausesAreGrounded
