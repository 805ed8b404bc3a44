-- The pages of a device are those that it had and those that events laid into it.
use Rattle.std.specs.Prelude.{cond, eqb, length, map, slice_get, Contains}
use Rattle.std.specs.List.{AllByRecursion}
use Rattle.std.proofs.Common.{◌≡◌, ◌∙◌, ℕ, zero, suc, List, [], ◌∷◌, Bool, true, false, Option, Some, None, refl, sym, ap, subst, eqb-true}
use Rattle.device_api.specs.State.{DeviceState, HeldPage, Phase as AnyPhase, after_reset, cancelled_in, feeds, left_behind, held_from}
use Rattle.device_api.specs.State.Phase.{AtRest, Between, Reading}
use Rattle.daemon_refines.specs.Cores.{fresh_device, fresh_devices}
use Rattle.daemon_refines.specs.ContextRefinement.{page_views}
use Rattle.device_api.specs.Kinds.{Page}
use Rattle.system_model.specs.Devices.{Make}
use Rattle.system_model.specs.AbstractDevices.{AbstractDevice, Begin}
use Rattle.system_model.specs.Actions.{Action}
use Rattle.system_model.specs.SystemStates.{SystemState, listed_devices, make_for, device_for, wanted_place}
use Rattle.system_model.specs.Transitions.{By, Loads, Transition, Unplugs, Uses}
use Rattle.system_model.specs.Marks.{IsMarkOf, Mark, device_view}
use Rattle.system_model.specs.StepMarks.{marks, touched_device}
use Rattle.event_world.specs.declared.event.Event.{Event}
use Rattle.event_world.specs.declared.event.Event.TheVariants.{Connect, ToDaemon, ToClient, DataConnect, DataTurn, DataToClient, LoseControl, LoseImage, Cancel, Load, Unplug}
use Rattle.sane_fixed.specs.declared.device_info.DeviceInfo.{DeviceInfo}
use Rattle.strangers.specs.Together.{JointEvent}
use Rattle.strangers.specs.Together.JointEvent.{OfJobs, OfStranger}
use Rattle.world_refines.specs.NewWorlds.{info_of_state}
use Rattle.world_refines.specs.GhostStates.{name_at}
use Rattle.scan_world.specs.Histories.{History}
use Rattle.scan_world.specs.Page.{CameFor}
use Rattle.scan_world.specs.Page.CameFor.{AtFirst, WithEvent}
use Rattle.scan_world.proofs.Lists.{In, all_each, all_in, contains_in, contains_at}
use Rattle.system_model.proofs.OwnMarks.{action_mine}
use Rattle.scan_world.proofs.Marked.{LoadsIt, Slotted, mine_loads}
use Rattle.scan_world.proofs.Joint.{IsOfAny, JointStep}
use Rattle.scan_world.proofs.Traced.{StepOf, no_use}
use Rattle.scan_world.proofs.OfJobs.{IsOfJob}
use Rattle.page_sources.specs.SourceView.{source_state}

-- there is a device of that place; and a page of it
abbrev pub HasDevice : History → ℕ → Type 0
HasDevice h d = (device : DeviceState) × (slice_get h.devices d ≡ Some device)

abbrev pub IsOfDevice : History → ℕ → Page → Type 0
IsOfDevice h d page = (device : DeviceState) → slice_get h.devices d ≡ Some device → (held : HeldPage) × CameFor h device.info.name held × (held.page ≡ page)

abbrev pub IsBegun : History → ℕ → Begin → Type 0
IsBegun h d begin = HasDevice h d × IsOfDevice h d begin.page

-- ---- at first

left_all : {A : Type 0} (P : A → Type 0) (b : Bool) (pages : List A) → AllByRecursion P pages → AllByRecursion P (left_behind b pages)
left_all P false pages a = a
left_all P true [] a = tt
left_all P true (page ∷ pages) a = a.1

cancelled_all : (P : HeldPage → Type 0) (s : DeviceState) (phase : AnyPhase) → AllByRecursion P s.pages → AllByRecursion P (cancelled_in phase s).pages
cancelled_all P s (AtRest c) a = a
cancelled_all P s (Between ended) a = left_all P (feeds s) s.pages a
cancelled_all P s (Reading pass given) a = left_all P (feeds s) s.pages a

sheets_all : (P : Page → Type 0) (pages : List HeldPage) → AllByRecursion (λ (held : HeldPage). P held.page) pages → AllByRecursion P (page_views pages)
sheets_all P [] a = tt
sheets_all P (held ∷ pages) a = (a.0, sheets_all P pages a.1)

same_device : (h : History) (d : ℕ) (s device : DeviceState) → slice_get h.devices d ≡ Some s → slice_get h.devices d ≡ Some device → s ≡ device
same_device h d s device a b = let same : Some s ≡ Some device = sym a ∙ b in cc

first_pages : (h : History) (d : ℕ) (s : DeviceState) → slice_get h.devices d ≡ Some s → AllByRecursion (λ (held : HeldPage). IsOfDevice h d held.page) s.pages
first_pages h d s at = all_in (λ (held : HeldPage). IsOfDevice h d held.page) s.pages (λ held among. λ device there. (held, AtFirst device (contains_at h.devices d device there) refl (subst (λ (x : DeviceState). Contains x.pages held) (same_device h d s device at there) (contains_in s.pages held among)), refl))

first_of : (h : History) (k : Make) (d : ℕ) (o : Option DeviceState) → slice_get h.devices d ≡ o → Slotted (HasDevice h d) (IsOfDevice h d) (device_view k (fresh_device o))
first_of h k d None at = record { listed = λ e. absurd (let clash : false ≡ true = e in cc); held = λ j e. absurd (let clash : None ≡ Some j = e in cc); pages = tt }
first_of h k d (Some s) at = record {
  listed = λ e. (s, at);
  held = λ j e. (s, at);
  pages = sheets_all (IsOfDevice h d) (after_reset s).pages (cancelled_all (λ (held : HeldPage). IsOfDevice h d held.page) s s.phase (first_pages h d s at));
}

pub first_slot : (h : History) (k : Make) (d : ℕ) → Slotted (HasDevice h d) (IsOfDevice h d) (device_view k (fresh_devices h.devices d))
first_slot h k d = first_of h k d (slice_get h.devices d) refl

-- ---- what events lay in

pub name_there : (devices : List DeviceState) (d : ℕ) (device : DeviceState) → slice_get devices d ≡ Some device → name_at (map info_of_state devices) d ≡ Some device.info.name
name_there [] d device e = absurd (let clash : None ≡ Some device = e in cc)
name_there (s ∷ devices) zero device e = let both : Some s ≡ Some device = e in let same : s ≡ device = cc in ap (λ (x : DeviceState). Some x.info.name) same
name_there (s ∷ devices) (suc d) device e = name_there devices d device e

laid : (h : History) (d : ℕ) (page : Page) (event : Event) → In (OfJobs event) h.events → StepOf (map info_of_state h.devices) event (Loads d page) → IsOfDevice h d page
laid h d page (Connect i) among of = absurd of
laid h d page (ToDaemon i n) among of = absurd of
laid h d page (ToClient i n) among of = absurd of
laid h d page (DataConnect i) among of = absurd of
laid h d page (DataTurn i) among of = absurd of
laid h d page (DataToClient i n) among of = absurd of
laid h d page (LoseControl i) among of = absurd of
laid h d page (LoseImage i) among of = absurd of
laid h d page (Cancel i) among of = absurd of
laid h d page (Load name source) among of = λ device there.
    let both : Some name ≡ Some device.info.name = sym of.0 ∙ name_there h.devices d device there in
    let same : name ≡ device.info.name = cc in
    (held_from (source_state source), WithEvent source (contains_in h.events (OfJobs (Load device.info.name source)) (subst (λ (x : List ℕ). In (OfJobs (Load x source)) h.events) same among)) refl, of.1)
laid h d page (Unplug name) among of = absurd of

laid_by : (h : History) (d : ℕ) (page : Page) (x : JointEvent) → In x h.events → JointStep (map info_of_state h.devices) x (Loads d page) → IsOfDevice h d page
laid_by h d page (OfJobs e) among of = laid h d page e among of
laid_by h d page (OfStranger a) among of = absurd of

-- a use is a stranger's, and shows his own marks
pub shows_own : (infos : List DeviceInfo) (x : JointEvent) (u d : ℕ) (shown : List Mark) (left : AbstractDevice) → JointStep infos x (Uses u d shown left) → AllByRecursion (IsMarkOf u d) shown
shows_own infos (OfJobs e) u d shown left of = absurd (no_use infos e u d shown left of)
shows_own infos (OfStranger a) u d shown left of = of

-- an action comes by an event
pub acts_by : (infos : List DeviceInfo) (x : JointEvent) (i : ℕ) (act : Action) → JointStep infos x (By i act) → (e : Event) × (x ≡ OfJobs e) × StepOf infos e (By i act)
acts_by infos (OfJobs e) i act of = (e, refl, of)
acts_by infos (OfStranger a) i act of = absurd of

-- a step of one of what came, of a job that there is or of a client behind all
pub record IsOfOne (h : History) (x : Transition) : Type 0 where
  pub event : JointEvent
  pub among : In event h.events
  pub is : JointStep (map info_of_state h.devices) event x
  pub there : IsOfJob (length h.jobs) x

pub all_of_one : (h : History) (xs : List Transition) → AllByRecursion (IsOfAny (map info_of_state h.devices) h.events) xs → AllByRecursion (IsOfJob (length h.jobs)) xs → AllByRecursion (IsOfOne h) xs
all_of_one h [] a b = tt
all_of_one h (x ∷ xs) a b = (record { event = a.0.event; among = a.0.among; is = a.0.is; there = b.0 }, all_of_one h xs a.1 b.1)

pub loads_if : (h : History) (d : ℕ) (s : SystemState) (x : Transition) → IsOfOne h x → (b : Bool) → eqb d (touched_device s x) ≡ b → AllByRecursion (LoadsIt (IsOfDevice h d)) (cond b (marks s x) [])
loads_if h d s x of false e = tt
loads_if h d s (By j this_action) of true e = all_each (IsMarkOf j (wanted_place s j)) (LoadsIt (IsOfDevice h d)) (marks s (By j this_action)) (mine_loads (IsOfDevice h d) j (wanted_place s j)) (action_mine j (wanted_place s j) (make_for s j) (listed_devices s) (s.job j) (device_for s j) this_action)
loads_if h d s (Loads place page) of true e = (subst (λ (n : ℕ). IsOfDevice h n page) (sym (eqb-true d place e)) (laid_by h place page of.event of.among of.is), tt)
loads_if h d s (Unplugs place) of true e = (tt, tt)
loads_if h d s (Uses u place shown left) of true e = all_each (IsMarkOf u place) (LoadsIt (IsOfDevice h d)) shown (mine_loads (IsOfDevice h d) u place) (shows_own (map info_of_state h.devices) of.event u place shown left of.is)
