-- Which page sources ever come for the device of a place: those of the pages that it was handed in with, and of those that events bring.
use Rattle.std.specs.Prelude.{not, map, slice_get, ◌&&◌, ◌||◌}
use Rattle.std.specs.List.{list_any}
use Rattle.std.specs.Str.{bytes_eq}
use Rattle.std.proofs.Common.{◌≡◌, ◌∙◌, ◌⊎◌, ℕ, zero, suc, List, [], ◌∷◌, Bool, true, false, Option, Some, None, inl, inr, refl, sym, ap, subst}
use Rattle.std.proofs.lemmas.Bool.{false≢true}
use Rattle.std.proofs.lemmas.Slice.Eq.{bytes_eq-Decides}
use Rattle.page_sources.specs.SourceView.{source_state}
use Rattle.page_sources.specs.declared.kinds.Source.{Source}
use Rattle.device_api.specs.State.{DeviceState, HeldPage, held_from}
use Rattle.sane_fixed.specs.declared.device_info.DeviceInfo.{DeviceInfo}
use Rattle.system_model.specs.Devices.{Make}
use Rattle.daemon_refines.specs.ContextRefinement.{HasSource, HaveSources}
use Rattle.event_world.specs.declared.event.Event.{Event}
use Rattle.event_world.specs.declared.event.Event.TheVariants.{Connect, ToDaemon, ToClient, DataConnect, DataTurn, DataToClient, LoseControl, LoseImage, Cancel, Load, Unplug}
use Rattle.world_refines.specs.GhostStates.{name_at}
use Rattle.world_refines.specs.NewWorlds.{HaveSourcesAt, PageSources, info_of_state, make_of}
use Rattle.world_refines.specs.MainTheorem.{AreFittingLoads, IsFittingLoad}
use Rattle.strangers.specs.Together.{events_among}
use Rattle.strangers.specs.Together.JointEvent.{OfJobs}
use Rattle.scan_world.specs.Histories.{History}
use Rattle.scan_world.proofs.Joint.{events_in}
use Rattle.scan_world.proofs.Lists.{In, contains_at, contains_in}
use Rattle.scan_world.specs.Page.{CameFor}
use Rattle.scan_world.specs.Page.CameFor.{AtFirst, WithEvent}

-- ---- by a test of pages

abbrev is_such_load : (HeldPage → Bool) → List ℕ → Event → Bool
is_such_load test name (Load other source) = bytes_eq other name && test (held_from (source_state source))
is_such_load test name event = false

such_among : (HeldPage → Bool) → Option DeviceState → List Event → Bool
such_among test None events = false
such_among test (Some s) events = list_any test s.pages || list_any (is_such_load test s.info.name) events

pub one_comes : (HeldPage → Bool) → History → ℕ → Bool
one_comes test h d = such_among test (slice_get h.devices d) (events_among h.events)

-- ---- those that can fail, and those that do not give their rows

abbrev pub is_fallible_page : HeldPage → Bool
is_fallible_page held = not held.infallible

abbrev pub is_unsteady_page : HeldPage → Bool
is_unsteady_page held = not held.steady

abbrev pub sources_of : History → ℕ → PageSources
sources_of h d = record { fallible = one_comes is_fallible_page h d; steady = not (one_comes is_unsteady_page h d) }

-- what never changes of the device of a place
abbrev pub make_at : History → ℕ → Make
make_at h d = make_of (sources_of h d) (slice_get h.devices d)

pub fallible_of_make : (b : PageSources) (o : Option DeviceState) → (make_of b o).fallible ≡ b.fallible
fallible_of_make b None = refl
fallible_of_make b (Some s) = refl

pub steady_of_make : (b : PageSources) (o : Option DeviceState) → (make_of b o).steady ≡ b.steady
steady_of_make b None = refl
steady_of_make b (Some s) = refl

pub fallible_at : (h : History) (d : ℕ) → (make_at h d).fallible ≡ one_comes is_fallible_page h d
fallible_at h d = fallible_of_make (sources_of h d) (slice_get h.devices d)

-- ---- tests of lists

pub neither : (a b : Bool) → (a || b) ≡ false → (a ≡ false) × (b ≡ false)
neither true b e = absurd (false≢true (sym e))
neither false b e = (refl, e)

one_of : (a b : Bool) → (a || b) ≡ true → (a ≡ true) ⊎ (b ≡ true)
one_of true b e = inl refl
one_of false b e = inr e

both : (a b : Bool) → (a && b) ≡ true → (a ≡ true) × (b ≡ true)
both true b e = (refl, e)
both false b e = absurd (false≢true e)

turned : (a : Bool) → not a ≡ false → a ≡ true
turned true e = refl
turned false e = absurd (false≢true (sym e))

turned_off : (a : Bool) → not a ≡ true → a ≡ false
turned_off true e = absurd (false≢true e)
turned_off false e = refl

none_of : {X : Type 0} (f : X → Bool) (xs : List X) (x : X) → list_any f xs ≡ false → In x xs → f x ≡ false
none_of f [] x e among = absurd among
none_of f (y ∷ xs) x e (inl same) = ap f same ∙ (neither (f y) (list_any f xs) e).0
none_of f (y ∷ xs) x e (inr among) = none_of f xs x (neither (f y) (list_any f xs) e).1 among

abbrev Found : {X : Type 0} → (X → Bool) → List X → Type 0
Found {X} f xs = (x : X) × In x xs × (f x ≡ true)

found_in : {X : Type 0} (f : X → Bool) (y : X) (xs : List X) → (list_any f xs ≡ true → Found f xs) → (f y ≡ true) ⊎ (list_any f xs ≡ true) → Found f (y ∷ xs)
found_in f y xs later (inl here) = (y, inl refl, here)
found_in f y xs later (inr there) = let r = later there in (r.0, inr r.1, r.2)

found : {X : Type 0} (f : X → Bool) (xs : List X) → list_any f xs ≡ true → Found f xs
found f [] e = absurd (false≢true e)
found f (y ∷ xs) e = found_in f y xs (found f xs) (one_of (f y) (list_any f xs) e)

-- ---- where none comes

among_is : (test : HeldPage → Bool) (h : History) (d : ℕ) (s : DeviceState) → slice_get h.devices d ≡ Some s → one_comes test h d ≡ (list_any test s.pages || list_any (is_such_load test s.info.name) (events_among h.events))
unfolding one_comes such_among
among_is test h d s at = ap (λ (o : Option DeviceState). such_among test o (events_among h.events)) at

none_held : (test : HeldPage → Bool) (h : History) (d : ℕ) (s : DeviceState) → slice_get h.devices d ≡ Some s → one_comes test h d ≡ false → list_any test s.pages ≡ false
none_held test h d s at e = (neither (list_any test s.pages) (list_any (is_such_load test s.info.name) (events_among h.events)) (sym (among_is test h d s at) ∙ e)).0

each_source : (k : Make) (pages : List HeldPage) → (k.fallible ≡ false → list_any is_fallible_page pages ≡ false) → (k.steady ≡ true → list_any is_unsteady_page pages ≡ false) → HaveSources k pages
each_source k [] firm steady = tt
each_source k (held ∷ pages) firm steady = (
  record {
    infallible = λ e. turned held.infallible (neither (is_fallible_page held) (list_any is_fallible_page pages) (firm e)).0;
    steady = λ e. turned held.steady (neither (is_unsteady_page held) (list_any is_unsteady_page pages) (steady e)).0;
  },
  each_source k pages (λ e. (neither (is_fallible_page held) (list_any is_fallible_page pages) (firm e)).1) (λ e. (neither (is_unsteady_page held) (list_any is_unsteady_page pages) (steady e)).1),
)

pub have_sources : (h : History) → HaveSourcesAt (sources_of h) h.devices
have_sources h k s at = each_source (make_of (sources_of h k) (Some s)) s.pages (λ e. none_held is_fallible_page h k s at e) (λ e. none_held is_unsteady_page h k s at (turned_off (one_comes is_unsteady_page h k) e))

-- ---- what events bring

pub named_at : (devices : List DeviceState) (k : ℕ) (name : List ℕ) → name_at (map info_of_state devices) k ≡ Some name → (s : DeviceState) × (slice_get devices k ≡ Some s) × (s.info.name ≡ name)
named_at [] k name e = absurd (let clash : None ≡ Some name = e in cc)
named_at (s ∷ devices) zero name e = (s, refl, (let same : Some s.info.name ≡ Some name = e in cc))
named_at (s ∷ devices) (suc k) name e = named_at devices k name e

same_bytes : (a b : List ℕ) (c : Bool) → a ≡ b → (bytes_eq a b && c) ≡ false → c ≡ false
same_bytes a b c same e = ap (λ (x : Bool). x && c) (sym ((bytes_eq-Decides a b).1 same)) ∙ e

none_brought : (test : HeldPage → Bool) (h : History) (name : List ℕ) (source : Source) → In (Load name source) (events_among h.events) → (k : ℕ) → name_at (map info_of_state h.devices) k ≡ Some name → one_comes test h k ≡ false → test (held_from (source_state source)) ≡ false
none_brought test h name source among k named e =
    let d = named_at h.devices k name named in
    let parts = neither (list_any test d.0.pages) (list_any (is_such_load test d.0.info.name) (events_among h.events)) (sym (among_is test h k d.0 d.1) ∙ e) in
    same_bytes name d.0.info.name (test (held_from (source_state source))) (sym d.2) (none_of (is_such_load test d.0.info.name) (events_among h.events) (Load name source) parts.1 among)

pub load_fits : (h : History) (name : List ℕ) (source : Source) → In (Load name source) (events_among h.events) → (k : ℕ) → name_at (map info_of_state h.devices) k ≡ Some name → HasSource (make_at h k) (held_from (source_state source))
load_fits h name source among k named = record {
  infallible = λ e. turned (source_state source).infallible (none_brought is_fallible_page h name source among k named (sym (fallible_at h k) ∙ e));
  steady = λ e. turned (source_state source).steady (none_brought is_unsteady_page h name source among k named (turned_off (one_comes is_unsteady_page h k) (sym (steady_of_make (sources_of h k) (slice_get h.devices k)) ∙ e)));
}

pub event_fits : (h : History) (event : Event) → In event (events_among h.events) → IsFittingLoad source_state (map info_of_state h.devices) (make_at h) event
event_fits h (Connect i) among = tt
event_fits h (ToDaemon i n) among = tt
event_fits h (ToClient i n) among = tt
event_fits h (DataConnect i) among = tt
event_fits h (DataTurn i) among = tt
event_fits h (DataToClient i n) among = tt
event_fits h (LoseControl i) among = tt
event_fits h (LoseImage i) among = tt
event_fits h (Cancel i) among = tt
event_fits h (Load name source) among = λ k named. load_fits h name source among k named
event_fits h (Unplug name) among = tt

pub each_fits : (infos : List DeviceInfo) (make : ℕ → Make) (events : List Event) → ((event : Event) → In event events → IsFittingLoad source_state infos make event) → AreFittingLoads source_state infos make events
each_fits infos make [] fits = tt
each_fits infos make (e ∷ es) fits = (fits e (inl refl), each_fits infos make es (λ x among. fits x (inr among)))

pub all_fit : (h : History) (events : List Event) → ((event : Event) → In event events → In event (events_among h.events)) → AreFittingLoads source_state (map info_of_state h.devices) (make_at h) events
all_fit h events within = each_fits (map info_of_state h.devices) (make_at h) events (λ e among. event_fits h e (within e among))

pub loads_fit : (h : History) → AreFittingLoads source_state (map info_of_state h.devices) (make_at h) (events_among h.events)
loads_fit h = all_fit h (events_among h.events) (λ event among. among)

-- ---- where one comes

abbrev Comes : (HeldPage → Bool) → History → List ℕ → Type 0
Comes test h name = (held : HeldPage) × CameFor h name held × (test held ≡ true)

by_load : (test : HeldPage → Bool) (h : History) (name : List ℕ) (event : Event) → In event (events_among h.events) → is_such_load test name event ≡ true → Comes test h name
by_load test h name (Connect i) among e = absurd (false≢true e)
by_load test h name (ToDaemon i n) among e = absurd (false≢true e)
by_load test h name (ToClient i n) among e = absurd (false≢true e)
by_load test h name (DataConnect i) among e = absurd (false≢true e)
by_load test h name (DataTurn i) among e = absurd (false≢true e)
by_load test h name (DataToClient i n) among e = absurd (false≢true e)
by_load test h name (LoseControl i) among e = absurd (false≢true e)
by_load test h name (LoseImage i) among e = absurd (false≢true e)
by_load test h name (Cancel i) among e = absurd (false≢true e)
by_load test h name (Load other source) among e =
    let parts = both (bytes_eq other name) (test (held_from (source_state source))) e in
    let same : other ≡ name = (bytes_eq-Decides other name).0 parts.0 in
    (held_from (source_state source), WithEvent source (contains_in h.events (OfJobs (Load name source)) (events_in h.events (Load name source) (subst (λ (x : List ℕ). In (Load x source) (events_among h.events)) same among))) refl, parts.1)
by_load test h name (Unplug other) among e = absurd (false≢true e)

of_device : (test : HeldPage → Bool) (h : History) (d : ℕ) (s : DeviceState) → slice_get h.devices d ≡ Some s → (list_any test s.pages ≡ true) ⊎ (list_any (is_such_load test s.info.name) (events_among h.events) ≡ true) → Comes test h s.info.name
of_device test h d s at (inl e) =
    let r = found test s.pages e in
    (r.0, AtFirst s (contains_at h.devices d s at) refl (contains_in s.pages r.0 r.1), r.2)
of_device test h d s at (inr e) = let r = found (is_such_load test s.info.name) (events_among h.events) e in by_load test h s.info.name r.0 r.1 r.2

at_place : (test : HeldPage → Bool) (h : History) (d : ℕ) (name : List ℕ) (o : Option DeviceState) → slice_get h.devices d ≡ o → ((s : DeviceState) → slice_get h.devices d ≡ Some s → s.info.name ≡ name) → such_among test o (events_among h.events) ≡ true → Comes test h name
unfolding such_among
at_place test h d name None at named e = absurd (false≢true e)
at_place test h d name (Some s) at named e = subst (Comes test h) (named s at) (of_device test h d s at (one_of (list_any test s.pages) (list_any (is_such_load test s.info.name) (events_among h.events)) e))

comes_there : (test : HeldPage → Bool) (h : History) (d : ℕ) (name : List ℕ) → ((s : DeviceState) → slice_get h.devices d ≡ Some s → s.info.name ≡ name) → one_comes test h d ≡ true → Comes test h name
unfolding one_comes
comes_there test h d name named e = at_place test h d name (slice_get h.devices d) refl named e

-- a page whose source can fail came for a device of the name
abbrev pub CanFail : History → List ℕ → Type 0
CanFail h name = (held : HeldPage) × CameFor h name held × (held.infallible ≡ false)

pub can_fail_there : (h : History) (d : ℕ) (name : List ℕ) → ((s : DeviceState) → slice_get h.devices d ≡ Some s → s.info.name ≡ name) → one_comes is_fallible_page h d ≡ true → CanFail h name
can_fail_there h d name named e = let r = comes_there is_fallible_page h d name named e in (r.0, r.1, turned_off r.0.infallible r.2)

pub can_fail_at : (h : History) (d : ℕ) (device : DeviceState) → slice_get h.devices d ≡ Some device → (sources_of h d).fallible ≡ true → CanFail h device.info.name
can_fail_at h d device at able = can_fail_there h d device.info.name (λ s there. (let both : Some s ≡ Some device = sym there ∙ at in let same : s ≡ device = cc in ap (λ (x : DeviceState). x.info.name) same)) able
