-- Whether a page that comes changes the world; and of the events of a run those that do, with all that bring no page.
use Rattle.std.specs.Prelude.{eqb, if◌then◌else◌}
use Rattle.std.specs.List.{list_any}
use Rattle.std.specs.Str.{bytes_eq}
use Rattle.std.proofs.Common.{◌≡◌, ◌≢◌, ◌∙◌, ◌⊎◌, ℕ, zero, suc, List, [], ◌∷◌, ◌++◌, Bool, true, false, Option, Some, None, inl, inr, refl, sym, ap, eqb-true}
use Rattle.std.proofs.lemmas.Bool.{eqb-false}
use Rattle.std.proofs.lemmas.Slice.Eq.{bytes_eq-Decides}
use Rattle.page_picture.specs.Page.{PageView}
use Rattle.page_picture.specs.Source.{SourceState}
use Rattle.page_sources.specs.SourceView.{source_state}
use Rattle.device_api.specs.State.{DeviceState, HeldPage, after_load, feeds, held_from, pages_with, takes_page}
use Rattle.dispatch.specs.declared.table.place.Lease.{Lease}
use Rattle.dispatch.specs.declared.table.place.Slot.{Slot}
use Rattle.dispatch.specs.declared.table.place.Slot.TheVariants.{In as Within, Out, Gone}
use Rattle.dispatch.specs.Table.{Table, find_name, loaded_at, loaded_device, loaded_slot, table_after_load, with_loaded}
use Rattle.saned_core.specs.declared.session_slot.SessionSlot.{SessionSlot}
use Rattle.saned_core.specs.DaemonStates.{Core}
use Rattle.saned_core.specs.Loading.{core_after_load, held_with, holds, is_lease_named, lease_with, on_first, session_with, slot_with_page}
use Rattle.saned_requests.specs.declared.session.Session.{Session}
use Rattle.event_world.specs.declared.event.Event.{Event}
use Rattle.event_world.specs.declared.event.Event.TheVariants.{Connect, ToDaemon, ToClient, DataConnect, DataTurn, DataToClient, LoseControl, LoseImage, Cancel, Load, Unplug}
use Rattle.event_world.specs.Worlds.{Leads, WorldCore}
use Rattle.strangers.specs.Together.{JointEvent, RunsAmong}
use Rattle.strangers.specs.Together.JointEvent.{OfJobs, OfStranger}
use Rattle.scan_world.specs.Histories.{History, LedTo, history_up_to}
use Rattle.scan_world.specs.Page.{CameFor}
use Rattle.scan_world.specs.Page.CameFor.{AtFirst, WithEvent}
use Rattle.scan_world.proofs.Lists.{In, contains_in, in_list}

-- ---- the same, or not

abbrev Decides : {A : Type 0} → A → A → Type 0
Decides {A} x y = (x ≡ y) ⊎ (x ≢ y)

-- by a part that alone differs
by_part : {A B : Type 0} (f : A → B) (x y : A) → (f x ≡ f y → x ≡ y) → Decides x y → Decides (f x) (f y)
by_part f x y back (inl same) = inl (ap f same)
by_part f x y back (inr differs) = inr (λ same. differs (back same))

-- by one part, and then by the others
by_one : {A B : Type 0} (part : A → B) (x y : A) → Decides (part x) (part y) → (part x ≡ part y → Decides x y) → Decides x y
by_one part x y (inl same) rest = rest same
by_one part x y (inr differs) rest = inr (λ same. differs (ap part same))

number_by : (a b : ℕ) (c : Bool) → eqb a b ≡ c → Decides a b
number_by a b true e = inl (eqb-true a b e)
number_by a b false e = inr (eqb-false a b e)

numbers : (a b : ℕ) → Decides a b
numbers a b = number_by a b (eqb a b) refl

list_by : (a b : List ℕ) (c : Bool) → bytes_eq a b ≡ c → Decides a b
list_by a b true e = inl ((bytes_eq-Decides a b).0 e)
list_by a b false e = inr (λ same. let clash : true ≡ false = sym ((bytes_eq-Decides a b).1 same) ∙ e in cc)

lists : (a b : List ℕ) → Decides a b
lists a b = list_by a b (bytes_eq a b) refl

flags : (a b : Bool) → Decides a b
flags true true = inl refl
flags true false = inr (λ same. let clash : true ≡ false = same in cc)
flags false true = inr (λ same. let clash : false ≡ true = same in cc)
flags false false = inl refl

-- ---- a page

same_view : (a b : PageView) → a.width ≡ b.width → a.height ≡ b.height → a.dpi ≡ b.dpi → a.samples ≡ b.samples → a ≡ b
same_view a b width height dpi samples =
    ap (λ (x : ℕ). record { width = x; height = a.height; dpi = a.dpi; samples = a.samples }) width
    ∙ (ap (λ (x : ℕ). record { width = b.width; height = x; dpi = a.dpi; samples = a.samples }) height
    ∙ (ap (λ (x : ℕ). record { width = b.width; height = b.height; dpi = x; samples = a.samples }) dpi
    ∙ ap (λ (xs : List ℕ). record { width = b.width; height = b.height; dpi = b.dpi; samples = xs }) samples))

views : (a b : PageView) → Decides a b
views a b = by_one (λ (p : PageView). p.width) a b (numbers a.width b.width) (λ width.
    by_one (λ (p : PageView). p.height) a b (numbers a.height b.height) (λ height.
    by_one (λ (p : PageView). p.dpi) a b (numbers a.dpi b.dpi) (λ dpi.
    by_one (λ (p : PageView). p.samples) a b (lists a.samples b.samples) (λ samples. inl (same_view a b width height dpi samples)))))

same_held : (a b : HeldPage) → a.page ≡ b.page → a.steady ≡ b.steady → a.infallible ≡ b.infallible → a.failures ≡ b.failures → a ≡ b
same_held a b page steady infallible failures =
    ap (λ (x : PageView). record { page = x; steady = a.steady; infallible = a.infallible; failures = a.failures }) page
    ∙ (ap (λ (x : Bool). record { page = b.page; steady = x; infallible = a.infallible; failures = a.failures }) steady
    ∙ (ap (λ (x : Bool). record { page = b.page; steady = b.steady; infallible = x; failures = a.failures }) infallible
    ∙ ap (λ (x : ℕ). record { page = b.page; steady = b.steady; infallible = b.infallible; failures = x }) failures))

helds : (a b : HeldPage) → Decides a b
helds a b = by_one (λ (p : HeldPage). p.page) a b (views a.page b.page) (λ page.
    by_one (λ (p : HeldPage). p.steady) a b (flags a.steady b.steady) (λ steady.
    by_one (λ (p : HeldPage). p.infallible) a b (flags a.infallible b.infallible) (λ infallible.
    by_one (λ (p : HeldPage). p.failures) a b (numbers a.failures b.failures) (λ failures. inl (same_held a b page steady infallible failures)))))

-- ---- the pages of a device

head_of : {A : Type 0} (x y : A) (xs ys : List A) → x ∷ xs ≡ y ∷ ys → x ≡ y
head_of x y xs ys e = let both : x ∷ xs ≡ y ∷ ys = e in cc

tail_of : {A : Type 0} (x y : A) (xs ys : List A) → x ∷ xs ≡ y ∷ ys → xs ≡ ys
tail_of x y xs ys e = let both : x ∷ xs ≡ y ∷ ys = e in cc

longer : {A : Type 0} (xs : List A) (x : A) → xs ++ x ∷ [] ≢ xs
longer [] x e = let clash : x ∷ [] ≡ [] = e in cc
longer (y ∷ xs) x e = longer xs x (tail_of y y (xs ++ x ∷ []) xs e)

trays : (b : Bool) (pages : List HeldPage) (held : HeldPage) → Decides (pages_with b pages held) pages
trays true pages held = inr (longer pages held)
trays false [] held = inr (λ same. let clash : held ∷ [] ≡ [] = same in cc)
trays false (page ∷ []) held = by_part (λ (x : HeldPage). x ∷ []) held page (head_of held page [] []) (helds held page)
trays false (page ∷ more ∷ pages) held = inr (λ same. let clash : [] ≡ more ∷ pages = tail_of held page [] (more ∷ pages) same in cc)

by_takes : (s : DeviceState) (source : SourceState) (b : Bool) → Decides (if b then after_load s source else s) s
by_takes s source true = by_part (λ (pages : List HeldPage). record s { pages = pages }) (pages_with (feeds s) s.pages (held_from source)) s.pages (ap (λ (d : DeviceState). d.pages)) (trays (feeds s) s.pages (held_from source))
by_takes s source false = inl refl

devices : (s : DeviceState) (source : SourceState) → Decides (loaded_device s source) s
devices s source = by_takes s source (takes_page s)

-- ---- in its place

slots : (s : Slot DeviceState) (source : SourceState) → Decides (loaded_slot s source) s
slots (Within d) source = by_part (λ (x : DeviceState). Within x) (loaded_device d source) d (λ e. (let both : Within (loaded_device d source) ≡ Within d = e in cc)) (devices d source)
slots Out source = inl refl
slots Gone source = inl refl

places : (t : Table) (k : ℕ) (source : SourceState) → Decides (with_loaded t k source) t
unfolding with_loaded
places [] k source = inl refl
places (p ∷ t) zero source = by_part (λ (s : Slot DeviceState). record { info = p.info; slot = s } ∷ t) (loaded_slot p.slot source) p.slot (λ e. ap (λ q. q.slot) (head_of (record { info = p.info; slot = loaded_slot p.slot source }) p t t e)) (slots p.slot source)
places (p ∷ t) (suc k) source = by_part (λ (ps : Table). p ∷ ps) (with_loaded t k source) t (tail_of p p (with_loaded t k source) t) (places t k source)

named : (t : Table) (o : Option ℕ) (source : SourceState) → Decides (loaded_at t o source) t
named t None source = inl refl
named t (Some k) source = places t k source

tables : (t : Table) (name : List ℕ) (source : SourceState) → Decides (table_after_load t name source) t
unfolding table_after_load
tables t name source = named t (find_name name t) source

-- ---- with a session that has it

some_of : {A : Type 0} (x y : A) → Some x ≡ Some y → x ≡ y
some_of x y e = let both : Some x ≡ Some y = e in cc

firsts : {A : Type 0} (p : A → Bool) (f : A → A) → ((x : A) → Decides (f x) x) → (xs : List A) → Decides (on_first p f xs) xs
unfolding on_first
firsts p f each [] = inl refl
firsts p f each (x ∷ xs) = by_test p f each x xs (p x) (firsts p f each xs)
  where
    by_test : {A : Type 0} (p : A → Bool) (f : A → A) → ((x : A) → Decides (f x) x) → (x : A) (xs : List A) (b : Bool) → Decides (on_first p f xs) xs → Decides (if b then f x ∷ xs else x ∷ on_first p f xs) (x ∷ xs)
    by_test {A = A} p f each x xs true more = by_part (λ (y : A). y ∷ xs) (f x) x (head_of (f x) x xs xs) (each x)
    by_test {A = A} p f each x xs false more = by_part (λ (ys : List A). x ∷ ys) (on_first p f xs) xs (tail_of x x (on_first p f xs) xs) more

leases : (source : SourceState) (o : Option (Lease DeviceState)) → Decides (lease_with source o) o
leases source None = inl refl
leases source (Some lease) =
    by_part (λ (d : DeviceState). Some (record lease { device = d })) (loaded_device lease.device source) lease.device
    (λ e. ap (λ (l : Lease DeviceState). l.device) (some_of (record lease { device = loaded_device lease.device source }) lease e)) (devices lease.device source)

sessions : (name : List ℕ) (source : SourceState) (o : Option (Session DeviceState)) → Decides (session_with name source o) o
sessions name source None = inl refl
sessions name source (Some s) =
    by_part (λ (held : List (Option (Lease DeviceState))). Some (record s { held = held })) (held_with name source s.held) s.held
    (λ e. ap (λ (x : Session DeviceState). x.held) (some_of (record s { held = held_with name source s.held }) s e)) (firsts (is_lease_named name) (lease_with source) (leases source) s.held)

session_slots : (name : List ℕ) (source : SourceState) (o : Option (SessionSlot DeviceState)) → Decides (slot_with_page name source o) o
session_slots name source None = inl refl
session_slots name source (Some slot) =
    by_part (λ (s : Option (Session DeviceState)). Some (record slot { session = s })) (session_with name source slot.session) slot.session
    (λ e. ap (λ (x : SessionSlot DeviceState). x.session) (some_of (record slot { session = session_with name source slot.session }) slot e)) (sessions name source slot.session)

-- ---- the daemon, and the world

by_holder : (d : Core) (name : List ℕ) (source : SourceState) (b : Bool) → Decides (if b then record d { slots = on_first (holds name) (slot_with_page name source) d.slots } else record d { registry = table_after_load d.registry name source }) d
by_holder d name source true =
    by_part (λ (x : List (Option (SessionSlot DeviceState))). record d { slots = x }) (on_first (holds name) (slot_with_page name source) d.slots) d.slots (ap (λ (c : Core). c.slots))
    (firsts (holds name) (slot_with_page name source) (session_slots name source) d.slots)
by_holder d name source false =
    by_part (λ (t : Table). record d { registry = t }) (table_after_load d.registry name source) d.registry (ap (λ (c : Core). c.registry)) (tables d.registry name source)

daemons : (d : Core) (name : List ℕ) (source : SourceState) → Decides (core_after_load d name source) d
daemons d name source = by_holder d name source (list_any (holds name) d.slots)

-- where it brings a page, the world is another one behind it
abbrev pub LoadChanges : Event → WorldCore → WorldCore → Type 0
LoadChanges (Load name source) u v = v ≢ u
LoadChanges event u v = Unit {0}

by_daemon : (u v : WorldCore) (d : Core) → v ≡ record u { daemon = d } → Decides d u.daemon → (v ≢ u) ⊎ (v ≡ u)
by_daemon u v d leads (inl same) = inr (leads ∙ ap (λ (x : Core). record u { daemon = x }) same)
by_daemon u v d leads (inr differs) = inl (λ same. differs (ap (λ (x : WorldCore). x.daemon) (sym leads ∙ same)))

pub changes_or_same : (event : Event) (u v : WorldCore) → Leads source_state event u v → LoadChanges event u v ⊎ (v ≡ u)
changes_or_same (Connect i) u v leads = inl tt
changes_or_same (ToDaemon i n) u v leads = inl tt
changes_or_same (ToClient i n) u v leads = inl tt
changes_or_same (DataConnect i) u v leads = inl tt
changes_or_same (DataTurn i) u v leads = inl tt
changes_or_same (DataToClient i n) u v leads = inl tt
changes_or_same (LoseControl i) u v leads = inl tt
changes_or_same (LoseImage i) u v leads = inl tt
changes_or_same (Cancel i) u v leads = inl tt
changes_or_same (Load name source) u v leads = by_daemon u v (core_after_load u.daemon name (source_state source)) leads (daemons u.daemon name (source_state source))
changes_or_same (Unplug name) u v leads = inl tt

-- ---- events of a run

-- it and those behind it, or these alone where it changed nothing
abbrev pub with_changing : {A B : Type 0} → A ⊎ B → JointEvent → List JointEvent → List JointEvent
with_changing (inl changes) e more = e ∷ more
with_changing (inr same) e more = more

-- all but the pages that changed nothing
abbrev pub changing_of : (es : List JointEvent) (u w : WorldCore) → RunsAmong source_state es u w → List JointEvent
changing_of [] u w run = []
changing_of (OfJobs e ∷ es) u w (v, leads, rest) = with_changing (changes_or_same e u v leads) (OfJobs e) (changing_of es v w rest)
changing_of (OfStranger a ∷ es) u w (v, acts, rest) = OfStranger a ∷ changing_of es v w rest

one_within : {A B : Type 0} (c : A ⊎ B) (e x : JointEvent) (more es : List JointEvent) → (In x more → In x es) → In x (with_changing c e more) → In x (e ∷ es)
one_within (inl changes) e x more es within (inl same) = inl same
one_within (inl changes) e x more es within (inr later) = inr (within later)
one_within (inr same) e x more es within later = inr (within later)

pub changing_within : (es : List JointEvent) (u w : WorldCore) (run : RunsAmong source_state es u w) (x : JointEvent) → In x (changing_of es u w run) → In x es
changing_within [] u w run x among = among
changing_within (OfJobs e ∷ es) u w (v, leads, rest) x among = one_within (changes_or_same e u v leads) (OfJobs e) x (changing_of es v w rest) es (λ later. changing_within es v w rest x later) among
changing_within (OfStranger a ∷ es) u w (v, acts, rest) x (inl same) = inl same
changing_within (OfStranger a ∷ es) u w (v, acts, rest) x (inr later) = inr (changing_within es v w rest x later)

-- those of a history
abbrev pub changing_in : (h : History) (w : WorldCore) → LedTo h w → List JointEvent
changing_in h w l = changing_of h.events l.first w l.runs

pub changing_among : (h : History) (w : WorldCore) (l : LedTo h w) (x : JointEvent) → In x (changing_in h w l) → In x h.events
changing_among h w l x among = changing_within h.events l.first w l.runs x among

-- what came with one of some of its events came
pub came_among : (h : History) (es : List JointEvent) → ((x : JointEvent) → In x es → In x h.events) → (name : List ℕ) (held : HeldPage) → CameFor (history_up_to h es) name held → CameFor h name held
came_among h es within name held (AtFirst device there named among) = AtFirst device there named among
came_among h es within name held (WithEvent source among is) = WithEvent source (contains_in h.events (OfJobs (Load name source)) (within (OfJobs (Load name source)) (in_list es (OfJobs (Load name source)) among))) is
