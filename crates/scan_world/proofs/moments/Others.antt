-- What comes to others leaves a session as it stands.
use Rattle.std.specs.Prelude.{Contains, if◌then◌else◌, ◌==◌, slice_get}
use Rattle.std.specs.List.{list_any}
use Rattle.std.proofs.Common.{◌≡◌, ◌≢◌, ◌∙◌, ◌⊎◌, inl, inr, ℕ, zero, suc, List, [], ◌∷◌, Option, Some, None, Bool, true, false, refl, sym, ap, subst, arith}
use Rattle.std.proofs.lemmas.Bool.Decides.{nat_tests}
use Rattle.page_picture.specs.Source.{SourceState}
use Rattle.page_sources.specs.SourceView.{source_state}
use Rattle.device_api.specs.State.{DeviceState, is_at_rest}
use Rattle.dispatch.specs.declared.table.place.Lease.{Lease}
use Rattle.dispatch.specs.Table.{after_unplug, loaded_device, table_after_load}
use Rattle.saned_requests.specs.declared.session.Session.{Session}
use Rattle.saned_requests.specs.Holding.{held_by, with_device}
use Rattle.saned_core.specs.declared.session_slot.SessionSlot.{SessionSlot}
use Rattle.saned_core.specs.DaemonStates.{Core, is_slot_number, session_in, session_of, session_slot_of}
use Rattle.saned_core.specs.Loading.{core_after_load, held_with, holds, is_lease_named, lease_with, on_first, slot_with_page}
use Rattle.scan_job.specs.declared.job.Job.{Job}
use Rattle.event_world.specs.declared.endpoint.Endpoint.{Endpoint}
use Rattle.page_sources.specs.declared.kinds.Source.{Source}
use Rattle.event_world.specs.declared.event.Event.{Event}
use Rattle.event_world.specs.declared.event.Event.TheVariants as events
use Rattle.event_world.specs.declared.event.JobEvent.{JobEvent}
use Rattle.event_world.specs.declared.event.JobEvent.TheVariants.{Connect, ToDaemon, ToClient, DataConnect, DataTurn, DataToClient, LoseControl, LoseImage, Cancel}
use Rattle.event_world.specs.JobEvents.{job_event_of}
use Rattle.event_world.specs.Worlds.{AtEndpoint, Leads, Runs, WorldCore}
use Rattle.world_refines.specs.MainTheorem.{AreTrueLoads}
use Rattle.world_refines.specs.WorldRefinement.{WorldRefines}
use Rattle.world_refines.proofs.job_events.LeftAlone.{Kept, happens_kept}
use Rattle.strangers.specs.Together.{AllIsKeptAmongStrangers}
use Rattle.scan_world.specs.Histories.{History, LedTo, and_then}
use Rattle.scan_world.proofs.Scanned.{kept_by}
use Rattle.scan_world.specs.Calls.{ScansStay, SessionsStay}
use Rattle.scan_world.specs.Sessions.{Has, SessionAt}
use Rattle.scan_world.proofs.Led.{led_then}
use Rattle.scan_world.proofs.moments.Entries.{past_end}
use Rattle.scan_world.proofs.moments.Holder.{no_endpoints}
use Rattle.scan_world.proofs.moments.Linked.{goes}

abbrev pub Slot : Type 0
Slot = SessionSlot DeviceState

abbrev pub Slots : Type 0
Slots = List (Option Slot)

pub decide : (a b : ℕ) → (a ≡ b) ⊎ (a ≢ b)
decide a b = by (a == b) refl
  where
    by : (v : Bool) → (a == b) ≡ v → (a ≡ b) ⊎ (a ≢ b)
    by true e = inl (grind (arith, nat_tests))
    by false e = inr (λ same. grind (arith, nat_tests))

-- ---- a world

daemon_kept : (t : _) (w v : WorldCore) (i j : ℕ) (x : JobEvent) (s : Session DeviceState) → WorldRefines t w → j ≢ i → AtEndpoint w j x v → (a : SessionAt w i s) → (o : Option Endpoint) → slice_get w.endpoints j ≡ o → Kept w.daemon v.daemon a.id.number
daemon_kept t w v i j x s h other at a None is = ap (λ (y : WorldCore). session_slot_of y.daemon.slots a.id.number) (at.beyond (past_end w.endpoints j is))
daemon_kept t w v i j x s h other at a (Some p) is =
    let g = at.happens p is in
    happens_kept w.daemon p x v.daemon g.0 g.1 a.id.number (λ id link same. other (h.own j i p a.endpoint id a.id is a.is_there link a.linked (sym same))) (h.links i a.endpoint a.id a.is_there a.linked)

pub stays_at : (t : _) (w v : WorldCore) (i j : ℕ) (x : JobEvent) (s : Session DeviceState) → WorldRefines t w → j ≢ i → AtEndpoint w j x v → SessionAt w i s → SessionAt v i s
stays_at t w v i j x s h other at a =
    let slot = daemon_kept t w v i j x s h other at a (slice_get w.endpoints j) refl in
    let there : slice_get v.endpoints i ≡ slice_get w.endpoints i = elim (goes w v j x i (slice_get w.endpoints j) refl at) [
      | inl same ↦ same
      | inr g ↦ absurd (other g.is_own)
    ] in
    record { endpoint = a.endpoint; is_there = there ∙ a.is_there; id = a.id; linked = a.linked; stands = ap session_in slot ∙ a.stands }

by_jobs : AllIsKeptAmongStrangers → (h : History) (w v : WorldCore) (i j : ℕ) (x : JobEvent) (s : Session DeviceState) (l : LedTo h w) → j ≢ i → AtEndpoint w j x v → SessionAt w i s → (jobs : List Job) → h.jobs ≡ jobs → SessionAt v i s
by_jobs all h w v i j x s l other at a [] is = absurd (let clash : None ≡ Some a.endpoint = ap (λ (ps : List Endpoint). slice_get ps i) (sym (no_endpoints h w l is)) ∙ a.is_there in cc)
by_jobs all h w v i j x s l other at a (job ∷ jobs) is =
    let k = kept_by all h w job l in
    stays_at k.run.ghost_then w v i j x s k.run.stands other at a

-- ---- a page that is laid in

rests_not : (d : DeviceState) (source : SourceState) → is_at_rest d.phase ≡ false → loaded_device d source ≡ d
rests_not d source busy = rw busy refl

lease_same : (lease : Lease DeviceState) (source : SourceState) → is_at_rest lease.device.phase ≡ false → lease_with source (Some lease) ≡ Some lease
lease_same lease source busy = ap (with_device lease) (rests_not lease.device source busy)

held_if : (p : Option (Lease DeviceState) → Bool) (source : SourceState) (x : Option (Lease DeviceState)) (held : List (Option (Lease DeviceState))) (word : ℕ) (lease : Lease DeviceState) (b : Bool) → held_by (x ∷ held) word ≡ Some lease → is_at_rest lease.device.phase ≡ false → ((w : ℕ) → held_by held w ≡ Some lease → held_by (on_first p (lease_with source) held) w ≡ Some lease) → held_by (if b then lease_with source x ∷ held else x ∷ on_first p (lease_with source) held) word ≡ Some lease
unfolding held_by
held_if p source x held zero lease true e busy more = ap (lease_with source) e ∙ lease_same lease source busy
held_if p source x held (suc word) lease true e busy more = e
held_if p source x held zero lease false e busy more = e
held_if p source x held (suc word) lease false e busy more = more word e

held_first : (p : Option (Lease DeviceState) → Bool) (source : SourceState) (held : List (Option (Lease DeviceState))) (word : ℕ) (lease : Lease DeviceState) → held_by held word ≡ Some lease → is_at_rest lease.device.phase ≡ false → held_by (on_first p (lease_with source) held) word ≡ Some lease
unfolding on_first
held_first p source [] word lease e busy = e
held_first p source (x ∷ held) word lease e busy = held_if p source x held word lease (p x) e busy (λ w there. held_first p source held w lease there busy)

-- the session is as it was, or its first lease of that name has the page
abbrev pub Laid : List ℕ → SourceState → Slots → Slots → ℕ → Session DeviceState → Type 0
Laid name source old new n s = (session_in (session_slot_of new n) ≡ Some s) ⊎ (session_in (session_slot_of new n) ≡ Some (record s { held = held_with name source s.held }))

laid_here : (name : List ℕ) (source : SourceState) (n : ℕ) (x : Option Slot) (slots : Slots) (s : Session DeviceState) (c : Bool) → is_slot_number n x ≡ c → session_in (if c then x else session_slot_of slots n) ≡ Some s → Laid name source (x ∷ slots) (slot_with_page name source x ∷ slots) n s
unfolding session_slot_of
laid_here name source n None slots s c e is = inl (ap (λ (b : Bool). session_in (if b then None else session_slot_of slots n)) e ∙ is)
laid_here name source n (Some slot) slots s true e is = inr (rw (e, is) refl)
laid_here name source n (Some slot) slots s false e is = inl (rw e is)

laid_later : (name : List ℕ) (source : SourceState) (n : ℕ) (x : Option Slot) (slots : Slots) (s : Session DeviceState) (c : Bool) → is_slot_number n x ≡ c → session_in (if c then x else session_slot_of slots n) ≡ Some s → (session_in (session_slot_of slots n) ≡ Some s → Laid name source slots (on_first (holds name) (slot_with_page name source) slots) n s) → Laid name source (x ∷ slots) (x ∷ on_first (holds name) (slot_with_page name source) slots) n s
unfolding session_slot_of
laid_later name source n x slots s true e is more = inl (rw e is)
laid_later name source n x slots s false e is more = elim (more is) [
  | inl same ↦ inl (rw e same)
  | inr laid ↦ inr (rw e laid)
]

laid_if : (name : List ℕ) (source : SourceState) (n : ℕ) (x : Option Slot) (slots : Slots) (s : Session DeviceState) (b : Bool) → session_in (session_slot_of (x ∷ slots) n) ≡ Some s → (session_in (session_slot_of slots n) ≡ Some s → Laid name source slots (on_first (holds name) (slot_with_page name source) slots) n s) → Laid name source (x ∷ slots) (if b then slot_with_page name source x ∷ slots else x ∷ on_first (holds name) (slot_with_page name source) slots) n s
unfolding session_slot_of
laid_if name source n x slots s true is more = laid_here name source n x slots s (is_slot_number n x) refl is
laid_if name source n x slots s false is more = laid_later name source n x slots s (is_slot_number n x) refl is more

laid_all : (name : List ℕ) (source : SourceState) (n : ℕ) (slots : Slots) (s : Session DeviceState) → session_in (session_slot_of slots n) ≡ Some s → Laid name source slots (on_first (holds name) (slot_with_page name source) slots) n s
unfolding on_first
laid_all name source n [] s is = inl is
laid_all name source n (x ∷ slots) s is = laid_if name source n x slots s (holds name x) is (laid_all name source n slots s)

pub laid_core : (name : List ℕ) (source : SourceState) (n : ℕ) (d : Core) (s : Session DeviceState) (b : Bool) → session_of d n ≡ Some s → Laid name source d.slots (if b then record d { slots = on_first (holds name) (slot_with_page name source) d.slots } else record d { registry = table_after_load d.registry name source }).slots n s
laid_core name source n d s true is = laid_all name source n d.slots s is
laid_core name source n d s false is = inl is

pub still_has : (w v : WorldCore) (i : ℕ) (other name : List ℕ) (source : SourceState) (d : DeviceState) → v ≡ record w { daemon = core_after_load w.daemon other source } → is_at_rest d.phase ≡ false → Has w i name d → Has v i name d
still_has w v i other name source d led busy x =
    let a = x.at in
    let there : slice_get v.endpoints i ≡ Some a.endpoint = ap (λ (y : WorldCore). slice_get y.endpoints i) led ∙ a.is_there in
    let slots : v.daemon.slots ≡ (core_after_load w.daemon other source).slots = ap (λ (y : WorldCore). y.daemon.slots) led in
    let busy_lease : is_at_rest x.lease.device.phase ≡ false = ap (λ (y : DeviceState). is_at_rest y.phase) x.is ∙ busy in
    elim (laid_core other source a.id.number w.daemon x.session (list_any (holds other) w.daemon.slots) a.stands) [
      | inl same ↦ record { session = x.session; at = record { endpoint = a.endpoint; is_there = there; id = a.id; linked = a.linked; stands = ap (λ (y : Slots). session_in (session_slot_of y a.id.number)) slots ∙ same }; word = x.word; lease = x.lease; held = x.held; is = x.is; named = x.named }
      | inr laid ↦ record { session = record x.session { held = held_with other source x.session.held }; at = record { endpoint = a.endpoint; is_there = there; id = a.id; linked = a.linked; stands = ap (λ (y : Slots). session_in (session_slot_of y a.id.number)) slots ∙ laid }; word = x.word; lease = x.lease; held = held_first (is_lease_named other) source x.session.held x.word x.lease x.held busy_lease; is = x.is; named = x.named }
    ]

-- ---- any events of others

abbrev NotOf : Event → ℕ → Type 0
NotOf e i = (own : JobEvent) → e ≡ job_event_of i own → ⊥

abbrev NotLoad : Event → Type 0
NotLoad e = (name : List ℕ) (source : Source) → e ≡ events.Load name source → ⊥

unplugged : (w v : WorldCore) (i : ℕ) (name : List ℕ) (s : Session DeviceState) → v ≡ record w { daemon = record w.daemon { registry = after_unplug w.daemon.registry name } } → SessionAt w i s → SessionAt v i s
unplugged w v i name s same a = record { endpoint = a.endpoint; is_there = ap (λ (y : WorldCore). slice_get y.endpoints i) same ∙ a.is_there; id = a.id; linked = a.linked; stands = ap (λ (y : WorldCore). session_of y.daemon a.id.number) same ∙ a.stands }

of_another : AllIsKeptAmongStrangers → (h : History) (w u : WorldCore) (i j : ℕ) (x : JobEvent) (s : Session DeviceState) → LedTo h w → AtEndpoint w j x u → NotOf (job_event_of j x) i → SessionAt w i s → SessionAt u i s
of_another all h w u i j x s l at none a = elim (decide j i) [
  | inl same ↦ absurd (none x (ap (λ (n : ℕ). job_event_of n x) same))
  | inr other ↦ by_jobs all h w u i j x s l other at a h.jobs refl
]

event_leaves : AllIsKeptAmongStrangers → (h : History) (w u : WorldCore) (i : ℕ) (e : Event) (s : Session DeviceState) → LedTo h w → Leads source_state e w u → NotOf e i → NotLoad e → SessionAt w i s → SessionAt u i s
event_leaves all h w u i (events.Connect j) s l at none loads a = of_another all h w u i j Connect s l at none a
event_leaves all h w u i (events.ToDaemon j n) s l at none loads a = of_another all h w u i j (ToDaemon n) s l at none a
event_leaves all h w u i (events.ToClient j n) s l at none loads a = of_another all h w u i j (ToClient n) s l at none a
event_leaves all h w u i (events.DataConnect j) s l at none loads a = of_another all h w u i j DataConnect s l at none a
event_leaves all h w u i (events.DataTurn j) s l at none loads a = of_another all h w u i j DataTurn s l at none a
event_leaves all h w u i (events.DataToClient j n) s l at none loads a = of_another all h w u i j (DataToClient n) s l at none a
event_leaves all h w u i (events.LoseControl j) s l at none loads a = of_another all h w u i j LoseControl s l at none a
event_leaves all h w u i (events.LoseImage j) s l at none loads a = of_another all h w u i j LoseImage s l at none a
event_leaves all h w u i (events.Cancel j) s l at none loads a = of_another all h w u i j Cancel s l at none a
event_leaves all h w u i (events.Load name source) s l at none loads a = absurd (loads name source refl)
event_leaves all h w u i (events.Unplug name) s l at none loads a = unplugged w u i name s at a

first_of : (e y : Event) (es : List Event) → e ≡ y → Contains (e ∷ es) y
first_of e y es same = (0, omega arith, same)

later_of : (e y : Event) (es : List Event) → Contains es y → Contains (e ∷ es) y
later_of e y es there = (suc there.0, omega (arith, there.1), there.2)

pub sessions_stay : AllIsKeptAmongStrangers → (h : History) (es : List Event) (w v : WorldCore) → LedTo h w → AreTrueLoads source_state es → Runs source_state es w v → SessionsStay es w v
sessions_stay all h [] w v l loads run i s others none a = subst (λ (x : WorldCore). SessionAt x i s) (sym run) a
sessions_stay all h (e ∷ es) w v l loads (u, one, rest) i s others none a =
    let led = led_then h (e ∷ []) w u l (loads.0, tt) (u, one, refl) in
    sessions_stay all (and_then h (e ∷ [])) es u v led loads.1 rest i s (λ own there. others own (later_of e (job_event_of i own) es there)) (λ name source there. none name source (later_of e (events.Load name source) es there))
    (event_leaves all h w u i e s l one (λ own is. others own (first_of e (job_event_of i own) es is)) (λ name source is. none name source (first_of e (events.Load name source) es is)) a)

-- of one event, a page that is laid in among them
scan_leaves : AllIsKeptAmongStrangers → (h : History) (w u : WorldCore) (i : ℕ) (e : Event) (name : List ℕ) (d : DeviceState) → LedTo h w → Leads source_state e w u → NotOf e i → is_at_rest d.phase ≡ false → Has w i name d → Has u i name d
scan_leaves all h w u i (events.Load other source) name d l at none busy x = still_has w u i other name (source_state source) d at busy x
scan_leaves all h w u i e name d l at none busy x = record { session = x.session; at = event_leaves all h w u i e x.session l at none (λ other source is. (let clash : e ≡ events.Load other source = is in cc)) x.at; word = x.word; lease = x.lease; held = x.held; is = x.is; named = x.named }

pub scans_stay : AllIsKeptAmongStrangers → (h : History) (es : List Event) (w v : WorldCore) → LedTo h w → AreTrueLoads source_state es → Runs source_state es w v → ScansStay es w v
scans_stay all h [] w v l loads run i name d others busy x = subst (λ (y : WorldCore). Has y i name d) (sym run) x
scans_stay all h (e ∷ es) w v l loads (u, one, rest) i name d others busy x =
    let led = led_then h (e ∷ []) w u l (loads.0, tt) (u, one, refl) in
    scans_stay all (and_then h (e ∷ [])) es u v led loads.1 rest i name d (λ own there. others own (later_of e (job_event_of i own) es there)) busy
    (scan_leaves all h w u i e name d l one (λ own is. others own (first_of e (job_event_of i own) es is)) busy x)
