-- A new world stands for that nothing has happened.
use Rattle.std.specs.Prelude.{All}
use Rattle.std.specs.List.{AllByRecursion}
use Rattle.std.proofs.Common.{◌≡◌, ◌≢◌, inl, ◌∙◌, ℕ, zero, suc, ◌≤◌, List, [], ◌∷◌, Option, Some, None, Bool, true, false, refl, sym, ap, subst, map, length, slice_get, slice_index_or, arith}
use Rattle.std.proofs.lemmas.List.{length-map}
use Rattle.sane_fixed.specs.declared.byte_order.ByteOrder.TheVariants.{Little}
use Rattle.page_picture.specs.Page as page
use Rattle.page_picture.specs.Page.{IsPageView}
use Rattle.page_picture.specs.declared.scene.DeviceKind.{DeviceKind}
use Rattle.page_picture.specs.declared.scene.DeviceKind.TheVariants.{Flatbed}
use Rattle.md5_auth.specs.declared.users.Entry.{Entry}
use Rattle.frame_join.specs.FrameHistory.{empty_history}
use Rattle.device_api.specs.ScannerLimits.{HasLimits, IsHeldPage, IsPageCount}
use Rattle.device_api.specs.Kinds.{is_feeder, IsStocked}
use Rattle.device_api.specs.State.{DeviceState, HeldPage, Phase, after_cancel, cancelled_in, feeds, left_behind}
use Rattle.device_api.specs.State.Phase.{AtRest, Between, Reading}
use Rattle.device_api.proofs.AllowedLaws.{defaults_allowed}
use Rattle.device_api.proofs.KindLaws.{stocked_by}
use Rattle.sane_fixed.specs.declared.device_info.DeviceInfo.{DeviceInfo}
use Rattle.dispatch.specs.RegistryFault.{HaveOwnNames}
use Rattle.dispatch.specs.Table.{Table, fresh_table}
use Rattle.saned_core.specs.declared.session_slot.SessionSlot.{SessionSlot}
use Rattle.saned_core.specs.declared.session_slot.SessionId.{SessionId}
use Rattle.scan_job.specs.declared.job.Job.{Job}
use Rattle.client_replies.specs.ProtocolStates.{is_running}
use Rattle.net_client.specs.ClientStates.{IsNewClient, ClientState}
use Rattle.system_model.specs.Devices.{AreOptionsAllowed, IsPageShaped}
use Rattle.system_model.specs.AbstractDevices.{AreShaped, DeviceInvariant}
use Rattle.system_model.specs.SystemStates.{initial_job}
use Rattle.system_model.proofs.JobPromises.{beginning_sound}
use Rattle.client_refines.proofs.SilentCalls.{made_alike}
use Rattle.daemon_refines.specs.ContextRefinement.{TableRefines, page_views, HaveSources}
use Rattle.daemon_refines.specs.Cores.{fresh_device, fresh_devices}
use Rattle.daemon_refines.proofs.Beginning.{registries_show}
use Rattle.daemon_refines.proofs.Moved.{unsome}
use Rattle.event_world.specs.declared.endpoint.Endpoint.{Endpoint}
use Rattle.event_world.specs.Endpoints.{IsNew, budget_of, no_pages}
use Rattle.event_world.specs.JobEvents.{is_done}
use Rattle.event_world.specs.Worlds.{AreNew, WorldCore}
use Rattle.world_refines.specs.GhostStates.{name_at, place_of_info, abstract_job}
use Rattle.world_refines.specs.WorldRefinement.{HaveDifferentNames, HaveDifferentNumbers, IsBelow, IsFaithful, IsFaithfulPlace, IsFaithfulSessionSlot, IsFaithfulPage, KeepsFiles, Means, EndpointRefines, EndpointRefinesAt, EndpointClientRefines, info_at, is_laid, stranger_of}
use Rattle.world_refines.proofs.state.Strangers.{none_yet}
use Rattle.world_refines.proofs.state.EndpointSlots.{no_slot_yet, none_in_slot}
use Rattle.world_refines.specs.NewWorlds.{HaveSourcesAt, info_of_state, initial_ghost, IsNewDaemon, PageSources, make_of, NewWorldsAreAlone, NewWorldsRefine, wires_of}
use Rattle.world_refines.proofs.state.Faithful.{cancel_true}
use Rattle.world_refines.proofs.state.Waiting.{waits_first}
use Rattle.world_refines.proofs.state.WorldPending.{no_reply_none, no_request_none, receives_greeting}

-- ---- lists

all_each : {X : Type 0} (P : X → Type 0) (xs : List X) → All P xs → AllByRecursion P xs
all_each P [] h = tt
all_each P (x ∷ xs) h = (h 0 x (omega arith), all_each P xs (λ k d low. h (suc k) d (omega (arith, low))))

all_there : {X : Type 0} (P : X → Type 0) (xs : List X) (k : ℕ) (x : X) → AllByRecursion P xs → slice_get xs k ≡ Some x → P x
all_there P [] k x h e = absurd (cc)
all_there P (y ∷ xs) zero x h e = let same : y ≡ x = cc in subst P same h.0
all_there P (y ∷ xs) (suc k) x h e = all_there P xs k x h.1 e

pub at_index : {X : Type 0} (xs : List X) (k : ℕ) (x d : X) → slice_get xs k ≡ Some x → slice_index_or xs k d ≡ x
at_index [] k x d e = absurd (cc)
at_index (y ∷ xs) zero x d e = cc
at_index (y ∷ xs) (suc k) x d e = at_index xs k x d e

past_end : {X : Type 0} (xs : List X) (k : ℕ) → length xs ≤ k → slice_get xs k ≡ None
past_end [] k h = refl
past_end (x ∷ xs) zero h = absurd (omega (arith, h))
past_end (x ∷ xs) (suc k) h = past_end xs k (omega (arith, h))

-- ---- the devices are fit

-- pages within their limits, true to their sources
abbrev AreHeld : List HeldPage → Type 0
AreHeld pages = AllByRecursion IsHeldPage pages

left_held : (b : Bool) (pages : List HeldPage) → AreHeld pages → AreHeld (left_behind b pages)
left_held false pages h = h
left_held true [] h = h
left_held true (p ∷ pages) h = h.1

left_count : (b : Bool) (pages : List HeldPage) → IsPageCount b (length pages) → IsPageCount b (length (left_behind b pages))
left_count false pages h = h
left_count true [] h = h
left_count true (p ∷ pages) h = omega (arith, h)

cancelled_held : (phase : Phase) (s : DeviceState) → AreHeld s.pages → AreHeld (cancelled_in phase s).pages
cancelled_held (AtRest c) s h = h
cancelled_held (Between n) s h = left_held (feeds s) s.pages h
cancelled_held (Reading pass given) s h = left_held (feeds s) s.pages h

cancelled_count : (phase : Phase) (s : DeviceState) → IsPageCount (feeds s) (length s.pages) → IsPageCount (feeds s) (length (cancelled_in phase s).pages)
cancelled_count (AtRest c) s h = h
cancelled_count (Between n) s h = left_count (feeds s) s.pages h
cancelled_count (Reading pass given) s h = left_count (feeds s) s.pages h

stocked : (kind : DeviceKind) (tray : List page.PageView) (n : ℕ) → length tray ≡ n → IsPageCount (is_feeder kind) n → IsStocked kind tray
stocked kind tray n e h = stocked_by kind tray (subst (IsPageCount (is_feeder kind)) (sym e) h)

shaped : (pages : List HeldPage) → AreHeld pages → AreShaped (page_views pages)
unfolding IsPageShaped
shaped [] h = tt
shaped (p ∷ pages) h = (h.0.shape, shaped pages h.1)

fit_one : (b : PageSources) (s : DeviceState) → HasLimits s → DeviceInvariant (make_of b (Some s)) (fresh_device (Some s))
unfolding AreOptionsAllowed
fit_one b s h =
    let c = after_cancel s in
    record {
      laid_down = λ _. refl;
      allowed = defaults_allowed c.setup.scene.kind c.setup.order;
      stocked = stocked s.setup.scene.kind (page_views c.pages) (length c.pages) (length-map c.pages (λ (held : HeldPage). held.page)) (cancelled_count s.phase s h.count);
      shaped = shaped c.pages (cancelled_held s.phase s (all_each IsHeldPage s.pages h.pages));
    }

fit_none : (b : PageSources) → DeviceInvariant (make_of b None) (fresh_device None)
unfolding AreOptionsAllowed
fit_none b = record { laid_down = λ _. refl; allowed = defaults_allowed Flatbed Little; stocked = omega arith; shaped = tt }

fit_at : (b : PageSources) (o : Option DeviceState) → ((s : DeviceState) → o ≡ Some s → HasLimits s) → DeviceInvariant (make_of b o) (fresh_device o)
fit_at b None h = fit_none b
fit_at b (Some s) h = fit_one b s (h s refl)

free_at : (o : Option DeviceState) → (fresh_device o).holder ≡ None
free_at None = refl
free_at (Some s) = refl

-- ---- and true to their pages

true_one : (pages : List HeldPage) → AllByRecursion IsHeldPage pages → AllByRecursion IsFaithfulPage pages
true_one [] h = tt
true_one (p ∷ pages) h = (h.0.view, true_one pages h.1)

device_true : (s : DeviceState) → HasLimits s → IsFaithful s
device_true s h = true_one s.pages (all_each IsHeldPage s.pages h.pages)

table_true : (devices : List DeviceState) → AllByRecursion HasLimits devices → AllByRecursion IsFaithfulPlace (fresh_table devices)
table_true [] h = tt
table_true (s ∷ devices) h = (cancel_true s (device_true s h.0), table_true devices h.1)

-- ---- their infos

table_infos : (devices : List DeviceState) → map info_of_state devices ≡ map info_at (fresh_table devices)
table_infos [] = refl
table_infos (s ∷ devices) = ap (λ (infos : List DeviceInfo). s.info ∷ infos) (table_infos devices)

apart_from : (name : List ℕ) (devices : List DeviceState) (k : ℕ) (other : List ℕ) → AllByRecursion (λ (s : DeviceState). name ≢ s.info.name) devices → name_at (map info_of_state devices) k ≡ Some other → name ≢ other
apart_from name [] k other h e = absurd (let clash : None ≡ Some other = e in cc)
apart_from name (s ∷ devices) zero other h e = λ same. h.0 (same ∙ sym (unsome s.info.name other e))
apart_from name (s ∷ devices) (suc k) other h e = apart_from name devices k other h.1 e

apart : (devices : List DeviceState) → HaveOwnNames devices → HaveDifferentNames (map info_of_state devices)
apart [] h j k name e f = absurd (let clash : None ≡ Some name = e in cc)
apart (s ∷ devices) h zero zero name e f = refl
apart (s ∷ devices) h zero (suc k) name e f = absurd (apart_from s.info.name devices k name (all_each (λ (x : DeviceState). s.info.name ≢ x.info.name) devices h.0) f (unsome s.info.name name e))
apart (s ∷ devices) h (suc j) zero name e f = absurd (apart_from s.info.name devices j name (all_each (λ (x : DeviceState). s.info.name ≢ x.info.name) devices h.0) e (unsome s.info.name name f))
apart (s ∷ devices) h (suc j) (suc k) name e f = ap suc (apart devices h.1 j k name e f)

-- ---- the jobs

pub record IsNewAt (jobs : List Job) (i : ℕ) (p : Endpoint) : Type 0 where
  pub job : Job
  pub at : slice_get jobs i ≡ Some job
  pub new : IsNew job p

pub new_at : (jobs : List Job) (endpoints : List Endpoint) (i : ℕ) (p : Endpoint) → AreNew jobs endpoints → slice_get endpoints i ≡ Some p → IsNewAt jobs i p
new_at [] [] i p h e = absurd (cc)
new_at [] (q ∷ endpoints) i p h e = absurd h
new_at (job ∷ jobs) [] i p h e = absurd h
new_at (job ∷ jobs) (q ∷ endpoints) zero p h e = let same : q ≡ p = cc in record { job = job; at = refl; new = subst (λ (x : Endpoint). IsNew job x) same h.0 }
new_at (job ∷ jobs) (q ∷ endpoints) (suc i) p h e = let more = new_at jobs endpoints i p h.1 e in record { job = more.job; at = more.at; new = more.new }

pub as_many : (jobs : List Job) (endpoints : List Endpoint) → AreNew jobs endpoints → length jobs ≡ length endpoints
as_many [] [] h = refl
as_many [] (q ∷ endpoints) h = absurd h
as_many (job ∷ jobs) [] h = absurd h
as_many (job ∷ jobs) (q ∷ endpoints) h = ap suc (as_many jobs endpoints h.1)

-- the endpoint of a job to which nothing has happened
abbrev new_post : Job → ClientState → Endpoint
new_post job c = record {
  task = job.task;
  client = c;
  was_connected = false;
  link = None;
  is_over = false;
  image = None;
  file = Some [];
  pages = no_pages;
  finished = 0;
  out_of_memory = false;
  budget = budget_of job.task;
}

new_exchanges : (users : List Entry) (infos : List DeviceInfo) (job : Job) (c : ClientState) → IsNewClient job c → EndpointClientRefines (place_of_info infos) job empty_history [] (initial_job (abstract_job users infos job)) (new_post job c)
new_exchanges users infos job c h =
    let made = made_alike (place_of_info infos) job (abstract_job users infos job) c refl h in
    record {
      task = refl;
      target = ap (λ (v : ClientState). v.target) h.value;
      word = λ _. ap (λ (v : ClientState). v.notes.word) h.value;
      over = λ e. absurd (let clash : true ≡ false = sym (ap (λ (v : ClientState). is_running v.outcome) h.value) ∙ e in cc);
      serves = h.serves;
      reads = made.0;
      idle = λ _. refl;
      begun = λ _. inl refl;
      files = subst (λ (b : Bool). KeepsFiles b empty_history [] (new_post job c)) (sym (ap (λ (v : ClientState). is_laid job.task v.outcome empty_history) h.value)) (record { file = refl; each = λ k q e. absurd (let clash : None ≡ Some q = e in cc); count = refl; room = refl });
      finished = λ k q e. absurd (let clash : None ≡ Some q = e in cc);
      alone = λ _. refl;
      done = λ e joined. absurd (let clash : false ≡ true = sym (ap (λ (v : ClientState). is_done v.outcome) h.value) ∙ e in cc);
    }

new_means : (users : List Entry) (infos : List DeviceInfo) (job : Job) (c : ClientState) → IsNewClient job c → Means (place_of_info infos) job (wires_of (Some (new_post job c))) (initial_job (abstract_job users infos job)) (new_post job c)
new_means users infos job c h =
    let made = made_alike (place_of_info infos) job (abstract_job users infos job) c refl h in
    record {
      linked = refl;
      before = λ _. (refl, refl);
      over = λ e. absurd (let clash : false ≡ true = e in cc);
      calm = λ _. refl;
      image = λ e. absurd (let clash : false ≡ true = e in cc);
      last = λ im e. absurd (let clash : None ≡ Some im = e in cc);
      unended = tt;
      first = λ _. made.1;
      up = λ e. absurd (let clash : false ≡ true = e in cc);
      down = λ _. refl;
      flow = record { image_is = refl; flight_is = refl; ending_is = refl };
      starved = λ e. absurd e;
    }

-- ---- the world

-- nobody holds a device
new_table : (sources : ℕ → PageSources) (i : ℕ) (devices : List DeviceState) → HaveSourcesAt sources devices → TableRefines i (λ k. make_of (sources k) (slice_get devices k)) [] (fresh_table devices) (fresh_devices devices)
new_table sources i devices only = registries_show i (λ k. make_of (sources k) (slice_get devices k)) devices (λ k s e. record {
  sources = subst (λ (o : Option DeviceState). HaveSources (make_of (sources k) o) s.pages) (sym e) (only k s e);
  kind = ap (λ (o : Option DeviceState). (make_of (sources k) o).model) e;
  order = ap (λ (o : Option DeviceState). (make_of (sources k) o).order) e;
})

new_sits : (sources : ℕ → PageSources) (jobs : List Job) (other : Job) (devices : List DeviceState) (w : WorldCore) (i : ℕ) (p : Endpoint) → HaveSourcesAt sources devices → IsNewDaemon devices w.daemon → IsNewAt jobs i p → slice_get w.endpoints i ≡ Some p → EndpointRefinesAt (initial_ghost sources jobs other devices w.daemon.users w.endpoints) w.daemon i p
new_sits sources jobs other devices w i p only d n at =
    let users = w.daemon.users in
    let infos = map info_of_state devices in
    let make = λ (k : ℕ). make_of (sources k) (slice_get devices k) in
    let device = fresh_devices devices in
    let job_is : slice_index_or jobs i other ≡ n.job = at_index jobs i n.job other n.at in
    subst (λ (job : Job). EndpointRefines users infos job make device i (initial_job (abstract_job users infos job)) (wires_of (slice_get w.endpoints i)) empty_history [] w.daemon p) (sym job_is)
    (subst (λ (o : Option Endpoint). EndpointRefines users infos n.job make device i (initial_job (abstract_job users infos n.job)) (wires_of o) empty_history [] w.daemon p) (sym at)
    (subst (λ (x : Endpoint). EndpointRefines users infos n.job make device i (initial_job (abstract_job users infos n.job)) (wires_of (Some x)) empty_history [] w.daemon x) (sym n.new.rest) (record {
      job_is = refl;
      exchanges = new_exchanges users infos n.job p.client n.new.client;
      carries = record { up = refl; asking = refl; down = refl; telling = ap (λ (v : ClientState). v.input.rest) n.new.client.value; image = refl };
      means = new_means users infos n.job p.client n.new.client;
      served = (refl, subst (λ (t : Table). TableRefines i make [] t device) (sym d.registry) (new_table sources i devices only));
      speaks = tt;
      waits = waits_first p.client.progress [] (ap (λ (v : ClientState). v.progress) n.new.client.value);
      pends = record { asking = no_request_none; telling = λ on. no_reply_none p.client.progress; reading = λ e. absurd (receives_greeting p.client.outcome p.client.progress (ap (λ (v : ClientState). v.progress) n.new.client.value) e) };
    })))

pub unlinked : (jobs : List Job) (i : ℕ) (p : Endpoint) (id : SessionId) → IsNewAt jobs i p → p.link ≡ Some id → ⊥
unlinked jobs i p id n e = let clash : None ≡ Some id = sym (ap (λ (x : Endpoint). x.link) n.new.rest) ∙ e in absurd (cc)

pub new_worlds_stand : NewWorldsRefine
new_worlds_stand sources jobs other devices w new d names limits only fit =
    let t = initial_ghost sources jobs other devices w.daemon.users w.endpoints in
    let all = all_each HasLimits devices limits in
    let below : AllByRecursion (IsBelow w.daemon.opened) w.daemon.slots = subst (λ (slots : List (Option (SessionSlot DeviceState))). AllByRecursion (IsBelow w.daemon.opened) slots) (sym d.slots) (tt, (tt, (tt, (tt, (tt, (tt, (tt, (tt, tt)))))))) in
    record {
      sound = beginning_sound t.system.make t.system.device (λ i. abstract_job w.daemon.users t.infos (slice_index_or jobs i other)) t.system.places (λ k. free_at (slice_get devices k))
          (λ k. fit_at (sources k) (slice_get devices k) (λ s e. all_there HasLimits devices k s all e));
      asks = λ i. tt;
      shown = λ i. tt;
      is_of = record {
        count = as_many jobs w.endpoints new;
        users = refl;
        infos = table_infos devices ∙ ap (map info_at) (sym d.registry);
        apart = apart devices names;
        places = refl;
        counts = λ i low. (fit i other low).1;
      };
      endpoints = λ i p at. new_sits sources jobs other devices w i p only d (new_at jobs w.endpoints i p new at) at;
      beyond = λ i high. record {
        stage = refl;
        linked = refl;
        transfer = refl;
        image = ap (λ (o : Option Endpoint). (wires_of o).image) (past_end w.endpoints i high);
      };
      strangers = λ n. record {
        sits = λ session is nobodys. absurd (let clash : None ≡ Some session = sym (none_yet w.daemon.opened w.daemon.slots n below (subst (λ (m : ℕ). m ≤ n) (sym d.opened) (omega arith))) ∙ is in cc);
        rests = λ either. subst (λ (r : Table). TableRefines (stranger_of w n) t.system.make [] r t.system.device) (sym d.registry) (new_table sources (stranger_of w n) devices only);
      };
      own = λ i j a b x y at_a at_b is_x is_y same. absurd (unlinked jobs i a x (new_at jobs w.endpoints i a new at_a) is_x);
      links = λ i p id at is. absurd (unlinked jobs i p id (new_at jobs w.endpoints i p new at) is);
      slots = below;
      apart = subst HaveDifferentNumbers (sym d.slots) none_in_slot;
      faithful = record {
        lying = subst (λ (r : Table). AllByRecursion IsFaithfulPlace r) (sym d.registry) (table_true devices all);
        lent = subst (λ (slots : List (Option (SessionSlot DeviceState))). AllByRecursion IsFaithfulSessionSlot slots) (sym d.slots) (tt, (tt, (tt, (tt, (tt, (tt, (tt, (tt, tt))))))));
      };
      begun = λ i steady. tt;
    }

pub new_worlds_alone : NewWorldsAreAlone
new_worlds_alone devices w d k slot at = absurd (no_slot_yet k slot (ap (λ (slots : List (Option (SessionSlot DeviceState))). slice_get slots k) (sym d.slots) ∙ at))
