-- A page comes to a device, in its place or leased.
use Rattle.std.specs.Prelude.{if◌then◌else◌, option_map, Err, Ok}
use Rattle.sane_fixed.specs.declared.status.Status.TheVariants.{DeviceBusy}
use Rattle.std.specs.Option.{option_and_then}
use Rattle.std.specs.List.{AllByRecursion, list_any}
use Rattle.std.proofs.Common.{◌≡◌, ◌≢◌, ◌⊎◌, inl, inr, ◌∙◌, ℕ, zero, suc, ◌≤◌, List, [], ◌∷◌, Option, Some, None, Bool, true, false, eqb, refl, sym, ap, subst, length, slice_get, slice_set, arith}
use Rattle.page_picture.specs.Source.{SourceState}
use Rattle.device_api.specs.State.{DeviceState, after_load as page_loaded, takes_page, held_from}
use Rattle.sane_fixed.specs.declared.device_info.DeviceInfo.{DeviceInfo}
use Rattle.dispatch.specs.declared.table.place.Lease.{Lease}
use Rattle.dispatch.specs.declared.table.place.Place.{Place}
use Rattle.dispatch.specs.declared.table.place.Slot.{Slot}
use Rattle.dispatch.specs.declared.table.place.Slot.TheVariants.{In, Out, Gone}
use Rattle.dispatch.specs.Table.{Table, table_after_load, find_name, load_answer, load_at, load_of, loaded_at, loaded_slot, slot_load, with_loaded, with_slot}
use Rattle.saned_requests.specs.declared.session.AwaitedAuthorization.{AwaitedAuthorization}
use Rattle.saned_requests.specs.declared.session.Session.{Session as RequestSession}
use Rattle.saned_requests.specs.Holding.{held_by}
use Rattle.saned_requests.specs.RequestAnswers.{RequestContext}
use Rattle.saned_core.specs.declared.session_slot.SessionSlot.{SessionSlot}
use Rattle.saned_core.specs.declared.session_slot.SessionId.{SessionId}
use Rattle.saned_core.specs.Loading.{holds, holds_in, is_lease_named, core_after_load, on_first, slot_with_page}
use Rattle.saned_core.specs.DaemonStates.{Core, is_slot_number, on_session_slot, on_session, session_slot_of, session_in, session_of}
use Rattle.system_model.specs.AbstractMessages.{Challenge}
use Rattle.device_api.specs.Kinds.{Page, has_room}
use Rattle.system_model.specs.Devices.{IsPageShaped, Make}
use Rattle.system_model.specs.AbstractDevices.{AbstractDevice, Resting, is_held_by}
use Rattle.system_model.specs.SystemStates.{JobState, with_entry}
use Rattle.system_model.specs.AbstractSessions.{AbstractSession, one_word_session}
use Rattle.system_model.specs.Transitions.{IsHistory, Loads, after_all}
use Rattle.system_model.specs.Transitions as steps
use Rattle.system_model.proofs.JobPromises.{sound_after_all}
use Rattle.daemon_refines.specs.ContextRefinement.{HoldsPlace, IsAwaited, NamesPlace, ContextRefines, PlaceRefines, SlotRefines, TableRefines, abstract_device, HasSource}
use Rattle.daemon_refines.specs.Cores.{SessionRefines}
use Rattle.saned_core.specs.Feeding.{core_context}
use Rattle.daemon_refines.proofs.Changes.{Held}
use Rattle.daemon_refines.proofs.DataLinks.{listed_by}
use Rattle.daemon_refines.proofs.Moved.{put_elsewhere, put_there, unsome}
use Rattle.daemon_refines.proofs.OpenSteps.{found_slot}
use Rattle.daemon_refines.proofs.OtherSessions.{IsThere, same_name}
use Rattle.daemon_refines.proofs.TableRefinement.{loads_agree, pages_agree, refusals_agree}
use Rattle.daemon_refines.proofs.Leaves.{devices_leave}
use Rattle.event_world.specs.declared.endpoint.Endpoint.{Endpoint}
use Rattle.event_world.specs.Worlds.{WorldCore}
use Rattle.world_refines.specs.GhostStates.{Ghost, Wires, name_at}
use Rattle.world_refines.specs.Speaks.{Speaks}
use Rattle.world_refines.specs.WorldRefinement.{HaveDifferentNames, WiresMatch, IsFaithful, IsFaithfulLease, IsFaithfulPlace, IsFaithfulSlot, IsLinked, IsNobodys, IsServed, StrangerStands, WorldRefines, slot_of_link, session_by, stranger_of}
use Rattle.world_refines.specs.GhostEvents.{CanLoad, LaysIn, GhostLeadsTo, LoadsFollow, MayHaveSource}
use Rattle.world_refines.proofs.state.CoreCallsKeep.{found_on, input_on, leaves_on, on_below, on_number, on_true, replies_on, slot_infos}
use Rattle.world_refines.proofs.state.Sees.{Leaves}
use Rattle.world_refines.proofs.state.Changing.{stands_change}
use Rattle.world_refines.proofs.state.Faithful.{TakesSlot, slot_true}
use Rattle.world_refines.proofs.state.Finding.{find_there, found_place, names_at}
use Rattle.world_refines.proofs.state.Held.{held_after_all}
use Rattle.world_refines.proofs.state.ListedPlaces.{shown_after}
use Rattle.world_refines.proofs.job_events.Laying.{laid_none, laid_shows}
use Rattle.world_refines.proofs.job_events.Leasing.{FoundSlot, any_lease, any_slot, found_own_slot, laid, laid_true, load_true}
use Rattle.world_refines.proofs.state.ListEntries.{is_same, there, within}
use Rattle.world_refines.proofs.state.EndpointSlots.{replaces_on, slot_change}
use Rattle.world_refines.proofs.state.Strangers.{far_from, nobody_holds, stranger_changes, whose_is}
use Rattle.saned_core.proofs.Apart.{apart}
use Rattle.daemon_refines.specs.OtherSessions.{LeavesOthers}
use Rattle.world_refines.proofs.state.Spoken.{same_on, speaks_still}
use Rattle.device_api.specs.ScannerLimits.{IsHeldPage}

abbrev Loaded : Ghost → WorldCore → List ℕ → SourceState → Type 0
Loaded t w name source = GhostLeadsTo (CanLoad t name) (LaysIn t name source.page) t (record w { daemon = core_after_load w.daemon name source })

shaped : (source : SourceState) → IsHeldPage (held_from source) → IsPageShaped source.page
unfolding IsPageShaped
shaped source limits = limits.shape

same_posts : {X : Type 0} (xs : List X) (i : ℕ) (x : X) → slice_get xs i ≡ Some x → slice_set xs i x ≡ xs
same_posts [] i x e = refl
same_posts (z ∷ xs) zero x e = ap (λ (y : _). y ∷ xs) (sym (unsome z x e))
same_posts (z ∷ xs) (suc i) x e = ap (λ (ys : _). z ∷ ys) (same_posts xs i x e)

-- ---- leased: whose session it is

record IsLeased (t : Ghost) (w : WorldCore) (name : List ℕ) (i n : ℕ) (s : AbstractSession) : Type 0 where
  shows : SessionRefines i t.system.make w.daemon n t.system.device s
  word : ℕ
  lease : Lease DeviceState
  stands : held_by shows.session.held word ≡ Some lease
  name_is : lease.device.info.name ≡ name
  then_is : (source : SourceState) → core_after_load w.daemon name source ≡ record w.daemon { slots = on_session_slot (on_session (laid source word)) n w.daemon.slots }

-- a job's, whose session goes on, or a stranger's
record IsOfJob (t : Ghost) (w : WorldCore) (name : List ℕ) : Type 0 where
  i : ℕ
  endpoint : Endpoint
  id : SessionId
  at : slice_get w.endpoints i ≡ Some endpoint
  link : endpoint.link ≡ Some id
  served : (t.system.job i).served ≡ true
  leased : IsLeased t w name i id.number (session_by i t.system.device (t.system.job i))

record IsOfStranger (t : Ghost) (w : WorldCore) (name : List ℕ) : Type 0 where
  n : ℕ
  nobodys : IsNobodys w n
  session : AbstractSession
  leased : IsLeased t w name (stranger_of w n) n session

session_found : (t : Ghost) (w : WorldCore) (name : List ℕ) (n : ℕ) (f : FoundSlot name w.daemon.slots) → n ≡ f.slot.number → WorldRefines t w → session_of w.daemon n ≡ Some f.session
session_found t w name n f number h = ap session_in (ap (session_slot_of w.daemon.slots) number ∙ f.found h.apart) ∙ f.session_is

is_leased : (t : Ghost) (w : WorldCore) (name : List ℕ) (i n : ℕ) (s : AbstractSession) (f : FoundSlot name w.daemon.slots) → n ≡ f.slot.number → WorldRefines t w → list_any (holds name) w.daemon.slots ≡ true → SessionRefines i t.system.make w.daemon n t.system.device s → IsLeased t w name i n s
is_leased t w name i n s f number h any shows =
    let same : shows.session ≡ f.session = unsome shows.session f.session (sym shows.stands ∙ session_found t w name n f number h) in
    record {
      shows = shows;
      word = f.lease.word;
      lease = f.lease.lease;
      stands = ap (λ (x : RequestSession DeviceState). held_by x.held f.lease.word) same ∙ f.lease.stands;
      name_is = f.lease.name_is;
      then_is = λ source.
          ap (λ (b : Bool). if b then record w.daemon { slots = on_first (holds name) (slot_with_page name source) w.daemon.slots } else record w.daemon { registry = table_after_load w.daemon.registry name source }) any
          ∙ (ap (λ (x : TakesSlot). record w.daemon { slots = x }) (f.then_is h.apart source) ∙ ap (λ (k : ℕ). record w.daemon { slots = on_session_slot (on_session (laid source f.lease.word)) k w.daemon.slots }) (sym number));
    }

by_served : (t : Ghost) (w : WorldCore) (name : List ℕ) (i : ℕ) (endpoint : Endpoint) (id : SessionId) (f : FoundSlot name w.daemon.slots) (b : Bool) → slice_get w.endpoints i ≡ Some endpoint → endpoint.link ≡ Some id → id.number ≡ f.slot.number → WorldRefines t w → list_any (holds name) w.daemon.slots ≡ true → (t.system.job i).served ≡ b → IsServed i t.system.make w.daemon (Some id) b t.system.device (session_by i t.system.device (t.system.job i)) → IsOfJob t w name
by_served t w name i endpoint id f false at link number h any e served = absurd (let clash : None ≡ Some f.session = sym served.0 ∙ session_found t w name id.number f number h in cc)
by_served t w name i endpoint id f true at link number h any e served = record { i = i; endpoint = endpoint; id = id; at = at; link = link; served = e; leased = is_leased t w name i id.number (session_by i t.system.device (t.system.job i)) f number h any served }

whose : (t : Ghost) (w : WorldCore) (name : List ℕ) → WorldRefines t w → list_any (holds name) w.daemon.slots ≡ true → IsOfJob t w name ⊎ IsOfStranger t w name
whose t w name h any = let f = found_own_slot name w.daemon.slots any in by f (whose_is w f.slot.number)
  where
    by : (f : FoundSlot name w.daemon.slots) → IsLinked w.endpoints f.slot.number ⊎ IsNobodys w f.slot.number → IsOfJob t w name ⊎ IsOfStranger t w name
    by f (inl l) =
        let s = h.endpoints l.place l.endpoint l.at in
        inl (by_served t w name l.place l.endpoint l.id f (t.system.job l.place).served l.at l.link l.number h any refl (subst (λ (o : Option SessionId). IsServed l.place t.system.make w.daemon o (t.system.job l.place).served t.system.device (session_by l.place t.system.device (t.system.job l.place))) l.link s.served))
    by f (inr none) =
        let s = (h.strangers f.slot.number).sits f.session (session_found t w name f.slot.number f refl h) none in
        inr (record { n = f.slot.number; nobodys = none; session = s.0; leased = is_leased t w name (stranger_of w f.slot.number) f.slot.number s.0 f refl h any s.1 })

-- its place by that name
named_there : (t : Ghost) (w : WorldCore) (name : List ℕ) (i n : ℕ) (s : AbstractSession) → WorldRefines t w → (d : IsLeased t w name i n s) → name_at t.infos d.lease.place ≡ Some name
named_there t w name i n s h d =
    let own = (d.shows.shows.devices.leases d.word d.lease d.stands).own in
    ap (λ (infos : List DeviceInfo). name_at infos d.lease.place) h.is_of.infos ∙ (names_at w.daemon.registry d.lease.place own.place own.at ∙ ap (λ (x : List ℕ). Some x) (sym own.name ∙ d.name_is))

-- ---- leased, and it takes the page

abbrev steps_laid : ℕ → SourceState → List steps.Transition
steps_laid k source = Loads k source.page ∷ []

abbrev slots_laid : WorldCore → ℕ → SourceState → ℕ → Core
slots_laid w n source word = record w.daemon { slots = on_session_slot (on_session (laid source word)) n w.daemon.slots }

-- the step of it by the model, and what it makes of the session
record Lays (t : Ghost) (w : WorldCore) (source : SourceState) (i n : ℕ) (s : AbstractSession) (word k : ℕ) : Type 0 where
  listed : (t.system.device k).listed ≡ true
  rest : (t.system.device k).phase ≡ Resting
  room : has_room (t.system.make k).model (t.system.device k).tray ≡ true
  legal : IsHistory t.system (steps_laid k source)
  device : ℕ → AbstractDevice
  is_device : (after_all t.system (steps_laid k source)).device ≡ device
  holder : (j : ℕ) → is_held_by i (device j).holder ≡ is_held_by i (t.system.device j).holder
  own : SessionRefines i t.system.make (slots_laid w n source word) n device s
  others : LeavesOthers i w.daemon.registry w.daemon.registry t.system.device device

lays_so : (t : Ghost) (w : WorldCore) (name : List ℕ) (source : SourceState) (i n : ℕ) (s : AbstractSession) → IsHeldPage (held_from source) → MayHaveSource t.infos t.system.make name source → WorldRefines t w → (d : IsLeased t w name i n s) → takes_page d.lease.device ≡ true → Lays t w source i n s d.word d.lease.place
lays_so t w name source i n s limits keep h d takes =
    let l = d.lease in
    let k = l.place in
    let shown = d.shows.shows.devices.leases d.word l d.stands in
    let firm : HasSource (t.system.make k) (held_from source) = keep k (named_there t w name i n s h d) in
    let page = pages_agree (t.system.make k) l.device source (Some i) shown.made firm takes in
    let dev = abstract_device (Some i) (page_loaded l.device source) in
    let value : steps.with_page_laid_in (t.system.make k) source.page (t.system.device k) ≡ dev = ap (λ (x : AbstractDevice). steps.with_page_laid_in (t.system.make k) source.page x) shown.device ∙ page.device in
    let listed : (t.system.device k).listed ≡ true = ap (λ (x : AbstractDevice). x.listed) shown.device in
    let rest : (t.system.device k).phase ≡ Resting = ap (λ (x : AbstractDevice). x.phase) shown.device ∙ page.at_rest in
    let room : has_room (t.system.make k).model (t.system.device k).tray ≡ true = ap (λ (x : AbstractDevice). has_room (t.system.make k).model x.tray) shown.device ∙ page.room in
    let g = laid source d.word in
    let shows = laid_shows i t.system.make (core_context w.daemon d.shows.session) t.system.device s d.word l source d.shows.shows d.stands firm takes in
    record {
      listed = listed;
      rest = rest;
      room = room;
      legal = ((listed, rest, room, shaped source limits), tt);
      device = with_entry t.system.device k dev;
      is_device = ap (with_entry t.system.device k) value;
      holder = λ j. held_at t.system.device k dev j i (is_same j k) (ap (λ (x : AbstractDevice). x.holder) (sym shown.device));
      own = record { session = g d.shows.session; stands = on_there g n w.daemon.slots d.shows.session d.shows.stands; shows = shows; begun = d.shows.begun };
      others = devices_leave i t.system.make d.shows.session.held w.daemon.registry t.system.device d.word l (page_loaded l.device source) d.shows.shows.devices d.stands;
    }
  where
    held_at : (table : ℕ → AbstractDevice) (k : ℕ) (dev : AbstractDevice) (k2 i : ℕ) → (k2 ≡ k) ⊎ (k2 ≢ k) → dev.holder ≡ (table k).holder → is_held_by i (with_entry table k dev k2).holder ≡ is_held_by i (table k2).holder
    held_at table k dev k2 i (inl e) same = subst (λ (x : ℕ). is_held_by i (with_entry table k dev x).holder ≡ is_held_by i (table x).holder) (sym e) (ap (λ (x : AbstractDevice). is_held_by i x.holder) (put_there table k dev) ∙ ap (is_held_by i) same)
    held_at table k dev k2 i (inr n) same = ap (λ (x : AbstractDevice). is_held_by i x.holder) (put_elsewhere table k dev k2 n)

    by_own_slot : (g : RequestSession DeviceState → RequestSession DeviceState) (o : Option (SessionSlot DeviceState)) (session : RequestSession DeviceState) → session_in o ≡ Some session → session_in (option_and_then (on_session g) o) ≡ Some (g session)
    by_own_slot g None session e = absurd (let clash : None ≡ Some session = e in cc)
    by_own_slot g (Some slot) session e = ap (option_map g) e

    on_there : (g : RequestSession DeviceState → RequestSession DeviceState) (n : ℕ) (slots : TakesSlot) (session : RequestSession DeviceState) → session_in (session_slot_of slots n) ≡ Some session → session_in (session_slot_of (on_session_slot (on_session g) n slots) n) ≡ Some (g session)
    on_there g n slots session e = ap session_in (found_on g n slots) ∙ by_own_slot g (session_slot_of slots n) session e

-- what is led to where it takes the page
leads_laid : (t : Ghost) (w : WorldCore) (name : List ℕ) (source : SourceState) (i n : ℕ) (s : AbstractSession) → WorldRefines t w → (d : IsLeased t w name i n s) → Lays t w source i n s d.word d.lease.place → WorldRefines (record t { system = after_all t.system (steps_laid d.lease.place source) }) (record w { daemon = slots_laid w n source d.word }) → Loaded t w name source
leads_laid t w name source i n s h d l stands =
    let k = d.lease.place in
    let u : Ghost = record t { system = after_all t.system (steps_laid k source) } in
    record {
      steps = steps_laid k source;
      ghost_then = u;
      happens = record {
        either = inl (record { place = k; named = named_there t w name i n s h d; listed = l.listed; at_rest = l.rest; room = l.room });
        does = λ _. record { place = k; named = named_there t w name i n s h d; steps_are = refl; legal = l.legal; then_is = refl };
        cannot = λ never. absurd (never (record { place = k; named = named_there t w name i n s h d; listed = l.listed; at_rest = l.rest; room = l.room }));
      };
      stands = subst (λ (c : Core). WorldRefines u (record w { daemon = c })) (sym (d.then_is source)) stands;
    }

lays_job : (t : Ghost) (w : WorldCore) (name : List ℕ) (source : SourceState) → IsHeldPage (held_from source) → MayHaveSource t.infos t.system.make name source → WorldRefines t w → (d : IsOfJob t w name) → takes_page d.leased.lease.device ≡ true → Loaded t w name source
lays_job t w name source limits keep h d takes =
    let i = d.i in
    let p = d.endpoint in
    let s = h.endpoints i p d.at in
    let k = d.leased.lease.place in
    let by = session_by i t.system.device (t.system.job i) in
    let l = lays_so t w name source i d.id.number by limits keep h d.leased takes in
    let xs = steps_laid k source in
    let u : Ghost = record t { system = after_all t.system xs } in
    let g = laid source d.leased.word in
    let e : Core = slots_laid w d.id.number source d.leased.word in
    let ruled : session_by i l.device (t.system.job i) ≡ by =
    ap (λ (b : Bool). one_word_session b (t.system.job i).session.job.wants (t.system.job i).session.transfer (t.system.job i).session.awaited) (l.holder (t.system.job i).session.job.wants) in
    let own : SessionRefines i t.system.make e d.id.number l.device (session_by i l.device (t.system.job i)) = subst (λ (r : AbstractSession). SessionRefines i t.system.make e d.id.number l.device r) (sym ruled) l.own in
    let keeps : (x : RequestSession DeviceState) → AllByRecursion IsFaithfulLease x.held → AllByRecursion IsFaithfulLease (g x).held = laid_true source limits d.leased.word in
    let same = same_on g (λ x. record { greeted = refl; awaited = refl }) d.id.number w.daemon.slots in
    leads_laid t w name source i d.id.number by h d.leased l
    (subst (λ (ps : List Endpoint). WorldRefines u (record { daemon = e; endpoints = ps })) (same_posts w.endpoints i p d.at)
    (stands_change t u w i p p e h d.at (within w.endpoints i p d.at) (record {
      told = record { users = refl; infos = refl; count = refl; jobs = refl; make = refl; places = refl; job = λ j n. refl; wires = λ j n. refl; history = λ j n. refl; pages = λ j n. refl };
      leaves = subst (λ (o : Option SessionId). Leaves i t.system.make o w.daemon e t.system.device u.system.device) (sym d.link)
          (subst (λ (x : ℕ → AbstractDevice). Leaves i t.system.make (Some d.id) w.daemon e t.system.device x) (sym l.is_device)
          (leaves_on g i t.system.make w.daemon d.id t.system.device l.device keeps h.slots h.faithful l.own.session.held l.own.shows.devices l.others));
      sound = sound_after_all t.system xs h.sound l.legal;
      asks = held_after_all t.system xs h.sound h.asks l.legal;
      shown = shown_after t w xs h;
      sits = record {
        job_is = s.job_is;
        exchanges = s.exchanges;
        carries = subst (λ (o : Option SessionId). WiresMatch (t.wires i) (slot_of_link e o) p) (sym d.link) (carries_on g (t.wires i) w.daemon d.id p (subst (λ (o : Option SessionId). WiresMatch (t.wires i) (slot_of_link w.daemon o) p) d.link s.carries));
        means = s.means;
        served = subst (λ (o : Option SessionId). IsServed i t.system.make e o (t.system.job i).served u.system.device (session_by i u.system.device (t.system.job i))) (sym d.link)
            (subst (λ (b : Bool). IsServed i t.system.make e (Some d.id) b u.system.device (session_by i u.system.device (t.system.job i))) (sym d.served)
            (subst (λ (x : ℕ → AbstractDevice). SessionRefines i t.system.make e d.id.number x (session_by i x (t.system.job i))) (sym l.is_device) own));
        speaks = subst (λ (o : Option SessionId). Speaks (t.jobs i).device (t.system.job i) (session_in (slot_of_link e o))) (sym d.link)
            (speaks_still (t.jobs i).device (t.system.job i) (t.system.job i) (session_in (session_slot_of w.daemon.slots d.id.number)) (session_in (session_slot_of e.slots d.id.number)) refl refl same (subst (λ (o : Option SessionId). Speaks (t.jobs i).device (t.system.job i) (session_in (slot_of_link w.daemon o))) d.link s.speaks));
        waits = s.waits;
        pends = s.pends;
      };
      link = λ x is. inl is;
      replaces = replaces_on g p.link w.daemon d.id.number;
      begun = h.begun i;
    })))
  where
    carries_on : (g : RequestSession DeviceState → RequestSession DeviceState) (x : Wires) (core : Core) (id : SessionId) (endpoint : Endpoint) → WiresMatch x (slot_of_link core (Some id)) endpoint → WiresMatch x (session_slot_of (on_session_slot (on_session g) id.number core.slots) id.number) endpoint
    carries_on g x core id endpoint c = record { up = c.up; asking = input_on g id.number core.slots ∙ c.asking; down = replies_on g id.number core.slots ∙ c.down; telling = c.telling; image = c.image }

lays_strangers : (t : Ghost) (w : WorldCore) (name : List ℕ) (source : SourceState) → IsHeldPage (held_from source) → MayHaveSource t.infos t.system.make name source → WorldRefines t w → (d : IsOfStranger t w name) → takes_page d.leased.lease.device ≡ true → Loaded t w name source
lays_strangers t w name source limits keep h d takes =
    let n = d.n in
    let i = stranger_of w n in
    let l = lays_so t w name source i n d.session limits keep h d.leased takes in
    let xs = steps_laid d.leased.lease.place source in
    let now = after_all t.system xs in
    let g = laid source d.leased.word in
    let e : Core = slots_laid w n source d.leased.word in
    let own = subst (λ (x : ℕ → AbstractDevice). SessionRefines i t.system.make e n x d.session) (sym l.is_device) l.own in
    leads_laid t w name source i n d.session h d.leased l (stranger_changes t w n e now.device h (record {
      nobodys = d.nobodys;
      users = refl;
      infos = refl;
      opened = omega arith;
      below = on_below g n w.daemon.opened w.daemon.slots h.slots;
      apart = slot_change None None w.daemon e h.apart h.slots (replaces_on g None w.daemon n);
      faithful = record { lying = h.faithful.lying; lent = on_true g n w.daemon.slots (laid_true source limits d.leased.word) h.faithful.lent };
      leaves = record {
        held = own.session.held;
        shows = own.shows.devices;
        others = subst (λ (x : ℕ → AbstractDevice). LeavesOthers i w.daemon.registry w.daemon.registry t.system.device x) (sym l.is_device) l.others;
        slots = λ m off. apart w.daemon.slots (on_session g) n m (on_number g) (λ same. off (sym same));
      };
      sound = sound_after_all t.system xs h.sound l.legal;
      asks = held_after_all t.system xs h.sound h.asks l.legal;
      sits = λ session is. (d.session, own);
      rests = λ none. absurd (let clash : None ≡ Some own.session = sym none ∙ own.stands in cc);
    }))

-- ---- nothing is laid in

refused : (t : Ghost) (w : WorldCore) (name : List ℕ) (source : SourceState) → WorldRefines t w → core_after_load w.daemon name source ≡ w.daemon → (CanLoad t name → ⊥) → Loaded t w name source
refused t w name source h same never =
    subst (λ (c : Core). GhostLeadsTo (CanLoad t name) (LaysIn t name source.page) t (record w { daemon = c })) (sym same)
    (record { steps = []; ghost_then = t; happens = record { either = inr never; does = λ can. absurd (never can); cannot = λ _. (refl, refl) }; stands = h })

-- a place of that name is this one
place_is : (t : Ghost) (w : WorldCore) (name : List ℕ) (j k : ℕ) → WorldRefines t w → name_at t.infos j ≡ Some name → name_at t.infos k ≡ Some name → j ≡ k
place_is t w name j k h a b = h.is_of.apart j k name a b

slot_itself : (f : SessionSlot DeviceState → Option (SessionSlot DeviceState)) (n : ℕ) (slots : TakesSlot) (slot : SessionSlot DeviceState) → session_slot_of slots n ≡ Some slot → f slot ≡ Some slot → on_session_slot f n slots ≡ slots
unfolding session_slot_of on_session_slot
slot_itself f n [] slot e same = refl
slot_itself f n (x ∷ slots) slot e same = by_test f n x slots slot (is_slot_number n x) refl e same (λ more. slot_itself f n slots slot more same)
  where
    by_test : (f : SessionSlot DeviceState → Option (SessionSlot DeviceState)) (n : ℕ) (x : Option (SessionSlot DeviceState)) (slots : TakesSlot) (slot : SessionSlot DeviceState) (b : Bool) → is_slot_number n x ≡ b → (if b then x else session_slot_of slots n) ≡ Some slot → f slot ≡ Some slot → (session_slot_of slots n ≡ Some slot → on_session_slot f n slots ≡ slots) →
        (if b then option_and_then f x ∷ slots else x ∷ on_session_slot f n slots) ≡ x ∷ slots
    by_test f n x slots slot true is e same more = ap (λ (o : Option (SessionSlot DeviceState)). o ∷ slots) (ap (option_and_then f) e ∙ (same ∙ sym e))
    by_test f n x slots slot false is e same more = ap (λ (ss : TakesSlot). x ∷ ss) (more e)

session_self : (g : RequestSession DeviceState → RequestSession DeviceState) (n : ℕ) (slots : TakesSlot) (session : RequestSession DeviceState) (o : Option (SessionSlot DeviceState)) → session_slot_of slots n ≡ o → session_in o ≡ Some session → g session ≡ session → on_session_slot (on_session g) n slots ≡ slots
session_self g n slots session None is e same = absurd (let clash : None ≡ Some session = e in cc)
session_self g n slots session (Some slot) is e same =
    slot_itself (on_session g) n slots slot is (ap (λ (o : Option (RequestSession DeviceState)). Some (record slot { session = o })) (ap (option_map g) e ∙ (ap (λ (s : RequestSession DeviceState). Some s) same ∙ sym e)))

stays_leased : (t : Ghost) (w : WorldCore) (name : List ℕ) (source : SourceState) (i n : ℕ) (s : AbstractSession) → WorldRefines t w → (d : IsLeased t w name i n s) → takes_page d.lease.device ≡ false → Loaded t w name source
stays_leased t w name source i n s h d nay =
    let l = d.lease in
    let k = l.place in
    let shown = d.shows.shows.devices.leases d.word l d.stands in
    let still = session_self (laid source d.word) n w.daemon.slots d.shows.session (session_slot_of w.daemon.slots n) refl d.shows.stands (laid_none source d.word d.shows.session l d.stands nay) in
    refused t w name source h (d.then_is source ∙ ap (λ (s : TakesSlot). record w.daemon { slots = s }) still) (λ can.
    let there : can.place ≡ k = place_is t w name can.place k h can.named (named_there t w name i n s h d) in
    let rest : (abstract_device (Some i) l.device).phase ≡ Resting = ap (λ (x : AbstractDevice). x.phase) (sym shown.device) ∙ (ap (λ (j : ℕ). (t.system.device j).phase) (sym there) ∙ can.at_rest) in
    let room : has_room (t.system.make k).model (abstract_device (Some i) l.device).tray ≡ true = ap (λ (x : AbstractDevice). has_room (t.system.make k).model x.tray) (sym shown.device) ∙ (ap (λ (j : ℕ). has_room (t.system.make j).model (t.system.device j).tray) (sym there) ∙ can.room) in
    refusals_agree (t.system.make k) l.device (Some i) shown.made nay rest room)

-- ---- in its place

with_in : (t : Table) (k : ℕ) (p : Place DeviceState) (source : SourceState) → slice_get t k ≡ Some p → with_loaded t k source ≡ with_slot t k (loaded_slot p.slot source)
unfolding with_loaded with_slot
with_in [] k p source e = refl
with_in (q ∷ t) zero p source e = ap (λ (x : Place DeviceState). record { info = q.info; slot = loaded_slot x.slot source } ∷ t) (unsome q p e)
with_in (q ∷ t) (suc k) p source e = ap (λ (ps : Table). q ∷ ps) (with_in t k p source e)

slot_self : (t : Table) (k : ℕ) (p : Place DeviceState) → slice_get t k ≡ Some p → with_slot t k p.slot ≡ t
unfolding with_slot
slot_self [] k p e = refl
slot_self (q ∷ t) zero p e = ap (λ (x : Place DeviceState). record { info = q.info; slot = x.slot } ∷ t) (sym (unsome q p e))
slot_self (q ∷ t) (suc k) p e = ap (λ (ps : Table). q ∷ ps) (slot_self t k p e)

not_leased : (d : Core) (name : List ℕ) (source : SourceState) → list_any (holds name) d.slots ≡ false → core_after_load d name source ≡ record d { registry = table_after_load d.registry name source }
not_leased d name source nay = ap (λ (b : Bool). if b then record d { slots = on_first (holds name) (slot_with_page name source) d.slots } else record d { registry = table_after_load d.registry name source }) nay

-- what client j's session shows of a place that is out, and that it is said to hold
out_at : (j : ℕ) (make : ℕ → Make) (held : Held) (registry : Table) (table : ℕ → AbstractDevice) (k : ℕ) (p : Place DeviceState) → TableRefines j make held registry table → slice_get registry k ≡ Some p → p.slot ≡ Out → (table k).holder ≡ Some j → HoldsPlace held k
out_at j make held registry table k p shows there out holder = by_slot (subst (λ (s : Slot DeviceState). SlotRefines j (make k) held k (table k) p.info.name s) out (subst (λ (o : Option (Place DeviceState)). PlaceRefines j (make k) held k (table k) o) there (shows.places k)))
  where
    by_slot : SlotRefines j (make k) held k (table k) p.info.name Out → HoldsPlace held k
    by_slot (listed, inl h) = h
    by_slot (listed, inr away) = absurd (away.no_own (unsome away.other j (sym away.holder ∙ holder)))

none_held : (k : ℕ) → HoldsPlace [] k → ⊥
unfolding held_by
none_held k h = let clash : None ≡ Some h.lease = h.stands in absurd (cc)

lease_named : (j : ℕ) (make : ℕ → Make) (held : Held) (registry : Table) (table : ℕ → AbstractDevice) (k : ℕ) (p : Place DeviceState) (name : List ℕ) → TableRefines j make held registry table → slice_get registry k ≡ Some p → p.info.name ≡ name → (h : HoldsPlace held k) → h.lease.device.info.name ≡ name
lease_named j make held registry table k p name shows there is h =
    let own = (shows.leases h.word h.lease h.stands).own in
    let same : own.place ≡ p = unsome own.place p (sym own.at ∙ (ap (slice_get registry) h.place ∙ there)) in
    own.name ∙ (ap (λ (x : Place DeviceState). x.info.name) same ∙ is)

slot_has : (name : List ℕ) (o : Option (SessionSlot DeviceState)) (session : RequestSession DeviceState) → session_in o ≡ Some session → list_any (is_lease_named name) session.held ≡ true → holds name o ≡ true
slot_has name None session e has = absurd (let clash : None ≡ Some session = e in cc)
slot_has name (Some slot) session e has = ap (holds_in name) e ∙ has

-- a place of that name whose device is out, for client j
out_with : (t : Ghost) (w : WorldCore) (name : List ℕ) (j k n : ℕ) (p : Place DeviceState) (s : AbstractSession) → slice_get w.daemon.registry k ≡ Some p → p.slot ≡ Out → p.info.name ≡ name → (t.system.device k).holder ≡ Some j → SessionRefines j t.system.make w.daemon n t.system.device s → list_any (holds name) w.daemon.slots ≡ true
out_with t w name j k n p s there out is holder sits =
    let held = sits.session.held in
    let own = out_at j t.system.make held w.daemon.registry t.system.device k p sits.shows.devices there out holder in
    let named = lease_named j t.system.make held w.daemon.registry t.system.device k p name sits.shows.devices there is own in
    any_slot name w.daemon.slots n (slot_has name (session_slot_of w.daemon.slots n) sits.session sits.stands (any_lease name held own.word own.lease own.stands named))

out_leased : (t : Ghost) (w : WorldCore) (name : List ℕ) (j k : ℕ) (p : Place DeviceState) (link : Option SessionId) (b : Bool) → slice_get w.daemon.registry k ≡ Some p → p.slot ≡ Out → p.info.name ≡ name → (t.system.device k).holder ≡ Some j →
    IsServed j t.system.make w.daemon link b t.system.device (session_by j t.system.device (t.system.job j)) → list_any (holds name) w.daemon.slots ≡ true
out_leased t w name j k p None true there out is holder served = absurd served
out_leased t w name j k p (Some id) true there out is holder served = out_with t w name j k id.number p (session_by j t.system.device (t.system.job j)) there out is holder served
out_leased t w name j k p link false there out is holder served = absurd (none_held k (out_at j t.system.make [] w.daemon.registry t.system.device k p served.1 there out holder))

-- for a stranger
out_strangers : (t : Ghost) (w : WorldCore) (name : List ℕ) (n k : ℕ) (p : Place DeviceState) → WorldRefines t w → slice_get w.daemon.registry k ≡ Some p → p.slot ≡ Out → p.info.name ≡ name → (t.system.device k).holder ≡ Some (stranger_of w n) → list_any (holds name) w.daemon.slots ≡ true
out_strangers t w name n k p h there out is holder = by (session_of w.daemon n) refl (whose_is w n)
  where
    rests : (session_of w.daemon n ≡ None) ⊎ IsLinked w.endpoints n → list_any (holds name) w.daemon.slots ≡ true
    rests either = absurd (none_held k (out_at (stranger_of w n) t.system.make [] w.daemon.registry t.system.device k p ((h.strangers n).rests either) there out holder))

    by : (o : Option (RequestSession DeviceState)) → session_of w.daemon n ≡ o → IsLinked w.endpoints n ⊎ IsNobodys w n → list_any (holds name) w.daemon.slots ≡ true
    by None none whose = rests (inl none)
    by (Some session) sat (inl linked) = rests (inr linked)
    by (Some session) sat (inr nobodys) = let s = (h.strangers n).sits session sat nobodys in out_with t w name (stranger_of w n) k n p s.0 there out is holder s.1

out_by : (t : Ghost) (w : WorldCore) (name : List ℕ) (j k : ℕ) (p : Place DeviceState) → WorldRefines t w → slice_get w.daemon.registry k ≡ Some p → p.slot ≡ Out → p.info.name ≡ name → (t.system.device k).holder ≡ Some j →
    ((endpoint : Endpoint) × (slice_get w.endpoints j ≡ Some endpoint)) ⊎ (length w.endpoints ≤ j) → list_any (holds name) w.daemon.slots ≡ true
out_by t w name j k p h there out is holder (inl endpoint) = out_leased t w name j k p endpoint.0.link (t.system.job j).served there out is holder (h.endpoints j endpoint.0 endpoint.1).served
out_by t w name j k p h there out is holder (inr high) =
    let far = far_from (length w.endpoints) j high in
    out_strangers t w name far.0 k p h there out is (holder ∙ ap (λ (x : ℕ). Some x) far.1)

-- somebody holds what is out
holder_of : (i : ℕ) (make : Make) (k : ℕ) (dev : AbstractDevice) (name : List ℕ) → SlotRefines i make [] k dev name Out → (j : ℕ) × (dev.holder ≡ Some j)
holder_of i make k dev name (listed, inl holds) = absurd (none_held k holds)
holder_of i make k dev name (listed, inr away) = (away.other, away.holder)

is_out : (t : Ghost) (w : WorldCore) (name : List ℕ) (k : ℕ) (p : Place DeviceState) → WorldRefines t w → slice_get w.daemon.registry k ≡ Some p → p.slot ≡ Out → p.info.name ≡ name → list_any (holds name) w.daemon.slots ≡ true
is_out t w name k p h at out is =
    let n = stranger_of w w.daemon.opened in
    let view : SlotRefines n (t.system.make k) [] k (t.system.device k) p.info.name Out =
    subst (λ (s : Slot DeviceState). SlotRefines n (t.system.make k) [] k (t.system.device k) p.info.name s) out
    (subst (λ (o : Option (Place DeviceState)). PlaceRefines n (t.system.make k) [] k (t.system.device k) o) at ((nobody_holds t w h).places k)) in
    let who = holder_of n (t.system.make k) k (t.system.device k) p.info.name view in
    out_by t w name who.0 k p h at out is who.1 (there w.endpoints who.0)

-- ---- in its place, and it takes the page

record IsIn (registry : Table) (name : List ℕ) : Type 0 where
  place : ℕ
  at : Place DeviceState
  state : DeviceState
  found : find_name name registry ≡ Some place
  is_at : slice_get registry place ≡ Some at
  is_in : at.slot ≡ In state

after_in : (registry : Table) (name : List ℕ) (source : SourceState) → (h : IsIn registry name) → takes_page h.state ≡ true → table_after_load registry name source ≡ with_slot registry h.place (In (page_loaded h.state source))
unfolding table_after_load
after_in registry name source h takes =
    ap (λ (o : Option ℕ). loaded_at registry o source) h.found
    ∙ (with_in registry h.place h.at source h.is_at
    ∙ (ap (λ (s : Slot DeviceState). with_slot registry h.place (loaded_slot s source)) h.is_in ∙ ap (λ (b : Bool). with_slot registry h.place (In (if b then page_loaded h.state source else h.state))) takes))

answer_in : (registry : Table) (name : List ℕ) → (h : IsIn registry name) → takes_page h.state ≡ true → load_answer registry name ≡ Ok tt
unfolding load_answer
answer_in registry name h takes =
    ap (load_at registry) h.found ∙ (ap slot_load h.is_at ∙ (ap (λ (s : Slot DeviceState). load_of s) h.is_in ∙ ap (λ (b : Bool). if b then Ok tt else Err DeviceBusy) takes))

abbrev new_table : (ℕ → Make) → (ℕ → AbstractDevice) → ℕ → Page → ℕ → AbstractDevice
new_table make table k page = with_entry table k (steps.with_page_laid_in (make k) page (table k))

table_in : (i : ℕ) (make : ℕ → Make) (held : Held) (registry : Table) (table : ℕ → AbstractDevice) (name : List ℕ) (source : SourceState) → (h : IsIn registry name) → takes_page h.state ≡ true → HasSource (make h.place) (held_from source) → TableRefines i make held registry table →
    TableRefines i make held (with_slot registry h.place (In (page_loaded h.state source))) (new_table make table h.place source.page)
table_in i make held registry table name source h takes firm shows =
    let l = loads_agree i make held registry table name source shows (λ k found. subst (λ (n : ℕ). HasSource (make n) (held_from source)) (sym (unsome k h.place (sym found ∙ h.found))) firm) (answer_in registry name h takes) in
    subst (λ (t : Table). TableRefines i make held t (new_table make table h.place source.page)) (after_in registry name source h takes)
    (subst (λ (k : ℕ). TableRefines i make held (table_after_load registry name source) (new_table make table k source.page)) (unsome l.place h.place (sym l.named ∙ h.found)) l.shows)

listed_in : (make : ℕ → Make) (table : ℕ → AbstractDevice) (d k : ℕ) (page : Page) → (new_table make table d page k).listed ≡ (table k).listed
listed_in make table d k page = listed_by table d (steps.with_page_laid_in (make d) page (table d)) k (eqb k d) refl refl

names_in : (o : Option ℕ) (table new : ℕ → AbstractDevice) (k : ℕ) → ((j : ℕ) → (new j).listed ≡ (table j).listed) → NamesPlace o table k → NamesPlace o new k
names_in None table new k same h = same k ∙ h
names_in (Some p) table new k same h = h

there_in : (slot : Slot DeviceState) (s : DeviceState) → slot ≡ In s → IsThere slot
there_in slot s e = subst IsThere (sym e) tt

awaited_in : (make : ℕ → Make) (registry : Table) (name : List ℕ) (source : SourceState) (held : Held) (table : ℕ → AbstractDevice) (a : Option AwaitedAuthorization) (sent : Option (Challenge × ℕ)) → (h : IsIn registry name) → IsAwaited held registry table a sent →
    IsAwaited held (with_slot registry h.place (In (page_loaded h.state source))) (new_table make table h.place source.page) a sent
awaited_in make registry name source held table None sent h is = is
awaited_in make registry name source held table (Some a) None h is = absurd is
awaited_in make registry name source held table (Some a) (Some sent) h is = (
  subst (λ (o : Option ℕ). NamesPlace o (new_table make table h.place source.page) sent.1) (sym (same_name a.name registry h.place h.at (In (page_loaded h.state source)) h.is_at (there_in h.at.slot h.state h.is_in) tt))
      (names_in (find_name a.name registry) table (new_table make table h.place source.page) sent.1 (λ j. listed_in make table h.place j source.page) is.0),
  is.1,
)

holder_in : (make : ℕ → Make) (table : ℕ → AbstractDevice) (d k : ℕ) (page : Page) → (k ≡ d) ⊎ (k ≢ d) → (new_table make table d page k).holder ≡ (table k).holder
holder_in make table d k page (inl e) = subst (λ (x : ℕ). (new_table make table d page x).holder ≡ (table x).holder) (sym e) (ap (λ (x : AbstractDevice). x.holder) (put_there table d (steps.with_page_laid_in (make d) page (table d))))
holder_in make table d k page (inr n) = ap (λ (x : AbstractDevice). x.holder) (put_elsewhere table d (steps.with_page_laid_in (make d) page (table d)) k n)

ruled_in : (j : ℕ) (make : ℕ → Make) (table : ℕ → AbstractDevice) (d : ℕ) (page : Page) (p : JobState) → session_by j (new_table make table d page) p ≡ session_by j table p
ruled_in j make table d page p = ap (λ (x : Option ℕ). one_word_session (is_held_by j x) p.session.job.wants p.session.transfer p.session.awaited) (holder_in make table d p.session.job.wants page (is_same p.session.job.wants d))

shows_in : (j : ℕ) (make : ℕ → Make) (d : RequestContext) (table : ℕ → AbstractDevice) (s : AbstractSession) (name : List ℕ) (source : SourceState) → (h : IsIn d.registry name) → takes_page h.state ≡ true → HasSource (make h.place) (held_from source) → ContextRefines j make d table s →
    ContextRefines j make (record d { registry = with_slot d.registry h.place (In (page_loaded h.state source)) }) (new_table make table h.place source.page) s
shows_in j make d table s name source h takes firm shows =
    record {
      words = shows.words;
      four = shows.four;
      transfer = shows.transfer;
      frame = shows.frame;
      awaited = awaited_in make d.registry name source d.session.held table d.session.awaited s.awaited h shows.awaited;
      devices = table_in j make d.session.held d.registry table name source h takes firm shows.devices;
    }

abbrev core_in : Core → ℕ → DeviceState → Core
core_in d k s = record d { registry = with_slot d.registry k (In s) }

served_in : (j : ℕ) (make : ℕ → Make) (d : Core) (link : Option SessionId) (served : Bool) (table : ℕ → AbstractDevice) (p : JobState) (name : List ℕ) (source : SourceState) → (h : IsIn d.registry name) → takes_page h.state ≡ true → HasSource (make h.place) (held_from source) → IsServed j make d link served table (session_by j table p) →
    IsServed j make (core_in d h.place (page_loaded h.state source)) link served (new_table make table h.place source.page) (session_by j (new_table make table h.place source.page) p)
served_in j make d None true table p name source h takes firm is = absurd is
served_in j make d (Some id) true table p name source h takes firm is =
    subst (λ (s : AbstractSession). SessionRefines j make (core_in d h.place (page_loaded h.state source)) id.number (new_table make table h.place source.page) s) (sym (ruled_in j make table h.place source.page p))
    (record { session = is.session; stands = is.stands; shows = shows_in j make _ table _ name source h takes firm is.shows; begun = is.begun })
served_in j make d None false table p name source h takes firm is = (refl, table_in j make [] d.registry table name source h takes firm is.1)
served_in j make d (Some id) false table p name source h takes firm is = (is.0, table_in j make [] d.registry table name source h takes firm is.1)

stranger_in : (t : Ghost) (w : WorldCore) (n : ℕ) (name : List ℕ) (source : SourceState) → (h : IsIn w.daemon.registry name) → takes_page h.state ≡ true → HasSource (t.system.make h.place) (held_from source) → StrangerStands t w n →
    StrangerStands (record t { system = after_all t.system (Loads h.place source.page ∷ []) }) (record w { daemon = core_in w.daemon h.place (page_loaded h.state source) }) n
stranger_in t w n name source h takes firm s =
    let j = stranger_of w n in
    record {
      sits = λ session is nobodys. let old = s.sits session is nobodys in (old.0, record { session = old.1.session; stands = old.1.stands; shows = shows_in j t.system.make _ t.system.device _ name source h takes firm old.1.shows; begun = old.1.begun });
      rests = λ either. table_in j t.system.make [] w.daemon.registry t.system.device name source h takes firm (s.rests either);
    }

named_in : (t : Ghost) (w : WorldCore) (name : List ℕ) → WorldRefines t w → (d : IsIn w.daemon.registry name) → name_at t.infos d.place ≡ Some name
named_in t w name h d =
    let f = found_place w.daemon.registry name d.place d.found in
    ap (λ (infos : List DeviceInfo). name_at infos d.place) h.is_of.infos ∙ (names_at w.daemon.registry d.place f.place f.at ∙ ap (λ (x : List ℕ). Some x) f.name_is)

lays_in : (t : Ghost) (w : WorldCore) (name : List ℕ) (source : SourceState) → IsHeldPage (held_from source) → MayHaveSource t.infos t.system.make name source → WorldRefines t w → list_any (holds name) w.daemon.slots ≡ false → (d : IsIn w.daemon.registry name) → takes_page d.state ≡ true → Loaded t w name source
lays_in t w name source limits keep h free d takes =
    let n = stranger_of w w.daemon.opened in
    let firm : HasSource (t.system.make d.place) (held_from source) = keep d.place (named_in t w name h d) in
    let l = loads_agree n t.system.make [] w.daemon.registry t.system.device name source (nobody_holds t w h) (λ k found. subst (λ (m : ℕ). HasSource (t.system.make m) (held_from source)) (sym (unsome k d.place (sym found ∙ d.found))) firm) (answer_in w.daemon.registry name d takes) in
    let k = d.place in
    let same : l.place ≡ k = unsome l.place k (sym l.named ∙ d.found) in
    let listed : (t.system.device k).listed ≡ true = subst (λ (x : ℕ). (t.system.device x).listed ≡ true) same l.listed in
    let rest : (t.system.device k).phase ≡ Resting = subst (λ (x : ℕ). (t.system.device x).phase ≡ Resting) same l.at_rest in
    let room : has_room (t.system.make k).model (t.system.device k).tray ≡ true = subst (λ (x : ℕ). has_room (t.system.make x).model (t.system.device x).tray ≡ true) same l.room in
    let named = named_in t w name h d in
    let xs = Loads k source.page ∷ [] in
    let legal : IsHistory t.system xs = ((listed, rest, room, shaped source limits), tt) in
    let next = page_loaded d.state source in
    let told : Ghost = record t { system = after_all t.system xs } in
    let core_is : core_after_load w.daemon name source ≡ core_in w.daemon k next = not_leased w.daemon name source free ∙ ap (λ (r : Table). record w.daemon { registry = r }) (after_in w.daemon.registry name source d takes) in
    record {
      steps = xs;
      ghost_then = told;
      happens = record {
        either = inl (record { place = k; named = named; listed = listed; at_rest = rest; room = room });
        does = λ _. record { place = k; named = named; steps_are = refl; legal = legal; then_is = refl };
        cannot = λ never. absurd (never (record { place = k; named = named; listed = listed; at_rest = rest; room = room }));
      };
      stands = subst (λ (c : Core). WorldRefines told (record w { daemon = c })) (sym core_is) (record {
        sound = sound_after_all t.system xs h.sound legal;
        asks = held_after_all t.system xs h.sound h.asks legal;
        shown = shown_after t w xs h;
        is_of = record {
          count = h.is_of.count;
          users = h.is_of.users;
          infos = h.is_of.infos ∙ sym (slot_infos w.daemon.registry k (In next));
          apart = h.is_of.apart;
          places = h.is_of.places;
          counts = h.is_of.counts;
        };
        endpoints = λ j endpoint at.
            let s = h.endpoints j endpoint at in
            record {
              job_is = s.job_is;
              exchanges = s.exchanges;
              carries = s.carries;
              means = s.means;
              served = served_in j t.system.make w.daemon endpoint.link (t.system.job j).served t.system.device (t.system.job j) name source d takes firm s.served;
              speaks = s.speaks;
              waits = s.waits;
              pends = s.pends;
            };
        beyond = λ j high. let b = h.beyond j high in record { stage = b.stage; linked = b.linked; transfer = b.transfer; image = b.image };
        strangers = λ m. stranger_in t w m name source d takes firm (h.strangers m);
        own = h.own;
        links = h.links;
        slots = h.slots;
        apart = h.apart;
        faithful = record { lying = slot_true w.daemon.registry k (In next) (load_true source limits d.state (in_true w.daemon.registry k d.at d.state d.is_at d.is_in h.faithful.lying)) h.faithful.lying; lent = h.faithful.lent };
        begun = h.begun;
      });
    }
  where
    in_true : (t : Table) (k : ℕ) (p : Place DeviceState) (s : DeviceState) → slice_get t k ≡ Some p → p.slot ≡ In s → AllByRecursion IsFaithfulPlace t → IsFaithful s
    in_true [] k p s e is h = absurd (let clash : None ≡ Some p = e in cc)
    in_true (q ∷ t) zero p s e is h = subst IsFaithfulSlot (ap (λ (x : Place DeviceState). x.slot) (unsome q p e) ∙ is) h.0
    in_true (q ∷ t) (suc k) p s e is h = in_true t k p s e is h.1

-- ---- in its place, and it takes none

same_in : (registry : Table) (name : List ℕ) (source : SourceState) → (h : IsIn registry name) → takes_page h.state ≡ false → table_after_load registry name source ≡ registry
unfolding table_after_load
same_in registry name source h nay =
    ap (λ (o : Option ℕ). loaded_at registry o source) h.found
    ∙ (with_in registry h.place h.at source h.is_at
    ∙ (ap (λ (s : Slot DeviceState). with_slot registry h.place (loaded_slot s source)) h.is_in
    ∙ (ap (λ (b : Bool). with_slot registry h.place (In (if b then page_loaded h.state source else h.state))) nay
    ∙ (ap (λ (s : Slot DeviceState). with_slot registry h.place s) (sym h.is_in) ∙ slot_self registry h.place h.at h.is_at))))

keeps_in : (t : Ghost) (w : WorldCore) (name : List ℕ) (source : SourceState) → WorldRefines t w → list_any (holds name) w.daemon.slots ≡ false → (d : IsIn w.daemon.registry name) → takes_page d.state ≡ false → Loaded t w name source
keeps_in t w name source h free d nay =
    let n = stranger_of w w.daemon.opened in
    let k = d.place in
    let view : SlotRefines n (t.system.make k) [] k (t.system.device k) d.at.info.name (In d.state) =
    subst (λ (s : Slot DeviceState). SlotRefines n (t.system.make k) [] k (t.system.device k) d.at.info.name s) d.is_in
    (subst (λ (o : Option (Place DeviceState)). PlaceRefines n (t.system.make k) [] k (t.system.device k) o) d.is_at ((nobody_holds t w h).places k)) in
    refused t w name source h (not_leased w.daemon name source free ∙ ap (λ (r : Table). record w.daemon { registry = r }) (same_in w.daemon.registry name source d nay)) (λ can.
    let there : can.place ≡ k = place_is t w name can.place k h can.named (named_in t w name h d) in
    let rest : (abstract_device None d.state).phase ≡ Resting = ap (λ (x : AbstractDevice). x.phase) (sym view.0) ∙ (ap (λ (j : ℕ). (t.system.device j).phase) (sym there) ∙ can.at_rest) in
    let room : has_room (t.system.make k).model (abstract_device None d.state).tray ≡ true = ap (λ (x : AbstractDevice). has_room (t.system.make k).model x.tray) (sym view.0) ∙ (ap (λ (j : ℕ). has_room (t.system.make j).model (t.system.device j).tray) (sym there) ∙ can.room) in
    refusals_agree (t.system.make k) d.state None view.1 nay rest room)

-- ---- a name that nobody has

unlisted : (t : Ghost) (w : WorldCore) (name : List ℕ) → WorldRefines t w → find_name name w.daemon.registry ≡ None → CanLoad t name → ⊥
unlisted t w name h none can = by_place (slice_get w.daemon.registry can.place) refl ((nobody_holds t w h).places can.place)
  where
    by_slot : (p : Place DeviceState) → slice_get w.daemon.registry can.place ≡ Some p → (s : Slot DeviceState) → p.slot ≡ s → SlotRefines (stranger_of w w.daemon.opened) (t.system.make can.place) [] can.place (t.system.device can.place) p.info.name s → IsThere s ⊎ (s ≡ Gone)
    by_slot p at (In d) e v = inl tt
    by_slot p at Out e v = inl tt
    by_slot p at Gone e v = inr refl

    by_there : (p : Place DeviceState) → slice_get w.daemon.registry can.place ≡ Some p → PlaceRefines (stranger_of w w.daemon.opened) (t.system.make can.place) [] can.place (t.system.device can.place) (Some p) → IsThere p.slot ⊎ (p.slot ≡ Gone) → ⊥
    by_there p at v (inr gone) =
        let shown : SlotRefines (stranger_of w w.daemon.opened) (t.system.make can.place) [] can.place (t.system.device can.place) p.info.name Gone = subst (λ (s : Slot DeviceState). SlotRefines (stranger_of w w.daemon.opened) (t.system.make can.place) [] can.place (t.system.device can.place) p.info.name s) gone v in
        let clash : false ≡ true = sym shown.0 ∙ can.listed in absurd (cc)
    by_there p at v (inl is) =
        let same : Some p.info.name ≡ Some name = sym (names_at w.daemon.registry can.place p at) ∙ (ap (λ (infos : List DeviceInfo). name_at infos can.place) (sym h.is_of.infos) ∙ can.named) in
        let found = find_there w.daemon.registry name can.place p (subst HaveDifferentNames h.is_of.infos h.is_of.apart) at (unsome p.info.name name same) is in
        let clash : None ≡ Some can.place = sym none ∙ found in absurd (cc)

    by_place : (o : Option (Place DeviceState)) → slice_get w.daemon.registry can.place ≡ o → PlaceRefines (stranger_of w w.daemon.opened) (t.system.make can.place) [] can.place (t.system.device can.place) o → ⊥
    by_place None at v = let clash : false ≡ true = sym v.0 ∙ can.listed in absurd (cc)
    by_place (Some p) at v = by_there p at v (by_slot p at p.slot refl v)

unknown : (registry : Table) (name : List ℕ) (source : SourceState) → find_name name registry ≡ None → table_after_load registry name source ≡ registry
unfolding table_after_load
unknown registry name source e = ap (λ (o : Option ℕ). loaded_at registry o source) e

-- ---- the event

by_takes : (t : Ghost) (w : WorldCore) (name : List ℕ) (source : SourceState) (b : Bool) → IsHeldPage (held_from source) → MayHaveSource t.infos t.system.make name source → WorldRefines t w → list_any (holds name) w.daemon.slots ≡ false → (d : IsIn w.daemon.registry name) → takes_page d.state ≡ b → Loaded t w name source
by_takes t w name source true limits keep h free d e = lays_in t w name source limits keep h free d e
by_takes t w name source false limits keep h free d e = keeps_in t w name source h free d e

by_slot : (t : Ghost) (w : WorldCore) (name : List ℕ) (source : SourceState) (k : ℕ) (p : Place DeviceState) → IsHeldPage (held_from source) → MayHaveSource t.infos t.system.make name source → WorldRefines t w → list_any (holds name) w.daemon.slots ≡ false → find_name name w.daemon.registry ≡ Some k → slice_get w.daemon.registry k ≡ Some p → ((s : DeviceState) × (p.slot ≡ In s)) ⊎ (p.slot ≡ Out) → Loaded t w name source
by_slot t w name source k p limits keep h free found at (inl s) = by_takes t w name source (takes_page s.0) limits keep h free (record { place = k; at = p; state = s.0; found = found; is_at = at; is_in = s.1 }) refl
by_slot t w name source k p limits keep h free found at (inr out) =
    let f = found_place w.daemon.registry name k found in
    let same : f.place ≡ p = unsome f.place p (sym f.at ∙ at) in
    let leased = is_out t w name k p h at out (ap (λ (x : Place DeviceState). x.info.name) (sym same) ∙ f.name_is) in
    absurd (let clash : false ≡ true = sym free ∙ leased in cc)

by_name : (t : Ghost) (w : WorldCore) (name : List ℕ) (source : SourceState) (o : Option ℕ) → IsHeldPage (held_from source) → MayHaveSource t.infos t.system.make name source → WorldRefines t w → list_any (holds name) w.daemon.slots ≡ false → find_name name w.daemon.registry ≡ o → Loaded t w name source
by_name t w name source None limits keep h free e = refused t w name source h (not_leased w.daemon name source free ∙ ap (λ (r : Table). record w.daemon { registry = r }) (unknown w.daemon.registry name source e)) (unlisted t w name h e)
by_name t w name source (Some k) limits keep h free e = let f = found_slot name w.daemon.registry k e in by_slot t w name source k f.place limits keep h free e f.at f.slot

by_job : (t : Ghost) (w : WorldCore) (name : List ℕ) (source : SourceState) → IsHeldPage (held_from source) → MayHaveSource t.infos t.system.make name source → WorldRefines t w → (d : IsOfJob t w name) → (b : Bool) → takes_page d.leased.lease.device ≡ b → Loaded t w name source
by_job t w name source limits keep h d true e = lays_job t w name source limits keep h d e
by_job t w name source limits keep h d false e = stays_leased t w name source d.i d.id.number (session_by d.i t.system.device (t.system.job d.i)) h d.leased e

by_stranger : (t : Ghost) (w : WorldCore) (name : List ℕ) (source : SourceState) → IsHeldPage (held_from source) → MayHaveSource t.infos t.system.make name source → WorldRefines t w → (d : IsOfStranger t w name) → (b : Bool) → takes_page d.leased.lease.device ≡ b → Loaded t w name source
by_stranger t w name source limits keep h d true e = lays_strangers t w name source limits keep h d e
by_stranger t w name source limits keep h d false e = stays_leased t w name source (stranger_of w d.n) d.n d.session h d.leased e

by_lease : (t : Ghost) (w : WorldCore) (name : List ℕ) (source : SourceState) → IsHeldPage (held_from source) → MayHaveSource t.infos t.system.make name source → WorldRefines t w → IsOfJob t w name ⊎ IsOfStranger t w name → Loaded t w name source
by_lease t w name source limits keep h (inl d) = by_job t w name source limits keep h d (takes_page d.leased.lease.device) refl
by_lease t w name source limits keep h (inr d) = by_stranger t w name source limits keep h d (takes_page d.leased.lease.device) refl

by_held : (t : Ghost) (w : WorldCore) (name : List ℕ) (source : SourceState) (b : Bool) → IsHeldPage (held_from source) → MayHaveSource t.infos t.system.make name source → WorldRefines t w → list_any (holds name) w.daemon.slots ≡ b → Loaded t w name source
by_held t w name source true limits keep h e = by_lease t w name source limits keep h (whose t w name h e)
by_held t w name source false limits keep h e = by_name t w name source (find_name name w.daemon.registry) limits keep h e refl

pub loads_follow : LoadsFollow
loads_follow t w name source limits keep h = by_held t w name source (list_any (holds name) w.daemon.slots) limits keep h refl
