-- A device is taken out.
use Rattle.std.proofs.Common.{◌≡◌, ◌≢◌, ◌⊎◌, inl, inr, ◌∙◌, ℕ, List, [], ◌∷◌, Option, Some, None, Bool, true, false, refl, sym, ap, subst, map, slice_get}
use Rattle.std.specs.Prelude.{Ok}
use Rattle.device_api.specs.State.{DeviceState}
use Rattle.sane_fixed.specs.declared.device_info.DeviceInfo.{DeviceInfo}
use Rattle.dispatch.specs.declared.table.place.Lease.{Lease}
use Rattle.dispatch.specs.declared.table.place.Place.{Place}
use Rattle.dispatch.specs.declared.table.place.Slot.{Slot}
use Rattle.dispatch.specs.declared.table.place.Slot.TheVariants.{In, Out, Gone}
use Rattle.dispatch.specs.Table.{Table, after_unplug, find_name, unplug_answer, unplug_at, unplug_of, unplugged_at, unplugged_of, with_slot}
use Rattle.saned_requests.specs.declared.session.AwaitedAuthorization.{AwaitedAuthorization}
use Rattle.saned_requests.specs.Holding.{held_by}
use Rattle.saned_requests.specs.RequestAnswers.{RequestContext}
use Rattle.saned_core.specs.declared.session_slot.SessionId.{SessionId}
use Rattle.saned_core.specs.DaemonStates.{Core}
use Rattle.system_model.specs.AbstractMessages.{Challenge}
use Rattle.system_model.specs.Devices.{Make}
use Rattle.system_model.specs.AbstractDevices.{AbstractDevice, is_held_by}
use Rattle.system_model.specs.SystemStates.{JobState, with_entry}
use Rattle.system_model.specs.AbstractSessions.{AbstractSession, one_word_session}
use Rattle.system_model.specs.Transitions.{IsHistory, Unplugs, after_all, without_listing}
use Rattle.system_model.proofs.JobPromises.{sound_after_all}
use Rattle.daemon_refines.specs.ContextRefinement.{IsAwaited, ContextRefines, PlaceRefines, SlotRefines, TableRefines}
use Rattle.daemon_refines.specs.Cores.{SessionRefines}
use Rattle.daemon_refines.proofs.Changes.{Held}
use Rattle.daemon_refines.proofs.Moved.{put_elsewhere, put_there, unsome}
use Rattle.daemon_refines.proofs.OpenSteps.{found_slot, held_there}
use Rattle.daemon_refines.proofs.OtherSessions.{IsThere}
use Rattle.daemon_refines.proofs.TableRefinement.{unplugs_agree}
use Rattle.event_world.specs.Worlds.{WorldCore}
use Rattle.world_refines.specs.GhostStates.{Ghost, name_at}
use Rattle.world_refines.specs.WorldRefinement.{HaveDifferentNames, IsServed, StrangerStands, WorldRefines, info_at, session_by, stranger_of}
use Rattle.world_refines.specs.GhostEvents.{CanUnplug, GhostLeadsTo, TakesOut, UnplugsFollow}
use Rattle.world_refines.proofs.state.Held.{held_after_all}
use Rattle.world_refines.proofs.state.ListedPlaces.{shown_after}
use Rattle.world_refines.proofs.state.CoreCallsKeep.{slot_infos}
use Rattle.world_refines.proofs.state.Faithful.{slot_true}
use Rattle.world_refines.proofs.state.Strangers.{nobody_holds}
use Rattle.world_refines.proofs.state.Finding.{find_there, found_place, names_at, names_out}
use Rattle.world_refines.proofs.state.ListEntries.{is_same}

-- ---- what is taken out

-- the place of that name, whose device is in
pub record IsIn (registry : Table) (name : List ℕ) : Type 0 where
  pub place : ℕ
  pub at : Place DeviceState
  pub state : DeviceState
  pub found : find_name name registry ≡ Some place
  pub is_at : slice_get registry place ≡ Some at
  pub is_in : at.slot ≡ In state

answer_in : (registry : Table) (name : List ℕ) → (h : IsIn registry name) → unplug_answer registry name ≡ Ok h.state
unfolding unplug_answer
answer_in registry name h = ap (unplug_at registry) h.found ∙ ap unplug_of (held_there registry h.place h.at (In h.state) h.is_at h.is_in)

after_in : (registry : Table) (name : List ℕ) → (h : IsIn registry name) → after_unplug registry name ≡ with_slot registry h.place Gone
unfolding after_unplug
after_in registry name h = ap (unplugged_at registry) h.found ∙ ap (unplugged_of registry h.place) (held_there registry h.place h.at (In h.state) h.is_at h.is_in)

abbrev out_of : (ℕ → AbstractDevice) → ℕ → ℕ → AbstractDevice
out_of table d = with_entry table d (without_listing (table d))

table_out : (i : ℕ) (make : ℕ → Make) (held : Held) (registry : Table) (table : ℕ → AbstractDevice) (name : List ℕ) → (h : IsIn registry name) → TableRefines i make held registry table → TableRefines i make held (with_slot registry h.place Gone) (out_of table h.place)
table_out i make held registry table name h shows =
    let u = unplugs_agree i make held registry table name h.state shows (answer_in registry name h) in
    subst (λ (t : Table). TableRefines i make held t (out_of table h.place)) (after_in registry name h)
    (subst (λ (k : ℕ). TableRefines i make held (after_unplug registry name) (out_of table k)) (unsome u.place h.place (sym u.named ∙ h.found)) u.shows)

-- ---- the sessions

awaited_out : (registry : Table) (name : List ℕ) (held : Held) (table : ℕ → AbstractDevice) (a : Option AwaitedAuthorization) (sent : Option (Challenge × ℕ)) → (h : IsIn registry name) → HaveDifferentNames (map info_at registry) → IsAwaited held registry table a sent → IsAwaited held (with_slot registry h.place Gone) (out_of table h.place) a sent
awaited_out registry name held table None sent h apart is = is
awaited_out registry name held table (Some a) None h apart is = absurd is
awaited_out registry name held table (Some a) (Some sent) h apart is = (names_out registry a.name h.place sent.1 h.at table (find_name a.name (with_slot registry h.place Gone)) refl apart h.is_at is.0, is.1)

holder_out : (table : ℕ → AbstractDevice) (d k : ℕ) → (k ≡ d) ⊎ (k ≢ d) → (out_of table d k).holder ≡ (table k).holder
holder_out table d k (inl e) = subst (λ (x : ℕ). (out_of table d x).holder ≡ (table x).holder) (sym e) (ap (λ (x : AbstractDevice). x.holder) (put_there table d (without_listing (table d))))
holder_out table d k (inr n) = ap (λ (x : AbstractDevice). x.holder) (put_elsewhere table d (without_listing (table d)) k n)

ruled_out : (j : ℕ) (table : ℕ → AbstractDevice) (d : ℕ) (p : JobState) → session_by j (out_of table d) p ≡ session_by j table p
ruled_out j table d p = ap (λ (x : Option ℕ). one_word_session (is_held_by j x) p.session.job.wants p.session.transfer p.session.awaited) (holder_out table d p.session.job.wants (is_same p.session.job.wants d))

shows_out : (j : ℕ) (make : ℕ → Make) (d : RequestContext) (table : ℕ → AbstractDevice) (s : AbstractSession) (name : List ℕ) → (h : IsIn d.registry name) → HaveDifferentNames (map info_at d.registry) → ContextRefines j make d table s → ContextRefines j make (record d { registry = with_slot d.registry h.place Gone }) (out_of table h.place) s
shows_out j make d table s name h apart shows =
    record {
      words = shows.words;
      four = shows.four;
      transfer = shows.transfer;
      frame = shows.frame;
      awaited = awaited_out d.registry name d.session.held table d.session.awaited s.awaited h apart shows.awaited;
      devices = table_out j make d.session.held d.registry table name h shows.devices;
    }

abbrev core_out : Core → ℕ → Core
core_out d k = record d { registry = with_slot d.registry k Gone }

served_out : (j : ℕ) (make : ℕ → Make) (d : Core) (link : Option SessionId) (served : Bool) (table : ℕ → AbstractDevice) (p : JobState) (name : List ℕ) → (h : IsIn d.registry name) → HaveDifferentNames (map info_at d.registry) → IsServed j make d link served table (session_by j table p) →
    IsServed j make (core_out d h.place) link served (out_of table h.place) (session_by j (out_of table h.place) p)
served_out j make d None true table p name h apart is = absurd is
served_out j make d (Some id) true table p name h apart is =
    subst (λ (s : AbstractSession). SessionRefines j make (core_out d h.place) id.number (out_of table h.place) s) (sym (ruled_out j table h.place p))
    (record { session = is.session; stands = is.stands; shows = shows_out j make _ table _ name h apart is.shows; begun = is.begun })
served_out j make d None false table p name h apart is = (refl, table_out j make [] d.registry table name h is.1)
served_out j make d (Some id) false table p name h apart is = (is.0, table_out j make [] d.registry table name h is.1)

stranger_out : (t : Ghost) (w : WorldCore) (n : ℕ) (name : List ℕ) → (h : IsIn w.daemon.registry name) → HaveDifferentNames (map info_at w.daemon.registry) → StrangerStands t w n → StrangerStands (record t { system = after_all t.system (Unplugs h.place ∷ []) }) (record w { daemon = core_out w.daemon h.place }) n
stranger_out t w n name h apart s =
    let j = stranger_of w n in
    record {
      sits = λ session is nobodys. let old = s.sits session is nobodys in (old.0, record { session = old.1.session; stands = old.1.stands; shows = shows_out j t.system.make _ t.system.device _ name h apart old.1.shows; begun = old.1.begun });
      rests = λ either. table_out j t.system.make [] w.daemon.registry t.system.device name h (s.rests either);
    }

-- ---- the world

-- what nobody sees of the device: it is listed, and nobody holds it
listed_in : (i : ℕ) (make : Make) (k : ℕ) (dev : AbstractDevice) (p : Place DeviceState) (s : DeviceState) → p.slot ≡ In s → SlotRefines i make [] k dev p.info.name p.slot → (dev.listed ≡ true) × (dev.holder ≡ None)
listed_in i make k dev p s e h =
    let shown : SlotRefines i make [] k dev p.info.name (In s) = subst (λ (slot : Slot DeviceState). SlotRefines i make [] k dev p.info.name slot) e h in
    (ap (λ (x : AbstractDevice). x.listed) shown.0, ap (λ (x : AbstractDevice). x.holder) shown.0)

out_stands : (t : Ghost) (w : WorldCore) (name : List ℕ) → WorldRefines t w → (d : IsIn w.daemon.registry name) → GhostLeadsTo (CanUnplug t name) (TakesOut t name) t (record w { daemon = core_out w.daemon d.place })
out_stands t w name h d =
    let n = stranger_of w w.daemon.opened in
    let apart : HaveDifferentNames (map info_at w.daemon.registry) = subst HaveDifferentNames h.is_of.infos h.is_of.apart in
    let view : PlaceRefines n (t.system.make d.place) [] d.place (t.system.device d.place) (Some d.at) = subst (λ (o : Option (Place DeviceState)). PlaceRefines n (t.system.make d.place) [] d.place (t.system.device d.place) o) d.is_at ((nobody_holds t w h).places d.place) in
    let seen = listed_in n (t.system.make d.place) d.place (t.system.device d.place) d.at d.state d.is_in view in
    let f = found_place w.daemon.registry name d.place d.found in
    let named : name_at t.infos d.place ≡ Some name = ap (λ (infos : List DeviceInfo). name_at infos d.place) h.is_of.infos ∙ (names_at w.daemon.registry d.place f.place f.at ∙ ap (λ (x : List ℕ). Some x) f.name_is) in
    let steps = Unplugs d.place ∷ [] in
    let legal : IsHistory t.system steps = (seen, tt) in
    record {
      steps = steps;
      ghost_then = record t { system = after_all t.system steps };
      happens = record {
        either = inl (record { place = d.place; named = named; listed = seen.0; free = seen.1 });
        does = λ _. record { place = d.place; named = named; steps_are = refl; legal = legal; then_is = refl };
        cannot = λ never. absurd (never (record { place = d.place; named = named; listed = seen.0; free = seen.1 }));
      };
      stands = record {
        sound = sound_after_all t.system steps h.sound legal;
        asks = held_after_all t.system steps h.sound h.asks legal;
        shown = shown_after t w steps h;
        is_of = record {
          count = h.is_of.count;
          users = h.is_of.users;
          infos = h.is_of.infos ∙ sym (slot_infos w.daemon.registry d.place Gone);
          apart = h.is_of.apart;
          places = h.is_of.places;
          counts = h.is_of.counts;
        };
        endpoints = λ j endpoint at.
            let s = h.endpoints j endpoint at in
            record {
              job_is = s.job_is;
              exchanges = s.exchanges;
              carries = s.carries;
              means = s.means;
              served = served_out j t.system.make w.daemon endpoint.link (t.system.job j).served t.system.device (t.system.job j) name d apart s.served;
              speaks = s.speaks;
              waits = s.waits;
              pends = s.pends;
            };
        beyond = λ j high. let b = h.beyond j high in record { stage = b.stage; linked = b.linked; transfer = b.transfer; image = b.image };
        strangers = λ m. stranger_out t w m name d apart (h.strangers m);
        own = h.own;
        links = h.links;
        slots = h.slots;
        apart = h.apart;
        faithful = record { lying = slot_true w.daemon.registry d.place Gone tt h.faithful.lying; lent = h.faithful.lent };
        begun = h.begun;
      };
    }

-- ---- where it is refused

nothing : (w : ℕ) (l : Lease DeviceState) → held_by [] w ≡ Some l → ⊥
unfolding held_by
nothing w l e = let clash : None ≡ Some l = e in absurd (cc)

-- a device that may be taken out is in
slot_in : (i : ℕ) (make : Make) (k : ℕ) (dev : AbstractDevice) (name : List ℕ) (slot : Slot DeviceState) → dev.listed ≡ true → dev.holder ≡ None → SlotRefines i make [] k dev name slot → (s : DeviceState) × (slot ≡ In s)
slot_in i make k dev name Gone listed free h = absurd (let clash : false ≡ true = sym h.0 ∙ listed in cc)
slot_in i make k dev name (In s) listed free h = (s, refl)
slot_in i make k dev name Out listed free (is, inl holds) = absurd (nothing holds.word holds.lease holds.stands)
slot_in i make k dev name Out listed free (is, inr away) = absurd (let clash : None ≡ Some away.other = sym free ∙ away.holder in cc)

place_in : (t : Ghost) (w : WorldCore) (name : List ℕ) (can : CanUnplug t name) (o : Option (Place DeviceState)) → WorldRefines t w → slice_get w.daemon.registry can.place ≡ o → PlaceRefines (stranger_of w w.daemon.opened) (t.system.make can.place) [] can.place (t.system.device can.place) o → IsIn w.daemon.registry name
place_in t w name can None h e view = absurd (let clash : false ≡ true = sym view.0 ∙ can.listed in cc)
place_in t w name can (Some p) h e view =
    let s = slot_in (stranger_of w w.daemon.opened) (t.system.make can.place) can.place (t.system.device can.place) p.info.name p.slot can.listed can.free view in
    let named : Some p.info.name ≡ Some name = sym (names_at w.daemon.registry can.place p e) ∙ (ap (λ (infos : List DeviceInfo). name_at infos can.place) (sym h.is_of.infos) ∙ can.named) in
    record {
      place = can.place;
      at = p;
      state = s.0;
      found = find_there w.daemon.registry name can.place p (subst HaveDifferentNames h.is_of.infos h.is_of.apart) e (unsome p.info.name name named) (subst IsThere (sym s.1) tt);
      is_at = e;
      is_in = s.1;
    }

refused : (t : Ghost) (w : WorldCore) (name : List ℕ) → WorldRefines t w → after_unplug w.daemon.registry name ≡ w.daemon.registry → (IsIn w.daemon.registry name → ⊥) → GhostLeadsTo (CanUnplug t name) (TakesOut t name) t (record w { daemon = record w.daemon { registry = after_unplug w.daemon.registry name } })
refused t w name h same never =
    subst (λ (r : Table). GhostLeadsTo (CanUnplug t name) (TakesOut t name) t (record w { daemon = record w.daemon { registry = r } })) (sym same)
    (record {
      steps = [];
      ghost_then = t;
      happens = record {
        either = inr (λ can. never (place_in t w name can (slice_get w.daemon.registry can.place) h refl ((nobody_holds t w h).places can.place)));
        does = λ can. absurd (never (place_in t w name can (slice_get w.daemon.registry can.place) h refl ((nobody_holds t w h).places can.place)));
        cannot = λ _. (refl, refl);
      };
      stands = h;
    })

-- ---- the event

taken_out : (t : Ghost) (w : WorldCore) (name : List ℕ) → WorldRefines t w → IsIn w.daemon.registry name → GhostLeadsTo (CanUnplug t name) (TakesOut t name) t (record w { daemon = record w.daemon { registry = after_unplug w.daemon.registry name } })
taken_out t w name h d = subst (λ (r : Table). GhostLeadsTo (CanUnplug t name) (TakesOut t name) t (record w { daemon = record w.daemon { registry = r } })) (sym (after_in w.daemon.registry name d)) (out_stands t w name h d)

unknown : (registry : Table) (name : List ℕ) → find_name name registry ≡ None → after_unplug registry name ≡ registry
unfolding after_unplug
unknown registry name e = ap (unplugged_at registry) e

out_already : (registry : Table) (name : List ℕ) (k : ℕ) (p : Place DeviceState) → find_name name registry ≡ Some k → slice_get registry k ≡ Some p → p.slot ≡ Out → after_unplug registry name ≡ registry
unfolding after_unplug
out_already registry name k p e at out = ap (unplugged_at registry) e ∙ ap (unplugged_of registry k) (held_there registry k p Out at out)

by_slot : (t : Ghost) (w : WorldCore) (name : List ℕ) (k : ℕ) (p : Place DeviceState) → WorldRefines t w → find_name name w.daemon.registry ≡ Some k → slice_get w.daemon.registry k ≡ Some p → ((s : DeviceState) × (p.slot ≡ In s)) ⊎ (p.slot ≡ Out) →
    GhostLeadsTo (CanUnplug t name) (TakesOut t name) t (record w { daemon = record w.daemon { registry = after_unplug w.daemon.registry name } })
by_slot t w name k p h e at (inl s) = taken_out t w name h (record { place = k; at = p; state = s.0; found = e; is_at = at; is_in = s.1 })
by_slot t w name k p h e at (inr out) =
    refused t w name h (out_already w.daemon.registry name k p e at out) (λ d.
    let place : d.place ≡ k = unsome d.place k (sym d.found ∙ e) in
    let same : d.at ≡ p = unsome d.at p (sym d.is_at ∙ (ap (slice_get w.daemon.registry) place ∙ at)) in
    let clash : In d.state ≡ Out = sym d.is_in ∙ (ap (λ (x : Place DeviceState). x.slot) same ∙ out) in absurd (cc))

by_name : (t : Ghost) (w : WorldCore) (name : List ℕ) (o : Option ℕ) → WorldRefines t w → find_name name w.daemon.registry ≡ o → GhostLeadsTo (CanUnplug t name) (TakesOut t name) t (record w { daemon = record w.daemon { registry = after_unplug w.daemon.registry name } })
by_name t w name None h e = refused t w name h (unknown w.daemon.registry name e) (λ d. let clash : None ≡ Some d.place = sym e ∙ d.found in absurd (cc))
by_name t w name (Some k) h e = let f = found_slot name w.daemon.registry k e in by_slot t w name k f.place h e f.at f.slot

pub unplugs_follow : UnplugsFollow
unplugs_follow t w name h = by_name t w name (find_name name w.daemon.registry) h refl
