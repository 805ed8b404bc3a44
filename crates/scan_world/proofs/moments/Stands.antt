-- What a session holds by the model it holds in the world, and the other way round.
use Rattle.std.specs.Prelude.{slice_get, length, ◌≤◌}
use Rattle.std.proofs.Common.{◌≡◌, ◌∙◌, ◌⊎◌, ℕ, arith, List, [], Bool, true, false, Option, Some, None, refl, sym, ap, subst, inl, inr}
use Rattle.sane_fixed.specs.declared.device_info.DeviceInfo.{DeviceInfo}
use Rattle.device_api.specs.State.{DeviceState}
use Rattle.dispatch.specs.declared.table.place.Lease.{Lease}
use Rattle.dispatch.specs.declared.table.place.Place.{Place}
use Rattle.dispatch.specs.declared.table.place.Slot.{Slot}
use Rattle.dispatch.specs.declared.table.place.Slot.TheVariants.{In, Out, Gone}
use Rattle.dispatch.specs.Table.{IsLeaseOf, Table, find_name}
use Rattle.saned_requests.specs.declared.session.AwaitedAuthorization.{AwaitedAuthorization}
use Rattle.saned_requests.specs.declared.session.Session.{Session}
use Rattle.saned_requests.specs.Holding.{held_by}
use Rattle.saned_core.specs.declared.session_slot.SessionId.{SessionId}
use Rattle.saned_core.specs.DaemonStates.{Core, session_of, session_in}
use Rattle.system_model.specs.AbstractMessages.{Challenge}
use Rattle.system_model.specs.Devices.{Make}
use Rattle.system_model.specs.AbstractDevices.{AbstractDevice}
use Rattle.system_model.specs.AbstractSessions.{AbstractSession}
use Rattle.system_model.specs.SystemStates.{JobState}
use Rattle.daemon_refines.specs.ContextRefinement.{HoldsPlace, IsAway, IsMade, LeaseRefines, PlaceRefines, SlotRefines, TableRefines, abstract_device}
use Rattle.daemon_refines.specs.Cores.{SessionRefines}
use Rattle.daemon_refines.proofs.OtherSessions.{IsThere}
use Rattle.event_world.specs.declared.endpoint.Endpoint.{Endpoint}
use Rattle.event_world.specs.Worlds.{WorldCore}
use Rattle.world_refines.specs.GhostStates.{Ghost, name_at, place_named}
use Rattle.world_refines.specs.Speaks.{Awaits, Speaks}
use Rattle.world_refines.specs.WorldRefinement.{HasNoStrangers, IsLinked, IsNobodys, IsServed, WorldRefines, session_by, slot_of_link, stranger_of}
use Rattle.world_refines.proofs.state.CoreCallsKeep.{holds_wanted}
use Rattle.world_refines.proofs.state.Finding.{found_place, names_at}
use Rattle.world_refines.proofs.state.Infos.{place_is}
use Rattle.world_refines.proofs.state.Strangers.{far_from, far_nothing, far_table, whose_is}
use Rattle.world_refines.proofs.state.Taking.{served_table}
use Rattle.scan_laws.specs.Passes.{IsInScan}
use Rattle.scan_world.specs.Sessions.{Has, SessionAt, StrangerHas}
use Rattle.scan_world.proofs.moments.Entries.{end_at, past_end}

-- ---- a device that is held by the model is lent

by_slot : (j : ℕ) (make : Make) (held : List (Option (Lease DeviceState))) (k : ℕ) (dev : AbstractDevice) (name : List ℕ) (slot : Slot DeviceState) → SlotRefines j make held k dev name slot → dev.holder ≡ Some j → HoldsPlace held k
by_slot j make held k dev name Gone r is = absurd (let clash : None ≡ Some j = sym r.1 ∙ is in cc)
by_slot j make held k dev name (In s) r is = absurd (let clash : None ≡ Some j = sym (ap (λ (x : AbstractDevice). x.holder) r.0) ∙ is in cc)
by_slot j make held k dev name Out r is = by_case r.1
  where
    by_case : HoldsPlace held k ⊎ IsAway j dev → HoldsPlace held k
    by_case (inl h) = h
    by_case (inr away) = absurd (away.no_own (let both : Some away.other ≡ Some j = sym away.holder ∙ is in cc))

by_place : (j : ℕ) (make : Make) (held : List (Option (Lease DeviceState))) (k : ℕ) (dev : AbstractDevice) (o : Option (Place DeviceState)) → PlaceRefines j make held k dev o → dev.holder ≡ Some j → HoldsPlace held k
by_place j make held k dev None r is = absurd (let clash : None ≡ Some j = sym r.1 ∙ is in cc)
by_place j make held k dev (Some p) r is = by_slot j make held k dev p.info.name p.slot r is

table_holds : (j : ℕ) (make : ℕ → Make) (held : List (Option (Lease DeviceState))) (registry : Table) (table : ℕ → AbstractDevice) → TableRefines j make held registry table → (k : ℕ) → (table k).holder ≡ Some j → HoldsPlace held k
table_holds j make held registry table r k is = by_place j (make k) held k (table k) (slice_get registry k) (r.places k) is

nothing_held : (k : ℕ) → HoldsPlace [] k → ⊥
unfolding held_by
nothing_held k h = let clash : None ≡ Some h.lease = h.stands in cc

pub record Lends (j : ℕ) (make : ℕ → Make) (core : Core) (link : Option SessionId) (device : ℕ → AbstractDevice) (k : ℕ) : Type 0 where
  pub id : SessionId
  pub linked : link ≡ Some id
  pub session : Session DeviceState
  pub stands : session_of core id.number ≡ Some session
  pub word : ℕ
  pub lease : Lease DeviceState
  pub held : held_by session.held word ≡ Some lease
  pub place : lease.place ≡ k
  pub lent : LeaseRefines j make core.registry device lease

lends : (j : ℕ) (make : ℕ → Make) (core : Core) (link : Option SessionId) (served : Bool) (device : ℕ → AbstractDevice) (s : AbstractSession) → IsServed j make core link served device s → (k : ℕ) → (device k).holder ≡ Some j → Lends j make core link device k
lends j make core link false device s h k is = absurd (nothing_held k (table_holds j make [] core.registry device h.1 k is))
lends j make core None true device s h k is = absurd h
lends j make core (Some id) true device s h k is =
    let p = table_holds j make h.session.held core.registry device h.shows.devices k is in
    record { id = id; linked = refl; session = h.session; stands = h.stands; word = p.word; lease = p.lease; held = p.stands; place = p.place; lent = h.shows.devices.leases p.word p.lease p.stands }

-- a session that stands is served
served_one : (j : ℕ) (make : ℕ → Make) (core : Core) (link : Option SessionId) (served : Bool) (device : ℕ → AbstractDevice) (s : AbstractSession) → IsServed j make core link served device s → (session : Session DeviceState) → session_in (slot_of_link core link) ≡ Some session → served ≡ true
served_one j make core link true device s h session stands = refl
served_one j make core link false device s h session stands = absurd (let clash : None ≡ Some session = sym h.0 ∙ stands in cc)

pub served_at : (t : Ghost) (w : WorldCore) (i : ℕ) (s : Session DeviceState) → WorldRefines t w → SessionAt w i s → (t.system.job i).served ≡ true
served_at t w i s h a =
    let e = h.endpoints i a.endpoint a.is_there in
    let there : session_in (slot_of_link w.daemon a.endpoint.link) ≡ Some s = ap (λ (l : Option SessionId). session_in (slot_of_link w.daemon l)) a.linked ∙ a.stands in
    served_one i t.system.make w.daemon a.endpoint.link (t.system.job i).served t.system.device (session_by i t.system.device (t.system.job i)) e.served s there

lease_name : (t : Ghost) (w : WorldCore) (l : Lease DeviceState) → WorldRefines t w → IsLeaseOf l w.daemon.registry → name_at t.infos l.place ≡ Some l.device.info.name
lease_name t w l h o =
    subst (λ (infos : List DeviceInfo). name_at infos l.place ≡ Some l.device.info.name) (sym h.is_of.infos) (names_at w.daemon.registry l.place o.place o.at ∙ ap (λ (x : List ℕ). Some x) (sym o.name))

-- whoever holds a device by the model has it
abbrev pub HasIt : Ghost → WorldCore → ℕ → ℕ → List ℕ → Type 0
HasIt t w k j name = (d : DeviceState) × Has w j name d × (t.system.device k ≡ abstract_device (Some j) d) × IsInScan d

pub job_has : (t : Ghost) (w : WorldCore) (k j : ℕ) (name : List ℕ) (p : Endpoint) → slice_get w.endpoints j ≡ Some p → WorldRefines t w → (t.system.device k).holder ≡ Some j → name_at t.infos k ≡ Some name → HasIt t w k j name
job_has t w k j name p at h is named =
    let l = lends j t.system.make w.daemon p.link (t.system.job j).served t.system.device (session_by j t.system.device (t.system.job j)) (h.endpoints j p at).served k is in
    let there : Some l.lease.device.info.name ≡ Some name = sym (lease_name t w l.lease h l.lent.own) ∙ (ap (name_at t.infos) l.place ∙ named) in (
      l.lease.device,
      record {
        session = l.session;
        at = record { endpoint = p; is_there = at; id = l.id; linked = l.linked; stands = l.stands };
        word = l.word;
        lease = l.lease;
        held = l.held;
        is = refl;
        named = (let same : Some l.lease.device.info.name ≡ Some name = there in cc);
      },
      ap t.system.device (sym l.place) ∙ l.lent.device,
      l.lent.made.in_scan,
    )

-- a client behind all jobs that holds it is a stranger, whose session has it
not_empty : (t : Ghost) (w : WorldCore) (k i : ℕ) → TableRefines i t.system.make [] w.daemon.registry t.system.device → (t.system.device k).holder ≡ Some i → ⊥
not_empty t w k i table is = nothing_held k (table_holds i t.system.make [] w.daemon.registry t.system.device table k is)

stranger_by : (t : Ghost) (w : WorldCore) (k n : ℕ) (name : List ℕ) → WorldRefines t w → (t.system.device k).holder ≡ Some (stranger_of w n) → name_at t.infos k ≡ Some name → (o : Option (Session DeviceState)) → session_of w.daemon n ≡ o → IsLinked w.endpoints n ⊎ IsNobodys w n → StrangerHas w name
stranger_by t w k n name h is named None none whose = absurd (not_empty t w k (stranger_of w n) ((h.strangers n).rests (inl none)) is)
stranger_by t w k n name h is named (Some session) sat (inl linked) = absurd (not_empty t w k (stranger_of w n) ((h.strangers n).rests (inr linked)) is)
stranger_by t w k n name h is named (Some session) sat (inr nobodys) =
    let r = ((h.strangers n).sits session sat nobodys).1 in
    let p = table_holds (stranger_of w n) t.system.make r.session.held w.daemon.registry t.system.device r.shows.devices k is in
    let l = r.shows.devices.leases p.word p.lease p.stands in
    let there : Some p.lease.device.info.name ≡ Some name = sym (lease_name t w p.lease h l.own) ∙ (ap (name_at t.infos) p.place ∙ named) in
    record { number = n; nobodys = nobodys; leases = record { session = r.session; stands = r.stands; word = p.word; lease = p.lease; held = p.stands; named = (let same : Some p.lease.device.info.name ≡ Some name = there in cc) } }

far_has : (t : Ghost) (w : WorldCore) (k j : ℕ) (name : List ℕ) → WorldRefines t w → length w.endpoints ≤ j → (t.system.device k).holder ≡ Some j → name_at t.infos k ≡ Some name → StrangerHas w name
far_has t w k j name h high is named =
    let far = far_from (length w.endpoints) j high in
    stranger_by t w k far.0 name h (is ∙ ap (λ (n : ℕ). Some n) far.1) named (session_of w.daemon far.0) refl (whose_is w far.0)

-- so a job's session has it, or a stranger's
pub holder_has : (t : Ghost) (w : WorldCore) (k j : ℕ) (name : List ℕ) → WorldRefines t w → (t.system.device k).holder ≡ Some j → name_at t.infos k ≡ Some name → HasIt t w k j name ⊎ StrangerHas w name
holder_has t w k j name h is named = elim (end_at (slice_get w.endpoints j)) [
  | inl none ↦ inr (far_has t w k j name h (past_end w.endpoints j none) is named)
  | inr there ↦ inl (job_has t w k j name there.0 there.1 h is named)
]

-- what a stranger's session has is held by the model
pub record StrangerHolds (t : Ghost) (w : WorldCore) (name : List ℕ) : Type 0 where
  pub place : ℕ
  pub number : ℕ
  pub held : (t.system.device place).holder ≡ Some (stranger_of w number)
  pub named : name_at t.infos place ≡ Some name

pub stranger_holds : (t : Ghost) (w : WorldCore) (name : List ℕ) → WorldRefines t w → StrangerHas w name → StrangerHolds t w name
stranger_holds t w name h x =
    let r = ((h.strangers x.number).sits x.leases.session x.leases.stands x.nobodys).1 in
    let same : r.session ≡ x.leases.session = (let both : Some r.session ≡ Some x.leases.session = sym r.stands ∙ x.leases.stands in cc) in
    let l = r.shows.devices.leases x.leases.word x.leases.lease (subst (λ (s : Session DeviceState). held_by s.held x.leases.word ≡ Some x.leases.lease) (sym same) x.leases.held) in
    record {
      place = x.leases.lease.place;
      number = x.number;
      held = ap (λ (dev : AbstractDevice). dev.holder) l.device;
      named = lease_name t w x.leases.lease h l.own ∙ ap (λ (n : List ℕ). Some n) x.leases.named;
    }

-- which none has where no session is a stranger's
pub none_alone : (t : Ghost) (w : WorldCore) (name : List ℕ) → WorldRefines t w → HasNoStrangers w → StrangerHas w name → ⊥
none_alone t w name h alone x =
    let s = stranger_holds t w name h x in
    not_empty t w s.place (stranger_of w s.number) (far_nothing t w (stranger_of w s.number) h alone (omega arith)) s.held

-- ---- what is had is held by the model

served_lease : (i : ℕ) (make : ℕ → Make) (core : Core) (link : Option SessionId) (served : Bool) (device : ℕ → AbstractDevice) (s : AbstractSession) → IsServed i make core link served device s → (id : SessionId) → link ≡ Some id → (session : Session DeviceState) → session_of core id.number ≡ Some session → (word : ℕ) (lease : Lease DeviceState) → held_by session.held word ≡ Some lease → LeaseRefines i make core.registry device lease
served_lease i make core link false device s h id linked session stands word lease held =
    absurd (let clash : None ≡ Some session = sym (subst (λ (l : Option SessionId). session_in (slot_of_link core l) ≡ None) linked h.0) ∙ stands in cc)
served_lease i make core None true device s h id linked session stands word lease held = absurd h
served_lease i make core (Some other) true device s h id linked session stands word lease held =
    let one : other ≡ id = (let both : Some other ≡ Some id = linked in cc) in
    let r : SessionRefines i make core id.number device s = subst (λ (x : SessionId). SessionRefines i make core x.number device s) one h in
    let same : r.session ≡ session = (let both : Some r.session ≡ Some session = sym r.stands ∙ stands in cc) in
    r.shows.devices.leases word lease (subst (λ (x : Session DeviceState). held_by x.held word ≡ Some lease) (sym same) held)

-- it is the device that the job wants
served_wants : (i : ℕ) (make : ℕ → Make) (core : Core) (link : Option SessionId) (served : Bool) (device : ℕ → AbstractDevice) (p : JobState) → IsServed i make core link served device (session_by i device p) → (id : SessionId) → link ≡ Some id → (session : Session DeviceState) → session_of core id.number ≡ Some session → (word : ℕ) (lease : Lease DeviceState) → held_by session.held word ≡ Some lease → lease.place ≡ p.session.job.wants
served_wants i make core link false device p h id linked session stands word lease held =
    absurd (let clash : None ≡ Some session = sym (subst (λ (l : Option SessionId). session_in (slot_of_link core l) ≡ None) linked h.0) ∙ stands in cc)
served_wants i make core None true device p h id linked session stands word lease held = absurd h
served_wants i make core (Some other) true device p h id linked session stands word lease held =
    let one : other ≡ id = (let both : Some other ≡ Some id = linked in cc) in
    let r : SessionRefines i make core id.number device (session_by i device p) = subst (λ (x : SessionId). SessionRefines i make core x.number device (session_by i device p)) one h in
    let same : r.session ≡ session = (let both : Some r.session ≡ Some session = sym r.stands ∙ stands in cc) in
    holds_wanted i make core id.number device p lease.place r (record { word = word; lease = lease; stands = subst (λ (x : Session DeviceState). held_by x.held word ≡ Some lease) (sym same) held; place = refl })

pub record Holds (t : Ghost) (i : ℕ) (name : List ℕ) (d : DeviceState) : Type 0 where
  pub place : ℕ
  pub is : t.system.device place ≡ abstract_device (Some i) d
  pub named : name_at t.infos place ≡ Some name
  pub made : IsMade (t.system.make place) d
  pub wanted : place ≡ (t.system.job i).session.job.wants

pub has_holds : (t : Ghost) (w : WorldCore) (i : ℕ) (name : List ℕ) (d : DeviceState) → WorldRefines t w → Has w i name d → Holds t i name d
has_holds t w i name d h x =
    let a = x.at in
    let l = served_lease i t.system.make w.daemon a.endpoint.link (t.system.job i).served t.system.device (session_by i t.system.device (t.system.job i)) (h.endpoints i a.endpoint a.is_there).served a.id a.linked x.session a.stands x.word x.lease x.held in
    record {
      place = x.lease.place;
      is = l.device ∙ ap (abstract_device (Some i)) x.is;
      named = lease_name t w x.lease h l.own ∙ (ap (λ (s : DeviceState). Some s.info.name) x.is ∙ ap (λ (n : List ℕ). Some n) x.named);
      made = subst (IsMade (t.system.make x.lease.place)) x.is l.made;
      wanted = served_wants i t.system.make w.daemon a.endpoint.link (t.system.job i).served t.system.device (t.system.job i) (h.endpoints i a.endpoint a.is_there).served a.id a.linked x.session a.stands x.word x.lease x.held;
    }

pub one_has : (t : Ghost) (w : WorldCore) (i j : ℕ) (name : List ℕ) (a b : DeviceState) → WorldRefines t w → Has w i name a → Has w j name b → i ≡ j
one_has t w i j name a b h x y =
    let m = has_holds t w i name a h x in
    let n = has_holds t w j name b h y in
    let one : m.place ≡ n.place = h.is_of.apart m.place n.place name m.named n.named in
    let both : Some i ≡ Some j = sym (ap (λ (dev : AbstractDevice). dev.holder) m.is) ∙ (ap (λ (k : ℕ). (t.system.device k).holder) one ∙ ap (λ (dev : AbstractDevice). dev.holder) n.is) in
    (let same : Some i ≡ Some j = both in cc)

-- ---- a device that is not listed by the model is not found

listed_slot : (j : ℕ) (make : Make) (held : List (Option (Lease DeviceState))) (k : ℕ) (dev : AbstractDevice) (name : List ℕ) (slot : Slot DeviceState) → SlotRefines j make held k dev name slot → dev.listed ≡ false → slot ≡ Gone
listed_slot j make held k dev name Gone r off = refl
listed_slot j make held k dev name (In s) r off = absurd (let clash : true ≡ false = sym (ap (λ (x : AbstractDevice). x.listed) r.0) ∙ off in cc)
listed_slot j make held k dev name Out r off = absurd (let clash : true ≡ false = sym r.0 ∙ off in cc)

pub table_of : (t : Ghost) (w : WorldCore) (i : ℕ) (o : Option Endpoint) → slice_get w.endpoints i ≡ o → WorldRefines t w → (held : List (Option (Lease DeviceState))) × TableRefines i t.system.make held w.daemon.registry t.system.device
table_of t w i None at h = far_table t w i h (past_end w.endpoints i at)
table_of t w i (Some p) at h = let s = served_table i t.system.make w.daemon p.link (t.system.job i).served t.system.device (session_by i t.system.device (t.system.job i)) (h.endpoints i p at).served in (s.held, s.shows)

not_found : (t : Ghost) (w : WorldCore) (name : List ℕ) (o : Option ℕ) → find_name name w.daemon.registry ≡ o → WorldRefines t w → (t.system.device (place_named t.infos name)).listed ≡ false → o ≡ None
not_found t w name None e h off = refl
not_found t w name (Some q) e h off =
    let f = found_place w.daemon.registry name q e in
    let there : name_at t.infos q ≡ Some name = subst (λ (infos : List DeviceInfo). name_at infos q ≡ Some name) (sym h.is_of.infos) (names_at w.daemon.registry q f.place f.at ∙ ap (λ (x : List ℕ). Some x) f.name_is) in
    let place : place_named t.infos name ≡ q = place_is t.infos name q h.is_of.apart there in
    let tab = table_of t w 0 (slice_get w.endpoints 0) refl h in
    let r : PlaceRefines 0 (t.system.make q) tab.0 q (t.system.device q) (Some f.place) = subst (PlaceRefines 0 (t.system.make q) tab.0 q (t.system.device q)) f.at (tab.1.places q) in
    let gone : f.place.slot ≡ Gone = listed_slot 0 (t.system.make q) tab.0 q (t.system.device q) f.place.info.name f.place.slot r (subst (λ (k : ℕ). (t.system.device k).listed ≡ false) place off) in
    absurd (there_not f.place.slot gone f.is_there)
  where
    there_not : (slot : Slot DeviceState) → slot ≡ Gone → IsThere slot → ⊥
    there_not slot e h = subst IsThere e h

pub unlisted_none : (t : Ghost) (w : WorldCore) (name : List ℕ) → WorldRefines t w → (t.system.device (place_named t.infos name)).listed ≡ false → find_name name w.daemon.registry ≡ None
unlisted_none t w name h off = not_found t w name (find_name name w.daemon.registry) refl h off

-- ---- a session that awaits by the model does

session_at : (i : ℕ) (make : ℕ → Make) (core : Core) (link : Option SessionId) (served : Bool) (device : ℕ → AbstractDevice) (s : AbstractSession) → IsServed i make core link served device s → served ≡ true → (id : SessionId) × (session : Session DeviceState) × (link ≡ Some id) × (session_of core id.number ≡ Some session)
session_at i make core link false device s h on = absurd (let clash : false ≡ true = on in cc)
session_at i make core None true device s h on = absurd h
session_at i make core (Some id) true device s h on = (id, h.session, refl, h.stands)

awaits_it : (name : List ℕ) (o : Option AwaitedAuthorization) (c : Challenge) → Awaits name o (Some c) → (a : AwaitedAuthorization) × (o ≡ Some a) × (c ≡ a.resource)
awaits_it name None c h = absurd (let clash : Some c ≡ None = h in cc)
awaits_it name (Some a) c h = (a, refl, (let both : Some c ≡ Some a.resource = h.1 in cc))

pub awaits_there : (t : Ghost) (w : WorldCore) (i : ℕ) (c : Challenge) → WorldRefines t w → (o : Option Endpoint) → slice_get w.endpoints i ≡ o → (t.system.job i).served ≡ true → (t.system.job i).linked ≡ true → (t.system.job i).session.awaited ≡ Some c → (s : Session DeviceState) × (a : AwaitedAuthorization) × SessionAt w i s × (s.awaited ≡ Some a) × (c ≡ a.resource)
awaits_there t w i c h None at on linked is = absurd (let clash : false ≡ true = sym (h.beyond i (past_end w.endpoints i at)).linked ∙ linked in cc)
awaits_there t w i c h (Some p) at on linked is =
    let e = h.endpoints i p at in
    let x = session_at i t.system.make w.daemon p.link (t.system.job i).served t.system.device (session_by i t.system.device (t.system.job i)) e.served on in
    let there : session_in (slot_of_link w.daemon p.link) ≡ Some x.1 = subst (λ (l : Option SessionId). session_in (slot_of_link w.daemon l) ≡ Some x.1) (sym x.2) x.3 in
    let speaks : Speaks (t.jobs i).device (t.system.job i) (Some x.1) = subst (Speaks (t.jobs i).device (t.system.job i)) there e.speaks in
    let a = awaits_it (t.jobs i).device x.1.awaited c (subst (Awaits (t.jobs i).device x.1.awaited) is speaks.awaits) in
    (x.1, a.0, record { endpoint = p; is_there = at; id = x.0; linked = x.2; stands = x.3 }, a.1, a.2)

-- ---- one session has one device of a name

same_session : (w : WorldCore) (i : ℕ) (s r : Session DeviceState) → SessionAt w i s → SessionAt w i r → s ≡ r
same_session w i s r a b =
    let one : a.endpoint ≡ b.endpoint = (let both : Some a.endpoint ≡ Some b.endpoint = sym a.is_there ∙ b.is_there in cc) in
    let id : a.id ≡ b.id = (let both : Some a.id ≡ Some b.id = sym a.linked ∙ (ap (λ (p : Endpoint). p.link) one ∙ b.linked) in cc) in
    (let both : Some s ≡ Some r = sym a.stands ∙ (ap (λ (x : SessionId). session_of w.daemon x.number) id ∙ b.stands) in cc)

served_apart : (i : ℕ) (make : ℕ → Make) (core : Core) (link : Option SessionId) (served : Bool) (device : ℕ → AbstractDevice) (s : AbstractSession) → IsServed i make core link served device s → (id : SessionId) → link ≡ Some id → (session : Session DeviceState) → session_of core id.number ≡ Some session → TableRefines i make session.held core.registry device
served_apart i make core link false device s h id linked session stands = absurd (let clash : None ≡ Some session = sym (subst (λ (l : Option SessionId). session_in (slot_of_link core l) ≡ None) linked h.0) ∙ stands in cc)
served_apart i make core None true device s h id linked session stands = absurd h
served_apart i make core (Some other) true device s h id linked session stands =
    let one : other ≡ id = (let both : Some other ≡ Some id = linked in cc) in
    let r : SessionRefines i make core id.number device s = subst (λ (x : SessionId). SessionRefines i make core x.number device s) one h in
    let same : r.session ≡ session = (let both : Some r.session ≡ Some session = sym r.stands ∙ stands in cc) in
    subst (λ (x : Session DeviceState). TableRefines i make x.held core.registry device) same r.shows.devices

pub one_lease : (t : Ghost) (w : WorldCore) (i : ℕ) (name : List ℕ) (a b : DeviceState) → WorldRefines t w → (x : Has w i name a) → (y : Has w i name b) → (a ≡ b) × (x.word ≡ y.word)
one_lease t w i name a b h x y =
    let s = x.at in
    let tab = served_apart i t.system.make w.daemon s.endpoint.link (t.system.job i).served t.system.device (session_by i t.system.device (t.system.job i)) (h.endpoints i s.endpoint s.is_there).served s.id s.linked x.session s.stands in
    let session : y.session ≡ x.session = same_session w i y.session x.session y.at x.at in
    let held : held_by x.session.held y.word ≡ Some y.lease = ap (λ (r : Session DeviceState). held_by r.held y.word) (sym session) ∙ y.held in
    let m = tab.leases x.word x.lease x.held in
    let n = tab.leases y.word y.lease held in
    let first : name_at t.infos x.lease.place ≡ Some name = lease_name t w x.lease h m.own ∙ (ap (λ (d : DeviceState). Some d.info.name) x.is ∙ ap (λ (z : List ℕ). Some z) x.named) in
    let second : name_at t.infos y.lease.place ≡ Some name = lease_name t w y.lease h n.own ∙ (ap (λ (d : DeviceState). Some d.info.name) y.is ∙ ap (λ (z : List ℕ). Some z) y.named) in
    let word = tab.apart x.word y.word x.lease y.lease x.held held (h.is_of.apart x.lease.place y.lease.place name first second) in
    let lease : x.lease ≡ y.lease = (let both : Some x.lease ≡ Some y.lease = sym x.held ∙ (ap (held_by x.session.held) word ∙ held) in cc) in
    (sym x.is ∙ (ap (λ (l : Lease DeviceState). l.device) lease ∙ y.is), word)
