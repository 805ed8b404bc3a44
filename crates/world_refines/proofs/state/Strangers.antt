-- Sessions that no endpoint has, and what a call for one of them leaves to all others.
use Rattle.std.specs.Prelude.{if◌then◌else◌}
use Rattle.std.specs.List.{AllByRecursion}
use Rattle.std.proofs.Common.{◌≡◌, ◌≢◌, ◌⊎◌, inl, inr, ◌∙◌, ℕ, zero, suc, ◌+◌, ◌<◌, ◌≤◌, List, [], ◌∷◌, Option, Some, None, Bool, true, false, eqb-true, refl, sym, ap, subst, map, length, slice_get, arith}
use Rattle.device_api.specs.State.{DeviceState}
use Rattle.sane_fixed.specs.declared.device_info.DeviceInfo.{DeviceInfo}
use Rattle.saned_requests.specs.declared.session.Session.{Session as RequestSession}
use Rattle.saned_core.specs.declared.session_slot.SessionSlot.{SessionSlot}
use Rattle.saned_core.specs.declared.session_slot.SessionId.{SessionId}
use Rattle.saned_core.specs.DaemonStates.{Core, is_slot_number, session_in, session_of, session_slot_of}
use Rattle.system_model.specs.Devices.{Make}
use Rattle.system_model.specs.AbstractDevices.{AbstractDevice}
use Rattle.system_model.specs.AbstractSessions.{AbstractSession}
use Rattle.system_model.specs.SystemStates.{JobState, SystemState}
use Rattle.system_model.specs.Invariants.{Invariant}
use Rattle.daemon_refines.specs.ContextRefinement.{TableRefines}
use Rattle.daemon_refines.specs.OtherSessions.{LeavesOthers}
use Rattle.daemon_refines.specs.Cores.{SessionRefines}
use Rattle.daemon_refines.proofs.Changes.{Held}
use Rattle.daemon_refines.proofs.Cores.{stands_as}
use Rattle.daemon_refines.proofs.Moved.{unsome}
use Rattle.event_world.specs.declared.endpoint.Endpoint.{Endpoint}
use Rattle.event_world.specs.Worlds.{WorldCore}
use Rattle.world_refines.specs.GhostStates.{Ghost}
use Rattle.world_refines.specs.Speaks.{AsksAsHeld, Speaks}
use Rattle.world_refines.specs.WorldRefinement.{AreFaithful, EndpointRefinesAt, HasNoStrangers, HaveDifferentNumbers, IsBelow, IsLinked, IsNobodys, IsServed, StrangerStands, WiresMatch, WorldRefines, info_at, session_by, slot_of_link, stranger_of}
use Rattle.world_refines.proofs.state.EndpointSlots.{below_at}
use Rattle.world_refines.proofs.state.ListEntries.{is_same, within}
use Rattle.world_refines.proofs.state.Sees.{IsOther, session_same, table_stands}

abbrev Slots : Type 0
Slots = List (Option (SessionSlot DeviceState))

-- ---- whose session a number is

abbrev pub IsUnlinked : List Endpoint → ℕ → Type 0
IsUnlinked endpoints n = (j : ℕ) (endpoint : Endpoint) (id : SessionId) → slice_get endpoints j ≡ Some endpoint → endpoint.link ≡ Some id → id.number ≢ n

unlinked_both : (p : Endpoint) (endpoints : List Endpoint) (n : ℕ) → ((id : SessionId) → p.link ≡ Some id → id.number ≢ n) → IsUnlinked endpoints n → IsUnlinked (p ∷ endpoints) n
unlinked_both p endpoints n own more zero endpoint id at link = own id (ap (λ (x : Endpoint). x.link) (unsome p endpoint at) ∙ link)
unlinked_both p endpoints n own more (suc j) endpoint id at link = more j endpoint id at link

linked_more : (p : Endpoint) (endpoints : List Endpoint) (n : ℕ) → ((id : SessionId) → p.link ≡ Some id → id.number ≢ n) → IsLinked endpoints n ⊎ IsUnlinked endpoints n → IsLinked (p ∷ endpoints) n ⊎ IsUnlinked (p ∷ endpoints) n
linked_more p endpoints n own (inl l) = inl (record { place = suc l.place; endpoint = l.endpoint; id = l.id; at = l.at; link = l.link; number = l.number })
linked_more p endpoints n own (inr more) = inr (unlinked_both p endpoints n own more)

linked_number : (p : Endpoint) (endpoints : List Endpoint) (n : ℕ) (id : SessionId) → p.link ≡ Some id → (id.number ≡ n) ⊎ (id.number ≢ n) → IsLinked endpoints n ⊎ IsUnlinked endpoints n → IsLinked (p ∷ endpoints) n ⊎ IsUnlinked (p ∷ endpoints) n
linked_number p endpoints n id link (inl same) more = inl (record { place = 0; endpoint = p; id = id; at = refl; link = link; number = same })
linked_number p endpoints n id link (inr off) more = linked_more p endpoints n (λ other is. subst (λ (x : SessionId). x.number ≢ n) (unsome id other (sym link ∙ is)) off) more

linked_first : (p : Endpoint) (endpoints : List Endpoint) (n : ℕ) (link : Option SessionId) → p.link ≡ link → IsLinked endpoints n ⊎ IsUnlinked endpoints n → IsLinked (p ∷ endpoints) n ⊎ IsUnlinked (p ∷ endpoints) n
linked_first p endpoints n None is more = linked_more p endpoints n (λ id e. absurd (let clash : None ≡ Some id = sym is ∙ e in cc)) more
linked_first p endpoints n (Some id) is more = linked_number p endpoints n id is (is_same id.number n) more

linked_or_not : (endpoints : List Endpoint) (n : ℕ) → IsLinked endpoints n ⊎ IsUnlinked endpoints n
linked_or_not [] n = inr (λ j endpoint id at link. absurd (let clash : None ≡ Some endpoint = at in cc))
linked_or_not (p ∷ endpoints) n = linked_first p endpoints n p.link refl (linked_or_not endpoints n)

pub whose_is : (w : WorldCore) (n : ℕ) → IsLinked w.endpoints n ⊎ IsNobodys w n
whose_is w n = linked_or_not w.endpoints n

pub not_linked : (w : WorldCore) (n : ℕ) → IsNobodys w n → IsLinked w.endpoints n → ⊥
not_linked w n none l = none l.place l.endpoint l.id l.at l.link l.number

-- ---- where the slot of a number is

pub record IsAt (slots : Slots) (n : ℕ) (slot : SessionSlot DeviceState) : Type 0 where
  pub place : ℕ
  pub at : slice_get slots place ≡ Some (Some slot)
  pub number : slot.number ≡ n

at_by : (x : Option (SessionSlot DeviceState)) (slots : Slots) (n : ℕ) (slot : SessionSlot DeviceState) (b : Bool) → is_slot_number n x ≡ b → (if b then x else session_slot_of slots n) ≡ Some slot → (session_slot_of slots n ≡ Some slot → IsAt slots n slot) → IsAt (x ∷ slots) n slot
at_by None slots n slot true e is more = absurd (let clash : false ≡ true = e in cc)
at_by (Some s) slots n slot true e is more =
    let same : s ≡ slot = unsome s slot is in
    record { place = 0; at = ap (λ (x : SessionSlot DeviceState). Some (Some x)) same; number = ap (λ (x : SessionSlot DeviceState). x.number) (sym same) ∙ eqb-true s.number n e }
at_by x slots n slot false e is more = let l = more is in record { place = suc l.place; at = l.at; number = l.number }

pub found_at : (slots : Slots) (n : ℕ) (slot : SessionSlot DeviceState) → session_slot_of slots n ≡ Some slot → IsAt slots n slot
unfolding session_slot_of
found_at [] n slot is = absurd (let clash : None ≡ Some slot = is in cc)
found_at (x ∷ slots) n slot is = at_by x slots n slot (is_slot_number n x) refl is (found_at slots n slot)

pub slot_below : (opened : ℕ) (slots : Slots) (n : ℕ) (slot : SessionSlot DeviceState) → AllByRecursion (IsBelow opened) slots → session_slot_of slots n ≡ Some slot → n < opened
slot_below opened slots n slot below is =
    let l = found_at slots n slot is in
    subst (λ (k : ℕ). k < opened) l.number (below_at opened slots l.place slot below l.at)

-- no session has a number that was not given yet
pub none_yet : (opened : ℕ) (slots : Slots) (n : ℕ) → AllByRecursion (IsBelow opened) slots → opened ≤ n → session_in (session_slot_of slots n) ≡ None
none_yet opened slots n below high = by (session_slot_of slots n) refl
  where
    by : (o : Option (SessionSlot DeviceState)) → session_slot_of slots n ≡ o → session_in o ≡ None
    by None e = refl
    by (Some slot) e = let low = slot_below opened slots n slot below e in absurd (omega (arith, low, high))

-- a session has a slot
pub slot_of_session : (o : Option (SessionSlot DeviceState)) (session : RequestSession DeviceState) → session_in o ≡ Some session → (slot : SessionSlot DeviceState) × (o ≡ Some slot)
slot_of_session None session is = absurd (let clash : None ≡ Some session = is in cc)
slot_of_session (Some slot) session is = (slot, refl)

pub session_below : (d : Core) (n : ℕ) (session : RequestSession DeviceState) → AllByRecursion (IsBelow d.opened) d.slots → session_of d n ≡ Some session → n < d.opened
session_below d n session below is = let s = slot_of_session (session_slot_of d.slots n) session is in slot_below d.opened d.slots n s.0 below s.1

-- the next number is nobody's, and holds nothing
pub nobody_holds : (t : Ghost) (w : WorldCore) → WorldRefines t w → TableRefines (stranger_of w w.daemon.opened) t.system.make [] w.daemon.registry t.system.device
nobody_holds t w h = (h.strangers w.daemon.opened).rests (inl (none_yet w.daemon.opened w.daemon.slots w.daemon.opened h.slots (omega arith)))

-- who is behind all jobs is a stranger of some number
pub far_from : (count j : ℕ) → count ≤ j → (n : ℕ) × (j ≡ count + n)
far_from zero j high = (j, omega arith)
far_from (suc count) zero high = absurd (omega (arith, high))
far_from (suc count) (suc j) high = let f = far_from count j (omega (arith, high)) in (f.0, let more : j ≡ count + f.0 = f.1 in omega (arith, more))

-- what he holds, and that it is nothing where there are no strangers
held_by_number : (t : Ghost) (w : WorldCore) (n : ℕ) → WorldRefines t w → (o : Option (RequestSession DeviceState)) → session_of w.daemon n ≡ o → IsLinked w.endpoints n ⊎ IsNobodys w n → (held : Held) × TableRefines (stranger_of w n) t.system.make held w.daemon.registry t.system.device
held_by_number t w n h None none whose = ([], (h.strangers n).rests (inl none))
held_by_number t w n h (Some session) sat (inl linked) = ([], (h.strangers n).rests (inr linked))
held_by_number t w n h (Some session) sat (inr nobodys) = let s = (h.strangers n).sits session sat nobodys in (s.1.session.held, s.1.shows.devices)

pub far_table : (t : Ghost) (w : WorldCore) (j : ℕ) → WorldRefines t w → length w.endpoints ≤ j → (held : Held) × TableRefines j t.system.make held w.daemon.registry t.system.device
far_table t w j h high =
    let far = far_from (length w.endpoints) j high in
    let found = held_by_number t w far.0 h (session_of w.daemon far.0) refl (whose_is w far.0) in
    (found.0, subst (λ (x : ℕ). TableRefines x t.system.make found.0 w.daemon.registry t.system.device) (sym far.1) found.1)

nothing_by_number : (t : Ghost) (w : WorldCore) (n : ℕ) → WorldRefines t w → HasNoStrangers w → (o : Option (RequestSession DeviceState)) → session_of w.daemon n ≡ o → TableRefines (stranger_of w n) t.system.make [] w.daemon.registry t.system.device
nothing_by_number t w n h alone None none = (h.strangers n).rests (inl none)
nothing_by_number t w n h alone (Some session) sat =
    let s = slot_of_session (session_slot_of w.daemon.slots n) session sat in
    let l = found_at w.daemon.slots n s.0 s.1 in
    (h.strangers n).rests (inr (subst (IsLinked w.endpoints) l.number (alone l.place s.0 l.at)))

pub far_nothing : (t : Ghost) (w : WorldCore) (j : ℕ) → WorldRefines t w → HasNoStrangers w → length w.endpoints ≤ j → TableRefines j t.system.make [] w.daemon.registry t.system.device
far_nothing t w j h alone high =
    let far = far_from (length w.endpoints) j high in
    subst (λ (x : ℕ). TableRefines x t.system.make [] w.daemon.registry t.system.device) (sym far.1) (nothing_by_number t w far.0 h alone (session_of w.daemon far.0) refl)

-- what is another number than any endpoint's
pub other_link : (link : Option SessionId) (n : ℕ) → ((id : SessionId) → link ≡ Some id → id.number ≢ n) → IsOther link n
other_link None n apart = tt
other_link (Some id) n apart = λ same. apart id refl (sym same)

-- ---- what a call for session n of client i leaves to an endpoint

-- the session is not the link's
abbrev pub IsApart : Option SessionId → ℕ → Type 0
IsApart link n = (id : SessionId) → link ≡ Some id → id.number ≢ n

pub record LeavesAll (i : ℕ) (make : ℕ → Make) (n : ℕ) (d e : Core) (table device : ℕ → AbstractDevice) : Type 0 where
  pub held : Held
  pub shows : TableRefines i make held e.registry device
  pub others : LeavesOthers i d.registry e.registry table device
  pub slots : (m : ℕ) → m ≢ n → session_slot_of e.slots m ≡ session_slot_of d.slots m

slot_same : (link : Option SessionId) (n : ℕ) (d e : Core) → IsApart link n → ((m : ℕ) → m ≢ n → session_slot_of e.slots m ≡ session_slot_of d.slots m) → slot_of_link e link ≡ slot_of_link d link
slot_same None n d e apart slots = refl
slot_same (Some id) n d e apart slots = slots id.number (apart id refl)

served_same : (i j n : ℕ) (make : ℕ → Make) (link : Option SessionId) (d e : Core) (table device : ℕ → AbstractDevice) (p : JobState) (served : Bool) → j ≢ i → IsApart link n → LeavesAll i make n d e table device → IsServed j make d link served table (session_by j table p) → IsServed j make e link served device (session_by j device p)
served_same i j n make None d e table device p true off apart l h = absurd h
served_same i j n make (Some id) d e table device p true off apart l h =
    subst (λ (s : AbstractSession). SessionRefines j make e id.number device s) (sym (session_same i j d.registry e.registry table device p off l.others))
    (stands_as i j id.number make d e table device _ off (ap session_in (l.slots id.number (apart id refl))) (record { held = l.held; shows = l.shows; others = l.others }) h)
served_same i j n make link d e table device p false off apart l h =
    (ap session_in (slot_same link n d e apart l.slots) ∙ h.0, table_stands i j make l.held d.stream d.registry e.registry table device off l.shows l.others h.1)

abbrev with_table : (ℕ → AbstractDevice) → Ghost → Ghost
with_table device t = record t { system = record t.system { device = device } }

pub sits_same : (t : Ghost) (i j n : ℕ) (d e : Core) (device : ℕ → AbstractDevice) (endpoint : Endpoint) → j ≢ i → IsApart endpoint.link n → LeavesAll i t.system.make n d e t.system.device device → EndpointRefinesAt t d j endpoint → EndpointRefinesAt (with_table device t) e j endpoint
sits_same t i j n d e device endpoint off apart l h =
    let slot = slot_same endpoint.link n d e apart l.slots in
    record {
      job_is = h.job_is;
      exchanges = h.exchanges;
      carries = subst (λ (x : Option (SessionSlot DeviceState)). WiresMatch (t.wires j) x endpoint) (sym slot) h.carries;
      means = h.means;
      served = served_same i j n t.system.make endpoint.link d e t.system.device device (t.system.job j) (t.system.job j).served off apart l h.served;
      speaks = subst (λ (x : Option (SessionSlot DeviceState)). Speaks (t.jobs j).device (t.system.job j) (session_in x)) (sym slot) h.speaks;
      waits = h.waits;
      pends = h.pends;
    }

-- ---- to another stranger

pub two_strangers : (w : WorldCore) (m n : ℕ) → m ≢ n → stranger_of w m ≢ stranger_of w n
two_strangers w m n off same = off (let same_sum : length w.endpoints + m ≡ length w.endpoints + n = same in omega (arith, same_sum))

pub other_stranger : (t : Ghost) (w : WorldCore) (n m : ℕ) (e : Core) (device : ℕ → AbstractDevice) → LeavesAll (stranger_of w n) t.system.make n w.daemon e t.system.device device → m ≢ n → StrangerStands t w m → StrangerStands (with_table device t) (record w { daemon = e }) m
other_stranger t w n m e device l off h =
    let i = stranger_of w n in
    let j = stranger_of w m in
    let same : session_of e m ≡ session_of w.daemon m = ap session_in (l.slots m off) in
    record {
      sits = λ session is apart_from.
          let old = h.sits session (sym same ∙ is) apart_from in
          (old.0, stands_as i j m t.system.make w.daemon e t.system.device device old.0 (two_strangers w m n off) same (record { held = l.held; shows = l.shows; others = l.others }) old.1);
      rests = λ either. table_stands i j t.system.make l.held w.daemon.stream w.daemon.registry e.registry t.system.device device (two_strangers w m n off) l.shows l.others (h.rests (as_before same either));
    }
  where
    as_before : session_of e m ≡ session_of w.daemon m → (session_of e m ≡ None) ⊎ IsLinked w.endpoints m → (session_of w.daemon m ≡ None) ⊎ IsLinked w.endpoints m
    as_before same (inl none) = inl (sym same ∙ none)
    as_before same (inr linked) = inr linked

-- ---- a world in which one stranger's session changed, and his devices

-- what all of the change comes to
pub record StrangerChange (t : Ghost) (w : WorldCore) (n : ℕ) (e : Core) (device : ℕ → AbstractDevice) : Type 0 where
  pub nobodys : IsNobodys w n
  pub users : e.users ≡ w.daemon.users
  pub infos : map info_at e.registry ≡ map info_at w.daemon.registry
  pub opened : w.daemon.opened ≤ e.opened
  pub below : AllByRecursion (IsBelow e.opened) e.slots
  pub apart : HaveDifferentNumbers e.slots
  pub faithful : AreFaithful e
  pub leaves : LeavesAll (stranger_of w n) t.system.make n w.daemon e t.system.device device
  pub sound : Invariant (record t.system { device = device })
  pub asks : (j : ℕ) → AsksAsHeld (record t.system { device = device }) j
  pub sits : (session : RequestSession DeviceState) → session_of e n ≡ Some session → (s : AbstractSession) × SessionRefines (stranger_of w n) t.system.make e n device s
  pub rests : session_of e n ≡ None → TableRefines (stranger_of w n) t.system.make [] e.registry device

own_stranger : (t : Ghost) (w : WorldCore) (n : ℕ) (e : Core) (device : ℕ → AbstractDevice) → StrangerChange t w n e device → StrangerStands (with_table device t) (record w { daemon = e }) n
own_stranger t w n e device c = record {
  sits = λ session is apart_from. c.sits session is;
  rests = λ either. by either;
}
  where
    by : (session_of e n ≡ None) ⊎ IsLinked w.endpoints n → TableRefines (stranger_of w n) t.system.make [] e.registry device
    by (inl none) = c.rests none
    by (inr linked) = absurd (not_linked w n c.nobodys linked)

pub stranger_changes : (t : Ghost) (w : WorldCore) (n : ℕ) (e : Core) (device : ℕ → AbstractDevice) → WorldRefines t w → StrangerChange t w n e device → WorldRefines (with_table device t) (record w { daemon = e })
stranger_changes t w n e device h c = record {
  sound = c.sound;
  asks = c.asks;
  shown = h.shown;
  is_of = record {
    count = h.is_of.count;
    users = h.is_of.users ∙ sym c.users;
    infos = h.is_of.infos ∙ sym c.infos;
    apart = h.is_of.apart;
    places = h.is_of.places;
    counts = h.is_of.counts;
  };
  endpoints = λ j endpoint at.
      let low = within w.endpoints j endpoint at in
      sits_same t (stranger_of w n) j n w.daemon e device endpoint (λ same. omega (arith, low, same)) (λ id is. c.nobodys j endpoint id at is) c.leaves (h.endpoints j endpoint at);
  beyond = λ j high. let b = h.beyond j high in record { stage = b.stage; linked = b.linked; transfer = b.transfer; image = b.image };
  strangers = λ m. by m (is_same m n);
  own = h.own;
  links = λ j endpoint id at is. let low = h.links j endpoint id at is in let more = c.opened in omega (arith, low, more);
  slots = c.below;
  apart = c.apart;
  faithful = c.faithful;
  begun = h.begun;
}
  where
    by : (m : ℕ) → (m ≡ n) ⊎ (m ≢ n) → StrangerStands (with_table device t) (record w { daemon = e }) m
    by m (inl same) = subst (λ (x : ℕ). StrangerStands (with_table device t) (record w { daemon = e }) x) (sym same) (own_stranger t w n e device c)
    by m (inr off) = other_stranger t w n m e device c.leaves off (h.strangers m)
