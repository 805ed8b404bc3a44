-- A world in which one job, its device and its session changed.
use Rattle.std.proofs.Common.{◌≡◌, ◌≢◌, ◌⊎◌, inl, inr, ◌∙◌, ℕ, ◌+◌, ◌<◌, ◌≤◌, List, [], Option, Some, None, refl, sym, ap, subst, length, slice_get, slice_set, arith}
use Rattle.frame_join.specs.FrameHistory.{JoinHistory}
use Rattle.device_api.specs.State.{DeviceState}
use Rattle.sane_fixed.specs.declared.device_info.DeviceInfo.{DeviceInfo}
use Rattle.md5_auth.specs.declared.users.Entry.{Entry}
use Rattle.saned_core.specs.declared.session_slot.SessionSlot.{SessionSlot}
use Rattle.saned_core.specs.declared.session_slot.SessionId.{SessionId}
use Rattle.saned_core.specs.DaemonStates.{Core, session_in, session_of, session_slot_of}
use Rattle.saned_requests.specs.declared.session.Session.{Session as RequestSession}
use Rattle.scan_job.specs.JobSize.{HasCount}
use Rattle.scan_job.specs.declared.job.Job.{Job}
use Rattle.system_model.specs.Devices.{Make}
use Rattle.system_model.specs.SystemStates.{JobState}
use Rattle.system_model.specs.Invariants.{Invariant}
use Rattle.event_world.specs.declared.endpoint.Endpoint.{Endpoint}
use Rattle.event_world.specs.Worlds.{WorldCore}
use Rattle.world_refines.specs.Speaks.{AsksAsHeld, Speaks}
use Rattle.world_refines.specs.GhostStates.{Ghost, Wires}
use Rattle.daemon_refines.specs.ContextRefinement.{TableRefines}
use Rattle.daemon_refines.specs.Cores.{SessionRefines}
use Rattle.daemon_refines.proofs.Moved.{unsome}
use Rattle.world_refines.specs.WorldRefinement.{HaveDifferentNames, WiresMatch, HaveOwn, IsLinked, IsNobody, IsNobodys, IsServed, StrangerStands, stranger_of, AreListedBelow, EndpointRefines, EndpointRefinesAt, WorldRefines, numbers_from, slot_of_link, session_by, AreStartedViews}
use Rattle.world_refines.proofs.state.ListEntries.{is_same, set_elsewhere, set_length, set_there}
use Rattle.world_refines.proofs.state.EndpointSlots.{IsNew, Replaces, WasSlot, below_at, slot_change}
use Rattle.world_refines.proofs.state.Sees.{IsOther, Leaves, other_stands, slot_stands, served_stands, table_stands}
use Rattle.world_refines.proofs.state.Strangers.{IsAt, IsUnlinked, found_at, none_yet, other_link, session_below, slot_of_session, whose_is}

-- what never changes is the same, and so is all of every job but i
pub record IsChange (i : ℕ) (t u : Ghost) : Type 0 where
  pub users : u.users ≡ t.users
  pub infos : u.infos ≡ t.infos
  pub count : u.count ≡ t.count
  pub jobs : u.jobs ≡ t.jobs
  pub make : u.system.make ≡ t.system.make
  pub places : u.system.places ≡ t.system.places
  pub job : (j : ℕ) → j ≢ i → u.system.job j ≡ t.system.job j
  pub wires : (j : ℕ) → j ≢ i → u.wires j ≡ t.wires j
  pub history : (j : ℕ) → j ≢ i → u.history j ≡ t.history j
  pub pages : (j : ℕ) → j ≢ i → u.pages j ≡ t.pages j

-- what all of the change comes to
pub record Change (i : ℕ) (t u : Ghost) (w : WorldCore) (p q : Endpoint) (e : Core) : Type 0 where
  pub told : IsChange i t u
  pub leaves : Leaves i t.system.make p.link w.daemon e t.system.device u.system.device
  pub sound : Invariant u.system
  pub asks : (j : ℕ) → AsksAsHeld u.system j
  pub shown : (j : ℕ) → AreListedBelow (length u.infos) (u.system.job j).session.shown
  pub sits : EndpointRefinesAt u e i q
  -- its session is the one that it had, or was not opened before
  pub link : (id : SessionId) → q.link ≡ Some id → (p.link ≡ Some id) ⊎ ((w.daemon.opened ≤ id.number) × (id.number < e.opened))
  pub replaces : Replaces p.link q.link w.daemon e
  pub begun : AreStartedViews t.system.make (u.system.job i)

abbrev changed : WorldCore → ℕ → Endpoint → Core → WorldCore
changed w i q e = record { daemon = e; endpoints = slice_set w.endpoints i q }

-- ---- another job

-- its session has another number
own_number : (w : WorldCore) (i j : ℕ) (p endpoint : Endpoint) (id : SessionId) (link : Option SessionId) → HaveOwn w → j ≢ i → slice_get w.endpoints i ≡ Some p → slice_get w.endpoints j ≡ Some endpoint → endpoint.link ≡ Some id → p.link ≡ link → IsOther link id.number
own_number w i j p endpoint id None own n at there is e = tt
own_number w i j p endpoint id (Some x) own n at there is e = λ same. n (own j i endpoint p id x there at is e same)

other_apart : (t : Ghost) (w : WorldCore) (i j : ℕ) (p endpoint : Endpoint) → WorldRefines t w → j ≢ i → slice_get w.endpoints i ≡ Some p → slice_get w.endpoints j ≡ Some endpoint → (id : SessionId) → endpoint.link ≡ Some id → IsOther p.link id.number × (id.number < w.daemon.opened)
other_apart t w i j p endpoint h n at there id is = (own_number w i j p endpoint id p.link h.own n at there is refl, h.links j endpoint id there is)

-- all that is said of it, of the same facts
sits_same : (t u : Ghost) (d e : Core) (i j : ℕ) (endpoint : Endpoint) → j ≢ i → IsChange i t u → slot_of_link e endpoint.link ≡ slot_of_link d endpoint.link →
    IsServed j t.system.make e endpoint.link (t.system.job j).served u.system.device (session_by j u.system.device (t.system.job j)) → EndpointRefinesAt t d j endpoint → EndpointRefinesAt u e j endpoint
sits_same t u d e i j endpoint n c slot served h =
    subst (λ (x : List Entry). EndpointRefines x u.infos (u.jobs j) u.system.make u.system.device j (u.system.job j) (u.wires j) (u.history j) (u.pages j) e endpoint) (sym c.users)
    (subst (λ (x : List DeviceInfo). EndpointRefines t.users x (u.jobs j) u.system.make u.system.device j (u.system.job j) (u.wires j) (u.history j) (u.pages j) e endpoint) (sym c.infos)
    (subst (λ (x : ℕ → Job). EndpointRefines t.users t.infos (x j) u.system.make u.system.device j (u.system.job j) (u.wires j) (u.history j) (u.pages j) e endpoint) (sym c.jobs)
    (subst (λ (x : ℕ → Make). EndpointRefines t.users t.infos (t.jobs j) x u.system.device j (u.system.job j) (u.wires j) (u.history j) (u.pages j) e endpoint) (sym c.make)
    (subst (λ (x : JobState). EndpointRefines t.users t.infos (t.jobs j) t.system.make u.system.device j x (u.wires j) (u.history j) (u.pages j) e endpoint) (sym (c.job j n))
    (subst (λ (x : Wires). EndpointRefines t.users t.infos (t.jobs j) t.system.make u.system.device j (t.system.job j) x (u.history j) (u.pages j) e endpoint) (sym (c.wires j n))
    (subst (λ (x : JoinHistory). EndpointRefines t.users t.infos (t.jobs j) t.system.make u.system.device j (t.system.job j) (t.wires j) x (u.pages j) e endpoint) (sym (c.history j n))
    (subst (λ (x : List JoinHistory). EndpointRefines t.users t.infos (t.jobs j) t.system.make u.system.device j (t.system.job j) (t.wires j) (t.history j) x e endpoint) (sym (c.pages j n))
    (record {
      job_is = h.job_is;
      exchanges = h.exchanges;
      carries = subst (λ (x : Option (SessionSlot DeviceState)). WiresMatch (t.wires j) x endpoint) (sym slot) h.carries;
      means = h.means;
      served = served;
      speaks = subst (λ (x : Option (SessionSlot DeviceState)). Speaks (t.jobs j).device (t.system.job j) (session_in x)) (sym slot) h.speaks;
      waits = h.waits;
      pends = h.pends;
    }))))))))

other_sits : (t u : Ghost) (w : WorldCore) (i j : ℕ) (p q endpoint : Endpoint) (e : Core) → WorldRefines t w → slice_get w.endpoints i ≡ Some p → Change i t u w p q e → j ≢ i → slice_get w.endpoints j ≡ Some endpoint → EndpointRefinesAt u e j endpoint
other_sits t u w i j p q endpoint e h at c n there =
    let s = h.endpoints j endpoint there in
    let apart = other_apart t w i j p endpoint h n at there in
    sits_same t u w.daemon e i j endpoint n c.told
    (slot_stands i t.system.make p.link endpoint.link w.daemon e t.system.device u.system.device apart c.leaves)
    (served_stands i j t.system.make p.link endpoint.link w.daemon e t.system.device u.system.device (t.system.job j) (t.system.job j).served n apart c.leaves s.served) s

each_sits : (t u : Ghost) (w : WorldCore) (i j : ℕ) (p q endpoint : Endpoint) (e : Core) → WorldRefines t w → slice_get w.endpoints i ≡ Some p → Change i t u w p q e → (j ≡ i) ⊎ (j ≢ i) → slice_get (slice_set w.endpoints i q) j ≡ Some endpoint → EndpointRefinesAt u e j endpoint
each_sits t u w i j p q endpoint e h at c (inl same) there =
    let q_is : Some q ≡ Some endpoint = sym (set_there w.endpoints i q p at) ∙ (ap (slice_get (slice_set w.endpoints i q)) (sym same) ∙ there) in
    let is : q ≡ endpoint = cc in
    subst (λ (k : ℕ). EndpointRefinesAt u e k endpoint) (sym same) (subst (λ (x : Endpoint). EndpointRefinesAt u e i x) is c.sits)
each_sits t u w i j p q endpoint e h at c (inr n) there = other_sits t u w i j p q endpoint e h at c n (sym (set_elsewhere w.endpoints i j q n) ∙ there)

each_nobody : (t u : Ghost) (w : WorldCore) (i j : ℕ) (p q : Endpoint) (e : Core) → WorldRefines t w → Change i t u w p q e → j ≢ i → length w.endpoints ≤ j → IsNobody u j
each_nobody t u w i j p q e h c n beyond =
    let b = h.beyond j beyond in
    let job_state = c.told.job j n in
    record {
      stage = ap (λ (x : JobState). x.client.stage) job_state ∙ b.stage;
      linked = ap (λ (x : JobState). x.linked) job_state ∙ b.linked;
      transfer = ap (λ (x : JobState). x.session.transfer) job_state ∙ b.transfer;
      image = ap (λ (x : Wires). x.image) (c.told.wires j n) ∙ b.image;
    }

-- ---- sessions

-- whose session it is: the changed job's, or one that was there
link_of : (t u : Ghost) (w : WorldCore) (i j : ℕ) (p q a : Endpoint) (e : Core) → slice_get w.endpoints i ≡ Some p → (j ≡ i) ⊎ (j ≢ i) → slice_get (slice_set w.endpoints i q) j ≡ Some a → ((j ≡ i) × (a ≡ q)) ⊎ ((j ≢ i) × (slice_get w.endpoints j ≡ Some a))
link_of t u w i j p q a e at (inl same) there =
    let q_is : Some q ≡ Some a = sym (set_there w.endpoints i q p at) ∙ (ap (slice_get (slice_set w.endpoints i q)) (sym same) ∙ there) in
    inl (same, let is : a ≡ q = cc in is)
link_of t u w i j p q a e at (inr n) there = inr (n, sym (set_elsewhere w.endpoints i j q n) ∙ there)

-- the changed job's session and another's have two numbers
two_numbers : (t u : Ghost) (w : WorldCore) (i j : ℕ) (p q b : Endpoint) (e : Core) (x y : SessionId) → WorldRefines t w → slice_get w.endpoints i ≡ Some p → j ≢ i → slice_get w.endpoints j ≡ Some b → b.link ≡ Some y → (p.link ≡ Some x) ⊎ ((w.daemon.opened ≤ x.number) × (x.number < e.opened)) → x.number ≢ y.number
two_numbers t u w i j p q b e x y h at n there is (inl old) = λ same. n (sym (h.own i j p b x y at there old is same))
two_numbers t u w i j p q b e x y h at n there is (inr new) = λ same. let below : y.number < w.daemon.opened = h.links j b y there is in omega (arith, below, new.0, same)

own_stays : (t u : Ghost) (w : WorldCore) (i j k : ℕ) (p q a b : Endpoint) (e : Core) (x y : SessionId) → WorldRefines t w → slice_get w.endpoints i ≡ Some p → Change i t u w p q e → a.link ≡ Some x → b.link ≡ Some y → x.number ≡ y.number →
    ((j ≡ i) × (a ≡ q)) ⊎ ((j ≢ i) × (slice_get w.endpoints j ≡ Some a)) → ((k ≡ i) × (b ≡ q)) ⊎ ((k ≢ i) × (slice_get w.endpoints k ≡ Some b)) → j ≡ k
own_stays t u w i j k p q a b e x y h at c is_x is_y same (inl m) (inl n) = m.0 ∙ sym n.0
own_stays t u w i j k p q a b e x y h at c is_x is_y same (inl m) (inr n) =
    absurd (two_numbers t u w i k p q b e x y h at n.0 n.1 is_y (c.link x (ap (λ (z : Endpoint). z.link) (sym m.1) ∙ is_x)) same)
own_stays t u w i j k p q a b e x y h at c is_x is_y same (inr m) (inl n) =
    absurd (two_numbers t u w i j p q a e y x h at m.0 m.1 is_x (c.link y (ap (λ (z : Endpoint). z.link) (sym n.1) ∙ is_y)) (sym same))
own_stays t u w i j k p q a b e x y h at c is_x is_y same (inr m) (inr n) = h.own j k a b x y m.1 n.1 is_x is_y same

number_below : (t : Ghost) (w : WorldCore) (i : ℕ) (p : Endpoint) (e : Core) (x : SessionId) → WorldRefines t w → slice_get w.endpoints i ≡ Some p → w.daemon.opened ≤ e.opened → (p.link ≡ Some x) ⊎ ((w.daemon.opened ≤ x.number) × (x.number < e.opened)) → x.number < e.opened
number_below t w i p e x h at more (inl old) = let below : x.number < w.daemon.opened = h.links i p x at old in omega (arith, below, more)
number_below t w i p e x h at more (inr new) = new.1

link_below : (t u : Ghost) (w : WorldCore) (i j : ℕ) (p q a : Endpoint) (e : Core) (x : SessionId) → WorldRefines t w → slice_get w.endpoints i ≡ Some p → Change i t u w p q e → a.link ≡ Some x → ((j ≡ i) × (a ≡ q)) ⊎ ((j ≢ i) × (slice_get w.endpoints j ≡ Some a)) → x.number < e.opened
link_below t u w i j p q a e x h at c is (inl m) = number_below t w i p e x h at c.leaves.opened (c.link x (ap (λ (z : Endpoint). z.link) (sym m.1) ∙ is))
link_below t u w i j p q a e x h at c is (inr m) = let below : x.number < w.daemon.opened = h.links j a x m.1 is in let more = c.leaves.opened in omega (arith, below, more)

-- ---- a stranger

beyond_other : (i j n : ℕ) → i < n → n ≤ j → j ≢ i
beyond_other i j n low high = λ same. omega (arith, low, high, same)

-- who sits there behind the change and is nobody's sat there before, and was nobody's
stranger_there : (t u : Ghost) (w : WorldCore) (i n : ℕ) (p q : Endpoint) (e : Core) (session : RequestSession DeviceState) → WorldRefines t w → slice_get w.endpoints i ≡ Some p → Change i t u w p q e → IsUnlinked (slice_set w.endpoints i q) n → session_of e n ≡ Some session → IsNobodys w n × (n < w.daemon.opened)
stranger_there t u w i n p q e session h at c apart is =
    let s = slot_of_session (session_slot_of e.slots n) session is in
    let l = found_at e.slots n s.0 s.1 in
    (λ j endpoint id there link. by_place l j endpoint id there link (is_same j i), by_slot l (c.replaces.each l.place s.0 l.at))
  where
    by_slot : {slot : SessionSlot DeviceState} → (l : IsAt e.slots n slot) → WasSlot w.daemon.slots l.place slot.number ⊎ IsNew q.link w.daemon c.replaces.place l.place slot.number → n < w.daemon.opened
    by_slot l (inl was) = let low : was.slot.number < w.daemon.opened = below_at w.daemon.opened w.daemon.slots l.place was.slot h.slots was.at in subst (λ (x : ℕ). x < w.daemon.opened) (was.number ∙ l.number) low
    by_slot l (inr new) = absurd (apart i q new.id (set_there w.endpoints i q p at) new.link_is (new.number ∙ l.number))

    by_link : {slot : SessionSlot DeviceState} (id : SessionId) → (l : IsAt e.slots n slot) → (q.link ≡ Some id) ⊎ ((k : ℕ) (other : SessionSlot DeviceState) → slice_get e.slots k ≡ Some (Some other) → other.number ≢ id.number) → id.number ≢ n
    by_link id l (inl still) = apart i q id (set_there w.endpoints i q p at) still
    by_link {slot = slot} id l (inr none) = λ same. none l.place slot l.at (l.number ∙ sym same)

    by_place : {slot : SessionSlot DeviceState} → IsAt e.slots n slot → (j : ℕ) (endpoint : Endpoint) (id : SessionId) → slice_get w.endpoints j ≡ Some endpoint → endpoint.link ≡ Some id → (j ≡ i) ⊎ (j ≢ i) → id.number ≢ n
    by_place l j endpoint id there link (inr off) = apart j endpoint id (set_elsewhere w.endpoints i j q off ∙ there) link
    by_place l j endpoint id there link (inl same) =
        let is_p : endpoint ≡ p = unsome endpoint p (sym there ∙ (ap (slice_get w.endpoints) same ∙ at)) in
        by_link id l (c.replaces.still id (ap (λ (x : Endpoint). x.link) (sym is_p) ∙ link))

-- who rests there behind the change rested before
rests_before : (t u : Ghost) (w : WorldCore) (i n : ℕ) (p q : Endpoint) (e : Core) → WorldRefines t w → slice_get w.endpoints i ≡ Some p → Change i t u w p q e → (session_of e n ≡ None) ⊎ IsLinked (slice_set w.endpoints i q) n → (session_of w.daemon n ≡ None) ⊎ IsLinked w.endpoints n
rests_before t u w i n p q e h at c either = by either
  where
    by_session : session_of e n ≡ None → (o : Option (RequestSession DeviceState)) → session_of w.daemon n ≡ o → IsLinked w.endpoints n ⊎ IsNobodys w n → (session_of w.daemon n ≡ None) ⊎ IsLinked w.endpoints n
    by_session none None is whose = inl is
    by_session none (Some session) is (inl linked) = inr linked
    by_session none (Some session) is (inr apart) =
        let low = session_below w.daemon n session h.slots is in
        let still : session_of e n ≡ session_of w.daemon n = ap session_in (c.leaves.slots n (other_link p.link n (λ id link. apart i p id at link)) low) in
        absurd (let clash : None ≡ Some session = sym none ∙ (still ∙ is) in cc)

    by_link : (l : IsLinked (slice_set w.endpoints i q) n) → (p.link ≡ Some l.id) ⊎ ((w.daemon.opened ≤ l.id.number) × (l.id.number < e.opened)) → (session_of w.daemon n ≡ None) ⊎ IsLinked w.endpoints n
    by_link l (inl old) = inr (record { place = i; endpoint = p; id = l.id; at = at; link = old; number = l.number })
    by_link l (inr new) = inl (none_yet w.daemon.opened w.daemon.slots n h.slots (subst (λ (x : ℕ). w.daemon.opened ≤ x) l.number new.0))

    by_place : (l : IsLinked (slice_set w.endpoints i q) n) → (l.place ≡ i) ⊎ (l.place ≢ i) → (session_of w.daemon n ≡ None) ⊎ IsLinked w.endpoints n
    by_place l (inr off) = inr (record { place = l.place; endpoint = l.endpoint; id = l.id; at = sym (set_elsewhere w.endpoints i l.place q off) ∙ l.at; link = l.link; number = l.number })
    by_place l (inl same) =
        let is_q : l.endpoint ≡ q = unsome l.endpoint q (sym l.at ∙ (ap (slice_get (slice_set w.endpoints i q)) same ∙ set_there w.endpoints i q p at)) in
        by_link l (c.link l.id (ap (λ (x : Endpoint). x.link) (sym is_q) ∙ l.link))

    by : (session_of e n ≡ None) ⊎ IsLinked (slice_set w.endpoints i q) n → (session_of w.daemon n ≡ None) ⊎ IsLinked w.endpoints n
    by (inl none) = by_session none (session_of w.daemon n) refl (whose_is w n)
    by (inr linked) = by_place linked (is_same linked.place i)

each_stranger : (t u : Ghost) (w : WorldCore) (i n : ℕ) (p q : Endpoint) (e : Core) → WorldRefines t w → slice_get w.endpoints i ≡ Some p → i < length w.endpoints → Change i t u w p q e → StrangerStands u (changed w i q e) n
each_stranger t u w i n p q e h at low c =
    let j = stranger_of w n in
    let off : j ≢ i = beyond_other i j (length w.endpoints) low (omega arith) in
    let number : stranger_of (changed w i q e) n ≡ j = ap (λ (x : ℕ). x + n) (set_length w.endpoints i q) in
    record {
      sits = λ session is apart.
          let there = stranger_there t u w i n p q e session h at c apart is in
          let other = other_link p.link n (λ id link. there.0 i p id at link) in
          let same : session_of e n ≡ session_of w.daemon n = ap session_in (c.leaves.slots n other there.1) in
          let old = (h.strangers n).sits session (sym same ∙ is) there.0 in
          let now = other_stands i j n t.system.make p.link w.daemon e t.system.device u.system.device old.0 off other there.1 c.leaves old.1 in
          (old.0, subst (λ (x : ℕ). SessionRefines x u.system.make e n u.system.device old.0) (sym number) (subst (λ (make : ℕ → Make). SessionRefines j make e n u.system.device old.0) (sym c.told.make) now));
      rests = λ either.
          let old = (h.strangers n).rests (rests_before t u w i n p q e h at c either) in
          let now = table_stands i j t.system.make c.leaves.held w.daemon.stream w.daemon.registry e.registry t.system.device u.system.device off c.leaves.shows c.leaves.others old in
          subst (λ (x : ℕ). TableRefines x u.system.make [] e.registry u.system.device) (sym number) (subst (λ (make : ℕ → Make). TableRefines j make [] e.registry u.system.device) (sym c.told.make) now);
    }

-- ---- the world

begun_stays : (t u : Ghost) (w : WorldCore) (i j : ℕ) (p q : Endpoint) (e : Core) → WorldRefines t w → Change i t u w p q e → (j ≡ i) ⊎ (j ≢ i) → AreStartedViews u.system.make (u.system.job j)
begun_stays t u w i j p q e h c (inl same) = subst (λ (m : ℕ → Make). AreStartedViews m (u.system.job j)) (sym c.told.make) (subst (λ (k : ℕ). AreStartedViews t.system.make (u.system.job k)) (sym same) c.begun)
begun_stays t u w i j p q e h c (inr n) = subst (λ (m : ℕ → Make). AreStartedViews m (u.system.job j)) (sym c.told.make) (subst (λ (x : JobState). AreStartedViews t.system.make x) (sym (c.told.job j n)) (h.begun j))

pub stands_change : (t u : Ghost) (w : WorldCore) (i : ℕ) (p q : Endpoint) (e : Core) → WorldRefines t w → slice_get w.endpoints i ≡ Some p → i < length w.endpoints → Change i t u w p q e → WorldRefines u (record { daemon = e; endpoints = slice_set w.endpoints i q })
stands_change t u w i p q e h at low c =
    record {
      sound = c.sound;
      asks = c.asks;
      shown = c.shown;
      is_of = record {
        count = c.told.count ∙ (h.is_of.count ∙ sym (set_length w.endpoints i q));
        users = c.told.users ∙ (h.is_of.users ∙ sym c.leaves.users);
        infos = c.told.infos ∙ (h.is_of.infos ∙ sym c.leaves.infos);
        apart = subst HaveDifferentNames (sym c.told.infos) h.is_of.apart;
        places = c.told.places ∙ (h.is_of.places ∙ ap (numbers_from 0) (sym c.told.infos));
        counts = λ j low. subst (λ (jobs : ℕ → Job). HasCount (jobs j).task) (sym c.told.jobs) (h.is_of.counts j (subst (λ (n : ℕ). j < n) c.told.count low));
      };
      endpoints = λ j endpoint there. each_sits t u w i j p q endpoint e h at c (is_same j i) there;
      beyond = λ j high. let far : length w.endpoints ≤ j = subst (λ (n : ℕ). n ≤ j) (set_length w.endpoints i q) high in each_nobody t u w i j p q e h c (beyond_other i j (length w.endpoints) low far) far;
      strangers = λ n. each_stranger t u w i n p q e h at low c;
      own = λ j k a b x y at_j at_k is_x is_y same. own_stays t u w i j k p q a b e x y h at c is_x is_y same (link_of t u w i j p q a e at (is_same j i) at_j) (link_of t u w i k p q b e at (is_same k i) at_k);
      links = λ j endpoint id there is. link_below t u w i j p q endpoint e id h at c is (link_of t u w i j p q endpoint e at (is_same j i) there);
      slots = c.leaves.below;
      apart = slot_change p.link q.link w.daemon e h.apart h.slots c.replaces;
      faithful = c.leaves.faithful;
      begun = λ j. begun_stays t u w i j p q e h c (is_same j i);
    }
