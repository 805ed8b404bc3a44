-- A data connection that is lost for lack of memory; and two tellings of one world.
use Rattle.std.specs.Prelude.{IsSome}
use Rattle.std.proofs.Common.{◌≡◌, inl, inr, ◌∙◌, ℕ, zero, suc, ◌<◌, List, [], ◌∷◌, Option, Some, None, Bool, true, false, cond, eqb, refl, sym, ap, subst, slice_get, slice_set}
use Rattle.frame_join.specs.FrameHistory.{JoinHistory}
use Rattle.saned_core.specs.declared.session_slot.SessionId.{SessionId}
use Rattle.saned_core.specs.DaemonStates.{after_lost, session_in}
use Rattle.client_replies.specs.declared.progress.Link.TheVariants as links
use Rattle.client_replies.specs.ProtocolStates.{is_lost_by}
use Rattle.system_model.specs.Causes.{LinkOutOfMemory}
use Rattle.system_model.specs.Actions as actions
use Rattle.system_model.specs.Actions.{without_image}
use Rattle.system_model.specs.SystemStates.{JobState, with_entry}
use Rattle.system_model.specs.Transitions.{By, IsUnderWay}
use Rattle.system_model.proofs.JobPromises.{sound_after_all}
use Rattle.daemon_refines.proofs.Moved.{put_there}
use Rattle.event_world.specs.declared.endpoint.Endpoint.{Endpoint}
use Rattle.event_world.specs.Endpoints.{image_out_of_memory}
use Rattle.event_world.specs.Worlds.{WorldCore}
use Rattle.world_refines.specs.GhostStates.{Ghost, Wires, place_of_info, wired_then}
use Rattle.world_refines.specs.WorldRefinement.{WiresMatch, IsNobody, IsServed, EndpointRefines, EndpointRefinesAt, WorldRefines, slot_of_link, session_by, AreStartedViews}
use Rattle.world_refines.specs.GhostEvents.{wires_with_image}
use Rattle.world_refines.proofs.state.EndpointSlots.{replaces_on}
use Rattle.world_refines.proofs.state.CoreCallsKeep.{is_lost, on_core}
use Rattle.world_refines.proofs.state.Changing.{stands_change}
use Rattle.world_refines.proofs.job_events.Lost.{IsLost, exchanges_lost}
use Rattle.world_refines.proofs.state.Sees.{Leaves}
use Rattle.world_refines.specs.Speaks.{Speaks}
use Rattle.world_refines.proofs.state.Held.{held_after_all}
use Rattle.world_refines.proofs.state.ListedPlaces.{shown_after}
use Rattle.world_refines.proofs.state.Spoken.{same_lost, same_on, speaks_still}
use Rattle.world_refines.proofs.state.Taking.{one_change, one_party, sits_there}
use Rattle.world_refines.proofs.frames.Unimaged.{carries_dropped, drops_by, image_counts, means_dropped}
use Rattle.world_refines.proofs.state.Waiting.{waits_if}
use Rattle.world_refines.proofs.state.WorldPending.{pends_if}

-- ---- there is no memory for what comes onto it

cut_lost : (p : Endpoint) → IsLost (is_lost_by links.Image p.client.outcome p.client.progress) p (image_out_of_memory p)
cut_lost p = record { client = refl; task = refl; file = refl; pages = refl; finished = refl; out_of_memory = inr refl }

pub cut_stands : (t : Ghost) (w : WorldCore) (i : ℕ) (p : Endpoint) (id : SessionId) → WorldRefines t w → slice_get w.endpoints i ≡ Some p → i < t.count → p.link ≡ Some id → IsSome (t.wires i).image →
    WorldRefines (wired_then t i (By i (actions.LosesImage true) ∷ []) (wires_with_image None (t.wires i))) (record { daemon = on_core after_lost w.daemon id.number; endpoints = slice_set w.endpoints i (image_out_of_memory p) })
cut_stands t w i p id h at low link some =
    let s = h.endpoints i p at in
    let me = t.system.job i in
    let place = place_of_info t.infos in
    let may : me.image ≡ true = s.means.image some in
    let bytes : Wires = wires_with_image None (t.wires i) in
    let steps = By i (actions.LosesImage true) ∷ [] in
    let u : Ghost = wired_then t i steps bytes in
    let e = on_core after_lost w.daemon id.number in
    let q = image_out_of_memory p in
    let b = is_lost_by links.Image p.client.outcome p.client.progress in
    let after : JobState = drops_by LinkOutOfMemory me in
    let served = subst (λ (x : Option SessionId). IsServed i t.system.make w.daemon x me.served t.system.device (session_by i t.system.device me)) link s.served in
    let both = is_lost i t.system.make w.daemon id me.served t.system.device me after h.slots h.faithful s.means.calm refl refl refl served in
    let idle : b ≡ false → IsUnderWay me.client.stage → ⊥ = λ over under.
    let counts = image_counts place (t.jobs i) (t.history i) (t.pages i) (t.wires i) me p s.exchanges s.means some under in
    let clash : true ≡ false = sym counts ∙ over in absurd (cc) in
    let job_state = one_party t i (actions.LosesImage true) bytes (t.history i) (t.pages i) in
    stands_change t u w i p q e h at (subst (λ (n : ℕ). i < n) h.is_of.count low) (record {
      told = one_change t i (actions.LosesImage true) bytes (t.history i) (t.pages i);
      leaves = subst (λ (x : Option SessionId). Leaves i t.system.make x w.daemon e t.system.device u.system.device) (sym link) both.0;
      sound = sound_after_all t.system steps h.sound (may, tt);
      asks = held_after_all t.system steps h.sound h.asks (may, tt);
      shown = shown_after t w steps h;
      sits = sits_there u e i q after bytes (t.history i) (t.pages i) job_state (put_there t.wires i bytes) (put_there t.history i (t.history i)) (put_there t.pages i (t.pages i)) (record {
        job_is = s.job_is;
        exchanges = exchanges_lost place (t.jobs i) (t.history i) (t.pages i) me (without_image me.session LinkOutOfMemory) p q links.Image b refl idle refl (cut_lost p) s.exchanges after refl refl;
        carries = subst (λ (x : Option SessionId). WiresMatch bytes (slot_of_link e x) q) (sym link) (carries_dropped (t.wires i) w.daemon id b p q (cut_lost p) refl (subst (λ (x : Option SessionId). WiresMatch (t.wires i) (slot_of_link w.daemon x) p) link s.carries));
        means = means_dropped place (t.jobs i) (t.wires i) me LinkOutOfMemory p q (λ _. refl) refl refl refl refl s.means;
        served = subst (λ (x : Option SessionId). IsServed i t.system.make e x me.served u.system.device (session_by i u.system.device after)) (sym link) both.1;
        speaks =
            subst (λ (x : Option SessionId). Speaks (t.jobs i).device after (session_in (slot_of_link e x))) (sym link)
            (speaks_still (t.jobs i).device me after (session_in (slot_of_link w.daemon (Some id))) (session_in (slot_of_link e (Some id))) refl refl (same_on after_lost same_lost id.number w.daemon.slots)
            (subst (λ (x : Option SessionId). Speaks (t.jobs i).device me (session_in (slot_of_link w.daemon x))) link s.speaks));
        waits = waits_if b p.client me.todo s.waits;
        pends = pends_if b p.client (t.wires i) bytes s.pends.asking refl s.pends;
      });
      link = λ x is. inl is;
      replaces = replaces_on after_lost p.link w.daemon id.number;
      begun = subst (λ (x : JobState). AreStartedViews t.system.make x) (sym job_state) (h.begun i);
    })

-- ---- what is told of each job is the same

-- with these bytes and histories
abbrev pub retold : Ghost → (ℕ → Wires) → (ℕ → JoinHistory) → (ℕ → List JoinHistory) → Ghost
retold t x y z = record t { wires = x; history = y; pages = z }

sits_retold : (t : Ghost) (w : WorldCore) (j : ℕ) (endpoint : Endpoint) (x : Wires) (y : JoinHistory) (z : List JoinHistory) → x ≡ t.wires j → y ≡ t.history j → z ≡ t.pages j → EndpointRefinesAt t w.daemon j endpoint →
    EndpointRefines t.users t.infos (t.jobs j) t.system.make t.system.device j (t.system.job j) x y z w.daemon endpoint
sits_retold t w j endpoint x y z e f g h =
    subst (λ (a : Wires). EndpointRefines t.users t.infos (t.jobs j) t.system.make t.system.device j (t.system.job j) a y z w.daemon endpoint) (sym e)
    (subst (λ (a : JoinHistory). EndpointRefines t.users t.infos (t.jobs j) t.system.make t.system.device j (t.system.job j) (t.wires j) a z w.daemon endpoint) (sym f)
    (subst (λ (a : List JoinHistory). EndpointRefines t.users t.infos (t.jobs j) t.system.make t.system.device j (t.system.job j) (t.wires j) (t.history j) a w.daemon endpoint) (sym g) h))

nobody_retold : (t : Ghost) (x : ℕ → Wires) (y : ℕ → JoinHistory) (z : ℕ → List JoinHistory) (j : ℕ) → x j ≡ t.wires j → IsNobody t j → IsNobody (retold t x y z) j
nobody_retold t x y z j e h = record { stage = h.stage; linked = h.linked; transfer = h.transfer; image = ap (λ (a : Wires). a.image) e ∙ h.image }

pub stands_retold : (t : Ghost) (w : WorldCore) (x : ℕ → Wires) (y : ℕ → JoinHistory) (z : ℕ → List JoinHistory) → ((j : ℕ) → x j ≡ t.wires j) → ((j : ℕ) → y j ≡ t.history j) → ((j : ℕ) → z j ≡ t.pages j) → WorldRefines t w → WorldRefines (retold t x y z) w
stands_retold t w x y z e f g h =
    record {
      sound = h.sound;
      asks = h.asks;
      shown = h.shown;
      is_of = record { count = h.is_of.count; users = h.is_of.users; infos = h.is_of.infos; apart = h.is_of.apart; places = h.is_of.places; counts = h.is_of.counts };
      endpoints = λ j endpoint there. sits_retold t w j endpoint (x j) (y j) (z j) (e j) (f j) (g j) (h.endpoints j endpoint there);
      beyond = λ j far. nobody_retold t x y z j (e j) (h.beyond j far);
      strangers = λ n. record { sits = (h.strangers n).sits; rests = (h.strangers n).rests };
      own = h.own;
      links = h.links;
      slots = h.slots;
      apart = h.apart;
      faithful = h.faithful;
      begun = h.begun;
    }

-- ---- what is put twice

put_by : {X : Type 0} (f : ℕ → X) (i j : ℕ) (x y z : X) (b : Bool) → z ≡ y → cond b z (f j) ≡ cond b y (cond b x (f j))
put_by f i j x y z true e = e
put_by f i j x y z false e = refl

pub put_again : {X : Type 0} (f : ℕ → X) (i : ℕ) (x y z : X) → z ≡ y → (j : ℕ) → with_entry f i z j ≡ with_entry (with_entry f i x) i y j
put_again f i x y z e j = put_by f i j x y z (eqb j i) e

pub set_again : {X : Type 0} (xs : List X) (i : ℕ) (x y : X) → slice_set (slice_set xs i x) i y ≡ slice_set xs i y
set_again [] i x y = refl
set_again (z ∷ xs) zero x y = refl
set_again (z ∷ xs) (suc i) x y = ap (λ (ys : _). z ∷ ys) (set_again xs i x y)
