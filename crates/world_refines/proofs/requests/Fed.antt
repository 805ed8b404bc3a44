-- A delivery to a session: what stands behind it, of what became of the session and of its slot.
use Rattle.std.specs.Prelude.{is_some, not, option_map}
use Rattle.std.proofs.Common.{◌≡◌, inl, ◌∙◌, ℕ, ◌<◌, List, ◌++◌, Option, Some, Bool, true, false, refl, sym, ap, subst, slice_get, slice_set}
use Rattle.device_api.specs.State.{DeviceState}
use Rattle.sane_fixed.specs.declared.device_info.DeviceInfo.{DeviceInfo}
use Rattle.saned_core.specs.declared.session_slot.SessionSlot.{SessionSlot}
use Rattle.saned_core.specs.declared.session_slot.SessionId.{SessionId}
use Rattle.saned_core.specs.DaemonStates.{Core, replies_in, session_slot_of, session_in}
use Rattle.saned_core.specs.Feeding.{input_in}
use Rattle.scan_job.specs.declared.job.Job.{Job}
use Rattle.system_model.specs.Devices.{Make}
use Rattle.system_model.specs.Causes.{IsCauseAmong, LinkOutOfMemory}
use Rattle.system_model.specs.Client.{Idle, ClientView}
use Rattle.system_model.specs.Daemon.{Quiet}
use Rattle.system_model.specs.SystemStates.{JobState}
use Rattle.system_model.specs.Transitions.{IsHistory, IsUnderWay, Transition, after_all}
use Rattle.system_model.proofs.JobPromises.{sound_after_all}
use Rattle.daemon_refines.proofs.Moved.{put_elsewhere, put_there}
use Rattle.event_world.specs.declared.endpoint.Image.{Image}
use Rattle.event_world.specs.declared.endpoint.Endpoint.{Endpoint}
use Rattle.event_world.specs.Worlds.{WorldCore}
use Rattle.net_client.specs.ClientStates.{ClientState}
use Rattle.world_refines.specs.GhostStates.{Ghost, Wires, place_of_info, wired_then}
use Rattle.world_refines.specs.Speaks.{Speaks, WaitsQuietly}
use Rattle.world_refines.specs.Wires.{FlightMatches, SpellsAsked, SpellsReplies}
use Rattle.world_refines.specs.WorldRefinement.{WiresMatch, HasNoEnd, IsServed, Means, WorldRefines, slot_of_link, session_by, AreStartedViews}
use Rattle.world_refines.proofs.state.Changing.{IsChange, stands_change}
use Rattle.world_refines.proofs.requests.Closing.{Keeps}
use Rattle.world_refines.proofs.state.Held.{held_after_all}
use Rattle.world_refines.proofs.state.ListedPlaces.{shown_after}
use Rattle.world_refines.proofs.state.EndpointSlots.{Replaces}
use Rattle.world_refines.proofs.state.Sees.{Leaves}
use Rattle.world_refines.proofs.requests.Sent.{IsSent, exchanges_sent}
use Rattle.world_refines.proofs.state.Taking.{sits_there}
use Rattle.world_refines.specs.WorldPending.{HasNoRequest, Pends}

-- ---- the bytes

abbrev pub fed_wires : List ℕ → List ℕ → List ℕ → Wires → Wires
fed_wires up asking down x = record x { up = up; asking = asking; down = down }

-- ---- what the endpoint is behind it

pub record IsFedPost (out : List ℕ) (served : Bool) (old new : Endpoint) : Type 0 where
  pub sent : IsSent out old new
  pub link : new.link ≡ old.link
  pub image : new.image ≡ old.image
  pub over : new.is_over ≡ not served

pub fed_change : (t : Ghost) (i : ℕ) (steps : List Transition) (x : Wires) → Keeps i t.system (after_all t.system steps) → IsChange i t (wired_then t i steps x)
fed_change t i steps x k =
    record {
      users = refl;
      infos = refl;
      count = refl;
      jobs = refl;
      make = k.make;
      places = k.places;
      job = k.others;
      wires = λ j n. put_elsewhere t.wires i x j n;
      history = λ j n. put_elsewhere t.history i (t.history i) j n;
      pages = λ j n. put_elsewhere t.pages i (t.pages i) j n;
    }

-- ---- what it means

-- what is said of a job that was fed, beside what stays
pub record MeansSo (place : DeviceInfo → ℕ) (job : Job) (x : Wires) (p q : JobState) (old new : Endpoint) : Type 0 where
  pub client : q.client ≡ p.client
  pub linked : q.linked ≡ p.linked
  pub image : q.image ≡ p.image
  pub flight : q.session.flight ≡ p.session.flight
  pub ending : q.session.ending ≡ p.session.ending
  pub calm : q.served ≡ false → q.session.transfer ≡ Quiet
  pub unended : HasNoEnd q.session.transfer q.session.ending
  pub alive : p.client.stage ≡ Idle → ⊥
  pub up : q.served ≡ true → SpellsAsked job q.client q.todo (x.asking ++ x.up)
  pub down : IsUnderWay q.client.stage → SpellsReplies place new.client.progress q.due (x.telling ++ x.down)
  pub flow : FlightMatches q.client.stage q.session.transfer new.client.progress new.client.phase x.image q.session.flight q.session.ending
  pub starved : IsCauseAmong LinkOutOfMemory q.session.met → new.out_of_memory ≡ true

means_fed : (place : DeviceInfo → ℕ) (job : Job) (up asking down out : List ℕ) (x : Wires) (p q : JobState) (old new : Endpoint) → IsFedPost out q.served old new → p.linked ≡ true → MeansSo place job (fed_wires up asking down x) p q old new → Means place job x p old → Means place job (fed_wires up asking down x) q new
means_fed place job up asking down out x p q old new f linked m h =
    record {
      linked = m.linked ∙ (h.linked ∙ ap is_some (sym f.link));
      before = λ nay. let b = h.before (sym f.sent.was_connected ∙ nay) in absurd (let clash : true ≡ false = sym linked ∙ (h.linked ∙ ap is_some b.0) in cc);
      over = λ _. f.over;
      calm = m.calm;
      image = λ some. m.image ∙ h.image some;
      last = λ image e. h.last image (sym f.image ∙ e) ∙ ap is_some (sym m.ending);
      unended = m.unended;
      first = λ idle. absurd (m.alive (sym (ap (λ (y : ClientView). y.stage) m.client) ∙ idle));
      up = m.up;
      down = m.down;
      flow = m.flow;
      starved = m.starved;
    }

-- ---- all of it

pub record FedSo (t : Ghost) (w : WorldCore) (i : ℕ) (p q : Endpoint) (id : SessionId) (e : Core) (steps : List Transition) (up asking down out : List ℕ) : Type 0 where
  pub legal : IsHistory t.system steps
  pub keeps : Keeps i t.system (after_all t.system steps)
  pub up_is : out ≡ up
  pub endpoint : IsFedPost out ((after_all t.system steps).job i).served p q
  pub input : input_in (session_slot_of e.slots id.number) ≡ asking
  pub replies : replies_in (session_slot_of e.slots id.number) ≡ down
  pub served : IsServed i t.system.make e (Some id) ((after_all t.system steps).job i).served (after_all t.system steps).device (session_by i (after_all t.system steps).device ((after_all t.system steps).job i))
  pub leaves : Leaves i t.system.make (Some id) w.daemon e t.system.device (after_all t.system steps).device
  pub replaces : Replaces (Some id) (Some id) w.daemon e
  pub begun : AreStartedViews t.system.make ((after_all t.system steps).job i)
  pub speaks : Speaks (t.jobs i).device ((after_all t.system steps).job i) (session_in (session_slot_of e.slots id.number))
  pub waits : WaitsQuietly p.client.progress ((after_all t.system steps).job i).todo
  pub pending : HasNoRequest asking
  pub means : MeansSo (place_of_info t.infos) (t.jobs i) (fed_wires up asking down (t.wires i)) (t.system.job i) ((after_all t.system steps).job i) p q

carries_fed : (x : Wires) (up asking down out : List ℕ) (slot now : Option (SessionSlot DeviceState)) (old new : Endpoint) (served : Bool) → IsFedPost out served old new → out ≡ up → input_in now ≡ asking → replies_in now ≡ down → WiresMatch x slot old → WiresMatch (fed_wires up asking down x) now new
carries_fed x up asking down out slot now old new served f up_is input replies h =
    record {
      up = ap (λ (c : ClientState). c.out) f.sent.client ∙ up_is;
      asking = input;
      down = replies;
      telling = ap (λ (c : ClientState). c.input.rest) f.sent.client ∙ h.telling;
      image = ap (option_map (λ (im : Image). im.bytes)) f.image ∙ h.image;
    }

pub fed_stands : (t : Ghost) (w : WorldCore) (i : ℕ) (p q : Endpoint) (id : SessionId) (e : Core) (steps : List Transition) (up asking down out : List ℕ) → WorldRefines t w → slice_get w.endpoints i ≡ Some p → i < t.count → p.link ≡ Some id → FedSo t w i p q id e steps up asking down out →
    WorldRefines (wired_then t i steps (fed_wires up asking down (t.wires i))) (record { daemon = e; endpoints = slice_set w.endpoints i q })
fed_stands t w i p q id e steps up asking down out h at low link f =
    let s = h.endpoints i p at in
    let me = t.system.job i in
    let bytes : Wires = fed_wires up asking down (t.wires i) in
    let u : Ghost = wired_then t i steps bytes in
    let now : JobState = (after_all t.system steps).job i in
    let linked : me.linked ≡ true = s.means.linked ∙ ap is_some link in
    let q_link : q.link ≡ Some id = f.endpoint.link ∙ link in
    stands_change t u w i p q e h at (subst (λ (n : ℕ). i < n) h.is_of.count low) (record {
      told = fed_change t i steps bytes f.keeps;
      leaves = subst (λ (x : Option SessionId). Leaves i t.system.make x w.daemon e t.system.device u.system.device) (sym link) f.leaves;
      sound = sound_after_all t.system steps h.sound f.legal;
      asks = held_after_all t.system steps h.sound h.asks f.legal;
      shown = shown_after t w steps h;
      sits = sits_there u e i q now bytes (t.history i) (t.pages i) refl (put_there t.wires i bytes) (put_there t.history i (t.history i)) (put_there t.pages i (t.pages i)) (record {
        job_is = f.keeps.job ∙ s.job_is;
        exchanges = exchanges_sent (place_of_info t.infos) (t.jobs i) out (t.history i) (t.pages i) me now p q f.endpoint.sent f.keeps.client f.keeps.job s.exchanges;
        carries = subst (λ (x : Option SessionId). WiresMatch bytes (slot_of_link e x) q) (sym q_link) (carries_fed (t.wires i) up asking down out (slot_of_link w.daemon p.link) (session_slot_of e.slots id.number) p q now.served f.endpoint f.up_is f.input f.replies s.carries);
        means = means_fed (place_of_info t.infos) (t.jobs i) up asking down out (t.wires i) me now p q f.endpoint linked f.means s.means;
        served = subst (λ (x : Option SessionId). IsServed i u.system.make e x now.served u.system.device (session_by i u.system.device now)) (sym q_link)
            (subst (λ (m : ℕ → Make). IsServed i m e (Some id) now.served u.system.device (session_by i u.system.device now)) (sym f.keeps.make) f.served);
        speaks = subst (λ (x : Option SessionId). Speaks (t.jobs i).device now (session_in (slot_of_link e x))) (sym q_link) f.speaks;
        waits = subst (λ (v : ClientState). WaitsQuietly v.progress now.todo) (sym f.endpoint.sent.client) f.waits;
        pends = subst (λ (v : ClientState). Pends v.outcome v.progress v.phase bytes) (sym f.endpoint.sent.client) (record { asking = f.pending; telling = s.pends.telling; reading = s.pends.reading });
      });
      link = λ x is. inl (link ∙ (sym q_link ∙ is));
      replaces = subst (λ (x : Option SessionId). Replaces p.link x w.daemon e) (sym q_link) (subst (λ (x : Option SessionId). Replaces x (Some id) w.daemon e) (sym link) f.replaces);
      begun = f.begun;
    })
