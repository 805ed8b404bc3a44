-- The loss of a control connection, and of a data connection.
use Rattle.std.specs.Prelude.{option_map, is_some, IsSome}
use Rattle.std.proofs.Common.{◌≡◌, ◌≢◌, ◌⊎◌, inl, inr, ◌∙◌, ℕ, ◌<◌, List, [], ◌∷◌, Option, Some, None, Bool, true, false, refl, sym, ap, subst, map, slice_get, slice_set}
use Rattle.scan_job.specs.declared.outcome.Why.TheVariants.{Lost}
use Rattle.sane_fixed.specs.declared.status.Status.TheVariants.{IoError}
use Rattle.sane_fixed.specs.declared.device_info.DeviceInfo.{DeviceInfo}
use Rattle.device_api.specs.State.{DeviceState}
use Rattle.frame_join.specs.FrameHistory.{JoinHistory}
use Rattle.saned_core.specs.declared.session_slot.SessionSlot.{SessionSlot}
use Rattle.saned_core.specs.declared.session_slot.SessionId.{SessionId}
use Rattle.saned_core.specs.DaemonStates.{Core, after_end_session}
use Rattle.scan_job.specs.declared.job.Job.{Job}
use Rattle.client_replies.specs.declared.progress.Link.TheVariants as links
use Rattle.client_replies.specs.ProtocolStates.{target_of, is_running}
use Rattle.net_client.specs.ClientStates.{ClientState, protocol_of}
use Rattle.system_model.specs.ClientReplies.{client_after_stop, stage_after_stop}
use Rattle.system_model.specs.Causes.{Cause, LinkLost, IsCauseAmong, LinkOutOfMemory}
use Rattle.system_model.specs.Daemon.{Quiet}
use Rattle.system_model.specs.Actions as actions
use Rattle.system_model.specs.Actions.{session_after_loss}
use Rattle.system_model.specs.SystemStates.{JobState}
use Rattle.system_model.specs.Transitions.{By, IsUnderWay}
use Rattle.system_model.proofs.JobPromises.{sound_after_all}
use Rattle.daemon_refines.proofs.Moved.{put_there}
use Rattle.event_world.specs.declared.event.JobEvent.TheVariants as events
use Rattle.event_world.specs.declared.endpoint.Image.{Image}
use Rattle.event_world.specs.declared.endpoint.Endpoint.{Endpoint}
use Rattle.event_world.specs.Endpoints.{after_move, without_link}
use Rattle.event_world.specs.JobEvents as world
use Rattle.event_world.specs.Worlds.{WorldCore}
use Rattle.world_refines.specs.GhostStates.{Ghost, Wires, place_of_info, wired_then}
use Rattle.world_refines.specs.WorldRefinement.{WiresMatch, IsServed, Means, WorldRefines, slot_of_link, session_by, AreStartedViews}
use Rattle.world_refines.specs.GhostEvents.{GhostLeads, LosesControl, wires_without_down}
use Rattle.world_refines.proofs.state.CoreCallsKeep.{leaves_ended, shows_ended}
use Rattle.world_refines.proofs.job_events.Cancelling.{flows_over, other_cause}
use Rattle.world_refines.proofs.state.Changing.{stands_change}
use Rattle.world_refines.proofs.job_events.Lost.{IsLost, if_input, if_out, exchanges_lost}
use Rattle.world_refines.proofs.state.Held.{held_after_all}
use Rattle.world_refines.proofs.state.ListedPlaces.{shown_after}
use Rattle.world_refines.proofs.state.GhostClients.{stops_idle, stops_over, under_runs}
use Rattle.world_refines.proofs.state.EndpointSlots.{Replaces, replaces_ended}
use Rattle.world_refines.proofs.state.Sees.{Leaves}
use Rattle.world_refines.proofs.state.Taking.{DecidesAt, done, one_change, one_party, sits_there}
use Rattle.world_refines.proofs.state.Waiting.{waits_lost}
use Rattle.world_refines.proofs.state.WorldPending.{no_request_none, pends_if}

-- the job by the model, for this cause
abbrev pub loses_by : Cause → JobState → JobState
loses_by cause p = record p { client = client_after_stop IoError Lost p.client; todo = []; due = []; linked = false; image = false; served = false; session = session_after_loss p.session cause }

not_linked : (cause : Cause) → LinkOutOfMemory ≢ cause → (met : List Cause) → IsCauseAmong LinkOutOfMemory (cause ∷ met) → IsCauseAmong LinkOutOfMemory met
not_linked cause n met h = other_cause LinkOutOfMemory cause met n h

starved_else : LinkOutOfMemory ≡ LinkLost → ⊥
starved_else e = absurd (cc)

-- what it lost is nothing any more
pub carries_cut : (x : Wires) (slot : Option (SessionSlot DeviceState)) (b : Bool) (old new : Endpoint) → IsLost b old new → new.image ≡ None → WiresMatch x slot old → WiresMatch (wires_without_down x) None new
carries_cut x slot b old new l image h =
    record {
      up = ap (λ (c : ClientState). c.out) l.client ∙ (if_out b old.client ∙ h.up);
      asking = refl;
      down = refl;
      telling = ap (λ (c : ClientState). c.input.rest) l.client ∙ (ap (λ (y : _). y.rest) (if_input b old.client) ∙ h.telling);
      image = ap (option_map (λ (im : Image). im.bytes)) image;
    }

pub means_cut : (place : DeviceInfo → ℕ) (job : Job) (x : Wires) (p : JobState) (cause : Cause) (new : Endpoint) → (IsCauseAmong LinkOutOfMemory (cause ∷ p.session.met) → new.out_of_memory ≡ true) → (new.was_connected ≡ false → new.is_over ≡ false) → new.link ≡ None → new.image ≡ None → Means place job (wires_without_down x) (loses_by cause p) new
means_cut place job x p cause new starved before link image =
    record {
      linked = sym (ap is_some link);
      before = λ e. (link, before e);
      over = λ e. absurd (let clash : false ≡ true = e in cc);
      calm = λ _. refl;
      image = λ h. absurd (let clash : false ≡ true = h in cc);
      last = λ im e. absurd (let clash : None ≡ Some im = sym image ∙ e in cc);
      unended = tt;
      first = λ e. absurd (stops_idle IoError Lost p.client.stage e);
      up = λ e. absurd (let clash : false ≡ true = e in cc);
      down = λ u. absurd (stops_over IoError Lost p.client.stage u);
      flow = flows_over (stage_after_stop IoError Lost p.client.stage) Quiet _ _ None [] None (stops_over IoError Lost p.client.stage);
      starved = starved;
    }

-- ---- the control connection

control_lost : (p : Endpoint) → IsLost (is_running p.client.outcome) p (without_link (after_move p))
control_lost p = record { client = refl; task = refl; file = refl; pages = refl; finished = refl; out_of_memory = inl refl }

unlinked_stands : (t : Ghost) (w : WorldCore) (i : ℕ) (p : Endpoint) (id : SessionId) → WorldRefines t w → slice_get w.endpoints i ≡ Some p → i < t.count → p.link ≡ Some id → GhostLeads events.LoseControl LosesControl t i (record { daemon = after_end_session w.daemon id.number; endpoints = slice_set w.endpoints i (without_link (after_move p)) })
unlinked_stands t w i p id h at low link =
    let s = h.endpoints i p at in
    let me = t.system.job i in
    let linked : me.linked ≡ true = s.means.linked ∙ ap is_some link in
    let bytes : Wires = wires_without_down (t.wires i) in
    let steps = By i (actions.Loses false) ∷ [] in
    let u : Ghost = wired_then t i steps bytes in
    let e = after_end_session w.daemon id.number in
    let q = without_link (after_move p) in
    let after : JobState = loses_by LinkLost me in
    let served = subst (λ (x : Option SessionId). IsServed i t.system.make w.daemon x me.served t.system.device (session_by i t.system.device me)) link s.served in
    let leaves = leaves_ended i t.system.make w.daemon id me.served t.system.device me h.slots h.faithful served in
    let idle : is_running p.client.outcome ≡ false → IsUnderWay me.client.stage → ⊥ = λ over under.
    let runs = under_runs (place_of_info t.infos) (target_of (t.jobs i)) me.session.job (map (λ (x : JoinHistory). x.ended) (t.pages i)) (protocol_of p.client (t.history i)) me.client s.exchanges.reads under in
    let clash : true ≡ false = sym runs ∙ over in absurd (cc) in
    let job_state = one_party t i (actions.Loses false) bytes (t.history i) (t.pages i) in
    done events.LoseControl LosesControl t i _ steps u linked (refl, record { legal = (linked, tt); then_is = refl })
    (stands_change t u w i p q e h at (subst (λ (n : ℕ). i < n) h.is_of.count low) (record {
      told = one_change t i (actions.Loses false) bytes (t.history i) (t.pages i);
      leaves = subst (λ (x : Option SessionId). Leaves i t.system.make x w.daemon e t.system.device u.system.device) (sym link) leaves;
      sound = sound_after_all t.system steps h.sound (linked, tt);
      asks = held_after_all t.system steps h.sound h.asks (linked, tt);
      shown = shown_after t w steps h;
      sits = sits_there u e i q after bytes (t.history i) (t.pages i) job_state (put_there t.wires i bytes) (put_there t.history i (t.history i)) (put_there t.pages i (t.pages i)) (record {
        job_is = s.job_is;
        exchanges = exchanges_lost (place_of_info t.infos) (t.jobs i) (t.history i) (t.pages i) me (session_after_loss me.session LinkLost) p q links.Control (is_running p.client.outcome) refl idle refl (control_lost p) s.exchanges after refl refl;
        carries = carries_cut (t.wires i) (slot_of_link w.daemon p.link) (is_running p.client.outcome) p q (control_lost p) refl s.carries;
        means = means_cut (place_of_info t.infos) (t.jobs i) (t.wires i) me LinkLost q (λ met. s.means.starved (not_linked LinkLost starved_else me.session.met met)) (λ e. (s.means.before e).1) refl refl;
        served = (refl, shows_ended i t.system.make w.daemon id me.served t.system.device me served);
        speaks = tt;
        waits = waits_lost p.client after.todo s.exchanges.over;
        pends = pends_if (is_running p.client.outcome) p.client (t.wires i) bytes no_request_none refl s.pends;
      });
      link = λ x none. absurd (let clash : None ≡ Some x = none in cc);
      replaces = subst (λ (x : Option SessionId). Replaces x None w.daemon e) (sym link) (replaces_ended w.daemon id h.apart);
      begun = subst (λ (x : JobState). AreStartedViews t.system.make x) (sym job_state) (h.begun i);
    }))

pub control_decides : DecidesAt events.LoseControl LosesControl
control_decides t w i p h at low =
    let s = h.endpoints i p at in
    record {
      can = λ can. some_link p.link (sym s.means.linked ∙ can);
      back = λ can. s.means.linked ∙ linked_by p.link can;
      either = link_or p.link;
      does = λ can e q d. by_link t w i p p.link h at low refl e q d;
    }
  where
    some_link : (link : Option SessionId) → is_some link ≡ true → IsSome link
    some_link None e = absurd (let clash : false ≡ true = e in cc)
    some_link (Some id) e = refl

    linked_by : (link : Option SessionId) → IsSome link → is_some link ≡ true
    linked_by None e = absurd (let clash : false ≡ true = e in cc)
    linked_by (Some id) e = refl

    link_or : (link : Option SessionId) → IsSome link ⊎ (IsSome link → ⊥)
    link_or None = inr (λ x. let clash : false ≡ true = x in absurd (cc))
    link_or (Some id) = inl refl

    by_link : (t : Ghost) (w : WorldCore) (i : ℕ) (p : Endpoint) (link : Option SessionId) → WorldRefines t w → slice_get w.endpoints i ≡ Some p → i < t.count → p.link ≡ link → (e : Core) (q : Endpoint) → world.IfLinked p.link (λ k. (e ≡ after_end_session w.daemon k) × (q ≡ without_link (after_move p))) →
        GhostLeads events.LoseControl LosesControl t i (record { daemon = e; endpoints = slice_set w.endpoints i q })
    by_link t w i p None h at low link e q d = absurd (subst (λ (x : Option SessionId). world.IfLinked x (λ k. (e ≡ after_end_session w.daemon k) × (q ≡ without_link (after_move p)))) link d)
    by_link t w i p (Some id) h at low link e q d =
        let done : (e ≡ after_end_session w.daemon id.number) × (q ≡ without_link (after_move p)) = subst (λ (x : Option SessionId). world.IfLinked x (λ k. (e ≡ after_end_session w.daemon k) × (q ≡ without_link (after_move p)))) link d in
        subst (λ (x : Core). GhostLeads events.LoseControl LosesControl t i (record { daemon = x; endpoints = slice_set w.endpoints i q })) (sym done.0)
        (subst (λ (x : Endpoint). GhostLeads events.LoseControl LosesControl t i (record { daemon = after_end_session w.daemon id.number; endpoints = slice_set w.endpoints i x })) (sym done.1) (unlinked_stands t w i p id h at low link))
