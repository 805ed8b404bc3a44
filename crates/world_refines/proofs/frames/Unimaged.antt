-- The loss of a data connection.
use Rattle.std.specs.Prelude.{option_map, is_some, IsSome}
use Rattle.std.proofs.Common.{◌≡◌, ◌⊎◌, inl, inr, ◌∙◌, ℕ, ◌<◌, List, [], ◌∷◌, Option, Some, None, Bool, true, false, refl, sym, ap, subst, map, slice_get, slice_set}
use Rattle.scan_job.specs.declared.outcome.Why.TheVariants.{Lost}
use Rattle.sane_fixed.specs.declared.status.Status.{Status}
use Rattle.sane_fixed.specs.declared.status.Status.TheVariants.{IoError}
use Rattle.page_picture.specs.Shows.{Frame}
use Rattle.sane_fixed.specs.declared.device_info.DeviceInfo.{DeviceInfo}
use Rattle.data_records.specs.declared.records.RecordPhase.{RecordPhase}
use Rattle.frame_join.specs.FrameHistory.{JoinHistory}
use Rattle.saned_core.specs.declared.session_slot.SessionId.{SessionId}
use Rattle.saned_core.specs.DaemonStates.{Core, after_lost, session_in}
use Rattle.scan_job.specs.declared.job.Job.{Job}
use Rattle.scan_job.specs.declared.outcome.Outcome.{Outcome}
use Rattle.scan_job.specs.declared.outcome.Outcome.TheVariants as outcomes
use Rattle.client_replies.specs.declared.progress.JobTarget.{JobTarget}
use Rattle.client_replies.specs.declared.progress.Link.TheVariants as links
use Rattle.client_replies.specs.declared.progress.Notes.{Notes}
use Rattle.client_replies.specs.declared.progress.Progress.{Progress}
use Rattle.client_replies.specs.declared.progress.Progress.TheVariants as stages
use Rattle.client_replies.specs.ProtocolStates.{ProtocolState, target_of, is_imaging, is_lost_by, is_running}
use Rattle.net_client.specs.ClientStates.{ClientState, protocol_of}
use Rattle.system_model.specs.Client as model
use Rattle.system_model.specs.Client.{Idle, ClientView, JobStage}
use Rattle.system_model.specs.ClientReplies.{client_after_stop, stage_after_stop}
use Rattle.system_model.specs.Causes.{Cause, LinkLost, IsCauseAmong, LinkOutOfMemory}
use Rattle.system_model.specs.Daemon.{TransferState, Quiet, Waiting, Streaming, Ending}
use Rattle.system_model.specs.Actions as actions
use Rattle.system_model.specs.Actions.{left_by_loss, without_image}
use Rattle.system_model.specs.SystemStates.{JobState}
use Rattle.system_model.specs.Transitions.{By, IsImaging, IsUnderWay}
use Rattle.system_model.proofs.JobPromises.{sound_after_all}
use Rattle.client_refines.specs.ClientRefinement.{ClientRefines, OutcomeRefines, WaitsAs}
use Rattle.daemon_refines.proofs.Moved.{put_there}
use Rattle.event_world.specs.declared.event.JobEvent.TheVariants as events
use Rattle.event_world.specs.declared.endpoint.Image.{Image}
use Rattle.event_world.specs.declared.endpoint.Endpoint.{Endpoint}
use Rattle.event_world.specs.Endpoints.{after_move, without_image_link}
use Rattle.event_world.specs.JobEvents as world
use Rattle.event_world.specs.Worlds.{WorldCore}
use Rattle.world_refines.specs.GhostStates.{Ghost, Wires, place_of_info, wired_then}
use Rattle.world_refines.specs.Wires.{FlightMatches, FlowsBy}
use Rattle.world_refines.specs.WorldRefinement.{WiresMatch, HasNoEnd, IsServed, Means, WorldRefines, EndpointClientRefines, image_bytes, slot_of_link, session_by, client_at_greeting, AreStartedViews}
use Rattle.world_refines.specs.GhostEvents.{GhostLeads, LosesImage, wires_with_image}
use Rattle.world_refines.proofs.state.CoreCallsKeep.{input_on, is_lost, on_core, replies_on}
use Rattle.world_refines.proofs.job_events.Cancelling.{flows_over, other_cause}
use Rattle.world_refines.proofs.state.Changing.{stands_change}
use Rattle.world_refines.proofs.job_events.Lost.{IsLost, if_input, if_out, exchanges_lost}
use Rattle.world_refines.proofs.state.GhostClients.{run_is, stops_idle, stops_over, under_runs}
use Rattle.world_refines.proofs.state.EndpointSlots.{replaces_on}
use Rattle.world_refines.proofs.state.Sees.{Leaves}
use Rattle.world_refines.specs.Speaks.{Speaks}
use Rattle.world_refines.proofs.state.Held.{held_after_all}
use Rattle.world_refines.proofs.state.ListedPlaces.{shown_after}
use Rattle.world_refines.proofs.state.Spoken.{same_lost, same_on, speaks_still}
use Rattle.world_refines.proofs.state.Taking.{DecidesAt, done, one_change, one_party, sits_there}
use Rattle.world_refines.proofs.state.Waiting.{waits_if}
use Rattle.world_refines.proofs.state.WorldPending.{pends_if}

-- ---- a job that is under way has a data connection for the data of a frame alone

pub none_some : {X : Type 0} (o : Option X) → o ≡ None → IsSome o → ⊥
none_some o e h = let clash : false ≡ true = subst IsSome e h in absurd (cc)

pub by_imaging : (g : model.AbstractProgress) (c : TransferState) (progress : Progress) (phase : RecordPhase) (image : Option (List ℕ)) (flight : List ℕ) (ending : Option Status) → FlowsBy g c progress phase image flight ending → IsSome image → IsImaging (model.Running g)
by_imaging (model.Imaging params heard) c progress phase image flight ending h some = (params, heard, refl)
by_imaging model.Greeting c progress phase image flight ending h some = absurd (none_some image h.image_is some)
by_imaging model.Listing c progress phase image flight ending h some = absurd (none_some image h.image_is some)
by_imaging model.Opening c progress phase image flight ending h some = absurd (none_some image h.image_is some)
by_imaging (model.Allowing challenge) c progress phase image flight ending h some = absurd (none_some image h.image_is some)
by_imaging (model.Describing left) c progress phase image flight ending h some = absurd (none_some image h.image_is some)
by_imaging (model.Putting n value requested left) c progress phase image flight ending h some = absurd (none_some image h.image_is some)
by_imaging (model.Getting n left) c progress phase image flight ending h some = absurd (none_some image h.image_is some)
by_imaging model.Starting c progress phase image flight ending h some = absurd (none_some image h.image_is some)
by_imaging model.Shaping c progress phase image flight ending h some = absurd (none_some image h.image_is some)

pub flows_imaging : (st : JobStage) (c : TransferState) (progress : Progress) (phase : RecordPhase) (image : Option (List ℕ)) (flight : List ℕ) (ending : Option Status) → FlightMatches st c progress phase image flight ending → IsSome image → IsUnderWay st → IsImaging st
flows_imaging Idle c progress phase image flight ending h some u = absurd (none_some image h.image_is some)
flows_imaging (model.Running g) c progress phase image flight ending h some u = by_imaging g c progress phase image flight ending h some
flows_imaging model.Done c progress phase image flight ending h some u = absurd u
flows_imaging (model.Ended status why) c progress phase image flight ending h some u = absurd u

other_stage : (st : JobStage) (g : model.AbstractProgress) → st ≡ model.Running g → IsImaging st → IsImaging (model.Running g)
other_stage st g e h = subst IsImaging e h

pub waits_imaging : (job : model.AbstractJob) (progress : Progress) (notes : Notes) (past : JoinHistory) (m : ClientView) → WaitsAs job progress notes past m → IsImaging m.stage → is_imaging progress ≡ true
waits_imaging job (stages.Imaging port made) notes past m w h = refl
waits_imaging job stages.Greeting notes past m w h = let x = other_stage m.stage _ w.0 h in absurd (let clash : model.Running model.Greeting ≡ model.Running (model.Imaging x.0 x.1) = x.2 in cc)
waits_imaging job stages.Listing notes past m w h = let x = other_stage m.stage _ w.0 h in absurd (let clash : model.Running model.Listing ≡ model.Running (model.Imaging x.0 x.1) = x.2 in cc)
waits_imaging job stages.Opening notes past m w h = let x = other_stage m.stage _ w.0 h in absurd (let clash : model.Running model.Opening ≡ model.Running (model.Imaging x.0 x.1) = x.2 in cc)
waits_imaging job (stages.Allowing resource answer) notes past m w h = let x = other_stage m.stage _ w.0.1.0 h in absurd (let clash : model.Running (model.Allowing w.0.0) ≡ model.Running (model.Imaging x.0 x.1) = x.2 in cc)
waits_imaging job stages.Reopening notes past m w h = let x = other_stage m.stage _ w.0.1 h in absurd (let clash : model.Running (model.Allowing w.0.0) ≡ model.Running (model.Imaging x.0 x.1) = x.2 in cc)
waits_imaging job stages.Describing notes past m w h = let x = other_stage m.stage _ w.0 h in absurd (let clash : model.Running (model.Describing _) ≡ model.Running (model.Imaging x.0 x.1) = x.2 in cc)
waits_imaging job (stages.Putting n kind name asked) notes past m w h = let x = other_stage m.stage _ w.0.1.0 h in absurd (let clash : model.Running (model.Putting n asked w.0.0 _) ≡ model.Running (model.Imaging x.0 x.1) = x.2 in cc)
waits_imaging job (stages.Getting n kind size) notes past m w h = let x = other_stage m.stage _ w.0.1.0 h in absurd (let clash : model.Running (model.Getting n w.0.0) ≡ model.Running (model.Imaging x.0 x.1) = x.2 in cc)
waits_imaging job (stages.Starting first) notes past m w h = let x = other_stage m.stage _ w.0 h in absurd (let clash : model.Running model.Starting ≡ model.Running (model.Imaging x.0 x.1) = x.2 in cc)
waits_imaging job (stages.Shaping port order) notes past m w h = let x = other_stage m.stage _ w.0 h in absurd (let clash : model.Running model.Shaping ≡ model.Running (model.Imaging x.0 x.1) = x.2 in cc)
waits_imaging job stages.Turning notes past m w h = let x = other_stage m.stage _ w.0 h in absurd (let clash : model.Running model.Starting ≡ model.Running (model.Imaging x.0 x.1) = x.2 in cc)
waits_imaging job stages.Over notes past m w h = absurd w

pub imaging_woken : (st : JobStage) (m : ClientView) → m.stage ≡ st → IsImaging st → IsImaging (client_at_greeting st m).stage
imaging_woken Idle m e h = absurd (let clash : Idle ≡ model.Running (model.Imaging h.0 h.1) = h.2 in cc)
imaging_woken (model.Running g) m e h = subst IsImaging (sym e) h
imaging_woken model.Done m e h = absurd (let clash : model.Done ≡ model.Running (model.Imaging h.0 h.1) = h.2 in cc)
imaging_woken (model.Ended status why) m e h = absurd (let clash : model.Ended status why ≡ model.Running (model.Imaging h.0 h.1) = h.2 in cc)

-- a client that runs is as it waits
pub waits_as : (place : DeviceInfo → ℕ) (target : JobTarget) (job : model.AbstractJob) (pages : List (List Frame)) (protocol : ProtocolState) (m : ClientView) → ClientRefines place target job pages protocol m → is_running protocol.outcome ≡ true → WaitsAs job protocol.progress protocol.notes protocol.history m
waits_as place target job pages protocol m r e = let s : OutcomeRefines place target job pages outcomes.Running protocol.progress protocol.notes protocol.history m = subst (λ (o : Outcome). OutcomeRefines place target job pages o protocol.progress protocol.notes protocol.history m) (run_is protocol.outcome e) r.stands in s.1

lost_by : (o : Outcome) (progress : Progress) → is_running o ≡ true → is_imaging progress ≡ true → is_lost_by links.Image o progress ≡ true
lost_by outcomes.Running progress e f = f
lost_by (outcomes.Done reports) progress e f = absurd (let clash : false ≡ true = e in cc)
lost_by (outcomes.Ended status why) progress e f = absurd (let clash : false ≡ true = e in cc)

pub image_counts : (place : DeviceInfo → ℕ) (job : Job) (past : JoinHistory) (pages : List JoinHistory) (x : Wires) (p : JobState) (endpoint : Endpoint) → EndpointClientRefines place job past pages p endpoint → Means place job x p endpoint → IsSome x.image → IsUnderWay p.client.stage → is_lost_by links.Image endpoint.client.outcome endpoint.client.progress ≡ true
image_counts place job past pages x p endpoint h m some u =
    let shown : List (List Frame) = map (λ (q : JoinHistory). q.ended) pages in
    let runs = under_runs place (target_of job) p.session.job shown (protocol_of endpoint.client past) p.client h.reads u in
    let imaging = flows_imaging p.client.stage p.session.transfer endpoint.client.progress endpoint.client.phase x.image p.session.flight p.session.ending m.flow some u in
    lost_by endpoint.client.outcome endpoint.client.progress runs
    (waits_imaging p.session.job endpoint.client.progress endpoint.client.notes past (client_at_greeting p.client.stage p.client) (waits_as place (target_of job) p.session.job shown (protocol_of endpoint.client past) (client_at_greeting p.client.stage p.client) h.reads runs) (imaging_woken p.client.stage p.client refl imaging))

-- ---- what stands then

abbrev pub drops_by : Cause → JobState → JobState
drops_by cause p = record p { client = client_after_stop IoError Lost p.client; image = false; session = without_image p.session cause }

pub carries_dropped : (x : Wires) (core : Core) (id : SessionId) (b : Bool) (old new : Endpoint) → IsLost b old new → new.image ≡ None → WiresMatch x (slot_of_link core (Some id)) old → WiresMatch (wires_with_image None x) (slot_of_link (on_core after_lost core id.number) (Some id)) new
carries_dropped x core id b old new l image h =
    record {
      up = ap (λ (c : ClientState). c.out) l.client ∙ (if_out b old.client ∙ h.up);
      asking = input_on after_lost id.number core.slots ∙ h.asking;
      down = replies_on after_lost id.number core.slots ∙ h.down;
      telling = ap (λ (c : ClientState). c.input.rest) l.client ∙ (ap (λ (y : _). y.rest) (if_input b old.client) ∙ h.telling);
      image = ap (option_map image_bytes) image;
    }

-- where there is no end
pub no_end : (c : TransferState) → HasNoEnd c None
no_end Quiet = tt
no_end Waiting = tt
no_end Streaming = refl
no_end Ending = refl

pub means_dropped : (place : DeviceInfo → ℕ) (job : Job) (x : Wires) (p : JobState) (cause : Cause) (old new : Endpoint) → (IsCauseAmong LinkOutOfMemory (cause ∷ p.session.met) → new.out_of_memory ≡ true) → new.was_connected ≡ old.was_connected → new.link ≡ old.link → new.is_over ≡ old.is_over → new.image ≡ None → Means place job x p old → Means place job (wires_with_image None x) (drops_by cause p) new
means_dropped place job x p cause old new starved connected link over image h =
    record {
      linked = h.linked ∙ ap is_some (sym link);
      before = λ e. let b = h.before (sym connected ∙ e) in (link ∙ b.0, over ∙ b.1);
      over = λ e. over ∙ h.over e;
      calm = λ e. ap left_by_loss (h.calm e);
      image = λ h. absurd (let clash : false ≡ true = h in cc);
      last = λ im e. absurd (let clash : None ≡ Some im = sym image ∙ e in cc);
      unended = no_end (left_by_loss p.session.transfer);
      first = λ e. absurd (stops_idle IoError Lost p.client.stage e);
      up = λ served. h.up served;
      down = λ u. absurd (stops_over IoError Lost p.client.stage u);
      flow = flows_over (stage_after_stop IoError Lost p.client.stage) (left_by_loss p.session.transfer) _ _ None [] None (stops_over IoError Lost p.client.stage);
      starved = starved;
    }

image_lost : (p : Endpoint) → IsLost (is_lost_by links.Image p.client.outcome p.client.progress) p (without_image_link (after_move p))
image_lost p = record { client = refl; task = refl; file = refl; pages = refl; finished = refl; out_of_memory = inl refl }

starved_else : LinkOutOfMemory ≡ LinkLost → ⊥
starved_else e = absurd (cc)

unimaged_stands : (t : Ghost) (w : WorldCore) (i : ℕ) (p : Endpoint) (id : SessionId) → WorldRefines t w → slice_get w.endpoints i ≡ Some p → i < t.count → p.link ≡ Some id → IsSome (t.wires i).image →
    GhostLeads events.LoseImage LosesImage t i (record { daemon = world.image_lost id.number w.daemon; endpoints = slice_set w.endpoints i (without_image_link (after_move p)) })
unimaged_stands t w i p id h at low link some =
    let s = h.endpoints i p at in
    let me = t.system.job i in
    let place = place_of_info t.infos in
    let linked : me.linked ≡ true = s.means.linked ∙ ap is_some link in
    let may : me.image ≡ true = s.means.image some in
    let bytes : Wires = wires_with_image None (t.wires i) in
    let steps = By i (actions.LosesImage false) ∷ [] in
    let u : Ghost = wired_then t i steps bytes in
    let e = on_core after_lost w.daemon id.number in
    let q = without_image_link (after_move p) in
    let b = is_lost_by links.Image p.client.outcome p.client.progress in
    let after : JobState = drops_by LinkLost me in
    let served = subst (λ (x : Option SessionId). IsServed i t.system.make w.daemon x me.served t.system.device (session_by i t.system.device me)) link s.served in
    let both = is_lost i t.system.make w.daemon id me.served t.system.device me after h.slots h.faithful s.means.calm refl refl refl served in
    let idle : b ≡ false → IsUnderWay me.client.stage → ⊥ = λ over under.
    let counts = image_counts place (t.jobs i) (t.history i) (t.pages i) (t.wires i) me p s.exchanges s.means some under in
    let clash : true ≡ false = sym counts ∙ over in absurd (cc) in
    let job_state = one_party t i (actions.LosesImage false) bytes (t.history i) (t.pages i) in
    done events.LoseImage LosesImage t i _ steps u (some, linked) (refl, record { legal = (may, tt); then_is = refl })
    (stands_change t u w i p q e h at (subst (λ (n : ℕ). i < n) h.is_of.count low) (record {
      told = one_change t i (actions.LosesImage false) bytes (t.history i) (t.pages i);
      leaves = subst (λ (x : Option SessionId). Leaves i t.system.make x w.daemon e t.system.device u.system.device) (sym link) both.0;
      sound = sound_after_all t.system steps h.sound (may, tt);
      asks = held_after_all t.system steps h.sound h.asks (may, tt);
      shown = shown_after t w steps h;
      sits = sits_there u e i q after bytes (t.history i) (t.pages i) job_state (put_there t.wires i bytes) (put_there t.history i (t.history i)) (put_there t.pages i (t.pages i)) (record {
        job_is = s.job_is;
        exchanges = exchanges_lost place (t.jobs i) (t.history i) (t.pages i) me (without_image me.session LinkLost) p q links.Image b refl idle refl (image_lost p) s.exchanges after refl refl;
        carries = subst (λ (x : Option SessionId). WiresMatch bytes (slot_of_link e x) q) (sym link) (carries_dropped (t.wires i) w.daemon id b p q (image_lost p) refl (subst (λ (x : Option SessionId). WiresMatch (t.wires i) (slot_of_link w.daemon x) p) link s.carries));
        means = means_dropped place (t.jobs i) (t.wires i) me LinkLost p q (λ met. s.means.starved (other_cause LinkOutOfMemory LinkLost me.session.met starved_else met)) refl refl refl refl s.means;
        served = subst (λ (x : Option SessionId). IsServed i t.system.make e x me.served u.system.device (session_by i u.system.device after)) (sym link) both.1;
        speaks =
            subst (λ (x : Option SessionId). Speaks (t.jobs i).device after (session_in (slot_of_link e x))) (sym link)
            (speaks_still (t.jobs i).device me after (session_in (slot_of_link w.daemon (Some id))) (session_in (slot_of_link e (Some id))) refl refl (same_on after_lost same_lost id.number w.daemon.slots)
            (subst (λ (x : Option SessionId). Speaks (t.jobs i).device me (session_in (slot_of_link w.daemon x))) link s.speaks));
        waits = waits_if b p.client me.todo s.waits;
        pends = pends_if b p.client (t.wires i) bytes s.pends.asking refl s.pends;
      });
      link = λ x is. inl is;
      replaces = replaces_on after_lost p.link w.daemon id.number;
      begun = subst (λ (x : JobState). AreStartedViews t.system.make x) (sym job_state) (h.begun i);
    }))

-- ---- the event

pub some_or : {X : Type 0} (o : Option X) → IsSome o ⊎ (IsSome o → ⊥)
some_or None = inr (λ x. let clash : false ≡ true = x in absurd (cc))
some_or (Some x) = inl refl

pub both_or : {A B : Type 0} → A ⊎ (A → ⊥) → B ⊎ (B → ⊥) → (A × B) ⊎ (A × B → ⊥)
both_or (inl a) (inl b) = inl (a, b)
both_or (inl a) (inr n) = inr (λ x. n x.1)
both_or (inr n) b = inr (λ x. n x.0)

pub bytes_some : (o : Option Image) → IsSome (option_map image_bytes o) → IsSome o
bytes_some None h = h
bytes_some (Some image) h = h

pub some_bytes : (o : Option Image) → IsSome o → IsSome (option_map image_bytes o)
some_bytes None h = h
some_bytes (Some image) h = h

pub image_decides : DecidesAt events.LoseImage LosesImage
image_decides t w i p h at low =
    let s = h.endpoints i p at in
    record {
      can = λ can. (bytes_some p.image (subst IsSome (sym s.carries.image) can.0), some_link p.link (sym s.means.linked ∙ can.1));
      back = λ can. (subst IsSome s.carries.image (some_bytes p.image can.0), s.means.linked ∙ linked_by p.link can.1);
      either = both_or (some_or p.image) (some_or p.link);
      does = λ can e q d. by_link t w i p p.link h at low refl (subst IsSome s.carries.image (some_bytes p.image can.0)) e q d;
    }
  where
    some_link : (link : Option SessionId) → is_some link ≡ true → IsSome link
    some_link None e = e
    some_link (Some id) e = e

    linked_by : (link : Option SessionId) → IsSome link → is_some link ≡ true
    linked_by None e = e
    linked_by (Some id) e = e

    by_link : (t : Ghost) (w : WorldCore) (i : ℕ) (p : Endpoint) (link : Option SessionId) → WorldRefines t w → slice_get w.endpoints i ≡ Some p → i < t.count → p.link ≡ link → IsSome (t.wires i).image → (e : Core) (q : Endpoint) → world.IfLinked p.link (λ k. (e ≡ world.image_lost k w.daemon) × (q ≡ without_image_link (after_move p))) →
        GhostLeads events.LoseImage LosesImage t i (record { daemon = e; endpoints = slice_set w.endpoints i q })
    by_link t w i p None h at low link some e q d = absurd (subst (λ (x : Option SessionId). world.IfLinked x (λ k. (e ≡ world.image_lost k w.daemon) × (q ≡ without_image_link (after_move p)))) link d)
    by_link t w i p (Some id) h at low link some e q d =
        let done : (e ≡ world.image_lost id.number w.daemon) × (q ≡ without_image_link (after_move p)) = subst (λ (x : Option SessionId). world.IfLinked x (λ k. (e ≡ world.image_lost k w.daemon) × (q ≡ without_image_link (after_move p)))) link d in
        subst (λ (x : Core). GhostLeads events.LoseImage LosesImage t i (record { daemon = x; endpoints = slice_set w.endpoints i q })) (sym done.0)
        (subst (λ (x : Endpoint). GhostLeads events.LoseImage LosesImage t i (record { daemon = world.image_lost id.number w.daemon; endpoints = slice_set w.endpoints i x })) (sym done.1) (unimaged_stands t w i p id h at low link some))
