-- A control connection is made.
use Rattle.std.proofs.Common.{◌≡◌, ◌≢◌, ◌⊎◌, inl, inr, ◌∙◌, ℕ, ◌<◌, List, [], ◌∷◌, ◌++◌, Option, Some, None, Bool, true, false, refl, sym, ap, subst, map, slice_get, slice_set, arith}
use Rattle.scan_job.specs.declared.outcome.Why.TheVariants.{Lost}
use Rattle.sane_fixed.specs.declared.status.Status.{Status}
use Rattle.sane_fixed.specs.declared.status.Status.TheVariants.{IoError}
use Rattle.sane_fixed.specs.declared.device_info.DeviceInfo.{DeviceInfo}
use Rattle.device_api.specs.State.{DeviceState}
use Rattle.data_records.specs.declared.records.RecordPhase.{RecordPhase}
use Rattle.frame_join.specs.FrameHistory.{JoinHistory}
use Rattle.saned_core.specs.declared.session_slot.SessionSlot.{SessionSlot}
use Rattle.saned_core.specs.declared.session_slot.SessionId.{SessionId}
use Rattle.saned_core.specs.DaemonStates.{Core, new_session_slot, is_closed, after_open_session, replies_in, session_slot_of, session_in}
use Rattle.saned_core.specs.Feeding.{input_in}
use Rattle.scan_job.specs.declared.job.Job.{Job}
use Rattle.client_replies.specs.declared.progress.Link.TheVariants as links
use Rattle.client_replies.specs.declared.progress.Progress.{Progress}
use Rattle.client_replies.specs.ProtocolStates.{target_of, is_running}
use Rattle.net_client.specs.ClientStates.{protocol_of}
use Rattle.system_model.specs.AbstractMessages.{Init}
use Rattle.system_model.specs.Client.{Idle, ClientView, JobStage, Greeting, Running, with_progress}
use Rattle.system_model.specs.ClientReplies.{client_after_stop, stage_after_stop}
use Rattle.system_model.specs.Causes.{LinkOutOfMemory}
use Rattle.system_model.specs.Daemon.{TransferState, Quiet}
use Rattle.system_model.specs.Actions as actions
use Rattle.system_model.specs.Actions.{session_after_loss, after_connection}
use Rattle.system_model.specs.SystemStates.{JobState, make_for, device_for, wanted_place}
use Rattle.system_model.specs.AbstractDevices.{device_let_go}
use Rattle.system_model.specs.Invariants as sound
use Rattle.system_model.specs.Transitions.{By, IsHistory, IsUnderWay, Transition, after_transition}
use Rattle.system_model.proofs.JobPromises.{sound_after_all}
use Rattle.client_refines.specs.ClientRefinement.{ClientRefines}
use Rattle.daemon_refines.specs.ContextRefinement.{TableRefines}
use Rattle.daemon_refines.proofs.SessionEndings.{no_place, same_tables}
use Rattle.daemon_refines.proofs.Moved.{put_elsewhere, put_there}
use Rattle.event_world.specs.declared.event.JobEvent.TheVariants as events
use Rattle.event_world.specs.declared.endpoint.Endpoint.{Endpoint}
use Rattle.event_world.specs.Endpoints.{with_link, shut_out, after_move}
use Rattle.event_world.specs.JobEvents as world
use Rattle.event_world.specs.Worlds.{WorldCore}
use Rattle.world_refines.specs.GhostStates.{Ghost, Wires, place_of_info, wired_then}
use Rattle.world_refines.specs.Wires.{FlightMatches, NothingFlows, SpellsAsked}
use Rattle.world_refines.specs.WorldRefinement.{WiresMatch, IsServed, KeepsFiles, Means, WorldRefines, EndpointClientRefines, is_laid, slot_of_link, session_by, client_at_greeting, AreStartedViews}
use Rattle.world_refines.specs.GhostEvents.{GhostConnects, GhostLeads, wires_without_down}
use Rattle.world_refines.proofs.state.Changing.{IsChange, stands_change}
use Rattle.world_refines.proofs.job_events.Fresh.{fresh_served, fresh_there, leaves_opened}
use Rattle.world_refines.proofs.job_events.Losing.{carries_cut, loses_by, means_cut}
use Rattle.world_refines.proofs.job_events.Lost.{IsLost, exchanges_lost}
use Rattle.world_refines.specs.Speaks.{Speaks}
use Rattle.world_refines.proofs.state.Held.{held_after_all}
use Rattle.world_refines.proofs.state.ListedPlaces.{shown_after}
use Rattle.world_refines.proofs.state.GhostClients.{runs_under, under_runs}
use Rattle.world_refines.proofs.state.EndpointSlots.{Replaces, replaces_opened, replaces_same}
use Rattle.world_refines.proofs.state.Sees.{Leaves}
use Rattle.world_refines.proofs.state.Taking.{DecidesAt, done, leaves_core, one_change, one_party, put_self, sits_there}
use Rattle.world_refines.proofs.frames.Unimaged.{both_or}
use Rattle.world_refines.proofs.frames.Unimaged.{waits_as}
use Rattle.world_refines.proofs.state.Waiting.{waits_greeting, waits_lost}
use Rattle.page_picture.specs.Shows.{Frame}
use Rattle.world_refines.proofs.state.WorldPending.{no_request_none, pends_if, pends_same}

-- ---- a job that is not connected yet

pub record IsIdle (i : ℕ) (t : Ghost) (p : Endpoint) : Type 0 where
  pub stage : (t.system.job i).client.stage ≡ Idle
  pub served : (t.system.job i).served ≡ false
  pub free : (device_for t.system i).holder ≢ Some i
  pub quiet : (t.system.job i).session.transfer ≡ Quiet
  pub awaits : (t.system.job i).session.awaited ≡ None
  pub link : p.link ≡ None
  pub over : p.is_over ≡ false

is_idle : (t : Ghost) (w : WorldCore) (i : ℕ) (p : Endpoint) → WorldRefines t w → slice_get w.endpoints i ≡ Some p → (t.system.job i).client.stage ≡ Idle → IsIdle i t p
is_idle t w i p h at e =
    let s = h.endpoints i p at in
    let k : sound.StageInvariant i (make_for t.system i) (t.system.job i) (device_for t.system i) Idle = subst (λ (x : JobStage). sound.StageInvariant i (make_for t.system i) (t.system.job i) (device_for t.system i) x) e (h.sound.exchanges i) in
    let b = s.means.before (s.exchanges.idle e) in
    record { stage = e; served = k.0; free = k.3.free; quiet = k.3.transfer; awaits = k.3.awaits; link = b.0; over = b.1 }

nothing_held : (t : Ghost) (w : WorldCore) (i : ℕ) (p : Endpoint) → WorldRefines t w → slice_get w.endpoints i ≡ Some p → IsIdle i t p → TableRefines i t.system.make [] w.daemon.registry t.system.device
nothing_held t w i p h at idle = (subst (λ (b : Bool). IsServed i t.system.make w.daemon p.link b t.system.device (session_by i t.system.device (t.system.job i))) idle.served (h.endpoints i p at).served).1

woken_idle : (st : JobStage) (m : ClientView) → st ≡ Idle → client_at_greeting st m ≡ with_progress Greeting m
woken_idle st m e = ap (λ (x : JobStage). client_at_greeting x m) e

-- ---- a session is opened

exchanges_linked : (place : DeviceInfo → ℕ) (job : Job) (past : JoinHistory) (pages : List JoinHistory) (p : JobState) (old : Endpoint) (id : SessionId) → p.client.stage ≡ Idle → EndpointClientRefines place job past pages p old → EndpointClientRefines place job past pages (after_connection p) (with_link id (after_move old))
exchanges_linked place job past pages p old id e h =
    record {
      task = h.task;
      target = h.target;
      word = h.word;
      over = h.over;
      serves = h.serves;
      reads = subst (λ (x : ClientView). ClientRefines place (target_of job) p.session.job (map (λ (q : JoinHistory). q.ended) pages) (protocol_of old.client past) x) (woken_idle p.client.stage p.client e) h.reads;
      idle = λ clash. absurd (let different : Running Greeting ≡ Idle = clash in cc);
      begun = λ clash. absurd (let different : true ≡ false = clash in cc);
      files = files_same (is_laid job.task old.client.outcome past) past pages old id h.files;
      finished = h.finished;
      alone = h.alone;
      done = h.done;
    }
  where
    files_same : (b : Bool) (past : JoinHistory) (pages : List JoinHistory) (old : Endpoint) (id : SessionId) → KeepsFiles b past pages old → KeepsFiles b past pages (with_link id (after_move old))
    files_same true past pages old id f = record { file = f.file; each = f.each; count = f.count; room = f.room }
    files_same false past pages old id f = record { file = f.file; each = f.each; count = f.count; room = f.room }

carries_linked : (x : Wires) (d : Core) (port : ℕ) (id : SessionId) (old : Endpoint) → old.link ≡ None → session_slot_of (after_open_session d port).slots id.number ≡ Some (new_session_slot d.strings d.opened port) → WiresMatch x (slot_of_link d old.link) old → WiresMatch x (slot_of_link (after_open_session d port) (Some id)) (with_link id (after_move old))
carries_linked x d port id old none fresh h =
    record {
      up = h.up;
      asking = ap input_in fresh ∙ (sym (ap (λ (l : Option SessionId). input_in (slot_of_link d l)) none) ∙ h.asking);
      down = ap replies_in fresh ∙ (sym (ap (λ (l : Option SessionId). replies_in (slot_of_link d l)) none) ∙ h.down);
      telling = h.telling;
      image = h.image;
    }

flows_idle : (st : JobStage) (c : TransferState) (progress : Progress) (phase : RecordPhase) (image : Option (List ℕ)) (flight : List ℕ) (ending : Option Status) → st ≡ Idle → FlightMatches st c progress phase image flight ending → NothingFlows image flight ending
flows_idle st c progress phase image flight ending e h = subst (λ (x : JobStage). FlightMatches x c progress phase image flight ending) e h

means_linked : (place : DeviceInfo → ℕ) (job : Job) (x : Wires) (p : JobState) (old : Endpoint) (id : SessionId) → p.client.stage ≡ Idle → x.asking ≡ [] → old.is_over ≡ false → Means place job x p old → Means place job x (after_connection p) (with_link id (after_move old))
means_linked place job x p old id e nothing over h =
    record {
      linked = refl;
      before = λ clash. absurd (let different : true ≡ false = clash in cc);
      over = λ _. over;
      calm = λ clash. absurd (let different : true ≡ false = clash in cc);
      image = h.image;
      last = h.last;
      unended = h.unended;
      first = λ clash. absurd (let different : Running Greeting ≡ Idle = clash in cc);
      up = λ _. subst (λ (bytes : List ℕ). SpellsAsked job p.client (Init ∷ []) (bytes ++ x.up)) (sym nothing) (h.first e);
      down = λ _. h.down (subst IsUnderWay (sym e) tt);
      flow = flows_idle p.client.stage p.session.transfer old.client.progress old.client.phase x.image p.session.flight p.session.ending e h.flow;
      starved = h.starved;
    }

abbrev number_of : Option SessionId → ℕ
number_of None = 0
number_of (Some id) = id.number

linked_stands : (t : Ghost) (w : WorldCore) (i : ℕ) (p : Endpoint) (port : ℕ) (id : SessionId) → WorldRefines t w → slice_get w.endpoints i ≡ Some p → i < t.count → IsIdle i t p → is_closed w.daemon ≡ false → id.number ≡ w.daemon.opened →
    GhostLeads events.Connect GhostConnects t i (record { daemon = after_open_session w.daemon port; endpoints = slice_set w.endpoints i (with_link id (after_move p)) })
linked_stands t w i p port id h at low idle closed number =
    let s = h.endpoints i p at in
    let me = t.system.job i in
    let place = place_of_info t.infos in
    let bytes : Wires = t.wires i in
    let steps = By i actions.Connects ∷ [] in
    let u : Ghost = wired_then t i steps bytes in
    let e = after_open_session w.daemon port in
    let q = with_link id (after_move p) in
    let same = put_self t.system.device (wanted_place t.system i) (device_for t.system i) refl in
    let table = nothing_held t w i p h at idle in
    let asking : bytes.asking ≡ [] = sym s.carries.asking ∙ ap (λ (l : Option SessionId). input_in (slot_of_link w.daemon l)) idle.link in
    let job_state = one_party t i actions.Connects bytes (t.history i) (t.pages i) in
    let shown : List (List Frame) = map (λ (x : JoinHistory). x.ended) (t.pages i) in
    let runs = under_runs place (target_of (t.jobs i)) me.session.job shown (protocol_of p.client (t.history i)) me.client s.exchanges.reads (subst IsUnderWay (sym idle.stage) tt) in
    let waiting = waits_as place (target_of (t.jobs i)) me.session.job shown (protocol_of p.client (t.history i)) (client_at_greeting me.client.stage me.client) s.exchanges.reads runs in
    done events.Connect GhostConnects t i _ steps u (low, idle.stage) (inl (refl, record { legal = (idle.stage, tt); then_is = refl }))
    (stands_change t u w i p q e h at (subst (λ (n : ℕ). i < n) h.is_of.count low) (record {
      told = one_change t i actions.Connects bytes (t.history i) (t.pages i);
      leaves = subst (λ (x : Option SessionId). Leaves i t.system.make x w.daemon e t.system.device u.system.device) (sym idle.link) (leaves_opened i t.system.make w.daemon port t.system.device u.system.device h.slots h.faithful same table);
      sound = sound_after_all t.system steps h.sound (idle.stage, tt);
      asks = held_after_all t.system steps h.sound h.asks (idle.stage, tt);
      shown = shown_after t w steps h;
      sits = sits_there u e i q (after_connection me) bytes (t.history i) (t.pages i) job_state (put_there t.wires i bytes) (put_there t.history i (t.history i)) (put_there t.pages i (t.pages i)) (record {
        job_is = s.job_is;
        exchanges = exchanges_linked place (t.jobs i) (t.history i) (t.pages i) me p id idle.stage s.exchanges;
        carries = carries_linked bytes w.daemon port id p idle.link (fresh_there w.daemon port id.number closed h.slots number) s.carries;
        means = means_linked place (t.jobs i) bytes me p id idle.stage asking idle.over s.means;
        served = fresh_served i t.system.make w.daemon port id t.system.device u.system.device (after_connection me) closed h.slots number same idle.free idle.quiet idle.awaits table;
        speaks =
            subst (λ (x : Option (SessionSlot DeviceState)). Speaks (t.jobs i).device (after_connection me) (session_in x)) (sym (fresh_there w.daemon port id.number closed h.slots number))
            (record { greeted = ([], refl); awaits = idle.awaits });
        waits = waits_greeting me.session.job p.client.progress p.client.notes (t.history i) (client_at_greeting me.client.stage me.client) (after_connection me).todo waiting (ap (λ (x : ClientView). x.stage) (woken_idle me.client.stage me.client idle.stage));
        pends = pends_same p.client.outcome p.client.progress p.client.phase (t.wires i) bytes s.pends.asking refl s.pends;
      });
      link = λ x is. let same_id : Some id ≡ Some x = is in let number_is : x.number ≡ w.daemon.opened = sym (ap number_of same_id) ∙ number in inr (omega (arith, number_is), omega (arith, number_is));
      replaces = subst (λ (x : Option SessionId). Replaces x (Some id) w.daemon e) (sym idle.link) (replaces_opened w.daemon port id number);
      begun = subst (λ (x : JobState). AreStartedViews t.system.make x) (sym job_state) (h.begun i);
    }))

-- ---- there is none, and the connection is lost

shut_lost : (p : Endpoint) → IsLost (is_running p.client.outcome) p (shut_out (after_move p))
shut_lost p = record { client = refl; task = refl; file = refl; pages = refl; finished = refl; out_of_memory = inr refl }

-- the two steps, and what they make of the job
abbrev both_steps : ℕ → List Transition
both_steps i = By i actions.Connects ∷ By i (actions.Loses true) ∷ []

two_party : (t : Ghost) (i : ℕ) (bytes : Wires) → (wired_then t i (both_steps i) bytes).system.job i ≡ loses_by LinkOutOfMemory (after_connection (t.system.job i))
two_party t i bytes =
    let s = after_transition t.system (By i actions.Connects) in
    put_there s.job i (loses_by LinkOutOfMemory (s.job i)) ∙ ap (λ (p : JobState). loses_by LinkOutOfMemory p) (put_there t.system.job i (after_connection (t.system.job i)))

two_change : (t : Ghost) (i : ℕ) (bytes : Wires) → IsChange i t (wired_then t i (both_steps i) bytes)
two_change t i bytes =
    let s = after_transition t.system (By i actions.Connects) in
    record {
      users = refl;
      infos = refl;
      count = refl;
      jobs = refl;
      make = refl;
      places = refl;
      job = λ j n. put_elsewhere s.job i (loses_by LinkOutOfMemory (s.job i)) j n ∙ put_elsewhere t.system.job i (after_connection (t.system.job i)) j n;
      wires = λ j n. put_elsewhere t.wires i bytes j n;
      history = λ j n. put_elsewhere t.history i (t.history i) j n;
      pages = λ j n. put_elsewhere t.pages i (t.pages i) j n;
    }

two_device : (t : Ghost) (w : WorldCore) (i : ℕ) (bytes : Wires) → TableRefines i t.system.make [] w.daemon.registry t.system.device → (k : ℕ) → (wired_then t i (both_steps i) bytes).system.device k ≡ t.system.device k
two_device t w i bytes h k =
    let s = after_transition t.system (By i actions.Connects) in
    let one : (j : ℕ) → s.device j ≡ t.system.device j = put_self t.system.device (wanted_place t.system i) (device_for t.system i) refl in
    let d = wanted_place s i in
    let same : device_let_go i (s.device d) ≡ s.device d = ap (device_let_go i) (one d) ∙ (no_place i (t.system.make d) d (t.system.device d) (slice_get w.daemon.registry d) (h.places d) ∙ sym (one d)) in
    put_self s.device d (device_let_go i (s.device d)) same k ∙ one k

two_legal : (t : Ghost) (i : ℕ) → (t.system.job i).client.stage ≡ Idle → IsHistory t.system (both_steps i)
two_legal t i e = (e, (ap (λ (p : JobState). p.linked) (put_there t.system.job i (after_connection (t.system.job i))), tt))

shut_mind : (m : ClientView) → m.stage ≡ Idle → client_after_stop IoError Lost (with_progress Greeting m) ≡ client_after_stop IoError Lost m
shut_mind m e = ap (λ (x : JobStage). record m { stage = stage_after_stop IoError Lost x }) (sym e)

shut_stands : (t : Ghost) (w : WorldCore) (i : ℕ) (p : Endpoint) → WorldRefines t w → slice_get w.endpoints i ≡ Some p → i < t.count → IsIdle i t p → GhostLeads events.Connect GhostConnects t i (record { daemon = w.daemon; endpoints = slice_set w.endpoints i (shut_out (after_move p)) })
shut_stands t w i p h at low idle =
    let s = h.endpoints i p at in
    let me = t.system.job i in
    let place = place_of_info t.infos in
    let bytes : Wires = wires_without_down (t.wires i) in
    let steps = both_steps i in
    let u : Ghost = wired_then t i steps bytes in
    let q = shut_out (after_move p) in
    let now : JobState = loses_by LinkOutOfMemory (after_connection me) in
    let table = nothing_held t w i p h at idle in
    let same = two_device t w i bytes table in
    let never : is_running p.client.outcome ≡ false → IsUnderWay me.client.stage → ⊥ = λ over under.
    let runs = under_runs place (target_of (t.jobs i)) me.session.job (map (λ (x : JoinHistory). x.ended) (t.pages i)) (protocol_of p.client (t.history i)) me.client s.exchanges.reads under in
    let clash : true ≡ false = sym runs ∙ over in absurd (cc) in
    let legal = two_legal t i idle.stage in
    done events.Connect GhostConnects t i _ steps u (low, idle.stage) (inr (refl, record { legal = legal; then_is = refl }))
    (stands_change t u w i p q w.daemon h at (subst (λ (n : ℕ). i < n) h.is_of.count low) (record {
      told = two_change t i bytes;
      leaves = leaves_core t w i p u.system.device h at same;
      sound = sound_after_all t.system steps h.sound legal;
      asks = held_after_all t.system steps h.sound h.asks legal;
      shown = shown_after t w steps h;
      sits = sits_there u w.daemon i q now bytes (t.history i) (t.pages i) (two_party t i bytes) (put_there t.wires i bytes) (put_there t.history i (t.history i)) (put_there t.pages i (t.pages i)) (record {
        job_is = s.job_is;
        exchanges = exchanges_lost place (t.jobs i) (t.history i) (t.pages i) me (session_after_loss me.session LinkOutOfMemory) p q links.Control (is_running p.client.outcome) refl never refl (shut_lost p) s.exchanges now (shut_mind me.client idle.stage) refl;
        carries = carries_cut (t.wires i) (slot_of_link w.daemon p.link) (is_running p.client.outcome) p q (shut_lost p) refl s.carries;
        means = means_cut place (t.jobs i) (t.wires i) (after_connection me) LinkOutOfMemory q (λ _. refl) (λ _. idle.over) refl refl;
        served = (refl, same_tables i t.system.make [] w.daemon.registry t.system.device u.system.device same table);
        speaks = tt;
        waits = waits_lost p.client now.todo s.exchanges.over;
        pends = pends_if (is_running p.client.outcome) p.client (t.wires i) bytes no_request_none refl s.pends;
      });
      link = λ x none. absurd (let clash : None ≡ Some x = none in cc);
      replaces = subst (λ (x : Option SessionId). Replaces x None w.daemon w.daemon) (sym idle.link) (replaces_same None w.daemon);
      begun = subst (λ (x : JobState). AreStartedViews t.system.make x) (sym (two_party t i bytes)) (h.begun i);
    }))

-- ---- the event

not_connected : (t : Ghost) (w : WorldCore) (i : ℕ) (p : Endpoint) → WorldRefines t w → slice_get w.endpoints i ≡ Some p → (is_running p.client.outcome ≡ true) × (p.was_connected ≡ false) → (t.system.job i).client.stage ≡ Idle
not_connected t w i p h at can =
    let s = h.endpoints i p at in
    let me = t.system.job i in
    let under = runs_under (place_of_info t.infos) (target_of (t.jobs i)) me.session.job (map (λ (x : JoinHistory). x.ended) (t.pages i)) (protocol_of p.client (t.history i)) me.client s.exchanges.reads can.0 in
    by_begun me.client.stage under (s.exchanges.begun can.1)
  where
    by_begun : (st : JobStage) → IsUnderWay st → (st ≡ Idle) ⊎ (IsUnderWay st → ⊥) → st ≡ Idle
    by_begun st u (inl e) = e
    by_begun st u (inr n) = absurd (n u)

by_closed : (t : Ghost) (w : WorldCore) (i : ℕ) (p : Endpoint) (port : ℕ) (closed : Bool) → WorldRefines t w → slice_get w.endpoints i ≡ Some p → i < t.count → IsIdle i t p → is_closed w.daemon ≡ closed → (e : Core) (q : Endpoint) → world.Connects port closed w.daemon p e q → GhostLeads events.Connect GhostConnects t i (record { daemon = e; endpoints = slice_set w.endpoints i q })
by_closed t w i p port true h at low idle closed e q d =
    subst (λ (x : Core). GhostLeads events.Connect GhostConnects t i (record { daemon = x; endpoints = slice_set w.endpoints i q })) (sym d.0)
    (subst (λ (x : Endpoint). GhostLeads events.Connect GhostConnects t i (record { daemon = w.daemon; endpoints = slice_set w.endpoints i x })) (sym d.1) (shut_stands t w i p h at low idle))
by_closed t w i p port false h at low idle closed e q d =
    subst (λ (x : Core). GhostLeads events.Connect GhostConnects t i (record { daemon = x; endpoints = slice_set w.endpoints i q })) (sym d.2)
    (subst (λ (x : Endpoint). GhostLeads events.Connect GhostConnects t i (record { daemon = after_open_session w.daemon port; endpoints = slice_set w.endpoints i x })) (sym d.3) (linked_stands t w i p port d.0 h at low idle closed d.1))

is_or : (b c : Bool) → (b ≡ c) ⊎ (b ≡ c → ⊥)
is_or true true = inl refl
is_or true false = inr (λ e. let clash : true ≡ false = e in absurd (cc))
is_or false true = inr (λ e. let clash : false ≡ true = e in absurd (cc))
is_or false false = inl refl

pub connect_decides : DecidesAt events.Connect GhostConnects
connect_decides t w i p h at low =
    let s = h.endpoints i p at in
    let me = t.system.job i in
    record {
      can = λ can. (
        under_runs (place_of_info t.infos) (target_of (t.jobs i)) me.session.job (map (λ (x : JoinHistory). x.ended) (t.pages i)) (protocol_of p.client (t.history i)) me.client s.exchanges.reads (subst IsUnderWay (sym can.1) tt),
        s.exchanges.idle can.1,
      );
      back = λ can. (low, not_connected t w i p h at can);
      either = both_or (is_or (is_running p.client.outcome) true) (is_or p.was_connected false);
      does = λ can e q d. by_closed t w i p d.0 (is_closed w.daemon) h at low (is_idle t w i p h at (not_connected t w i p h at can)) refl e q d.1;
    }
