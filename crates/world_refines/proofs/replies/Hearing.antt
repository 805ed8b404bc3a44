-- What stands of a job whose client has got some of the daemon's replies.
use Rattle.std.specs.Prelude.{is_some, IsSome, min}
use Rattle.std.proofs.Common.{arith, zero, suc, ◌≡◌, ◌≢◌, ◌⊎◌, inl, inr, ◌∙◌, ℕ, ◌<◌, List, [], ◌∷◌, ◌++◌, Option, Some, None, Bool, true, false, refl, sym, ap, subst, map, slice_get, slice_set, append-nil}
use Rattle.std.proofs.lemmas.List.{take-append-drop}
use Rattle.scan_job.specs.declared.outcome.Why.TheVariants.{Memory}
use Rattle.sane_fixed.specs.declared.status.Status.TheVariants.{NoMem}
use Rattle.page_picture.specs.Shows.{Frame}
use Rattle.sane_fixed.specs.declared.device_info.DeviceInfo.{DeviceInfo}
use Rattle.data_records.specs.declared.records.RecordPhase.{RecordPhase}
use Rattle.frame_join.specs.FrameHistory.{JoinHistory, is_joined}
use Rattle.saned_core.specs.declared.session_slot.SessionId.{SessionId}
use Rattle.saned_core.specs.DaemonStates.{Core, replies_in, replies_of}
use Rattle.scan_job.specs.declared.job.Job.{Job}
use Rattle.scan_job.specs.declared.job.Task.{Task}
use Rattle.scan_job.specs.declared.outcome.Outcome.{Outcome}
use Rattle.scan_job.specs.declared.outcome.Outcome.TheVariants as outcomes
use Rattle.client_replies.specs.declared.progress.JobTarget.{JobTarget}
use Rattle.client_replies.specs.declared.progress.Progress.{Progress}
use Rattle.client_replies.specs.declared.progress.Progress.TheVariants as stages
use Rattle.client_replies.specs.ProtocolStates.{ProtocolState, target_of, is_batch, is_imaging, is_running, HistoryFits, FitsAt, IsBetweenFrames, turns}
use Rattle.client_replies.specs.ProtocolStates as client
use Rattle.net_client.specs.ClientStates.{ClientState, protocol_of}
use Rattle.system_model.specs.AbstractMessages.{AbstractReply, AbstractRequest}
use Rattle.system_model.specs.Client as model
use Rattle.system_model.specs.Client.{Done, Ended, Idle, ClientView, Running, JobStage, request_awaited, requests_sent}
use Rattle.system_model.specs.ClientReplies.{client_after_stop}
use Rattle.system_model.specs.Causes.{Cause, ClientOutOfMemory, IsCauseAmong, LinkOutOfMemory}
use Rattle.system_model.specs.SystemStates.{JobState, make_for, device_for}
use Rattle.system_model.specs.Transitions.{IsImaging, IsUnderWay, Transition}
use Rattle.client_refines.specs.ClientRefinement.{ClientRefines, WaitsAs}
use Rattle.client_refines.proofs.Outcomes.{outcomes_alike}
use Rattle.event_world.specs.declared.endpoint.Endpoint.{Endpoint}
use Rattle.event_world.specs.Endpoints.{after_move}
use Rattle.event_world.specs.JobEvents as world
use Rattle.event_world.specs.JobEvents.{is_done, bytes_not_delivered, delivered_bytes}
use Rattle.event_world.specs.Worlds.{WorldCore}
use Rattle.world_refines.specs.GhostStates.{Ghost, Wires, place_of_info, ghost_after}
use Rattle.world_refines.specs.Wires.{SpellsAwaitedReply, FlightMatches, SpellsAsked, SpellsReplies}
use Rattle.world_refines.specs.WorldRefinement.{KeepsFiles, Means, WorldRefines, EndpointClientRefines, is_laid, slot_of_link, client_at_greeting}
use Rattle.world_refines.specs.ClientDeliveries.{asking_left, wires_after_delivery}
use Rattle.world_refines.proofs.job_events.Cancelling.{flows_over, other_cause}
use Rattle.world_refines.proofs.state.GhostClients.{run_is, stops_over}
use Rattle.world_refines.proofs.state.Stepping.{StepsTo}
use Rattle.world_refines.proofs.frames.Unimaged.{waits_as, waits_imaging}
use Rattle.system_model.specs.AbstractDevices.{without_first}
use Rattle.system_model.specs.Actions as actions
use Rattle.system_model.specs.Actions.{job_after_reply}
use Rattle.system_model.specs.Transitions.{By}
use Rattle.client_replies.specs.declared.progress.Notes.{Notes}
use Rattle.client_refines.specs.ClientRefinement.{task_of}
use Rattle.client_refines.specs.RequestRefinement.{asks_of}
use Rattle.client_refines.specs.PieceRefinement.{SpellsSent}
use Rattle.event_world.specs.declared.event.JobEvent.TheVariants as events
use Rattle.event_world.specs.FileDraining.{Drains}
use Rattle.world_refines.specs.GhostEvents.{GhostCan, GhostLeads}
use Rattle.world_refines.specs.ClientDeliveries.{HistoryExtends, GhostHears, IsBefore}
use Rattle.world_refines.proofs.replies.Delivering.{IsDueTo, carries_taken, delivered_stands, due_to, flows_begun, flows_still, waits_for}
use Rattle.world_refines.proofs.frames.Dried.{Dried, dried_by, reads_awake, exchanges_dried, with_client}
use Rattle.world_refines.proofs.state.Taking.{DecidesAt, done}
use Rattle.world_refines.proofs.frames.Unimaged.{both_or}
use Rattle.world_refines.proofs.replies.Heeded.{ChokesAt, ChokesBehind, Comes4, HearsIt, IsWordAt, Reaches, WaitsOn, comes_front, heeded, mind_then}
use Rattle.world_refines.proofs.state.GhostClients.{runs_under, stops_idle, under_runs}
use Rattle.world_refines.proofs.replies.HeardReply.{between_at, unturned}
use Rattle.world_refines.proofs.state.Stepping.{by_both, by_choking, by_hearing, by_none}
use Rattle.world_refines.specs.Speaks.{WaitsQuietly}
use Rattle.world_refines.proofs.state.Waiting.{waits_awaited, waits_over}
use Rattle.world_refines.specs.WorldPending.{Pends}
use Rattle.world_refines.proofs.state.WorldPending.{no_reply_none, no_request_left, pends_off, pends_same, receives_none, receives_unwanted}

-- the job by the model, with another client view, and other requests and replies on the way
abbrev pub moved_on : JobState → ClientView → List AbstractRequest → List AbstractReply → List Cause → JobState
moved_on p m todo due met = record p { session = record p.session { met = met }; client = m; todo = todo; due = due }

asking_same : (b : Bool) (down asking : List ℕ) → b ≡ true → asking_left b down asking ≡ asking
asking_same true down asking e = refl
asking_same false down asking e = absurd (let clash : false ≡ true = e in cc)

woken_awake : (st : JobStage) (m : ClientView) → (st ≡ Idle → ⊥) → client_at_greeting st m ≡ m
woken_awake Idle m n = absurd (n refl)
woken_awake (Running g) m n = refl
woken_awake Done m n = refl
woken_awake (Ended status why) m n = refl

-- what its connections mean then
means_then : (place : DeviceInfo → ℕ) (job : Job) (x : Wires) (n : ℕ) (telling text : List ℕ) (me : JobState) (m : ClientView) (todo : List AbstractRequest) (due : List AbstractReply) (met : List Cause) (old new : Endpoint) → Means place job x me old → new.link ≡ old.link → new.was_connected ≡ old.was_connected → new.is_over ≡ old.is_over → new.image ≡ old.image →
    (m.stage ≡ Idle → ⊥) → (me.served ≡ true → SpellsAsked job m todo (asking_left me.served (bytes_not_delivered n x.down) x.asking ++ (x.up ++ text))) → (IsUnderWay m.stage → SpellsReplies place new.client.progress due (telling ++ bytes_not_delivered n x.down)) →
    FlightMatches m.stage me.session.transfer new.client.progress new.client.phase x.image me.session.flight me.session.ending → (IsCauseAmong LinkOutOfMemory met → new.out_of_memory ≡ true) → Means place job (wires_after_delivery me.served n telling text x) (moved_on me m todo due met) new
means_then place job x n telling text me m todo due met old new h link connected over image awake up down flow starved =
    record {
      linked = h.linked ∙ ap is_some (sym link);
      before = λ e. let b = h.before (sym connected ∙ e) in (link ∙ b.0, over ∙ b.1);
      over = λ e. over ∙ h.over e;
      calm = h.calm;
      image = h.image;
      last = λ im e. h.last im (sym image ∙ e);
      unended = h.unended;
      first = λ e. absurd (awake e);
      up = up;
      down = down;
      flow = flow;
      starved = starved;
    }

-- ---- what is so of the job before

record Ready (t : Ghost) (w : WorldCore) (i n : ℕ) (p : Endpoint) (id : SessionId) : Type 0 where
  pub stands : WorldRefines t w
  pub at : slice_get w.endpoints i ≡ Some p
  pub low : i < t.count
  pub link : p.link ≡ Some id
  pub due : IsDueTo t i p
  pub part : is_joined (t.history i).ended ≡ false

abbrev pages_shown : Ghost → ℕ → List (List Frame)
pages_shown t i = map (λ (x : JoinHistory). x.ended) (t.pages i)

ready_connected : (t : Ghost) (w : WorldCore) (i n : ℕ) (p : Endpoint) (id : SessionId) → Ready t w i n p id → p.was_connected ≡ false → ⊥
ready_connected t w i n p id r e = let b = (r.stands.endpoints i p r.at).means.before e in let clash : None ≡ Some id = sym b.0 ∙ r.link in absurd (cc)

under_way : (t : Ghost) (w : WorldCore) (i n : ℕ) (p : Endpoint) (id : SessionId) → Ready t w i n p id → IsUnderWay (t.system.job i).client.stage
under_way t w i n p id g = subst IsUnderWay (sym g.due.stage) tt

-- what waits to be answered is the same
asked_still : (job : Job) (x : Wires) (n : ℕ) (me : JobState) (m : ClientView) → me.served ≡ true → SpellsAsked job me.client me.todo (x.asking ++ x.up) → m.known ≡ me.client.known → SpellsAsked job m me.todo (asking_left me.served (bytes_not_delivered n x.down) x.asking ++ (x.up ++ []))
asked_still job x n me m served h known =
    let bytes : x.asking ++ x.up ≡ asking_left me.served (bytes_not_delivered n x.down) x.asking ++ (x.up ++ []) =
    ap (λ (l : List ℕ). l ++ x.up) (sym (asking_same me.served (bytes_not_delivered n x.down) x.asking served)) ∙ ap (λ (l : List ℕ). asking_left me.served (bytes_not_delivered n x.down) x.asking ++ l) (sym (append-nil x.up)) in
    subst (λ (k : List _). SpellsSent (target_of job) (asking_left me.served (bytes_not_delivered n x.down) x.asking ++ (x.up ++ [])) (asks_of 0 k me.todo)) (sym known) (subst (λ (l : List ℕ). SpellsAsked job me.client me.todo l) bytes h)

asked_same : (t : Ghost) (w : WorldCore) (i n : ℕ) (p : Endpoint) (id : SessionId) (m : ClientView) → Ready t w i n p id → m.known ≡ (t.system.job i).client.known →
    SpellsAsked (t.jobs i) m (t.system.job i).todo (asking_left (t.system.job i).served (bytes_not_delivered n (t.wires i).down) (t.wires i).asking ++ ((t.wires i).up ++ []))
asked_same t w i n p id m r known = asked_still (t.jobs i) (t.wires i) n (t.system.job i) m r.due.served ((r.stands.endpoints i p r.at).means.up r.due.served) known

-- or, where all of it was, what was asked for is what the client has written then
asked_then : (t : Ghost) (w : WorldCore) (i n : ℕ) (p : Endpoint) (id : SessionId) (m : ClientView) (asked_for : List AbstractRequest) (text : List ℕ) → Ready t w i n p id → SpellsAsked (t.jobs i) m asked_for text →
    SpellsAsked (t.jobs i) m ((t.system.job i).todo ++ asked_for) (asking_left (t.system.job i).served (bytes_not_delivered n (t.wires i).down) (t.wires i).asking ++ ((t.wires i).up ++ text))
asked_then t w i n p id m asked_for text r s =
    let me = t.system.job i in
    let x = t.wires i in
    let none : asking_left me.served (bytes_not_delivered n x.down) x.asking ≡ [] = asking_same me.served (bytes_not_delivered n x.down) x.asking r.due.served ∙ r.due.asking in
    let bytes : text ≡ asking_left me.served (bytes_not_delivered n x.down) x.asking ++ (x.up ++ text) = ap (λ (l : List ℕ). l ++ text) (sym r.due.up) ∙ ap (λ (l : List ℕ). l ++ (x.up ++ text)) (sym none) in
    subst (λ (l : List ℕ). SpellsAsked (t.jobs i) m (me.todo ++ asked_for) l) bytes (subst (λ (todo : List AbstractRequest). SpellsAsked (t.jobs i) m (todo ++ asked_for) text) (sym r.due.todo) s)

goes_on : (t : Ghost) (i : ℕ) (past then_ : JoinHistory) (more : List ℕ) → then_.ended ≡ past.ended → then_.given ≡ past.given → HistoryExtends past (record then_ { given = then_.given ++ more })
goes_on t i past then_ more ended given = record { ended = ended; more = more; given = ap (λ (l : List ℕ). l ++ more) given }

-- ---- what the endpoint is then

-- the world stands for it, where the job goes on so
reached_stands : (t : Ghost) (w : WorldCore) (i n : ℕ) (p q : Endpoint) (id : SessionId) (c : ClientState) (steps : List Transition) (m : ClientView) (todo more : List AbstractRequest) (due : List AbstractReply) (met : List Cause) (telling text : List ℕ) → todo ≡ (t.system.job i).todo ++ more → Ready t w i n p id → Drains (with_client c p) q →
    (r : Reaches (place_of_info t.infos) (t.system.job i).session.job (pages_shown t i) p.client (t.history i) m text c) → (d : Dried r.history_then (t.pages i) (with_client c p) q) → (m.stage ≡ Idle → ⊥) → c.input.rest ≡ telling →
    StepsTo t i steps (wires_after_delivery (t.system.job i).served n telling text (t.wires i)) (record r.history_then { given = r.history_then.given ++ d.more }) (t.pages i) (moved_on (t.system.job i) m todo due met) →
    SpellsAsked (t.jobs i) m todo (asking_left (t.system.job i).served (bytes_not_delivered n (t.wires i).down) (t.wires i).asking ++ ((t.wires i).up ++ text)) → (IsUnderWay m.stage → SpellsReplies (place_of_info t.infos) c.progress due (telling ++ bytes_not_delivered n (t.wires i).down)) →
    ((phase : RecordPhase) → FlightMatches m.stage (t.system.job i).session.transfer c.progress phase (t.wires i).image (t.system.job i).session.flight (t.system.job i).session.ending) → (IsCauseAmong LinkOutOfMemory met → IsCauseAmong LinkOutOfMemory (t.system.job i).session.met) → WaitsQuietly c.progress todo → Pends c.outcome c.progress c.phase (wires_after_delivery (t.system.job i).served n telling text (t.wires i)) →
    WorldRefines (ghost_after t i steps (wires_after_delivery (t.system.job i).served n telling text (t.wires i)) (record r.history_then { given = r.history_then.given ++ d.more }) (t.pages i)) (record { daemon = world.without_taken id.number n w.daemon; endpoints = slice_set w.endpoints i q })
reached_stands t w i n p q id c steps m todo more due met telling text more_is g drains r d awake rest to up down flow starved waits pends =
    let s = g.stands.endpoints i p g.at in
    let me = t.system.job i in
    let place = place_of_info t.infos in
    let progress : q.client.progress ≡ c.progress = ap (λ (v : ClientState). v.progress) d.client in
    delivered_stands t w i n p q id steps (wires_after_delivery me.served n telling text (t.wires i)) (record r.history_then { given = r.history_then.given ++ d.more }) (moved_on me m todo due met) g.stands g.at g.low g.link (ap (λ (x : Endpoint). x.link) d.rest) to
    (record { served = refl; job = refl; started = refl; session = λ j device. refl; more = more; todo = more_is; awaited = refl })
    (exchanges_dried place (t.jobs i) (t.history i) (t.pages i) me (moved_on me m todo due met) m text p q c s.exchanges g.part (ready_connected t w i n p id g) refl refl (woken_awake m.stage m awake) r d)
    (carries_taken t w i n p q id telling text g.stands g.at g.link (ap (λ (v : ClientState). v.out) d.client ∙ r.out) (ap (λ (v : ClientState). v.input.rest) d.client ∙ rest) (ap (λ (x : Endpoint). x.image) d.rest))
    (means_then place (t.jobs i) (t.wires i) n telling text me m todo due met p q s.means (ap (λ (x : Endpoint). x.link) d.rest) (ap (λ (x : Endpoint). x.was_connected) d.rest) (ap (λ (x : Endpoint). x.is_over) d.rest) (ap (λ (x : Endpoint). x.image) d.rest) awake (λ _. up)
    (λ under. subst (λ (y : Progress). SpellsReplies place y due (telling ++ bytes_not_delivered n (t.wires i).down)) (sym progress) (down under))
    (subst (λ (y : Progress). FlightMatches m.stage me.session.transfer y q.client.phase (t.wires i).image me.session.flight me.session.ending) (sym progress) (flow q.client.phase)) (λ e. d.starved (s.means.starved (starved e))))
    (subst (λ (y : Progress). WaitsQuietly y todo) (sym progress) waits)
    (subst (λ (v : ClientState). Pends v.outcome v.progress v.phase (wires_after_delivery me.served n telling text (t.wires i))) (sym d.client) pends)

-- ---- it waits for the rest

asked_imaging : (g : model.AbstractProgress) → request_awaited g ≢ [] → IsImaging (Running g) → ⊥
asked_imaging g n h = n (ap request_awaited (let same : Running g ≡ Running (model.Imaging h.0 h.1) = h.2 in let is : g ≡ model.Imaging h.0 h.1 = cc in is))

not_imaging : (st : JobStage) (g : model.AbstractProgress) → st ≡ Running g → request_awaited g ≢ [] → IsImaging st → ⊥
not_imaging st g e n h = asked_imaging g n (subst IsImaging e h)

before_by : (job : model.AbstractJob) (progress : Progress) (notes : Notes) (past : JoinHistory) (m : ClientView) (front : List ℕ) → WaitsAs job progress notes past m → (front ≡ []) ⊎ IsWordAt progress front → IsBefore m.stage front
before_by job progress notes past m front w (inl e) = inl e
before_by job (stages.Allowing resource answer) notes past m front w (inr word) = inr (w.0.0, w.0.1.0, word)
before_by job progress notes past m front w (inr word) = absurd word

abbrev Led : Ghost → ℕ → ℕ → WorldCore → Type 0
Led t i n v = GhostLeads (events.ToClient n) (GhostHears n) t i v

abbrev then_scene : WorldCore → ℕ → ℕ → SessionId → Endpoint → WorldCore
then_scene w i n id q = record { daemon = world.without_taken id.number n w.daemon; endpoints = slice_set w.endpoints i q }

dried_of : (t : Ghost) (w : WorldCore) (i n : ℕ) (p q : Endpoint) (id : SessionId) (c : ClientState) (m : ClientView) (text : List ℕ) → Ready t w i n p id → Drains (with_client c p) q → (r : Reaches (place_of_info t.infos) (t.system.job i).session.job (pages_shown t i) p.client (t.history i) m text c) → Dried r.history_then (t.pages i) (with_client c p) q
dried_of t w i n p q id c m text g drains r =
    let s = g.stands.endpoints i p g.at in
    let still = unturned c.target.task c.outcome c.progress r.history_then (ap is_joined r.ended ∙ g.part) r.serves.fits in
    dried_by (place_of_info t.infos) (t.jobs i) (t.history i) (t.pages i) (t.system.job i) m text p q c s.exchanges g.part r still drains

waits_led : (t : Ghost) (w : WorldCore) (i n : ℕ) (p q : Endpoint) (id : SessionId) (c : ClientState) → (g : Ready t w i n p id) → GhostCan t i (events.ToClient n) → WaitsAs (t.system.job i).session.job p.client.progress p.client.notes (t.history i) (t.system.job i).client → Drains (with_client c p) q →
    WaitsOn (place_of_info t.infos) (t.system.job i).session.job (pages_shown t i) (t.system.job i).client p.client (t.history i) (delivered_bytes n (t.wires i).down) (bytes_not_delivered n (t.wires i).down) g.due.reply c → Led t i n (then_scene w i n id q)
waits_led t w i n p q id c g can waiting drains h =
    let s = g.stands.endpoints i p g.at in
    let me = t.system.job i in
    let x = t.wires i in
    let r = h.reaches in
    let d = dried_of t w i n p q id c me.client [] g drains r in
    let past : JoinHistory = record r.history_then { given = r.history_then.given ++ d.more } in
    let bytes : Wires = wires_after_delivery me.served n c.input.rest [] x in
    let awake : me.client.stage ≡ Idle → ⊥ = λ idle. let clash : Running g.due.progress ≡ Idle = sym g.due.stage ∙ idle in absurd (cc) in
    done (events.ToClient n) (GhostHears n) t i _ [] (ghost_after t i [] bytes past (t.pages i)) can
    (inr (
      under_way t w i n p id g,
      inl (record {
        part = h.part;
        front = h.front;
        telling = c.input.rest;
        came = ap (λ (l : List ℕ). l ++ delivered_bytes n x.down) (sym s.carries.telling) ∙ h.came;
        before = before_by me.session.job p.client.progress p.client.notes (t.history i) me.client h.front waiting h.before;
        steps_are = refl;
        delivers = record { legal = tt; history = past; goes_on = goes_on t i (t.history i) r.history_then d.more r.ended r.given; then_is = refl };
      }),
    ))
    (reached_stands t w i n p q id c [] me.client me.todo [] me.due me.session.met c.input.rest [] (sym (append-nil me.todo)) g drains r d awake refl (by_none t i bytes past (t.pages i)) (asked_same t w i n p id me.client g refl)
    (λ _. subst (λ (due : List AbstractReply). SpellsReplies (place_of_info t.infos) c.progress due (c.input.rest ++ bytes_not_delivered n x.down)) (sym g.due.due) h.comes)
    (λ phase. flows_still me.client.stage me.session.transfer c.progress phase x.image me.session.flight me.session.ending g.due.still (λ imaging. absurd (not_imaging me.client.stage g.due.progress g.due.stage g.due.waits imaging))) (λ e. e)
    (let f = comes_front (place_of_info t.infos) c.progress g.due.reply (c.input.rest ++ bytes_not_delivered n x.down) h.comes in waits_awaited c.progress f.procedure me.todo f.awaited_is g.due.todo)
    (record {
      asking = no_request_left me.served (bytes_not_delivered n x.down) x.asking s.pends.asking;
      telling = λ on. h.pending;
      reading = λ e. absurd (let f = comes_front (place_of_info t.infos) c.progress g.due.reply (c.input.rest ++ bytes_not_delivered n x.down) h.comes in receives_none c.outcome c.progress f.procedure f.awaited_is e);
    }))

-- ---- it hears the reply

abbrev mind_at : Ghost → ℕ → AbstractReply → ClientView
mind_at t i r = mind_then (t.system.job i).session.job (t.system.job i).client r

-- what it asks for then, as the target is the job's
spells_job : (t : Ghost) (i : ℕ) (target : JobTarget) (m : ClientView) (text : List ℕ) (rs : List AbstractRequest) → target ≡ target_of (t.jobs i) → SpellsSent target text (asks_of 0 m.known rs) → SpellsAsked (t.jobs i) m rs text
spells_job t i target m text rs e s = subst (λ (x : JobTarget). SpellsSent x text (asks_of 0 m.known rs)) e s

due_none : (due : List AbstractReply) (r : AbstractReply) → due ≡ r ∷ [] → without_first due ≡ []
due_none due r e = ap without_first e

-- a frame that it begins is wanted
imaging_wants : (place : DeviceInfo → ℕ) (target : JobTarget) (job : model.AbstractJob) (pages : List (List Frame)) (c : ClientState) (past : JoinHistory) (m : ClientView) → ClientRefines place target job pages (protocol_of c past) m → (is_imaging c.progress ≡ true → IsSome (client.wanted_port c.progress)) → IsImaging m.stage → IsSome (client.wanted_port c.progress)
imaging_wants place target job pages c past m r wants imaging =
    let runs : is_running c.outcome ≡ true = ap is_running ((outcomes_alike place target job pages (protocol_of c past) m r).runs_by (model.Imaging imaging.0 imaging.1) imaging.2) in
    wants (waits_imaging job c.progress c.notes past m (waits_as place target job pages (protocol_of c past) m r runs) imaging)

hears_led : (t : Ghost) (w : WorldCore) (i n : ℕ) (p q : Endpoint) (id : SessionId) (c : ClientState) → (g : Ready t w i n p id) → GhostCan t i (events.ToClient n) → Drains (with_client c p) q →
    HearsIt (place_of_info t.infos) (t.system.job i).session.job (pages_shown t i) (t.system.job i).client p.client (t.history i) (delivered_bytes n (t.wires i).down) (bytes_not_delivered n (t.wires i).down) g.due.reply c → Led t i n (then_scene w i n id q)
hears_led t w i n p q id c g can drains h =
    let s = g.stands.endpoints i p g.at in
    let me = t.system.job i in
    let x = t.wires i in
    let place = place_of_info t.infos in
    let reply = g.due.reply in
    let m = mind_at t i reply in
    let r = h.reaches in
    let d = dried_of t w i n p q id c m h.text g drains r in
    let past : JoinHistory = record r.history_then { given = r.history_then.given ++ d.more } in
    let bytes : Wires = wires_after_delivery me.served n [] h.text x in
    let awake : m.stage ≡ Idle → ⊥ = reads_awake place p.client.target me.session.job (pages_shown t i) (protocol_of c r.history_then) m r.reads in
    let spells = spells_job t i p.client.target m h.text (requests_sent me.session.job.task m.stage) s.exchanges.target h.spells in
    let still = g.due.still in
    let steps = By i (actions.Hears reply) ∷ [] in
    done (events.ToClient n) (GhostHears n) t i _ steps (ghost_after t i steps bytes past (t.pages i)) can
    (inr (
      under_way t w i n p id g,
      inr (inl (record {
        reply = reply;
        client = m;
        text = h.text;
        hears = record { whole = h.whole; due = g.due.due; client = refl; spells = spells };
        steps_are = refl;
        delivers = record { legal = (((g.due.progress, g.due.stage), ([], g.due.due)), tt); history = past; goes_on = goes_on t i (t.history i) r.history_then d.more r.ended r.given; then_is = refl };
      })),
    ))
    (reached_stands t w i n p q id c steps m (me.todo ++ requests_sent me.session.job.task m.stage) (requests_sent me.session.job.task m.stage) (without_first me.due) me.session.met [] h.text refl g drains r d awake h.rest (by_hearing t i reply bytes past (t.pages i) (g.due.progress, g.due.stage) g.due.due) (asked_then t w i n p id m (requests_sent me.session.job.task m.stage) h.text g spells)
    (λ _. subst (λ (due : List AbstractReply). SpellsReplies place c.progress due (bytes_not_delivered n x.down)) (sym (due_none me.due reply g.due.due)) h.whole)
    (λ phase. flows_still m.stage me.session.transfer c.progress phase x.image me.session.flight me.session.ending still
    (λ imaging. flows_begun m.stage me.session.transfer c.progress phase x.image me.session.flight me.session.ending imaging (waits_for i (make_for t.system i) me.session m (device_for t.system i) m.stage g.due.right imaging still.ending_is g.due.calm) (imaging_wants place p.client.target me.session.job (pages_shown t i) c r.history_then m r.reads h.wants imaging) still)) (λ e. e) (h.elsewhere (me.todo ++ requests_sent me.session.job.task m.stage))
    (record { asking = no_request_left me.served (bytes_not_delivered n x.down) x.asking s.pends.asking; telling = λ on. no_reply_none c.progress; reading = λ e. absurd (receives_unwanted c.outcome c.progress h.wants e) }))

-- ---- there is no memory for it

starved_else : LinkOutOfMemory ≡ ClientOutOfMemory → ⊥
starved_else e = absurd (cc)

chokes_led : (t : Ghost) (w : WorldCore) (i n : ℕ) (p q : Endpoint) (id : SessionId) (c : ClientState) → (g : Ready t w i n p id) → GhostCan t i (events.ToClient n) → Drains (with_client c p) q →
    ChokesAt (place_of_info t.infos) (t.system.job i).session.job (pages_shown t i) (t.system.job i).client p.client (t.history i) c → Led t i n (then_scene w i n id q)
chokes_led t w i n p q id c g can drains h =
    let me = t.system.job i in
    let x = t.wires i in
    let m : ClientView = client_after_stop NoMem Memory me.client in
    let r = h.reaches in
    let d = dried_of t w i n p q id c m [] g drains r in
    let past : JoinHistory = record r.history_then { given = r.history_then.given ++ d.more } in
    let bytes : Wires = wires_after_delivery me.served n c.input.rest [] x in
    let steps = By i actions.RunsOutOfMemory ∷ [] in
    done (events.ToClient n) (GhostHears n) t i _ steps (ghost_after t i steps bytes past (t.pages i)) can
    (inr (
      under_way t w i n p id g,
      inr (inr (inl (record {
        telling = c.input.rest;
        steps_are = refl;
        delivers = record { legal = ((g.due.progress, g.due.stage), tt); history = past; goes_on = goes_on t i (t.history i) r.history_then d.more r.ended r.given; then_is = refl };
      }))),
    ))
    (reached_stands t w i n p q id c steps m me.todo [] me.due (ClientOutOfMemory ∷ me.session.met) c.input.rest [] (sym (append-nil me.todo)) g drains r d (stops_idle NoMem Memory me.client.stage) refl (by_choking t i bytes past (t.pages i) (g.due.progress, g.due.stage)) (asked_same t w i n p id m g refl)
    (λ u. absurd (stops_over NoMem Memory me.client.stage u)) (λ phase. flows_over m.stage me.session.transfer c.progress phase x.image me.session.flight me.session.ending (stops_over NoMem Memory me.client.stage)) (other_cause LinkOutOfMemory ClientOutOfMemory me.session.met starved_else) (waits_over c.progress me.todo (r.over h.over))
    (pends_off c.outcome c.progress c.phase bytes h.over (no_request_left me.served (bytes_not_delivered n x.down) x.asking (g.stands.endpoints i p g.at).pends.asking)))

both_led : (t : Ghost) (w : WorldCore) (i n : ℕ) (p q : Endpoint) (id : SessionId) (c : ClientState) → (g : Ready t w i n p id) → GhostCan t i (events.ToClient n) → Drains (with_client c p) q →
    ChokesBehind (place_of_info t.infos) (t.system.job i).session.job (pages_shown t i) (t.system.job i).client p.client (t.history i) (delivered_bytes n (t.wires i).down) (bytes_not_delivered n (t.wires i).down) g.due.reply c → Led t i n (then_scene w i n id q)
both_led t w i n p q id c g can drains h =
    let s = g.stands.endpoints i p g.at in
    let me = t.system.job i in
    let x = t.wires i in
    let reply = g.due.reply in
    let then_ = mind_at t i reply in
    let m : ClientView = client_after_stop NoMem Memory then_ in
    let r = h.reaches in
    let d = dried_of t w i n p q id c m h.text g drains r in
    let past : JoinHistory = record r.history_then { given = r.history_then.given ++ d.more } in
    let bytes : Wires = wires_after_delivery me.served n c.input.rest h.text x in
    let spells = spells_job t i p.client.target then_ h.text (requests_sent me.session.job.task then_.stage) s.exchanges.target h.spells in
    let steps = By i (actions.Hears reply) ∷ By i actions.RunsOutOfMemory ∷ [] in
    let to = by_both t i reply bytes past (t.pages i) (g.due.progress, g.due.stage) g.due.due h.running in
    done (events.ToClient n) (GhostHears n) t i _ steps (ghost_after t i steps bytes past (t.pages i)) can
    (inr (
      under_way t w i n p id g,
      inr (inr (inr (record {
        reply = reply;
        client = then_;
        text = h.text;
        hears = record { whole = h.whole; due = g.due.due; client = refl; spells = spells };
        telling = c.input.rest;
        steps_are = refl;
        delivers = record { legal = to.legal; history = past; goes_on = goes_on t i (t.history i) r.history_then d.more r.ended r.given; then_is = refl };
      }))),
    ))
    (reached_stands t w i n p q id c steps m (me.todo ++ requests_sent me.session.job.task then_.stage) (requests_sent me.session.job.task then_.stage) (without_first me.due) (ClientOutOfMemory ∷ me.session.met) c.input.rest h.text refl g drains r d (stops_idle NoMem Memory then_.stage) refl to (asked_then t w i n p id m (requests_sent me.session.job.task then_.stage) h.text g spells)
    (λ u. absurd (stops_over NoMem Memory then_.stage u)) (λ phase. flows_over m.stage me.session.transfer c.progress phase x.image me.session.flight me.session.ending (stops_over NoMem Memory then_.stage)) (other_cause LinkOutOfMemory ClientOutOfMemory me.session.met starved_else) (waits_over c.progress _ (r.over h.over))
    (pends_off c.outcome c.progress c.phase bytes h.over (no_request_left me.served (bytes_not_delivered n x.down) x.asking s.pends.asking)))

-- ---- a job that is over

exchanges_spent : (place : DeviceInfo → ℕ) (job : Job) (past : JoinHistory) (pages : List JoinHistory) (me : JobState) (p : Endpoint) → EndpointClientRefines place job past pages me p → EndpointClientRefines place job past pages me (after_move p)
exchanges_spent place job past pages me p h =
    record {
      task = h.task;
      target = h.target;
      word = h.word;
      over = h.over;
      serves = h.serves;
      reads = h.reads;
      idle = h.idle;
      begun = h.begun;
      files = files_spent (is_laid job.task p.client.outcome past) past pages p h.files;
      finished = h.finished;
      alone = h.alone;
      done = h.done;
    }
  where
    files_spent : (b : Bool) (past : JoinHistory) (pages : List JoinHistory) (p : Endpoint) → KeepsFiles b past pages p → KeepsFiles b past pages (after_move p)
    files_spent true past pages p f = record { file = f.file; each = f.each; count = f.count; room = f.room }
    files_spent false past pages p f = record { file = f.file; each = f.each; count = f.count; room = f.room }

ignored_led : (t : Ghost) (w : WorldCore) (i n : ℕ) (p : Endpoint) (id : SessionId) → WorldRefines t w → slice_get w.endpoints i ≡ Some p → i < t.count → p.link ≡ Some id → GhostCan t i (events.ToClient n) → (IsUnderWay (t.system.job i).client.stage → ⊥) → Led t i n (then_scene w i n id (after_move p))
ignored_led t w i n p id h at low link can over =
    let s = h.endpoints i p at in
    let me = t.system.job i in
    let x = t.wires i in
    let bytes : Wires = wires_after_delivery me.served n x.telling [] x in
    done (events.ToClient n) (GhostHears n) t i _ [] (ghost_after t i [] bytes (t.history i) (t.pages i)) can (inl (record { over = over; steps_are = refl; takes = record { legal = tt; then_is = refl } }))
    (delivered_stands t w i n p (after_move p) id [] bytes (t.history i) me h at low link refl (by_none t i bytes (t.history i) (t.pages i)) (record { served = refl; job = refl; started = refl; session = λ j device. refl; more = []; todo = sym (append-nil me.todo); awaited = refl }) (exchanges_spent (place_of_info t.infos) (t.jobs i) (t.history i) (t.pages i) me p s.exchanges)
    (carries_taken t w i n p (after_move p) id x.telling [] h at link (sym (append-nil p.client.out)) s.carries.telling refl)
    (means_then (place_of_info t.infos) (t.jobs i) x n x.telling [] me me.client me.todo me.due me.session.met p (after_move p) s.means refl refl refl refl (λ idle. over (subst IsUnderWay (sym idle) tt)) (λ served. asked_still (t.jobs i) x n me me.client served (s.means.up served) refl) (λ u. absurd (over u)) s.means.flow s.means.starved) s.waits
    (pends_same p.client.outcome p.client.progress p.client.phase x bytes (no_request_left me.served (bytes_not_delivered n x.down) x.asking s.pends.asking) refl s.pends))

-- ---- the event

fits_running : (task : Task) (o : Outcome) (progress : Progress) (past : JoinHistory) → is_running o ≡ true → HistoryFits task o progress past → FitsAt progress past
fits_running task o progress past e f = let at : HistoryFits task outcomes.Running progress past = subst (λ (y : Outcome). HistoryFits task y progress past) (run_is o e) f in at.1

ready : (t : Ghost) (w : WorldCore) (i n : ℕ) (p : Endpoint) (id : SessionId) → WorldRefines t w → slice_get w.endpoints i ≡ Some p → i < t.count → p.link ≡ Some id → is_running p.client.outcome ≡ true → IsUnderWay (t.system.job i).client.stage → (t.wires i).down ≢ [] → Ready t w i n p id × IsBetweenFrames (t.history i)
ready t w i n p id h at low link runs under some =
    let s = h.endpoints i p at in
    let due = due_to t w i p id h at link under some in
    let f = comes_front (place_of_info t.infos) p.client.progress due.reply ((t.wires i).telling ++ (t.wires i).down) due.comes in
    let between = between_at p.client.progress f.procedure (t.history i) f.awaited_is (fits_running p.client.target.task p.client.outcome p.client.progress (t.history i) runs s.exchanges.serves.fits) in
    (record { stands = h; at = at; low = low; link = link; due = due; part = between.2 }, between)

by_four : (t : Ghost) (w : WorldCore) (i n : ℕ) (p q : Endpoint) (id : SessionId) (c : ClientState) → (g : Ready t w i n p id) → GhostCan t i (events.ToClient n) → WaitsAs (t.system.job i).session.job p.client.progress p.client.notes (t.history i) (t.system.job i).client → Drains (with_client c p) q →
    Comes4 (place_of_info t.infos) (t.system.job i).session.job (pages_shown t i) (t.system.job i).client p.client (t.history i) (delivered_bytes n (t.wires i).down) (bytes_not_delivered n (t.wires i).down) g.due.reply c → Led t i n (then_scene w i n id q)
by_four t w i n p q id c g can waiting drains (inl h) = waits_led t w i n p q id c g can waiting drains h
by_four t w i n p q id c g can waiting drains (inr (inl h)) = hears_led t w i n p q id c g can drains h
by_four t w i n p q id c g can waiting drains (inr (inr (inl h))) = chokes_led t w i n p q id c g can drains h
by_four t w i n p q id c g can waiting drains (inr (inr (inr h))) = both_led t w i n p q id c g can drains h

heard_led : (t : Ghost) (w : WorldCore) (i n : ℕ) (p q : Endpoint) (id : SessionId) → WorldRefines t w → slice_get w.endpoints i ≡ Some p → i < t.count → p.link ≡ Some id → GhostCan t i (events.ToClient n) → is_running p.client.outcome ≡ true → world.HeedsPiece (delivered_bytes n (t.wires i).down) (after_move p) q → Led t i n (then_scene w i n id q)
heard_led t w i n p q id h at low link can runs d =
    let s = h.endpoints i p at in
    let me = t.system.job i in
    let x = t.wires i in
    let place = place_of_info t.infos in
    let under : IsUnderWay me.client.stage = runs_under place (target_of (t.jobs i)) me.session.job (pages_shown t i) (protocol_of p.client (t.history i)) me.client s.exchanges.reads runs in
    let both = ready t w i n p id h at low link runs under can.1 in
    let g = both.0 in
    let awake : client_at_greeting me.client.stage me.client ≡ me.client = woken_awake me.client.stage me.client (λ idle. let clash : Running g.due.progress ≡ Idle = sym g.due.stage ∙ idle in absurd (cc)) in
    let reads : ClientRefines place (target_of (t.jobs i)) me.session.job (pages_shown t i) (protocol_of p.client (t.history i)) me.client = subst (λ (m : ClientView). ClientRefines place (target_of (t.jobs i)) me.session.job (pages_shown t i) (protocol_of p.client (t.history i)) m) awake s.exchanges.reads in
    let waiting = waits_as place (target_of (t.jobs i)) me.session.job (pages_shown t i) (protocol_of p.client (t.history i)) me.client reads runs in
    let task : me.session.job.task ≡ task_of p.client.target.task = ap (λ (job : model.AbstractJob). job.task) s.job_is ∙ ap (λ (e : JobTarget). task_of e.task) (sym s.exchanges.target) in
    let all : x.telling ++ x.down ≡ p.client.input.rest ++ (delivered_bytes n x.down ++ bytes_not_delivered n x.down) = ap (λ (l : List ℕ). l ++ x.down) (sym s.carries.telling) ∙ ap (λ (l : List ℕ). p.client.input.rest ++ l) (sym (take-append-drop (min n 4096) x.down)) in
    let four = heeded place me.session.job (pages_shown t i) me.client p.client (t.history i) (delivered_bytes n x.down) (bytes_not_delivered n x.down) g.due.reply d.mid task runs (s.exchanges.word runs) both.1 s.exchanges.serves
    (subst (λ (e : JobTarget). ClientRefines place e me.session.job (pages_shown t i) (protocol_of p.client (t.history i)) me.client) (sym s.exchanges.target) reads) (subst (SpellsAwaitedReply place p.client.progress g.due.reply) all g.due.comes) (d.heeds runs (t.history i) s.exchanges.serves) in
    by_four t w i n p q id d.mid g can waiting (d.drains runs) four

-- it can happen just where bytes wait for it

nil_or : (xs : List ℕ) → (xs ≢ []) ⊎ (xs ≢ [] → ⊥)
nil_or [] = inr (λ n. n refl)
nil_or (x ∷ xs) = inl (λ e. absurd (cc))

waits_or : (core : Core) (link : Option SessionId) → world.IfLinked link (λ k. replies_of core k ≢ []) ⊎ (world.IfLinked link (λ k. replies_of core k ≢ []) → ⊥)
waits_or core None = inr (λ x. x)
waits_or core (Some id) = nil_or (replies_of core id.number)

more_or : (n : ℕ) → (0 < n) ⊎ (0 < n → ⊥)
more_or zero = inr (λ l. omega (arith, l))
more_or (suc n) = inl (omega arith)

may_deliver : (core : Core) (link : Option SessionId) (down : List ℕ) → is_some link ≡ true → replies_in (slot_of_link core link) ≡ down → down ≢ [] → world.IfLinked link (λ k. replies_of core k ≢ [])
may_deliver core None down e same some = absurd (let clash : false ≡ true = e in cc)
may_deliver core (Some id) down e same some = λ none. some (sym same ∙ none)

runs_or : (b : Bool) → (b ≡ true) ⊎ (b ≡ false)
runs_or true = inl refl
runs_or false = inr refl

deliver_leads : (t : Ghost) (w : WorldCore) (i n : ℕ) (p q : Endpoint) (id : SessionId) → WorldRefines t w → slice_get w.endpoints i ≡ Some p → i < t.count → p.link ≡ Some id → GhostCan t i (events.ToClient n) → world.HeedsPiece (delivered_bytes n (t.wires i).down) (after_move p) q → (is_running p.client.outcome ≡ true) ⊎ (is_running p.client.outcome ≡ false) →
    Led t i n (then_scene w i n id q)
deliver_leads t w i n p q id h at low link can d (inl runs) = heard_led t w i n p q id h at low link can runs d
deliver_leads t w i n p q id h at low link can d (inr over) =
    let s = h.endpoints i p at in
    let me = t.system.job i in
    let never : IsUnderWay me.client.stage → ⊥ = λ u. let clash : true ≡ false = sym (under_runs (place_of_info t.infos) (target_of (t.jobs i)) me.session.job (pages_shown t i) (protocol_of p.client (t.history i)) me.client s.exchanges.reads u) ∙ over in absurd (cc) in
    subst (λ (x : Endpoint). Led t i n (then_scene w i n id x)) (sym (d.over over)) (ignored_led t w i n p id h at low link can never)

pub deliver_decides : (n : ℕ) → DecidesAt (events.ToClient n) (GhostHears n)
deliver_decides n t w i p h at low =
    let s = h.endpoints i p at in
    record {
      can = λ can. (may_deliver w.daemon p.link (t.wires i).down (sym s.means.linked ∙ can.0) s.carries.down can.1, can.2);
      back = λ can. (s.means.linked ∙ linked_back p.link can.0, down_back p.link refl can.0, can.1);
      either = both_or (waits_or w.daemon p.link) (more_or n);
      does = λ can e q d. by_link n t w i p p.link h at low refl can.0 can.1 e q d;
    }
  where
    linked_back : (link : Option SessionId) → world.IfLinked link (λ k. replies_of w.daemon k ≢ []) → is_some link ≡ true
    linked_back None some = absurd some
    linked_back (Some id) some = refl

    down_back : (link : Option SessionId) → p.link ≡ link → world.IfLinked link (λ k. replies_of w.daemon k ≢ []) → (t.wires i).down ≢ []
    down_back None link some = absurd some
    down_back (Some id) link some = λ none. some (ap (λ (x : Option SessionId). replies_in (slot_of_link w.daemon x)) (sym link) ∙ ((h.endpoints i p at).carries.down ∙ none))

    by_link : (n : ℕ) (t : Ghost) (w : WorldCore) (i : ℕ) (p : Endpoint) (link : Option SessionId) → WorldRefines t w → slice_get w.endpoints i ≡ Some p → i < t.count → p.link ≡ link → world.IfLinked p.link (λ k. replies_of w.daemon k ≢ []) → 0 < n → (e : Core) (q : Endpoint) →
        world.IfLinked p.link (λ k. (e ≡ world.without_taken k n w.daemon) × world.HeedsPiece (delivered_bytes n (replies_of w.daemon k)) (after_move p) q) → Led t i n (record { daemon = e; endpoints = slice_set w.endpoints i q })
    by_link n t w i p None h at low link some more e q d = absurd (subst (λ (x : Option SessionId). world.IfLinked x (λ k. replies_of w.daemon k ≢ [])) link some)
    by_link n t w i p (Some id) h at low link some more e q d =
        let s = h.endpoints i p at in
        let both : (e ≡ world.without_taken id.number n w.daemon) × world.HeedsPiece (delivered_bytes n (replies_of w.daemon id.number)) (after_move p) q =
        subst (λ (x : Option SessionId). world.IfLinked x (λ k. (e ≡ world.without_taken k n w.daemon) × world.HeedsPiece (delivered_bytes n (replies_of w.daemon k)) (after_move p) q)) link d in
        let waits : replies_of w.daemon id.number ≢ [] = subst (λ (x : Option SessionId). world.IfLinked x (λ k. replies_of w.daemon k ≢ [])) link some in
        let down : replies_of w.daemon id.number ≡ (t.wires i).down = sym (ap (λ (x : Option SessionId). replies_in (slot_of_link w.daemon x)) link) ∙ s.carries.down in
        let can : GhostCan t i (events.ToClient n) = (s.means.linked ∙ ap is_some link, (λ none. waits (down ∙ none)), more) in
        subst (λ (x : Core). Led t i n (record { daemon = x; endpoints = slice_set w.endpoints i q })) (sym both.0)
        (deliver_leads t w i n p q id h at low link can (subst (λ (l : List ℕ). world.HeedsPiece (delivered_bytes n l) (after_move p) q) down both.1) (runs_or (is_running p.client.outcome)))
