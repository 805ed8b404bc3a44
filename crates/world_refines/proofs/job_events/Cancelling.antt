-- A job that is given up.
use Rattle.std.proofs.Common.{◌≡◌, ◌≢◌, ◌⊎◌, inl, inr, ◌∙◌, ℕ, ◌<◌, List, [], ◌∷◌, ◌++◌, Option, Some, Bool, true, false, refl, sym, ap, subst, map, slice_get, slice_set, append_assoc}
use Rattle.std.specs.Prelude.{cond}
use Rattle.scan_job.specs.declared.outcome.Why.TheVariants.{Cancelled}
use Rattle.sane_fixed.specs.declared.device_info.DeviceInfo.{DeviceInfo}
use Rattle.page_picture.specs.Shows.{Frame}
use Rattle.frame_join.specs.FrameHistory.{JoinHistory, is_joined}
use Rattle.sane_fixed.specs.declared.status.Status.TheVariants as statuses
use Rattle.saned_core.specs.DaemonStates.{Core, session_in}
use Rattle.scan_job.specs.declared.job.Job.{Job}
use Rattle.scan_job.specs.declared.job.Task.{Task}
use Rattle.scan_job.specs.declared.outcome.Outcome.{Outcome}
use Rattle.scan_job.specs.declared.outcome.Outcome.TheVariants as outcomes
use Rattle.scan_job.specs.declared.outcome.Why.TheVariants as whys
use Rattle.client_replies.specs.Asking as client
use Rattle.client_replies.specs.declared.progress.JobTarget.{JobTarget}
use Rattle.client_replies.specs.ProtocolStates.{target_of, is_batch, is_running}
use Rattle.net_client.specs.Sending.{requests_text}
use Rattle.net_client.specs.ClientStates.{ClientState, after_client_end, protocol_of}
use Rattle.wire_format.specs.Writer.{behind}
use Rattle.system_model.specs.AbstractMessages.{AbstractRequest}
use Rattle.system_model.specs.Client.{Done, Ended, Idle, ClientView, Running, JobStage, abstract_farewell}
use Rattle.system_model.specs.Client as model
use Rattle.system_model.specs.ClientReplies.{client_after_stop, stage_after_stop}
use Rattle.system_model.specs.Causes.{Cause, GaveUp, IsCauseAmong, LinkOutOfMemory}
use Rattle.system_model.specs.Daemon.{TransferState}
use Rattle.system_model.specs.Actions as actions
use Rattle.system_model.specs.Actions.{job_after_action, with_cause}
use Rattle.system_model.specs.Devices.{Make}
use Rattle.system_model.specs.SystemStates.{JobState, device_for, wanted_place}
use Rattle.system_model.specs.AbstractDevices.{AbstractDevice}
use Rattle.system_model.specs.Invariants.{StageInvariant as SoundExchanges}
use Rattle.system_model.specs.Transitions.{By, IsUnderWay}
use Rattle.system_model.proofs.JobPromises.{sound_after_all}
use Rattle.client_refines.specs.ClientRefinement.{ClientRefines}
use Rattle.client_refines.specs.RequestRefinement.{asks_of}
use Rattle.client_refines.specs.PieceRefinement.{SpellsSent}
use Rattle.client_refines.proofs.SilentCalls.{cancelled_alike}
use Rattle.daemon_refines.proofs.Moved.{put_there}
use Rattle.event_world.specs.declared.event.JobEvent.TheVariants as events
use Rattle.event_world.specs.declared.endpoint.Endpoint.{Endpoint}
use Rattle.event_world.specs.Endpoints.{IsCancelled, after_move}
use Rattle.event_world.specs.JobEvents.{is_done}
use Rattle.event_world.specs.Worlds.{WorldCore}
use Rattle.world_refines.specs.GhostStates.{Ghost, Wires, place_of_info, wired_then}
use Rattle.world_refines.specs.Wires.{FlightMatches, SpellsAsked}
use Rattle.world_refines.specs.WorldRefinement.{KeepsFiles, Means, WorldRefines, EndpointClientRefines, is_laid, slot_of_link, client_at_greeting, AreStartedViews}
use Rattle.world_refines.specs.GhostEvents.{GivesUp, GhostLeads}
use Rattle.world_refines.proofs.state.Changing.{stands_change}
use Rattle.world_refines.proofs.state.Held.{held_after_all}
use Rattle.world_refines.proofs.state.ListedPlaces.{shown_after}
use Rattle.world_refines.proofs.state.Spoken.{same_as, speaks_more}
use Rattle.world_refines.proofs.state.GhostClients.{runs_under, stopped_woken, stops_idle, stops_over, under_runs, woken_known}
use Rattle.world_refines.proofs.state.EndpointSlots.{replaces_same}
use Rattle.world_refines.proofs.requests.Spelling.{spell_behind}
use Rattle.world_refines.proofs.state.Taking.{DecidesAt, done, leaves_core, one_change, one_party, put_self, same_served, sits_there}
use Rattle.world_refines.proofs.state.Waiting.{waits_over}
use Rattle.client_replies.specs.declared.progress.Progress.TheVariants as stages
use Rattle.world_refines.proofs.state.WorldPending.{pends_off}

-- the endpoint, which says farewell by these bytes
abbrev given_up : List ℕ → Endpoint → Endpoint
given_up out p = record (after_move p) { client = record (after_client_end statuses.Cancelled whys.Cancelled p.client) { out = out } }

-- the job by the model
abbrev stops_by : JobState → JobState
stops_by p = record p { client = client_after_stop statuses.Cancelled Cancelled p.client; todo = p.todo ++ abstract_farewell p.client.stage; session = with_cause p.session GaveUp }

-- no job that runs has laid its last page by
pub laid_not : (task : Task) (o : Outcome) (past : JoinHistory) → is_done o ≡ false → is_laid task o past ≡ false
laid_not task o past e = ap (λ (b : Bool). cond b (cond (is_batch task) (is_joined past.ended) false) false) e

pub not_done : (o : Outcome) → is_running o ≡ true → is_done o ≡ false
not_done outcomes.Running e = refl
not_done (outcomes.Done reports) e = absurd (let clash : false ≡ true = e in cc)
not_done (outcomes.Ended status why) e = refl

-- ---- what its client says

-- the farewell of a client that is connected is that of the model; one that is not has no session
farewell_same : (st : JobStage) (m : ClientView) → m.stage ≡ st → (st ≡ Idle → ⊥) → abstract_farewell (client_at_greeting st m).stage ≡ abstract_farewell st
farewell_same Idle m e n = absurd (n refl)
farewell_same (Running g) m e n = ap abstract_farewell e
farewell_same Done m e n = ap abstract_farewell e
farewell_same (Ended status why) m e n = ap abstract_farewell e

record Says (place : DeviceInfo → ℕ) (target : JobTarget) (job : model.AbstractJob) (pages : List (List Frame)) (old : ClientState) (past : JoinHistory) (m : ClientView) (out : List ℕ) : Type 0 where
  pub text : List ℕ
  pub out_is : out ≡ old.out ++ text
  pub spells : SpellsSent target text (asks_of 0 m.known (abstract_farewell (client_at_greeting m.stage m).stage))
  pub reads : ClientRefines place target job pages (protocol_of (after_client_end statuses.Cancelled whys.Cancelled old) past) (client_at_greeting (stage_after_stop statuses.Cancelled Cancelled m.stage) (client_after_stop statuses.Cancelled Cancelled m))

said : (place : DeviceInfo → ℕ) (target : JobTarget) (job : model.AbstractJob) (pages : List (List Frame)) (old : ClientState) (past : JoinHistory) (m : ClientView) (out : List ℕ) → old.target ≡ target → old.notes.word ≡ 0 → is_running old.outcome ≡ true →
    behind old.out (requests_text (client.farewell old.notes.word old.progress)) ≡ Some out → ClientRefines place target job pages (protocol_of old past) (client_at_greeting m.stage m) → Says place target job pages old past m out
said place target job pages old past m out errand_is word runs text r =
    let under : IsUnderWay m.stage = runs_under place target job pages (protocol_of old past) m r runs in
    let new : ClientState = record (after_client_end statuses.Cancelled whys.Cancelled old) { out = out } in
    let c = cancelled_alike place job pages old new past (client_at_greeting m.stage m) runs refl text (subst (λ (x : JobTarget). ClientRefines place x job pages (protocol_of old past) (client_at_greeting m.stage m)) (sym errand_is) r) in
    record {
      text = c.0;
      out_is = c.1;
      spells =
          subst (λ (x : JobTarget). SpellsSent x c.0 (asks_of 0 m.known (abstract_farewell (client_at_greeting m.stage m).stage))) errand_is
          (subst (λ (k : ℕ). SpellsSent old.target c.0 (asks_of k m.known (abstract_farewell (client_at_greeting m.stage m).stage))) word
          (subst (λ (known : List _). SpellsSent old.target c.0 (asks_of old.notes.word known (abstract_farewell (client_at_greeting m.stage m).stage))) (woken_known m.stage m) c.2));
      reads =
          subst (λ (x : ClientView). ClientRefines place target job pages (protocol_of new past) x) (stopped_woken statuses.Cancelled Cancelled m.stage m refl under)
          (subst (λ (x : JobTarget). ClientRefines place x job pages (protocol_of new past) (client_after_stop statuses.Cancelled Cancelled (client_at_greeting m.stage m))) errand_is c.3);
    }

-- ---- what stands of the job then

exchanges_stopped : (place : DeviceInfo → ℕ) (job : Job) (past : JoinHistory) (pages : List JoinHistory) (p : JobState) (old : Endpoint) (out : List ℕ) → EndpointClientRefines place job past pages p old → is_running old.client.outcome ≡ true → IsCancelled (after_move old) (given_up out old) →
    Says place (target_of job) p.session.job (map (λ (q : JoinHistory). q.ended) pages) old.client past p.client out → EndpointClientRefines place job past pages (stops_by p) (given_up out old)
exchanges_stopped place job past pages p old out h runs c s =
    record {
      task = h.task;
      target = h.target;
      word = λ _. h.word runs;
      over = λ _. refl;
      serves = c.serves past h.serves;
      reads = s.reads;
      idle = λ e. absurd (stops_idle statuses.Cancelled Cancelled p.client.stage e);
      begun = λ _. inr (stops_over statuses.Cancelled Cancelled p.client.stage);
      files = let f = subst (λ (b : Bool). KeepsFiles b past pages old) (laid_not job.task old.client.outcome past (not_done old.client.outcome runs)) h.files in
          record { file = f.file; each = f.each; count = f.count; room = f.room };
      finished = h.finished;
      alone = h.alone;
      done = λ e joined. absurd (let clash : false ≡ true = e in cc);
    }

-- nothing flows to a job that is over
pub flows_over : (st : JobStage) (c : TransferState) (progress : _) (phase : _) (image : Option (List ℕ)) (flight : List ℕ) (ending : _) → (IsUnderWay st → ⊥) → FlightMatches st c progress phase image flight ending
flows_over Idle c progress phase image flight ending n = absurd (n tt)
flows_over (Running g) c progress phase image flight ending n = absurd (n tt)
flows_over Done c progress phase image flight ending n = tt
flows_over (Ended status why) c progress phase image flight ending n = tt

-- a cause of another kind
pub other_cause : (cause other : Cause) (met : List Cause) → cause ≢ other → IsCauseAmong cause (other ∷ met) → IsCauseAmong cause met
other_cause cause other met n (inl e) = absurd (n e)
other_cause cause other met n (inr h) = h

starved_else : LinkOutOfMemory ≡ GaveUp → ⊥
starved_else e = absurd (cc)

asked_then : (job : Job) (m : ClientView) (todo : List AbstractRequest) (asking up text : List ℕ) → (m.stage ≡ Idle → ⊥) → SpellsAsked job m todo (asking ++ up) → SpellsAsked job m (abstract_farewell (client_at_greeting m.stage m).stage) text → SpellsAsked job m (todo ++ abstract_farewell m.stage) (asking ++ (up ++ text))
asked_then job m todo asking up text n h s =
    subst (λ (bytes : List ℕ). SpellsAsked job m (todo ++ abstract_farewell m.stage) bytes) (append_assoc asking up text)
    (spell_behind (target_of job) 0 m.known (asking ++ up) text todo (abstract_farewell m.stage) h (subst (λ (rs : List AbstractRequest). SpellsAsked job m rs text) (farewell_same m.stage m refl n) s))

means_stopped : (place : DeviceInfo → ℕ) (job : Job) (x : Wires) (p : JobState) (old : Endpoint) (out text : List ℕ) → Means place job x p old → (p.served ≡ true → p.client.stage ≡ Idle → ⊥) → SpellsAsked job p.client (abstract_farewell (client_at_greeting p.client.stage p.client).stage) text →
    Means place job (record x { up = x.up ++ text }) (stops_by p) (given_up out old)
means_stopped place job x p old out text h alive s =
    record {
      linked = h.linked;
      before = h.before;
      over = h.over;
      calm = h.calm;
      image = h.image;
      last = h.last;
      unended = h.unended;
      first = λ e. absurd (stops_idle statuses.Cancelled Cancelled p.client.stage e);
      up = λ served. asked_then job p.client p.todo x.asking x.up text (λ e. alive served e) (h.up served) s;
      down = λ u. absurd (stops_over statuses.Cancelled Cancelled p.client.stage u);
      flow = flows_over (stage_after_stop statuses.Cancelled Cancelled p.client.stage) p.session.transfer _ _ x.image p.session.flight p.session.ending (stops_over statuses.Cancelled Cancelled p.client.stage);
      starved = λ met. h.starved (other_cause LinkOutOfMemory GaveUp p.session.met starved_else met);
    }

-- a session stands for no job that is not connected yet
idle_unserved : (i : ℕ) (k : Make) (p : JobState) (dev : AbstractDevice) (st : JobStage) → SoundExchanges i k p dev st → st ≡ Idle → p.served ≡ true → ⊥
idle_unserved i k p dev Idle h e served = let clash : false ≡ true = sym h.0 ∙ served in absurd (cc)
idle_unserved i k p dev (Running g) h e served = absurd (cc)
idle_unserved i k p dev Done h e served = absurd (cc)
idle_unserved i k p dev (Ended status why) h e served = absurd (cc)

-- ---- the event

given_up_stands : (t : Ghost) (w : WorldCore) (i : ℕ) (p : Endpoint) (out : List ℕ) → WorldRefines t w → slice_get w.endpoints i ≡ Some p → i < t.count → is_running p.client.outcome ≡ true → IsCancelled (after_move p) (given_up out p) → behind p.client.out (requests_text (client.farewell p.client.notes.word p.client.progress)) ≡ Some out →
    GhostLeads events.Cancel GivesUp t i (record { daemon = w.daemon; endpoints = slice_set w.endpoints i (given_up out p) })
given_up_stands t w i p out h at low runs c text =
    let s = h.endpoints i p at in
    let me = t.system.job i in
    let protocol = said (place_of_info t.infos) (target_of (t.jobs i)) me.session.job (map (λ (q : JoinHistory). q.ended) (t.pages i)) p.client (t.history i) me.client out s.exchanges.target (s.exchanges.word runs) runs text s.exchanges.reads in
    let under : IsUnderWay me.client.stage = runs_under (place_of_info t.infos) (target_of (t.jobs i)) me.session.job (map (λ (q : JoinHistory). q.ended) (t.pages i)) (protocol_of p.client (t.history i)) me.client s.exchanges.reads runs in
    let bytes : Wires = record (t.wires i) { up = (t.wires i).up ++ protocol.text } in
    let steps = By i actions.Stops ∷ [] in
    let u : Ghost = wired_then t i steps bytes in
    let same = put_self t.system.device (wanted_place t.system i) (device_for t.system i) refl in
    let sound = sound_after_all t.system steps h.sound (under, tt) in
    done events.Cancel GivesUp t i _ steps u (low, under) (record { text = protocol.text; spells = protocol.spells; steps_are = refl; takes = record { legal = (under, tt); then_is = refl } })
    (stands_change t u w i p (given_up out p) w.daemon h at (subst (λ (n : ℕ). i < n) h.is_of.count low) (record {
      told = one_change t i actions.Stops bytes (t.history i) (t.pages i);
      leaves = leaves_core t w i p u.system.device h at same;
      sound = sound;
      asks = held_after_all t.system steps h.sound h.asks (under, tt);
      shown = shown_after t w steps h;
      sits = sits_there u w.daemon i (given_up out p) (stops_by me) bytes (t.history i) (t.pages i) (one_party t i actions.Stops bytes (t.history i) (t.pages i)) (put_there t.wires i bytes) (put_there t.history i (t.history i)) (put_there t.pages i (t.pages i)) (record {
        job_is = s.job_is;
        exchanges = exchanges_stopped (place_of_info t.infos) (t.jobs i) (t.history i) (t.pages i) me p out s.exchanges runs c protocol;
        carries = record { up = protocol.out_is ∙ ap (λ (x : List ℕ). x ++ protocol.text) s.carries.up; asking = s.carries.asking; down = s.carries.down; telling = s.carries.telling; image = s.carries.image };
        means = means_stopped (place_of_info t.infos) (t.jobs i) (t.wires i) me p out protocol.text s.means (λ served e. idle_unserved i _ me (device_for t.system i) me.client.stage (h.sound.exchanges i) e served) protocol.spells;
        served = same_served i t.system.make w.daemon p.link me.served t.system.device u.system.device (stops_by me) same s.served;
        speaks = let session = session_in (slot_of_link w.daemon p.link) in speaks_more (t.jobs i).device me (stops_by me) (abstract_farewell me.client.stage) session session refl refl (same_as session) s.speaks;
        waits = waits_over stages.Over (stops_by me).todo refl;
        pends = pends_off _ _ _ bytes refl s.pends.asking;
      });
      link = λ id e. inl e;
      replaces = replaces_same p.link w.daemon;
      begun = subst (λ (x : JobState). AreStartedViews t.system.make x) (sym (one_party t i actions.Stops bytes (t.history i) (t.pages i))) (h.begun i);
    }))

runs_or : (b : Bool) → (b ≡ true) ⊎ (b ≡ true → ⊥)
runs_or true = inl refl
runs_or false = inr (λ e. let clash : false ≡ true = e in absurd (cc))

pub cancel_decides : DecidesAt events.Cancel GivesUp
cancel_decides t w i p h at low =
    let s = h.endpoints i p at in
    let me = t.system.job i in
    record {
      can = λ can. under_runs (place_of_info t.infos) (target_of (t.jobs i)) me.session.job (map (λ (q : JoinHistory). q.ended) (t.pages i)) (protocol_of p.client (t.history i)) me.client s.exchanges.reads can.1;
      back = λ runs. (low, runs_under (place_of_info t.infos) (target_of (t.jobs i)) me.session.job (map (λ (q : JoinHistory). q.ended) (t.pages i)) (protocol_of p.client (t.history i)) me.client s.exchanges.reads runs);
      either = runs_or (is_running p.client.outcome);
      does = λ runs e q d. by_parts t w i p h at low runs e q d.0 d.1;
    }
  where
    by_parts : (t : Ghost) (w : WorldCore) (i : ℕ) (p : Endpoint) → WorldRefines t w → slice_get w.endpoints i ≡ Some p → i < t.count → is_running p.client.outcome ≡ true → (e : Core) (q : Endpoint) → e ≡ w.daemon → IsCancelled (after_move p) q → GhostLeads events.Cancel GivesUp t i (record { daemon = e; endpoints = slice_set w.endpoints i q })
    by_parts t w i p h at low runs e q same c =
        subst (λ (x : Core). GhostLeads events.Cancel GivesUp t i (record { daemon = x; endpoints = slice_set w.endpoints i q })) (sym same)
        (subst (λ (x : Endpoint). GhostLeads events.Cancel GivesUp t i (record { daemon = w.daemon; endpoints = slice_set w.endpoints i x })) (sym c.rest)
        (given_up_stands t w i p c.out h at low runs (subst (λ (x : Endpoint). IsCancelled (after_move p) x) c.rest c) c.text))
