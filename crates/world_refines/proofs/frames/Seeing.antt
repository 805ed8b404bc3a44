-- Bytes of a frame's data come to the client of its job.
use Rattle.std.specs.Prelude.{if◌then◌else◌, ◌==◌, ◌&&◌, cond, not, option_map, IsSome, is_some}
use Rattle.std.specs.List.{AllByRecursion}
use Rattle.std.proofs.lemmas.Bool.Decides.{nat_tests}
use Rattle.std.proofs.Common.{◌≡◌, ◌≢◌, ◌⊎◌, inl, inr, ◌∙◌, ℕ, zero, suc, ◌≤◌, ◌<◌, ◌+◌, nat_lt, List, [], ◌∷◌, ◌++◌, Option, Some, None, Bool, true, false, refl, sym, ap, subst, map, length, slice_get, slice_set, append-nil, append_assoc, arith}
use Rattle.sane_fixed.specs.declared.status.Status.{Status}
use Rattle.option_desc.specs.declared.descriptor.Descriptor.{Descriptor}
use Rattle.page_picture.specs.Page.{IsPageView}
use Rattle.sane_fixed.specs.declared.device_info.DeviceInfo.{DeviceInfo}
use Rattle.page_picture.specs.Shows.{Frame}
use Rattle.data_records.specs.declared.records.RecordPhase.{RecordPhase}
use Rattle.data_records.specs.Records.{HasEnded}
use Rattle.frame_join.specs.FrameHistory.{JoinHistory, is_joined}
use Rattle.saned_core.specs.declared.session_slot.SessionId.{SessionId}
use Rattle.saned_core.specs.DaemonStates.{Core, replies_in, session_in}
use Rattle.saned_core.specs.Feeding.{input_in}
use Rattle.scan_job.specs.declared.job.Job.{Job}
use Rattle.scan_job.specs.declared.outcome.Outcome.{Outcome}
use Rattle.scan_job.specs.declared.outcome.Outcome.TheVariants as outcomes
use Rattle.client_replies.specs.declared.progress.JobTarget.{JobTarget}
use Rattle.client_replies.specs.declared.progress.Notes.{Notes}
use Rattle.client_replies.specs.declared.progress.Progress.{Progress}
use Rattle.client_replies.specs.declared.progress.Progress.TheVariants as stages
use Rattle.client_replies.specs.ProtocolStates.{target_of, is_batch, is_imaging, is_receiving, is_running, scans, turns}
use Rattle.client_replies.specs.ProtocolStates as client
use Rattle.net_client.specs.ClientStates.{ClientRepresents, ClientState, protocol_of}
use Rattle.net_client.proofs.Ending.{receives_at}
use Rattle.system_model.specs.AbstractMessages.{AbstractReply, AbstractRequest}
use Rattle.system_model.specs.Devices.{Make}
use Rattle.system_model.specs.Client as model
use Rattle.system_model.specs.Client.{ClientView, Running, JobStage}
use Rattle.system_model.specs.Daemon.{TransferState, Quiet, Waiting, Streaming, Ending}
use Rattle.system_model.specs.Actions.{Action}
use Rattle.system_model.specs.AbstractDevices.{Begin, AbstractDevice, is_held_by}
use Rattle.system_model.specs.AbstractSessions.{AbstractSession as RuledSession, one_word_session}
use Rattle.system_model.specs.Invariants as sound
use Rattle.system_model.specs.SystemStates.{JobState, make_for, device_for}
use Rattle.system_model.specs.Transitions.{IsImaging, IsUnderWay}
use Rattle.system_model.proofs.JobPromises.{sound_after_all}
use Rattle.world_refines.specs.Speaks.{Speaks, WaitsQuietly}
use Rattle.world_refines.proofs.state.Held.{held_after_all}
use Rattle.world_refines.proofs.state.ListedPlaces.{shown_after}
use Rattle.world_refines.proofs.state.Spoken.{same_as, speaks_more}
use Rattle.client_refines.specs.ClientRefinement.{ClientRefines, WaitsAs, task_of}
use Rattle.client_refines.specs.RequestRefinement.{asks_of}
use Rattle.client_refines.specs.PieceRefinement.{SpellsSent}
use Rattle.daemon_refines.proofs.Moved.{put_there, unsome}
use Rattle.event_world.specs.declared.event.JobEvent.TheVariants as events
use Rattle.event_world.specs.declared.endpoint.Image.{Image}
use Rattle.event_world.specs.declared.endpoint.Endpoint.{Endpoint}
use Rattle.event_world.specs.Endpoints.{laid_by}
use Rattle.event_world.specs.FileDraining.{Drains, HasFiles, IsLaid}
use Rattle.event_world.specs.JobEvents.{without_ended_image, with_last_page, is_done, bytes_not_delivered, delivered_bytes, still_open, with_image}
use Rattle.event_world.specs.JobEvents as world
use Rattle.event_world.specs.Worlds.{WorldCore}
use Rattle.event_world.proofs.Pulls.{files_laid, laid_always, laid_starved, laid_then}
use Rattle.world_refines.specs.GhostStates.{Ghost, Wires, place_of_info, ghost_after}
use Rattle.world_refines.specs.Wires.{CarriesFlight, IsDialled, FlightMatches, FlowsAt, SpellsAsked, SpellsReplies}
use Rattle.world_refines.specs.WorldRefinement.{WiresMatch, IsServed, KeepsFiles, Means, WorldRefines, EndpointClientRefines, image_bytes, is_laid, slot_of_link, session_by, client_at_greeting, AreStartedViews}
use Rattle.world_refines.specs.GhostEvents.{HasSomeBytes, GhostLeads}
use Rattle.world_refines.specs.DataDeliveries.{GhostSees, by_all, open_still, wires_after_data}
use Rattle.world_refines.proofs.job_events.Cancelling.{flows_over}
use Rattle.world_refines.proofs.state.Changing.{stands_change}
use Rattle.world_refines.proofs.frames.Dialling.{imaging_still, told_nothing}
use Rattle.world_refines.proofs.frames.Drained.{awaits_next, drained, few_further, place_few}
use Rattle.world_refines.proofs.state.ListEntries.{nil_both}
use Rattle.world_refines.proofs.state.GhostClients.{runs_under, under_runs}
use Rattle.world_refines.proofs.state.EndpointSlots.{Replaces, replaces_same}
use Rattle.world_refines.proofs.frames.SeenPiece.{IsMid, IsReader, IsThen, fewer_pages, handed, images, received_mid}
use Rattle.world_refines.proofs.frames.SeenSteps.{MayAll, after_each, change_all, device_all, legal_all, make_all, party_all}
use Rattle.world_refines.proofs.requests.Spelling.{spell_behind}
use Rattle.world_refines.proofs.state.Taking.{DecidesAt, done, leaves_core, same_served, sits_there}
use Rattle.world_refines.proofs.frames.Unimaged.{both_or, flows_imaging, imaging_woken, none_some, waits_as, waits_imaging}
use Rattle.world_refines.proofs.state.Elsewhere.{received_unopened}
use Rattle.world_refines.proofs.state.Waiting.{waits_turned}
use Rattle.world_refines.specs.WorldPending.{HasNoReply, Pends}
use Rattle.world_refines.proofs.state.WorldPending.{no_reply_none, pends_same, received_reading}

-- ---- the endpoint

-- the last page of a batch is laid by, and behind its end the data connection is no more: what of the endpoint stays
same_client : (b : Bool) (p : Endpoint) → (if b then record p { file = Some []; pages = slice_set p.pages p.finished p.file; finished = p.finished + 1 } else record p { file = Some [] }).client ≡ p.client
same_client true p = refl
same_client false p = refl

laid_client : (p : Endpoint) → (laid_by p).client ≡ p.client
laid_client p = same_client (nat_lt p.finished 16) p

finished_laid : (b : Bool) (p : Endpoint) → IsLaid p (if b then laid_by p else p)
finished_laid true p = laid_always p
finished_laid false p = refl

finished_client : (b : Bool) (p : Endpoint) → (if b then laid_by p else p).client ≡ p.client
finished_client true p = laid_client p
finished_client false p = refl

finished_starved : (b : Bool) (p : Endpoint) → (if b then laid_by p else p).out_of_memory ≡ p.out_of_memory
finished_starved true p = laid_starved p
finished_starved false p = refl

-- the files of a batch that is done with its last page
finished_files : (d b j : Bool) (past : JoinHistory) (pages : List JoinHistory) (p : Endpoint) → HasFiles past.given pages p → (d ≡ true → j ≡ true) → length pages < 16 ⊎ (d ≡ false) → KeepsFiles (cond d (cond b j false) false) past pages (if d && b then laid_by p else p)
finished_files true true true past pages p f whole (inl few) = files_laid past pages p few f
finished_files true true true past pages p f whole (inr off) = absurd (let clash : true ≡ false = off in cc)
finished_files true true false past pages p f whole few = absurd (let clash : false ≡ true = whole refl in cc)
finished_files true false j past pages p f whole few = f
finished_files false b j past pages p f whole few = f

closed_files : (b : Bool) (past : JoinHistory) (pages : List JoinHistory) (p : Endpoint) → KeepsFiles b past pages p → KeepsFiles b past pages (without_ended_image p)
closed_files true past pages p f = record { file = f.file; each = f.each; count = f.count; room = f.room }
closed_files false past pages p f = record { file = f.file; each = f.each; count = f.count; room = f.room }

-- ---- its data connection

some_length : (n : ℕ) → (suc n == 0) ≡ false
some_length n = grind (arith, nat_tests)

shut_by : (last : Bool) (bytes : List ℕ) (closing : Option Status) → last ≡ is_some closing → option_map image_bytes (if last && (length bytes == 0) then None else Some (record { bytes = bytes; is_last = last })) ≡ open_still closing bytes
shut_by true [] (Some status) e = refl
shut_by true (b ∷ bytes) (Some status) e = ap (λ (c : Bool). option_map image_bytes (if c then None else Some (record { bytes = b ∷ bytes; is_last = true }))) (some_length (length bytes))
shut_by true bytes None e = absurd (let clash : true ≡ false = e in cc)
shut_by false bytes None e = refl
shut_by false bytes (Some status) e = absurd (let clash : false ≡ true = e in cc)

shut_image : (image : Image) (closing : Option Status) → image.is_last ≡ is_some closing → option_map image_bytes (still_open (Some image)) ≡ open_still closing image.bytes
shut_image image closing e = shut_by image.is_last image.bytes closing e

open_by : (b : Bool) (image im : Image) → (if b then None else Some image) ≡ Some im → im ≡ image
open_by true image im e = absurd (let clash : None ≡ Some im = e in cc)
open_by false image im e = sym (unsome image im e)

still_is : (image im : Image) → still_open (Some image) ≡ Some im → im ≡ image
still_is image im e = open_by (image.is_last && (length image.bytes == 0)) image im e

-- ---- what stands of the job

-- the session of a job is by these alone
ruled_same : (i : ℕ) (device : ℕ → AbstractDevice) (me now : JobState) → now.session.job ≡ me.session.job → now.session.transfer ≡ me.session.transfer → now.session.awaited ≡ me.session.awaited → session_by i device now ≡ session_by i device me
ruled_same i device me now job transfer awaited =
    ap (λ (x : model.AbstractJob). one_word_session (is_held_by i (device x.wants).holder) x.wants now.session.transfer now.session.awaited) job
    ∙ (ap (λ (c : TransferState). one_word_session (is_held_by i (device me.session.job.wants).holder) me.session.job.wants c now.session.awaited) transfer
    ∙ ap (λ (x : Option _). one_word_session (is_held_by i (device me.session.job.wants).holder) me.session.job.wants me.session.transfer x) awaited)

woken_alive : (st : JobStage) (m : ClientView) → m.stage ≡ st → (st ≡ model.Idle → ⊥) → client_at_greeting st m ≡ m
woken_alive model.Idle m e n = absurd (n refl)
woken_alive (Running g) m e n = refl
woken_alive model.Done m e n = refl
woken_alive (model.Ended status why) m e n = refl

-- what the delivery leaves of the endpoint, of the job by the model, and of what is on the way
pub record IsSeen (t : Ghost) (i : ℕ) (p : Endpoint) (n : ℕ) (image : Image) (r : Endpoint) : Type 0 where
  pub come : List Action
  pub may : MayAll (t.system.job i) come
  pub now : JobState
  pub now_is : after_each (t.system.job i) come ≡ now
  pub history : JoinHistory
  pub pages : List JoinHistory
  pub rest : IsLaid (handed n image p) r
  pub starved : p.out_of_memory ≡ true → r.out_of_memory ≡ true
  pub exchanges : EndpointClientRefines (place_of_info t.infos) (t.jobs i) history pages now (without_ended_image r)
  pub input : r.client.input ≡ p.client.input
  pub sent : List ℕ
  pub out : r.client.out ≡ p.client.out ++ sent
  pub asks : List AbstractRequest
  pub says : SpellsAsked (t.jobs i) now.client asks sent
  pub then_is : IsThen (t.system.job i) now (open_still (t.system.job i).session.ending (bytes_not_delivered n image.bytes)) asks
  pub flow : FlightMatches now.client.stage now.session.transfer r.client.progress r.client.phase (open_still (t.system.job i).session.ending (bytes_not_delivered n image.bytes)) now.session.flight now.session.ending
  pub down : IsUnderWay now.client.stage → SpellsReplies (place_of_info t.infos) r.client.progress (t.system.job i).due ((t.wires i).telling ++ (t.wires i).down)
  pub waits : WaitsQuietly r.client.progress now.todo
  pub pends : Pends r.client.outcome r.client.progress r.client.phase (wires_after_data n image.bytes sent (t.system.job i).session.ending (t.wires i))
  pub sees : (u : Ghost) → u.system.job i ≡ now → u ≡ ghost_after t i (by_all i come) (wires_after_data n image.bytes sent (t.system.job i).session.ending (t.wires i)) history pages → (t.wires i).image ≡ Some image.bytes → GhostSees n t i (by_all i come) u

carries_seen : (t : Ghost) (i : ℕ) (p : Endpoint) (n : ℕ) (image : Image) (r : Endpoint) (core : Core) → p.image ≡ Some image → image.is_last ≡ is_some (t.system.job i).session.ending → (s : IsSeen t i p n image r) → WiresMatch (t.wires i) (slot_of_link core p.link) p → WiresMatch (wires_after_data n image.bytes s.sent (t.system.job i).session.ending (t.wires i)) (slot_of_link core r.link) (without_ended_image r)
carries_seen t i p n image r core at last s h =
    let link : r.link ≡ p.link = ap (λ (x : Endpoint). x.link) s.rest in
    let has : r.image ≡ Some (record image { bytes = bytes_not_delivered n image.bytes }) = ap (λ (x : Endpoint). x.image) s.rest in
    record {
      up = s.out ∙ ap (λ (l : List ℕ). l ++ s.sent) h.up;
      asking = ap (λ (l : Option SessionId). input_in (slot_of_link core l)) link ∙ h.asking;
      down = ap (λ (l : Option SessionId). replies_in (slot_of_link core l)) link ∙ h.down;
      telling = ap (λ (x : _). x.rest) s.input ∙ h.telling;
      image = ap (λ (o : Option Image). option_map image_bytes (still_open o)) has ∙ shut_image (record image { bytes = bytes_not_delivered n image.bytes }) (t.system.job i).session.ending last;
    }

-- what was asked for before, and what goes out now
all_asked : (job : Job) (m now : ClientView) (todo then_ asks : List AbstractRequest) (asking up sent : List ℕ) → now.known ≡ m.known → then_ ≡ todo ++ asks → SpellsAsked job m todo (asking ++ up) → SpellsAsked job now asks sent → SpellsAsked job now then_ (asking ++ (up ++ sent))
all_asked job m now todo then_ asks asking up sent known is h says =
    subst (λ (bytes : List ℕ). SpellsAsked job now then_ bytes) (append_assoc asking up sent)
    (subst (λ (rs : List AbstractRequest). SpellsAsked job now rs ((asking ++ up) ++ sent)) (sym is)
    (spell_behind (target_of job) 0 now.known (asking ++ up) sent todo asks (subst (λ (d : List Descriptor). SpellsSent (target_of job) (asking ++ up) (asks_of 0 d todo)) (sym known) h) says))

some_open : (o : Option Image) (im : Image) (bytes : Option (List ℕ)) → o ≡ Some im → option_map image_bytes o ≡ bytes → IsSome bytes
some_open o im bytes e f = subst IsSome (sym (ap (option_map image_bytes) e) ∙ f) refl

means_seen : (t : Ghost) (i : ℕ) (p : Endpoint) (n : ℕ) (image : Image) (r : Endpoint) → p.image ≡ Some image → image.is_last ≡ is_some (t.system.job i).session.ending → (s : IsSeen t i p n image r) → Means (place_of_info t.infos) (t.jobs i) (t.wires i) (t.system.job i) p →
    Means (place_of_info t.infos) (t.jobs i) (wires_after_data n image.bytes s.sent (t.system.job i).session.ending (t.wires i)) s.now (without_ended_image r)
means_seen t i p n image r at last s h =
    let me = t.system.job i in
    let x = t.wires i in
    let c = s.then_is in
    let link : r.link ≡ p.link = ap (λ (y : Endpoint). y.link) s.rest in
    let over : r.is_over ≡ p.is_over = ap (λ (y : Endpoint). y.is_over) s.rest in
    let connected : r.was_connected ≡ p.was_connected = ap (λ (y : Endpoint). y.was_connected) s.rest in
    let kept : Image = record image { bytes = bytes_not_delivered n image.bytes } in
    let has : still_open r.image ≡ still_open (Some kept) = ap (λ (y : Endpoint). still_open y.image) s.rest in
    let shown : option_map image_bytes (still_open (Some kept)) ≡ open_still me.session.ending (bytes_not_delivered n image.bytes) = shut_image kept me.session.ending last in
    record {
      linked = c.linked ∙ (h.linked ∙ ap is_some (sym link));
      before = λ e. let b = h.before (sym connected ∙ e) in (link ∙ b.0, over ∙ b.1);
      over = λ e. over ∙ (h.over (sym c.linked ∙ e) ∙ ap not (sym c.served));
      calm = λ e. c.transfer ∙ h.calm (sym c.served ∙ e);
      image = c.image;
      last = λ im e.
          let is : still_open (Some kept) ≡ Some im = sym has ∙ e in
          let some = some_open (still_open (Some kept)) im (open_still me.session.ending (bytes_not_delivered n image.bytes)) is shown in
          ap (λ (y : Image). y.is_last) (still_is kept im is) ∙ (last ∙ sym (c.last some));
      unended = c.unended;
      first = λ e. absurd (c.alive e);
      up = λ served.
          all_asked (t.jobs i) me.client s.now.client me.todo s.now.todo s.asks x.asking x.up s.sent c.known c.todo (h.up (sym c.served ∙ served)) s.says;
      down = λ u. subst (λ (due : List AbstractReply). SpellsReplies (place_of_info t.infos) r.client.progress due (x.telling ++ x.down)) (sym c.due) (s.down u);
      flow = s.flow;
      starved = λ met. s.starved (h.starved (c.met met));
    }

-- ---- a job that is over

exchanges_closed : (place : DeviceInfo → ℕ) (job : Job) (past : JoinHistory) (pages : List JoinHistory) (me : JobState) (n : ℕ) (image : Image) (p : Endpoint) → EndpointClientRefines place job past pages me p → EndpointClientRefines place job past pages me (without_ended_image (handed n image p))
exchanges_closed place job past pages me n image p h =
    record {
      task = h.task;
      target = h.target;
      word = h.word;
      over = h.over;
      serves = h.serves;
      reads = h.reads;
      idle = h.idle;
      begun = h.begun;
      files = handed_files (is_laid job.task p.client.outcome past) past pages n image p h.files;
      finished = h.finished;
      alone = h.alone;
      done = h.done;
    }
  where
    handed_files : (b : Bool) (past : JoinHistory) (pages : List JoinHistory) (n : ℕ) (image : Image) (p : Endpoint) → KeepsFiles b past pages p → KeepsFiles b past pages (without_ended_image (handed n image p))
    handed_files true past pages n image p f = record { file = f.file; each = f.each; count = f.count; room = f.room }
    handed_files false past pages n image p f = record { file = f.file; each = f.each; count = f.count; room = f.room }

over_seen : (t : Ghost) (w : WorldCore) (i : ℕ) (p : Endpoint) (n : ℕ) (image : Image) → WorldRefines t w → slice_get w.endpoints i ≡ Some p → p.image ≡ Some image → (IsUnderWay (t.system.job i).client.stage → ⊥) → IsSeen t i p n image (handed n image p)
over_seen t w i p n image h at has never =
    let s = h.endpoints i p at in
    let me = t.system.job i in
    let some : IsSome (t.wires i).image = subst IsSome (sym (ap (option_map image_bytes) has) ∙ s.carries.image) refl in
    record {
      come = [];
      may = tt;
      now = me;
      now_is = refl;
      history = t.history i;
      pages = t.pages i;
      rest = refl;
      starved = λ e. e;
      exchanges = exchanges_closed (place_of_info t.infos) (t.jobs i) (t.history i) (t.pages i) me n image p s.exchanges;
      input = refl;
      sent = [];
      out = sym (append-nil p.client.out);
      asks = [];
      says = record { requests = []; text = refl; same = tt };
      then_is = record {
        job = refl;
        transfer = refl;
        awaited = refl;
        started = refl;
        met = λ x. x;
        linked = refl;
        served = refl;
        due = refl;
        todo = sym (append-nil me.todo);
        known = refl;
        alive = λ e. never (subst IsUnderWay (sym e) tt);
        image = λ _. s.means.image some;
        last = λ _. refl;
        unended = s.means.unended;
      };
      flow = flows_over me.client.stage me.session.transfer p.client.progress p.client.phase (open_still me.session.ending (bytes_not_delivered n image.bytes)) me.session.flight me.session.ending never;
      down = λ u. absurd (never u);
      waits = s.waits;
      pends = pends_same p.client.outcome p.client.progress p.client.phase (t.wires i) _ s.pends.asking refl s.pends;
      sees = λ u is then_is at_image. record {
        text = image.bytes;
        image_is = at_image;
        come = [];
        steps_are = refl;
        legal = tt;
        sent = [];
        history = t.history i;
        pages = t.pages i;
        then_is = then_is;
        reads_on = λ under. absurd (never under);
        ignores = λ _. (refl, refl, refl, refl);
      };
    }

-- ---- a job that is under way

flows_at : (c : TransferState) (progress other : Progress) (phase after : RecordPhase) (image then_ : Option (List ℕ)) (flight rest : List ℕ) (ending closing : Option Status) → IsSome image → FlowsAt c progress phase image flight ending → IsDialled other after then_ rest closing → FlowsAt c other after then_ rest closing
flows_at Waiting progress other phase after image then_ flight rest ending closing some h d = absurd (none_some image h.image_is some)
flows_at Quiet progress other phase after image then_ flight rest ending closing some h d = d
flows_at Streaming progress other phase after image then_ flight rest ending closing some h d = d
flows_at Ending progress other phase after image then_ flight rest ending closing some h d = d

dialled_at : (c : TransferState) (progress : Progress) (phase : RecordPhase) (image : Option (List ℕ)) (flight : List ℕ) (ending : Option Status) → IsSome image → FlowsAt c progress phase image flight ending → IsDialled progress phase image flight ending
dialled_at Waiting progress phase image flight ending some h = absurd (none_some image h.image_is some)
dialled_at Quiet progress phase image flight ending some h = h
dialled_at Streaming progress phase image flight ending some h = h
dialled_at Ending progress phase image flight ending some h = h

receives_by : (o : Outcome) (progress : Progress) → is_running o ≡ true → is_imaging progress ≡ true → client.wanted_port progress ≡ None → is_receiving o progress ≡ true
receives_by o (stages.Imaging port true) r e n = ap (λ (b : Bool). b && true) r
receives_by o (stages.Imaging port false) r e n = absurd (let clash : Some port ≡ None = n in cc)
receives_by o progress r e n = absurd (let clash : false ≡ true = e in cc)

imaging_part : (job : model.AbstractJob) (progress : Progress) (notes : Notes) (past : JoinHistory) (m : ClientView) → WaitsAs job progress notes past m → is_imaging progress ≡ true → is_joined past.ended ≡ false
imaging_part job (stages.Imaging port made) notes past m w e = w.part
imaging_part job progress notes past m w e = absurd (let clash : false ≡ true = e in cc)

pub is_reader : (t : Ghost) (w : WorldCore) (i : ℕ) (p : Endpoint) (image : Image) → WorldRefines t w → slice_get w.endpoints i ≡ Some p → i < t.count → p.image ≡ Some image → is_running p.client.outcome ≡ true → IsReader t i p image.bytes
is_reader t w i p image h at low has runs =
    let s = h.endpoints i p at in
    let me = t.system.job i in
    let place = place_of_info t.infos in
    let shown : List (List Frame) = map (λ (q : JoinHistory). q.ended) (t.pages i) in
    let text : (t.wires i).image ≡ Some image.bytes = sym s.carries.image ∙ ap (option_map image_bytes) has in
    let some : IsSome (t.wires i).image = subst IsSome (sym text) refl in
    let under : IsUnderWay me.client.stage = runs_under place (target_of (t.jobs i)) me.session.job shown (protocol_of p.client (t.history i)) me.client s.exchanges.reads runs in
    let is : IsImaging me.client.stage = flows_imaging me.client.stage me.session.transfer p.client.progress p.client.phase (t.wires i).image me.session.flight me.session.ending s.means.flow some under in
    let flow : FlowsAt me.session.transfer p.client.progress p.client.phase (t.wires i).image me.session.flight me.session.ending =
    subst (λ (st : JobStage). FlightMatches st me.session.transfer p.client.progress p.client.phase (t.wires i).image me.session.flight me.session.ending) is.2 s.means.flow in
    let d = dialled_at me.session.transfer p.client.progress p.client.phase (t.wires i).image me.session.flight me.session.ending some flow in
    let bytes : d.text ≡ image.bytes = unsome d.text image.bytes (sym d.image_is ∙ text) in
    let waits = waits_as place (target_of (t.jobs i)) me.session.job shown (protocol_of p.client (t.history i)) (client_at_greeting me.client.stage me.client) s.exchanges.reads runs in
    let imaging = waits_imaging me.session.job p.client.progress p.client.notes (t.history i) (client_at_greeting me.client.stage me.client) waits (imaging_woken me.client.stage me.client refl is) in
    let receiving = receives_by p.client.outcome p.client.progress runs imaging d.wants in
    let frame = images i (make_for t.system i) me (device_for t.system i) is.0 is.1 (subst (λ (st : JobStage). sound.StageInvariant i (make_for t.system i) me (device_for t.system i) st) is.2 (h.sound.exchanges i)) in
    let alive : me.client.stage ≡ model.Idle → ⊥ = λ e. (let clash : model.Idle ≡ Running (model.Imaging is.0 is.1) = sym e ∙ is.2 in absurd (cc)) in
    let reads = subst (λ (m : ClientView). ClientRefines place (target_of (t.jobs i)) me.session.job shown (protocol_of p.client (t.history i)) m) (woken_alive me.client.stage me.client refl alive) s.exchanges.reads in
    let task : me.session.job.task ≡ task_of (t.jobs i).task = ap (λ (x : model.AbstractJob). x.task) s.job_is in
    record {
      params = is.0;
      heard = is.1;
      stage = is.2;
      images = frame;
      few = fewer_pages (t.history i) (t.pages i) me.client.pages (model.further_pages me.session.job.task) reads.files.all frame.continues.fewer (subst (λ (x : model.AbstractTask). model.further_pages x ≤ 15) (sym task) (few_further (t.jobs i).task (h.is_of.counts i low)));
      made = s.means.image some;
      unended = s.means.unended;
      runs = runs;
      receiving = receiving;
      wants = d.wants;
      flows = λ progress phase o flight ending dialled. flows_at me.session.transfer p.client.progress progress p.client.phase phase (t.wires i).image o me.session.flight flight me.session.ending ending some flow dialled;
      carried = subst (λ (l : List ℕ). CarriesFlight p.client.phase l me.session.flight me.session.ending) bytes d.carried;
      exchanges = s.exchanges;
      reads = reads;
      part = imaging_part me.session.job p.client.progress p.client.notes (t.history i) (client_at_greeting me.client.stage me.client) waits imaging;
      scanning = ap (λ (x : JobTarget). scans x.task) (sym s.exchanges.target) ∙ (receives_at p.client (t.history i) receiving s.exchanges.serves).0;
    }

done_still : (o : Outcome) (progress : Progress) → is_done o ≡ true → turns o progress ≡ false
done_still outcomes.Running progress e = absurd (let clash : false ≡ true = e in cc)
done_still (outcomes.Done reports) progress e = refl
done_still (outcomes.Ended status why) progress e = refl

not_or : (b : Bool) → (b ≡ true) ⊎ (b ≡ false)
not_or true = inl refl
not_or false = inr refl

-- where a page is laid by at the end there is a place for it
last_place : (b : Bool) (pages then_ : List JoinHistory) → length pages < 16 → (b ≡ true → then_ ≡ pages) → length then_ < 16 ⊎ (b ≡ false)
last_place true pages then_ few same = inl (subst (λ (x : List JoinHistory). length x < 16) (sym (same refl)) few)
last_place false pages then_ few same = inr refl

under_seen : (t : Ghost) (w : WorldCore) (i : ℕ) (p : Endpoint) (n : ℕ) (image : Image) (mid : ClientState) (after : Endpoint) → WorldRefines t w → slice_get w.endpoints i ≡ Some p → i < t.count → p.image ≡ Some image → (h : IsReader t i p image.bytes) → (m : IsMid t i p (delivered_bytes n image.bytes) (bytes_not_delivered n image.bytes) (handed n image p) mid) → (mid.progress ≡ stages.Reopening → ⊥) → (is_receiving mid.outcome (awaits_next (turns mid.outcome mid.progress) mid.progress) ≡ true → HasEnded mid.phase → ⊥) →
    Drains (record (handed n image p) { client = mid }) after → IsSeen t i p n image (with_last_page after)
under_seen t w i p n image mid after st at low has h m unopened reading drains =
    let s = st.endpoints i p at in
    let me = t.system.job i in
    let place = place_of_info t.infos in
    let old : Endpoint = record (handed n image p) { client = mid } in
    let d = drained place (t.jobs i) me.session.job m.history (t.pages i) m.now.client old after m.told (place_few old (t.pages i) h.few) drains in
    let b : Bool = is_done after.client.outcome && is_batch after.task in
    let r : Endpoint = with_last_page after in
    let q : Endpoint = without_ended_image r in
    let same : r.client ≡ after.client = finished_client b after in
    let laid : IsLaid after r = finished_laid b after in
    let rest : IsLaid (handed n image p) r = laid_then old after r d.rest laid in
    let out : r.client.out ≡ p.client.out ++ (m.sent ++ d.sent) =
    ap (λ (v : ClientState). v.out) same ∙ (d.out ∙ (ap (λ (l : List ℕ). l ++ d.sent) m.out ∙ append_assoc p.client.out m.sent d.sent)) in
    let done_mid : is_done after.client.outcome ≡ true → is_done mid.outcome ≡ true = λ e. ap is_done (sym d.outcome) ∙ e in
    let whole : is_done after.client.outcome ≡ true → is_joined d.history.ended ≡ true = λ e. ap is_joined (d.still (done_still mid.outcome mid.progress (done_mid e))).0 ∙ m.whole (done_mid e) in
    let place_is = last_place (is_done after.client.outcome) (t.pages i) d.pages h.few (λ e. (d.still (done_still mid.outcome mid.progress (done_mid e))).1) in
    let files = finished_files (is_done after.client.outcome) (is_batch after.task) (is_joined d.history.ended) d.history d.pages after d.told.files whole place_is in
    let outcome : r.client.outcome ≡ after.client.outcome = ap (λ (v : ClientState). v.outcome) same in
    let laid_is : is_laid (t.jobs i).task r.client.outcome d.history ≡ is_laid after.task after.client.outcome d.history = ap (λ (o : Outcome). is_laid (t.jobs i).task o d.history) outcome ∙ ap (λ (x : _). is_laid x after.client.outcome d.history) (sym d.told.task) in
    let awake = woken_alive m.now.client.stage m.now.client refl m.then_is.alive in
    let shown : List (List Frame) = map (λ (x : JoinHistory). x.ended) d.pages in
    let still = imaging_still i (make_for t.system i) me (device_for t.system i) me.client.stage (st.sound.exchanges i) (h.params, h.heard, h.stage) in
    let connected : r.was_connected ≡ p.was_connected = ap (λ (x : Endpoint). x.was_connected) rest in
    let bytes = wires_after_data n image.bytes (m.sent ++ d.sent) me.session.ending (t.wires i) in
    let nothing = subst (λ (due : List AbstractReply). SpellsReplies place p.client.progress due ((t.wires i).telling ++ (t.wires i).down)) still.due (s.means.down (subst IsUnderWay (sym h.stage) tt)) in
    let silence = nil_both (t.wires i).telling (t.wires i).down nothing in
    record {
      come = m.come;
      may = m.may;
      now = m.now;
      now_is = m.now_is;
      history = d.history;
      pages = d.pages;
      rest = rest;
      starved = λ e. finished_starved b after ∙ d.starved e;
      exchanges = record {
        task = ap (λ (x : Endpoint). x.task) laid ∙ d.told.task;
        target = ap (λ (v : ClientState). v.target) same ∙ d.told.target;
        word = λ e. ap (λ (v : ClientState). v.notes.word) same ∙ d.told.word (sym (ap (λ (v : ClientState). is_running v.outcome) same) ∙ e);
        over = λ e. ap (λ (v : ClientState). v.progress) same ∙ d.told.over (sym (ap (λ (v : ClientState). is_running v.outcome) same) ∙ e);
        serves = subst (λ (v : ClientState). ClientRepresents d.history v) (sym same) d.told.serves;
        reads =
            subst (λ (v : ClientState). ClientRefines place (target_of (t.jobs i)) m.now.session.job shown (protocol_of v d.history) (client_at_greeting m.now.client.stage m.now.client)) (sym same)
            (subst (λ (x : ClientView). ClientRefines place (target_of (t.jobs i)) m.now.session.job shown (protocol_of after.client d.history) x) (sym awake)
            (subst (λ (x : model.AbstractJob). ClientRefines place (target_of (t.jobs i)) x shown (protocol_of after.client d.history) m.now.client) (sym m.then_is.job) d.told.reads));
        idle = λ e. absurd (m.then_is.alive e);
        begun = λ e. absurd (never_begun me.client.stage h.params h.heard h.stage (s.exchanges.begun (sym connected ∙ e)));
        files = closed_files (is_laid (t.jobs i).task r.client.outcome d.history) d.history d.pages r (subst (λ (x : Bool). KeepsFiles x d.history d.pages r) (sym laid_is) files);
        finished = d.told.finished;
        alone = d.told.alone;
        done = λ e joined. d.done (sym (ap (λ (v : ClientState). is_done v.outcome) same) ∙ e) joined;
      };
      input = ap (λ (v : ClientState). v.input) same ∙ (d.input ∙ m.input);
      sent = m.sent ++ d.sent;
      out = out;
      asks = m.asks;
      says = m.says d.sent d.says;
      then_is = m.then_is;
      flow =
          subst (λ (v : ClientState). FlightMatches m.now.client.stage m.now.session.transfer v.progress v.phase (open_still me.session.ending (bytes_not_delivered n image.bytes)) m.now.session.flight m.now.session.ending) (sym same)
          (subst (λ (x : RecordPhase). FlightMatches m.now.client.stage m.now.session.transfer after.client.progress x (open_still me.session.ending (bytes_not_delivered n image.bytes)) m.now.session.flight m.now.session.ending) (sym d.phase)
          (subst (λ (x : Progress). FlightMatches m.now.client.stage m.now.session.transfer x mid.phase (open_still me.session.ending (bytes_not_delivered n image.bytes)) m.now.session.flight m.now.session.ending) (sym d.progress) m.flow));
      down = λ u. told_nothing place p.client.progress r.client.progress me.due ((t.wires i).telling ++ (t.wires i).down) still.due (s.means.down (subst IsUnderWay (sym h.stage) tt));
      waits = subst (λ (v : ClientState). WaitsQuietly v.progress m.now.todo) (sym same) (subst (λ (x : Progress). WaitsQuietly x m.now.todo) (sym d.progress) (waits_turned mid.outcome mid.progress m.now.todo m.told.over unopened));
      pends = subst (λ (v : ClientState). Pends v.outcome v.progress v.phase bytes) (sym same) (record {
        asking = s.pends.asking;
        telling = λ on. subst (HasNoReply after.client.progress) (sym silence.0) (no_reply_none after.client.progress);
        reading = subst (λ (x : RecordPhase). is_receiving after.client.outcome after.client.progress ≡ true → HasEnded x → ⊥) (sym d.phase)
            (subst (λ (x : Progress). is_receiving after.client.outcome x ≡ true → HasEnded mid.phase → ⊥) (sym d.progress) (subst (λ (o : Outcome). is_receiving o (awaits_next (turns mid.outcome mid.progress) mid.progress) ≡ true → HasEnded mid.phase → ⊥) (sym d.outcome) reading));
      });
      sees = λ u is then_is at_image. record {
        text = image.bytes;
        image_is = at_image;
        come = m.come;
        steps_are = refl;
        legal = legal_all t.system i m.come m.may;
        sent = m.sent ++ d.sent;
        history = d.history;
        pages = d.pages;
        then_is = then_is;
        reads_on = λ under. record { phase = p.client.phase; carried = h.carried; comes = m.comes u d.sent is d.says };
        ignores = λ never. absurd (never (subst IsUnderWay (sym h.stage) tt));
      };
    }
  where
    never_begun : (stage : JobStage) (params : _) (heard : List ℕ) → stage ≡ Running (model.Imaging params heard) → (stage ≡ model.Idle) ⊎ (IsUnderWay stage → ⊥) → ⊥
    never_begun stage params heard e (inl idle) = let clash : model.Idle ≡ Running (model.Imaging params heard) = sym idle ∙ e in absurd (cc)
    never_begun stage params heard e (inr over) = over (subst IsUnderWay (sym e) tt)

-- ---- the event

seen_stands : (t : Ghost) (w : WorldCore) (i : ℕ) (p : Endpoint) (n : ℕ) (image : Image) (r : Endpoint) → WorldRefines t w → slice_get w.endpoints i ≡ Some p → i < t.count → p.image ≡ Some image → image.bytes ≢ [] → 0 < n → IsSeen t i p n image r →
    GhostLeads (events.DataToClient n) (GhostSees n) t i (record { daemon = w.daemon; endpoints = slice_set w.endpoints i (without_ended_image r) })
seen_stands t w i p n image r h at low has some positive s =
    let sits = h.endpoints i p at in
    let me = t.system.job i in
    let steps = by_all i s.come in
    let bytes : Wires = wires_after_data n image.bytes s.sent me.session.ending (t.wires i) in
    let u : Ghost = ghost_after t i steps bytes s.history s.pages in
    let q = without_ended_image r in
    let text : (t.wires i).image ≡ Some image.bytes = sym sits.carries.image ∙ ap (option_map image_bytes) has in
    let last : image.is_last ≡ is_some me.session.ending = sits.means.last image has in
    let link : r.link ≡ p.link = ap (λ (x : Endpoint). x.link) s.rest in
    let legal = legal_all t.system i s.come s.may in
    let job_state : u.system.job i ≡ s.now = party_all t.system i s.come s.may ∙ s.now_is in
    let same = device_all t.system i s.come s.may in
    let c = s.then_is in
    done (events.DataToClient n) (GhostSees n) t i _ steps u (subst HasSomeBytes (sym text) some, positive) (s.sees u job_state refl text)
    (stands_change t u w i p q w.daemon h at (subst (λ (k : ℕ). i < k) h.is_of.count low) (record {
      told = change_all t i s.come bytes s.history s.pages;
      leaves = leaves_core t w i p u.system.device h at same;
      sound = sound_after_all t.system steps h.sound legal;
      asks = held_after_all t.system steps h.sound h.asks legal;
      shown = shown_after t w steps h;
      sits = sits_there u w.daemon i q s.now bytes s.history s.pages job_state (put_there t.wires i bytes) (put_there t.history i s.history) (put_there t.pages i s.pages) (record {
        job_is = c.job ∙ sits.job_is;
        exchanges = s.exchanges;
        carries = carries_seen t i p n image r w.daemon has last s sits.carries;
        means = means_seen t i p n image r has last s sits.means;
        served =
            subst (λ (x : ℕ → Make). IsServed i x w.daemon r.link s.now.served u.system.device (session_by i u.system.device s.now)) (sym (make_all t.system i s.come))
            (subst (λ (x : RuledSession). IsServed i t.system.make w.daemon r.link s.now.served u.system.device x) (sym (ruled_same i u.system.device me s.now c.job c.transfer c.awaited))
            (subst (λ (x : Bool). IsServed i t.system.make w.daemon r.link x u.system.device (session_by i u.system.device me)) (sym c.served)
            (subst (λ (x : Option SessionId). IsServed i t.system.make w.daemon x me.served u.system.device (session_by i u.system.device me)) (sym link) (same_served i t.system.make w.daemon p.link me.served t.system.device u.system.device me same sits.served))));
        speaks = subst (λ (x : Option SessionId). Speaks (t.jobs i).device s.now (session_in (slot_of_link w.daemon x))) (sym link)
            (speaks_more (t.jobs i).device me s.now s.asks (session_in (slot_of_link w.daemon p.link)) (session_in (slot_of_link w.daemon p.link)) c.todo c.awaited (same_as (session_in (slot_of_link w.daemon p.link))) sits.speaks);
        waits = s.waits;
        pends = s.pends;
      });
      link = λ id e. inl (sym link ∙ e);
      replaces = subst (λ (x : Option SessionId). Replaces p.link x w.daemon w.daemon) (sym link) (replaces_same p.link w.daemon);
      begun = subst (λ (x : JobState). AreStartedViews t.system.make x) (sym job_state)
          (λ steady. subst (λ (x : List Begin). AllByRecursion (λ (b : Begin). IsPageView b.page) x) (sym c.started) (h.begun i (ap (λ (j : _). (t.system.make j.wants).steady) (sym c.job) ∙ steady)));
    }))

-- the endpoint behind it, by whether the job runs
seen_by : (t : Ghost) (w : WorldCore) (i : ℕ) (p : Endpoint) (n : ℕ) (image : Image) (r : Endpoint) → WorldRefines t w → slice_get w.endpoints i ≡ Some p → i < t.count → p.image ≡ Some image → (is_running p.client.outcome ≡ true) ⊎ (is_running p.client.outcome ≡ false) → world.TakesDataPiece (delivered_bytes n image.bytes) (handed n image p) r → IsSeen t i p n image r
seen_by t w i p n image r h at low has (inr off) d =
    let s = h.endpoints i p at in
    let me = t.system.job i in
    let never : IsUnderWay me.client.stage → ⊥ = λ under.
    (let clash : true ≡ false = sym (under_runs (place_of_info t.infos) (target_of (t.jobs i)) me.session.job (map (λ (x : JoinHistory). x.ended) (t.pages i)) (protocol_of p.client (t.history i)) me.client s.exchanges.reads under) ∙ off in absurd (cc)) in
    subst (λ (x : Endpoint). IsSeen t i p n image x) (sym (d.over off)) (over_seen t w i p n image h at has never)
seen_by t w i p n image r h at low has (inl runs) d =
    let s = h.endpoints i p at in
    let reader = is_reader t w i p image h at low has runs in
    let task : (t.system.job i).session.job.task ≡ task_of (t.jobs i).task = ap (λ (x : model.AbstractJob). x.task) s.job_is in
    let came = d.receives reader.receiving (t.history i) s.exchanges.serves in
    let mid = received_mid t i p n image d.mid (h.is_of.counts i low) task reader came in
    let reading = received_reading p.client (t.history i) (delivered_bytes n image.bytes) d.mid (turns d.mid.outcome d.mid.progress) came in
    let unopened = received_unopened p.client (t.history i) (delivered_bytes n image.bytes) d.mid reader.receiving came in
    subst (λ (x : Endpoint). IsSeen t i p n image x) (sym (d.finishes runs)) (under_seen t w i p n image d.mid d.after h at low has reader mid unopened reading (d.drains runs))

bytes_or : (xs : List ℕ) → (xs ≢ []) ⊎ ((xs ≢ []) → ⊥)
bytes_or [] = inr (λ n. n refl)
bytes_or (x ∷ xs) = inl (λ e. let clash : x ∷ xs ≡ [] = e in absurd (cc))

image_or : (o : Option Image) → world.HasImage o (λ bytes. bytes ≢ []) ⊎ (world.HasImage o (λ bytes. bytes ≢ []) → ⊥)
image_or None = inr (λ x. x)
image_or (Some image) = bytes_or image.bytes

some_or : (n : ℕ) → (0 < n) ⊎ (0 < n → ⊥)
some_or zero = inr (λ e. omega (arith, e))
some_or (suc n) = inl (omega arith)

has_image : (o : Option Image) → HasSomeBytes (option_map image_bytes o) → world.HasImage o (λ bytes. bytes ≢ [])
has_image None h = h
has_image (Some image) h = h

pub data_decides : (n : ℕ) → DecidesAt (events.DataToClient n) (GhostSees n)
data_decides n t w i p h at low =
    let s = h.endpoints i p at in
    record {
      can = λ can. (has_image p.image (subst HasSomeBytes (sym s.carries.image) can.0), can.1);
      back = λ can. (subst HasSomeBytes s.carries.image (bytes_back p.image can.0), can.1);
      either = both_or (image_or p.image) (some_or n);
      does = λ can e q d. by_parts t w i p n h at low can e q d.0 d.1;
    }
  where
    bytes_back : (o : Option Image) → world.HasImage o (λ bytes. bytes ≢ []) → HasSomeBytes (option_map image_bytes o)
    bytes_back None has = absurd has
    bytes_back (Some image) has = has

    by_parts : (t : Ghost) (w : WorldCore) (i : ℕ) (p : Endpoint) (n : ℕ) → WorldRefines t w → slice_get w.endpoints i ≡ Some p → i < t.count → world.HasImage p.image (λ bytes. bytes ≢ []) × (0 < n) → (e : Core) (q : Endpoint) → e ≡ w.daemon → world.TakesPieceOfData n p q →
        GhostLeads (events.DataToClient n) (GhostSees n) t i (record { daemon = e; endpoints = slice_set w.endpoints i q })
    by_parts t w i p n h at low can e q same d =
        let some : d.0.bytes ≢ [] = subst (λ (o : Option Image). world.HasImage o (λ bytes. bytes ≢ [])) d.1 can.0 in
        let s = seen_by t w i p n d.0 d.2.0 h at low d.1 (not_or (is_running p.client.outcome)) d.2.1 in
        subst (λ (x : Core). GhostLeads (events.DataToClient n) (GhostSees n) t i (record { daemon = x; endpoints = slice_set w.endpoints i q })) (sym same)
        (subst (λ (x : Endpoint). GhostLeads (events.DataToClient n) (GhostSees n) t i (record { daemon = w.daemon; endpoints = slice_set w.endpoints i x })) (sym d.2.2) (seen_stands t w i p n d.0 d.2.0 h at low d.1 some can.1 s))
