-- The connection for a frame's data is made.
use Rattle.std.specs.Prelude.{is_some, IsSome}
use Rattle.std.proofs.Common.{◌≡◌, ◌⊎◌, inl, inr, ◌∙◌, ℕ, ◌<◌, List, [], ◌∷◌, ◌++◌, Option, Some, None, Bool, true, false, refl, sym, ap, subst, map, slice_get, slice_set}
use Rattle.sane_fixed.specs.declared.status.Status.{Status}
use Rattle.page_picture.specs.Shows.{Frame}
use Rattle.sane_fixed.specs.declared.device_info.DeviceInfo.{DeviceInfo}
use Rattle.data_records.specs.declared.records.RecordPhase.{RecordPhase}
use Rattle.data_records.specs.declared.records.RecordPhase.TheVariants as phases
use Rattle.data_records.specs.Records.{RecordsContinue}
use Rattle.frame_join.specs.FrameHistory.{JoinHistory}
use Rattle.saned_requests.specs.declared.session.DataPhase.{DataPhase as WordCarriage}
use Rattle.saned_requests.specs.declared.session.DataPhase.TheVariants as word
use Rattle.saned_core.specs.declared.session_slot.FrameState.{FrameState}
use Rattle.saned_core.specs.declared.session_slot.FrameState.TheVariants as frames
use Rattle.saned_core.specs.declared.session_slot.SessionId.{SessionId}
use Rattle.saned_core.specs.DaemonStates.{Core, after_connected, frame_in, frame_state_of, on_session_slot, on_session, session_in}
use Rattle.scan_job.specs.declared.job.Job.{Job}
use Rattle.scan_job.specs.declared.job.Task.{Task}
use Rattle.scan_job.specs.declared.outcome.Outcome.{Outcome}
use Rattle.scan_job.specs.declared.outcome.Outcome.TheVariants as outcomes
use Rattle.client_replies.specs.declared.progress.JobTarget.{JobTarget}
use Rattle.client_replies.specs.declared.progress.Notes.{Notes}
use Rattle.client_replies.specs.declared.progress.Progress.{Progress}
use Rattle.client_replies.specs.declared.progress.Progress.TheVariants as stages
use Rattle.client_replies.specs.ProtocolStates.{HistoryFits, FitsAt, progress_connected, target_of, is_running, suits}
use Rattle.client_replies.specs.ProtocolStates as client
use Rattle.net_client.specs.ClientStates.{phase_connected, protocol_of}
use Rattle.system_model.specs.AbstractMessages.{AbstractReply}
use Rattle.system_model.specs.Client as model
use Rattle.system_model.specs.Client.{Idle, ClientView, JobStage, request_awaited}
use Rattle.system_model.specs.Daemon.{TransferState, Quiet, Waiting, Streaming, Ending}
use Rattle.system_model.specs.Actions as actions
use Rattle.system_model.specs.Actions.{with_transfer}
use Rattle.system_model.specs.Devices.{Make}
use Rattle.system_model.specs.SystemStates.{JobState, make_for, device_for, wanted_place}
use Rattle.system_model.specs.AbstractDevices.{AbstractDevice}
use Rattle.system_model.specs.Invariants as sound
use Rattle.system_model.specs.Transitions.{By, IsImaging}
use Rattle.system_model.proofs.JobPromises.{sound_after_all}
use Rattle.client_refines.specs.ClientRefinement.{ClientRefines, WaitsAs}
use Rattle.client_refines.proofs.SilentCalls.{connected_unseen}
use Rattle.daemon_refines.specs.Cores.{SessionRefines}
use Rattle.daemon_refines.specs.ContextRefinement.{TransferRefines}
use Rattle.daemon_refines.specs.DataRefinement.{transfer_connected}
use Rattle.daemon_refines.proofs.Moved.{put_there, unsome}
use Rattle.event_world.specs.declared.event.JobEvent.TheVariants as events
use Rattle.event_world.specs.declared.endpoint.Image.{Image}
use Rattle.event_world.specs.declared.endpoint.Endpoint.{Endpoint}
use Rattle.event_world.specs.Endpoints.{with_data_opened, after_move}
use Rattle.event_world.specs.Endpoints as endpoints
use Rattle.event_world.specs.JobEvents as world
use Rattle.event_world.specs.Worlds.{WorldCore}
use Rattle.world_refines.specs.GhostStates.{Ghost, Wires, place_of_info, wired_then}
use Rattle.world_refines.specs.Wires.{CarriesFlight, FlightMatches, SpellsReplies, IsNotDialled}
use Rattle.world_refines.specs.WorldRefinement.{WiresMatch, IsServed, KeepsFiles, Means, WorldRefines, EndpointClientRefines, is_laid, slot_of_link, session_by, client_at_greeting, AreStartedViews}
use Rattle.world_refines.specs.GhostEvents.{Dials, GhostLeads, wires_with_image}
use Rattle.world_refines.proofs.state.CoreCallsKeep.{input_on, is_connected, on_core, replies_on}
use Rattle.world_refines.proofs.state.Changing.{stands_change}
use Rattle.world_refines.proofs.state.EndpointSlots.{replaces_on}
use Rattle.world_refines.proofs.state.Sees.{Leaves}
use Rattle.world_refines.specs.Speaks.{Speaks}
use Rattle.world_refines.proofs.state.Held.{held_after_all}
use Rattle.world_refines.proofs.state.ListedPlaces.{shown_after}
use Rattle.world_refines.proofs.state.Spoken.{same_connected, same_on, speaks_still}
use Rattle.world_refines.proofs.state.Taking.{DecidesAt, done, one_change, one_party, put_self, sits_there}
use Rattle.world_refines.proofs.frames.Unimaged.{both_or, waits_as}
use Rattle.world_refines.proofs.state.Waiting.{waits_connected}
use Rattle.world_refines.proofs.state.WorldPending.{pends_connected}

-- ---- the client

wants_wanted : (progress : Progress) (phase : RecordPhase) → IsSome (client.wanted_port progress) → (phase_connected progress phase ≡ phases.Head) × (client.wanted_port (progress_connected progress) ≡ None)
wants_wanted (stages.Imaging port false) phase h = (refl, refl)
wants_wanted (stages.Imaging port true) phase h = absurd (let clash : false ≡ true = h in cc)
wants_wanted stages.Greeting phase h = absurd (let clash : false ≡ true = h in cc)
wants_wanted stages.Listing phase h = absurd (let clash : false ≡ true = h in cc)
wants_wanted stages.Opening phase h = absurd (let clash : false ≡ true = h in cc)
wants_wanted (stages.Allowing resource answer) phase h = absurd (let clash : false ≡ true = h in cc)
wants_wanted stages.Reopening phase h = absurd (let clash : false ≡ true = h in cc)
wants_wanted stages.Describing phase h = absurd (let clash : false ≡ true = h in cc)
wants_wanted (stages.Putting n kind name request_awaited) phase h = absurd (let clash : false ≡ true = h in cc)
wants_wanted (stages.Getting n kind size) phase h = absurd (let clash : false ≡ true = h in cc)
wants_wanted (stages.Starting first) phase h = absurd (let clash : false ≡ true = h in cc)
wants_wanted (stages.Shaping port order) phase h = absurd (let clash : false ≡ true = h in cc)
wants_wanted stages.Turning phase h = absurd (let clash : false ≡ true = h in cc)
wants_wanted stages.Over phase h = absurd (let clash : false ≡ true = h in cc)

-- it waits for the data of a frame
wants_stage : (job : model.AbstractJob) (progress : Progress) (notes : Notes) (past : JoinHistory) (m : ClientView) → WaitsAs job progress notes past m → IsSome (client.wanted_port progress) → IsImaging m.stage
wants_stage job (stages.Imaging port made) notes past m w h = (w.params, w.payload, w.stage)
wants_stage job stages.Greeting notes past m w h = absurd (let clash : false ≡ true = h in cc)
wants_stage job stages.Listing notes past m w h = absurd (let clash : false ≡ true = h in cc)
wants_stage job stages.Opening notes past m w h = absurd (let clash : false ≡ true = h in cc)
wants_stage job (stages.Allowing resource answer) notes past m w h = absurd (let clash : false ≡ true = h in cc)
wants_stage job stages.Reopening notes past m w h = absurd (let clash : false ≡ true = h in cc)
wants_stage job stages.Describing notes past m w h = absurd (let clash : false ≡ true = h in cc)
wants_stage job (stages.Putting n kind name request_awaited) notes past m w h = absurd (let clash : false ≡ true = h in cc)
wants_stage job (stages.Getting n kind size) notes past m w h = absurd (let clash : false ≡ true = h in cc)
wants_stage job (stages.Starting first) notes past m w h = absurd (let clash : false ≡ true = h in cc)
wants_stage job (stages.Shaping port order) notes past m w h = absurd (let clash : false ≡ true = h in cc)
wants_stage job stages.Turning notes past m w h = absurd (let clash : false ≡ true = h in cc)
wants_stage job stages.Over notes past m w h = absurd (let clash : false ≡ true = h in cc)

woken_imaging : (st : JobStage) (m : ClientView) → m.stage ≡ st → IsImaging (client_at_greeting st m).stage → IsImaging st
woken_imaging Idle m e h = absurd (let clash : model.Running model.Greeting ≡ model.Running (model.Imaging h.0 h.1) = h.2 in cc)
woken_imaging (model.Running g) m e h = subst IsImaging e h
woken_imaging model.Done m e h = subst IsImaging e h
woken_imaging (model.Ended status why) m e h = subst IsImaging e h

runs_wanted : (o : Outcome) (progress : Progress) → (is_running o ≡ false → progress ≡ stages.Over) → IsSome (client.wanted_port progress) → is_running o ≡ true
runs_wanted outcomes.Running progress over h = refl
runs_wanted (outcomes.Done reports) progress over h = absurd (let clash : false ≡ true = subst (λ (x : Progress). IsSome (client.wanted_port x)) (over refl) h in cc)
runs_wanted (outcomes.Ended status why) progress over h = absurd (let clash : false ≡ true = subst (λ (x : Progress). IsSome (client.wanted_port x)) (over refl) h in cc)

pub wants_imaging : (place : DeviceInfo → ℕ) (job : Job) (past : JoinHistory) (pages : List JoinHistory) (p : JobState) (endpoint : Endpoint) → EndpointClientRefines place job past pages p endpoint → IsSome (client.wanted_port endpoint.client.progress) → IsImaging p.client.stage
wants_imaging place job past pages p endpoint h some =
    let runs = runs_wanted endpoint.client.outcome endpoint.client.progress h.over some in
    woken_imaging p.client.stage p.client refl
    (wants_stage p.session.job endpoint.client.progress endpoint.client.notes past (client_at_greeting p.client.stage p.client) (waits_as place (target_of job) p.session.job (map (λ (q : JoinHistory). q.ended) pages) (protocol_of endpoint.client past) (client_at_greeting p.client.stage p.client) h.reads runs) some)

over_connected : (progress : Progress) → progress ≡ stages.Over → progress_connected progress ≡ stages.Over
over_connected progress e = ap progress_connected e

fits_at : (task : Task) (progress : Progress) (past : JoinHistory) → suits task progress ≡ true → FitsAt progress past → (suits task (progress_connected progress) ≡ true) × FitsAt (progress_connected progress) past
fits_at task (stages.Imaging port false) past s f = (s, f)
fits_at task (stages.Imaging port true) past s f = (s, f)
fits_at task stages.Greeting past s f = (s, f)
fits_at task stages.Listing past s f = (s, f)
fits_at task stages.Opening past s f = (s, f)
fits_at task (stages.Allowing resource answer) past s f = (s, f)
fits_at task stages.Reopening past s f = (s, f)
fits_at task stages.Describing past s f = (s, f)
fits_at task (stages.Putting n kind name request_awaited) past s f = (s, f)
fits_at task (stages.Getting n kind size) past s f = (s, f)
fits_at task (stages.Starting first) past s f = (s, f)
fits_at task (stages.Shaping port order) past s f = (s, f)
fits_at task stages.Turning past s f = (s, f)
fits_at task stages.Over past s f = (s, f)

fits_connected : (task : Task) (o : Outcome) (progress : Progress) (past : JoinHistory) → HistoryFits task o progress past → HistoryFits task o (progress_connected progress) past
fits_connected task outcomes.Running progress past h = fits_at task progress past h.0 h.1
fits_connected task (outcomes.Done reports) progress past h = h
fits_connected task (outcomes.Ended status why) progress past h = h

-- ---- the frame of its session waits just where it does by the model

carried_waiting : (wc : WordCarriage) (c : TransferState) (framed : ℕ) → TransferRefines wc c framed → frame_state_of wc ≡ frames.Waiting → c ≡ Waiting
carried_waiting word.Quiet c framed h e = absurd (let clash : frames.Quiet ≡ frames.Waiting = e in cc)
carried_waiting (word.Waiting w) c framed h e = h.0
carried_waiting (word.Streaming w) c framed h e = absurd (let clash : frames.Streaming ≡ frames.Waiting = e in cc)
carried_waiting word.Ending c framed h e = absurd (let clash : frames.Ending ≡ frames.Waiting = e in cc)

waiting_carried : (wc : WordCarriage) (c : TransferState) (framed : ℕ) → TransferRefines wc c framed → c ≡ Waiting → frame_state_of wc ≡ frames.Waiting
waiting_carried word.Quiet c framed h e = absurd (let clash : Quiet ≡ Waiting = sym h ∙ e in cc)
waiting_carried (word.Waiting w) c framed h e = refl
waiting_carried (word.Streaming w) c framed h e = absurd (let clash : Streaming ≡ Waiting = sym h.0 ∙ e in cc)
waiting_carried word.Ending c framed h e = absurd (let clash : Ending ≡ Waiting = sym h ∙ e in cc)

-- a frame that waits is that of a session that goes on
pub record Waits (i : ℕ) (make : ℕ → Make) (core : Core) (id : SessionId) (device : ℕ → AbstractDevice) (p : JobState) : Type 0 where
  pub served : p.served ≡ true
  pub transfer : p.session.transfer ≡ Waiting
  pub shows : SessionRefines i make core id.number device (session_by i device p)

waits_by : (i : ℕ) (make : ℕ → Make) (core : Core) (id : SessionId) (served : Bool) (device : ℕ → AbstractDevice) (p : JobState) → p.served ≡ served → IsServed i make core (Some id) served device (session_by i device p) → world.frame_state_at core id.number ≡ frames.Waiting → Waits i make core id device p
waits_by i make core id true device p is h e =
    record {
      served = is;
      transfer = carried_waiting h.session.transfer p.session.transfer 0 h.shows.transfer (sym (ap frame_in h.stands) ∙ e);
      shows = h;
    }
waits_by i make core id false device p is h e = absurd (let clash : frames.Quiet ≡ frames.Waiting = sym (ap frame_in h.0) ∙ e in cc)

frame_waits : (i : ℕ) (make : ℕ → Make) (core : Core) (link : Option SessionId) (device : ℕ → AbstractDevice) (p : JobState) → IsServed i make core link true device (session_by i device p) → p.session.transfer ≡ Waiting → world.IfLinked link (λ k. world.frame_state_at core k ≡ frames.Waiting)
frame_waits i make core None device p h e = absurd h
frame_waits i make core (Some id) device p h e = ap frame_in h.stands ∙ waiting_carried h.session.transfer p.session.transfer 0 h.shows.transfer e

-- ---- the model

asks_nothing : (g : model.AbstractProgress) → IsImaging (model.Running g) → request_awaited g ≡ []
asks_nothing g h = ap (λ (x : model.AbstractProgress). request_awaited x) (let same : model.Running g ≡ model.Running (model.Imaging h.0 h.1) = h.2 in let is : g ≡ model.Imaging h.0 h.1 = cc in is)

-- the session of a client that takes data goes on, and nothing is due to it
pub record IsStill (p : JobState) : Type 0 where
  pub served : p.served ≡ true
  pub due : p.due ≡ []

pub imaging_still : (i : ℕ) (k : Make) (p : JobState) (dev : AbstractDevice) (st : JobStage) → sound.StageInvariant i k p dev st → IsImaging st → IsStill p
imaging_still i k p dev Idle h is = absurd (let clash : Idle ≡ model.Running (model.Imaging is.0 is.1) = is.2 in cc)
imaging_still i k p dev (model.Running g) (inl asks) is = record { served = asks.served; due = asks.due }
imaging_still i k p dev (model.Running g) (inr (inl told)) is = absurd (told.waits (asks_nothing g is))
imaging_still i k p dev (model.Running g) (inr (inr dead)) is = absurd (dead.waits (asks_nothing g is))
imaging_still i k p dev model.Done h is = absurd (let clash : model.Done ≡ model.Running (model.Imaging is.0 is.1) = is.2 in cc)
imaging_still i k p dev (model.Ended status why) h is = absurd (let clash : model.Ended status why ≡ model.Running (model.Imaging is.0 is.1) = is.2 in cc)

-- what flows to a client that waits for its connection
flows_waiting : (st : JobStage) (c : TransferState) (progress : Progress) (phase : RecordPhase) (image : Option (List ℕ)) (flight : List ℕ) (ending : Option Status) → IsImaging st → c ≡ Waiting → FlightMatches st c progress phase image flight ending → IsNotDialled progress image flight ending
flows_waiting st c progress phase image flight ending is e h =
    subst (λ (x : TransferState). FlightMatches (model.Running (model.Imaging is.0 is.1)) x progress phase image flight ending) e (subst (λ (x : JobStage). FlightMatches x c progress phase image flight ending) is.2 h)

-- no bytes carry nothing
carries_none : (flight : List ℕ) (ending : Option Status) → flight ≡ [] → ending ≡ None → CarriesFlight phases.Head [] flight ending
carries_none flight ending e f =
    subst (λ (x : List ℕ). CarriesFlight phases.Head [] x ending) (sym e) (subst (λ (x : Option Status). CarriesFlight phases.Head [] [] x) (sym f) (λ text payload status. (λ h. (payload, refl, h), λ h. subst (λ (x : List ℕ). RecordsContinue phases.Head text x status) (sym h.1) h.2)))

flows_dialled : (st : JobStage) (progress : Progress) (phase : RecordPhase) (flight : List ℕ) (ending : Option Status) → IsImaging st → client.wanted_port progress ≡ None → phase ≡ phases.Head → CarriesFlight phases.Head [] flight ending → FlightMatches st Streaming progress phase (Some []) flight ending
flows_dialled st progress phase flight ending is none head c =
    subst (λ (x : JobStage). FlightMatches x Streaming progress phase (Some []) flight ending) (sym is.2) (record { wants = none; text = []; image_is = refl; carried = subst (λ (x : RecordPhase). CarriesFlight x [] flight ending) (sym head) c })

pub told_nothing : (place : DeviceInfo → ℕ) (progress other : Progress) (due : List AbstractReply) (text : List ℕ) → due ≡ [] → SpellsReplies place progress due text → SpellsReplies place other due text
told_nothing place progress other due text e h = subst (λ (x : List AbstractReply). SpellsReplies place other x text) (sym e) (subst (λ (x : List AbstractReply). SpellsReplies place progress x text) e h)

-- ---- what stands then

abbrev dials_by : JobState → JobState
dials_by p = record p { image = true; session = with_transfer p.session Streaming }

exchanges_dialled : (place : DeviceInfo → ℕ) (job : Job) (past : JoinHistory) (pages : List JoinHistory) (p : JobState) (old : Endpoint) → EndpointClientRefines place job past pages p old → EndpointClientRefines place job past pages (dials_by p) (endpoints.with_image_link (after_move old))
exchanges_dialled place job past pages p old h =
    let shown : List (List Frame) = map (λ (q : JoinHistory). q.ended) pages in
    record {
      task = h.task;
      target = h.target;
      word = h.word;
      over = λ e. over_connected old.client.progress (h.over e);
      serves = record { stands = h.serves.stands; fits = fits_connected old.client.target.task old.client.outcome old.client.progress past h.serves.fits };
      reads =
          subst (λ (x : JobTarget). ClientRefines place x p.session.job shown (protocol_of (with_data_opened old.client) past) (client_at_greeting p.client.stage p.client)) h.target
          (connected_unseen place p.session.job shown old.client past (client_at_greeting p.client.stage p.client) (subst (λ (x : JobTarget). ClientRefines place x p.session.job shown (protocol_of old.client past) (client_at_greeting p.client.stage p.client)) (sym h.target) h.reads));
      idle = h.idle;
      begun = h.begun;
      files = let f = h.files in files_same (is_laid job.task old.client.outcome past) past pages old f;
      finished = h.finished;
      alone = h.alone;
      done = h.done;
    }
  where
    files_same : (b : Bool) (past : JoinHistory) (pages : List JoinHistory) (old : Endpoint) → KeepsFiles b past pages old → KeepsFiles b past pages (endpoints.with_image_link (after_move old))
    files_same true past pages old f = record { file = f.file; each = f.each; count = f.count; room = f.room }
    files_same false past pages old f = record { file = f.file; each = f.each; count = f.count; room = f.room }

carries_dialled : (x : Wires) (core : Core) (id : SessionId) (old : Endpoint) → WiresMatch x (slot_of_link core (Some id)) old → WiresMatch (wires_with_image (Some []) x) (slot_of_link (on_core after_connected core id.number) (Some id)) (endpoints.with_image_link (after_move old))
carries_dialled x core id old h =
    record {
      up = h.up;
      asking = input_on after_connected id.number core.slots ∙ h.asking;
      down = replies_on after_connected id.number core.slots ∙ h.down;
      telling = h.telling;
      image = refl;
    }

means_dialled : (place : DeviceInfo → ℕ) (job : Job) (x : Wires) (p : JobState) (old : Endpoint) → p.served ≡ true → p.due ≡ [] → IsImaging p.client.stage → IsNotDialled old.client.progress x.image p.session.flight p.session.ending → Means place job x p old → Means place job (wires_with_image (Some []) x) (dials_by p) (endpoints.with_image_link (after_move old))
means_dialled place job x p old served due is flow h =
    let w = wants_wanted old.client.progress old.client.phase flow.wants in
    record {
      linked = h.linked;
      before = h.before;
      over = h.over;
      calm = λ e. absurd (let clash : true ≡ false = sym served ∙ e in cc);
      image = λ _. refl;
      last = λ im e. let same : record { bytes = []; is_last = false } ≡ im = unsome _ im e in sym (ap (λ (y : Image). y.is_last) same) ∙ sym (ap is_some flow.ending_is);
      unended = flow.ending_is;
      first = h.first;
      up = h.up;
      down = λ u. told_nothing place old.client.progress (progress_connected old.client.progress) p.due (x.telling ++ x.down) due (h.down u);
      flow = flows_dialled p.client.stage (progress_connected old.client.progress) (phase_connected old.client.progress old.client.phase) p.session.flight p.session.ending is w.1 w.0 (carries_none p.session.flight p.session.ending flow.flight_is flow.ending_is);
      starved = h.starved;
    }

dialled_stands : (t : Ghost) (w : WorldCore) (i : ℕ) (p : Endpoint) (id : SessionId) → WorldRefines t w → slice_get w.endpoints i ≡ Some p → i < t.count → p.link ≡ Some id → IsSome (client.wanted_port p.client.progress) → world.frame_state_at w.daemon id.number ≡ frames.Waiting →
    GhostLeads events.DataConnect Dials t i (record { daemon = on_core after_connected w.daemon id.number; endpoints = slice_set w.endpoints i (endpoints.with_image_link (after_move p)) })
dialled_stands t w i p id h at low link some frame =
    let s = h.endpoints i p at in
    let me = t.system.job i in
    let place = place_of_info t.infos in
    let served = subst (λ (x : Option SessionId). IsServed i t.system.make w.daemon x me.served t.system.device (session_by i t.system.device me)) link s.served in
    let waits = waits_by i t.system.make w.daemon id me.served t.system.device me refl served frame in
    let is = wants_imaging place (t.jobs i) (t.history i) (t.pages i) me p s.exchanges some in
    let still = imaging_still i (make_for t.system i) me (device_for t.system i) me.client.stage (h.sound.exchanges i) is in
    let flow = flows_waiting me.client.stage me.session.transfer p.client.progress p.client.phase (t.wires i).image me.session.flight me.session.ending is waits.transfer s.means.flow in
    let bytes : Wires = wires_with_image (Some []) (t.wires i) in
    let steps = By i actions.Dials ∷ [] in
    let u : Ghost = wired_then t i steps bytes in
    let e = on_core after_connected w.daemon id.number in
    let q = endpoints.with_image_link (after_move p) in
    let after : JobState = dials_by me in
    let same = put_self t.system.device (wanted_place t.system i) (device_for t.system i) refl in
    let both = is_connected i t.system.make w.daemon id t.system.device u.system.device me after h.slots h.faithful same refl refl (sym (ap transfer_connected waits.transfer)) waits.shows in
    let job_state = one_party t i actions.Dials bytes (t.history i) (t.pages i) in
    done events.DataConnect Dials t i _ steps u (waits.transfer, is) (refl, record { legal = ((is, waits.transfer), tt); then_is = refl })
    (stands_change t u w i p q e h at (subst (λ (n : ℕ). i < n) h.is_of.count low) (record {
      told = one_change t i actions.Dials bytes (t.history i) (t.pages i);
      leaves = subst (λ (x : Option SessionId). Leaves i t.system.make x w.daemon e t.system.device u.system.device) (sym link) both.0;
      sound = sound_after_all t.system steps h.sound ((is, waits.transfer), tt);
      asks = held_after_all t.system steps h.sound h.asks ((is, waits.transfer), tt);
      shown = shown_after t w steps h;
      sits = sits_there u e i q after bytes (t.history i) (t.pages i) job_state (put_there t.wires i bytes) (put_there t.history i (t.history i)) (put_there t.pages i (t.pages i)) (record {
        job_is = s.job_is;
        exchanges = exchanges_dialled place (t.jobs i) (t.history i) (t.pages i) me p s.exchanges;
        carries = subst (λ (x : Option SessionId). WiresMatch bytes (slot_of_link e x) q) (sym link) (carries_dialled (t.wires i) w.daemon id p (subst (λ (x : Option SessionId). WiresMatch (t.wires i) (slot_of_link w.daemon x) p) link s.carries));
        means = means_dialled place (t.jobs i) (t.wires i) me p waits.served still.due is flow s.means;
        served =
            subst (λ (x : Option SessionId). IsServed i t.system.make e x me.served u.system.device (session_by i u.system.device after)) (sym link)
            (subst (λ (x : Bool). IsServed i t.system.make e (Some id) x u.system.device (session_by i u.system.device after)) (sym waits.served) both.1);
        speaks =
            subst (λ (x : Option SessionId). Speaks (t.jobs i).device after (session_in (slot_of_link e x))) (sym link)
            (speaks_still (t.jobs i).device me after (session_in (slot_of_link w.daemon (Some id))) (session_in (slot_of_link e (Some id))) refl refl (same_on after_connected same_connected id.number w.daemon.slots)
            (subst (λ (x : Option SessionId). Speaks (t.jobs i).device me (session_in (slot_of_link w.daemon x))) link s.speaks));
        waits = waits_connected p.client.progress me.todo s.waits;
        pends = pends_connected p.client.outcome p.client.progress p.client.phase (t.wires i) bytes s.pends.asking refl s.pends;
      });
      link = λ x is. inl is;
      replaces = replaces_on after_connected p.link w.daemon id.number;
      begun = subst (λ (x : JobState). AreStartedViews t.system.make x) (sym job_state) (h.begun i);
    }))

-- ---- the event

waiting_or : (f : FrameState) → (f ≡ frames.Waiting) ⊎ (f ≡ frames.Waiting → ⊥)
waiting_or frames.Quiet = inr (λ e. let clash : frames.Quiet ≡ frames.Waiting = e in absurd (cc))
waiting_or frames.Waiting = inl refl
waiting_or frames.Streaming = inr (λ e. let clash : frames.Streaming ≡ frames.Waiting = e in absurd (cc))
waiting_or frames.Ending = inr (λ e. let clash : frames.Ending ≡ frames.Waiting = e in absurd (cc))

frame_or : (core : Core) (link : Option SessionId) → world.IfLinked link (λ k. world.frame_state_at core k ≡ frames.Waiting) ⊎ (world.IfLinked link (λ k. world.frame_state_at core k ≡ frames.Waiting) → ⊥)
frame_or core None = inr (λ x. x)
frame_or core (Some id) = waiting_or (world.frame_state_at core id.number)

some_or : {X : Type 0} (o : Option X) → IsSome o ⊎ (IsSome o → ⊥)
some_or None = inr (λ x. let clash : false ≡ true = x in absurd (cc))
some_or (Some x) = inl refl

may_dial : (t : Ghost) (w : WorldCore) (i : ℕ) (p : Endpoint) → WorldRefines t w → slice_get w.endpoints i ≡ Some p → ((t.system.job i).session.transfer ≡ Waiting) × IsImaging (t.system.job i).client.stage → world.Can w.daemon p events.DataConnect
may_dial t w i p h at can =
    let s = h.endpoints i p at in
    let me = t.system.job i in
    let still = imaging_still i (make_for t.system i) me (device_for t.system i) me.client.stage (h.sound.exchanges i) can.1 in
    let flow = flows_waiting me.client.stage me.session.transfer p.client.progress p.client.phase (t.wires i).image me.session.flight me.session.ending can.1 can.0 s.means.flow in
    (flow.wants, frame_waits i t.system.make w.daemon p.link t.system.device me (subst (λ (x : Bool). IsServed i t.system.make w.daemon p.link x t.system.device (session_by i t.system.device me)) still.served s.served) can.0)

pub dial_decides : DecidesAt events.DataConnect Dials
dial_decides t w i p h at low =
    record {
      can = λ can. may_dial t w i p h at can;
      back = λ can. (waits_back p.link refl can.1, wants_imaging (place_of_info t.infos) (t.jobs i) (t.history i) (t.pages i) (t.system.job i) p (h.endpoints i p at).exchanges can.0);
      either = both_or (some_or (client.wanted_port p.client.progress)) (frame_or w.daemon p.link);
      does = λ can e q d. by_link t w i p p.link h at low refl can.0 can.1 e q d;
    }
  where
    waits_back : (link : Option SessionId) → p.link ≡ link → world.IfLinked link (λ k. world.frame_state_at w.daemon k ≡ frames.Waiting) → (t.system.job i).session.transfer ≡ Waiting
    waits_back None link frame = absurd frame
    waits_back (Some id) link frame =
        let me = t.system.job i in
        let served = subst (λ (x : Option SessionId). IsServed i t.system.make w.daemon x me.served t.system.device (session_by i t.system.device me)) link (h.endpoints i p at).served in
        (waits_by i t.system.make w.daemon id me.served t.system.device me refl served frame).transfer

    by_link : (t : Ghost) (w : WorldCore) (i : ℕ) (p : Endpoint) (link : Option SessionId) → WorldRefines t w → slice_get w.endpoints i ≡ Some p → i < t.count → p.link ≡ link → IsSome (client.wanted_port p.client.progress) → world.IfLinked p.link (λ k. world.frame_state_at w.daemon k ≡ frames.Waiting) →
        (e : Core) (q : Endpoint) → world.IfLinked p.link (λ k. (e ≡ record w.daemon { slots = on_session_slot (on_session after_connected) k w.daemon.slots }) × (q ≡ endpoints.with_image_link (after_move p))) → GhostLeads events.DataConnect Dials t i (record { daemon = e; endpoints = slice_set w.endpoints i q })
    by_link t w i p None h at low link some frame e q d = absurd (subst (λ (x : Option SessionId). world.IfLinked x (λ k. world.frame_state_at w.daemon k ≡ frames.Waiting)) link frame)
    by_link t w i p (Some id) h at low link some frame e q d =
        let waits : world.frame_state_at w.daemon id.number ≡ frames.Waiting = subst (λ (x : Option SessionId). world.IfLinked x (λ k. world.frame_state_at w.daemon k ≡ frames.Waiting)) link frame in
        let done : (e ≡ on_core after_connected w.daemon id.number) × (q ≡ endpoints.with_image_link (after_move p)) =
        subst (λ (x : Option SessionId). world.IfLinked x (λ k. (e ≡ record w.daemon { slots = on_session_slot (on_session after_connected) k w.daemon.slots }) × (q ≡ endpoints.with_image_link (after_move p)))) link d in
        subst (λ (x : Core). GhostLeads events.DataConnect Dials t i (record { daemon = x; endpoints = slice_set w.endpoints i q })) (sym done.0)
        (subst (λ (x : Endpoint). GhostLeads events.DataConnect Dials t i (record { daemon = on_core after_connected w.daemon id.number; endpoints = slice_set w.endpoints i x })) (sym done.1) (dialled_stands t w i p id h at low link some waits))
