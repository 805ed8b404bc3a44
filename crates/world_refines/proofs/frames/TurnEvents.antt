-- A turn of a job's data connection.
use Rattle.std.specs.Prelude.{is_some, option_map, IsSome}
use Rattle.std.proofs.Common.{◌≡◌, ◌⊎◌, inl, inr, ◌∙◌, ℕ, ◌<◌, List, [], ◌∷◌, ◌++◌, Option, Some, None, Bool, true, false, refl, sym, ap, subst, slice_get, slice_set}
use Rattle.sane_fixed.specs.declared.status.Status.{Status}
use Rattle.sane_fixed.specs.declared.status.Status.TheVariants as codes
use Rattle.sane_fixed.specs.Status.{status_code}
use Rattle.sane_fixed.specs.declared.device_info.DeviceInfo.{DeviceInfo}
use Rattle.data_records.specs.declared.records.RecordPhase.{RecordPhase}
use Rattle.frame_join.specs.FrameHistory.{JoinHistory}
use Rattle.saned_requests.specs.declared.session.DataPhase.{DataPhase as WordCarriage}
use Rattle.saned_requests.specs.declared.session.DataPhase.TheVariants as word
use Rattle.saned_core.specs.declared.session_slot.DataStep.{DataStep}
use Rattle.saned_core.specs.declared.session_slot.FrameState.{FrameState}
use Rattle.saned_core.specs.declared.session_slot.FrameState.TheVariants as frames
use Rattle.saned_core.specs.declared.session_slot.SessionId.{SessionId}
use Rattle.saned_core.specs.declared.session_slot.SessionSlot.{SessionSlot}
use Rattle.saned_core.specs.DaemonStates.{Core, after_lost, frame_in, frame_state_of, lost_from, on_session, on_session_slot, replies_in, session_slot_of, session_in}
use Rattle.saned_core.specs.Feeding.{core_context, input_in}
use Rattle.device_api.specs.State.{DeviceState}
use Rattle.saned_requests.specs.declared.session.Session.{Session as RequestSession}
use Rattle.saned_requests.specs.Holding.{held_by}
use Rattle.daemon_refines.proofs.Cores.{own_slot}
use Rattle.scan_job.specs.declared.job.Job.{Job}
use Rattle.client_replies.specs.declared.progress.Progress.{Progress}
use Rattle.system_model.specs.Causes.{Cause, IsCauseAmong, Names, NamesEof, SourceFailed, LinkOutOfMemory}
use Rattle.system_model.specs.Client as model
use Rattle.system_model.specs.Client.{Idle, JobStage}
use Rattle.system_model.specs.Daemon.{TransferState, FailureCounts, Quiet, Waiting, Streaming, Ending}
use Rattle.system_model.specs.Actions as actions
use Rattle.system_model.specs.Actions.{device_after, job_after_action}
use Rattle.system_model.specs.Devices.{Make}
use Rattle.system_model.specs.AbstractDevices.{AbstractDevice}
use Rattle.system_model.specs.SystemStates.{JobState, SystemState, listed_devices, make_for, with_entry, device_for}
use Rattle.system_model.specs.Transitions.{By, IsActionEnabled, Transition}
use Rattle.system_model.proofs.JobPromises.{sound_after_all}
use Rattle.daemon_refines.specs.Cores.{SessionRefines}
use Rattle.daemon_refines.specs.ContextRefinement.{TransferRefines}
use Rattle.daemon_refines.proofs.Moved.{put_there, unsome}
use Rattle.event_world.specs.declared.event.JobEvent.TheVariants as events
use Rattle.event_world.specs.declared.endpoint.Image.{Image}
use Rattle.event_world.specs.declared.endpoint.Endpoint.{Endpoint}
use Rattle.event_world.specs.Endpoints.{image_out_of_memory, after_move}
use Rattle.event_world.specs.JobEvents as world
use Rattle.event_world.specs.Worlds.{WorldCore}
use Rattle.world_refines.specs.GhostStates.{Ghost, Wires, place_of_info, wired_then}
use Rattle.world_refines.specs.Wires.{CarriesFlight, IsDialled, FlightMatches, FlowsAt}
use Rattle.world_refines.specs.WorldRefinement.{WiresMatch, HasNoEnd, IsServed, KeepsFiles, Means, WorldRefines, EndpointClientRefines, image_bytes, is_laid, slot_of_link, session_by, AreStartedViews}
use Rattle.world_refines.specs.GhostEvents.{GhostCan, GhostLeads, GhostTurns, wires_with_image, with_record}
use Rattle.world_refines.proofs.state.CoreCallsKeep.{on_core}
use Rattle.world_refines.proofs.job_events.Cancelling.{other_cause}
use Rattle.world_refines.proofs.state.Changing.{stands_change}
use Rattle.world_refines.proofs.frames.CutOff.{cut_stands, put_again, set_again, stands_retold}
use Rattle.world_refines.proofs.state.ListEntries.{set_there}
use Rattle.world_refines.proofs.frames.RecordLaws.{carries_end, carries_more}
use Rattle.world_refines.proofs.state.Sees.{Leaves}
use Rattle.world_refines.proofs.frames.Streamed.{IsFailedTurn, Streamed, streamed}
use Rattle.world_refines.proofs.requests.FailedRequests.{lease_named}
use Rattle.world_refines.specs.FailedSources.{FailedIn, FailsIn}
use Rattle.world_refines.specs.Speaks.{Speaks}
use Rattle.world_refines.proofs.state.Held.{held_after_all}
use Rattle.world_refines.proofs.state.ListedPlaces.{shown_after}
use Rattle.world_refines.proofs.state.Spoken.{speaks_still}
use Rattle.world_refines.proofs.state.Failing.{Counting, plain_decides}
use Rattle.world_refines.proofs.state.Taking.{DecidesAt, DecidesIn, done, one_change, one_party, sits_there}
use Rattle.world_refines.proofs.frames.Turned.{IsShortRecord, Turn, Failed, Gives, Named, Off, Short, Whole, carriage_after, action_of, device_is, ending_after, flight_after, is_end, job_after, met_after, party_is, record_of, text_of}
use Rattle.world_refines.proofs.frames.Unimaged.{both_or, by_imaging, bytes_some, none_some, some_bytes, some_or}
use Rattle.world_refines.proofs.state.WorldPending.{pends_same}

-- ---- what is on the way

carried_turned : (turn : Turn) (phase : RecordPhase) (text flight : List ℕ) → IsShortRecord turn → CarriesFlight phase text flight None → CarriesFlight phase (text ++ text_of turn) (flight_after turn flight) (ending_after turn None)
carried_turned (Gives bytes) phase text flight short c = carries_more phase text flight bytes short c
carried_turned Whole phase text flight short c = (codes.Eof, refl, carries_end phase text flight (status_code codes.Eof) c)
carried_turned (Named code) phase text flight short c = (code, refl, carries_end phase text flight (status_code code) c)
carried_turned Short phase text flight short c = (codes.Eof, refl, carries_end phase text flight (status_code codes.Eof) c)
carried_turned (Failed fault) phase text flight short c = (codes.IoError, refl, carries_end phase text flight (status_code codes.IoError) c)
carried_turned Off phase text flight short c = (codes.Cancelled, refl, carries_end phase text flight (status_code codes.Cancelled) c)

-- a frame that is streamed, or to be ended
abbrev pub Started : TransferState → Type 0
Started c = (c ≡ Streaming) ⊎ (c ≡ Ending)

to_dialled : (c : TransferState) (progress : Progress) (phase : RecordPhase) (image : Option (List ℕ)) (flight : List ℕ) (ending : Option Status) → Started c → FlowsAt c progress phase image flight ending → IsDialled progress phase image flight ending
to_dialled c progress phase image flight ending (inl e) h = subst (λ (x : TransferState). FlowsAt x progress phase image flight ending) e h
to_dialled c progress phase image flight ending (inr e) h = subst (λ (x : TransferState). FlowsAt x progress phase image flight ending) e h

from_dialled : (c : TransferState) (progress : Progress) (phase : RecordPhase) (image : Option (List ℕ)) (flight : List ℕ) (ending : Option Status) → Started c → IsDialled progress phase image flight ending → FlowsAt c progress phase image flight ending
from_dialled c progress phase image flight ending (inl e) h = subst (λ (x : TransferState). FlowsAt x progress phase image flight ending) (sym e) h
from_dialled c progress phase image flight ending (inr e) h = subst (λ (x : TransferState). FlowsAt x progress phase image flight ending) (sym e) h

at_turned : (turn : Turn) (c : TransferState) (progress : Progress) (phase : RecordPhase) (image : Option (List ℕ)) (flight : List ℕ) (ending : Option Status) → Started c → IsDialled progress phase image flight ending → FlowsAt (carriage_after turn c) progress phase image flight ending
at_turned (Gives bytes) c progress phase image flight ending started h = from_dialled c progress phase image flight ending started h
at_turned Whole c progress phase image flight ending started h = h
at_turned (Named code) c progress phase image flight ending started h = h
at_turned Short c progress phase image flight ending started h = h
at_turned (Failed fault) c progress phase image flight ending started h = h
at_turned Off c progress phase image flight ending started h = h

dialled_turned : (turn : Turn) (progress : Progress) (phase : RecordPhase) (image : Option (List ℕ)) (flight : List ℕ) (ending : Option Status) → IsShortRecord turn → ending ≡ None → IsDialled progress phase image flight ending →
    IsDialled progress phase (option_map (λ (bytes : List ℕ). bytes ++ text_of turn) image) (flight_after turn flight) (ending_after turn ending)
dialled_turned turn progress phase image flight ending short none h =
    record {
      wants = h.wants;
      text = h.text ++ text_of turn;
      image_is = ap (option_map (λ (bytes : List ℕ). bytes ++ text_of turn)) h.image_is;
      carried =
          subst (λ (x : Option Status). CarriesFlight phase (h.text ++ text_of turn) (flight_after turn flight) (ending_after turn x)) (sym none)
          (carried_turned turn phase h.text flight short (subst (λ (x : Option Status). CarriesFlight phase h.text flight x) none h.carried));
    }

flows_turned : (st : JobStage) (turn : Turn) (c : TransferState) (progress : Progress) (phase : RecordPhase) (image : Option (List ℕ)) (flight : List ℕ) (ending : Option Status) → IsShortRecord turn → Started c → ending ≡ None → IsSome image → FlightMatches st c progress phase image flight ending →
    FlightMatches st (carriage_after turn c) progress phase (option_map (λ (bytes : List ℕ). bytes ++ text_of turn) image) (flight_after turn flight) (ending_after turn ending)
flows_turned Idle turn c progress phase image flight ending short started none some h = absurd (none_some image h.image_is some)
flows_turned (model.Running g) turn c progress phase image flight ending short started none some h =
    let is = by_imaging g c progress phase image flight ending h some in
    let at : FlowsAt c progress phase image flight ending = subst (λ (x : JobStage). FlightMatches x c progress phase image flight ending) is.2 h in
    subst (λ (x : JobStage). FlightMatches x (carriage_after turn c) progress phase (option_map (λ (bytes : List ℕ). bytes ++ text_of turn) image) (flight_after turn flight) (ending_after turn ending)) (sym is.2)
    (at_turned turn c progress phase _ _ _ started (dialled_turned turn progress phase image flight ending short none (to_dialled c progress phase image flight ending started at)))
flows_turned model.Done turn c progress phase image flight ending short started none some h = tt
flows_turned (model.Ended status why) turn c progress phase image flight ending short started none some h = tt

-- ---- what is meant by it

no_ending : (c : TransferState) (ending : Option Status) → Started c → HasNoEnd c ending → ending ≡ None
no_ending c ending (inl e) h = subst (λ (x : TransferState). HasNoEnd x ending) e h
no_ending c ending (inr e) h = subst (λ (x : TransferState). HasNoEnd x ending) e h

last_turned : (turn : Turn) (ending : Option Status) → ending ≡ None → is_end turn ≡ is_some (ending_after turn ending)
last_turned (Gives bytes) ending none = sym (ap is_some none)
last_turned Whole ending none = refl
last_turned (Named code) ending none = refl
last_turned Short ending none = refl
last_turned (Failed fault) ending none = refl
last_turned Off ending none = refl

unended_turned : (turn : Turn) (c : TransferState) (ending : Option Status) → HasNoEnd c ending → HasNoEnd (carriage_after turn c) (ending_after turn ending)
unended_turned (Gives bytes) c ending h = h
unended_turned Whole c ending h = tt
unended_turned (Named code) c ending h = tt
unended_turned Short c ending h = tt
unended_turned (Failed fault) c ending h = tt
unended_turned Off c ending h = tt

starved_turned : (turn : Turn) (met : List Cause) → IsCauseAmong LinkOutOfMemory (met_after turn met) → IsCauseAmong LinkOutOfMemory met
starved_turned (Gives bytes) met h = h
starved_turned Whole met h = h
starved_turned (Named code) met h = other_cause LinkOutOfMemory (Names _) met (λ e. absurd (cc)) h
starved_turned Short met h = other_cause LinkOutOfMemory NamesEof met (λ e. absurd (cc)) h
starved_turned (Failed fault) met h = other_cause LinkOutOfMemory SourceFailed met (λ e. absurd (cc)) h
starved_turned Off met h = h

some_record : (o : Option (List ℕ)) (text : List ℕ) → IsSome o → IsSome (option_map (λ (bytes : List ℕ). bytes ++ text) o)
some_record None text h = h
some_record (Some bytes) text h = refl

-- the endpoint with the record
abbrev gained : Turn → Image → Endpoint → Endpoint
gained turn im p = world.with_image (world.with_data_record (text_of turn) (is_end turn) im) (after_move p)

exchanges_turned : (turn : Turn) (im : Image) (place : DeviceInfo → ℕ) (job : Job) (past : JoinHistory) (pages : List JoinHistory) (p : JobState) (old : Endpoint) → EndpointClientRefines place job past pages p old → EndpointClientRefines place job past pages (job_after turn p) (gained turn im old)
exchanges_turned turn im place job past pages p old h =
    record {
      task = h.task;
      target = h.target;
      word = h.word;
      over = h.over;
      serves = h.serves;
      reads = h.reads;
      idle = h.idle;
      begun = h.begun;
      files = files_same (is_laid job.task old.client.outcome past) past pages old h.files;
      finished = h.finished;
      alone = h.alone;
      done = h.done;
    }
  where
    files_same : (b : Bool) (past : JoinHistory) (pages : List JoinHistory) (old : Endpoint) → KeepsFiles b past pages old → KeepsFiles b past pages (gained turn im old)
    files_same true past pages old f = record { file = f.file; each = f.each; count = f.count; room = f.room }
    files_same false past pages old f = record { file = f.file; each = f.each; count = f.count; room = f.room }

carries_turned : (turn : Turn) (im : Image) (x : Wires) (d e : Core) (id : SessionId) (old : Endpoint) → old.image ≡ Some im → input_in (session_slot_of e.slots id.number) ≡ input_in (session_slot_of d.slots id.number) → replies_in (session_slot_of e.slots id.number) ≡ replies_in (session_slot_of d.slots id.number) → WiresMatch x (slot_of_link d (Some id)) old →
    WiresMatch (with_record (text_of turn) x) (slot_of_link e (Some id)) (gained turn im old)
carries_turned turn im x d e id old is input replies h =
    let now : Some im.bytes ≡ x.image = sym (ap (option_map image_bytes) is) ∙ h.image in
    record {
      up = h.up;
      asking = input ∙ h.asking;
      down = replies ∙ h.down;
      telling = h.telling;
      image = ap (option_map (λ (bytes : List ℕ). bytes ++ text_of turn)) now;
    }

means_turned : (turn : Turn) (im : Image) (place : DeviceInfo → ℕ) (job : Job) (x : Wires) (p : JobState) (old : Endpoint) → p.served ≡ true → Started p.session.transfer → IsShortRecord turn → IsSome x.image → Means place job x p old → Means place job (with_record (text_of turn) x) (job_after turn p) (gained turn im old)
means_turned turn im place job x p old served started short some h =
    let none = no_ending p.session.transfer p.session.ending started h.unended in
    record {
      linked = h.linked;
      before = h.before;
      over = h.over;
      calm = λ e. absurd (let clash : true ≡ false = sym served ∙ e in cc);
      image = λ _. h.image some;
      last = λ y e. let same : world.with_data_record (text_of turn) (is_end turn) im ≡ y = unsome _ y e in sym (ap (λ (z : Image). z.is_last) same) ∙ last_turned turn p.session.ending none;
      unended = unended_turned turn p.session.transfer p.session.ending h.unended;
      first = h.first;
      up = h.up;
      down = h.down;
      flow = flows_turned p.client.stage turn p.session.transfer old.client.progress old.client.phase x.image p.session.flight p.session.ending short started none some h.flow;
      starved = λ met. h.starved (starved_turned turn p.session.met met);
    }

-- ---- the turn, and its record on the connection

abbrev turn_steps : ℕ → Turn → List Transition
turn_steps i turn = By i (action_of turn) ∷ []

abbrev told_turn : Ghost → ℕ → Turn → Ghost
told_turn t i turn = wired_then t i (turn_steps i turn) (with_record (text_of turn) (t.wires i))

turned_party : (t : Ghost) (i : ℕ) (turn : Turn) → (told_turn t i turn).system.job i ≡ job_after turn (t.system.job i)
turned_party t i turn = one_party t i (action_of turn) (with_record (text_of turn) (t.wires i)) (t.history i) (t.pages i) ∙ party_is turn i (make_for t.system i) (listed_devices t.system) (t.system.job i) (device_for t.system i)

turned_stands : (t : Ghost) (w : WorldCore) (i : ℕ) (p : Endpoint) (id : SessionId) (im : Image) (mid : Core) (step : DataStep) (buf : List ℕ) → WorldRefines t w → slice_get w.endpoints i ≡ Some p → i < t.count → p.link ≡ Some id → p.image ≡ Some im → (t.system.job i).served ≡ true → Started (t.system.job i).session.transfer → IsSome (t.wires i).image →
    (s : Streamed i t.system.make w.daemon mid id t.system.device (t.system.job i) step buf) → WorldRefines (told_turn t i s.turn) (record { daemon = mid; endpoints = slice_set w.endpoints i (gained s.turn im p) })
turned_stands t w i p id im mid step buf h at low link image served started some turned =
    let s = h.endpoints i p at in
    let me = t.system.job i in
    let turn = turned.turn in
    let place = place_of_info t.infos in
    let bytes : Wires = with_record (text_of turn) (t.wires i) in
    let u : Ghost = told_turn t i turn in
    let q = gained turn im p in
    let after : JobState = job_after turn me in
    let device = sym (device_is turn i (make_for t.system i) (listed_devices t.system) me (device_for t.system i)) in
    let leaves : Leaves i t.system.make (Some id) w.daemon mid t.system.device u.system.device = subst (λ (x : AbstractDevice). Leaves i t.system.make (Some id) w.daemon mid t.system.device (with_entry t.system.device me.session.job.wants x)) device turned.leaves in
    let shows : SessionRefines i t.system.make mid id.number u.system.device (session_by i u.system.device after) =
    subst (λ (x : AbstractDevice). SessionRefines i t.system.make mid id.number (with_entry t.system.device me.session.job.wants x) (session_by i (with_entry t.system.device me.session.job.wants x) after)) device turned.shows in
    let job_state = turned_party t i turn in
    stands_change t u w i p q mid h at (subst (λ (n : ℕ). i < n) h.is_of.count low) (record {
      told = one_change t i (action_of turn) bytes (t.history i) (t.pages i);
      leaves = subst (λ (x : Option SessionId). Leaves i t.system.make x w.daemon mid t.system.device u.system.device) (sym link) leaves;
      sound = sound_after_all t.system (turn_steps i turn) h.sound (turned.may, tt);
      asks = held_after_all t.system (turn_steps i turn) h.sound h.asks (turned.may, tt);
      shown = shown_after t w (turn_steps i turn) h;
      sits = sits_there u mid i q after bytes (t.history i) (t.pages i) job_state (put_there t.wires i bytes) (put_there t.history i (t.history i)) (put_there t.pages i (t.pages i)) (record {
        job_is = s.job_is;
        exchanges = exchanges_turned turn im place (t.jobs i) (t.history i) (t.pages i) me p s.exchanges;
        carries =
            subst (λ (x : Option SessionId). WiresMatch bytes (slot_of_link mid x) q) (sym link)
            (carries_turned turn im (t.wires i) w.daemon mid id p image turned.input turned.replies (subst (λ (x : Option SessionId). WiresMatch (t.wires i) (slot_of_link w.daemon x) p) link s.carries));
        means = means_turned turn im place (t.jobs i) (t.wires i) me p served started turned.short some s.means;
        served =
            subst (λ (x : Option SessionId). IsServed i t.system.make mid x me.served u.system.device (session_by i u.system.device after)) (sym link)
            (subst (λ (x : Bool). IsServed i t.system.make mid (Some id) x u.system.device (session_by i u.system.device after)) (sym served) shows);
        speaks =
            subst (λ (x : Option SessionId). Speaks (t.jobs i).device after (session_in (slot_of_link mid x))) (sym link)
            (speaks_still (t.jobs i).device me after (session_in (slot_of_link w.daemon (Some id))) (session_in (slot_of_link mid (Some id))) refl refl turned.same
            (subst (λ (x : Option SessionId). Speaks (t.jobs i).device me (session_in (slot_of_link w.daemon x))) link s.speaks));
        waits = s.waits;
        pends = pends_same p.client.outcome p.client.progress p.client.phase (t.wires i) bytes s.pends.asking refl s.pends;
      });
      link = λ x is. inl is;
      replaces = turned.replaces p.link;
      begun = subst (λ (x : JobState). AreStartedViews t.system.make x) (sym job_state) (h.begun i);
    })

-- ---- there is no memory for the record

abbrev cut_steps : ℕ → Turn → List Transition
cut_steps i turn = By i (action_of turn) ∷ By i (actions.LosesImage true) ∷ []

abbrev told_cut : Ghost → ℕ → Turn → Ghost
told_cut t i turn = wired_then t i (cut_steps i turn) (wires_with_image None (t.wires i))

cut_turned : (t : Ghost) (w : WorldCore) (i : ℕ) (p : Endpoint) (id : SessionId) (im : Image) (mid : Core) (turn : Turn) → slice_get w.endpoints i ≡ Some p → i < t.count → p.link ≡ Some id → IsSome (t.wires i).image → WorldRefines (told_turn t i turn) (record { daemon = mid; endpoints = slice_set w.endpoints i (gained turn im p) }) →
    WorldRefines (told_cut t i turn) (record { daemon = world.image_lost id.number mid; endpoints = slice_set w.endpoints i (image_out_of_memory (after_move p)) })
cut_turned t w i p id im mid turn at low link some h =
    let q = gained turn im p in
    let u : Ghost = told_turn t i turn in
    let bytes = with_record (text_of turn) (t.wires i) in
    let wires : u.wires i ≡ bytes = put_there t.wires i bytes in
    let has : IsSome (u.wires i).image = subst (λ (x : Wires). IsSome x.image) (sym wires) (some_record (t.wires i).image (text_of turn) some) in
    let stands = cut_stands u (record { daemon = mid; endpoints = slice_set w.endpoints i q }) i q id h (set_there w.endpoints i q p at) low link has in
    let v : Ghost = wired_then u i (By i (actions.LosesImage true) ∷ []) (wires_with_image None (u.wires i)) in
    let now : Ghost = told_cut t i turn in
    let endpoints = set_again w.endpoints i q (image_out_of_memory q) in
    let again = stands_retold v (record { daemon = on_core after_lost mid id.number; endpoints = slice_set (slice_set w.endpoints i q) i (image_out_of_memory q) }) now.wires now.history now.pages
    (put_again t.wires i bytes (wires_with_image None (u.wires i)) (wires_with_image None (t.wires i)) (sym (ap (wires_with_image None) wires)))
    (put_again t.history i (t.history i) (u.history i) (t.history i) (sym (put_there t.history i (t.history i))))
    (put_again t.pages i (t.pages i) (u.pages i) (t.pages i) (sym (put_there t.pages i (t.pages i)))) stands in
    subst (λ (x : List Endpoint). WorldRefines now (record { daemon = on_core after_lost mid id.number; endpoints = x })) endpoints again

-- ---- the event

flows_carried : (wc : WordCarriage) (c : TransferState) (framed : ℕ) → TransferRefines wc c framed → Started c → world.IsFlowing (frame_state_of wc)
flows_carried word.Quiet c framed h (inl e) = absurd (let clash : Quiet ≡ Streaming = sym h ∙ e in cc)
flows_carried word.Quiet c framed h (inr e) = absurd (let clash : Quiet ≡ Ending = sym h ∙ e in cc)
flows_carried (word.Waiting w) c framed h (inl e) = absurd (let clash : Waiting ≡ Streaming = sym h.0 ∙ e in cc)
flows_carried (word.Waiting w) c framed h (inr e) = absurd (let clash : Waiting ≡ Ending = sym h.0 ∙ e in cc)
flows_carried (word.Streaming w) c framed h s = tt
flows_carried word.Ending c framed h s = tt

carried_flows : (wc : WordCarriage) (c : TransferState) (framed : ℕ) → TransferRefines wc c framed → world.IsFlowing (frame_state_of wc) → Started c
carried_flows word.Quiet c framed h f = absurd f
carried_flows (word.Waiting w) c framed h f = absurd f
carried_flows (word.Streaming w) c framed h f = inl h.0
carried_flows word.Ending c framed h f = inr h

-- what flows is the frame of a session that goes on
pub record IsStarted (i : ℕ) (make : ℕ → Make) (core : Core) (id : SessionId) (device : ℕ → AbstractDevice) (p : JobState) : Type 0 where
  pub served : p.served ≡ true
  pub started : Started p.session.transfer
  pub shows : SessionRefines i make core id.number device (session_by i device p)

pub started_by : (i : ℕ) (make : ℕ → Make) (core : Core) (id : SessionId) (served : Bool) (device : ℕ → AbstractDevice) (p : JobState) → p.served ≡ served → IsServed i make core (Some id) served device (session_by i device p) → world.IsFlowing (world.frame_state_at core id.number) → IsStarted i make core id device p
started_by i make core id true device p is h f =
    record {
      served = is;
      started = carried_flows h.session.transfer p.session.transfer 0 h.shows.transfer (subst (λ (x : FrameState). world.IsFlowing x) (ap frame_in h.stands) f);
      shows = h;
    }
started_by i make core id false device p is h f = absurd (subst (λ (x : FrameState). world.IsFlowing x) (ap frame_in h.0) f)

frame_flows : (i : ℕ) (make : ℕ → Make) (core : Core) (link : Option SessionId) (device : ℕ → AbstractDevice) (p : JobState) → IsServed i make core link true device (session_by i device p) → Started p.session.transfer → world.IfLinked link (λ k. world.IsFlowing (world.frame_state_at core k))
frame_flows i make core None device p h s = absurd h
frame_flows i make core (Some id) device p h s = subst (λ (x : FrameState). world.IsFlowing x) (sym (ap frame_in h.stands)) (flows_carried h.session.transfer p.session.transfer 0 h.shows.transfer s)

not_quiet : (c : TransferState) → Started c → c ≡ Quiet → ⊥
not_quiet c (inl e) q = let clash : Quiet ≡ Streaming = sym q ∙ e in absurd (cc)
not_quiet c (inr e) q = let clash : Quiet ≡ Ending = sym q ∙ e in absurd (cc)

is_served : (b c : Bool) → b ≡ c → (b ≡ false → ⊥) → b ≡ true
is_served b true e n = e
is_served b false e n = absurd (n e)

may_turn : (t : Ghost) (w : WorldCore) (i : ℕ) (p : Endpoint) → WorldRefines t w → slice_get w.endpoints i ≡ Some p → GhostCan t i events.DataTurn → world.Can w.daemon p events.DataTurn
may_turn t w i p h at can =
    let s = h.endpoints i p at in
    let me = t.system.job i in
    let served : me.served ≡ true = is_served me.served me.served refl (λ e. not_quiet me.session.transfer can.1 (s.means.calm e)) in
    (bytes_some p.image (subst IsSome (sym s.carries.image) can.0), frame_flows i t.system.make w.daemon p.link t.system.device me (subst (λ (x : Bool). IsServed i t.system.make w.daemon p.link x t.system.device (session_by i t.system.device me)) served s.served) can.1)

flowing_or : (f : FrameState) → world.IsFlowing f ⊎ (world.IsFlowing f → ⊥)
flowing_or frames.Quiet = inr (λ x. x)
flowing_or frames.Waiting = inr (λ x. x)
flowing_or frames.Streaming = inl tt
flowing_or frames.Ending = inl tt

flows_or : (core : Core) (link : Option SessionId) → world.IfLinked link (λ k. world.IsFlowing (world.frame_state_at core k)) ⊎ (world.IfLinked link (λ k. world.IsFlowing (world.frame_state_at core k)) → ⊥)
flows_or core None = inr (λ x. x)
flows_or core (Some id) = flowing_or (world.frame_state_at core id.number)

-- the bytes of a connection that stands
the_image : (o : Option Image) → IsSome o → (im : Image) × (o ≡ Some im)
the_image None h = absurd (let clash : false ≡ true = h in cc)
the_image (Some im) h = (im, refl)

-- ---- a source that fails in it

-- a session that reads nothing is left as it is by the loss of its data connection
lost_stands : (slots : List (Option (SessionSlot DeviceState))) (n : ℕ) (session : RequestSession DeviceState) (o : Option (SessionSlot DeviceState)) → session_slot_of slots n ≡ o → session_in o ≡ Some session → session.transfer ≡ word.Quiet → session_in (session_slot_of (on_session_slot (on_session after_lost) n slots) n) ≡ Some session
lost_stands slots n session None e is quiet = absurd (let clash : None ≡ Some session = is in cc)
lost_stands slots n session (Some slot) e is quiet =
    ap session_in (own_slot (on_session after_lost) n slots slot (record slot { session = option_map after_lost slot.session }) e refl refl)
    ∙ (ap (option_map after_lost) is ∙ ap (λ (c : WordCarriage). Some (lost_from c session)) quiet)

turn_failed : (t : Ghost) (w : WorldCore) (i : ℕ) (p : Endpoint) (id : SessionId) (mid : Core) (fault : FailureCounts) → WorldRefines t w → slice_get w.endpoints i ≡ Some p → p.link ≡ Some id → SessionRefines i t.system.make w.daemon id.number t.system.device (session_by i t.system.device (t.system.job i)) →
    IsFailedTurn w.daemon mid id.number fault → FailedIn w mid i (t.jobs i).device × FailedIn w (world.image_lost id.number mid) i (t.jobs i).device
turn_failed t w i p id mid fault h at link shows f =
    (by_core mid f.stands, by_core (world.image_lost id.number mid) (lost_stands mid.slots id.number f.new (session_slot_of mid.slots id.number) refl f.stands f.over))
  where
    by_core : (core : Core) → session_in (session_slot_of core.slots id.number) ≡ Some f.new → FailedIn w core i (t.jobs i).device
    by_core core stands =
        let l = f.failed.lease in
        let same : f.old ≡ shows.session = unsome f.old shows.session (sym f.stood ∙ shows.stands) in
        let held : held_by shows.session.held f.device_word ≡ Some l = subst (λ (x : RequestSession DeviceState). held_by x.held f.device_word ≡ Some l) same f.failed.stood in
        record {
          endpoint = p;
          is_there = at;
          id = id;
          linked = link;
          word = f.device_word;
          lease = l;
          held = record { session = f.old; stands = f.stood; held = f.failed.stood };
          named = lease_named i t.system.make t.users t.infos (t.jobs i) (core_context w.daemon shows.session) t.system.device (t.system.job i) f.device_word l (h.endpoints i p at).job_is h.is_of.infos shows.shows held;
          after = f.failed.after;
          stopped = f.failed.failed.stopped;
          amid = f.failed.failed.left;
          left = inl (record { session = f.new; stands = stands; held = f.failed.stands });
        }

turn_fails : (t : Ghost) (w : WorldCore) (i : ℕ) (core : Core) (s : SystemState) (turn : Turn) → ((fault : FailureCounts) → turn ≡ Failed fault → FailedIn w core i (t.jobs i).device) → FailsIn t w core s (By i (action_of turn))
turn_fails t w i core s (Gives bytes) h = tt
turn_fails t w i core s Whole h = tt
turn_fails t w i core s (Named code) h = tt
turn_fails t w i core s Short h = tt
turn_fails t w i core s (Failed fault) h = h fault refl
turn_fails t w i core s Off h = tt

turn_leads : (t : Ghost) (w : WorldCore) (i : ℕ) (p : Endpoint) (id : SessionId) → WorldRefines t w → slice_get w.endpoints i ≡ Some p → i < t.count → p.link ≡ Some id → IsSome p.image → world.IsFlowing (world.frame_state_at w.daemon id.number) → (e : Core) (q : Endpoint) → world.TakesTurn id.number w.daemon p e q →
    GhostLeads events.DataTurn (Counting GhostTurns w e) t i (record { daemon = e; endpoints = slice_set w.endpoints i q })
turn_leads t w i p id h at low link some flows e q d =
    let s = h.endpoints i p at in
    let me = t.system.job i in
    let served = subst (λ (x : Option SessionId). IsServed i t.system.make w.daemon x me.served t.system.device (session_by i t.system.device me)) link s.served in
    let is = started_by i t.system.make w.daemon id me.served t.system.device me refl served flows in
    let has : IsSome (t.wires i).image = subst IsSome s.carries.image (some_bytes p.image some) in
    let turned = streamed i t.system.make (listed_devices t.system) w.daemon d.mid id t.system.device me d.step d.buf h.slots h.faithful is.shows flows d.turns in
    let stands : (im : Image) → p.image ≡ Some im → WorldRefines (told_turn t i turned.turn) (record { daemon = d.mid; endpoints = slice_set w.endpoints i (gained turned.turn im p) }) = λ im image.
    turned_stands t w i p id im d.mid d.step d.buf h at low link image is.served is.started has turned in
    by_sent t w i p id d.mid turned.turn at low link some has is.started (λ im image. stands im image) turned.may (s.means.image has) (λ fault f. turn_failed t w i p id d.mid fault h at link is.shows (turned.fails fault f)) e q (turned.sends id.number d.mid p e q d.sends)
  where
    by_sent : (t : Ghost) (w : WorldCore) (i : ℕ) (p : Endpoint) (id : SessionId) (mid : Core) (turn : Turn) → slice_get w.endpoints i ≡ Some p → i < t.count → p.link ≡ Some id → IsSome p.image → IsSome (t.wires i).image → Started (t.system.job i).session.transfer →
        ((im : Image) → p.image ≡ Some im → WorldRefines (told_turn t i turn) (record { daemon = mid; endpoints = slice_set w.endpoints i (gained turn im p) })) → IsActionEnabled i (make_for t.system i) (t.system.job i) (device_for t.system i) (action_of turn) → (t.system.job i).image ≡ true → ((fault : FailureCounts) → turn ≡ Failed fault → FailedIn w mid i (t.jobs i).device × FailedIn w (world.image_lost id.number mid) i (t.jobs i).device) →
        (e : Core) (q : Endpoint) → world.SendsRecord id.number (text_of turn) (is_end turn) mid p e q → GhostLeads events.DataTurn (Counting GhostTurns w e) t i (record { daemon = e; endpoints = slice_set w.endpoints i q })
    by_sent t w i p id mid turn at low link some has started stands may dialled fails e q (inl sent) =
        subst (λ (x : Core). GhostLeads events.DataTurn (Counting GhostTurns w x) t i (record { daemon = x; endpoints = slice_set w.endpoints i q })) (sym sent.2)
        (subst (λ (x : Endpoint). GhostLeads events.DataTurn (Counting GhostTurns w mid) t i (record { daemon = mid; endpoints = slice_set w.endpoints i x })) (sym sent.3)
        (done events.DataTurn (Counting GhostTurns w mid) t i _ (turn_steps i turn) (told_turn t i turn) (has, started)
        (record { action = action_of turn; text = text_of turn; is = record_of turn; sends = inl (refl, record { legal = (may, tt); then_is = refl }) }, (turn_fails t w i mid t.system turn (λ fault is. (fails fault is).0), tt)) (stands sent.0 sent.1)))
    by_sent t w i p id mid turn at low link some has started stands may dialled fails e q (inr lost) =
        let im = the_image p.image some in
        let image : (told_turn t i turn).system.job i ≡ job_after turn (t.system.job i) = turned_party t i turn in
        let may_lose = ap (λ (x : JobState). x.image) image ∙ dialled in
        subst (λ (x : Core). GhostLeads events.DataTurn (Counting GhostTurns w x) t i (record { daemon = x; endpoints = slice_set w.endpoints i q })) (sym lost.0)
        (subst (λ (x : Endpoint). GhostLeads events.DataTurn (Counting GhostTurns w (world.image_lost id.number mid)) t i (record { daemon = world.image_lost id.number mid; endpoints = slice_set w.endpoints i x })) (sym lost.1)
        (done events.DataTurn (Counting GhostTurns w (world.image_lost id.number mid)) t i _ (cut_steps i turn) (told_cut t i turn) (has, started)
        (record { action = action_of turn; text = text_of turn; is = record_of turn; sends = inr (refl, record { legal = (may, (may_lose, tt)); then_is = refl }) }, (turn_fails t w i (world.image_lost id.number mid) t.system turn (λ fault is. (fails fault is).1), (tt, tt))) (cut_turned t w i p id im.0 mid turn at low link has (stands im.0 im.1))))

pub turn_counts : DecidesIn events.DataTurn (Counting GhostTurns)
turn_counts t w i p h at low =
    record {
      can = λ can. may_turn t w i p h at can;
      back = λ can. (subst IsSome (h.endpoints i p at).carries.image (some_bytes p.image can.0), started_back p.link refl can.1);
      either = both_or (some_or p.image) (flows_or w.daemon p.link);
      does = λ can e q d. by_link t w i p p.link h at low refl can.0 can.1 e q d;
    }
  where
    started_back : (link : Option SessionId) → p.link ≡ link → world.IfLinked link (λ k. world.IsFlowing (world.frame_state_at w.daemon k)) → Started (t.system.job i).session.transfer
    started_back None link flows = absurd flows
    started_back (Some id) link flows =
        let me = t.system.job i in
        let served = subst (λ (x : Option SessionId). IsServed i t.system.make w.daemon x me.served t.system.device (session_by i t.system.device me)) link (h.endpoints i p at).served in
        (started_by i t.system.make w.daemon id me.served t.system.device me refl served flows).started

    by_link : (t : Ghost) (w : WorldCore) (i : ℕ) (p : Endpoint) (link : Option SessionId) → WorldRefines t w → slice_get w.endpoints i ≡ Some p → i < t.count → p.link ≡ link → IsSome p.image → world.IfLinked p.link (λ k. world.IsFlowing (world.frame_state_at w.daemon k)) →
        (e : Core) (q : Endpoint) → world.IfLinked p.link (λ k. world.TakesTurn k w.daemon p e q) → GhostLeads events.DataTurn (Counting GhostTurns w e) t i (record { daemon = e; endpoints = slice_set w.endpoints i q })
    by_link t w i p None h at low link some flows e q d = absurd (subst (λ (x : Option SessionId). world.IfLinked x (λ k. world.IsFlowing (world.frame_state_at w.daemon k))) link flows)
    by_link t w i p (Some id) h at low link some flows e q d =
        turn_leads t w i p id h at low link some (subst (λ (x : Option SessionId). world.IfLinked x (λ k. world.IsFlowing (world.frame_state_at w.daemon k))) link flows) e q (subst (λ (x : Option SessionId). world.IfLinked x (λ k. world.TakesTurn k w.daemon p e q)) link d)

pub turn_decides : DecidesAt events.DataTurn GhostTurns
turn_decides = plain_decides events.DataTurn GhostTurns turn_counts
