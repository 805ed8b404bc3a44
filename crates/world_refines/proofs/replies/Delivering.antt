-- Replies that are delivered to the client of a job.
use Rattle.std.specs.Prelude.{IsSome, option_map}
use Rattle.std.specs.List.{AllByRecursion}
use Rattle.std.proofs.Common.{◌≡◌, ◌≢◌, ◌⊎◌, inl, inr, ◌∙◌, ℕ, ◌<◌, List, [], ◌∷◌, ◌++◌, Option, Some, None, Bool, true, refl, sym, ap, subst, slice_get, slice_set}
use Rattle.sane_fixed.specs.declared.status.Status.{Status}
use Rattle.page_picture.specs.Page.{IsPageView}
use Rattle.sane_fixed.specs.declared.device_info.DeviceInfo.{DeviceInfo}
use Rattle.device_api.specs.State.{DeviceState}
use Rattle.data_records.specs.declared.records.RecordPhase.{RecordPhase}
use Rattle.frame_join.specs.FrameHistory.{JoinHistory}
use Rattle.saned_requests.specs.declared.session.Session.{Session as RequestSession}
use Rattle.saned_core.specs.declared.session_slot.SessionId.{SessionId}
use Rattle.saned_core.specs.DaemonStates.{replies_of, session_slot_of, session_in}
use Rattle.saned_core.specs.Feeding.{input_in}
use Rattle.client_replies.specs.declared.progress.Progress.{Progress}
use Rattle.client_replies.specs.ProtocolStates.{ProtocolState, target_of, is_batch, is_imaging, is_running}
use Rattle.client_replies.specs.ProtocolStates as client
use Rattle.system_model.specs.AbstractMessages.{AbstractReply, AbstractRequest}
use Rattle.system_model.specs.Client as model
use Rattle.system_model.specs.Client.{Done, Ended, Idle, ClientView, Running, JobStage, request_awaited, requests_sent}
use Rattle.system_model.specs.ClientReplies.{hear_in}
use Rattle.system_model.specs.Daemon.{TransferState, Waiting, Streaming}
use Rattle.system_model.specs.Devices.{Make}
use Rattle.system_model.specs.AbstractDevices.{Begin, AbstractDevice}
use Rattle.system_model.specs.SystemStates.{SessionView, JobState, make_for, device_for}
use Rattle.system_model.specs.Invariants as sound
use Rattle.system_model.specs.Sync as sync
use Rattle.system_model.specs.Transitions.{IsImaging, IsRunning, IsUnderWay, Transition}
use Rattle.system_model.proofs.JobPromises.{sound_after_all}
use Rattle.daemon_refines.proofs.Moved.{put_there}
use Rattle.event_world.specs.declared.endpoint.Image.{Image}
use Rattle.event_world.specs.declared.endpoint.Endpoint.{Endpoint}
use Rattle.event_world.specs.JobEvents as world
use Rattle.event_world.specs.JobEvents.{is_done, bytes_not_delivered, delivered_bytes}
use Rattle.event_world.specs.Worlds.{WorldCore}
use Rattle.world_refines.specs.GhostStates.{Ghost, Wires, place_of_info, ghost_after}
use Rattle.world_refines.specs.Wires.{SpellsAwaitedReply, FlightMatches, FlowsBy, NothingFlows, SpellsAsked, SpellsReplies}
use Rattle.world_refines.specs.WorldRefinement.{WiresMatch, IsServed, Means, WorldRefines, EndpointClientRefines, slot_of_link, session_by, AreStartedViews}
use Rattle.world_refines.specs.ClientDeliveries.{asking_left, wires_after_delivery}
use Rattle.world_refines.proofs.state.Changing.{stands_change}
use Rattle.world_refines.proofs.state.Held.{held_after_all}
use Rattle.world_refines.proofs.state.ListedPlaces.{shown_after}
use Rattle.world_refines.proofs.replies.Heeded.{nothing_said}
use Rattle.world_refines.proofs.state.EndpointSlots.{Replaces}
use Rattle.world_refines.proofs.state.Sees.{Leaves}
use Rattle.world_refines.proofs.state.Spoken.{AreSame, same_as, speaks_more}
use Rattle.world_refines.proofs.state.Stepping.{StepsTo}
use Rattle.world_refines.proofs.state.Taking.{sits_there}
use Rattle.world_refines.proofs.replies.TakenOff.{leaves_taken, replaces_taken, served_some, served_taken, taken_input, taken_replies, taken_session}
use Rattle.world_refines.specs.Speaks.{WaitsQuietly}
use Rattle.world_refines.specs.WorldPending.{Pends}
use Rattle.world_refines.proofs.state.ListEntries.{nil_both}

-- ---- all of the change

-- the steps leave alone of the job what its session is by the model
pub record Keeps (p q : JobState) : Type 0 where
  pub served : q.served ≡ p.served
  pub job : q.session.job ≡ p.session.job
  pub started : q.session.started ≡ p.session.started
  pub session : (i : ℕ) (device : ℕ → AbstractDevice) → session_by i device q ≡ session_by i device p
  -- and it asks for more at most
  pub more : List AbstractRequest
  pub todo : q.todo ≡ p.todo ++ more
  pub awaited : q.session.awaited ≡ p.session.awaited

pub delivered_stands : (t : Ghost) (w : WorldCore) (i n : ℕ) (p q : Endpoint) (id : SessionId) (steps : List Transition) (x : Wires) (past : JoinHistory) (after : JobState) → WorldRefines t w → slice_get w.endpoints i ≡ Some p → i < t.count → p.link ≡ Some id → q.link ≡ p.link →
    StepsTo t i steps x past (t.pages i) after → Keeps (t.system.job i) after → EndpointClientRefines (place_of_info t.infos) (t.jobs i) past (t.pages i) after q → WiresMatch x (slot_of_link (world.without_taken id.number n w.daemon) (Some id)) q → Means (place_of_info t.infos) (t.jobs i) x after q → WaitsQuietly q.client.progress after.todo → Pends q.client.outcome q.client.progress q.client.phase x →
    WorldRefines (ghost_after t i steps x past (t.pages i)) (record { daemon = world.without_taken id.number n w.daemon; endpoints = slice_set w.endpoints i q })
delivered_stands t w i n p q id steps x past after h at low link stays to keeps exchanges carries means waits pends =
    let s = h.endpoints i p at in
    let me = t.system.job i in
    let u : Ghost = ghost_after t i steps x past (t.pages i) in
    let e = world.without_taken id.number n w.daemon in
    let old = subst (λ (l : Option SessionId). IsServed i t.system.make w.daemon l me.served t.system.device (session_by i t.system.device me)) link s.served in
    let now : IsServed i t.system.make e (Some id) me.served u.system.device (session_by i u.system.device after) =
    served_taken i n t.system.make w.daemon id me.served t.system.device u.system.device me (session_by i u.system.device after) h.apart to.devices (keeps.session i u.system.device) old in
    let same : IsServed i t.system.make e q.link after.served u.system.device (session_by i u.system.device after) =
    subst (λ (l : Option SessionId). IsServed i t.system.make e l after.served u.system.device (session_by i u.system.device after)) (sym (stays ∙ link))
    (subst (λ (b : Bool). IsServed i t.system.make e (Some id) b u.system.device (session_by i u.system.device after)) (sym keeps.served) now) in
    let session : session_in (slot_of_link e q.link) ≡ session_in (slot_of_link w.daemon p.link) =
    ap (λ (l : Option SessionId). session_in (slot_of_link e l)) (stays ∙ link) ∙ (taken_session n w.daemon id.number h.apart ∙ sym (ap (λ (l : Option SessionId). session_in (slot_of_link w.daemon l)) link)) in
    let here : (l : Option SessionId) → l ≡ Some id → WiresMatch x (slot_of_link e l) q = λ l is. subst (λ (y : Option SessionId). WiresMatch x (slot_of_link e y) q) (sym is) carries in
    stands_change t u w i p q e h at (subst (λ (m : ℕ). i < m) h.is_of.count low) (record {
      told = to.change;
      leaves = subst (λ (l : Option SessionId). Leaves i t.system.make l w.daemon e t.system.device u.system.device) (sym link) (leaves_taken t w i n p id u.system.device h at to.devices);
      sound = sound_after_all t.system steps h.sound to.legal;
      asks = held_after_all t.system steps h.sound h.asks to.legal;
      shown = shown_after t w steps h;
      sits = sits_there u e i q after x past (t.pages i) to.job (put_there t.wires i x) (put_there t.history i past) (put_there t.pages i (t.pages i)) (record {
        job_is = keeps.job ∙ s.job_is;
        exchanges = exchanges;
        carries = here q.link (stays ∙ link);
        means = means;
        served = subst (λ (make : ℕ → Make). IsServed i make e q.link after.served u.system.device (session_by i u.system.device after)) (sym to.change.make) same;
        speaks =
            speaks_more (t.jobs i).device me after keeps.more (session_in (slot_of_link w.daemon p.link)) (session_in (slot_of_link e q.link)) keeps.todo keeps.awaited
            (subst (λ (o : Option (RequestSession DeviceState)). AreSame (session_in (slot_of_link w.daemon p.link)) o) (sym session) (same_as (session_in (slot_of_link w.daemon p.link)))) s.speaks;
        waits = waits;
        pends = pends;
      });
      link = λ y is. inl (sym stays ∙ is);
      replaces = subst (λ (l : Option SessionId). Replaces p.link l w.daemon e) (sym stays) (replaces_taken n p.link w.daemon id.number);
      begun = subst (λ (y : JobState). AreStartedViews t.system.make y) (sym to.job)
          (λ steady. subst (AllByRecursion (λ (b : Begin). IsPageView b.page)) (sym keeps.started) (h.begun i (ap (λ (j : _). (t.system.make j.wants).steady) (sym keeps.job) ∙ steady)));
    })

-- ---- the bytes

-- what is on the way then
pub carries_taken : (t : Ghost) (w : WorldCore) (i n : ℕ) (p q : Endpoint) (id : SessionId) (telling text : List ℕ) → WorldRefines t w → slice_get w.endpoints i ≡ Some p → p.link ≡ Some id → q.client.out ≡ p.client.out ++ text → q.client.input.rest ≡ telling → q.image ≡ p.image →
    WiresMatch (wires_after_delivery (t.system.job i).served n telling text (t.wires i)) (slot_of_link (world.without_taken id.number n w.daemon) (Some id)) q
carries_taken t w i n p q id telling text h at link out rest image =
    let s = h.endpoints i p at in
    let me = t.system.job i in
    let d = w.daemon in
    let c = subst (λ (l : Option SessionId). WiresMatch (t.wires i) (slot_of_link d l) p) link s.carries in
    let served = served_some i t.system.make d id me.served t.system.device (session_by i t.system.device me) (subst (λ (l : Option SessionId). IsServed i t.system.make d l me.served t.system.device (session_by i t.system.device me)) link s.served) in
    record {
      up = out ∙ ap (λ (l : List ℕ). l ++ text) c.up;
      asking =
          taken_input n d id.number h.apart
          ∙ (ap (λ (b : Bool). asking_left b (bytes_not_delivered n (replies_of d id.number)) (input_in (session_slot_of d.slots id.number))) served
          ∙ (ap (λ (l : List ℕ). asking_left me.served (bytes_not_delivered n l) (input_in (session_slot_of d.slots id.number))) c.down ∙ ap (asking_left me.served (bytes_not_delivered n (t.wires i).down)) c.asking));
      down = taken_replies n d id.number h.apart ∙ ap (bytes_not_delivered n) c.down;
      telling = rest;
      image = ap (option_map (λ (im : Image). im.bytes)) image ∙ c.image;
    }

-- ---- a reply is due

none_some : (telling down : List ℕ) → telling ++ down ≡ [] → down ≢ [] → ⊥
none_some [] down e n = n e
none_some (b ∷ telling) down e n = absurd (cc)

record HasOne (place : DeviceInfo → ℕ) (progress : Progress) (due : List AbstractReply) (text : List ℕ) : Type 0 where
  pub reply : AbstractReply
  pub due_is : due ≡ reply ∷ []
  pub comes : SpellsAwaitedReply place progress reply text

due_one : (place : DeviceInfo → ℕ) (progress : Progress) (due : List AbstractReply) (telling down : List ℕ) → SpellsReplies place progress due (telling ++ down) → down ≢ [] → HasOne place progress due (telling ++ down)
due_one place progress [] telling down h n = absurd (none_some telling down h n)
due_one place progress (r ∷ []) telling down h n = record { reply = r; due_is = refl; comes = h }
due_one place progress (r ∷ s ∷ due) telling down h n = absurd h

running_by : (st : JobStage) → IsUnderWay st → (st ≡ Idle → ⊥) → IsRunning st
running_by Idle u n = absurd (n refl)
running_by (Running g) u n = (g, refl)
running_by Done u n = absurd u
running_by (Ended status why) u n = absurd u

-- a reply that is due is told
told_by : (i : ℕ) (k : Make) (p : JobState) (dev : AbstractDevice) (g : model.AbstractProgress) (r : AbstractReply) → p.due ≡ r ∷ [] → sound.StageInvariant i k p dev (Running g) → sound.ReplyInFlight i k p dev g
told_by i k p dev g r due (inl asks) = absurd (let clash : r ∷ [] ≡ [] = sym due ∙ asks.due in cc)
told_by i k p dev g r due (inr (inl told)) = told
told_by i k p dev g r due (inr (inr dead)) = absurd (let clash : r ∷ [] ≡ [] = sym due ∙ dead.due in cc)

first_of_one : (r s : AbstractReply) → r ∷ [] ≡ s ∷ [] → r ≡ s
first_of_one r s e = cc

still_by : (g : model.AbstractProgress) (c : TransferState) (progress : Progress) (phase : RecordPhase) (image : Option (List ℕ)) (flight : List ℕ) (ending : Option Status) → request_awaited g ≢ [] → FlowsBy g c progress phase image flight ending → NothingFlows image flight ending
still_by (model.Imaging params heard) c progress phase image flight ending n h = absurd (n refl)
still_by model.Greeting c progress phase image flight ending n h = h
still_by model.Listing c progress phase image flight ending n h = h
still_by model.Opening c progress phase image flight ending n h = h
still_by (model.Allowing challenge) c progress phase image flight ending n h = h
still_by (model.Describing more) c progress phase image flight ending n h = h
still_by (model.Putting k value requested more) c progress phase image flight ending n h = h
still_by (model.Getting k more) c progress phase image flight ending n h = h
still_by model.Starting c progress phase image flight ending n h = h
still_by model.Shaping c progress phase image flight ending n h = h

-- it is due to a client that waits for it, and nothing else is on the way
pub record IsDueTo (t : Ghost) (i : ℕ) (p : Endpoint) : Type 0 where
  pub progress : model.AbstractProgress
  pub stage : (t.system.job i).client.stage ≡ Running progress
  pub reply : AbstractReply
  pub due : (t.system.job i).due ≡ reply ∷ []
  pub comes : SpellsAwaitedReply (place_of_info t.infos) p.client.progress reply ((t.wires i).telling ++ (t.wires i).down)
  pub served : (t.system.job i).served ≡ true
  pub todo : (t.system.job i).todo ≡ []
  pub waits : request_awaited progress ≢ []
  pub calm : sound.IsCalm (t.system.job i).session.transfer
  pub right : sound.IsRight i (make_for t.system i) (t.system.job i).session (hear_in (t.system.job i).client.stage (t.system.job i).session.job (t.system.job i).client reply) (device_for t.system i) (hear_in (t.system.job i).client.stage (t.system.job i).session.job (t.system.job i).client reply).stage
  pub asking : (t.wires i).asking ≡ []
  pub up : (t.wires i).up ≡ []
  pub still : NothingFlows (t.wires i).image (t.system.job i).session.flight (t.system.job i).session.ending

right_heard : (i : ℕ) (k : Make) (b : SessionView) (dev : AbstractDevice) (st : JobStage) (g : model.AbstractProgress) (job : model.AbstractJob) (m : ClientView) (r s : AbstractReply) → st ≡ Running g → r ≡ s → sound.IsRight i k b (hear_in (Running g) job m r) dev (hear_in (Running g) job m r).stage → sound.IsRight i k b (hear_in st job m s) dev (hear_in st job m s).stage
right_heard i k b dev st g job m r s e f h =
    subst (λ (x : JobStage). sound.IsRight i k b (hear_in x job m s) dev (hear_in x job m s).stage) (sym e)
    (subst (λ (x : AbstractReply). sound.IsRight i k b (hear_in (Running g) job m x) dev (hear_in (Running g) job m x).stage) f h)

pub due_to : (t : Ghost) (w : WorldCore) (i : ℕ) (p : Endpoint) (id : SessionId) → WorldRefines t w → slice_get w.endpoints i ≡ Some p → p.link ≡ Some id → IsUnderWay (t.system.job i).client.stage → (t.wires i).down ≢ [] → IsDueTo t i p
due_to t w i p id h at link under some =
    let s = h.endpoints i p at in
    let me = t.system.job i in
    let x = t.wires i in
    let one = due_one (place_of_info t.infos) p.client.progress me.due x.telling x.down (s.means.down under) some in
    let run = running_by me.client.stage under (λ idle. let clash : None ≡ Some id = sym (s.means.before (s.exchanges.idle idle)).0 ∙ link in absurd (cc)) in
    let told = told_by i (make_for t.system i) me (device_for t.system i) run.0 one.reply one.due_is (subst (λ (st : JobStage). sound.StageInvariant i (make_for t.system i) me (device_for t.system i) st) run.1 (h.sound.exchanges i)) in
    let same : told.reply ≡ one.reply = first_of_one told.reply one.reply (sym told.due ∙ one.due_is) in
    let quiet : x.asking ++ x.up ≡ [] = nothing_said (target_of (t.jobs i)) (x.asking ++ x.up) (subst (λ (todo : List AbstractRequest). SpellsAsked (t.jobs i) me.client todo (x.asking ++ x.up)) told.todo (s.means.up told.served)) in
    let none = nil_both x.asking x.up quiet in
    record {
      progress = run.0;
      stage = run.1;
      reply = one.reply;
      due = one.due_is;
      comes = one.comes;
      served = told.served;
      todo = told.todo;
      waits = told.waits;
      calm = told.calm;
      right = right_heard i (make_for t.system i) me.session (device_for t.system i) me.client.stage run.0 me.session.job me.client told.reply one.reply run.1 same told.right;
      asking = none.0;
      up = none.1;
      still = still_by run.0 me.session.transfer p.client.progress p.client.phase x.image me.session.flight me.session.ending told.waits (subst (λ (st : JobStage). FlightMatches st me.session.transfer p.client.progress p.client.phase x.image me.session.flight me.session.ending) run.1 s.means.flow);
    }

-- ---- what flows then

by_still : (g : model.AbstractProgress) (c : TransferState) (progress : Progress) (phase : RecordPhase) (image : Option (List ℕ)) (flight : List ℕ) (ending : Option Status) → NothingFlows image flight ending → (IsImaging (Running g) → FlowsBy g c progress phase image flight ending) → FlowsBy g c progress phase image flight ending
by_still (model.Imaging params heard) c progress phase image flight ending h flows = flows (params, heard, refl)
by_still g c progress phase image flight ending h flows = h

pub flows_still : (st : JobStage) (c : TransferState) (progress : Progress) (phase : RecordPhase) (image : Option (List ℕ)) (flight : List ℕ) (ending : Option Status) → NothingFlows image flight ending → (IsImaging st → FlightMatches st c progress phase image flight ending) → FlightMatches st c progress phase image flight ending
flows_still Idle c progress phase image flight ending h flows = h
flows_still (Running g) c progress phase image flight ending h flows = by_still g c progress phase image flight ending h flows
flows_still Done c progress phase image flight ending h flows = tt
flows_still (Ended status why) c progress phase image flight ending h flows = tt

-- a frame whose data come, of which nothing is on the way, waits for its connection
pub waits_for : (i : ℕ) (k : Make) (b : SessionView) (m : ClientView) (dev : AbstractDevice) (st : JobStage) → sound.IsRight i k b m dev st → IsImaging st → b.ending ≡ None → sound.IsCalm b.transfer → b.transfer ≡ Waiting
waits_for i k b m dev st right imaging none calm = let images : sync.Images i k b m dev imaging.0 imaging.1 = subst (λ (x : JobStage). sound.IsRight i k b m dev x) imaging.2 right in by_carried i k b m dev imaging.0 imaging.1 images none calm images.carries
  where
    calm_streams : (c : TransferState) → sound.IsCalm c → c ≡ Streaming → ⊥
    calm_streams c calm e = subst sound.IsCalm e calm

    by_carriage : (c : TransferState) → sound.IsCalm c → (c ≡ Waiting) ⊎ (c ≡ Streaming) → c ≡ Waiting
    by_carriage c calm (inl e) = e
    by_carriage c calm (inr e) = absurd (calm_streams c calm e)

    by_carried : (i : ℕ) (k : Make) (b : SessionView) (m : ClientView) (dev : AbstractDevice) (params : _) (heard : List ℕ) → (images : sync.Images i k b m dev params heard) → b.ending ≡ None → sound.IsCalm b.transfer → sync.DataUnderWay i k b dev images.continues.begin.options images.more heard images.rest → b.transfer ≡ Waiting
    by_carried i k b m dev params heard images none calm (inl flows) = by_carriage b.transfer calm flows.transfer
    by_carried i k b m dev params heard images none calm (inr (inl out)) = absurd (let clash : None ≡ Some _ = sym none ∙ out.ending in cc)
    by_carried i k b m dev params heard images none calm (inr (inr (inl short))) = absurd (let clash : None ≡ Some _ = sym none ∙ short.ending in cc)
    by_carried i k b m dev params heard images none calm (inr (inr (inr fails))) = absurd (let clash : None ≡ Some fails.status = sym none ∙ fails.ending in cc)

pub flows_begun : (st : JobStage) (c : TransferState) (progress : Progress) (phase : RecordPhase) (image : Option (List ℕ)) (flight : List ℕ) (ending : Option Status) → IsImaging st → c ≡ Waiting → IsSome (client.wanted_port progress) → NothingFlows image flight ending → FlightMatches st c progress phase image flight ending
flows_begun st c progress phase image flight ending imaging waits wants h =
    subst (λ (x : JobStage). FlightMatches x c progress phase image flight ending) (sym imaging.2)
    (subst (λ (y : TransferState). FlightMatches (Running (model.Imaging imaging.0 imaging.1)) y progress phase image flight ending) (sym waits) (record { wants = wants; image_is = h.image_is; flight_is = h.flight_is; ending_is = h.ending_is }))
