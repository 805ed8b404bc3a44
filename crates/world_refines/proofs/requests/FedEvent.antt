-- The event of a delivery to the daemon.
use Rattle.std.specs.Prelude.{Any, is_some, length, map, not, IsSome}
use Rattle.std.specs.List.{AllByRecursion}
use Rattle.std.proofs.Common.{◌≡◌, ◌≢◌, ◌⊎◌, inl, inr, ◌∙◌, ℕ, zero, suc, ◌<◌, List, [], ◌∷◌, ◌++◌, Option, Some, None, Bool, true, false, refl, sym, ap, subst, slice_get, slice_set, append_assoc, append-nil, arith}
use Rattle.sane_fixed.specs.declared.status.Status.{Status}
use Rattle.frame_join.specs.FrameHistory.{JoinHistory}
use Rattle.device_api.specs.State.{DeviceState, after_cancel}
use Rattle.saned_requests.specs.declared.session.Session.{Session as RequestSession}
use Rattle.md5_auth.specs.declared.users.Entry.{Entry}
use Rattle.dispatch.specs.declared.table.place.Lease.{Lease}
use Rattle.saned_requests.specs.Holding.{held_by}
use Rattle.saned_requests.specs.RequestAnswers.{Answers as AnswersRequest, RequestContext}
use Rattle.saned_core.specs.declared.session_slot.Fed.{Fed}
use Rattle.saned_core.specs.declared.session_slot.Fed.TheVariants.{Standing, Over, Starved}
use Rattle.saned_core.specs.declared.session_slot.SessionSlot.{SessionSlot}
use Rattle.saned_core.specs.declared.session_slot.SessionId.{SessionId}
use Rattle.saned_core.specs.DaemonStates.{Core, on_session_slot, replies_in, session_slot_of, session_in}
use Rattle.dispatch.specs.Table.{Table}
use Rattle.rand_chacha.specs.ChaCha.{ChaCha}
use Rattle.data_records.specs.declared.records.RecordPhase.{RecordPhase}
use Rattle.wire_message.specs.declared.message.Request.{Request as WireRequest}
use Rattle.net_client.specs.Sending.{requests_text}
use Rattle.client_refines.specs.RequestRefinement.{AreRequests}
use Rattle.saned_core.specs.Feeding as daemon
use Rattle.saned_core.specs.Feeding.{Feeds, IsUnsaid, input_in, core_context}
use Rattle.saned_core.specs.Inside.{FeedsIn, slot_or_none_after_feed}
use Rattle.saned_core.proofs.FeedCases.{feeds_in}
use Rattle.scan_job.specs.declared.job.Job.{Job}
use Rattle.client_replies.specs.declared.progress.Progress.{Progress}
use Rattle.client_replies.specs.ProtocolStates.{target_of, is_running}
use Rattle.net_client.specs.ClientStates.{ClientState, protocol_of}
use Rattle.system_model.specs.AbstractMessages.{AbstractRequest}
use Rattle.system_model.specs.AbstractMessages as words
use Rattle.system_model.specs.Devices.{Make}
use Rattle.system_model.specs.Causes.{IsCauseAmong, LinkOutOfMemory}
use Rattle.system_model.specs.Client as model
use Rattle.system_model.specs.Client.{Idle, ClientView, Running, Done, Ended, JobStage, request_awaited}
use Rattle.system_model.specs.Daemon.{TransferState, FailureCounts}
use Rattle.system_model.specs.AbstractDevices.{AbstractDevice}
use Rattle.system_model.specs.Deliveries.{Chance, answers}
use Rattle.system_model.specs.Invariants.{StageInvariant as SoundExchanges}
use Rattle.system_model.specs.SystemStates.{JobState, SystemState, make_for, device_for}
use Rattle.system_model.specs.Transitions.{IsHistory, IsImaging, IsUnderWay, MayBreak, Transition, after_all}
use Rattle.daemon_refines.specs.ContextRefinement.{ContextRefines, TableRefines}
use Rattle.daemon_refines.specs.Failures.{FailedAt}
use Rattle.daemon_refines.specs.Feeds.{IsSessionBegun}
use Rattle.daemon_refines.specs.Cores.{SessionRefines}
use Rattle.system_model.specs.AbstractSessions.{AbstractSession as RuledSession}
use Rattle.event_world.specs.declared.event.JobEvent.TheVariants as events
use Rattle.event_world.specs.declared.endpoint.Endpoint.{Endpoint}
use Rattle.event_world.specs.JobEvents as world
use Rattle.event_world.specs.JobEvents.{after_fed, bytes_not_delivered, delivered_bytes}
use Rattle.event_world.specs.Worlds.{WorldCore}
use Rattle.world_refines.specs.GhostStates.{Ghost, place_of_info, wired_then}
use Rattle.world_refines.specs.Wires.{FlightMatches, FlowsBy, SpellsAsked, SpellsReplies}
use Rattle.world_refines.specs.WorldRefinement.{HasNoEnd, IsFaithfulLease, IsFaithfulSessionSlot, IsFaithfulSession, IsServed, WorldRefines, slot_of_link, session_by, AreStartedViews}
use Rattle.world_refines.specs.Speaks.{Speaks}
use Rattle.world_refines.specs.GhostEvents.{GhostCan, GhostLeads}
use Rattle.world_refines.specs.FailedSources.{AllAlong, CutIn, FailedIn, FailsIn, FailsSo, HoldsLease, InEvent}
use Rattle.saned_requests.specs.LeaseLaws.{HoldsWell, IsIn}
use Rattle.saned_requests.proofs.Returning.{all_return}
use Rattle.world_refines.proofs.requests.Lent.{holds_well}
use Rattle.world_refines.specs.Answering.{AnswersSome, Completes, IsCutShort}
use Rattle.world_refines.specs.Answering.AnswersSome.{BreaksOff, GoesOn, IsOver, WasOver}
use Rattle.world_refines.proofs.requests.AnswersKeep.{stays}
use Rattle.world_refines.proofs.requests.Closing.{Closed, broken, keeps_stayed}
use Rattle.world_refines.proofs.requests.FedSlot.{HeldTrue, IsNotOn, leaves_fed, left_down, replaces_fed, slot_on, slot_over}
use Rattle.world_refines.proofs.state.Faithful.{TakesSlot, slot_all}
use Rattle.world_refines.proofs.requests.Fed.{FedSo, fed_stands, fed_wires}
use Rattle.world_refines.proofs.requests.SameRequest.{any_amid, asked_there}
use Rattle.daemon_refines.proofs.Moved.{unsome}
use Rattle.world_refines.proofs.requests.RequestDeliveries.{UnsaidAt, IsCountedAlone, counted_alone, cut_piece, is_over, is_starved, same_count}
use Rattle.world_refines.proofs.requests.FailedRequests.{counted_fails, fails_alone, lease_named}
use Rattle.world_refines.proofs.replies.Offered.{is_asking}
use Rattle.world_refines.proofs.requests.Folding.{InContext, IsReadAs, OneRequest, due_none, run_all, spells_none}
use Rattle.world_refines.proofs.requests.Sent.{IsSent}
use Rattle.world_refines.proofs.state.EndpointSlots.{replaces_same}
use Rattle.world_refines.proofs.state.Sees.{Leaves}
use Rattle.world_refines.proofs.state.Failing.{Counting, along_then, plain_decides}
use Rattle.world_refines.proofs.state.Taking.{DecidesAt, DecidesIn, done, leaves_core}
use Rattle.world_refines.specs.Speaks.{WaitsQuietly}
use Rattle.world_refines.proofs.state.Waiting.{waits_behind, waits_ended, way_or}
use Rattle.client_replies.specs.declared.progress.Progress.TheVariants as stages
use Rattle.system_model.proofs.JobPromises.{sound_after_all}
use Rattle.world_refines.proofs.state.GhostClients.{runs_under}
use Rattle.world_refines.proofs.state.WorldPending.{no_request_none, no_request_wants}

-- ---- a client that has something to send

behind_empty : (a b : List ℕ) → [] ≡ a ++ b → b ≡ []
behind_empty [] b e = sym e
behind_empty (x ∷ a) b e = absurd (let clash : [] ≡ x ∷ (a ++ b) = e in cc)

none_spelled : (job : Job) (asking up : List ℕ) → up ≢ [] → (qs : List WireRequest) → requests_text qs ≡ Some (asking ++ up) → AreRequests (target_of job) qs [] → ⊥
none_spelled job asking up some [] e a = some (behind_empty asking up (let is : [] ≡ asking ++ up = cc in is))
none_spelled job asking up some (q ∷ qs) e a = a

-- what is asked for on the way
pub asks_some : (job : Job) (m : ClientView) (todo : List AbstractRequest) (asking up : List ℕ) → up ≢ [] → SpellsAsked job m todo (asking ++ up) → (r : AbstractRequest) × (rest : List AbstractRequest) × (todo ≡ r ∷ rest)
asks_some job m [] asking up some s = absurd (none_spelled job asking up some s.requests s.text s.same)
asks_some job m (r ∷ rest) asking up some s = (r, rest, refl)

may_break : (i : ℕ) (k : Make) (p : JobState) (dev : AbstractDevice) (st : JobStage) (r : AbstractRequest) (rest : List AbstractRequest) → p.todo ≡ r ∷ rest → SoundExchanges i k p dev st → MayBreak st
may_break i k p dev (Running g) r rest e (inl h) = λ x is none. let same : g ≡ x = cc in let clash : [] ≡ r ∷ rest = sym none ∙ (ap request_awaited (sym same) ∙ (sym h.todo ∙ e)) in absurd (cc)
may_break i k p dev (Running g) r rest e (inr (inl h)) = λ x is. let same : g ≡ x = cc in subst (λ (y : model.AbstractProgress). request_awaited y ≢ []) same h.waits
may_break i k p dev (Running g) r rest e (inr (inr h)) = λ x is. let same : g ≡ x = cc in subst (λ (y : model.AbstractProgress). request_awaited y ≢ []) same h.waits
may_break i k p dev Idle r rest e h = λ x is. absurd (cc)
may_break i k p dev Done r rest e h = λ x is. absurd (cc)
may_break i k p dev (Ended status why) r rest e h = λ x is. absurd (cc)

not_imaging : (st : JobStage) → MayBreak st → IsImaging st → ⊥
not_imaging st may (params, heard, is) = may (model.Imaging params heard) is refl

flow_by : (g : model.AbstractProgress) (c d : TransferState) (progress : Progress) (phase : RecordPhase) (image : Option (List ℕ)) (flight : List ℕ) (ending : Option Status) → request_awaited g ≢ [] → FlowsBy g c progress phase image flight ending → FlowsBy g d progress phase image flight ending
flow_by (model.Imaging params heard) c d progress phase image flight ending some h = absurd (some refl)
flow_by model.Greeting c d progress phase image flight ending some h = h
flow_by model.Listing c d progress phase image flight ending some h = h
flow_by model.Opening c d progress phase image flight ending some h = h
flow_by (model.Allowing challenge) c d progress phase image flight ending some h = h
flow_by (model.Describing ws) c d progress phase image flight ending some h = h
flow_by (model.Putting n value requested ws) c d progress phase image flight ending some h = h
flow_by (model.Getting n ns) c d progress phase image flight ending some h = h
flow_by model.Starting c d progress phase image flight ending some h = h
flow_by model.Shaping c d progress phase image flight ending some h = h

-- no data flows to a client that waits for a reply, whatever the daemon's frame is
flow_still : (st : JobStage) (c d : TransferState) (progress : Progress) (phase : RecordPhase) (image : Option (List ℕ)) (flight : List ℕ) (ending : Option Status) → MayBreak st → FlightMatches st c progress phase image flight ending → FlightMatches st d progress phase image flight ending
flow_still Idle c d progress phase image flight ending may h = h
flow_still (Running g) c d progress phase image flight ending may h = flow_by g c d progress phase image flight ending (may g refl) h
flow_still Done c d progress phase image flight ending may h = tt
flow_still (Ended status why) c d progress phase image flight ending may h = tt

flow_kept : (p q : JobState) (progress : Progress) (phase : RecordPhase) (image : Option (List ℕ)) → q.client ≡ p.client → q.session.flight ≡ p.session.flight → q.session.ending ≡ p.session.ending → MayBreak p.client.stage → FlightMatches p.client.stage p.session.transfer progress phase image p.session.flight p.session.ending →
    FlightMatches q.client.stage q.session.transfer progress phase image q.session.flight q.session.ending
flow_kept p q progress phase image view flight ending may h =
    subst (λ (m : ClientView). FlightMatches m.stage q.session.transfer progress phase image q.session.flight q.session.ending) (sym view)
    (subst (λ (f : List ℕ). FlightMatches p.client.stage q.session.transfer progress phase image f q.session.ending) (sym flight)
    (subst (λ (x : Option Status). FlightMatches p.client.stage q.session.transfer progress phase image p.session.flight x) (sym ending)
    (flow_still p.client.stage p.session.transfer q.session.transfer progress phase image p.session.flight p.session.ending may h)))

-- ---- what stands before it

record Ready (t : Ghost) (w : WorldCore) (i : ℕ) (p : Endpoint) (id : SessionId) (session : RequestSession DeviceState) : Type 0 where
  stands : WorldRefines t w
  at : slice_get w.endpoints i ≡ Some p
  low : i < t.count
  link : p.link ≡ Some id
  one : OneRequest t i
  in_context : InContext t i t.system (core_context w.daemon session)
  slot : SessionSlot DeviceState
  slot_is : session_slot_of w.daemon.slots id.number ≡ Some slot
  going : slot.session ≡ Some session
  next : AbstractRequest
  others : List AbstractRequest
  todo : (t.system.job i).todo ≡ next ∷ others
  may : MayBreak (t.system.job i).client.stage
  alive : (t.system.job i).client.stage ≡ Idle → ⊥
  spells : SpellsAsked (t.jobs i) (t.system.job i).client (t.system.job i).todo ((t.wires i).asking ++ (t.wires i).up)
  some : (t.wires i).up ≢ []
  reads : IsReadAs t i t.system (map (λ (x : JoinHistory). x.ended) (t.pages i)) (protocol_of p.client (t.history i))

-- what waits for the client that is under way is what is due to it, which is nothing
due_is : (t : Ghost) (w : WorldCore) (i : ℕ) (p : Endpoint) (id : SessionId) (session : RequestSession DeviceState) → Ready t w i p id session → IsUnderWay (t.system.job i).client.stage → SpellsReplies (place_of_info t.infos) p.client.progress (t.system.job i).due ((t.wires i).telling ++ (t.wires i).down)
due_is t w i p id session r u = (r.stands.endpoints i p r.at).means.down u

nothing_waits : (t : Ghost) (w : WorldCore) (i : ℕ) (p : Endpoint) (id : SessionId) (session : RequestSession DeviceState) → Ready t w i p id session → IsUnderWay (t.system.job i).client.stage → (t.wires i).telling ++ (t.wires i).down ≡ []
nothing_waits t w i p id session r u =
    spells_none t p.client.progress (t.system.job i).due ((t.wires i).telling ++ (t.wires i).down) (due_none t i t.system (core_context w.daemon session) r.next r.others r.in_context u r.todo) (due_is t w i p id session r u)

front_none : (a b : List ℕ) → a ++ b ≡ [] → a ≡ []
front_none [] b e = refl
front_none (x ∷ a) b e = absurd (let clash : x ∷ (a ++ b) ≡ [] = e in cc)

told_none : (t : Ghost) (progress : Progress) (due : List words.AbstractReply) (text : List ℕ) → due ≡ [] → text ≡ [] → SpellsReplies (place_of_info t.infos) progress due text
told_none t progress due text e none = subst (λ (x : List words.AbstractReply). SpellsReplies (place_of_info t.infos) progress x text) (sym e) none

-- ---- its slot

came_is : (t : Ghost) (w : WorldCore) (i : ℕ) (p : Endpoint) (id : SessionId) (session : RequestSession DeviceState) → Ready t w i p id session → input_in (session_slot_of w.daemon.slots id.number) ≡ (t.wires i).asking
came_is t w i p id session r = ap (λ (x : Option SessionId). input_in (slot_of_link w.daemon x)) (sym r.link) ∙ (r.stands.endpoints i p r.at).carries.asking

waits_is : (t : Ghost) (w : WorldCore) (i : ℕ) (p : Endpoint) (id : SessionId) (session : RequestSession DeviceState) → (r : Ready t w i p id session) → r.slot.replies ≡ (t.wires i).down
waits_is t w i p id session r = ap replies_in (sym r.slot_is) ∙ (ap (λ (x : Option SessionId). replies_in (slot_of_link w.daemon x)) (sym r.link) ∙ (r.stands.endpoints i p r.at).carries.down)

own_waits : (t : Ghost) (w : WorldCore) (i : ℕ) (p : Endpoint) (id : SessionId) (session : RequestSession DeviceState) → Ready t w i p id session → p.is_over ≡ false
own_waits t w i p id session r =
    let s = r.stands.endpoints i p r.at in
    s.means.over (s.means.linked ∙ ap is_some r.link) ∙ ap not r.in_context.served

-- ---- a source that fails in it

-- what the session holds behind it, or gave back
abbrev IsLeft : Core → ℕ → RequestContext → Type 0
IsLeft e n context = (session_in (session_slot_of e.slots n) ≡ Some context.session) ⊎ (e.registry ≡ daemon.table_let_go context)

left_by : (e : Core) (n word : ℕ) (context : RequestContext) (lease : Lease DeviceState) → IsLeft e n context → HoldsWell context.registry context.session.held → held_by context.session.held word ≡ Some lease → HoldsLease e n word lease ⊎ IsIn (after_cancel lease.device) lease.place e.registry
left_by e n word context lease (inl stands) well held = inl (record { session = context.session; stands = stands; held = held })
left_by e n word context lease (inr back) well held =
    inr (subst (IsIn (after_cancel lease.device) lease.place) (sym back) (all_return context.registry context.session.held word lease well held))

failed_by : (t : Ghost) (w : WorldCore) (i : ℕ) (p : Endpoint) (id : SessionId) (session : RequestSession DeviceState) (e : Core) (context : RequestContext) (fault : FailureCounts) → Ready t w i p id session → IsLeft e id.number context → FailedAt session.held context.session.held 0 fault → HoldsWell context.registry context.session.held → FailedIn w e i (t.jobs i).device
failed_by t w i p id session e context fault r left f well = record {
  endpoint = p;
  is_there = r.at;
  id = id;
  linked = r.link;
  word = 0;
  lease = f.lease;
  held = record { session = session; stands = ap session_in r.slot_is ∙ r.going; held = f.stood };
  named = lease_named i t.system.make t.users t.infos (t.jobs i) (core_context w.daemon session) t.system.device (t.system.job i) 0 f.lease r.in_context.job_is r.in_context.infos r.in_context.shows f.stood;
  after = f.after;
  stopped = f.failed.stopped;
  amid = f.failed.left;
  left = left_by e id.number 0 context (record f.lease { device = f.after }) left well f.stands;
}

fails_here : (t : Ghost) (w : WorldCore) (i : ℕ) (p : Endpoint) (id : SessionId) (session : RequestSession DeviceState) (e : Core) (context : RequestContext) (chances : List Chance) (asked later : List AbstractRequest) → Ready t w i p id session → length chances ≡ length asked → (t.system.job i).todo ≡ asked ++ later →
    ((q : AbstractRequest) → (t.system.job i).todo ≡ q ∷ [] → IsCountedAlone (core_context w.daemon session) chances context) → IsLeft e id.number context → AllAlong (FailsIn t w e) t.system (answers i chances)
fails_here t w i p id session e context chances asked later r count are counted left =
    fails_alone (λ (b : Bool) (j : ℕ). InEvent b w e j (t.jobs j)) i t.system chances (λ under.
    let a = is_asking i t.system r.next r.others r.in_context.sound under r.in_context.served r.todo in
    let only : (t.system.job i).todo ≡ r.next ∷ [] = r.todo ∙ ap (λ (x : List AbstractRequest). r.next ∷ x) a.none in
    counted_fails (FailedIn w e i (t.jobs i).device) (core_context w.daemon session) context chances asked later r.next count (sym only ∙ are) (λ fault f well. failed_by t w i p id session e context fault r left f well) (counted r.next only))

-- a reply that could not be said
cut_there : (t : Ghost) (w : WorldCore) (i : ℕ) (p : Endpoint) (id : SessionId) (session : RequestSession DeviceState) → Ready t w i p id session → IsUnderWay (t.system.job i).client.stage → UnsaidAt t i (core_context w.daemon session) (t.system.job i).todo → CutIn w i (t.jobs i)
cut_there t w i p id session r on u =
    record {
      endpoint = p;
      is_there = r.at;
      id = id;
      linked = r.link;
      session = session;
      stands = ap session_in r.slot_is ∙ r.going;
      request = u.request;
      waits = asked_there t w i p u.next u.later u.request r.stands r.at on u.todo_is u.is;
      said = u.said;
      then_is = u.then_is;
      answers = subst (λ (users : List Entry). AnswersRequest users (core_context w.daemon session) u.request u.said u.then_is) r.stands.is_of.users u.answers;
      unsaid = subst (Any IsUnsaid) (sym u.among) (any_amid IsUnsaid u.front u.behind u.reply u.unsaid);
    }

broken_fails : (F : Bool → ℕ → Type 0) (i : ℕ) (memory : Bool) (s : SystemState) → (memory ≡ false → IsUnderWay (s.job i).client.stage → F false i) → FailsSo F s (broken i memory)
broken_fails F i true s f = tt
broken_fails F i false s f = f refl

-- and of a session that is over behind it
fails_off : (t : Ghost) (w : WorldCore) (i : ℕ) (p : Endpoint) (id : SessionId) (session : RequestSession DeviceState) (e : Core) (context : RequestContext) (chances : List Chance) (steps : List Transition) (memory : Bool) (asked later : List AbstractRequest) → Ready t w i p id session → length chances ≡ length asked → (t.system.job i).todo ≡ asked ++ later →
    ((q : AbstractRequest) → (t.system.job i).todo ≡ q ∷ [] → IsCountedAlone (core_context w.daemon session) chances context) → e.registry ≡ daemon.table_let_go context → ((memory ≡ false) × (steps ≡ answers i chances)) ⊎ (IsCutShort memory t.users t.infos (t.jobs i) × (steps ≡ answers i chances ++ broken i memory ∷ [])) →
    (memory ≡ false → (steps ≡ answers i chances) ⊎ (IsUnderWay (t.system.job i).client.stage → UnsaidAt t i (core_context w.daemon session) (t.system.job i).todo)) → AllAlong (FailsIn t w e) t.system steps
fails_off t w i p id session e context chances steps memory asked later r count are counted back is cut = by_steps is
  where
    here : AllAlong (FailsIn t w e) t.system (answers i chances)
    here = fails_here t w i p id session e context chances asked later r count are counted (inr back)

    under_first : IsUnderWay ((after_all t.system (answers i chances)).job i).client.stage → IsUnderWay (t.system.job i).client.stage
    under_first on = subst (λ (m : ClientView). IsUnderWay m.stage) (stays i t.system chances).own.client on

    broke : (memory : Bool) → (memory ≡ false → IsUnderWay (t.system.job i).client.stage → UnsaidAt t i (core_context w.daemon session) (t.system.job i).todo) → AllAlong (FailsIn t w e) t.system (answers i chances ++ broken i memory ∷ [])
    broke b f =
        along_then (FailsIn t w e) t.system (answers i chances) (broken i b ∷ []) here
        (broken_fails (λ (c : Bool) (j : ℕ). InEvent c w e j (t.jobs j)) i b (after_all t.system (answers i chances)) (λ no on. let first = under_first on in cut_there t w i p id session r first (f no first)), tt)

    by_cut : (b : Bool) → steps ≡ answers i chances ++ broken i b ∷ [] → (b ≡ false → (steps ≡ answers i chances) ⊎ (IsUnderWay (t.system.job i).client.stage → UnsaidAt t i (core_context w.daemon session) (t.system.job i).todo)) → AllAlong (FailsIn t w e) t.system steps
    by_cut true so c = subst (AllAlong (FailsIn t w e) t.system) (sym so) (broke true (λ no. absurd (let clash : true ≡ false = no in cc)))
    by_cut false so c = elim (c refl) [
      | inl plain ↦ subst (AllAlong (FailsIn t w e) t.system) (sym plain) here
      | inr unsaid ↦ subst (AllAlong (FailsIn t w e) t.system) (sym so) (broke false (λ no. unsaid))
    ]

    by_steps : ((memory ≡ false) × (steps ≡ answers i chances)) ⊎ (IsCutShort memory t.users t.infos (t.jobs i) × (steps ≡ answers i chances ++ broken i memory ∷ [])) → AllAlong (FailsIn t w e) t.system steps
    by_steps (inl so) = subst (AllAlong (FailsIn t w e) t.system) (sym so.1) here
    by_steps (inr so) = by_cut memory so.1 cut

-- ---- the session goes on

-- what the daemon's contract says of it
record IsFedOn (t : Ghost) (w : WorldCore) (n i : ℕ) (id : SessionId) (session : RequestSession DeviceState) (e : Core) (context : RequestContext) (rest text : List ℕ) : Type 0 where
  others : e ≡ record w.daemon { slots = e.slots; registry = e.registry; stream = e.stream }
  slots : e.slots ≡ on_session_slot (slot_or_none_after_feed Standing context rest text) id.number w.daemon.slots
  registry : e.registry ≡ context.registry
  stream : e.stream ≡ context.stream
  feeds : daemon.FeedsOn (record { users = t.users; context = core_context w.daemon session; before = (t.wires i).asking; piece = delivered_bytes n (t.wires i).up }) (record { context = context; rest = rest; text = text })

session_on : (e : Core) (context : RequestContext) (i : ℕ) (make : ℕ → Make) (n : ℕ) (device : ℕ → AbstractDevice) (s : RuledSession) → session_in (session_slot_of e.slots n) ≡ Some context.session → e.registry ≡ context.registry → e.stream ≡ context.stream → ContextRefines i make context device s → IsSessionBegun context → SessionRefines i make e n device s
session_on e context i make n device s stands registry stream shows begun =
    record {
      session = context.session;
      stands = stands;
      shows = subst (λ (x : Table). ContextRefines i make (record { session = context.session; registry = x; stream = e.stream }) device s) (sym registry) (subst (λ (x : ChaCha). ContextRefines i make (record { session = context.session; registry = context.registry; stream = x }) device s) (sym stream) shows);
      begun = begun;
    }

goes_on : (t : Ghost) (w : WorldCore) (i n : ℕ) (p : Endpoint) (id : SessionId) (session : RequestSession DeviceState) (e : Core) (context : RequestContext) (rest text : List ℕ) → Ready t w i p id session → GhostCan t i (events.ToDaemon n) → IsFedOn t w n i id session e context rest text →
    GhostLeads (events.ToDaemon n) (Counting (AnswersSome n) w e) t i (record { daemon = e; endpoints = slice_set w.endpoints i (world.without_sent n p) })
goes_on t w i n p id session e context rest text r can f =
    let h = r.stands in
    let sits = h.endpoints i p r.at in
    let me = t.system.job i in
    let x = t.wires i in
    let g = f.feeds in
    let so = g.so_far in
    let c = cut_piece (t.jobs i) me.client me.todo x.asking x.up n so.requests so.reads.text rest r.spells so.reads.whole so.reads.spelled in
    let ran = run_all t i r.one t.system (core_context w.daemon session) context so.requests c.first c.others so.told r.in_context c.are c.of_first so.answers in
    let steps = answers i ran.chances in
    let s = after_all t.system steps in
    let now = s.job i in
    let stay = stays i t.system ran.chances in
    let out = bytes_not_delivered n p.client.out in
    let up = bytes_not_delivered n x.up in
    let down = x.down ++ text in
    let u = wired_then t i steps (fed_wires up rest down x) in
    let there = ap (λ (ss : TakesSlot). session_slot_of ss id.number) f.slots ∙ slot_on context rest text id.number w.daemon.slots r.slot r.slot_is in
    let session_there : session_in (session_slot_of e.slots id.number) ≡ Some context.session = ap session_in there in
    let shows = subst (λ (m : ℕ → Make). ContextRefines i m context s.device (session_by i s.device now)) stay.make ran.in_context.shows in
    let count : length ran.chances ≡ length c.first = ran.count ∙ same_count (t.jobs i) me.client so.requests c.first c.of_first in
    let fails = fails_here t w i p id session e context ran.chances c.first c.others r count c.are (λ q only. counted_alone (core_context w.daemon session) context ran.chances (holds_well i s.make context.session.held context.registry s.device ran.in_context.shows.devices) ran.counted) (inl session_there) in
    done (events.ToDaemon n) (Counting (AnswersSome n) w e) t i _ steps u can (
      GoesOn c.first rest text (record { text = so.reads.text; whole = so.reads.whole; spelled = c.spelled; later = c.others; first = c.are }) g.wants
          (record { chances = ran.chances; count = count; steps_are = refl }) (record { legal = ran.legal; then_is = refl }) ran.in_context.served,
      fails,
    )
    (fed_stands t w i p (world.without_sent n p) id e steps up rest down out h r.at r.low r.link (record {
      legal = ran.legal;
      keeps = keeps_stayed i t.system s stay;
      up_is = ap (bytes_not_delivered n) sits.carries.up;
      endpoint = record {
        sent = record { client = refl; task = refl; file = refl; pages = refl; finished = refl; was_connected = refl; out_of_memory = inl refl };
        link = refl;
        image = refl;
        over = own_waits t w i p id session r ∙ ap not (sym ran.in_context.served);
      };
      input = ap input_in there;
      replies = ap replies_in there ∙ ap (λ (b : List ℕ). b ++ text) (waits_is t w i p id session r);
      served = subst (λ (b : Bool). IsServed i t.system.make e (Some id) b s.device (session_by i s.device now)) (sym ran.in_context.served) (session_on e context i t.system.make id.number s.device (session_by i s.device now) session_there f.registry f.stream shows ran.in_context.begun);
      leaves = leaves_fed i t.system.make w.daemon e id t.system.device s.device Standing context rest text context.registry f.others f.slots f.registry h.slots h.faithful (sym ran.in_context.infos ∙ h.is_of.infos) ran.in_context.lying ran.in_context.held context.session.held shows.devices ran.others;
      replaces = replaces_fed Standing context rest text (Some id) w.daemon e id.number f.slots;
      begun = subst (λ (m : ℕ → Make). AreStartedViews m now) stay.make ran.in_context.started;
      speaks = subst (λ (o : Option (RequestSession DeviceState)). Speaks (t.jobs i).device now o) (sym session_there) ran.in_context.speaks;
      waits = subst (WaitsQuietly p.client.progress) (sym ran.todo) (waits_behind p.client.progress c.first c.others (subst (WaitsQuietly p.client.progress) c.are sits.waits));
      pending = no_request_wants rest g.wants;
      means = record {
        client = stay.own.client;
        linked = stay.own.linked;
        image = stay.own.image;
        flight = stay.own.flight;
        ending = stay.own.ending;
        calm = λ off. absurd (let clash : true ≡ false = sym ran.in_context.served ∙ off in cc);
        unended = stay.own.unended sits.means.unended;
        alive = r.alive;
        up = λ _. subst (λ (m : ClientView). SpellsAsked (t.jobs i) m now.todo (rest ++ up)) (sym stay.own.client) (subst (λ (qs : List AbstractRequest). SpellsAsked (t.jobs i) me.client qs (rest ++ up)) (sym ran.todo) c.still);
        down = λ under.
            let first : IsUnderWay me.client.stage = subst (λ (m : ClientView). IsUnderWay m.stage) stay.own.client under in
            subst (SpellsReplies (place_of_info t.infos) p.client.progress now.due) (append_assoc x.telling x.down text)
            (ran.told_are first (map (λ (y : JoinHistory). y.ended) (t.pages i)) (protocol_of p.client (t.history i)) r.reads sits.waits (x.telling ++ x.down) text (due_is t w i p id session r first) so.says);
        flow = flow_kept me now p.client.progress p.client.phase x.image stay.own.client stay.own.flight stay.own.ending r.may sits.means.flow;
        starved = λ met. sits.means.starved (stay.own.starved met);
      };
    }))

-- ---- it is over

record IsFedOff (t : Ghost) (w : WorldCore) (id : SessionId) (e : Core) (fed : Fed) (context : RequestContext) (rest text : List ℕ) : Type 0 where
  off : IsNotOn fed
  others : e ≡ record w.daemon { slots = e.slots; registry = e.registry; stream = e.stream }
  slots : e.slots ≡ on_session_slot (slot_or_none_after_feed fed context rest text) id.number w.daemon.slots
  registry : e.registry ≡ daemon.table_let_go context

-- the endpoint behind it
record IsOverPost (n : ℕ) (memory : Bool) (old new : Endpoint) : Type 0 where
  sent : IsSent (bytes_not_delivered n old.client.out) old new
  link : new.link ≡ old.link
  image : new.image ≡ old.image
  over : new.is_over ≡ true
  starved : memory ≡ true → new.out_of_memory ≡ true
  still : memory ≡ false → new.out_of_memory ≡ old.out_of_memory

off_so : (t : Ghost) (w : WorldCore) (i n : ℕ) (p q : Endpoint) (id : SessionId) (session : RequestSession DeviceState) (e : Core) (fed : Fed) (context : RequestContext) (rest text down : List ℕ) (steps : List Transition) (memory : Bool) → Ready t w i p id session → IsFedOff t w id e fed context rest text → IsOverPost n memory p q →
    Closed t i t.system (core_context w.daemon session) steps memory context → left_down fed (t.wires i).down text ≡ down → (IsUnderWay (t.system.job i).client.stage → (t.wires i).telling ++ down ≡ []) →
    FedSo t w i p q id e steps (bytes_not_delivered n (t.wires i).up) [] down (bytes_not_delivered n p.client.out)
off_so t w i n p q id session e fed context rest text down steps memory r f endpoint c down_is silent =
    let h = r.stands in
    let sits = h.endpoints i p r.at in
    let me = t.system.job i in
    let x = t.wires i in
    let s = after_all t.system steps in
    let now = s.job i in
    let over = slot_over fed context rest text id.number w.daemon.slots r.slot f.off h.apart r.slot_is in
    let there : session_slot_of e.slots id.number ≡ session_slot_of (on_session_slot (slot_or_none_after_feed fed context rest text) id.number w.daemon.slots) id.number = ap (λ (ss : TakesSlot). session_slot_of ss id.number) f.slots in
    let none : session_in (session_slot_of e.slots id.number) ≡ None = ap session_in there ∙ over.session in
    let way : (p.client.progress ≡ stages.Over) ⊎ IsUnderWay now.client.stage = way_or p.client.outcome p.client.progress now.client.stage (is_running p.client.outcome) refl sits.exchanges.over
    (λ runs. subst (λ (m : ClientView). IsUnderWay m.stage) (sym c.keeps.client) (runs_under (place_of_info t.infos) (target_of (t.jobs i)) me.session.job (map (λ (y : JoinHistory). y.ended) (t.pages i)) (protocol_of p.client (t.history i)) me.client sits.exchanges.reads runs)) in
    record {
      legal = c.legal;
      keeps = c.keeps;
      up_is = ap (bytes_not_delivered n) sits.carries.up;
      endpoint = record { sent = endpoint.sent; link = endpoint.link; image = endpoint.image; over = endpoint.over ∙ ap not (sym c.served) };
      input = ap input_in there ∙ over.input;
      replies = ap replies_in there ∙ (over.replies ∙ (ap (λ (b : List ℕ). left_down fed b text) (waits_is t w i p id session r) ∙ down_is));
      served = subst (λ (b : Bool). IsServed i t.system.make e (Some id) b s.device (session_by i s.device now)) (sym c.served) (none, subst (λ (y : Table). TableRefines i t.system.make [] y s.device) (sym f.registry) c.back);
      leaves = leaves_fed i t.system.make w.daemon e id t.system.device s.device fed context rest text (daemon.table_let_go context) f.others f.slots f.registry h.slots h.faithful (sym c.infos ∙ h.is_of.infos) c.lying (true_off fed context f.off) [] c.back c.others;
      replaces = replaces_fed fed context rest text (Some id) w.daemon e id.number f.slots;
      begun = c.started;
      speaks = subst (λ (o : Option (RequestSession DeviceState)). Speaks (t.jobs i).device now o) (sym none) tt;
      waits = waits_ended i (make_for s i) now (device_for s i) p.client.progress me.todo ((sound_after_all t.system steps h.sound c.legal).exchanges i) c.served way sits.waits;
      pending = no_request_none;
      means = record {
        client = c.keeps.client;
        linked = c.keeps.linked;
        image = c.keeps.image;
        flight = c.keeps.flight;
        ending = c.keeps.ending;
        calm = λ _. c.quiet;
        unended = subst (λ (y : TransferState). HasNoEnd y now.session.ending) (sym c.quiet) tt;
        alive = r.alive;
        up = λ on. absurd (let clash : false ≡ true = sym c.served ∙ on in cc);
        down = λ under.
            let first : IsUnderWay me.client.stage = subst (λ (m : ClientView). IsUnderWay m.stage) c.keeps.client under in
            told_none t q.client.progress now.due (x.telling ++ down) (c.nothing_due first) (silent first);
        flow = subst (λ (y : ClientState). FlightMatches now.client.stage now.session.transfer y.progress y.phase x.image now.session.flight now.session.ending) (sym endpoint.sent.client) (flow_kept me now p.client.progress p.client.phase x.image c.keeps.client c.keeps.flight c.keeps.ending r.may sits.means.flow);
        starved = starved_by memory refl;
      };
    }
  where
    true_off : (fed : Fed) (d : RequestContext) → IsNotOn fed → HeldTrue fed d
    true_off Standing d off = absurd off
    true_off Over d off = tt
    true_off Starved d off = tt

    starved_by : (b : Bool) → memory ≡ b → IsCauseAmong LinkOutOfMemory ((after_all t.system steps).job i).session.met → q.out_of_memory ≡ true
    starved_by true e met = endpoint.starved e
    starved_by false e met = endpoint.still e ∙ (r.stands.endpoints i p r.at).means.starved (c.starved e met)

assoc_down : (a b c : List ℕ) → (a ++ b) ++ c ≡ [] → a ++ (b ++ c) ≡ []
assoc_down a b c e = sym (append_assoc a b c) ∙ e

goes_off : (t : Ghost) (w : WorldCore) (i n : ℕ) (p : Endpoint) (id : SessionId) (session : RequestSession DeviceState) (e : Core) (context : RequestContext) (rest text : List ℕ) → Ready t w i p id session → GhostCan t i (events.ToDaemon n) → IsFedOff t w id e Over context rest text →
    daemon.FeedsOver (record { users = t.users; context = core_context w.daemon session; before = (t.wires i).asking; piece = delivered_bytes n (t.wires i).up }) context text → GhostLeads (events.ToDaemon n) (Counting (AnswersSome n) w e) t i (record { daemon = e; endpoints = slice_set w.endpoints i (after_fed Over (world.without_sent n p)) })
goes_off t w i n p id session e context rest text r can f g =
    let x = t.wires i in
    let o = is_over t i (core_context w.daemon session) context x.asking x.up n text r.one r.in_context r.may r.spells g in
    let a = o.parts in
    let q = after_fed Over (world.without_sent n p) in
    let up = bytes_not_delivered n x.up in
    let down = x.down ++ text in
    let endpoint : IsOverPost n false p q = record { sent = record { client = refl; task = refl; file = refl; pages = refl; finished = refl; was_connected = refl; out_of_memory = inl refl }; link = refl; image = refl; over = refl; starved = λ nay. absurd (let clash : false ≡ true = nay in cc); still = λ _. refl } in
    let u = wired_then t i a.steps (fed_wires up [] down x) in
    let silent : IsUnderWay (t.system.job i).client.stage → x.telling ++ down ≡ [] =
    λ under. assoc_down x.telling x.down text (o.silent under (map (λ (y : JoinHistory). y.ended) (t.pages i)) (protocol_of p.client (t.history i)) r.reads (r.stands.endpoints i p r.at).waits (x.telling ++ x.down) (due_is t w i p id session r under)) in
    let completes : Completes t i n a.asked a.rest = record { text = a.text; whole = a.whole; spelled = a.spelled; later = a.later; first = a.are } in
    let fails = fails_off t w i p id session e context a.chances a.steps false a.asked a.later r a.count a.are a.counted f.registry a.steps_are a.cut in
    done (events.ToDaemon n) (Counting (AnswersSome n) w e) t i _ a.steps u can (by_steps t i n a.asked a.rest a.steps a.chances text completes a.count a.closed.legal r.in_context.served a.closed.served a.steps_are, fails)
    (fed_stands t w i p q id e a.steps up [] down (bytes_not_delivered n p.client.out) r.stands r.at r.low r.link (off_so t w i n p q id session e Over context rest text down a.steps false r f endpoint a.closed refl silent))
  where
    by_steps : (t : Ghost) (i n : ℕ) (request_awaited : List AbstractRequest) (rest : List ℕ) (steps : List Transition) (chances : List Chance) (text : List ℕ) → Completes t i n request_awaited rest → length chances ≡ length request_awaited → IsHistory t.system steps → (t.system.job i).served ≡ true → ((after_all t.system steps).job i).served ≡ false →
        ((false ≡ false) × (steps ≡ answers i chances)) ⊎ (IsCutShort false t.users t.infos (t.jobs i) × (steps ≡ answers i chances ++ broken i false ∷ [])) → AnswersSome n t i steps (wired_then t i steps (fed_wires (bytes_not_delivered n (t.wires i).up) [] ((t.wires i).down ++ text) (t.wires i)))
    by_steps t i n request_awaited rest steps chances text completes count legal on off (inl is) = IsOver request_awaited rest text completes (record { chances = chances; count = count; steps_are = is.1 }) (record { legal = legal; then_is = refl }) on off
    by_steps t i n request_awaited rest steps chances text completes count legal on off (inr is) = BreaksOff false request_awaited rest text (answers i chances) completes (record { chances = chances; count = count; steps_are = refl }) is.0 is.1 (record { legal = legal; then_is = refl })

goes_without : (t : Ghost) (w : WorldCore) (i n : ℕ) (p : Endpoint) (id : SessionId) (session : RequestSession DeviceState) (e : Core) (context : RequestContext) (rest text : List ℕ) → Ready t w i p id session → GhostCan t i (events.ToDaemon n) → IsFedOff t w id e Starved context rest text →
    daemon.FeedOutOfMemory (record { users = t.users; context = core_context w.daemon session; before = (t.wires i).asking; piece = delivered_bytes n (t.wires i).up }) context → GhostLeads (events.ToDaemon n) (Counting (AnswersSome n) w e) t i (record { daemon = e; endpoints = slice_set w.endpoints i (after_fed Starved (world.without_sent n p)) })
goes_without t w i n p id session e context rest text r can f g =
    let x = t.wires i in
    let a = is_starved t i (core_context w.daemon session) context x.asking x.up n r.one r.in_context r.may r.spells g in
    let q = after_fed Starved (world.without_sent n p) in
    let up = bytes_not_delivered n x.up in
    let endpoint : IsOverPost n true p q = record { sent = record { client = refl; task = refl; file = refl; pages = refl; finished = refl; was_connected = refl; out_of_memory = inr refl }; link = refl; image = refl; over = refl; starved = λ _. refl; still = λ nay. absurd (let clash : true ≡ false = nay in cc) } in
    let u = wired_then t i a.steps (fed_wires up [] [] x) in
    let silent : IsUnderWay (t.system.job i).client.stage → x.telling ++ [] ≡ [] = λ under. append-nil x.telling ∙ front_none x.telling x.down (nothing_waits t w i p id session r under) in
    let completes : Completes t i n a.asked a.rest = record { text = a.text; whole = a.whole; spelled = a.spelled; later = a.later; first = a.are } in
    let fails = fails_off t w i p id session e context a.chances a.steps true a.asked a.later r a.count a.are a.counted f.registry a.steps_are a.cut in
    done (events.ToDaemon n) (Counting (AnswersSome n) w e) t i _ a.steps u can (by_steps t i n a.asked a.rest a.steps a.chances completes a.count a.closed.legal a.steps_are, fails)
    (fed_stands t w i p q id e a.steps up [] [] (bytes_not_delivered n p.client.out) r.stands r.at r.low r.link (off_so t w i n p q id session e Starved context rest text [] a.steps true r f endpoint a.closed refl silent))
  where
    by_steps : (t : Ghost) (i n : ℕ) (request_awaited : List AbstractRequest) (rest : List ℕ) (steps : List Transition) (chances : List Chance) → Completes t i n request_awaited rest → length chances ≡ length request_awaited → IsHistory t.system steps →
        ((true ≡ false) × (steps ≡ answers i chances)) ⊎ (IsCutShort true t.users t.infos (t.jobs i) × (steps ≡ answers i chances ++ broken i true ∷ [])) → AnswersSome n t i steps (wired_then t i steps (fed_wires (bytes_not_delivered n (t.wires i).up) [] [] (t.wires i)))
    by_steps t i n request_awaited rest steps chances completes count legal (inl is) = absurd (let clash : true ≡ false = is.0 in cc)
    by_steps t i n request_awaited rest steps chances completes count legal (inr is) = BreaksOff true request_awaited rest [] (answers i chances) completes (record { chances = chances; count = count; steps_are = refl }) is.0 is.1 (record { legal = legal; then_is = refl })

-- ---- a connection that stands is that of a job that was begun

alive_at : (t : Ghost) (i : ℕ) (p : Endpoint) (id : SessionId) → p.link ≡ Some id → ((t.system.job i).client.stage ≡ Idle → p.was_connected ≡ false) → (p.was_connected ≡ false → p.link ≡ None) → (t.system.job i).client.stage ≡ Idle → ⊥
alive_at t i p id link idle before e = let clash : None ≡ Some id = sym (before (idle e)) ∙ link in absurd (cc)

alive_by : (t : Ghost) (w : WorldCore) (i : ℕ) (p : Endpoint) (id : SessionId) → WorldRefines t w → slice_get w.endpoints i ≡ Some p → p.link ≡ Some id → (t.system.job i).client.stage ≡ Idle → ⊥
alive_by t w i p id h at link = let s = h.endpoints i p at in alive_at t i p id link s.exchanges.idle (λ nay. (s.means.before nay).0)

slot_there : (o : Option (SessionSlot DeviceState)) (session : RequestSession DeviceState) → (p : Option (SessionSlot DeviceState)) → p ≡ o → session_in p ≡ Some session → (slot : SessionSlot DeviceState) × (p ≡ Some slot) × (slot.session ≡ Some session)
slot_there o session None is e = absurd (let clash : None ≡ Some session = e in cc)
slot_there o session (Some slot) is e = (slot, refl, e)

held_of : (slot : SessionSlot DeviceState) (session : RequestSession DeviceState) → slot.session ≡ Some session → IsFaithfulSessionSlot (Some slot) → AllByRecursion IsFaithfulLease session.held
held_of slot session is h = subst IsFaithfulSession is h

-- ---- it was over before

was_over : (t : Ghost) (w : WorldCore) (i n : ℕ) (p : Endpoint) (id : SessionId) (e : Core) → WorldRefines t w → slice_get w.endpoints i ≡ Some p → i < t.count → p.link ≡ Some id → GhostCan t i (events.ToDaemon n) → (t.system.job i).served ≡ false → e ≡ w.daemon →
    GhostLeads (events.ToDaemon n) (Counting (AnswersSome n) w e) t i (record { daemon = e; endpoints = slice_set w.endpoints i (after_fed Over (world.without_sent n p)) })
was_over t w i n p id e h at low link can off same =
    subst (λ (d : Core). GhostLeads (events.ToDaemon n) (Counting (AnswersSome n) w d) t i (record { daemon = d; endpoints = slice_set w.endpoints i (after_fed Over (world.without_sent n p)) })) (sym same)
    (let s = h.endpoints i p at in
    let me = t.system.job i in
    let x = t.wires i in
    let q = after_fed Over (world.without_sent n p) in
    let up = bytes_not_delivered n x.up in
    let served = subst (λ (o : Option SessionId). IsServed i t.system.make w.daemon o me.served t.system.device (session_by i t.system.device me)) link s.served in
    let linked : me.linked ≡ true = s.means.linked ∙ ap is_some link in
    done (events.ToDaemon n) (Counting (AnswersSome n) w w.daemon) t i _ [] (wired_then t i [] (fed_wires up x.asking x.down x)) can
    (WasOver off refl (record { legal = tt; then_is = refl }), tt)
    (fed_stands t w i p q id w.daemon [] up x.asking x.down (bytes_not_delivered n p.client.out) h at low link (record {
      legal = tt;
      keeps = record { make = refl; places = refl; others = λ j nay. refl; client = refl; linked = refl; image = refl; job = refl; flight = refl; ending = refl };
      up_is = ap (bytes_not_delivered n) s.carries.up;
      endpoint = record { sent = record { client = refl; task = refl; file = refl; pages = refl; finished = refl; was_connected = refl; out_of_memory = inl refl }; link = refl; image = refl; over = ap not (sym off) };
      input = ap (λ (o : Option SessionId). input_in (slot_of_link w.daemon o)) (sym link) ∙ s.carries.asking;
      replies = ap (λ (o : Option SessionId). replies_in (slot_of_link w.daemon o)) (sym link) ∙ s.carries.down;
      served = served;
      leaves = subst (λ (o : Option SessionId). Leaves i t.system.make o w.daemon w.daemon t.system.device t.system.device) link (leaves_core t w i p t.system.device h at (λ k. refl));
      replaces = replaces_same (Some id) w.daemon;
      begun = h.begun i;
      speaks = subst (λ (o : Option SessionId). Speaks (t.jobs i).device me (session_in (slot_of_link w.daemon o))) link s.speaks;
      waits = s.waits;
      pending = s.pends.asking;
      means = record {
        client = refl;
        linked = refl;
        image = refl;
        flight = refl;
        ending = refl;
        calm = s.means.calm;
        unended = s.means.unended;
        alive = alive_by t w i p id h at link;
        up = λ on. absurd (let clash : false ≡ true = sym off ∙ on in cc);
        down = s.means.down;
        flow = s.means.flow;
        starved = s.means.starved;
      };
    })))

-- ---- the event

ready : (t : Ghost) (w : WorldCore) (i n : ℕ) (p : Endpoint) (id : SessionId) → WorldRefines t w → slice_get w.endpoints i ≡ Some p → i < t.count → p.link ≡ Some id → OneRequest t i → GhostCan t i (events.ToDaemon n) → (t.system.job i).served ≡ true → (session : RequestSession DeviceState) × Ready t w i p id session
ready t w i n p id h at low link one can on =
    let s = h.endpoints i p at in
    let me = t.system.job i in
    let x = t.wires i in
    let served = subst (λ (o : Option SessionId). IsServed i t.system.make w.daemon o me.served t.system.device (session_by i t.system.device me)) link s.served in
    let shows : SessionRefines i t.system.make w.daemon id.number t.system.device (session_by i t.system.device me) = subst (λ (b : Bool). IsServed i t.system.make w.daemon (Some id) b t.system.device (session_by i t.system.device me)) on served in
    let slot = slot_there (session_slot_of w.daemon.slots id.number) shows.session (session_slot_of w.daemon.slots id.number) refl shows.stands in
    let spells = s.means.up on in
    let some = asks_some (t.jobs i) me.client me.todo x.asking x.up can.1 spells in
    let lent = subst IsFaithfulSessionSlot slot.1 (slot_all IsFaithfulSessionSlot w.daemon.slots id.number tt h.faithful.lent) in (
      shows.session,
      record {
        stands = h;
        at = at;
        low = low;
        link = link;
        one = one;
        in_context = record {
          shows = shows.shows;
          begun = shows.begun;
          job_is = s.job_is;
          infos = h.is_of.infos;
          apart = h.is_of.apart;
          places = h.is_of.places;
          held = held_of slot.0 shows.session slot.2 lent;
          lying = h.faithful.lying;
          started = h.begun i;
          sound = h.sound;
          asks = h.asks;
          speaks = subst (Speaks (t.jobs i).device me) shows.stands (subst (λ (o : Option SessionId). Speaks (t.jobs i).device me (session_in (slot_of_link w.daemon o))) link s.speaks);
          served = on;
        };
        slot = slot.0;
        slot_is = slot.1;
        going = slot.2;
        next = some.0;
        others = some.1;
        todo = some.2;
        may = may_break i (make_for t.system i) me (device_for t.system i) me.client.stage some.0 some.1 some.2 (h.sound.exchanges i);
        alive = alive_by t w i p id h at link;
        spells = spells;
        some = can.1;
        reads = s.exchanges.reads;
      },
    )

by_fed : (t : Ghost) (w : WorldCore) (i n : ℕ) (p : Endpoint) (id : SessionId) (session : RequestSession DeviceState) (fed : Fed) (e : Core) → Ready t w i p id session → GhostCan t i (events.ToDaemon n) → e ≡ record w.daemon { slots = e.slots; registry = e.registry; stream = e.stream } →
    FeedsIn session t.users id.number (t.wires i).asking w.daemon.slots w.daemon.registry w.daemon.stream (delivered_bytes n (t.wires i).up) fed e.slots e.registry e.stream → GhostLeads (events.ToDaemon n) (Counting (AnswersSome n) w e) t i (record { daemon = e; endpoints = slice_set w.endpoints i (after_fed fed (world.without_sent n p)) })
by_fed t w i n p id session Standing e r can others g = goes_on t w i n p id session e g.context g.rest g.text r can (record { others = others; slots = g.slots_is; registry = g.registry_is; stream = g.stream_is; feeds = g.feeds })
by_fed t w i n p id session Over e r can others g = goes_off t w i n p id session e g.context g.rest g.text r can (record { off = tt; others = others; slots = g.slots_is; registry = g.registry_is }) g.feeds
by_fed t w i n p id session Starved e r can others g = goes_without t w i n p id session e g.context g.rest g.text r can (record { off = tt; others = others; slots = g.slots_is; registry = g.registry_is }) g.feeds

pub piece_leads : (t : Ghost) (w : WorldCore) (i n : ℕ) (p : Endpoint) (id : SessionId) (fed : Fed) (e : Core) (served : Bool) → (t.system.job i).served ≡ served → WorldRefines t w → slice_get w.endpoints i ≡ Some p → i < t.count → p.link ≡ Some id → OneRequest t i → GhostCan t i (events.ToDaemon n) → Feeds id.number w.daemon (delivered_bytes n p.client.out) fed e →
    GhostLeads (events.ToDaemon n) (Counting (AnswersSome n) w e) t i (record { daemon = e; endpoints = slice_set w.endpoints i (after_fed fed (world.without_sent n p)) })
piece_leads t w i n p id fed e true on h at low link one can g =
    let r = ready t w i n p id h at low link one can on in
    let s = h.endpoints i p at in
    let stands : session_in (session_slot_of w.daemon.slots id.number) ≡ Some r.0 = ap session_in r.1.slot_is ∙ r.1.going in
    let fed_in : FeedsIn r.0 w.daemon.users id.number (input_in (session_slot_of w.daemon.slots id.number)) w.daemon.slots w.daemon.registry w.daemon.stream (delivered_bytes n p.client.out) fed e.slots e.registry e.stream =
    feeds_in id.number w.daemon (delivered_bytes n p.client.out) fed e r.0 stands g in
    by_fed t w i n p id r.0 fed e r.1 can g.others.rest
    (subst (λ (us : List Entry). FeedsIn r.0 us id.number (t.wires i).asking w.daemon.slots w.daemon.registry w.daemon.stream (delivered_bytes n (t.wires i).up) fed e.slots e.registry e.stream) (sym h.is_of.users)
    (subst (λ (b : List ℕ). FeedsIn r.0 w.daemon.users id.number (t.wires i).asking w.daemon.slots w.daemon.registry w.daemon.stream (delivered_bytes n b) fed e.slots e.registry e.stream) s.carries.up
    (subst (λ (b : List ℕ). FeedsIn r.0 w.daemon.users id.number b w.daemon.slots w.daemon.registry w.daemon.stream (delivered_bytes n p.client.out) fed e.slots e.registry e.stream) (came_is t w i p id r.0 r.1) fed_in)))
piece_leads t w i n p id fed e false off h at low link one can g =
    let s = h.endpoints i p at in
    let served = subst (λ (o : Option SessionId). IsServed i t.system.make w.daemon o (t.system.job i).served t.system.device (session_by i t.system.device (t.system.job i))) link s.served in
    let none : session_in (session_slot_of w.daemon.slots id.number) ≡ None = (subst (λ (b : Bool). IsServed i t.system.make w.daemon (Some id) b t.system.device (session_by i t.system.device (t.system.job i))) off served).0 in
    let still = g.idle none in
    subst (λ (x : Fed). GhostLeads (events.ToDaemon n) (Counting (AnswersSome n) w e) t i (record { daemon = e; endpoints = slice_set w.endpoints i (after_fed x (world.without_sent n p)) })) (sym still.0) (was_over t w i n p id e h at low link can off still.1)

-- ---- when it can be

or_link : (link : Option SessionId) → IsSome link ⊎ (IsSome link → ⊥)
or_link None = inr (λ e. let clash : false ≡ true = e in absurd (cc))
or_link (Some id) = inl refl

or_empty : (out : List ℕ) → (out ≢ []) ⊎ (out ≢ [] → ⊥)
or_empty [] = inr (λ h. h refl)
or_empty (b ∷ out) = inl (λ e. let clash : b ∷ out ≡ [] = e in absurd (cc))

or_zero : (n : ℕ) → (0 < n) ⊎ (0 < n → ⊥)
or_zero zero = inr (λ h. omega (arith, h))
or_zero (suc n) = inl (omega arith)

or_all : (A B C : Type 0) → A ⊎ (A → ⊥) → B ⊎ (B → ⊥) → C ⊎ (C → ⊥) → (A × B × C) ⊎ (A × B × C → ⊥)
or_all A B C (inl a) (inl b) (inl c) = inl (a, b, c)
or_all A B C (inr a) b c = inr (λ h. a h.0)
or_all A B C (inl a) (inr b) c = inr (λ h. b h.1)
or_all A B C (inl a) (inl b) (inr c) = inr (λ h. c h.2)

some_link : (link : Option SessionId) → is_some link ≡ true → IsSome link
some_link None e = absurd (let clash : false ≡ true = e in cc)
some_link (Some id) e = refl

linked_by : (link : Option SessionId) → IsSome link → is_some link ≡ true
linked_by None e = absurd (let clash : false ≡ true = e in cc)
linked_by (Some id) e = refl

by_link : (t : Ghost) (w : WorldCore) (i n : ℕ) (p : Endpoint) (link : Option SessionId) → WorldRefines t w → slice_get w.endpoints i ≡ Some p → i < t.count → OneRequest t i → p.link ≡ link → GhostCan t i (events.ToDaemon n) → (e : Core) (q : Endpoint) → world.IfLinked p.link (λ k. world.FeedsPiece k n w.daemon p e q) →
    GhostLeads (events.ToDaemon n) (Counting (AnswersSome n) w e) t i (record { daemon = e; endpoints = slice_set w.endpoints i q })
by_link t w i n p None h at low one link can e q d = absurd (subst (λ (x : Option SessionId). world.IfLinked x (λ k. world.FeedsPiece k n w.daemon p e q)) link d)
by_link t w i n p (Some id) h at low one link can e q d =
    let f : world.FeedsPiece id.number n w.daemon p e q = subst (λ (x : Option SessionId). world.IfLinked x (λ k. world.FeedsPiece k n w.daemon p e q)) link d in
    subst (λ (x : Endpoint). GhostLeads (events.ToDaemon n) (Counting (AnswersSome n) w e) t i (record { daemon = e; endpoints = slice_set w.endpoints i x })) (sym f.2) (piece_leads t w i n p id f.0 e (t.system.job i).served refl h at low link one can f.1)

pub delivery_counts : ((t : Ghost) (w : WorldCore) (i : ℕ) → WorldRefines t w → i < t.count → OneRequest t i) → (n : ℕ) → DecidesIn (events.ToDaemon n) (Counting (AnswersSome n))
delivery_counts all n t w i p h at low =
    let s = h.endpoints i p at in
    record {
      can = λ can. (some_link p.link (sym s.means.linked ∙ can.0), (λ e. can.1 (sym s.carries.up ∙ e)), can.2);
      back = λ can. (s.means.linked ∙ linked_by p.link can.0, (λ e. can.1 (s.carries.up ∙ e)), can.2);
      either = or_all (IsSome p.link) (p.client.out ≢ []) (0 < n) (or_link p.link) (or_empty p.client.out) (or_zero n);
      does = λ can e q d. by_link t w i n p p.link h at low (all t w i h low) refl (s.means.linked ∙ linked_by p.link can.0, (λ e. can.1 (s.carries.up ∙ e)), can.2) e q d;
    }

pub delivery_decides : ((t : Ghost) (w : WorldCore) (i : ℕ) → WorldRefines t w → i < t.count → OneRequest t i) → (n : ℕ) → DecidesAt (events.ToDaemon n) (AnswersSome n)
delivery_decides all n = plain_decides (events.ToDaemon n) (AnswersSome n) (delivery_counts all n)
