-- NOBODY IS STUCK: a job that runs has a next move.
use Rattle.std.specs.Prelude.{IsSome, ◌<◌, ◌≤◌, not}
use Rattle.std.proofs.Common.{◌≡◌, ◌≢◌, ◌⊎◌, inl, inr, ◌∙◌, ℕ, ◌+◌, List, [], ◌∷◌, ◌++◌, true, false, Option, Some, None, option_map, refl, sym, ap, subst, map, length, slice_get, arith, append-nil, Bool}
use Rattle.std.proofs.lemmas.List.{length-append}
use Rattle.sane_fixed.specs.declared.status.Status.{Status}
use Rattle.data_records.specs.Records.{RecordsContinue, HasEnded, IsInBody, IsRecords, all_counted, end_record}
use Rattle.data_records.specs.declared.records.RecordPhase.{RecordPhase}
use Rattle.data_records.specs.declared.records.RecordPhase.TheVariants as phases
use Rattle.sane_fixed.specs.Status.{status_code}
use Rattle.frame_join.specs.FrameHistory.{JoinHistory}
use Rattle.wire_message.specs.declared.message.Request.{Request as Asked}
use Rattle.net_client.specs.Sending.{requests_text}
use Rattle.net_client.specs.ClientStates.{protocol_of}
use Rattle.client_replies.specs.ProtocolStates.{target_of, is_running}
use Rattle.client_refines.specs.RequestRefinement.{AreRequests, asks_of}
use Rattle.scan_job.specs.declared.job.Job.{Job}
use Rattle.system_model.specs.AbstractMessages.{AbstractReply, AbstractRequest}
use Rattle.system_model.specs.Client as model
use Rattle.system_model.specs.Client.{Done, Ended, Idle, ClientView, Running, JobStage, request_awaited}
use Rattle.system_model.specs.Daemon.{TransferState, Quiet, Streaming, Waiting}
use Rattle.system_model.specs.Invariants as sound
use Rattle.system_model.specs.Sync as sync
use Rattle.system_model.specs.SystemStates.{make_for, device_for}
use Rattle.system_model.specs.Transitions.{IsUnderWay}
use Rattle.event_world.specs.declared.event.Event.{Event as AnyEvent}
use Rattle.event_world.specs.declared.event.JobEvent.{JobEvent}
use Rattle.event_world.specs.declared.event.JobEvent.TheVariants as events
use Rattle.event_world.specs.declared.endpoint.Image.{Image}
use Rattle.event_world.specs.declared.endpoint.Endpoint.{Endpoint}
use Rattle.event_world.specs.JobEvents as world
use Rattle.event_world.specs.JobMoves.{HasNone, IsNext, in_order, IsFirstMove}
use Rattle.event_world.specs.Worlds.{WorldCore}
use Rattle.world_refines.specs.GhostStates.{Ghost, place_of_info}
use Rattle.world_refines.specs.Wires.{CarriesFlight, IsDialled, FlightMatches, FlowsAt, SpellsAsked, SpellsReplies}
use Rattle.world_refines.specs.WorldPending.{HasNoRequest}
use Rattle.world_refines.specs.WorldRefinement.{WorldRefines, image_bytes}
use Rattle.world_refines.specs.GhostEvents.{GhostCan, HasSomeBytes}
use Rattle.world_refines.specs.WorldPromises.{NobodyIsStuck, LossesAreExplained}
use Rattle.world_refines.proofs.job_events.ControlConnections.{connect_decides}
use Rattle.world_refines.proofs.requests.Cut.{is_limited, sent}
use Rattle.world_refines.proofs.frames.Dialling.{dial_decides}
use Rattle.world_refines.proofs.requests.FedEvent.{delivery_decides}
use Rattle.world_refines.proofs.replies.Hearing.{deliver_decides}
use Rattle.world_refines.proofs.replies.Heeded.{comes_front}
use Rattle.world_refines.proofs.state.ListEntries.{within}
use Rattle.world_refines.proofs.job_events.Losing.{control_decides}
use Rattle.world_refines.proofs.state.GhostClients.{runs_under}
use Rattle.world_refines.proofs.requests.OneAnswer.{all_requests}
use Rattle.world_refines.proofs.frames.Seeing.{data_decides, is_reader}
use Rattle.world_refines.proofs.frames.TurnEvents.{turn_decides}
use Rattle.std.specs.List.{AllByRecursion}
use Rattle.system_model.specs.Causes.{IsCauseAmong, WasUnsaid}
use Rattle.saned_core.specs.DaemonStates.{Core}
use Rattle.event_world.specs.declared.event.Event.TheVariants.{Connect, ToDaemon, ToClient, DataConnect, DataTurn, DataToClient, LoseControl, LoseImage, Cancel}

-- ---- a reader that has not ended wants more

ending_long : (status : ℕ) → length (end_record status) ≡ 5
ending_long status = refl

records_long : (text payload : List ℕ) (status : ℕ) → IsRecords text payload status → 5 ≤ length text
records_long text payload status r =
    let all : length text ≡ length (all_counted r.bodies) + length (end_record status) = ap length r.text_is ∙ length-append (all_counted r.bodies) (end_record status) in
    let five : length (end_record status) ≡ 5 = ending_long status in
    omega (arith, all, five)

body_long : (left : ℕ) (payload : List ℕ) (status : ℕ) → IsInBody left [] payload status → ⊥
body_long left payload status b =
    let long : 5 ≤ length b.rest = records_long b.rest b.other status b.behind in
    let all : 0 ≡ length b.body + length b.rest = ap (λ (l : List ℕ). length l) b.text_is ∙ length-append b.body b.rest in
    omega (arith, long, all)

short : (text payload : List ℕ) (status : ℕ) → length text ≤ 3 → IsRecords text payload status → ⊥
short text payload status few r = let long : 5 ≤ length text = records_long text payload status r in omega (arith, few, long)

continues_some : (phase : RecordPhase) (payload : List ℕ) (status : ℕ) → (HasEnded phase → ⊥) → RecordsContinue phase [] payload status → ⊥
continues_some phases.Head payload status n c = short [] payload status (omega arith) c
continues_some (phases.Head1 a) payload status n c = short (a ∷ []) payload status (omega arith) c
continues_some (phases.Head2 a b) payload status n c = short (a ∷ b ∷ []) payload status (omega arith) c
continues_some (phases.Head3 a b d) payload status n c = short (a ∷ b ∷ d ∷ []) payload status (omega arith) c
continues_some (phases.Body left) payload status n c = body_long left payload status c
continues_some phases.Status payload status n c = let clash : [] ≡ status ∷ [] = c.0 in absurd (cc)
continues_some (phases.Ended found) payload status n c = n tt

carried_some : (phase : RecordPhase) (text flight : List ℕ) (closing : Option Status) (status : Status) → closing ≡ Some status → (HasEnded phase → ⊥) → CarriesFlight phase text flight closing → text ≢ []
carried_some phase text flight closing status e n c none =
    let d : CarriesFlight phase [] flight (Some status) = subst (λ (x : List ℕ). CarriesFlight phase x flight (Some status)) none (subst (λ (o : Option Status). CarriesFlight phase text flight o) e c) in
    continues_some phase flight (status_code d.0) n d.2

-- ---- by the model

-- some move of the job can come, or its session is over
abbrev pub CanMove : Ghost → ℕ → Type 0
CanMove t i =
    GhostCan t i events.Connect ⊎ (GhostCan t i (events.ToDaemon 4096) ⊎ (GhostCan t i (events.ToClient 4096) ⊎ (GhostCan t i events.DataConnect ⊎ (GhostCan t i (events.DataToClient 4096) ⊎ (GhostCan t i events.DataTurn ⊎ (((t.system.job i).linked ≡ true) × ((t.system.job i).served ≡ false)))))))

-- its request is on the way, and not all of it has come to its session
request_left : (job : Job) (m : ClientView) (todo : List AbstractRequest) (asking up : List ℕ) (r : AbstractRequest) → todo ≡ r ∷ [] → HasNoRequest asking → SpellsAsked job m todo (asking ++ up) → up ≢ []
request_left job m todo asking up r e n s none =
    let all : asking ++ up ≡ asking = ap (λ (l : List ℕ). asking ++ l) none ∙ append-nil asking in
    let spelled : SpellsAsked job m (r ∷ []) asking = subst (λ (rs : List AbstractRequest). SpellsAsked job m rs asking) e (subst (λ (l : List ℕ). SpellsAsked job m todo l) all s) in
    by_requests spelled.requests spelled.text spelled.same
  where
    by_requests : (qs : List Asked) → requests_text qs ≡ Some asking → AreRequests (target_of job) qs (asks_of 0 m.known (r ∷ [])) → ⊥
    by_requests [] text same = same
    by_requests (q ∷ qs) text same = let first = sent q qs asking text in n first.front first.back q first.whole (is_limited first.front q first.spelled)

asks_move : (t : Ghost) (w : WorldCore) (i : ℕ) (p : Endpoint) (g : model.AbstractProgress) (r : AbstractRequest) → WorldRefines t w → slice_get w.endpoints i ≡ Some p → request_awaited g ≡ r ∷ [] → sound.RequestInFlight i (make_for t.system i) (t.system.job i) (device_for t.system i) g → CanMove t i
asks_move t w i p g r h at only a =
    let s = h.endpoints i p at in
    inr (inl (a.linked, request_left (t.jobs i) (t.system.job i).client (t.system.job i).todo (t.wires i).asking (t.wires i).up r (a.todo ∙ only) s.pends.asking (s.means.up a.served), omega arith))

-- the data of its frame come
has_image : (o : Option Image) (text : List ℕ) → option_map image_bytes o ≡ Some text → (image : Image) × (o ≡ Some image) × (image.bytes ≡ text)
has_image None text e = absurd (let clash : None ≡ Some text = e in cc)
has_image (Some image) text e = (image, refl, let same : Some image.bytes ≡ Some text = e in cc)

abbrev flow_at : Ghost → ℕ → Endpoint → TransferState → Type 0
flow_at t i p c = FlowsAt c p.client.progress p.client.phase (t.wires i).image (t.system.job i).session.flight (t.system.job i).session.ending

ended_move : (t : Ghost) (w : WorldCore) (i : ℕ) (p : Endpoint) (status : Status) → WorldRefines t w → slice_get w.endpoints i ≡ Some p → i < t.count → is_running p.client.outcome ≡ true → (t.system.job i).session.transfer ≡ Quiet → (t.system.job i).session.ending ≡ Some status → flow_at t i p (t.system.job i).session.transfer → CanMove t i
ended_move t w i p status h at low runs quiet over flow =
    let s = h.endpoints i p at in
    let d : IsDialled p.client.progress p.client.phase (t.wires i).image (t.system.job i).session.flight (t.system.job i).session.ending = subst (λ (c : TransferState). flow_at t i p c) quiet flow in
    let image = has_image p.image d.text (s.carries.image ∙ d.image_is) in
    let reader = is_reader t w i p image.0 h at low image.1 runs in
    let some = carried_some p.client.phase d.text (t.system.job i).session.flight (t.system.job i).session.ending status over (s.pends.reading reader.receiving) d.carried in
    inr (inr (inr (inr (inl (subst (λ (o : Option (List ℕ)). HasSomeBytes o) (sym d.image_is) some, omega arith)))))

flows_move : (t : Ghost) (w : WorldCore) (i : ℕ) (p : Endpoint) (params : _) (heard : List ℕ) → (t.system.job i).client.stage ≡ Running (model.Imaging params heard) → flow_at t i p (t.system.job i).session.transfer → ((t.system.job i).session.transfer ≡ Waiting) ⊎ ((t.system.job i).session.transfer ≡ Streaming) → CanMove t i
flows_move t w i p params heard stage flow (inl waiting) = inr (inr (inr (inl (waiting, (params, heard, stage)))))
flows_move t w i p params heard stage flow (inr streaming) =
    let d : IsDialled p.client.progress p.client.phase (t.wires i).image (t.system.job i).session.flight (t.system.job i).session.ending = subst (λ (c : TransferState). flow_at t i p c) streaming flow in
    inr (inr (inr (inr (inr (inl (subst IsSome (sym d.image_is) refl, inl streaming))))))

imaging_move : (t : Ghost) (w : WorldCore) (i : ℕ) (p : Endpoint) (params : _) (heard : List ℕ) → WorldRefines t w → slice_get w.endpoints i ≡ Some p → i < t.count → is_running p.client.outcome ≡ true → (t.system.job i).client.stage ≡ Running (model.Imaging params heard) →
    sync.Images i (make_for t.system i) (t.system.job i).session (t.system.job i).client (device_for t.system i) params heard → CanMove t i
imaging_move t w i p params heard h at low runs stage images = by_carried images.carries
  where
    flow : flow_at t i p (t.system.job i).session.transfer
    flow = subst (λ (st : JobStage). FlightMatches st (t.system.job i).session.transfer p.client.progress p.client.phase (t.wires i).image (t.system.job i).session.flight (t.system.job i).session.ending) stage (h.endpoints i p at).means.flow

    by_carried : sync.DataUnderWay i (make_for t.system i) (t.system.job i).session (device_for t.system i) images.continues.begin.options images.more heard images.rest → CanMove t i
    by_carried (inl flows) = flows_move t w i p params heard stage flow flows.transfer
    by_carried (inr (inl out)) = ended_move t w i p _ h at low runs out.transfer out.ending flow
    by_carried (inr (inr (inl cut))) = ended_move t w i p _ h at low runs cut.transfer cut.ending flow
    by_carried (inr (inr (inr fails))) = ended_move t w i p fails.status h at low runs fails.transfer fails.ending flow

-- a reply is on the way, and not all of it has come to its client
told_move : (t : Ghost) (w : WorldCore) (i : ℕ) (p : Endpoint) (g : model.AbstractProgress) → WorldRefines t w → slice_get w.endpoints i ≡ Some p → is_running p.client.outcome ≡ true → IsUnderWay (t.system.job i).client.stage → sound.ReplyInFlight i (make_for t.system i) (t.system.job i) (device_for t.system i) g → CanMove t i
told_move t w i p g h at runs under told =
    let s = h.endpoints i p at in
    let x = t.wires i in
    let spelled = subst (λ (due : List AbstractReply). SpellsReplies (place_of_info t.infos) p.client.progress due (x.telling ++ x.down)) told.due (s.means.down under) in
    let f = comes_front (place_of_info t.infos) p.client.progress told.reply (x.telling ++ x.down) spelled in
    let some : x.down ≢ [] = λ none. s.pends.telling runs f.front f.back f.answer (sym (ap (λ (l : List ℕ). x.telling ++ l) none ∙ append-nil x.telling) ∙ f.text_is) (record { procedure = f.procedure; awaited_is = f.awaited_is; spelled = f.spelled }) in
    inr (inr (inl (told.linked, some, omega arith)))

asking_move : (t : Ghost) (w : WorldCore) (i : ℕ) (p : Endpoint) (g : model.AbstractProgress) → WorldRefines t w → slice_get w.endpoints i ≡ Some p → i < t.count → is_running p.client.outcome ≡ true → (t.system.job i).client.stage ≡ Running g → sound.RequestInFlight i (make_for t.system i) (t.system.job i) (device_for t.system i) g → CanMove t i
asking_move t w i p (model.Imaging params heard) h at low runs stage a = imaging_move t w i p params heard h at low runs stage a.in_sync
asking_move t w i p g h at low runs stage a = asks_move t w i p g _ h at refl a

by_stage : (t : Ghost) (w : WorldCore) (i : ℕ) (p : Endpoint) (st : JobStage) → WorldRefines t w → slice_get w.endpoints i ≡ Some p → i < t.count → is_running p.client.outcome ≡ true → (t.system.job i).client.stage ≡ st → IsUnderWay st → sound.StageInvariant i (make_for t.system i) (t.system.job i) (device_for t.system i) st → CanMove t i
by_stage t w i p Idle h at low runs stage u k = inl (low, stage)
by_stage t w i p (Running g) h at low runs stage u (inl a) = asking_move t w i p g h at low runs stage a
by_stage t w i p (Running g) h at low runs stage u (inr (inl told)) = told_move t w i p g h at runs (subst IsUnderWay (sym stage) tt) told
by_stage t w i p (Running g) h at low runs stage u (inr (inr dead)) = inr (inr (inr (inr (inr (inr (dead.linked, dead.served))))))
by_stage t w i p Done h at low runs stage u k = absurd u
by_stage t w i p (Ended status why) h at low runs stage u k = absurd u

can_move : (t : Ghost) (w : WorldCore) (i : ℕ) (p : Endpoint) → WorldRefines t w → slice_get w.endpoints i ≡ Some p → i < t.count → is_running p.client.outcome ≡ true → CanMove t i
can_move t w i p h at low runs =
    let s = h.endpoints i p at in
    let me = t.system.job i in
    let under = runs_under (place_of_info t.infos) (target_of (t.jobs i)) me.session.job (map (λ (x : JoinHistory). x.ended) (t.pages i)) (protocol_of p.client (t.history i)) me.client s.exchanges.reads runs in
    by_stage t w i p me.client.stage h at low runs refl under (h.sound.exchanges i)

-- ---- in a world

-- none of the moves can come, and yet one does
none_comes : (t : Ghost) (w : WorldCore) (i : ℕ) (p : Endpoint) → WorldRefines t w → slice_get w.endpoints i ≡ Some p → i < t.count → HasNone w.daemon p in_order → CanMove t i → ⊥
none_comes t w i p h at low none (inl can) = none.0 ((connect_decides t w i p h at low).can can)
none_comes t w i p h at low none (inr (inl can)) = none.1.0 ((delivery_decides (λ t w i h low. all_requests t i) 4096 t w i p h at low).can can)
none_comes t w i p h at low none (inr (inr (inl can))) = none.1.1.0 ((deliver_decides 4096 t w i p h at low).can can)
none_comes t w i p h at low none (inr (inr (inr (inl can)))) = none.1.1.1.0 ((dial_decides t w i p h at low).can can)
none_comes t w i p h at low none (inr (inr (inr (inr (inl can))))) = none.1.1.1.1.0 ((data_decides 4096 t w i p h at low).can can)
none_comes t w i p h at low none (inr (inr (inr (inr (inr (inl can)))))) = none.1.1.1.1.1.0 ((turn_decides t w i p h at low).can can)
none_comes t w i p h at low none (inr (inr (inr (inr (inr (inr dead)))))) =
    let s = h.endpoints i p at in none.1.1.1.1.1.1 (s.means.over dead.0 ∙ ap not dead.1) ((control_decides t w i p h at low).can dead.0)

by_action : (t : Ghost) (w : WorldCore) (i : ℕ) (p : Endpoint) (action : Option JobEvent) (event : Option AnyEvent) → WorldRefines t w → slice_get w.endpoints i ≡ Some p → i < t.count → is_running p.client.outcome ≡ true → event ≡ option_map (world.job_event_of i) action → IsNext w.daemon p in_order action → IsSome event
by_action t w i p None event h at low runs is none = absurd (none_comes t w i p h at low none (can_move t w i p h at low runs))
by_action t w i p (Some action) event h at low runs is first = subst IsSome (sym is) refl

pub nobody_is_stuck : NobodyIsStuck
nobody_is_stuck t w i p event h at next = (
  λ runs. by_action t w i p next.job_event event h at (subst (λ (n : ℕ). i < n) (sym h.is_of.count) (within w.endpoints i p at)) runs next.event_is (next.runs runs),
  λ over. next.event_is ∙ ap (option_map (world.job_event_of i)) (next.over over),
)

-- ---- the loss of its control connection

-- none of these moves comes first, so its session is over
last_of : (d : Core) (p : Endpoint) (ms : List JobEvent) (x : JobEvent) → AllByRecursion (λ (m : JobEvent). x ≡ m → ⊥) ms → IsFirstMove d p ms x → p.is_over ≡ true
last_of d p [] x none h = h.1
last_of d p (m ∷ ms) x none (inl h) = absurd (none.0 h.1)
last_of d p (m ∷ ms) x none (inr h) = last_of d p ms x none.1 h.1

no_other : AllByRecursion (λ (m : JobEvent). events.LoseControl ≡ m → ⊥) in_order
no_other = (
  (λ e. let clash : events.LoseControl ≡ events.Connect = e in cc),
  (
    (λ e. let clash : events.LoseControl ≡ events.ToDaemon 4096 = e in cc),
    (
      (λ e. let clash : events.LoseControl ≡ events.ToClient 4096 = e in cc),
      (
        (λ e. let clash : events.LoseControl ≡ events.DataConnect = e in cc),
        (
          (λ e. let clash : events.LoseControl ≡ events.DataToClient 4096 = e in cc),
          ((λ e. let clash : events.LoseControl ≡ events.DataTurn = e in cc), tt),
        ),
      ),
    ),
  ),
)

abbrev IsExplainedAt : Ghost → ℕ → Endpoint → Type 0
IsExplainedAt t i p = (p.out_of_memory ≡ true) ⊎ (IsUnderWay (t.system.job i).client.stage × IsCauseAmong WasUnsaid (t.system.job i).session.met)

-- its session does not stand
no_session : {A : Type 0} (t : Ghost) (w : WorldCore) (i : ℕ) (p : Endpoint) → WorldRefines t w → slice_get w.endpoints i ≡ Some p → p.is_over ≡ true → (t.system.job i).linked ≡ true → (t.system.job i).served ≡ true → A
no_session t w i p h at over linked served = absurd (let clash : true ≡ false = sym over ∙ ((h.endpoints i p at).means.over linked ∙ ap not served) in cc)

explained_by : (t : Ghost) (w : WorldCore) (i : ℕ) (p : Endpoint) (st : JobStage) → WorldRefines t w → slice_get w.endpoints i ≡ Some p → (GhostCan t i events.Connect → ⊥) → i < t.count → p.is_over ≡ true → (t.system.job i).client.stage ≡ st → IsUnderWay st → sound.StageInvariant i (make_for t.system i) (t.system.job i) (device_for t.system i) st → IsExplainedAt t i p
explained_by t w i p Idle h at never low over stage u k = absurd (never (low, stage))
explained_by t w i p (Running g) h at never low over stage u (inl a) = no_session t w i p h at over a.linked a.served
explained_by t w i p (Running g) h at never low over stage u (inr (inl told)) = no_session t w i p h at over told.linked told.served
explained_by t w i p (Running g) h at never low over stage u (inr (inr dead)) =
    elim dead.cause [
      | inl memory ↦ inl ((h.endpoints i p at).means.starved memory)
      | inr unsaid ↦ inr (subst IsUnderWay (sym stage) tt, unsaid)
    ]
explained_by t w i p Done h at never low over stage u k = absurd u
explained_by t w i p (Ended status why) h at never low over stage u k = absurd u

explained_first : (t : Ghost) (w : WorldCore) (i : ℕ) (p : Endpoint) → WorldRefines t w → slice_get w.endpoints i ≡ Some p → is_running p.client.outcome ≡ true → IsFirstMove w.daemon p in_order events.LoseControl → IsExplainedAt t i p
explained_first t w i p h at runs (inl first) = absurd (let clash : events.LoseControl ≡ events.Connect = first.1 in cc)
explained_first t w i p h at runs (inr first) =
    let s = h.endpoints i p at in
    let me = t.system.job i in
    let low : i < t.count = subst (λ (n : ℕ). i < n) (sym h.is_of.count) (within w.endpoints i p at) in
    let under = runs_under (place_of_info t.infos) (target_of (t.jobs i)) me.session.job (map (λ (x : JoinHistory). x.ended) (t.pages i)) (protocol_of p.client (t.history i)) me.client s.exchanges.reads runs in
    explained_by t w i p me.client.stage h at (λ can. first.0 ((connect_decides t w i p h at low).can can)) low (last_of w.daemon p in_order events.LoseControl no_other (inr first)) refl under (h.sound.exchanges i)

is_loss : (i : ℕ) (x : JobEvent) → Some (LoseControl i) ≡ Some (world.job_event_of i x) → x ≡ events.LoseControl
is_loss i events.LoseControl e = refl
is_loss i events.Connect e = absurd (let clash : Some (LoseControl i) ≡ Some (Connect i) = e in cc)
is_loss i (events.ToDaemon n) e = absurd (let clash : Some (LoseControl i) ≡ Some (ToDaemon i n) = e in cc)
is_loss i (events.ToClient n) e = absurd (let clash : Some (LoseControl i) ≡ Some (ToClient i n) = e in cc)
is_loss i events.DataConnect e = absurd (let clash : Some (LoseControl i) ≡ Some (DataConnect i) = e in cc)
is_loss i events.DataTurn e = absurd (let clash : Some (LoseControl i) ≡ Some (DataTurn i) = e in cc)
is_loss i (events.DataToClient n) e = absurd (let clash : Some (LoseControl i) ≡ Some (DataToClient i n) = e in cc)
is_loss i events.LoseImage e = absurd (let clash : Some (LoseControl i) ≡ Some (LoseImage i) = e in cc)
is_loss i events.Cancel e = absurd (let clash : Some (LoseControl i) ≡ Some (Cancel i) = e in cc)

explained_move : (t : Ghost) (w : WorldCore) (i : ℕ) (p : Endpoint) (x : Option JobEvent) (b : Bool) → is_running p.client.outcome ≡ b → WorldRefines t w → slice_get w.endpoints i ≡ Some p → Some (LoseControl i) ≡ option_map (world.job_event_of i) x → (b ≡ true → IsNext w.daemon p in_order x) → (b ≡ false → x ≡ None) → IsExplainedAt t i p
explained_move t w i p None b runs h at is first over = absurd (let clash : Some (LoseControl i) ≡ None = is in cc)
explained_move t w i p (Some x) true runs h at is first over = explained_first t w i p h at runs (subst (IsFirstMove w.daemon p in_order) (is_loss i x is) (first refl))
explained_move t w i p (Some x) false runs h at is first over = absurd (let clash : Some x ≡ None = over refl in cc)

pub losses_explained : LossesAreExplained
losses_explained t w i p h at next = explained_move t w i p next.job_event (is_running p.client.outcome) refl h at next.event_is next.runs next.over
