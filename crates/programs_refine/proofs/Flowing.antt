-- Whether a frame flows: no request makes it, and what else is done to its session.
use Rattle.std.specs.Prelude.{◌==◌, ◌+◌, if◌then◌else◌, Result, Ok, Err}
use Rattle.std.specs.Option.{option_and_then, option_map}
use Rattle.std.proofs.Common.{◌≡◌, ◌≢◌, ◌∙◌, ◌⊎◌, inl, inr, ℕ, Bool, true, false, Option, Some, None, List, [], ◌∷◌, ◌++◌, refl, sym, ap, subst}
use Rattle.sane_fixed.specs.declared.status.Status.{Status}
use Rattle.sane_fixed.specs.declared.status.Status.TheVariants as statuses
use Rattle.sane_fixed.specs.declared.byte_order.ByteOrder.{ByteOrder}
use Rattle.sane_fixed.specs.declared.no_mem.NoMem.{NoMem}
use Rattle.device_api.specs.State.{DeviceState}
use Rattle.md5_auth.specs.declared.users.Entry.{Entry}
use Rattle.dispatch.specs.declared.table.place.Lease.{Lease}
use Rattle.dispatch.specs.Table.{find_name, take_answer}
use Rattle.wire_message.specs.declared.message.Request.{Request}
use Rattle.wire_message.specs.declared.message.Request.TheVariants as requests
use Rattle.wire_message.specs.declared.message.Reply.{Reply}
use Rattle.saned_requests.specs.declared.request_answer.RequestAnswer.{RequestAnswer}
use Rattle.saned_requests.specs.declared.session.DataPhase.{DataPhase}
use Rattle.saned_requests.specs.declared.session.DataPhase.TheVariants.{Quiet, Waiting, Streaming, Ending}
use Rattle.saned_requests.specs.declared.session.AwaitedAuthorization.{AwaitedAuthorization}
use Rattle.saned_requests.specs.declared.session.Session.{Session}
use Rattle.saned_requests.specs.Holding.{free_word, held_by}
use Rattle.saned_requests.specs.RequestAnswers.{Answers, AnswersAwaiting, AnswersBy, AnswersFree, AnswersGreeted, AnswersStart, OpensAt, RequestContext, StartsDevice, StartsInDataPhase, StartsLease, cancel_held, close_lease, data_phase_off, no_mem, reply_if_allowed, reply_of_take, start_answer, take_into, without_awaited}
use Rattle.saned_core.specs.declared.session_slot.Fed.{Fed}
use Rattle.saned_core.specs.declared.session_slot.Fed.TheVariants as feds
use Rattle.saned_core.specs.declared.session_slot.FrameState.{FrameState}
use Rattle.saned_core.specs.declared.session_slot.FrameState.TheVariants as frames
use Rattle.saned_core.specs.declared.session_slot.DataStep.{DataStep}
use Rattle.saned_core.specs.declared.session_slot.DataStep.TheVariants.{Idle, Bytes, Last}
use Rattle.saned_core.specs.DaemonLimits.{HaveOwnNumbers}
use Rattle.saned_core.specs.DaemonStates.{Core, after_lost, frame_in, frame_state_of, is_waiting, lost_from, no_more, on_session, on_session_slot, session_in, session_of, session_slot_of, slot_if_open, with_session}
use Rattle.saned_core.specs.Feeding.{AnswersAll, EndsWithin, FeedProgress, Feeds, HasNoSession, answered_slot, core_context, ended_slot, no_input}
use Rattle.saned_core.specs.Turns.{Records, StreamsFrom, StreamsIn, Turns, TurnsSessions, data_phase_after}
use Rattle.saned_core.proofs.Apart.{apart}
use Rattle.in_flight.proofs.Alike.{keeps_none}
use Rattle.in_flight.proofs.Slots.{Change, KeepsNumber, Slot, decide, own_slot}
use Rattle.event_world.specs.JobEvents.{IsFlowing, frame_state_at}
use Rattle.programs_refine.proofs.Delivered.{slot_was}

pub flows_or_not : (f : FrameState) → IsFlowing f ⊎ (IsFlowing f → ⊥)
flows_or_not frames.Quiet = inr (λ x. x)
flows_or_not frames.Waiting = inr (λ x. x)
flows_or_not frames.Streaming = inl tt
flows_or_not frames.Ending = inl tt

pub waits_as : (f : FrameState) → is_waiting f ≡ true → f ≡ frames.Waiting
waits_as frames.Quiet e = absurd (let wrong : false ≡ true = e in cc)
waits_as frames.Waiting e = refl
waits_as frames.Streaming e = absurd (let wrong : false ≡ true = e in cc)
waits_as frames.Ending e = absurd (let wrong : false ≡ true = e in cc)

-- ---- a request makes no frame flow

abbrev Flows : DataPhase → Type 0
Flows c = IsFlowing (frame_state_of c)

abbrev FlowsNoMore : DataPhase → DataPhase → Type 0
FlowsNoMore old new = Flows new → Flows old

same_phase : (old new : DataPhase) → new ≡ old → FlowsNoMore old new
same_phase old new e f = subst Flows e f

same_context : (d new : RequestContext) (c : DataPhase) → new.session.transfer ≡ c → c ≡ d.session.transfer → FlowsNoMore d.session.transfer new.session.transfer
same_context d new c e f = same_phase d.session.transfer new.session.transfer (e ∙ f)

take_same : (d : RequestContext) (name : List ℕ) (word : Option ℕ) → (take_into d name word).1.session.transfer ≡ d.session.transfer
take_same d name None = refl
take_same d name (Some word) = by (take_answer d.registry name)
  where
    by : (r : Result (Lease DeviceState) Status) → (reply_of_take d word r).1.session.transfer ≡ d.session.transfer
    by (Ok lease) = refl
    by (Err status) = refl

opens_same : (users : List Entry) (d : RequestContext) (name : List ℕ) (word place : Option ℕ) (said : RequestAnswer) (new : RequestContext) → OpensAt users d name word place said new → new.session.transfer ≡ d.session.transfer
opens_same users d name None place said new o = ap (λ (x : RequestContext). x.session.transfer) o.1
opens_same users d name (Some word) None said new o = ap (λ (x : RequestContext). x.session.transfer) o.1
opens_same users d name (Some word) (Some place) said new (inl a) = ap (λ (x : RequestContext). x.session.transfer) a.new_is
opens_same users d name (Some word) (Some place) said new (inr n) = ap (λ (x : RequestContext). x.session.transfer) n.taken.1 ∙ take_same d name (free_word d.session.held)

off_flows : (c : DataPhase) (word : ℕ) → FlowsNoMore c (data_phase_off c word)
off_flows Quiet word f = f
off_flows (Waiting w) word f = by (w == word) f
  where
    by : (b : Bool) → Flows (if b then Quiet else Waiting w) → ⊥
    by true g = g
    by false g = g
off_flows (Streaming w) word f = tt
off_flows Ending word f = tt

closes_flow : (d : RequestContext) (word : ℕ) (lease : Option (Lease DeviceState)) → FlowsNoMore d.session.transfer (close_lease d word lease).session.transfer
closes_flow d word None f = f
closes_flow d word (Some lease) f = off_flows d.session.transfer word f

cancels_flow : (d : RequestContext) (word : ℕ) (lease : Option (Lease DeviceState)) → FlowsNoMore d.session.transfer (cancel_held d word lease).session.transfer
cancels_flow d word None f = f
cancels_flow d word (Some lease) f = off_flows d.session.transfer word f

abbrev Started : Type 0
Started = Result (Reply × DataPhase) NoMem

abbrev phase_in : Started → DataPhase
phase_in (Ok told) = told.1
phase_in (Err none) = Quiet

start_waits : (port word : ℕ) (order : ByteOrder) (answer : Result Unit Status) → Flows (start_answer Quiet port word order answer).1 → ⊥
start_waits port word order (Ok done) f = f
start_waits port word order (Err status) f = f

starts_quiet : (port word : ℕ) (lease : Lease DeviceState) (told : Started) (new : Option (Lease DeviceState)) → StartsDevice Quiet port word lease told new → Flows (phase_in told) → ⊥
starts_quiet port word lease told new s f = by s.told_is
  where
    by : ((s.answer ≢ Err statuses.NoMem) × (told ≡ Ok (start_answer Quiet port word lease.device.setup.order s.answer))) ⊎ ((s.answer ≡ Err statuses.NoMem) × (told ≡ Err no_mem)) → ⊥
    by (inl t) = start_waits port word lease.device.setup.order s.answer (subst (λ (x : Started). Flows (phase_in x)) t.1 f)
    by (inr t) = subst (λ (x : Started). Flows (phase_in x)) t.1 f

starts_lease : (c : DataPhase) (port word : ℕ) (lease : Lease DeviceState) (told : Started) (new : Option (Lease DeviceState)) → StartsInDataPhase c port word lease told new → FlowsNoMore c (phase_in told)
starts_lease Quiet port word lease told new s f = absurd (starts_quiet port word lease told new s f)
starts_lease (Waiting w) port word lease told new s f = subst (λ (x : Started). Flows (phase_in x)) s.0 f
starts_lease (Streaming w) port word lease told new s f = tt
starts_lease Ending port word lease told new s f = tt

starts_flow : (c : DataPhase) (port word : ℕ) (held : Option (Lease DeviceState)) (told : Started) (new : Option (Lease DeviceState)) → StartsLease c port word held told new → FlowsNoMore c (phase_in told)
starts_flow c port word None told new s f = subst (λ (x : Started). Flows (phase_in x)) s.0 f
starts_flow c port word (Some lease) told new s f = starts_lease c port word lease told new s f

start_flows : (d : RequestContext) (word : ℕ) (said : RequestAnswer) (new : RequestContext) → AnswersStart d word said new → FlowsNoMore d.session.transfer new.session.transfer
start_flows d word said new s f =
    starts_flow d.session.transfer d.session.port word (held_by d.session.held word) (Ok (s.reply, s.transfer)) s.starts.lease s.starts.starts (subst Flows (ap (λ (x : RequestContext). x.session.transfer) s.gives.1) f)

then_same : (d new done : RequestContext) → new ≡ done → FlowsNoMore d.session.transfer done.session.transfer → FlowsNoMore d.session.transfer new.session.transfer
then_same d new done e more f = more (subst (λ (x : RequestContext). Flows x.session.transfer) e f)

free_flow : (users : List Entry) (d : RequestContext) (request : Request) (said : RequestAnswer) (new : RequestContext) → AnswersFree users d request said new → FlowsNoMore d.session.transfer new.session.transfer
free_flow users d (requests.Open name) said new a = same_phase d.session.transfer new.session.transfer (opens_same users d name (free_word d.session.held) (find_name name d.registry) said new a)
free_flow users d (requests.Close word) said new a = then_same d new _ a.1 (closes_flow d word (held_by d.session.held word))
free_flow users d (requests.Start word) said new a = start_flows d word said new a
free_flow users d (requests.Cancel word) said new a = then_same d new _ a.1 (cancels_flow d word (held_by d.session.held word))
free_flow users d q said new a = then_same d new _ a.1 (λ f. f)

allowed_same : (d : RequestContext) (name : List ℕ) (b : Bool) → (reply_if_allowed b (without_awaited d) name).1.session.transfer ≡ d.session.transfer
allowed_same d name true = take_same (without_awaited d) name (free_word d.session.held)
allowed_same d name false = refl

awaiting_flow : (users : List Entry) (d : RequestContext) (awaited : AwaitedAuthorization) (request : Request) (said : RequestAnswer) (new : RequestContext) → AnswersAwaiting users d awaited request said new → FlowsNoMore d.session.transfer new.session.transfer
awaiting_flow users d awaited (requests.Authorize resource user password) said new a = same_phase d.session.transfer new.session.transfer (ap (λ (x : RequestContext). x.session.transfer) a.gives.1 ∙ allowed_same d awaited.name a.allowed)
awaiting_flow users d awaited q said new a = then_same d new _ a.1 (λ f. f)

first_flow : (users : List Entry) (d : RequestContext) (request : Request) (said : RequestAnswer) (new : RequestContext) → AnswersBy false users d request said new → FlowsNoMore d.session.transfer new.session.transfer
first_flow users d (requests.Init version user) said new a = then_same d new _ a.1 (λ f. f)
first_flow users d q said new a = then_same d new _ a.1 (λ f. f)

greeted_flow : (users : List Entry) (d : RequestContext) (awaited : Option AwaitedAuthorization) (request : Request) (said : RequestAnswer) (new : RequestContext) → AnswersGreeted users d awaited request said new → FlowsNoMore d.session.transfer new.session.transfer
greeted_flow users d None request said new a = free_flow users d request said new a
greeted_flow users d (Some awaited) request said new a = awaiting_flow users d awaited request said new a

answer_flows : (users : List Entry) (d : RequestContext) (request : Request) (said : RequestAnswer) (new : RequestContext) → Answers users d request said new → FlowsNoMore d.session.transfer new.session.transfer
answer_flows users d request said new a = by d.session.greeted a
  where
    by : (b : Bool) → AnswersBy b users d request said new → FlowsNoMore d.session.transfer new.session.transfer
    by true x = greeted_flow users d d.session.awaited request said new x
    by false x = first_flow users d request said new x

answers_flow : (users : List Entry) (d : RequestContext) (requests : List Request) (told : List Reply) (new : RequestContext) → AnswersAll users d requests told new → FlowsNoMore d.session.transfer new.session.transfer
answers_flow users d [] told new a = then_same d new d a.1 (λ f. f)
answers_flow users d (q ∷ qs) told new a = λ f. answer_flows users d q a.0 a.1 a.3 (answers_flow users a.1 qs a.2 new a.5 f)

-- ---- a piece makes none flow

abbrev flows_in : Core → ℕ → Type 0
flows_in d n = IsFlowing (frame_state_at d n)

abbrev frame_of_slot : Option Slot → FrameState
frame_of_slot slot = frame_in (session_in slot)

-- of the slot that a piece was fed to
fed_slot : (f : Change) (n : ℕ) (d e : Core) → KeepsNumber f → HaveOwnNumbers d.opened d.slots → e.slots ≡ on_session_slot f n d.slots → frame_state_at e n ≡ frame_of_slot (option_and_then f (session_slot_of d.slots n))
fed_slot f n d e keeps own is = ap (λ (x : List (Option Slot)). frame_of_slot (session_slot_of x n)) is ∙ ap frame_of_slot (own_slot f n d.opened d.slots keeps own)

goes_on_flows : (o : Option Slot) (new : Session DeviceState) (rest text : List ℕ) (f : Change) → ((slot : Slot) → session_in (f slot) ≡ Some new) → IsFlowing (frame_of_slot (option_and_then f o)) → Flows new.transfer
goes_on_flows None new rest text f is flows = absurd flows
goes_on_flows (Some slot) new rest text f is flows = subst (λ (x : Option (Session DeviceState)). IsFlowing (frame_in x)) (is slot) flows

ended_flows : (o : Option Slot) (f : Change) → ((slot : Slot) → session_in (f slot) ≡ None) → IsFlowing (frame_of_slot (option_and_then f o)) → ⊥
ended_flows None f is flows = flows
ended_flows (Some slot) f is flows = subst (λ (x : Option (Session DeviceState)). IsFlowing (frame_in x)) (is slot) flows

answered_number : (now : FeedProgress) → KeepsNumber (answered_slot now)
answered_number now slot new e = let is : record slot { input = record { rest = now.rest; fault = None }; replies = slot.replies ++ now.text; session = Some now.context.session } ≡ new = cc in sym (ap (λ (x : Slot). x.number) is)

ended_by : (slot : Slot) (replies : List ℕ) (new : Slot) → slot_if_open None replies slot ≡ Some new → new.number ≡ slot.number
ended_by slot [] new e = absurd (let wrong : None ≡ Some new = e in cc)
ended_by slot (b ∷ bytes) new e = let is : slot ≡ new = cc in sym (ap (λ (x : Slot). x.number) is)

ended_number : (text : List ℕ) → KeepsNumber (ended_slot text)
ended_number text slot new e = ended_by (record slot { input = no_input; replies = slot.replies ++ text; session = None }) (slot.replies ++ text) new e

ended_none : (slot : Slot) (replies : List ℕ) → slot.session ≡ None → session_in (slot_if_open None replies slot) ≡ None
ended_none slot [] e = refl
ended_none slot (b ∷ bytes) e = e

there_flows : (d : Core) (n : ℕ) (session : Session DeviceState) → session_of d n ≡ Some session → Flows session.transfer → flows_in d n
there_flows d n session at f = subst (λ (x : Option (Session DeviceState)). IsFlowing (frame_in x)) (sym at) f

pub feeds_flow : (n : ℕ) (d : Core) (piece : List ℕ) (fed : Fed) (e : Core) → HaveOwnNumbers d.opened d.slots → Feeds n d piece fed e → IsFlowing (frame_state_at e n) → IsFlowing (frame_state_at d n)
feeds_flow n d piece feds.Standing e own h flows =
    let w = h.standing refl in
    let f = answered_slot w.now in
    let there = subst IsFlowing (fed_slot f n d e (answered_number w.now) own w.slots) flows in
    there_flows d n w.session w.stood
    (answers_flow d.users (core_context d w.session) w.feeds.so_far.requests w.feeds.so_far.told w.now.context w.feeds.so_far.answers
    (goes_on_flows (session_slot_of d.slots n) w.now.context.session w.now.rest w.now.text f (λ slot. refl) there))
feeds_flow n d piece feds.Over e own h flows = by (h.over refl)
  where
    by : HasNoSession d n ⊎ EndsWithin n d piece e → flows_in d n
    by (inl none) = subst (λ (x : Core). flows_in x n) (h.idle none).1 flows
    by (inr w) =
        let f = ended_slot w.text in
        absurd (ended_flows (session_slot_of d.slots n) f (λ slot. ended_none (record slot { input = no_input; replies = slot.replies ++ w.text; session = None }) (slot.replies ++ w.text) refl)
        (subst IsFlowing (fed_slot f n d e (ended_number w.text) own w.slots) flows))
feeds_flow n d piece feds.Starved e own h flows =
    let w = h.out_of_memory refl in
    absurd (ended_flows (session_slot_of d.slots n) no_more (λ slot. refl) (subst IsFlowing (fed_slot no_more n d e keeps_none own w.slots) flows))

-- ---- what is done to the one session leaves the frames of the others

pub frame_apart : (f : Change) (n m : ℕ) (d e : Core) → KeepsNumber f → n ≢ m → e.slots ≡ on_session_slot f n d.slots → frame_state_at e m ≡ frame_state_at d m
frame_apart f n m d e keeps off is = ap (λ (x : List (Option Slot)). frame_of_slot (session_slot_of x m)) is ∙ ap frame_of_slot (apart d.slots f n m keeps off)

pub frame_same : (d e : Core) (m : ℕ) → session_slot_of e.slots m ≡ session_slot_of d.slots m → frame_state_at e m ≡ frame_state_at d m
frame_same d e m same = ap frame_of_slot same

-- ---- a turn

-- behind the last record nothing flows
last_quiet : (c : DataPhase) (held : Option (Lease DeviceState)) (word n : ℕ) (old new : Session DeviceState) (buf : List ℕ) → old.transfer ≡ c → StreamsIn c old (Last n) new buf → Flows new.transfer → ⊥
last_quiet Quiet held word n old new buf at s flows = let wrong : Last n ≡ Idle = s.0 in cc
last_quiet (Waiting w) held word n old new buf at s flows = let wrong : Last n ≡ Idle = s.0 in cc
last_quiet (Streaming w) held word n old new buf at s flows = by (held_by old.held w) s
  where
    ends : (answer : Result ℕ Status) (window : List ℕ) (after : DataPhase) → Records answer window (Last n) buf → after ≡ data_phase_after old.transfer answer → Flows after → ⊥
    ends (Ok count) window after r is f = let wrong : Last n ≡ Bytes (4 + count) = r.0 in cc
    ends (Err status) window after r is f = subst Flows is f

    by : (o : Option (Lease DeviceState)) → StreamsFrom o w old (Last n) new buf → ⊥
    by None x = let wrong : Last n ≡ Idle = x.0 in cc
    by (Some lease) x = ends x.answer x.window new.transfer x.written (ap (λ (z : Session DeviceState). z.transfer) x.new_is) flows
last_quiet Ending held word n old new buf at s flows = subst (λ (z : Session DeviceState). Flows z.transfer) s.1 flows

with_number : (session : Session DeviceState) → KeepsNumber (with_session session)
with_number session slot new e = let is : record slot { session = Some session } ≡ new = cc in sym (ap (λ (x : Slot). x.number) is)

abbrev session_there : Core → ℕ → Option (Session DeviceState)
session_there d n = session_in (session_slot_of d.slots n)

with_there : (session : Session DeviceState) (o : Option Slot) → IsFlowing (frame_of_slot (option_and_then (with_session session) o)) → Flows session.transfer
with_there session None flows = absurd flows
with_there session (Some slot) flows = flows

pub last_ends : (n count : ℕ) (d e : Core) (buf : List ℕ) → HaveOwnNumbers d.opened d.slots → Turns n d (Last count) e buf → IsFlowing (frame_state_at e n) → ⊥
last_ends n count d e buf own t flows = by (session_there d n) t.slots
  where
    by : (o : Option (Session DeviceState)) → TurnsSessions o n d.slots (Last count) e.slots buf → ⊥
    by None x = let wrong : Last count ≡ Idle = x.0 in cc
    by (Some s) x =
        last_quiet s.transfer None 0 count s x.0 buf refl x.1
        (with_there x.0 (session_slot_of d.slots n) (subst IsFlowing (fed_slot (with_session x.0) n d e (with_number x.0) own x.2) flows))

pub turn_apart : (n m : ℕ) (d e : Core) (step : DataStep) (buf : List ℕ) → n ≢ m → Turns n d step e buf → frame_state_at e m ≡ frame_state_at d m
turn_apart n m d e step buf off t = by (session_there d n) t.slots
  where
    by : (o : Option (Session DeviceState)) → TurnsSessions o n d.slots step e.slots buf → frame_state_at e m ≡ frame_state_at d m
    by None x = ap (λ (z : List (Option Slot)). frame_of_slot (session_slot_of z m)) x.1
    by (Some s) x = frame_apart (with_session x.0) n m d e (with_number x.0) off x.2

pub turn_slots : (n m : ℕ) (d e : Core) (step : DataStep) (buf : List ℕ) → HaveOwnNumbers d.opened d.slots → Turns n d step e buf → session_slot_of e.slots m ≢ None → session_slot_of d.slots m ≢ None
turn_slots n m d e step buf own t some = by (session_there d n) t.slots
  where
    by : (o : Option (Session DeviceState)) → TurnsSessions o n d.slots step e.slots buf → session_slot_of d.slots m ≢ None
    by None x = λ none. some (ap (λ (z : List (Option Slot)). session_slot_of z m) x.1 ∙ none)
    by (Some s) x = slot_was (with_session x.0) n d.opened m d.slots (with_number x.0) own (λ none. some (ap (λ (z : List (Option Slot)). session_slot_of z m) x.2 ∙ none))

-- a turn where nothing flows does nothing
pub record TurnsNothing (d e : Core) (step : DataStep) : Type 0 where
  pub idle : step ≡ Idle
  pub slots : (m : ℕ) → session_slot_of e.slots m ≡ session_slot_of d.slots m

stays_quiet : (c : DataPhase) (old new : Session DeviceState) (step : DataStep) (buf : List ℕ) → (Flows c → ⊥) → StreamsIn c old step new buf → (step ≡ Idle) × (new ≡ old)
stays_quiet Quiet old new step buf off s = s
stays_quiet (Waiting w) old new step buf off s = s
stays_quiet (Streaming w) old new step buf off s = absurd (off tt)
stays_quiet Ending old new step buf off s = absurd (off tt)

same_session : (s : Session DeviceState) (o : Option Slot) → session_in o ≡ Some s → option_and_then (with_session s) o ≡ o
same_session s None at = refl
same_session s (Some slot) at = ap (λ (x : Option (Session DeviceState)). Some (record slot { session = x })) (sym at)

pub turns_nothing : (n : ℕ) (d e : Core) (step : DataStep) (buf : List ℕ) → HaveOwnNumbers d.opened d.slots → (IsFlowing (frame_state_at d n) → ⊥) → Turns n d step e buf → TurnsNothing d e step
turns_nothing n d e step buf own off t = by (session_there d n) refl t.slots
  where
    slots_are : (s : Session DeviceState) → session_there d n ≡ Some s → e.slots ≡ on_session_slot (with_session s) n d.slots → (m : ℕ) → session_slot_of e.slots m ≡ session_slot_of d.slots m
    slots_are s at is m = go (decide m n)
      where
        go : (m ≡ n) ⊎ (m ≢ n) → session_slot_of e.slots m ≡ session_slot_of d.slots m
        go (inl on) =
            ap (session_slot_of e.slots) on ∙ ap (λ (z : List (Option Slot)). session_slot_of z n) is ∙ own_slot (with_session s) n d.opened d.slots (with_number s) own ∙ same_session s (session_slot_of d.slots n) at
            ∙ ap (session_slot_of d.slots) (sym on)
        go (inr other) = ap (λ (z : List (Option Slot)). session_slot_of z m) is ∙ apart d.slots (with_session s) n m (with_number s) (λ same. other (sym same))

    by : (o : Option (Session DeviceState)) → session_there d n ≡ o → TurnsSessions o n d.slots step e.slots buf → TurnsNothing d e step
    by None at x = record { idle = x.0; slots = λ m. ap (λ (z : List (Option Slot)). session_slot_of z m) x.1 }
    by (Some s) at x =
        let still = stays_quiet s.transfer s x.0 step buf (λ f. off (there_flows d n s at f)) x.1 in
        record { idle = still.0; slots = slots_are s at (x.2 ∙ ap (λ (z : Session DeviceState). on_session_slot (with_session z) n d.slots) still.1) }

-- ---- a loss

pub on_number : (g : Session DeviceState → Session DeviceState) → KeepsNumber (on_session g)
on_number g slot new e = let is : record slot { session = option_map g slot.session } ≡ new = cc in sym (ap (λ (x : Slot). x.number) is)

lost_quiet : (s : Session DeviceState) (c : DataPhase) → s.transfer ≡ c → Flows (lost_from c s).transfer → ⊥
lost_quiet s Quiet at f = subst Flows at f
lost_quiet s (Waiting w) at f = subst Flows at f
lost_quiet s (Streaming w) at f = f
lost_quiet s Ending at f = f

lost_there : (o : Option Slot) → IsFlowing (frame_of_slot (option_and_then (on_session after_lost) o)) → ⊥
lost_there None f = f
lost_there (Some slot) f = by slot.session f
  where
    by : (x : Option (Session DeviceState)) → IsFlowing (frame_in (option_map after_lost x)) → ⊥
    by None g = g
    by (Some s) g = lost_quiet s s.transfer refl g

pub lost_ends : (n : ℕ) (d e : Core) → HaveOwnNumbers d.opened d.slots → e.slots ≡ on_session_slot (on_session after_lost) n d.slots → IsFlowing (frame_state_at e n) → ⊥
lost_ends n d e own is flows = lost_there (session_slot_of d.slots n) (subst IsFlowing (fed_slot (on_session after_lost) n d e (on_number after_lost) own is) flows)

lost_same : (s : Session DeviceState) (c : DataPhase) → (Flows c → ⊥) → lost_from c s ≡ s
lost_same s Quiet off = refl
lost_same s (Waiting w) off = refl
lost_same s (Streaming w) off = absurd (off tt)
lost_same s Ending off = absurd (off tt)

lost_nothing : (o : Option Slot) → (IsFlowing (frame_of_slot o) → ⊥) → option_and_then (on_session after_lost) o ≡ o
lost_nothing None off = refl
lost_nothing (Some slot) off = by slot.session refl
  where
    by : (x : Option (Session DeviceState)) → slot.session ≡ x → Some (record slot { session = option_map after_lost slot.session }) ≡ Some slot
    by None at = ap (λ (z : Option (Session DeviceState)). Some (record slot { session = option_map after_lost z })) at ∙ ap (λ (z : Option (Session DeviceState)). Some (record slot { session = z })) (sym at)
    by (Some s) at =
        let quiet : Flows s.transfer → ⊥ = λ f. off (subst (λ (z : Option (Session DeviceState)). IsFlowing (frame_in z)) (sym at) f) in
        ap (λ (z : Option (Session DeviceState)). Some (record slot { session = option_map after_lost z })) at ∙ ap (λ (z : Session DeviceState). Some (record slot { session = Some z })) (lost_same s s.transfer quiet)
        ∙ ap (λ (z : Option (Session DeviceState)). Some (record slot { session = z })) (sym at)

pub loses_nothing : (n : ℕ) (d : Core) → HaveOwnNumbers d.opened d.slots → (IsFlowing (frame_state_at d n) → ⊥) → (m : ℕ) → session_slot_of (on_session_slot (on_session after_lost) n d.slots) m ≡ session_slot_of d.slots m
loses_nothing n d own off m = go (decide m n)
  where
    f : Change
    f = on_session after_lost

    go : (m ≡ n) ⊎ (m ≢ n) → session_slot_of (on_session_slot f n d.slots) m ≡ session_slot_of d.slots m
    go (inl on) = ap (session_slot_of (on_session_slot f n d.slots)) on ∙ own_slot f n d.opened d.slots (on_number after_lost) own ∙ lost_nothing (session_slot_of d.slots n) off ∙ ap (session_slot_of d.slots) (sym on)
    go (inr other) = apart d.slots f n m (on_number after_lost) (λ same. other (sym same))
