-- Within a scan the page stays.
use Rattle.std.specs.Prelude.{slice_get, slice_set, option_map, if◌then◌else◌, nat_lt, ◌&&◌, ◌+◌}
use Rattle.std.proofs.Common.{◌≡◌, ◌∙◌, ◌⊎◌, ℕ, zero, suc, List, [], ◌∷◌, ◌++◌, Bool, true, false, Option, Some, None, refl, sym, ap, subst, inl, inr}
use Rattle.page_sources.specs.SourceView.{source_state}
use Rattle.client_replies.specs.ProtocolStates.{is_batch, is_running}
use Rattle.saned_core.specs.declared.session_slot.DataStep.{DataStep}
use Rattle.saned_core.specs.declared.session_slot.SessionId.{SessionId}
use Rattle.saned_core.specs.DaemonStates.{Core, after_connected, after_lost, after_taken, after_reply_bytes, on_session, on_session_slot, session_in, session_of, session_slot_of, slot_if_open, with_session, lost_from}
use Rattle.scan_job.specs.declared.job.Job.{Job}
use Rattle.event_world.specs.declared.endpoint.Endpoint.{Endpoint}
use Rattle.event_world.specs.declared.event.Event.{Event}
use Rattle.strangers.specs.Together.{AllIsKeptAmongStrangers}
use Rattle.strangers.specs.Together.JointEvent.{OfJobs}
use Rattle.scan_world.specs.Histories.{history_up_to}
use Rattle.event_world.specs.declared.event.JobEvent.{JobEvent}
use Rattle.event_world.specs.declared.event.JobEvent.TheVariants.{Connect, ToDaemon, ToClient, DataConnect, DataTurn, DataToClient, LoseControl, LoseImage, Cancel}
use Rattle.event_world.specs.Endpoints.{after_move, laid_by}
use Rattle.event_world.specs.JobEvents.{Can, Does, Happens, HeedsPiece, IfLinked, SendsRecord, SendsStep, TakesDataPiece, is_done, with_last_page, image_lost}
use Rattle.event_world.specs.Worlds.{AtEndpoint, Leads, Runs, WorldCore}
use Rattle.event_world.proofs.Deciding.{can_or_not}
use Rattle.scan_world.specs.Histories.{History, LedTo}
use Rattle.scan_world.proofs.Scanned.{kept_by}
use Rattle.scan_world.specs.Sessions.{Has}
use Rattle.scan_world.proofs.moments.Entries.{set_here, unsome}
use Rattle.scan_world.proofs.moments.Holder.{no_endpoints}
use Rattle.device_api.specs.State.{DeviceState, Phase, after_cancel, cancelled_in, is_at_rest, page_of}
use Rattle.dispatch.specs.declared.table.place.Lease.{Lease}
use Rattle.saned_requests.specs.declared.session.Session.{Session}
use Rattle.saned_requests.specs.Holding.{held_by, on_word, with_device, cancelled_lease}
use Rattle.saned_core.specs.declared.session_slot.SessionSlot.{SessionSlot}
use Rattle.saned_core.specs.Turns.{StreamsFrom, StreamsIn, TurnsSessions}
use Rattle.world_refines.specs.WorldRefinement.{WorldRefines}
use Rattle.scan_world.proofs.moments.Others.{decide, stays_at, still_has}
use Rattle.scan_world.proofs.moments.Stands.{one_lease}
use Rattle.scan_world.proofs.moments.Reading.{reads_stay}
use Rattle.saned_requests.specs.declared.session.DataPhase.{DataPhase}
use Rattle.daemon_refines.proofs.Cores.{own_slot}
use Rattle.world_refines.specs.GhostStates.{Ghost}
use Rattle.device_api.specs.State.Phase.{AtRest, Between, Reading}
use Rattle.saned_core.specs.declared.session_slot.DataStep.TheVariants as turns
use Rattle.event_world.specs.declared.event.Event.TheVariants as events
use Rattle.saned_requests.specs.declared.session.DataPhase.TheVariants as streams

abbrev Slot : Type 0
Slot = SessionSlot DeviceState

abbrev Slots : Type 0
Slots = List (Option Slot)

-- ---- the link stays

heeds_link : (piece : List ℕ) (old new : Endpoint) (b : Bool) → is_running old.client.outcome ≡ b → HeedsPiece piece old new → new.link ≡ old.link
heeds_link piece old new false e h = ap (λ (x : Endpoint). x.link) (h.over e)
heeds_link piece old new true e h = ap (λ (x : Endpoint). x.link) (h.drains e).rest

by_laid : (c : Bool) (p : Endpoint) → (if c then record p { file = Some []; pages = slice_set p.pages p.finished p.file; finished = p.finished + 1 } else record p { file = Some [] }).link ≡ p.link
by_laid true p = refl
by_laid false p = refl

by_last : (b : Bool) (p : Endpoint) → (if b then laid_by p else p).link ≡ p.link
by_last true p = by_laid (nat_lt p.finished 16) p
by_last false p = refl

page_link : (p : Endpoint) → (with_last_page p).link ≡ p.link
page_link p = by_last (is_done p.client.outcome && is_batch p.task) p

data_link : (piece : List ℕ) (old new : Endpoint) (b : Bool) → is_running old.client.outcome ≡ b → TakesDataPiece piece old new → new.link ≡ old.link
data_link piece old new false e h = ap (λ (x : Endpoint). x.link) (h.over e)
data_link piece old new true e h = ap (λ (x : Endpoint). x.link) (h.finishes e) ∙ (page_link h.after ∙ ap (λ (x : Endpoint). x.link) (h.drains e).rest)

-- ---- one session, before and behind

-- what it has then, not at rest, it had by that word, of that name and with that first page
abbrev PagesStay : Session DeviceState → Session DeviceState → Type 0
PagesStay s t = (word : ℕ) (new : Lease DeviceState) → held_by t.held word ≡ Some new → is_at_rest new.device.phase ≡ false → (old : Lease DeviceState) × (held_by s.held word ≡ Some old) × (new.device.info.name ≡ old.device.info.name) × (page_of new.device ≡ page_of old.device) × (is_at_rest old.device.phase ≡ false)

held_stay : (s t : Session DeviceState) → t.held ≡ s.held → PagesStay s t
held_stay s t e word new at busy = (new, ap (λ (h : List (Option (Lease DeviceState))). held_by h word) (sym e) ∙ at, refl, refl, busy)

then_stay : (s t r : Session DeviceState) → PagesStay s t → PagesStay t r → PagesStay s r
then_stay s t r a b word new at busy =
    let y = b word new at busy in
    let x = a word y.0 y.1 y.4 in
    (x.0, x.1, y.2 ∙ x.2, y.3 ∙ x.3, x.4)

pub word_of : (f : Option (Lease DeviceState) → Option (Lease DeviceState)) (held : List (Option (Lease DeviceState))) (w v : ℕ) → (held_by (on_word f held w) v ≡ held_by held v) ⊎ ((v ≡ w) × (held_by (on_word f held w) v ≡ f (held_by held v)))
unfolding held_by on_word
word_of f [] w v = inl refl
word_of f (h ∷ held) zero zero = inr (refl, refl)
word_of f (h ∷ held) zero (suc v) = inl refl
word_of f (h ∷ held) (suc w) zero = inl refl
word_of f (h ∷ held) (suc w) (suc v) = elim (word_of f held w v) [
  | inl e ↦ inl e
  | inr e ↦ inr (ap suc e.0, e.1)
]

rest_after : (s : DeviceState) (phase : Phase) → s.phase ≡ phase → is_at_rest (cancelled_in phase s).phase ≡ true
rest_after s (AtRest c) e = ap is_at_rest e
rest_after s (Between ended) e = refl
rest_after s (Reading pass given) e = refl

pub cancelled_not : (o : Option (Lease DeviceState)) (new : Lease DeviceState) → cancelled_lease o ≡ Some new → is_at_rest new.device.phase ≡ false → ⊥
cancelled_not None new e busy = let clash : None ≡ Some new = e in cc
cancelled_not (Some old) new e busy =
    let one : record old { device = after_cancel old.device } ≡ new = unsome (record old { device = after_cancel old.device }) new e in
    let rests : is_at_rest new.device.phase ≡ true = ap (λ (l : Lease DeviceState). is_at_rest l.device.phase) (sym one) ∙ rest_after old.device old.device.phase refl in
    let clash : true ≡ false = sym rests ∙ busy in cc

lost_stay : (phase : DataPhase) (s : Session DeviceState) → PagesStay s (lost_from phase s)
lost_stay streams.Quiet s = held_stay s s refl
lost_stay (streams.Waiting word) s = held_stay s s refl
lost_stay (streams.Streaming word) s = λ v new at busy. elim (word_of cancelled_lease s.held word v) [
  | inl same ↦ (new, sym same ∙ at, refl, refl, busy)
  | inr off ↦ absurd (cancelled_not (held_by s.held v) new (sym off.1 ∙ at) busy)
]
lost_stay streams.Ending s = held_stay s (record s { transfer = streams.Quiet }) refl

stream_from : (o : Option (Lease DeviceState)) (word : ℕ) (s : Session DeviceState) (step : DataStep) (t : Session DeviceState) (buf : List ℕ) → held_by s.held word ≡ o → StreamsFrom o word s step t buf → PagesStay s t
stream_from None word s step t buf is h = held_stay s t (ap (λ (x : Session DeviceState). x.held) h.1)
stream_from (Some lease) word s step t buf is h = λ v new at busy.
    let held : t.held ≡ on_word (λ _. with_device lease h.after) s.held word = ap (λ (x : Session DeviceState). x.held) h.new_is in
    let now = ap (λ (x : List (Option (Lease DeviceState))). held_by x v) (sym held) ∙ at in
    elim (word_of (λ _. with_device lease h.after) s.held word v) [
      | inl same ↦ (new, sym same ∙ now, refl, refl, busy)
      | inr on ↦
          let one : record lease { device = h.after } ≡ new = unsome (record lease { device = h.after }) new (sym on.1 ∙ now) in
          let stays = reads_stay lease.device h.answer h.after h.window h.reads in
          let dev : h.after ≡ new.device = ap (λ (l : Lease DeviceState). l.device) one in
          (lease, ap (held_by s.held) on.0 ∙ is, ap (λ (d : DeviceState). d.info.name) (sym dev) ∙ stays.name, ap page_of (sym dev) ∙ stays.page (ap (λ (d : DeviceState). is_at_rest d.phase) dev ∙ busy), stays.busy (ap (λ (d : DeviceState). is_at_rest d.phase) dev ∙ busy))
    ]

stream_stay : (phase : DataPhase) (s : Session DeviceState) (step : DataStep) (t : Session DeviceState) (buf : List ℕ) → StreamsIn phase s step t buf → PagesStay s t
stream_stay streams.Quiet s step t buf h = held_stay s t (ap (λ (x : Session DeviceState). x.held) h.1)
stream_stay (streams.Waiting word) s step t buf h = held_stay s t (ap (λ (x : Session DeviceState). x.held) h.1)
stream_stay (streams.Streaming word) s step t buf h = stream_from (held_by s.held word) word s step t buf refl h
stream_stay streams.Ending s step t buf h = held_stay s t (ap (λ (x : Session DeviceState). x.held) h.1)

-- ---- a slot

pub slot_session : (f : Slot → Option Slot) (k : ℕ) (slots : Slots) (o : Option Slot) (s t : Session DeviceState) → session_slot_of slots k ≡ o → session_in o ≡ Some s → ((slot : Slot) → slot.session ≡ Some s → (new : Slot) × (f slot ≡ Some new) × (new.number ≡ slot.number) × (new.session ≡ Some t)) → session_in (session_slot_of (on_session_slot f k slots) k) ≡ Some t
slot_session f k slots None s t at is becomes = absurd (let clash : None ≡ Some s = is in cc)
slot_session f k slots (Some slot) s t at is becomes =
    let n = becomes slot is in
    ap session_in (own_slot f k slots slot n.0 at n.1 n.2) ∙ n.3

taken_some : (count : ℕ) (slot : Slot) (s : Session DeviceState) → slot.session ≡ Some s → (new : Slot) × (after_taken count slot ≡ Some new) × (new.number ≡ slot.number) × (new.session ≡ Some s)
taken_some count slot s is = (after_reply_bytes count slot, ap (λ (o : Option (Session DeviceState)). slot_if_open o (after_reply_bytes count slot).replies (after_reply_bytes count slot)) is, refl, is)

on_some : (g : Session DeviceState → Session DeviceState) (slot : Slot) (s : Session DeviceState) → slot.session ≡ Some s → (new : Slot) × (on_session g slot ≡ Some new) × (new.number ≡ slot.number) × (new.session ≡ Some (g s))
on_some g slot s is = (record slot { session = option_map g slot.session }, refl, refl, ap (option_map g) is)

-- what becomes of the session of a link
abbrev Goes_on : Core → Endpoint → SessionId → Session DeviceState → Type 0
Goes_on e q id s = (q.link ≡ None) ⊎ ((t : Session DeviceState) × (q.link ≡ Some id) × (session_of e id.number ≡ Some t) × PagesStay s t)

lost_on : (d : Core) (q : Endpoint) (id : SessionId) (s : Session DeviceState) → q.link ≡ Some id → session_of d id.number ≡ Some s → (t : Session DeviceState) × (q.link ≡ Some id) × (session_of (image_lost id.number d) id.number ≡ Some t) × PagesStay s t
lost_on d q id s link is = (after_lost s, link, slot_session (on_session after_lost) id.number d.slots (session_slot_of d.slots id.number) s (after_lost s) refl is (λ slot there. on_some after_lost slot s there), lost_stay s.transfer s)

-- ---- what comes to its own job, but for requests

turned_on : (o : Option (Session DeviceState)) (k : ℕ) (old : Slots) (step : DataStep) (new : Slots) (buf : List ℕ) (s : Session DeviceState) → o ≡ Some s → session_in (session_slot_of old k) ≡ Some s → TurnsSessions o k old step new buf → (t : Session DeviceState) × (session_in (session_slot_of new k) ≡ Some t) × PagesStay s t
turned_on None k old step new buf s is at h = absurd (let clash : None ≡ Some s = is in cc)
turned_on (Some r) k old step new buf s is at h =
    let one : r ≡ s = unsome r s is in
    let stays : PagesStay r h.0 = stream_stay r.transfer r step h.0 buf h.1 in
    (h.0, ap (λ (x : Slots). session_in (session_slot_of x k)) h.2 ∙ slot_session (with_session h.0) k old (session_slot_of old k) s h.0 refl at (λ slot there. (record slot { session = Some h.0 }, refl, refl, refl)), subst (λ (x : Session DeviceState). PagesStay x h.0) one stays)

record_on : (bytes : List ℕ) (last : Bool) (d : Core) (p : Endpoint) (e : Core) (q : Endpoint) (id : SessionId) (s : Session DeviceState) → SendsRecord id.number bytes last d p e q → p.link ≡ Some id → session_of d id.number ≡ Some s → (t : Session DeviceState) × (q.link ≡ Some id) × (session_of e id.number ≡ Some t) × PagesStay s t
record_on bytes last d p e q id s (inl (image, at, same, is)) link there = (s, ap (λ (x : Endpoint). x.link) is ∙ link, ap (λ (x : Core). session_of x id.number) same ∙ there, held_stay s s refl)
record_on bytes last d p e q id s (inr (same, is)) link there =
    let r = lost_on d q id s (ap (λ (x : Endpoint). x.link) is ∙ link) there in
    (r.0, r.1, ap (λ (x : Core). session_of x id.number) same ∙ r.2, r.3)

step_on : (step : DataStep) (buf : List ℕ) (d : Core) (p : Endpoint) (e : Core) (q : Endpoint) (id : SessionId) (s : Session DeviceState) → SendsStep id.number step buf d p e q → p.link ≡ Some id → session_of d id.number ≡ Some s → (t : Session DeviceState) × (q.link ≡ Some id) × (session_of e id.number ≡ Some t) × PagesStay s t
step_on turns.Idle buf d p e q id s h link there = (s, ap (λ (x : Endpoint). x.link) h.1 ∙ link, ap (λ (x : Core). session_of x id.number) h.0 ∙ there, held_stay s s refl)
step_on (turns.Bytes n) buf d p e q id s h link there = record_on _ false d p e q id s h link there
step_on (turns.Last n) buf d p e q id s h link there = record_on _ true d p e q id s h link there

pub linked_as : (o : Option SessionId) (P : ℕ → Type 0) (id : SessionId) → o ≡ Some id → IfLinked o P → P id.number
linked_as o P id e h = subst (λ (x : Option SessionId). IfLinked x P) e h

does_on : (d : Core) (p : Endpoint) (x : JobEvent) (e : Core) (q : Endpoint) → Does d p x e q → ((n : ℕ) → x ≡ ToDaemon n → ⊥) → (x ≡ Connect → ⊥) → (id : SessionId) → p.link ≡ Some id → (s : Session DeviceState) → session_of d id.number ≡ Some s → Goes_on e q id s
does_on d p Connect e q h not_asked not_made id link s there = absurd (not_made refl)
does_on d p (ToDaemon n) e q h not_asked not_made id link s there = absurd (not_asked n refl)
does_on d p (ToClient n) e q h not_asked not_made id link s there =
    let it = linked_as p.link _ id link h in
    inr (s, heeds_link _ (after_move p) q (is_running p.client.outcome) refl it.1 ∙ link, ap (λ (x : Core). session_of x id.number) it.0 ∙ slot_session _ id.number d.slots (session_slot_of d.slots id.number) s s refl there (λ slot is. taken_some _ slot s is), held_stay s s refl)
does_on d p DataConnect e q h not_asked not_made id link s there =
    let it = linked_as p.link _ id link h in
    inr (after_connected s, ap (λ (x : Endpoint). x.link) it.1 ∙ link, ap (λ (x : Core). session_of x id.number) it.0 ∙ slot_session (on_session after_connected) id.number d.slots (session_slot_of d.slots id.number) s (after_connected s) refl there (λ slot is. on_some after_connected slot s is), held_stay s (after_connected s) refl)
does_on d p DataTurn e q h not_asked not_made id link s there =
    let it = linked_as p.link _ id link h in
    let a = turned_on (session_of d id.number) id.number d.slots it.step it.mid.slots it.buf s there there it.turns.slots in
    let b = step_on it.step it.buf it.mid p e q id a.0 it.sends link a.1 in
    inr (b.0, b.1, b.2, then_stay s a.0 b.0 a.2 b.3)
does_on d p (DataToClient n) e q h not_asked not_made id link s there =
    inr (s, (ap (λ (x : Endpoint). x.link) h.1.2.2 ∙ data_link _ _ h.1.2.0 (is_running p.client.outcome) refl h.1.2.1) ∙ link, ap (λ (x : Core). session_of x id.number) h.0 ∙ there, held_stay s s refl)
does_on d p LoseControl e q h not_asked not_made id link s there = inl (ap (λ (x : Endpoint). x.link) (linked_as p.link _ id link h).1)
does_on d p LoseImage e q h not_asked not_made id link s there =
    let it = linked_as p.link _ id link h in
    let r = lost_on d q id s (ap (λ (x : Endpoint). x.link) it.1 ∙ link) there in
    inr (r.0, r.1, ap (λ (x : Core). session_of x id.number) it.0 ∙ r.2, r.3)
does_on d p Cancel e q h not_asked not_made id link s there = inr (s, ap (λ (x : Endpoint). x.link) h.1.rest ∙ link, ap (λ (x : Core). session_of x id.number) h.0 ∙ there, held_stay s s refl)

-- ---- of a world

goes_on : (d : Core) (p : Endpoint) (x : JobEvent) (e : Core) (q : Endpoint) → Can d p x → Does d p x e q → ((n : ℕ) → x ≡ ToDaemon n → ⊥) → (id : SessionId) → p.link ≡ Some id → (p.was_connected ≡ false → p.link ≡ None) → (s : Session DeviceState) → session_of d id.number ≡ Some s → Goes_on e q id s
goes_on d p Connect e q can h not_asked id link fresh s there = absurd (let clash : Some id ≡ None = sym link ∙ fresh can.1 in cc)
goes_on d p (ToDaemon n) e q can h not_asked id link fresh s there = absurd (not_asked n refl)
goes_on d p (ToClient n) e q can h not_asked id link fresh s there = does_on d p (ToClient n) e q h not_asked (λ is. (let clash : ToClient n ≡ Connect = is in cc)) id link s there
goes_on d p DataConnect e q can h not_asked id link fresh s there = does_on d p DataConnect e q h not_asked (λ is. (let clash : DataConnect ≡ Connect = is in cc)) id link s there
goes_on d p DataTurn e q can h not_asked id link fresh s there = does_on d p DataTurn e q h not_asked (λ is. (let clash : DataTurn ≡ Connect = is in cc)) id link s there
goes_on d p (DataToClient n) e q can h not_asked id link fresh s there = does_on d p (DataToClient n) e q h not_asked (λ is. (let clash : DataToClient n ≡ Connect = is in cc)) id link s there
goes_on d p LoseControl e q can h not_asked id link fresh s there = does_on d p LoseControl e q h not_asked (λ is. (let clash : LoseControl ≡ Connect = is in cc)) id link s there
goes_on d p LoseImage e q can h not_asked id link fresh s there = does_on d p LoseImage e q h not_asked (λ is. (let clash : LoseImage ≡ Connect = is in cc)) id link s there
goes_on d p Cancel e q can h not_asked id link fresh s there = does_on d p Cancel e q h not_asked (λ is. (let clash : Cancel ≡ Connect = is in cc)) id link s there

happens_on : (d : Core) (p : Endpoint) (x : JobEvent) (e : Core) (q : Endpoint) → Happens d p x e q → ((n : ℕ) → x ≡ ToDaemon n → ⊥) → (id : SessionId) → p.link ≡ Some id → (p.was_connected ≡ false → p.link ≡ None) → (s : Session DeviceState) → session_of d id.number ≡ Some s → Goes_on e q id s
happens_on d p x e q h not_asked id link fresh s there = elim (can_or_not d p x) [
  | inl can ↦ goes_on d p x e q can (h.does can) not_asked id link fresh s there
  | inr never ↦
      let same = h.cannot never in
      inr (s, ap (λ (y : Endpoint). y.link) same.1 ∙ link, ap (λ (y : Core). session_of y id.number) same.0 ∙ there, held_stay s s refl)
]

-- what a session has behind what comes to its own job it had
abbrev Had : WorldCore → ℕ → List ℕ → DeviceState → Type 0
Had w i name b = (d : DeviceState) × Has w i name d × (page_of b ≡ page_of d)

by_goes : (w v : WorldCore) (i : ℕ) (name : List ℕ) (a b : DeviceState) (x : Has w i name a) (q : Endpoint) → slice_get v.endpoints i ≡ Some q → Has v i name b → is_at_rest b.phase ≡ false → Goes_on v.daemon q x.at.id x.session → Had w i name b
by_goes w v i name a b x q at y busy (inl none) =
    let one : y.at.endpoint ≡ q = (let both : Some y.at.endpoint ≡ Some q = sym y.at.is_there ∙ at in cc) in
    absurd (let clash : Some y.at.id ≡ None = sym y.at.linked ∙ (ap (λ (p : Endpoint). p.link) one ∙ none) in cc)
by_goes w v i name a b x q at y busy (inr (t, link, session, stays)) =
    let one : y.at.endpoint ≡ q = (let both : Some y.at.endpoint ≡ Some q = sym y.at.is_there ∙ at in cc) in
    let id : y.at.id ≡ x.at.id = (let both : Some y.at.id ≡ Some x.at.id = sym y.at.linked ∙ (ap (λ (p : Endpoint). p.link) one ∙ link) in cc) in
    let same : y.session ≡ t = (let both : Some y.session ≡ Some t = sym y.at.stands ∙ (ap (λ (z : SessionId). session_of v.daemon z.number) id ∙ session) in cc) in
    let held : held_by t.held y.word ≡ Some y.lease = ap (λ (z : Session DeviceState). held_by z.held y.word) (sym same) ∙ y.held in
    let r = stays y.word y.lease held (ap (λ (d : DeviceState). is_at_rest d.phase) y.is ∙ busy) in
    (r.0.device, record { session = x.session; at = x.at; word = y.word; lease = r.0; held = r.1; is = refl; named = sym r.2 ∙ (ap (λ (d : DeviceState). d.info.name) y.is ∙ y.named) }, ap page_of (sym y.is) ∙ r.3)

own_page : (t : Ghost) (w v : WorldCore) (i : ℕ) (e : JobEvent) (name : List ℕ) (a b : DeviceState) → WorldRefines t w → AtEndpoint w i e v → ((n : ℕ) → e ≡ ToDaemon n → ⊥) → Has w i name a → Has v i name b → is_at_rest b.phase ≡ false → page_of b ≡ page_of a
own_page t w v i e name a b h at not_asked x y busy =
    let p = x.at.endpoint in
    let g = at.happens p x.at.is_there in
    let now : slice_get v.endpoints i ≡ Some g.0 = ap (λ (ps : List Endpoint). slice_get ps i) g.2 ∙ set_here w.endpoints i p g.0 x.at.is_there in
    let fresh : p.was_connected ≡ false → p.link ≡ None = λ nay. ((h.endpoints i p x.at.is_there).means.before nay).0 in
    let had = by_goes w v i name a b x g.0 now y busy (happens_on w.daemon p e v.daemon g.0 g.1 not_asked x.at.id x.at.linked fresh x.session x.at.stands) in
    had.2 ∙ ap page_of (sym (one_lease t w i name a had.0 h x had.1).0)

job_page : (t u : Ghost) (w v : WorldCore) (i j : ℕ) (e : JobEvent) (name : List ℕ) (a b : DeviceState) → WorldRefines t w → WorldRefines u v → AtEndpoint w j e v → (j ≡ i → (n : ℕ) → e ≡ ToDaemon n → ⊥) → Has w i name a → Has v i name b → is_at_rest b.phase ≡ false → page_of b ≡ page_of a
job_page t u w v i j e name a b h g at not_asked x y busy = elim (decide j i) [
  | inl same ↦ own_page t w v i e name a b h (subst (λ (n : ℕ). AtEndpoint w n e v) same at) (not_asked same) x y busy
  | inr other ↦
      let still : Has v i name a = record { session = x.session; at = stays_at t w v i j e x.session h other at x.at; word = x.word; lease = x.lease; held = x.held; is = x.is; named = x.named } in
      ap page_of (one_lease u v i name b a g y still).0
]

abbrev pub NotAsked : Event → ℕ → Type 0
NotAsked e i = (n : ℕ) → e ≡ events.ToDaemon i n → ⊥

event_page : (t u : Ghost) (w v : WorldCore) (i : ℕ) (e : Event) (name : List ℕ) (a b : DeviceState) → WorldRefines t w → WorldRefines u v → Leads source_state e w v → NotAsked e i → Has w i name a → Has v i name b → is_at_rest a.phase ≡ false → is_at_rest b.phase ≡ false → page_of b ≡ page_of a
event_page t u w v i (events.Connect j) name a b h g at not_asked x y was busy = job_page t u w v i j Connect name a b h g at (λ same n is. (let clash : Connect ≡ ToDaemon n = is in cc)) x y busy
event_page t u w v i (events.ToDaemon j m) name a b h g at not_asked x y was busy = job_page t u w v i j (ToDaemon m) name a b h g at (λ same n is. not_asked m (ap (λ (k : ℕ). events.ToDaemon k m) same)) x y busy
event_page t u w v i (events.ToClient j m) name a b h g at not_asked x y was busy = job_page t u w v i j (ToClient m) name a b h g at (λ same n is. (let clash : ToClient m ≡ ToDaemon n = is in cc)) x y busy
event_page t u w v i (events.DataConnect j) name a b h g at not_asked x y was busy = job_page t u w v i j DataConnect name a b h g at (λ same n is. (let clash : DataConnect ≡ ToDaemon n = is in cc)) x y busy
event_page t u w v i (events.DataTurn j) name a b h g at not_asked x y was busy = job_page t u w v i j DataTurn name a b h g at (λ same n is. (let clash : DataTurn ≡ ToDaemon n = is in cc)) x y busy
event_page t u w v i (events.DataToClient j m) name a b h g at not_asked x y was busy = job_page t u w v i j (DataToClient m) name a b h g at (λ same n is. (let clash : DataToClient m ≡ ToDaemon n = is in cc)) x y busy
event_page t u w v i (events.LoseControl j) name a b h g at not_asked x y was busy = job_page t u w v i j LoseControl name a b h g at (λ same n is. (let clash : LoseControl ≡ ToDaemon n = is in cc)) x y busy
event_page t u w v i (events.LoseImage j) name a b h g at not_asked x y was busy = job_page t u w v i j LoseImage name a b h g at (λ same n is. (let clash : LoseImage ≡ ToDaemon n = is in cc)) x y busy
event_page t u w v i (events.Cancel j) name a b h g at not_asked x y was busy = job_page t u w v i j Cancel name a b h g at (λ same n is. (let clash : Cancel ≡ ToDaemon n = is in cc)) x y busy
event_page t u w v i (events.Load other source) name a b h g at not_asked x y was busy = ap page_of (one_lease u v i name b a g y (still_has w v i other name (source_state source) a at was x)).0
event_page t u w v i (events.Unplug other) name a b h g at not_asked x y was busy =
    let still : Has v i name a = record { session = x.session; at = record { endpoint = x.at.endpoint; is_there = ap (λ (z : WorldCore). slice_get z.endpoints i) at ∙ x.at.is_there; id = x.at.id; linked = x.at.linked; stands = ap (λ (z : WorldCore). session_of z.daemon x.at.id.number) at ∙ x.at.stands }; word = x.word; lease = x.lease; held = x.held; is = x.is; named = x.named } in
    ap page_of (one_lease u v i name b a g y still).0

by_jobs : AllIsKeptAmongStrangers → (h : History) (w v : WorldCore) (i : ℕ) (name : List ℕ) (a b : DeviceState) (e : Event) (l : LedTo h w) → LedTo (history_up_to h (h.events ++ OfJobs e ∷ [])) v → NotAsked e i → Leads source_state e w v → Has w i name a → Has v i name b → is_at_rest a.phase ≡ false → is_at_rest b.phase ≡ false → (jobs : List Job) → h.jobs ≡ jobs → page_of b ≡ page_of a
by_jobs all h w v i name a b e l lv not_asked lead x y was busy [] is = absurd (let clash : None ≡ Some x.at.endpoint = ap (λ (ps : List Endpoint). slice_get ps i) (sym (no_endpoints h w l is)) ∙ x.at.is_there in cc)
by_jobs all h w v i name a b e l lv not_asked lead x y was busy (job ∷ jobs) is =
    let k = kept_by all h w job l in
    let m = kept_by all (history_up_to h (h.events ++ OfJobs e ∷ [])) v job lv in
    event_page k.run.ghost_then m.run.ghost_then w v i e name a b k.run.stands m.run.stands lead not_asked x y was busy

pub unasked_page : AllIsKeptAmongStrangers → (h : History) (w v : WorldCore) (i : ℕ) (name : List ℕ) (a b : DeviceState) (e : Event) → LedTo h w → LedTo (history_up_to h (h.events ++ OfJobs e ∷ [])) v → NotAsked e i → Runs source_state (e ∷ []) w v → Has w i name a → Has v i name b → is_at_rest a.phase ≡ false → is_at_rest b.phase ≡ false → page_of b ≡ page_of a
unasked_page all h w v i name a b e l lv not_asked run x y was busy = by_jobs all h w v i name a b e l lv not_asked (subst (Leads source_state e w) (sym run.2) run.1) x y was busy h.jobs refl
