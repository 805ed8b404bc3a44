-- What an event leaves of the sessions that no endpoint has; and that it brings none.
use Rattle.std.specs.Prelude.{◌&&◌, if◌then◌else◌, nat_lt, ◌+◌, slice_set}
use Rattle.std.specs.Option.{option_and_then}
use Rattle.std.specs.List.{list_any}
use Rattle.std.proofs.Common.{◌≡◌, ◌≢◌, ◌⊎◌, inl, inr, ◌∙◌, ℕ, zero, suc, ◌<◌, ◌≤◌, List, [], ◌∷◌, Option, Some, None, Bool, true, false, refl, sym, ap, subst, length, slice_get, arith}
use Rattle.page_picture.specs.Source.{SourceState}
use Rattle.page_sources.specs.declared.kinds.Source.{Source}
use Rattle.device_api.specs.State.{DeviceState}
use Rattle.saned_requests.specs.declared.session.Session.{Session as RequestSession}
use Rattle.saned_core.specs.declared.session_slot.SessionSlot.{SessionSlot}
use Rattle.saned_core.specs.declared.session_slot.SessionId.{SessionId}
use Rattle.saned_core.specs.declared.session_slot.Fed.{Fed}
use Rattle.saned_core.specs.declared.session_slot.Fed.TheVariants as feds
use Rattle.saned_core.specs.declared.session_slot.DataStep.{DataStep}
use Rattle.saned_core.specs.declared.session_slot.DataStep.TheVariants as turns
use Rattle.saned_core.specs.DaemonLimits.{HasDaemonLimits}
use Rattle.saned_core.specs.DaemonStates.{Core, after_connected, after_end_session, after_lost, after_open_session, after_taken, is_closed, new_session_slot, no_more, on_session, on_session_slot, replies_of, session_of, session_slot_of, with_session}
use Rattle.saned_core.specs.Feeding.{Feeds}
use Rattle.saned_core.specs.Inside.{slot_or_none_after_feed}
use Rattle.saned_core.specs.Loading.{core_after_load, holds, on_first, slot_with_page}
use Rattle.saned_core.specs.Turns.{TurnsSessions}
use Rattle.saned_core.proofs.Apart.{apart}
use Rattle.saned_core.proofs.DaemonLimits.{limits_connected, limits_ended, limits_fed, limits_loaded, limits_lost, limits_opened, limits_taken, limits_turned, limits_unplugged}
use Rattle.saned_core.proofs.FeedCases.{feeds_in}
use Rattle.client_replies.specs.ProtocolStates.{is_batch, is_running}
use Rattle.daemon_refines.proofs.Moved.{unsome}
use Rattle.dispatch.specs.Table.{after_unplug, table_after_load}
use Rattle.event_world.specs.declared.endpoint.Endpoint.{Endpoint}
use Rattle.event_world.specs.declared.event.Event.{Event}
use Rattle.event_world.specs.declared.event.Event.TheVariants as events
use Rattle.event_world.specs.declared.event.JobEvent.{JobEvent}
use Rattle.event_world.specs.declared.event.JobEvent.TheVariants.{Connect, ToDaemon, ToClient, DataConnect, DataTurn, DataToClient, LoseControl, LoseImage, Cancel}
use Rattle.event_world.specs.Endpoints.{after_move, laid_by}
use Rattle.event_world.specs.JobEvents.{Can, Connects, Does, Happens, HeedsPiece, IfLinked, SendsRecord, SendsStep, TakesDataPiece, after_fed, delivered_bytes, image_lost, is_done, with_last_page}
use Rattle.event_world.specs.Worlds.{AtEndpoint, Leads, WorldCore}
use Rattle.event_world.proofs.Deciding.{can_or_not}
use Rattle.world_refines.specs.GhostStates.{Ghost}
use Rattle.world_refines.specs.WorldRefinement.{HasNoStrangers, HaveDifferentNumbers, IsLinked, IsNobodys, WorldRefines}
use Rattle.world_refines.proofs.job_events.Fresh.{number_other, other_slot}
use Rattle.world_refines.proofs.replies.TakenOff.{taken_number}
use Rattle.world_refines.proofs.requests.FedSlot.{keeps_number}
use Rattle.world_refines.proofs.state.CoreCallsKeep.{none_number, on_number}
use Rattle.world_refines.proofs.state.EndpointSlots.{IsNew, Replaces, WasSlot, replaces_ended, replaces_opened, was_on, with_number}
use Rattle.world_refines.proofs.state.ListEntries.{is_same, set_elsewhere, set_there, there}

abbrev Slots : Type 0
Slots = List (Option (SessionSlot DeviceState))

-- ---- slots that keep their numbers

abbrev KeepsSlots : Slots → Slots → Type 0
KeepsSlots old new = (k : ℕ) (slot : SessionSlot DeviceState) → slice_get new k ≡ Some (Some slot) → WasSlot old k slot.number

kept_same : (d e : Core) → e ≡ d → KeepsSlots d.slots e.slots
kept_same d e is k slot at = record { slot = slot; at = ap (λ (x : Core). slice_get x.slots k) (sym is) ∙ at; number = refl }

kept_on : (f : SessionSlot DeviceState → Option (SessionSlot DeviceState)) (n : ℕ) (old new : Slots) → ((slot other : SessionSlot DeviceState) → f slot ≡ Some other → other.number ≡ slot.number) → new ≡ on_session_slot f n old → KeepsSlots old new
kept_on f n old new keeps is k slot at = was_on f n old keeps k slot (ap (λ (x : Slots). slice_get x k) (sym is) ∙ at)

kept_then : (old mid new : Slots) → KeepsSlots old mid → KeepsSlots mid new → KeepsSlots old new
kept_then old mid new first more k slot at =
    let m = more k slot at in
    let w = first k m.slot m.at in
    record { slot = w.slot; at = w.at; number = w.number ∙ m.number }

kept_fed : (k : ℕ) (d e : Core) (piece : List ℕ) (fed : Fed) (o : Option (RequestSession DeviceState)) → session_of d k ≡ o → Feeds k d piece fed e → KeepsSlots d.slots e.slots
kept_fed k d e piece fed None is f = kept_same d e (f.idle is).1
kept_fed k d e piece fed (Some session) is f = let g = feeds_in k d piece fed e session is f in kept_on (slot_or_none_after_feed fed g.context g.rest g.text) k d.slots e.slots (keeps_number fed g.context g.rest g.text) g.slots_is

kept_turned : (o : Option (RequestSession DeviceState)) (k : ℕ) (old : Slots) (step : DataStep) (new : Slots) (buf : List ℕ) → TurnsSessions o k old step new buf → KeepsSlots old new
kept_turned None k old step new buf h j slot at = record { slot = slot; at = ap (λ (x : Slots). slice_get x j) (sym h.1) ∙ at; number = refl }
kept_turned (Some s) k old step new buf h j slot at = kept_on (with_session h.0) k old new (with_number h.0) h.2 j slot at

kept_lost : (k : ℕ) (d e : Core) → e ≡ image_lost k d → KeepsSlots d.slots e.slots
kept_lost k d e is = kept_on (on_session after_lost) k d.slots e.slots (on_number after_lost) (ap (λ (x : Core). x.slots) is)

kept_record : (k : ℕ) (bytes : List ℕ) (last : Bool) (d : Core) (p : Endpoint) (e : Core) (q : Endpoint) → SendsRecord k bytes last d p e q → KeepsSlots d.slots e.slots
kept_record k bytes last d p e q (inl (image, at, same, is)) = kept_same d e same
kept_record k bytes last d p e q (inr (same, is)) = kept_lost k d e same

kept_step : (k : ℕ) (step : DataStep) (buf : List ℕ) (d : Core) (p : Endpoint) (e : Core) (q : Endpoint) → SendsStep k step buf d p e q → KeepsSlots d.slots e.slots
kept_step k turns.Idle buf d p e q h = kept_same d e h.0
kept_step k (turns.Bytes m) buf d p e q h = kept_record k _ false d p e q h
kept_step k (turns.Last m) buf d p e q h = kept_record k _ true d p e q h

-- ---- the link of the endpoint behind its event

fed_link : (fed : Fed) (p : Endpoint) → (after_fed fed p).link ≡ p.link
fed_link feds.Standing p = refl
fed_link feds.Over p = refl
fed_link feds.Starved p = refl

heeds_link : (piece : List ℕ) (old new : Endpoint) (b : Bool) → is_running old.client.outcome ≡ b → HeedsPiece piece old new → new.link ≡ old.link
heeds_link piece old new false e h = ap (λ (x : Endpoint). x.link) (h.over e)
heeds_link piece old new true e h = ap (λ (x : Endpoint). x.link) (h.drains e).rest

record_link : (k : ℕ) (bytes : List ℕ) (last : Bool) (d : Core) (p : Endpoint) (e : Core) (q : Endpoint) → SendsRecord k bytes last d p e q → q.link ≡ p.link
record_link k bytes last d p e q (inl (image, at, same, is)) = ap (λ (x : Endpoint). x.link) is
record_link k bytes last d p e q (inr (same, is)) = ap (λ (x : Endpoint). x.link) is

step_link : (k : ℕ) (step : DataStep) (buf : List ℕ) (d : Core) (p : Endpoint) (e : Core) (q : Endpoint) → SendsStep k step buf d p e q → q.link ≡ p.link
step_link k turns.Idle buf d p e q h = ap (λ (x : Endpoint). x.link) h.1
step_link k (turns.Bytes n) buf d p e q h = record_link k _ false d p e q h
step_link k (turns.Last n) buf d p e q h = record_link k _ true d p e q h

by_laid : (c : Bool) (p : Endpoint) → (if c then record p { file = Some []; pages = slice_set p.pages p.finished p.file; finished = p.finished + 1 } else record p { file = Some [] }).link ≡ p.link
by_laid true p = refl
by_laid false p = refl

by_last : (b : Bool) (p : Endpoint) → (if b then laid_by p else p).link ≡ p.link
by_last true p = by_laid (nat_lt p.finished 16) p
by_last false p = refl

page_link : (p : Endpoint) → (with_last_page p).link ≡ p.link
page_link p = by_last (is_done p.client.outcome && is_batch p.task) p

data_link : (piece : List ℕ) (old new : Endpoint) (b : Bool) → is_running old.client.outcome ≡ b → TakesDataPiece piece old new → new.link ≡ old.link
data_link piece old new false e h = ap (λ (x : Endpoint). x.link) (h.over e)
data_link piece old new true e h = ap (λ (x : Endpoint). x.link) (h.finishes e) ∙ (page_link h.after ∙ ap (λ (x : Endpoint). x.link) (h.drains e).rest)

-- its session is the one that it had, if any; or is opened; or ends
data LinkThen (d : Core) (p : Endpoint) (e : Core) (q : Endpoint) : Type 0 where
  Stays : q.link ≡ p.link → KeepsSlots d.slots e.slots → LinkThen d p e q
  Opens : (id : SessionId) (port : ℕ) → p.link ≡ None → q.link ≡ Some id → id.number ≡ d.opened → e ≡ after_open_session d port → LinkThen d p e q
  Ends : (id : SessionId) → p.link ≡ Some id → q.link ≡ None → e ≡ after_end_session d id.number → LinkThen d p e q

by_link : {A : Type 0} (link : Option SessionId) (P : ℕ → Type 0) → IfLinked link P → ((id : SessionId) → link ≡ Some id → P id.number → A) → A
by_link None P h then_is = absurd h
by_link (Some id) P h then_is = then_is id refl h

connects_then : (port : ℕ) (b : Bool) (d : Core) (p : Endpoint) (e : Core) (q : Endpoint) → p.link ≡ None → Connects port b d p e q → LinkThen d p e q
connects_then port true d p e q none h = Stays (ap (λ (x : Endpoint). x.link) h.1 ∙ sym none) (kept_same d e h.0)
connects_then port false d p e q none h = Opens h.0 port none (ap (λ (x : Endpoint). x.link) h.3) h.1 h.2

does_then : (d : Core) (p : Endpoint) (x : JobEvent) (e : Core) (q : Endpoint) → (p.was_connected ≡ false → p.link ≡ None) → Can d p x → Does d p x e q → LinkThen d p e q
does_then d p Connect e q fresh can h = connects_then h.0 (is_closed d) d p e q (fresh can.1) h.1
does_then d p (ToDaemon n) e q fresh can h = by_link p.link _ h (λ id is it. Stays (ap (λ (x : Endpoint). x.link) it.2 ∙ fed_link it.0 _) (kept_fed id.number d e _ it.0 (session_of d id.number) refl it.1))
does_then d p (ToClient n) e q fresh can h = by_link p.link _ h (λ id is it. Stays (heeds_link _ (after_move p) q (is_running p.client.outcome) refl it.1) (kept_on (after_taken (length (delivered_bytes n (replies_of d id.number)))) id.number d.slots e.slots (taken_number (length (delivered_bytes n (replies_of d id.number)))) (ap (λ (x : Core). x.slots) it.0)))
does_then d p DataConnect e q fresh can h = by_link p.link _ h (λ id is it. Stays (ap (λ (x : Endpoint). x.link) it.1) (kept_on (on_session after_connected) id.number d.slots e.slots (on_number after_connected) (ap (λ (x : Core). x.slots) it.0)))
does_then d p DataTurn e q fresh can h = by_link p.link _ h (λ id is it. Stays (step_link id.number it.step it.buf it.mid p e q it.sends) (kept_then d.slots it.mid.slots e.slots (kept_turned _ id.number d.slots it.step it.mid.slots it.buf it.turns.slots) (kept_step id.number it.step it.buf it.mid p e q it.sends)))
does_then d p (DataToClient n) e q fresh can h = Stays (ap (λ (x : Endpoint). x.link) h.1.2.2 ∙ data_link _ _ h.1.2.0 (is_running p.client.outcome) refl h.1.2.1) (kept_same d e h.0)
does_then d p LoseControl e q fresh can h = by_link p.link _ h (λ id is it. Ends id is (ap (λ (x : Endpoint). x.link) it.1) it.0)
does_then d p LoseImage e q fresh can h = by_link p.link _ h (λ id is it. Stays (ap (λ (x : Endpoint). x.link) it.1) (kept_lost id.number d e it.0))
does_then d p Cancel e q fresh can h = Stays (ap (λ (x : Endpoint). x.link) h.1.rest) (kept_same d e h.0)

happens_then : (d : Core) (p : Endpoint) (x : JobEvent) (e : Core) (q : Endpoint) → (p.was_connected ≡ false → p.link ≡ None) → Happens d p x e q → LinkThen d p e q
happens_then d p x e q fresh h = by (can_or_not d p x)
  where
    by : Can d p x ⊎ (Can d p x → ⊥) → LinkThen d p e q
    by (inl can) = does_then d p x e q fresh can (h.does can)
    by (inr never) = let same = h.cannot never in Stays (ap (λ (y : Endpoint). y.link) same.1) (kept_same d e same.0)

-- ---- it brings no stranger

replaces_then : (d : Core) (p : Endpoint) (e : Core) (q : Endpoint) → HaveDifferentNumbers d.slots → LinkThen d p e q → Replaces p.link q.link d e
replaces_then d p e q single (Stays link kept) = record { place = 0; each = λ k slot at. inl (kept k slot at); still = λ id is. inl (link ∙ is) }
replaces_then d p e q single (Opens id port none link number is) =
    subst (λ (x : Option SessionId). Replaces p.link x d e) (sym link) (subst (λ (x : Option SessionId). Replaces x (Some id) d e) (sym none) (subst (λ (x : Core). Replaces None (Some id) d x) (sym is) (replaces_opened d port id number)))
replaces_then d p e q single (Ends id link none is) =
    subst (λ (x : Option SessionId). Replaces p.link x d e) (sym none) (subst (λ (x : Option SessionId). Replaces x None d e) (sym link) (subst (λ (x : Core). Replaces (Some id) None d x) (sym is) (replaces_ended d id single)))

links_still : (endpoints : List Endpoint) (i n : ℕ) (p q : Endpoint) → slice_get endpoints i ≡ Some p → (l : IsLinked endpoints n) → (l.place ≡ i) ⊎ (l.place ≢ i) → ((id : SessionId) → p.link ≡ Some id → (q.link ≡ Some id) ⊎ (n ≢ id.number)) → IsLinked (slice_set endpoints i q) n
links_still endpoints i n p q at l (inl same) still =
    let is : l.endpoint ≡ p = unsome l.endpoint p (sym l.at ∙ (ap (slice_get endpoints) same ∙ at)) in
    by_still (still l.id (ap (λ (x : Endpoint). x.link) (sym is) ∙ l.link))
  where
    by_still : (q.link ≡ Some l.id) ⊎ (n ≢ l.id.number) → IsLinked (slice_set endpoints i q) n
    by_still (inl e) = record { place = i; endpoint = q; id = l.id; at = set_there endpoints i q p at; link = e; number = l.number }
    by_still (inr other) = absurd (other (sym l.number))
links_still endpoints i n p q at l (inr away) still = record { place = l.place; endpoint = l.endpoint; id = l.id; at = set_elsewhere endpoints i l.place q away ∙ l.at; link = l.link; number = l.number }

still_at : (old new : Option SessionId) (d e : Core) (k : ℕ) (s : SessionSlot DeviceState) → Replaces old new d e → slice_get e.slots k ≡ Some (Some s) → (id : SessionId) → old ≡ Some id → (new ≡ Some id) ⊎ (s.number ≢ id.number)
still_at old new d e k s r at id is = by_still (r.still id is)
  where
    by_still : (new ≡ Some id) ⊎ ((j : ℕ) (slot : SessionSlot DeviceState) → slice_get e.slots j ≡ Some (Some slot) → slot.number ≢ id.number) → (new ≡ Some id) ⊎ (s.number ≢ id.number)
    by_still (inl same) = inl same
    by_still (inr none) = inr (none k s at)

linked_by : (w : WorldCore) (i : ℕ) (p q : Endpoint) (place k : ℕ) (s : SessionSlot DeviceState) → HasNoStrangers w → slice_get w.endpoints i ≡ Some p → ((id : SessionId) → p.link ≡ Some id → (q.link ≡ Some id) ⊎ (s.number ≢ id.number)) → WasSlot w.daemon.slots k s.number ⊎ IsNew q.link w.daemon place k s.number → IsLinked (slice_set w.endpoints i q) s.number
linked_by w i p q place k s h at still (inl was) = let l = subst (IsLinked w.endpoints) was.number (h k was.slot was.at) in links_still w.endpoints i s.number p q at l (is_same l.place i) still
linked_by w i p q place k s h at still (inr new) = record { place = i; endpoint = q; id = new.id; at = set_there w.endpoints i q p at; link = new.link_is; number = new.number }

-- ---- it leaves whoever is one

abbrev pub Kept : Core → Core → ℕ → Type 0
Kept d e n = session_slot_of e.slots n ≡ session_slot_of d.slots n

connects_kept : (port : ℕ) (b : Bool) (d : Core) (p : Endpoint) (e : Core) (q : Endpoint) → Connects port b d p e q → (n : ℕ) → n < d.opened → Kept d e n
connects_kept port true d p e q h n low = ap (λ (x : Core). session_slot_of x.slots n) h.0
connects_kept port false d p e q h n low = ap (λ (x : Core). session_slot_of x.slots n) h.2 ∙ other_slot d.slots (new_session_slot d.strings d.opened port) n (number_other d port n low)

other_on : (f : SessionSlot DeviceState → Option (SessionSlot DeviceState)) (k n : ℕ) (slots : Slots) → ((slot new : SessionSlot DeviceState) → f slot ≡ Some new → new.number ≡ slot.number) → n ≢ k → session_slot_of (on_session_slot f k slots) n ≡ session_slot_of slots n
other_on f k n slots keeps off = apart slots f k n keeps (λ same. off (sym same))

turned_kept : (o : Option (RequestSession DeviceState)) (k n : ℕ) (old : Slots) (step : DataStep) (new : Slots) (buf : List ℕ) → TurnsSessions o k old step new buf → n ≢ k → session_slot_of new n ≡ session_slot_of old n
turned_kept None k n old step new buf h off = ap (λ (x : Slots). session_slot_of x n) h.1
turned_kept (Some s) k n old step new buf h off = ap (λ (x : Slots). session_slot_of x n) h.2 ∙ other_on (with_session h.0) k n old (with_number h.0) off

lost_kept : (k n : ℕ) (d : Core) → n ≢ k → Kept d (image_lost k d) n
lost_kept k n d off = other_on (on_session after_lost) k n d.slots (on_number after_lost) off

record_kept : (k : ℕ) (bytes : List ℕ) (last : Bool) (d : Core) (p : Endpoint) (e : Core) (q : Endpoint) → SendsRecord k bytes last d p e q → (n : ℕ) → n ≢ k → Kept d e n
record_kept k bytes last d p e q (inl (image, at, same, is)) n off = ap (λ (x : Core). session_slot_of x.slots n) same
record_kept k bytes last d p e q (inr (same, is)) n off = ap (λ (x : Core). session_slot_of x.slots n) same ∙ lost_kept k n d off

step_kept : (k : ℕ) (step : DataStep) (buf : List ℕ) (d : Core) (p : Endpoint) (e : Core) (q : Endpoint) → SendsStep k step buf d p e q → (n : ℕ) → n ≢ k → Kept d e n
step_kept k turns.Idle buf d p e q h n off = ap (λ (x : Core). session_slot_of x.slots n) h.0
step_kept k (turns.Bytes m) buf d p e q h n off = record_kept k _ false d p e q h n off
step_kept k (turns.Last m) buf d p e q h n off = record_kept k _ true d p e q h n off

does_kept : (d : Core) (p : Endpoint) (x : JobEvent) (e : Core) (q : Endpoint) → Does d p x e q → (n : ℕ) → ((id : SessionId) → p.link ≡ Some id → n ≢ id.number) → n < d.opened → Kept d e n
does_kept d p Connect e q h n off low = connects_kept h.0 (is_closed d) d p e q h.1 n low
does_kept d p (ToDaemon m) e q h n off low = by_link p.link _ h (λ id is it. it.1.others.slots n (off id is))
does_kept d p (ToClient m) e q h n off low = by_link p.link _ h (λ id is it. ap (λ (x : Core). session_slot_of x.slots n) it.0 ∙ other_on _ id.number n d.slots (taken_number _) (off id is))
does_kept d p DataConnect e q h n off low = by_link p.link _ h (λ id is it. ap (λ (x : Core). session_slot_of x.slots n) it.0 ∙ other_on (on_session after_connected) id.number n d.slots (on_number after_connected) (off id is))
does_kept d p DataTurn e q h n off low = by_link p.link _ h (λ id is it. step_kept id.number it.step it.buf it.mid p e q it.sends n (off id is) ∙ turned_kept _ id.number n d.slots it.step it.mid.slots it.buf it.turns.slots (off id is))
does_kept d p (DataToClient m) e q h n off low = ap (λ (x : Core). session_slot_of x.slots n) h.0
does_kept d p LoseControl e q h n off low = by_link p.link _ h (λ id is it. ap (λ (x : Core). session_slot_of x.slots n) it.0 ∙ other_on no_more id.number n d.slots none_number (off id is))
does_kept d p LoseImage e q h n off low = by_link p.link _ h (λ id is it. ap (λ (x : Core). session_slot_of x.slots n) it.0 ∙ lost_kept id.number n d (off id is))
does_kept d p Cancel e q h n off low = ap (λ (x : Core). session_slot_of x.slots n) h.0

-- its slot is as it was, where it is not the endpoint's
pub happens_kept : (d : Core) (p : Endpoint) (x : JobEvent) (e : Core) (q : Endpoint) → Happens d p x e q → (n : ℕ) → ((id : SessionId) → p.link ≡ Some id → n ≢ id.number) → n < d.opened → Kept d e n
happens_kept d p x e q h n off low = by (can_or_not d p x)
  where
    by : Can d p x ⊎ (Can d p x → ⊥) → Kept d e n
    by (inl can) = does_kept d p x e q (h.does can) n off low
    by (inr never) = ap (λ (y : Core). session_slot_of y.slots n) (h.cannot never).0

-- and it is nobody's still
nobodys_then : (w : WorldCore) (i n : ℕ) (p q : Endpoint) (e : Core) → slice_get w.endpoints i ≡ Some p → IsNobodys w n → n < w.daemon.opened → LinkThen w.daemon p e q → (j : ℕ) (endpoint : Endpoint) (id : SessionId) → slice_get (slice_set w.endpoints i q) j ≡ Some endpoint → endpoint.link ≡ Some id → (j ≡ i) ⊎ (j ≢ i) → id.number ≢ n
nobodys_then w i n p q e at nobodys low l j endpoint id there link (inr off) = nobodys j endpoint id (sym (set_elsewhere w.endpoints i j q off) ∙ there) link
nobodys_then w i n p q e at nobodys low l j endpoint id there link (inl same) = by l (ap (λ (x : Endpoint). x.link) (sym is_q) ∙ link)
  where
    is_q : endpoint ≡ q
    is_q = unsome endpoint q (sym there ∙ (ap (slice_get (slice_set w.endpoints i q)) same ∙ set_there w.endpoints i q p at))

    by : LinkThen w.daemon p e q → q.link ≡ Some id → id.number ≢ n
    by (Stays still kept) is = nobodys i p id at (sym still ∙ is)
    by (Opens new port none opened number after) is = λ numbered. let one : new ≡ id = unsome new id (sym opened ∙ is) in let high : id.number ≡ w.daemon.opened = ap (λ (x : SessionId). x.number) (sym one) ∙ number in omega (arith, low, high, numbered)
    by (Ends old was none after) is = absurd (let clash : None ≡ Some id = sym none ∙ is in cc)

-- ---- the limits

limits_same : (d e : Core) → e ≡ d → HasDaemonLimits d → HasDaemonLimits e
limits_same d e is h = subst HasDaemonLimits (sym is) h

connects_limits : (port : ℕ) (b : Bool) (d : Core) (p : Endpoint) (e : Core) (q : Endpoint) → Connects port b d p e q → HasDaemonLimits d → HasDaemonLimits e
connects_limits port true d p e q h limits = limits_same d e h.0 limits
connects_limits port false d p e q h limits = subst HasDaemonLimits (sym h.2) (limits_opened d port limits)

record_limits : (k : ℕ) (bytes : List ℕ) (last : Bool) (d : Core) (p : Endpoint) (e : Core) (q : Endpoint) → SendsRecord k bytes last d p e q → HasDaemonLimits d → HasDaemonLimits e
record_limits k bytes last d p e q (inl (image, at, same, is)) limits = limits_same d e same limits
record_limits k bytes last d p e q (inr (same, is)) limits = subst HasDaemonLimits (sym same) (limits_lost d k limits)

step_limits : (k : ℕ) (step : DataStep) (buf : List ℕ) (d : Core) (p : Endpoint) (e : Core) (q : Endpoint) → SendsStep k step buf d p e q → HasDaemonLimits d → HasDaemonLimits e
step_limits k turns.Idle buf d p e q h limits = limits_same d e h.0 limits
step_limits k (turns.Bytes m) buf d p e q h limits = record_limits k _ false d p e q h limits
step_limits k (turns.Last m) buf d p e q h limits = record_limits k _ true d p e q h limits

does_limits : (d : Core) (p : Endpoint) (x : JobEvent) (e : Core) (q : Endpoint) → Does d p x e q → HasDaemonLimits d → HasDaemonLimits e
does_limits d p Connect e q h limits = connects_limits h.0 (is_closed d) d p e q h.1 limits
does_limits d p (ToDaemon n) e q h limits = by_link p.link _ h (λ id is it. limits_fed id.number d _ it.0 e it.1 limits)
does_limits d p (ToClient n) e q h limits = by_link p.link _ h (λ id is it. subst HasDaemonLimits (sym it.0) (limits_taken d id.number _ limits))
does_limits d p DataConnect e q h limits = by_link p.link _ h (λ id is it. subst HasDaemonLimits (sym it.0) (limits_connected d id.number limits))
does_limits d p DataTurn e q h limits = by_link p.link _ h (λ id is it. step_limits id.number it.step it.buf it.mid p e q it.sends (limits_turned id.number d it.step it.mid it.buf it.turns limits))
does_limits d p (DataToClient n) e q h limits = limits_same d e h.0 limits
does_limits d p LoseControl e q h limits = by_link p.link _ h (λ id is it. subst HasDaemonLimits (sym it.0) (limits_ended d id.number limits))
does_limits d p LoseImage e q h limits = by_link p.link _ h (λ id is it. subst HasDaemonLimits (sym it.0) (limits_lost d id.number limits))
does_limits d p Cancel e q h limits = limits_same d e h.0 limits

happens_limits : (d : Core) (p : Endpoint) (x : JobEvent) (e : Core) (q : Endpoint) → Happens d p x e q → HasDaemonLimits d → HasDaemonLimits e
happens_limits d p x e q h limits = by (can_or_not d p x)
  where
    by : Can d p x ⊎ (Can d p x → ⊥) → HasDaemonLimits e
    by (inl can) = does_limits d p x e q (h.does can) limits
    by (inr never) = limits_same d e (h.cannot never).0 limits

-- ---- of a world

before_link : (t : Ghost) (w : WorldCore) (i : ℕ) (p : Endpoint) → WorldRefines t w → slice_get w.endpoints i ≡ Some p → p.was_connected ≡ false → p.link ≡ None
before_link t w i p h at fresh = ((h.endpoints i p at).means.before fresh).0

at_alone : (t : Ghost) (w v : WorldCore) (i : ℕ) (x : JobEvent) → WorldRefines t w → AtEndpoint w i x v → HasNoStrangers w → HasNoStrangers v
at_alone t w v i x h a alone = by (there w.endpoints i)
  where
    by_endpoint : (p : Endpoint) → slice_get w.endpoints i ≡ Some p → HasNoStrangers v
    by_endpoint p at k slot is_there =
        let g = a.happens p at in
        let r = replaces_then w.daemon p v.daemon g.0 h.apart (happens_then w.daemon p x v.daemon g.0 (before_link t w i p h at) g.1) in
        subst (λ (ps : List Endpoint). IsLinked ps slot.number) (sym g.2) (linked_by w i p g.0 r.place k slot alone at (still_at p.link g.0.link w.daemon v.daemon k slot r is_there) (r.each k slot is_there))

    by : ((p : Endpoint) × (slice_get w.endpoints i ≡ Some p)) ⊎ (length w.endpoints ≤ i) → HasNoStrangers v
    by (inl p) = by_endpoint p.0 p.1
    by (inr high) = subst HasNoStrangers (sym (a.beyond high)) alone

-- who is a stranger stays one, as he is
pub record IsLeft (w v : WorldCore) (n : ℕ) : Type 0 where
  pub nobodys : IsNobodys v n
  pub kept : Kept w.daemon v.daemon n

pub at_left : (t : Ghost) (w v : WorldCore) (i n : ℕ) (x : JobEvent) → WorldRefines t w → AtEndpoint w i x v → IsNobodys w n → n < w.daemon.opened → IsLeft w v n
at_left t w v i n x h a nobodys low = by (there w.endpoints i)
  where
    by_endpoint : (p : Endpoint) → slice_get w.endpoints i ≡ Some p → IsLeft w v n
    by_endpoint p at =
        let g = a.happens p at in
        let l = happens_then w.daemon p x v.daemon g.0 (before_link t w i p h at) g.1 in
        record {
          nobodys = λ j endpoint id there link. nobodys_then w i n p g.0 v.daemon at nobodys low l j endpoint id (subst (λ (ps : List Endpoint). slice_get ps j ≡ Some endpoint) g.2 there) link (is_same j i);
          kept = happens_kept w.daemon p x v.daemon g.0 g.1 n (λ id link same. nobodys i p id at link (sym same)) low;
        }

    by : ((p : Endpoint) × (slice_get w.endpoints i ≡ Some p)) ⊎ (length w.endpoints ≤ i) → IsLeft w v n
    by (inl p) = by_endpoint p.0 p.1
    by (inr high) = subst (λ (y : WorldCore). IsLeft w y n) (sym (a.beyond high)) (record { nobodys = nobodys; kept = refl })

at_limits : (w v : WorldCore) (i : ℕ) (x : JobEvent) → AtEndpoint w i x v → HasDaemonLimits w.daemon → HasDaemonLimits v.daemon
at_limits w v i x a limits = by (there w.endpoints i)
  where
    by : ((p : Endpoint) × (slice_get w.endpoints i ≡ Some p)) ⊎ (length w.endpoints ≤ i) → HasDaemonLimits v.daemon
    by (inl p) = let g = a.happens p.0 p.1 in happens_limits w.daemon p.0 x v.daemon g.0 g.1 limits
    by (inr high) = subst (λ (y : WorldCore). HasDaemonLimits y.daemon) (sym (a.beyond high)) limits

-- a page that is laid in
page_number : (name : List ℕ) (source : SourceState) (x : Option (SessionSlot DeviceState)) (slot : SessionSlot DeviceState) → slot_with_page name source x ≡ Some slot → (old : SessionSlot DeviceState) × (x ≡ Some old) × (old.number ≡ slot.number)
page_number name source None slot is = absurd (let clash : None ≡ Some slot = is in cc)
page_number name source (Some old) slot is = (old, refl, ap (λ (y : SessionSlot DeviceState). y.number) (unsome _ slot is))

first_by : (name : List ℕ) (source : SourceState) (x : Option (SessionSlot DeviceState)) (slots more : Slots) (slot : SessionSlot DeviceState) (b : Bool) (k : ℕ) → KeepsSlots slots more → slice_get (if b then slot_with_page name source x ∷ slots else x ∷ more) k ≡ Some (Some slot) → WasSlot (x ∷ slots) k slot.number
first_by name source x slots more slot true zero kept e = let o = page_number name source x slot (unsome (slot_with_page name source x) (Some slot) e) in record { slot = o.0; at = ap (λ (y : Option (SessionSlot DeviceState)). Some y) o.1; number = o.2 }
first_by name source x slots more slot true (suc k) kept e = record { slot = slot; at = e; number = refl }
first_by name source x slots more slot false zero kept e = record { slot = slot; at = e; number = refl }
first_by name source x slots more slot false (suc k) kept e = let m = kept k slot e in record { slot = m.slot; at = m.at; number = m.number }

kept_first : (name : List ℕ) (source : SourceState) (slots : Slots) → KeepsSlots slots (on_first (holds name) (slot_with_page name source) slots)
unfolding on_first
kept_first name source [] k slot at = absurd (let clash : None ≡ Some (Some slot) = at in cc)
kept_first name source (x ∷ slots) k slot at = first_by name source x slots (on_first (holds name) (slot_with_page name source) slots) slot (holds name x) k (kept_first name source slots) at

kept_loaded : (b : Bool) (d : Core) (name : List ℕ) (source : SourceState) → KeepsSlots d.slots (if b then record d { slots = on_first (holds name) (slot_with_page name source) d.slots } else record d { registry = table_after_load d.registry name source }).slots
kept_loaded true d name source = kept_first name source d.slots
kept_loaded false d name source = kept_same d d refl

beside_alone : (w v : WorldCore) → v.endpoints ≡ w.endpoints → KeepsSlots w.daemon.slots v.daemon.slots → HasNoStrangers w → HasNoStrangers v
beside_alone w v same kept alone k slot at =
    let was = kept k slot at in
    subst (λ (ps : List Endpoint). IsLinked ps slot.number) (sym same) (subst (IsLinked w.endpoints) was.number (alone k was.slot was.at))

-- ---- any event

pub event_alone : (source : Source → SourceState) (e : Event) (t : Ghost) (w v : WorldCore) → WorldRefines t w → Leads source e w v → HasNoStrangers w → HasNoStrangers v
event_alone source (events.Connect i) t w v h at alone = at_alone t w v i Connect h at alone
event_alone source (events.ToDaemon i n) t w v h at alone = at_alone t w v i (ToDaemon n) h at alone
event_alone source (events.ToClient i n) t w v h at alone = at_alone t w v i (ToClient n) h at alone
event_alone source (events.DataConnect i) t w v h at alone = at_alone t w v i DataConnect h at alone
event_alone source (events.DataTurn i) t w v h at alone = at_alone t w v i DataTurn h at alone
event_alone source (events.DataToClient i n) t w v h at alone = at_alone t w v i (DataToClient n) h at alone
event_alone source (events.LoseControl i) t w v h at alone = at_alone t w v i LoseControl h at alone
event_alone source (events.LoseImage i) t w v h at alone = at_alone t w v i LoseImage h at alone
event_alone source (events.Cancel i) t w v h at alone = at_alone t w v i Cancel h at alone
event_alone source (events.Load name page) t w v h at alone =
    beside_alone w v (ap (λ (x : WorldCore). x.endpoints) at) (subst (λ (x : WorldCore). KeepsSlots w.daemon.slots x.daemon.slots) (sym at) (kept_loaded (list_any (holds name) w.daemon.slots) w.daemon name (source page))) alone
event_alone source (events.Unplug name) t w v h at alone =
    beside_alone w v (ap (λ (x : WorldCore). x.endpoints) at) (subst (λ (x : WorldCore). KeepsSlots w.daemon.slots x.daemon.slots) (sym at) (kept_same w.daemon w.daemon refl)) alone

pub event_limits : (source : Source → SourceState) (e : Event) (w v : WorldCore) → Leads source e w v → HasDaemonLimits w.daemon → HasDaemonLimits v.daemon
event_limits source (events.Connect i) w v at limits = at_limits w v i Connect at limits
event_limits source (events.ToDaemon i n) w v at limits = at_limits w v i (ToDaemon n) at limits
event_limits source (events.ToClient i n) w v at limits = at_limits w v i (ToClient n) at limits
event_limits source (events.DataConnect i) w v at limits = at_limits w v i DataConnect at limits
event_limits source (events.DataTurn i) w v at limits = at_limits w v i DataTurn at limits
event_limits source (events.DataToClient i n) w v at limits = at_limits w v i (DataToClient n) at limits
event_limits source (events.LoseControl i) w v at limits = at_limits w v i LoseControl at limits
event_limits source (events.LoseImage i) w v at limits = at_limits w v i LoseImage at limits
event_limits source (events.Cancel i) w v at limits = at_limits w v i Cancel at limits
event_limits source (events.Load name page) w v at limits = subst (λ (x : WorldCore). HasDaemonLimits x.daemon) (sym at) (limits_loaded w.daemon name (source page) limits)
event_limits source (events.Unplug name) w v at limits = subst (λ (x : WorldCore). HasDaemonLimits x.daemon) (sym at) (limits_unplugged w.daemon (after_unplug w.daemon.registry name) limits)
