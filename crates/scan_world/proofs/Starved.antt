-- That memory ran out for a job stays told.
use Rattle.std.specs.Prelude.{◌&&◌, nat_lt, slice_get, slice_set}
use Rattle.std.proofs.Common.{◌≡◌, ◌∙◌, ℕ, List, [], ◌∷◌, Bool, true, false, Some, inl, inr, refl, sym, ap}
use Rattle.page_sources.specs.SourceView.{source_state}
use Rattle.saned_core.specs.DaemonStates.{Core, is_closed}
use Rattle.saned_core.specs.declared.session_slot.DataStep.{DataStep}
use Rattle.saned_core.specs.declared.session_slot.DataStep.TheVariants as steps
use Rattle.saned_core.specs.declared.session_slot.Fed.{Fed}
use Rattle.saned_core.specs.declared.session_slot.Fed.TheVariants as feds
use Rattle.client_replies.specs.ProtocolStates.{is_batch, is_running}
use Rattle.event_world.specs.declared.endpoint.Endpoint.{Endpoint}
use Rattle.event_world.specs.declared.event.Event.{Event}
use Rattle.event_world.specs.declared.event.Event.TheVariants as events
use Rattle.event_world.specs.declared.event.JobEvent.{JobEvent}
use Rattle.event_world.specs.declared.event.JobEvent.TheVariants.{Connect, ToDaemon, ToClient, DataConnect, DataTurn, DataToClient, LoseControl, LoseImage, Cancel}
use Rattle.event_world.specs.Endpoints.{after_move, laid_by}
use Rattle.event_world.specs.JobEvents.{Connects, Does, Happens, HeedsPiece, SendsRecord, SendsStep, TakesDataPiece, after_fed, is_done, with_last_page, without_sent}
use Rattle.event_world.specs.Worlds.{AtEndpoint, Leads, Runs, WorldCore}
use Rattle.event_world.proofs.Deciding.{can_or_not}
use Rattle.event_world.proofs.Events.{linked_by}
use Rattle.scan_world.specs.Calls.{StarvedStays, is_starved}
use Rattle.scan_world.proofs.moments.Entries.{end_at, past_end, set_get, set_here}

-- ---- of one endpoint

abbrev IsOut : Endpoint → Type 0
IsOut p = p.out_of_memory ≡ true

out_by : (q r : Endpoint) → q ≡ r → IsOut r → IsOut q
out_by q r is out = ap (λ (p : Endpoint). p.out_of_memory) is ∙ out

connect_out : (port : ℕ) (b : Bool) (d : Core) (p : Endpoint) (e : Core) (q : Endpoint) → Connects port b d p e q → IsOut p → IsOut q
connect_out port true d p e q c out = out_by q _ c.1 refl
connect_out port false d p e q c out = out_by q _ c.3 out

fed_out : (fed : Fed) (n : ℕ) (p : Endpoint) → IsOut p → IsOut (after_fed fed (without_sent n p))
fed_out feds.Standing n p out = out
fed_out feds.Over n p out = out
fed_out feds.Starved n p out = refl

heeds_out : (piece : List ℕ) (p q : Endpoint) (b : Bool) → is_running p.client.outcome ≡ b → HeedsPiece piece p q → IsOut p → IsOut q
heeds_out piece p q true on h out = (h.drains on).starved out
heeds_out piece p q false off h out = out_by q p (h.over off) out

record_out : (k : ℕ) (bytes : List ℕ) (last : Bool) (d : Core) (p : Endpoint) (e : Core) (q : Endpoint) → SendsRecord k bytes last d p e q → IsOut p → IsOut q
record_out k bytes last d p e q (inl s) out = out_by q _ s.3 out
record_out k bytes last d p e q (inr s) out = out_by q _ s.1 refl

step_out : (k : ℕ) (step : DataStep) (buf : List ℕ) (d : Core) (p : Endpoint) (e : Core) (q : Endpoint) → SendsStep k step buf d p e q → IsOut p → IsOut q
step_out k steps.Idle buf d p e q s out = out_by q _ s.1 out
step_out k (steps.Bytes n) buf d p e q s out = record_out k _ false d p e q s out
step_out k (steps.Last n) buf d p e q s out = record_out k _ true d p e q s out

laid_if : (p : Endpoint) (b : Bool) → nat_lt p.finished 16 ≡ b → IsOut p → IsOut (laid_by p)
laid_if p true e out = rw e out
laid_if p false e out = rw e out

last_if : (p : Endpoint) (b : Bool) → (is_done p.client.outcome && is_batch p.task) ≡ b → IsOut p → IsOut (with_last_page p)
last_if p true e out = rw e (laid_if p (nat_lt p.finished 16) refl out)
last_if p false e out = rw e out

data_out : (piece : List ℕ) (p q : Endpoint) (b : Bool) → is_running p.client.outcome ≡ b → TakesDataPiece piece p q → IsOut p → IsOut q
data_out piece p q true on h out = out_by q (with_last_page h.after) (h.finishes on) (last_if h.after (is_done h.after.client.outcome && is_batch h.after.task) refl ((h.drains on).starved out))
data_out piece p q false off h out = out_by q p (h.over off) out

does_out : (d : Core) (p : Endpoint) (x : JobEvent) (e : Core) (q : Endpoint) → Does d p x e q → IsOut p → IsOut q
does_out d p Connect e q does out = connect_out does.0 (is_closed d) d p e q does.1 out
does_out d p (ToDaemon n) e q does out = linked_by p.link _ (IsOut q) does (λ k fed. out_by q _ fed.2 (fed_out fed.0 n p out))
does_out d p (ToClient n) e q does out = linked_by p.link _ (IsOut q) does (λ k told. heeds_out _ (after_move p) q (is_running p.client.outcome) refl told.1 out)
does_out d p DataConnect e q does out = linked_by p.link _ (IsOut q) does (λ k it. out_by q _ it.1 out)
does_out d p DataTurn e q does out = linked_by p.link _ (IsOut q) does (λ k turn. step_out k turn.step turn.buf turn.mid p e q turn.sends out)
does_out d p (DataToClient n) e q does out = out_by q _ does.1.2.2 (data_out _ _ does.1.2.0 (is_running p.client.outcome) refl does.1.2.1 out)
does_out d p LoseControl e q does out = linked_by p.link _ (IsOut q) does (λ k it. out_by q _ it.1 out)
does_out d p LoseImage e q does out = linked_by p.link _ (IsOut q) does (λ k it. out_by q _ it.1 out)
does_out d p Cancel e q does out = out_by q _ does.1.rest out

happens_out : (d e : Core) (p q : Endpoint) (x : JobEvent) → Happens d p x e q → IsOut p → IsOut q
happens_out d e p q x h out = elim (can_or_not d p x) [
  | inl can ↦ does_out d p x e q (h.does can) out
  | inr never ↦ out_by q p (h.cannot never).1 out
]

-- ---- of all jobs

abbrev Remains : WorldCore → WorldCore → ℕ → Type 0
Remains w v k = is_starved (slice_get w.endpoints k) ≡ true → is_starved (slice_get v.endpoints k) ≡ true

same_entry : (w v : WorldCore) (k : ℕ) → slice_get v.endpoints k ≡ slice_get w.endpoints k → Remains w v k
same_entry w v k same out = ap is_starved same ∙ out

remains_at : (w : WorldCore) (i : ℕ) (x : JobEvent) (v : WorldCore) (k : ℕ) → AtEndpoint w i x v → Remains w v k
remains_at w i x v k a = elim (end_at (slice_get w.endpoints i)) [
  | inl none ↦ same_entry w v k (ap (λ (y : WorldCore). slice_get y.endpoints k) (a.beyond (past_end w.endpoints i none)))
  | inr there ↦
      let h = a.happens there.0 there.1 in
      let now : slice_get v.endpoints k ≡ slice_get (slice_set w.endpoints i h.0) k = ap (λ (es : List Endpoint). slice_get es k) h.2 in
      elim (set_get w.endpoints i k h.0) [
        | inl other ↦ same_entry w v k (now ∙ other)
        | inr same ↦ λ out.
            let was : IsOut there.0 = sym (ap is_starved (ap (slice_get w.endpoints) (sym same) ∙ there.1)) ∙ out in
            let is : slice_get v.endpoints k ≡ Some h.0 = now ∙ (ap (slice_get (slice_set w.endpoints i h.0)) (sym same) ∙ set_here w.endpoints i there.0 h.0 there.1) in
            ap is_starved is ∙ happens_out w.daemon v.daemon there.0 h.0 x h.1 was
      ]
]

remains_led : (event : Event) (w v : WorldCore) (k : ℕ) → Leads source_state event w v → Remains w v k
remains_led (events.Connect i) w v k l = remains_at w i Connect v k l
remains_led (events.ToDaemon i n) w v k l = remains_at w i (ToDaemon n) v k l
remains_led (events.ToClient i n) w v k l = remains_at w i (ToClient n) v k l
remains_led (events.DataConnect i) w v k l = remains_at w i DataConnect v k l
remains_led (events.DataTurn i) w v k l = remains_at w i DataTurn v k l
remains_led (events.DataToClient i n) w v k l = remains_at w i (DataToClient n) v k l
remains_led (events.LoseControl i) w v k l = remains_at w i LoseControl v k l
remains_led (events.LoseImage i) w v k l = remains_at w i LoseImage v k l
remains_led (events.Cancel i) w v k l = remains_at w i Cancel v k l
remains_led (events.Load name page) w v k l = same_entry w v k (ap (λ (y : WorldCore). slice_get y.endpoints k) l)
remains_led (events.Unplug name) w v k l = same_entry w v k (ap (λ (y : WorldCore). slice_get y.endpoints k) l)

pub starved_stays : (es : List Event) (w v : WorldCore) → Runs source_state es w v → StarvedStays w v
starved_stays [] w v e k out = same_entry w v k (ap (λ (y : WorldCore). slice_get y.endpoints k) e) out
starved_stays (e ∷ es) w v (u, one, rest) k out = starved_stays es u v rest k (remains_led e w u k one out)
