-- What happens to a job takes one from its moves, and rounds of next moves end.
use Rattle.std.proofs.Common.{◌≡◌, ◌≢◌, ◌∙◌, ℕ, zero, suc, ◌+◌, ◌-◌, ◌<◌, ◌≤◌, ◌⊎◌, ◌++◌, Bool, true, false, Option, Some, None, is_some, option_map, List, [], ◌∷◌, length, slice_get, slice_set, cond, refl, sym, ap, subst, arith, inl, inr, length-append, append_assoc}
use Rattle.std.proofs.lemmas.List.{append-nil, length-set}
use Rattle.std.proofs.lemmas.Option.{slice_get_within}
use Rattle.page_picture.specs.Source.{SourceState}
use Rattle.page_sources.specs.declared.kinds.Source.{Source}
use Rattle.sane_fixed.specs.declared.status.Status.TheVariants as statuses
use Rattle.scan_job.specs.declared.outcome.Why.TheVariants as whys
use Rattle.client_replies.specs.declared.progress.Link.{Link}
use Rattle.client_replies.specs.declared.progress.Link.TheVariants as links
use Rattle.client_replies.specs.ProtocolStates.{is_lost_by, is_running}
use Rattle.net_client.specs.ClientStates.{ClientState, after_client_end}
use Rattle.saned_core.specs.declared.session_slot.Fed.{Fed}
use Rattle.saned_core.specs.declared.session_slot.Fed.TheVariants as feds
use Rattle.saned_core.specs.declared.session_slot.DataStep.{DataStep}
use Rattle.saned_core.specs.declared.session_slot.DataStep.TheVariants as steps
use Rattle.saned_core.specs.DaemonStates.{Core, is_closed}
use Rattle.event_world.specs.declared.event.Event.{Event}
use Rattle.event_world.specs.declared.event.Event.TheVariants as events
use Rattle.event_world.specs.declared.event.JobEvent.{JobEvent}
use Rattle.event_world.specs.declared.event.JobEvent.TheVariants.{Connect, ToDaemon, ToClient, DataConnect, DataTurn, DataToClient, LoseControl, LoseImage, Cancel}
use Rattle.event_world.specs.declared.endpoint.Endpoint.{Endpoint}
use Rattle.event_world.specs.Endpoints.{laid_by, after_move, after_link_loss}
use Rattle.event_world.specs.JobEvents.{Can, Connects, Does, Happens, HeedsPiece, TakesDataPiece, TakesPieceOfData, SendsRecord, SendsStep, after_fed, job_event_of, with_last_page, without_sent}
use Rattle.event_world.specs.FileDraining.{IsLaid}
use Rattle.event_world.specs.JobMoves.{HasNone, IsFirstMove, IsNext, IsNextMove, in_order, moves_left_of}
use Rattle.event_world.specs.Worlds.{AtEndpoint, Leads, Runs, WorldCore}
use Rattle.event_world.specs.Rounds.{HasRound, HasTurn, IsMoveOf, IsRound, RestsAt, Rounds, RoundsRunOut, TakesMove, TakesMoves, all_made, moves_made, total_left}
use Rattle.event_world.proofs.Deciding.{can_or_not}
use Rattle.event_world.proofs.Events.{linked_by, post_or_none}
use Rattle.event_world.proofs.Pulls.{laid_always}

-- ---- one event takes one

fed_budget : (fed : Fed) (p : Endpoint) → (after_fed fed p).budget ≡ p.budget
fed_budget feds.Standing p = refl
fed_budget feds.Over p = refl
fed_budget feds.Starved p = refl

laid_budget : (p q : Endpoint) → IsLaid p q → q.budget ≡ p.budget
laid_budget p q e = ap (λ (x : Endpoint). x.budget) e

connected_budget : (port : ℕ) (b : Bool) (d : Core) (p : Endpoint) (e : Core) (q : Endpoint) → Connects port b d p e q → q.budget ≡ p.budget - 1
connected_budget port true d p e q c = ap (λ (x : Endpoint). x.budget) c.1
connected_budget port false d p e q c = ap (λ (x : Endpoint). x.budget) c.3

heard_budget : (b : Bool) (piece : List ℕ) (p q : Endpoint) → is_running p.client.outcome ≡ b → HeedsPiece piece p q → q.budget ≡ p.budget
heard_budget false piece p q e h = ap (λ (x : Endpoint). x.budget) (h.over e)
heard_budget true piece p q e h = laid_budget (record p { client = h.mid }) q (h.drains e).rest

finished_by : (b : Bool) (p : Endpoint) → (cond b (laid_by p) p).budget ≡ p.budget
finished_by true p = laid_budget p (laid_by p) (laid_always p)
finished_by false p = refl

finished_budget : (p : Endpoint) → (with_last_page p).budget ≡ p.budget
finished_budget p = finished_by _ p

seen_budget : (b : Bool) (piece : List ℕ) (p q : Endpoint) → is_running p.client.outcome ≡ b → TakesDataPiece piece p q → q.budget ≡ p.budget
seen_budget false piece p q e h = ap (λ (x : Endpoint). x.budget) (h.over e)
seen_budget true piece p q e h = ap (λ (x : Endpoint). x.budget) (h.finishes e) ∙ finished_budget h.after ∙ laid_budget (record p { client = h.mid }) h.after (h.drains e).rest

sent_budget : (k : ℕ) (bytes : List ℕ) (last : Bool) (d : Core) (p : Endpoint) (e : Core) (q : Endpoint) → SendsRecord k bytes last d p e q → q.budget ≡ p.budget - 1
sent_budget k bytes last d p e q (inl s) = ap (λ (x : Endpoint). x.budget) s.3
sent_budget k bytes last d p e q (inr s) = ap (λ (x : Endpoint). x.budget) s.1

step_budget : (k : ℕ) (step : DataStep) (buf : List ℕ) (d : Core) (p : Endpoint) (e : Core) (q : Endpoint) → SendsStep k step buf d p e q → q.budget ≡ p.budget - 1
step_budget k steps.Idle buf d p e q s = ap (λ (x : Endpoint). x.budget) s.1
step_budget k (steps.Bytes n) buf d p e q s = sent_budget k _ false d p e q s
step_budget k (steps.Last n) buf d p e q s = sent_budget k _ true d p e q s

piece_budget : (n : ℕ) (p q : Endpoint) → TakesPieceOfData n p q → q.budget ≡ p.budget - 1
piece_budget n p q s = ap (λ (x : Endpoint). x.budget) s.2.2 ∙ seen_budget _ _ _ s.2.0 refl s.2.1

does_spend : (d : Core) (p : Endpoint) (job_event : JobEvent) (e : Core) (q : Endpoint) → Does d p job_event e q → q.budget ≡ p.budget - 1
does_spend d p Connect e q does = connected_budget does.0 (is_closed d) d p e q does.1
does_spend d p (ToDaemon n) e q does = linked_by p.link _ (q.budget ≡ p.budget - 1) does (λ k fed. ap (λ (x : Endpoint). x.budget) fed.2 ∙ fed_budget fed.0 (without_sent n p))
does_spend d p (ToClient n) e q does = linked_by p.link _ (q.budget ≡ p.budget - 1) does (λ k told. heard_budget (is_running p.client.outcome) _ (after_move p) q refl told.1)
does_spend d p DataConnect e q does = linked_by p.link _ (q.budget ≡ p.budget - 1) does (λ k it. ap (λ (x : Endpoint). x.budget) it.1)
does_spend d p DataTurn e q does = linked_by p.link _ (q.budget ≡ p.budget - 1) does (λ k turn. step_budget k turn.step turn.buf turn.mid p e q turn.sends)
does_spend d p (DataToClient n) e q does = piece_budget n p q does.1
does_spend d p LoseControl e q does = linked_by p.link _ (q.budget ≡ p.budget - 1) does (λ k it. ap (λ (x : Endpoint). x.budget) it.1)
does_spend d p LoseImage e q does = linked_by p.link _ (q.budget ≡ p.budget - 1) does (λ k it. ap (λ (x : Endpoint). x.budget) it.1)
does_spend d p Cancel e q does = ap (λ (x : Endpoint). x.budget) does.1.rest

pub spends : (d e : Core) (p q : Endpoint) (job_event : JobEvent) → Can d p job_event → Happens d p job_event e q → q.budget ≡ p.budget - 1
spends d e p q job_event can h = does_spend d p job_event e q (h.does can)

-- ---- a job that is over stays so

abbrev IsOver : Endpoint → Type 0
IsOver p = is_running p.client.outcome ≡ false

lost_by : (b : Bool) (c : ClientState) → is_running c.outcome ≡ false → is_running (cond b (after_client_end statuses.IoError whys.Lost c) c).outcome ≡ false
lost_by true c e = refl
lost_by false c e = e

lost_over : (link : Link) (c : ClientState) → is_running c.outcome ≡ false → is_running (after_link_loss link c).outcome ≡ false
lost_over link c e = lost_by (is_lost_by link c.outcome c.progress) c e

fed_over : (fed : Fed) (p : Endpoint) → IsOver p → IsOver (after_fed fed p)
fed_over feds.Standing p e = e
fed_over feds.Over p e = e
fed_over feds.Starved p e = e

connects_over : (port : ℕ) (b : Bool) (d : Core) (p : Endpoint) (e : Core) (q : Endpoint) → Connects port b d p e q → IsOver p → IsOver q
connects_over port true d p e q c o = subst IsOver (sym c.1) (lost_over links.Control p.client o)
connects_over port false d p e q c o = subst IsOver (sym c.3) o

sends_over : (k : ℕ) (bytes : List ℕ) (last : Bool) (d : Core) (p : Endpoint) (e : Core) (q : Endpoint) → SendsRecord k bytes last d p e q → IsOver p → IsOver q
sends_over k bytes last d p e q (inl s) o = subst IsOver (sym s.3) o
sends_over k bytes last d p e q (inr s) o = subst IsOver (sym s.1) (lost_over links.Image p.client o)

step_over : (k : ℕ) (step : DataStep) (buf : List ℕ) (d : Core) (p : Endpoint) (e : Core) (q : Endpoint) → SendsStep k step buf d p e q → IsOver p → IsOver q
step_over k steps.Idle buf d p e q s o = subst IsOver (sym s.1) o
step_over k (steps.Bytes n) buf d p e q s o = sends_over k _ false d p e q s o
step_over k (steps.Last n) buf d p e q s o = sends_over k _ true d p e q s o

heard_over : (piece : List ℕ) (p q : Endpoint) → HeedsPiece piece p q → IsOver p → IsOver q
heard_over piece p q h o = subst IsOver (sym (h.over o)) o

seen_over : (piece : List ℕ) (p q : Endpoint) → TakesDataPiece piece p q → IsOver p → IsOver q
seen_over piece p q h o = subst IsOver (sym (h.over o)) o

piece_over : (n : ℕ) (p q : Endpoint) → TakesPieceOfData n p q → IsOver p → IsOver q
piece_over n p q s o = subst IsOver (sym s.2.2) (seen_over _ _ s.2.0 s.2.1 o)

does_over : (d : Core) (p : Endpoint) (job_event : JobEvent) (e : Core) (q : Endpoint) → Does d p job_event e q → IsOver p → IsOver q
does_over d p Connect e q does o = connects_over does.0 (is_closed d) d p e q does.1 o
does_over d p (ToDaemon n) e q does o = linked_by p.link _ (IsOver q) does (λ k fed. subst IsOver (sym fed.2) (fed_over fed.0 (without_sent n p) o))
does_over d p (ToClient n) e q does o = linked_by p.link _ (IsOver q) does (λ k told. heard_over _ (after_move p) q told.1 o)
does_over d p DataConnect e q does o = linked_by p.link _ (IsOver q) does (λ k it. subst IsOver (sym it.1) o)
does_over d p DataTurn e q does o = linked_by p.link _ (IsOver q) does (λ k turn. step_over k turn.step turn.buf turn.mid p e q turn.sends o)
does_over d p (DataToClient n) e q does o = piece_over n p q does.1 o
does_over d p LoseControl e q does o = linked_by p.link _ (IsOver q) does (λ k it. subst IsOver (sym it.1) (lost_over links.Control p.client o))
does_over d p LoseImage e q does o = linked_by p.link _ (IsOver q) does (λ k it. subst IsOver (sym it.1) (lost_over links.Image p.client o))
does_over d p Cancel e q does o = subst IsOver (sym does.1.rest) refl

-- ---- what is left

left_over : (b : Bool) (n : ℕ) → b ≡ false → cond b n 0 ≡ 0
left_over true n e = absurd (let clash : true ≡ false = e in cc)
left_over false n e = refl

left_at_most : (b : Bool) (n : ℕ) → cond b n 0 ≤ n
left_at_most true n = omega arith
left_at_most false n = omega arith

left_some : (b : Bool) (n : ℕ) → 0 < cond b n 0 → cond b n 0 ≡ n
left_some true n h = refl
left_some false n h = absurd (omega (arith, h))

pub left_runs : (b : Bool) (n : ℕ) → 0 < cond b n 0 → b ≡ true
left_runs true n h = refl
left_runs false n h = absurd (omega (arith, h))

pub one_less : (d e : Core) (p q : Endpoint) (job_event : JobEvent) → 0 < moves_left_of p → Can d p job_event → Happens d p job_event e q → moves_left_of q < moves_left_of p
one_less d e p q job_event left can h =
    omega (arith, left, left_at_most (is_running q.client.outcome) q.budget, left_some (is_running p.client.outcome) p.budget left, spends d e p q job_event can h)

no_more_by : (b : Bool) (d e : Core) (p q : Endpoint) (job_event : JobEvent) → is_running p.client.outcome ≡ b → Does d p job_event e q → moves_left_of q ≤ moves_left_of p
no_more_by true d e p q job_event runs does =
    let same : moves_left_of p ≡ p.budget = ap (λ (b : Bool). cond b p.budget 0) runs in
    omega (arith, left_at_most (is_running q.client.outcome) q.budget, same, does_spend d p job_event e q does)
no_more_by false d e p q job_event runs does =
    let none : moves_left_of q ≡ 0 = left_over (is_running q.client.outcome) q.budget (does_over d p job_event e q does runs) in
    omega (arith, none)

no_more : (d e : Core) (p q : Endpoint) (job_event : JobEvent) → Happens d p job_event e q → moves_left_of q ≤ moves_left_of p
no_more d e p q job_event h = elim (can_or_not d p job_event) [
  | inl can ↦ no_more_by (is_running p.client.outcome) d e p q job_event refl (h.does can)
  | inr never ↦ subst (λ (x : Endpoint). moves_left_of x ≤ moves_left_of p) (sym (h.cannot never).1) (omega arith)
]

-- ---- of all jobs

set_at : (endpoints : List Endpoint) (i : ℕ) (q : Endpoint) (k : ℕ) (p r : Endpoint) → slice_get endpoints k ≡ Some p → slice_get (slice_set endpoints i q) k ≡ Some r → ((k ≡ i) × (r ≡ q)) ⊎ (r ≡ p)
set_at [] i q k p r at now = absurd (let clash : None ≡ Some p = at in cc)
set_at (x ∷ endpoints) zero q zero p r at now = inl (refl, let same : Some q ≡ Some r = now in cc)
set_at (x ∷ endpoints) zero q (suc k) p r at now = inr (let same : Some r ≡ Some p = sym now ∙ at in cc)
set_at (x ∷ endpoints) (suc i) q zero p r at now = inr (let same : Some r ≡ Some p = sym now ∙ at in cc)
set_at (x ∷ endpoints) (suc i) q (suc k) p r at now = elim (set_at endpoints i q k p r at now) [
  | inl e ↦ inl (ap suc e.0, e.1)
  | inr e ↦ inr e
]

same_post : (o : Option Endpoint) (p q : Endpoint) → o ≡ Some p → o ≡ Some q → q ≡ p
same_post o p q a b = let same : Some q ≡ Some p = sym b ∙ a in cc

same_left : (p q : Endpoint) → q ≡ p → moves_left_of q ≤ moves_left_of p
same_left p q e = subst (λ (x : Endpoint). moves_left_of x ≤ moves_left_of p) (sym e) (omega arith)

left_at : (w : WorldCore) (i : ℕ) (job_event : JobEvent) (v : WorldCore) (k : ℕ) (p q : Endpoint) → AtEndpoint w i job_event v → slice_get w.endpoints k ≡ Some p → slice_get v.endpoints k ≡ Some q → moves_left_of q ≤ moves_left_of p
left_at w i job_event v k p q a at now = elim (post_or_none w.endpoints i) [
  | inl there ↦
      let h = a.happens there.0 there.1 in
      elim (set_at w.endpoints i h.0 k p q at (subst (λ (endpoints : List Endpoint). slice_get endpoints k ≡ Some q) h.2 now)) [
        | inl e ↦
            let here : there.0 ≡ p = same_post (slice_get w.endpoints i) p there.0 (ap (λ (n : ℕ). slice_get w.endpoints n) (sym e.0) ∙ at) there.1 in
            subst (λ (x : Endpoint). moves_left_of q ≤ moves_left_of x) here (subst (λ (x : Endpoint). moves_left_of x ≤ moves_left_of there.0) (sym e.1) (no_more w.daemon v.daemon there.0 h.0 job_event h.1))
        | inr e ↦ same_left p q e
      ]
  | inr beyond ↦ same_left p q (same_post (slice_get w.endpoints k) p q at (ap (λ (x : WorldCore). slice_get x.endpoints k) (sym (a.beyond beyond)) ∙ now))
]

pub never_more : (source : Source → SourceState) (event : Event) (w v : WorldCore) (k : ℕ) (p q : Endpoint) → Leads source event w v → slice_get w.endpoints k ≡ Some p → slice_get v.endpoints k ≡ Some q → moves_left_of q ≤ moves_left_of p
never_more source (events.Connect i) w v k p q l at now = left_at w i Connect v k p q l at now
never_more source (events.ToDaemon i n) w v k p q l at now = left_at w i (ToDaemon n) v k p q l at now
never_more source (events.ToClient i n) w v k p q l at now = left_at w i (ToClient n) v k p q l at now
never_more source (events.DataConnect i) w v k p q l at now = left_at w i DataConnect v k p q l at now
never_more source (events.DataTurn i) w v k p q l at now = left_at w i DataTurn v k p q l at now
never_more source (events.DataToClient i n) w v k p q l at now = left_at w i (DataToClient n) v k p q l at now
never_more source (events.LoseControl i) w v k p q l at now = left_at w i LoseControl v k p q l at now
never_more source (events.LoseImage i) w v k p q l at now = left_at w i LoseImage v k p q l at now
never_more source (events.Cancel i) w v k p q l at now = left_at w i Cancel v k p q l at now
never_more source (events.Load name page) w v k p q l at now = same_left p q (same_post (slice_get w.endpoints k) p q at (ap (λ (x : WorldCore). slice_get x.endpoints k) (sym l) ∙ now))
never_more source (events.Unplug name) w v k p q l at now = same_left p q (same_post (slice_get w.endpoints k) p q at (ap (λ (x : WorldCore). slice_get x.endpoints k) (sym l) ∙ now))

same_some : (x p : Endpoint) → Some x ≡ Some p → x ≡ p
same_some x p e = cc

total_set : (endpoints : List Endpoint) (i : ℕ) (p q : Endpoint) → slice_get endpoints i ≡ Some p → total_left (slice_set endpoints i q) + moves_left_of p ≡ total_left endpoints + moves_left_of q
total_set [] i p q at = absurd (let clash : None ≡ Some p = at in cc)
total_set (x ∷ endpoints) zero p q at =
    let e : x ≡ p = same_some x p at in
    let same : moves_left_of x ≡ moves_left_of p = ap moves_left_of e in
    omega (arith, same)
total_set (x ∷ endpoints) (suc i) p q at = omega (arith, total_set endpoints i p q at)

-- ---- a next move can happen

first_can : (d : Core) (p : Endpoint) (ms : List JobEvent) (m : JobEvent) → IsFirstMove d p ms m → Can d p m
first_can d p [] m f = subst (λ (x : JobEvent). Can d p x) (sym f.0) f.2
first_can d p (x ∷ ms) m (inl f) = subst (λ (y : JobEvent). Can d p y) (sym f.1) f.0
first_can d p (x ∷ ms) m (inr f) = first_can d p ms m f.1

pub record IsActionOf (w : WorldCore) (i : ℕ) (event : Event) (p : Endpoint) : Type 0 where
  pub job_event : JobEvent
  pub event_is : event ≡ job_event_of i job_event
  pub can : Can w.daemon p job_event

action_by : (w : WorldCore) (i : ℕ) (event : Event) (p : Endpoint) (job_event : Option JobEvent) → Some event ≡ option_map (job_event_of i) job_event → IsNext w.daemon p in_order job_event → IsActionOf w i event p
action_by w i event p None e n = absurd (let clash : Some event ≡ None = e in cc)
action_by w i event p (Some m) e n = record { job_event = m; event_is = (let same : Some event ≡ Some (job_event_of i m) = e in cc); can = first_can w.daemon p in_order m n }

action_of : (w : WorldCore) (i : ℕ) (event : Event) (m : IsMoveOf w i event) → IsActionOf w i event m.endpoint
action_of w i event m = action_by w i event m.endpoint m.next.job_event m.next.event_is (m.next.runs (left_runs (is_running m.endpoint.client.outcome) m.endpoint.budget m.left))

leads_at : (source : Source → SourceState) (i : ℕ) (job_event : JobEvent) (w v : WorldCore) → Leads source (job_event_of i job_event) w v → AtEndpoint w i job_event v
leads_at source i Connect w v l = l
leads_at source i (ToDaemon n) w v l = l
leads_at source i (ToClient n) w v l = l
leads_at source i DataConnect w v l = l
leads_at source i DataTurn w v l = l
leads_at source i (DataToClient n) w v l = l
leads_at source i LoseControl w v l = l
leads_at source i LoseImage w v l = l
leads_at source i Cancel w v l = l

-- fewer moves are left, to as many jobs
pub record IsFewer (w v : WorldCore) : Type 0 where
  pub fewer : total_left v.endpoints < total_left w.endpoints
  pub jobs : length v.endpoints ≡ length w.endpoints

move_falls : (source : Source → SourceState) (i : ℕ) (event : Event) (w v : WorldCore) → IsMoveOf w i event → Leads source event w v → IsFewer w v
move_falls source i event w v m l =
    let d = action_of w i event m in
    let a = leads_at source i d.job_event w v (subst (λ (e : Event). Leads source e w v) d.event_is l) in
    let h = a.happens m.endpoint m.at in
    let less = one_less w.daemon v.daemon m.endpoint h.0 d.job_event m.left d.can h.1 in
    let total = total_set w.endpoints i m.endpoint h.0 m.at in
    record {
      fewer = subst (λ (endpoints : List Endpoint). total_left endpoints < total_left w.endpoints) (sym h.2) (omega (arith, less, total));
      jobs = ap (λ (endpoints : List Endpoint). length endpoints) h.2 ∙ length-set w.endpoints i h.0;
    }

-- ---- turns

turn_jobs : (source : Source → SourceState) (i : ℕ) (t : Option Event) (w v : WorldCore) → TakesMove source i t w v → length v.endpoints ≡ length w.endpoints
turn_jobs source i None w v m = ap (λ (x : WorldCore). length x.endpoints) m.1
turn_jobs source i (Some event) w v m = (move_falls source i event w v m.0 m.1).jobs

turn_few : (source : Source → SourceState) (i : ℕ) (t : Option Event) (w v : WorldCore) → TakesMove source i t w v → length (moves_made (t ∷ [])) + total_left v.endpoints ≤ total_left w.endpoints
turn_few source i None w v m = subst (λ (x : WorldCore). 0 + total_left x.endpoints ≤ total_left w.endpoints) (sym m.1) (omega arith)
turn_few source i (Some event) w v m = omega (arith, (move_falls source i event w v m.0 m.1).fewer)

made_cons : (t : Option Event) (ts : List (Option Event)) → length (moves_made (t ∷ ts)) ≡ length (moves_made (t ∷ [])) + length (moves_made ts)
made_cons None ts = omega arith
made_cons (Some event) ts = omega arith

turns_few : (source : Source → SourceState) (i : ℕ) (ts : List (Option Event)) (w v : WorldCore) → TakesMoves source i ts w v → length (moves_made ts) + total_left v.endpoints ≤ total_left w.endpoints
turns_few source i [] w v m = subst (λ (x : WorldCore). 0 + total_left x.endpoints ≤ total_left w.endpoints) (sym m) (omega arith)
turns_few source i (t ∷ ts) w v m = omega (arith, made_cons t ts, turn_few source i t w m.0 m.1, turns_few source (i + 1) ts m.0 v m.2)

turn_runs : (source : Source → SourceState) (i : ℕ) (t : Option Event) (ts : List (Option Event)) (w u v : WorldCore) → TakesMove source i t w u → Runs source (moves_made ts) u v → Runs source (moves_made (t ∷ ts)) w v
turn_runs source i None ts w u v m r = subst (λ (x : WorldCore). Runs source (moves_made ts) x v) m.1 r
turn_runs source i (Some event) ts w u v m r = (u, m.1, r)

turns_run : (source : Source → SourceState) (i : ℕ) (ts : List (Option Event)) (w v : WorldCore) → TakesMoves source i ts w v → Runs source (moves_made ts) w v
turns_run source i [] w v m = m
turns_run source i (t ∷ ts) w v m = turn_runs source i t ts w m.0 v m.1 (turns_run source (i + 1) ts m.0 v m.2)

runs_then : (source : Source → SourceState) (es fs : List Event) (u v w : WorldCore) → Runs source es u v → Runs source fs v w → Runs source (es ++ fs) u w
runs_then source [] fs u v w a b = subst (λ (x : WorldCore). Runs source fs x w) a b
runs_then source (e ∷ es) fs u v w a b = (a.0, a.1, runs_then source es fs a.0 v w a.2 b)

turns_more : (source : Source → SourceState) (i k : ℕ) (ts : List (Option Event)) (t : Option Event) (w u v : WorldCore) → k ≡ i + length ts → TakesMoves source i ts w u → TakesMove source k t u v → TakesMoves source i (ts ++ t ∷ []) w v
turns_more source i k [] t w u v e m n =
    let here : k ≡ i = omega (arith, e) in
    (v, subst (λ (x : WorldCore). TakesMove source i t x v) m (subst (λ (j : ℕ). TakesMove source j t u v) here n), refl)
turns_more source i k (s ∷ ts) t w u v e m n = (m.0, m.1, turns_more source (i + 1) k ts t m.0 u v (omega (arith, e)) m.2 n)

made_more : (ts : List (Option Event)) (t : Option Event) → length (moves_made (ts ++ t ∷ [])) ≡ length (moves_made ts) + length (moves_made (t ∷ []))
made_more [] t = omega arith
made_more (s ∷ ts) t = omega (arith, made_cons s (ts ++ t ∷ []), made_cons s ts, made_more ts t)

-- ---- a round so far

pub record IsPart (source : Source → SourceState) (went : Bool) (i : ℕ) (w v : WorldCore) : Type 0 where
  pub turns : List (Option Event)
  pub takes : TakesMoves source 0 turns w v
  pub count : length turns ≡ i
  pub jobs : length v.endpoints ≡ length w.endpoints
  pub some : went ≡ true → 0 < length (moves_made turns)
  pub none : went ≡ false → (v ≡ w) × ((k : ℕ) → k < i → RestsAt w k)

-- a move was made
pub part_went : (source : Source → SourceState) (went : Bool) (i : ℕ) (w u v : WorldCore) → IsPart source went i w u → HasTurn source i true u v → IsPart source true (i + 1) w v
part_went source went i w u v p t = record {
  turns = p.turns ++ t.turn ∷ [];
  takes = turns_more source 0 i p.turns t.turn w u v (omega (arith, p.count)) p.takes t.takes;
  count = omega (arith, length-append p.turns (t.turn ∷ []), p.count);
  jobs = turn_jobs source i t.turn u v t.takes ∙ p.jobs;
  some = λ e. omega (arith, made_more p.turns t.turn, one_made t.turn (sym t.went_is));
  none = λ e. absurd (let clash : true ≡ false = e in cc);
}
  where
    one_made : (t : Option Event) → is_some t ≡ true → length (moves_made (t ∷ [])) ≡ 1
    one_made None e = absurd (let clash : false ≡ true = e in cc)
    one_made (Some event) e = refl

below_next : (k i : ℕ) → k < i + 1 → (k < i) ⊎ (k ≡ i)
below_next zero zero h = inr refl
below_next zero (suc i) h = inl (omega arith)
below_next (suc k) zero h = absurd (omega (arith, h))
below_next (suc k) (suc i) h = elim (below_next k i (omega (arith, h))) [
  | inl less ↦ inl (omega (arith, less))
  | inr e ↦ inr (ap suc e)
]

rests_by : (source : Source → SourceState) (i : ℕ) (t : Option Event) (u v : WorldCore) → is_some t ≡ false → TakesMove source i t u v → RestsAt u i × (v ≡ u)
rests_by source i None u v e m = m
rests_by source i (Some event) u v e m = absurd (let clash : true ≡ false = e in cc)

-- none was
pub part_stayed : (source : Source → SourceState) (went : Bool) (i : ℕ) (w u v : WorldCore) → IsPart source went i w u → HasTurn source i false u v → IsPart source went (i + 1) w v
part_stayed source went i w u v p t =
    let r = rests_by source i t.turn u v (sym t.went_is) t.takes in
    record {
      turns = p.turns ++ t.turn ∷ [];
      takes = turns_more source 0 i p.turns t.turn w u v (omega (arith, p.count)) p.takes t.takes;
      count = omega (arith, length-append p.turns (t.turn ∷ []), p.count);
      jobs = turn_jobs source i t.turn u v t.takes ∙ p.jobs;
      some = λ e. omega (arith, made_more p.turns t.turn, p.some e);
      none = λ e.
          let n = p.none e in (
            r.1 ∙ n.0,
            λ k h. elim (below_next k i h) [
              | inl less ↦ n.1 k less
              | inr same ↦ subst (λ (j : ℕ). RestsAt w j) (sym same) (subst (λ (x : WorldCore). RestsAt x i) n.0 r.0)
            ],
          );
    }

pub part_whole : (source : Source → SourceState) (went : Bool) (i : ℕ) (w v : WorldCore) → length w.endpoints ≤ i → i ≤ length w.endpoints → IsPart source went i w v → HasRound source went w v
part_whole source went i w v most least p = record {
  turns = p.turns;
  is = (omega (arith, p.count, most, least), p.takes);
  some = p.some;
  none = λ e. let n = p.none e in (n.0, λ k q at. n.1 k (omega (arith, most, slice_get_within w.endpoints k q at)) q at);
}

-- ---- rounds so far

pub record AreRounds (source : Source → SourceState) (goes_on : Bool) (w v : WorldCore) : Type 0 where
  pub rounds : List (List (Option Event))
  pub goes : Rounds source rounds w v
  pub few : length (all_made rounds) + total_left v.endpoints ≤ total_left w.endpoints
  pub events : Runs source (all_made rounds) w v
  pub rest : goes_on ≡ false → (i : ℕ) → RestsAt v i

pub rounds_begun : (source : Source → SourceState) (w : WorldCore) → AreRounds source true w w
rounds_begun source w = record { rounds = []; goes = refl; few = omega arith; events = refl; rest = λ e. absurd (let clash : true ≡ false = e in cc) }

rounds_snoc : (source : Source → SourceState) (rounds : List (List (Option Event))) (ts : List (Option Event)) (w u v : WorldCore) → Rounds source rounds w u → IsRound source ts u v → Rounds source (rounds ++ ts ∷ []) w v
rounds_snoc source [] ts w u v r is = (v, subst (λ (x : WorldCore). IsRound source ts x v) r is, refl)
rounds_snoc source (first ∷ rounds) ts w u v r is = (r.0, r.1, rounds_snoc source rounds ts r.0 u v r.2 is)

all_more : (rounds : List (List (Option Event))) (ts : List (Option Event)) → all_made (rounds ++ ts ∷ []) ≡ all_made rounds ++ moves_made ts
all_more [] ts = append-nil (moves_made ts)
all_more (first ∷ rounds) ts = ap (λ (l : List Event). moves_made first ++ l) (all_more rounds ts) ∙ sym (append_assoc (moves_made first) (all_made rounds) (moves_made ts))

pub rounds_more : (source : Source → SourceState) (went : Bool) (w u v : WorldCore) → AreRounds source true w u → HasRound source went u v → AreRounds source went w v
rounds_more source went w u v a r =
    let same = all_more a.rounds r.turns in
    record {
      rounds = a.rounds ++ r.turns ∷ [];
      goes = rounds_snoc source a.rounds r.turns w u v a.goes r.is;
      few = omega (arith, ap (λ (l : List Event). length l) same, length-append (all_made a.rounds) (moves_made r.turns), turns_few source 0 r.turns u v r.is.1, a.few);
      events = subst (λ (l : List Event). Runs source l w v) (sym same) (runs_then source (all_made a.rounds) (moves_made r.turns) w u v a.events (turns_run source 0 r.turns u v r.is.1));
      rest = λ e. let n = r.none e in subst (λ (x : WorldCore). (i : ℕ) → RestsAt x i) (sym n.0) n.1;
    }

-- the measure of the rounds
pub round_less : (source : Source → SourceState) (went : Bool) (u v : WorldCore) → HasRound source went u v → total_left v.endpoints + cond went 1 0 < total_left u.endpoints + 1
round_less source true u v r = omega (arith, turns_few source 0 r.turns u v r.is.1, r.some refl)
round_less source false u v r = subst (λ (x : WorldCore). total_left x.endpoints + 0 < total_left u.endpoints + 1) (sym (r.none refl).0) (omega arith)

pub rounds_out : (source : Source → SourceState) (w v : WorldCore) → AreRounds source false w v → RoundsRunOut source w v
rounds_out source w v a = record { rounds = a.rounds; goes = a.goes; few = omega (arith, a.few); events = a.events; rest = a.rest refl }

-- ---- the turn of a job

pub turn_no_move : (source : Source → SourceState) (i : ℕ) (w : WorldCore) → ((p : Endpoint) → slice_get w.endpoints i ≡ Some p → IsNextMove w.daemon i p None) → HasTurn source i false w w
turn_no_move source i w is = record { turn = None; takes = (λ p at. inl (is p at), refl); went_is = refl }

-- ---- as the code goes on

pub part_by_went : (source : Source → SourceState) (was went made_one : Bool) (i : ℕ) (w u v : WorldCore) → IsPart source was i w u → HasTurn source i made_one u v → made_one ≡ true → went ≡ true → IsPart source went (i + 1) w v
part_by_went source was went made_one i w u v p t e f =
    subst (λ (b : Bool). IsPart source b (i + 1) w v) (sym f) (part_went source was i w u v p (subst (λ (b : Bool). HasTurn source i b u v) e t))

pub part_by_stayed : (source : Source → SourceState) (was went made_one : Bool) (i : ℕ) (w u v : WorldCore) → IsPart source was i w u → HasTurn source i made_one u v → made_one ≡ false → went ≡ was → IsPart source went (i + 1) w v
part_by_stayed source was went made_one i w u v p t e f =
    subst (λ (b : Bool). IsPart source b (i + 1) w v) (sym f) (part_stayed source was i w u v p (subst (λ (b : Bool). HasTurn source i b u v) e t))

pub rounds_by : (source : Source → SourceState) (was went : Bool) (w u v : WorldCore) → was ≡ true → AreRounds source was w u → HasRound source went u v → AreRounds source went w v
rounds_by source was went w u v e a r = rounds_more source went w u v (subst (λ (b : Bool). AreRounds source b w u) e a) r

pub out_by : (source : Source → SourceState) (was : Bool) (w v : WorldCore) → was ≡ false → AreRounds source was w v → RoundsRunOut source w v
out_by source was w v e a = rounds_out source w v (subst (λ (b : Bool). AreRounds source b w v) e a)

pub less_by : (source : Source → SourceState) (was went : Bool) (u v : WorldCore) → was ≡ true → HasRound source went u v → total_left v.endpoints + cond went 1 0 < total_left u.endpoints + cond was 1 0
less_by source was went u v e r = subst (λ (b : Bool). total_left v.endpoints + cond went 1 0 < total_left u.endpoints + cond b 1 0) (sym e) (round_less source went u v r)

-- ---- a job that rests has no move, as long as it has moves left

none_is_first : (d : Core) (p : Endpoint) (ms : List JobEvent) (m : JobEvent) → HasNone d p ms → IsFirstMove d p ms m → ⊥
none_is_first d p [] m none first = none first.1 first.2
none_is_first d p (x ∷ ms) m none (inl first) = none.0 first.0
none_is_first d p (x ∷ ms) m none (inr first) = none_is_first d p ms m none.1 first.1

one_next : (d : Core) (i : ℕ) (p : Endpoint) (event : Event) (a b : Option JobEvent) → None ≡ option_map (job_event_of i) a → Some event ≡ option_map (job_event_of i) b → IsNext d p in_order a → IsNext d p in_order b → ⊥
one_next d i p event (Some m) b e f x y = let clash : None ≡ Some (job_event_of i m) = e in cc
one_next d i p event None None e f x y = let clash : Some event ≡ None = f in cc
one_next d i p event None (Some m) e f x y = none_is_first d p in_order m x y

one_move : (d : Core) (i : ℕ) (p : Endpoint) (event : Event) → is_running p.client.outcome ≡ true → IsNextMove d i p None → IsNextMove d i p (Some event) → ⊥
one_move d i p event runs x y = one_next d i p event x.job_event y.job_event x.event_is y.event_is (x.runs runs) (y.runs runs)

left_by : (b : Bool) (n : ℕ) → (b ≡ true → ⊥) → cond b n 0 ≡ 0
left_by true n never = absurd (never refl)
left_by false n never = refl

pub at_rest : (w : WorldCore) (i : ℕ) (p : Endpoint) (event : Event) → RestsAt w i → slice_get w.endpoints i ≡ Some p → IsNextMove w.daemon i p (Some event) → moves_left_of p ≡ 0
at_rest w i p event rests at next = elim (rests p at) [
  | inl none ↦ left_by (is_running p.client.outcome) p.budget (λ runs. one_move w.daemon i p event runs none next)
  | inr e ↦ e
]
