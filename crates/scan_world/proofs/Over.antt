-- What events leave of a job that is over, and how they end one that runs.
use Rattle.std.specs.Prelude.{◌≢◌, ◌==◌, ◌<◌, ◌||◌, ◌&&◌, if◌then◌else◌, Contains, nat_lt, min, cond, option_map, option_and_then, slice_index_or}
use Rattle.std.proofs.Common.{◌≡◌, ◌∙◌, ℕ, zero, suc, ◌-◌, ◌≤◌, ◌⊎◌, Bool, true, false, Option, Some, None, List, [], ◌∷◌, slice_get, slice_set, refl, sym, ap, subst, arith, inl, inr}
use Rattle.page_sources.specs.SourceView.{source_state}
use Rattle.sane_fixed.specs.declared.status.Status.{Status}
use Rattle.sane_fixed.specs.declared.status.Status.TheVariants as statuses
use Rattle.scan_job.specs.declared.outcome.Outcome.{Outcome}
use Rattle.scan_job.specs.declared.outcome.Outcome.TheVariants as outcomes
use Rattle.scan_job.specs.declared.outcome.Why.{Why}
use Rattle.scan_job.specs.declared.outcome.Why.TheVariants as whys
use Rattle.client_replies.specs.declared.progress.Link.{Link}
use Rattle.client_replies.specs.declared.progress.Link.TheVariants as links
use Rattle.client_replies.specs.declared.progress.Progress.{Progress}
use Rattle.client_replies.specs.ProtocolStates.{is_imaging, is_lost_by, is_running}
use Rattle.net_client.specs.ClientStates.{ClientState, after_client_end}
use Rattle.saned_core.specs.declared.session_slot.Fed.{Fed}
use Rattle.saned_core.specs.declared.session_slot.Fed.TheVariants as feds
use Rattle.saned_core.specs.declared.session_slot.DataStep.{DataStep}
use Rattle.saned_core.specs.declared.session_slot.DataStep.TheVariants as steps
use Rattle.saned_core.specs.DaemonStates.{Core}
use Rattle.event_world.specs.declared.event.Event.{Event}
use Rattle.event_world.specs.declared.event.Event.TheVariants as events
use Rattle.event_world.specs.declared.event.JobEvent.{JobEvent}
use Rattle.event_world.specs.declared.event.JobEvent.TheVariants.{Connect, ToDaemon, ToClient, DataConnect, DataTurn, DataToClient, LoseControl, LoseImage, Cancel}
use Rattle.event_world.specs.declared.endpoint.Endpoint.{Endpoint}
use Rattle.event_world.specs.Endpoints.{after_link_loss, after_move, finished_page, image_out_of_memory, without_image_link, without_link}
use Rattle.event_world.specs.JobEvents.{job_event_of, Can, Does, Happens, SendsRecord, SendsStep, TakesPieceOfData, after_fed, without_ended_image, without_sent}
use Rattle.event_world.specs.JobMoves.{moves_left_of}
use Rattle.event_world.specs.Worlds.{AtEndpoint, Leads, Runs, WorldCore}
use Rattle.event_world.proofs.Deciding.{can_or_not}
use Rattle.event_world.proofs.Events.{linked_by, post_or_none}
use Rattle.event_world.proofs.Falling.{never_more, one_less}
use Rattle.strangers.specs.Together.{JointEvent, RunsAmong}
use Rattle.strangers.specs.Together.JointEvent.{OfJobs, OfStranger}
use Rattle.scan_world.specs.Calls.{CancelEnds, MoveLowers, MovesFall, OthersStay, OverStays, finished_by, left_at, moves_answered, outcome_at}
use Rattle.scan_world.proofs.Led.{first_runs, runs_split}
use Rattle.scan_world.proofs.moments.Entries.{set_here}

abbrev IsOver : Endpoint → Type 0
IsOver p = is_running p.client.outcome ≡ false

pub record Same (p q : Endpoint) : Type 0 where
  pub outcome : q.client.outcome ≡ p.client.outcome
  pub file : q.file ≡ p.file
  pub pages : q.pages ≡ p.pages
  pub finished : q.finished ≡ p.finished

abbrev pub Stays : Endpoint → Endpoint → Type 0
Stays p q = IsOver p → Same p q

same_refl : (p : Endpoint) → Same p p
same_refl p = record { outcome = refl; file = refl; pages = refl; finished = refl }

same_by : (p q r : Endpoint) → r ≡ q → Same p q → Same p r
same_by p q r e s = subst (Same p) (sym e) s

same_then : (p m q : Endpoint) → Same p m → Same m q → Same p q
same_then p m q a b = record { outcome = b.outcome ∙ a.outcome; file = b.file ∙ a.file; pages = b.pages ∙ a.pages; finished = b.finished ∙ a.finished }

-- ---- one event

not_lost : (link : Link) (o : Outcome) (progress : Progress) → is_running o ≡ false → is_lost_by link o progress ≡ false
not_lost links.Control o progress e = e
not_lost links.Image o progress e = ap (λ (b : Bool). b && is_imaging progress) e

lost_if : (b : Bool) (c : ClientState) → b ≡ false → cond b (after_client_end statuses.IoError whys.Lost c) c ≡ c
lost_if true c e = absurd (let clash : true ≡ false = e in cc)
lost_if false c e = refl

lost_same : (link : Link) (c : ClientState) → is_running c.outcome ≡ false → after_link_loss link c ≡ c
lost_same link c e = lost_if (is_lost_by link c.outcome c.progress) c (not_lost link c.outcome c.progress e)

control_same : (p : Endpoint) → IsOver p → Same p (without_link (after_move p))
control_same p o = record { outcome = ap (λ (c : ClientState). c.outcome) (lost_same links.Control p.client o); file = refl; pages = refl; finished = refl }

image_same : (p : Endpoint) → IsOver p → Same p (without_image_link (after_move p))
image_same p o = record { outcome = ap (λ (c : ClientState). c.outcome) (lost_same links.Image p.client o); file = refl; pages = refl; finished = refl }

starved_same : (p : Endpoint) → IsOver p → Same p (image_out_of_memory (after_move p))
starved_same p o = record { outcome = ap (λ (c : ClientState). c.outcome) (lost_same links.Image p.client o); file = refl; pages = refl; finished = refl }

fed_same : (fed : Fed) (n : ℕ) (p : Endpoint) → Same p (after_fed fed (without_sent n p))
fed_same feds.Standing n p = record { outcome = refl; file = refl; pages = refl; finished = refl }
fed_same feds.Over n p = record { outcome = refl; file = refl; pages = refl; finished = refl }
fed_same feds.Starved n p = record { outcome = refl; file = refl; pages = refl; finished = refl }

moved_same : (p : Endpoint) → Same p (after_move p)
moved_same p = record { outcome = refl; file = refl; pages = refl; finished = refl }

sends_same : (k : ℕ) (bytes : List ℕ) (last : Bool) (d : Core) (p : Endpoint) (e : Core) (q : Endpoint) → SendsRecord k bytes last d p e q → IsOver p → Same p q
sends_same k bytes last d p e q (inl s) o = same_by p _ q s.3 (record { outcome = refl; file = refl; pages = refl; finished = refl })
sends_same k bytes last d p e q (inr s) o = same_by p (image_out_of_memory (after_move p)) q s.1 (starved_same p o)

step_same : (k : ℕ) (step : DataStep) (buf : List ℕ) (d : Core) (p : Endpoint) (e : Core) (q : Endpoint) → SendsStep k step buf d p e q → IsOver p → Same p q
step_same k steps.Idle buf d p e q s o = same_by p (after_move p) q s.1 (moved_same p)
step_same k (steps.Bytes n) buf d p e q s o = sends_same k _ false d p e q s o
step_same k (steps.Last n) buf d p e q s o = sends_same k _ true d p e q s o

piece_same : (n : ℕ) (p q : Endpoint) → TakesPieceOfData n p q → IsOver p → Same p q
piece_same n p q s o = same_by p (without_ended_image s.2.0) q s.2.2 (same_by p _ (without_ended_image s.2.0) (ap without_ended_image (s.2.1.over o)) (record { outcome = refl; file = refl; pages = refl; finished = refl }))

runs_too : (p : Endpoint) (A : Type 0) → IsOver p → is_running p.client.outcome ≡ true → A
runs_too p A o runs = absurd (let clash : true ≡ false = sym runs ∙ o in cc)

does_same : (d : Core) (p : Endpoint) (x : JobEvent) (e : Core) (q : Endpoint) → Can d p x → Does d p x e q → IsOver p → Same p q
does_same d p Connect e q can does o = runs_too p (Same p q) o can.0
does_same d p (ToDaemon n) e q can does o = linked_by p.link _ (Same p q) does (λ k fed. same_by p (after_fed fed.0 (without_sent n p)) q fed.2 (fed_same fed.0 n p))
does_same d p (ToClient n) e q can does o = linked_by p.link _ (Same p q) does (λ k told. same_by p (after_move p) q (told.1.over o) (moved_same p))
does_same d p DataConnect e q can does o = linked_by p.link _ (Same p q) does (λ k it. same_by p _ q it.1 (record { outcome = refl; file = refl; pages = refl; finished = refl }))
does_same d p DataTurn e q can does o = linked_by p.link _ (Same p q) does (λ k turn. step_same k turn.step turn.buf turn.mid p e q turn.sends o)
does_same d p (DataToClient n) e q can does o = piece_same n p q does.1 o
does_same d p LoseControl e q can does o = linked_by p.link _ (Same p q) does (λ k it. same_by p (without_link (after_move p)) q it.1 (control_same p o))
does_same d p LoseImage e q can does o = linked_by p.link _ (Same p q) does (λ k it. same_by p (without_image_link (after_move p)) q it.1 (image_same p o))
does_same d p Cancel e q can does o = runs_too p (Same p q) o can

happens_same : (d e : Core) (p q : Endpoint) (x : JobEvent) → Happens d p x e q → Stays p q
happens_same d e p q x h o = elim (can_or_not d p x) [
  | inl can ↦ does_same d p x e q can (h.does can) o
  | inr never ↦ same_by p p q (h.cannot never).1 (same_refl p)
]

-- ---- of all jobs

abbrev Alike : Option Endpoint → Option Endpoint → Type 0
Alike None None = Unit {0}
Alike None (Some q) = ⊥
Alike (Some p) None = ⊥
Alike (Some p) (Some q) = Stays p q

alike : (o : Option Endpoint) → Alike o o
alike None = tt
alike (Some p) = λ o. same_refl p

same_some : (x p : Endpoint) → Some x ≡ Some p → x ≡ p
same_some x p e = cc

alike_set : (endpoints : List Endpoint) (i : ℕ) (p q : Endpoint) (k : ℕ) → slice_get endpoints i ≡ Some p → Stays p q → Alike (slice_get endpoints k) (slice_get (slice_set endpoints i q) k)
alike_set [] i p q k at s = absurd (let clash : None ≡ Some p = at in cc)
alike_set (x ∷ endpoints) zero p q zero at s = subst (λ (y : Endpoint). Stays y q) (sym (same_some x p at)) s
alike_set (x ∷ endpoints) zero p q (suc k) at s = alike (slice_get endpoints k)
alike_set (x ∷ endpoints) (suc i) p q zero at s = λ o. same_refl x
alike_set (x ∷ endpoints) (suc i) p q (suc k) at s = alike_set endpoints i p q k at s

alike_at : (w : WorldCore) (i : ℕ) (x : JobEvent) (v : WorldCore) (k : ℕ) → AtEndpoint w i x v → Alike (slice_get w.endpoints k) (slice_get v.endpoints k)
alike_at w i x v k a = elim (post_or_none w.endpoints i) [
  | inl there ↦
      let h = a.happens there.0 there.1 in
      subst (λ (endpoints : List Endpoint). Alike (slice_get w.endpoints k) (slice_get endpoints k)) (sym h.2) (alike_set w.endpoints i there.0 h.0 k there.1 (happens_same w.daemon v.daemon there.0 h.0 x h.1))
  | inr beyond ↦ subst (λ (y : WorldCore). Alike (slice_get w.endpoints k) (slice_get y.endpoints k)) (sym (a.beyond beyond)) (alike (slice_get w.endpoints k))
]

alike_led : (event : Event) (w v : WorldCore) (k : ℕ) → Leads source_state event w v → Alike (slice_get w.endpoints k) (slice_get v.endpoints k)
alike_led (events.Connect i) w v k l = alike_at w i Connect v k l
alike_led (events.ToDaemon i n) w v k l = alike_at w i (ToDaemon n) v k l
alike_led (events.ToClient i n) w v k l = alike_at w i (ToClient n) v k l
alike_led (events.DataConnect i) w v k l = alike_at w i DataConnect v k l
alike_led (events.DataTurn i) w v k l = alike_at w i DataTurn v k l
alike_led (events.DataToClient i n) w v k l = alike_at w i (DataToClient n) v k l
alike_led (events.LoseControl i) w v k l = alike_at w i LoseControl v k l
alike_led (events.LoseImage i) w v k l = alike_at w i LoseImage v k l
alike_led (events.Cancel i) w v k l = alike_at w i Cancel v k l
alike_led (events.Load name page) w v k l = subst (λ (y : WorldCore). Alike (slice_get w.endpoints k) (slice_get y.endpoints k)) (sym l) (alike (slice_get w.endpoints k))
alike_led (events.Unplug name) w v k l = subst (λ (y : WorldCore). Alike (slice_get w.endpoints k) (slice_get y.endpoints k)) (sym l) (alike (slice_get w.endpoints k))

alike_then : (a b c : Option Endpoint) → Alike a b → Alike b c → Alike a c
alike_then None None c x y = y
alike_then None (Some m) c x y = absurd x
alike_then (Some p) None c x y = absurd x
alike_then (Some p) (Some m) None x y = absurd y
alike_then (Some p) (Some m) (Some q) x y = λ o. let s = x o in same_then p m q s (y (ap is_running s.outcome ∙ o))

alike_run : (es : List Event) (w v : WorldCore) (k : ℕ) → Runs source_state es w v → Alike (slice_get w.endpoints k) (slice_get v.endpoints k)
alike_run [] w v k e = subst (λ (y : WorldCore). Alike (slice_get w.endpoints k) (slice_get y.endpoints k)) (sym e) (alike (slice_get w.endpoints k))
alike_run (e ∷ es) w v k (u, one, rest) = alike_then (slice_get w.endpoints k) (slice_get u.endpoints k) (slice_get v.endpoints k) (alike_led e w u k one) (alike_run es u v k rest)

alike_among : (xs : List JointEvent) (w v : WorldCore) (k : ℕ) → RunsAmong source_state xs w v → Alike (slice_get w.endpoints k) (slice_get v.endpoints k)
alike_among [] w v k e = subst (λ (y : WorldCore). Alike (slice_get w.endpoints k) (slice_get y.endpoints k)) (sym e) (alike (slice_get w.endpoints k))
alike_among (OfJobs e ∷ xs) w v k (u, one, rest) = alike_then (slice_get w.endpoints k) (slice_get u.endpoints k) (slice_get v.endpoints k) (alike_led e w u k one) (alike_among xs u v k rest)
alike_among (OfStranger a ∷ xs) w v k (u, acts, rest) = subst (λ (es : List Endpoint). Alike (slice_get es k) (slice_get v.endpoints k)) acts.rest (alike_among xs u v k rest)

-- ---- as the calls show it

over_by : (o : Outcome) → o ≢ outcomes.Running → is_running o ≡ false
over_by outcomes.Running n = absurd (n refl)
over_by (outcomes.Done reports) n = refl
over_by (outcomes.Ended status why) n = refl

page_same : (p q : Endpoint) (k : ℕ) → Same p q → finished_page q k ≡ finished_page p k
page_same p q k s =
    ap (λ (n : ℕ). if ((k == 0) || nat_lt n k) || nat_lt 16 k then None else slice_index_or q.pages (k - 1) None) s.finished
    ∙ ap (λ (pages : List (Option (List ℕ))). if ((k == 0) || nat_lt p.finished k) || nat_lt 16 k then None else slice_index_or pages (k - 1) None) s.pages

pub record Shown (a b : Option Endpoint) : Type 0 where
  pub outcome : option_map (λ (p : Endpoint). p.client.outcome) b ≡ option_map (λ (p : Endpoint). p.client.outcome) a
  pub file : option_and_then (λ (p : Endpoint). p.file) b ≡ option_and_then (λ (p : Endpoint). p.file) a
  pub finished : finished_by b ≡ finished_by a
  pub pages : (k : ℕ) → option_and_then (λ (p : Endpoint). finished_page p k) b ≡ option_and_then (λ (p : Endpoint). finished_page p k) a

shown_same : (a b : Option Endpoint) (o : Outcome) → Alike a b → option_map (λ (p : Endpoint). p.client.outcome) a ≡ Some o → o ≢ outcomes.Running → Shown a b
shown_same None b o x e n = absurd (let clash : None ≡ Some o = e in cc)
shown_same (Some p) None o x e n = absurd x
shown_same (Some p) (Some q) o x e n =
    let same : p.client.outcome ≡ o = (let both : Some p.client.outcome ≡ Some o = e in cc) in
    let s = x (over_by p.client.outcome (λ runs. n (sym same ∙ runs))) in
    record {
      outcome = ap (λ (y : Outcome). Some y) s.outcome;
      file = s.file;
      finished = ap (λ (n : ℕ). min n 16) s.finished;
      pages = λ k. page_same p q k s;
    }

stays_by : (w v : WorldCore) → ((i : ℕ) → Alike (slice_get w.endpoints i) (slice_get v.endpoints i)) → OverStays w v
stays_by w v same i o e n =
    let s = shown_same (slice_get w.endpoints i) (slice_get v.endpoints i) o (same i) e n in
    record { outcome = s.outcome; file = s.file; finished = s.finished; pages = s.pages }

pub over_stays : (es : List Event) (w v : WorldCore) → Runs source_state es w v → OverStays w v
over_stays es w v run = stays_by w v (λ i. alike_run es w v i run)

-- also where strangers act among them
pub over_among : (xs : List JointEvent) (w v : WorldCore) → RunsAmong source_state xs w v → OverStays w v
over_among xs w v run = stays_by w v (λ i. alike_among xs w v i run)

-- ---- jobs that no event comes to

set_other : (endpoints : List Endpoint) (i k : ℕ) (q : Endpoint) → k ≢ i → slice_get (slice_set endpoints i q) k ≡ slice_get endpoints k
set_other [] i k q other = refl
set_other (x ∷ endpoints) zero zero q other = absurd (other refl)
set_other (x ∷ endpoints) zero (suc k) q other = refl
set_other (x ∷ endpoints) (suc i) zero q other = refl
set_other (x ∷ endpoints) (suc i) (suc k) q other = set_other endpoints i k q (λ same. other (ap (λ (n : ℕ). suc n) same))

other_at : (w : WorldCore) (i : ℕ) (x : JobEvent) (v : WorldCore) (k : ℕ) → k ≢ i → AtEndpoint w i x v → slice_get v.endpoints k ≡ slice_get w.endpoints k
other_at w i x v k other a = elim (post_or_none w.endpoints i) [
  | inl there ↦
      let h = a.happens there.0 there.1 in
      ap (λ (endpoints : List Endpoint). slice_get endpoints k) h.2 ∙ set_other w.endpoints i k h.0 other
  | inr beyond ↦ ap (λ (y : WorldCore). slice_get y.endpoints k) (a.beyond beyond)
]

-- the first of some events, and one of the others
first_of : (e y : Event) (es : List Event) → e ≡ y → Contains (e ∷ es) y
first_of e y es same = (0, omega arith, same)

later_of : (e y : Event) (es : List Event) → Contains es y → Contains (e ∷ es) y
later_of e y es there = (suc there.0, omega (arith, there.1), there.2)

abbrev NoneOf : List Event → ℕ → Type 0
NoneOf es k = (own : JobEvent) → Contains es (job_event_of k own) → ⊥

not_here : (e : Event) (es : List Event) (x : JobEvent) (i k : ℕ) → e ≡ job_event_of i x → NoneOf (e ∷ es) k → k ≢ i
not_here e es x i k is none = λ same. none x (first_of e (job_event_of k x) es (is ∙ ap (λ (n : ℕ). job_event_of n x) (sym same)))

other_led : (event : Event) (es : List Event) (w v : WorldCore) (k : ℕ) → NoneOf (event ∷ es) k → Leads source_state event w v → slice_get v.endpoints k ≡ slice_get w.endpoints k
other_led (events.Connect i) es w v k none l = other_at w i Connect v k (not_here (events.Connect i) es Connect i k refl none) l
other_led (events.ToDaemon i n) es w v k none l = other_at w i (ToDaemon n) v k (not_here (events.ToDaemon i n) es (ToDaemon n) i k refl none) l
other_led (events.ToClient i n) es w v k none l = other_at w i (ToClient n) v k (not_here (events.ToClient i n) es (ToClient n) i k refl none) l
other_led (events.DataConnect i) es w v k none l = other_at w i DataConnect v k (not_here (events.DataConnect i) es DataConnect i k refl none) l
other_led (events.DataTurn i) es w v k none l = other_at w i DataTurn v k (not_here (events.DataTurn i) es DataTurn i k refl none) l
other_led (events.DataToClient i n) es w v k none l = other_at w i (DataToClient n) v k (not_here (events.DataToClient i n) es (DataToClient n) i k refl none) l
other_led (events.LoseControl i) es w v k none l = other_at w i LoseControl v k (not_here (events.LoseControl i) es LoseControl i k refl none) l
other_led (events.LoseImage i) es w v k none l = other_at w i LoseImage v k (not_here (events.LoseImage i) es LoseImage i k refl none) l
other_led (events.Cancel i) es w v k none l = other_at w i Cancel v k (not_here (events.Cancel i) es Cancel i k refl none) l
other_led (events.Load name page) es w v k none l = ap (λ (y : WorldCore). slice_get y.endpoints k) l
other_led (events.Unplug name) es w v k none l = ap (λ (y : WorldCore). slice_get y.endpoints k) l

pub other_jobs_stay : (es : List Event) (w v : WorldCore) → Runs source_state es w v → OthersStay es w v
other_jobs_stay [] w v e k none = ap (λ (y : WorldCore). slice_get y.endpoints k) e
other_jobs_stay (e ∷ es) w v (u, one, rest) k none =
    other_jobs_stay es u v rest k (λ own there. none own (later_of e (job_event_of k own) es there)) ∙ other_led e es w u k none one

-- ---- moves never come back

left_one : (a b : Option Endpoint) → Alike a b → ((p q : Endpoint) → a ≡ Some p → b ≡ Some q → moves_left_of q ≤ moves_left_of p) → moves_answered b ≤ moves_answered a
left_one None None x f = omega arith
left_one None (Some q) x f = absurd x
left_one (Some p) None x f = absurd x
left_one (Some p) (Some q) x f = f p q refl refl

pub moves_fall : (es : List Event) (w v : WorldCore) → Runs source_state es w v → MovesFall w v
moves_fall [] w v e i = subst (λ (y : WorldCore). moves_answered (slice_get y.endpoints i) ≤ moves_answered (slice_get w.endpoints i)) (sym e) (omega arith)
moves_fall (e ∷ es) w v (u, one, rest) i =
    let first = left_one (slice_get w.endpoints i) (slice_get u.endpoints i) (alike_led e w u i one) (λ p q a b. never_more source_state e w u i p q one a b) in
    let later = moves_fall es u v rest i in
    omega (arith, first, later)

-- an event of a job, at its endpoint
pub at_own : (i : ℕ) (x : JobEvent) (w v : WorldCore) → Leads source_state (job_event_of i x) w v → AtEndpoint w i x v
at_own i Connect w v l = l
at_own i (ToDaemon n) w v l = l
at_own i (ToClient n) w v l = l
at_own i DataConnect w v l = l
at_own i DataTurn w v l = l
at_own i (DataToClient n) w v l = l
at_own i LoseControl w v l = l
at_own i LoseImage w v l = l
at_own i Cancel w v l = l

pub move_lowers : (e : Event) (w v : WorldCore) → Leads source_state e w v → MoveLowers e w v
move_lowers e w v leads i own is can some =
    let a = at_own i own w v (subst (λ (x : Event). Leads source_state x w v) is leads) in
    let h = a.happens can.0 can.1 in
    let now : slice_get v.endpoints i ≡ Some h.0 = ap (λ (es : List Endpoint). slice_get es i) h.2 ∙ set_here w.endpoints i can.0 h.0 can.1 in
    let was : left_at w i ≡ moves_left_of can.0 = ap moves_answered can.1 in
    let less = one_less w.daemon v.daemon can.0 h.0 own (subst (λ (n : ℕ). 0 < n) was some) can.2 h.1 in
    subst (λ (o : Option Endpoint). moves_answered o < left_at w i) (sym now) (subst (λ (n : ℕ). moves_left_of h.0 < n) (sym was) less)

-- ---- what ends a job that runs

pub ended_stays : (es : List Event) (w v : WorldCore) (i : ℕ) (status : Status) (why : Why) → Runs source_state es w v → outcome_at w i ≡ Some (outcomes.Ended status why) → outcome_at v i ≡ Some (outcomes.Ended status why)
ended_stays es w v i status why run is = (over_stays es w v run i (outcomes.Ended status why) is (λ r. cc)).outcome ∙ is

set_same : (endpoints : List Endpoint) (i : ℕ) (p : Endpoint) → slice_get endpoints i ≡ Some p → slice_set endpoints i p ≡ endpoints
set_same [] i p at = absurd (let clash : None ≡ Some p = at in cc)
set_same (x ∷ endpoints) zero p at = ap (λ (y : Endpoint). y ∷ endpoints) (sym (same_some x p at))
set_same (x ∷ endpoints) (suc i) p at = ap (λ (es : List Endpoint). x ∷ es) (set_same endpoints i p at)

pub running_in : (endpoints : List Endpoint) (i : ℕ) (o : Option Endpoint) → slice_get endpoints i ≡ o → option_map (λ (p : Endpoint). p.client.outcome) o ≡ Some outcomes.Running → (p : Endpoint) × (slice_get endpoints i ≡ Some p) × (p.client.outcome ≡ outcomes.Running)
running_in endpoints i None at e = absurd (let clash : None ≡ Some outcomes.Running = e in cc)
running_in endpoints i (Some p) at e = (p, at, (let both : Some p.client.outcome ≡ Some outcomes.Running = e in cc))

cancel_one : (w v : WorldCore) (i : ℕ) → AtEndpoint w i Cancel v → outcome_at w i ≡ Some outcomes.Running → outcome_at v i ≡ Some (outcomes.Ended statuses.Cancelled whys.Cancelled)
cancel_one w v i a e =
    let there = running_in w.endpoints i (slice_get w.endpoints i) refl e in
    let h = a.happens there.0 there.1 in
    let does = h.1.does (ap is_running there.2) in
    let now : slice_get v.endpoints i ≡ Some h.0 = ap (λ (es : List Endpoint). slice_get es i) h.2 ∙ set_here w.endpoints i there.0 h.0 there.1 in
    ap (option_map (λ (p : Endpoint). p.client.outcome)) now ∙ ap (λ (p : Endpoint). Some p.client.outcome) does.1.rest

pub cancel_ends : (es : List Event) (w v : WorldCore) → Runs source_state es w v → CancelEnds es w v
cancel_ends es w v run i front back split =
    let s = runs_split front (events.Cancel i ∷ back) w v (subst (λ (xs : List Event). Runs source_state xs w v) split run) in
    (s.0, s.1, s.2, λ runs. first_runs (λ (y : WorldCore). outcome_at y i ≡ Some (outcomes.Ended statuses.Cancelled whys.Cancelled)) (events.Cancel i) back s.0 v s.2 (λ x one rest. ended_stays back x v i statuses.Cancelled whys.Cancelled rest (cancel_one s.0 x i one runs)))

same_world : (w v : WorldCore) → v.daemon ≡ w.daemon → v.endpoints ≡ w.endpoints → v ≡ w
same_world w v a b = ap (λ (d : Core). record v { daemon = d }) a ∙ ap (λ (es : List Endpoint). record w { endpoints = es }) b

pub lost_runs : (b : Bool) (c : ClientState) → b ≡ true → (cond b (after_client_end statuses.IoError whys.Lost c) c).outcome ≡ outcomes.Ended statuses.IoError whys.Lost
lost_runs true c e = refl
lost_runs false c e = absurd (let clash : false ≡ true = e in cc)

pub lose_one : (w v : WorldCore) (i : ℕ) → AtEndpoint w i LoseControl v → outcome_at w i ≡ Some outcomes.Running → (outcome_at v i ≡ Some (outcomes.Ended statuses.IoError whys.Lost)) ⊎ (v ≡ w)
lose_one w v i a e =
    let there = running_in w.endpoints i (slice_get w.endpoints i) refl e in
    let h = a.happens there.0 there.1 in
    let now : slice_get v.endpoints i ≡ Some h.0 = ap (λ (es : List Endpoint). slice_get es i) h.2 ∙ set_here w.endpoints i there.0 h.0 there.1 in
    elim (can_or_not w.daemon there.0 LoseControl) [
      | inl can ↦ linked_by there.0.link _ ((outcome_at v i ≡ Some (outcomes.Ended statuses.IoError whys.Lost)) ⊎ (v ≡ w)) (h.1.does can) (λ k it.
          inl (ap (option_map (λ (p : Endpoint). p.client.outcome)) now ∙ (ap (λ (p : Endpoint). Some p.client.outcome) it.1 ∙ ap (λ (o : Outcome). Some o) (lost_runs (is_running there.0.client.outcome) there.0.client (ap is_running there.2)))))
      | inr never ↦
          let same = h.1.cannot never in
          inr (same_world w v same.0 (h.2 ∙ (ap (λ (q : Endpoint). slice_set w.endpoints i q) same.1 ∙ set_same w.endpoints i there.0 there.1)))
    ]
