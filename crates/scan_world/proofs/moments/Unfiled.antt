-- A job that does not scan keeps its empty file.
use Rattle.std.specs.Prelude.{if◌then◌else◌, ◌&&◌, ◌+◌, nat_lt, slice_get, slice_set}
use Rattle.std.proofs.Common.{◌≡◌, ◌∙◌, ℕ, zero, suc, List, [], ◌∷◌, Bool, true, false, Option, Some, None, inl, inr, refl, sym, ap, subst}
use Rattle.page_sources.specs.SourceView.{source_state}
use Rattle.client_replies.specs.ProtocolStates.{is_batch, is_running, scans}
use Rattle.saned_core.specs.declared.session_slot.Fed.{Fed}
use Rattle.saned_core.specs.declared.session_slot.Fed.TheVariants as feds
use Rattle.saned_core.specs.declared.session_slot.DataStep.{DataStep}
use Rattle.saned_core.specs.declared.session_slot.DataStep.TheVariants as turns
use Rattle.saned_core.specs.declared.session_slot.SessionId.{SessionId}
use Rattle.saned_core.specs.DaemonStates.{Core, is_closed}
use Rattle.scan_job.specs.declared.job.Job.{Job}
use Rattle.scan_job.specs.declared.job.Task.{Task}
use Rattle.scan_job.specs.declared.job.Task.TheVariants as tasks
use Rattle.event_world.specs.declared.endpoint.Endpoint.{Endpoint}
use Rattle.event_world.specs.declared.event.Event.{Event}
use Rattle.event_world.specs.declared.event.Event.TheVariants as events
use Rattle.event_world.specs.declared.event.JobEvent.{JobEvent}
use Rattle.event_world.specs.declared.event.JobEvent.TheVariants.{Connect, ToDaemon, ToClient, DataConnect, DataTurn, DataToClient, LoseControl, LoseImage, Cancel}
use Rattle.event_world.specs.Endpoints.{after_move, laid_by, shut_out, with_image_link, with_link, without_image_link, without_link}
use Rattle.event_world.specs.JobEvents.{Connects, Does, Happens, HeedsPiece, IfLinked, SendsRecord, SendsStep, TakesDataPiece, after_fed, is_done, with_last_page, without_sent}
use Rattle.event_world.specs.Worlds.{AreNew, AtEndpoint, Leads, WorldCore}
use Rattle.event_world.proofs.Deciding.{can_or_not}
use Rattle.strangers.specs.Together.{JointEvent, RunsAmong}
use Rattle.strangers.specs.Together.JointEvent.{OfJobs, OfStranger}
use Rattle.scan_world.specs.Histories.{History, LedTo}
use Rattle.scan_world.proofs.moments.Linked.{goes}

-- ---- at an endpoint

abbrev Files : Endpoint → Endpoint → Type 0
Files p q = (q.task ≡ p.task) × (scans p.task ≡ false → q.file ≡ p.file)

files_as : (p q r : Endpoint) → q ≡ r → Files p r → Files p q
files_as p q r e f = subst (Files p) (sym e) f

if_linked : {A : Type 0} (link : Option SessionId) (P : ℕ → Type 0) → IfLinked link P → ((k : ℕ) → P k → A) → A
if_linked None P h then_is = absurd h
if_linked (Some id) P h then_is = then_is id.number h

connects_files : (port : ℕ) (b : Bool) (d : Core) (p : Endpoint) (e : Core) (q : Endpoint) → Connects port b d p e q → Files p q
connects_files port true d p e q h = files_as p q (shut_out (after_move p)) h.1 (refl, λ nay. refl)
connects_files port false d p e q h = files_as p q (with_link h.0 (after_move p)) h.3 (refl, λ nay. refl)

fed_files : (fed : Fed) (n : ℕ) (p : Endpoint) → Files p (after_fed fed (without_sent n p))
fed_files feds.Standing n p = (refl, λ nay. refl)
fed_files feds.Over n p = (refl, λ nay. refl)
fed_files feds.Starved n p = (refl, λ nay. refl)

heeds_files : (piece : List ℕ) (p q : Endpoint) (b : Bool) → is_running p.client.outcome ≡ b → HeedsPiece piece (after_move p) q → Files p q
heeds_files piece p q false e h = files_as p q (after_move p) (h.over e) (refl, λ nay. refl)
heeds_files piece p q true e h = (ap (λ (x : Endpoint). x.task) (h.drains e).rest, λ nay. ap (λ (x : Endpoint). x.file) ((h.drains e).none nay))

record_files : (k : ℕ) (bytes : List ℕ) (last : Bool) (d : Core) (p : Endpoint) (e : Core) (q : Endpoint) → SendsRecord k bytes last d p e q → Files p q
record_files k bytes last d p e q (inl (image, at, same, is)) = (ap (λ (x : Endpoint). x.task) is, λ nay. ap (λ (x : Endpoint). x.file) is)
record_files k bytes last d p e q (inr (same, is)) = (ap (λ (x : Endpoint). x.task) is, λ nay. ap (λ (x : Endpoint). x.file) is)

step_files : (k : ℕ) (step : DataStep) (buf : List ℕ) (d : Core) (p : Endpoint) (e : Core) (q : Endpoint) → SendsStep k step buf d p e q → Files p q
step_files k turns.Idle buf d p e q h = files_as p q (after_move p) h.1 (refl, λ nay. refl)
step_files k (turns.Bytes n) buf d p e q h = record_files k _ false d p e q h
step_files k (turns.Last n) buf d p e q h = record_files k _ true d p e q h

no_batch : (task : Task) → scans task ≡ false → is_batch task ≡ false
no_batch tasks.List nay = refl
no_batch tasks.Show nay = refl
no_batch tasks.SetOnly nay = refl
no_batch tasks.Scan nay = absurd (let clash : true ≡ false = nay in cc)
no_batch (tasks.Batch count) nay = absurd (let clash : true ≡ false = nay in cc)

by_laid : (c : Bool) (p : Endpoint) → (if c then record p { file = Some []; pages = slice_set p.pages p.finished p.file; finished = p.finished + 1 } else record p { file = Some [] }).task ≡ p.task
by_laid true p = refl
by_laid false p = refl

page_files : (p : Endpoint) (a b : Bool) → is_done p.client.outcome ≡ a → is_batch p.task ≡ b → Files p (if a && b then laid_by p else p)
page_files p false b x y = (refl, λ nay. refl)
page_files p true false x y = (refl, λ nay. refl)
page_files p true true x y = (by_laid (nat_lt p.finished 16) p, λ nay. absurd (let clash : false ≡ true = sym (no_batch p.task nay) ∙ y in cc))

files_then : (p m q : Endpoint) → Files p m → Files m q → Files p q
files_then p m q f g = (g.0 ∙ f.0, λ nay. g.1 (ap scans f.0 ∙ nay) ∙ f.1 nay)

data_files : (piece : List ℕ) (old new : Endpoint) (b : Bool) → is_running old.client.outcome ≡ b → TakesDataPiece piece old new → Files old new
data_files piece old new false e h = files_as old new old (h.over e) (refl, λ nay. refl)
data_files piece old new true e h =
    let drained : Files old h.after = (ap (λ (x : Endpoint). x.task) (h.drains e).rest, λ nay. ap (λ (x : Endpoint). x.file) ((h.drains e).none nay)) in
    files_as old new (with_last_page h.after) (h.finishes e) (files_then old h.after (with_last_page h.after) drained (page_files h.after (is_done h.after.client.outcome) (is_batch h.after.task) refl refl))

does_files : (d : Core) (p : Endpoint) (x : JobEvent) (e : Core) (q : Endpoint) → Does d p x e q → Files p q
does_files d p Connect e q h = connects_files h.0 (is_closed d) d p e q h.1
does_files d p (ToDaemon n) e q h = if_linked p.link _ h (λ k it. files_as p q (after_fed it.0 (without_sent n p)) it.2 (fed_files it.0 n p))
does_files d p (ToClient n) e q h = if_linked p.link _ h (λ k it. heeds_files _ p q (is_running p.client.outcome) refl it.1)
does_files d p DataConnect e q h = if_linked p.link _ h (λ k it. files_as p q (with_image_link (after_move p)) it.1 (refl, λ nay. refl))
does_files d p DataTurn e q h = if_linked p.link _ h (λ k it. step_files k it.step it.buf it.mid p e q it.sends)
does_files d p (DataToClient n) e q h =
    let taken = data_files _ _ h.1.2.0 (is_running p.client.outcome) refl h.1.2.1 in
    (ap (λ (x : Endpoint). x.task) h.1.2.2 ∙ taken.0, λ nay. ap (λ (x : Endpoint). x.file) h.1.2.2 ∙ taken.1 nay)
does_files d p LoseControl e q h = if_linked p.link _ h (λ k it. files_as p q (without_link (after_move p)) it.1 (refl, λ nay. refl))
does_files d p LoseImage e q h = if_linked p.link _ h (λ k it. files_as p q (without_image_link (after_move p)) it.1 (refl, λ nay. refl))
does_files d p Cancel e q h = (ap (λ (x : Endpoint). x.task) h.1.rest, λ nay. ap (λ (x : Endpoint). x.file) h.1.rest)

happens_files : (d : Core) (p : Endpoint) (x : JobEvent) (e : Core) (q : Endpoint) → Happens d p x e q → Files p q
happens_files d p x e q h = elim (can_or_not d p x) [
  | inl can ↦ does_files d p x e q (h.does can)
  | inr never ↦ files_as p q p (h.cannot never).1 (refl, λ nay. refl)
]

-- ---- of a world

abbrev HasNone : WorldCore → ℕ → Type 0
HasNone w i = (p : Endpoint) → slice_get w.endpoints i ≡ Some p → scans p.task ≡ false → p.file ≡ Some []

at_none : (w u : WorldCore) (j : ℕ) (x : JobEvent) (i : ℕ) → AtEndpoint w j x u → HasNone w i → HasNone u i
at_none w u j x i a n q at nay = elim (goes w u j x i (slice_get w.endpoints j) refl a) [
  | inl same ↦ n q (sym same ∙ at) nay
  | inr g ↦
      let one : g.new ≡ q = (let both : Some g.new ≡ Some q = sym g.now_at ∙ at in cc) in
      let f = subst (Files g.old) one (happens_files w.daemon g.old x u.daemon g.new g.happens) in
      let was : scans g.old.task ≡ false = ap scans (sym f.0) ∙ nay in
      f.1 was ∙ n g.old g.was_at was
]

same_none : (w u : WorldCore) (i : ℕ) → u.endpoints ≡ w.endpoints → HasNone w i → HasNone u i
same_none w u i same n = subst (λ (ps : List Endpoint). (p : Endpoint) → slice_get ps i ≡ Some p → scans p.task ≡ false → p.file ≡ Some []) (sym same) n

lead_none : (e : Event) (w u : WorldCore) (i : ℕ) → Leads source_state e w u → HasNone w i → HasNone u i
lead_none (events.Connect j) w u i a n = at_none w u j _ i a n
lead_none (events.ToDaemon j k) w u i a n = at_none w u j _ i a n
lead_none (events.ToClient j k) w u i a n = at_none w u j _ i a n
lead_none (events.DataConnect j) w u i a n = at_none w u j _ i a n
lead_none (events.DataTurn j) w u i a n = at_none w u j _ i a n
lead_none (events.DataToClient j k) w u i a n = at_none w u j _ i a n
lead_none (events.LoseControl j) w u i a n = at_none w u j _ i a n
lead_none (events.LoseImage j) w u i a n = at_none w u j _ i a n
lead_none (events.Cancel j) w u i a n = at_none w u j _ i a n
lead_none (events.Load name source) w u i a n = same_none w u i (ap (λ (y : WorldCore). y.endpoints) a) n
lead_none (events.Unplug name) w u i a n = same_none w u i (ap (λ (y : WorldCore). y.endpoints) a) n

runs_none : (es : List JointEvent) (w v : WorldCore) (i : ℕ) → RunsAmong source_state es w v → HasNone w i → HasNone v i
runs_none [] w v i run n = same_none w v i (ap (λ (y : WorldCore). y.endpoints) run) n
runs_none (OfJobs e ∷ es) w v i (u, leads, rest) n = runs_none es u v i rest (lead_none e w u i leads n)
runs_none (OfStranger a ∷ es) w v i (u, acts, rest) n = runs_none es u v i rest (same_none w u i acts.rest n)

first_none : (jobs : List Job) (endpoints : List Endpoint) (i : ℕ) (p : Endpoint) → AreNew jobs endpoints → slice_get endpoints i ≡ Some p → p.file ≡ Some []
first_none [] [] i p new at = absurd (let clash : None ≡ Some p = at in cc)
first_none [] (q ∷ endpoints) i p new at = absurd new
first_none (job ∷ jobs) [] i p new at = absurd new
first_none (job ∷ jobs) (q ∷ endpoints) zero p new at = let one : q ≡ p = (let both : Some q ≡ Some p = at in cc) in ap (λ (x : Endpoint). x.file) (sym one) ∙ ap (λ (x : Endpoint). x.file) new.0.rest
first_none (job ∷ jobs) (q ∷ endpoints) (suc i) p new at = first_none jobs endpoints i p new.1 at

pub empty_file : (h : History) (w : WorldCore) (i : ℕ) (p : Endpoint) → LedTo h w → slice_get w.endpoints i ≡ Some p → scans p.task ≡ false → p.file ≡ Some []
empty_file h w i p l at nay = runs_none h.events l.first w i l.runs (λ q there none. first_none h.jobs l.first.endpoints i q l.endpoints there) p at nay
