-- A job that runs and was connected is linked, and the loss of that link ends it.
use Rattle.std.specs.Prelude.{slice_get, slice_set, option_map, Contains, is_some, IsSome, if◌then◌else◌, nat_lt, ◌&&◌, ◌+◌}
use Rattle.std.proofs.Common.{◌≡◌, ◌∙◌, ◌⊎◌, ℕ, zero, suc, List, [], ◌∷◌, Bool, true, false, Option, Some, None, refl, sym, ap, subst, inl, inr, arith}
use Rattle.page_sources.specs.SourceView.{source_state}
use Rattle.sane_fixed.specs.declared.status.Status.TheVariants.{IoError}
use Rattle.client_replies.specs.ProtocolStates.{is_batch, is_running}
use Rattle.saned_core.specs.declared.session_slot.Fed.{Fed}
use Rattle.saned_core.specs.declared.session_slot.Fed.TheVariants as feds
use Rattle.saned_core.specs.declared.session_slot.DataStep.{DataStep}
use Rattle.saned_core.specs.declared.session_slot.DataStep.TheVariants as turns
use Rattle.saned_core.specs.declared.session_slot.SessionId.{SessionId}
use Rattle.saned_core.specs.DaemonStates.{Core, is_closed}
use Rattle.scan_job.specs.declared.job.Job.{Job}
use Rattle.scan_job.specs.declared.outcome.Outcome.{Outcome}
use Rattle.scan_job.specs.declared.outcome.Outcome.TheVariants.{Running, Done, Ended}
use Rattle.scan_job.specs.declared.outcome.Why.TheVariants as whys
use Rattle.system_model.specs.AbstractDevices.{AbstractDevice}
use Rattle.system_model.specs.Client as model
use Rattle.system_model.specs.Client.{JobStage}
use Rattle.system_model.specs.Devices.{Make}
use Rattle.system_model.specs.Invariants.{StageInvariant}
use Rattle.system_model.specs.SystemStates.{JobState, make_for, device_for}
use Rattle.system_model.specs.Transitions.{IsUnderWay}
use Rattle.event_world.specs.declared.endpoint.Endpoint.{Endpoint}
use Rattle.event_world.specs.declared.event.Event.{Event}
use Rattle.event_world.specs.declared.event.Event.TheVariants as events
use Rattle.event_world.specs.declared.event.JobEvent.{JobEvent}
use Rattle.event_world.specs.declared.event.JobEvent.TheVariants.{Connect, ToDaemon, ToClient, DataConnect, DataTurn, DataToClient, LoseControl, LoseImage, Cancel}
use Rattle.event_world.specs.Endpoints.{after_move, laid_by}
use Rattle.event_world.specs.JobEvents.{Can, Connects, Does, Happens, HeedsPiece, IfLinked, SendsRecord, SendsStep, TakesDataPiece, after_fed, is_done, with_last_page}
use Rattle.event_world.specs.Worlds.{AtEndpoint, Leads, Runs, WorldCore}
use Rattle.event_world.proofs.Deciding.{can_or_not}
use Rattle.world_refines.specs.MainTheorem.{AreTrueLoads}
use Rattle.world_refines.specs.WorldPromises.{IsOutcome}
use Rattle.strangers.specs.Together.{AllIsKeptAmongStrangers, JointEvent, RunsAmong}
use Rattle.strangers.specs.Together.JointEvent.{OfJobs, OfStranger}
use Rattle.scan_world.specs.Histories.{HasEvent, History, LedTo, and_then}
use Rattle.scan_world.specs.Calls.{LossEnds, outcome_at}
use Rattle.scan_world.proofs.Led.{first_runs, led_then, loads_front, runs_split}
use Rattle.scan_world.proofs.Over.{ended_stays, lose_one, over_among}
use Rattle.scan_world.proofs.Scanned.{kept_by}
use Rattle.scan_world.proofs.moments.Entries.{past_end, set_get, set_here}
use Rattle.scan_world.proofs.moments.Holder.{no_endpoints}

-- ---- once connected

abbrev Was : Endpoint → Type 0
Was p = p.was_connected ≡ true

if_linked : {A : Type 0} (link : Option SessionId) (P : ℕ → Type 0) → IfLinked link P → ((k : ℕ) → P k → A) → A
if_linked None P h then_is = absurd h
if_linked (Some id) P h then_is = then_is id.number h

same_was : (p q : Endpoint) → q.was_connected ≡ p.was_connected → Was p → Was q
same_was p q e was = e ∙ was

fed_was : (fed : Fed) (p : Endpoint) → (after_fed fed p).was_connected ≡ p.was_connected
fed_was feds.Standing p = refl
fed_was feds.Over p = refl
fed_was feds.Starved p = refl

connects_was : (port : ℕ) (b : Bool) (d : Core) (p : Endpoint) (e : Core) (q : Endpoint) → Connects port b d p e q → Was q
connects_was port true d p e q h = ap (λ (x : Endpoint). x.was_connected) h.1
connects_was port false d p e q h = ap (λ (x : Endpoint). x.was_connected) h.3

heeds_was : (piece : List ℕ) (old new : Endpoint) (b : Bool) → is_running old.client.outcome ≡ b → HeedsPiece piece old new → new.was_connected ≡ old.was_connected
heeds_was piece old new false e h = ap (λ (x : Endpoint). x.was_connected) (h.over e)
heeds_was piece old new true e h = ap (λ (x : Endpoint). x.was_connected) (h.drains e).rest

record_was : (k : ℕ) (bytes : List ℕ) (last : Bool) (d : Core) (p : Endpoint) (e : Core) (q : Endpoint) → SendsRecord k bytes last d p e q → q.was_connected ≡ p.was_connected
record_was k bytes last d p e q (inl (image, at, same, is)) = ap (λ (x : Endpoint). x.was_connected) is
record_was k bytes last d p e q (inr (same, is)) = ap (λ (x : Endpoint). x.was_connected) is

step_was : (k : ℕ) (step : DataStep) (buf : List ℕ) (d : Core) (p : Endpoint) (e : Core) (q : Endpoint) → SendsStep k step buf d p e q → q.was_connected ≡ p.was_connected
step_was k turns.Idle buf d p e q h = ap (λ (x : Endpoint). x.was_connected) h.1
step_was k (turns.Bytes n) buf d p e q h = record_was k _ false d p e q h
step_was k (turns.Last n) buf d p e q h = record_was k _ true d p e q h

by_laid : (c : Bool) (p : Endpoint) → (if c then record p { file = Some []; pages = slice_set p.pages p.finished p.file; finished = p.finished + 1 } else record p { file = Some [] }).was_connected ≡ p.was_connected
by_laid true p = refl
by_laid false p = refl

by_last : (b : Bool) (p : Endpoint) → (if b then laid_by p else p).was_connected ≡ p.was_connected
by_last true p = by_laid (nat_lt p.finished 16) p
by_last false p = refl

page_was : (p : Endpoint) → (with_last_page p).was_connected ≡ p.was_connected
page_was p = by_last (is_done p.client.outcome && is_batch p.task) p

data_was : (piece : List ℕ) (old new : Endpoint) (b : Bool) → is_running old.client.outcome ≡ b → TakesDataPiece piece old new → new.was_connected ≡ old.was_connected
data_was piece old new false e h = ap (λ (x : Endpoint). x.was_connected) (h.over e)
data_was piece old new true e h = ap (λ (x : Endpoint). x.was_connected) (h.finishes e) ∙ (page_was h.after ∙ ap (λ (x : Endpoint). x.was_connected) (h.drains e).rest)

does_was : (d : Core) (p : Endpoint) (x : JobEvent) (e : Core) (q : Endpoint) → Does d p x e q → Was p → Was q
does_was d p Connect e q h was = connects_was h.0 (is_closed d) d p e q h.1
does_was d p (ToDaemon n) e q h was = if_linked p.link _ h (λ k it. same_was p q (ap (λ (x : Endpoint). x.was_connected) it.2 ∙ fed_was it.0 _) was)
does_was d p (ToClient n) e q h was = if_linked p.link _ h (λ k it. same_was p q (heeds_was _ (after_move p) q (is_running p.client.outcome) refl it.1) was)
does_was d p DataConnect e q h was = if_linked p.link _ h (λ k it. same_was p q (ap (λ (x : Endpoint). x.was_connected) it.1) was)
does_was d p DataTurn e q h was = if_linked p.link _ h (λ k it. same_was p q (step_was k it.step it.buf it.mid p e q it.sends) was)
does_was d p (DataToClient n) e q h was = same_was p q (ap (λ (x : Endpoint). x.was_connected) h.1.2.2 ∙ data_was _ _ h.1.2.0 (is_running p.client.outcome) refl h.1.2.1) was
does_was d p LoseControl e q h was = if_linked p.link _ h (λ k it. same_was p q (ap (λ (x : Endpoint). x.was_connected) it.1) was)
does_was d p LoseImage e q h was = if_linked p.link _ h (λ k it. same_was p q (ap (λ (x : Endpoint). x.was_connected) it.1) was)
does_was d p Cancel e q h was = same_was p q (ap (λ (x : Endpoint). x.was_connected) h.1.rest) was

happens_was : (d : Core) (p : Endpoint) (x : JobEvent) (e : Core) (q : Endpoint) → Happens d p x e q → Was p → Was q
happens_was d p x e q h was = elim (can_or_not d p x) [
  | inl can ↦ does_was d p x e q (h.does can) was
  | inr never ↦ same_was p q (ap (λ (y : Endpoint). y.was_connected) (h.cannot never).1) was
]

-- ---- of a world

-- what an event of job j makes of endpoint i: it stays, or it is j's
pub record Goes (w : WorldCore) (j : ℕ) (x : JobEvent) (u : WorldCore) (i : ℕ) : Type 0 where
  pub old : Endpoint
  pub was_at : slice_get w.endpoints i ≡ Some old
  pub new : Endpoint
  pub now_at : slice_get u.endpoints i ≡ Some new
  pub happens : Happens w.daemon old x u.daemon new
  pub is_own : j ≡ i

pub goes : (w u : WorldCore) (j : ℕ) (x : JobEvent) (i : ℕ) (o : Option Endpoint) → slice_get w.endpoints j ≡ o → AtEndpoint w j x u → (slice_get u.endpoints i ≡ slice_get w.endpoints i) ⊎ Goes w j x u i
goes w u j x i None at a = inl (ap (λ (y : WorldCore). slice_get y.endpoints i) (a.beyond (past_end w.endpoints j at)))
goes w u j x i (Some p) at a =
    let h = a.happens p at in
    let set : slice_get u.endpoints i ≡ slice_get (slice_set w.endpoints j h.0) i = ap (λ (ps : List Endpoint). slice_get ps i) h.2 in
    elim (set_get w.endpoints j i h.0) [
      | inl e ↦ inl (set ∙ e)
      | inr e ↦ inr (record {
        old = p;
        was_at = ap (slice_get w.endpoints) (sym e) ∙ at;
        new = h.0;
        now_at = ap (slice_get u.endpoints) (sym e) ∙ (ap (λ (ps : List Endpoint). slice_get ps j) h.2 ∙ set_here w.endpoints j p h.0 at);
        happens = h.1;
        is_own = e;
      })
    ]

abbrev Joined : WorldCore → ℕ → Type 0
Joined w i = (p : Endpoint) × (slice_get w.endpoints i ≡ Some p) × Was p

at_was : (w u : WorldCore) (j : ℕ) (x : JobEvent) (i : ℕ) → AtEndpoint w j x u → Joined w i → Joined u i
at_was w u j x i a n = elim (goes w u j x i (slice_get w.endpoints j) refl a) [
  | inl same ↦ (n.0, same ∙ n.1, n.2)
  | inr g ↦
      let one : n.0 ≡ g.old = (let both : Some n.0 ≡ Some g.old = sym n.1 ∙ g.was_at in cc) in
      (g.new, g.now_at, happens_was w.daemon g.old x u.daemon g.new g.happens (subst Was one n.2))
]

at_none : (w u : WorldCore) (j : ℕ) (x : JobEvent) (i : ℕ) → AtEndpoint w j x u → slice_get w.endpoints i ≡ None → slice_get u.endpoints i ≡ None
at_none w u j x i a n = elim (goes w u j x i (slice_get w.endpoints j) refl a) [
  | inl same ↦ same ∙ n
  | inr g ↦ absurd (let clash : None ≡ Some g.old = sym n ∙ g.was_at in cc)
]

lead_was : (e : Event) (w u : WorldCore) (i : ℕ) → Leads source_state e w u → Joined w i → Joined u i
lead_was (events.Connect j) w u i a n = at_was w u j _ i a n
lead_was (events.ToDaemon j k) w u i a n = at_was w u j _ i a n
lead_was (events.ToClient j k) w u i a n = at_was w u j _ i a n
lead_was (events.DataConnect j) w u i a n = at_was w u j _ i a n
lead_was (events.DataTurn j) w u i a n = at_was w u j _ i a n
lead_was (events.DataToClient j k) w u i a n = at_was w u j _ i a n
lead_was (events.LoseControl j) w u i a n = at_was w u j _ i a n
lead_was (events.LoseImage j) w u i a n = at_was w u j _ i a n
lead_was (events.Cancel j) w u i a n = at_was w u j _ i a n
lead_was (events.Load name source) w u i a n = (n.0, ap (λ (y : WorldCore). slice_get y.endpoints i) a ∙ n.1, n.2)
lead_was (events.Unplug name) w u i a n = (n.0, ap (λ (y : WorldCore). slice_get y.endpoints i) a ∙ n.1, n.2)

lead_none : (e : Event) (w u : WorldCore) (i : ℕ) → Leads source_state e w u → slice_get w.endpoints i ≡ None → slice_get u.endpoints i ≡ None
lead_none (events.Connect j) w u i a n = at_none w u j _ i a n
lead_none (events.ToDaemon j k) w u i a n = at_none w u j _ i a n
lead_none (events.ToClient j k) w u i a n = at_none w u j _ i a n
lead_none (events.DataConnect j) w u i a n = at_none w u j _ i a n
lead_none (events.DataTurn j) w u i a n = at_none w u j _ i a n
lead_none (events.DataToClient j k) w u i a n = at_none w u j _ i a n
lead_none (events.LoseControl j) w u i a n = at_none w u j _ i a n
lead_none (events.LoseImage j) w u i a n = at_none w u j _ i a n
lead_none (events.Cancel j) w u i a n = at_none w u j _ i a n
lead_none (events.Load name source) w u i a n = ap (λ (y : WorldCore). slice_get y.endpoints i) a ∙ n
lead_none (events.Unplug name) w u i a n = ap (λ (y : WorldCore). slice_get y.endpoints i) a ∙ n

runs_was : (es : List JointEvent) (w v : WorldCore) (i : ℕ) → RunsAmong source_state es w v → Joined w i → Joined v i
runs_was [] w v i run n = subst (λ (x : WorldCore). Joined x i) (sym run) n
runs_was (OfJobs e ∷ es) w v i (u, leads, rest) n = runs_was es u v i rest (lead_was e w u i leads n)
runs_was (OfStranger a ∷ es) w v i (u, acts, rest) n = runs_was es u v i rest (n.0, ap (λ (ps : List Endpoint). slice_get ps i) acts.rest ∙ n.1, n.2)

runs_none : (es : List JointEvent) (w v : WorldCore) (i : ℕ) → RunsAmong source_state es w v → slice_get w.endpoints i ≡ None → slice_get v.endpoints i ≡ None
runs_none [] w v i run n = ap (λ (x : WorldCore). slice_get x.endpoints i) run ∙ n
runs_none (OfJobs e ∷ es) w v i (u, leads, rest) n = runs_none es u v i rest (lead_none e w u i leads n)
runs_none (OfStranger a ∷ es) w v i (u, acts, rest) n = runs_none es u v i rest (ap (λ (ps : List Endpoint). slice_get ps i) acts.rest ∙ n)

-- one that runs ran before
abbrev RanAt : WorldCore → ℕ → Type 0
RanAt w i = (p : Endpoint) × (slice_get w.endpoints i ≡ Some p) × (p.client.outcome ≡ Running)

ran_by : (es : List JointEvent) (w v : WorldCore) (i : ℕ) (p : Endpoint) (o : Outcome) → p.client.outcome ≡ o → slice_get w.endpoints i ≡ Some p → RunsAmong source_state es w v → outcome_at v i ≡ Some Running → RanAt w i
ran_by es w v i p Running is at run runs = (p, at, is)
ran_by es w v i p (Done reports) is at run runs =
    let there : outcome_at w i ≡ Some (Done reports) = ap (option_map (λ (x : Endpoint). x.client.outcome)) at ∙ ap (λ (o : Outcome). Some o) is in
    let stays = (over_among es w v run i (Done reports) there (λ r. cc)).outcome in
    absurd (let clash : ◌≡◌ {A = Option Outcome} (Some Running) (Some (Done reports)) = sym runs ∙ (stays ∙ there) in cc)
ran_by es w v i p (Ended status why) is at run runs =
    let there : outcome_at w i ≡ Some (Ended status why) = ap (option_map (λ (x : Endpoint). x.client.outcome)) at ∙ ap (λ (o : Outcome). Some o) is in
    let stays = (over_among es w v run i (Ended status why) there (λ r. cc)).outcome in
    absurd (let clash : ◌≡◌ {A = Option Outcome} (Some Running) (Some (Ended status why)) = sym runs ∙ (stays ∙ there) in cc)

ran_before : (es : List JointEvent) (w v : WorldCore) (i : ℕ) (o : Option Endpoint) → slice_get w.endpoints i ≡ o → RunsAmong source_state es w v → outcome_at v i ≡ Some Running → RanAt w i
ran_before es w v i None at run runs =
    absurd (let clash : ◌≡◌ {A = Option Outcome} None (Some Running) = sym (ap (option_map (λ (x : Endpoint). x.client.outcome)) (runs_none es w v i run at)) ∙ runs in cc)
ran_before es w v i (Some p) at run runs = ran_by es w v i p p.client.outcome refl at run runs

connected_by : (w u : WorldCore) (i : ℕ) (n : RanAt w i) (b : Bool) → n.0.was_connected ≡ b → AtEndpoint w i Connect u → Joined u i
connected_by w u i n true e a = at_was w u i Connect i a (n.0, n.1, e)
connected_by w u i n false e a =
    let h = a.happens n.0 n.1 in
    let can : Can w.daemon n.0 Connect = (ap is_running n.2, e) in
    (h.0, ap (λ (ps : List Endpoint). slice_get ps i) h.2 ∙ set_here w.endpoints i n.0 h.0 n.1, does_new (h.1.does can))
  where
    does_new : Does w.daemon n.0 Connect u.daemon (a.happens n.0 n.1).0 → Was (a.happens n.0 n.1).0
    does_new d = connects_was d.0 (is_closed w.daemon) w.daemon n.0 u.daemon (a.happens n.0 n.1).0 d.1

joined_by : (es : List JointEvent) (w v : WorldCore) (i : ℕ) → RunsAmong source_state es w v → Contains es (OfJobs (events.Connect i)) → outcome_at v i ≡ Some Running → Joined v i
joined_by [] w v i run (k, low, same) runs = absurd (omega (arith, low))
joined_by (OfStranger a ∷ es) w v i (u, acts, rest) (zero, low, same) runs = absurd (let clash : OfStranger a ≡ OfJobs (events.Connect i) = same in cc)
joined_by (OfStranger a ∷ es) w v i (u, acts, rest) (suc k, low, same) runs = joined_by es u v i rest (k, omega (arith, low), same) runs
joined_by (OfJobs e ∷ es) w v i (u, leads, rest) (zero, low, same) runs =
    let ran = ran_before (OfJobs e ∷ es) w v i (slice_get w.endpoints i) refl (u, leads, rest) runs in
    let one : e ≡ events.Connect i = (let both : OfJobs e ≡ OfJobs (events.Connect i) = same in cc) in
    let at : AtEndpoint w i Connect u = subst (λ (x : Event). Leads source_state x w u) one leads in
    runs_was es u v i rest (connected_by w u i ran ran.0.was_connected refl at)
joined_by (OfJobs e ∷ es) w v i (u, leads, rest) (suc k, low, same) runs = joined_by es u v i rest (k, omega (arith, low), same) runs

-- ---- its link stands

linked_stage : (i : ℕ) (k : Make) (p : JobState) (dev : AbstractDevice) (stage : JobStage) → StageInvariant i k p dev stage → IsUnderWay stage → (stage ≡ model.Idle → ⊥) → p.linked ≡ true
linked_stage i k p dev model.Idle inv on other = absurd (other refl)
linked_stage i k p dev (model.Running g) (inl r) on other = r.linked
linked_stage i k p dev (model.Running g) (inr (inl r)) on other = r.linked
linked_stage i k p dev (model.Running g) (inr (inr r)) on other = r.linked
linked_stage i k p dev model.Done inv on other = absurd on
linked_stage i k p dev (model.Ended status why) inv on other = absurd on

some_link : (o : Option SessionId) → is_some o ≡ true → (id : SessionId) × (o ≡ Some id)
some_link None e = absurd (let clash : false ≡ true = e in cc)
some_link (Some id) e = (id, refl)

link_there : AllIsKeptAmongStrangers → (h : History) (w : WorldCore) (job : Job) (i : ℕ) (l : LedTo h w) (p : Endpoint) → slice_get w.endpoints i ≡ Some p → p.client.outcome ≡ Running → Was p → (id : SessionId) × (p.link ≡ Some id)
link_there all h w job i l p at runs was =
    let k = kept_by all h w job l in
    let u = k.run.ghost_then in
    let e = k.run.stands.endpoints i p at in
    let on : IsUnderWay (u.system.job i).client.stage = subst (IsOutcome u i) runs (k.promises.outcomes i p at) in
    let linked = linked_stage i (make_for u.system i) (u.system.job i) (device_for u.system i) (u.system.job i).client.stage (k.run.stands.sound.exchanges i) on (λ idle. (let clash : true ≡ false = sym was ∙ e.exchanges.idle idle in cc)) in
    some_link p.link (sym e.means.linked ∙ linked)

-- ---- the loss

lost_link : (link : Option SessionId) (P : ℕ → Type 0) (q : Endpoint) → IfLinked link P → ((k : ℕ) → P k → q.link ≡ None) → q.link ≡ None
lost_link None P q h then_is = absurd h
lost_link (Some id) P q h then_is = then_is id.number h

has_some : (o : Option SessionId) (id : SessionId) → o ≡ Some id → IsSome o
has_some o id e = subst IsSome (sym e) refl

by_loss : (w v : WorldCore) (i : ℕ) (p : Endpoint) (id : SessionId) → slice_get w.endpoints i ≡ Some p → p.link ≡ Some id → AtEndpoint w i LoseControl v → v ≡ w → ⊥
by_loss w v i p id at linked a same =
    let h = a.happens p at in
    let gone : h.0.link ≡ None = lost_link p.link _ h.0 (h.1.does (has_some p.link id linked)) (λ k it. ap (λ (q : Endpoint). q.link) it.1) in
    let now : slice_get v.endpoints i ≡ Some h.0 = ap (λ (ps : List Endpoint). slice_get ps i) h.2 ∙ set_here w.endpoints i p h.0 at in
    let one : p ≡ h.0 = (let both : Some p ≡ Some h.0 = sym at ∙ (ap (λ (x : WorldCore). slice_get x.endpoints i) (sym same) ∙ now) in cc) in
    let clash : Some id ≡ None = sym linked ∙ (ap (λ (q : Endpoint). q.link) one ∙ gone) in cc

loss_by_jobs : AllIsKeptAmongStrangers → (h : History) (w v : WorldCore) (i : ℕ) (l : LedTo h w) (jobs : List Job) → h.jobs ≡ jobs → (n : Joined w i) → (m : RanAt w i) → AtEndpoint w i LoseControl v → v ≡ w → ⊥
loss_by_jobs all h w v i l [] is n m a same = absurd (let clash : None ≡ Some n.0 = ap (λ (ps : List Endpoint). slice_get ps i) (sym (no_endpoints h w l is)) ∙ n.1 in cc)
loss_by_jobs all h w v i l (job ∷ jobs) is n m a same =
    let one : n.0 ≡ m.0 = (let both : Some n.0 ≡ Some m.0 = sym n.1 ∙ m.1 in cc) in
    let k = link_there all h w job i l m.0 m.1 m.2 (subst Was one n.2) in
    by_loss w v i m.0 k.0 m.1 k.1 a same

loss_at : AllIsKeptAmongStrangers → (h : History) (w u : WorldCore) (i : ℕ) → LedTo h w → HasEvent h (events.Connect i) → outcome_at w i ≡ Some Running → AtEndpoint w i LoseControl u → outcome_at u i ≡ Some (Ended IoError whys.Lost)
loss_at all h w u i l came runs leads = elim (lose_one w u i leads runs) [
  | inl ended ↦ ended
  | inr same ↦ absurd (loss_by_jobs all h w u i l h.jobs refl (joined_by h.events l.first w i l.runs came runs) (ran_before [] w w i (slice_get w.endpoints i) refl refl runs) leads same)
]

pub loss_ends : AllIsKeptAmongStrangers → (h : History) (es : List Event) (w v : WorldCore) → LedTo h w → AreTrueLoads source_state es → Runs source_state es w v → LossEnds h es w v
loss_ends all h es w v l loads run i front back split =
    let s = runs_split front (events.LoseControl i ∷ back) w v (subst (λ (xs : List Event). Runs source_state xs w v) split run) in
    let led = led_then h front w s.0 l (loads_front front (events.LoseControl i ∷ back) (subst (AreTrueLoads source_state) split loads)) s.1 in
    (s.0, s.1, s.2, λ runs came. first_runs (λ (y : WorldCore). outcome_at y i ≡ Some (Ended IoError whys.Lost)) (events.LoseControl i) back s.0 v s.2 (λ x one rest. ended_stays back x v i IoError whys.Lost rest (loss_at all (and_then h front) s.0 x i led came runs one)))
