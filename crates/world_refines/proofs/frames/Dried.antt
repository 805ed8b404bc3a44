-- A client that waits for no turn gives what it may of its file, and is the same but for that.
use Rattle.std.proofs.Common.{◌≡◌, ◌∙◌, ℕ, List, [], Bool, true, false, cond, refl, sym, ap, subst, map, append-nil}
use Rattle.sane_fixed.specs.declared.device_info.DeviceInfo.{DeviceInfo}
use Rattle.page_picture.specs.Shows.{Frame}
use Rattle.frame_join.specs.FrameHistory.{JoinHistory, after_pull, is_joined}
use Rattle.scan_job.specs.declared.job.Job.{Job}
use Rattle.scan_job.specs.declared.job.Task.{Task}
use Rattle.scan_job.specs.declared.outcome.Outcome.{Outcome}
use Rattle.scan_job.specs.declared.outcome.Outcome.TheVariants as outcomes
use Rattle.client_replies.specs.declared.progress.JobTarget.{JobTarget}
use Rattle.client_replies.specs.ProtocolStates.{ProtocolState, target_of, is_batch, is_running, scans, turns}
use Rattle.net_client.specs.ClientStates.{ClientRepresents, ClientState, protocol_of}
use Rattle.system_model.specs.Client as model
use Rattle.system_model.specs.Client.{Idle, ClientView, Running, JobStage}
use Rattle.system_model.specs.SystemStates.{JobState}
use Rattle.client_refines.specs.ClientRefinement.{ClientRefines}
use Rattle.client_refines.proofs.ClientEndings.{pulls_unseen}
use Rattle.client_refines.proofs.Outcomes.{outcomes_alike}
use Rattle.event_world.specs.declared.endpoint.Endpoint.{Endpoint}
use Rattle.event_world.specs.JobEvents.{is_done}
use Rattle.event_world.specs.FileDraining.{HasDrained, Drains, HasFiles, IsLaid, RunsDry, StaysOutOfMemory}
use Rattle.event_world.specs.Endpoints.{after_move}
use Rattle.world_refines.specs.WorldRefinement.{KeepsFiles, EndpointClientRefines, is_laid, client_at_greeting}
use Rattle.world_refines.proofs.replies.Heeded.{Reaches}

-- ---- what is left of its endpoint

pub record Dried (past : JoinHistory) (pages : List JoinHistory) (old new : Endpoint) : Type 0 where
  pub more : List ℕ
  pub serves : ClientRepresents (after_pull more past) new.client
  pub files : HasFiles (after_pull more past).given pages new
  pub client : new.client ≡ record old.client { join = new.client.join }
  pub rest : IsLaid old new
  pub starved : StaysOutOfMemory old new

pulled_none : (past : JoinHistory) → after_pull [] past ≡ past
pulled_none past = ap (λ (l : List ℕ). record past { given = l }) (append-nil past.given)

same_dried : (past : JoinHistory) (pages : List JoinHistory) (old : Endpoint) → ClientRepresents past old.client → HasFiles past.given pages old → Dried past pages old old
same_dried past pages old serves files =
    record {
      more = [];
      serves = subst (λ (q : JoinHistory). ClientRepresents q old.client) (sym (pulled_none past)) serves;
      files = subst (λ (q : JoinHistory). HasFiles q.given pages old) (sym (pulled_none past)) files;
      client = refl;
      rest = refl;
      starved = λ e. e;
    }

dry_dried : (past : JoinHistory) (pages : List JoinHistory) (old new : Endpoint) → Drains old new → RunsDry past pages old new → Dried past pages old new
dry_dried past pages old new drains d = record { more = d.bytes; serves = d.holds.serves; files = d.holds.files; client = d.given.client; rest = drains.rest; starved = drains.starved }

by_turn : (b : Bool) (past : JoinHistory) (pages : List JoinHistory) (old new : Endpoint) → b ≡ false → Drains old new → HasDrained b past pages old new → Dried past pages old new
by_turn true past pages old new e drains d = absurd (let clash : true ≡ false = e in cc)
by_turn false past pages old new e drains d = dry_dried past pages old new drains d

by_task : (b : Bool) (past : JoinHistory) (pages : List JoinHistory) (old new : Endpoint) → scans old.task ≡ b → old.task ≡ old.client.target.task → turns old.client.outcome old.client.progress ≡ false → ClientRepresents past old.client → HasFiles past.given pages old → Drains old new → Dried past pages old new
by_task true past pages old new scan task still serves files d =
    by_turn (turns old.client.outcome old.client.progress) past pages old new still d (d.drains past pages scan (λ on. absurd (let clash : true ≡ false = sym on ∙ still in cc)) (record { task = task; serves = serves; files = files }))
by_task false past pages old new scan task still serves files d = subst (λ (q : Endpoint). Dried past pages old q) (sym (d.none scan)) (same_dried past pages old serves files)

pub dried : (past : JoinHistory) (pages : List JoinHistory) (old new : Endpoint) → old.task ≡ old.client.target.task → turns old.client.outcome old.client.progress ≡ false → ClientRepresents past old.client → HasFiles past.given pages old → Drains old new → Dried past pages old new
dried past pages old new task still serves files d = by_task (scans old.task) past pages old new refl task still serves files d

-- ---- a page that is not whole is not laid by

part_laid : (a b c : Bool) → c ≡ false → cond a (cond b c false) false ≡ false
part_laid true true c e = e
part_laid true false c e = refl
part_laid false b c e = refl

pub laid_part : (task : Task) (o : Outcome) (past : JoinHistory) → is_joined past.ended ≡ false → is_laid task o past ≡ false
laid_part task o past e = part_laid (is_done o) (is_batch task) (is_joined past.ended) e

-- ---- what reads as a client is awake

pub reads_awake : (place : DeviceInfo → ℕ) (target : JobTarget) (job : model.AbstractJob) (pages : List (List Frame)) (protocol : ProtocolState) (m : ClientView) → ClientRefines place target job pages protocol m → m.stage ≡ Idle → ⊥
reads_awake place target job pages protocol m r idle = by_outcome place target job pages protocol m protocol.outcome refl r idle
  where
    by_outcome : (place : DeviceInfo → ℕ) (target : JobTarget) (job : model.AbstractJob) (pages : List (List Frame)) (protocol : ProtocolState) (m : ClientView) (o : Outcome) → protocol.outcome ≡ o → ClientRefines place target job pages protocol m → m.stage ≡ Idle → ⊥
    by_outcome place target job pages protocol m outcomes.Running e r idle = let g = (outcomes_alike place target job pages protocol m r).runs e in let clash : Idle ≡ Running g.0 = sym idle ∙ g.1 in absurd (cc)
    by_outcome place target job pages protocol m (outcomes.Done reports) e r idle = let d = (outcomes_alike place target job pages protocol m r).done reports e in let clash : Idle ≡ model.Done = sym idle ∙ d.stage in absurd (cc)
    by_outcome place target job pages protocol m (outcomes.Ended status why) e r idle = let d = (outcomes_alike place target job pages protocol m r).ended status why e in let clash : Idle ≡ model.Ended status why = sym idle ∙ d in absurd (cc)

-- ---- the endpoint of a job that has heard something

-- the endpoint whose client is this
abbrev pub with_client : ClientState → Endpoint → Endpoint
with_client c p = record (after_move p) { client = c }

files_with : (given other : List ℕ) (pages : List JoinHistory) (c : ClientState) (p : Endpoint) → given ≡ other → HasFiles other pages p → HasFiles given pages (with_client c p)
files_with given other pages c p e h = subst (λ (l : List ℕ). HasFiles l pages (with_client c p)) (sym e) (record { file = h.file; each = h.each; count = h.count; room = h.room })

-- how it refines then a client view that is awake
pub exchanges_dried : (place : DeviceInfo → ℕ) (job : Job) (past : JoinHistory) (pages : List JoinHistory) (me after : JobState) (m : ClientView) (text : List ℕ) (p q : Endpoint) (c : ClientState) → EndpointClientRefines place job past pages me p → is_joined past.ended ≡ false → (p.was_connected ≡ false → ⊥) → after.session.job ≡ me.session.job → after.client ≡ m → client_at_greeting m.stage m ≡ m →
    (r : Reaches place me.session.job (map (λ (x : JoinHistory). x.ended) pages) p.client past m text c) → (d : Dried r.history_then pages (with_client c p) q) → EndpointClientRefines place job (after_pull d.more r.history_then) pages after q
exchanges_dried place job past pages me after m text p q c h part connected same view awake r d =
    let shown : List (List Frame) = map (λ (x : JoinHistory). x.ended) pages in
    let then_ : JoinHistory = after_pull d.more r.history_then in
    let joined : is_joined then_.ended ≡ false = ap is_joined r.ended ∙ part in
    let outcome : q.client.outcome ≡ c.outcome = ap (λ (v : ClientState). v.outcome) d.client in
    let reads : ClientRefines place (target_of job) after.session.job shown (protocol_of q.client then_) m =
    subst (λ (t : ProtocolState). ClientRefines place (target_of job) after.session.job shown t m) (sym (ap (λ (v : ClientState). protocol_of v then_) d.client))
    (subst (λ (x : model.AbstractJob). ClientRefines place (target_of job) x shown (protocol_of c then_) m) (sym same)
    (subst (λ (x : JobTarget). ClientRefines place x me.session.job shown (protocol_of c then_) m) h.target (pulls_unseen place p.client.target me.session.job shown (protocol_of c r.history_then) m d.more r.reads).0)) in
    let woken_is : client_at_greeting after.client.stage after.client ≡ m = ap (λ (x : ClientView). client_at_greeting x.stage x) view ∙ awake in
    record {
      task = ap (λ (x : Endpoint). x.task) d.rest ∙ h.task;
      target = ap (λ (v : ClientState). v.target) d.client ∙ (r.target ∙ h.target);
      word = λ e. ap (λ (v : ClientState). v.notes.word) d.client ∙ r.word (sym (ap is_running outcome) ∙ e);
      over = λ e. ap (λ (v : ClientState). v.progress) d.client ∙ r.over (sym (ap is_running outcome) ∙ e);
      serves = d.serves;
      reads = subst (λ (x : ClientView). ClientRefines place (target_of job) after.session.job shown (protocol_of q.client then_) x) (sym woken_is) reads;
      idle = λ e. absurd (reads_awake place (target_of job) after.session.job shown (protocol_of q.client then_) m reads (sym (ap (λ (x : ClientView). x.stage) view) ∙ e));
      begun = λ e. absurd (connected (sym (ap (λ (x : Endpoint). x.was_connected) d.rest) ∙ e));
      files = subst (λ (b : Bool). KeepsFiles b then_ pages q) (sym (laid_part job.task q.client.outcome then_ joined)) d.files;
      finished = h.finished;
      alone = h.alone;
      done = λ e whole. absurd (let clash : true ≡ false = sym whole ∙ joined in cc);
    }

-- it is pulled
pub dried_by : (place : DeviceInfo → ℕ) (job : Job) (past : JoinHistory) (pages : List JoinHistory) (me : JobState) (m : ClientView) (text : List ℕ) (p q : Endpoint) (c : ClientState) → EndpointClientRefines place job past pages me p → is_joined past.ended ≡ false → (r : Reaches place me.session.job (map (λ (x : JoinHistory). x.ended) pages) p.client past m text c) →
    turns c.outcome c.progress ≡ false → Drains (with_client c p) q → Dried r.history_then pages (with_client c p) q
dried_by place job past pages me m text p q c h part r still d =
    let files : HasFiles past.given pages p = subst (λ (b : Bool). KeepsFiles b past pages p) (laid_part job.task p.client.outcome past part) h.files in
    dried r.history_then pages (with_client c p) q (h.task ∙ sym (ap (λ (x : JobTarget). x.task) (r.target ∙ h.target))) still r.serves (files_with r.history_then.given past.given pages c p r.given files) d
