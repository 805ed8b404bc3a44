-- The file of a job is pulled behind what its client was told: how the client stands then.
use Rattle.std.proofs.Common.{◌≡◌, ◌⊎◌, inl, inr, ◌∙◌, ℕ, ◌≤◌, ◌<◌, List, [], ◌∷◌, ◌++◌, Some, Bool, true, false, refl, sym, ap, subst, map, length, slice_get, append-nil, arith}
use Rattle.sane_fixed.specs.declared.device_info.DeviceInfo.{DeviceInfo}
use Rattle.page_picture.specs.Shows.{Frame}
use Rattle.frame_join.specs.FrameHistory.{JoinHistory, IsJoined, after_pull, is_joined, empty_history}
use Rattle.scan_job.specs.JobSize.{HasCount}
use Rattle.scan_job.specs.declared.job.Job.{Job}
use Rattle.scan_job.specs.declared.job.Task.{Task}
use Rattle.scan_job.specs.declared.job.Task.TheVariants as tasks
use Rattle.scan_job.specs.declared.outcome.Outcome.{Outcome}
use Rattle.scan_job.specs.declared.outcome.Outcome.TheVariants as outcomes
use Rattle.client_replies.specs.declared.progress.JobTarget.{JobTarget}
use Rattle.client_replies.specs.declared.progress.Progress.{Progress}
use Rattle.client_replies.specs.declared.progress.Progress.TheVariants as stages
use Rattle.client_replies.specs.ProtocolStates.{HistoryFits, ProtocolState, target_of, is_batch, is_ended, is_running, scans, turns}
use Rattle.net_client.specs.ClientStates.{ClientRepresents, ClientState, Turns, TurnsPage, protocol_of}
use Rattle.system_model.specs.AbstractMessages.{Start}
use Rattle.system_model.specs.Client as model
use Rattle.system_model.specs.Client.{ClientView, further_pages}
use Rattle.client_refines.specs.ClientRefinement.{ClientRefines, task_of}
use Rattle.client_refines.specs.RequestRefinement.{asks_of}
use Rattle.client_refines.specs.PieceRefinement.{SpellsSent}
use Rattle.client_refines.proofs.ClientEndings.{pulls_unseen}
use Rattle.client_refines.proofs.PieceReceiving.{all_taken}
use Rattle.event_world.specs.declared.endpoint.Endpoint.{Endpoint}
use Rattle.event_world.specs.JobEvents.{is_done}
use Rattle.event_world.specs.FileDraining.{HasDrained, Drains, HasFiles, HasPlace, HoldsHistory, IsLaid, RunsDry, TurnsTo}
use Rattle.event_world.proofs.Pulls.{snoc_at}
use Rattle.world_refines.specs.Wires.{SpellsAsked}
use Rattle.world_refines.specs.WorldRefinement.{IsFinished}

-- ---- what stands of a client

-- It stands for what its joins were told and gave, and so does the file under way, which is not laid by yet.
pub record IsTold (place : DeviceInfo → ℕ) (job : Job) (ruled : model.AbstractJob) (past : JoinHistory) (pages : List JoinHistory) (m : ClientView) (endpoint : Endpoint) : Type 0 where
  pub task : endpoint.task ≡ job.task
  pub target : endpoint.client.target ≡ target_of job
  pub word : is_running endpoint.client.outcome ≡ true → endpoint.client.notes.word ≡ 0
  pub over : is_running endpoint.client.outcome ≡ false → endpoint.client.progress ≡ stages.Over
  pub serves : ClientRepresents past endpoint.client
  pub reads : ClientRefines place (target_of job) ruled (map (λ (q : JoinHistory). q.ended) pages) (protocol_of endpoint.client past) m
  pub files : HasFiles past.given pages endpoint
  pub finished : (k : ℕ) (q : JoinHistory) → slice_get pages k ≡ Some q → IsFinished q
  pub alone : is_batch job.task ≡ false → pages ≡ []
  -- a job that is done with a picture scanned it
  pub scanned : is_done endpoint.client.outcome ≡ true → is_joined past.ended ≡ true → scans job.task ≡ true

-- what is sent as a file is taken: the START of a further page, for which the model has asked
abbrev pub SaysNext : Bool → Job → ClientView → List ℕ → Type 0
SaysNext true job m sent = SpellsAsked job m (Start ∷ []) sent
SaysNext false job m sent = sent ≡ []

-- what is waited for then
abbrev pub awaits_next : Bool → Progress → Progress
awaits_next true progress = stages.Starting true
awaits_next false progress = progress

-- what is left of an endpoint whose file was pulled
pub record IsDrained (place : DeviceInfo → ℕ) (job : Job) (ruled : model.AbstractJob) (was : JoinHistory) (before : List JoinHistory) (m : ClientView) (old new : Endpoint) : Type 0 where
  pub history : JoinHistory
  pub pages : List JoinHistory
  -- no page is laid by of a client that waits for no turn
  pub still : turns old.client.outcome old.client.progress ≡ false → (history.ended ≡ was.ended) × (pages ≡ before)
  pub told : IsTold place job ruled history pages m new
  -- the file of a job that is done is whole
  pub done : is_done new.client.outcome ≡ true → is_joined history.ended ≡ true → IsFinished history
  pub rest : IsLaid old new
  pub starved : old.out_of_memory ≡ true → new.out_of_memory ≡ true
  pub outcome : new.client.outcome ≡ old.client.outcome
  pub progress : new.client.progress ≡ awaits_next (turns old.client.outcome old.client.progress) old.client.progress
  pub phase : new.client.phase ≡ old.client.phase
  pub input : new.client.input ≡ old.client.input
  pub sent : List ℕ
  pub out : new.client.out ≡ old.client.out ++ sent
  pub says : SaysNext (turns old.client.outcome old.client.progress) job m sent

-- ---- a job whose page waits to be taken, and one that is done

turned_fits : (task : Task) (o : Outcome) (progress : Progress) (past : JoinHistory) → turns o progress ≡ true → HistoryFits task o progress past → (is_batch task ≡ true) × IsJoined past
turned_fits task outcomes.Running stages.Turning past t f = (f.0, f.1.0)
turned_fits task outcomes.Running progress past t f = absurd (let clash : false ≡ true = t in cc)
turned_fits task (outcomes.Done reports) progress past t f = absurd (let clash : false ≡ true = t in cc)
turned_fits task (outcomes.Ended status why) progress past t f = absurd (let clash : false ≡ true = t in cc)

turned_runs : (o : Outcome) (progress : Progress) → turns o progress ≡ true → is_running o ≡ true
turned_runs outcomes.Running progress t = refl
turned_runs (outcomes.Done reports) progress t = t
turned_runs (outcomes.Ended status why) progress t = t

batch_scans : (task : Task) → is_batch task ≡ true → scans task ≡ true
batch_scans tasks.List e = absurd (let clash : false ≡ true = e in cc)
batch_scans tasks.Show e = absurd (let clash : false ≡ true = e in cc)
batch_scans tasks.SetOnly e = absurd (let clash : false ≡ true = e in cc)
batch_scans tasks.Scan e = refl
batch_scans (tasks.Batch count) e = refl

pub runs_undone : (o : Outcome) → is_running o ≡ true → is_done o ≡ true → ⊥
runs_undone outcomes.Running r e = let clash : false ≡ true = e in absurd (cc)
runs_undone (outcomes.Done reports) r e = let clash : false ≡ true = r in absurd (cc)
runs_undone (outcomes.Ended status why) r e = let clash : false ≡ true = r in absurd (cc)

done_alive : (o : Outcome) → is_done o ≡ true → is_ended o ≡ false
done_alive outcomes.Running e = refl
done_alive (outcomes.Done reports) e = refl
done_alive (outcomes.Ended status why) e = absurd (let clash : false ≡ true = e in cc)

-- the picture of a job that is done is whole
joined_by : (task : Task) (o : Outcome) (progress : Progress) (past : JoinHistory) → scans task ≡ true → is_done o ≡ true → is_joined past.ended ≡ true → HistoryFits task o progress past → IsJoined past
joined_by task outcomes.Running progress past s e j f = absurd (let clash : false ≡ true = e in cc)
joined_by task (outcomes.Ended status why) progress past s e j f = absurd (let clash : false ≡ true = e in cc)
joined_by tasks.List (outcomes.Done reports) progress past s e j f = absurd (let clash : false ≡ true = s in cc)
joined_by tasks.Show (outcomes.Done reports) progress past s e j f = absurd (let clash : false ≡ true = s in cc)
joined_by tasks.SetOnly (outcomes.Done reports) progress past s e j f = absurd (let clash : false ≡ true = s in cc)
joined_by tasks.Scan (outcomes.Done reports) progress past s e j f = f
joined_by (tasks.Batch count) (outcomes.Done reports) progress past s e j (inl whole) = whole
joined_by (tasks.Batch count) (outcomes.Done reports) progress past s e j (inr b) = absurd (let clash : true ≡ false = sym j ∙ b.2 in cc)

-- ---- a file that waits for no turn

dry_told : (place : DeviceInfo → ℕ) (job : Job) (ruled : model.AbstractJob) (past : JoinHistory) (pages : List JoinHistory) (m : ClientView) (old new : Endpoint) → IsTold place job ruled past pages m old → (d : RunsDry past pages old new) → IsTold place job ruled (after_pull d.bytes past) pages m new
dry_told place job ruled past pages m old new h d =
    let client = d.given.client in
    let shown : List (List Frame) = map (λ (q : JoinHistory). q.ended) pages in
    record {
      task = ap (λ (p : Endpoint). p.task) d.given.rest ∙ h.task;
      target = ap (λ (v : ClientState). v.target) client ∙ h.target;
      word = λ e. ap (λ (v : ClientState). v.notes.word) client ∙ h.word (sym (ap (λ (v : ClientState). is_running v.outcome) client) ∙ e);
      over = λ e. ap (λ (v : ClientState). v.progress) client ∙ h.over (sym (ap (λ (v : ClientState). is_running v.outcome) client) ∙ e);
      serves = d.holds.serves;
      reads =
          subst (λ (t : ProtocolState). ClientRefines place (target_of job) ruled shown t m) (sym (ap (λ (v : ClientState). protocol_of v (after_pull d.bytes past)) client))
          (pulls_unseen place (target_of job) ruled shown (protocol_of old.client past) m d.bytes h.reads).0;
      files = d.holds.files;
      finished = h.finished;
      alone = h.alone;
      scanned = λ e joined. h.scanned (sym (ap (λ (v : ClientState). is_done v.outcome) client) ∙ e) joined;
    }

dry_drained : (place : DeviceInfo → ℕ) (job : Job) (ruled : model.AbstractJob) (past : JoinHistory) (pages : List JoinHistory) (m : ClientView) (old new : Endpoint) → IsTold place job ruled past pages m old → Drains old new → RunsDry past pages old new → IsDrained place job ruled past pages m old new
dry_drained place job ruled past pages m old new h drains d =
    let client = d.given.client in
    let is_same : is_done new.client.outcome ≡ is_done old.client.outcome = ap (λ (v : ClientState). is_done v.outcome) client in
    record {
      history = after_pull d.bytes past;
      pages = pages;
      still = λ _. (refl, refl);
      told = dry_told place job ruled past pages m old new h d;
      done = λ e joined.
          let done : is_done old.client.outcome ≡ true = sym is_same ∙ e in
          let scan : scans old.client.target.task ≡ true = ap (λ (x : JobTarget). scans x.task) h.target ∙ h.scanned done joined in
          let whole = joined_by old.client.target.task old.client.outcome old.client.progress past scan done joined h.serves.fits in
          record { joined = whole; denotes = d.denotes (done_alive old.client.outcome done) whole };
      rest = drains.rest;
      starved = drains.starved;
      outcome = ap (λ (v : ClientState). v.outcome) client;
      progress = ap (λ (v : ClientState). v.progress) client ∙ ap (λ (b : Bool). awaits_next b old.client.progress) (sym d.still);
      phase = ap (λ (v : ClientState). v.phase) client;
      input = ap (λ (v : ClientState). v.input) client;
      sent = [];
      out = ap (λ (v : ClientState). v.out) client ∙ sym (append-nil old.client.out);
      says = subst (λ (b : Bool). SaysNext b job m []) (sym d.still) refl;
    }

-- ---- the page of a batch

-- what the turn sends, and how the client reads then
record Starts (place : DeviceInfo → ℕ) (job : Job) (ruled : model.AbstractJob) (past : JoinHistory) (pages : List JoinHistory) (m : ClientView) (old new : ClientState) : Type 0 where
  pub sent : List ℕ
  pub out : new.out ≡ old.out ++ sent
  pub spells : SpellsAsked job m (Start ∷ []) sent
  pub reads : ClientRefines place (target_of job) ruled (map (λ (q : JoinHistory). q.ended) pages ++ past.ended ∷ []) (protocol_of new empty_history) m

starts : (place : DeviceInfo → ℕ) (job : Job) (ruled : model.AbstractJob) (past : JoinHistory) (pages : List JoinHistory) (m : ClientView) (old new : Endpoint) → IsTold place job ruled past pages m old → TurnsTo past pages old new → Starts place job ruled past pages m old.client new.client
starts place job ruled past pages m old new h t =
    let shown : List (List Frame) = map (λ (q : JoinHistory). q.ended) pages in
    let page : TurnsPage old.client new.client = record { rest = t.client.rest; text = t.client.text; stands = t.client.stands } in
    let taken = all_taken place ruled shown old.client new.client past t.bytes m t.turned h.serves (subst (λ (x : JobTarget). ClientRefines place x ruled shown (protocol_of old.client past) m) (sym h.target) h.reads) (Turns t.whole t.denotes page t.holds.serves) in
    record {
      sent = taken.0;
      out = taken.1;
      spells =
          subst (λ (x : JobTarget). SpellsSent x taken.0 (asks_of 0 m.known (Start ∷ []))) h.target
          (subst (λ (word : ℕ). SpellsSent old.client.target taken.0 (asks_of word m.known (Start ∷ []))) (h.word (turned_runs old.client.outcome old.client.progress t.turned)) taken.2);
      reads = subst (λ (x : JobTarget). ClientRefines place x ruled (shown ++ past.ended ∷ []) (protocol_of new.client empty_history) m) h.target taken.3;
    }

pub ended_behind : (pages : List JoinHistory) (x : JoinHistory) → map (λ (q : JoinHistory). q.ended) (pages ++ x ∷ []) ≡ map (λ (q : JoinHistory). q.ended) pages ++ x.ended ∷ []
ended_behind [] x = refl
ended_behind (p ∷ pages) x = ap (λ (more : List (List Frame)). p.ended ∷ more) (ended_behind pages x)

pub finished_more : (pages : List JoinHistory) (x : JoinHistory) → ((k : ℕ) (q : JoinHistory) → slice_get pages k ≡ Some q → IsFinished q) → IsFinished x → (k : ℕ) (q : JoinHistory) → slice_get (pages ++ x ∷ []) k ≡ Some q → IsFinished q
finished_more pages x each is k q at = by_place pages x each is k q (snoc_at pages x q k at)
  where
    by_place : (pages : List JoinHistory) (x : JoinHistory) → ((k : ℕ) (q : JoinHistory) → slice_get pages k ≡ Some q → IsFinished q) → IsFinished x → (k : ℕ) (q : JoinHistory) → (slice_get pages k ≡ Some q) ⊎ ((k ≡ length pages) × (q ≡ x)) → IsFinished q
    by_place pages x each is k q (inl e) = each k q e
    by_place pages x each is k q (inr e) = subst IsFinished (sym e.1) is

turned_drained : (place : DeviceInfo → ℕ) (job : Job) (ruled : model.AbstractJob) (past : JoinHistory) (pages : List JoinHistory) (m : ClientView) (old new : Endpoint) → IsTold place job ruled past pages m old → Drains old new → TurnsTo past pages old new → IsDrained place job ruled past pages m old new
turned_drained place job ruled past pages m old new h drains t =
    let client = t.client.rest in
    let page : JoinHistory = after_pull t.bytes past in
    let s = starts place job ruled past pages m old new h t in
    let fits = turned_fits old.client.target.task old.client.outcome old.client.progress past t.turned h.serves.fits in
    let outcome : new.client.outcome ≡ old.client.outcome = ap (λ (v : ClientState). v.outcome) client in
    let running = turned_runs old.client.outcome old.client.progress t.turned in
    let runs : is_running new.client.outcome ≡ true = ap is_running outcome ∙ running in
    let batch : is_batch job.task ≡ true = sym (ap (λ (x : JobTarget). is_batch x.task) h.target) ∙ fits.0 in
    record {
      history = empty_history;
      pages = pages ++ page ∷ [];
      still = λ off. absurd (let clash : true ≡ false = sym t.turned ∙ off in cc);
      told = record {
        task = ap (λ (p : Endpoint). p.task) t.rest ∙ h.task;
        target = ap (λ (v : ClientState). v.target) client ∙ h.target;
        word = λ e. ap (λ (v : ClientState). v.notes.word) client ∙ h.word running;
        over = λ e. absurd (let clash : true ≡ false = sym runs ∙ e in cc);
        serves = t.holds.serves;
        reads = subst (λ (shown : List (List Frame)). ClientRefines place (target_of job) ruled shown (protocol_of new.client empty_history) m) (sym (ended_behind pages page)) s.reads;
        files = t.holds.files;
        finished = finished_more pages page h.finished (record { joined = fits.1; denotes = t.denotes });
        alone = λ e. absurd (let clash : true ≡ false = sym batch ∙ e in cc);
        scanned = λ e joined. absurd (runs_undone new.client.outcome runs e);
      };
      done = λ e joined. absurd (runs_undone new.client.outcome runs e);
      rest = drains.rest;
      starved = drains.starved;
      outcome = outcome;
      progress = ap (λ (v : ClientState). v.progress) client ∙ ap (λ (b : Bool). awaits_next b old.client.progress) (sym t.turned);
      phase = ap (λ (v : ClientState). v.phase) client;
      input = ap (λ (v : ClientState). v.input) client;
      sent = s.sent;
      out = s.out;
      says = subst (λ (b : Bool). SaysNext b job m s.sent) (sym t.turned) s.spells;
    }

-- ---- a job without a file

no_turn : (b : Bool) (task : Task) (o : Outcome) (progress : Progress) (past : JoinHistory) → turns o progress ≡ b → scans task ≡ false → HistoryFits task o progress past → b ≡ false
no_turn true task o progress past t s f = absurd (let scan : true ≡ false = sym (batch_scans task (turned_fits task o progress past t f).0) ∙ s in cc)
no_turn false task o progress past t s f = refl

same_drained : (place : DeviceInfo → ℕ) (job : Job) (ruled : model.AbstractJob) (past : JoinHistory) (pages : List JoinHistory) (m : ClientView) (old : Endpoint) → scans job.task ≡ false → IsTold place job ruled past pages m old → IsDrained place job ruled past pages m old old
same_drained place job ruled past pages m old off h =
    let scan : scans old.client.target.task ≡ false = ap (λ (x : JobTarget). scans x.task) h.target ∙ off in
    let still = no_turn (turns old.client.outcome old.client.progress) old.client.target.task old.client.outcome old.client.progress past refl scan h.serves.fits in
    record {
      history = past;
      pages = pages;
      still = λ _. (refl, refl);
      told = h;
      done = λ e joined. absurd (let clash : true ≡ false = sym (h.scanned e joined) ∙ off in cc);
      rest = refl;
      starved = λ e. e;
      outcome = refl;
      progress = ap (λ (b : Bool). awaits_next b old.client.progress) (sym still);
      phase = refl;
      input = refl;
      sent = [];
      out = sym (append-nil old.client.out);
      says = subst (λ (b : Bool). SaysNext b job m []) (sym still) refl;
    }

-- ---- all of it

by_turn : (b : Bool) (place : DeviceInfo → ℕ) (job : Job) (ruled : model.AbstractJob) (past : JoinHistory) (pages : List JoinHistory) (m : ClientView) (old new : Endpoint) → IsTold place job ruled past pages m old → Drains old new → HasDrained b past pages old new → IsDrained place job ruled past pages m old new
by_turn true place job ruled past pages m old new h drains d = turned_drained place job ruled past pages m old new h drains d
by_turn false place job ruled past pages m old new h drains d = dry_drained place job ruled past pages m old new h drains d

by_task : (b : Bool) (place : DeviceInfo → ℕ) (job : Job) (ruled : model.AbstractJob) (past : JoinHistory) (pages : List JoinHistory) (m : ClientView) (old new : Endpoint) → scans job.task ≡ b → IsTold place job ruled past pages m old → HasPlace old pages → Drains old new → IsDrained place job ruled past pages m old new
by_task true place job ruled past pages m old new scan h room d =
    let holds : HoldsHistory past pages old = record { task = h.task ∙ sym (ap (λ (x : JobTarget). x.task) h.target); serves = h.serves; files = h.files } in
    by_turn (turns old.client.outcome old.client.progress) place job ruled past pages m old new h d (d.drains past pages (ap scans h.task ∙ scan) room holds)
by_task false place job ruled past pages m old new scan h room d =
    subst (λ (x : Endpoint). IsDrained place job ruled past pages m old x) (sym (d.none (ap scans h.task ∙ scan))) (same_drained place job ruled past pages m old scan h)

pub drained : (place : DeviceInfo → ℕ) (job : Job) (ruled : model.AbstractJob) (past : JoinHistory) (pages : List JoinHistory) (m : ClientView) (old new : Endpoint) → IsTold place job ruled past pages m old → HasPlace old pages → Drains old new → IsDrained place job ruled past pages m old new
drained place job ruled past pages m old new h room d = by_task (scans job.task) place job ruled past pages m old new refl h room d

-- ---- the place of a page

-- and there is one behind fewer than sixteen
pub place_few : (endpoint : Endpoint) (pages : List JoinHistory) → length pages < 16 → HasPlace endpoint pages
place_few endpoint pages few = λ _. few

-- a batch has no more than fifteen behind its first
pub few_further : (task : Task) → HasCount task → further_pages (task_of task) ≤ 15
few_further tasks.List h = omega arith
few_further tasks.Show h = omega arith
few_further tasks.SetOnly h = omega arith
few_further tasks.Scan h = omega arith
few_further (tasks.Batch count) h = omega (arith, h.0, h.1)
