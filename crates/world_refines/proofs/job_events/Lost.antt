-- A client that loses a connection.
use Rattle.std.specs.Prelude.{if◌then◌else◌, length, slice_get}
use Rattle.std.proofs.Common.{◌≡◌, ◌⊎◌, inl, inr, ◌∙◌, ℕ, List, [], Option, Some, None, Bool, true, false, refl, sym, ap, subst, map}
use Rattle.scan_job.specs.declared.outcome.Why.TheVariants.{Lost}
use Rattle.sane_fixed.specs.declared.status.Status.TheVariants.{IoError}
use Rattle.sane_fixed.specs.declared.device_info.DeviceInfo.{DeviceInfo}
use Rattle.page_picture.specs.Shows.{Frame}
use Rattle.frame_join.specs.FrameHistory.{JoinHistory}
use Rattle.sane_fixed.specs.declared.status.Status.TheVariants as statuses
use Rattle.scan_job.specs.declared.job.Job.{Job}
use Rattle.scan_job.specs.declared.job.Task.{Task}
use Rattle.scan_job.specs.declared.outcome.Outcome.{Outcome}
use Rattle.scan_job.specs.declared.outcome.Outcome.TheVariants as outcomes
use Rattle.scan_job.specs.declared.outcome.Why.TheVariants as whys
use Rattle.client_replies.specs.declared.progress.JobTarget.{JobTarget}
use Rattle.client_replies.specs.declared.progress.Link.{Link}
use Rattle.client_replies.specs.declared.progress.Link.TheVariants as links
use Rattle.client_replies.specs.declared.progress.Progress.{Progress}
use Rattle.client_replies.specs.declared.progress.Progress.TheVariants as stages
use Rattle.client_replies.specs.ProtocolStates.{HistoryFits, target_of, is_lost_by, is_running}
use Rattle.client_replies.proofs.Fitting.{may_end}
use Rattle.net_client.specs.ClientStates.{ClientRepresents, ClientState, after_client_end, protocol_of}
use Rattle.system_model.specs.Client as model
use Rattle.system_model.specs.Client.{ClientView}
use Rattle.system_model.specs.ClientReplies.{client_after_stop, stage_after_stop}
use Rattle.system_model.specs.Transitions.{IsUnderWay}
use Rattle.system_model.specs.SystemStates.{SessionView, JobState}
use Rattle.client_refines.specs.ClientRefinement.{ClientRefines}
use Rattle.client_refines.proofs.SilentCalls.{lost_alike}
use Rattle.event_world.specs.declared.endpoint.Endpoint.{Endpoint}
use Rattle.event_world.specs.JobEvents.{is_done}
use Rattle.event_world.specs.FileDraining.{HasFiles, KeepsFile}
use Rattle.world_refines.specs.WorldRefinement.{KeepsFiles, EndpointClientRefines, is_laid, client_at_greeting}
use Rattle.world_refines.proofs.state.GhostClients.{run_is, runs_under, stopped_over, stopped_woken, stops_idle, stops_over}

-- a client that ended, or not
abbrev pub ends_if : Bool → ClientState → ClientState
ends_if b c = if b then after_client_end statuses.IoError whys.Lost c else c

lost_runs : (link : Link) (o : Outcome) (p : Progress) → is_lost_by link o p ≡ true → is_running o ≡ true
lost_runs links.Control o p e = e
lost_runs links.Image outcomes.Running p e = refl
lost_runs links.Image (outcomes.Done reports) p e = absurd (let clash : false ≡ true = e in cc)
lost_runs links.Image (outcomes.Ended status why) p e = absurd (let clash : false ≡ true = e in cc)

-- ---- what it keeps

pub if_errand : (b : Bool) (c : ClientState) → (ends_if b c).target ≡ c.target
if_errand true c = refl
if_errand false c = refl

if_word : (b : Bool) (c : ClientState) → (ends_if b c).notes.word ≡ c.notes.word
if_word true c = refl
if_word false c = refl

if_runs : (b : Bool) (c : ClientState) → is_running (ends_if b c).outcome ≡ true → is_running c.outcome ≡ true
if_runs true c e = absurd (let clash : false ≡ true = e in cc)
if_runs false c e = e

pub if_out : (b : Bool) (c : ClientState) → (ends_if b c).out ≡ c.out
if_out true c = refl
if_out false c = refl

pub if_input : (b : Bool) (c : ClientState) → (ends_if b c).input ≡ c.input
if_input true c = refl
if_input false c = refl

if_over : (b : Bool) (c : ClientState) → (is_running c.outcome ≡ false → c.progress ≡ stages.Over) → is_running (ends_if b c).outcome ≡ false → (ends_if b c).progress ≡ stages.Over
if_over true c h e = refl
if_over false c h e = h e

fits_ended : (task : Task) (o : Outcome) (progress : Progress) (past : JoinHistory) → o ≡ outcomes.Running → HistoryFits task o progress past → HistoryFits task (outcomes.Ended statuses.IoError whys.Lost) stages.Over past
fits_ended task o progress past e h = let f : HistoryFits task outcomes.Running progress past = subst (λ (x : Outcome). HistoryFits task x progress past) e h in may_end task progress past f.0 f.1

if_serves : (b : Bool) (c : ClientState) (past : JoinHistory) → (b ≡ true → is_running c.outcome ≡ true) → ClientRepresents past c → ClientRepresents past (ends_if b c)
if_serves true c past runs h = record { stands = h.stands; fits = fits_ended c.target.task c.outcome c.progress past (run_is c.outcome (runs refl)) h.fits }
if_serves false c past runs h = h

laid_if : (b : Bool) (task : Task) (c : ClientState) (past : JoinHistory) → (b ≡ true → is_running c.outcome ≡ true) → is_laid task (ends_if b c).outcome past ≡ is_laid task c.outcome past
laid_if true task c past runs = ap (λ (o : Outcome). is_laid task o past) (sym (run_is c.outcome (runs refl)))
laid_if false task c past runs = refl

done_if : (b : Bool) (c : ClientState) → is_done (ends_if b c).outcome ≡ true → is_done c.outcome ≡ true
done_if true c e = absurd (let clash : false ≡ true = e in cc)
done_if false c e = e

-- ---- how it reads

pub reads_lost : (place : DeviceInfo → ℕ) (target : JobTarget) (job : model.AbstractJob) (pages : List (List Frame)) (c : ClientState) (past : JoinHistory) (m : ClientView) (link : Link) (b : Bool) → c.target ≡ target → is_lost_by link c.outcome c.progress ≡ b → (b ≡ false → IsUnderWay m.stage → ⊥) →
    ClientRefines place target job pages (protocol_of c past) (client_at_greeting m.stage m) → ClientRefines place target job pages (protocol_of (ends_if b c) past) (client_at_greeting (stage_after_stop IoError Lost m.stage) (client_after_stop IoError Lost m))
reads_lost place target job pages c past m link true is e n r =
    let under : IsUnderWay m.stage = runs_under place target job pages (protocol_of c past) m r (lost_runs link c.outcome c.progress e) in
    subst (λ (x : ClientView). ClientRefines place target job pages (protocol_of (ends_if true c) past) x) (stopped_woken IoError Lost m.stage m refl under)
    (subst (λ (x : JobTarget). ClientRefines place x job pages (protocol_of (ends_if true c) past) (client_after_stop IoError Lost (client_at_greeting m.stage m))) is
    (lost_alike place job pages c link past (client_at_greeting m.stage m) e (subst (λ (x : JobTarget). ClientRefines place x job pages (protocol_of c past) (client_at_greeting m.stage m)) (sym is) r)))
reads_lost place target job pages c past m link false is e n r =
    subst (λ (x : ClientView). ClientRefines place target job pages (protocol_of c past) (client_at_greeting x.stage x)) (sym (stopped_over IoError Lost m.stage m refl (n refl))) r

-- ---- its endpoint, of which the client's end, the connections and out of memory are new

pub record IsLost (b : Bool) (old new : Endpoint) : Type 0 where
  pub client : new.client ≡ ends_if b old.client
  pub task : new.task ≡ old.task
  pub file : new.file ≡ old.file
  pub pages : new.pages ≡ old.pages
  pub finished : new.finished ≡ old.finished
  pub out_of_memory : (new.out_of_memory ≡ old.out_of_memory) ⊎ (new.out_of_memory ≡ true)

keeps_starved : (b : Bool) (given : List ℕ) (file : Option (List ℕ)) → KeepsFile b given file → KeepsFile true given file
keeps_starved b given None h = refl
keeps_starved b given (Some file) h = h

pub keeps_lost : (old new : Bool) (given : List ℕ) (file : Option (List ℕ)) → (new ≡ old) ⊎ (new ≡ true) → KeepsFile old given file → KeepsFile new given file
keeps_lost old new given file (inl e) h = subst (λ (b : Bool). KeepsFile b given file) (sym e) h
keeps_lost old new given file (inr e) h = subst (λ (b : Bool). KeepsFile b given file) (sym e) (keeps_starved old given file h)

files_lost : (b : Bool) (given : List ℕ) (pages : List JoinHistory) (old new : Endpoint) → IsLost b old new → HasFiles given pages old → HasFiles given pages new
files_lost b given pages old new l h =
    record {
      file = subst (λ (x : Option (List ℕ)). KeepsFile new.out_of_memory given x) (sym l.file) (keeps_lost old.out_of_memory new.out_of_memory given old.file l.out_of_memory h.file);
      each = λ k q at. let f = h.each k q at in (f.0, ap (λ (x : List (Option (List ℕ))). slice_get x k) l.pages ∙ f.1, keeps_lost old.out_of_memory new.out_of_memory q.given f.0 l.out_of_memory f.2);
      count = l.finished ∙ h.count;
      room = ap length l.pages ∙ h.room;
    }

all_lost : (laid b : Bool) (past : JoinHistory) (pages : List JoinHistory) (old new : Endpoint) → IsLost b old new → KeepsFiles laid past pages old → KeepsFiles laid past pages new
all_lost true b past pages old new l h = files_lost b [] _ old new l h
all_lost false b past pages old new l h = files_lost b past.given pages old new l h

pub exchanges_lost : (place : DeviceInfo → ℕ) (job : Job) (past : JoinHistory) (pages : List JoinHistory) (p : JobState) (session_view : SessionView) (old new : Endpoint) (link : Link) (b : Bool) → is_lost_by link old.client.outcome old.client.progress ≡ b → (b ≡ false → IsUnderWay p.client.stage → ⊥) → session_view.job ≡ p.session.job → IsLost b old new →
    EndpointClientRefines place job past pages p old → (q : JobState) → q.client ≡ client_after_stop IoError Lost p.client → q.session ≡ session_view → EndpointClientRefines place job past pages q new
exchanges_lost place job past pages p session_view old new link b e n same l h q view base_is =
    let shown : List (List Frame) = map (λ (x : JoinHistory). x.ended) pages in
    let runs : b ≡ true → is_running old.client.outcome ≡ true = λ yes. lost_runs link old.client.outcome old.client.progress (e ∙ yes) in
    let stage : q.client.stage ≡ stage_after_stop IoError Lost p.client.stage = ap (λ (m : ClientView). m.stage) view in
    record {
      task = l.task ∙ h.task;
      target = ap (λ (c : ClientState). c.target) l.client ∙ (if_errand b old.client ∙ h.target);
      word = λ e. ap (λ (c : ClientState). c.notes.word) l.client ∙ (if_word b old.client ∙ h.word (if_runs b old.client (sym (ap (λ (c : ClientState). is_running c.outcome) l.client) ∙ e)));
      over = subst (λ (c : ClientState). is_running c.outcome ≡ false → c.progress ≡ stages.Over) (sym l.client) (if_over b old.client h.over);
      serves = subst (λ (c : ClientState). ClientRepresents past c) (sym l.client) (if_serves b old.client past runs h.serves);
      reads =
          subst (λ (c : ClientState). ClientRefines place (target_of job) q.session.job shown (protocol_of c past) (client_at_greeting q.client.stage q.client)) (sym l.client)
          (subst (λ (m : ClientView). ClientRefines place (target_of job) q.session.job shown (protocol_of (ends_if b old.client) past) (client_at_greeting m.stage m)) (sym view)
          (subst (λ (x : model.AbstractJob). ClientRefines place (target_of job) x shown (protocol_of (ends_if b old.client) past) (client_at_greeting (stage_after_stop IoError Lost p.client.stage) (client_after_stop IoError Lost p.client))) (sym (ap (λ (x : SessionView). x.job) base_is ∙ same))
          (reads_lost place (target_of job) p.session.job shown old.client past p.client link b h.target e n h.reads)));
      idle = λ idle. absurd (stops_idle IoError Lost p.client.stage (sym stage ∙ idle));
      begun = λ _. inr (λ u. stops_over IoError Lost p.client.stage (subst IsUnderWay stage u));
      files = subst (λ (x : Bool). KeepsFiles x past pages new) (sym (ap (λ (c : ClientState). is_laid job.task c.outcome past) l.client ∙ laid_if b job.task old.client past runs)) (all_lost (is_laid job.task old.client.outcome past) b past pages old new l h.files);
      finished = h.finished;
      alone = h.alone;
      done = λ e joined. h.done (done_if b old.client (sym (ap (λ (c : ClientState). is_done c.outcome) l.client) ∙ e)) joined;
    }
