-- The files of jobs stand behind each event, and each event that happens takes one from the moves of its job.
use Rattle.std.proofs.Common.{◌≡◌, ◌∙◌, ℕ, zero, suc, ◌+◌, ◌-◌, ◌<◌, ◌≤◌, ◌⊎◌, Bool, true, false, Option, Some, None, List, [], ◌∷◌, length, slice_get, slice_set, if◌then◌else◌, get_or, refl, sym, ap, subst, arith, inl, inr}
use Rattle.std.proofs.lemmas.List.Elements.{All-get_or}
use Rattle.std.proofs.lemmas.Option.{get_or_from_slice_get, slice_get_within}
use Rattle.page_picture.specs.Source.{SourceState}
use Rattle.page_sources.specs.declared.kinds.Source.{Source}
use Rattle.frame_join.specs.FrameHistory.{JoinHistory, IsJoined, empty_history}
use Rattle.sane_fixed.specs.declared.status.Status.{Status}
use Rattle.sane_fixed.specs.declared.status.Status.TheVariants as statuses
use Rattle.scan_job.specs.declared.job.Job.{Job}
use Rattle.scan_job.specs.declared.job.Task.{Task}
use Rattle.scan_job.specs.declared.job.Task.TheVariants as tasks
use Rattle.scan_job.specs.declared.outcome.Outcome.{Outcome}
use Rattle.scan_job.specs.declared.outcome.Outcome.TheVariants.{Running, Done, Ended}
use Rattle.scan_job.specs.declared.outcome.Why.{Why}
use Rattle.scan_job.specs.declared.outcome.Why.TheVariants as whys
use Rattle.scan_job.specs.JobSize.{HasCount}
use Rattle.client_replies.specs.declared.progress.JobTarget.{JobTarget}
use Rattle.client_replies.specs.declared.progress.Link.{Link}
use Rattle.client_replies.specs.declared.progress.Link.TheVariants as links
use Rattle.client_replies.specs.declared.progress.Progress.{Progress}
use Rattle.client_replies.specs.declared.progress.Progress.TheVariants as stages
use Rattle.client_replies.specs.ProtocolStates.{HistoryFits, progress_connected, is_batch, is_lost_by, is_receiving, is_running, is_turning}
use Rattle.client_replies.proofs.Fitting.{may_end}
use Rattle.net_client.specs.ClientStates.{ClientState, ClientRepresents, after_client_end}
use Rattle.net_client.specs.FramePieces.{Receives}
use Rattle.net_client.proofs.Hearings.{fits_at}
use Rattle.saned_core.specs.declared.session_slot.SessionId.{SessionId}
use Rattle.saned_core.specs.declared.session_slot.Fed.{Fed}
use Rattle.saned_core.specs.declared.session_slot.Fed.TheVariants as feds
use Rattle.saned_core.specs.declared.session_slot.DataStep.{DataStep}
use Rattle.saned_core.specs.declared.session_slot.DataStep.TheVariants as steps
use Rattle.saned_core.specs.DaemonStates.{Core, is_closed}
use Rattle.event_world.specs.declared.event.Event.{Event}
use Rattle.event_world.specs.declared.event.Event.TheVariants as events
use Rattle.event_world.specs.declared.event.JobEvent.{JobEvent}
use Rattle.event_world.specs.declared.event.JobEvent.TheVariants.{Connect, ToDaemon, ToClient, DataConnect, DataTurn, DataToClient, LoseControl, LoseImage, Cancel}
use Rattle.event_world.specs.declared.endpoint.Image.{Image}
use Rattle.event_world.specs.declared.endpoint.Endpoint.{Endpoint}
use Rattle.event_world.specs.Endpoints.{IsCancelled, IsNew, image_out_of_memory, with_image_link, with_link, with_data_opened, shut_out, after_move, without_image_link, without_link, after_link_loss}
use Rattle.event_world.specs.JobEvents.{Can, Connects, Does, Happens, HeedsPiece, TakesDataPiece, TakesPieceOfData, SendsRecord, SendsStep, after_fed, is_done, with_data_record, IfLinked, without_sent, still_open}
use Rattle.event_world.specs.FileDraining.{Drains, HasFiles, KeepsFile}
use Rattle.event_world.specs.FileInvariant.{AllLaid, AllFilesRepresent, FilesRepresent, HasNumber, IsAmong, FileIsUnderWay, Underway}
use Rattle.event_world.specs.Worlds.{AreNew, AtEndpoint, IsFitJob, Leads, MayRun, Runs, WorldCore}
use Rattle.event_world.proofs.PageNumbers.{IsLast, number_at}
use Rattle.event_world.proofs.FileInvariant.{IsDrained, IsTold, drained, finished_stands, place_for}
use Rattle.event_world.proofs.Represented.{IsSeen, heeded, received}
use Rattle.event_world.proofs.Deciding.{can_or_not}

-- ---- a client that goes on without being told anything

pub record GoesOn (old new : ClientState) : Type 0 where
  pub target : new.target ≡ old.target
  pub serves : (past : JoinHistory) → ClientRepresents past old → ClientRepresents past new
  pub number : (task : Task) (pages : ℕ) → HasNumber task old.outcome old.progress old.notes.file pages → HasNumber task new.outcome new.progress new.notes.file pages
  pub done : is_done new.outcome ≡ true → is_done old.outcome ≡ true
  pub stays : is_done old.outcome ≡ true → is_done new.outcome ≡ true

-- the endpoint with another client and connections
abbrev with_client : Endpoint → ClientState → Bool → Option SessionId → Bool → Option Image → Bool → ℕ → Endpoint
with_client p c progress_connected link over image starved budget =
    record p { client = c; was_connected = progress_connected; link = link; is_over = over; image = image; out_of_memory = starved; budget = budget }

starved_keeps : (a b : Bool) (given : List ℕ) (file : Option (List ℕ)) → (a ≡ true → b ≡ true) → KeepsFile a given file → KeepsFile b given file
starved_keeps a b given None more k = more k
starved_keeps a b given (Some f) more k = k

files_then : (p : Endpoint) (c : ClientState) (w : Bool) (l : Option SessionId) (o : Bool) (i : Option Image) (s : Bool) (b : ℕ) (given : List ℕ) (pages : List JoinHistory) → (p.out_of_memory ≡ true → s ≡ true) → HasFiles given pages p → HasFiles given pages (with_client p c w l o i s b)
files_then p c w l o i s b given pages more h = record {
  file = starved_keeps p.out_of_memory s given p.file more h.file;
  each = λ k q at. let f = h.each k q at in (f.0, f.1, starved_keeps p.out_of_memory s q.given f.0 more f.2);
  count = h.count;
  room = h.room;
}

goes_with : (p : Endpoint) (c : ClientState) (w : Bool) (l : Option SessionId) (o : Bool) (i : Option Image) (s : Bool) (b : ℕ) → (p.out_of_memory ≡ true → s ≡ true) → GoesOn p.client c → FilesRepresent p → FilesRepresent (with_client p c w l o i s b)
goes_with p c w l o i s b more g (Underway past pages u) =
    Underway past pages (record {
      holds = record {
        task = u.holds.task ∙ sym (ap (λ (e : JobTarget). e.task) g.target);
        serves = g.serves past u.holds.serves;
        files = files_then p c w l o i s b past.given pages more u.holds.files;
      };
      number = g.number p.task (length pages) u.number;
      pages_are = u.pages_are;
      done = λ d. u.done (g.done d);
    })
goes_with p c w l o i s b more g (AllLaid pages a) =
    AllLaid pages (record { done = g.stays a.done; all = a.all; files = files_then p c w l o i s b [] pages more a.files; pages_are = a.pages_are })

same_client : (c : ClientState) → GoesOn c c
same_client c = record { target = refl; serves = λ past s. s; number = λ task pages n. n; done = λ d. d; stays = λ d. d }

less_out : (c : ClientState) (out : List ℕ) → GoesOn c (record c { out = out })
less_out c out = record {
  target = refl;
  serves = λ past s. record { stands = s.stands; fits = s.fits };
  number = λ task pages n. n;
  done = λ d. d;
  stays = λ d. d;
}

-- a job that runs ends
ends_serving : (status : Status) (why : Why) (c : ClientState) → is_running c.outcome ≡ true → (past : JoinHistory) → ClientRepresents past c → ClientRepresents past (after_client_end status why c)
ends_serving status why c running past s =
    let at = fits_at past c running s in
    record { stands = s.stands; fits = may_end c.target.task c.progress past at.0 at.1 }

not_done_yet : (o : Outcome) → is_running o ≡ true → is_done o ≡ true → ⊥
not_done_yet Running r d = let clash : false ≡ true = d in cc
not_done_yet (Done reports) r d = let clash : false ≡ true = r in cc
not_done_yet (Ended status why) r d = let clash : false ≡ true = r in cc

ends_on : (status : Status) (why : Why) (c : ClientState) → is_running c.outcome ≡ true → GoesOn c (after_client_end status why c)
ends_on status why c running = record {
  target = refl;
  serves = ends_serving status why c running;
  number = λ task pages n. tt;
  done = λ d. absurd (let clash : false ≡ true = d in cc);
  stays = λ d. absurd (not_done_yet c.outcome running d);
}

lost_runs : (link : Link) (o : Outcome) (progress : Progress) → is_lost_by link o progress ≡ true → is_running o ≡ true
lost_runs links.Control o progress e = e
lost_runs links.Image Running progress e = refl
lost_runs links.Image (Done reports) progress e = absurd (let clash : false ≡ true = e in cc)
lost_runs links.Image (Ended status why) progress e = absurd (let clash : false ≡ true = e in cc)

lost_by : (b : Bool) (c : ClientState) → (b ≡ true → is_running c.outcome ≡ true) → GoesOn c (if b then after_client_end statuses.IoError whys.Lost c else c)
lost_by true c running = ends_on statuses.IoError whys.Lost c (running refl)
lost_by false c running = same_client c

loses : (link : Link) (c : ClientState) → GoesOn c (after_link_loss link c)
loses link c = lost_by (is_lost_by link c.outcome c.progress) c (lost_runs link c.outcome c.progress)

open_fits : (task : Task) (o : Outcome) (progress : Progress) (past : JoinHistory) → HistoryFits task o progress past → HistoryFits task o (progress_connected progress) past
open_fits task Running (stages.Imaging port false) past f = f
open_fits task Running (stages.Imaging port true) past f = f
open_fits task Running progress past f = f
open_fits task (Done reports) progress past f = f
open_fits task (Ended status why) progress past f = f

open_turns : (progress : Progress) → is_turning (progress_connected progress) ≡ is_turning progress
open_turns (stages.Imaging port false) = refl
open_turns (stages.Imaging port true) = refl
open_turns progress = refl

open_number : (task : Task) (o : Outcome) (progress : Progress) (file pages : ℕ) → HasNumber task o progress file pages → HasNumber task o (progress_connected progress) file pages
open_number task Running progress file pages n = (n.0, n.1, λ on. n.2 (sym (open_turns progress) ∙ on))
open_number task (Done reports) progress file pages n = tt
open_number task (Ended status why) progress file pages n = tt

opens : (c : ClientState) → GoesOn c (with_data_opened c)
opens c = record {
  target = refl;
  serves = λ past s. record { stands = s.stands; fits = open_fits c.target.task c.outcome c.progress past s.fits };
  number = λ task pages n. open_number task c.outcome c.progress c.notes.file pages n;
  done = λ d. d;
  stays = λ d. d;
}

-- ---- events in which the client is told nothing

stands_shut_out : (p : Endpoint) → FilesRepresent p → FilesRepresent (shut_out (after_move p))
stands_shut_out p f = goes_with p (after_link_loss links.Control p.client) true None p.is_over None true (p.budget - 1) (λ e. refl) (loses links.Control p.client) f

stands_linked : (p : Endpoint) (id : SessionId) → FilesRepresent p → FilesRepresent (with_link id (after_move p))
stands_linked p id f = goes_with p p.client true (Some id) p.is_over p.image p.out_of_memory (p.budget - 1) (λ e. e) (same_client p.client) f

stands_connected : (port : ℕ) (b : Bool) (d : Core) (p : Endpoint) (e : Core) (q : Endpoint) → Connects port b d p e q → FilesRepresent p → FilesRepresent q
stands_connected port true d p e q c f = subst FilesRepresent (sym c.1) (stands_shut_out p f)
stands_connected port false d p e q c f = subst FilesRepresent (sym c.3) (stands_linked p c.0 f)

stands_fed : (fed : Fed) (p : Endpoint) (n : ℕ) → FilesRepresent p → FilesRepresent (after_fed fed (without_sent n p))
stands_fed feds.Standing p n f = goes_with p (without_sent n p).client p.was_connected p.link p.is_over p.image p.out_of_memory (p.budget - 1) (λ e. e) (less_out p.client (without_sent n p).client.out) f
stands_fed feds.Over p n f = goes_with p (without_sent n p).client p.was_connected p.link true p.image p.out_of_memory (p.budget - 1) (λ e. e) (less_out p.client (without_sent n p).client.out) f
stands_fed feds.Starved p n f = goes_with p (without_sent n p).client p.was_connected p.link true p.image true (p.budget - 1) (λ e. refl) (less_out p.client (without_sent n p).client.out) f

stands_dialled : (p : Endpoint) → FilesRepresent p → FilesRepresent (with_image_link (after_move p))
stands_dialled p f = goes_with p (with_data_opened p.client) p.was_connected p.link p.is_over (with_image_link (after_move p)).image p.out_of_memory (p.budget - 1) (λ e. e) (opens p.client) f

stands_spent : (p : Endpoint) → FilesRepresent p → FilesRepresent (after_move p)
stands_spent p f = goes_with p p.client p.was_connected p.link p.is_over p.image p.out_of_memory (p.budget - 1) (λ e. e) (same_client p.client) f

stands_with : (p : Endpoint) (image : Option Image) → FilesRepresent p → FilesRepresent (record p { image = image })
stands_with p image f = goes_with p p.client p.was_connected p.link p.is_over image p.out_of_memory p.budget (λ e. e) (same_client p.client) f

stands_cut_off : (p : Endpoint) → FilesRepresent p → FilesRepresent (image_out_of_memory (after_move p))
stands_cut_off p f = goes_with p (after_link_loss links.Image p.client) p.was_connected p.link p.is_over None true (p.budget - 1) (λ e. refl) (loses links.Image p.client) f

stands_sent : (k : ℕ) (bytes : List ℕ) (last : Bool) (d : Core) (p : Endpoint) (e : Core) (q : Endpoint) → SendsRecord k bytes last d p e q → FilesRepresent p → FilesRepresent q
stands_sent k bytes last d p e q (inl s) f = subst FilesRepresent (sym s.3) (stands_with (after_move p) (Some (with_data_record bytes last s.0)) (stands_spent p f))
stands_sent k bytes last d p e q (inr s) f = subst FilesRepresent (sym s.1) (stands_cut_off p f)

stands_step : (k : ℕ) (step : DataStep) (buf : List ℕ) (d : Core) (p : Endpoint) (e : Core) (q : Endpoint) → SendsStep k step buf d p e q → FilesRepresent p → FilesRepresent q
stands_step k steps.Idle buf d p e q s f = subst FilesRepresent (sym s.1) (stands_spent p f)
stands_step k (steps.Bytes n) buf d p e q s f = stands_sent k _ false d p e q s f
stands_step k (steps.Last n) buf d p e q s f = stands_sent k _ true d p e q s f

stands_unlinked : (p : Endpoint) → FilesRepresent p → FilesRepresent (without_link (after_move p))
stands_unlinked p f = goes_with p (after_link_loss links.Control p.client) p.was_connected None p.is_over None p.out_of_memory (p.budget - 1) (λ e. e) (loses links.Control p.client) f

stands_unimaged : (p : Endpoint) → FilesRepresent p → FilesRepresent (without_image_link (after_move p))
stands_unimaged p f = goes_with p (after_link_loss links.Image p.client) p.was_connected p.link p.is_over None p.out_of_memory (p.budget - 1) (λ e. e) (loses links.Image p.client) f

cancels : (p q : Endpoint) (c : IsCancelled p q) → is_running p.client.outcome ≡ true → GoesOn p.client (record (after_client_end statuses.Cancelled whys.Cancelled p.client) { out = c.out })
cancels p q c running = record {
  target = refl;
  serves = λ past s. let e = ends_serving statuses.Cancelled whys.Cancelled p.client running past s in record { stands = e.stands; fits = e.fits };
  number = λ task pages n. tt;
  done = λ d. absurd (let clash : false ≡ true = d in cc);
  stays = λ d. absurd (not_done_yet p.client.outcome running d);
}

stands_cancelled : (p q : Endpoint) → is_running p.client.outcome ≡ true → IsCancelled (after_move p) q → FilesRepresent p → FilesRepresent q
stands_cancelled p q running c f =
    subst FilesRepresent (sym c.rest) (goes_with p (record (after_client_end statuses.Cancelled whys.Cancelled p.client) { out = c.out }) p.was_connected p.link p.is_over p.image p.out_of_memory (p.budget - 1) (λ e. e) (cancels (after_move p) q c running) f)

-- ---- a piece that the client hears or sees

stands_heard_by : (b : Bool) (piece : List ℕ) (p q : Endpoint) → is_running p.client.outcome ≡ b → HeedsPiece piece p q → FilesRepresent p → FilesRepresent q
stands_heard_by false piece p q e h f = subst FilesRepresent (sym (h.over e)) f
stands_heard_by true piece p q e h (AllLaid pages a) = absurd (not_done_yet p.client.outcome e a.done)
stands_heard_by true piece p q e h (Underway past pages u) =
    let t = heeded p.client past piece h.mid e (h.heeds e past u.holds.serves) in
    let d = drained past pages p q h.mid u t (h.drains e) in
    Underway d.history d.laid d.under

stands_heard : (piece : List ℕ) (p q : Endpoint) → HeedsPiece piece p q → FilesRepresent p → FilesRepresent q
stands_heard piece p q h f = stands_heard_by (is_running p.client.outcome) piece p q refl h f

untold : (c d : ClientState) (past : JoinHistory) → ClientRepresents past c → d ≡ c → IsTold c past d
untold c d past s e = record {
  now = past;
  given = refl;
  serves = subst (λ (v : ClientState). ClientRepresents past v) (sym e) s;
  target = ap (λ (v : ClientState). v.target) e;
  number = λ pages n. subst (λ (v : ClientState). HasNumber c.target.task v.outcome v.progress v.notes.file pages) (sym e) n;
}

-- what a piece of records tells, where they are read, and else
seen_by : (b : Bool) (piece : List ℕ) (c d : ClientState) (past : JoinHistory) → is_running c.outcome ≡ true → is_receiving c.outcome c.progress ≡ b → (is_receiving c.outcome c.progress ≡ false → d ≡ c)
    → (is_receiving c.outcome c.progress ≡ true → (q : JoinHistory) → ClientRepresents q c → Receives c q piece d) → ClientRepresents past c → IsSeen c past d
seen_by true piece c d past running e idle reads s = received c past piece d e (reads e past s)
seen_by false piece c d past running e idle reads s =
    let same = idle e in
    record { told = untold c d past s same; done = λ done. absurd (not_done_yet d.outcome (ap (λ (v : ClientState). is_running v.outcome) same ∙ running) done) }

last_batch : (task : Task) (file pages : ℕ) → is_batch task ≡ true → file ≡ pages + 1 → IsAmong task file → IsLast task file → task ≡ tasks.Batch (pages + 1)
last_batch (tasks.Batch count) file pages batch e among last = ap (λ (n : ℕ). tasks.Batch n) (omega (arith, e, among.0, last))
last_batch tasks.List file pages batch e among last = absurd (let clash : false ≡ true = batch in cc)
last_batch tasks.Show file pages batch e among last = absurd (let clash : false ≡ true = batch in cc)
last_batch tasks.SetOnly file pages batch e among last = absurd (let clash : false ≡ true = batch in cc)
last_batch tasks.Scan file pages batch e among last = absurd (let clash : false ≡ true = batch in cc)

-- what is done behind it is a batch's last page
last_page_of : (p a : Endpoint) (mid : ClientState) (pages : List JoinHistory) (past : JoinHistory) → is_running p.client.outcome ≡ true → FileIsUnderWay past pages p → (s : IsSeen p.client past mid) → IsDrained s.told.now pages mid.outcome a → Drains (record p { client = mid }) a
    → is_done a.client.outcome ≡ true → is_batch a.task ≡ true → IsJoined s.told.now × (length pages < 16) × (a.task ≡ tasks.Batch (length pages + 1))
last_page_of p a mid pages past running u s d drains done batch =
    let at = number_at p.task p.client.outcome p.client.progress p.client.notes.file (length pages) running u.number in
    let l = s.done (d.before done) in
    let task : a.task ≡ p.task = ap (λ (x : Endpoint). x.task) drains.rest in
    let last : IsLast p.task p.client.notes.file = subst (λ (x : Task). IsLast x p.client.notes.file) (sym u.holds.task) l.1 in
    (l.0, place_for p.task p.client.notes.file (length pages) at.0 at.1, task ∙ last_batch p.task p.client.notes.file (length pages) (sym (ap is_batch task) ∙ batch) at.0 at.1 last)

stands_seen_by : (b : Bool) (piece : List ℕ) (p q : Endpoint) → is_running p.client.outcome ≡ b → TakesDataPiece piece p q → FilesRepresent p → FilesRepresent q
stands_seen_by false piece p q e h f = subst FilesRepresent (sym (h.over e)) f
stands_seen_by true piece p q e h (AllLaid pages a) = absurd (not_done_yet p.client.outcome e a.done)
stands_seen_by true piece p q e h (Underway past pages u) =
    let s = seen_by (is_receiving p.client.outcome p.client.progress) piece p.client h.mid past e refl h.idle h.receives u.holds.serves in
    let d = drained past pages p h.after h.mid u s.told (h.drains e) in
    subst FilesRepresent (sym (h.finishes e)) (finished_stands s.told.now pages h.mid.outcome h.after d (λ done batch. last_page_of p h.after h.mid pages past e u s d (h.drains e) done batch))

stands_seen : (piece : List ℕ) (p q : Endpoint) → TakesDataPiece piece p q → FilesRepresent p → FilesRepresent q
stands_seen piece p q h f = stands_seen_by (is_running p.client.outcome) piece p q refl h f

stands_piece : (n : ℕ) (p q : Endpoint) → TakesPieceOfData n p q → FilesRepresent p → FilesRepresent q
stands_piece n p q s f =
    let seen = stands_seen _ _ s.2.0 s.2.1 (stands_with (after_move p) _ (stands_spent p f)) in
    subst FilesRepresent (sym s.2.2) (stands_with s.2.0 (still_open s.2.0.image) seen)

-- ---- any event

pub linked_by : (link : Option SessionId) (Is : ℕ → Type 0) (Q : Type 0) → IfLinked link Is → ((k : ℕ) → Is k → Q) → Q
linked_by None Is Q at of = elim at [ ]
linked_by (Some id) Is Q at of = of id.number at

stands_done : (d : Core) (p : Endpoint) (job_event : JobEvent) (e : Core) (q : Endpoint) → Can d p job_event → Does d p job_event e q → FilesRepresent p → FilesRepresent q
stands_done d p Connect e q can does f = stands_connected does.0 (is_closed d) d p e q does.1 f
stands_done d p (ToDaemon n) e q can does f = linked_by p.link _ (FilesRepresent q) does (λ k fed. subst FilesRepresent (sym fed.2) (stands_fed fed.0 p n f))
stands_done d p (ToClient n) e q can does f = linked_by p.link _ (FilesRepresent q) does (λ k told. stands_heard _ (after_move p) q told.1 (stands_spent p f))
stands_done d p DataConnect e q can does f = linked_by p.link _ (FilesRepresent q) does (λ k made. subst FilesRepresent (sym made.1) (stands_dialled p f))
stands_done d p DataTurn e q can does f = linked_by p.link _ (FilesRepresent q) does (λ k turn. stands_step k turn.step turn.buf turn.mid p e q turn.sends f)
stands_done d p (DataToClient n) e q can does f = stands_piece n p q does.1 f
stands_done d p LoseControl e q can does f = linked_by p.link _ (FilesRepresent q) does (λ k lost. subst FilesRepresent (sym lost.1) (stands_unlinked p f))
stands_done d p LoseImage e q can does f = linked_by p.link _ (FilesRepresent q) does (λ k lost. subst FilesRepresent (sym lost.1) (stands_unimaged p f))
stands_done d p Cancel e q can does f = stands_cancelled p q can does.1 f

stands_happened : (d : Core) (p : Endpoint) (job_event : JobEvent) (e : Core) (q : Endpoint) → Happens d p job_event e q → FilesRepresent p → FilesRepresent q
stands_happened d p job_event e q h f = elim (can_or_not d p job_event) [
  | inl can ↦ stands_done d p job_event e q can (h.does can) f
  | inr never ↦ subst FilesRepresent (sym (h.cannot never).1) f
]

-- ---- and of all jobs

stands_set : (endpoints : List Endpoint) (i : ℕ) (q : Endpoint) → AllFilesRepresent endpoints → FilesRepresent q → AllFilesRepresent (slice_set endpoints i q)
stands_set endpoints i q all f = λ k p at. by_place endpoints i q k p all f at
  where
    by_place : (endpoints : List Endpoint) (i : ℕ) (q : Endpoint) (k : ℕ) (p : Endpoint) → AllFilesRepresent endpoints → FilesRepresent q → slice_get (slice_set endpoints i q) k ≡ Some p → FilesRepresent p
    by_place [] i q k p all f at = absurd (let clash : None ≡ Some p = at in cc)
    by_place (x ∷ endpoints) zero q zero p all f at = subst FilesRepresent (let same : Some q ≡ Some p = at in cc) f
    by_place (x ∷ endpoints) zero q (suc k) p all f at = all (suc k) p at
    by_place (x ∷ endpoints) (suc i) q zero p all f at = all zero p at
    by_place (x ∷ endpoints) (suc i) q (suc k) p all f at = by_place endpoints i q k p (λ j r there. all (suc j) r there) f at

-- the endpoint of a place, or that there is none
pub post_or_none : (endpoints : List Endpoint) (i : ℕ) → ((p : Endpoint) × (slice_get endpoints i ≡ Some p)) ⊎ (length endpoints ≤ i)
post_or_none [] i = inr (omega arith)
post_or_none (p ∷ endpoints) zero = inl (p, refl)
post_or_none (p ∷ endpoints) (suc i) = elim (post_or_none endpoints i) [
  | inl at ↦ inl (at.0, at.1)
  | inr beyond ↦ inr (omega (arith, beyond))
]

stands_at : (w : WorldCore) (i : ℕ) (job_event : JobEvent) (v : WorldCore) → AtEndpoint w i job_event v → AllFilesRepresent w.endpoints → AllFilesRepresent v.endpoints
stands_at w i job_event v a all = elim (post_or_none w.endpoints i) [
  | inl there ↦
      let h = a.happens there.0 there.1 in
      subst AllFilesRepresent (sym h.2) (stands_set w.endpoints i h.0 all (stands_happened w.daemon there.0 job_event v.daemon h.0 h.1 (all i there.0 there.1)))
  | inr beyond ↦ subst (λ (x : WorldCore). AllFilesRepresent x.endpoints) (sym (a.beyond beyond)) all
]

stands_led : (source : Source → SourceState) (event : Event) (w v : WorldCore) → Leads source event w v → AllFilesRepresent w.endpoints → AllFilesRepresent v.endpoints
stands_led source (events.Connect i) w v l all = stands_at w i Connect v l all
stands_led source (events.ToDaemon i n) w v l all = stands_at w i (ToDaemon n) v l all
stands_led source (events.ToClient i n) w v l all = stands_at w i (ToClient n) v l all
stands_led source (events.DataConnect i) w v l all = stands_at w i DataConnect v l all
stands_led source (events.DataTurn i) w v l all = stands_at w i DataTurn v l all
stands_led source (events.DataToClient i n) w v l all = stands_at w i (DataToClient n) v l all
stands_led source (events.LoseControl i) w v l all = stands_at w i LoseControl v l all
stands_led source (events.LoseImage i) w v l all = stands_at w i LoseImage v l all
stands_led source (events.Cancel i) w v l all = stands_at w i Cancel v l all
stands_led source (events.Load name page) w v l all = subst (λ (x : WorldCore). AllFilesRepresent x.endpoints) (sym l) all
stands_led source (events.Unplug name) w v l all = subst (λ (x : WorldCore). AllFilesRepresent x.endpoints) (sym l) all

pub stands_run : (source : Source → SourceState) (es : List Event) (w v : WorldCore) → Runs source es w v → AllFilesRepresent w.endpoints → AllFilesRepresent v.endpoints
stands_run source [] w v r all = subst (λ (x : WorldCore). AllFilesRepresent x.endpoints) (sym r) all
stands_run source (e ∷ es) w v r all = stands_run source es r.0 v r.2 (stands_led source e w r.0 r.1 all)

-- ---- a new endpoint

first_among : (task : Task) → HasCount task → IsAmong task 1
first_among tasks.List h = refl
first_among tasks.Show h = refl
first_among tasks.SetOnly h = refl
first_among tasks.Scan h = refl
first_among (tasks.Batch count) h = (h.0, h.1)

new_post : (job : Job) (p : Endpoint) → IsNew job p → HasCount job.task → FilesRepresent p
new_post job p n has =
    subst FilesRepresent (sym n.rest)
    (Underway empty_history [] (record {
      holds = record {
        task = sym (ap (λ (c : ClientState). c.target.task) n.client.value);
        serves = n.client.serves;
        files = record { file = refl; each = λ k q at. absurd (let clash : None ≡ Some q = at in cc); count = refl; room = refl };
      };
      number = subst (λ (c : ClientState). HasNumber job.task c.outcome c.progress c.notes.file 0) (sym n.client.value) (refl, first_among job.task has, λ on. absurd (let clash : false ≡ true = on in cc));
      pages_are = λ k q at. absurd (let clash : None ≡ Some q = at in cc);
      done = λ d. absurd (let clash : false ≡ true = sym (ap (λ (c : ClientState). is_done c.outcome) n.client.value) ∙ d in cc);
    }))

pub new_posts : (jobs : List Job) (endpoints : List Endpoint) (k : ℕ) (p : Endpoint) → ((j : ℕ) (job : Job) → slice_get jobs j ≡ Some job → HasCount job.task) → AreNew jobs endpoints → slice_get endpoints k ≡ Some p → FilesRepresent p
new_posts [] [] k p fit new at = absurd (let clash : None ≡ Some p = at in cc)
new_posts [] (q ∷ endpoints) k p fit new at = elim new [ ]
new_posts (job ∷ jobs) [] k p fit new at = elim new [ ]
new_posts (job ∷ jobs) (q ∷ endpoints) zero p fit new at = subst FilesRepresent (let same : Some q ≡ Some p = at in cc) (new_post job q new.0 (fit zero job refl))
new_posts (job ∷ jobs) (q ∷ endpoints) (suc k) p fit new at = new_posts jobs endpoints k p (λ j x there. fit (suc j) x there) new.1 at

fit_at : (jobs : List Job) → MayRun jobs → (k : ℕ) (job : Job) → slice_get jobs k ≡ Some job → HasCount job.task
fit_at jobs may k job at =
    let fit : IsFitJob (get_or jobs k job) = All-get_or IsFitJob jobs k job (slice_get_within jobs k job at) may.1 in
    subst (λ (j : Job). HasCount j.task) (get_or_from_slice_get jobs k job job at) fit.1

pub stands_new : (jobs : List Job) (endpoints : List Endpoint) → MayRun jobs → AreNew jobs endpoints → AllFilesRepresent endpoints
stands_new jobs endpoints may new = λ k p at. new_posts jobs endpoints k p (fit_at jobs may) new at
