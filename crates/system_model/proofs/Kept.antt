-- WHAT AN ACTION KEEPS OF THE JOB THAT IT COMES TO: messages.
use Rattle.std.proofs.Common.{◌≡◌, ◌∙◌, ◌≢◌, ℕ, List, [], ◌∷◌, ◌++◌, Bool, true, false, Option, Some, None, refl, sym, subst, ap, inl, inr, append_assoc, ◌⊎◌}
use Rattle.scan_job.specs.declared.outcome.Why.{Why}
use Rattle.scan_job.specs.declared.outcome.Why.TheVariants.{Lost}
use Rattle.sane_fixed.specs.declared.status.Status.{Status}
use Rattle.sane_fixed.specs.declared.status.Status.TheVariants.{NoDocs, IoError}
use Rattle.page_picture.specs.Shows.{Frame}
use Rattle.sane_fixed.specs.declared.params.Params.{Params}
use Rattle.system_model.specs.AbstractMessages.{Challenge, AbstractRequest, AbstractReply, Refused}
use Rattle.system_model.specs.Devices.{Make, frame_overflows}
use Rattle.system_model.specs.Client.{AbstractJob, ClientView, JobStage, Idle, Running, Done, Ended, AbstractProgress, Greeting, Listing, Opening, Allowing, Describing, Putting, Getting, Starting, Shaping, Imaging, AbstractTask, List_, Show, SetOnly, Scan, Batch, request_awaited, requests_sent}
use Rattle.system_model.specs.ClientReplies.{hear_in, hear_at, client_after_bytes, finish_in, start_refused, reads_on, stage_after_stop}
use Rattle.system_model.specs.AbstractDevices.{DeviceInvariant, AbstractDevice, Begin, without_first}
use Rattle.system_model.specs.Daemon.{TransferState, Quiet, Waiting, Streaming, FailureCounts, AnswerEffect}
use Rattle.system_model.specs.Causes.{Cause, TrayRanOut, Explains, LinkOutOfMemory, WasUnsaid, IsCauseAmong}
use Rattle.system_model.specs.SystemStates.{SessionView, JobState}
use Rattle.system_model.specs.Actions.{first_noted, after_connection, environment_of, served_by, session_after_answer, job_after_answer, loss_cause, with_nothing_in_flight, with_flight, with_transfer, break_causes, without_session}
use Rattle.system_model.specs.Transitions.{IsRunning, MayBreak}
use Rattle.system_model.specs.Sync.{IsPermitted, AllInForce, DataUnderWay}
use Rattle.system_model.specs.Invariants.{IsRight, IsRightlyDone, IsCalm, RequestInFlight, StageInvariant, PagesAreOfStarts}
use Rattle.system_model.proofs.Calm.{calm_answer, calm_sync}
use Rattle.system_model.proofs.RightAnswers.{answers_right}
use Rattle.system_model.proofs.Image.{reads_right, ends_right}
use Rattle.system_model.proofs.Turns.{caused_more, done_more, met_more}

right_exchanges : (i : ℕ) (k : Make) (p : JobState) (dev : AbstractDevice) (st : JobStage) → p.linked ≡ true → p.served ≡ true → p.todo ≡ requests_sent p.session.job.task st → p.due ≡ [] → IsRight i k p.session p.client dev st → StageInvariant i k p dev st
right_exchanges i k p dev Idle l s t d h = absurd h
right_exchanges i k p dev (Running g) l s t d h = inl (record { linked = l; served = s; todo = t; due = d; in_sync = h })
right_exchanges i k p dev Done l s t d h = h
right_exchanges i k p dev (Ended status why) l s t d h = h

-- THE CONNECTION
pub kept_connected : (i : ℕ) (k : Make) (p : JobState) (dev : AbstractDevice) (st : JobStage) → st ≡ Idle → StageInvariant i k p dev st → StageInvariant i k (after_connection p) dev (Running Greeting)
kept_connected i k p dev Idle e h =
    inl (record {
      linked = refl;
      served = refl;
      todo = refl;
      due = h.2;
      in_sync = record {
        free = h.3.free;
        transfer = h.3.transfer;
        flight = h.3.flight;
        ending = h.3.ending;
        awaits = h.3.awaits;
        sent = h.3.sent;
        started = h.3.started;
        shown = h.3.shown;
        reports = h.3.reports;
        values = h.3.values;
        frames = h.3.frames;
        pages = h.3.pages;
      };
    })
kept_connected i k p dev (Running g) e h = cc
kept_connected i k p dev Done e h = cc
kept_connected i k p dev (Ended s w) e h = cc

-- A REQUEST THAT IS ANSWERED
pub asked_one : (g : AbstractProgress) (q : AbstractRequest) (rest : List AbstractRequest) → request_awaited g ≡ q ∷ rest → rest ≡ []
asked_one Greeting q rest e = cc
asked_one Listing q rest e = cc
asked_one Opening q rest e = cc
asked_one (Allowing c) q rest e = cc
asked_one (Describing left) q rest e = cc
asked_one (Putting n value requested left) q rest e = cc
asked_one (Getting n left) q rest e = cc
asked_one Starting q rest e = cc
asked_one Shaping q rest e = cc
asked_one (Imaging params heard) q rest e = cc

noted_stays : {X : Type 0} (new old : Option X) (x : X) → old ≡ Some x → first_noted new old ≡ Some x
noted_stays None old x e = e
noted_stays (Some y) None x e = cc
noted_stays (Some y) (Some z) x e = e

still_permitted : (job : AbstractJob) (new sent : Option Challenge) → IsPermitted job sent → IsPermitted job (first_noted new sent)
still_permitted job new sent (inl e) = inl e
still_permitted job new sent (inr h) = inr (h.0, noted_stays new sent h.0 h.1, h.2)

still_settled : (k : Make) (b : SessionView) (m : ClientView) (v : AnswerEffect) (o : _) → AllInForce k b.job b.sent m.reports o → AllInForce k b.job (first_noted v.awaited b.sent) m.reports o
still_settled k b m v o h = record { forced = h.forced; permitted = still_permitted b.job v.awaited b.sent h.permitted }

done_grounded : (k : Make) (b : SessionView) (m : ClientView) (v : AnswerEffect) (task : AbstractTask) → IsRightlyDone k b m task → IsRightlyDone k (session_after_answer b v) m task
done_grounded k b m v List_ h = noted_stays v.shown b.shown m.devices h
done_grounded k b m v Show h = record { options = h.options; settled = still_settled k b m v h.options h.settled; known = h.known; values = h.values }
done_grounded k b m v SetOnly h = (h.0, still_settled k b m v h.0 h.1)
done_grounded k b m v Scan h = ((h.0.0, still_settled k b m v h.0.0 h.0.1), h.1)
done_grounded k b m v (Batch n) (a, inl h) = ((a.0, still_settled k b m v a.0 a.1), inl h)
done_grounded k b m v (Batch n) (a, inr h) = ((a.0, still_settled k b m v a.0 a.1), inr (h.0, h.1, met_more TrayRanOut v.causes b.met h.2))

pub kept_answered : (i : ℕ) (k : Make) (listed : List ℕ) (p : JobState) (dev : AbstractDevice) (challenge : Challenge) (fault : Option FailureCounts) (q : AbstractRequest) (rest : List AbstractRequest) (st : JobStage) →
    p.served ≡ true → p.todo ≡ q ∷ rest → DeviceInvariant k dev → StageInvariant i k p dev st →
    StageInvariant i k (job_after_answer p (served_by i k listed p dev challenge fault q)) (served_by i k listed p dev challenge fault q).device st
kept_answered i k listed p dev challenge fault q rest Idle s t z h = absurd (cc (s, h.0))
kept_answered i k listed p dev challenge fault q rest (Running g) s t y (inl h) =
    let n : rest ≡ [] = asked_one g q rest (sym h.todo ∙ t) in
    let e : request_awaited g ≡ q ∷ [] = let a = h.todo in cc in
    let a = answers_right i k p.session p.client dev (environment_of p.session listed challenge fault) g q y refl refl refl e h.in_sync in
    inr (inl (record {
      linked = h.linked;
      served = a.0;
      todo = rw t n;
      reply = a.1.0;
      due = rw (h.due, a.1.1) refl;
      waits = λ z. cc (z, e);
      calm = calm_answer i k dev p.session.transfer p.session.awaited (environment_of p.session listed challenge fault) q (calm_sync i k p.session p.client dev g q e h.in_sync);
      right = a.1.2;
    }))
kept_answered i k listed p dev challenge fault q rest (Running g) s t y (inr (inl h)) = absurd (cc (h.todo, t))
kept_answered i k listed p dev challenge fault q rest (Running g) s t y (inr (inr h)) = absurd (cc (h.todo, t))
kept_answered i k listed p dev challenge fault q rest Done s t z h = done_grounded k p.session p.client (served_by i k listed p dev challenge fault q) p.session.job.task h
kept_answered i k listed p dev challenge fault q rest (Ended status why) s t z h = caused_more k p.session (served_by i k listed p dev challenge fault q).causes status why h

-- a start adds to the starts
pub answered_pages : (k : Make) (b : SessionView) (m : ClientView) (v : AnswerEffect) → PagesAreOfStarts k b m → PagesAreOfStarts k (session_after_answer b v) m
answered_pages k b m v h =
    record { begins = h.begins; later = h.later ++ v.begun; started = ap (λ (bs : List Begin). bs ++ v.begun) h.started ∙ append_assoc h.begins h.later v.begun; pictures = h.pictures }

-- A REPLY THAT IS HEARD
pub kept_heard : (i : ℕ) (k : Make) (p : JobState) (dev : AbstractDevice) (r : AbstractReply) (rest : List AbstractReply) (st : JobStage) → IsRunning st → p.due ≡ r ∷ rest → StageInvariant i k p dev st →
    StageInvariant i k (record p { client = hear_in st p.session.job p.client r; due = without_first p.due; todo = p.todo ++ requests_sent p.session.job.task (hear_in st p.session.job p.client r).stage }) dev (hear_in st p.session.job p.client r).stage
kept_heard i k p dev r rest Idle l e h = absurd (cc (l.1))
kept_heard i k p dev r rest (Running g) l e (inl h) = absurd (cc (h.due, e))
kept_heard i k p dev r rest (Running g) l e (inr (inl h)) =
    let a : r ≡ h.reply = let d = h.due in cc in
    let b : rest ≡ [] = let d = h.due in cc in
    right_exchanges i k (record p { client = hear_at g p.session.job p.client r; due = without_first p.due; todo = p.todo ++ requests_sent p.session.job.task (hear_at g p.session.job p.client r).stage }) dev
    (hear_at g p.session.job p.client r).stage h.linked h.served (rw h.todo refl) (rw e b) (subst (λ (x : AbstractReply). IsRight i k p.session (hear_at g p.session.job p.client x) dev (hear_at g p.session.job p.client x).stage) (sym a) h.right)
kept_heard i k p dev r rest (Running g) l e (inr (inr h)) = absurd (cc (h.due, e))
kept_heard i k p dev r rest Done l e h = absurd (cc (l.1))
kept_heard i k p dev r rest (Ended s w) l e h = absurd (cc (l.1))

refused_pages : (status : Status) (fs : List Frame) (ps : List (List Frame)) (m : ClientView) → (start_refused status fs ps m).pages ≡ m.pages
refused_pages NoDocs [] (p ∷ ps) m = refl
refused_pages status fs ps m = refl

pub heard_pages : (g : AbstractProgress) (job : AbstractJob) (m : ClientView) (r : AbstractReply) → (hear_at g job m r).pages ≡ m.pages
heard_pages Starting job m (Refused status) = refused_pages status m.frames m.pages m
heard_pages g job m (Refused status) = refl
heard_pages Greeting job m r = refl
heard_pages Listing job m r = refl
heard_pages Opening job m r = refl
heard_pages (Allowing c) job m r = refl
heard_pages (Describing left) job m r = refl
heard_pages (Putting n v w left) job m r = refl
heard_pages (Getting n left) job m r = refl
heard_pages Starting job m r = refl
heard_pages Shaping job m r = refl
heard_pages (Imaging params heard) job m r = refl

pub hear_pages : (st : JobStage) (job : AbstractJob) (m : ClientView) (r : AbstractReply) → (hear_in st job m r).pages ≡ m.pages
hear_pages Idle job m r = refl
hear_pages (Running g) job m r = heard_pages g job m r
hear_pages Done job m r = refl
hear_pages (Ended s w) job m r = refl

-- THE DATA CONNECTION
-- an action of the daemon that a data connection sees
pub lift : (i : ℕ) (k : Make) (p : JobState) (dev new : AbstractDevice) (c : TransferState) (flight : List ℕ) (ending : Option Status) (met : List Cause) (st : JobStage) → p.session.transfer ≢ Quiet → (IsCalm p.session.transfer → IsCalm c) →
    ((m : ClientView) (t : JobStage) → IsRight i k p.session m dev t → IsRight i k (record p.session { transfer = c; flight = flight; ending = ending; met = met }) m new t) →
    StageInvariant i k p dev st → StageInvariant i k (record p { session = record p.session { transfer = c; flight = flight; ending = ending; met = met } }) new st
lift i k p dev new c flight ending met Idle n q f h = absurd (n h.3.transfer)
lift i k p dev new c flight ending met (Running g) n q f (inl h) = inl (record { linked = h.linked; served = h.served; todo = h.todo; due = h.due; in_sync = f p.client (Running g) h.in_sync })
lift i k p dev new c flight ending met (Running g) n q f (inr (inl h)) =
    inr (inl (record {
      linked = h.linked;
      served = h.served;
      todo = h.todo;
      reply = h.reply;
      due = h.due;
      waits = h.waits;
      calm = q h.calm;
      right = f (hear_at g p.session.job p.client h.reply) (hear_at g p.session.job p.client h.reply).stage h.right;
    }))
lift i k p dev new c flight ending met (Running g) n q f (inr (inr h)) = absurd (n h.transfer)
lift i k p dev new c flight ending met Done n q f h = f p.client Done h
lift i k p dev new c flight ending met (Ended s w) n q f h = f p.client (Ended s w) h

-- a client that images waits for no reply
pub images : (i : ℕ) (k : Make) (p : JobState) (dev : AbstractDevice) (params : Params) (heard : List ℕ) → StageInvariant i k p dev (Running (Imaging params heard)) → RequestInFlight i k p dev (Imaging params heard)
images i k p dev params heard (inl h) = h
images i k p dev params heard (inr (inl h)) = absurd (h.waits refl)
images i k p dev params heard (inr (inr h)) = absurd (h.waits refl)

dial_carries : (i : ℕ) (k : Make) (b : SessionView) (dev : AbstractDevice) (o : _) (more : List Frame) (heard rest : List ℕ) → b.transfer ≡ Waiting →
    DataUnderWay i k b dev o more heard rest → DataUnderWay i k (with_transfer b Streaming) dev o more heard rest
dial_carries i k b dev o more heard rest c (inl h) = inl (record { meant = h.meant; held = h.held; ending = h.ending; transfer = inr refl; unread = h.unread })
dial_carries i k b dev o more heard rest c (inr (inl h)) = absurd (cc (c, h.transfer))
dial_carries i k b dev o more heard rest c (inr (inr (inl h))) = absurd (cc (c, h.transfer))
dial_carries i k b dev o more heard rest c (inr (inr (inr h))) = absurd (cc (c, h.transfer))

pub kept_dialled : (i : ℕ) (k : Make) (p : JobState) (dev : AbstractDevice) (params : Params) (heard : List ℕ) (st : JobStage) → st ≡ Running (Imaging params heard) → p.session.transfer ≡ Waiting →
    StageInvariant i k p dev st → StageInvariant i k (record p { image = true; session = with_transfer p.session Streaming }) dev st
kept_dialled i k p dev params heard st e c h =
    let a = images i k p dev params heard (subst (λ (x : JobStage). StageInvariant i k p dev x) e h) in
    subst (λ (x : JobStage). StageInvariant i k (record p { image = true; session = with_transfer p.session Streaming }) dev x) (sym e)
    (inl (record {
      linked = a.linked;
      served = a.served;
      todo = a.todo;
      due = a.due;
      in_sync = record {
        frame = a.in_sync.frame;
        more = a.in_sync.more;
        continues = a.in_sync.continues;
        params_are = a.in_sync.params_are;
        order = a.in_sync.order;
        awaited = a.in_sync.awaited;
        rest = a.in_sync.rest;
        payload = a.in_sync.payload;
        carries = dial_carries i k p.session dev a.in_sync.continues.begin.options a.in_sync.more heard a.in_sync.rest c a.in_sync.carries;
      };
    }))

reads_sends : (task : AbstractTask) (x : Bool) (params : Params) (heard : List ℕ) → [] ≡ requests_sent task (reads_on x params heard)
reads_sends task true params heard = refl
reads_sends task false params heard = refl

pub kept_read : (i : ℕ) (k : Make) (p : JobState) (dev : AbstractDevice) (bytes left : List ℕ) (params : Params) (heard : List ℕ) (st : JobStage) → st ≡ Running (Imaging params heard) → p.session.flight ≡ bytes ++ left →
    StageInvariant i k p dev st → StageInvariant i k (record p { client = client_after_bytes st p.client bytes; session = with_flight p.session left }) dev (client_after_bytes st p.client bytes).stage
kept_read i k p dev bytes left params heard st e f h =
    let a = images i k p dev params heard (subst (λ (x : JobStage). StageInvariant i k p dev x) e h) in
    subst (λ (x : JobStage). StageInvariant i k (record p { client = client_after_bytes x p.client bytes; session = with_flight p.session left }) dev (client_after_bytes x p.client bytes).stage) (sym e)
    (right_exchanges i k (record p { client = client_after_bytes (Running (Imaging params heard)) p.client bytes; session = with_flight p.session left }) dev (client_after_bytes (Running (Imaging params heard)) p.client bytes).stage
    a.linked a.served (a.todo ∙ reads_sends p.session.job.task (frame_overflows params (heard ++ bytes)) params (heard ++ bytes)) a.due
    (reads_right i k p.session p.client dev params heard bytes left f a.in_sync))

pub read_pages : (st : JobStage) (m : ClientView) (bytes : List ℕ) → (client_after_bytes st m bytes).pages ≡ m.pages
read_pages Idle m bytes = refl
read_pages (Running (Imaging params heard)) m bytes = refl
read_pages (Running g) m bytes = refl
read_pages Done m bytes = refl
read_pages (Ended s w) m bytes = refl

-- the end of a frame, where also pages may become whole
abbrev pub IsKept : ℕ → Make → JobState → AbstractDevice → Type 0
IsKept i k p dev = StageInvariant i k p dev p.client.stage × PagesAreOfStarts k p.session p.client

pub kept_finished : (i : ℕ) (k : Make) (p : JobState) (dev : AbstractDevice) (status : Status) (params : Params) (heard : List ℕ) (st : JobStage) → st ≡ Running (Imaging params heard) →
    p.session.flight ≡ [] → p.session.ending ≡ Some status → PagesAreOfStarts k p.session p.client → StageInvariant i k p dev st →
    IsKept i k (record p { client = finish_in st p.session.job.task p.client status; image = false; session = with_nothing_in_flight p.session; todo = p.todo ++ requests_sent p.session.job.task (finish_in st p.session.job.task p.client status).stage }) dev
kept_finished i k p dev status params heard st e f n q h =
    let a = images i k p dev params heard (subst (λ (x : JobStage). StageInvariant i k p dev x) e h) in
    let r = ends_right i k p.session p.client dev params heard status f n q a.in_sync in
    subst (λ (x : JobStage). IsKept i k (record p { client = finish_in x p.session.job.task p.client status; image = false; session = with_nothing_in_flight p.session; todo = p.todo ++ requests_sent p.session.job.task (finish_in x p.session.job.task p.client status).stage }) dev) (sym e) (
      right_exchanges i k (record p {
        client = finish_in (Running (Imaging params heard)) p.session.job.task p.client status;
        image = false;
        session = with_nothing_in_flight p.session;
        todo = p.todo ++ requests_sent p.session.job.task (finish_in (Running (Imaging params heard)) p.session.job.task p.client status).stage;
      })
          dev (finish_in (Running (Imaging params heard)) p.session.job.task p.client status).stage a.linked a.served (rw a.todo refl) a.due r.0,
      r.1,
    )

-- A JOB THAT ENDS BY A CAUSE
pub explains_loss : (memory : Bool) → Explains (loss_cause memory) IoError Lost
explains_loss true = (refl, refl)
explains_loss false = (refl, refl)

done_stage : (k : Make) (b : SessionView) (m : ClientView) (task : AbstractTask) (st : JobStage) → IsRightlyDone k b m task → IsRightlyDone k b (record m { stage = st }) task
done_stage k b m List_ st h = h
done_stage k b m Show st h = record { options = h.options; settled = h.settled; known = h.known; values = h.values }
done_stage k b m SetOnly st h = h
done_stage k b m Scan st h = h
done_stage k b m (Batch n) st h = h

pub kept_stopped : (i : ℕ) (k : Make) (p : JobState) (dev new : AbstractDevice) (st : JobStage) (status : Status) (why : Why) (cause : Cause) (c : TransferState) (flight : List ℕ) (ending : Option Status) (todo : List AbstractRequest) (due : List AbstractReply) (linked image served : Bool) →
    Explains cause status why → StageInvariant i k p dev st →
    StageInvariant i k (record {
      client = record p.client { stage = stage_after_stop status why st };
      todo = todo;
      due = due;
      linked = linked;
      image = image;
      served = served;
      session = record p.session { transfer = c; flight = flight; ending = ending; met = cause ∷ p.session.met };
    }) new (stage_after_stop status why st)
kept_stopped i k p dev new Idle status why cause c flight ending todo due linked image served e h = inl (inl e)
kept_stopped i k p dev new (Running g) status why cause c flight ending todo due linked image served e h = inl (inl e)
kept_stopped i k p dev new Done status why cause c flight ending todo due linked image served e h =
    done_stage k (record p.session { transfer = c; flight = flight; ending = ending; met = cause ∷ p.session.met }) p.client p.session.job.task Done (done_more k p.session p.client c flight ending (cause ∷ []) p.session.job.task h)
kept_stopped i k p dev new (Ended s w) status why cause c flight ending todo due linked image served e h = caused_more k p.session (cause ∷ []) s w h

still_linked : (i : ℕ) (k : Make) (p : JobState) (dev : AbstractDevice) (g : AbstractProgress) → StageInvariant i k p dev (Running g) → p.linked ≡ true
still_linked i k p dev g (inl h) = h.linked
still_linked i k p dev g (inr (inl h)) = h.linked
still_linked i k p dev g (inr (inr h)) = h.linked

break_cause : (memory : Bool) (met : List Cause) → IsCauseAmong LinkOutOfMemory (break_causes memory ++ met) ⊎ IsCauseAmong WasUnsaid (break_causes memory ++ met)
break_cause true met = inl (inl refl)
break_cause false met = inr (inl refl)

pub kept_broken : (i : ℕ) (k : Make) (p : JobState) (dev new : AbstractDevice) (st : JobStage) → (memory : Bool) → p.served ≡ true → MayBreak st → StageInvariant i k p dev st →
    StageInvariant i k (record p { todo = []; due = []; served = false; session = without_session memory p.session }) new st
kept_broken i k p dev new Idle memory s m h = absurd (cc (s, h.0))
kept_broken i k p dev new (Running g) memory s m h = inr (inr (record { cause = break_cause memory p.session.met; linked = still_linked i k p dev g h; served = refl; transfer = refl; todo = refl; due = refl; waits = m g refl }))
kept_broken i k p dev new Done memory s m h = done_more k p.session p.client Quiet p.session.flight p.session.ending (break_causes memory) p.session.job.task h
kept_broken i k p dev new (Ended status why) memory s m h = caused_more k p.session (break_causes memory) status why h
