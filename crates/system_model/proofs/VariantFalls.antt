-- EACH ACTION OF A RUNNING JOB PAYS ITS PRICE.
use Rattle.std.proofs.Common.{◌≡◌, ◌∙◌, ◌≢◌, ◌≤◌, ◌+◌, ◌*◌, ◌-◌, ℕ, List, [], ◌∷◌, ◌++◌, Bool, true, false, Option, Some, None, refl, sym, subst, ap, inl, inr, length, length-append, ltb, arith}
use Rattle.std.proofs.lemmas.Bool.{ltb-true}
use Rattle.std.proofs.lemmas.List.{append-nil}
use Rattle.scan_job.specs.declared.outcome.Why.{Why}
use Rattle.scan_job.specs.declared.outcome.Why.TheVariants.{Lost, Memory, Cancelled}
use Rattle.sane_fixed.specs.declared.status.Status.{Status}
use Rattle.sane_fixed.specs.declared.status.Status.TheVariants.{Eof, IoError, NoMem}
use Rattle.sane_fixed.specs.declared.status.Status.TheVariants as statuses
use Rattle.page_picture.specs.Shows.{Frame}
use Rattle.sane_fixed.specs.declared.params.Params.{Params}
use Rattle.system_model.specs.AbstractMessages.{Challenge, AbstractRequest, AbstractReply}
use Rattle.system_model.specs.Devices.{Make, frame_overflows, frame_fills}
use Rattle.system_model.specs.Client.{AbstractJob, AbstractTask, further_pages, ClientView, JobStage, Idle, Running, Done, Ended, AbstractProgress, Greeting, Imaging, request_awaited, requests_sent}
use Rattle.system_model.specs.ClientReplies.{hear_in, hear_at, client_after_bytes, reads_on, finish_in, end_frame, close_frame, close_page, after_page, stage_after_stop}
use Rattle.system_model.specs.AbstractDevices.{AbstractDevice, DeviceInvariant, ScanPhase, Resting, Reading, phase_after_frame, read_on, ended_phase, put_down, without_first, without_prefix}
use Rattle.system_model.specs.Daemon.{TransferState, Quiet, Waiting, Streaming, Ending, FailureCounts}
use Rattle.system_model.specs.Causes.{Cause, Names, NamesEof, SourceFailed}
use Rattle.system_model.specs.SystemStates.{SessionView, JobState}
use Rattle.system_model.specs.Actions
use Rattle.system_model.specs.Actions.{Action, environment_of, served_by, session_after_answer, job_after_answer, answer_next, device_after_answer, job_after_action, device_after, with_flight, with_nothing_in_flight}
use Rattle.system_model.specs.Transitions.{IsUnderWay, IsRunning, IsActionEnabled, ReadsFrameOf}
use Rattle.system_model.specs.Sync.{DataUnderWay, Images}
use Rattle.system_model.specs.Invariants.{IsCalm, RequestInFlight, StageInvariant}
use Rattle.system_model.specs.Variant.{exchange_cost, page_cost, frames_cost, pages_variant, flow_variant, image_variant, stage_variant, later_pages, stage_variant_of, running_variant, control_variant_at, control_variant_of, action_cost}
use Rattle.system_model.proofs.RightAnswers.{answers_right}
use Rattle.system_model.proofs.Image.{refused}
use Rattle.system_model.proofs.Turns.{streaming, never_ending, without_as_many}
use Rattle.system_model.proofs.Kept.{heard_pages}
use Rattle.system_model.proofs.Kept
use Rattle.system_model.proofs.Lows.{answers_low}
use Rattle.system_model.proofs.StageVariants.{at_least, runs_two, quiet, image_is}
use Rattle.scan_laws.specs.Joins.{no_frame_left}

-- THE CONNECTION
connects_low : (i : ℕ) (k : Make) (p : JobState) (dev : AbstractDevice) (st : JobStage) → st ≡ Idle → StageInvariant i k p dev st → control_variant_of (Actions.after_connection p) dev + (exchange_cost + 1) ≤ control_variant_at st p dev
connects_low i k p dev Idle e h = let q = quiet (Running Greeting) (Actions.after_connection p) dev refl h.2 in omega arith
connects_low i k p dev (Running g) e h = cc
connects_low i k p dev Done e h = cc
connects_low i k p dev (Ended s w) e h = cc

-- A REQUEST THAT IS ANSWERED
answered_low : (i : ℕ) (k : Make) (listed : List ℕ) (p : JobState) (dev : AbstractDevice) (challenge : Challenge) (fault : Option FailureCounts) (q : AbstractRequest) (g : AbstractProgress) → request_awaited g ≡ q ∷ [] → DeviceInvariant k dev → RequestInFlight i k p dev g →
    control_variant_at (Running g) (job_after_answer p (served_by i k listed p dev challenge fault q)) (served_by i k listed p dev challenge fault q).device + exchange_cost ≤ control_variant_at (Running g) p dev
answered_low i k listed p dev challenge fault q g e y h =
    let v = served_by i k listed p dev challenge fault q in
    let b = session_after_answer p.session v in
    let a = answers_right i k p.session p.client dev (environment_of p.session listed challenge fault) g q y refl refl refl e h.in_sync in
    let w = answers_low i k p.session p.client dev (environment_of p.session listed challenge fault) g q (later_pages p.session.job p.client) y e h.in_sync a.1.0 a.1.1 in
    let left : control_variant_at (Running g) (job_after_answer p v) v.device ≡ exchange_cost + stage_variant_of (hear_at g p.session.job p.client a.1.0).stage b p.client v.device =
    ap (λ (x : Bool). running_variant x (p.due ++ v.told) g b p.client v.device) a.0 ∙ ap (λ (x : List AbstractReply). running_variant true (x ++ v.told) g b p.client v.device) h.due
    ∙ ap (λ (x : List AbstractReply). running_variant true x g b p.client v.device) a.1.1 in
    let right = quiet (Running g) p dev h.served h.due in
    omega arith

next_low : (i : ℕ) (k : Make) (listed : List ℕ) (p : JobState) (dev : AbstractDevice) (challenge : Challenge) (fault : Option FailureCounts) (st : JobStage) (todo : List AbstractRequest) → p.client.stage ≡ st → IsUnderWay st → p.todo ≡ todo → todo ≢ [] → p.served ≡ true → DeviceInvariant k dev → StageInvariant i k p dev st → control_variant_of (answer_next i k listed p dev challenge fault todo) (device_after_answer i k listed p dev challenge fault todo) + exchange_cost ≤ control_variant_at st p dev
next_low i k listed p dev challenge fault st [] e u t n s y h = absurd (n refl)
next_low i k listed p dev challenge fault Idle (q ∷ rest) e u t n s y h = absurd (cc (s, h.0))
next_low i k listed p dev challenge fault (Running g) (q ∷ rest) e u t n s y (inl h) =
    let z : rest ≡ [] = Kept.asked_one g q rest (sym h.todo ∙ t) in
    let a : request_awaited g ≡ q ∷ [] = let x = h.todo in cc in
    subst (λ (x : JobStage). control_variant_at x (job_after_answer p (served_by i k listed p dev challenge fault q)) (served_by i k listed p dev challenge fault q).device + exchange_cost ≤ control_variant_at (Running g) p dev) (sym e)
    (answered_low i k listed p dev challenge fault q g a y h)
next_low i k listed p dev challenge fault (Running g) (q ∷ rest) e u t n s y (inr (inl h)) = absurd (cc (h.todo, t))
next_low i k listed p dev challenge fault (Running g) (q ∷ rest) e u t n s y (inr (inr h)) = absurd (cc (h.todo, t))
next_low i k listed p dev challenge fault Done (q ∷ rest) e u t n s y h = absurd u
next_low i k listed p dev challenge fault (Ended x w) (q ∷ rest) e u t n s y h = absurd u

-- A REPLY THAT IS HEARD
abbrev hearing : JobState → AbstractReply → JobStage → JobState
hearing p r st = record p { client = hear_in st p.session.job p.client r; due = without_first p.due; todo = p.todo ++ requests_sent p.session.job.task (hear_in st p.session.job p.client r).stage }

hears_low : (i : ℕ) (k : Make) (p : JobState) (dev : AbstractDevice) (r : AbstractReply) (rest : List AbstractReply) (st : JobStage) → IsUnderWay st → IsRunning st → p.due ≡ r ∷ rest → StageInvariant i k p dev st → control_variant_of (hearing p r st) dev + exchange_cost ≤ control_variant_at st p dev
hears_low i k p dev r rest Idle u l e h = absurd (cc (l.1))
hears_low i k p dev r rest (Running g) u l e (inl h) = absurd (cc (h.due, e))
hears_low i k p dev r rest (Running g) u l e (inr (inl h)) =
    let b : rest ≡ [] = let d = h.due in cc in
    let m = hear_at g p.session.job p.client r in
    let after = quiet m.stage (hearing p r (Running g)) dev h.served (ap (λ (x : List AbstractReply). without_first x) e ∙ b) in
    let pages : stage_variant_of m.stage p.session m dev ≡ stage_variant_of m.stage p.session p.client dev =
    ap (λ (x : List (List Frame)). stage_variant m.stage (length p.session.job.settings) (further_pages p.session.job.task - length x) dev.phase p.session.transfer p.session.ending) (heard_pages g p.session.job p.client r) in
    let before : control_variant_at (Running g) p dev ≡ exchange_cost + stage_variant_of m.stage p.session p.client dev =
    ap (λ (x : Bool). running_variant x p.due g p.session p.client dev) h.served ∙ ap (λ (x : List AbstractReply). running_variant true x g p.session p.client dev) e in
    omega arith
hears_low i k p dev r rest (Running g) u l e (inr (inr h)) = absurd (cc (h.due, e))
hears_low i k p dev r rest Done u l e h = absurd u
hears_low i k p dev r rest (Ended s w) u l e h = absurd u

-- THE DATA CONNECTION
dial_carried : (i : ℕ) (k : Make) (b : SessionView) (dev : AbstractDevice) (o : _) (more : List Frame) (heard rest : List ℕ) → b.transfer ≡ Waiting → DataUnderWay i k b dev o more heard rest → b.ending ≡ None
dial_carried i k b dev o more heard rest c (inl h) = h.ending
dial_carried i k b dev o more heard rest c (inr (inl h)) = absurd (cc (c, h.transfer))
dial_carried i k b dev o more heard rest c (inr (inr (inl h))) = absurd (cc (c, h.transfer))
dial_carried i k b dev o more heard rest c (inr (inr (inr h))) = absurd (cc (c, h.transfer))

dials_low : (i : ℕ) (k : Make) (p : JobState) (dev : AbstractDevice) (params : Params) (heard : List ℕ) (st : JobStage) → p.client.stage ≡ st → st ≡ Running (Imaging params heard) → p.session.transfer ≡ Waiting → StageInvariant i k p dev st →
    control_variant_of (record p { image = true; session = Actions.with_transfer p.session Streaming }) dev + 1 ≤ control_variant_at st p dev
dials_low i k p dev params heard st x e c h =
    let a = Kept.images i k p dev params heard (subst (λ (z : JobStage). StageInvariant i k p dev z) e h) in
    let n = dial_carried i k p.session dev a.in_sync.continues.begin.options a.in_sync.more heard a.in_sync.rest c a.in_sync.carries in
    let before = image_is params heard p dev None Waiting dev.phase a.served a.due n c refl in
    let after = image_is params heard (record p { image = true; session = Actions.with_transfer p.session Streaming }) dev None Streaming dev.phase a.served a.due n refl refl in
    let low : control_variant_at (Running (Imaging params heard)) (record p { image = true; session = Actions.with_transfer p.session Streaming }) dev + 1 ≤ control_variant_at (Running (Imaging params heard)) p dev = omega arith in
    subst (λ (z : JobStage). control_variant_at z (record p { image = true; session = Actions.with_transfer p.session Streaming }) dev + 1 ≤ control_variant_at st p dev) (sym (x ∙ e))
    (subst (λ (z : JobStage). control_variant_at (Running (Imaging params heard)) (record p { image = true; session = Actions.with_transfer p.session Streaming }) dev + 1 ≤ control_variant_at z p dev) (sym e) low)

-- where a frame streams, its client waits for nothing else
record Streamed (i : ℕ) (k : Make) (p : JobState) (dev : AbstractDevice) (st : JobStage) : Type 0 where
  params : Params
  heard : List ℕ
  is : st ≡ Running (Imaging params heard)
  asks : RequestInFlight i k p dev (Imaging params heard)
  frame : Frame
  rest : List ℕ
  more : List Frame
  ending : p.session.ending ≡ None
  phase : dev.phase ≡ Reading frame rest more

streamed : (i : ℕ) (k : Make) (p : JobState) (dev : AbstractDevice) (st : JobStage) → p.session.transfer ≡ Streaming → IsUnderWay st → StageInvariant i k p dev st → Streamed i k p dev st
streamed i k p dev Idle c u h = let x = h.3.transfer in absurd (cc (c, x))
streamed i k p dev (Running g) c u (inl h) =
    let s = streaming i k p.session p.client dev g c h.in_sync in
    record {
      params = s.params;
      heard = s.heard;
      is = ap Running s.is;
      asks = subst (λ (x : AbstractProgress). RequestInFlight i k p dev x) s.is h;
      frame = s.flows.meant;
      rest = s.images.rest;
      more = s.images.more;
      ending = s.flows.ending;
      phase = s.flows.held.phase_is;
    }
streamed i k p dev (Running g) c u (inr (inl h)) = absurd (subst IsCalm c h.calm)
streamed i k p dev (Running g) c u (inr (inr h)) = let x = h.transfer in absurd (cc (c, x))
streamed i k p dev Done c u h = absurd u
streamed i k p dev (Ended s w) c u h = absurd u

-- so it pays for what the daemon sends, where the flow falls by that
pays : (i : ℕ) (k : Make) (p q : JobState) (dev new : AbstractDevice) (st : JobStage) (e : Option Status) (c : TransferState) (ph : ScanPhase) (n : ℕ) → p.client.stage ≡ st → p.session.transfer ≡ Streaming → (s : Streamed i k p dev st) →
    q.client ≡ p.client → q.session.job ≡ p.session.job → q.served ≡ p.served → q.due ≡ p.due → q.session.ending ≡ e → q.session.transfer ≡ c → new.phase ≡ ph →
    image_variant e c ph (later_pages p.session.job p.client) + n ≤ flow_variant (Reading s.frame s.rest s.more) (later_pages p.session.job p.client) → control_variant_of q new + n ≤ control_variant_at st p dev
pays i k p q dev new st e c ph n x f s qm qj qs qd qe qc qp h =
    let before = image_is s.params s.heard p dev None Streaming (Reading s.frame s.rest s.more) s.asks.served s.asks.due s.ending f s.phase in
    let after = image_is s.params s.heard q new e c ph (qs ∙ s.asks.served) (qd ∙ s.asks.due) qe qc qp in
    let later : later_pages q.session.job q.client ≡ later_pages p.session.job p.client = ap (λ (z : AbstractJob). later_pages z q.client) qj ∙ ap (λ (z : ClientView). later_pages p.session.job z) qm in
    let same = ap (λ (z : ℕ). image_variant e c ph z) later in
    let low : control_variant_at (Running (Imaging s.params s.heard)) q new + n ≤ control_variant_at (Running (Imaging s.params s.heard)) p dev = omega arith in
    subst (λ (z : JobStage). control_variant_at z q new + n ≤ control_variant_at st p dev) (sym (ap (λ (z : ClientView). z.stage) qm ∙ x ∙ s.is))
    (subst (λ (z : JobStage). control_variant_at (Running (Imaging s.params s.heard)) q new + n ≤ control_variant_at z p dev) (sym s.is) low)

behind_low : (last : Frame) (more : List Frame) (t : ℕ) → pages_variant (phase_after_frame last more) t ≤ 2 + (frames_cost more + page_cost * t)
behind_low last [] t = omega arith
behind_low last (f ∷ more) t = omega arith

ended_low : (ph : ScanPhase) (f : Frame) (rest : List ℕ) (more : List Frame) (t : ℕ) → ph ≡ Reading f rest more → image_variant (Some Eof) Quiet (ended_phase ph) t + 6 ≤ flow_variant (Reading f rest more) t
ended_low ph f rest more t e = let a = ap (λ (x : ScanPhase). pages_variant (ended_phase x) t) e in let b = behind_low f more t in omega arith

turn_low : (bytes meant rest : List ℕ) (f : Frame) (more : List Frame) (t : ℕ) → bytes ≢ [] → length bytes ≡ length meant → flow_variant (Reading f rest more) t + (5 + length bytes) ≤ flow_variant (Reading f (meant ++ rest) more) t
turn_low [] meant rest f more t n e = absurd (n refl)
turn_low (b ∷ bytes) [] rest f more t n e = absurd (omega arith)
turn_low (b ∷ bytes) (c ∷ meant) rest f more t n e = let a = length-append meant rest in omega arith

turns_low : (i : ℕ) (k : Make) (p : JobState) (dev : AbstractDevice) (st : JobStage) (f : Frame) (bytes meant rest : List ℕ) (more : List Frame) → p.client.stage ≡ st → IsUnderWay st → length bytes ≡ length meant → ReadsFrameOf i p dev f (meant ++ rest) more → bytes ≢ [] → StageInvariant i k p dev st →
    control_variant_of (record p { session = with_flight p.session (p.session.flight ++ bytes) }) (record dev { phase = read_on dev.phase bytes }) + (5 + length bytes) ≤ control_variant_at st p dev
turns_low i k p dev st f bytes meant rest more x u many l n h =
    let s = streamed i k p dev st l.0 u h in
    let t = later_pages p.session.job p.client in
    let e : Reading s.frame s.rest s.more ≡ Reading f (meant ++ rest) more = sym s.phase ∙ l.2 in
    let same = ap (λ (z : ScanPhase). flow_variant z t) e in
    let low = turn_low bytes meant rest f more t n many in
    let ph : read_on dev.phase bytes ≡ Reading f rest more =
    ap (λ (z : ScanPhase). read_on z bytes) l.2 ∙ ap (λ (z : List ℕ). Reading f z more) (without_as_many bytes meant rest many) in
    pays i k p (record p { session = with_flight p.session (p.session.flight ++ bytes) }) dev (record dev { phase = read_on dev.phase bytes }) st None Streaming (Reading f rest more) (5 + length bytes) x l.0 s
    refl refl refl refl s.ending l.0 ph (omega arith)

-- the end record: the device is behind the frame, or at rest
last_low : (i : ℕ) (k : Make) (p : JobState) (dev : AbstractDevice) (st : JobStage) (causes : List Cause) → p.client.stage ≡ st → IsUnderWay st → p.session.transfer ≡ Streaming → StageInvariant i k p dev st →
    control_variant_of (Actions.turned_last p Eof causes) (record dev { phase = ended_phase dev.phase }) + 6 ≤ control_variant_at st p dev
last_low i k p dev st causes x u c h =
    let s = streamed i k p dev st c u h in
    pays i k p (Actions.turned_last p Eof causes) dev (record dev { phase = ended_phase dev.phase }) st (Some Eof) Quiet (ended_phase dev.phase) 6 x c s refl refl refl refl refl refl refl
    (ended_low dev.phase s.frame s.rest s.more (later_pages p.session.job p.client) s.phase)

fails_low : (i : ℕ) (k : Make) (p : JobState) (dev : AbstractDevice) (st : JobStage) (status : Status) (causes : List Cause) → p.client.stage ≡ st → IsUnderWay st → p.session.transfer ≡ Streaming → StageInvariant i k p dev st →
    control_variant_of (Actions.turned_last p status causes) (put_down dev) + 6 ≤ control_variant_at st p dev
fails_low i k p dev st status causes x u c h =
    let s = streamed i k p dev st c u h in
    pays i k p (Actions.turned_last p status causes) dev (put_down dev) st (Some status) Quiet Resting 6 x c s refl refl refl refl refl refl refl (omega arith)

never_off : (i : ℕ) (k : Make) (p : JobState) (dev : AbstractDevice) (st : JobStage) → p.session.transfer ≡ Ending → IsUnderWay st → StageInvariant i k p dev st → ⊥
never_off i k p dev Idle c u h = let x = h.3.transfer in cc (c, x)
never_off i k p dev (Running g) c u (inl h) = never_ending i k p.session p.client dev g c h.in_sync
never_off i k p dev (Running g) c u (inr (inl h)) = subst IsCalm c h.calm
never_off i k p dev (Running g) c u (inr (inr h)) = let x = h.transfer in cc (c, x)
never_off i k p dev Done c u h = u
never_off i k p dev (Ended s w) c u h = u

-- BYTES AND THE END OF A FRAME
abbrev reading : JobState → List ℕ → List ℕ → JobStage → JobState
reading p bytes left st = record p { client = client_after_bytes st p.client bytes; session = with_flight p.session left }

on_low : (x : Bool) (params : Params) (heard : List ℕ) (n t : ℕ) (ph : ScanPhase) (c : TransferState) (e : Option Status) → stage_variant (reads_on x params heard) n t ph c e ≤ image_variant e c ph t
on_low true params heard n t ph c e = omega arith
on_low false params heard n t ph c e = omega arith

reads_low : (i : ℕ) (k : Make) (p : JobState) (dev : AbstractDevice) (bytes left : List ℕ) (params : Params) (heard : List ℕ) (st : JobStage) → st ≡ Running (Imaging params heard) → StageInvariant i k p dev st →
    control_variant_of (reading p bytes left st) dev + 0 ≤ control_variant_at st p dev
reads_low i k p dev bytes left params heard st e h =
    let a = Kept.images i k p dev params heard (subst (λ (z : JobStage). StageInvariant i k p dev z) e h) in
    let q = reading p bytes left (Running (Imaging params heard)) in
    let after = quiet q.client.stage q dev a.served a.due in
    let before = quiet (Running (Imaging params heard)) p dev a.served a.due in
    let low = on_low (frame_overflows params (heard ++ bytes)) params (heard ++ bytes) (length p.session.job.settings) (later_pages p.session.job p.client) dev.phase p.session.transfer p.session.ending in
    subst (λ (z : JobStage). control_variant_of (reading p bytes left z) dev + 0 ≤ control_variant_at z p dev) (sym e) (omega arith)

-- the number of a stage with these pages, where the end record was taken
abbrev after_end : AbstractTask → ClientView → ℕ → ScanPhase → TransferState → ℕ
after_end task m n ph c = stage_variant m.stage n (further_pages task - length m.pages) ph c None

page_low : (task : AbstractTask) (m : ClientView) (page : List Frame) (x : Bool) (n : ℕ) (c : TransferState) → ltb (length m.pages) (further_pages task) ≡ x →
    stage_variant (after_page x) n (further_pages task - length (m.pages ++ page ∷ [])) Resting c None ≤ page_cost * (further_pages task - length m.pages)
page_low task m page true n c e = let l = ltb-true (length m.pages) (further_pages task) e in let a = length-append m.pages (page ∷ []) in omega arith
page_low task m page false n c e = omega arith

close_low : (task : AbstractTask) (m : ClientView) (f last : Frame) (more : List Frame) (x : Bool) (n : ℕ) (c : TransferState) → x ≡ no_frame_left more → after_end task (close_page x task f m) n (phase_after_frame last more) c ≤ pages_variant (phase_after_frame last more) (further_pages task - length m.pages)
close_low task m f last [] true n c e = page_low task m (m.frames ++ f ∷ []) (ltb (length m.pages) (further_pages task)) n c refl
close_low task m f last [] false n c e = cc
close_low task m f last (g ∷ more) true n c e = cc
close_low task m f last (g ∷ more) false n c e = omega arith

ends_low : (i : ℕ) (k : Make) (b : SessionView) (m : ClientView) (dev : AbstractDevice) (params : Params) (heard : List ℕ) (status : Status) (n : ℕ) (z : TransferState) → b.flight ≡ [] → b.ending ≡ Some status → (h : Images i k b m dev params heard) →
    DataUnderWay i k b dev h.continues.begin.options h.more heard h.rest → after_end b.job.task (end_frame status b.job.task params heard m) n dev.phase z ≤ pages_variant dev.phase (further_pages b.job.task - length m.pages)
ends_low i k b m dev params heard status n z f e h (inl c) = absurd (cc (e, c.ending))
ends_low i k b m dev params heard status n z f e h (inr (inl c)) =
    let s : status ≡ Eof = cc (e, c.ending) in
    let w : heard ≡ h.frame.payload = sym (append-nil heard) ∙ (rw (f, c.nothing) at h.payload) in
    let l : params.last_frame ≡ no_frame_left h.more = ap (λ (x : Params). x.last_frame) h.params_are ∙ h.continues.proper.4 in
    let y : frame_fills params heard ≡ true = rw (h.params_are, w) h.continues.proper.2 in
    subst (λ (x : Status). after_end b.job.task (end_frame x b.job.task params heard m) n dev.phase z ≤ pages_variant dev.phase (further_pages b.job.task - length m.pages)) (sym s)
    (subst (λ (x : Bool). after_end b.job.task (close_frame x b.job.task params heard m) n dev.phase z ≤ pages_variant dev.phase (further_pages b.job.task - length m.pages)) (sym y)
    (subst (λ (x : ScanPhase). after_end b.job.task (close_frame true b.job.task params heard m) n x z ≤ pages_variant x (further_pages b.job.task - length m.pages)) (sym c.held.phase_is)
    (close_low b.job.task m (record { params = params; order = m.order; payload = heard }) c.meant h.more params.last_frame n z l)))
ends_low i k b m dev params heard status n z f e h (inr (inr (inl c))) =
    let s : status ≡ Eof = cc (e, c.ending) in
    let short : frame_fills params heard ≡ false = rw (c.heard_none, h.params_are) h.continues.proper.3 in
    rw (s, short) (omega arith)
ends_low i k b m dev params heard status n z f e h (inr (inr (inr c))) =
    let s : status ≡ c.status = cc (e, c.ending) in
    rw (s, refused c.status b.job.task params heard m c.not_eof c.not_good) (omega arith)

abbrev finishing : JobState → Status → JobStage → JobState
finishing p status st =
    record p { client = finish_in st p.session.job.task p.client status; image = false; session = with_nothing_in_flight p.session; todo = p.todo ++ requests_sent p.session.job.task (finish_in st p.session.job.task p.client status).stage }

finishes_low : (i : ℕ) (k : Make) (p : JobState) (dev : AbstractDevice) (status : Status) (params : Params) (heard : List ℕ) (st : JobStage) → st ≡ Running (Imaging params heard) → p.session.flight ≡ [] → p.session.ending ≡ Some status →
    StageInvariant i k p dev st → control_variant_of (finishing p status st) dev + exchange_cost ≤ control_variant_at st p dev
finishes_low i k p dev status params heard st e f n h =
    let a = Kept.images i k p dev params heard (subst (λ (z : JobStage). StageInvariant i k p dev z) e h) in
    let q = finishing p status (Running (Imaging params heard)) in
    let after = quiet q.client.stage q dev a.served a.due in
    let before = image_is params heard p dev (Some status) p.session.transfer dev.phase a.served a.due n refl refl in
    let low = ends_low i k p.session p.client dev params heard status (length p.session.job.settings) p.session.transfer f n a.in_sync a.in_sync.carries in
    subst (λ (z : JobStage). control_variant_of (finishing p status z) dev + exchange_cost ≤ control_variant_at z p dev) (sym e) (omega arith)

-- ENDINGS
stop_low : (st : JobStage) (p q : JobState) (dev new : AbstractDevice) (status : Status) (why : Why) → IsUnderWay st → q.client.stage ≡ stage_after_stop status why st → control_variant_of q new + 1 ≤ control_variant_at st p dev
stop_low Idle p q dev new status why u e = subst (λ (z : JobStage). control_variant_at z q new + 1 ≤ control_variant_at Idle p dev) (sym e) (let h = at_least Idle p dev tt in omega arith)
stop_low (Running g) p q dev new status why u e = subst (λ (z : JobStage). control_variant_at z q new + 1 ≤ control_variant_at (Running g) p dev) (sym e) (let h = at_least (Running g) p dev tt in omega arith)
stop_low Done p q dev new status why u e = absurd u
stop_low (Ended s w) p q dev new status why u e = absurd u

breaks_low : (i : ℕ) (k : Make) (p q : JobState) (dev new : AbstractDevice) (st : JobStage) → p.client.stage ≡ st → IsUnderWay st → p.served ≡ true → q.client ≡ p.client → q.served ≡ false → StageInvariant i k p dev st → control_variant_of q new + 1 ≤ control_variant_at st p dev
breaks_low i k p q dev new Idle e u s m f h = absurd (cc (s, h.0))
breaks_low i k p q dev new (Running g) e u s m f h =
    let before = ap (λ (x : Bool). running_variant x p.due g p.session p.client dev) s in
    let after = ap (λ (x : Bool). running_variant x q.due g q.session q.client new) f in
    let two = runs_two p.due g p.session p.client dev in
    subst (λ (z : JobStage). control_variant_at z q new + 1 ≤ control_variant_at (Running g) p dev) (sym (ap (λ (x : ClientView). x.stage) m ∙ e)) (omega arith)
breaks_low i k p q dev new Done e u s m f h = absurd u
breaks_low i k p q dev new (Ended x w) e u s m f h = absurd u

-- EACH ACTION
pub paid : (i : ℕ) (k : Make) (listed : List ℕ) (p : JobState) (dev : AbstractDevice) (x : Action) → IsUnderWay p.client.stage → IsActionEnabled i k p dev x → DeviceInvariant k dev → StageInvariant i k p dev p.client.stage →
    control_variant_of (job_after_action i k listed p dev x) (device_after i k listed p dev x) + action_cost x ≤ control_variant_of p dev
paid i k listed p dev Actions.Connects u l y h = connects_low i k p dev p.client.stage l h
paid i k listed p dev (Actions.Answers challenge fault) u l y h = next_low i k listed p dev challenge fault p.client.stage p.todo refl u refl l.1 l.0 y h
paid i k listed p dev (Actions.Hears r) u l y h = hears_low i k p dev r l.1.0 p.client.stage u l.0 l.1.1 h
paid i k listed p dev Actions.Dials u l y h = dials_low i k p dev l.0.0 l.0.1 p.client.stage refl l.0.2 l.1 h
paid i k listed p dev (Actions.Turns bytes) u l y h = turns_low i k p dev p.client.stage l.0 bytes l.3.meant l.1 l.2 refl u l.3.as_many l.3.reads l.5 h
paid i k listed p dev Actions.TurnsLast u l y h = last_low i k p dev p.client.stage [] refl u l.2.0 h
paid i k listed p dev (Actions.TurnsNamed status) u l y h = fails_low i k p dev p.client.stage status (Names status ∷ []) refl u l.3.0 h
paid i k listed p dev Actions.TurnsShort u l y h = last_low i k p dev p.client.stage (NamesEof ∷ []) refl u l.3.0 h
paid i k listed p dev (Actions.TurnsFault fault) u l y h = fails_low i k p dev p.client.stage IoError (SourceFailed ∷ []) refl u l.3.0 h
paid i k listed p dev Actions.TurnsOff u l y h = absurd (never_off i k p dev p.client.stage l u h)
paid i k listed p dev (Actions.Reads bytes) u l y h = reads_low i k p dev bytes (without_prefix bytes p.session.flight) l.0.0 l.0.1 p.client.stage l.0.2 h
paid i k listed p dev (Actions.Finishes status) u l y h = finishes_low i k p dev status l.0.0 l.0.1 p.client.stage l.0.2 l.1 l.2 h
paid i k listed p dev (Actions.Loses memory) u l y h = stop_low p.client.stage p (job_after_action i k listed p dev (Actions.Loses memory)) dev (device_after i k listed p dev (Actions.Loses memory)) IoError Lost u refl
paid i k listed p dev (Actions.LosesImage memory) u l y h = stop_low p.client.stage p (job_after_action i k listed p dev (Actions.LosesImage memory)) dev (device_after i k listed p dev (Actions.LosesImage memory)) IoError Lost u refl
paid i k listed p dev (Actions.Breaks memory) u l y h = breaks_low i k p (job_after_action i k listed p dev (Actions.Breaks memory)) dev (device_after i k listed p dev (Actions.Breaks memory)) p.client.stage refl u l.0 refl refl h
paid i k listed p dev Actions.RunsOutOfMemory u l y h = stop_low p.client.stage p (job_after_action i k listed p dev Actions.RunsOutOfMemory) dev (device_after i k listed p dev Actions.RunsOutOfMemory) NoMem Memory u refl
paid i k listed p dev Actions.Stops u l y h = stop_low p.client.stage p (job_after_action i k listed p dev Actions.Stops) dev (device_after i k listed p dev Actions.Stops) statuses.Cancelled Cancelled u refl
