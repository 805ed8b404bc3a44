-- WHATEVER STEP COMES, WHAT STANDS IS SOUND.
use Rattle.std.proofs.Common.{◌≡◌, ◌∙◌, ◌≢◌, ℕ, List, [], ◌∷◌, ◌++◌, true, false, Option, Some, None, refl, sym, ap, Bool, subst}
use Rattle.scan_job.specs.declared.outcome.Why.TheVariants.{Lost, Cancelled, Memory}
use Rattle.sane_fixed.specs.declared.status.Status.TheVariants.{Good, Eof, IoError, NoMem}
use Rattle.sane_fixed.specs.declared.status.Status.TheVariants as statuses
use Rattle.system_model.specs.AbstractMessages.{Challenge, AbstractRequest}
use Rattle.device_api.specs.Kinds.{Model, Page, laid_in, is_feeder}
use Rattle.device_api.specs.State.{pages_with}
use Rattle.device_api.proofs.KindLaws.{laid_is, laid_stocked}
use Rattle.system_model.specs.Devices.{Make, IsPageShaped}
use Rattle.system_model.specs.Client.{abstract_farewell, with_progress, Greeting}
use Rattle.system_model.specs.ClientReplies.{hear_in, client_after_bytes, client_after_stop}
use Rattle.system_model.specs.AbstractDevices.{AbstractDevice, DeviceInvariant, AreShaped, put_down, device_let_go, without_prefix, read_on, ended_phase}
use Rattle.system_model.specs.Daemon.{TransferState, Quiet, Waiting, Streaming, Ending, FailureCounts}
use Rattle.system_model.specs.Causes.{SourceFailed, NamesEof, Names, ClientOutOfMemory, GaveUp}
use Rattle.system_model.specs.SystemStates.{JobState, SystemState, listed_devices, make_for, device_for, wanted_place}
use Rattle.system_model.specs.Actions
use Rattle.system_model.specs.Actions.{Action, job_after_action, device_after, answer_next, device_after_answer, served_by, job_after_answer, loss_cause, image_off}
use Rattle.system_model.specs.Transitions.{Transition, By, Loads, Unplugs, Uses, IsActionEnabled, IsEnabled, IsHistory, after_transition, after_all, with_page_laid_in, without_listing}
use Rattle.system_model.specs.Invariants.{IsCalm, StageInvariant, PagesAreOfStarts, Invariant}
use Rattle.system_model.proofs.OtherJobs.{sound_change, sound_device}
use Rattle.system_model.proofs.Image.{same_pages}
use Rattle.system_model.proofs.Turns.{without_append, turned_right, last_right, short_right, fails_right, off_right}
use Rattle.system_model.proofs.Kept.{IsKept, kept_connected, kept_answered, answered_pages, kept_heard, hear_pages, lift, kept_dialled, kept_read, read_pages, kept_finished, explains_loss, kept_stopped, kept_broken}
use Rattle.system_model.proofs.Treats.{treats, same_treated, fit_treated}
use Rattle.system_model.proofs.Using.{used_same}

not_quiet : (c d : TransferState) → c ≡ d → d ≢ Quiet → c ≢ Quiet
not_quiet c d e n x = n (cc (x, e))

streaming_is : Streaming ≢ Quiet
streaming_is = λ e. cc

no_stream : (c : TransferState) → c ≡ Streaming → IsCalm c → ⊥
no_stream Quiet e h = cc
no_stream Waiting e h = cc
no_stream Streaming e h = h
no_stream Ending e h = cc

ending_is : Ending ≢ Quiet
ending_is = λ e. cc

io_eof : IoError ≢ Eof
io_eof = λ e. cc

io_good : IoError ≢ Good
io_good = λ e. cc

kept_next : (i : ℕ) (k : Make) (listed_devices : List ℕ) (p : JobState) (dev : AbstractDevice) (challenge : Challenge) (fault : Option FailureCounts) (todo : List AbstractRequest) → p.served ≡ true → p.todo ≡ todo → todo ≢ [] → DeviceInvariant k dev → StageInvariant i k p dev p.client.stage → PagesAreOfStarts k p.session p.client →
    StageInvariant i k (answer_next i k listed_devices p dev challenge fault todo) (device_after_answer i k listed_devices p dev challenge fault todo) (answer_next i k listed_devices p dev challenge fault todo).client.stage
    × PagesAreOfStarts k (answer_next i k listed_devices p dev challenge fault todo).session (answer_next i k listed_devices p dev challenge fault todo).client
kept_next i k listed_devices p dev challenge fault [] s e n z t f = absurd (n refl)
kept_next i k listed_devices p dev challenge fault (q ∷ rest) s e n z t f =
    (kept_answered i k listed_devices p dev challenge fault q rest p.client.stage s e z t, answered_pages k p.session p.client (served_by i k listed_devices p dev challenge fault q) f)

-- each action, for the job that it comes to
pub kept : (i : ℕ) (k : Make) (listed_devices : List ℕ) (p : JobState) (dev : AbstractDevice) (x : Action) → IsActionEnabled i k p dev x → DeviceInvariant k dev → StageInvariant i k p dev p.client.stage → PagesAreOfStarts k p.session p.client →
    IsKept i k (job_after_action i k listed_devices p dev x) (device_after i k listed_devices p dev x)
kept i k listed_devices p dev Actions.Connects l z t f = (kept_connected i k p dev p.client.stage l t, same_pages k p.session p.session p.client (with_progress Greeting p.client) refl refl refl f)
kept i k listed_devices p dev (Actions.Answers challenge fault) l z t f = kept_next i k listed_devices p dev challenge fault p.todo l.0 refl l.1 z t f
kept i k listed_devices p dev (Actions.Hears r) l z t f =
    (kept_heard i k p dev r l.1.0 p.client.stage l.0 l.1.1 t, same_pages k p.session p.session p.client (hear_in p.client.stage p.session.job p.client r) refl refl (hear_pages p.client.stage p.session.job p.client r) f)
kept i k listed_devices p dev Actions.Dials l z t f = (kept_dialled i k p dev l.0.0 l.0.1 p.client.stage l.0.2 l.1 t, same_pages k p.session (Actions.with_transfer p.session Streaming) p.client p.client refl refl refl f)
kept i k listed_devices p dev (Actions.Turns bytes) l z t f = (
  lift i k p dev (record dev { phase = read_on dev.phase bytes }) p.session.transfer (p.session.flight ++ bytes) p.session.ending p.session.met p.client.stage (not_quiet _ Streaming l.3.reads.0 streaming_is) (λ z. absurd (no_stream _ l.3.reads.0 z))
      (λ m st. turned_right i k p.session m dev l.0 bytes l.3.meant l.1 l.2 st l.3.as_many l.3.same l.3.reads.0 l.3.reads.2 l.4) t,
  same_pages k p.session (Actions.with_flight p.session (p.session.flight ++ bytes)) p.client p.client refl refl refl f,
)
kept i k listed_devices p dev Actions.TurnsLast l z t f = (
  lift i k p dev (record dev { phase = ended_phase dev.phase }) Quiet p.session.flight (Some Eof) p.session.met p.client.stage (not_quiet _ Streaming l.2.0 streaming_is) (λ z. tt)
      (λ m st. last_right i k p.session m dev l.0 l.1 st l.2.0 l.2.2) t,
  same_pages k p.session (Actions.session_at_end p.session Eof []) p.client p.client refl refl refl f,
)
kept i k listed_devices p dev (Actions.TurnsNamed status) l z t f = (
  lift i k p dev (put_down dev) Quiet p.session.flight (Some status) (Names status ∷ p.session.met) p.client.stage (not_quiet _ Streaming l.3.0 streaming_is) (λ z. absurd (no_stream _ l.3.0 z))
      (λ m st. fails_right i k p.session m dev (put_down dev) st status (Names status) l.3.1 l.3.0 l.5 l.6 (refl, l.5, refl)) t,
  same_pages k p.session (Actions.session_at_end p.session status (Names status ∷ [])) p.client p.client refl refl refl f,
)
kept i k listed_devices p dev Actions.TurnsShort l z t f = (
  lift i k p dev (record dev { phase = ended_phase dev.phase }) Quiet p.session.flight (Some Eof) (NamesEof ∷ p.session.met) p.client.stage (not_quiet _ Streaming l.3.0 streaming_is) (λ z. absurd (no_stream _ l.3.0 z))
      (λ m st. short_right i k p.session m dev (record dev { phase = ended_phase dev.phase }) st l.3.1 l.3.0 l.4) t,
  same_pages k p.session (Actions.session_at_end p.session Eof (NamesEof ∷ [])) p.client p.client refl refl refl f,
)
kept i k listed_devices p dev (Actions.TurnsFault fault) l z t f = (
  lift i k p dev (put_down dev) Quiet p.session.flight (Some IoError) (SourceFailed ∷ p.session.met) p.client.stage (not_quiet _ Streaming l.3.0 streaming_is) (λ z. absurd (no_stream _ l.3.0 z))
      (λ m st. fails_right i k p.session m dev (put_down dev) st IoError SourceFailed l.3.1 l.3.0 io_eof io_good (refl, refl)) t,
  same_pages k p.session (Actions.session_at_end p.session IoError (SourceFailed ∷ [])) p.client p.client refl refl refl f,
)
kept i k listed_devices p dev Actions.TurnsOff l z t f = (
  lift i k p dev dev Quiet p.session.flight (Some statuses.Cancelled) p.session.met p.client.stage (not_quiet _ Ending l ending_is) (λ z. tt) (λ m st. off_right i k p.session m dev st l) t,
  same_pages k p.session (Actions.session_at_end p.session statuses.Cancelled []) p.client p.client refl refl refl f,
)
kept i k listed_devices p dev (Actions.Reads bytes) l z t f = (
  kept_read i k p dev bytes (without_prefix bytes p.session.flight) l.0.0 l.0.1 p.client.stage l.0.2
      (l.1.1 ∙ ap (λ (x : List ℕ). bytes ++ x) (sym (ap (λ (x : List ℕ). without_prefix bytes x) l.1.1 ∙ without_append bytes l.1.0))) t,
  same_pages k p.session (Actions.with_flight p.session (without_prefix bytes p.session.flight)) p.client (client_after_bytes p.client.stage p.client bytes) refl refl (read_pages p.client.stage p.client bytes) f,
)
kept i k listed_devices p dev (Actions.Finishes status) l z t f = kept_finished i k p dev status l.0.0 l.0.1 p.client.stage l.0.2 l.1 l.2 f t
kept i k listed_devices p dev (Actions.Loses memory) l z t f = (
  kept_stopped i k p dev (device_let_go i dev) p.client.stage IoError Lost (loss_cause memory) Quiet [] None [] [] false false false (explains_loss memory) t,
  same_pages k p.session (Actions.session_after_loss p.session (loss_cause memory)) p.client (client_after_stop IoError Lost p.client) refl refl refl f,
)
kept i k listed_devices p dev (Actions.LosesImage memory) l z t f = (
  kept_stopped i k p dev (image_off i p.session.transfer dev) p.client.stage IoError Lost (loss_cause memory) (Actions.left_by_loss p.session.transfer) [] None p.todo p.due p.linked false p.served (explains_loss memory) t,
  same_pages k p.session (Actions.without_image p.session (loss_cause memory)) p.client (client_after_stop IoError Lost p.client) refl refl refl f,
)
kept i k listed_devices p dev (Actions.Breaks memory) l z t f =
    (kept_broken i k p dev (device_let_go i dev) p.client.stage memory l.0 l.1 t, same_pages k p.session (Actions.without_session memory p.session) p.client p.client refl refl refl f)
kept i k listed_devices p dev Actions.RunsOutOfMemory l z t f = (
  kept_stopped i k p dev dev p.client.stage NoMem Memory ClientOutOfMemory p.session.transfer p.session.flight p.session.ending p.todo p.due p.linked p.image p.served (refl, refl) t,
  same_pages k p.session (Actions.with_cause p.session ClientOutOfMemory) p.client (client_after_stop NoMem Memory p.client) refl refl refl f,
)
kept i k listed_devices p dev Actions.Stops l z t f = (
  kept_stopped i k p dev dev p.client.stage statuses.Cancelled Cancelled GaveUp p.session.transfer p.session.flight p.session.ending (p.todo ++ abstract_farewell p.client.stage) p.due p.linked p.image p.served (refl, refl) t,
  same_pages k p.session (Actions.with_cause p.session GaveUp) p.client (client_after_stop statuses.Cancelled Cancelled p.client) refl refl refl f,
)

-- no action changes what a job is
next_job : (i : ℕ) (k : Make) (listed_devices : List ℕ) (p : JobState) (dev : AbstractDevice) (challenge : Challenge) (fault : Option FailureCounts) (todo : List AbstractRequest) →
    (answer_next i k listed_devices p dev challenge fault todo).session.job ≡ p.session.job
next_job i k listed_devices p dev challenge fault [] = refl
next_job i k listed_devices p dev challenge fault (q ∷ rest) = refl

pub same_job : (i : ℕ) (k : Make) (listed_devices : List ℕ) (p : JobState) (dev : AbstractDevice) (x : Action) → (job_after_action i k listed_devices p dev x).session.job ≡ p.session.job
same_job i k listed_devices p dev (Actions.Answers challenge fault) = next_job i k listed_devices p dev challenge fault p.todo
same_job i k listed_devices p dev x = refl

-- a page that is laid in
one_more : (page : Page) (tray : List Page) → IsPageShaped page → AreShaped tray → AreShaped (tray ++ page ∷ [])
one_more page [] p t = (p, tt)
one_more page (x ∷ tray) p t = (t.0, one_more page tray p t.1)

with_shaped : (feeder : Bool) (page : Page) (tray : List Page) → IsPageShaped page → AreShaped tray → AreShaped (pages_with feeder tray page)
with_shaped true page tray p t = one_more page tray p t
with_shaped false page tray p t = (p, tt)

laid_shaped : (m : Model) (page : Page) (tray : List Page) → IsPageShaped page → AreShaped tray → AreShaped (laid_in m page tray)
laid_shaped m page tray p t = subst AreShaped (sym (laid_is m page tray)) (with_shaped (is_feeder m) page tray p t)

pub sound_after : (s : SystemState) (x : Transition) → Invariant s → IsEnabled s x → Invariant (after_transition s x)
sound_after s (By i x) h l =
    let t = treats i (make_for s i) (listed_devices s) (s.job i) (device_for s i) x l in
    let a = kept i (make_for s i) (listed_devices s) (s.job i) (device_for s i) x l (h.fit (wanted_place s i)) (h.exchanges i) (h.pages i) in
    sound_change s i (job_after_action i (make_for s i) (listed_devices s) (s.job i) (device_for s i) x) (device_after i (make_for s i) (listed_devices s) (s.job i) (device_for s i) x) h
    (ap (λ job. job.wants) (same_job i (make_for s i) (listed_devices s) (s.job i) (device_for s i) x)) a.0 a.1
    (fit_treated i (make_for s i) (device_for s i) _ t (h.fit (wanted_place s i))) (λ j n. same_treated i j (make_for s i) (device_for s i) _ n t)
sound_after s (Loads d page) h l =
    let f = h.fit d in
    sound_device s d (with_page_laid_in (s.make d) page (s.device d)) h (record { laid_down = f.laid_down; allowed = f.allowed; stocked = laid_stocked (s.make d).model page (s.device d).tray l.2; shaped = laid_shaped (s.make d).model page (s.device d).tray l.3 f.shaped })
    (λ j named. record { held = λ x. (x, refl, refl); free = λ x. x })
sound_after s (Unplugs d) h l =
    let f = h.fit d in
    sound_device s d (without_listing (s.device d)) h (record { laid_down = f.laid_down; allowed = f.allowed; stocked = f.stocked; shaped = f.shaped }) (λ j named. record { held = λ x. (x, refl, refl); free = λ x. x })
sound_after s (Uses i d shown left) h l = sound_device s d left h l.1.fit (used_same s i d shown left h l.0 l.1)

pub sound_after_all : (s : SystemState) (xs : List Transition) → Invariant s → IsHistory s xs → Invariant (after_all s xs)
sound_after_all s [] h l = h
sound_after_all s (x ∷ xs) h l = sound_after_all (after_transition s x) xs (sound_after s x h l.0) l.1
