-- THE DAEMON'S SIDE OF A DATA CONNECTION: records that it sends, and the end record.
use Rattle.std.proofs.Common.{arith, ◌≡◌, ◌∙◌, ◌≢◌, ℕ, List, [], ◌∷◌, ◌++◌, Option, Some, None, true, refl, sym, subst, ap, inl, inr, append_assoc, length, length-append}
use Rattle.scan_job.specs.declared.outcome.Why.{Why}
use Rattle.scan_job.specs.declared.outcome.Why.TheVariants.{Answer}
use Rattle.sane_fixed.specs.declared.status.Status.{Status}
use Rattle.sane_fixed.specs.declared.status.Status.TheVariants.{Good, Cancelled, Eof}
use Rattle.page_picture.specs.Shows.{Frame}
use Rattle.sane_fixed.specs.declared.params.Params.{Params}
use Rattle.system_model.specs.AbstractMessages.{Challenge, AbstractReport}
use Rattle.system_model.specs.Devices.{Make, OptionsInForce, order_of, read_status_of}
use Rattle.system_model.specs.Client.{AbstractJob, ClientView, JobStage, Idle, Running, Done, Ended, AbstractProgress, Greeting, Listing, Opening, Allowing, Describing, Putting, Getting, Starting, Shaping, Imaging, AbstractTask, List_, Show, SetOnly, Scan, Batch}
use Rattle.system_model.specs.AbstractDevices.{AbstractDevice, Begin, ScanPhase, Reading, without_prefix, read_on, ended_phase}
use Rattle.system_model.specs.Daemon.{TransferState, Quiet, Streaming, Ending}
use Rattle.system_model.specs.Causes.{Cause, TrayRanOut, IsExplained, Explains, IsCauseAmong, NamesEof}
use Rattle.system_model.specs.SystemStates.{SessionView}
use Rattle.system_model.specs.Actions.{with_flight, session_at_end}
use Rattle.system_model.specs.Sync.{StillReading, DataUnderWay, Images, InSync, PageUnderWay}
use Rattle.system_model.proofs.Laws.{retaken}
use Rattle.system_model.specs.Invariants.{IsRight, IsCaused, IsRightlyDone}

-- where a frame streams, its client hears it
pub record Stream (i : ℕ) (k : Make) (b : SessionView) (m : ClientView) (dev : AbstractDevice) (g : AbstractProgress) : Type 0 where
  pub params : Params
  pub heard : List ℕ
  pub is : g ≡ Imaging params heard
  pub images : Images i k b m dev params heard
  pub flows : StillReading i k b dev images.continues.begin.options images.more heard images.rest

imaging : (i : ℕ) (k : Make) (b : SessionView) (m : ClientView) (dev : AbstractDevice) (params : Params) (heard : List ℕ) → b.transfer ≡ Streaming → (h : Images i k b m dev params heard) →
    DataUnderWay i k b dev h.continues.begin.options h.more heard h.rest → Stream i k b m dev (Imaging params heard)
imaging i k b m dev params heard c h (inl f) = record { params = params; heard = heard; is = refl; images = h; flows = f }
imaging i k b m dev params heard c h (inr (inl f)) = absurd (cc (c, f.transfer))
imaging i k b m dev params heard c h (inr (inr (inl f))) = absurd (cc (c, f.transfer))
imaging i k b m dev params heard c h (inr (inr (inr f))) = absurd (cc (c, f.transfer))

pub streaming : (i : ℕ) (k : Make) (b : SessionView) (m : ClientView) (dev : AbstractDevice) (g : AbstractProgress) → b.transfer ≡ Streaming → InSync i k b m dev g → Stream i k b m dev g
streaming i k b m dev Greeting c h = absurd (cc (c, h.transfer))
streaming i k b m dev Listing c h = absurd (cc (c, h.0.transfer))
streaming i k b m dev Opening c h = absurd (cc (c, h.0.transfer))
streaming i k b m dev (Allowing x) c h = absurd (cc (c, h.0.transfer))
streaming i k b m dev (Describing left) c h = absurd (cc (c, h.1.still.transfer))
streaming i k b m dev (Putting n value requested left) c h = absurd (cc (c, h.settles.still.transfer))
streaming i k b m dev (Getting n left) c h = absurd (cc (c, h.still.transfer))
streaming i k b m dev Starting c (inl h) = absurd (cc (c, h.still.transfer))
streaming i k b m dev Starting c (inr h) = absurd (cc (c, h.still.transfer))
streaming i k b m dev Shaping c h = absurd (cc (c, h.transfer))
streaming i k b m dev (Imaging params heard) c h = imaging i k b m dev params heard c h h.carries

-- MORE CAUSES ARE NO FEWER
pub explained_more : (s : Status) (w : Why) (causes met : List Cause) → IsExplained s w met → IsExplained s w (causes ++ met)
explained_more s w [] met h = h
explained_more s w (c ∷ causes) met h = inr (explained_more s w causes met h)

pub met_more : (x : Cause) (causes met : List Cause) → IsCauseAmong x met → IsCauseAmong x (causes ++ met)
met_more x [] met h = h
met_more x (c ∷ causes) met h = inr (met_more x causes met h)

pub caused_more : (k : Make) (b : SessionView) (causes : List Cause) (s : Status) (w : Why) → IsCaused k b s w → IsCaused k (record b { met = causes ++ b.met }) s w
caused_more k b causes s w (inl h) = inl (explained_more s w causes b.met h)
caused_more k b causes s w (inr h) = inr h

-- what is done stays so
pub done_more : (k : Make) (b : SessionView) (m : ClientView) (c : TransferState) (flight : List ℕ) (ending : Option Status) (causes : List Cause) (task : AbstractTask) → IsRightlyDone k b m task →
    IsRightlyDone k (record b { transfer = c; flight = flight; ending = ending; met = causes ++ b.met }) m task
done_more k b m c flight ending causes List_ h = h
done_more k b m c flight ending causes Show h = record { options = h.options; settled = h.settled; known = h.known; values = h.values }
done_more k b m c flight ending causes SetOnly h = h
done_more k b m c flight ending causes Scan h = h
done_more k b m c flight ending causes (Batch n) (a, inl h) = (a, inl h)
done_more k b m c flight ending causes (Batch n) (a, inr h) = (a, inr (h.0, h.1, met_more TrayRanOut causes b.met h.2))

pub without_append : (xs ys : List ℕ) → without_prefix xs (xs ++ ys) ≡ ys
without_append [] ys = refl
without_append (x ∷ xs) ys = without_append xs ys

pub without_as_many : (xs zs ys : List ℕ) → length xs ≡ length zs → without_prefix xs (zs ++ ys) ≡ ys
without_as_many [] [] ys e = refl
without_as_many [] (z ∷ zs) ys e = absurd (omega arith)
without_as_many (x ∷ xs) [] ys e = absurd (omega arith)
without_as_many (x ∷ xs) (z ∷ zs) ys e = without_as_many xs zs ys (omega arith)

-- A RECORD IS SENT: the frame under way has its bytes from then on
resent : (k : Make) (job : AbstractJob) (sent : Option Challenge) (starts : List Begin) (reports : List AbstractReport) (pages : List (List Frame)) (done more : List Frame) (f : Frame) (bytes : List ℕ) → length bytes ≡ length f.payload → (k.steady ≡ true → bytes ≡ f.payload) →
    PageUnderWay k job sent starts reports pages done (f ∷ more) → PageUnderWay k job sent starts reports pages done (record f { payload = bytes } ∷ more)
resent k job sent starts reports pages done more f bytes e same c =
    record {
      earlier = c.earlier;
      begin = c.begin;
      started = c.started;
      settled = c.settled;
      frames = λ steady. ap (λ (x : List ℕ). done ++ record f { payload = x } ∷ more) (same steady) ∙ c.frames steady;
      proper = retaken (order_of k c.begin.options) done more f bytes e c.proper;
      scans = c.scans;
      pictures = c.pictures;
      fewer = c.fewer;
    }

-- how far it is heard, on the way and to come
long_as : (heard flight bytes meant rest payload : List ℕ) → length bytes ≡ length meant → heard ++ (flight ++ (meant ++ rest)) ≡ payload → length (heard ++ ((flight ++ bytes) ++ rest)) ≡ length payload
long_as heard flight bytes meant rest payload e is =
    let a = length-append heard ((flight ++ bytes) ++ rest) in
    let b = length-append (flight ++ bytes) rest in
    let c = length-append flight bytes in
    let d = length-append heard (flight ++ (meant ++ rest)) in
    let f = length-append flight (meant ++ rest) in
    let g = length-append meant rest in
    let h = ap length is in
    omega arith

same_as : (heard flight bytes meant rest payload : List ℕ) → bytes ≡ meant → heard ++ (flight ++ (meant ++ rest)) ≡ payload → heard ++ ((flight ++ bytes) ++ rest) ≡ payload
same_as heard flight bytes meant rest payload e is = ap (λ (x : List ℕ). heard ++ x) (append_assoc flight bytes rest ∙ ap (λ (x : List ℕ). flight ++ (x ++ rest)) e) ∙ is

pub turned_right : (i : ℕ) (k : Make) (b : SessionView) (m : ClientView) (dev : AbstractDevice) (f : Frame) (bytes meant rest : List ℕ) (more : List Frame) (st : JobStage) → length bytes ≡ length meant → (k.steady ≡ true → bytes ≡ meant) →
    b.transfer ≡ Streaming → dev.phase ≡ Reading f (meant ++ rest) more → read_status_of k dev.options ≡ None → IsRight i k b m dev st →
    IsRight i k (with_flight b (b.flight ++ bytes)) m (record dev { phase = read_on dev.phase bytes }) st
unfolding resent
turned_right i k b m dev f bytes meant rest more Idle many same c p n h = h
turned_right i k b m dev f bytes meant rest more Done many same c p n h = done_more k b m b.transfer (b.flight ++ bytes) b.ending [] b.job.task h
turned_right i k b m dev f bytes meant rest more (Ended s w) many same c p n h = h
turned_right i k b m dev f bytes meant rest more (Running g) many same c p n h =
    let s = streaming i k b m dev g c h in
    let e : Reading s.flows.meant s.images.rest s.images.more ≡ Reading f (meant ++ rest) more = sym s.flows.held.phase_is ∙ p in
    let r : s.images.rest ≡ meant ++ rest = cc in
    let q : read_on dev.phase bytes ≡ Reading s.flows.meant rest s.images.more =
    ap (λ (x : ScanPhase). read_on x bytes) s.flows.held.phase_is ∙ ap (λ (x : List ℕ). Reading s.flows.meant x s.images.more) (ap (λ (x : List ℕ). without_prefix bytes x) r ∙ without_as_many bytes meant rest many) in
    let all : s.heard ++ (b.flight ++ (meant ++ rest)) ≡ s.images.frame.payload = ap (λ (x : List ℕ). s.heard ++ (b.flight ++ x)) (sym r) ∙ s.images.payload in
    let now : List ℕ = s.heard ++ ((b.flight ++ bytes) ++ rest) in
    subst (λ (x : AbstractProgress). InSync i k (with_flight b (b.flight ++ bytes)) m (record dev { phase = read_on dev.phase bytes }) x) (sym s.is)
    (record {
      frame = record s.images.frame { payload = now };
      more = s.images.more;
      continues = resent k b.job b.sent b.started m.reports m.pages m.frames s.images.more s.images.frame now
          (long_as s.heard b.flight bytes meant rest s.images.frame.payload many all) (λ steady. same_as s.heard b.flight bytes meant rest s.images.frame.payload (same steady) all) s.images.continues;
      params_are = s.images.params_are;
      order = s.images.order;
      awaited = s.images.awaited;
      rest = rest;
      payload = refl;
      carries = inl (record {
        meant = s.flows.meant;
        held = record { mine = s.flows.held.mine; options_are = s.flows.held.options_are; phase_is = q };
        ending = s.flows.ending;
        transfer = s.flows.transfer;
        unread = λ status u. absurd (cc (u, n, s.flows.held.options_are));
      });
    })

-- THE END RECORD IS SENT
ended_sync : (i : ℕ) (k : Make) (b : SessionView) (m : ClientView) (dev new : AbstractDevice) (g : AbstractProgress) (status : Status) (causes : List Cause) (s : Stream i k b m dev g) →
    DataUnderWay i k (session_at_end b status causes) new s.images.continues.begin.options s.images.more s.heard s.images.rest → InSync i k (session_at_end b status causes) m new g
ended_sync i k b m dev new g status causes s c =
    subst (λ (x : AbstractProgress). InSync i k (session_at_end b status causes) m new x) (sym s.is)
    (record {
      frame = s.images.frame;
      more = s.images.more;
      continues = s.images.continues;
      params_are = s.images.params_are;
      order = s.images.order;
      awaited = s.images.awaited;
      rest = s.images.rest;
      payload = s.images.payload;
      carries = c;
    })

pub last_right : (i : ℕ) (k : Make) (b : SessionView) (m : ClientView) (dev : AbstractDevice) (f : Frame) (more : List Frame) (st : JobStage) →
    b.transfer ≡ Streaming → dev.phase ≡ Reading f [] more → IsRight i k b m dev st →
    IsRight i k (session_at_end b Eof []) m (record dev { phase = ended_phase dev.phase }) st
last_right i k b m dev f more Idle c p h = h
last_right i k b m dev f more Done c p h = done_more k b m Quiet b.flight (Some Eof) [] b.job.task h
last_right i k b m dev f more (Ended s w) c p h = h
last_right i k b m dev f more (Running g) c p h =
    let s = streaming i k b m dev g c h in
    let e : Reading s.flows.meant s.images.rest s.images.more ≡ Reading f [] more = sym s.flows.held.phase_is ∙ p in
    ended_sync i k b m dev (record dev { phase = ended_phase dev.phase }) g Eof [] s
    (inr (inl (record {
      meant = s.flows.meant;
      nothing = cc;
      ending = refl;
      transfer = refl;
      held = record { mine = s.flows.held.mine; options_are = s.flows.held.options_are; phase_is = ap ended_phase s.flows.held.phase_is };
    })))

pub short_right : (i : ℕ) (k : Make) (b : SessionView) (m : ClientView) (dev new : AbstractDevice) (st : JobStage) → new.holder ≡ Some i →
    b.transfer ≡ Streaming → read_status_of k dev.options ≡ Some Eof → IsRight i k b m dev st → IsRight i k (session_at_end b Eof (NamesEof ∷ [])) m new st
short_right i k b m dev new Idle z c p h = h
short_right i k b m dev new Done z c p h = done_more k b m Quiet b.flight (Some Eof) (NamesEof ∷ []) b.job.task h
short_right i k b m dev new (Ended s w) z c p h = caused_more k b (NamesEof ∷ []) s w h
short_right i k b m dev new (Running g) z c p h =
    let s = streaming i k b m dev g c h in
    let u = s.flows.unread Eof (rw (← s.flows.held.options_are) p) in
    ended_sync i k b m dev new g Eof (NamesEof ∷ []) s
    (inr (inr (inl (record { mine = z; ending = refl; flight = u.1; heard_none = u.0; cause = inl (refl, refl); transfer = refl }))))

pub fails_right : (i : ℕ) (k : Make) (b : SessionView) (m : ClientView) (dev new : AbstractDevice) (st : JobStage) (status : Status) (cause : Cause) → new.holder ≡ Some i →
    b.transfer ≡ Streaming → status ≢ Eof → status ≢ Good → Explains cause status Answer → IsRight i k b m dev st → IsRight i k (session_at_end b status (cause ∷ [])) m new st
fails_right i k b m dev new Idle status cause z c n o x h = h
fails_right i k b m dev new Done status cause z c n o x h = done_more k b m Quiet b.flight (Some status) (cause ∷ []) b.job.task h
fails_right i k b m dev new (Ended s w) status cause z c n o x h = caused_more k b (cause ∷ []) s w h
fails_right i k b m dev new (Running g) status cause z c n o x h =
    let s = streaming i k b m dev g c h in
    ended_sync i k b m dev new g status (cause ∷ []) s
    (inr (inr (inr (record { mine = z; status = status; ending = refl; not_eof = n; not_good = o; cause = inl x; transfer = refl }))))

-- A FRAME THAT IS CANCELLED is no running client's
never_carries : (i : ℕ) (k : Make) (b : SessionView) (dev : AbstractDevice) (o : OptionsInForce) (more : List Frame) (heard rest : List ℕ) → b.transfer ≡ Ending → DataUnderWay i k b dev o more heard rest → ⊥
never_carries i k b dev o more heard rest c (inl h) = elim h.transfer [ inl x ↦ cc (c, x) | inr x ↦ cc (c, x) ]
never_carries i k b dev o more heard rest c (inr (inl h)) = cc (c, h.transfer)
never_carries i k b dev o more heard rest c (inr (inr (inl h))) = cc (c, h.transfer)
never_carries i k b dev o more heard rest c (inr (inr (inr h))) = cc (c, h.transfer)

pub never_ending : (i : ℕ) (k : Make) (b : SessionView) (m : ClientView) (dev : AbstractDevice) (g : AbstractProgress) → b.transfer ≡ Ending → InSync i k b m dev g → ⊥
never_ending i k b m dev Greeting c h = cc (c, h.transfer)
never_ending i k b m dev Listing c h = cc (c, h.0.transfer)
never_ending i k b m dev Opening c h = cc (c, h.0.transfer)
never_ending i k b m dev (Allowing x) c h = cc (c, h.0.transfer)
never_ending i k b m dev (Describing left) c h = cc (c, h.1.still.transfer)
never_ending i k b m dev (Putting n value requested left) c h = cc (c, h.settles.still.transfer)
never_ending i k b m dev (Getting n left) c h = cc (c, h.still.transfer)
never_ending i k b m dev Starting c (inl h) = cc (c, h.still.transfer)
never_ending i k b m dev Starting c (inr h) = cc (c, h.still.transfer)
never_ending i k b m dev Shaping c h = cc (c, h.transfer)
never_ending i k b m dev (Imaging params heard) c h = never_carries i k b dev h.continues.begin.options h.more heard h.rest c h.carries

pub off_right : (i : ℕ) (k : Make) (b : SessionView) (m : ClientView) (dev : AbstractDevice) (st : JobStage) → b.transfer ≡ Ending → IsRight i k b m dev st → IsRight i k (session_at_end b Cancelled []) m dev st
off_right i k b m dev Idle c h = h
off_right i k b m dev (Running g) c h = absurd (never_ending i k b m dev g c h)
off_right i k b m dev Done c h = done_more k b m Quiet b.flight (Some Cancelled) [] b.job.task h
off_right i k b m dev (Ended s w) c h = h
