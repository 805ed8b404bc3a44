-- THE CLIENT'S RULES AGAINST THE DAEMON'S: whatever a client in sync asks for, it is right to hear the answer.
use Rattle.std.proofs.Common.{◌≡◌, ◌∙◌, ◌≤◌, ℕ, List, [], ◌∷◌, Bool, true, false, Option, Some, None, refl, sym, subst, ap, inl, inr, length, arith}
use Rattle.std.proofs.lemmas.List.{append-nil}
use Rattle.scan_job.specs.declared.outcome.Why.TheVariants.{Answer}
use Rattle.sane_fixed.specs.declared.status.Status.TheVariants.{NoDocs}
use Rattle.page_picture.specs.Shows.{Frame}
use Rattle.system_model.specs.AbstractMessages.{AbstractRequest, Init, Open, Authorize, Describe, Get, Set, Parameters, Start, Greeted, Listed, Shaped, Got, Described, Begun}
use Rattle.device_api.specs.Kinds.{Page}
use Rattle.system_model.specs.Devices.{Make, AreOptionsAllowed, IsPageShaped, descriptors_in_force, has_readable_value, readable_value, accept_value, order_of, picture_frames, accepts}
use Rattle.system_model.specs.Client.{AbstractTask, List_, Show, SetOnly, Scan, Batch, further_pages, ClientView, Done, with_ending, AbstractProgress, Greeting, Listing, Opening, Allowing, Describing, Putting, Getting, Starting, Shaping, Imaging, request_awaited, progress_after_init}
use Rattle.system_model.specs.ClientReplies.{hear_at, begins_frame, start_refused}
use Rattle.system_model.specs.AbstractDevices.{AbstractDevice, DeviceInvariant, AreShaped, ScanPhase, is_resting, Begin}
use Rattle.system_model.specs.Daemon.{Quiet, Environment, FailureCounts, reply_effect, abstract_params, answer, serve, allow, get_reply, put_reply, set_reply, begin_page, begin_pass, start_page, start_at, start_or_fail, start_effect}
use Rattle.system_model.specs.SystemStates.{SessionView}
use Rattle.system_model.specs.Actions.{session_after_answer, is_some_begun}
use Rattle.system_model.specs.Sync.{NotYet, Ready, Pauses, IsShaping, InSync, Scans}
use Rattle.system_model.specs.Invariants.{IsRight}
use Rattle.system_model.proofs.Laws.{proper}
use Rattle.system_model.proofs.Settled.{Answers, done_at, right_at, next_right, put_right, got_right}
use Rattle.system_model.proofs.Opened.{asked_is, held_answer, free_answer, as_served, open_right, allow_right, same_same}

-- START
begin_right : (i : ℕ) (k : Make) (b : SessionView) (m : ClientView) (dev : AbstractDevice) (page : Page) (fs : List Frame) (h : Ready i k b m dev) → AreOptionsAllowed k dev.options → IsPageShaped page → picture_frames k dev.options page ≡ fs →
    Answers i k b m Starting (begin_page k dev b.transfer page fs)
begin_right i k b m dev page [] h a s e = (refl, (_, refl, inl (inl (refl, refl))))
begin_right i k b m dev page (f ∷ more) h a s e = (
  refl,
  (
    Begun (order_of k dev.options),
    refl,
    record {
      frame = f;
      more = more;
      continues = record {
        earlier = b.started;
        begin = record { page = page; options = dev.options };
        started = refl;
        settled = record { forced = rw h.held.options_are h.settled.forced; permitted = h.settled.permitted };
        frames = λ steady. rw h.frames (sym e);
        proper = rw h.frames (rw e at (proper k dev.options page a s));
        scans = h.scans;
        pictures = h.pictures;
        fewer = h.fewer;
      };
      held = record { mine = h.held.mine; options_are = refl; phase_is = refl };
      order = refl;
      transfer = refl;
      flight = h.still.flight;
      ending = h.still.ending;
      awaited = refl;
    },
  ),
)

first_empty : (m : ClientView) (fs : List Frame) (ps : List (List Frame)) → fs ≡ [] → ps ≡ [] → start_refused NoDocs fs ps m ≡ with_ending NoDocs Answer m
first_empty m [] [] f p = refl
first_empty m (x ∷ fs) ps f p = cc
first_empty m [] (x ∷ ps) f p = cc

later_empty : (m : ClientView) (page : List Frame) (pages : List (List Frame)) (fs : List Frame) (ps : List (List Frame)) → fs ≡ [] → ps ≡ page ∷ pages → start_refused NoDocs fs ps m ≡ record m { stage = Done }
later_empty m page pages [] (x ∷ ps) f p = refl
later_empty m page pages (x ∷ fs) ps f p = cc
later_empty m page pages [] [] f p = cc

-- an empty tray, at the first start or at a later one
empty_right : (i : ℕ) (k : Make) (b : SessionView) (m : ClientView) (dev : AbstractDevice) (task : AbstractTask) (starts : List Begin) (pages : List (List Frame)) (h : Ready i k b m dev) → b.job.task ≡ task → b.started ≡ starts → m.pages ≡ pages →
    Answers i k b m Starting (start_page k dev b.transfer (is_some_begun starts) [])
empty_right i k b m dev task [] [] h t e p = (refl, (_, refl, right_at i k _ _ _ _ (first_empty m m.frames m.pages h.frames p) (inl (inl (refl, refl)))))
empty_right i k b m dev Scan (s ∷ starts) (page ∷ pages) h t e p =
    let f : length (page ∷ pages) ≤ 0 = subst (λ (x : List (List Frame)). length x ≤ 0) p (subst (λ (x : AbstractTask). length m.pages ≤ further_pages x) t h.fewer) in absurd (omega arith)
empty_right i k b m dev (Batch n) (s ∷ starts) (page ∷ pages) h t e p = (
  refl,
  (
    _,
    refl,
    right_at i k _ _ _ _ (later_empty m page pages m.frames m.pages h.frames p)
        (done_at k _ _ (Batch n) t ((h.options, record { forced = h.settled.forced; permitted = h.settled.permitted }), inr (λ z. cc (z, p), subst (λ (x : AbstractTask). length m.pages ≤ further_pages x) t h.fewer, inl refl))),
  ),
)
empty_right i k b m dev List_ (s ∷ starts) (page ∷ pages) h t e p = absurd (subst Scans t h.scans)
empty_right i k b m dev Show (s ∷ starts) (page ∷ pages) h t e p = absurd (subst Scans t h.scans)
empty_right i k b m dev SetOnly (s ∷ starts) (page ∷ pages) h t e p = absurd (subst Scans t h.scans)
empty_right i k b m dev task [] (page ∷ pages) h t e p = absurd (rw (e, p) at h.pictures)
empty_right i k b m dev task (s ∷ starts) [] h t e p = absurd (rw (e, p) at h.pictures)

page_right : (i : ℕ) (k : Make) (b : SessionView) (m : ClientView) (dev : AbstractDevice) (tray : List Page) (h : Ready i k b m dev) → AreOptionsAllowed k dev.options → AreShaped tray → Answers i k b m Starting (start_page k dev b.transfer (is_some_begun b.started) tray)
page_right i k b m dev [] h a s = empty_right i k b m dev b.job.task b.started m.pages h refl refl refl
page_right i k b m dev (page ∷ tray) h a s = begin_right i k b m dev page (picture_frames k dev.options page) h a s.0 refl

pause_right : (i : ℕ) (k : Make) (b : SessionView) (m : ClientView) (dev : AbstractDevice) (h : Pauses i k b m dev) → Answers i k b m Starting (begin_pass k dev b.transfer (h.frame ∷ h.more))
pause_right i k b m dev h = (
  refl,
  (
    Begun (order_of k dev.options),
    refl,
    record {
      frame = h.frame;
      more = h.more;
      continues = record {
        earlier = h.continues.earlier;
        begin = h.continues.begin;
        started = append-nil b.started ∙ h.continues.started;
        settled = h.continues.settled;
        frames = h.continues.frames;
        proper = h.continues.proper;
        scans = h.continues.scans;
        pictures = h.continues.pictures;
        fewer = h.continues.fewer;
      };
      held = record { mine = h.held.mine; options_are = h.held.options_are; phase_is = refl };
      order = rw h.held.options_are refl;
      transfer = refl;
      flight = h.still.flight;
      ending = h.still.ending;
      awaited = refl;
    },
  ),
)

start_right : (i : ℕ) (k : Make) (b : SessionView) (m : ClientView) (dev : AbstractDevice) (fault : Option FailureCounts) → DeviceInvariant k dev → InSync i k b m dev Starting → b.transfer ≡ Quiet →
    Answers i k b m Starting (start_or_fail k dev b.transfer (is_some_begun b.started) fault)
start_right i k b m dev (Some f) z h c = (refl, (_, refl, inl (inl (refl, refl))))
start_right i k b m dev None z (inl h) c =
    as_served i k b m Starting _ _ (ap (λ (x : ScanPhase). start_at k dev b.transfer (is_some_begun b.started) x) h.held.phase_is) (page_right i k b m dev dev.tray h z.allowed z.shaped)
start_right i k b m dev None z (inr h) c =
    as_served i k b m Starting _ _ (ap (λ (x : ScanPhase). start_at k dev b.transfer (is_some_begun b.started) x) h.held.phase_is) (pause_right i k b m dev h)

pub starting : (i : ℕ) (k : Make) (b : SessionView) (m : ClientView) (dev : AbstractDevice) → InSync i k b m dev Starting → (b.transfer ≡ Quiet) × (b.awaited ≡ None) × (dev.holder ≡ Some i)
starting i k b m dev (inl h) = (h.still.transfer, h.still.awaited, h.held.mine)
starting i k b m dev (inr h) = (h.still.transfer, h.still.awaited, h.held.mine)

-- GET_PARAMETERS
shape_right : (i : ℕ) (k : Make) (b : SessionView) (m : ClientView) (dev : AbstractDevice) (x : Bool) (h : IsShaping i k b m dev) → accepts m.frames h.frame.params m.order ≡ x →
    IsRight i k b (record m { stage = begins_frame h.frame.params x }) dev (begins_frame h.frame.params x)
shape_right i k b m dev true h e =
    record {
      frame = h.frame;
      more = h.more;
      continues = h.continues;
      params_are = refl;
      order = h.order;
      awaited = h.awaited;
      rest = h.frame.payload;
      payload = rw h.flight refl;
      carries = inl (record { meant = h.frame; held = h.held; ending = h.ending; transfer = inl h.transfer; unread = λ status e. (refl, h.flight) });
    }
shape_right i k b m dev false h e =
    let a : accepts m.frames h.frame.params m.order ≡ true = ap (λ o. accepts m.frames h.frame.params o) h.order ∙ h.continues.proper.0 in cc

shaped : (i : ℕ) (k : Make) (b : SessionView) (m : ClientView) (dev : AbstractDevice) → InSync i k b m dev Shaping → Answers i k b m Shaping (reply_effect (Shaped (abstract_params k dev dev.phase)) dev b.transfer)
shaped i k b m dev h =
    as_served i k b m Shaping _ _ (ap (λ (x : ScanPhase). reply_effect (Shaped (abstract_params k dev x)) dev b.transfer) h.held.phase_is) (
      refl,
      (
        Shaped h.frame.params,
        refl,
        shape_right i k (session_after_answer b (reply_effect (Shaped h.frame.params) dev b.transfer)) m dev (accepts m.frames h.frame.params m.order) (record {
          frame = h.frame;
          more = h.more;
          continues = record {
            earlier = h.continues.earlier;
            begin = h.continues.begin;
            started = append-nil b.started ∙ h.continues.started;
            settled = h.continues.settled;
            frames = h.continues.frames;
            proper = h.continues.proper;
            scans = h.continues.scans;
            pictures = h.continues.pictures;
            fewer = h.continues.fewer;
          };
          held = h.held;
          order = h.order;
          transfer = h.transfer;
          flight = h.flight;
          ending = h.ending;
          awaited = refl;
        }) refl,
      ),
    )

-- INIT
greeted : (i : ℕ) (k : Make) (b : SessionView) (m : ClientView) (dev : AbstractDevice) (task : AbstractTask) → b.job.task ≡ task → NotYet i b m dev None → InSync i k b m dev (progress_after_init task)
greeted i k b m dev List_ e n = (n, e)
greeted i k b m dev Show e n = (n, λ z. cc (e, z))
greeted i k b m dev SetOnly e n = (n, λ z. cc (e, z))
greeted i k b m dev Scan e n = (n, λ z. cc (e, z))
greeted i k b m dev (Batch l) e n = (n, λ z. cc (e, z))

-- THE MAIN LEMMA
pub answers_right : (i : ℕ) (k : Make) (b : SessionView) (m : ClientView) (dev : AbstractDevice) (x : Environment) (g : AbstractProgress) (q : AbstractRequest) → DeviceInvariant k dev → x.guarded ≡ b.job.guarded → x.allows ≡ b.job.allows → x.again ≡ is_some_begun b.started →
    request_awaited g ≡ q ∷ [] → InSync i k b m dev g → Answers i k b m g (answer i k dev b.transfer b.awaited x q)
answers_right i k b m dev x Greeting q y xg xa xs e h =
    let d = asked_is _ q e in
    rw d (as_served i k b m Greeting _ _ (free_answer i k dev b.transfer b.awaited x Init h.awaits h.free) (
      refl,
      (
        Greeted,
        refl,
        greeted i k (session_after_answer b (reply_effect Greeted dev b.transfer)) (hear_at Greeting b.job m Greeted) dev b.job.task refl
            (record {
              free = h.free;
              transfer = h.transfer;
              flight = h.flight;
              ending = h.ending;
              awaits = refl;
              sent = h.sent;
              started = rw h.started refl;
              shown = rw h.shown refl;
              reports = h.reports;
              values = h.values;
              frames = h.frames;
              pages = h.pages;
            }),
      ),
    ))
answers_right i k b m dev x Listing q y xg xa xs e h =
    let d = asked_is _ q e in
    rw d (as_served i k b m Listing _ _ (free_answer i k dev b.transfer b.awaited x _ h.0.awaits h.0.free)
    (refl, (Listed x.listed, refl, done_at k _ _ List_ h.1 (rw h.0.shown refl))))
answers_right i k b m dev x Opening q y xg xa xs e h =
    let d = asked_is _ q e in
    rw d (as_served i k b m Opening _ _ (free_answer i k dev b.transfer b.awaited x Open h.0.awaits h.0.free)
    (open_right i k b m dev x.challenge dev.listed x.guarded (sym xg) h.0 h.1))
answers_right i k b m dev x (Allowing c) q y xg xa xs e h =
    let d = asked_is _ q e in
    let r : answer i k dev b.transfer b.awaited x (Authorize c) ≡ allow i k dev b.transfer true (x.allows c) = rw (h.0.awaits, same_same c) refl in
    rw d (as_served i k b m (Allowing c) _ _ r (allow_right i k b m dev c (x.allows c) (ap (λ f. f c) (sym xa)) h.0 h.1))
answers_right i k b m dev x (Describing left) q y xg xa xs e h =
    let d = asked_is _ q e in
    rw d (as_served i k b m (Describing left) _ _ (held_answer i k dev b.transfer b.awaited x Describe h.1.still.awaited h.1.held.mine) (
      refl,
      (
        Described (descriptors_in_force k dev.options),
        refl,
        next_right i k (session_after_answer b (serve i k dev b.transfer x Describe)) (hear_at (Describing left) b.job m (Described (descriptors_in_force k dev.options))) dev left h.0 (rw h.1.held.options_are refl)
            (record {
              held = h.1.held;
              still = record { transfer = h.1.still.transfer; flight = h.1.still.flight; ending = h.1.still.ending; awaited = refl };
              so_far = h.1.so_far;
              permitted = h.1.permitted;
              opens = h.1.opens;
              started = rw h.1.started refl;
              values = h.1.values;
              frames = h.1.frames;
              pages = h.1.pages;
            }),
      ),
    ))
answers_right i k b m dev x (Putting n value requested left) q y xg xa xs e h =
    let d = asked_is _ q e in
    let r : set_reply k dev b.transfer n value (is_resting dev.phase) ≡ put_reply dev b.transfer (accept_value k dev.options n value) = rw h.settles.held.phase_is refl in
    rw d (as_served i k b m (Putting n value requested left) _ _ (held_answer i k dev b.transfer b.awaited x (Set n value) h.settles.still.awaited h.settles.held.mine ∙ r)
    (put_right i k b m dev n value requested left h.options (accept_value k dev.options n value) h.settles h.known h.resolved (rw h.settles.held.options_are refl)))
answers_right i k b m dev x (Getting n left) q y xg xa xs e h =
    let d = asked_is _ q e in
    let r : get_reply k dev b.transfer n (has_readable_value k dev.options n) ≡ reply_effect (Got (readable_value k dev.options n)) dev b.transfer = rw (h.held.options_are, h.told.0) refl in
    rw d (as_served i k b m (Getting n left) _ _ (held_answer i k dev b.transfer b.awaited x (Get n) h.still.awaited h.held.mine ∙ r) (got_right i k b m dev n left h))
answers_right i k b m dev x Starting q y xg xa xs e h =
    let d = asked_is _ q e in
    let c = starting i k b m dev h in
    let r : start_effect k dev x b.transfer ≡ start_or_fail k dev b.transfer (is_some_begun b.started) x.fault = rw (c.0, xs) refl in
    rw d (as_served i k b m Starting _ _ (held_answer i k dev b.transfer b.awaited x Start c.1 c.2 ∙ r) (start_right i k b m dev x.fault y h c.0))
answers_right i k b m dev x Shaping q y xg xa xs e h =
    let d = asked_is _ q e in
    rw d (as_served i k b m Shaping _ _ (held_answer i k dev b.transfer b.awaited x Parameters h.awaited h.held.mine) (shaped i k b m dev h))
answers_right i k b m dev x (Imaging params heard) q y xg xa xs e h = cc
