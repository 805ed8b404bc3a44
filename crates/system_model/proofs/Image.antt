-- THE CLIENT'S SIDE OF A DATA CONNECTION: bytes that it takes, and the end of a frame, of a page and of a job.
use Rattle.std.proofs.Common.{◌≡◌, ◌∙◌, ◌≢◌, ◌≤◌, ℕ, List, [], ◌∷◌, ◌++◌, Bool, true, false, Some, None, refl, sym, subst, ap, inl, inr, append_assoc, length, length-append, ltb, arith}
use Rattle.std.proofs.lemmas.List.{append-nil}
use Rattle.std.proofs.lemmas.Bool.{ltb-true, ltb-false}
use Rattle.scan_job.specs.declared.outcome.Why.TheVariants.{Answer, Short}
use Rattle.sane_fixed.specs.declared.status.Status.{Status}
use Rattle.sane_fixed.specs.declared.status.Status.TheVariants.{Good, Unsupported, Cancelled, DeviceBusy, Inval, Eof}
use Rattle.sane_fixed.specs.declared.status.Status.TheVariants.{Jammed, NoDocs, CoverOpen, IoError, NoMem}
use Rattle.sane_fixed.specs.declared.status.Status.TheVariants.{AccessDenied}
use Rattle.page_picture.specs.Shows.{Frame}
use Rattle.sane_fixed.specs.declared.params.Params.{Params}
use Rattle.system_model.specs.AbstractMessages.{RequestedSetting}
use Rattle.system_model.specs.Devices.{Make, OptionsInForce, frame_overflows, frame_fills}
use Rattle.system_model.specs.Client.{AbstractTask, List_, Show, SetOnly, Scan, Batch, further_pages, ClientView, JobStage, Running, Done, Starting, Imaging, with_ending}
use Rattle.system_model.specs.ClientReplies.{reads_on, end_frame, close_frame, close_page, after_page}
use Rattle.system_model.specs.AbstractDevices.{AbstractDevice, Begin, phase_after_frame}
use Rattle.system_model.specs.Daemon.{Quiet}
use Rattle.system_model.specs.SystemStates.{SessionView}
use Rattle.system_model.specs.Actions.{with_flight, with_nothing_in_flight}
use Rattle.system_model.specs.Sync.{HoldsDevice, AllInForce, PageUnderWay, DataUnderWay, Images, InSync, IsPictureOfStart, ArePictures, Scans}
use Rattle.system_model.specs.Invariants.{IsRight, IsRightlyDone, PagesAreOfStarts}
use Rattle.scan_laws.specs.Joins.{no_frame_left}

no_parts : (xs ys : List ℕ) → xs ++ ys ≡ [] → (xs ≡ []) × (ys ≡ [])
no_parts [] ys e = (refl, e)
no_parts (x ∷ xs) ys e = cc

-- BYTES
still_carries : (i : ℕ) (k : Make) (b : SessionView) (dev : AbstractDevice) (o : OptionsInForce) (more : List Frame) (heard rest bytes left : List ℕ) → b.flight ≡ bytes ++ left →
    DataUnderWay i k b dev o more heard rest → DataUnderWay i k (with_flight b left) dev o more (heard ++ bytes) rest
still_carries i k b dev o more heard rest bytes left e (inl h) =
    inl (record {
      meant = h.meant;
      held = h.held;
      ending = h.ending;
      transfer = h.transfer;
      unread = λ status r. let u = h.unread status r in let z = no_parts bytes left (sym e ∙ u.1) in (rw (u.0, z.0) refl, z.1);
    })
still_carries i k b dev o more heard rest bytes left e (inr (inl h)) =
    inr (inl (record { meant = h.meant; held = h.held; nothing = h.nothing; ending = h.ending; transfer = h.transfer }))
still_carries i k b dev o more heard rest bytes left e (inr (inr (inl h))) =
    let z = no_parts bytes left (sym e ∙ h.flight) in
    inr (inr (inl (record { mine = h.mine; ending = h.ending; flight = z.1; heard_none = rw (h.heard_none, z.0) refl; cause = h.cause; transfer = h.transfer })))
still_carries i k b dev o more heard rest bytes left e (inr (inr (inr h))) =
    inr (inr (inr (record { mine = h.mine; status = h.status; ending = h.ending; not_eof = h.not_eof; not_good = h.not_good; cause = h.cause; transfer = h.transfer })))

pub reads_right : (i : ℕ) (k : Make) (b : SessionView) (m : ClientView) (dev : AbstractDevice) (params : Params) (heard bytes left : List ℕ) → b.flight ≡ bytes ++ left →
    InSync i k b m dev (Imaging params heard) →
    IsRight i k (with_flight b left) (record m { stage = reads_on (frame_overflows params (heard ++ bytes)) params (heard ++ bytes) }) dev (reads_on (frame_overflows params (heard ++ bytes)) params (heard ++ bytes))
reads_right i k b m dev params heard bytes left e h =
    let all : (heard ++ bytes) ++ (left ++ h.rest) ≡ h.frame.payload = simp append_assoc (simp (e, append_assoc) at h.payload) in
    let fits : frame_overflows params (heard ++ bytes) ≡ false = rw h.params_are (h.continues.proper.1 (heard ++ bytes) (left ++ h.rest) all) in
    rw fits (record {
      frame = h.frame;
      more = h.more;
      continues = h.continues;
      params_are = h.params_are;
      order = h.order;
      awaited = h.awaited;
      rest = h.rest;
      payload = all;
      carries = still_carries i k b dev h.continues.begin.options h.more heard h.rest bytes left e h.carries;
    })

-- A WHOLE PAGE
-- the client is right, and its finished pages are those of their starts
abbrev IsRightAt : ℕ → Make → SessionView → AbstractDevice → ClientView → Type 0
IsRightAt i k b dev m = IsRight i k b m dev m.stage × PagesAreOfStarts k b m

some_frame : (fs : List Frame) (f : Frame) → fs ++ f ∷ [] ≢ []
some_frame [] f e = cc
some_frame (x ∷ fs) f e = cc

one_more : (k : Make) (ws : List RequestedSetting) (bs : List Begin) (ps : List (List Frame)) (b : Begin) (p : List Frame) → ArePictures k ws bs ps → IsPictureOfStart k ws b p → ArePictures k ws (bs ++ b ∷ []) (ps ++ p ∷ [])
one_more k ws [] [] b p h x = (x, tt)
one_more k ws [] (q ∷ ps) b p h x = absurd h
one_more k ws (a ∷ bs) [] b p h x = absurd h
one_more k ws (a ∷ bs) (q ∷ ps) b p h x = (h.0, one_more k ws bs ps b p h.1 x)

all_done : (k : Make) (b : SessionView) (m : ClientView) (o : OptionsInForce) (task : AbstractTask) (page : List Frame) → Scans task → length m.pages ≤ further_pages task → further_pages task ≤ length m.pages →
    ((reports : _) × (reports ≡ m.reports) × AllInForce k b.job b.sent reports o) → IsRightlyDone k b (record m { stage = Done; frames = []; pages = m.pages ++ page ∷ [] }) task
all_done k b m o List_ page s l g h = absurd s
all_done k b m o Show page s l g h = absurd s
all_done k b m o SetOnly page s l g h = absurd s
all_done k b m o Scan page s l g h = ((o, subst (λ r. AllInForce k b.job b.sent r o) h.1 h.2), let a = length-append m.pages (page ∷ []) in omega arith)
all_done k b m o (Batch n) page s l g h = ((o, subst (λ r. AllInForce k b.job b.sent r o) h.1 h.2), inl (let a = length-append m.pages (page ∷ []) in omega arith))

after_whole : (i : ℕ) (k : Make) (b : SessionView) (m : ClientView) (dev : AbstractDevice) (f meant : Frame) (x : Bool) → ltb (length m.pages) (further_pages b.job.task) ≡ x →
    (c : PageUnderWay k b.job b.sent b.started m.reports m.pages m.frames (f ∷ [])) → HoldsDevice i dev c.begin.options (phase_after_frame meant []) → b.transfer ≡ Quiet → b.awaited ≡ None →
    IsRight i k (with_nothing_in_flight b) (record m { stage = after_page x; frames = []; pages = m.pages ++ (m.frames ++ f ∷ []) ∷ [] }) dev (after_page x)
after_whole i k b m dev f meant true e c h q a =
    let l = ltb-true (length m.pages) (further_pages b.job.task) e in
    let n = length-append m.pages ((m.frames ++ f ∷ []) ∷ []) in
    inl (record {
      options = c.begin.options;
      held = h;
      still = record { transfer = q; flight = refl; ending = refl; awaited = a };
      settled = c.settled;
      scans = c.scans;
      frames = refl;
      pictures = subst (λ (bs : List Begin). ArePictures k b.job.settings bs (m.pages ++ (m.frames ++ f ∷ []) ∷ [])) (sym c.started)
          (one_more k b.job.settings c.earlier m.pages c.begin (m.frames ++ f ∷ []) c.pictures ((m.reports, c.settled.forced), c.frames, some_frame m.frames f));
      fewer = omega arith;
    })
after_whole i k b m dev f meant false e c h q a =
    all_done k (with_nothing_in_flight b) m c.begin.options b.job.task (m.frames ++ f ∷ []) c.scans c.fewer (ltb-false (length m.pages) (further_pages b.job.task) e) (m.reports, refl, c.settled)

pages_more : (k : Make) (b : SessionView) (m : ClientView) (f : Frame) (st : JobStage) → PageUnderWay k b.job b.sent b.started m.reports m.pages m.frames (f ∷ []) →
    PagesAreOfStarts k (with_nothing_in_flight b) (record m { stage = st; frames = []; pages = m.pages ++ (m.frames ++ f ∷ []) ∷ [] })
pages_more k b m f st c =
    record {
      begins = c.earlier ++ c.begin ∷ [];
      later = [];
      started = c.started ∙ sym (append-nil _);
      pictures = one_more k b.job.settings c.earlier m.pages c.begin (m.frames ++ f ∷ []) c.pictures ((m.reports, c.settled.forced), c.frames, some_frame m.frames f);
    }

pub same_pages : (k : Make) (b c : SessionView) (m n : ClientView) → c.job ≡ b.job → c.started ≡ b.started → n.pages ≡ m.pages → PagesAreOfStarts k b m → PagesAreOfStarts k c n
same_pages k b c m n j s p h =
    record {
      begins = h.begins;
      later = h.later;
      started = s ∙ h.started;
      pictures = subst (λ job. ArePictures k job.settings h.begins n.pages) (sym j) (subst (λ ps. ArePictures k b.job.settings h.begins ps) (sym p) h.pictures);
    }

-- A WHOLE FRAME
next_frame : (i : ℕ) (k : Make) (b : SessionView) (m : ClientView) (dev : AbstractDevice) (f meant : Frame) (more : List Frame) (x : Bool) → x ≡ no_frame_left more →
    (c : PageUnderWay k b.job b.sent b.started m.reports m.pages m.frames (f ∷ more)) → HoldsDevice i dev c.begin.options (phase_after_frame meant more) → b.transfer ≡ Quiet → b.awaited ≡ None → PagesAreOfStarts k b m →
    IsRightAt i k (with_nothing_in_flight b) dev (close_page x b.job.task f m)
next_frame i k b m dev f meant [] true e c h q a p =
    (after_whole i k b m dev f meant (ltb (length m.pages) (further_pages b.job.task)) refl c h q a, pages_more k b m f _ c)
next_frame i k b m dev f meant [] false e c h q a p = cc
next_frame i k b m dev f meant (g ∷ more) true e c h q a p = cc
next_frame i k b m dev f meant (g ∷ more) false e c h q a p = (
  inr (record {
    last = meant;
    frame = g;
    more = more;
    continues = record {
      earlier = c.earlier;
      begin = c.begin;
      started = c.started;
      settled = c.settled;
      frames = λ steady. append_assoc m.frames (f ∷ []) (g ∷ more) ∙ c.frames steady;
      proper = c.proper.6;
      scans = c.scans;
      pictures = c.pictures;
      fewer = c.fewer;
    };
    held = h;
    still = record { transfer = q; flight = refl; ending = refl; awaited = a };
  }),
  same_pages k b (with_nothing_in_flight b) m (record m { stage = Running Starting; frames = m.frames ++ f ∷ [] }) refl refl refl p,
)

whole_right : (i : ℕ) (k : Make) (b : SessionView) (m : ClientView) (dev : AbstractDevice) (params : Params) (heard : List ℕ) (f meant : Frame) (more : List Frame) → f ≡ record { params = params; order = m.order; payload = heard } →
    (c : PageUnderWay k b.job b.sent b.started m.reports m.pages m.frames (f ∷ more)) → HoldsDevice i dev c.begin.options (phase_after_frame meant more) → b.transfer ≡ Quiet → b.awaited ≡ None → PagesAreOfStarts k b m →
    IsRightAt i k (with_nothing_in_flight b) dev (close_frame (frame_fills params heard) b.job.task params heard m)
whole_right i k b m dev params heard f meant more e c h q a p =
    let w : frame_fills params heard ≡ true = ap (λ (x : Frame). frame_fills x.params x.payload) (sym e) ∙ c.proper.2 in
    let l : params.last_frame ≡ no_frame_left more = ap (λ (x : Frame). x.params.last_frame) (sym e) ∙ c.proper.4 in
    let n : close_page params.last_frame b.job.task f m ≡ close_frame (frame_fills params heard) b.job.task params heard m =
    ap (λ (x : Frame). close_page params.last_frame b.job.task x m) e ∙ ap (λ (x : Bool). close_frame x b.job.task params heard m) (sym w) in
    subst (λ (x : ClientView). IsRightAt i k (with_nothing_in_flight b) dev x) n (next_frame i k b m dev f meant more params.last_frame l c h q a p)

-- THE END OF A FRAME
pub refused : (status : Status) (task : AbstractTask) (params : Params) (heard : List ℕ) (m : ClientView) → status ≢ Eof → status ≢ Good → end_frame status task params heard m ≡ with_ending status Answer m
refused Good task params heard m e g = absurd (g refl)
refused Unsupported task params heard m e g = refl
refused Cancelled task params heard m e g = refl
refused DeviceBusy task params heard m e g = refl
refused Inval task params heard m e g = refl
refused Eof task params heard m e g = absurd (e refl)
refused Jammed task params heard m e g = refl
refused NoDocs task params heard m e g = refl
refused CoverOpen task params heard m e g = refl
refused IoError task params heard m e g = refl
refused NoMem task params heard m e g = refl
refused AccessDenied task params heard m e g = refl

ends_by : (i : ℕ) (k : Make) (b : SessionView) (m : ClientView) (dev : AbstractDevice) (params : Params) (heard : List ℕ) (status : Status) → b.flight ≡ [] → b.ending ≡ Some status → PagesAreOfStarts k b m →
    (h : Images i k b m dev params heard) → DataUnderWay i k b dev h.continues.begin.options h.more heard h.rest → IsRightAt i k (with_nothing_in_flight b) dev (end_frame status b.job.task params heard m)
ends_by i k b m dev params heard status n e p h (inl c) = absurd (cc (e, c.ending))
ends_by i k b m dev params heard status n e p h (inr (inl c)) =
    let z : status ≡ Eof = cc (e, c.ending) in
    let w : heard ≡ h.frame.payload = sym (append-nil heard) ∙ (rw (n, c.nothing) at h.payload) in
    let o : m.order ≡ h.frame.order = h.order ∙ sym h.continues.proper.5 in
    let f : h.frame ≡ record { params = params; order = m.order; payload = heard } = rw (h.params_are, w, o) refl in
    rw z (whole_right i k b m dev params heard h.frame c.meant h.more f h.continues c.held c.transfer h.awaited p)
ends_by i k b m dev params heard status n e p h (inr (inr (inl c))) =
    let z : status ≡ Eof = cc (e, c.ending) in
    let short : frame_fills params heard ≡ false = rw (c.heard_none, h.params_are) h.continues.proper.3 in
    rw (z, short) (inl c.cause, same_pages k b (with_nothing_in_flight b) m (with_ending IoError Short m) refl refl refl p)
ends_by i k b m dev params heard status n e p h (inr (inr (inr c))) =
    let z : status ≡ c.status = cc (e, c.ending) in
    rw (z, refused c.status b.job.task params heard m c.not_eof c.not_good) (inl c.cause, same_pages k b (with_nothing_in_flight b) m (with_ending c.status Answer m) refl refl refl p)

pub ends_right : (i : ℕ) (k : Make) (b : SessionView) (m : ClientView) (dev : AbstractDevice) (params : Params) (heard : List ℕ) (status : Status) → b.flight ≡ [] → b.ending ≡ Some status → PagesAreOfStarts k b m →
    InSync i k b m dev (Imaging params heard) → IsRightAt i k (with_nothing_in_flight b) dev (end_frame status b.job.task params heard m)
ends_right i k b m dev params heard status n e p h = ends_by i k b m dev params heard status n e p h h.carries
