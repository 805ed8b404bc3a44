-- What a scanner keeps through a scan, and what a feeder lets go of.
use Rattle.std.proofs.Common.{◌≡◌, ◌∙◌, ◌⊎◌, inl, inr, refl, sym, ap, subst, ℕ, Bool, true, false, List, [], ◌∷◌}
use Rattle.std.specs.Prelude.{◌≢◌, All, Result, Ok, Err, Option, Some, None}
use Rattle.std.proofs.lemmas.List.Elements.{All-head}
use Rattle.std.proofs.lemmas.Bool.{false≢true}
use Rattle.sane_fixed.specs.declared.status.Status.{Status}
use Rattle.sane_fixed.specs.declared.status.Status.TheVariants.{Good, Unsupported, Cancelled as CancelledStatus, DeviceBusy, Inval, Eof, Jammed, NoDocs, CoverOpen, IoError, NoMem, AccessDenied}
use Rattle.scan_job.specs.declared.outcome.Why.{Why}
use Rattle.scan_job.specs.declared.outcome.Why.TheVariants.{Answer, Cancelled, Lost, Malformed, Short, Long, Setting, Plain, Memory, Sink}
use Rattle.page_picture.specs.Page.{IsShaped, IsPageView}
use Rattle.scan_frames.specs.Frames.{params_at}
use Rattle.scan_frames.specs.declared.setup.Setup.{Setup}
use Rattle.device_api.specs.ScannerLimits.{HasLimits, IsHeldPage}
use Rattle.device_api.specs.State.{DeviceState, HeldPage, HasStopped, Phase, after_cancel, cancelled_in, with_failure_count, feeds, first_page, goes_to, is_at_rest, left_behind, page_of, params_in, state_at_rest, steady_of, after_stop, stopped_in, with_failures, with_phase}
use Rattle.device_api.specs.State.Phase.{AtRest, Between, Reading}
use Rattle.scan_laws.specs.Stays.{AreSamePages, IsSameScan, LetsGo}
use Rattle.local_job.specs.ScanCauses.{ScannerAnswers, ScanHasCause, HasFailedSource, IsCause}
use Rattle.scan_job.specs.declared.stop.Stop.{Stop}
use Rattle.local_job.specs.FrameReading.{KeepsDevice}

-- ---- pages

pub counted_again : (m n : ℕ) (pages : List HeldPage) → with_failure_count m (with_failure_count n pages) ≡ with_failure_count m pages
counted_again m n [] = refl
counted_again m n (held ∷ pages) = refl

pub left_counted : (n : ℕ) (pages : List HeldPage) → left_behind true (with_failure_count n pages) ≡ left_behind true pages
left_counted n [] = refl
left_counted n (held ∷ pages) = refl

pub same_then : (a b c : List HeldPage) → AreSamePages a b → AreSamePages b c → AreSamePages a c
same_then a b c (inl e) (inl f) = inl (f ∙ e)
same_then a b c (inl e) (inr (n, f)) = inr (n, f ∙ ap (with_failure_count n) e)
same_then a b c (inr (n, e)) (inl f) = inr (n, f ∙ e)
same_then a b c (inr (n, e)) (inr (m, f)) = inr (m, f ∙ ap (with_failure_count m) e ∙ counted_again m n a)

pub left_same : (a b : List HeldPage) → AreSamePages a b → left_behind true b ≡ left_behind true a
left_same a b (inl e) = ap (left_behind true) e
left_same a b (inr (n, e)) = ap (left_behind true) e ∙ left_counted n a

pub some_shaped : (pages : List HeldPage) → All IsHeldPage pages → pages ≢ [] → IsShaped (first_page pages).page
some_shaped [] all some = absurd (some refl)
some_shaped (held ∷ pages) all some = (All-head IsHeldPage held pages all).shape

pub steady_sheet : (pages : List HeldPage) → All IsHeldPage pages → (first_page pages).steady ≡ true → IsPageView (first_page pages).page
steady_sheet [] all steady = absurd (false≢true steady)
steady_sheet (held ∷ pages) all steady = (All-head IsHeldPage held pages all).view steady

pub some_told : (pages : List HeldPage) (setup : Setup) (pass : ℕ) → pages ≢ [] → params_in pages setup pass ≡ params_at setup (first_page pages).page pass
some_told [] setup pass some = absurd (some refl)
some_told (held ∷ pages) setup pass some = refl

-- ---- what a scan keeps

pub of_phase : (old new : DeviceState) (p : Phase) → new ≡ with_phase old p → KeepsDevice old new
of_phase old new p e = subst (λ (s : DeviceState). KeepsDevice old s) (sym e) (record { info = refl; setup = refl; pages = inl (inl refl) })

pub of_nothing : (old new : DeviceState) → new ≡ old → KeepsDevice old new
of_nothing old new e = subst (λ (s : DeviceState). KeepsDevice old s) (sym e) (record { info = refl; setup = refl; pages = inl (inl refl) })

-- a scanner at rest whose pages are those of before, or those that a feeder leaves
left_keeps : (b : Bool) (old new : DeviceState) (pages : List HeldPage) → feeds old ≡ b → new.info ≡ old.info → new.setup ≡ old.setup → is_at_rest new.phase ≡ true → AreSamePages old.pages pages → new.pages ≡ left_behind b pages → KeepsDevice old new
left_keeps false old new pages f info setup rest same e = record { info = info; setup = setup; pages = inl (subst (λ (ps : List HeldPage). AreSamePages old.pages ps) (sym e) same) }
left_keeps true old new pages f info setup rest same e = record { info = info; setup = setup; pages = inr (record { is_feeder = f; rests = rest; pages = e ∙ left_same old.pages pages same }) }

rests_keep : (old : DeviceState) (c : Bool) → KeepsDevice old (state_at_rest old c)
rests_keep old c = left_keeps (feeds old) old (state_at_rest old c) old.pages refl refl refl refl (inl refl) refl

pub of_goes : (old new : DeviceState) (p : Phase) → new ≡ goes_to old p → KeepsDevice old new
of_goes old new (AtRest c) e = subst (λ (s : DeviceState). KeepsDevice old s) (sym e) (rests_keep old c)
of_goes old new (Between n) e = of_phase old new (Between n) e
of_goes old new (Reading p n) e = of_phase old new (Reading p n) e

stopped_keeps : (p : Phase) (old : DeviceState) (n : ℕ) → KeepsDevice old (stopped_in p (with_failures old n))
stopped_keeps (AtRest c) old n = record { info = refl; setup = refl; pages = inl (inr (n, refl)) }
stopped_keeps (Between k) old n = left_keeps (feeds old) old (state_at_rest (with_failures old n) false) (with_failure_count n old.pages) refl refl refl refl (inr (n, refl)) refl
stopped_keeps (Reading k m) old n = left_keeps (feeds old) old (state_at_rest (with_failures old n) false) (with_failure_count n old.pages) refl refl refl refl (inr (n, refl)) refl

pub of_failure : (old new : DeviceState) → HasStopped old new → KeepsDevice old new
of_failure old new h = subst (λ (s : DeviceState). KeepsDevice old s) (sym h.after) (stopped_keeps old.phase old h.failures)

stop_keeps : (p : Phase) (old : DeviceState) → KeepsDevice old (stopped_in p old)
stop_keeps (AtRest c) old = record { info = refl; setup = refl; pages = inl (inl refl) }
stop_keeps (Between k) old = rests_keep old false
stop_keeps (Reading k m) old = rests_keep old false

pub of_stop : (old new : DeviceState) → new ≡ after_stop old → KeepsDevice old new
of_stop old new e = subst (λ (s : DeviceState). KeepsDevice old s) (sym e) (stop_keeps old.phase old)

-- a scan goes on from a scanner in another phase
pages_before : (old new : DeviceState) (p : Phase) → AreSamePages old.pages new.pages ⊎ LetsGo (with_phase old p) new → AreSamePages old.pages new.pages ⊎ LetsGo old new
pages_before old new p (inl same) = inl same
pages_before old new p (inr gone) = inr (record { is_feeder = gone.is_feeder; rests = gone.rests; pages = gone.pages })

before_phase : (old new : DeviceState) (p : Phase) → KeepsDevice (with_phase old p) new → KeepsDevice old new
before_phase old new p h = record { info = h.info; setup = h.setup; pages = pages_before old new p h.pages }

pub keeps_before : (old mid new : DeviceState) (p : Phase) → mid ≡ with_phase old p → KeepsDevice mid new → KeepsDevice old new
keeps_before old mid new p is h = before_phase old new p (subst (λ (s : DeviceState). KeepsDevice s new) is h)

-- and what is kept twice is kept, where nothing comes behind a rest
pages_then : (a b c : DeviceState) → feeds b ≡ feeds a → AreSamePages a.pages b.pages ⊎ LetsGo a b → AreSamePages b.pages c.pages ⊎ LetsGo b c → (is_at_rest b.phase ≡ true → c ≡ b) → AreSamePages a.pages c.pages ⊎ LetsGo a c
pages_then a b c f (inl s) (inl t) rest = inl (same_then a.pages b.pages c.pages s t)
pages_then a b c f (inl s) (inr gone) rest = inr (record { is_feeder = sym f ∙ gone.is_feeder; rests = gone.rests; pages = gone.pages ∙ left_same a.pages b.pages s })
pages_then a b c f (inr gone) next rest = inr (subst (λ (s : DeviceState). LetsGo a s) (sym (rest gone.rests)) gone)

pub further : (a b c : DeviceState) → KeepsDevice a b → KeepsDevice b c → (is_at_rest b.phase ≡ true → c ≡ b) → KeepsDevice a c
further a b c h k rest = record { info = k.info ∙ h.info; setup = k.setup ∙ h.setup; pages = pages_then a b c (ap (λ (s : Setup). feeds (record a { setup = s })) h.setup) h.pages k.pages rest }

-- ---- causes

stopped_pages : (p : Phase) (old : DeviceState) (n : ℕ) → ((stopped_in p (with_failures old n)).pages ≡ with_failure_count n old.pages) ⊎ ((stopped_in p (with_failures old n)).pages ≡ left_behind (feeds old) (with_failure_count n old.pages))
stopped_pages (AtRest c) old n = inl refl
stopped_pages (Between k) old n = inr refl
stopped_pages (Reading k m) old n = inr refl

stopped_rests : (p : Phase) (s : DeviceState) → is_at_rest (stopped_in p s).phase ≡ true
stopped_rests (AtRest c) s = refl
stopped_rests (Between k) s = refl
stopped_rests (Reading k m) s = refl

pub failed : (old new : DeviceState) → HasStopped old new → HasFailedSource old new
failed old new h = subst (λ (s : DeviceState). HasFailedSource old s) (sym h.after) (record {
  can_fail = h.can_fail;
  failures = h.failures;
  counts = h.counted;
  rests = stopped_rests old.phase (with_failures old h.failures);
  pages = stopped_pages old.phase old h.failures;
})

answer_by : (old new : DeviceState) (phase : Phase) (status : Status) → ScannerAnswers (with_phase old phase) new status → ScannerAnswers old new status
answer_by old new phase status (inl told) = inl told
answer_by old new phase status (inr (io, h)) = inr (io, record { can_fail = h.can_fail; failures = h.failures; counts = h.counts; rests = h.rests; pages = h.pages })

cause_by : (why : Why) (status : Status) (old new : DeviceState) (phase : Phase) → IsCause why status (with_phase old phase) new → IsCause why status old new
cause_by Answer status old new phase is = answer_by old new phase status is
cause_by Cancelled status old new phase is = is
cause_by Lost status old new phase is = is
cause_by Malformed status old new phase is = is
cause_by Short status old new phase is = is
cause_by Long status old new phase is = is
cause_by Setting status old new phase is = is
cause_by Plain status old new phase is = is
cause_by Memory status old new phase is = is
cause_by Sink status old new phase is = is

pub cause_before : (old mid new : DeviceState) (phase : Phase) (stop : Stop) → mid ≡ with_phase old phase → ScanHasCause stop mid new → ScanHasCause stop old new
cause_before old mid new phase stop is cause = cause_by stop.why stop.status old new phase (subst (λ (s : DeviceState). ScanHasCause stop s new) is cause)

-- a cancel of a scanner at rest does nothing
cancel_at : (p : Phase) (s : DeviceState) → is_at_rest p ≡ true → cancelled_in p s ≡ s
cancel_at (AtRest c) s rest = refl
cancel_at (Between n) s rest = absurd (false≢true rest)
cancel_at (Reading p n) s rest = absurd (false≢true rest)

pub cancel_rests : (s : DeviceState) → is_at_rest s.phase ≡ true → after_cancel s ≡ s
cancel_rests s rest = cancel_at s.phase s rest

cancel_by : (p : Phase) (s : DeviceState) → KeepsDevice s (cancelled_in p s)
cancel_by (AtRest c) s = of_nothing s s refl
cancel_by (Between n) s = rests_keep s true
cancel_by (Reading p n) s = rests_keep s true

pub cancel_keeps : (s : DeviceState) → KeepsDevice s (after_cancel s)
cancel_keeps s = cancel_by s.phase s

answer_after : (old new : DeviceState) (status : Status) → ScannerAnswers old new status → ScannerAnswers old (after_cancel new) status
answer_after old new status (inl told) = inl told
answer_after old new status (inr (io, h)) = inr (io, subst (λ (s : DeviceState). HasFailedSource old s) (sym (cancel_rests new h.rests)) h)

pub cause_after : (why : Why) (status : Status) (old new : DeviceState) → IsCause why status old new → IsCause why status old (after_cancel new)
cause_after Answer status old new is = answer_after old new status is
cause_after Cancelled status old new is = is
cause_after Lost status old new is = is
cause_after Malformed status old new is = is
cause_after Short status old new is = is
cause_after Long status old new is = is
cause_after Setting status old new is = is
cause_after Plain status old new is = is
cause_after Memory status old new is = is
cause_after Sink status old new is = is
