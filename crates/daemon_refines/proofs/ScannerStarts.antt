-- A start of a scanner, as the model sees it.
use Rattle.std.proofs.Common.{inl, inr, ◌≡◌, ◌≢◌, ◌∙◌, ◌≤◌, ◌+◌, ℕ, List, [], ◌∷◌, Bool, true, false, Option, Some, None, refl, sym, ap, subst, drop, arith}
use Rattle.std.specs.Prelude.{Result, Ok, Err, if◌then◌else◌}
use Rattle.sane_fixed.specs.declared.status.Status.{Status}
use Rattle.sane_fixed.specs.declared.status.Status.TheVariants as code
use Rattle.page_picture.specs.Page.{PageView}
use Rattle.page_picture.specs.Shows.{Frame}
use Rattle.page_picture.specs.Source.{CountsFailure}
use Rattle.page_picture.specs.declared.scene.DeviceKind.{DeviceKind}
use Rattle.scan_frames.specs.Frames.{frame_of, frames_of, has_picture, last_pass}
use Rattle.scan_frames.specs.declared.setup.Setup.{Setup}
use Rattle.device_api.specs.ScannerLimits.{IsAllowed}
use Rattle.device_api.specs.Kinds.{is_feeder, Page, after_start}
use Rattle.device_api.specs.State.{DeviceState, HasStopped, HeldPage, Phase as AnyPhase, Starts, StartsFrame, StartsIn, StartsOn, with_failure_count, failures_of, feeds, first_page, is_at_rest, left_behind, next_pass, page_of, after_stop, stopped_in, with_failures, with_phase}
use Rattle.device_api.specs.State.Phase.{AtRest as Rest, Between as Amid, Reading as Read}
use Rattle.device_api.proofs.KindLaws.{start_leaves}
use Rattle.device_api.proofs.SameLaws.{start_same}
use Rattle.scan_laws.specs.Passes as scan
use Rattle.scan_laws.specs.SetAndJoin as rules
use Rattle.scan_laws.proofs.Places.{frames_from, start_in}
use Rattle.system_model.specs.AbstractMessages.{Begun, Refused, AbstractReply}
use Rattle.system_model.specs.Devices.{Make, picture_frames as frames_given, order_of}
use Rattle.system_model.specs.AbstractDevices.{Resting, Reading, put_down}
use Rattle.system_model.specs.Transitions.{IsFault, MayFail}
use Rattle.system_model.specs.Daemon.{TransferState, Quiet, Waiting, FailureCounts, AnswerEffect, begin_page, begin_pass, start_at, start_or_fail, start_page}
use Rattle.daemon_refines.specs.ContextRefinement.{IsMade, pages_to_come, phase_at, abstract_device, abstract_device_as, page_views, tray_of}
use Rattle.daemon_refines.specs.Failures.{HasBytesLeft, IsFailureIn}
use Rattle.daemon_refines.proofs.Sources.{failing_is_fallible, start_sources}
use Rattle.daemon_refines.proofs.Scanning.{reads_at, waits_at}

-- the frame behind a start
abbrev pub carriage_by : Result Unit Status → TransferState
carriage_by (Ok _) = Waiting
carriage_by (Err _) = Quiet

abbrev pub answer_by : Setup → Result Unit Status → AbstractReply
answer_by setup (Ok _) = Begun setup.order
answer_by setup (Err y) = Refused y

-- the model serves a start as the device does
pub record Served_as (s : DeviceState) (answer : Result Unit Status) (after : DeviceState) (holder : Option ℕ) (v : AnswerEffect) : Type 0 where
  pub told : v.told ≡ answer_by s.setup answer ∷ []
  pub on : v.goes_on ≡ true
  pub device : v.device ≡ abstract_device holder after
  pub transfer : v.transfer ≡ carriage_by answer

-- with the failure that the page's source counted, or none
pub record StartServed (k : Make) (s : DeviceState) (answer : Result Unit Status) (after : DeviceState) (holder : Option ℕ) : Type 0 where
  pub fault : Option FailureCounts
  pub may : MayFail k fault
  pub counted : IsFailureIn s after fault
  pub serves : (again : Bool) → Served_as s answer after holder (start_or_fail k (abstract_device holder s) Quiet again fault)

-- ---- pages

-- a feeder takes its first page out
views_left : (feeder : Bool) (pages : List HeldPage) → left_behind feeder (page_views pages) ≡ page_views (left_behind feeder pages)
views_left false pages = refl
views_left true [] = refl
views_left true (held ∷ pages) = refl

taken_out : (kind : DeviceKind) (pages : List HeldPage) → after_start kind (page_views pages) ≡ page_views (left_behind (is_feeder kind) pages)
taken_out kind pages = start_leaves kind (page_views pages) ∙ views_left (is_feeder kind) pages

same_sheets : (n : ℕ) (pages : List HeldPage) → page_views (with_failure_count n pages) ≡ page_views pages
same_sheets n [] = refl
same_sheets n (held ∷ pages) = refl

same_left : (b : Bool) (n : ℕ) (pages : List HeldPage) → page_views (left_behind b (with_failure_count n pages)) ≡ page_views (left_behind b pages)
same_left false n pages = same_sheets n pages
same_left true n [] = refl
same_left true n (held ∷ pages) = refl

-- ---- a scanner that a start does not begin to read

-- at rest
rested : (holder : Option ℕ) (s : DeviceState) (c : Bool) → s.phase ≡ Rest c → abstract_device holder s ≡ abstract_device_as holder s.setup (tray_of s) Resting
rested holder s c at = ap (λ (p : AnyPhase). abstract_device_as holder s.setup (tray_of s) (phase_at (scan.scan_place_in p (frames_of s.setup (page_of s))))) at

stopped_at : (phase : AnyPhase) (holder : Option ℕ) (s : DeviceState) → s.phase ≡ phase → abstract_device_as holder s.setup (tray_of s) Resting ≡ abstract_device holder (stopped_in phase s)
stopped_at (Rest c) holder s e = ap (λ (p : AnyPhase). abstract_device_as holder s.setup (page_views (pages_to_come p s)) Resting) e
stopped_at (Amid ended) holder s e = ap (λ (p : AnyPhase). abstract_device_as holder s.setup (page_views (pages_to_come p s)) Resting) e
stopped_at (Read pass given) holder s e = ap (λ (p : AnyPhase). abstract_device_as holder s.setup (page_views (pages_to_come p s)) Resting) e

stopped_is : (holder : Option ℕ) (s after : DeviceState) (c : Bool) → s.phase ≡ Rest c → after ≡ after_stop s → abstract_device holder s ≡ abstract_device holder after
stopped_is holder s after c at is = rested holder s c at ∙ stopped_at s.phase holder s refl ∙ sym (ap (λ (d : DeviceState). abstract_device holder d) is)

-- its source failed
counted_at : (phase : AnyPhase) (s : DeviceState) (n : ℕ) → page_views (pages_to_come phase (with_failures s n)) ≡ page_views (pages_to_come phase s)
counted_at (Rest c) s n = same_sheets n s.pages
counted_at (Amid ended) s n = same_left (feeds s) n s.pages
counted_at (Read pass given) s n = same_left (feeds s) n s.pages

pub failed_is : (holder : Option ℕ) (s after : DeviceState) → HasStopped s after → put_down (abstract_device holder s) ≡ abstract_device holder after
failed_is holder s after h =
    ap (λ (tray : List PageView). abstract_device_as holder s.setup tray Resting) (sym (counted_at s.phase s h.failures)) ∙ stopped_at s.phase holder (with_failures s h.failures) refl ∙ sym (ap (λ (d : DeviceState). abstract_device holder d) h.after)

pub is_fault : (old new : ℕ) → CountsFailure old new → IsFault (record { before = old; after = new })
is_fault old new (inl e) = inl (omega arith)
is_fault old new (inr e) = inr e.0

failed : (k : Make) (s after : DeviceState) (holder : Option ℕ) → IsMade k s → s.pages ≢ [] → HasBytesLeft s s.phase → HasStopped s after → StartServed k s (Err code.IoError) after holder
failed k s after holder made some left h =
    record {
      fault = Some (record { before = failures_of s; after = h.failures });
      may = (failing_is_fallible k s made some h.can_fail, is_fault (failures_of s) h.failures h.counted);
      counted = record { stopped = h; left = left; before = refl; after = refl };
      serves = λ again. record { told = refl; on = refl; device = failed_is holder s after h; transfer = refl };
    }

-- ---- a scanner that is read

-- the frames of a picture that there is
given_frames : (k : Make) (o : Setup) (page : PageView) → has_picture o page ≡ true → frames_given k o page ≡ frames_of o page
unfolding frames_given rules.frames_given
given_frames k o page e = ap (λ (b : Bool). if b then frames_of o page else []) e

no_frames : (k : Make) (o : Setup) (page : PageView) → has_picture o page ≡ false → frames_given k o page ≡ []
unfolding frames_given rules.frames_given
no_frames k o page e = ap (λ (b : Bool). if b then frames_of o page else []) e

-- the device, reading the frame of this pass
reads : (holder : Option ℕ) (s after : DeviceState) (pass : ℕ) → pass ≤ last_pass s.setup → after ≡ with_phase s (Read pass 0) →
    abstract_device_as holder s.setup (page_views (left_behind (feeds s) s.pages)) (Reading (frame_of s.setup (page_of s) pass) (frame_of s.setup (page_of s) pass).payload (drop (pass + 1) (frames_of s.setup (page_of s)))) ≡ abstract_device holder after
reads holder s after pass few is =
    sym (ap (λ (d : DeviceState). abstract_device holder d) is ∙ ap (λ (p : scan.ScanPlace). abstract_device_as holder s.setup (page_views (left_behind (feeds s) s.pages)) (phase_at p)) (reads_at s.setup (page_of s) pass 0 few))

-- the tray behind the first page's start
tray_begun : (k : Make) (s : DeviceState) (c : Bool) → IsMade k s → s.phase ≡ Rest c → after_start k.model (tray_of s) ≡ page_views (left_behind (feeds s) s.pages)
tray_begun k s c made at =
    ap (λ (kind : DeviceKind). after_start kind (tray_of s)) made.kind ∙ ap (λ (p : AnyPhase). after_start s.setup.scene.kind (page_views (pages_to_come p s))) at ∙ taken_out s.setup.scene.kind s.pages

-- a page is begun
page_begun : (k : Make) (s after : DeviceState) (holder : Option ℕ) (c : Bool) → IsMade k s → s.phase ≡ Rest c → has_picture s.setup (page_of s) ≡ true → after ≡ with_phase s (Read 0 0) →
    Served_as s (Ok tt) after holder (begin_page k (abstract_device holder s) Quiet (page_of s) (frames_given k s.setup (page_of s)))
unfolding order_of
page_begun k s after holder c made at there is =
    let page = page_of s in
    subst (λ (fs : List Frame). Served_as s (Ok tt) after holder (begin_page k (abstract_device holder s) Quiet page fs)) (sym (given_frames k s.setup page there ∙ frames_from s.setup page 0 (omega arith)))
    (record {
      told = refl;
      on = refl;
      device = ap (λ (t : List Page). abstract_device_as holder s.setup t (Reading (frame_of s.setup page 0) (frame_of s.setup page 0).payload (drop (0 + 1) (frames_of s.setup page)))) (tray_begun k s c made at) ∙ reads holder s after 0 (omega arith) is;
      transfer = refl;
    })

-- a page means no picture
page_refused : (k : Make) (s after : DeviceState) (holder : Option ℕ) (c : Bool) → s.phase ≡ Rest c → has_picture s.setup (page_of s) ≡ false → after ≡ after_stop s →
    Served_as s (Err code.Inval) after holder (begin_page k (abstract_device holder s) Quiet (page_of s) (frames_given k s.setup (page_of s)))
page_refused k s after holder c at none is =
    subst (λ (fs : List Frame). Served_as s (Err code.Inval) after holder (begin_page k (abstract_device holder s) Quiet (page_of s) fs)) (sym (no_frames k s.setup (page_of s) none))
    (record { told = refl; on = refl; device = stopped_is holder s after c at is; transfer = refl })

-- the next pass is begun
pass_begun : (k : Make) (s after : DeviceState) (holder : Option ℕ) (pass : ℕ) → s.phase ≡ Amid pass → pass ≤ last_pass s.setup → after ≡ with_phase s (Read pass 0) →
    Served_as s (Ok tt) after holder (begin_pass k (abstract_device holder s) Quiet (frame_of s.setup (page_of s) pass ∷ drop (pass + 1) (frames_of s.setup (page_of s))))
unfolding order_of
pass_begun k s after holder pass at few is =
    let page = page_of s in
    record {
      told = refl;
      on = refl;
      device = ap (λ (p : AnyPhase). abstract_device_as holder s.setup (page_views (pages_to_come p s)) (Reading (frame_of s.setup page pass) (frame_of s.setup page pass).payload (drop (pass + 1) (frames_of s.setup page)))) at ∙ reads holder s after pass few is;
      transfer = refl;
    }

-- ---- the answer, by the phase

-- the model goes by what they see of the phase
by_phase : (k : Make) (s after : DeviceState) (holder : Option ℕ) (answer : Result Unit Status) (again : Bool) (phase : AnyPhase) (place : scan.ScanPlace) → s.phase ≡ phase → scan.scan_place_in phase (frames_of s.setup (page_of s)) ≡ place →
    Served_as s answer after holder (start_at k (abstract_device holder s) Quiet again (phase_at place)) → Served_as s answer after holder (start_or_fail k (abstract_device holder s) Quiet again None)
by_phase k s after holder answer again phase place at is h =
    subst (λ (p : AnyPhase). Served_as s answer after holder (start_at k (abstract_device holder s) Quiet again (phase_at (scan.scan_place_in p (frames_of s.setup (page_of s)))))) (sym at)
    (subst (λ (p : scan.ScanPlace). Served_as s answer after holder (start_at k (abstract_device holder s) Quiet again (phase_at p))) (sym is) h)

-- at rest by the pages in the tray
at_rest : (k : Make) (s after : DeviceState) (holder : Option ℕ) (c : Bool) (answer : Result Unit Status) (again : Bool) (tray : List PageView) → s.phase ≡ Rest c → page_views s.pages ≡ tray → Served_as s answer after holder (start_page k (abstract_device holder s) Quiet again tray) →
    Served_as s answer after holder (start_or_fail k (abstract_device holder s) Quiet again None)
at_rest k s after holder c answer again tray at is h =
    by_phase k s after holder answer again (Rest c) scan.Resting at refl
    (subst (λ (p : AnyPhase). Served_as s answer after holder (start_page k (abstract_device holder s) Quiet again (page_views (pages_to_come p s)))) (sym at)
    (subst (λ (t : List PageView). Served_as s answer after holder (start_page k (abstract_device holder s) Quiet again t)) (sym is) h))

first_sheet : (s : DeviceState) (held : HeldPage) (pages : List HeldPage) → s.pages ≡ held ∷ pages → page_views s.pages ≡ page_of s ∷ page_views pages
first_sheet s held pages e = ap page_views e ∙ ap (λ (p : PageView). p ∷ page_views pages) (sym (ap (λ (ps : List HeldPage). (first_page ps).page) e))

page_starts : (k : Make) (s after : DeviceState) (holder : Option ℕ) (c : Bool) (answer : Result Unit Status) (held : HeldPage) (pages : List HeldPage) → IsMade k s → s.phase ≡ Rest c → s.pages ≡ held ∷ pages → StartsFrame s answer after → answer ≢ Err code.NoMem → StartServed k s answer after holder
page_starts k s after holder c (Ok u) held pages made at e h n =
    record {
      fault = None;
      may = tt;
      counted = tt;
      serves = λ again. at_rest k s after holder c (Ok tt) again (page_of s ∷ page_views pages) at (first_sheet s held pages e)
          (page_begun k s after holder c made at h.0 (h.1 ∙ ap (λ (p : AnyPhase). with_phase s (Read (next_pass p) 0)) at));
    }
page_starts k s after holder c (Err code.Inval) held pages made at e h n =
    record { fault = None; may = tt; counted = tt; serves = λ again. at_rest k s after holder c (Err code.Inval) again (page_of s ∷ page_views pages) at (first_sheet s held pages e) (page_refused k s after holder c at h.0 h.1) }
page_starts k s after holder c (Err code.IoError) held pages made at e h n = failed k s after holder made (λ none. let clash : held ∷ pages ≡ [] = sym e ∙ none in cc) (subst (HasBytesLeft s) (sym at) tt) h.1
page_starts k s after holder c (Err code.NoMem) held pages made at e h n = absurd (n refl)
page_starts k s after holder c (Err code.Good) held pages made at e h n = absurd h
page_starts k s after holder c (Err code.Unsupported) held pages made at e h n = absurd h
page_starts k s after holder c (Err code.Cancelled) held pages made at e h n = absurd h
page_starts k s after holder c (Err code.DeviceBusy) held pages made at e h n = absurd h
page_starts k s after holder c (Err code.Eof) held pages made at e h n = absurd h
page_starts k s after holder c (Err code.Jammed) held pages made at e h n = absurd h
page_starts k s after holder c (Err code.NoDocs) held pages made at e h n = absurd h
page_starts k s after holder c (Err code.CoverOpen) held pages made at e h n = absurd h
page_starts k s after holder c (Err code.AccessDenied) held pages made at e h n = absurd h

rest_starts : (k : Make) (s after : DeviceState) (holder : Option ℕ) (c : Bool) (answer : Result Unit Status) (pages : List HeldPage) → IsMade k s → s.phase ≡ Rest c → s.pages ≡ pages → StartsOn pages s answer after → answer ≢ Err code.NoMem → StartServed k s answer after holder
rest_starts k s after holder c answer [] made at e h n =
    subst (λ (r : Result Unit Status). StartServed k s r after holder) (sym h.0)
    (record { fault = None; may = tt; counted = tt; serves = λ again. at_rest k s after holder c (Err code.NoDocs) again [] at (ap page_views e) (record { told = refl; on = refl; device = stopped_is holder s after c at h.1; transfer = refl }) })
rest_starts k s after holder c answer (held ∷ pages) made at e h n = page_starts k s after holder c answer held pages made at e h n

-- between passes there is a page, and a picture
of_page : (pages : List HeldPage) (s after : DeviceState) (answer : Result Unit Status) → pages ≢ [] → StartsOn pages s answer after → StartsFrame s answer after
of_page [] s after answer some h = absurd (some refl)
of_page (held ∷ pages) s after answer some h = h

amid_starts : (k : Make) (s after : DeviceState) (holder : Option ℕ) (ended : ℕ) (answer : Result Unit Status) → IsMade k s → s.pages ≢ [] → s.phase ≡ Amid ended → scan.IsPhaseOf (Amid ended) s.setup (page_of s) → StartsFrame s answer after → answer ≢ Err code.NoMem → StartServed k s answer after holder
amid_starts k s after holder ended (Ok u) made some at in_scan h n =
    record {
      fault = None;
      may = tt;
      counted = tt;
      serves = λ again.
          by_phase k s after holder (Ok tt) again (Amid ended) _ at (waits_at s.setup (page_of s) ended in_scan.1 in_scan.2)
          (pass_begun k s after holder ended at in_scan.2 (h.1 ∙ ap (λ (p : AnyPhase). with_phase s (Read (next_pass p) 0)) at));
    }
amid_starts k s after holder ended (Err code.Inval) made some at in_scan h n = absurd (let clash : true ≡ false = sym in_scan.0 ∙ h.0 in cc)
amid_starts k s after holder ended (Err code.IoError) made some at in_scan h n = failed k s after holder made some (subst (HasBytesLeft s) (sym at) tt) h.1
amid_starts k s after holder ended (Err code.NoMem) made some at in_scan h n = absurd (n refl)
amid_starts k s after holder ended (Err code.Good) made some at in_scan h n = absurd h
amid_starts k s after holder ended (Err code.Unsupported) made some at in_scan h n = absurd h
amid_starts k s after holder ended (Err code.Cancelled) made some at in_scan h n = absurd h
amid_starts k s after holder ended (Err code.DeviceBusy) made some at in_scan h n = absurd h
amid_starts k s after holder ended (Err code.Eof) made some at in_scan h n = absurd h
amid_starts k s after holder ended (Err code.Jammed) made some at in_scan h n = absurd h
amid_starts k s after holder ended (Err code.NoDocs) made some at in_scan h n = absurd h
amid_starts k s after holder ended (Err code.CoverOpen) made some at in_scan h n = absurd h
amid_starts k s after holder ended (Err code.AccessDenied) made some at in_scan h n = absurd h

busy_start : (k : Make) (s after : DeviceState) (holder : Option ℕ) (pass given : ℕ) (answer : Result Unit Status) → s.phase ≡ Read pass given → pass ≤ last_pass s.setup → answer ≡ Err code.DeviceBusy → after ≡ s → StartServed k s answer after holder
busy_start k s after holder pass given answer at few busy same =
    subst (λ (r : Result Unit Status). StartServed k s r after holder) (sym busy)
    (record {
      fault = None;
      may = tt;
      counted = tt;
      serves = λ again.
          by_phase k s after holder (Err code.DeviceBusy) again (Read pass given) _ at (reads_at s.setup (page_of s) pass given few)
          (record { told = refl; on = refl; device = sym (ap (λ (d : DeviceState). abstract_device holder d) same); transfer = refl });
    })

starts_in : (k : Make) (s after : DeviceState) (holder : Option ℕ) (phase : AnyPhase) (answer : Result Unit Status) → IsMade k s → s.phase ≡ phase → scan.IsPhaseOf phase s.setup (page_of s) → (is_at_rest phase ≡ false → s.pages ≢ []) → StartsIn phase s answer after → answer ≢ Err code.NoMem → StartServed k s answer after holder
starts_in k s after holder (Rest c) answer made at in_scan some h n = rest_starts k s after holder c answer s.pages made at refl h n
starts_in k s after holder (Amid ended) answer made at in_scan some h n = amid_starts k s after holder ended answer made (some refl) at in_scan (of_page s.pages s after answer (some refl) h) n
starts_in k s after holder (Read pass given) answer made at in_scan some h n = busy_start k s after holder pass given answer at in_scan.1 h.0 h.1

pub start_served : (k : Make) (s after : DeviceState) (holder : Option ℕ) (answer : Result Unit Status) → IsMade k s → Starts s answer after → answer ≢ Err code.NoMem → StartServed k s answer after holder
start_served k s after holder answer made h n = starts_in k s after holder s.phase answer made refl made.in_scan.phase made.in_scan.page h n

-- ---- a start for which memory runs out leaves the device at rest

starved_on : (pages : List HeldPage) (s after : DeviceState) → StartsOn pages s (Err code.NoMem) after → after ≡ after_stop s
starved_on [] s after h = absurd (let clash : Err code.NoMem ≡ Err code.NoDocs = h.0 in cc)
starved_on (held ∷ pages) s after h = h.1

pub starved_in : (phase : AnyPhase) (s after : DeviceState) → StartsIn phase s (Err code.NoMem) after → after ≡ after_stop s
starved_in (Rest c) s after h = starved_on s.pages s after h
starved_in (Amid ended) s after h = starved_on s.pages s after h
starved_in (Read pass given) s after h = absurd (let clash : Err code.NoMem ≡ Err code.DeviceBusy = h.0 in cc)

pub starved_is : (holder : Option ℕ) (s after : DeviceState) → Starts s (Err code.NoMem) after → put_down (abstract_device holder s) ≡ abstract_device holder after
starved_is holder s after h = stopped_at s.phase holder s refl ∙ sym (ap (λ (d : DeviceState). abstract_device holder d) (starved_in s.phase s after h))

-- ---- what it stays

stopped_setup : (phase : AnyPhase) (s : DeviceState) → (stopped_in phase s).setup ≡ s.setup
stopped_setup (Rest c) s = refl
stopped_setup (Amid ended) s = refl
stopped_setup (Read pass given) s = refl

pub setup_of : (s t u : DeviceState) → t ≡ u → u.setup ≡ s.setup → t.setup ≡ s.setup
setup_of s t u e h = ap (λ (d : DeviceState). d.setup) e ∙ h

pub failed_setup : (s t : DeviceState) → HasStopped s t → t.setup ≡ s.setup
failed_setup s t h = setup_of s t _ h.after (stopped_setup s.phase (with_failures s h.failures))

frame_setup : (s t : DeviceState) (r : Result Unit Status) → StartsFrame s r t → t.setup ≡ s.setup
frame_setup s t (Ok _) h = setup_of s t _ h.1 refl
frame_setup s t (Err code.Inval) h = setup_of s t _ h.1 (stopped_setup s.phase s)
frame_setup s t (Err code.IoError) h = failed_setup s t h.1
frame_setup s t (Err code.NoMem) h = setup_of s t _ h.1 (stopped_setup s.phase s)
frame_setup s t (Err code.Good) h = absurd h
frame_setup s t (Err code.Unsupported) h = absurd h
frame_setup s t (Err code.Cancelled) h = absurd h
frame_setup s t (Err code.DeviceBusy) h = absurd h
frame_setup s t (Err code.Eof) h = absurd h
frame_setup s t (Err code.Jammed) h = absurd h
frame_setup s t (Err code.NoDocs) h = absurd h
frame_setup s t (Err code.CoverOpen) h = absurd h
frame_setup s t (Err code.AccessDenied) h = absurd h

on_setup : (pages : List HeldPage) (s t : DeviceState) (r : Result Unit Status) → StartsOn pages s r t → t.setup ≡ s.setup
on_setup [] s t r h = setup_of s t _ h.1 (stopped_setup s.phase s)
on_setup (held ∷ pages) s t r h = frame_setup s t r h

in_setup : (phase : AnyPhase) (s t : DeviceState) (r : Result Unit Status) → StartsIn phase s r t → t.setup ≡ s.setup
in_setup (Rest c) s t r h = on_setup s.pages s t r h
in_setup (Amid ended) s t r h = on_setup s.pages s t r h
in_setup (Read pass given) s t r h = setup_of s t s h.1 refl

pub made_started : (k : Make) (s t : DeviceState) (r : Result Unit Status) → IsMade k s → Starts s r t → IsMade k t
made_started k s t r made h =
    let same = start_same s t r h in
    record {
      sources = start_sources s t r h k made.sources;
      kind = made.kind ∙ sym same.setup.kind;
      order = made.order ∙ sym same.setup.order;
      allowed = subst (λ (o : Setup). IsAllowed o) (sym (in_setup s.phase s t r h)) made.allowed;
      in_scan = start_in s t r made.in_scan h;
    }
