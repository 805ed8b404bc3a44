-- What a scanner's calls do, as the model sees them.
use Rattle.std.proofs.Common.{◌≡◌, ◌≢◌, ◌∙◌, ◌≤◌, ◌+◌, ◌-◌, ℕ, List, [], ◌∷◌, true, false, Option, Some, None, option_map, refl, sym, ap, subst, drop, arith}
use Rattle.std.specs.Prelude.{Result, Ok, Err}
use Rattle.sane_fixed.specs.declared.info.Info.{Info}
use Rattle.sane_fixed.specs.declared.status.Status.{Status as Code}
use Rattle.sane_fixed.specs.declared.status.Status.TheVariants as code
use Rattle.option_desc.specs.declared.value.Value.{Value}
use Rattle.page_picture.specs.Page.{PageView}
use Rattle.page_picture.specs.Shows.{Frame}
use Rattle.scan_frames.specs.Frames.{frame_of, frames_of, last_pass, params_at}
use Rattle.scan_frames.specs.declared.setup.Setup.{Setup}
use Rattle.device_api.specs.ScannerLimits.{IsAllowed}
use Rattle.device_api.specs.Values as values
use Rattle.device_api.specs.Values.{option_got, option_set}
use Rattle.device_api.specs.State.{DeviceState, HeldPage, Phase as AnyPhase, after_cancel, after_reset, after_set, cancelled_in, first_page, is_at_rest, page_of, reported_pass, set_answer, params_in as params_told, params_of as told_params}
use Rattle.device_api.specs.State.Phase.{AtRest as Rest, Between as Amid, Reading as Read}
use Rattle.device_api.proofs.AllowedLaws.{defaults_allowed}
use Rattle.device_api.proofs.SameLaws.{cancel_same, reset_same, set_same}
use Rattle.scan_laws.specs.Passes as scan
use Rattle.scan_laws.specs.SetAndJoin as rules
use Rattle.scan_laws.proofs.Places.{cancel_in, frames_from, reset_in, set_in}
use Rattle.scan_laws.proofs.Sets.{get_refused, set_allowed, set_refused}
use Rattle.system_model.specs.Daemon.{abstract_params}
use Rattle.system_model.specs.Devices.{Make, default_options, params_at_rest, params_of_tray, accept_value, abstract_accepted_set}
use Rattle.system_model.specs.AbstractDevices.{Resting, is_resting, put_back, put_down}
use Rattle.daemon_refines.specs.ContextRefinement.{IsMade, pages_to_come, phase_at, abstract_device, abstract_device_as, page_views, tray_of}
use Rattle.daemon_refines.proofs.Sources.{cancel_sources, reset_sources}

pub got_refused : (s : Setup) (n : ℕ) (y : Code) → option_got s n ≡ Err y → y ≡ code.Inval
got_refused s n y e = get_refused s n y e

pub set_refusal : (s : Setup) (n : ℕ) (asked : Value) (y : Code) → option_set s n asked ≡ Err y → y ≡ code.Inval
set_refusal s n asked y e = set_refused s n asked y e

-- ---- where it is

-- between two passes the frame that ended is the one before
pub waits_at : (s : Setup) (page : PageView) (ended : ℕ) → 1 ≤ ended → ended ≤ last_pass s →
    scan.scan_place_in (Amid ended) (frames_of s page) ≡ scan.Waiting (frame_of s page (ended - 1)) (frame_of s page ended ∷ drop (ended + 1) (frames_of s page))
waits_at s page ended some few =
    let n : ended - 1 + 1 ≡ ended = omega arith in
    ap scan.ended_first (frames_from s page (ended - 1) (omega arith)) ∙ ap (λ (k : ℕ). scan.place_waiting (frame_of s page (ended - 1)) (drop k (frames_of s page))) n
    ∙ ap (λ (fs : List Frame). scan.place_waiting (frame_of s page (ended - 1)) fs) (frames_from s page ended few)

pub reads_at : (s : Setup) (page : PageView) (pass given : ℕ) → pass ≤ last_pass s →
    scan.scan_place_in (Read pass given) (frames_of s page) ≡ scan.Giving (frame_of s page pass) (drop given (frame_of s page pass).payload) (drop (pass + 1) (frames_of s page))
reads_at s page pass given few = ap (λ (fs : List Frame). scan.place_giving fs given) (frames_from s page pass few)

-- at rest by one where at rest by the other
rests_in : (phase : AnyPhase) (setup : Setup) (page : PageView) → scan.IsPhaseOf phase setup page → is_resting (phase_at (scan.scan_place_in phase (frames_of setup page))) ≡ is_at_rest phase
rests_in (Rest c) setup page h = refl
rests_in (Amid ended) setup page h = ap (λ (p : scan.ScanPlace). is_resting (phase_at p)) (waits_at setup page ended h.1 h.2)
rests_in (Read pass given) setup page h = ap (λ (p : scan.ScanPlace). is_resting (phase_at p)) (reads_at setup page pass given h.1)

pub rests : (s : DeviceState) → scan.IsInScan s → is_resting (phase_at (scan.place_of s)) ≡ is_at_rest s.phase
rests s h = rests_in s.phase s.setup (page_of s) h.phase

-- ---- a cancel

cancelled_at : (phase : AnyPhase) (holder : Option ℕ) (s : DeviceState) → s.phase ≡ phase → abstract_device_as holder s.setup (tray_of s) Resting ≡ abstract_device holder (cancelled_in phase s)
cancelled_at (Rest c) holder s e = ap (λ (p : AnyPhase). abstract_device_as holder s.setup (tray_of s) (phase_at (scan.scan_place_in p (frames_of s.setup (page_of s))))) (sym e)
cancelled_at (Amid ended) holder s e = ap (λ (p : AnyPhase). abstract_device_as holder s.setup (page_views (pages_to_come p s)) Resting) e
cancelled_at (Read pass given) holder s e = ap (λ (p : AnyPhase). abstract_device_as holder s.setup (page_views (pages_to_come p s)) Resting) e

pub cancelled_is : (holder : Option ℕ) (s : DeviceState) → put_down (abstract_device holder s) ≡ abstract_device holder (after_cancel s)
cancelled_is holder s = cancelled_at s.phase holder s refl

pub given_back_is : (holder : Option ℕ) (s : DeviceState) → put_back (abstract_device holder s) ≡ abstract_device None (after_cancel s)
given_back_is holder s = cancelled_at s.phase None s refl

cancelled_setup : (phase : AnyPhase) (s : DeviceState) → (cancelled_in phase s).setup ≡ s.setup
cancelled_setup (Rest c) s = refl
cancelled_setup (Amid ended) s = refl
cancelled_setup (Read pass given) s = refl

pub made_cancelled : (k : Make) (s : DeviceState) → IsMade k s → IsMade k (after_cancel s)
made_cancelled k s h =
    let same = cancel_same s in
    record { sources = cancel_sources s k h.sources; kind = h.kind ∙ sym same.setup.kind; order = h.order ∙ sym same.setup.order; allowed = subst (λ (o : Setup). IsAllowed o) (sym (cancelled_setup s.phase s)) h.allowed; in_scan = cancel_in s }

-- ---- a device is handed out, all its options at their default_options

reset_at : (phase : AnyPhase) (holder : Option ℕ) (s : DeviceState) → s.phase ≡ phase → abstract_device_as holder (values.defaults s.setup.scene.kind s.setup.order) (tray_of s) Resting ≡
    abstract_device_as holder (values.defaults (cancelled_in phase s).setup.scene.kind (cancelled_in phase s).setup.order) (page_views (cancelled_in phase s).pages) Resting
reset_at (Rest c) holder s e = ap (λ (p : AnyPhase). abstract_device_as holder (values.defaults s.setup.scene.kind s.setup.order) (page_views (pages_to_come p s)) Resting) e
reset_at (Amid ended) holder s e = ap (λ (p : AnyPhase). abstract_device_as holder (values.defaults s.setup.scene.kind s.setup.order) (page_views (pages_to_come p s)) Resting) e
reset_at (Read pass given) holder s e = ap (λ (p : AnyPhase). abstract_device_as holder (values.defaults s.setup.scene.kind s.setup.order) (page_views (pages_to_come p s)) Resting) e

pub handed_is : (i : ℕ) (k : Make) (s : DeviceState) → IsMade k s → record (abstract_device None s) { holder = Some i; options = default_options k; phase = Resting } ≡ abstract_device (Some i) (after_reset s)
unfolding default_options
handed_is i k s made =
    ap (λ (x : _). abstract_device_as (Some i) (values.defaults x k.order) (tray_of s) Resting) made.kind ∙ ap (λ (y : _). abstract_device_as (Some i) (values.defaults s.setup.scene.kind y) (tray_of s) Resting) made.order ∙ reset_at s.phase (Some i) s refl

pub made_reset : (k : Make) (s : DeviceState) → IsMade k s → IsMade k (after_reset s)
made_reset k s h =
    let same = reset_same s in
    record { sources = reset_sources s k h.sources; kind = h.kind ∙ sym same.setup.kind; order = h.order ∙ sym same.setup.order; allowed = defaults_allowed (after_cancel s).setup.scene.kind (after_cancel s).setup.order; in_scan = reset_in s }

-- ---- a set

pub made_set : (k : Make) (s : DeviceState) (n : ℕ) (asked : Value) (given : Value × Info) → IsMade k s → option_set s.setup n asked ≡ Ok given → set_answer s n asked ≡ Ok given → IsMade k (after_set s n given.0)
made_set k s n asked given h e answered =
    let same = set_same s n given.0 in
    record {
      sources = h.sources;
      kind = h.kind ∙ sym same.setup.kind;
      order = h.order ∙ sym same.setup.order;
      allowed = set_allowed s.setup n asked given.0 given.1 h.allowed e;
      in_scan = set_in s n asked given.0 given.1 answered;
    }

set_at : (phase : AnyPhase) (holder : Option ℕ) (s t : DeviceState) → is_at_rest phase ≡ true → t.pages ≡ s.pages →
    abstract_device_as holder t.setup (page_views (pages_to_come phase s)) (phase_at (scan.scan_place_in phase (frames_of s.setup (page_of s)))) ≡ abstract_device_as holder t.setup (page_views (pages_to_come phase t)) (phase_at (scan.scan_place_in phase (frames_of t.setup (page_of t))))
set_at (Rest c) holder s t e same = ap (λ (pages : List HeldPage). abstract_device_as holder t.setup (page_views pages) Resting) (sym same)
set_at (Amid ended) holder s t e same = absurd (cc)
set_at (Read pass given) holder s t e same = absurd (cc)

pub set_is : (holder : Option ℕ) (s : DeviceState) (n : ℕ) (given : Value) → is_at_rest s.phase ≡ true → record (abstract_device holder s) { options = (after_set s n given).setup } ≡ abstract_device holder (after_set s n given)
set_is holder s n given e = set_at s.phase holder s (after_set s n given) e refl

pub put_is : (k : Make) (o : Setup) (n : ℕ) (v : Value) (r : Result (Value × Info) Code) → option_set o n v ≡ r → accept_value k o n v ≡ option_map abstract_accepted_set (rules.accepted_set_by o n r)
unfolding accept_value rules.accept_set
put_is k o n v r e = ap (λ (y : Result (Value × Info) Code). option_map abstract_accepted_set (rules.accepted_set_by o n y)) e

-- ---- parameters

told_of_tray : (pages : List HeldPage) (o : Setup) → params_of_tray o (page_views pages) ≡ params_told pages o 0
told_of_tray [] o = refl
told_of_tray (held ∷ pages) o = refl

told_of_page : (pages : List HeldPage) (o : Setup) (pass : ℕ) → pages ≢ [] → params_at o (first_page pages).page pass ≡ params_told pages o pass
told_of_page [] o pass some = absurd (some refl)
told_of_page (held ∷ pages) o pass some = refl

params_in : (k : Make) (holder : Option ℕ) (s : DeviceState) (phase : AnyPhase) → scan.IsPhaseOf phase s.setup (page_of s) → (is_at_rest phase ≡ false → s.pages ≢ []) → s.phase ≡ phase →
    abstract_params k (abstract_device holder s) (phase_at (scan.scan_place_in phase (frames_of s.setup (page_of s)))) ≡ params_told s.pages s.setup (reported_pass phase)
unfolding params_at_rest
params_in k holder s (Rest c) h some e = ap (λ (p : AnyPhase). params_of_tray s.setup (page_views (pages_to_come p s))) e ∙ told_of_tray s.pages s.setup
params_in k holder s (Amid ended) h some e =
    ap (λ (p : scan.ScanPlace). abstract_params k (abstract_device holder s) (phase_at p)) (waits_at s.setup (page_of s) ended h.1 h.2) ∙ told_of_page s.pages s.setup (ended - 1) (some refl)
params_in k holder s (Read pass given) h some e =
    ap (λ (p : scan.ScanPlace). abstract_params k (abstract_device holder s) (phase_at p)) (reads_at s.setup (page_of s) pass given h.1) ∙ told_of_page s.pages s.setup pass (some refl)

pub params_are : (k : Make) (holder : Option ℕ) (s : DeviceState) → scan.IsInScan s → abstract_params k (abstract_device holder s) (abstract_device holder s).phase ≡ told_params s
params_are k holder s h = params_in k holder s s.phase h.phase h.page refl
