-- A job from its reset to its end.
use Rattle.std.proofs.Common.{◌≡◌, ◌⊎◌, inl, inr, ◌∙◌, sym, ap, subst, refl, ℕ, Bool, true, false, List, [], Option, Some, None, Result, Ok, Err}
use Rattle.std.specs.Prelude.{◌≢◌, IfOk, IfErr}
use Rattle.std.specs.Io.KnownBytes.{Appends}
use Rattle.sane_fixed.specs.declared.status.Status.TheVariants.{Inval, NoDocs}
use Rattle.scan_frames.specs.declared.setup.Setup.{Setup}
use Rattle.scan_frames.specs.Frames.{has_picture}
use Rattle.device_api.specs.InForce.{Placement, force, in_force}
use Rattle.device_api.specs.Kinds.{is_feeder}
use Rattle.device_api.specs.State.{DeviceState, HeldPage, Phase, AtRest, Between, Reading, after_cancel, after_reset, cancelled_in, feeds, is_at_rest, left_behind, page_of, state_at_rest, with_defaults, with_setup}
use Rattle.device_api.specs.Values.{defaults}
use Rattle.scan_job.specs.declared.job.Job.{Job}
use Rattle.scan_job.specs.declared.job.Task.{Task}
use Rattle.scan_job.specs.declared.job.Task.TheVariants.{List as ListTask, Show, SetOnly, Scan, Batch}
use Rattle.scan_job.specs.declared.outcome.Why.{Why}
use Rattle.scan_job.specs.declared.outcome.Why.TheVariants.{Answer, Cancelled, Lost, Malformed, Short, Long, Setting, Plain, Memory, Sink}
use Rattle.scan_job.specs.declared.report.Report.{Report}
use Rattle.scan_job.specs.declared.report.Reports.{Reports}
use Rattle.sane_fixed.specs.declared.status.Status.{Status}
use Rattle.scan_job.specs.declared.stop.Stop.{Stop}
use Rattle.local_job.specs.ScanCauses.{ScanHasCause, IsCause}
use Rattle.local_job.specs.FrameReading.{KeepsDevice}
use Rattle.local_job.specs.SettingReports.{SettingsAreReported, FailsAt}
use Rattle.local_job.specs.LocalRun.{devices_reported, left_by, settings_put, IsDone, IsEndedBy, IsPut, IsTakenJob, ChangesDevice, Writes}
use Rattle.local_job.specs.Inside.{KeepsPages, put_all}
use Rattle.scan_laws.specs.Stays.{AreSamePages, LetsGo}
use Rattle.local_job.proofs.Lets.{cancel_rests, cause_after, left_same}
use Rattle.local_job.specs.LocalStops.{bad_setting, stop_by_status}
use Rattle.scan_job.specs.Stops.{no_memory}
use Rattle.local_job.proofs.Forced.{AllIs, all_is, fails_is, forced_is}

abbrev settings_of : Job → List (List ℕ × List ℕ)
settings_of job = settings_put job.task job.settings.items

-- the options of a scanner that was reset
abbrev pub first_options : DeviceState → Setup
first_options s = defaults s.setup.scene.kind s.setup.order

-- the scanner behind its reset
pub record IsAnew (s t : DeviceState) : Type 0 where
  pub info : t.info ≡ s.info
  pub kind : t.setup.scene.kind ≡ s.setup.scene.kind
  pub order : t.setup.order ≡ s.setup.order
  pub setup : t.setup ≡ first_options s
  pub again : t ≡ after_reset t

anew_at : (p : Phase) (s : DeviceState) → IsAnew s (with_defaults (cancelled_in p s))
unfolding defaults
anew_at (AtRest c) s = record { info = refl; kind = refl; order = refl; setup = refl; again = refl }
anew_at (Between n) s = record { info = refl; kind = refl; order = refl; setup = refl; again = refl }
anew_at (Reading k n) s = record { info = refl; kind = refl; order = refl; setup = refl; again = refl }

pub anew : (s t : DeviceState) → t ≡ after_reset s → IsAnew s t
anew s t is = subst (λ (x : DeviceState). IsAnew s x) (sym is) (anew_at s.phase s)

pub options_anew : (s t : DeviceState) → IsAnew s t → first_options t ≡ first_options s
options_anew s t a = ap (λ k. defaults k t.setup.order) a.kind ∙ ap (λ o. defaults s.setup.scene.kind o) a.order

pub setup_reset : (s : DeviceState) → s ≡ after_reset s → s.setup ≡ first_options s
setup_reset s is = (anew s s is).setup

pub phase_reset : (s : DeviceState) → s ≡ after_reset s → s.phase ≡ AtRest false
phase_reset s is = ap (λ (s : DeviceState). s.phase) is

pub reset_again : (s t : DeviceState) → t ≡ after_reset s → t ≡ after_reset t
reset_again s t is = (anew s t is).again

-- ---- settings that were put are in force

pub record WasPut (s : DeviceState) (job : Job) (setup : Setup) (reports : List Report) : Type 0 where
  pub placed : List Placement
  pub put : IsPut s job (setup, placed)
  pub told : SettingsAreReported (first_options s) (settings_of job) placed reports

by_all : (s : DeviceState) (job : Job) (setup : Setup) (reports : List Report) (r : Result (Setup × List Report) Stop) → IsTakenJob job → AllIs (first_options s) (settings_of job) r → r ≡ Ok (setup, reports) → WasPut s job setup reports
by_all s job setup reports (Ok got) size all is =
    let same : got ≡ (setup, reports) = cc in
    subst (λ (g : Setup × List Report). WasPut s job g.0 g.1) same (record { placed = all.0; put = record { taken = size; put = all.1 }; told = all.2 })
by_all s job setup reports (Err stop) size all is = absurd (let clash : Err stop ≡ Ok (setup, reports) = is in cc)

pub was_put : (s : DeviceState) (job : Job) (setup : Setup) (reports : List Report) → s ≡ after_reset s → IsTakenJob job → put_all s.setup (settings_of job) ≡ Ok (setup, reports) → WasPut s job setup reports
was_put s job setup reports reset size put =
    by_all s job setup reports (put_all (first_options s) (settings_of job)) size (all_is (settings_of job) (first_options s)) (ap (λ (t : Setup). put_all t (settings_of job)) (sym (setup_reset s reset)) ∙ put)

-- what a setting that is not put says, and the settings in force
fails_here : (s : DeviceState) (job : Job) (why : Stop) → s ≡ after_reset s → FailsAt (first_options s) (settings_of job) why → put_all s.setup (settings_of job) ≡ Err why
fails_here s job why reset f = ap (λ (t : Setup). put_all t (settings_of job)) (setup_reset s reset) ∙ fails_is (first_options s) (settings_of job) why f

put_here : (s : DeviceState) (job : Job) (forced : Setup × List Placement) → s ≡ after_reset s → IsPut s job forced → (reports : List Report) × (put_all s.setup (settings_of job) ≡ Ok (forced.0, reports))
put_here s job forced reset is =
    let f = forced_is (first_options s) (settings_of job) forced (put_all (first_options s) (settings_of job)) (all_is (settings_of job) (first_options s)) is.put in
    (f.0, ap (λ (t : Setup). put_all t (settings_of job)) (setup_reset s reset) ∙ f.1)

-- ---- what ends it

abbrev pub setup_in : Setup → Result (Setup × List Report) Stop → Setup
setup_in other (Ok got) = got.0
setup_in other (Err _) = other

memory_cause : (stop : Stop) (old new : DeviceState) → stop ≡ no_memory → ScanHasCause stop old new
memory_cause stop old new is = subst (λ (s : Stop). ScanHasCause s old new) (sym is) refl

pub ended_by_memory : (s new : DeviceState) (job : Job) (stop : Stop) → IsTakenJob job → stop ≡ no_memory → IsEndedBy s job new stop
ended_by_memory s new job stop size is = record {
  size = λ large. absurd (large size);
  setting = λ _ why f. inl is;
  put = λ forced p other. is;
  no_page = λ forced p scan none. inl is;
  no_picture = λ forced p scan some none. inl is;
  scan = λ forced p scan some there. memory_cause stop (with_setup (after_reset s) forced.0) new is;
}

ended_at : (s new : DeviceState) (job : Job) (stop : Stop) → s ≡ after_reset s → IsTakenJob job → put_all s.setup (settings_of job) ≡ Err stop → IsEndedBy s job new stop
ended_at s new job stop reset size fails =
    let never : (forced : Setup × List Placement) → IsPut s job forced → ⊥ = λ forced p.
    (let put = put_here s job forced reset p in
    let clash : Err stop ≡ Ok (forced.0, put.0) = sym fails ∙ put.1 in cc) in
    record {
      size = λ large. absurd (large size);
      setting = λ _ why f. inr (let one : Err stop ≡ Err why = sym fails ∙ fails_here s job why reset f in cc);
      put = λ forced p other. absurd (never forced p);
      no_page = λ forced p scan none. absurd (never forced p);
      no_picture = λ forced p scan some none. absurd (never forced p);
      scan = λ forced p scan some there. absurd (never forced p);
    }

pub ended_by_setting : (s new : DeviceState) (job : Job) (stop : Stop) → s ≡ after_reset s → IsTakenJob job → (stop ≡ no_memory) ⊎ (put_all s.setup (settings_of job) ≡ Err stop) → IsEndedBy s job new stop
ended_by_setting s new job stop reset size (inl memory) = ended_by_memory s new job stop size memory
ended_by_setting s new job stop reset size (inr fails) = ended_at s new job stop reset size fails

-- what ended the scan of a scanner with its settings put
pub record EndsScan (mid new : DeviceState) (stop : Stop) : Type 0 where
  pub empty : mid.pages ≡ [] → (stop ≡ no_memory) ⊎ (stop ≡ stop_by_status NoDocs)
  pub none : mid.pages ≢ [] → has_picture mid.setup (page_of mid) ≡ false → (stop ≡ no_memory) ⊎ (stop ≡ stop_by_status Inval)
  pub cause : mid.pages ≢ [] → has_picture mid.setup (page_of mid) ≡ true → ScanHasCause stop mid new

pub ended_by_scan : (s mid new : DeviceState) (job : Job) (reports : List Report) (stop : Stop) → s ≡ after_reset s → IsTakenJob job → job.task ≡ Scan → mid ≡ with_setup s mid.setup
    → put_all s.setup (settings_of job) ≡ Ok (mid.setup, reports) → EndsScan mid new stop → IsEndedBy s job new stop
ended_by_scan s mid new job reports stop reset size scan is puts ends =
    let same : (forced : Setup × List Placement) → IsPut s job forced → mid ≡ with_setup (after_reset s) forced.0 = λ forced p.
    (let put = put_here s job forced reset p in
    let one : Ok (mid.setup, reports) ≡ Ok (forced.0, put.0) = sym puts ∙ put.1 in
    let setup : mid.setup ≡ forced.0 = ap (setup_in mid.setup) one in
    is ∙ ap (with_setup s) setup ∙ ap (λ (t : DeviceState). with_setup t forced.0) reset) in
    let here : (forced : Setup × List Placement) → IsPut s job forced → EndsScan (with_setup (after_reset s) forced.0) new stop = λ forced p. subst (λ (t : DeviceState). EndsScan t new stop) (same forced p) ends in
    record {
      size = λ large. absurd (large size);
      setting = λ _ why f. absurd (let clash : Ok (mid.setup, reports) ≡ Err why = sym puts ∙ fails_here s job why reset f in cc);
      put = λ forced p other. absurd (other scan);
      no_page = λ forced p _ no. (here forced p).empty no;
      no_picture = λ forced p _ some no. (here forced p).none some no;
      scan = λ forced p _ some yes. (here forced p).cause some yes;
    }

-- ---- what a job that is done leaves

pub left_by_scan : (task : Task) (first mid new : DeviceState) → task ≡ Scan → first ≡ after_reset first → mid ≡ with_setup first mid.setup → new ≡ state_at_rest mid false → new ≡ left_by task (with_setup (after_reset first) mid.setup)
left_by_scan task first mid new scan reset is rest =
    subst (λ (t : Task). new ≡ left_by t (with_setup (after_reset first) mid.setup)) (sym scan)
    (rest ∙ ap (λ (s : DeviceState). state_at_rest s false) (is ∙ ap (λ (s : DeviceState). with_setup s mid.setup) reset))

others_left : (task : Task) (s : DeviceState) → task ≢ Scan → s ≡ left_by task s
others_left ListTask s other = refl
others_left Show s other = refl
others_left SetOnly s other = refl
others_left (Batch count) s other = refl
others_left Scan s other = absurd (other refl)

pub left_by_others : (task : Task) (first mid : DeviceState) → task ≢ Scan → first ≡ after_reset first → mid ≡ with_setup first mid.setup → mid ≡ left_by task (with_setup (after_reset first) mid.setup)
left_by_others task first mid other reset is = is ∙ ap (λ (s : DeviceState). with_setup s mid.setup) reset ∙ others_left task (with_setup (after_reset first) mid.setup) other

pub writes_reset : (task : Task) (first mid : DeviceState) (before after : Option (List ℕ)) → first ≡ after_reset first → Writes task (with_setup first mid.setup) before after → Writes task (with_setup (after_reset first) mid.setup) before after
writes_reset task first mid before after reset w = subst (λ (s : DeviceState). Writes task (with_setup s mid.setup) before after) reset w

-- ---- before the reset

left_at_rest : (task : Task) (s : DeviceState) → is_at_rest s.phase ≡ true → is_at_rest (left_by task s).phase ≡ true
left_at_rest ListTask s rest = rest
left_at_rest Show s rest = rest
left_at_rest SetOnly s rest = rest
left_at_rest (Batch count) s rest = rest
left_at_rest Scan s rest = refl

-- a cancel at rest does nothing
left_rests : (task : Task) (s t : DeviceState) (setup : Setup) → t ≡ left_by task (with_setup (after_reset s) setup) → after_cancel t ≡ t
left_rests task s t setup is = cancel_rests t (ap (λ (x : DeviceState). is_at_rest x.phase) is ∙ left_at_rest task (with_setup (after_reset s) setup) refl)

put_before : (s t : DeviceState) (job : Job) (forced : Setup × List Placement) → IsAnew s t → IsPut s job forced → IsPut t job forced
put_before s t job forced a p = record {
  taken = p.taken;
  put = ap (λ k. in_force k t.setup.order (settings_of job)) a.kind ∙ ap (λ o. in_force s.setup.scene.kind o (settings_of job)) a.order ∙ p.put;
}

put_behind : (s t : DeviceState) (job : Job) (forced : Setup × List Placement) → IsAnew s t → IsPut t job forced → IsPut s job forced
put_behind s t job forced a p = record {
  taken = p.taken;
  put = sym (ap (λ k. in_force k t.setup.order (settings_of job)) a.kind ∙ ap (λ o. in_force s.setup.scene.kind o (settings_of job)) a.order) ∙ p.put;
}

done_before : (s t : DeviceState) (job : Job) (reports : Reports) (before after : Option (List ℕ)) (new : DeviceState) → t ≡ after_reset s → IsDone job (record { device = t; output = before }) (record { device = new; output = after }) reports → IsDone job (record { device = s; output = before }) (record { device = new; output = after }) reports
done_before s t job reports before after new reset is =
    let a = anew s t reset in
    let same : after_reset t ≡ after_reset s = sym a.again ∙ reset in
    record {
      setup = is.setup;
      placed = is.placed;
      put = put_behind s t job (is.setup, is.placed) a is.put;
      told = subst (λ (o : Setup). SettingsAreReported o (settings_of job) is.placed reports.settings) (options_anew s t a) is.told;
      devices = is.devices ∙ ap (devices_reported job.task) a.info;
      options = is.options;
      output = subst (λ (x : DeviceState). Writes job.task (with_setup x is.setup) before after) same is.output;
      left = is.left ∙ ap (λ (x : DeviceState). left_by job.task (with_setup x is.setup)) same;
    }

pub done_first : (s mid new last : DeviceState) (job : Job) (reports : Reports) (before after : Option (List ℕ)) → mid ≡ after_reset s → IsDone job (record { device = mid; output = before }) (record { device = new; output = after }) reports → last ≡ after_cancel new → IsDone job (record { device = s; output = before }) (record { device = last; output = after }) reports
done_first s mid new last job reports before after reset is cancelled =
    let here : IsDone job (record { device = s; output = before }) (record { device = new; output = after }) reports = done_before s mid job reports before after new reset is in
    subst (λ (t : DeviceState). IsDone job (record { device = s; output = before }) (record { device = t; output = after }) reports) (sym (cancelled ∙ left_rests job.task s new here.setup here.left)) here

ended_before : (s t new : DeviceState) (job : Job) (stop : Stop) → t ≡ after_reset s → IsEndedBy t job new stop → IsEndedBy s job new stop
ended_before s t new job stop reset is =
    let a = anew s t reset in
    let same : after_reset t ≡ after_reset s = sym a.again ∙ reset in
    let pages : (after_reset t).pages ≡ (after_reset s).pages = ap (λ (x : DeviceState). x.pages) same in
    let back : (after_reset s).pages ≢ [] → (after_reset t).pages ≢ [] = λ some none. some (sym pages ∙ none) in
    record {
      size = is.size;
      setting = λ size why f. is.setting size why (subst (λ (o : Setup). FailsAt o (settings_of job) why) (sym (options_anew s t a)) f);
      put = λ forced p. is.put forced (put_before s t job forced a p);
      no_page = λ forced p scan none. is.no_page forced (put_before s t job forced a p) scan (pages ∙ none);
      no_picture = λ forced p scan some none. is.no_picture forced (put_before s t job forced a p) scan (back some) (ap (λ (x : DeviceState). has_picture forced.0 (page_of x)) same ∙ none);
      scan = λ forced p scan some there.
          subst (λ (x : DeviceState). ScanHasCause stop (with_setup x forced.0) new) same
          (is.scan forced (put_before s t job forced a p) scan (back some) (ap (λ (x : DeviceState). has_picture forced.0 (page_of x)) same ∙ there));
    }

ended_after : (s new : DeviceState) (job : Job) (stop : Stop) → IsEndedBy s job new stop → IsEndedBy s job (after_cancel new) stop
ended_after s new job stop is = record {
  size = is.size;
  setting = is.setting;
  put = is.put;
  no_page = is.no_page;
  no_picture = is.no_picture;
  scan = λ forced p scan some there. cause_after stop.why stop.status (with_setup (after_reset s) forced.0) new (is.scan forced p scan some there);
}

pub ended_first : (s mid new last : DeviceState) (job : Job) (stop : Stop) → mid ≡ after_reset s → IsEndedBy mid job new stop → last ≡ after_cancel new → IsEndedBy s job last stop
ended_first s mid new last job stop reset is cancelled =
    let here : IsEndedBy s job new stop = ended_before s mid new job stop reset is in
    subst (λ (t : DeviceState). IsEndedBy s job t stop) (sym cancelled) (ended_after s new job stop here)

-- ---- what becomes of the pages

pub kept_none : (s : DeviceState) → KeepsPages s s
kept_none s = record { info = refl; pages = inl (inl refl) }

pub kept_setup : (old new : DeviceState) → new ≡ with_setup old new.setup → KeepsPages old new
kept_setup old new is = record { info = ap (λ (s : DeviceState). s.info) is; pages = inl (inl (ap (λ (s : DeviceState). s.pages) is)) }

scan_pages : (old mid new : DeviceState) → mid.pages ≡ old.pages → mid.setup ≡ new.setup → AreSamePages mid.pages new.pages ⊎ LetsGo mid new → AreSamePages old.pages new.pages ⊎ LetsGo (with_setup old new.setup) new
scan_pages old mid new e f (inl same) = inl (subst (λ (ps : List HeldPage). AreSamePages ps new.pages) e same)
scan_pages old mid new e f (inr gone) = inr (record {
  is_feeder = sym (ap (λ (s : Setup). is_feeder s.scene.kind) f) ∙ gone.is_feeder;
  rests = gone.rests;
  pages = gone.pages ∙ ap (left_behind true) e;
})

pub kept_scan : (old mid new : DeviceState) → mid ≡ with_setup old mid.setup → KeepsDevice mid new → KeepsPages old new
kept_scan old mid new is k = record {
  info = k.info ∙ ap (λ (s : DeviceState). s.info) is;
  pages = scan_pages old mid new (ap (λ (s : DeviceState). s.pages) is) (sym k.setup) k.pages;
}

-- the cancel at the end lets go of what a feeder had under way
cancel_pages : (p : Phase) (s : DeviceState) → ((cancelled_in p s).pages ≡ s.pages) ⊎ ((cancelled_in p s).pages ≡ left_behind (feeds s) s.pages)
cancel_pages (AtRest c) s = inl refl
cancel_pages (Between n) s = inr refl
cancel_pages (Reading k n) s = inr refl

cancel_same : (p : Phase) (s : DeviceState) → ((cancelled_in p s).info ≡ s.info) × (feeds (cancelled_in p s) ≡ feeds s)
cancel_same (AtRest c) s = (refl, refl)
cancel_same (Between n) s = (refl, refl)
cancel_same (Reading k n) s = (refl, refl)

left_once : (b : Bool) (old new last : List HeldPage) → AreSamePages old new → last ≡ left_behind b new → AreSamePages old last ⊎ (last ≡ left_behind b old)
left_once false old new last same e = inl (subst (λ (ps : List HeldPage). AreSamePages old ps) (sym e) same)
left_once true old new last same e = inr (e ∙ left_same old new same)

pages_runs : (first new last : DeviceState) → feeds last ≡ feeds new → KeepsPages first new → last ≡ after_cancel new → AreSamePages first.pages last.pages ⊎ (last.pages ≡ left_behind (feeds last) first.pages)
pages_runs first new last f k is = by_pages k.pages (cancel_pages new.phase new)
  where
    by_pages : AreSamePages first.pages new.pages ⊎ LetsGo (with_setup first new.setup) new → ((after_cancel new).pages ≡ new.pages) ⊎ ((after_cancel new).pages ≡ left_behind (feeds new) new.pages)
        → AreSamePages first.pages last.pages ⊎ (last.pages ≡ left_behind (feeds last) first.pages)
    by_pages (inl same) (inl e) = inl (subst (λ (ps : List HeldPage). AreSamePages first.pages ps) (sym (ap (λ (s : DeviceState). s.pages) is ∙ e)) same)
    by_pages (inl same) (inr e) = left_once (feeds last) first.pages new.pages last.pages same (ap (λ (s : DeviceState). s.pages) is ∙ e ∙ ap (λ (b : Bool). left_behind b new.pages) (sym f))
    by_pages (inr gone) e =
        inr (ap (λ (s : DeviceState). s.pages) (is ∙ cancel_rests new gone.rests) ∙ gone.pages ∙ ap (λ (b : Bool). left_behind b first.pages) (sym (f ∙ gone.is_feeder)))

pub runs_first : (s first new last : DeviceState) → first ≡ after_reset s → KeepsPages first new → last ≡ after_cancel new → ChangesDevice s last
runs_first s first new last reset k is =
    let same = cancel_same new.phase new in
    record {
      info = ap (λ (x : DeviceState). x.info) is ∙ same.0 ∙ k.info ∙ (anew s first reset).info;
      pages = subst (λ (x : DeviceState). AreSamePages x.pages last.pages ⊎ (last.pages ≡ left_behind (feeds last) x.pages)) reset
          (pages_runs first new last (ap feeds is ∙ same.1) k is);
    }

-- ---- what holds of a result, and more

pub ok_then : {T E : Type 0} (r : Result T E) (P Q : T → Type 0) → ((t : T) → P t → Q t) → IfOk r P → IfOk r Q
ok_then (Ok t) P Q then_ is = then_ t is
ok_then (Err e) P Q then_ is = tt

pub err_then : {T E : Type 0} (r : Result T E) (P Q : E → Type 0) → ((e : E) → P e → Q e) → IfErr r P → IfErr r Q
err_then (Ok t) P Q then_ is = tt
err_then (Err e) P Q then_ is = then_ e is
