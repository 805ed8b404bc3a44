-- A job on a shelf from its reset to its end.
use Rattle.std.proofs.Common.{◌≡◌, ◌∙◌, ◌⊎◌, inl, inr, refl, sym, ap, subst, ℕ, Bool, true, List, [], length, Option, Some, None, Result, Ok, Err}
use Rattle.std.specs.Prelude.{◌≢◌}
use Rattle.scan_frames.specs.declared.setup.Setup.{Setup}
use Rattle.device_api.specs.InForce.{Placement, in_force}
use Rattle.device_api.specs.State.{DeviceState, after_cancel, after_reset, is_at_rest, with_setup}
use Rattle.device_api.specs.Values.{defaults}
use Rattle.scan_job.specs.JobSize.{HasJobFault}
use Rattle.scan_job.specs.Shelves.{Stock}
use Rattle.scan_job.specs.declared.job.Job.{Job}
use Rattle.scan_job.specs.declared.report.Report.{Report}
use Rattle.scan_job.specs.declared.report.Reports.{Reports}
use Rattle.scan_job.specs.declared.stop.Stop.{Stop}
use Rattle.local_job.specs.FrameReading.{KeepsDevice}
use Rattle.local_job.specs.SettingReports.{SettingsAreReported, FailsAt}
use Rattle.local_job.specs.LocalBatch.{IsBatchDone, IsBatchEndedBy, IsBatchPut, ScansNothing, pages_of_task}
use Rattle.local_job.specs.LocalRun.{devices_reported, options_reported, settings_put}
use Rattle.local_job.specs.LocalPages.{AreScanned, EndsPage, RefusesLast, EndsBehind, StopsAt, after_pages}
use Rattle.scan_job.specs.FileOutputs.{TakesBack}
use Rattle.local_job.specs.Inside.{put_all}
use Rattle.local_job.specs.LocalStops.{bad_setting}
use Rattle.scan_job.specs.Stops.{no_memory}
use Rattle.local_job.proofs.Batches.{at_rest_behind, takes_none}
use Rattle.local_job.proofs.Forced.{AllIs, all_is, fails_is, forced_is}
use Rattle.local_job.proofs.Lets.{cancel_rests, cancel_keeps, cause_after, further}
use Rattle.local_job.proofs.JobRuns.{IsAnew, anew, first_options, options_anew, phase_reset, setup_in, setup_reset}

abbrev settings_of : Job → List (List ℕ × List ℕ)
settings_of job = settings_put job.task job.settings.items

-- ---- settings that were put are in force

record WasPut (s : DeviceState) (job : Job) (setup : Setup) (reports : List Report) : Type 0 where
  placed : List Placement
  put : IsBatchPut s job (setup, placed)
  told : SettingsAreReported (first_options s) (settings_of job) placed reports

by_all : (s : DeviceState) (job : Job) (setup : Setup) (reports : List Report) (r : Result (Setup × List Report) Stop) → HasJobFault job None → AllIs (first_options s) (settings_of job) r → r ≡ Ok (setup, reports) → WasPut s job setup reports
by_all s job setup reports (Ok got) taken all is =
    let same : got ≡ (setup, reports) = cc in
    subst (λ (g : Setup × List Report). WasPut s job g.0 g.1) same (record { placed = all.0; put = record { taken = taken; put = all.1 }; told = all.2 })
by_all s job setup reports (Err stop) taken all is = absurd (let clash : Err stop ≡ Ok (setup, reports) = is in cc)

was_put : (s : DeviceState) (job : Job) (setup : Setup) (reports : List Report) → s ≡ after_reset s → HasJobFault job None → put_all s.setup (settings_of job) ≡ Ok (setup, reports) → WasPut s job setup reports
was_put s job setup reports reset taken put =
    by_all s job setup reports (put_all (first_options s) (settings_of job)) taken (all_is (settings_of job) (first_options s)) (ap (λ (t : Setup). put_all t (settings_of job)) (sym (setup_reset s reset)) ∙ put)

fails_here : (s : DeviceState) (job : Job) (why : Stop) → s ≡ after_reset s → FailsAt (first_options s) (settings_of job) why → put_all s.setup (settings_of job) ≡ Err why
fails_here s job why reset f = ap (λ (t : Setup). put_all t (settings_of job)) (setup_reset s reset) ∙ fails_is (first_options s) (settings_of job) why f

put_here : (s : DeviceState) (job : Job) (forced : Setup × List Placement) → s ≡ after_reset s → IsBatchPut s job forced → (reports : List Report) × (put_all s.setup (settings_of job) ≡ Ok (forced.0, reports))
put_here s job forced reset is =
    let f = forced_is (first_options s) (settings_of job) forced (put_all (first_options s) (settings_of job)) (all_is (settings_of job) (first_options s)) is.put in
    (f.0, ap (λ (t : Setup). put_all t (settings_of job)) (setup_reset s reset) ∙ f.1)

-- ---- a scanner that was reset

pub batch_done : (s mid new : DeviceState) (job : Job) (reports : Reports) (before after : Option Stock) → s ≡ after_reset s → HasJobFault job None → mid ≡ with_setup s mid.setup
    → put_all s.setup (settings_of job) ≡ Ok (mid.setup, reports.settings) → reports.devices ≡ devices_reported job.task mid.info → reports.options ≡ options_reported job.task mid.setup
    → AreScanned (pages_of_task job.task) (record { device = mid; stock = before }) (record { device = new; stock = after }) → IsBatchDone job (record { device = s; stock = before }) (record { device = new; stock = after }) reports
batch_done s mid new job reports before after reset taken is put devices options scanned =
    let was = was_put s job mid.setup reports.settings reset taken put in
    record {
      setup = mid.setup;
      placed = was.placed;
      put = was.put;
      told = was.told;
      devices = devices ∙ ap (λ (t : DeviceState). devices_reported job.task t.info) is;
      options = options;
      scanned = subst (λ (t : DeviceState). AreScanned (pages_of_task job.task) (record { device = t; stock = before }) (record { device = new; stock = after })) (is ∙ ap (λ (t : DeviceState). with_setup t mid.setup) reset) scanned;
    }

pages_kept : (s new : DeviceState) → s ≡ after_reset s → new ≡ with_setup s new.setup → new.pages ≡ (after_reset s).pages
pages_kept s new reset is = ap (λ (t : DeviceState). t.pages) is ∙ ap (λ (t : DeviceState). t.pages) reset

nothing_done : (s new : DeviceState) (stock : Option Stock) → s ≡ after_reset s → new ≡ with_setup s new.setup → ScansNothing s stock stock new
nothing_done s new stock reset is = record { outputs = takes_none stock; info = ap (λ (t : DeviceState). t.info) is; pages = pages_kept s new reset is; rest = ap (λ (t : DeviceState). is_at_rest t.phase) is ∙ ap is_at_rest (phase_reset s reset) }

pub ended_by_fault : (s : DeviceState) (job : Job) (stock : Option Stock) (stop : Stop) → s ≡ after_reset s → (HasJobFault job None → ⊥) → stop ≡ bad_setting → IsBatchEndedBy job (record { device = s; stock = stock }) (record { device = s; stock = stock }) stop
ended_by_fault s job stock stop reset refused is = record {
  size = λ _. is;
  setting = λ taken why f. absurd (refused taken);
  none = λ _. nothing_done s s stock reset refl;
  put = λ forced p. absurd (refused p.taken);
}

pub ended_by_memory : (s new : DeviceState) (job : Job) (stock : Option Stock) (stop : Stop) → s ≡ after_reset s → HasJobFault job None → new ≡ with_setup s new.setup → stop ≡ no_memory → IsBatchEndedBy job (record { device = s; stock = stock }) (record { device = new; stock = stock }) stop
ended_by_memory s new job stock stop reset taken same is = record {
  size = λ refused. absurd (refused taken);
  setting = λ _ why f. inl is;
  none = λ _. nothing_done s new stock reset same;
  put = λ forced p. inl (is, nothing_done s new stock reset same);
}

ended_at : (s new : DeviceState) (job : Job) (stock : Option Stock) (stop : Stop) → s ≡ after_reset s → HasJobFault job None → new ≡ with_setup s new.setup → put_all s.setup (settings_of job) ≡ Err stop → IsBatchEndedBy job (record { device = s; stock = stock }) (record { device = new; stock = stock }) stop
ended_at s new job stock stop reset taken same fails = record {
  size = λ refused. absurd (refused taken);
  setting = λ _ why f. inr (let one : Err stop ≡ Err why = sym fails ∙ fails_here s job why reset f in cc);
  none = λ _. nothing_done s new stock reset same;
  put = λ forced p. absurd
      (let put = put_here s job forced reset p in
      let clash : Err stop ≡ Ok (forced.0, put.0) = sym fails ∙ put.1 in cc);
}

pub ended_by_setting : (s new : DeviceState) (job : Job) (stock : Option Stock) (stop : Stop) → s ≡ after_reset s → HasJobFault job None → new ≡ with_setup s new.setup
    → (stop ≡ no_memory) ⊎ (put_all s.setup (settings_of job) ≡ Err stop) → IsBatchEndedBy job (record { device = s; stock = stock }) (record { device = new; stock = stock }) stop
ended_by_setting s new job stock stop reset taken same (inl memory) = ended_by_memory s new job stock stop reset taken same memory
ended_by_setting s new job stock stop reset taken same (inr fails) = ended_at s new job stock stop reset taken same fails

pub ended_by_pages : (s mid new : DeviceState) (job : Job) (reports : List Report) (before after : Option Stock) (stop : Stop) → s ≡ after_reset s → HasJobFault job None → mid ≡ with_setup s mid.setup
    → put_all s.setup (settings_of job) ≡ Ok (mid.setup, reports) → StopsAt (pages_of_task job.task) (record { device = mid; stock = before }) (record { device = new; stock = after }) stop → IsBatchEndedBy job (record { device = s; stock = before }) (record { device = new; stock = after }) stop
ended_by_pages s mid new job reports before after stop reset taken is puts stops =
    let was = was_put s job mid.setup reports reset taken puts in
    record {
      size = λ refused. absurd (refused taken);
      setting = λ _ why f. absurd (let clash : Ok (mid.setup, reports) ≡ Err why = sym puts ∙ fails_here s job why reset f in cc);
      none = λ never. absurd (never (mid.setup, was.placed) was.put);
      put = λ forced p.
          let put = put_here s job forced reset p in
          let one : Ok (mid.setup, reports) ≡ Ok (forced.0, put.0) = sym puts ∙ put.1 in
          let setup : mid.setup ≡ forced.0 = ap (setup_in mid.setup) one in
          inr (subst (λ (t : DeviceState). StopsAt (pages_of_task job.task) (record { device = t; stock = before }) (record { device = new; stock = after }) stop) (is ∙ ap (with_setup s) setup ∙ ap (λ (t : DeviceState). with_setup t forced.0) reset) stops);
    }

-- ---- before the reset, and after the cancel

put_before : (s t : DeviceState) (job : Job) (forced : Setup × List Placement) → IsAnew s t → IsBatchPut s job forced → IsBatchPut t job forced
put_before s t job forced a p = record {
  taken = p.taken;
  put = ap (λ k. in_force k t.setup.order (settings_of job)) a.kind ∙ ap (λ o. in_force s.setup.scene.kind o (settings_of job)) a.order ∙ p.put;
}

put_behind : (s t : DeviceState) (job : Job) (forced : Setup × List Placement) → IsAnew s t → IsBatchPut t job forced → IsBatchPut s job forced
put_behind s t job forced a p = record {
  taken = p.taken;
  put = sym (ap (λ k. in_force k t.setup.order (settings_of job)) a.kind ∙ ap (λ o. in_force s.setup.scene.kind o (settings_of job)) a.order) ∙ p.put;
}

at_rest_scanned : (s : DeviceState) (setup : Setup) (count : ℕ) (before after : Option Stock) (new : DeviceState) → AreScanned count (record { device = with_setup (after_reset s) setup; stock = before }) (record { device = new; stock = after }) → is_at_rest new.phase ≡ true
at_rest_scanned s setup count before after new scanned = ap (λ (t : DeviceState). is_at_rest t.phase) scanned.left ∙ at_rest_behind (length scanned.files) (with_setup (after_reset s) setup) refl

pub done_first : (s mid new last : DeviceState) (job : Job) (reports : Reports) (before after : Option Stock) → mid ≡ after_reset s → IsBatchDone job (record { device = mid; stock = before }) (record { device = new; stock = after }) reports → last ≡ after_cancel new → IsBatchDone job (record { device = s; stock = before }) (record { device = last; stock = after }) reports
done_first s mid new last job reports before after reset is cancelled =
    let a = anew s mid reset in
    let same : after_reset mid ≡ after_reset s = sym a.again ∙ reset in
    let stays : last ≡ new = cancelled ∙ cancel_rests new (at_rest_scanned mid is.setup _ before after new is.scanned) in
    record {
      setup = is.setup;
      placed = is.placed;
      put = put_behind s mid job (is.setup, is.placed) a is.put;
      told = subst (λ (o : Setup). SettingsAreReported o (settings_of job) is.placed reports.settings) (options_anew s mid a) is.told;
      devices = is.devices ∙ ap (devices_reported job.task) a.info;
      options = is.options;
      scanned = subst (λ (t : DeviceState). AreScanned (pages_of_task job.task) (record { device = with_setup (after_reset s) is.setup; stock = before }) (record { device = t; stock = after })) (sym stays)
          (subst (λ (t : DeviceState). AreScanned (pages_of_task job.task) (record { device = with_setup t is.setup; stock = before }) (record { device = new; stock = after })) same is.scanned);
    }

page_cancelled : (t : DeviceState) (n : ℕ) (new : DeviceState) (stop : Stop) → EndsPage t n new stop → EndsPage t n (after_cancel new) stop
page_cancelled t n new stop is = record {
  no_page = is.no_page;
  no_picture = is.no_picture;
  cause = λ some there. cause_after stop.why stop.status t new (is.cause some there);
  same = further t new (after_cancel new) is.same (cancel_keeps new) (cancel_rests new);
}

-- a last output that was refused came from a scanner at rest
last_cancelled : (t : DeviceState) (files : List (List ℕ)) (before after : Option Stock) (new : DeviceState) (stop : Stop) → is_at_rest t.phase ≡ true → RefusesLast files (record { device = t; stock = before }) (record { device = new; stock = after }) stop
    → RefusesLast files (record { device = t; stock = before }) (record { device = after_cancel new; stock = after }) stop
last_cancelled t files before after new stop rest is = record {
  shelved = is.shelved;
  last = is.last;
  files_are = is.files_are;
  outputs = is.outputs;
  refused = is.refused;
  after = cancel_rests new (ap (λ (x : DeviceState). is_at_rest x.phase) is.after ∙ at_rest_behind (length files) t rest) ∙ is.after;
}

stops_cancelled : (t : DeviceState) (count : ℕ) (before after : Option Stock) (new : DeviceState) (stop : Stop) → is_at_rest t.phase ≡ true → StopsAt count (record { device = t; stock = before }) (record { device = new; stock = after }) stop → StopsAt count (record { device = t; stock = before }) (record { device = after_cancel new; stock = after }) stop
stops_cancelled t count before after new stop rest is = record {
  files = is.files;
  pages = is.pages;
  few = is.few;
  ended = elim is.ended [
    | inl last ↦ inl (last_cancelled t is.files before after new stop rest last)
    | inr (few, behind) ↦ inr (few, record { text = behind.text; none = behind.none; left = behind.left; is_left = behind.is_left; outputs = behind.outputs; cause = page_cancelled _ _ new stop behind.cause })
  ];
}

nothing_before : (s mid new last : DeviceState) (before after : Option Stock) → mid ≡ after_reset s → last ≡ after_cancel new → ScansNothing mid before after new → ScansNothing s before after last
nothing_before s mid new last before after reset cancelled is =
    let a = anew s mid reset in
    let stays : last ≡ new = cancelled ∙ cancel_rests new is.rest in
    subst (λ (t : DeviceState). ScansNothing s before after t) (sym stays) (record {
      outputs = is.outputs;
      info = is.info ∙ a.info;
      pages = is.pages ∙ ap (λ (t : DeviceState). t.pages) (sym a.again ∙ reset);
      rest = is.rest;
    })

pub ended_first : (s mid new last : DeviceState) (job : Job) (before after : Option Stock) (stop : Stop) → mid ≡ after_reset s → IsBatchEndedBy job (record { device = mid; stock = before }) (record { device = new; stock = after }) stop → last ≡ after_cancel new → IsBatchEndedBy job (record { device = s; stock = before }) (record { device = last; stock = after }) stop
ended_first s mid new last job before after stop reset is cancelled =
    let a = anew s mid reset in
    let same : after_reset mid ≡ after_reset s = sym a.again ∙ reset in
    record {
      size = is.size;
      setting = λ taken why f. is.setting taken why (subst (λ (o : Setup). FailsAt o (settings_of job) why) (sym (options_anew s mid a)) f);
      none = λ never. nothing_before s mid new last before after reset cancelled (is.none (λ forced p. never forced (put_behind s mid job forced a p)));
      put = λ forced p. elim (is.put forced (put_before s mid job forced a p)) [
        | inl nothing ↦ inl (nothing.0, nothing_before s mid new last before after reset cancelled nothing.1)
        | inr stops ↦ inr (subst (λ (t : DeviceState). StopsAt (pages_of_task job.task) (record { device = with_setup (after_reset s) forced.0; stock = before }) (record { device = t; stock = after }) stop) (sym cancelled)
            (stops_cancelled (with_setup (after_reset s) forced.0) (pages_of_task job.task) before after new stop refl
            (subst (λ (t : DeviceState). StopsAt (pages_of_task job.task) (record { device = with_setup t forced.0; stock = before }) (record { device = new; stock = after }) stop) same stops)))
      ];
    }
