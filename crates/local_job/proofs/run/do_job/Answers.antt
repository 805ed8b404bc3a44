use Rattle.std.proofs.Common.{◌≡◌, ◌≢◌, ◌∙◌, rules, sym, subst, ap, Ok}
use Rattle.std.proofs.lemmas.Result.{err_from_is_err_and}
use Rattle.device_api.specs.State.{DeviceState, with_setup}
use Rattle.scan_job.specs.declared.job.Task.TheVariants.{Scan}
use Rattle.local_job.proofs.JobRuns.{ended_by_scan, ended_by_setting, was_put, left_by_scan, left_by_others, writes_reset, kept_none, kept_setup, kept_scan}
use Rattle.local_job.proofs.Shows.{scan_writes, others_write}
use Rattle.local_job.specs.FrameReading.{IsScanned}
use Rattle.local_job.specs.LocalRun.{devices_reported, settings_put, IsTakenJob}
use Rattle.local_job.specs.Inside.{put_all}
use Rattle.local_job.proofs.run.do_job.Goals.{then-eq+in_ok-scan_picture, else-eq}
use Rattle.local_job.proofs.OutputEnds.{put_spares}
use Rattle.local_job.proofs.run.do_job.Goals as goal

pub returns-clause-done : goal.returns-clause-done
returns-clause-done g c =
    let first : DeviceState = (goal.Device-dyn g c.args.device.now).state c.args.device.now.1 in
    let mid : DeviceState = (goal.Device-dyn g c.args.device.now).state c.put_settings.new.device in
    let taken : IsTakenJob c.args.job.now = search rules in
    let put : put_all first.setup (settings_put c.args.job.now.task c.args.job.now.settings.items) ≡ Ok (mid.setup, c.in_ok-settings.settings) = rw (← c.deref.ensures.value, ← c.settings_put.ensures) c.in_ok-settings.ensures.put in
    let was = was_put first c.args.job.now mid.setup _ c.requires.reset taken put in
    record {
      setup = mid.setup;
      placed = was.placed;
      put = was.put;
      told = was.told;
      devices = c.in_ok-devices.ensures.told ∙ ap (λ (s : DeviceState). devices_reported c.args.job.now.task s.info) c.in_ok-settings.ensures.rest;
      options = c.in_ok-options.ensures.told;
      output = writes_reset c.args.job.now.task first mid _ _ c.requires.reset (elim c.if-eq.branch [
        | then-eq+in_ok-scan_picture w ↦
            (let is : c.args.job.now.task ≡ Scan = search rules in
            scan_writes c.args.job.now.task (with_setup first mid.setup) _ _ is (λ first' taken. subst (λ (s : DeviceState). IsScanned s first' (g.W.Write.contents c.if-eq.out)) c.in_ok-settings.ensures.rest (rw w.out-is (w.in_ok-scan_picture.ensures.done first' taken))))
        | else-eq w ↦ (let other : c.args.job.now.task ≢ Scan = search rules in others_write c.args.job.now.task (with_setup first mid.setup) _ _ other (ap g.W.Write.contents w.out-is))
      ]);
      left = elim c.if-eq.branch [
        | then-eq+in_ok-scan_picture w ↦ (let is : c.args.job.now.task ≡ Scan = search rules in rw w.device-is (left_by_scan c.args.job.now.task first mid _ is c.requires.reset c.in_ok-settings.ensures.rest w.in_ok-scan_picture.ensures.rest))
        | else-eq w ↦ (let other : c.args.job.now.task ≢ Scan = search rules in rw w.device-is (left_by_others c.args.job.now.task first mid other c.requires.reset c.in_ok-settings.ensures.rest))
      ];
    }

pub returns-in_err-settings-clause-stop : goal.returns-in_err-settings-clause-stop
returns-in_err-settings-clause-stop g c =
    let first : DeviceState = (goal.Device-dyn g c.args.device.now).state c.args.device.now.1 in
    let new : DeviceState = (goal.Device-dyn g c.args.device.now).state c.put_settings.new.device in
    let taken : IsTakenJob c.args.job.now = search rules in
    let p = err_from_is_err_and c.from_residual.result c.from_residual.ensures.1 in
    rw (p.1, p.2) (ended_by_setting first new c.args.job.now _ c.requires.reset taken (rw (← c.deref.ensures.value, ← c.settings_put.ensures) c.in_err-settings.ensures.stop))

pub returns-in_err-scan_picture-clause-stop : goal.returns-in_err-scan_picture-clause-stop
returns-in_err-scan_picture-clause-stop g c =
    let first : DeviceState = (goal.Device-dyn g c.args.device.now).state c.args.device.now.1 in
    let mid : DeviceState = (goal.Device-dyn g c.args.device.now).state c.put_settings.new.device in
    let new : DeviceState = (goal.Device-dyn g c.args.device.now).state c.scan_picture.new.device in
    let taken : IsTakenJob c.args.job.now = search rules in
    let scan : c.args.job.now.task ≡ Scan = search rules in
    let put : put_all first.setup (settings_put c.args.job.now.task c.args.job.now.settings.items) ≡ Ok (mid.setup, c.in_ok-settings.settings) = rw (← c.deref.ensures.value, ← c.settings_put.ensures) c.in_ok-settings.ensures.put in
    let p = err_from_is_err_and c.from_residual-in_err-scan_picture.result c.from_residual-in_err-scan_picture.ensures.1 in
    rw (p.1, p.2) (ended_by_scan first mid new c.args.job.now _ _ c.requires.reset taken scan c.in_ok-settings.ensures.rest put (record { empty = c.in_err-scan_picture.ensures.empty; none = c.in_err-scan_picture.ensures.none; cause = c.in_err-scan_picture.ensures.cause }))

pub returns-in_err-settings-clause-runs : goal.returns-in_err-settings-clause-runs
returns-in_err-settings-clause-runs g c =
    let first : DeviceState = (goal.Device-dyn g c.args.device.now).state c.args.device.now.1 in
    let new : DeviceState = (goal.Device-dyn g c.args.device.now).state c.put_settings.new.device in
    kept_setup first new c.in_err-settings.ensures.rest

pub returns-in_err-scan_picture-clause-runs : goal.returns-in_err-scan_picture-clause-runs
returns-in_err-scan_picture-clause-runs g c =
    let first : DeviceState = (goal.Device-dyn g c.args.device.now).state c.args.device.now.1 in
    let mid : DeviceState = (goal.Device-dyn g c.args.device.now).state c.put_settings.new.device in
    let new : DeviceState = (goal.Device-dyn g c.args.device.now).state c.scan_picture.new.device in
    kept_scan first mid new c.in_ok-settings.ensures.rest c.in_err-scan_picture.ensures.same

pub returns-in_err-settings-clause-output : goal.returns-in_err-settings-clause-output
returns-in_err-settings-clause-output g c =
    let p = err_from_is_err_and c.from_residual.result c.from_residual.ensures.1 in
    rw (p.1, p.2) (λ sink. absurd (put_spares _ _ _ c.in_err-settings.ensures.stop sink))
