use Rattle.std.proofs.Common.{◌≡◌, ◌∙◌, rules, refl, sym, None, Ok}
use Rattle.std.proofs.lemmas.Result.{err_from_is_err_and}
use Rattle.device_api.specs.State.{DeviceState}
use Rattle.scan_job.specs.JobSize.{HasJobFault}
use Rattle.local_job.specs.LocalRun.{settings_put}
use Rattle.local_job.specs.Inside.{put_all}
use Rattle.local_job.proofs.BatchRuns.{batch_done, ended_by_fault, ended_by_memory, ended_by_pages, ended_by_setting}
use Rattle.local_job.proofs.OutputEnds.{put_spares}
use Rattle.local_job.proofs.local_batch.do_batch.Goals as goal

pub returns-then-not-is_taken-clause-stop : goal.returns-then-not-is_taken-clause-stop
returns-then-not-is_taken-clause-stop g c =
    let first : DeviceState = (goal.Device-dyn g c.args.device.now).state c.args.device.now.1 in
    ended_by_fault first c.args.job.now _ _ c.requires.reset (search rules) c.bad_setting.ensures

pub returns-in_err-settings-clause-stop : goal.returns-in_err-settings-clause-stop
returns-in_err-settings-clause-stop g c =
    let first : DeviceState = (goal.Device-dyn g c.args.device.now).state c.args.device.now.1 in
    let new : DeviceState = (goal.Device-dyn g c.args.device.now).state c.put_settings.new.device in
    let taken : HasJobFault c.args.job.now None = search rules in
    let p = err_from_is_err_and c.from_residual.result c.from_residual.ensures.1 in
    rw (p.1, p.2) (ended_by_setting first new c.args.job.now (g.S.Shelf.stock c.args.shelf.now) _ c.requires.reset taken c.in_err-settings.ensures.rest (rw (← c.deref.ensures.value, ← c.settings_put.ensures) c.in_err-settings.ensures.stop))

pub returns-in_err-scan_pages-clause-stop : goal.returns-in_err-scan_pages-clause-stop
returns-in_err-scan_pages-clause-stop g c =
    let first : DeviceState = (goal.Device-dyn g c.args.device.now).state c.args.device.now.1 in
    let mid : DeviceState = (goal.Device-dyn g c.args.device.now).state c.put_settings.new.device in
    let new : DeviceState = (goal.Device-dyn g c.args.device.now).state c.scan_pages.new.device in
    let taken : HasJobFault c.args.job.now None = search rules in
    let put : put_all first.setup (settings_put c.args.job.now.task c.args.job.now.settings.items) ≡ Ok (mid.setup, c.in_ok-settings.settings) = rw (← c.deref.ensures.value, ← c.settings_put.ensures) c.in_ok-settings.ensures.put in
    let p = err_from_is_err_and c.from_residual-in_err-scan_pages.result c.from_residual-in_err-scan_pages.ensures.1 in
    rw (p.1, p.2) (ended_by_pages first mid new c.args.job.now _ _ _ _ c.requires.reset taken c.in_ok-settings.ensures.rest put (rw (← c.pages_of_task.ensures) c.in_err-scan_pages.ensures.stop))

pub returns-clause-done : goal.returns-clause-done
returns-clause-done g c =
    let first : DeviceState = (goal.Device-dyn g c.args.device.now).state c.args.device.now.1 in
    let mid : DeviceState = (goal.Device-dyn g c.args.device.now).state c.put_settings.new.device in
    let new : DeviceState = (goal.Device-dyn g c.args.device.now).state c.scan_pages.new.device in
    let taken : HasJobFault c.args.job.now None = search rules in
    let put : put_all first.setup (settings_put c.args.job.now.task c.args.job.now.settings.items) ≡ Ok (mid.setup, c.in_ok-settings.settings) = rw (← c.deref.ensures.value, ← c.settings_put.ensures) c.in_ok-settings.ensures.put in
    batch_done first mid new c.args.job.now _ _ _ c.requires.reset taken c.in_ok-settings.ensures.rest put c.in_ok-devices.ensures.told c.in_ok-options.ensures.told (rw (← c.pages_of_task.ensures) c.in_ok-scan_pages.ensures.done)

pub returns-in_err-settings-clause-output : goal.returns-in_err-settings-clause-output
returns-in_err-settings-clause-output g c =
    let p = err_from_is_err_and c.from_residual.result c.from_residual.ensures.1 in
    rw (p.1, p.2) (λ sink. absurd (put_spares _ _ _ c.in_err-settings.ensures.stop sink))
