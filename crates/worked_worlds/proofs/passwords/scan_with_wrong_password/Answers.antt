use Rattle.std.proofs.Common.{◌∙◌, refl}
use denote.Param.Object.{read_made}
use Rattle.worked_worlds.proofs.Worked.{led_boxed, led_jobs, moved, was_disallowed}
use Rattle.worked_worlds.proofs.passwords.scan_with_wrong_password.OwnLists.{at-1-1, own-1}
use Rattle.worked_worlds.proofs.passwords.scan_with_wrong_password.Goals as goal

pub returns : goal.returns
returns c = λ yes none.
    was_disallowed c.args.name c.args.page c.args.users _ c.args.job _
    (moved _ c.args.users _ c.args.job _ _ (led_boxed _ c.in-Some-one_box.devices.items c.into_dyn_box.result _ c.args.users _ c.args.job _ c.in-Some-one_box.ensures (read_made own-1 (own-1.entry at-1-1) at-1-1 refl _ (λ j v. j.1.state v) c.into_dyn_box.result.vtable c.into_dyn_box.result.value c.in-Ok.scanner.value c.into_dyn_box.ensures.1 ∙ c.in-Ok.ensures.ok ∙ c.in-Some.ensures) (led_jobs _ c.args.users _ c.in-Some-one_job.jobs.items c.args.job _ c.in-Some-one_job.ensures c.in-Ok-new.ensures.led)) c.run_all.ensures.kept)
    (c.was_denied.ensures yes) none
