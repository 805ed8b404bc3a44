use Rattle.std.proofs.Common.{◌∙◌, arith, inl, refl}
use denote.Param.Object.{read_made}
use Rattle.worked_worlds.proofs.ThreePages.{first_of_three, second_of_three, three_off, three_refused}
use Rattle.worked_worlds.proofs.TwoFlatbeds.{err_into, fault_there, led_there, ok_into, one_state}
use Rattle.worked_worlds.proofs.tray_dots.scan_two_of_three.OwnLists.{at-1-1, own-1}
use Rattle.worked_worlds.proofs.tray_dots.scan_two_of_three.Goals as goal

pub returns-in-Err-clause-err : goal.returns-in-Err-clause-err
returns-in-Err-clause-err c =
    inl (c.no_file.ensures (three_refused _ c.in-Some-one_job.jobs.items c.in-Some-dot_job.job c.in-Err.fault c.in-Some-one_job.ensures c.in-Some-dot_job.ensures
    (fault_there _ c.in-Some-one_box.devices.items _ c.in-Some-one_job.jobs.items c.in-Err.fault
    (one_state _ c.in-Some-one_box.devices.items c.into_dyn_box.result _ c.in-Some-one_box.ensures
    (read_made own-1 (own-1.entry at-1-1) at-1-1 refl _ (λ j v. j.1.state v) c.into_dyn_box.result.vtable c.into_dyn_box.result.value c.in-Ok.scanner.value c.into_dyn_box.ensures.1 ∙ c.in-Ok.ensures.ok ∙ c.in-Some.ensures))
    c.in-Err.ensures.fault)))

pub returns-clause-first : goal.returns-clause-first
returns-clause-first c =
    ok_into c.two_files.result _ _
    (λ files given. first_of_three c.a_dot_is_one_byte.ensures.feeder c.args.first c.args.second c.args.third _ c.in-Some-one_job.jobs.items c.in-Some-dot_job.job _ _ files.0.items files.1.items (omega (arith, c.ranges.first.fits)) c.in-Some-one_job.ensures c.in-Some-dot_job.ensures
    (led_there _ c.in-Some-one_box.devices.items _ c.in-Some-nobody.users _ c.in-Some-one_job.jobs.items _
    (one_state _ c.in-Some-one_box.devices.items c.into_dyn_box.result _ c.in-Some-one_box.ensures
    (read_made own-1 (own-1.entry at-1-1) at-1-1 refl _ (λ j v. j.1.state v) c.into_dyn_box.result.vtable c.into_dyn_box.result.value c.in-Ok.scanner.value c.into_dyn_box.ensures.1 ∙ c.in-Ok.ensures.ok ∙ c.in-Some.ensures))
    c.in-Some-nobody.ensures c.in-Ok-new.ensures.led)
    c.run_all.ensures.kept given)
    c.two_files.ensures.ok

pub returns-clause-second : goal.returns-clause-second
returns-clause-second c =
    ok_into c.two_files.result _ _
    (λ files given. second_of_three c.a_dot_is_one_byte.ensures.feeder c.args.first c.args.second c.args.third _ c.in-Some-one_job.jobs.items c.in-Some-dot_job.job _ _ files.0.items files.1.items (omega (arith, c.ranges.second.fits)) c.in-Some-one_job.ensures c.in-Some-dot_job.ensures
    (led_there _ c.in-Some-one_box.devices.items _ c.in-Some-nobody.users _ c.in-Some-one_job.jobs.items _
    (one_state _ c.in-Some-one_box.devices.items c.into_dyn_box.result _ c.in-Some-one_box.ensures
    (read_made own-1 (own-1.entry at-1-1) at-1-1 refl _ (λ j v. j.1.state v) c.into_dyn_box.result.vtable c.into_dyn_box.result.value c.in-Ok.scanner.value c.into_dyn_box.ensures.1 ∙ c.in-Ok.ensures.ok ∙ c.in-Some.ensures))
    c.in-Some-nobody.ensures c.in-Ok-new.ensures.led)
    c.run_all.ensures.kept given)
    c.two_files.ensures.ok

pub returns-clause-err : goal.returns-clause-err
returns-clause-err c =
    err_into c.two_files.result _ _
    (λ why none. three_off c.a_plain_job_is_clear.ensures.feeder c.args.first c.args.second c.args.third _ c.in-Some-one_job.jobs.items c.in-Some-dot_job.job _ _ why c.in-Some-one_job.ensures c.in-Some-dot_job.ensures
    (led_there _ c.in-Some-one_box.devices.items _ c.in-Some-nobody.users _ c.in-Some-one_job.jobs.items _
    (one_state _ c.in-Some-one_box.devices.items c.into_dyn_box.result _ c.in-Some-one_box.ensures
    (read_made own-1 (own-1.entry at-1-1) at-1-1 refl _ (λ j v. j.1.state v) c.into_dyn_box.result.vtable c.into_dyn_box.result.value c.in-Ok.scanner.value c.into_dyn_box.ensures.1 ∙ c.in-Ok.ensures.ok ∙ c.in-Some.ensures))
    c.in-Some-nobody.ensures c.in-Ok-new.ensures.led)
    c.run_all.ensures.kept c.run_all.ensures.clear none)
    c.two_files.ensures.err
