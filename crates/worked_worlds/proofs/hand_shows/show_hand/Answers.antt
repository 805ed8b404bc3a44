use Rattle.std.proofs.Common.{◌∙◌, inl, refl}
use denote.Param.Object.{read_made}
use Rattle.worked_worlds.proofs.HandShow.{hand_off, hand_refused, hand_says}
use Rattle.worked_worlds.proofs.TwoFlatbeds.{err_into, fault_there, led_there, ok_into, one_state}
use Rattle.worked_worlds.proofs.hand_shows.show_hand.OwnLists.{at-1-1, own-1}
use Rattle.worked_worlds.proofs.hand_shows.show_hand.Goals as goal

pub returns-in-Err-clause-err : goal.returns-in-Err-clause-err
returns-in-Err-clause-err c =
    inl (c.no_file.ensures (hand_refused _ c.in-Some-one_job.jobs.items c.in-Some-hand_job.job c.in-Err.fault c.in-Some-one_job.ensures c.in-Some-hand_job.ensures
    (fault_there _ c.in-Some-one_box.devices.items _ c.in-Some-one_job.jobs.items c.in-Err.fault
    (one_state _ c.in-Some-one_box.devices.items c.into_dyn_box.result _ c.in-Some-one_box.ensures
    (read_made own-1 (own-1.entry at-1-1) at-1-1 refl _ (λ j v. j.1.state v) c.into_dyn_box.result.vtable c.into_dyn_box.result.value c.in-Ok.scanner.value c.into_dyn_box.ensures.1 ∙ c.in-Ok.ensures.ok ∙ c.in-Some.ensures))
    c.in-Err.ensures.fault)))

pub returns-clause-ok : goal.returns-clause-ok
returns-clause-ok c =
    ok_into c.table_of.result _ _
    (λ table given. hand_says c.args.gray _ c.in-Some-one_job.jobs.items c.in-Some-hand_job.job _ _ table.items c.in-Some-one_job.ensures c.in-Some-hand_job.ensures
    (led_there _ c.in-Some-one_box.devices.items _ c.in-Some-nobody.users _ c.in-Some-one_job.jobs.items _
    (one_state _ c.in-Some-one_box.devices.items c.into_dyn_box.result _ c.in-Some-one_box.ensures
    (read_made own-1 (own-1.entry at-1-1) at-1-1 refl _ (λ j v. j.1.state v) c.into_dyn_box.result.vtable c.into_dyn_box.result.value c.in-Ok.scanner.value c.into_dyn_box.ensures.1 ∙ c.in-Ok.ensures.ok ∙ c.in-Some.ensures))
    c.in-Some-nobody.ensures c.in-Ok-new.ensures.led)
    c.run_all.ensures.kept given)
    c.table_of.ensures.ok

pub returns-clause-err : goal.returns-clause-err
returns-clause-err c =
    err_into c.table_of.result _ _
    (λ why none. hand_off c.args.gray _ c.in-Some-one_job.jobs.items c.in-Some-hand_job.job _ _ why c.in-Some-one_job.ensures c.in-Some-hand_job.ensures
    (led_there _ c.in-Some-one_box.devices.items _ c.in-Some-nobody.users _ c.in-Some-one_job.jobs.items _
    (one_state _ c.in-Some-one_box.devices.items c.into_dyn_box.result _ c.in-Some-one_box.ensures
    (read_made own-1 (own-1.entry at-1-1) at-1-1 refl _ (λ j v. j.1.state v) c.into_dyn_box.result.vtable c.into_dyn_box.result.value c.in-Ok.scanner.value c.into_dyn_box.ensures.1 ∙ c.in-Ok.ensures.ok ∙ c.in-Some.ensures))
    c.in-Some-nobody.ensures c.in-Ok-new.ensures.led)
    c.run_all.ensures.clear none)
    c.table_of.ensures.err
