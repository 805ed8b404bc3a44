use Rattle.std.proofs.Common.{◌∙◌, inl, inr, [], ◌∷◌, arith, refl}
use denote.Param.Object.{read_made}
use Rattle.worked_worlds.proofs.Trays.{all_finished, batch_broken_off, fed_scan}
use Rattle.worked_worlds.proofs.Worked.{fault_boxed, led_boxed, led_jobs, moved, only_memory}
use Rattle.worked_worlds.proofs.both.scan_both_surely.OwnLists.{at-1-1, own-1}
use Rattle.worked_worlds.proofs.both.scan_both_surely.Goals as goal

pub returns-in-Err : goal.returns-in-Err
returns-in-Err c = record {
  first_file = tt;
  second_file = tt;
  err = λ plain. inl (c.no_file.ensures (only_memory c.in-Err.fault _ c.args.job plain.fit (fault_boxed _ c.in-Some-one_box.devices.items c.into_dyn_box.result _ c.in-Some-one_job.jobs.items c.args.job c.in-Err.fault c.in-Some-one_box.ensures (read_made own-1 (own-1.entry at-1-1) at-1-1 refl _ (λ j v. j.1.state v) c.into_dyn_box.result.vtable c.into_dyn_box.result.value c.in-Ok.scanner.value c.into_dyn_box.ensures.1 ∙ c.in-Ok.ensures.ok ∙ c.in-Some.ensures) c.in-Some-one_job.ensures c.in-Err.ensures.fault)));
}

pub returns-in-Other-clause-err : goal.returns-in-Other-clause-err
returns-in-Other-clause-err c = λ plain. inr (
  refl,
  batch_broken_off c.a_plain_job_is_clear.ensures.feeder c.args.name c.args.first c.args.second c.args.users _ c.args.job _ _
      (led_boxed _ c.in-Some-one_box.devices.items c.into_dyn_box.result _ c.args.users _ c.args.job _ c.in-Some-one_box.ensures (read_made own-1 (own-1.entry at-1-1) at-1-1 refl _ (λ j v. j.1.state v) c.into_dyn_box.result.vtable c.into_dyn_box.result.value c.in-Ok.scanner.value c.into_dyn_box.ensures.1 ∙ c.in-Ok.ensures.ok ∙ c.in-Some.ensures) (led_jobs _ c.args.users _ c.in-Some-one_job.jobs.items c.args.job _ c.in-Some-one_job.ensures c.in-Ok-new.ensures.led))
      c.run_all.ensures.clear (c.end_of.ensures.other c.in-Other.is) plain,
)

pub returns-then-finished-lt2-clause-err : goal.returns-then-finished-lt2-clause-err
returns-then-finished-lt2-clause-err c = λ plain.
    let done = c.end_of.ensures.done c.in-Done.is in
    let all = all_finished c.args.name c.args.first c.args.second c.args.users _ c.args.job _ done.0 c.finished.result
    (moved _ c.args.users _ c.args.job _ _ (led_boxed _ c.in-Some-one_box.devices.items c.into_dyn_box.result _ c.args.users _ c.args.job _ c.in-Some-one_box.ensures (read_made own-1 (own-1.entry at-1-1) at-1-1 refl _ (λ j v. j.1.state v) c.into_dyn_box.result.vtable c.into_dyn_box.result.value c.in-Ok.scanner.value c.into_dyn_box.ensures.1 ∙ c.in-Ok.ensures.ok ∙ c.in-Some.ensures) (led_jobs _ c.args.users _ c.in-Some-one_job.jobs.items c.args.job _ c.in-Some-one_job.ensures c.in-Ok-new.ensures.led)) c.run_all.ensures.kept)
    c.finished.ensures.tray done.1 plain in
    absurd (omega (arith, all, c.if-finished-lt2.true))

pub returns-clause-first_file : goal.returns-clause-first_file
returns-clause-first_file c =
    fed_scan c.args.name (c.args.first ∷ c.args.second ∷ []) c.args.users _ c.args.job _ 1 c.args.first c.in-Some-first_files.files.0.items
    (moved _ c.args.users _ c.args.job _ _ (led_boxed _ c.in-Some-one_box.devices.items c.into_dyn_box.result _ c.args.users _ c.args.job _ c.in-Some-one_box.ensures (read_made own-1 (own-1.entry at-1-1) at-1-1 refl _ (λ j v. j.1.state v) c.into_dyn_box.result.vtable c.into_dyn_box.result.value c.in-Ok.scanner.value c.into_dyn_box.ensures.1 ∙ c.in-Ok.ensures.ok ∙ c.in-Some.ensures) (led_jobs _ c.args.users _ c.in-Some-one_job.jobs.items c.args.job _ c.in-Some-one_job.ensures c.in-Ok-new.ensures.led)) c.run_all.ensures.kept)
    refl c.in-Some-first_files.ensures.0

pub returns-clause-second_file : goal.returns-clause-second_file
returns-clause-second_file c =
    fed_scan c.args.name (c.args.first ∷ c.args.second ∷ []) c.args.users _ c.args.job _ 2 c.args.second c.in-Some-first_files.files.1.items
    (moved _ c.args.users _ c.args.job _ _ (led_boxed _ c.in-Some-one_box.devices.items c.into_dyn_box.result _ c.args.users _ c.args.job _ c.in-Some-one_box.ensures (read_made own-1 (own-1.entry at-1-1) at-1-1 refl _ (λ j v. j.1.state v) c.into_dyn_box.result.vtable c.into_dyn_box.result.value c.in-Ok.scanner.value c.into_dyn_box.ensures.1 ∙ c.in-Ok.ensures.ok ∙ c.in-Some.ensures) (led_jobs _ c.args.users _ c.in-Some-one_job.jobs.items c.args.job _ c.in-Some-one_job.ensures c.in-Ok-new.ensures.led)) c.run_all.ensures.kept)
    refl c.in-Some-first_files.ensures.1
