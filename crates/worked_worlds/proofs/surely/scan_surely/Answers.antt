use Rattle.std.proofs.Common.{◌∙◌, inl, inr, refl}
use denote.Param.Object.{read_made}
use Rattle.scan_world.proofs.Examples.{given_file}
use Rattle.worked_worlds.proofs.Worked.{broken_off, fault_boxed, led_boxed, led_jobs, moved, only_memory, scan_copied}
use Rattle.worked_worlds.proofs.surely.scan_surely.OwnLists.{at-1-1, own-1}
use Rattle.worked_worlds.proofs.surely.scan_surely.Goals as goal

pub returns-in-Err : goal.returns-in-Err
returns-in-Err c = record {
  ok = tt;
  err = λ plain. inl (c.no_file.ensures (only_memory c.in-Err.fault _ c.args.job plain.fit (fault_boxed _ c.in-Some-one_box.devices.items c.into_dyn_box.result _ c.in-Some-one_job.jobs.items c.args.job c.in-Err.fault c.in-Some-one_box.ensures (read_made own-1 (own-1.entry at-1-1) at-1-1 refl _ (λ j v. j.1.state v) c.into_dyn_box.result.vtable c.into_dyn_box.result.value c.in-Ok.scanner.value c.into_dyn_box.ensures.1 ∙ c.in-Ok.ensures.ok ∙ c.in-Some.ensures) c.in-Some-one_job.ensures c.in-Err.ensures.fault)));
}

pub returns-in-Other-clause-err : goal.returns-in-Other-clause-err
returns-in-Other-clause-err c = λ plain. inr (
  refl,
  broken_off c.a_plain_job_is_clear.ensures.flatbed c.args.name c.args.page c.args.users _ c.args.job _ _
      (led_boxed _ c.in-Some-one_box.devices.items c.into_dyn_box.result _ c.args.users _ c.args.job _ c.in-Some-one_box.ensures (read_made own-1 (own-1.entry at-1-1) at-1-1 refl _ (λ j v. j.1.state v) c.into_dyn_box.result.vtable c.into_dyn_box.result.value c.in-Ok.scanner.value c.into_dyn_box.ensures.1 ∙ c.in-Ok.ensures.ok ∙ c.in-Some.ensures) (led_jobs _ c.args.users _ c.in-Some-one_job.jobs.items c.args.job _ c.in-Some-one_job.ensures c.in-Ok-new.ensures.led))
      c.run_all.ensures.clear (c.end_of.ensures.other c.in-Other.is) plain,
)

pub returns-clause-ok : goal.returns-clause-ok
returns-clause-ok c = λ scan.
    let done = c.end_of.ensures.done c.in-Done.is in
    scan_copied c.args.name c.args.page c.args.users _ c.args.job _ done.0 _ c.in-Some-copied.copy.items c.in-Some-copied.ensures
    (moved _ c.args.users _ c.args.job _ _ (led_boxed _ c.in-Some-one_box.devices.items c.into_dyn_box.result _ c.args.users _ c.args.job _ c.in-Some-one_box.ensures (read_made own-1 (own-1.entry at-1-1) at-1-1 refl _ (λ j v. j.1.state v) c.into_dyn_box.result.vtable c.into_dyn_box.result.value c.in-Ok.scanner.value c.into_dyn_box.ensures.1 ∙ c.in-Ok.ensures.ok ∙ c.in-Some.ensures) (led_jobs _ c.args.users _ c.in-Some-one_job.jobs.items c.args.job _ c.in-Some-one_job.ensures c.in-Ok-new.ensures.led)) c.run_all.ensures.kept)
    (given_file _ _ c.in-Some-file.ensures.is c.in-Some-file.ensures.kept) done.1 scan
