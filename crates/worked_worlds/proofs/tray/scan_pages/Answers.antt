use Rattle.std.proofs.Common.{◌∙◌, [], ◌∷◌, refl}
use Rattle.std.proofs.lemmas.Option.{IfSome_then}
use denote.Param.Object.{read_made}
use Rattle.worked_worlds.proofs.Worked.{are_scans, led_boxed, led_jobs, moved}
use Rattle.worked_worlds.proofs.tray.scan_pages.OwnLists.{at-1-1, own-1}
use Rattle.worked_worlds.proofs.tray.scan_pages.Goals as goal

pub returns : goal.returns
returns c =
    IfSome_then c.first_files.result c.first_files.ensures (λ files given.
    are_scans c.args.name (c.args.first ∷ c.args.second ∷ []) c.args.users _ c.args.job _ files.0.items files.1.items
    (moved _ c.args.users _ c.args.job _ _
    (led_boxed _ c.in_ok-devices.devices.items c.into_dyn_box.result _ c.args.users _ c.args.job _ c.in_ok-devices.ensures
    (read_made own-1 (own-1.entry at-1-1) at-1-1 refl _ (λ j v. j.1.state v) c.into_dyn_box.result.vtable c.into_dyn_box.result.value c.in-Ok.scanner.value c.into_dyn_box.ensures.1 ∙ c.in-Ok.ensures.ok ∙ c.in_ok-feeder.ensures)
    (led_jobs _ c.args.users _ c.in_ok-jobs.jobs.items c.args.job _ c.in_ok-jobs.ensures c.in-Ok-new.ensures.led))
    c.run_all.ensures.kept)
    given.0.0 given.1.0)
