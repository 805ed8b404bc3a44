use Rattle.std.proofs.Common.{◌∙◌, List, [], refl, ap}
use denote.Param.Object.{read_made}
use Rattle.std.specs.Prelude.{map}
use Rattle.page_sources.specs.SourceView.{source_state}
use Rattle.page_sources.specs.declared.kinds.Source.{Source}
use Rattle.page_picture.specs.declared.scene.DeviceKind.TheVariants.{Feeder}
use Rattle.sane_fixed.specs.declared.byte_order.ByteOrder.TheVariants.{Little}
use Rattle.virtual_scanner.specs.New.{new_device}
use Rattle.worked_worlds.proofs.Worked.{had_no_page, led_boxed, led_jobs, moved}
use Rattle.worked_worlds.proofs.tray.scan_no_page.OwnLists.{at-1-1, own-1}
use Rattle.worked_worlds.proofs.tray.scan_no_page.Goals as goal

pub returns : goal.returns
returns c = λ yes none.
    had_no_page c.args.name [] c.args.users _ c.args.job _
    (moved _ c.args.users _ c.args.job _ _
    (led_boxed _ c.in-Some.devices.items c.into_dyn_box.result _ c.args.users _ c.args.job _ c.in-Some.ensures
    (read_made own-1 (own-1.entry at-1-1) at-1-1 refl _ (λ j v. j.1.state v) c.into_dyn_box.result.vtable c.into_dyn_box.result.value c.in-Ok-new.scanner.value c.into_dyn_box.ensures.1 ∙ c.in-Ok-new.ensures.ok ∙ c.in-Ok.ensures.ok ∙ ap (λ (sources : List Source). new_device Feeder c.args.name (map source_state sources) Little) c.new.ensures.items)
    (led_jobs _ c.args.users _ c.in-Some-one_job.jobs.items c.args.job _ c.in-Some-one_job.ensures c.in-Ok-new-2.ensures.led))
    c.run_all.ensures.kept)
    (c.had_no_docs.ensures yes) none
