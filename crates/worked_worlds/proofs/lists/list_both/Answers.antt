use Rattle.std.proofs.Common.{◌∙◌, rules, refl}
use denote.Param.Object.{read_made}
use Rattle.worked_worlds.proofs.Worked.{led_boxes, led_jobs, lists_all, moved}
use Rattle.worked_worlds.proofs.lists.list_both.OwnLists.{at-1-1, own-1}
use Rattle.worked_worlds.proofs.lists.list_both.Goals as goal

pub returns : goal.returns
returns c = λ yes list.
    lists_all c.all_are_listed.ensures _ c.args.users _ c.args.job _
    (moved _ c.args.users _ c.args.job _ _
    (led_boxes _ c.push.new.self.items c.into_dyn_box.result c.into_dyn_box-2.result _ _ c.args.users _ c.args.job _
    (let a = c.push.ensures.items in let b = c.is_err.ensures in let d = c.in-Some-one_box.ensures in let e = c.if-is_err.false in search rules)
    (read_made own-1 (own-1.entry at-1-1) at-1-1 refl _ (λ j v. j.1.state v) c.into_dyn_box.result.vtable c.into_dyn_box.result.value c.in-Ok.scanner.value c.into_dyn_box.ensures.1 ∙ c.in-Ok.ensures.ok ∙ c.in-Some.ensures)
    (read_made own-1 (own-1.entry at-1-1) at-1-1 refl _ (λ j v. j.1.state v) c.into_dyn_box-2.result.vtable c.into_dyn_box-2.result.value c.in-Ok-new.other.value c.into_dyn_box-2.ensures.1 ∙ c.in-Ok-new.ensures.ok ∙ c.in-Some-flatbed_on.ensures)
    (led_jobs _ c.args.users _ c.in-Some-one_job.jobs.items c.args.job _ c.in-Some-one_job.ensures c.in-Ok-new-2.ensures.led))
    c.run_all.ensures.kept)
    (c.is_done.ensures yes) list
