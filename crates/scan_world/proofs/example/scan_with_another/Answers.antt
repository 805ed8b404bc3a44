use Rattle.std.proofs.Common.{◌∙◌, rules, refl, ap, sym}
use denote.Param.Object.{read_made}
use Rattle.page_picture.specs.Source.{SourceState}
use Rattle.scan_world.proofs.Examples.{given_file, with_other_boxed}
use Rattle.scan_world.proofs.example.scan_with_another.OwnLists.{at-1-1, own-1}
use Rattle.scan_world.proofs.example.scan_with_another.Goals as goal

pub returns : goal.returns
returns c = λ named scan.
    let boxed = c.in-Ok-new.ensures.ok in
    let made = c.in-Ok.ensures.ok in
    with_other_boxed _ c.push-2.new.self.items c.into_dyn_box.result c.into_dyn_box-2.result c.args.users _ c.push-3.new.self.items c.args.job _ _ c.args.name c.new.result c.args.page c.in_ok-outcome.field-0.now c.in_ok-file.field-0.now c.extend_from_slice.new.self.items
    c.in-Ok-new-4.ensures.led c.run_all.ensures.kept (given_file _ c.in_ok-file.field-0.now c.in_ok-file.ensures.is c.in_ok-file.ensures.kept)
    (let a = c.push.ensures.items in let b = c.is_err.ensures in let d = c.new-devices.ensures.items in let e = c.if-is_err.false in let f = c.push-2.ensures.items in let g = c.is_err-2.ensures in let h = c.if-is_err-2.false in search rules)
    (read_made own-1 (own-1.entry at-1-1) at-1-1 refl _ (λ j v. j.1.state v) c.into_dyn_box.result.vtable c.into_dyn_box.result.value c.in-Ok-new.scanner.value c.into_dyn_box.ensures.1 ∙ boxed ∙ made)
    (let a = c.push-3.ensures.items in let b = c.is_err-3.ensures in let d = c.new-jobs.ensures.items in let e = c.if-is_err-3.false in search rules)
    (ap (λ (x : SourceState). x.steady) c.new.ensures)
    (ap (λ (x : SourceState). x.page) c.new.ensures)
    (sym c.in_ok-outcome.ensures.is)
    (search rules)
    (let a = c.extend_from_slice.ensures.items in let b = c.new-bytes.ensures.items in let d = c.is_err-4.ensures in let e = c.if-is_err-4.false in search rules)
    named
    scan
