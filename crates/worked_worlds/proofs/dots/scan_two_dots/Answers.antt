use Rattle.std.proofs.Common.{◌∙◌, arith, inl, refl, rules}
use denote.Param.Object.{read_made}
use Rattle.worked_worlds.proofs.TwoFlatbeds.{err_into, fault_there, first_file, led_there, ok_into, second_file, two_off, two_refused, two_states}
use Rattle.worked_worlds.proofs.dots.scan_two_dots.OwnLists.{at-1-1, own-1}
use Rattle.worked_worlds.proofs.dots.scan_two_dots.Goals as goal

pub returns-in-Err-clause-err : goal.returns-in-Err-clause-err
returns-in-Err-clause-err c =
    inl (c.no_file.ensures (two_refused c.args.first c.args.second c.in-Some-dot_jobs.jobs.items c.in-Err.fault c.in-Some-dot_jobs.ensures
    (fault_there _ c.push.new.self.items _ c.in-Some-dot_jobs.jobs.items c.in-Err.fault
    (two_states _ c.push.new.self.items c.into_dyn_box.result c.into_dyn_box-2.result _ _ (let a = c.push.ensures.items in let b = c.is_err.ensures in let d = c.in-Some-one_box.ensures in let e = c.if-is_err.false in search rules)
    (read_made own-1 (own-1.entry at-1-1) at-1-1 refl _ (λ j v. j.1.state v) c.into_dyn_box.result.vtable c.into_dyn_box.result.value c.in-Ok.scanner.value c.into_dyn_box.ensures.1 ∙ c.in-Ok.ensures.ok ∙ c.in-Some.ensures)
    (read_made own-1 (own-1.entry at-1-1) at-1-1 refl _ (λ j v. j.1.state v) c.into_dyn_box-2.result.vtable c.into_dyn_box-2.result.value c.in-Ok-new.other.value c.into_dyn_box-2.ensures.1 ∙ c.in-Ok-new.ensures.ok ∙ c.in-Some-dot_flatbed.ensures))
    c.in-Err.ensures.fault)))

pub returns-clause-first : goal.returns-clause-first
returns-clause-first c =
    ok_into c.both_files.result _ _
    (λ files given. first_file c.a_dot_is_one_byte.ensures.flatbed c.args.first c.args.second _ c.in-Some-dot_jobs.jobs.items _ _ files.0.items (omega (arith, c.ranges.first.fits)) c.in-Some-dot_jobs.ensures
    (led_there _ c.push.new.self.items _ c.in-Some-nobody.users _ c.in-Some-dot_jobs.jobs.items _
    (two_states _ c.push.new.self.items c.into_dyn_box.result c.into_dyn_box-2.result _ _ (let a = c.push.ensures.items in let b = c.is_err.ensures in let d = c.in-Some-one_box.ensures in let e = c.if-is_err.false in search rules)
    (read_made own-1 (own-1.entry at-1-1) at-1-1 refl _ (λ j v. j.1.state v) c.into_dyn_box.result.vtable c.into_dyn_box.result.value c.in-Ok.scanner.value c.into_dyn_box.ensures.1 ∙ c.in-Ok.ensures.ok ∙ c.in-Some.ensures)
    (read_made own-1 (own-1.entry at-1-1) at-1-1 refl _ (λ j v. j.1.state v) c.into_dyn_box-2.result.vtable c.into_dyn_box-2.result.value c.in-Ok-new.other.value c.into_dyn_box-2.ensures.1 ∙ c.in-Ok-new.ensures.ok ∙ c.in-Some-dot_flatbed.ensures))
    c.in-Some-nobody.ensures c.in-Ok-new-2.ensures.led)
    c.run_all.ensures.kept given.0)
    c.both_files.ensures.ok

pub returns-clause-second : goal.returns-clause-second
returns-clause-second c =
    ok_into c.both_files.result _ _
    (λ files given. second_file c.a_dot_is_one_byte.ensures.flatbed c.args.first c.args.second _ c.in-Some-dot_jobs.jobs.items _ _ files.1.items (omega (arith, c.ranges.second.fits)) c.in-Some-dot_jobs.ensures
    (led_there _ c.push.new.self.items _ c.in-Some-nobody.users _ c.in-Some-dot_jobs.jobs.items _
    (two_states _ c.push.new.self.items c.into_dyn_box.result c.into_dyn_box-2.result _ _ (let a = c.push.ensures.items in let b = c.is_err.ensures in let d = c.in-Some-one_box.ensures in let e = c.if-is_err.false in search rules)
    (read_made own-1 (own-1.entry at-1-1) at-1-1 refl _ (λ j v. j.1.state v) c.into_dyn_box.result.vtable c.into_dyn_box.result.value c.in-Ok.scanner.value c.into_dyn_box.ensures.1 ∙ c.in-Ok.ensures.ok ∙ c.in-Some.ensures)
    (read_made own-1 (own-1.entry at-1-1) at-1-1 refl _ (λ j v. j.1.state v) c.into_dyn_box-2.result.vtable c.into_dyn_box-2.result.value c.in-Ok-new.other.value c.into_dyn_box-2.ensures.1 ∙ c.in-Ok-new.ensures.ok ∙ c.in-Some-dot_flatbed.ensures))
    c.in-Some-nobody.ensures c.in-Ok-new-2.ensures.led)
    c.run_all.ensures.kept given.1)
    c.both_files.ensures.ok

pub returns-clause-err : goal.returns-clause-err
returns-clause-err c =
    err_into c.both_files.result _ _
    (λ why none. two_off c.args.first c.args.second _ c.in-Some-dot_jobs.jobs.items _ _ why c.in-Some-dot_jobs.ensures
    (led_there _ c.push.new.self.items _ c.in-Some-nobody.users _ c.in-Some-dot_jobs.jobs.items _
    (two_states _ c.push.new.self.items c.into_dyn_box.result c.into_dyn_box-2.result _ _ (let a = c.push.ensures.items in let b = c.is_err.ensures in let d = c.in-Some-one_box.ensures in let e = c.if-is_err.false in search rules)
    (read_made own-1 (own-1.entry at-1-1) at-1-1 refl _ (λ j v. j.1.state v) c.into_dyn_box.result.vtable c.into_dyn_box.result.value c.in-Ok.scanner.value c.into_dyn_box.ensures.1 ∙ c.in-Ok.ensures.ok ∙ c.in-Some.ensures)
    (read_made own-1 (own-1.entry at-1-1) at-1-1 refl _ (λ j v. j.1.state v) c.into_dyn_box-2.result.vtable c.into_dyn_box-2.result.value c.in-Ok-new.other.value c.into_dyn_box-2.ensures.1 ∙ c.in-Ok-new.ensures.ok ∙ c.in-Some-dot_flatbed.ensures))
    c.in-Some-nobody.ensures c.in-Ok-new-2.ensures.led)
    c.run_all.ensures.clear none)
    c.both_files.ensures.err
