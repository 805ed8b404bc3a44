use Rattle.std.proofs.Common.{rules, ◌≡◌, ◌≢◌, refl, sym, ap, ◌∙◌, Ok}
use Rattle.std.proofs.lemmas.Result.{err_from_is_err_and}
use Rattle.scan_job.specs.declared.job.Task.TheVariants.{List as ListTask}
use Rattle.virtual_scanner.specs.Scanners.{scanner_state}
use Rattle.dispatch.specs.Table.{seen_unplug, table, unplug_answer}
use Rattle.scanimage_cli.specs.Causes.EndsHere.{ByJob, ByMemory}
use Rattle.scanimage_cli.specs.Causes.WantsMemoryHere.{ForDevice}
use Rattle.scanimage_cli.proofs.Carried.{batch_prints_none, does_spare, job_leaves, list_leaves, listed, on_err, on_ok_of, on_ok_of_two, print_leaves, scan_prints_none, untouched_plan}
use denote.Param.Object.{read_made}
use Rattle.scanimage_cli.proofs.task_here.run_task.OwnLists.{at-1-1, own-1}
use Rattle.scanimage_cli.proofs.task_here.run_task.Goals as goal

pub returns-then-eq-clause-done : goal.returns-then-eq-clause-done
returns-then-eq-clause-done g c =
    let is : c.args.plan.task ≡ ListTask = search rules in
    on_ok_of c.print.result (listed _ _ _ _ _ is (search rules) refl refl) c.print.ensures.whole

pub returns-clause-done : goal.returns-clause-done
returns-clause-done g c =
    let name : c.as_bytes.result.now ≡ c.in_ok-device.device = search rules in
    let other : c.args.plan.task ≢ ListTask = search rules in
    let is = read_made own-1 (own-1.entry at-1-1) at-1-1 refl _ (λ j v. j.1.state v) c.into_dyn_box-device.result.vtable c.into_dyn_box-device.result.value c.in-Ok-new.scanner.value c.into_dyn_box-device.ensures.1 ∙ ap scanner_state c.in-Ok-new.ensures.ok in
    on_ok_of_two c.print_all.result (λ printed rounded. record {
      list = λ is. absurd (other is);
      job = λ _. record {
        job = record { user = c.args.plan.user; password = c.args.password; device = c.in_ok-device.device; settings = c.args.plan.settings; task = c.args.plan.task };
        asked_for = record { user = refl; password_is = refl; settings_are = refl; task = refl };
        named = c.in_ok-device.ensures.named;
        old = _;
        new = _;
        found = ap (unplug_answer (table scanner_state c.args.registry.now)) (sym name) ∙ (sym c.unplug.ensures.answer ∙ (ap (seen_unplug scanner_state) c.in-Ok-unplug.is ∙ (ap Ok (sym is) ∙ ap (λ d. Ok ((own-1.entry d.0).1.state d.1)) (sym c.deref_box_mut-1.ensures.value.1))));
        behind = g.O.Write.contents c.run_job.new.out;
        printed = c.in_ok-printed.printed;
        does = c.in_ok-printed.ensures.done;
        printed_out = printed;
        rounded = rounded;
      };
    }) c.print_all.ensures.table c.print_all.ensures.rounded

pub returns-then-eq-clause-no_file : goal.returns-then-eq-clause-no_file
returns-then-eq-clause-no_file g c =
    let is : c.args.plan.task ≡ ListTask = search rules in
    list_leaves c.args.plan _ _ c.print.result is refl

pub returns-clause-no_file : goal.returns-clause-no_file
returns-clause-no_file g c =
    print_leaves c.args.plan _ _ c.in_ok-printed.printed.table.items c.print_all.result c.print_all.ensures.nothing
    (λ scan. scan_prints_none c.args.plan.destination _ _ _ _ c.in_ok-printed.printed scan c.in_ok-printed.ensures.done)
    (λ count batch. batch_prints_none c.args.plan.destination _ _ _ _ c.in_ok-printed.printed count batch c.in_ok-printed.ensures.done)
    (λ at. does_spare c.args.plan.destination _ _ _ _ c.in_ok-printed.printed at c.in_ok-printed.ensures.done)

pub returns-in_err-device-clause-no_file : goal.returns-in_err-device-clause-no_file
returns-in_err-device-clause-no_file g c = on_err c.from_residual.result (untouched_plan c.args.plan _)

pub returns-in_default-unplug-clause-no_file : goal.returns-in_default-unplug-clause-no_file
returns-in_default-unplug-clause-no_file g c = untouched_plan c.args.plan _

pub returns-in_default-new-clause-no_file : goal.returns-in_default-new-clause-no_file
returns-in_default-new-clause-no_file g c = untouched_plan c.args.plan _

pub returns-in_err-printed-clause-no_file : goal.returns-in_err-printed-clause-no_file
returns-in_err-printed-clause-no_file g c = on_err c.from_residual-in_err-printed.result (job_leaves c.args.plan _ _ c.in_err-printed.ensures.no_file)

pub returns-in_err-printed-clause-output : goal.returns-in_err-printed-clause-output
returns-in_err-printed-clause-output g c =
    let p = err_from_is_err_and c.from_residual-in_err-printed.result c.from_residual-in_err-printed.ensures.1 in
    rw (p.1, p.2) c.in_err-printed.ensures.output

pub returns-in_err-printed-clause-ended : goal.returns-in_err-printed-clause-ended
returns-in_err-printed-clause-ended g c =
    let p = err_from_is_err_and c.from_residual-in_err-printed.result c.from_residual-in_err-printed.ensures.1 in
    let name : c.as_bytes.result.now ≡ c.in_ok-device.device = search rules in
    let is = read_made own-1 (own-1.entry at-1-1) at-1-1 refl _ (λ j v. j.1.state v) c.into_dyn_box-device.result.vtable c.into_dyn_box-device.result.value c.in-Ok-new.scanner.value c.into_dyn_box-device.ensures.1 ∙ ap scanner_state c.in-Ok-new.ensures.ok in
    rw (p.1, p.2)
    (ByJob (record { user = c.args.plan.user; password = c.args.password; device = c.in_ok-device.device; settings = c.args.plan.settings; task = c.args.plan.task })
    (record { user = refl; password_is = refl; settings_are = refl; task = refl }) c.in_ok-device.ensures.named _
    (ap (unplug_answer (table scanner_state c.args.registry.now)) (sym name) ∙ (sym c.unplug.ensures.answer ∙ (ap (seen_unplug scanner_state) c.in-Ok-unplug.is ∙ (ap Ok (sym is) ∙ ap (λ d. Ok ((own-1.entry d.0).1.state d.1)) (sym c.deref_box_mut-1.ensures.value.1)))))
    refl c.in_err-printed.ensures.ended)

pub returns-in_default-new-clause-ended : goal.returns-in_default-new-clause-ended
returns-in_default-new-clause-ended g c =
    let name : c.as_bytes.result.now ≡ c.in_ok-device.device = search rules in
    let found = ap (unplug_answer (table scanner_state c.args.registry.now)) (sym name) ∙ (sym c.unplug.ensures.answer ∙ ap (seen_unplug scanner_state) c.in-Ok-unplug.is) in
    ByMemory c.no_memory-in_default-new.ensures (ForDevice c.in_ok-device.device c.in_ok-device.ensures.named _ found) refl
