use Rattle.std.proofs.Common.{rules, ◌≡◌, Some, None, inl, inr, true, refl, subst}
use Rattle.scanimage_cli.specs.Ending.{JobIsRefusedAs}
use Rattle.std.proofs.lemmas.Result.{err_from_is_err_and}
use Rattle.scan_job.specs.declared.job.Job.{Job}
use Rattle.scanimage_cli.specs.Causes.EndsThere.{ByJob, ByLoss, ByName, BySize}
use Rattle.scanimage_cli.proofs.Carried.{batch_there_prints_none, job_leaves, on_err, on_ok_of_two, print_leaves, ran_spares, scan_there_prints_none, untouched_plan}
use Rattle.scanimage_cli.proofs.RanAt.{called_as, ran_at, unconnected_as}
use Rattle.scanimage_cli.proofs.task_there.run_net_task.Goals as goal

pub returns-clause-done : goal.returns-clause-done
returns-clause-done g c =
    let host : c.as_bytes-host.result.now ≡ c.args.remote.host = search rules in
    let job : Job = record { user = c.args.plan.user; password = c.args.password; device = c.args.remote.device; settings = c.args.plan.settings; task = c.args.plan.task } in
    let fits : JobIsRefusedAs job None = search rules in
    on_ok_of_two c.print_all.result (λ printed rounded. record {
      job = job;
      asked_for = record { user = refl; password_is = refl; settings_are = refl; task = refl };
      device = refl;
      fits = fits;
      connected = g.H.Dial.ports c.connection.new.hosts;
      called = called_as c.args.remote _ true _ _ host c.in_ok-control.ensures.called;
      behind = g.O.Write.contents c.run_job.new.out;
      printed = c.in_ok-printed.printed;
      ran = ran_at job _ c.args.remote.host c.args.plan.destination _ _ _ c.in_ok-printed.printed host c.in_ok-printed.ensures.ran;
      printed_out = printed;
      rounded = rounded;
    }) c.print_all.ensures.table c.print_all.ensures.rounded

pub returns-in_err-control-clause-no_file : goal.returns-in_err-control-clause-no_file
returns-in_err-control-clause-no_file g c = on_err _ (untouched_plan c.args.plan _)

pub returns-clause-no_file : goal.returns-clause-no_file
returns-clause-no_file g c =
    print_leaves c.args.plan _ _ c.in_ok-printed.printed.table.items c.print_all.result c.print_all.ensures.nothing
    (λ scan. scan_there_prints_none c.args.plan.destination _ _ _ _ _ c.in_ok-printed.printed scan c.in_ok-printed.ensures.ran)
    (λ count batch. batch_there_prints_none c.args.plan.destination _ _ _ _ _ c.in_ok-printed.printed count batch c.in_ok-printed.ensures.ran)
    (λ at. ran_spares c.args.plan.destination _ _ _ _ _ c.in_ok-printed.printed at c.in_ok-printed.ensures.ran)

pub returns-in-Some-clause-no_file : goal.returns-in-Some-clause-no_file
returns-in-Some-clause-no_file g c = untouched_plan c.args.plan _

pub returns-in_err-printed-clause-no_file : goal.returns-in_err-printed-clause-no_file
returns-in_err-printed-clause-no_file g c = on_err c.from_residual-in_err-printed.result (job_leaves c.args.plan _ _ c.in_err-printed.ensures.no_file)

pub returns-in_err-printed-clause-output : goal.returns-in_err-printed-clause-output
returns-in_err-printed-clause-output g c =
    let p = err_from_is_err_and c.from_residual-in_err-printed.result c.from_residual-in_err-printed.ensures.1 in
    rw (p.1, p.2) c.in_err-printed.ensures.output

pub returns-in_err-printed-clause-ended : goal.returns-in_err-printed-clause-ended
returns-in_err-printed-clause-ended g c =
    let host : c.as_bytes-host.result.now ≡ c.args.remote.host = search rules in
    let p = err_from_is_err_and c.from_residual-in_err-printed.result c.from_residual-in_err-printed.ensures.1 in
    rw (p.1, p.2)
    (ByJob (record { user = c.args.plan.user; password = c.args.password; device = c.args.remote.device; settings = c.args.plan.settings; task = c.args.plan.task })
    (record { user = refl; password_is = refl; settings_are = refl; task = refl }) refl (g.H.Dial.ports c.connection.new.hosts) (called_as c.args.remote _ true _ _ host c.in_ok-control.ensures.called) refl c.in_err-printed.ensures.ended)

pub returns-in-Some-clause-ended : goal.returns-in-Some-clause-ended
returns-in-Some-clause-ended g c =
    let job : Job = record { user = c.args.plan.user; password = c.args.password; device = c.args.remote.device; settings = c.args.plan.settings; task = c.args.plan.task } in
    let refused : JobIsRefusedAs job (Some c.in-Some.ending) = subst (λ r. JobIsRefusedAs job r) c.in-Some.is c.of_refused.ensures in
    BySize job (record { user = refl; password_is = refl; settings_are = refl; task = refl }) refl refused.1 refused.0 refl refl

pub returns-in_err-control-clause-ended : goal.returns-in_err-control-clause-ended
returns-in_err-control-clause-ended g c =
    let host : c.as_bytes-host.result.now ≡ c.args.remote.host = search rules in
    let p = err_from_is_err_and c.from_residual.result c.from_residual.ensures.1 in
    let not = unconnected_as c.args.remote _ _ _ _ host c.in_err-control.ensures.unconnected in
    rw (p.1, p.2) (elim not.1 [ inl x ↦ ByName not.0 x.0 refl x.1 | inr called ↦ ByLoss not.0 called refl ])
