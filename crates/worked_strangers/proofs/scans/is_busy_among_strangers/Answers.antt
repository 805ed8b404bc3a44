use Rattle.std.proofs.Common.{ap}
use Rattle.saned_core.specs.DaemonStates.{core}
use Rattle.worked_strangers.proofs.Told.{busy_by}
use Rattle.worked_strangers.proofs.scans.is_busy_among_strangers.Goals as goal

pub returns : goal.returns
returns c = λ busy.
    let new = c.in-Some.ensures in
    let took = c.in-Some-take_among_strangers.ensures new.0.opened in
    busy_by c.what_stands_below.ensures c.args.name c.args.page c.args.users c.args.job _ _ _ _
    (record { asked = c.in-Ok.asked; same = c.in-Ok.ensures.equal; devices = new.0; users_are = new.1; limits = new.2; has = took.1; jobs = c.in-Some-one_job.jobs.items; only = c.in-Some-one_job.ensures; new = c.in-Ok-beside_daemon.ensures.begins.1; may = c.in-Ok-beside_daemon.ensures.accepted; daemon = ap (core _) c.in-Ok-beside_daemon.ensures.begins.0 })
    c.run_all.ensures (c.was_busy.ensures busy)
