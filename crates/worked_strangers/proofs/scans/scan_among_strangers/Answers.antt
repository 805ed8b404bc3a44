use Rattle.std.proofs.Common.{◌≡◌, ap}
use Rattle.saned_core.specs.DaemonStates.{core}
use Rattle.worked_strangers.specs.declared.scans.NoScan.TheVariants as no_scans
use Rattle.worked_strangers.proofs.Told.{meant_by, refused_by, scanned_by, two_opened, unscanned_by}
use Rattle.worked_strangers.proofs.scans.scan_among_strangers.Goals as goal

pub returns-then-not-is_done-clause-not_done : goal.returns-then-not-is_done-clause-not_done
returns-then-not-is_done-clause-not_done c = λ on.
    let new = c.in-Some.ensures in
    let took = c.in-Some-take_among_strangers.ensures new.0.opened in
    let gone = c.lose_and_stay.ensures c.if-not-lose_and_stay.false (two_opened c.args.name c.in-Ok.asked c.args.page _ _ c.in-Ok.ensures.equal new.0 took.1) took.0 in
    unscanned_by c.what_stands_below.ensures c.args.name c.args.page c.args.users c.args.job _ _ _ _ _
    (record { asked = c.in-Ok.asked; same = c.in-Ok.ensures.equal; devices = new.0; users_are = new.1; limits = new.2; has = took.1; jobs = c.in-Some-one_job.jobs.items; only = c.in-Some-one_job.ensures; new = c.in-Ok-beside_daemon.ensures.begins.1; may = c.in-Ok-beside_daemon.ensures.accepted; daemon = ap (core _) c.in-Ok-beside_daemon.ensures.begins.0 })
    gone c.run_all.ensures (c.is_done.ensures.other c.if-not-is_done.true)

pub returns-clause-scanned : goal.returns-clause-scanned
returns-clause-scanned c =
    let new = c.in-Some.ensures in
    let took = c.in-Some-take_among_strangers.ensures new.0.opened in
    let gone = c.lose_and_stay.ensures c.if-not-lose_and_stay.false (two_opened c.args.name c.in-Ok.asked c.args.page _ _ c.in-Ok.ensures.equal new.0 took.1) took.0 in
    let done = c.is_done.ensures.done c.if-not-is_done.false in
    scanned_by c.what_stands_below.ensures c.args.name c.args.page c.args.users c.args.job _ _ _ _ _ done.0 _ _
    (record { asked = c.in-Ok.asked; same = c.in-Ok.ensures.equal; devices = new.0; users_are = new.1; limits = new.2; has = took.1; jobs = c.in-Some-one_job.jobs.items; only = c.in-Some-one_job.ensures; new = c.in-Ok-beside_daemon.ensures.begins.1; may = c.in-Ok-beside_daemon.ensures.accepted; daemon = ap (core _) c.in-Ok-beside_daemon.ensures.begins.0 })
    gone c.run_all.ensures done.1 c.in-Some-file.ensures c.in-Some-copied.ensures

pub returns-clause-meant : goal.returns-clause-meant
returns-clause-meant c = λ scan.
    let new = c.in-Some.ensures in
    let took = c.in-Some-take_among_strangers.ensures new.0.opened in
    let gone = c.lose_and_stay.ensures c.if-not-lose_and_stay.false (two_opened c.args.name c.in-Ok.asked c.args.page _ _ c.in-Ok.ensures.equal new.0 took.1) took.0 in
    let done = c.is_done.ensures.done c.if-not-is_done.false in
    meant_by c.what_stands_below.ensures c.args.name c.args.page c.args.users c.args.job _ _ _ _ _ done.0 _ _
    (record { asked = c.in-Ok.asked; same = c.in-Ok.ensures.equal; devices = new.0; users_are = new.1; limits = new.2; has = took.1; jobs = c.in-Some-one_job.jobs.items; only = c.in-Some-one_job.ensures; new = c.in-Ok-beside_daemon.ensures.begins.1; may = c.in-Ok-beside_daemon.ensures.accepted; daemon = ap (core _) c.in-Ok-beside_daemon.ensures.begins.0 })
    gone c.run_all.ensures done.1 c.in-Some-file.ensures c.in-Some-copied.ensures scan

pub returns-in-Err-clause-bad_job : goal.returns-in-Err-clause-bad_job
returns-in-Err-clause-bad_job c = λ bad.
    let is : c.no_scan.result ≡ no_scans.BadJob = cc in
    refused_by _ _ c.args.job c.in-Some-one_job.ensures c.in-Err.ensures.fault (c.no_scan.ensures.refused is)

pub returns-in-Err-clause-not_done : goal.returns-in-Err-clause-not_done
returns-in-Err-clause-not_done c = λ undone. absurd (c.no_scan.ensures.begun (let is : c.no_scan.result ≡ no_scans.NotDone = cc in is))
