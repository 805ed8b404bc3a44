use Rattle.std.proofs.Common.{◌≡◌, ◌∙◌, ℕ, false, List, sym, subst}
use Rattle.saned_core.specs.DaemonStates.{core}
use Rattle.programs_refine.specs.Programs.{HasOpenedNone}
use Rattle.worked_run.specs.UnderWay.{IsAtRest}
use Rattle.worked_run.proofs.DoneRuns.{is_done_run, is_kept_run}
use Rattle.worked_run.proofs.run_once.Goals as goal

pub returns-in-Done-clause-done : goal.returns-in-Done-clause-done
returns-in-Done-clause-done g c = λ new.
    let start = core g.D.Device.state c.args.daemon.now in
    let mid = core g.D.Device.state c.open_session.new.daemon in
    let end = core g.D.Device.state c.run_to_end.new.daemon in
    let scan = c.in_ok-scan.ensures in
    let opened = c.in_ok-id.ensures.rest new.opened c.args.job c.in-Ok.client c.in-Ok.ensures.fresh in
    let first = subst (λ (f : List ℕ). IsAtRest false c.args.job start mid c.in-Ok.client f) (sym c.new-file.ensures.items) opened in
    let rests = c.run_to_end.ensures.rests (c.in_ok-id.ensures.number new.opened) c.if-not-run_to_end.false c.args.job start scan.0 first in
    is_done_run c.args.job start end c.run_to_end.new.client c.in-Done.reports c.run_to_end.new.file.items new scan.1 rests (sym c.into_outcome.ensures.outcome ∙ c.in-Done.is)

pub returns-in-Done-clause-kept : goal.returns-in-Done-clause-kept
returns-in-Done-clause-kept g c = λ devices fit.
    let start = core g.D.Device.state c.args.daemon.now in
    let new : HasOpenedNone start = record { slots = fit.daemon.slots; opened = fit.daemon.opened } in
    is_kept_run c.programs_keep_all.ensures devices c.args.job start c.in-Done.reports c.run_to_end.new.file.items fit (returns-in-Done-clause-done g c new)
