use Rattle.std.proofs.Common.{All, arith, get_or, subst, sym, take_all}
use Rattle.std.proofs.lemmas.List.Elements.{All-more, All-nil}
use Rattle.device_api.specs.ScannerLimits.{HasLimits}
use Rattle.saned_cli.proofs.daemon_run.ask_limits.Goals as goal

pub loop-scanner-init : goal.loop-scanner-init
loop-scanner-init g c = All-nil _

pub loop-scanner-preserved : goal.loop-scanner-preserved
loop-scanner-preserved g c =
    All-more (λ scanner. HasLimits (g.D.Device.state scanner)) c.args.scanners.now c.loop-scanner.scanner-index c.scanner-item.result c.loop-scanner-test.true c.loop-scanner.invariant
    (subst (λ scanner. HasLimits (g.D.Device.state scanner)) c.scanner-item.is c.params.ensures.limits)

pub returns : goal.returns
returns g c = subst (All (λ scanner. HasLimits (g.D.Device.state scanner))) (take_all c.loop-scanner.scanner-index c.args.scanners.now (omega (arith, c.loop-scanner-test.false))) c.loop-scanner.invariant
