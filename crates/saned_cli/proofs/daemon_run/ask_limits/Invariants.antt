use Rattle.std.proofs.Common.{All, take}
use Rattle.device_api.specs.ScannerLimits.{HasLimits}
use Rattle.saned_cli.proofs.daemon_run.ask_limits.Given as goal

-- each of those so far is within its limits
abbrev pub invariant-loop-scanner : goal.invariant-loop-scanner
invariant-loop-scanner g l = All (λ scanner. HasLimits (g.D.Device.state scanner)) (take l.scanner-index l.scanners)
