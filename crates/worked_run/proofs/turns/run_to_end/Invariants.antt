use Rattle.std.proofs.Common.{◌≡◌, false}
use Rattle.scan_job.specs.declared.job.Job.{Job}
use Rattle.client_replies.specs.ProtocolStates.{scans}
use Rattle.saned_core.specs.DaemonStates.{Core, core}
use Rattle.worked_run.specs.UnderWay.{IsAtRest}
use Rattle.worked_run.proofs.turns.run_to_end.Given as goal

abbrev pub invariant-loop-turn : goal.invariant-loop-turn
invariant-loop-turn g l =
    l.fn.id.number ≡ 0 → (job : Job) (start : Core) → l.fn.scan ≡ scans job.task → IsAtRest false job start (core g.D.Device.state l.fn.daemon) l.fn.client l.fn.file.items → IsAtRest false job start (core g.D.Device.state l.daemon) l.client l.file.items
