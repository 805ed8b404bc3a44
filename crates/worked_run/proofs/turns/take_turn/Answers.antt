use Rattle.std.proofs.Common.{◌≡◌, ℕ, false, List, sym, subst}
use Rattle.saned_core.specs.DaemonStates.{core}
use Rattle.worked_run.specs.UnderWay.{IsAtRest}
use Rattle.worked_run.proofs.Parts.{rounds}
use Rattle.worked_run.proofs.turns.take_turn.Goals as goal

pub returns-else-is_some : goal.returns-else-is_some
returns-else-is_some g c = λ first on job start is rest.
    let d = core g.D.Device.state c.args.daemon.now in
    let e = core g.D.Device.state c.ask.new.daemon in
    let x = c.ask.ensures first on in
    subst (λ (f : List ℕ). IsAtRest false job start e c.ask.new.client f) (sym x.2) (rounds c.args.scan job start d c.args.client.now c.args.file.now.items x.0 e c.ask.new.client is rest x.1)
