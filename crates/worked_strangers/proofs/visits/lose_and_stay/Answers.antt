use Rattle.saned_core.specs.DaemonStates.{core}
use Rattle.worked_strangers.proofs.Composed.{gone_so}
use Rattle.worked_strangers.proofs.visits.lose_and_stay.Goals as goal

pub returns : goal.returns
returns g c = λ on two first.
    let state = g.D.Device.state in
    gone_so (core state c.args.daemon.now) (core state c.lose.new.daemon) (core state c.come_greeting.new.daemon) c.args.second.number c.in-Some._third.number c.lose.ensures c.in-Some.ensures two first
