use Rattle.saned_core.specs.DaemonStates.{core}
use Rattle.worked_strangers.proofs.Composed.{garbled_so}
use Rattle.worked_strangers.proofs.visits.come_garbled.Goals as goal

pub returns : goal.returns
returns g c = λ on.
    let state = g.D.Device.state in
    garbled_so (core state c.args.daemon.now) (core state c.come.new.daemon) (core state c.say_last.new.daemon) (core state c.lose.new.daemon) c.in-Some.first.number c.in-Some.ensures (c.say_last.ensures c.if-not-say_last.false) c.lose.ensures
