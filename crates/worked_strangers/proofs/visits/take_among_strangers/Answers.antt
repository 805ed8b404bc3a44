use Rattle.saned_core.specs.DaemonStates.{core}
use Rattle.worked_strangers.proofs.Composed.{taken_so}
use Rattle.worked_strangers.proofs.visits.take_among_strangers.Goals as goal

pub returns : goal.returns
returns g c = λ none.
    let state = g.D.Device.state in
    taken_so c.args.name.now (core state c.args.daemon.now) (core state c.come_garbled.new.daemon) (core state c.come_greeting.new.daemon) (core state c.open.new.daemon) c.in_ok-second.second.number none (c.come_garbled.ensures c.if-not-come_garbled.false) c.in_ok-second.ensures (c.open.ensures c.if-not-open.false)
