use Rattle.saned_core.specs.DaemonStates.{core}
use Rattle.saned_core.specs.declared.session_slot.Fed.TheVariants.{Over}
use Rattle.worked_strangers.proofs.Composed.{fed_so}
use Rattle.worked_strangers.proofs.visits.say_last.Goals as goal

pub returns-in-Over : goal.returns-in-Over
returns-in-Over g c = λ on.
    let f = c.feed.ensures in
    fed_so (core g.D.Device.state c.args.daemon.now) (core g.D.Device.state c.feed.new.self) c.args.id.number c.args.piece.now c.feed.result Over c.in-Over.is
    (record { idle = f.idle; standing = f.standing; over = f.over; out_of_memory = f.out_of_memory; others = f.others }) (c.is_quiet.ensures on)
