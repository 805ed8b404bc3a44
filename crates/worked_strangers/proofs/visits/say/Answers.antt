use Rattle.saned_core.specs.DaemonStates.{core}
use Rattle.saned_core.specs.declared.session_slot.Fed.TheVariants.{Standing}
use Rattle.worked_strangers.proofs.Composed.{fed_so}
use Rattle.worked_strangers.proofs.visits.say.Goals as goal

pub returns-in-Standing : goal.returns-in-Standing
returns-in-Standing g c = λ on.
    let f = c.feed.ensures in
    fed_so (core g.D.Device.state c.args.daemon.now) (core g.D.Device.state c.feed.new.self) c.args.id.number c.args.piece.now c.feed.result Standing c.in-Standing.is
    (record { idle = f.idle; standing = f.standing; over = f.over; out_of_memory = f.out_of_memory; others = f.others }) (c.is_quiet.ensures on)
