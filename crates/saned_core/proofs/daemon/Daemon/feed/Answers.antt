use Rattle.std.proofs.Common.{refl}
use Rattle.dispatch.specs.Table.{table}
use Rattle.saned_core.specs.DaemonStates.{Core, seen_session_slots}
use Rattle.saned_core.specs.Feeding.{Feeds}
use Rattle.saned_core.proofs.FeedCases.{feeds_among}
use Rattle.saned_core.proofs.daemon.Daemon.feed.Goals as goal

pub returns : goal.returns
returns g c =
    let f = g.D.Device.state in
    let was = c.self.inside in
    let d : Core = record { slots = seen_session_slots f was.sessions.slots; registry = table f was.sessions.registry; users = was.users; strings = was.strings; stream = was.challenger; opened = was.opened } in
    let e : Core = record { slots = seen_session_slots f c.feed_at.new.slots; registry = table f c.feed_at.new.registry; users = was.users; strings = was.strings; stream = c.feed_at.new.challenger; opened = was.opened } in
    let fed : Feeds c.args.id.number d c.args.piece.now c.feed_at.result e = feeds_among c.args.id.number d c.args.piece.now c.feed_at.result e c.feed_at.ensures refl in
    rw (← c.self.view_is) (record { idle = fed.idle; standing = fed.standing; over = fed.over; out_of_memory = fed.out_of_memory; others = fed.others })
