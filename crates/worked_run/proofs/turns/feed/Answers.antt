use Rattle.std.proofs.Common.{subst}
use Rattle.saned_core.specs.declared.session_slot.Fed.{Fed}
use Rattle.saned_core.specs.DaemonStates.{core}
use Rattle.saned_core.specs.Feeding.{Feeds}
use Rattle.worked_run.proofs.turns.feed.Goals as goal

pub returns-in-Standing : goal.returns-in-Standing
returns-in-Standing g c = λ on.
    let f = c.feed.ensures in
    subst (λ (x : Fed). Feeds c.args.id.number (core g.D.Device.state c.args.daemon.now) c.args.piece.now x (core g.D.Device.state c.feed.new.self)) c.in-Standing.is
    (record { idle = f.idle; standing = f.standing; over = f.over; out_of_memory = f.out_of_memory; others = f.others })
