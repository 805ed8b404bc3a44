use Rattle.std.proofs.Common.{[], arith}
use Rattle.saned_cli.specs.Guarding.{PortAndCalls, port_and_calls}
use Rattle.saned_cli.proofs.CallLaws.{looked_at_none}
use Rattle.saned_cli.proofs.LookLaws.{keeps_done, look_done, marked_at, nil_of, nobody_between, whole_front}
use Rattle.saned_cli.proofs.data_port.look.Goals as goal

pub returns-then-is_empty-clause-looks : goal.returns-then-is_empty-clause-looks
returns-then-is_empty-clause-looks g c =
    let was : PortAndCalls = port_and_calls g.S.SocketCalls.number c.args.it.now (g.S.SocketCalls.calls c.args.sockets.now) in
    let mid : PortAndCalls = port_and_calls g.S.SocketCalls.number c.look_again.new.it (g.S.SocketCalls.calls c.look_again.new.sockets) in
    look_done was mid _ _ [] [] c.look_again.ensures (nobody_between _ _ _ _ _ _ c.newcomers-made.ensures (nil_of _ _ _ (omega arith) c.is_empty.ensures c.if-is_empty.true)) (looked_at_none _)

pub returns-then-is_empty-clause-his : goal.returns-then-is_empty-clause-his
returns-then-is_empty-clause-his g c =
    let was : PortAndCalls = port_and_calls g.S.SocketCalls.number c.args.it.now (g.S.SocketCalls.calls c.args.sockets.now) in
    let mid : PortAndCalls = port_and_calls g.S.SocketCalls.number c.look_again.new.it (g.S.SocketCalls.calls c.look_again.new.sockets) in
    keeps_done was mid _ _ [] [] c.look_again.ensures (nobody_between _ _ _ _ _ _ c.newcomers-made.ensures (nil_of _ _ _ (omega arith) c.is_empty.ensures c.if-is_empty.true)) (looked_at_none _) c.requires

pub returns-clause-looks : goal.returns-clause-looks
returns-clause-looks g c =
    let was : PortAndCalls = port_and_calls g.S.SocketCalls.number c.args.it.now (g.S.SocketCalls.calls c.args.sockets.now) in
    let mid : PortAndCalls = port_and_calls g.S.SocketCalls.number c.look_again.new.it (g.S.SocketCalls.calls c.look_again.new.sockets) in
    look_done was mid _ _ _ _ c.look_again.ensures (marked_at _ _ _ _ _ _ _ _ _ _ _ c.port.ensures c.newcomers-made.ensures c.as_mut_slice.ensures.value c.mark_his.ensures (whole_front _ _ _ (omega arith))) c.admit.ensures

pub returns-clause-his : goal.returns-clause-his
returns-clause-his g c =
    let was : PortAndCalls = port_and_calls g.S.SocketCalls.number c.args.it.now (g.S.SocketCalls.calls c.args.sockets.now) in
    let mid : PortAndCalls = port_and_calls g.S.SocketCalls.number c.look_again.new.it (g.S.SocketCalls.calls c.look_again.new.sockets) in
    keeps_done was mid _ _ _ _ c.look_again.ensures (marked_at _ _ _ _ _ _ _ _ _ _ _ c.port.ensures c.newcomers-made.ensures c.as_mut_slice.ensures.value c.mark_his.ensures (whole_front _ _ _ (omega arith))) c.admit.ensures c.requires
