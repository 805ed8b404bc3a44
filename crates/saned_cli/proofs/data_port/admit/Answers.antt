use Rattle.std.proofs.Common.{refl}
use Rattle.saned_cli.specs.Guarding.{port_and_calls}
use Rattle.saned_cli.proofs.CallLaws.{looked_at_none}
use Rattle.saned_cli.proofs.PortLaws.{kept_out, let_in}
use Rattle.saned_cli.proofs.data_port.admit.Goals as goal

pub loop-stream-init : goal.loop-stream-init
loop-stream-init g c = looked_at_none _

pub loop-stream-preserved-then-is_let_in : goal.loop-stream-preserved-then-is_let_in
loop-stream-preserved-then-is_let_in g c =
    let_in g.S.SocketCalls.number c.args.it.now.owner c.loop-stream.yielded c.in-Some.field-0 c.loop-stream.it.owner c.is_let_in.result c.in-Some.field-0.stream c.in-Some.field-0.is_his
    (port_and_calls g.S.SocketCalls.number c.args.it.now (g.S.SocketCalls.calls c.args.sockets.now)) (port_and_calls g.S.SocketCalls.number c.loop-stream.it (g.S.SocketCalls.calls c.loop-stream.sockets)) _ c.loop-stream.invariant
    refl refl c.is_let_in.ensures c.if-is_let_in.true refl refl c.keep.ensures

pub loop-stream-preserved : goal.loop-stream-preserved
loop-stream-preserved g c =
    kept_out g.S.SocketCalls.number c.args.it.now.owner c.loop-stream.yielded c.in-Some.field-0 c.loop-stream.it.owner c.is_let_in.result c.in-Some.field-0.stream c.in-Some.field-0.is_his
    (port_and_calls g.S.SocketCalls.number c.args.it.now (g.S.SocketCalls.calls c.args.sockets.now)) (port_and_calls g.S.SocketCalls.number c.loop-stream.it (g.S.SocketCalls.calls c.loop-stream.sockets)) _ c.loop-stream.invariant
    refl refl c.is_let_in.ensures c.if-is_let_in.false refl refl c.close.ensures
