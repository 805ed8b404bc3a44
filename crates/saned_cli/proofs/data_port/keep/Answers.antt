use Rattle.saned_cli.specs.Guarding.{port_and_calls}
use Rattle.saned_cli.proofs.PortLaws.{kept_ended, kept_none, kept_waiting}
use Rattle.saned_cli.proofs.data_port.keep.Goals as goal

pub returns-in-Nothing : goal.returns-in-Nothing
returns-in-Nothing g c =
    kept_waiting _ (port_and_calls g.S.SocketCalls.number c.args.it.now (g.S.SocketCalls.calls c.args.sockets.now)) _ _ c.peek.result _ c.peek.ensures c.in-Nothing.is c.put_in_place.ensures.closed
    c.put_in_place.ensures.placed

pub returns-in-End : goal.returns-in-End
returns-in-End g c =
    kept_ended _ (port_and_calls g.S.SocketCalls.number c.args.it.now (g.S.SocketCalls.calls c.args.sockets.now)) _ _ c.peek.result _ c.peek.ensures c.in-End.is c.put_in_place-in-End.ensures.closed
    c.put_in_place-in-End.ensures.placed

pub returns-in-Speech : goal.returns-in-Speech
returns-in-Speech g c =
    kept_none _ (port_and_calls g.S.SocketCalls.number c.args.it.now (g.S.SocketCalls.calls c.args.sockets.now)) _ _ c.peek.result c.in-Speech.is c.peek.ensures c.close.ensures
