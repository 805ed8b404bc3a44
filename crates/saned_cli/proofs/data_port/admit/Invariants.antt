use Rattle.saned_cli.specs.Inside.{HasLooked, admitted_numbers, newcomer_numbers}
use Rattle.saned_cli.specs.Guarding.{port_and_calls}
use Rattle.saned_cli.proofs.data_port.admit.Given as goal

abbrev pub invariant-loop-stream : goal.invariant-loop-stream
invariant-loop-stream g l =
    HasLooked (newcomer_numbers g.S.SocketCalls.number l.yielded) (admitted_numbers g.S.SocketCalls.number l.fn.it.owner l.yielded)
    (port_and_calls g.S.SocketCalls.number l.fn.it (g.S.SocketCalls.calls l.fn.sockets))
    (port_and_calls g.S.SocketCalls.number l.it (g.S.SocketCalls.calls l.sockets))
