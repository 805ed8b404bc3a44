use Rattle.saned_cli.proofs.NetLaws.{RefusedSoFar}
use Rattle.saned_cli.proofs.local.listen_within.Given as goal

abbrev pub invariant-loop-port : goal.invariant-loop-port
invariant-loop-port g l = RefusedSoFar l.first l.last l.port (g.S.SocketCalls.calls l.fn.sockets) (g.S.SocketCalls.calls l.sockets)
