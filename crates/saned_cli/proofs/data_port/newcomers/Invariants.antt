use Rattle.std.proofs.Common.{◌≡◌}
use Rattle.std.specs.Prelude.{vec_capacity, vec_len}
use Rattle.socket_calls.specs.SocketCall.{listening_port}
use Rattle.saned_cli.proofs.ComerLaws.{HaveComeBy}
use Rattle.saned_cli.proofs.data_port.newcomers.Given as goal

abbrev pub invariant-loop-i : goal.invariant-loop-i
invariant-loop-i g l = record {
  come : HaveComeBy g.S.SocketCalls.number (listening_port l.at) l._i (g.S.SocketCalls.calls l.fn.sockets) l.made.items (g.S.SocketCalls.calls l.sockets);
  room : vec_capacity l.made ≡ 512;
  len : vec_len l.made ≡ l._i;
}
