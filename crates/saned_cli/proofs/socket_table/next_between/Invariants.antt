use Rattle.std.proofs.Common.{◌≡◌, length}
use Rattle.saned_cli.specs.SocketTable.{sockets_between}
use Rattle.saned_cli.proofs.socket_table.next_between.Given as goal

abbrev pub invariant-loop-line : goal.invariant-loop-line
invariant-loop-line l = sockets_between l.own l.peer l.rest ≡ sockets_between l.own l.peer l.text

abbrev pub decreases-loop-line : goal.decreases-loop-line
decreases-loop-line l = length l.rest
