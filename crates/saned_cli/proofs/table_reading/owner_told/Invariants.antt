use Rattle.std.proofs.Common.{◌≡◌, ◌∷◌, [], List, ℕ, length}
use Rattle.socket_calls.specs.SocketCall.{with_socket_calls}
use Rattle.saned_cli.specs.TableReadings.{lines_told}
use Rattle.saned_cli.specs.Inside.{IsSeenIn}
use Rattle.saned_cli.proofs.table_reading.owner_told.Given as goal

abbrev pub invariant-loop-i : goal.invariant-loop-i
invariant-loop-i g l = record {
  lines : List (List ℕ);
  grew : g.S.SocketCalls.calls l.sockets ≡ with_socket_calls (lines_told lines) (g.S.SocketCalls.calls l.fn.sockets);
  count : length lines ≡ l._i;
  seen : IsSeenIn lines l.peer l.ours l.seen;
}
