use Rattle.std.proofs.Common.{◌≢◌, All, take}
use Rattle.socket_calls.specs.SocketCall.{listening_port}
use Rattle.saned_cli.proofs.kept_ports.place.Given as goal

-- none of those so far has that number
abbrev pub invariant-loop-at : goal.invariant-loop-at
invariant-loop-at g l = All (λ it. listening_port it.at ≢ l.port) (take l.at l.ports)
