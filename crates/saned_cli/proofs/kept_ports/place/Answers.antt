use Rattle.std.proofs.Common.{◌≢◌, All, arith, subst, take_all}
use Rattle.socket_calls.specs.SocketCall.{listening_port}
use Rattle.saned_cli.proofs.kept_ports.place.Goals as goal

pub returns-clause-none : goal.returns-clause-none
returns-clause-none g c = subst (All (λ it. listening_port it.at ≢ c.args.port)) (take_all c.loop-at.at c.args.ports.now (omega (arith, c.loop-at-test.false))) c.loop-at.invariant
