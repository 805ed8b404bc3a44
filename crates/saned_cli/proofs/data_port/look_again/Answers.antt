use Rattle.std.proofs.Common.{ap, sym, ◌∙◌}
use Rattle.std.specs.Option.{option_map}
use Rattle.saned_cli.specs.Guarding.{port_and_calls}
use Rattle.saned_cli.proofs.PortLaws.{nothing_looked_at, one_looked_at}
use Rattle.saned_cli.proofs.data_port.look_again.Goals as goal

pub returns-in_default : goal.returns-in_default
returns-in_default g c =
    nothing_looked_at (port_and_calls g.S.SocketCalls.number c.args.it.now (g.S.SocketCalls.calls c.args.sockets.now)) _ _ (ap (λ o. option_map g.S.SocketCalls.number o) (sym c.take.ensures.value ∙ c.in_default.is))
    (ap (λ o. option_map g.S.SocketCalls.number o) c.take.ensures.after)

pub returns : goal.returns
returns g c =
    one_looked_at (port_and_calls g.S.SocketCalls.number c.args.it.now (g.S.SocketCalls.calls c.args.sockets.now)) _ _ _ _ (ap (λ o. option_map g.S.SocketCalls.number o) (sym c.take.ensures.value ∙ c.in-Some.is))
    (ap (λ o. option_map g.S.SocketCalls.number o) c.take.ensures.after) c.keep.ensures
