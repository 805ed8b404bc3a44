use Rattle.std.proofs.Common.{◌∷◌, [], ap, sym, ◌∙◌}
use Rattle.socket_calls.specs.SocketCall.SocketCall.{Closes}
use Rattle.std.specs.Option.{option_map}
use Rattle.saned_cli.specs.Guarding.{PortAndCalls, port_and_calls}
use Rattle.saned_cli.proofs.GiveLaws.{closes_none, closes_one, forgot, keeps_standing}
use Rattle.saned_cli.proofs.data_port.forget_ended.Goals as goal

pub returns-in_default-clause-forgets : goal.returns-in_default-clause-forgets
returns-in_default-clause-forgets g c =
    let mid : PortAndCalls = port_and_calls g.S.SocketCalls.number c.look.new.it (g.S.SocketCalls.calls c.look.new.sockets) in
    forgot _ mid _ _ c.look.ensures.looks (ap (λ o. option_map g.S.SocketCalls.number o) c.take.ensures.after)
    (closes_none _ _ (ap (λ o. option_map g.S.SocketCalls.number o) (sym c.take.ensures.value ∙ c.in_default.is)))

pub returns-in_default-clause-his : goal.returns-in_default-clause-his
returns-in_default-clause-his g c =
    let mid : PortAndCalls = port_and_calls g.S.SocketCalls.number c.look.new.it (g.S.SocketCalls.calls c.look.new.sockets) in
    keeps_standing mid _ _ _ (closes_none _ _ (ap (λ o. option_map g.S.SocketCalls.number o) (sym c.take.ensures.value ∙ c.in_default.is))) c.look.ensures.his
    (ap (λ o. option_map g.S.SocketCalls.number o) c.take.ensures.after)

pub returns-clause-forgets : goal.returns-clause-forgets
returns-clause-forgets g c =
    let mid : PortAndCalls = port_and_calls g.S.SocketCalls.number c.look.new.it (g.S.SocketCalls.calls c.look.new.sockets) in
    forgot _ mid _ _ c.look.ensures.looks (ap (λ o. option_map g.S.SocketCalls.number o) c.take.ensures.after)
    (closes_one _ _ _ _ (ap (λ o. option_map g.S.SocketCalls.number o) (sym c.take.ensures.value ∙ c.in-Some.is)) c.close.ensures)

pub returns-clause-his : goal.returns-clause-his
returns-clause-his g c =
    let mid : PortAndCalls = port_and_calls g.S.SocketCalls.number c.look.new.it (g.S.SocketCalls.calls c.look.new.sockets) in
    keeps_standing mid _ (Closes (g.S.SocketCalls.number c.in-Some.stream) ∷ []) _ c.close.ensures c.look.ensures.his (ap (λ o. option_map g.S.SocketCalls.number o) c.take.ensures.after)
