use Rattle.std.proofs.Common.{◌≡◌, Option, None, Some, ℕ, ap, sym, ◌∙◌}
use Rattle.std.specs.Option.{option_map, option_or}
use Rattle.saned_cli.specs.Guarding.{PortView, port_view}
use Rattle.saned_cli.specs.Guarding.{PortAndCalls, port_and_calls}
use Rattle.saned_cli.proofs.CallLaws.{same_calls}
use Rattle.saned_cli.proofs.GiveLaws.{gave, give_his, gives_ended, gives_standing, standing_his}
use Rattle.saned_cli.proofs.data_port.taken.Goals as goal

pub returns-in_default-clause-gives : goal.returns-in_default-clause-gives
returns-in_default-clause-gives g c =
    let mid : PortAndCalls = port_and_calls g.S.SocketCalls.number c.look.new.it (g.S.SocketCalls.calls c.look.new.sockets) in
    let none : mid.port.standing ≡ None = ap (λ o. option_map g.S.SocketCalls.number o) (sym c.take.ensures.value ∙ c.in_default.is) in
    gave _ mid None _ _ _ _ c.look.ensures.looks (same_calls _) (ap (λ o. option_map g.S.SocketCalls.number o) c.take.ensures.after) (ap (λ o. option_map g.S.SocketCalls.number o) c.take-ended.ensures.after)
    (gives_ended mid.port.standing mid.port.ended _ none (ap (λ o. option_map g.S.SocketCalls.number o) c.take-ended.ensures.value))
    (ap (λ o. option_map g.S.SocketCalls.number o) c.take-ended.ensures.value ∙ ap (λ (o : Option ℕ). option_or o mid.port.ended) (sym none))

pub returns-in_default-clause-his : goal.returns-in_default-clause-his
returns-in_default-clause-his g c =
    let mid : PortView = port_view g.S.SocketCalls.number c.look.new.it in
    let was : PortView = port_view g.S.SocketCalls.number c.args.it.now in
    give_his g.S.SocketCalls.number was mid _ _ _ c.take-ended.ensures.value c.look.ensures.looks.port_is c.look.ensures.looks.owner_is c.look.ensures.his.ended_his

pub returns-clause-gives : goal.returns-clause-gives
returns-clause-gives g c =
    let mid : PortAndCalls = port_and_calls g.S.SocketCalls.number c.look.new.it (g.S.SocketCalls.calls c.look.new.sockets) in
    let one : mid.port.standing ≡ Some (g.S.SocketCalls.number c.in-Some.standing) = ap (λ o. option_map g.S.SocketCalls.number o) (sym c.take.ensures.value ∙ c.in-Some.is) in
    gave _ mid _ _ _ _ _ c.look.ensures.looks c.close_older.ensures (ap (λ o. option_map g.S.SocketCalls.number o) c.take.ensures.after) (ap (λ o. option_map g.S.SocketCalls.number o) c.take-ended.ensures.after)
    (gives_standing mid.port.standing mid.port.ended _ _ one (ap (λ o. option_map g.S.SocketCalls.number o) c.take-ended.ensures.value))
    (ap (λ (o : Option ℕ). option_or o mid.port.ended) (sym one))

pub returns-clause-his : goal.returns-clause-his
returns-clause-his g c =
    let mid : PortView = port_view g.S.SocketCalls.number c.look.new.it in
    let was : PortView = port_view g.S.SocketCalls.number c.args.it.now in
    standing_his was mid _ _ _ _ _ c.look.ensures.looks.port_is c.look.ensures.looks.owner_is c.look.ensures.his.standing_his (ap (λ o. option_map g.S.SocketCalls.number o) (sym c.take.ensures.value ∙ c.in-Some.is)) c.close_older.ensures
