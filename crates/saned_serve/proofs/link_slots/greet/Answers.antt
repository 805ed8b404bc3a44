use Rattle.std.proofs.Common.{sym, ap, ◌∙◌, subst, Some, None, IsSome, ◌≡◌, true, false}
use Rattle.saned_core.specs.DaemonStates.{core}
use Rattle.saned_serve.specs.ListenerTraces.{with_notice}
use Rattle.saned_serve.specs.ListenerTraces.Notice.{Port, Shut, Back}
use Rattle.saned_serve.specs.Inside.{Greets}
use Rattle.saned_serve.proofs.Greeting.{greets_none, greets_refuses, greets_opens}
use Rattle.saned_serve.proofs.link_slots.greet.Goals as goal

pub returns-in_default-accept-clause-greets : goal.returns-in_default-accept-clause-greets
returns-in_default-accept-clause-greets g c =
    greets_none g.L.Conn.Socket.history (core g.D.Device.state c.args.daemon.now) (g.L.Listeners.trace c.args.net.now) (g.L.Listeners.trace c.accept.new.self) c.args.slot.now.link c.requires.none c.in_default-accept.ensures.told

pub returns-in_default-open_data-clause-greets : goal.returns-in_default-open_data-clause-greets
returns-in_default-open_data-clause-greets g c =
    let history = g.L.Conn.Socket.history in
    let conn = c.in-Some-accept.conn in
    greets_refuses history (core g.D.Device.state c.args.daemon.now) (g.L.Listeners.trace c.args.net.now) (g.L.Listeners.trace c.close.new.self) None conn c.args.slot.now.link c.requires.none c.in-Some-accept.ensures.fresh tt
    (c.close.ensures ∙ ap (with_notice (Back (history conn))) (c.in_default-open_data.ensures ∙ ap (with_notice (Port None)) c.in-Some-accept.ensures.told))

pub returns-in_default-open_session-clause-greets : goal.returns-in_default-open_session-clause-greets
returns-in_default-open_session-clause-greets g c =
    let history = g.L.Conn.Socket.history in
    let conn = c.in-Some-accept.conn in
    let port = c.in-Some-open_data.port in
    let n = g.L.Listeners.trace c.args.net.now in
    let m = g.L.Listeners.trace c.close-in_default-open_session.new.self in
    subst (λ e. Greets history (record { daemon = (core g.D.Device.state c.args.daemon.now); listeners = n }) true (record { daemon = e; listeners = m }) c.args.slot.now.link) (sym c.in_default-open_session.ensures.full.1)
    (greets_refuses history (core g.D.Device.state c.args.daemon.now) n m (Some port) conn c.args.slot.now.link c.requires.none c.in-Some-accept.ensures.fresh c.in_default-open_session.ensures.full.0
    (c.close-in_default-open_session.ensures ∙ ap (with_notice (Back (history conn))) (c.close_data.ensures ∙ ap (with_notice (Shut port)) (c.in-Some-open_data.ensures ∙ ap (with_notice (Port (Some port))) c.in-Some-accept.ensures.told))))

pub returns-clause-greets : goal.returns-clause-greets
returns-clause-greets g c =
    let port = c.in-Some-open_data.port in
    greets_opens g.L.Conn.Socket.history (core g.D.Device.state c.args.daemon.now) (g.L.Listeners.trace c.args.net.now) (core g.D.Device.state c.open_session.new.self) (g.L.Listeners.trace c.put_in_slot.new.net) port c.in-Ok.id c.in-Some-accept.conn c.put_in_slot.new.place
    (record { room = c.in-Ok.ensures.room; numbered = c.in-Ok.ensures.ok.0; after = c.in-Ok.ensures.ok.1 }) (c.put_in_slot.ensures.net ∙ (c.in-Some-open_data.ensures ∙ ap (with_notice (Port (Some port))) c.in-Some-accept.ensures.told)) c.in-Some-accept.ensures.fresh c.put_in_slot.ensures.sits

pub returns-in_default-clause-greets : goal.returns-in_default-clause-greets
returns-in_default-clause-greets g c =
    let wrong : false ≡ true = subst (λ o. IsSome o) (sym c.take.ensures.value ∙ c.in_default.is) (c.requires.roomed c.requires.none) in
    absurd (let no = wrong in cc)
