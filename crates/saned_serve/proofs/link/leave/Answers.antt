use Rattle.std.proofs.Common.{◌∙◌, ap}
use Rattle.saned_core.specs.DaemonStates.{core, after_end_session}
use Rattle.saned_serve.specs.ListenerTraces.{with_notice}
use Rattle.saned_serve.specs.ListenerTraces.Notice.{Shut, Back}
use Rattle.saned_serve.proofs.DataActionSteps.{parts_hung}
use Rattle.saned_serve.proofs.link.leave.Goals as goal

pub returns : goal.returns
returns g c =
    let d = core g.D.Device.state c.args.daemon.now in
    let history = g.L.Conn.Socket.history in
    parts_hung history d (g.L.Listeners.trace c.args.net.now) c.args.link (g.L.Listeners.trace c.hang_up.new.net) (core g.D.Device.state c.end_session.new.self) (g.L.Listeners.trace c.part.new.net)
    c.hang_up.ensures.net (c.end_session.ensures ∙ ap (λ l. after_end_session d l.id.number) c.hang_up.ensures.link)
    (c.part.ensures ∙ ap (λ l. with_notice (Back (history l.conn)) (g.L.Listeners.trace c.close_data.new.self)) c.hang_up.ensures.link ∙ ap (with_notice (Back (history c.args.link.conn))) (c.close_data.ensures ∙ ap (λ l. with_notice (Shut l.port) (g.L.Listeners.trace c.hang_up.new.net)) c.hang_up.ensures.link))
