use Rattle.std.proofs.Common.{◌≡◌, true, false}
use Rattle.saned_core.specs.DaemonStates.{core}
use Rattle.saned_serve.proofs.ActionSteps.{goes_then, goes_waits}
use Rattle.saned_serve.proofs.link.listen.Goals as goal

pub returns-then-is_empty : goal.returns-then-is_empty
returns-then-is_empty g c = goes_then (c.fill_replies.ensures.first (g.L.Listeners.trace c.args.net.now)) c.hear.ensures

pub returns-else-is_empty : goal.returns-else-is_empty
returns-else-is_empty g c = let n = g.L.Listeners.trace c.args.net.now in
    goes_then (c.fill_replies.ensures.first n) (goes_waits g.L.Conn.Socket.history (core g.D.Device.state c.fill_replies.new.daemon) n c.fill_replies.new.link (λ none. let wrong : false ≡ true = c.if-is_empty.ensures.1 none in cc))
