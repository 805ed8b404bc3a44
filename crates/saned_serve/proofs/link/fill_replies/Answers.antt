use Rattle.std.proofs.Common.{◌≡◌, true, false, refl}
use Rattle.saned_core.specs.DaemonStates.{core}
use Rattle.saned_serve.proofs.ActionSteps.{goes_fills, goes_fills_again, goes_fresh, goes_ready}
use Rattle.saned_serve.proofs.link.fill_replies.Goals as goal

pub returns-then-is_empty-clause-first : goal.returns-then-is_empty-clause-first
returns-then-is_empty-clause-first g c = λ n. goes_fills g.C.Socket.history (core g.D.Device.state c.args.daemon.now) n c.args.link.now (core g.D.Device.state c.take_reply.new.daemon) c.take_reply.new.self (c.if-is_empty.ensures.0 refl) c.take_reply.ensures

pub returns-then-is_empty-clause-again : goal.returns-then-is_empty-clause-again
returns-then-is_empty-clause-again g c = λ n. goes_fills_again g.C.Socket.history (core g.D.Device.state c.args.daemon.now) n c.args.link.now (core g.D.Device.state c.take_reply.new.daemon) c.take_reply.new.self (c.if-is_empty.ensures.0 refl) c.take_reply.ensures

pub returns-else-is_empty-clause-first : goal.returns-else-is_empty-clause-first
returns-else-is_empty-clause-first g c = λ n. goes_fresh g.C.Socket.history (core g.D.Device.state c.args.daemon.now) n c.args.link.now (λ none. let wrong : false ≡ true = c.if-is_empty.ensures.1 none in cc)

pub returns-else-is_empty-clause-again : goal.returns-else-is_empty-clause-again
returns-else-is_empty-clause-again g c = λ n. goes_ready g.C.Socket.history (core g.D.Device.state c.args.daemon.now) n c.args.link.now (λ none. let wrong : false ≡ true = c.if-is_empty.ensures.1 none in cc)
