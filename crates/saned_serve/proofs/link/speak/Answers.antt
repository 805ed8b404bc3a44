use Rattle.saned_core.specs.DaemonStates.{core}
use Rattle.saned_serve.proofs.ActionSteps.{goes_then}
use Rattle.saned_serve.proofs.link.speak.Goals as goal

pub returns : goal.returns
returns g c = λ n. goes_then (c.fill_replies.ensures.again n) (c.send_replies.ensures (core g.D.Device.state c.fill_replies.new.daemon) n)
