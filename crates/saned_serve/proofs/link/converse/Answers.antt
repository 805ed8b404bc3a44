use Rattle.saned_serve.proofs.ActionSteps.{goes_then}
use Rattle.saned_serve.proofs.link.converse.Goals as goal

pub returns : goal.returns
returns g c = let n = g.L.Listeners.trace c.listen-has_heard.new.net in
    goes_then (goes_then (goes_then c.listen-has_heard.ensures (c.speak-has_spoken.ensures n)) c.dial-has_dialed.ensures) c.show-has_shown.ensures
