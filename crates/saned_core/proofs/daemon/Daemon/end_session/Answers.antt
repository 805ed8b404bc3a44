use Rattle.saned_core.specs.DaemonStates.{core}
use Rattle.saned_core.proofs.ContextFeeds.{hall_is}
use Rattle.saned_core.proofs.daemon.Daemon.end_session.Goals as goal

pub returns : goal.returns
returns g c = rw (← c.self.view_is) (hall_is (core g.D.Device.state (record { slots = c.self.inside.sessions.slots; registry = c.self.inside.sessions.registry; users = c.self.inside.users; strings = c.self.inside.strings; stream = c.self.inside.challenger; opened = c.self.inside.opened })) _ _ _ _ c.end_at.ensures.slots c.end_at.ensures.registry)
