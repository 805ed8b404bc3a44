use Rattle.saned_core.specs.DaemonStates.{core}
use Rattle.saned_core.proofs.ContextFeeds.{hall_is}
use Rattle.saned_core.proofs.daemon.Daemon.take_reply.Goals as goal

pub returns-clause-all : goal.returns-clause-all
returns-clause-all g c = rw (← c.self.view_is) c.take_at.ensures.all

pub returns-clause-most : goal.returns-clause-most
returns-clause-most g c = rw (← c.self.view_is) c.take_at.ensures.most

pub returns-clause-bytes : goal.returns-clause-bytes
returns-clause-bytes g c = rw (← c.self.view_is) c.take_at.ensures.bytes

pub returns-clause-after : goal.returns-clause-after
returns-clause-after g c = rw (← c.self.view_is) (hall_is (core g.D.Device.state (record { slots = c.self.inside.sessions.slots; registry = c.self.inside.sessions.registry; users = c.self.inside.users; strings = c.self.inside.strings; stream = c.self.inside.challenger; opened = c.self.inside.opened })) _ _ _ _ c.take_at.ensures.slots c.take_at.ensures.registry)
