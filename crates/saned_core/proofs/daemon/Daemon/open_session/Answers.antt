use Rattle.std.proofs.Common.{◌∙◌, sym}
use Rattle.saned_core.specs.DaemonStates.{core}
use Rattle.saned_core.proofs.ContextFeeds.{hall_is, full_same, not_false, or_right}
use Rattle.saned_core.proofs.daemon.Daemon.open_session.Goals as goal

pub returns-then-not-put_in_first_slot-clause-full : goal.returns-then-not-put_in_first_slot-clause-full
returns-then-not-put_in_first_slot-clause-full g c = rw (← c.self.view_is) (
    let full = not_false _ (sym c.if-not-put_in_first_slot.true ∙ c.put_in_first_slot.ensures.answer) in
    (or_right _ _ full, hall_is (core g.D.Device.state (record { slots = c.self.inside.sessions.slots; registry = c.self.inside.sessions.registry; users = c.self.inside.users; strings = c.self.inside.strings; stream = c.self.inside.challenger; opened = c.self.inside.opened })) _ _ _ _ (c.put_in_first_slot.ensures.slots ∙ full_same _ _ full) c.put_in_first_slot.ensures.registry))
