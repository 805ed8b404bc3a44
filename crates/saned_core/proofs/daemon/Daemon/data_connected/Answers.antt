use Rattle.std.proofs.Common.{ap, Option, List}
use Rattle.device_api.specs.State.{DeviceState}
use Rattle.dispatch.specs.Table.{table}
use Rattle.saned_core.specs.declared.session_slot.SessionSlot.{SessionSlot}
use Rattle.saned_core.specs.DaemonStates.{Core}
use Rattle.saned_core.proofs.daemon.Daemon.data_connected.Goals as goal

pub returns-clause-answer : goal.returns-clause-answer
returns-clause-answer g c = rw (← c.self.view_is) c.connect_at.ensures.answer

pub returns-clause-after : goal.returns-clause-after
returns-clause-after g c = rw (← c.self.view_is) (
    let make : List (Option (SessionSlot DeviceState)) → Core = λ slots. record { slots = slots; registry = table g.D.Device.state c.self.inside.sessions.registry; users = c.self.inside.users; strings = c.self.inside.strings; stream = c.self.inside.challenger; opened = c.self.inside.opened } in
    ap make c.connect_at.ensures.after)
