use Rattle.std.proofs.Common.{sym, refl}
use Rattle.saned_core.specs.DaemonStates.{on_session, after_connected}
use Rattle.saned_core.proofs.SlotNumbers.{no_slot, on_no_slot, first_slot, on_first_slot}
use Rattle.saned_core.proofs.session_slots.connect_at.Goals as goal

pub returns-in-Some-clause-answer : goal.returns-in-Some-clause-answer
returns-in-Some-clause-answer g c = rw (first_slot g.D.Device.state c.args.number c.args.slots.now c.in-Some.k c.index-slots-k.result c.in-Some.ensures.found c.index-slots-k.is) (rw (← c.index-slots-k.is) at c.connect.ensures.answer)

pub returns-in-Some-clause-after : goal.returns-in-Some-clause-after
returns-in-Some-clause-after g c = on_first_slot g.D.Device.state c.args.number c.args.slots.now c.in-Some.k c.index-slots-k.result c.connect.new.slot (on_session after_connected) c.in-Some.ensures.found c.index-slots-k.is (rw (← c.index-slots-k.is) at c.connect.ensures.after)

pub returns-in-None-clause-answer : goal.returns-in-None-clause-answer
returns-in-None-clause-answer g c = rw (no_slot g.D.Device.state c.args.number c.args.slots.now c.in-None.ensures.none) refl

pub returns-in-None-clause-after : goal.returns-in-None-clause-after
returns-in-None-clause-after g c = sym (on_no_slot g.D.Device.state c.args.number c.args.slots.now (on_session after_connected) c.in-None.ensures.none)
