use Rattle.std.proofs.Common.{sym}
use Rattle.saned_core.specs.DaemonStates.{on_session, after_lost}
use Rattle.saned_core.proofs.SlotNumbers.{on_no_slot, on_first_slot}
use Rattle.saned_core.proofs.session_slots.lose_at.Goals as goal

pub returns-in-Some : goal.returns-in-Some
returns-in-Some g c = on_first_slot g.D.Device.state c.args.number c.args.slots.now c.in-Some.k c.index-slots-k.result c.lose_slot.new.slot (on_session after_lost) c.in-Some.ensures.found c.index-slots-k.is (rw (← c.index-slots-k.is) at c.lose_slot.ensures)

pub returns-in_default : goal.returns-in_default
returns-in_default g c = sym (on_no_slot g.D.Device.state c.args.number c.args.slots.now (on_session after_lost) c.in_default.ensures.none)
