use Rattle.std.proofs.Common.{refl}
use Rattle.saned_core.proofs.SlotNumbers.{no_slot, first_slot}
use Rattle.saned_core.proofs.session_slots.frame_at.Goals as goal

pub returns-in-Some : goal.returns-in-Some
returns-in-Some g c = rw (first_slot g.D.Device.state c.args.number c.args.slots.now c.in-Some.k c.index-slots-k.result c.in-Some.ensures.found c.index-slots-k.is) c.frame_state_of.ensures

pub returns-in-None : goal.returns-in-None
returns-in-None g c = rw (no_slot g.D.Device.state c.args.number c.args.slots.now c.in-None.ensures.none) refl
