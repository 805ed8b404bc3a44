use Rattle.std.proofs.Common.{◌∙◌, sym, ap, refl, None, Option}
use Rattle.dispatch.specs.Table.{table}
use Rattle.saned_core.specs.declared.session_slot.SessionSlot.{SessionSlot}
use Rattle.saned_core.specs.DaemonStates.{session_in, no_more, session_let_go}
use Rattle.saned_core.proofs.SlotNumbers.{no_slot, on_no_slot, first_slot, on_first_slot, none_more}
use Rattle.saned_core.proofs.session_slots.end_at.Goals as goal

pub returns-in-Some-clause-registry : goal.returns-in-Some-clause-registry
returns-in-Some-clause-registry g c = c.give_back_slot.ensures ∙ ap (λ (x : Option (SessionSlot _)). session_let_go (table g.D.Device.state c.args.registry.now) (session_in x)) (sym (first_slot g.D.Device.state c.args.number c.args.slots.now c.in-Some.k c.swap_slot-slot.result c.in-Some.ensures.found (c.swap_slot-slot.ensures.old c.swap_slot-slot.result)))

pub returns-in-Some-clause-slots : goal.returns-in-Some-clause-slots
returns-in-Some-clause-slots g c = rw c.swap_slot-slot.ensures.new (on_first_slot g.D.Device.state c.args.number c.args.slots.now c.in-Some.k c.swap_slot-slot.result None no_more c.in-Some.ensures.found (c.swap_slot-slot.ensures.old c.swap_slot-slot.result) (none_more g.D.Device.state c.swap_slot-slot.result))

pub returns-in_default-clause-registry : goal.returns-in_default-clause-registry
returns-in_default-clause-registry g c = rw (no_slot g.D.Device.state c.args.number c.args.slots.now c.in_default.ensures.none) refl

pub returns-in_default-clause-slots : goal.returns-in_default-clause-slots
returns-in_default-clause-slots g c = sym (on_no_slot g.D.Device.state c.args.number c.args.slots.now no_more c.in_default.ensures.none)
