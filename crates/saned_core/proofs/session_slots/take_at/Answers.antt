use Rattle.std.proofs.Common.{◌≡◌, ◌∙◌, sym, ap, refl, None, Option, inr, slice_index_or, slice_set, List}
use Rattle.std.specs.Option.{option_map, option_and_then}
use Rattle.std.proofs.lemmas.List.{get_or-set_same}
use Rattle.saned_core.specs.declared.session_slot.SessionSlot.{SessionSlot}
use Rattle.saned_core.specs.DaemonStates.{seen_session_slot, seen_session_slots, kept_if_open, after_taken}
use Rattle.saned_core.proofs.SlotNumbers.{no_slot, on_no_slot, first_slot, on_first_slot, set_twice, standing-seen, taken-standing}
use Rattle.saned_core.proofs.session_slots.take_at.Goals as goal

pub returns-in-Some-clause-all : goal.returns-in-Some-clause-all
returns-in-Some-clause-all g c = rw (first_slot g.D.Device.state c.args.number c.args.slots.now c.in-Some.k c.index-slots-k.result c.in-Some.ensures.found c.index-slots-k.is) (rw (← c.index-slots-k.is) at c.take_slot-count.ensures.all)

pub returns-in-Some-clause-most : goal.returns-in-Some-clause-most
returns-in-Some-clause-most g c = rw (first_slot g.D.Device.state c.args.number c.args.slots.now c.in-Some.k c.index-slots-k.result c.in-Some.ensures.found c.index-slots-k.is) (rw (← c.index-slots-k.is) at c.take_slot-count.ensures.most)

pub returns-in-Some-clause-bytes : goal.returns-in-Some-clause-bytes
returns-in-Some-clause-bytes g c = rw (first_slot g.D.Device.state c.args.number c.args.slots.now c.in-Some.k c.index-slots-k.result c.in-Some.ensures.found c.index-slots-k.is) (rw (← c.index-slots-k.is) at c.take_slot-count.ensures.bytes)

pub returns-in-Some-clause-slots : goal.returns-in-Some-clause-slots
returns-in-Some-clause-slots g c =
    let slots : List (Option (SessionSlot g.row.D.Denot)) = slice_set c.args.slots.now c.in-Some.k c.take_slot-count.new.slot in
    let here : slice_index_or slots c.in-Some.k None ≡ c.take_slot-count.new.slot = get_or-set_same c.args.slots.now c.in-Some.k c.take_slot-count.new.slot None c.in-Some.ensures.found.within in
    let after : c.settle.new.slots ≡ slice_set c.args.slots.now c.in-Some.k (option_and_then kept_if_open c.take_slot-count.new.slot) =
    c.settle.ensures.slots None ∙ set_twice c.args.slots.now c.in-Some.k c.take_slot-count.new.slot _ ∙ ap (λ (x : Option (SessionSlot g.row.D.Denot)). slice_set c.args.slots.now c.in-Some.k (option_and_then kept_if_open x)) here in
    ap (seen_session_slots g.D.Device.state) after ∙
    on_first_slot g.D.Device.state c.args.number c.args.slots.now c.in-Some.k c.index-slots-k.result (option_and_then kept_if_open c.take_slot-count.new.slot) (after_taken c.take_slot-count.result) c.in-Some.ensures.found c.index-slots-k.is
    (standing-seen g.D.Device.state c.take_slot-count.new.slot ∙ ap (option_and_then kept_if_open) (rw (← c.index-slots-k.is) at c.take_slot-count.ensures.rest) ∙ taken-standing c.take_slot-count.result (option_map (seen_session_slot g.D.Device.state) c.index-slots-k.result))

pub returns-in-None-clause-most : goal.returns-in-None-clause-most
returns-in-None-clause-most g c = inr (rw (no_slot g.D.Device.state c.args.number c.args.slots.now c.in-None.ensures.none) refl)

pub returns-in-None-clause-slots : goal.returns-in-None-clause-slots
returns-in-None-clause-slots g c = sym (on_no_slot g.D.Device.state c.args.number c.args.slots.now (after_taken 0) c.in-None.ensures.none)
