use Rattle.std.proofs.Common.{◌∙◌, sym, ap, None, Option, not}
use Rattle.std.specs.Option.{option_map}
use Rattle.std.proofs.lemmas.List.Quantifiers.{position-Some}
use Rattle.device_api.specs.State.{DeviceState}
use Rattle.dispatch.specs.Table.{table}
use Rattle.saned_core.specs.declared.session_slot.SessionSlot.{SessionSlot}
use Rattle.saned_core.specs.DaemonStates.{seen_session_slot, seen_session_slots, with_session_slot, session_in, session_let_go, new_session_slot}
use Rattle.saned_core.specs.Inside.{is_vacant}
use Rattle.saned_core.proofs.SlotNumbers.{found_full, full_slots, vacant_slot}
use Rattle.saned_core.proofs.session_slots.put_in_first_slot.Goals as goal

pub returns-in_default-clause-answer : goal.returns-in_default-clause-answer
returns-in_default-clause-answer g c = ap not (sym (full_slots g.D.Device.state c.args.slots.now (new_session_slot c.args.strings c.args.number c.args.port) (found_full c.args.slots.now (sym c.free_place.ensures.place ∙ c.in_default.is))).0)

pub returns-in_default-clause-slots : goal.returns-in_default-clause-slots
returns-in_default-clause-slots g c = sym (full_slots g.D.Device.state c.args.slots.now (new_session_slot c.args.strings c.args.number c.args.port) (found_full c.args.slots.now (sym c.free_place.ensures.place ∙ c.in_default.is))).1

pub returns-clause-answer : goal.returns-clause-answer
returns-clause-answer g c =
    let found = sym c.free_place.ensures.place ∙ c.in-Some.is in
    let at = vacant_slot g.D.Device.state c.args.slots.now c.in-Some.k c.new_slot-slot.result (position-Some is_vacant c.args.slots.now c.in-Some.k None found).0 (λ d. (position-Some is_vacant c.args.slots.now c.in-Some.k d found).1) (λ j d l. (position-Some is_vacant c.args.slots.now c.in-Some.k d found).2 j l) in
    ap not (sym at.0)

pub returns-clause-slots : goal.returns-clause-slots
returns-clause-slots g c =
    let found = sym c.free_place.ensures.place ∙ c.in-Some.is in
    let at = vacant_slot g.D.Device.state c.args.slots.now c.in-Some.k c.new_slot-slot.result (position-Some is_vacant c.args.slots.now c.in-Some.k None found).0 (λ d. (position-Some is_vacant c.args.slots.now c.in-Some.k d found).1) (λ j d l. (position-Some is_vacant c.args.slots.now c.in-Some.k d found).2 j l) in
    ap (seen_session_slots g.D.Device.state) c.swap_slot-vacant.ensures.new ∙ at.1 ∙ ap (λ (x : SessionSlot DeviceState). with_session_slot (seen_session_slots g.D.Device.state c.args.slots.now) x) c.new_slot-slot.ensures

pub returns-clause-registry : goal.returns-clause-registry
returns-clause-registry g c =
    let found = sym c.free_place.ensures.place ∙ c.in-Some.is in
    let at = vacant_slot g.D.Device.state c.args.slots.now c.in-Some.k c.new_slot-slot.result (position-Some is_vacant c.args.slots.now c.in-Some.k None found).0 (λ d. (position-Some is_vacant c.args.slots.now c.in-Some.k d found).1) (λ j d l. (position-Some is_vacant c.args.slots.now c.in-Some.k d found).2 j l) in
    c.give_back_slot.ensures ∙ ap (λ (x : Option (SessionSlot g.row.D.Denot)). session_let_go (table g.D.Device.state c.args.registry.now) (session_in (option_map (seen_session_slot g.D.Device.state) x))) (c.swap_slot-vacant.ensures.old None ∙ at.2)
