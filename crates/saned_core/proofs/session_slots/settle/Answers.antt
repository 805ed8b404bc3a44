use Rattle.std.proofs.Common.{◌≡◌, ◌∙◌, ap, None, Option, slice_index_or, slice_set, List}
use Rattle.std.specs.Option.{option_map, option_and_then}
use Rattle.std.proofs.lemmas.List.{get_or-set_same}
use Rattle.dispatch.specs.Table.{table}
use Rattle.saned_core.specs.declared.session_slot.SessionSlot.{SessionSlot}
use Rattle.saned_core.specs.DaemonStates.{seen_session_slot, session_in, session_let_go, kept_if_open}
use Rattle.saned_core.proofs.SlotNumbers.{set_twice}
use Rattle.saned_core.proofs.session_slots.settle.Goals as goal

pub returns-clause-registry : goal.returns-clause-registry
returns-clause-registry g c =
    let gone : c.swap_slot-gone.result ≡ None = c.swap_slot-gone.ensures.old None ∙ ap (λ (xs : List (Option (SessionSlot g.row.D.Denot))). slice_index_or xs c.args.k None) c.swap_slot-slot.ensures.new ∙ get_or-set_same c.args.slots.now c.args.k None None c.requires in
    c.give_back_slot.ensures ∙ ap (λ (x : Option (SessionSlot g.row.D.Denot)). session_let_go (table g.D.Device.state c.args.registry.now) (session_in (option_map (seen_session_slot g.D.Device.state) x))) gone

pub returns-clause-slots : goal.returns-clause-slots
returns-clause-slots g c = λ d.
    c.swap_slot-gone.ensures.new ∙ ap (λ (xs : List (Option (SessionSlot g.row.D.Denot))). slice_set xs c.args.k c.kept_if_open-slot.result) c.swap_slot-slot.ensures.new ∙ set_twice c.args.slots.now c.args.k None c.kept_if_open-slot.result
    ∙ ap (λ (x : Option (SessionSlot g.row.D.Denot)). slice_set c.args.slots.now c.args.k x) (c.kept_if_open-slot.ensures ∙ ap (option_and_then kept_if_open) (c.swap_slot-slot.ensures.old d))
