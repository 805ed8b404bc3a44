use Rattle.std.proofs.Common.{◌≡◌, ◌∙◌, ap, refl, subst, sym, None, Option, slice_index_or, slice_set, List}
use Rattle.std.specs.Option.{option_and_then}
use Rattle.std.proofs.lemmas.List.{get_or-set_same}
use Rattle.dispatch.specs.Table.{Table, table}
use Rattle.saned_core.specs.declared.session_slot.SessionSlot.{SessionSlot}
use Rattle.saned_core.specs.DaemonStates.{kept_if_open, seen_session_slots, session_in}
use Rattle.saned_core.specs.Inside.{FeedsAmong}
use Rattle.saned_core.proofs.SlotNumbers.{no_slot, set_twice}
use Rattle.saned_core.proofs.TakenSlots.{fed_among, over_among}
use Rattle.saned_core.proofs.session_slots.feed_at.Goals as goal

pub returns-in_default : goal.returns-in_default
returns-in_default g c = rw (no_slot g.D.Device.state c.args.number c.args.slots.now c.in_default.ensures.none) (refl, refl, refl, refl)

pub returns-in-Some-feed_place : goal.returns-in-Some-feed_place
returns-in-Some-feed_place g c =
    let f = g.D.Device.state in
    let k = c.in-Some.k in
    let new = c.feed_place.new.place in
    let slots : List (Option (SessionSlot g.row.D.Denot)) = slice_set c.args.slots.now k new in
    let last : slice_index_or slots k None ≡ new = get_or-set_same c.args.slots.now k new None c.in-Some.ensures.found.within in
    let after : c.settle.new.slots ≡ slice_set c.args.slots.now k (option_and_then kept_if_open new) =
    c.settle.ensures.slots None ∙ set_twice c.args.slots.now k new _ ∙ ap (λ (x : Option (SessionSlot g.row.D.Denot)). slice_set c.args.slots.now k (option_and_then kept_if_open x)) last in
    let fed = fed_among f c.args.users.now c.args.number c.args.slots.now k c.index-slots-k.result new c.args.registry.now c.feed_place.new.registry c.args.challenger.now c.feed_place.new.challenger c.args.piece.now c.in-Some-feed_place.fed
    c.in-Some.ensures.found c.index-slots-k.is (rw (← c.index-slots-k.is) at c.in-Some-feed_place.ensures.fed) in
    subst (λ (r : Table). FeedsAmong c.args.number (record { users = c.args.users.now; slots = seen_session_slots f c.args.slots.now; registry = table f c.args.registry.now; stream = c.args.challenger.now }) c.args.piece.now c.in-Some-feed_place.fed (record { users = c.args.users.now; slots = seen_session_slots f c.settle.new.slots; registry = r; stream = c.feed_place.new.challenger }))
    (sym c.settle.ensures.registry)
    (subst (λ (xs : List (Option (SessionSlot g.row.D.Denot))). FeedsAmong c.args.number (record { users = c.args.users.now; slots = seen_session_slots f c.args.slots.now; registry = table f c.args.registry.now; stream = c.args.challenger.now }) c.args.piece.now c.in-Some-feed_place.fed (record { users = c.args.users.now; slots = seen_session_slots f xs; registry = table f c.feed_place.new.registry; stream = c.feed_place.new.challenger }))
    (sym after) fed)

pub returns-in-None : goal.returns-in-None
returns-in-None g c =
    over_among g.D.Device.state c.args.users.now c.args.number c.args.slots.now c.in-Some.k c.index-slots-k.result c.feed_place.new.place c.args.registry.now c.feed_place.new.registry c.args.challenger.now c.feed_place.new.challenger c.args.piece.now
    c.in-Some.ensures.found c.index-slots-k.is (ap session_in c.index-slots-k.is ∙ c.in-None.ensures.none) (c.in-None.ensures.place ∙ sym c.index-slots-k.is) c.in-None.ensures.registry c.in-None.ensures.challenger
