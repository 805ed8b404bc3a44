use Rattle.std.proofs.Common.{◌∙◌, sym, option_map}
use Rattle.saned_core.specs.DaemonStates.{seen_session_slot}
use Rattle.saned_core.specs.Loading.{holds, slot_load_answer}
use Rattle.saned_core.proofs.Firsts.{first_any, first_changed, first_told}
use Rattle.saned_core.proofs.daemon_loading.load_at.Goals as goal

pub returns-clause-answer : goal.returns-clause-answer
returns-clause-answer g c = λ other.
    (rw (← c.index-slots-k.is) at c.load_into_slot.ensures.answer)
    ∙ sym (first_told (option_map (seen_session_slot g.D.Device.state)) (holds c.args.name.now) (slot_load_answer c.args.name.now) c.args.slots.now c.args.k c.index-slots-k.result other c.requires c.index-slots-k.is)

pub returns-clause-after : goal.returns-clause-after
returns-clause-after g c =
    first_changed (option_map (seen_session_slot g.D.Device.state)) (holds c.args.name.now) _ c.args.slots.now c.args.k c.index-slots-k.result c.load_into_slot.new.slot c.requires c.index-slots-k.is
    (rw (← c.index-slots-k.is) at c.load_into_slot.ensures.after)

pub returns-clause-held : goal.returns-clause-held
returns-clause-held g c = first_any (option_map (seen_session_slot g.D.Device.state)) (holds c.args.name.now) c.args.slots.now c.args.k c.requires
