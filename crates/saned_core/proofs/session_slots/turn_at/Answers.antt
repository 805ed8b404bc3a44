use Rattle.std.proofs.Common.{◌≡◌, ◌∙◌, ap, refl, Some, None}
use Rattle.std.specs.Option.{option_map}
use Rattle.saned_requests.specs.Holding.{seen_session}
use Rattle.saned_core.specs.DaemonStates.{seen_session_slot}
use Rattle.saned_core.proofs.SlotNumbers.{no_slot, turn_of_slot}
use Rattle.saned_core.proofs.session_slots.turn_at.Goals as goal

pub returns-in_default : goal.returns-in_default
returns-in_default g c = rw (no_slot g.D.Device.state c.args.number c.args.slots.now c.in_default.ensures.none) (refl, refl)

pub returns-in-Some-session : goal.returns-in-Some-session
returns-in-Some-session g c =
    let own : c.index-slots-k.result ≡ Some c.in-Some-slots.slot = c.index-slots-k.is ∙ c.in-Some-slots.is in
    turn_of_slot g.D.Device.state c.args.number c.args.slots.now c.in-Some.k c.index-slots-k.result _ _ _ c.in-Some.ensures.found c.index-slots-k.is
    (rw (own, c.in-Some-session.is) (seen_session g.D.Device.state c.turn.new.session, c.turn.ensures, refl))

pub returns-in-None-session : goal.returns-in-None-session
returns-in-None-session g c =
    let own : c.index-slots-k.result ≡ Some c.in-Some-slots.slot = c.index-slots-k.is ∙ c.in-Some-slots.is in
    turn_of_slot g.D.Device.state c.args.number c.args.slots.now c.in-Some.k c.index-slots-k.result _ _ _ c.in-Some.ensures.found c.index-slots-k.is (rw (own, c.in-None-session.is) (refl, refl))

pub returns-in-None : goal.returns-in-None
returns-in-None g c =
    let own : c.index-slots-k.result ≡ None = c.index-slots-k.is ∙ c.in-None.is in
    turn_of_slot g.D.Device.state c.args.number c.args.slots.now c.in-Some.k c.index-slots-k.result _ _ _ c.in-Some.ensures.found c.index-slots-k.is (rw own (refl, ap (option_map (seen_session_slot g.D.Device.state)) (rw own at c.in-None.is)))
