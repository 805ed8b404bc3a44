use Rattle.std.proofs.Common.{refl}
use Rattle.saned_core.proofs.PlaceFeeding.{place_ends, place_fails, place_stands}
use Rattle.saned_core.proofs.feeding.feed_place.Goals as goal

pub returns-in-Standing-clause-fed : goal.returns-in-Standing-clause-fed
returns-in-Standing-clause-fed g c =
    rw (c.in-Some.is, c.in-Some-session.is, c.in-Standing.is)
    (place_stands g.D.Device.state c.args.users.now c.args.piece.now c.in-Some.slot.number c.in-Some.slot.input c.feed_session-fed.new.input c.in-Some.slot.replies c.feed_session-fed.new.replies c.in-Some-session.session c.feed_session-fed.new.session c.args.registry.now c.feed_session-fed.new.registry c.args.challenger.now c.feed_session-fed.new.challenger (c.in-Standing.ensures.fault refl) c.in-Standing.ensures.context)

pub returns-in-Over-clause-fed : goal.returns-in-Over-clause-fed
returns-in-Over-clause-fed g c =
    rw (c.in-Some.is, c.in-Some-session.is, c.in-Over.is)
    (place_ends g.D.Device.state c.args.users.now c.args.piece.now c.in-Some.slot.number c.in-Some.slot.input c.feed_session-fed.new.input.rest c.in-Some.slot.replies c.feed_session-fed.new.replies c.in-Some-session.session c.feed_session-fed.new.session c.args.registry.now c.feed_session-fed.new.registry c.close.new.registry c.args.challenger.now c.feed_session-fed.new.challenger c.close.new.slot c.close.ensures.slot c.close.ensures.registry c.in-Over.ensures.context)

pub returns-in-Starved-clause-fed : goal.returns-in-Starved-clause-fed
returns-in-Starved-clause-fed g c =
    rw (c.in-Some.is, c.in-Some-session.is, c.in-Starved.is)
    (place_fails g.D.Device.state c.args.users.now c.args.piece.now c.in-Some.slot.number c.in-Some.slot.input c.feed_session-fed.new.input.rest c.in-Some.slot.replies c.feed_session-fed.new.replies c.clear.new.self c.in-Some-session.session c.feed_session-fed.new.session c.args.registry.now c.feed_session-fed.new.registry c.close-in-Starved.new.registry c.args.challenger.now c.feed_session-fed.new.challenger c.close-in-Starved.new.slot c.close-in-Starved.ensures.slot c.clear.ensures c.close-in-Starved.ensures.registry c.in-Starved.ensures.context)
