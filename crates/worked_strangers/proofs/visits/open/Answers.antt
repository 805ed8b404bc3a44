use Rattle.std.proofs.Common.{ℕ, List, false, subst}
use Rattle.saned_core.specs.declared.session_slot.Fed.TheVariants.{Standing}
use Rattle.saned_core.specs.DaemonStates.{core}
use Rattle.saned_serve.specs.SessionActions.{ActsOn}
use Rattle.saned_serve.specs.SessionActions.SessionAction.{Feed}
use Rattle.worked_strangers.specs.Inside.{IsLeft}
use Rattle.worked_strangers.proofs.Composed.{opened_so}
use Rattle.worked_strangers.proofs.visits.open.Goals as goal

pub returns : goal.returns
returns g c = λ on.
    let state = g.D.Device.state in
    let d = core state c.args.daemon.now in
    let e = core state c.say.new.daemon in
    let f = core state c.is_out.new.daemon in
    opened_so d e f c.args.id.number c.args.name.now c.in-Some.said.items c.in-Some.ensures
    (subst (λ (piece : List ℕ). ActsOn c.args.id.number d (Feed piece Standing false) e) c.as_slice.ensures.value (c.say.ensures c.if-not-say.false))
    (subst (λ (name : List ℕ). IsLeft name e f) c.as_bytes.ensures.bytes (c.is_out.ensures on))
