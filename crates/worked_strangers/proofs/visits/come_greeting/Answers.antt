use Rattle.std.proofs.Common.{ℕ, List, false, subst}
use Rattle.saned_core.specs.declared.session_slot.Fed.TheVariants.{Standing}
use Rattle.saned_core.specs.DaemonStates.{core}
use Rattle.saned_serve.specs.SessionActions.{ActsOn}
use Rattle.saned_serve.specs.SessionActions.SessionAction.{Feed}
use Rattle.worked_strangers.proofs.visits.come_greeting.Goals as goal

pub returns : goal.returns
returns g c =
    let state = g.D.Device.state in
    record {
      greeting = c.in_ok-said.said.items;
      greets = c.in_ok-said.ensures;
      opened = core state c.come.new.daemon;
      comes = c.in_ok-id.ensures;
      says = subst (λ (piece : List ℕ). ActsOn c.in_ok-id.id.number (core state c.come.new.daemon) (Feed piece Standing false) (core state c.say.new.daemon)) c.as_slice.ensures.value (c.say.ensures c.if-not-say.false);
    }
