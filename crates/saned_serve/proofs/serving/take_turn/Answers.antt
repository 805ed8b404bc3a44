use Rattle.std.proofs.Common.{◌≡◌, ◌≤◌, ◌+◌, ◌||◌, ◌∙◌, refl, sym, subst, Bool, true, false, arith, rules}
use mir.Val.{bool_byte}
use Rattle.saned_core.specs.DaemonStates.{core}
use Rattle.saned_serve.specs.Inside.{WentOn, one_if, serving_state}
use Rattle.saned_serve.proofs.SlotGreeting.{then_on, took_turn}
use Rattle.saned_serve.proofs.serving.take_turn.Goals as goal

same_byte : (b : Bool) → bool_byte b ≡ one_if b
same_byte true = refl
same_byte false = refl

at_most_one : (b : Bool) → one_if b ≤ 1
at_most_one true = omega arith
at_most_one false = omega arith

pub loop-i-preserved : goal.loop-i-preserved
loop-i-preserved g c =
    let one = c.from-left.ensures ∙ same_byte c.turn_at-visit.result.has_left in
    record {
      turned = λ start past anew was.
          let history = g.L.Conn.Socket.history in
          let e = core g.D.Device.state c.turn_at-visit.new.daemon in
          let m = g.L.Listeners.trace c.turn_at-visit.new.net in
          let next = then_on history start.daemon start.listeners past c.loop-i.left (one_if c.turn_at-visit.result.has_left) c.loop-i.has_moved c.turn_at-visit.result.has_moved (core g.D.Device.state c.loop-i.daemon) (g.L.Listeners.trace c.loop-i.net) c.loop-i.i c.loop-i.slots e m (c.loop-i.i + 1) c.turn_at-visit.new.slots
          (c.loop-i.invariant.turned start past anew was) (λ journal asked stands. c.turn_at-visit.ensures.went start journal asked stands) in
          subst (λ k. WentOn history start past (record { has_moved = (c.loop-i.has_moved || c.turn_at-visit.result.has_moved); left = (c.loop-i.left + k) }) (serving_state e m (c.loop-i.i + 1) c.turn_at-visit.new.slots)) (sym one) next;
      roomed = c.turn_at-visit.ensures.roomed;
      few = (let most = at_most_one c.turn_at-visit.result.has_left in let few = c.loop-i.invariant.few in omega (arith, one, most, few));
    }

pub loop-i-init : goal.loop-i-init
loop-i-init g c = record { turned = c.welcome-has_moved.ensures.went; few = omega arith; roomed = c.welcome-has_moved.ensures.roomed }

pub returns-clause-turned : goal.returns-clause-turned
returns-clause-turned g c = λ start past anew was.
    took_turn g.L.Conn.Socket.history start.daemon start.listeners past c.loop-i.left c.loop-i.has_moved (core g.D.Device.state c.loop-i.daemon) (g.L.Listeners.trace c.loop-i.net) c.loop-i.i c.loop-i.slots
    (search rules) (c.loop-i.invariant.turned start past anew was)

pub overflow_add-left : goal.overflow_add-left
overflow_add-left g c =
    let few = c.loop-i.invariant.few in
    let at = c.loop-i-test.true in
    let same = c.welcome-has_moved.auto.slots in
    let len = c.requires.len in
    let one = c.from-left.ensures ∙ same_byte c.turn_at-visit.result.has_left in
    let most = at_most_one c.turn_at-visit.result.has_left in
    omega (arith, few, at, same, len, one, most)
