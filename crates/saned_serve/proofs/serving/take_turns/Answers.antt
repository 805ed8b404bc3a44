use Rattle.std.proofs.Common.{ℕ, ◌≤◌, ◌<◌, ◌+◌, ◌∙◌, sym, subst, cond, Bool, true, false, arith, rules}
use Rattle.saned_core.specs.DaemonStates.{core}
use Rattle.saned_serve.specs.Inside.{HasTakenTurns}
use Rattle.saned_serve.proofs.SlotGreeting.{took_none, took_next, ran_sessions, ran_idle, ran_turns}
use Rattle.saned_serve.proofs.serving.take_turns.Goals as goal
use Rattle.saned_serve.proofs.serving.take_turns.Goals.{else-sessions-gt0-via-then-sessions-gt0+else-all_left-sessions, else-sessions-gt0-via-else-sessions-gt0}

slower : (b : Bool) (idle turn : ℕ) → idle ≤ turn → cond b 0 (idle + 1) ≤ turn + 1
slower true idle turn slow = omega arith
slower false idle turn slow = omega (arith, slow)

pub loop-turn-init : goal.loop-turn-init
loop-turn-init g c = record {
  turned = λ start was. took_none g.L.Conn.Socket.history start.daemon start.listeners (core g.D.Device.state c.args.daemon.now) (g.L.Listeners.trace c.args.net.now) c.args.slots.now was;
  roomed = c.requires.roomed;
  few = omega arith;
  below = λ some. some;
  slow = omega arith;
  patient = λ some. absurd (omega (arith, some));
}

pub returns-then-all_left-sessions-clause-ran : goal.returns-then-all_left-sessions-clause-ran
returns-then-all_left-sessions-clause-ran g c = λ start was.
    let history = g.L.Conn.Socket.history in
    let e = core g.D.Device.state c.take_turn-turned.new.daemon in
    let m = g.L.Listeners.trace c.take_turn-turned.new.net in
    let next = took_next history start.daemon start.listeners c.loop-turn.all_left c.loop-turn._turn c.loop-turn.idle c.take_turn-turned.result.left c.take_turn-turned.result.has_moved (core g.D.Device.state c.loop-turn.daemon) (g.L.Listeners.trace c.loop-turn.net) c.loop-turn.slots e m c.take_turn-turned.new.slots
    (c.loop-turn.invariant.turned start was) (λ journal anew stands. c.take_turn-turned.ensures.turned start journal anew stands) in
    let some : 0 < c.args.sessions = search rules in
    let before = c.loop-turn.invariant.below some in
    let fits = c.take_turn-turned.ensures.few in
    let long = c.loop-turn.auto.slots ∙ c.requires.len in
    ran_sessions history start.daemon start.listeners (c.loop-turn.all_left + c.take_turn-turned.result.left) (c.loop-turn._turn + 1) (cond c.take_turn-turned.result.has_moved 0 (c.loop-turn.idle + 1)) c.args.sessions c.args.idle_turns e m c.take_turn-turned.new.slots next some (search rules) (omega (arith, before, fits, long))

pub returns-then-idle-idle_turns-clause-ran : goal.returns-then-idle-idle_turns-clause-ran
returns-then-idle-idle_turns-clause-ran g c = λ start was.
    let history = g.L.Conn.Socket.history in
    let e = core g.D.Device.state c.take_turn-turned.new.daemon in
    let m = g.L.Listeners.trace c.take_turn-turned.new.net in
    let next = took_next history start.daemon start.listeners c.loop-turn.all_left c.loop-turn._turn c.loop-turn.idle c.take_turn-turned.result.left c.take_turn-turned.result.has_moved (core g.D.Device.state c.loop-turn.daemon) (g.L.Listeners.trace c.loop-turn.net) c.loop-turn.slots e m c.take_turn-turned.new.slots
    (c.loop-turn.invariant.turned start was) (λ journal anew stands. c.take_turn-turned.ensures.turned start journal anew stands) in
    let fewer : 0 < c.args.sessions → c.loop-turn.all_left + c.take_turn-turned.result.left < c.args.sessions = elim c.else-sessions-gt0.branch [
      | else-sessions-gt0-via-then-sessions-gt0+else-all_left-sessions w ↦ λ some. (let off = w.if-all_left-sessions.false in omega (arith, off))
      | else-sessions-gt0-via-else-sessions-gt0 w ↦ λ some. (let off = w.if-sessions-gt0.false in absurd (omega (arith, off, some)))
    ] in
    let long = subst (λ k. c.args.idle_turns ≤ k) c.idle_after-idle.ensures (search rules) in
    ran_idle history start.daemon start.listeners (c.loop-turn.all_left + c.take_turn-turned.result.left) (c.loop-turn._turn + 1) (cond c.take_turn-turned.result.has_moved 0 (c.loop-turn.idle + 1)) c.args.sessions c.args.idle_turns e m c.take_turn-turned.new.slots next fewer long

pub loop-turn-preserved : goal.loop-turn-preserved
loop-turn-preserved g c =
    let fewer : 0 < c.args.sessions → c.loop-turn.all_left + c.take_turn-turned.result.left < c.args.sessions = elim c.else-sessions-gt0.branch [
      | else-sessions-gt0-via-then-sessions-gt0+else-all_left-sessions w ↦ λ some. (let off = w.if-all_left-sessions.false in omega (arith, off))
      | else-sessions-gt0-via-else-sessions-gt0 w ↦ λ some. (let off = w.if-sessions-gt0.false in absurd (omega (arith, off, some)))
    ] in
    let same = c.idle_after-idle.ensures in
    let history = g.L.Conn.Socket.history in
    let e = core g.D.Device.state c.take_turn-turned.new.daemon in
    let m = g.L.Listeners.trace c.take_turn-turned.new.net in
    record {
      turned = λ start was.
          let next = took_next history start.daemon start.listeners c.loop-turn.all_left c.loop-turn._turn c.loop-turn.idle c.take_turn-turned.result.left c.take_turn-turned.result.has_moved (core g.D.Device.state c.loop-turn.daemon) (g.L.Listeners.trace c.loop-turn.net) c.loop-turn.slots e m c.take_turn-turned.new.slots
          (c.loop-turn.invariant.turned start was) (λ journal anew stands. c.take_turn-turned.ensures.turned start journal anew stands) in
          subst (λ k. HasTakenTurns history start.daemon start.listeners (c.loop-turn.all_left + c.take_turn-turned.result.left) (c.loop-turn._turn + 1) k e m c.take_turn-turned.new.slots) (sym same) next;
      roomed = c.take_turn-turned.ensures.roomed;
      few = search rules;
      below = fewer;
      slow = subst (λ k. k ≤ c.loop-turn._turn + 1) (sym same) (slower c.take_turn-turned.result.has_moved c.loop-turn.idle c.loop-turn._turn c.loop-turn.invariant.slow);
      patient = λ some. search rules;
    }

pub returns-clause-ran : goal.returns-clause-ran
returns-clause-ran g c = λ start was.
    let now = c.loop-turn.invariant.turned start was in
    ran_turns g.L.Conn.Socket.history start.daemon start.listeners c.loop-turn.all_left c.loop-turn._turn c.loop-turn.idle c.args.sessions c.args.idle_turns (core g.D.Device.state c.loop-turn.daemon) (g.L.Listeners.trace c.loop-turn.net) c.loop-turn.slots now c.loop-turn.invariant.below (c.loop-turn.invariant.patient (search rules)) (search rules)
