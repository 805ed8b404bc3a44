use Rattle.std.proofs.Common.{◌≤◌, ◌<◌, ◌*◌, [], All}
use Rattle.saned_core.specs.DaemonStates.{core}
use Rattle.saned_serve.specs.Serving.{DaemonAndListeners}
use Rattle.saned_serve.specs.Inside.{LoopInvariant, HasTakenTurns, HasRooms, serving_state}
use Rattle.saned_serve.proofs.serving.take_turns.Given as goal

abbrev pub invariant-loop-turn : goal.invariant-loop-turn
invariant-loop-turn g l = record {
  turned : (start : DaemonAndListeners) → LoopInvariant g.L.Conn.Socket.history start [] (serving_state (core g.D.Device.state l.fn.daemon) (g.L.Listeners.trace l.fn.net) 0 l.fn.slots)
      → HasTakenTurns g.L.Conn.Socket.history start.daemon start.listeners l.all_left l._turn l.idle (core g.D.Device.state l.daemon) (g.L.Listeners.trace l.net) l.slots;
  roomed : All HasRooms l.slots;
  few : l.all_left ≤ 8 * l._turn;
  below : 0 < l.fn.sessions → l.all_left < l.fn.sessions;
  slow : l.idle ≤ l._turn;
  patient : 0 < l._turn → l.idle < l.fn.idle_turns;
}
