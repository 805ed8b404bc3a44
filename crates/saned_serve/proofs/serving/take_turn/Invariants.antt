use Rattle.std.proofs.Common.{◌≡◌, ◌≤◌, false, All, List}
use Rattle.saned_core.specs.DaemonStates.{core}
use Rattle.saned_serve.specs.Journal.{LoopAction, has_asked}
use Rattle.saned_serve.specs.Serving.{DaemonAndListeners}
use Rattle.saned_serve.specs.Inside.{LoopInvariant, WentOn, HasRooms, serving_state}
use Rattle.saned_serve.proofs.serving.take_turn.Given as goal

abbrev pub invariant-loop-i : goal.invariant-loop-i
invariant-loop-i g l = record {
  turned : (start : DaemonAndListeners) (past : List LoopAction) → has_asked past ≡ false → LoopInvariant g.L.Conn.Socket.history start past (serving_state (core g.D.Device.state l.fn.daemon) (g.L.Listeners.trace l.fn.net) 0 l.fn.slots)
      → WentOn g.L.Conn.Socket.history start past (record { has_moved = l.has_moved; left = l.left }) (serving_state (core g.D.Device.state l.daemon) (g.L.Listeners.trace l.net) l.i l.slots);
  few : l.left ≤ l.i;
  roomed : All HasRooms l.slots;
}
