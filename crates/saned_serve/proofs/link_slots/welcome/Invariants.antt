use Rattle.std.proofs.Common.{◌≡◌, ◌<◌, ℕ, All, List}
use Rattle.saned_core.specs.DaemonStates.{core}
use Rattle.saned_serve.specs.Journal.{LoopAction}
use Rattle.saned_serve.specs.Serving.{DaemonAndListeners}
use Rattle.saned_serve.specs.Inside.{LoopInvariant, HasRooms, one_link, link_at, serving_state}
use Rattle.saned_serve.proofs.link_slots.welcome.Given as goal

abbrev pub invariant-loop-i : goal.invariant-loop-i
invariant-loop-i g l = record {
  taken : (j : ℕ) → j < l.i → one_link (link_at l.slots j) ≡ 1;
  roomed : All HasRooms l.slots;
  stands : (start : DaemonAndListeners) (past : List LoopAction) → LoopInvariant g.L.Conn.Socket.history start past (serving_state (core g.D.Device.state l.fn.daemon) (g.L.Listeners.trace l.fn.net) 0 l.fn.slots)
      → LoopInvariant g.L.Conn.Socket.history start past (serving_state (core g.D.Device.state l.daemon) (g.L.Listeners.trace l.net) 0 l.slots);
}
