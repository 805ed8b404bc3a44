use Rattle.std.proofs.Common.{◌≡◌, true, List}
use Rattle.saned_core.specs.DaemonStates.{core}
use Rattle.saned_serve.specs.Journal.{LoopAction, has_stopped}
use Rattle.saned_serve.specs.Serving.{DaemonAndListeners}
use Rattle.saned_serve.specs.Inside.{LoopInvariant, Shuts, serving_state}
use Rattle.saned_serve.proofs.link_slots.close_all.Given as goal

abbrev pub invariant-loop-slot : goal.invariant-loop-slot
invariant-loop-slot g l = (start : DaemonAndListeners) (past : List LoopAction) → has_stopped past ≡ true → LoopInvariant g.L.Conn.Socket.history start past (serving_state (core g.D.Device.state l.fn.daemon) (g.L.Listeners.trace l.fn.net) 0 l.fn.slots.items)
    → Shuts g.L.Conn.Socket.history start.daemon start.listeners past (core g.D.Device.state l.daemon) (g.L.Listeners.trace l.net) l.slots.items

abbrev pub decreases-loop-slot : goal.decreases-loop-slot
decreases-loop-slot g l = goal.left-loop-slot g l
