use Rattle.std.proofs.Common.{refl}
use Rattle.saned_core.proofs.daemon.Daemon.data_turn.Goals as goal

pub returns : goal.returns
returns g c = rw (← c.self.view_is) (record { slots = c.turn_at.ensures; others = refl })
