use Rattle.std.specs.Prelude.{Err}
use Rattle.std.proofs.Common.{◌∙◌, ap}
use Rattle.sane_fixed.specs.declared.status.Status.{Status}
use Rattle.saned_core.specs.DaemonStates.{core}
use Rattle.worked_strangers.proofs.Composed.{left_so}
use Rattle.worked_strangers.proofs.visits.is_out.Goals as goal

pub returns : goal.returns
returns g c = λ on.
    left_so g.D.Device.state (core g.D.Device.state c.args.daemon.now) (core g.D.Device.state c.unplug.new.self) c.args.name.now c.unplug.result (c.in-Err.is ∙ ap (λ (s : Status). Err s) (c.is_busy.ensures on)) c.unplug.ensures.answer c.unplug.ensures.after
