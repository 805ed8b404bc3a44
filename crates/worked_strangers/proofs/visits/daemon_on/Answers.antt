use Rattle.std.proofs.Common.{subst}
use Rattle.device_api.specs.ScannerLimits.{HasLimits}
use Rattle.worked_strangers.proofs.Composed.{new_so}
use Rattle.worked_strangers.proofs.visits.daemon_on.Goals as goal

pub returns : goal.returns
returns c = (
  new_so _ _ c.in_ok-flatbed.flatbed c.in_ok-devices.devices.items _ c.new-2.result c.in_ok-flatbed.ensures c.in_ok-devices.ensures c.in-Ok.ensures.ok c.new-2.ensures.registry c.new-2.ensures.none c.new-2.ensures.opened,
  c.new-2.ensures.users,
  subst HasLimits c.in_ok-flatbed.ensures c.params-params.ensures.limits,
)
