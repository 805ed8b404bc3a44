use Rattle.std.proofs.Common.{arith}
use Rattle.device_api.specs.ScannerLimits.{HasLimits}
use Rattle.scan_world.proofs.Lists.{below, next_too}
use Rattle.scan_world.proofs.world.ask_limits.Goals as goal

pub loop-device-init : goal.loop-device-init
loop-device-init g c = λ k d less within. absurd (omega (arith, less))

pub loop-device-preserved : goal.loop-device-preserved
loop-device-preserved g c = λ k d less within.
    next_too (λ (x : _). HasLimits (g.D.Device.state x)) c.args.devices.now c.loop-device.device-index c.device-item.result c.device-item.is c.params.ensures.limits c.loop-device.invariant k d (below k c.loop-device.device-index less) within

pub returns : goal.returns
returns g c = λ k d within. c.loop-device.invariant k d (omega (arith, c.loop-device-test.false, within)) within
