use Rattle.std.proofs.Common.{ℕ, ◌<◌, length, slice_index_or}
use Rattle.device_api.specs.ScannerLimits.{HasLimits}
use Rattle.scan_world.proofs.world.ask_limits.Given as goal

-- it is so of each device so far
abbrev pub invariant-loop-device : goal.invariant-loop-device
invariant-loop-device g l = (k : ℕ) (d : _) → k < l.device-index → k < length l.devices → HasLimits (g.D.Device.state (slice_index_or l.devices k d))
