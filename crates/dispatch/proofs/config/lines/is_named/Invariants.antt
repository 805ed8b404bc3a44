use Rattle.std.specs.List.{AllWithin}
use Rattle.dispatch.specs.ConfigLines.{IsCalled}
use Rattle.dispatch.proofs.config.lines.is_named.Given as goal

-- none of those before has the name
abbrev pub invariant-loop-device : goal.invariant-loop-device
invariant-loop-device l = AllWithin (λ device. ¬ IsCalled l.kind l.index device) l.devices 0 l.device-index
