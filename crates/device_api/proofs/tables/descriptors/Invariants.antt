use Rattle.std.proofs.Common.{◌≡◌, take, map}
use Rattle.device_api.specs.Options.{descriptor_of}
use Rattle.device_api.proofs.tables.descriptors.Given as goal

abbrev pub invariant-loop-option : goal.invariant-loop-option
invariant-loop-option l = l.all.items ≡ map (descriptor_of l.setup) (take l.option-index l.options)
