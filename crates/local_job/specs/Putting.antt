-- What a setting asks of an option.
use Rattle.std.specs.Prelude.{ℕ, Option, option_and_then, List, slice_get}
use Rattle.option_desc.specs.declared.value.Value.{Value}
use Rattle.option_desc.specs.Reads.{read_value}
use Rattle.scan_frames.specs.declared.setup.Setup.{Setup}
use Rattle.device_api.specs.Options.{descriptors_of}

-- the value that a text asks of an option
abbrev pub value_of_setting : Setup → ℕ → List ℕ → Option Value
value_of_setting s n text = option_and_then (λ desc. read_value desc text) (slice_get (descriptors_of s) n)
