-- The options of a scanner as a job shows them.
use Rattle.std.specs.Prelude.{ℕ, if◌then◌else◌, Option, Some, None, Result, Ok, Err, List, map}
use Rattle.std.specs.List.{enumerate_from}
use Rattle.option_desc.specs.declared.descriptor.Descriptor.{Descriptor}
use Rattle.option_desc.specs.declared.value.Value.{Value}
use Rattle.sane_fixed.specs.declared.status.Status.{Status}
use Rattle.scan_frames.specs.declared.setup.Setup.{Setup}
use Rattle.device_api.specs.Options.{descriptors_of}
use Rattle.device_api.specs.Values.{option_got}
use Rattle.scan_job.specs.KnownValues.{tells_value}

-- the value that was got, if one was
abbrev pub value_got : Result Value Status → Option Value
value_got (Ok value) = Some value
value_got (Err status) = None

-- the value of an option, where it has one to tell
abbrev pub value_reported : Setup → ℕ → Descriptor → Option Value
value_reported s n desc = if tells_value desc then value_got (option_got s n) else None

-- **shown (`options_with_values`, `value_reported`)**: each option in the order of their numbers, with its value where
-- it is active, can be read, has one value, and is no button and no group.
unfoldable pub options_with_values : Setup → List (Descriptor × Option Value)
options_with_values s =
    map (λ option. (option.1, value_reported s option.0 option.1)) (enumerate_from 0 (descriptors_of s))
