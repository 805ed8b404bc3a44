-- What laws of this crate say.
use Rattle.std.specs.Prelude.{◌≡◌, ℕ, List, Some, slice_get}
use Rattle.option_desc.specs.declared.descriptor.Descriptor.{Descriptor}
use Rattle.option_desc.specs.declared.value.Value.{Value}
use Rattle.option_desc.specs.Reads.{read_value}
use Rattle.scan_frames.specs.declared.setup.Setup.{Setup}
use Rattle.device_api.specs.Options.{descriptors_of}
use Rattle.device_api.specs.Values.{option_set}
use Rattle.device_api.specs.InForce.{number_named, IsPlacedBy, placement}

-- a setting that finds its option and reads as a value is put as a set of that option answers
abbrev pub SettingsArePutAsTheyAreSet : Type 0
SettingsArePutAsTheyAreSet = (s : Setup) (name text : List ℕ) (n : ℕ) (desc : Descriptor) (asked : Value)
    → number_named name (descriptors_of s) ≡ Some n → slice_get (descriptors_of s) n ≡ Some desc
    → read_value desc text ≡ Some asked → IsPlacedBy s n asked (option_set s n asked) (placement s (name, text))
