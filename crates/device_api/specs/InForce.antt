-- The settings of a job in force: a fold over them from the defaults.
use Rattle.std.specs.Prelude.{ℕ, ◌≡◌, ◌&&◌, Bool, not, if◌then◌else◌, Option, Some, None, Result, Ok, Err, option_map}
use Rattle.std.specs.Prelude.{option_and_then, List, [], ◌∷◌, slice_get}
use Rattle.std.specs.List.{position_from}
use Rattle.std.specs.Str.{bytes_eq}
use Rattle.sane_fixed.specs.DecimalReading.{◌>>=◌}
use Rattle.sane_fixed.specs.declared.byte_order.ByteOrder.{ByteOrder}
use Rattle.sane_fixed.specs.declared.info.Info.{Info}
use Rattle.sane_fixed.specs.declared.status.Status.{Status}
use Rattle.option_desc.specs.declared.descriptor.Descriptor.{Descriptor}
use Rattle.option_desc.specs.declared.value.Value.{Value}
use Rattle.option_desc.specs.Put.{resolve}
use Rattle.option_desc.specs.Reads.{read_value}
use Rattle.page_picture.specs.declared.scene.DeviceKind.{DeviceKind}
use Rattle.scan_frames.specs.declared.setup.Setup.{Setup}
use Rattle.device_api.specs.Options.{descriptors_of}
use Rattle.sane_fixed.specs.Cap.{has_cap}
use Rattle.device_api.specs.Values.{defaults, setup_after}

-- the number of the first descriptor of that name
abbrev pub number_named : List ℕ → List Descriptor → Option ℕ
number_named name descriptors = position_from (λ desc. bytes_eq desc.name name) 0 descriptors

-- the option may be set: it has SOFT_SELECT, and is not INACTIVE
abbrev pub may_be_set : Descriptor → Bool
may_be_set desc = has_cap desc.caps.0 1 && not (has_cap desc.caps.0 32)

-- the value that is given for a text: none if the option may not be set, if the text does not read, or if no value is
-- near
abbrev pub given_for : Descriptor → List ℕ → Option (Value × Value)
given_for desc text =
    if may_be_set desc
    then (do
      asked ← read_value desc text
      given ← resolve desc asked
      Some (asked, given))
    else None

-- what a setting asked for and was given, and the setup that it leaves
pub record Placement : Type 0 where
  pub setup : Setup
  pub asked : Value
  pub given : Value

unfoldable pub placement : Setup → List ℕ × List ℕ → Option Placement
placement s setting = do
  n ← number_named setting.0 (descriptors_of s)
  desc ← slice_get (descriptors_of s) n
  pair ← given_for desc setting.1
  Some (record { setup = setup_after s n pair.1; asked = pair.0; given = pair.1 })

-- the settings put in one after another; none at the first that fails
abbrev pub force : Setup → List (List ℕ × List ℕ) → Option (Setup × List Placement)
force s [] = Some (s, [])
force s (setting ∷ settings) =
    option_and_then (λ first.
    option_map (λ more. (more.0, first ∷ more.1)) (force first.setup settings)) (placement s setting)

-- **settings in force (`in_force`)**: a fold over settings from the defaults of the kind. Each name finds its option
-- among the descriptors in force, its text is read as that option's value, and the nearest admitted value is put in.
-- The first that fails gives none.
abbrev pub in_force : DeviceKind → ByteOrder → List (List ℕ × List ℕ) → Option (Setup × List Placement)
in_force k order settings = force (defaults k order) settings

-- what is put is what the set of an option answers, and nothing where that refuses
abbrev pub IsPlacedBy : Setup → ℕ → Value → Result (Value × Info) Status → Option Placement → Type 0
IsPlacedBy s n asked (Ok given) p =
    p ≡ Some (record { setup = setup_after s n given.0; asked = asked; given = given.0 })
IsPlacedBy s n asked (Err _) p = p ≡ None
