-- The settings in force by the model are those of the devices.
use Rattle.std.specs.Prelude.{ℕ, ◌≡◌, List, map, option_map}
use Rattle.device_api.specs.InForce as devices
use Rattle.system_model.specs.AbstractMessages.{RequestedSetting}
use Rattle.system_model.specs.Devices.{Make}
use Rattle.system_model.specs.AbstractInForce.{abstract_in_force}

abbrev pub pair_of : RequestedSetting → List ℕ × List ℕ
pair_of requested = (requested.name, requested.text)

-- the same settings are in force, or none, by both
abbrev pub SettingsMeanTheSame : Type 0
SettingsMeanTheSame =
    (k : Make) (settings : List RequestedSetting)
    → option_map (λ f. f.options) (abstract_in_force k settings)
    ≡ option_map (λ r. r.0) (devices.in_force k.model k.order (map pair_of settings))
