-- WHAT THE SETTINGS OF A JOB PUT IN FORCE.
use Rattle.std.specs.Prelude.{ℕ, ◌≡◌, ◌&&◌, true, None, List, [], ◌∷◌, Contains}
use Rattle.option_desc.specs.declared.descriptor.Descriptor.{Descriptor}
use Rattle.option_desc.specs.Put.{Puts}
use Rattle.option_desc.specs.Reads.{ReadsAsValue}
use Rattle.sane_fixed.specs.declared.byte_order.ByteOrder.TheVariants.{Little}
use Rattle.page_picture.specs.declared.scene.DeviceKind.{DeviceKind}
use Rattle.scan_frames.specs.declared.setup.Setup.{Setup}
use Rattle.device_api.specs.declared.scan_option.ScanOption.{ScanOption}
use Rattle.device_api.specs.Options.{is_active, option_caps, option_constraint, option_kind, option_name, option_size}
use Rattle.device_api.specs.Options.{options_of}
use Rattle.device_api.specs.InForce.{Placement}
use Rattle.device_api.specs.Values.{defaults, with_value}
use Rattle.sane_fixed.specs.Cap.{has_cap}

-- **put (`IsSettingPut`, `AreSettingsPut`)**: a setting was put in: the option of its name, which is active and has
-- SOFT_SELECT, got the admitted value nearest to what the setting's text reads as. `AreSettingsPut`: so was each of
-- some settings, from the options that those before it left.
pub record IsSettingPut (s : Setup) (setting : List ℕ × List ℕ) (p : Placement) : Type 0 where
  pub option : ScanOption
  pub has : Contains (options_of s.scene.kind) option
  pub named : option_name option ≡ setting.0
  pub may_be_set : (is_active s option && has_cap (option_caps option) 1) ≡ true
  -- by a descriptor of its kind, size in bytes and constraint, whatever else it says
  pub desc : Descriptor
  pub form : (desc.kind ≡ option_kind option) × (desc.size ≡ option_size option)
      × (desc.constraint ≡ option_constraint s.scene.kind option)
  pub reads : ReadsAsValue desc setting.1 p.asked
  pub nearest : Puts desc p.asked p.given
  pub after : p.setup ≡ with_value s option p.given

-- each of the settings, from the options that those before it left
abbrev pub AreSettingsPut : Setup → List (List ℕ × List ℕ) → List Placement → Setup → Type 0
AreSettingsPut s [] [] t = t ≡ s
AreSettingsPut s (setting ∷ settings) (p ∷ ps) t = IsSettingPut s setting p × AreSettingsPut p.setup settings ps t
AreSettingsPut s settings ps t = ⊥

-- **in force from the defaults (`PutsInForce`)**: the settings put these options in force on a device of the kind at
-- its defaults. None of them names a status that a read is to answer.
pub record PutsInForce (kind : DeviceKind) (settings : List (List ℕ × List ℕ)) (setup : Setup) : Type 0 where
  pub placed : List Placement
  pub put : AreSettingsPut (defaults kind Little) settings placed setup
  pub unnamed : setup.told ≡ None
