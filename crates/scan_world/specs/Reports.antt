-- WHAT BECAME OF THE SETTINGS of a job that is done.
use Rattle.std.specs.Prelude.{ℕ, ◌≡◌, ◌≢◌, ◌↔◌, if◌then◌else◌, true, Option, Some, None, List, [], ◌∷◌, map}
use Rattle.option_desc.specs.declared.descriptor.Descriptor.{Descriptor}
use Rattle.option_desc.specs.declared.value.Value.{Value}
use Rattle.scan_frames.specs.declared.setup.Setup.{Setup}
use Rattle.device_api.specs.InForce.{Placement}
use Rattle.device_api.specs.declared.scan_option.ScanOption.{ScanOption}
use Rattle.device_api.specs.Options.{descriptor_of, options_of}
use Rattle.device_api.specs.Values.{option_value}
use Rattle.scan_laws.specs.SetInfo.{has_bit}
use Rattle.system_model.specs.Devices.{is_readable}
use Rattle.scan_job.specs.declared.report.Report.{Report}

-- **answered (`IsSettingReported`, `AreSettingsReported`)**: one report for each setting in their order: what its text
-- reads as, the value that its option was given, and INEXACT just where the two differ.
pub record IsSettingReported (setting : List ℕ × List ℕ) (placed : Placement) (report : Report) : Type 0 where
  pub name : report.name ≡ setting.0
  pub asked : report.asked ≡ placed.asked
  pub given : report.given ≡ placed.given
  pub inexact : (has_bit report.info 1 ≡ true) ↔ (report.given ≢ report.asked)

-- one report for each setting, in their order
abbrev pub AreSettingsReported : List (List ℕ × List ℕ) → List Placement → List Report → Type 0
AreSettingsReported [] [] [] = Unit {0}
AreSettingsReported (s ∷ settings) (p ∷ ps) (r ∷ rs) = IsSettingReported s p r × AreSettingsReported settings ps rs
AreSettingsReported settings placed reports = ⊥

-- an option as a show tells it: with its value, where that can be read
abbrev pub told_option : Setup → ScanOption → Descriptor × Option Value
told_option s o = (descriptor_of s o, if is_readable (descriptor_of s o) then Some (option_value s o) else None)

-- a show tells each option of the device's table, in its order, and no other
abbrev pub AreOptionsShown : Setup → List (Descriptor × Option Value) → Type 0
AreOptionsShown s options = options ≡ map (told_option s) (options_of s.scene.kind)
