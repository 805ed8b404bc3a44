-- The settings of a job in force: what a report tells of each, and at which they end the job.
use Rattle.std.specs.Prelude.{ℕ, ◌≡◌, ◌⊎◌, Option, Some, None, Ok, Err, List, [], ◌∷◌, ◌++◌}
use Rattle.sane_fixed.specs.declared.status.Status.{Status}
use Rattle.option_desc.specs.declared.value.Value.{Value}
use Rattle.scan_frames.specs.declared.setup.Setup.{Setup}
use Rattle.device_api.specs.Options.{descriptors_of}
use Rattle.device_api.specs.Values.{option_set}
use Rattle.device_api.specs.InForce.{Placement, force, number_named}
use Rattle.scan_laws.specs.NearestSet.{PutsNearest}
use Rattle.scan_laws.specs.SetInfo.{TellsOfSet}
use Rattle.scan_job.specs.declared.report.Report.{Report}
use Rattle.scan_job.specs.declared.stop.Stop.{Stop}
use Rattle.local_job.specs.Putting.{value_of_setting}
use Rattle.local_job.specs.LocalStops.{bad_setting, stop_by_status}

-- The report of a setting: its kind is the option's, asked is what its text reads as, given is the nearest admitted
-- value, and the info is the set's own. INEXACT stands in it just where the two differ.
pub record IsReported (s : Setup) (setting : List ℕ × List ℕ) (p : Placement) (report : Report) : Type 0 where
  pub puts : PutsNearest s setting p
  pub name : report.name ≡ setting.0
  pub kind : report.kind ≡ puts.gives.desc.kind
  pub asked : report.asked ≡ p.asked
  pub given : report.given ≡ p.given
  pub set : option_set s puts.n p.asked ≡ Ok (p.given, report.info)
  pub info : TellsOfSet s puts.n p.asked p.given report.info

-- **settings in force, reported (`SettingsAreReported`, `IsReported`), fails at (`FailsAt`)**: each setting has a
-- report. Its kind is the option's, asked is what its text reads as, given is the nearest admitted value. INEXACT
-- stands just where they differ, RELOAD_OPTIONS just where the descriptors changed. Settings fail at the first that is
-- not put, with its reason: no option has its name, its text asks nothing of that option, or the set refuses.
--
-- each of the settings, from the options that those before it left
abbrev pub SettingsAreReported : Setup → List (List ℕ × List ℕ) → List Placement → List Report → Type 0
SettingsAreReported s [] [] [] = Unit {0}
SettingsAreReported s (setting ∷ settings) (p ∷ ps) (report ∷ reports) = IsReported s setting p report
    × SettingsAreReported p.setup settings ps reports
SettingsAreReported s _ _ _ = ⊥

-- Why a setting is not put: no option has its name, its text asks nothing of that option, or the set refuses.
abbrev pub SettingIsRefusedAs : Setup → List ℕ × List ℕ → Stop → Type 0
SettingIsRefusedAs s setting stop =
    ((number_named setting.0 (descriptors_of s) ≡ None) × (stop ≡ bad_setting))
    ⊎ (((n : ℕ) × (number_named setting.0 (descriptors_of s) ≡ Some n) × (value_of_setting s n setting.1 ≡ None)
    × (stop ≡ bad_setting))
    ⊎ ((n : ℕ) × (asked : Value) × (status : Status) × (number_named setting.0 (descriptors_of s) ≡ Some n)
    × (value_of_setting s n setting.1 ≡ Some asked)
    × (option_set s n asked ≡ Err status) × (stop ≡ stop_by_status status)))

-- the settings before this one are put, and it is not
pub record FailsAt (s : Setup) (settings : List (List ℕ × List ℕ)) (stop : Stop) : Type 0 where
  pub before : List (List ℕ × List ℕ)
  pub setting : List ℕ × List ℕ
  pub after : List (List ℕ × List ℕ)
  pub cut : settings ≡ before ++ setting ∷ after
  pub mid : Setup × List Placement
  pub put : force s before ≡ Some mid
  pub refused : SettingIsRefusedAs mid.0 setting stop
