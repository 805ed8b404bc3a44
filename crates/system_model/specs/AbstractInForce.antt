-- The settings of a job in force: a fold over them from the default_options, and what it reports.
use Rattle.std.specs.Prelude.{ℕ, ◌≡◌, ◌≢◌, ◌↔◌, List, [], ◌∷◌, ◌++◌, true, Option, Some, None}
use Rattle.option_desc.specs.declared.value.Value.{Value}
use Rattle.system_model.specs.AbstractMessages.{RequestedSetting, AbstractReport}
use Rattle.system_model.specs.Devices.{Make, OptionsInForce, AbstractAcceptedSet, default_options, descriptors_in_force}
use Rattle.system_model.specs.Devices.{resolve_setting, accept_value, IsNearest, has_readable_value, readable_value}

pub record SettingsResult : Type 0 where
  pub options : OptionsInForce
  pub reports : List AbstractReport

abbrev pub report_of : RequestedSetting → Value → AbstractAcceptedSet → AbstractReport
report_of requested asked put = record { setting = requested; asked = asked; given = put.given; info = put.info }

-- with these reports in front
abbrev pub with_reports_before : List AbstractReport → Option SettingsResult → Option SettingsResult
with_reports_before reports None = None
with_reports_before reports (Some f) = Some (record { options = f.options; reports = reports ++ f.reports })

abbrev pub put_then : (OptionsInForce → Option SettingsResult) → RequestedSetting → Value → Option AbstractAcceptedSet
    → Option SettingsResult
put_then more requested asked None = None
put_then more requested asked (Some put) = with_reports_before (report_of requested asked put ∷ []) (more put.options)

abbrev pub setting_then : (OptionsInForce → Option SettingsResult) → Make → OptionsInForce → RequestedSetting
    → Option (ℕ × Value) → Option SettingsResult
setting_then more make options requested None = None
setting_then more make options requested (Some (n, value)) =
    put_then more requested value (accept_value make options n value)

-- the settings from left to right, each by the descriptors in force
abbrev pub abstract_force : List RequestedSetting → Make → OptionsInForce → Option SettingsResult
abstract_force [] make options = Some (record { options = options; reports = [] })
abstract_force (requested ∷ left) make options =
    setting_then (abstract_force left make) make options requested
    (resolve_setting (descriptors_in_force make options) requested)

-- **settings in force (`abstract_in_force`, `AreAnswered`)**: what one set after another leaves from the defaults. Each
-- setting's report has what its text reads as, the nearest admitted value, and INEXACT just where they differ.
--
-- the settings of a job, from the default_options
abbrev pub abstract_in_force : Make → List RequestedSetting → Option SettingsResult
abstract_in_force make settings = abstract_force settings make (default_options make)

-- A report answers its setting: it has what the text reads as where these options are in force, the nearest admitted
-- value, and INEXACT just where the two differ.
pub record IsAnswered (make : Make) (options : OptionsInForce) (requested : RequestedSetting)
    (report : AbstractReport) : Type 0 where
  pub number : ℕ
  pub is_setting : report.setting ≡ requested
  pub asked : resolve_setting (descriptors_in_force make options) requested ≡ Some (number, report.asked)
  pub given : IsNearest make options number report.asked report.given
  pub inexact : (report.info.inexact ≡ true) ↔ (report.given ≢ report.asked)

-- one report a setting, in order
abbrev pub AreAnswered : Make → List RequestedSetting → List AbstractReport → Type 0
AreAnswered make [] [] = Unit {0}
AreAnswered make [] (report ∷ reports) = ⊥
AreAnswered make (requested ∷ requested_settings) [] = ⊥
AreAnswered make (requested ∷ requested_settings) (report ∷ reports) =
    ((options : OptionsInForce) × IsAnswered make options requested report)
    × AreAnswered make requested_settings reports

-- the values of these options
abbrev pub values_of : Make → OptionsInForce → List ℕ → List Value
values_of make options [] = []
values_of make options (n ∷ ns) = readable_value make options n ∷ values_of make options ns

-- all of these are told
abbrev pub AreReadable : Make → OptionsInForce → List ℕ → Type 0
AreReadable make options [] = Unit {0}
AreReadable make options (n ∷ ns) = (has_readable_value make options n ≡ true) × AreReadable make options ns
