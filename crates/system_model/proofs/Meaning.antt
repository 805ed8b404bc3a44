-- THE FRAMES OF A FINISHED PAGE SHOW WHAT ITS SETTINGS MEAN.
use Rattle.std.proofs.Common.{◌≡◌, ◌≢◌, ℕ, List, [], ◌∷◌, Bool, true, false, refl, sym, subst}
use Rattle.std.specs.Prelude.{Option, Some, None, if◌then◌else◌}
use Rattle.netpbm.specs.Picture.{Picture}
use Rattle.option_desc.specs.declared.value.Value.{Value}
use Rattle.page_picture.specs.Page.{PageView, IsPageView}
use Rattle.page_picture.specs.Meaning.{meaning_of}
use Rattle.page_picture.specs.Shows.{Frame, ShowsFrames}
use Rattle.scan_frames.specs.Frames.{has_picture}
use Rattle.scan_frames.specs.Frames as scan
use Rattle.scan_frames.specs.declared.setup.Setup.{Setup}
use Rattle.device_api.specs.ScannerLimits as limits
use Rattle.scan_laws.specs.SetAndJoin as rules
use Rattle.scan_laws.proofs.Meant.{means_and_shows}
use Rattle.system_model.specs.AbstractMessages.{RequestedSetting, AbstractReport}
use Rattle.system_model.specs.Devices.{Make, OptionsInForce, AbstractAcceptedSet, AreOptionsAllowed, default_options, descriptors_in_force, resolve_setting, accept_value, picture_frames}
use Rattle.system_model.specs.AbstractInForce.{SettingsResult, abstract_force, with_reports_before, put_then, setting_then, report_of, abstract_in_force}
use Rattle.system_model.specs.Meant.{PicturesAreMeant}
use Rattle.system_model.proofs.Laws.{defaults_allowed, put_allowed}

-- options in force are within their limits
abbrev AllowedIn : Make → Option SettingsResult → Type 0
AllowedIn k None = Unit {0}
AllowedIn k (Some f) = AreOptionsAllowed k f.options

onto_allowed : (k : Make) (rs : List AbstractReport) (f : Option SettingsResult) → AllowedIn k f → AllowedIn k (with_reports_before rs f)
onto_allowed k rs None a = tt
onto_allowed k rs (Some f) a = a

put_in_allowed : (k : Make) (o : OptionsInForce) (requested : RequestedSetting) (ws : List RequestedSetting) (n : ℕ) (asked : Value) (put : Option AbstractAcceptedSet) → accept_value k o n asked ≡ put → AreOptionsAllowed k o →
    ((t : OptionsInForce) → AreOptionsAllowed k t → AllowedIn k (abstract_force ws k t)) → AllowedIn k (put_then (abstract_force ws k) requested asked put)
put_in_allowed k o requested ws n asked None e a h = tt
put_in_allowed k o requested ws n asked (Some put) e a h = onto_allowed k (report_of requested asked put ∷ []) (abstract_force ws k put.options) (h put.options (put_allowed k o n asked put a e))

wish_allowed : (k : Make) (o : OptionsInForce) (requested : RequestedSetting) (ws : List RequestedSetting) (r : Option (ℕ × Value)) → AreOptionsAllowed k o → ((t : OptionsInForce) → AreOptionsAllowed k t → AllowedIn k (abstract_force ws k t)) → AllowedIn k (setting_then (abstract_force ws k) k o requested r)
wish_allowed k o requested ws None a h = tt
wish_allowed k o requested ws (Some (n, asked)) a h = put_in_allowed k o requested ws n asked (accept_value k o n asked) refl a h

all_allowed : (k : Make) (ws : List RequestedSetting) (o : OptionsInForce) → AreOptionsAllowed k o → AllowedIn k (abstract_force ws k o)
all_allowed k [] o a = a
all_allowed k (requested ∷ ws) o a = wish_allowed k o requested ws (resolve_setting (descriptors_in_force k o) requested) a (λ t b. all_allowed k ws t b)

forced_allowed : (k : Make) (ws : List RequestedSetting) (o : OptionsInForce) (rs : List AbstractReport) → abstract_in_force k ws ≡ Some (record { options = o; reports = rs }) → AreOptionsAllowed k o
forced_allowed k ws o rs e = subst (λ (f : Option SettingsResult). AllowedIn k f) e (all_allowed k ws (default_options k) (defaults_allowed k))

shown : (s : Setup) (page_view : PageView) (frames : List Frame) (b : Bool) → has_picture s page_view ≡ b → frames ≡ (if b then scan.frames_of s page_view else []) → frames ≢ [] → limits.IsAllowed s → IsPageView page_view →
    (p : Picture) × (meaning_of page_view s.scene ≡ Some p) × ShowsFrames frames p
shown s page_view frames false e f n a is = absurd (n f)
shown s page_view frames true e f n a is = let m = means_and_shows s page_view a is e in (m.0, m.1, subst (λ (fs : List Frame). ShowsFrames fs m.0) (sym f) m.2)

pub pictures_meant : PicturesAreMeant
unfolding picture_frames AreOptionsAllowed rules.frames_given
pictures_meant k settings begin frames h steady is =
    shown begin.options begin.page frames (has_picture begin.options begin.page) refl (h.1 steady) h.2 (forced_allowed k settings begin.options h.0.0 h.0.1) is
