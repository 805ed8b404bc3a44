-- The reports of a job that is done.
use Rattle.std.specs.Prelude.{map, ◌↔◌}
use Rattle.std.proofs.Common.{◌≡◌, ◌∙◌, ◌≢◌, ℕ, List, [], ◌∷◌, Bool, true, Option, Some, None, refl, sym, ap, subst}
use Rattle.option_desc.specs.declared.value.Value.{Value}
use Rattle.scan_frames.specs.declared.setup.Setup.{Setup}
use Rattle.device_api.specs.State.{DeviceState}
use Rattle.device_api.specs.InForce.{Placement}
use Rattle.device_api.specs.InForce as devices
use Rattle.device_api.specs.Values.{defaults}
use Rattle.scan_laws.proofs.NearestSet.{force_nearest}
use Rattle.scan_job.specs.declared.job.Job.{Job}
use Rattle.scan_job.specs.declared.report.Report.{Report}
use Rattle.client_refines.specs.ClientRefinement.{CommonReport, common_abstract_report, common_report, requested_setting}
use Rattle.system_model.specs.AbstractMessages as words
use Rattle.system_model.specs.Devices.{Make, OptionsInForce}
use Rattle.system_model.specs.AbstractInForce as ruled
use Rattle.world_refines.specs.NewWorlds.{make_of, PageSources}
use Rattle.scan_world.specs.Reports.{AreSettingsReported, IsSettingReported}
use Rattle.scan_world.specs.Settings.{AreSettingsPut}
use Rattle.scan_world.proofs.Settings.{all_put}
use Rattle.scan_world.proofs.Placed.{View, given_at, given_by, same_given, view_in, view_of}
use Rattle.scan_world.proofs.Along.{same_pairs}

first_is : {X : Type 0} (x y : X) (xs ys : List X) → x ∷ xs ≡ y ∷ ys → x ≡ y
first_is x y xs ys e = cc

rest_is : {X : Type 0} (x y : X) (xs ys : List X) → x ∷ xs ≡ y ∷ ys → xs ≡ ys
rest_is x y xs ys e = cc

abbrev Tells : Bool → Value → Value → Type 0
Tells b given asked = (b ≡ true) ↔ (given ≢ asked)

reported : (k : Make) (options : OptionsInForce) (setting : List ℕ × List ℕ) (p : Placement) (r : words.AbstractReport) (q : Report) → given_at p ≡ given_by r → common_abstract_report r ≡ common_report q → ruled.IsAnswered k options (requested_setting setting) r → IsSettingReported setting p q
reported k options setting p r q e f a = record {
  name = sym (ap (λ (x : CommonReport). x.name) f) ∙ ap (λ (w : words.RequestedSetting). w.name) a.is_setting;
  asked = sym (ap (λ (x : CommonReport). x.asked) f) ∙ sym (ap (λ (v : Value × Value). v.0) e);
  given = sym (ap (λ (x : CommonReport). x.given) f) ∙ sym (ap (λ (v : Value × Value). v.1) e);
  inexact = subst (λ (x : CommonReport). Tells x.info.inexact x.given x.asked) f a.inexact;
}

all_reported : (k : Make) (settings : List (List ℕ × List ℕ)) (ps : List Placement) (rs : List words.AbstractReport) (qs : List Report) → map given_at ps ≡ map given_by rs → map common_abstract_report rs ≡ map common_report qs → ruled.AreAnswered k (map requested_setting settings) rs → AreSettingsReported settings ps qs
all_reported k [] [] [] [] e f a = tt
all_reported k [] [] [] (q ∷ qs) e f a = absurd (let clash : [] ≡ common_report q ∷ map common_report qs = f in cc)
all_reported k [] (p ∷ ps) [] qs e f a = absurd (let clash : given_at p ∷ map given_at ps ≡ [] = e in cc)
all_reported k [] ps (r ∷ rs) qs e f a = absurd a
all_reported k (s ∷ ss) ps [] qs e f a = absurd a
all_reported k (s ∷ ss) [] (r ∷ rs) qs e f a = absurd (let clash : [] ≡ given_by r ∷ map given_by rs = e in cc)
all_reported k (s ∷ ss) (p ∷ ps) (r ∷ rs) [] e f a = absurd (let clash : common_abstract_report r ∷ map common_abstract_report rs ≡ [] = f in cc)
all_reported k (s ∷ ss) (p ∷ ps) (r ∷ rs) (q ∷ qs) e f a = (
  reported k a.0.0 s p r q (first_is (given_at p) (given_by r) (map given_at ps) (map given_by rs) e) (first_is (common_abstract_report r) (common_report q) (map common_abstract_report rs) (map common_report qs) f) a.0.1,
  all_reported k ss ps rs qs (rest_is (given_at p) (given_by r) (map given_at ps) (map given_by rs) e) (rest_is (common_abstract_report r) (common_report q) (map common_abstract_report rs) (map common_report qs) f) a.1,
)

viewed : (r : Option (Setup × List Placement)) (o : Setup) (given : List (Value × Value)) → Some (o, given) ≡ view_of r → (x : Setup × List Placement) × (r ≡ Some x) × (map given_at x.1 ≡ given)
viewed None o given e = absurd (let clash : Some (o, given) ≡ None = e in cc)
viewed (Some x) o given e = let both : Some (o, given) ≡ Some (x.0, map given_at x.1) = e in let same : (o, given) ≡ (x.0, map given_at x.1) = cc in (x, refl, sym (ap (λ (v : View). v.1) same))

pub answered : (b : PageSources) (device : DeviceState) (job : Job) (options : OptionsInForce) (rs : List words.AbstractReport) (qs : List Report) → ruled.abstract_in_force (make_of b (Some device)) (map requested_setting job.settings.items) ≡ Some (record { options = options; reports = rs }) → map common_abstract_report rs ≡ map common_report qs →
    ruled.AreAnswered (make_of b (Some device)) (map requested_setting job.settings.items) rs → (r : Setup × List Placement) × AreSettingsPut (defaults device.setup.scene.kind device.setup.order) job.settings.items r.1 r.0 × AreSettingsReported job.settings.items r.1 qs
answered b device job options rs qs forced are a =
    let k = make_of b (Some device) in
    let settings = job.settings.items in
    let same : Some (options, map given_by rs) ≡ view_of (devices.in_force k.model k.order settings) =
    ap view_in (sym forced) ∙ same_given k (map requested_setting settings) ∙ ap (λ (x : List (List ℕ × List ℕ)). view_of (devices.in_force k.model k.order x)) (same_pairs settings) in
    let v = viewed (devices.in_force k.model k.order settings) options (map given_by rs) same in
    (v.0, all_put settings (defaults k.model k.order) v.0.1 v.0.0 (force_nearest settings (defaults k.model k.order) v.0 v.1), all_reported k settings v.0.1 rs qs v.2 are a)
