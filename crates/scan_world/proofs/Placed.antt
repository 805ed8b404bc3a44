-- What the settings of a job were given is the same by the rules and by the devices.
use Rattle.std.proofs.Common.{◌≡◌, ◌∙◌, ℕ, List, [], ◌∷◌, Bool, true, false, refl, sym, ap, subst}
use Rattle.std.specs.Prelude.{Option, Some, None, option_map, option_and_then, Result, Ok, Err, slice_get, map, if◌then◌else◌}
use Rattle.sane_fixed.specs.DecimalReading.{◌>>=◌}
use Rattle.sane_fixed.specs.declared.info.Info.{Info as Bits}
use Rattle.sane_fixed.specs.declared.status.Status.{Status as Code}
use Rattle.option_desc.specs.declared.descriptor.Descriptor.{Descriptor}
use Rattle.option_desc.specs.declared.value.Value.{Value}
use Rattle.option_desc.specs.Put as put
use Rattle.option_desc.specs.Reads.{read_value}
use Rattle.scan_frames.specs.declared.setup.Setup.{Setup}
use Rattle.device_api.specs.InForce.{number_named, may_be_set, given_for, Placement, placement, IsPlacedBy}
use Rattle.device_api.specs.InForce as devices
use Rattle.device_api.specs.Options as table
use Rattle.device_api.specs.Values.{option_set, setup_after}
use Rattle.device_api.proofs.TableLaws.{set_places}
use Rattle.scan_laws.specs.SetAndJoin as rules
use Rattle.system_model.specs.AbstractMessages.{RequestedSetting, AbstractReport}
use Rattle.system_model.specs.Devices.{Make, abstract_accepted_set, default_options, descriptors_in_force, resolve_setting, accept_value}
use Rattle.system_model.specs.AbstractInForce.{SettingsResult, abstract_force, abstract_in_force, with_reports_before, put_then, setting_then, report_of}
use Rattle.system_model.specs.Settings.{pair_of}

-- the options of what is forced, and what each setting asked for and was given, by each
abbrev pub View : Type 0
View = Setup × List (Value × Value)

abbrev pub given_by : AbstractReport → Value × Value
given_by r = (r.asked, r.given)

abbrev pub given_at : Placement → Value × Value
given_at p = (p.asked, p.given)

abbrev pub view_in : Option SettingsResult → Option View
view_in f = option_map (λ x. (x.options, map given_by x.reports)) f

abbrev pub view_of : Option (Setup × List Placement) → Option View
view_of r = option_map (λ x. (x.0, map given_at x.1)) r

abbrev ahead : Value × Value → Option View → Option View
ahead v o = option_map (λ x. (x.0, v ∷ x.1)) o

onto_view : (r : AbstractReport) (f : Option SettingsResult) → view_in (with_reports_before (r ∷ []) f) ≡ ahead (r.asked, r.given) (view_in f)
onto_view r None = refl
onto_view r (Some f) = refl

more_view : (p : Placement) (r : Option (Setup × List Placement)) → view_of (option_map (λ more. (more.0, p ∷ more.1)) r) ≡ ahead (p.asked, p.given) (view_of r)
more_view p None = refl
more_view p (Some r) = refl

abbrev goes_on : List (List ℕ × List ℕ) → Option Placement → Option (Setup × List Placement)
goes_on settings p = option_and_then (λ first. option_map (λ more. (more.0, first ∷ more.1)) (devices.force first.setup settings)) p

-- a setting that is placed nowhere
abbrev pairs : Descriptor → Option Value → Option (Value × Value)
pairs desc r = r >>= (λ asked. put.resolve desc asked >>= (λ given. Some (asked, given)))

no_pair : (b : Bool) (desc : Descriptor) → (if b then pairs desc None else None) ≡ None
no_pair true desc = refl
no_pair false desc = refl

unread : (desc : Descriptor) (text : List ℕ) → read_value desc text ≡ None → given_for desc text ≡ None
unread desc text e = ap (λ (r : Option Value). if may_be_set desc then pairs desc r else None) e ∙ no_pair (may_be_set desc) desc

abbrev finishes : Setup → ℕ → Option (Value × Value) → Option Placement
finishes s n p = p >>= (λ pair. Some (record { setup = setup_after s n pair.1; asked = pair.0; given = pair.1 }))

abbrev at_desc : Setup → List ℕ → ℕ → Option Descriptor → Option Placement
at_desc s text n d = d >>= (λ desc. finishes s n (given_for desc text))

abbrev at_number : Setup → List ℕ → Option ℕ → Option Placement
at_number s text o = o >>= (λ n. at_desc s text n (slice_get (table.descriptors_of s) n))

placed_is : (s : Setup) (wish : RequestedSetting) → placement s (pair_of wish) ≡ at_number s wish.text (number_named wish.name (table.descriptors_of s))
unfolding placement
placed_is s wish = refl

-- each setting, by what it comes to
abbrev Same : Make → Setup → RequestedSetting → List RequestedSetting → Option (ℕ × Value) → Option Placement → Type 0
Same k s wish ws r p = view_in (setting_then (abstract_force ws k) k s wish r) ≡ view_of (goes_on (map pair_of ws) p)

put_same : (k : Make) (s : Setup) (wish : RequestedSetting) (ws : List RequestedSetting) (n : ℕ) (asked : Value) (r : Result (Value × Bits) Code) (p : Option Placement) → ((t : Setup) → view_in (abstract_force ws k t) ≡ view_of (devices.force t (map pair_of ws))) →
    IsPlacedBy s n asked r p → view_in (put_then (abstract_force ws k) wish asked (option_map abstract_accepted_set (rules.accepted_set_by s n r))) ≡ view_of (goes_on (map pair_of ws) p)
put_same k s wish ws n asked (Ok given) p h e =
    onto_view (report_of wish asked (abstract_accepted_set (record { given = given.0; info = given.1; setup = setup_after s n given.0 }))) (abstract_force ws k (setup_after s n given.0)) ∙ ap (ahead (asked, given.0)) (h (setup_after s n given.0))
    ∙ sym (ap (λ (x : Option Placement). view_of (goes_on (map pair_of ws) x)) e ∙ more_view (record { setup = setup_after s n given.0; asked = asked; given = given.0 }) (devices.force (setup_after s n given.0) (map pair_of ws)))
put_same k s wish ws n asked (Err status) p h e = sym (ap (λ (x : Option Placement). view_of (goes_on (map pair_of ws) x)) e)

value_same : (k : Make) (s : Setup) (wish : RequestedSetting) (ws : List RequestedSetting) (n : ℕ) (desc : Descriptor) (v : Option Value) → ((t : Setup) → view_in (abstract_force ws k t) ≡ view_of (devices.force t (map pair_of ws))) →
    number_named wish.name (table.descriptors_of s) ≡ Some n → slice_get (table.descriptors_of s) n ≡ Some desc → read_value desc wish.text ≡ v →
    Same k s wish ws (v >>= (λ asked. Some (n, asked))) (finishes s n (given_for desc wish.text))
unfolding accept_value rules.accept_set
value_same k s wish ws n desc None h e d r = sym (ap (λ (x : Option (Value × Value)). view_of (goes_on (map pair_of ws) (finishes s n x))) (unread desc wish.text r))
value_same k s wish ws n desc (Some asked) h e d r =
    let p = set_places s wish.name wish.text n desc asked e d r in
    let q : placement s (pair_of wish) ≡ finishes s n (given_for desc wish.text) = placed_is s wish ∙ ap (λ o. at_number s wish.text o) e ∙ ap (λ o. at_desc s wish.text n o) d in
    put_same k s wish ws n asked (option_set s n asked) (finishes s n (given_for desc wish.text)) h (subst (λ (x : Option Placement). IsPlacedBy s n asked (option_set s n asked) x) q p)

desc_same : (k : Make) (s : Setup) (wish : RequestedSetting) (ws : List RequestedSetting) (n : ℕ) (d : Option Descriptor) → ((t : Setup) → view_in (abstract_force ws k t) ≡ view_of (devices.force t (map pair_of ws))) →
    number_named wish.name (table.descriptors_of s) ≡ Some n → slice_get (table.descriptors_of s) n ≡ d →
    Same k s wish ws (d >>= (λ desc. read_value desc wish.text >>= (λ asked. Some (n, asked)))) (at_desc s wish.text n d)
desc_same k s wish ws n None h e d = refl
desc_same k s wish ws n (Some desc) h e d = value_same k s wish ws n desc (read_value desc wish.text) h e d refl

number_same : (k : Make) (s : Setup) (wish : RequestedSetting) (ws : List RequestedSetting) (o : Option ℕ) → ((t : Setup) → view_in (abstract_force ws k t) ≡ view_of (devices.force t (map pair_of ws))) → number_named wish.name (table.descriptors_of s) ≡ o →
    Same k s wish ws (o >>= (λ n. slice_get (table.descriptors_of s) n >>= (λ desc. read_value desc wish.text >>= (λ asked. Some (n, asked))))) (at_number s wish.text o)
number_same k s wish ws None h e = refl
number_same k s wish ws (Some n) h e = desc_same k s wish ws n (slice_get (table.descriptors_of s) n) h e refl

resolve_is : (k : Make) (s : Setup) (wish : RequestedSetting) →
    resolve_setting (descriptors_in_force k s) wish ≡ (number_named wish.name (table.descriptors_of s) >>= (λ n. slice_get (table.descriptors_of s) n >>= (λ desc. read_value desc wish.text >>= (λ asked. Some (n, asked)))))
unfolding resolve_setting descriptors_in_force
resolve_is k s wish = refl

all_same : (k : Make) (ws : List RequestedSetting) (s : Setup) → view_in (abstract_force ws k s) ≡ view_of (devices.force s (map pair_of ws))
all_same k [] s = refl
all_same k (wish ∷ ws) s =
    ap (λ r. view_in (setting_then (abstract_force ws k) k s wish r)) (resolve_is k s wish)
    ∙ number_same k s wish ws (number_named wish.name (table.descriptors_of s)) (λ t. all_same k ws t) refl
    ∙ sym (ap (λ (p : Option Placement). view_of (goes_on (map pair_of ws) p)) (placed_is s wish))

pub same_given : (k : Make) (ws : List RequestedSetting) → view_in (abstract_in_force k ws) ≡ view_of (devices.in_force k.model k.order (map pair_of ws))
unfolding default_options
same_given k ws = all_same k ws (default_options k)
