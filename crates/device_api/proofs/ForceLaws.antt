-- The settings in force stay within the limits.
use Rattle.std.proofs.Common.{◌≡◌, ◌&&◌, ◌∙◌, sym, ap, subst, refl, ℕ, Bool, true, false, cond, List, [], ◌∷◌}
use Rattle.std.specs.Prelude.{Option, Some, None, option_map, option_and_then, slice_get}
use Rattle.std.proofs.lemmas.Option.{slice_get-map}
use Rattle.sane_fixed.specs.DecimalReading.{◌>>=◌}
use Rattle.option_desc.specs.declared.descriptor.Descriptor.{Descriptor}
use Rattle.option_desc.specs.declared.value.Value.{Value}
use Rattle.option_desc.specs.Put.{resolve}
use Rattle.option_desc.specs.Reads.{read_value}
use Rattle.scan_frames.specs.declared.setup.Setup.{Setup}
use Rattle.device_api.specs.declared.scan_option.ScanOption.{ScanOption}
use Rattle.device_api.specs.Options.{options_of, option_at, option_caps, is_active, descriptor_of, descriptors_of}
use Rattle.sane_fixed.specs.Cap.{has_cap}
use Rattle.device_api.specs.Values.{with_given, option_passing, setup_after}
use Rattle.device_api.specs.InForce.{number_named, may_be_set, given_for, Placement, placement, force}
use Rattle.device_api.specs.ScannerLimits.{IsAllowed}
use Rattle.device_api.proofs.AdmittedLaws.{admitted}
use Rattle.device_api.proofs.AllowedLaws.{value_allowed}
use Rattle.device_api.proofs.TableLaws.{finished}

given_allowed : (s : Setup) (o : Option ScanOption) (desc : Descriptor) (asked given : Value) (b : Bool) → option_map (descriptor_of s) o ≡ Some desc → resolve desc asked ≡ Some given → IsAllowed s → IsAllowed (with_given s (option_passing (λ o. is_active s o && has_cap (option_caps o) 1) o) given)
given_allowed s None desc asked given b d r a = a
given_allowed s (Some o) desc asked given b d r a = pick (is_active s o && has_cap (option_caps o) 1)
  where
    pick : (b : Bool) → IsAllowed (with_given s (cond b (Some o) None) given)
    pick false = a
    pick true =
        let same : desc ≡ descriptor_of s o = (let e : Some (descriptor_of s o) ≡ Some desc = d in (cc)) in
        value_allowed s o given a (admitted s o asked given (subst (λ (x : Descriptor). resolve x asked ≡ Some given) same r))

after_allowed : (s : Setup) (n : ℕ) (desc : Descriptor) (asked given : Value) → slice_get (descriptors_of s) n ≡ Some desc → resolve desc asked ≡ Some given → IsAllowed s → IsAllowed (setup_after s n given)
unfolding setup_after option_at
after_allowed s n desc asked given f r a =
    given_allowed s (option_at s.scene.kind n) desc asked given true (sym (slice_get-map (descriptor_of s) (options_of s.scene.kind) n) ∙ f) r a

-- what was given is near to what was asked
near_pair : (desc : Descriptor) (asked : Value) (r : Option Value) (pair : Value × Value) → resolve desc asked ≡ r → (r >>= (λ given. Some (asked, given))) ≡ Some pair → resolve desc pair.0 ≡ Some pair.1
near_pair desc asked None pair e f = absurd (let none : None ≡ Some pair = f in (cc))
near_pair desc asked (Some given) pair e f =
    let same : Some (asked, given) ≡ Some pair = f in
    let whole : pair ≡ (asked, given) = (cc) in
    subst (λ (p : Value × Value). resolve desc p.0 ≡ Some p.1) (sym whole) e

read_pair : (desc : Descriptor) (r : Option Value) (pair : Value × Value) → (r >>= (λ asked. resolve desc asked >>= (λ given. Some (asked, given)))) ≡ Some pair → resolve desc pair.0 ≡ Some pair.1
read_pair desc None pair f = absurd (let none : None ≡ Some pair = f in (cc))
read_pair desc (Some asked) pair f = near_pair desc asked (resolve desc asked) pair refl f

given_pair : (desc : Descriptor) (text : List ℕ) (b : Bool) (pair : Value × Value) → cond b (read_value desc text >>= (λ asked. resolve desc asked >>= (λ given. Some (asked, given)))) None ≡ Some pair → resolve desc pair.0 ≡ Some pair.1
given_pair desc text true pair f = read_pair desc (read_value desc text) pair f
given_pair desc text false pair f = absurd (let none : None ≡ Some pair = f in (cc))

at_pair : (s : Setup) (n : ℕ) (desc : Descriptor) (text : List ℕ) (o : Option (Value × Value)) (p : Placement) → given_for desc text ≡ o → slice_get (descriptors_of s) n ≡ Some desc → (o >>= finished s n) ≡ Some p → IsAllowed s → IsAllowed p.setup
at_pair s n desc text None p g f e a = absurd (let none : None ≡ Some p = e in (cc))
at_pair s n desc text (Some pair) p g f e a =
    let near : resolve desc pair.0 ≡ Some pair.1 = given_pair desc text (may_be_set desc) pair g in
    let same : Some (record { setup = setup_after s n pair.1; asked = pair.0; given = pair.1 }) ≡ Some p = e in
    subst (λ (x : Setup). IsAllowed x) (ap (setup_in s) same) (after_allowed s n desc pair.0 pair.1 f near a)
  where
    setup_in : Setup → Option Placement → Setup
    setup_in s None = s
    setup_in s (Some p) = p.setup

at_desc : (s : Setup) (n : ℕ) (text : List ℕ) (o : Option Descriptor) (p : Placement) → slice_get (descriptors_of s) n ≡ o → (o >>= (λ desc. given_for desc text >>= finished s n)) ≡ Some p → IsAllowed s → IsAllowed p.setup
at_desc s n text None p f e a = absurd (let none : None ≡ Some p = e in (cc))
at_desc s n text (Some desc) p f e a = at_pair s n desc text (given_for desc text) p refl f e a

at_number : (s : Setup) (text : List ℕ) (o : Option ℕ) (p : Placement) → (o >>= (λ n. slice_get (descriptors_of s) n >>= (λ desc. given_for desc text >>= finished s n))) ≡ Some p → IsAllowed s → IsAllowed p.setup
at_number s text None p e a = absurd (let none : None ≡ Some p = e in (cc))
at_number s text (Some n) p e a = at_desc s n text (slice_get (descriptors_of s) n) p refl e a

placed_allowed : (s : Setup) (setting : List ℕ × List ℕ) (p : Placement) → placement s setting ≡ Some p → IsAllowed s → IsAllowed p.setup
unfolding placement
placed_allowed s setting p e a = at_number s setting.1 (number_named setting.0 (descriptors_of s)) p e a

rest_allowed : (first : Placement) (o : Option (Setup × List Placement)) (r : Setup × List Placement) → ((m : Setup × List Placement) → o ≡ Some m → IsAllowed m.0) → option_map (λ more. (more.0, first ∷ more.1)) o ≡ Some r → IsAllowed r.0
rest_allowed first None r all e = absurd (let none : None ≡ Some r = e in (cc))
rest_allowed first (Some m) r all e = subst (λ (x : Setup). IsAllowed x) (ap (setup_in m.0) e) (all m refl)
  where
    setup_in : Setup → Option (Setup × List Placement) → Setup
    setup_in s None = s
    setup_in s (Some r) = r.0

pub force_allowed : (settings : List (List ℕ × List ℕ)) (s : Setup) (r : Setup × List Placement) → force s settings ≡ Some r → IsAllowed s → IsAllowed r.0
force_allowed [] s r e a = subst (λ (x : Setup). IsAllowed x) (ap (setup_in s) e) a
  where
    setup_in : Setup → Option (Setup × List Placement) → Setup
    setup_in s None = s
    setup_in s (Some r) = r.0
force_allowed (setting ∷ settings) s r e a =
    first_allowed s setting (placement s setting) (λ p m f b. force_allowed settings p.setup m f b) refl r e a
  where
    first_allowed : (s : Setup) (setting : List ℕ × List ℕ) (o : Option Placement) → ((p : Placement) (m : Setup × List Placement) → force p.setup settings ≡ Some m → IsAllowed p.setup → IsAllowed m.0) → placement s setting ≡ o → (r : Setup × List Placement) → option_and_then (λ first. option_map (λ more. (more.0, first ∷ more.1)) (force first.setup settings)) o ≡ Some r → IsAllowed s → IsAllowed r.0
    first_allowed s setting None all at r e a = absurd (let none : None ≡ Some r = e in (cc))
    first_allowed s setting (Some p) all at r e a = rest_allowed p (force p.setup settings) r (λ m f. all p m f (placed_allowed s setting p at a)) e
