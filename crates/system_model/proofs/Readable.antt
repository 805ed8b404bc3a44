-- THE OPTIONS WHOSE VALUES A CLIENT ASKS: they are told, and they are few.
use Rattle.std.proofs.Common.{arith, ◌≤◌, ◌≡◌, ◌∙◌, ℕ, suc, ◌+◌, List, [], ◌∷◌, ◌++◌, Bool, true, false, refl, sym, ap, subst, length, length-append, append_assoc}
use Rattle.std.specs.Prelude.{Option, Some, None, ◌&&◌, not, if◌then◌else◌, slice_get, map}
use Rattle.std.proofs.lemmas.List.{length-map}
use Rattle.option_desc.specs.declared.descriptor.Descriptor.{Descriptor}
use Rattle.page_picture.specs.declared.scene.DeviceKind.{DeviceKind}
use Rattle.scan_frames.specs.declared.setup.Setup.{Setup}
use Rattle.device_api.specs.declared.scan_option.ScanOption.{ScanOption}
use Rattle.device_api.proofs.OptionForms.{active_is, active_is_read}
use Rattle.device_api.proofs.KindLaws.{options_few}
use Rattle.device_api.specs.Options.{options_of, option_at, option_caps, is_active, descriptor_of}
use Rattle.sane_fixed.specs.Cap.{has_cap}
use Rattle.device_api.specs.Values.{option_got, get_result, option_passing}
use Rattle.system_model.specs.Devices.{Make, OptionsInForce, descriptors_in_force, is_readable, is_single, readable_from, readable_options, is_answered_value, has_readable_value}
use Rattle.system_model.specs.AbstractInForce.{AreReadable}

at_front : (front os : List ScanOption) (o : ScanOption) → slice_get (front ++ o ∷ os) (length front) ≡ Some o
at_front [] os o = refl
at_front (x ∷ front) os o = at_front front os o

and_middle : (a b c : Bool) → (a && (b && c)) ≡ true → b ≡ true
and_middle true true c e = refl
and_middle true false c e = absurd (let clash : false ≡ true = e in cc)
and_middle false b c e = absurd (let clash : false ≡ true = e in cc)

may_be_got : (s : Setup) (o : ScanOption) → is_readable (descriptor_of s o) ≡ true → (is_active s o && has_cap (option_caps o) 4) ≡ true
may_be_got s o e =
    active_is_read s o (sym (active_is s o) ∙ and_middle (has_cap (descriptor_of s o).caps.0 4) (not (has_cap (descriptor_of s o).caps.0 32)) (is_single (descriptor_of s o).kind (descriptor_of s o).size) e)

passes : (s : Setup) (o : ScanOption) (oo : Option ScanOption) (b : Bool) → oo ≡ Some o → (is_active s o && has_cap (option_caps o) 4) ≡ b → b ≡ true → is_answered_value (get_result s (option_passing (λ x. is_active s x && has_cap (option_caps x) 4) oo)) ≡ true
passes s o None b e f t = cc
passes s o (Some x) b e f t =
    let y : x ≡ o = cc in
    let z : (is_active s x && has_cap (option_caps x) 4) ≡ true = ap (λ (w : ScanOption). is_active s w && has_cap (option_caps w) 4) y ∙ f ∙ t in
    ap (λ (c : Bool). is_answered_value (get_result s (if c then Some x else None))) z

is_told_at : (k : Make) (s : Setup) (n : ℕ) (o : ScanOption) → option_at s.scene.kind n ≡ Some o → is_readable (descriptor_of s o) ≡ true → has_readable_value k s n ≡ true
unfolding has_readable_value option_got
is_told_at k s n o e r = passes s o (option_at s.scene.kind n) _ e refl (may_be_got s o r)

told_if : (k : Make) (s : Setup) (n : ℕ) (o : ScanOption) (rest : List ℕ) (b : Bool) → is_readable (descriptor_of s o) ≡ b → option_at s.scene.kind n ≡ Some o → AreReadable k s rest → AreReadable k s (if b then n ∷ rest else rest)
told_if k s n o rest true r e h = (is_told_at k s n o e r, h)
told_if k s n o rest false r e h = h

at_place : (s : Setup) (front os : List ScanOption) (o : ScanOption) → front ++ o ∷ os ≡ options_of s.scene.kind → option_at s.scene.kind (length front) ≡ Some o
unfolding option_at
at_place s front os o e = ap (λ (xs : List ScanOption). slice_get xs (length front)) (sym e) ∙ at_front front os o

told_from : (k : Make) (s : Setup) (front os : List ScanOption) → front ++ os ≡ options_of s.scene.kind → AreReadable k s (readable_from (length front) (map (descriptor_of s) os))
told_from k s front [] e = tt
told_from k s front (o ∷ os) e =
    let n : length (front ++ o ∷ []) ≡ length front + 1 = length-append front (o ∷ []) in
    let rest = subst (λ (x : ℕ). AreReadable k s (readable_from x (map (descriptor_of s) os))) n (told_from k s (front ++ o ∷ []) os (append_assoc front (o ∷ []) os ∙ e)) in
    told_if k s (length front) o (readable_from (length front + 1) (map (descriptor_of s) os)) (is_readable (descriptor_of s o)) refl (at_place s front os o e) rest

-- what a client asks the value of is told
pub told : (k : Make) (o : OptionsInForce) → AreReadable k o (readable_options (descriptors_in_force k o))
unfolding descriptors_in_force readable_options
told k o = told_from k o [] (options_of o.scene.kind) refl

few_if : (n : ℕ) (rest : List ℕ) (b : Bool) (most : ℕ) → length rest ≤ most → length (if b then n ∷ rest else rest) ≤ suc most
few_if n rest true most h = omega arith
few_if n rest false most h = omega arith

few_from : (n : ℕ) (ds : List Descriptor) → length (readable_from n ds) ≤ length ds
few_from n [] = omega arith
few_from n (d ∷ ds) = few_if n (readable_from (n + 1) ds) (is_readable d) (length ds) (few_from (n + 1) ds)

few_options : (s : Setup) (kind : DeviceKind) → length (map (descriptor_of s) (options_of kind)) ≤ 32
few_options s kind = rw length-map (options_few kind)

-- and there are few such options
pub few : (k : Make) (o : OptionsInForce) → length (readable_options (descriptors_in_force k o)) ≤ 32
unfolding descriptors_in_force readable_options
few k o =
    let a = few_from 0 (map (descriptor_of o) (options_of o.scene.kind)) in
    let b = few_options o o.scene.kind in
    omega arith
