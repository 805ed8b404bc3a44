-- What a show tells at each number is each option's descriptor, with its value where that can be read.
use Rattle.std.specs.Prelude.{◌&&◌, not, map, option_map, slice_get, if◌then◌else◌, Result, Ok}
use Rattle.std.proofs.Common.{◌≡◌, ◌∙◌, ℕ, suc, List, [], ◌∷◌, Bool, true, false, Option, Some, None, refl, sym, ap}
use Rattle.std.proofs.lemmas.Option.{slice_get-map}
use Rattle.sane_fixed.specs.Cap.{has_cap}
use Rattle.sane_fixed.specs.declared.status.Status.{Status}
use Rattle.option_desc.specs.declared.descriptor.Descriptor.{Descriptor}
use Rattle.option_desc.specs.declared.value.Value.{Value}
use Rattle.scan_frames.specs.declared.setup.Setup.{Setup}
use Rattle.device_api.specs.declared.scan_option.ScanOption.{ScanOption}
use Rattle.device_api.specs.Options.{descriptor_of, descriptors_of, is_active, option_at, option_caps, options_of}
use Rattle.device_api.specs.Values.{get_result, option_got, option_passing, option_value}
use Rattle.device_api.proofs.OptionForms.{active_is, active_is_read}
use Rattle.system_model.specs.Devices.{is_readable, is_single, value_or_false}
use Rattle.scan_world.specs.Reports.{AreOptionsShown, told_option}

-- option n as it is told by its number
abbrev pub told_at : Setup → ℕ → Descriptor → Descriptor × Option Value
told_at setup n desc = (desc, if is_readable desc then Some (value_or_false (option_got setup n)) else None)

abbrev pub AreShownByNumber : Setup → List (Descriptor × Option Value) → Type 0
AreShownByNumber setup options = (n : ℕ) → slice_get options n ≡ option_map (told_at setup n) (slice_get (descriptors_of setup) n)

-- ---- one option

first_of : (a b : Bool) → (a && b) ≡ true → a ≡ true
first_of true b e = refl
first_of false b e = e

second_of : (a b : Bool) → (a && b) ≡ true → b ≡ true
second_of true b e = e
second_of false b e = absurd (let clash : false ≡ true = e in cc)

active_of : (s : Setup) (o : ScanOption) → is_readable (descriptor_of s o) ≡ true → is_active s o ≡ true
active_of s o e =
    let d = descriptor_of s o in
    let rest = second_of (has_cap d.caps.0 4) (not (has_cap d.caps.0 32) && is_single d.kind d.size) e in
    sym (active_is s o) ∙ first_of (not (has_cap d.caps.0 32)) (is_single d.kind d.size) rest

got_by : (s : Setup) (o : ScanOption) (b : Bool) → b ≡ true → get_result s (if b then Some o else None) ≡ Ok (option_value s o)
got_by s o true e = refl
got_by s o false e = absurd (let clash : false ≡ true = e in cc)

value_there : (s : Setup) (n : ℕ) (o : ScanOption) → slice_get (options_of s.scene.kind) n ≡ Some o → is_readable (descriptor_of s o) ≡ true → value_or_false (option_got s n) ≡ option_value s o
unfolding option_at option_got
value_there s n o at e =
    ap (λ (r : Result Value Status). value_or_false r)
    (ap (λ (x : Option ScanOption). get_result s (option_passing (λ (y : ScanOption). is_active s y && has_cap (option_caps y) 4) x)) at
    ∙ got_by s o (is_active s o && has_cap (option_caps o) 4) (active_is_read s o (active_of s o e)))

told_if : (s : Setup) (n : ℕ) (o : ScanOption) (b : Bool) → slice_get (options_of s.scene.kind) n ≡ Some o → is_readable (descriptor_of s o) ≡ b → (if b then Some (value_or_false (option_got s n)) else None) ≡ (if b then Some (option_value s o) else None)
told_if s n o true at e = ap (λ (v : Value). Some v) (value_there s n o at e)
told_if s n o false at e = refl

told_there : (s : Setup) (n : ℕ) (oo : Option ScanOption) → slice_get (options_of s.scene.kind) n ≡ oo → option_map (told_at s n) (option_map (descriptor_of s) oo) ≡ option_map (told_option s) oo
told_there s n None at = refl
told_there s n (Some o) at = ap (λ (v : Option Value). Some (descriptor_of s o, v)) (told_if s n o (is_readable (descriptor_of s o)) at refl)

-- ---- all of them

same_list : {A : Type 0} (xs ys : List A) → ((n : ℕ) → slice_get xs n ≡ slice_get ys n) → xs ≡ ys
same_list [] [] each = refl
same_list [] (y ∷ ys) each = absurd (let clash : None ≡ Some y = each 0 in cc)
same_list (x ∷ xs) [] each = absurd (let clash : Some x ≡ None = each 0 in cc)
same_list {A = A} (x ∷ xs) (y ∷ ys) each =
    let first : x ≡ y = (let both : Some x ≡ Some y = each 0 in cc) in
    ap (λ (z : A). z ∷ xs) first ∙ ap (λ (zs : List A). y ∷ zs) (same_list xs ys (λ n. each (suc n)))

pub all_shown : (s : Setup) (options : List (Descriptor × Option Value)) → AreShownByNumber s options → AreOptionsShown s options
all_shown s options each =
    let os = options_of s.scene.kind in
    same_list options (map (told_option s) os) (λ n.
    each n ∙ (ap (option_map (told_at s n)) (slice_get-map (descriptor_of s) os n) ∙ (told_there s n (slice_get os n) refl ∙ sym (slice_get-map (told_option s) os n))))
