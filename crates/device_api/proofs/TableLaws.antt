-- The descriptors of a setup differ just in which of them are active.
use Rattle.std.proofs.Common.{◌≡◌, ◌+◌, ◌&&◌, ◌||◌, ◌∙◌, sym, ap, subst, refl, ℕ, Bool, true, false, cond, List, [], ◌∷◌, map, arith}
use Rattle.std.specs.Prelude.{Option, Some, None, Err, if◌then◌else◌, slice_get, option_map, Result}
use Rattle.std.specs.Prelude.{◌↔◌}
use Rattle.std.specs.List.{list_any}
use Rattle.std.proofs.lemmas.Bool.{false≢true}
use Rattle.std.proofs.lemmas.Option.{slice_get-map}
use Rattle.sane_fixed.specs.DecimalReading.{◌>>=◌}
use Rattle.sane_fixed.specs.declared.info.Info.{Info}
use Rattle.sane_fixed.specs.declared.status.Status.{Status}
use Rattle.sane_fixed.specs.declared.status.Status.TheVariants.{Inval}
use Rattle.constraint.proofs.ListLaws.{head_is, rest_is}
use Rattle.option_desc.specs.declared.descriptor.Descriptor.{Descriptor}
use Rattle.option_desc.specs.declared.value.Value.{Value}
use Rattle.option_desc.specs.Put.{resolve}
use Rattle.option_desc.specs.Reads.{read_value}
use Rattle.page_picture.specs.declared.scene.DeviceKind.{DeviceKind}
use Rattle.scan_frames.specs.declared.setup.Setup.{Setup}
use Rattle.device_api.specs.declared.scan_option.ScanOption.{ScanOption}
use Rattle.device_api.specs.Options.{options_of, option_at, option_name, option_title, option_kind, option_unit, option_size, option_caps, option_constraint, is_active, descriptor_of, descriptors_of}
use Rattle.sane_fixed.specs.Cap.{has_cap}
use Rattle.device_api.specs.Values.{differ, reloads, option_passing, option_set, set_to, put_answer, setup_after}
use Rattle.device_api.specs.InForce.{number_named, given_for, Placement, placement, IsPlacedBy}
use Rattle.device_api.proofs.OptionForms.{may_be_set_is}

-- a descriptor, by whether it is active
abbrev desc_as : DeviceKind → Bool → ScanOption → Descriptor
desc_as k active o = record {
  name = option_name o;
  title = option_title o;
  about = option_title o;
  kind = option_kind o;
  unit = option_unit o;
  size = option_size o;
  caps = record { 0 = option_caps o + (if active then 0 else 32) };
  constraint = option_constraint k o;
}

desc_is : (s : Setup) (o : ScanOption) → descriptor_of s o ≡ desc_as s.scene.kind (is_active s o) o
unfolding descriptor_of
desc_is s o = refl

same_bool : (a b : Bool) → differ a b ≡ false → a ≡ b
same_bool true true e = refl
same_bool true false e = absurd (false≢true (sym e))
same_bool false true e = absurd (false≢true (sym e))
same_bool false false e = refl

not_apart : (a b : Bool) → a ≡ b → differ a b ≡ false
not_apart true true e = refl
not_apart true false e = absurd (false≢true (sym e))
not_apart false true e = absurd (false≢true e)
not_apart false false e = refl

caps_tell : (n : ℕ) (a b : Bool) → n + (if a then 0 else 32) ≡ n + (if b then 0 else 32) → a ≡ b
caps_tell n true true e = refl
caps_tell n true false e = absurd (omega arith)
caps_tell n false true e = absurd (omega arith)
caps_tell n false false e = refl

same_desc : (s t : Setup) (o : ScanOption) → t.scene.kind ≡ s.scene.kind → differ (is_active s o) (is_active t o) ≡ false → descriptor_of s o ≡ descriptor_of t o
same_desc s t o k e =
    desc_is s o ∙ ap (λ a. desc_as s.scene.kind a o) (same_bool (is_active s o) (is_active t o) e) ∙ ap (λ kind. desc_as kind (is_active t o) o) (sym k) ∙ sym (desc_is t o)

desc_tells : (s t : Setup) (o : ScanOption) → descriptor_of s o ≡ descriptor_of t o → differ (is_active s o) (is_active t o) ≡ false
desc_tells s t o e =
    let both : desc_as s.scene.kind (is_active s o) o ≡ desc_as t.scene.kind (is_active t o) o = sym (desc_is s o) ∙ e ∙ desc_is t o in
    not_apart (is_active s o) (is_active t o) (caps_tell (option_caps o) (is_active s o) (is_active t o) (ap (λ (d : Descriptor). d.caps.0) both))

none_of : (a b : Bool) → (a || b) ≡ false → a ≡ false
none_of true b e = absurd (false≢true (sym e))
none_of false b e = refl

nor_of : (a b : Bool) → (a || b) ≡ false → b ≡ false
nor_of true b e = absurd (false≢true (sym e))
nor_of false b e = e

neither : (a b : Bool) → a ≡ false → b ≡ false → (a || b) ≡ false
neither true b e f = absurd (false≢true (sym e))
neither false b e f = f

same_all : (s t : Setup) (os : List ScanOption) → t.scene.kind ≡ s.scene.kind → list_any (λ o. differ (is_active s o) (is_active t o)) os ≡ false → map (descriptor_of s) os ≡ map (descriptor_of t) os
same_all s t [] k e = refl
same_all s t (o ∷ os) k e =
    let rest : Bool = list_any (λ o. differ (is_active s o) (is_active t o)) os in
    ap (λ d. d ∷ map (descriptor_of s) os) (same_desc s t o k (none_of (differ (is_active s o) (is_active t o)) rest e))
    ∙ ap (λ ds. descriptor_of t o ∷ ds) (same_all s t os k (nor_of (differ (is_active s o) (is_active t o)) rest e))

all_tell : (s t : Setup) (os : List ScanOption) → map (descriptor_of s) os ≡ map (descriptor_of t) os → list_any (λ o. differ (is_active s o) (is_active t o)) os ≡ false
all_tell s t [] e = refl
all_tell s t (o ∷ os) e =
    neither (differ (is_active s o) (is_active t o)) (list_any (λ o. differ (is_active s o) (is_active t o)) os)
    (desc_tells s t o (head_is (descriptor_of s o) (descriptor_of t o) (map (descriptor_of s) os) (map (descriptor_of t) os) e))
    (all_tell s t os (rest_is (descriptor_of s o) (descriptor_of t o) (map (descriptor_of s) os) (map (descriptor_of t) os) e))

pub reload_tells : (s t : Setup) → t.scene.kind ≡ s.scene.kind → (reloads s t ≡ false) ↔ (descriptors_of s ≡ descriptors_of t)
reload_tells s t k = (
  λ e. same_all s t (options_of s.scene.kind) k e ∙ ap (λ kind. map (descriptor_of t) (options_of kind)) (sym k),
  λ e. all_tell s t (options_of s.scene.kind) (e ∙ ap (λ kind. map (descriptor_of t) (options_of kind)) k),
)

-- a set, by whether the option may be set, and by the nearest value
abbrev pub answer_with : Setup → ScanOption → Value → Bool → Option Value → Result (Value × Info) Status
answer_with s o asked true r = put_answer s o asked r
answer_with s o asked false r = Err Inval

pub set_is : (s : Setup) (o : ScanOption) (asked : Value) (b : Bool) → set_to s (cond b (Some o) None) asked ≡ answer_with s o asked b (resolve (descriptor_of s o) asked)
set_is s o asked true = refl
set_is s o asked false = refl

-- the same of a setting
abbrev pub finished : Setup → ℕ → Value × Value → Option Placement
finished s n pair = Some (record { setup = setup_after s n pair.1; asked = pair.0; given = pair.1 })

abbrev nearest_pair : Descriptor → Value → Option (Value × Value)
nearest_pair desc asked = resolve desc asked >>= (λ given. Some (asked, given))

abbrev placed_with : Setup → ℕ → Value → Bool → Option Value → Option Placement
placed_with s n asked b r = (cond b (r >>= (λ given. Some (asked, given))) None) >>= finished s n

core : (s : Setup) (n : ℕ) (o : ScanOption) (asked : Value) (b : Bool) (r : Option Value) → IsPlacedBy s n asked (answer_with s o asked b r) (placed_with s n asked b r)
core s n o asked true (Some given) = refl
core s n o asked true None = refl
core s n o asked false r = refl

abbrev placed_at : Setup → List ℕ → ℕ → Descriptor → Option Placement
placed_at s text n desc = given_for desc text >>= finished s n

found : (s : Setup) (name text : List ℕ) (n : ℕ) (desc : Descriptor) → number_named name (descriptors_of s) ≡ Some n → slice_get (descriptors_of s) n ≡ Some desc → placement s (name, text) ≡ placed_at s text n desc
unfolding placement
found s name text n desc e f =
    ap (λ o. o >>= (λ n. slice_get (descriptors_of s) n >>= (λ desc. placed_at s text n desc))) e
    ∙ ap (λ o. o >>= (λ desc. placed_at s text n desc)) f

read_is : (s : Setup) (text : List ℕ) (n : ℕ) (o : ScanOption) (asked : Value) → read_value (descriptor_of s o) text ≡ Some asked → placed_at s text n (descriptor_of s o) ≡ placed_with s n asked (is_active s o && has_cap (option_caps o) 1) (resolve (descriptor_of s o) asked)
read_is s text n o asked e =
    ap (λ m. (cond m (read_value (descriptor_of s o) text >>= nearest_pair (descriptor_of s o)) None) >>= finished s n) (may_be_set_is s o)
    ∙ ap (λ x. (cond (is_active s o && has_cap (option_caps o) 1) (x >>= nearest_pair (descriptor_of s o)) None) >>= finished s n) e

with_option : (s : Setup) (name text : List ℕ) (n : ℕ) (desc : Descriptor) (asked : Value) (oo : Option ScanOption) → option_at s.scene.kind n ≡ oo → option_map (descriptor_of s) oo ≡ Some desc → placement s (name, text) ≡ placed_at s text n desc → read_value desc text ≡ Some asked → IsPlacedBy s n asked (option_set s n asked) (placement s (name, text))
unfolding option_set
with_option s name text n desc asked None at d p r = absurd (let e : None ≡ Some desc = d in (cc))
with_option s name text n desc asked (Some o) at d p r =
    let desc_same : desc ≡ descriptor_of s o = (let e : Some (descriptor_of s o) ≡ Some desc = d in (cc)) in
    let reads : read_value (descriptor_of s o) text ≡ Some asked = subst (λ (x : Descriptor). read_value x text ≡ Some asked) desc_same r in
    let b : Bool = is_active s o && has_cap (option_caps o) 1 in
    let near : Option Value = resolve (descriptor_of s o) asked in
    let placed_is : placement s (name, text) ≡ placed_with s n asked b near = p ∙ ap (λ (x : Descriptor). placed_at s text n x) desc_same ∙ read_is s text n o asked reads in
    let answer_is : option_set s n asked ≡ answer_with s o asked b near = ap (λ x. set_to s (option_passing (λ o. is_active s o && has_cap (option_caps o) 1) x) asked) at ∙ set_is s o asked b in
    subst (λ (x : Result (Value × Info) Status). IsPlacedBy s n asked x (placement s (name, text))) (sym answer_is)
    (subst (λ (x : Option Placement). IsPlacedBy s n asked (answer_with s o asked b near) x) (sym placed_is) (core s n o asked b near))

pub set_places : (s : Setup) (name text : List ℕ) (n : ℕ) (desc : Descriptor) (asked : Value) → number_named name (descriptors_of s) ≡ Some n → slice_get (descriptors_of s) n ≡ Some desc → read_value desc text ≡ Some asked → IsPlacedBy s n asked (option_set s n asked) (placement s (name, text))
unfolding option_at
set_places s name text n desc asked e f r =
    with_option s name text n desc asked (option_at s.scene.kind n) refl (sym (slice_get-map (descriptor_of s) (options_of s.scene.kind) n) ∙ f) (found s name text n desc e f) r
