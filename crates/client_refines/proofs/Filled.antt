-- Values stand only where they are told, so as many as are told stand each at its own option.
use Rattle.std.proofs.Common.{arith, ◌≡◌, ◌∙◌, ◌≤◌, ◌+◌, ℕ, zero, suc, Option, Some, None, Bool, true, false, List, [], ◌∷◌, refl, sym, ap, length}
use Rattle.std.specs.Prelude.{if◌then◌else◌, option_map, slice_get}
use Rattle.option_desc.specs.declared.descriptor.Descriptor.{Descriptor}
use Rattle.option_desc.specs.declared.value.Value.{Value}
use Rattle.system_model.specs.Devices.{Make, OptionsInForce, is_readable, readable_from, readable_options, readable_value}
use Rattle.system_model.specs.AbstractInForce.{values_of}
use Rattle.client_refines.specs.ClientRefinement.{descs, shown_by, known_values, OnlyReadableHaveValues}
use Rattle.client_refines.specs.Filled.{shown_at, IsFilled}
use Rattle.client_refines.proofs.KnownOptions.{told_alike}

-- ---- no more values than are told

values_length : (make : Make) (in_force : OptionsInForce) (ns : List ℕ) → length (values_of make in_force ns) ≡ length ns
values_length make in_force [] = refl
values_length make in_force (n ∷ ns) = ap suc (values_length make in_force ns)

few_if : (b : Bool) (value : Option Value) (values : List Value) (k : ℕ) (rest : List ℕ) → (b ≡ false → value ≡ None) → length values ≤ length rest → length (shown_by value values) ≤ length (if b then k ∷ rest else rest)
few_if true None values k rest t h = omega arith
few_if true (Some v) values k rest t h = omega arith
few_if false None values k rest t h = h
few_if false (Some v) values k rest t h = absurd (let clash : Some v ≡ None = t refl in cc)

-- where no value is told by the model none stands
none_told : (o : Descriptor × Option Value) (more : List (Descriptor × Option Value)) → OnlyReadableHaveValues (o ∷ more) → is_readable o.0 ≡ false → o.1 ≡ None
none_told o more t e = t.0 (told_alike o.0 ∙ e)

few_values : (k : ℕ) (options : List (Descriptor × Option Value)) → OnlyReadableHaveValues options → length (known_values options) ≤ length (readable_from k (descs options))
few_values k [] t = omega arith
few_values k (o ∷ more) t = few_if (is_readable o.0) o.1 (known_values more) k (readable_from (k + 1) (descs more)) (none_told o more t) (few_values (k + 1) more t.1)

-- ---- each at its own

-- the first option has its value, and the values behind it are those of the others
record IsPlaced (make : Make) (in_force : OptionsInForce) (b : Bool) (value : Option Value) (values : List Value) (k : ℕ) (rest : List ℕ) : Type 0 where
  pub here : value ≡ (if b then Some (readable_value make in_force k) else None)
  pub behind : values ≡ values_of make in_force rest

place : (make : Make) (in_force : OptionsInForce) (b : Bool) (value : Option Value) (values : List Value) (k : ℕ) (rest : List ℕ) → (b ≡ false → value ≡ None) → length values ≤ length rest
    → shown_by value values ≡ values_of make in_force (if b then k ∷ rest else rest) → IsPlaced make in_force b value values k rest
place make in_force true None values k rest t h e =
    let l : length (values_of make in_force rest) ≡ length rest = values_length make in_force rest in
    let s : length values ≡ suc (length (values_of make in_force rest)) = ap length e in
    absurd (omega arith)
place make in_force true (Some v) values k rest t h e = record { here = cc; behind = cc }
place make in_force false None values k rest t h e = record { here = refl; behind = e }
place make in_force false (Some v) values k rest t h e = absurd (let clash : Some v ≡ None = t refl in cc)

placed : (make : Make) (in_force : OptionsInForce) (k : ℕ) (o : Descriptor × Option Value) (more : List (Descriptor × Option Value)) → OnlyReadableHaveValues (o ∷ more)
    → known_values (o ∷ more) ≡ values_of make in_force (readable_from k (descs (o ∷ more))) → IsPlaced make in_force (is_readable o.0) o.1 (known_values more) k (readable_from (k + 1) (descs more))
placed make in_force k o more t e =
    place make in_force (is_readable o.0) o.1 (known_values more) k (readable_from (k + 1) (descs more)) (none_told o more t) (few_values (k + 1) more t.1) e

filled_from : (make : Make) (in_force : OptionsInForce) (k : ℕ) (options : List (Descriptor × Option Value)) (n : ℕ) → OnlyReadableHaveValues options → known_values options ≡ values_of make in_force (readable_from k (descs options))
    → slice_get options n ≡ option_map (shown_at make in_force (k + n)) (slice_get (descs options) n)
filled_from make in_force k [] n t e = refl
filled_from make in_force k (o ∷ more) zero t e =
    let first : k + 0 ≡ k = omega arith in
    ap (λ (v : Option Value). Some (o.0, v)) (placed make in_force k o more t e).here ∙ ap (λ (j : ℕ). Some (shown_at make in_force j o.0)) (sym first)
filled_from make in_force k (o ∷ more) (suc n) t e =
    let next : k + 1 + n ≡ k + suc n = omega arith in
    filled_from make in_force (k + 1) more n t.1 (placed make in_force k o more t e).behind ∙ ap (λ (j : ℕ). option_map (shown_at make in_force j) (slice_get (descs more) n)) next

values_from : (make : Make) (in_force : OptionsInForce) (ds : List Descriptor) → values_of make in_force (readable_options ds) ≡ values_of make in_force (readable_from 0 ds)
unfolding readable_options
values_from make in_force ds = refl

-- values that stand only where they are told, and are those of the options that are told, stand each at its own option
pub is_filled : (make : Make) (in_force : OptionsInForce) (ds : List Descriptor) (options : List (Descriptor × Option Value)) → OnlyReadableHaveValues options → descs options ≡ ds → known_values options ≡ values_of make in_force (readable_options ds)
    → IsFilled make in_force ds options
is_filled make in_force ds options t d e = λ n.
    let values : known_values options ≡ values_of make in_force (readable_from 0 (descs options)) = e ∙ values_from make in_force ds ∙ ap (λ (x : List Descriptor). values_of make in_force (readable_from 0 x)) (sym d) in
    let first : 0 + n ≡ n = omega arith in
    filled_from make in_force 0 options n t values
    ∙ ap (λ (j : ℕ). option_map (shown_at make in_force j) (slice_get (descs options) n)) first
    ∙ ap (λ (x : List Descriptor). option_map (shown_at make in_force n) (slice_get x n)) d
