-- The place of a name, and of an info.
use Rattle.std.specs.Prelude.{option_map, position, ◌&&◌}
use Rattle.std.specs.List.{AllByRecursion, position_from}
use Rattle.std.proofs.Common.{◌≡◌, ◌∙◌, ℕ, zero, suc, ◌+◌, ◌<◌, List, [], ◌∷◌, Option, Some, None, Bool, true, false, cond, refl, sym, ap, subst, map, length, slice_get, get_or, arith}
use Rattle.std.proofs.lemmas.List.Quantifiers.{position-Some}
use Rattle.std.proofs.lemmas.Iterator.Adapters.{position_from-zero}
use Rattle.sane_fixed.specs.declared.device_info.DeviceInfo.{DeviceInfo}
use Rattle.system_model.specs.AbstractMessages.{same_text}
use Rattle.daemon_refines.proofs.Moved.{unsome}
use Rattle.world_refines.specs.GhostStates.{place_or_length, name_at, place_of_info, place_named, same_info}
use Rattle.world_refines.specs.WorldRefinement.{HaveDifferentNames}
use Rattle.world_refines.proofs.state.Judged.{both_parts, both_true, same_is, same_of}

-- ---- a test on a list

pub there_is : {X : Type 0} (xs : List X) (k : ℕ) (d : X) → k < length xs → slice_get xs k ≡ Some (get_or xs k d)
there_is [] k d low = absurd (omega (arith, low))
there_is (x ∷ xs) zero d low = refl
there_is (x ∷ xs) (suc k) d low = there_is xs k d (omega (arith, low))

-- where it finds none it fails at each
fails_by : {X : Type 0} (test : X → Bool) (n : ℕ) (x : X) (xs : List X) (b : Bool) → test x ≡ b → cond (test x) (Some n) (position_from test (n + 1) xs) ≡ None → (test x ≡ false) × (position_from test (n + 1) xs ≡ None)
fails_by test n x xs true e h = absurd (let clash : Some n ≡ None = sym (ap (λ (b : Bool). cond b (Some n) (position_from test (n + 1) xs)) e) ∙ h in cc)
fails_by test n x xs false e h = (e, sym (ap (λ (b : Bool). cond b (Some n) (position_from test (n + 1) xs)) e) ∙ h)

fails_from : {X : Type 0} (test : X → Bool) (n : ℕ) (xs : List X) (k : ℕ) (x : X) → position_from test n xs ≡ None → slice_get xs k ≡ Some x → test x ≡ false
fails_from test n [] k x h at = absurd (let clash : None ≡ Some x = at in cc)
fails_from test n (y ∷ xs) zero x h at = subst (λ (z : _). test z ≡ false) (unsome y x at) (fails_by test n y xs (test y) refl h).0
fails_from test n (y ∷ xs) (suc k) x h at = fails_from test (n + 1) xs k x (fails_by test n y xs (test y) refl h).1 at

-- it finds one that it holds of
pub record IsHere (test : DeviceInfo → Bool) (infos : List DeviceInfo) (j : ℕ) : Type 0 where
  pub info : DeviceInfo
  pub at : slice_get infos j ≡ Some info
  pub holds : test info ≡ true

is_here : (test : DeviceInfo → Bool) (infos : List DeviceInfo) (j : ℕ) → position test infos ≡ Some j → IsHere test infos j
is_here test [] j e = absurd (let clash : None ≡ Some j = e in cc)
is_here test (x ∷ infos) j e =
    let p = position-Some test (x ∷ infos) j x e in
    record { info = get_or (x ∷ infos) j x; at = there_is (x ∷ infos) j x p.0; holds = p.1 }

fails_at : (test : DeviceInfo → Bool) (infos : List DeviceInfo) (k : ℕ) (info : DeviceInfo) → position test infos ≡ None → slice_get infos k ≡ Some info → test info ≡ false
fails_at test infos k info e at = fails_from test 0 infos k info (sym (position_from-zero test infos) ∙ e) at

-- ---- the place of a name

abbrev pub is_name : List ℕ → DeviceInfo → Bool
is_name name other = same_text other.name name

name_of : (infos : List DeviceInfo) (k : ℕ) (info : DeviceInfo) → slice_get infos k ≡ Some info → name_at infos k ≡ Some info.name
name_of infos k info at = ap (option_map (λ (x : DeviceInfo). x.name)) at

info_by : (o : Option DeviceInfo) (name : List ℕ) → option_map (λ (x : DeviceInfo). x.name) o ≡ Some name → (info : DeviceInfo) × (o ≡ Some info) × (info.name ≡ name)
info_by None name e = absurd (let clash : None ≡ Some name = e in cc)
info_by (Some info) name e = (info, refl, unsome info.name name e)

pub name_here : (infos : List DeviceInfo) (name : List ℕ) (j : ℕ) → position (is_name name) infos ≡ Some j → name_at infos j ≡ Some name
name_here infos name j e =
    let h = is_here (is_name name) infos j e in
    name_of infos j h.info h.at ∙ ap (λ (x : List ℕ). Some x) (same_is h.info.name name h.holds)

name_nowhere : (infos : List DeviceInfo) (name : List ℕ) (k : ℕ) → position (is_name name) infos ≡ None → name_at infos k ≡ Some name → ⊥
name_nowhere infos name k e at =
    let h = info_by (slice_get infos k) name at in
    let clash : true ≡ false = sym (same_of h.0.name name h.2) ∙ fails_at (is_name name) infos k h.0 e h.1 in absurd (cc)

place_by : (infos : List DeviceInfo) (name : List ℕ) (k : ℕ) (o : Option ℕ) → position (is_name name) infos ≡ o → HaveDifferentNames infos → name_at infos k ≡ Some name → place_or_length (length infos) o ≡ k
place_by infos name k None e apart at = absurd (name_nowhere infos name k e at)
place_by infos name k (Some j) e apart at = apart j k name (name_here infos name j e) at

-- the place of a name that stands there
pub place_is : (infos : List DeviceInfo) (name : List ℕ) (k : ℕ) → HaveDifferentNames infos → name_at infos k ≡ Some name → place_named infos name ≡ k
place_is infos name k apart at = place_by infos name k (position (is_name name) infos) refl apart at

-- ---- the place of an info

abbrev is_info : DeviceInfo → DeviceInfo → Bool
is_info info other = same_info other info

of_parts : (a b : DeviceInfo) → a.name ≡ b.name → a.vendor ≡ b.vendor → a.model ≡ b.model → a.class ≡ b.class → a ≡ b
of_parts a b name vendor model class =
    ap (λ (x : List ℕ). record a { name = x }) name
    ∙ (ap (λ (x : List ℕ). record a { name = b.name; vendor = x }) vendor
    ∙ (ap (λ (x : List ℕ). record b { model = x; class = a.class }) model
    ∙ ap (λ (x : List ℕ). record b { class = x }) class))

info_is : (a b : DeviceInfo) → same_info a b ≡ true → a ≡ b
info_is a b e =
    let halves = both_parts (same_text a.name b.name && same_text a.vendor b.vendor) (same_text a.model b.model && same_text a.class b.class) e in
    let front = both_parts (same_text a.name b.name) (same_text a.vendor b.vendor) halves.0 in
    let back = both_parts (same_text a.model b.model) (same_text a.class b.class) halves.1 in
    of_parts a b (same_is a.name b.name front.0) (same_is a.vendor b.vendor front.1) (same_is a.model b.model back.0) (same_is a.class b.class back.1)

info_self : (a : DeviceInfo) → same_info a a ≡ true
info_self a =
    both_true (same_text a.name a.name && same_text a.vendor a.vendor) (same_text a.model a.model && same_text a.class a.class)
    (both_true (same_text a.name a.name) (same_text a.vendor a.vendor) (same_of a.name a.name refl) (same_of a.vendor a.vendor refl))
    (both_true (same_text a.model a.model) (same_text a.class a.class) (same_of a.model a.model refl) (same_of a.class a.class refl))

info_by_place : (infos : List DeviceInfo) (info : DeviceInfo) (k : ℕ) (o : Option ℕ) → position (is_info info) infos ≡ o → HaveDifferentNames infos → slice_get infos k ≡ Some info → place_or_length (length infos) o ≡ k
info_by_place infos info k None e apart at =
    let clash : true ≡ false = sym (info_self info) ∙ fails_at (is_info info) infos k info e at in absurd (cc)
info_by_place infos info k (Some j) e apart at =
    let h = is_here (is_info info) infos j e in
    apart j k info.name (name_of infos j h.info h.at ∙ ap (λ (x : DeviceInfo). Some x.name) (info_is h.info info h.holds)) (name_of infos k info at)

-- the place of an info that stands there
pub info_place : (infos : List DeviceInfo) (info : DeviceInfo) (k : ℕ) → HaveDifferentNames infos → slice_get infos k ≡ Some info → place_of_info infos info ≡ k
info_place infos info k apart at = info_by_place infos info k (position (is_info info) infos) refl apart at

-- one whose place is below all stands there
stands_by : (infos : List DeviceInfo) (info : DeviceInfo) (o : Option ℕ) → position (is_info info) infos ≡ o → place_or_length (length infos) o < length infos → slice_get infos (place_or_length (length infos) o) ≡ Some info
stands_by infos info None e low = absurd (omega (arith, low))
stands_by infos info (Some j) e low = let h = is_here (is_info info) infos j e in h.at ∙ ap (λ (x : DeviceInfo). Some x) (info_is h.info info h.holds)

pub stand_there : (all infos : List DeviceInfo) → AllByRecursion (λ (k : ℕ). k < length all) (map (place_of_info all) infos) → map (slice_get all) (map (place_of_info all) infos) ≡ map (λ (info : DeviceInfo). Some info) infos
stand_there all [] low = refl
stand_there all (info ∷ infos) low =
    let one = stands_by all info (position (is_info info) all) refl low.0 in
    ap (λ (o : Option DeviceInfo). o ∷ map (slice_get all) (map (place_of_info all) infos)) one ∙ ap (λ (os : List (Option DeviceInfo)). Some info ∷ os) (stand_there all infos low.1)
