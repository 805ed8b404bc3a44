-- What the settings put in force, said of options, is what is said of their descriptors.
use Rattle.std.specs.Prelude.{option_map, slice_get, slice_index_or, Contains, length, map, ◌<◌, not}
use Rattle.std.specs.List.{list_any, position_from}
use Rattle.std.specs.Str.{bytes_eq}
use Rattle.std.proofs.Common.{◌≡◌, ◌+◌, ◌&&◌, ◌||◌, ◌∙◌, ℕ, zero, suc, arith, Bool, true, false, cond, List, [], ◌∷◌, Option, Some, None, refl, sym, ap, subst}
use Rattle.std.proofs.lemmas.Bool.{false≢true}
use Rattle.std.proofs.lemmas.Option.{slice_get-map, slice_get_within}
use Rattle.std.proofs.lemmas.Slice.Eq.{bytes_eq-Decides}
use Rattle.sane_fixed.specs.Cap.{has_cap}
use Rattle.sane_fixed.specs.declared.kind.Kind.{Kind}
use Rattle.option_desc.specs.declared.descriptor.Constraint.{Constraint}
use Rattle.option_desc.specs.declared.descriptor.Descriptor.{Descriptor}
use Rattle.option_desc.specs.declared.value.Value.{Value}
use Rattle.option_desc.specs.declared.value.Value.TheVariants.{Flag, Int, Fixed, Words, Text}
use Rattle.option_desc.specs.Fits.{Fits}
use Rattle.option_desc.specs.Put.{Puts, NearestValue}
use Rattle.option_desc.specs.Reads.{ReadsAsValue}
use Rattle.scan_frames.specs.declared.setup.Setup.{Setup}
use Rattle.device_api.specs.declared.scan_option.ScanOption.{ScanOption}
use Rattle.device_api.specs.InForce.{Placement, may_be_set, number_named}
use Rattle.device_api.specs.Options.{descriptor_of, descriptors_of, is_active, option_at, option_caps, option_name, options_of}
use Rattle.device_api.specs.Values.{option_passing, setup_after, with_given, with_value}
use Rattle.device_api.proofs.KindLaws.{are_apart, goes_by, options_apart}
use Rattle.device_api.proofs.OptionForms.{may_be_set_is}
use Rattle.scan_laws.specs.NearestSet.{PutsNearest, PutAllNearest}
use Rattle.scan_world.specs.Settings.{AreSettingsPut, IsSettingPut}

-- ---- options are found by their names

both_hold : (a b : Bool) → (a && b) ≡ true → (a ≡ true) × (b ≡ true)
both_hold true b e = (refl, e)
both_hold false b e = absurd (false≢true e)

not_true : (a : Bool) → not a ≡ true → a ≡ false
not_true true e = absurd (false≢true e)
not_true false e = refl

neither_holds : (a b : Bool) → (a || b) ≡ false → (a ≡ false) × (b ≡ false)
neither_holds true b e = absurd (false≢true (sym e))
neither_holds false b e = (refl, e)

none_at : (f : ScanOption → Bool) (os : List ScanOption) (i : ℕ) (o : ScanOption) → list_any f os ≡ false → slice_get os i ≡ Some o → f o ≡ false
none_at f [] i o e at = absurd (let clash : None ≡ Some o = at in cc)
none_at f (x ∷ os) zero o e at = let same : x ≡ o = (let both : Some x ≡ Some o = at in cc) in ap f (sym same) ∙ (neither_holds (f x) (list_any f os) e).0
none_at f (x ∷ os) (suc i) o e at = none_at f os i o (neither_holds (f x) (list_any f os) e).1 at

same_name : (o : ScanOption) → goes_by o o ≡ true
same_name o = (bytes_eq-Decides (option_name o) (option_name o)).1 refl

number_is : (os : List ScanOption) (m i : ℕ) (o : ScanOption) → slice_get os i ≡ Some o → are_apart os ≡ true → position_from (λ p. goes_by p o) m os ≡ Some (m + i)
number_is [] m i o at apart = absurd (let clash : None ≡ Some o = at in cc)
number_is (x ∷ os) m zero o at apart =
    let same : x ≡ o = (let both : Some x ≡ Some o = at in cc) in
    let here : goes_by x o ≡ true = ap (λ p. goes_by p o) same ∙ same_name o in
    let none : m ≡ m + 0 = omega arith in
    ap (λ b. cond b (Some m) (position_from (λ p. goes_by p o) (m + 1) os)) here ∙ ap (λ (n : ℕ). Some n) none
number_is (x ∷ os) m (suc i) o at apart =
    let parts = both_hold (not (list_any (goes_by x) os)) (are_apart os) apart in
    let other : goes_by x o ≡ false = none_at (goes_by x) os i o (not_true (list_any (goes_by x) os) parts.0) at in
    let more : (m + 1) + i ≡ m + suc i = omega arith in
    ap (λ b. cond b (Some m) (position_from (λ p. goes_by p o) (m + 1) os)) other ∙ number_is os (m + 1) i o at parts.1 ∙ ap (λ (n : ℕ). Some n) more

-- ---- and so are their descriptors

by_name : (s : Setup) (name : List ℕ) (m : ℕ) (os : List ScanOption) → position_from (λ (d : Descriptor). bytes_eq d.name name) m (map (descriptor_of s) os) ≡ position_from (λ p. bytes_eq (option_name p) name) m os
unfolding descriptor_of
by_name s name m [] = refl
by_name s name m (o ∷ os) = ap (λ r. cond (bytes_eq (option_name o) name) (Some m) r) (by_name s name (m + 1) os)

number_named_is : (s : Setup) (i : ℕ) (o : ScanOption) → slice_get (options_of s.scene.kind) i ≡ Some o → number_named (option_name o) (descriptors_of s) ≡ Some i
number_named_is s i o at =
    let same : 0 + i ≡ i = omega arith in
    by_name s (option_name o) 0 (options_of s.scene.kind) ∙ number_is (options_of s.scene.kind) 0 i o at (options_apart s.scene.kind) ∙ ap (λ (n : ℕ). Some n) same

-- where the test passes first
abbrev PassesAt : {X : Type 0} → (X → Bool) → ℕ → ℕ → List X → Type 0
PassesAt {X} t m n xs = (i : ℕ) × (n ≡ m + i) × ((x : X) → slice_get xs i ≡ Some x → t x ≡ true)

found_passes : {X : Type 0} (t : X → Bool) (m n : ℕ) (xs : List X) → position_from t m xs ≡ Some n → PassesAt t m n xs
found_passes t m n [] e = absurd (let clash : None ≡ Some n = e in cc)
found_passes {X} t m n (x ∷ xs) e = by_test (t x) refl e (found_passes t (m + 1) n xs)
  where
    by_test : (b : Bool) → t x ≡ b → cond b (Some m) (position_from t (m + 1) xs) ≡ Some n → (position_from t (m + 1) xs ≡ Some n → PassesAt t (m + 1) n xs) → PassesAt t m n (x ∷ xs)
    by_test true is f later = let same : m ≡ n = (let both : Some m ≡ Some n = f in cc) in (0, omega (arith, same), λ y at. (let one : x ≡ y = (let both : Some x ≡ Some y = at in cc) in ap t (sym one) ∙ is))
    by_test false is f later = let r = later f in (suc r.0, omega (arith, r.1), r.2)

desc_at : (s : Setup) (n : ℕ) → slice_get (descriptors_of s) n ≡ option_map (descriptor_of s) (slice_get (options_of s.scene.kind) n)
desc_at s n = slice_get-map (descriptor_of s) (options_of s.scene.kind) n

-- ---- what a descriptor reads and puts, by its kind, size and constraint

-- all that reading and putting look at
abbrev formed : Kind → ℕ → Constraint → Descriptor → Descriptor
formed k n c d = record d { kind = k; size = n; constraint = c }

reads_as_formed : (d e : Descriptor) (text : List ℕ) (v : Value) → ReadsAsValue d text v → ReadsAsValue (formed d.kind d.size d.constraint e) text v
reads_as_formed d e text (Flag true) h = h
reads_as_formed d e text (Flag false) h = h
reads_as_formed d e text (Int word) h = h
reads_as_formed d e text (Fixed fixed) h = h
reads_as_formed d e text (Words words) h = h
reads_as_formed d e text (Text own) h = h

fits_as_formed : (d e : Descriptor) (v : Value) → Fits d v → Fits (formed d.kind d.size d.constraint e) v
fits_as_formed d e (Flag x) h = h
fits_as_formed d e (Int x) h = h
fits_as_formed d e (Fixed x) h = h
fits_as_formed d e (Words x) h = h
fits_as_formed d e (Text x) h = h

-- another descriptor of that kind, size and constraint
as_own : (d e : Descriptor) → d.kind ≡ e.kind → d.size ≡ e.size → d.constraint ≡ e.constraint → formed d.kind d.size d.constraint e ≡ e
as_own d e k n c =
    ap (λ (x : Kind). formed x d.size d.constraint e) k
    ∙ ap (λ (x : ℕ). formed e.kind x d.constraint e) n
    ∙ ap (λ (x : Constraint). formed e.kind e.size x e) c

reads_alike : (d e : Descriptor) (text : List ℕ) (v : Value) → d.kind ≡ e.kind → d.size ≡ e.size → d.constraint ≡ e.constraint → ReadsAsValue d text v → ReadsAsValue e text v
reads_alike d e text v k n c h = subst (λ (x : Descriptor). ReadsAsValue x text v) (as_own d e k n c) (reads_as_formed d e text v h)

puts_alike : (d e : Descriptor) (v w : Value) → d.kind ≡ e.kind → d.size ≡ e.size → d.constraint ≡ e.constraint → Puts d v w → Puts e v w
puts_alike d e v w k n c h = record {
  fits = subst (λ (x : Descriptor). Fits x v) (as_own d e k n c) (fits_as_formed d e v h.fits);
  nearest = subst (λ (x : Constraint). NearestValue x v w) c h.nearest;
}

-- ---- one setting

set_left : (s : Setup) (n : ℕ) (o : ScanOption) (given : Value) → slice_get (options_of s.scene.kind) n ≡ Some o → (is_active s o && has_cap (option_caps o) 1) ≡ true → setup_after s n given ≡ with_value s o given
unfolding setup_after option_at
set_left s n o given at may =
    ap (λ x. with_given s (option_passing (λ p. is_active s p && has_cap (option_caps p) 1) x) given) at
    ∙ ap (λ b. with_given s (cond b (Some o) None) given) may

contains : (os : List ScanOption) (n : ℕ) (o : ScanOption) → slice_get os n ≡ Some o → Contains os o
contains os n o at = (n, slice_get_within os n o at, index_is os n o at)
  where
    index_is : (xs : List ScanOption) (k : ℕ) (x : ScanOption) → slice_get xs k ≡ Some x → slice_index_or xs k x ≡ x
    index_is [] k x e = absurd (let clash : None ≡ Some x = e in cc)
    index_is (y ∷ xs) zero x e = let both : Some y ≡ Some x = e in cc
    index_is (y ∷ xs) (suc k) x e = index_is xs k x e

got : (xs : List ScanOption) (k : ℕ) (d : ScanOption) → k < length xs → slice_get xs k ≡ Some (slice_index_or xs k d)
got [] k d low = absurd (omega (arith, low))
got (x ∷ xs) zero d low = refl
got (x ∷ xs) (suc k) d low = got xs k d (omega (arith, low))

named_so : (s : Setup) (name : List ℕ) (n : ℕ) (o : ScanOption) → number_named name (descriptors_of s) ≡ Some n → slice_get (options_of s.scene.kind) n ≡ Some o → option_name o ≡ name
named_so s name n o named at =
    let found = found_passes (λ p. bytes_eq (option_name p) name) 0 n (options_of s.scene.kind) (sym (by_name s name 0 (options_of s.scene.kind)) ∙ named) in
    let there : n ≡ found.0 = omega (arith, found.1) in
    (bytes_eq-Decides (option_name o) name).0 (found.2 o (subst (λ (i : ℕ). slice_get (options_of s.scene.kind) i ≡ Some o) there at))

of_option : (s : Setup) (setting : List ℕ × List ℕ) (p : Placement) (h : PutsNearest s setting p) (oo : Option ScanOption) → slice_get (options_of s.scene.kind) h.n ≡ oo → option_map (descriptor_of s) oo ≡ Some h.gives.desc → IsSettingPut s setting p
unfolding descriptor_of
of_option s setting p h None at is = absurd (let clash : None ≡ Some h.gives.desc = is in cc)
of_option s setting p h (Some o) at is =
    let same : h.gives.desc ≡ descriptor_of s o = (let both : Some (descriptor_of s o) ≡ Some h.gives.desc = is in cc) in
    let may : (is_active s o && has_cap (option_caps o) 1) ≡ true = sym (may_be_set_is s o) ∙ (ap may_be_set (sym same) ∙ h.gives.may) in
    record {
      option = o;
      has = contains (options_of s.scene.kind) h.n o at;
      named = named_so s setting.0 h.n o h.named at;
      may_be_set = may;
      desc = h.gives.desc;
      form = (ap (λ (d : Descriptor). d.kind) same, ap (λ (d : Descriptor). d.size) same, ap (λ (d : Descriptor). d.constraint) same);
      reads = h.reads;
      nearest = h.gives.puts;
      after = h.after ∙ set_left s h.n o p.given at may;
    }

setting_put : (s : Setup) (setting : List ℕ × List ℕ) (p : Placement) → PutsNearest s setting p → IsSettingPut s setting p
setting_put s setting p h = of_option s setting p h (slice_get (options_of s.scene.kind) h.n) refl (sym (desc_at s h.n) ∙ h.gives.at)

put_nearest : (s : Setup) (setting : List ℕ × List ℕ) (p : Placement) → IsSettingPut s setting p → PutsNearest s setting p
unfolding descriptor_of
put_nearest s setting p h =
    let o = h.option in
    let n = h.has.0 in
    let at : slice_get (options_of s.scene.kind) n ≡ Some o = got (options_of s.scene.kind) n o h.has.1 ∙ ap (λ (x : ScanOption). Some x) h.has.2 in
    record {
      n = n;
      named = ap (λ (name : List ℕ). number_named name (descriptors_of s)) (sym h.named) ∙ number_named_is s n o at;
      gives = record {
        desc = descriptor_of s o;
        at = desc_at s n ∙ ap (option_map (descriptor_of s)) at;
        may = may_be_set_is s o ∙ h.may_be_set;
        puts = puts_alike h.desc (descriptor_of s o) p.asked p.given h.form.0 h.form.1 h.form.2 h.nearest;
      };
      reads = reads_alike h.desc (descriptor_of s o) setting.1 p.asked h.form.0 h.form.1 h.form.2 h.reads;
      after = h.after ∙ sym (set_left s n o p.given at h.may_be_set);
    }

-- ---- all of them

pub all_put : (settings : List (List ℕ × List ℕ)) (s : Setup) (ps : List Placement) (t : Setup) → PutAllNearest s settings ps t → AreSettingsPut s settings ps t
all_put [] s [] t h = h
all_put [] s (p ∷ ps) t h = absurd h
all_put (setting ∷ settings) s [] t h = absurd h
all_put (setting ∷ settings) s (p ∷ ps) t h = (setting_put s setting p h.0, all_put settings p.setup ps t h.1)

pub all_nearest : (settings : List (List ℕ × List ℕ)) (s : Setup) (ps : List Placement) (t : Setup) → AreSettingsPut s settings ps t → PutAllNearest s settings ps t
all_nearest [] s [] t h = h
all_nearest [] s (p ∷ ps) t h = absurd h
all_nearest (setting ∷ settings) s [] t h = absurd h
all_nearest (setting ∷ settings) s (p ∷ ps) t h = (put_nearest s setting p h.0, all_nearest settings p.setup ps t h.1)
