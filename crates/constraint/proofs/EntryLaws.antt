-- The place computed for a text is the one that it is matched with, and the only one.
use Rattle.std.proofs.Common.{◌≡◌, ◌≢◌, ℕ, zero, suc, ◌<◌, ◌≤◌, ◌+◌, inl, inr, Bool, true, false, cond, List, [], ◌∷◌, ◌++◌, length, take, drop, get_or, arith, refl, sym, ap, ◌∙◌, subst, Decides}
use Rattle.std.specs.Prelude.{Option, Some, None, IfSome, IfNone, option_map, map, slice_get}
use Rattle.std.specs.Char.{to_ascii_lowercase}
use Rattle.std.specs.List.{position_from}
use Rattle.std.specs.Str.{bytes_eq}
use Rattle.std.proofs.lemmas.Bool.{cases_order, false≢true}
use Rattle.std.proofs.lemmas.Bool.Decides.{Decides-eqb, same_from_decides}
use Rattle.std.proofs.lemmas.List.{take_more, take_all, drop_more, append-nil, length-take, take-append-drop}
use Rattle.std.proofs.lemmas.Option.{slice_get_read}
use Rattle.std.proofs.lemmas.Slice.Eq.{bytes_eq-Decides, starts_is}
use Rattle.constraint.specs.Nearest.{BeginsWith, BeginsAt, IsFirstEqual, IsOnlyBeginning, NearestEntry, FlagsDifference}
use Rattle.constraint.specs.declared.string_list.Beginning.{Beginning}
use Rattle.constraint.specs.declared.string_list.Beginning.TheVariants.{Nowhere, At, Several}
use Rattle.constraint.specs.Beginning.{beginning_of, with_place}
use Rattle.constraint.specs.NearestComputed.{begins_with, places_from, only, nearest_entry}
use Rattle.std.specs.Option.{option_or}

some_is : {X : Type 0} (a b : X) → ◌≡◌ {A = Option X} (Some a) (Some b) → a ≡ b
some_is a b e = (cc)

no_some : {X : Type 0} (a : X) → ◌≡◌ {A = Option X} None (Some a) → ⊥
no_some a e = (cc)

-- ---- there is at most one

same_first : (entries : List (List ℕ)) (text : List ℕ) (i j : ℕ) → IsFirstEqual entries text i → IsFirstEqual entries text j → i ≡ j
same_first entries text i j x y = elim (cases_order i j) [
  | inl same ↦ same
  | inr apart ↦ elim apart [ inl less ↦ absurd (y.first i less x.equal) | inr more ↦ absurd (x.first j more y.equal) ]
]

pub NearestEntry-unique : (entries : List (List ℕ)) (text : List ℕ) (i j : ℕ) → NearestEntry entries text i → NearestEntry entries text j → i ≡ j
NearestEntry-unique entries text i j x y = elim x [
  | inl p ↦ elim y [ inl q ↦ same_first entries text i j p q | inr q ↦ absurd (q.none_equal i p.equal) ]
  | inr p ↦ elim y [ inl q ↦ absurd (p.none_equal j q.equal) | inr q ↦ q.only i p.begins ]
]

-- ---- tests

begins_with-true : (entry text : List ℕ) → begins_with entry text ≡ true → BeginsWith entry text
begins_with-true entry text e =
    let both = starts_is Decides-eqb (map to_ascii_lowercase entry) (map to_ascii_lowercase text) (begins_with entry text) refl in
    (drop (length (map to_ascii_lowercase text)) (map to_ascii_lowercase entry), both.0 e)

begins_with-is : (entry text : List ℕ) → BeginsWith entry text → begins_with entry text ≡ true
begins_with-is entry text b =
    let both = starts_is Decides-eqb (map to_ascii_lowercase entry) (map to_ascii_lowercase text) (begins_with entry text) refl in
    both.1 b.0 b.1

length-lower : (text : List ℕ) → length (map to_ascii_lowercase text) ≡ length text
length-lower [] = refl
length-lower (b ∷ text) = ap suc (length-lower text)

take-lower : (n : ℕ) (text : List ℕ) → take n (map to_ascii_lowercase text) ≡ map to_ascii_lowercase (take n text)
take-lower zero text = refl
take-lower (suc n) [] = refl
take-lower (suc n) (b ∷ text) = ap (λ l. to_ascii_lowercase b ∷ l) (take-lower n text)

-- a comparison of the entry's front with the text
pub begins_with-front : (entry text front : List ℕ) (r : Bool) → front ≡ take (length text) entry → Decides r (map to_ascii_lowercase front ≡ map to_ascii_lowercase text) → r ≡ begins_with entry text
begins_with-front entry text front r is d =
    let cut : take (length (map to_ascii_lowercase text)) (map to_ascii_lowercase entry) ≡ map to_ascii_lowercase front =
    ap (λ n. take n (map to_ascii_lowercase entry)) (length-lower text) ∙ take-lower (length text) entry ∙ ap (map to_ascii_lowercase) (sym is) in
    let test : Decides (bytes_eq (map to_ascii_lowercase text) (map to_ascii_lowercase front)) (map to_ascii_lowercase text ≡ map to_ascii_lowercase front) = bytes_eq-Decides (map to_ascii_lowercase text) (map to_ascii_lowercase front) in
    same_from_decides r (bytes_eq (map to_ascii_lowercase text) (map to_ascii_lowercase front)) d (λ e. sym (test.0 e), λ e. test.1 (sym e))
    ∙ ap (bytes_eq (map to_ascii_lowercase text)) (sym cut)

-- ---- the first place that passes a test

record Passes (test : List ℕ → Bool) (entries : List (List ℕ)) (place : ℕ) : Type 0 where
  pub entry : List ℕ
  pub at : slice_get entries place ≡ Some entry
  pub passes : test entry ≡ true

abbrev NonePass : (List ℕ → Bool) → List (List ℕ) → Type 0
NonePass test entries = (place : ℕ) (entry : List ℕ) → slice_get entries place ≡ Some entry → test entry ≡ false

record FirstPass (test : List ℕ → Bool) (entries : List (List ℕ)) (from place : ℕ) : Type 0 where
  pub k : ℕ
  pub is : place ≡ from + k
  pub here : Passes test entries k
  pub first : (j : ℕ) (entry : List ℕ) → j < k → slice_get entries j ≡ Some entry → test entry ≡ false

record OnlyPass (test : List ℕ → Bool) (entries : List (List ℕ)) (from place : ℕ) : Type 0 where
  pub k : ℕ
  pub is : place ≡ from + k
  pub here : Passes test entries k
  pub only : (j : ℕ) → Passes test entries j → j ≡ k

record TwoPass (test : List ℕ → Bool) (entries : List (List ℕ)) : Type 0 where
  pub i : ℕ
  pub j : ℕ
  pub less : i < j
  pub here : Passes test entries i
  pub there : Passes test entries j

later : (test : List ℕ → Bool) (e : List ℕ) (es : List (List ℕ)) (k : ℕ) → Passes test es k → Passes test (e ∷ es) (suc k)
later test e es k p = record { entry = p.entry; at = p.at; passes = p.passes }

here : (test : List ℕ → Bool) (e : List ℕ) (es : List (List ℕ)) → test e ≡ true → Passes test (e ∷ es) 0
here test e es t = record { entry = e; at = refl; passes = t }

none_at : (test : List ℕ → Bool) (e : List ℕ) (es : List (List ℕ)) → test e ≡ false → NonePass test es → NonePass test (e ∷ es)
none_at test e es f none zero entry at = subst (λ x. test x ≡ false) (some_is e entry at) f
none_at test e es f none (suc k) entry at = none k entry at

none_in : (test : List ℕ → Bool) → NonePass test []
none_in test = λ k entry at. absurd (no_some entry at)

none_passes : (test : List ℕ → Bool) (es : List (List ℕ)) (k : ℕ) → NonePass test es → Passes test es k → ⊥
none_passes test es k none p = false≢true (sym (none k p.entry p.at) ∙ p.passes)

shift : (from k : ℕ) → (from + 1) + k ≡ from + suc k
shift from k = omega arith

first_later : (test : List ℕ → Bool) (e : List ℕ) (es : List (List ℕ)) (k : ℕ) → test e ≡ false → ((j : ℕ) (entry : List ℕ) → j < k → slice_get es j ≡ Some entry → test entry ≡ false) → (j : ℕ) (entry : List ℕ) → j < suc k → slice_get (e ∷ es) j ≡ Some entry → test entry ≡ false
first_later test e es k f first zero entry less at = subst (λ x. test x ≡ false) (some_is e entry at) f
first_later test e es k f first (suc j) entry less at = first j entry (omega arith) at

FirstPass-later : (test : List ℕ → Bool) (e : List ℕ) (es : List (List ℕ)) (from place : ℕ) → test e ≡ false → FirstPass test es (from + 1) place → FirstPass test (e ∷ es) from place
FirstPass-later test e es from place f p = record {
  k = suc p.k;
  is = p.is ∙ shift from p.k;
  here = later test e es p.k p.here;
  first = first_later test e es p.k f p.first;
}

position_from-some : (test : List ℕ → Bool) (from : ℕ) (es : List (List ℕ)) (place : ℕ) → position_from test from es ≡ Some place → FirstPass test es from place
position_from-some test from [] place e = absurd (no_some place e)
position_from-some test from (x ∷ es) place e =
    let P : Bool → Type 0 = λ t. test x ≡ t → cond t (Some from) (position_from test (from + 1) es) ≡ Some place → FirstPass test (x ∷ es) from place in
    elim (test x) as P [
      | true ↦ λ t e. record { k = 0; is = sym (some_is from place e) ∙ omega arith; here = here test x es t; first = λ j entry less. absurd (omega arith) }
      | false ↦ λ t e. FirstPass-later test x es from place t (position_from-some test (from + 1) es place e)
    ] refl e

position_from-none : (test : List ℕ → Bool) (from : ℕ) (es : List (List ℕ)) → position_from test from es ≡ None → NonePass test es
position_from-none test from [] e = none_in test
position_from-none test from (x ∷ es) e =
    let P : Bool → Type 0 = λ t. test x ≡ t → cond t (Some from) (position_from test (from + 1) es) ≡ None → NonePass test (x ∷ es) in
    elim (test x) as P [
      | true ↦ λ t e. absurd (no_some from (sym e))
      | false ↦ λ t e. none_at test x es t (position_from-none test (from + 1) es e)
    ] refl e

-- ---- the places that pass a test

head_is : (a b : ℕ) (xs ys : List ℕ) → a ∷ xs ≡ b ∷ ys → a ≡ b
head_is a b xs ys e = (cc)

rest_is : (a b : ℕ) (xs ys : List ℕ) → a ∷ xs ≡ b ∷ ys → xs ≡ ys
rest_is a b xs ys e = (cc)

no_head : (a : ℕ) (xs : List ℕ) → [] ≡ a ∷ xs → ⊥
no_head a xs e = (cc)

places_from-none : (test : List ℕ → Bool) (from : ℕ) (es : List (List ℕ)) → places_from test from es ≡ [] → NonePass test es
places_from-none test from [] e = none_in test
places_from-none test from (x ∷ es) e =
    let P : Bool → Type 0 = λ t. test x ≡ t → cond t (from ∷ places_from test (from + 1) es) (places_from test (from + 1) es) ≡ [] → NonePass test (x ∷ es) in
    elim (test x) as P [
      | true ↦ λ t e. absurd (no_head from (places_from test (from + 1) es) (sym e))
      | false ↦ λ t e. none_at test x es t (places_from-none test (from + 1) es e)
    ] refl e

places_from-some : (test : List ℕ → Bool) (from : ℕ) (es : List (List ℕ)) (p : ℕ) (ps : List ℕ) → places_from test from es ≡ p ∷ ps → (k : ℕ) × Passes test es k
places_from-some test from [] p ps e = absurd (no_head p ps e)
places_from-some test from (x ∷ es) p ps e =
    let P : Bool → Type 0 = λ t. test x ≡ t → cond t (from ∷ places_from test (from + 1) es) (places_from test (from + 1) es) ≡ p ∷ ps → (k : ℕ) × Passes test (x ∷ es) k in
    elim (test x) as P [
      | true ↦ λ t e. (0, here test x es t)
      | false ↦ λ t e. let r = places_from-some test (from + 1) es p ps e in (suc r.0, later test x es r.0 r.1)
    ] refl e

only_later : (test : List ℕ → Bool) (e : List ℕ) (es : List (List ℕ)) (k : ℕ) → test e ≡ false → ((j : ℕ) → Passes test es j → j ≡ k) → (j : ℕ) → Passes test (e ∷ es) j → j ≡ suc k
only_later test e es k f only zero p = absurd (false≢true (sym (subst (λ x. test x ≡ false) (some_is e p.entry p.at) f) ∙ p.passes))
only_later test e es k f only (suc j) p = ap suc (only j (record { entry = p.entry; at = p.at; passes = p.passes }))

only_here : (test : List ℕ → Bool) (e : List ℕ) (es : List (List ℕ)) → NonePass test es → (j : ℕ) → Passes test (e ∷ es) j → j ≡ 0
only_here test e es none zero p = refl
only_here test e es none (suc j) p = absurd (none_passes test es j none (record { entry = p.entry; at = p.at; passes = p.passes }))

OnlyPass-later : (test : List ℕ → Bool) (e : List ℕ) (es : List (List ℕ)) (from place : ℕ) → test e ≡ false → OnlyPass test es (from + 1) place → OnlyPass test (e ∷ es) from place
OnlyPass-later test e es from place f p = record {
  k = suc p.k;
  is = p.is ∙ shift from p.k;
  here = later test e es p.k p.here;
  only = only_later test e es p.k f p.only;
}

places_from-one : (test : List ℕ → Bool) (from : ℕ) (es : List (List ℕ)) (p : ℕ) → places_from test from es ≡ p ∷ [] → OnlyPass test es from p
places_from-one test from [] p e = absurd (no_head p [] e)
places_from-one test from (x ∷ es) p e =
    let P : Bool → Type 0 = λ t. test x ≡ t → cond t (from ∷ places_from test (from + 1) es) (places_from test (from + 1) es) ≡ p ∷ [] → OnlyPass test (x ∷ es) from p in
    elim (test x) as P [
      | true ↦ λ t e. record {
        k = 0;
        is = sym (head_is from p _ [] e) ∙ omega arith;
        here = here test x es t;
        only = only_here test x es (places_from-none test (from + 1) es (rest_is from p _ [] e));
      }
      | false ↦ λ t e. OnlyPass-later test x es from p t (places_from-one test (from + 1) es p e)
    ] refl e

places_from-two : (test : List ℕ → Bool) (from : ℕ) (es : List (List ℕ)) (p q : ℕ) (ps : List ℕ) → places_from test from es ≡ p ∷ q ∷ ps → TwoPass test es
places_from-two test from [] p q ps e = absurd (no_head p (q ∷ ps) e)
places_from-two test from (x ∷ es) p q ps e =
    let P : Bool → Type 0 = λ t. test x ≡ t → cond t (from ∷ places_from test (from + 1) es) (places_from test (from + 1) es) ≡ p ∷ q ∷ ps → TwoPass test (x ∷ es) in
    elim (test x) as P [
      | true ↦ λ t e. let r = places_from-some test (from + 1) es q ps (rest_is from p _ (q ∷ ps) e) in record { i = 0; j = suc r.0; less = omega arith; here = here test x es t; there = later test x es r.0 r.1 }
      | false ↦ λ t e. let r = places_from-two test (from + 1) es p q ps e in record { i = suc r.i; j = suc r.j; less = omega (arith, r.less); here = later test x es r.i r.here; there = later test x es r.j r.there }
    ] refl e

-- ---- the entry

abbrev equals : List ℕ → List ℕ → Bool
equals text entry = bytes_eq entry text

abbrev begins : List ℕ → List ℕ → Bool
begins text entry = begins_with entry text

none_equal : (entries : List (List ℕ)) (text : List ℕ) → NonePass (equals text) entries → (k : ℕ) → slice_get entries k ≢ Some text
none_equal entries text none k at = false≢true (sym (none k text at) ∙ (bytes_eq-Decides text text).1 refl)

begins_at : (entries : List (List ℕ)) (text : List ℕ) (k : ℕ) → Passes (begins text) entries k → BeginsAt entries text k
begins_at entries text k p = (p.entry, p.at, begins_with-true p.entry text p.passes)

passes_at : (entries : List (List ℕ)) (text : List ℕ) (k : ℕ) → BeginsAt entries text k → Passes (begins text) entries k
passes_at entries text k b = record { entry = b.0; at = b.1; passes = begins_with-is b.0 text b.2 }

is_first : (entries : List (List ℕ)) (text : List ℕ) (p : ℕ) → FirstPass (equals text) entries 0 p → IsFirstEqual entries text p
is_first entries text p f =
    let e : p ≡ f.k = f.is ∙ omega arith in
    rw e (record {
      equal = f.here.at ∙ ap Some ((bytes_eq-Decides f.here.entry text).0 f.here.passes);
      first = λ j less at. false≢true (sym (f.first j text less at) ∙ (bytes_eq-Decides text text).1 refl);
    })

is_only : (entries : List (List ℕ)) (text : List ℕ) (p : ℕ) → NonePass (equals text) entries → OnlyPass (begins text) entries 0 p → IsOnlyBeginning entries text p
is_only entries text p none o =
    let e : p ≡ o.k = o.is ∙ omega arith in
    rw e (record {
      none_equal = none_equal entries text none;
      begins = begins_at entries text o.k o.here;
      only = λ j b. o.only j (passes_at entries text j b);
    })

found_at : (entries : List (List ℕ)) (text : List ℕ) (o : Option ℕ) (ps : List ℕ) (p : ℕ) → position_from (equals text) 0 entries ≡ o → places_from (begins text) 0 entries ≡ ps → option_or o (only ps) ≡ Some p → NearestEntry entries text p
found_at entries text (Some q) ps p e f g = inl (is_first entries text p (position_from-some (equals text) 0 entries p (e ∙ g)))
found_at entries text None [] p e f g = absurd (no_some p g)
found_at entries text None (q ∷ []) p e f g = inr (is_only entries text p (position_from-none (equals text) 0 entries e) (places_from-one (begins text) 0 entries p (f ∙ ap (λ x. x ∷ []) (some_is q p g))))
found_at entries text None (q ∷ r ∷ ps) p e f g = absurd (no_some p g)

pub NearestEntry-nearest_entry : (entries : List (List ℕ)) (text : List ℕ) (p : ℕ) → nearest_entry entries text ≡ Some p → NearestEntry entries text p
unfolding nearest_entry
NearestEntry-nearest_entry entries text p e = found_at entries text _ _ p refl refl e

same_two : (i j k : ℕ) → i < j → i ≡ k → j ≡ k → ⊥
same_two i j k less e f = omega arith

missing_at : (entries : List (List ℕ)) (text : List ℕ) (o : Option ℕ) (ps : List ℕ) → position_from (equals text) 0 entries ≡ o → places_from (begins text) 0 entries ≡ ps → option_or o (only ps) ≡ None → (p : ℕ) → NearestEntry entries text p → ⊥
missing_at entries text (Some q) ps e f g p n = no_some q (sym g)
missing_at entries text None ps e f g p (inl x) = none_equal entries text (position_from-none (equals text) 0 entries e) p x.equal
missing_at entries text None [] e f g p (inr x) = none_passes (begins text) entries p (places_from-none (begins text) 0 entries f) (passes_at entries text p x.begins)
missing_at entries text None (q ∷ []) e f g p (inr x) = no_some q (sym g)
missing_at entries text None (q ∷ r ∷ ps) e f g p (inr x) =
    let two = places_from-two (begins text) 0 entries q r ps f in
    same_two two.i two.j p two.less (x.only two.i (begins_at entries text two.i two.here)) (x.only two.j (begins_at entries text two.j two.there))

pub nearest_entry-none : (entries : List (List ℕ)) (text : List ℕ) → nearest_entry entries text ≡ None → (p : ℕ) → NearestEntry entries text p → ⊥
unfolding nearest_entry
nearest_entry-none entries text e = missing_at entries text _ _ refl refl e

is_at : (entries : List (List ℕ)) (text : List ℕ) (p : ℕ) (o : Option ℕ) → nearest_entry entries text ≡ o → NearestEntry entries text p → o ≡ Some p
is_at entries text p None e n = absurd (nearest_entry-none entries text e p n)
is_at entries text p (Some q) e n = ap Some (NearestEntry-unique entries text q p (NearestEntry-nearest_entry entries text q e) n)

pub nearest_entry-is : (entries : List (List ℕ)) (text : List ℕ) (p : ℕ) → NearestEntry entries text p → nearest_entry entries text ≡ Some p
nearest_entry-is entries text p n = is_at entries text p (nearest_entry entries text) refl n

-- ---- a pass over the entries

position_from-append : (test : List ℕ → Bool) (from : ℕ) (xs ys : List (List ℕ)) → position_from test from xs ≡ None → position_from test from (xs ++ ys) ≡ position_from test (from + length xs) ys
position_from-append test from [] ys e = ap (λ n. position_from test n ys) (let z : from ≡ from + 0 = omega arith in z)
position_from-append test from (x ∷ xs) ys e =
    let P : Bool → Type 0 = λ t. cond t (Some from) (position_from test (from + 1) xs) ≡ None → cond t (Some from) (position_from test (from + 1) (xs ++ ys)) ≡ position_from test (from + suc (length xs)) ys in
    elim (test x) as P [
      | true ↦ λ e. absurd (no_some from (sym e))
      | false ↦ λ e. position_from-append test (from + 1) xs ys e ∙ ap (λ n. position_from test n ys) (shift from (length xs))
    ] e

places_from-append : (test : List ℕ → Bool) (from : ℕ) (xs ys : List (List ℕ)) → places_from test from (xs ++ ys) ≡ places_from test from xs ++ places_from test (from + length xs) ys
places_from-append test from [] ys = ap (λ n. places_from test n ys) (let z : from ≡ from + 0 = omega arith in z)
places_from-append test from (x ∷ xs) ys =
    let P : Bool → Type 0 = λ t. cond t (from ∷ places_from test (from + 1) (xs ++ ys)) (places_from test (from + 1) (xs ++ ys)) ≡ cond t (from ∷ places_from test (from + 1) xs) (places_from test (from + 1) xs) ++ places_from test (from + suc (length xs)) ys in
    let more : places_from test (from + 1) (xs ++ ys) ≡ places_from test (from + 1) xs ++ places_from test (from + suc (length xs)) ys = places_from-append test (from + 1) xs ys ∙ ap (λ n. places_from test (from + 1) xs ++ places_from test n ys) (shift from (length xs)) in
    elim (test x) as P [ true ↦ ap (λ l. from ∷ l) more | false ↦ more ]

-- no entry before place i equals the text, and so many begin with it
pub record Searched (entries : List (List ℕ)) (text : List ℕ) (i : ℕ) (beginning : Beginning) : Type 0 where
  pub none_equal : position_from (equals text) 0 (take i entries) ≡ None
  pub beginning_is : beginning ≡ beginning_of (places_from (begins text) 0 (take i entries))

pub Searched-none : (entries : List (List ℕ)) (text : List ℕ) → Searched entries text 0 Nowhere
Searched-none entries text = record { none_equal = refl; beginning_is = refl }

beginning_of-push : (places : List ℕ) (place : ℕ) → beginning_of (places ++ place ∷ []) ≡ with_place (beginning_of places) place
beginning_of-push [] place = refl
beginning_of-push (p ∷ []) place = refl
beginning_of-push (p ∷ q ∷ ps) place = refl

one_position : (test : List ℕ → Bool) (from : ℕ) (e : List ℕ) → test e ≡ false → position_from test from (e ∷ []) ≡ None
one_position test from e f = rw f refl

position_here : (test : List ℕ → Bool) (from : ℕ) (e : List ℕ) (es : List (List ℕ)) → test e ≡ true → position_from test from (e ∷ es) ≡ Some from
position_here test from e es t = rw t refl

place_here : (test : List ℕ → Bool) (from : ℕ) (e : List ℕ) → test e ≡ true → places_from test from (e ∷ []) ≡ from ∷ []
place_here test from e t = rw t refl

no_place : (test : List ℕ → Bool) (from : ℕ) (e : List ℕ) → test e ≡ false → places_from test from (e ∷ []) ≡ []
no_place test from e f = rw f refl

front_length : (entries : List (List ℕ)) (i : ℕ) → i < length entries → 0 + length (take i entries) ≡ i
front_length entries i within = omega (arith, length-take i entries)

none_equal_more : (entries : List (List ℕ)) (text : List ℕ) (i : ℕ) (entry : List ℕ) → i < length entries → entry ≡ get_or entries i entry → bytes_eq entry text ≡ false → position_from (equals text) 0 (take i entries) ≡ None → position_from (equals text) 0 (take (i + 1) entries) ≡ None
none_equal_more entries text i entry within at differs none =
    ap (position_from (equals text) 0) (take_more entries i entry within ∙ ap (λ e. take i entries ++ e ∷ []) (sym at))
    ∙ position_from-append (equals text) 0 (take i entries) (entry ∷ []) none
    ∙ one_position (equals text) (0 + length (take i entries)) entry differs

places_more : (entries : List (List ℕ)) (text : List ℕ) (i : ℕ) (entry : List ℕ) → i < length entries → entry ≡ get_or entries i entry → places_from (begins text) 0 (take (i + 1) entries) ≡ places_from (begins text) 0 (take i entries) ++ places_from (begins text) i (entry ∷ [])
places_more entries text i entry within at =
    ap (places_from (begins text) 0) (take_more entries i entry within ∙ ap (λ e. take i entries ++ e ∷ []) (sym at))
    ∙ places_from-append (begins text) 0 (take i entries) (entry ∷ [])
    ∙ ap (λ n. places_from (begins text) 0 (take i entries) ++ places_from (begins text) n (entry ∷ [])) (front_length entries i within)

pub Searched-begins : (entries : List (List ℕ)) (text : List ℕ) (i : ℕ) (entry : List ℕ) (beginning next : Beginning) → i < length entries → entry ≡ get_or entries i entry → Searched entries text i beginning → bytes_eq entry text ≡ false → begins_with entry text ≡ true → next ≡ with_place beginning i → Searched entries text (i + 1) next
Searched-begins entries text i entry beginning next within at s differs begun is = record {
  none_equal = none_equal_more entries text i entry within at differs s.none_equal;
  beginning_is =
      is ∙ ap (λ b. with_place b i) s.beginning_is ∙ sym (beginning_of-push (places_from (begins text) 0 (take i entries)) i)
      ∙ ap (λ l. beginning_of (places_from (begins text) 0 (take i entries) ++ l)) (sym (place_here (begins text) i entry begun))
      ∙ ap beginning_of (sym (places_more entries text i entry within at));
}

pub Searched-passes : (entries : List (List ℕ)) (text : List ℕ) (i : ℕ) (entry : List ℕ) (beginning : Beginning) → i < length entries → entry ≡ get_or entries i entry → Searched entries text i beginning → bytes_eq entry text ≡ false → begins_with entry text ≡ false → Searched entries text (i + 1) beginning
Searched-passes entries text i entry beginning within at s differs begun = record {
  none_equal = none_equal_more entries text i entry within at differs s.none_equal;
  beginning_is =
      s.beginning_is
      ∙ ap beginning_of (sym (append-nil (places_from (begins text) 0 (take i entries))) ∙ ap (λ l. places_from (begins text) 0 (take i entries) ++ l) (sym (no_place (begins text) i entry begun)) ∙ sym (places_more entries text i entry within at));
}

-- an equal entry ends the pass
pub found_equal : (entries : List (List ℕ)) (text : List ℕ) (i : ℕ) (entry : List ℕ) (beginning : Beginning) → i < length entries → entry ≡ get_or entries i entry → Searched entries text i beginning → bytes_eq entry text ≡ true → Some i ≡ nearest_entry entries text
unfolding nearest_entry
found_equal entries text i entry beginning within at s equal =
    let split : entries ≡ take i entries ++ (entry ∷ drop (i + 1) entries) = sym (take-append-drop i entries) ∙ ap (λ l. take i entries ++ l) (drop_more entries i entry within ∙ ap (λ e. e ∷ drop (i + 1) entries) (sym at)) in
    let here : position_from (equals text) 0 entries ≡ Some i =
    ap (position_from (equals text) 0) split
    ∙ position_from-append (equals text) 0 (take i entries) (entry ∷ drop (i + 1) entries) s.none_equal
    ∙ position_here (equals text) (0 + length (take i entries)) entry (drop (i + 1) entries) equal
    ∙ ap Some (front_length entries i within) in
    ap (λ o. option_or o (only (places_from (begins text) 0 entries))) (sym here)

pub equal_at : (entries : List (List ℕ)) (text : List ℕ) (i : ℕ) (entry : List ℕ) → i < length entries → entry ≡ get_or entries i entry → bytes_eq entry text ≡ true → slice_get entries i ≡ Some text
equal_at entries text i entry within at equal = slice_get_read entries (length entries) i entry refl within at ∙ ap Some ((bytes_eq-Decides entry text).0 equal)

-- the end of the pass
abbrev pub place_of : Beginning → Option ℕ
place_of Nowhere = None
place_of (At place) = Some place
place_of Several = None

place_of-beginning_of : (places : List ℕ) → place_of (beginning_of places) ≡ only places
place_of-beginning_of [] = refl
place_of-beginning_of (p ∷ []) = refl
place_of-beginning_of (p ∷ q ∷ ps) = refl

pub searched_all : (entries : List (List ℕ)) (text : List ℕ) (i : ℕ) (beginning : Beginning) → length entries ≤ i → Searched entries text i beginning → place_of beginning ≡ nearest_entry entries text
unfolding nearest_entry
searched_all entries text i beginning all s =
    let whole : take i entries ≡ entries = take_all i entries all in
    let none : position_from (equals text) 0 entries ≡ None = subst (λ l. position_from (equals text) 0 l ≡ None) whole s.none_equal in
    ap place_of s.beginning_is ∙ place_of-beginning_of (places_from (begins text) 0 (take i entries))
    ∙ ap (λ l. only (places_from (begins text) 0 l)) whole
    ∙ ap (λ o. option_or o (only (places_from (begins text) 0 entries))) (sym none)

pub none_equal_all : (entries : List (List ℕ)) (text : List ℕ) (i : ℕ) (beginning : Beginning) → length entries ≤ i → Searched entries text i beginning → (k : ℕ) → slice_get entries k ≢ Some text
none_equal_all entries text i beginning all s =
    none_equal entries text (position_from-none (equals text) 0 entries (subst (λ l. position_from (equals text) 0 l ≡ None) (take_all i entries all) s.none_equal))

other_at : (o : Option (List ℕ)) (text : List ℕ) → o ≢ Some text → IfSome o (FlagsDifference true text)
other_at None text h = tt
other_at (Some entry) text h = λ e. h (ap Some e)

pub same_flag : (entries : List (List ℕ)) (text : List ℕ) (i : ℕ) → slice_get entries i ≡ Some text → IfSome (slice_get entries i) (FlagsDifference false text)
same_flag entries text i at = subst (λ o. IfSome o (FlagsDifference false text)) (sym at) refl

pub other_flag : (entries : List (List ℕ)) (text : List ℕ) (i : ℕ) → ((k : ℕ) → slice_get entries k ≢ Some text) → IfSome (slice_get entries i) (FlagsDifference true text)
other_flag entries text i none = other_at (slice_get entries i) text (none i)

-- what a pass answers
pub nearest_answer : (entries : List (List ℕ)) (text : List ℕ) (found : Option (ℕ × Bool)) → option_map (λ f. f.0) found ≡ nearest_entry entries text → IfSome found (λ f. NearestEntry entries text f.0)
nearest_answer entries text None e = tt
nearest_answer entries text (Some f) e = NearestEntry-nearest_entry entries text f.0 (sym e)

pub no_answer : (entries : List (List ℕ)) (text : List ℕ) (found : Option (ℕ × Bool)) → option_map (λ f. f.0) found ≡ nearest_entry entries text → IfNone found ((place : ℕ) → NearestEntry entries text place → ⊥)
no_answer entries text None e = nearest_entry-none entries text (sym e)
no_answer entries text (Some f) e = tt
