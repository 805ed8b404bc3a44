-- The first of a list that is so, by its place.
use Rattle.std.proofs.Common.{◌≡◌, ◌<◌, ◌∙◌, ℕ, zero, suc, arith, length, List, [], ◌∷◌, map, nat_lt, Some, None, Bool, true, false, refl, ap, sym, slice_index_or, slice_set}
use Rattle.std.specs.List.{position, position_or_len, list_any}
use Rattle.std.proofs.lemmas.List.Quantifiers.{position-Some}
use Rattle.std.proofs.lemmas.List.Sums.{fails_before_first}
use Rattle.std.proofs.lemmas.Bool.Decides.{nat_tests}
use Rattle.saned_core.specs.Loading.{first_answer_of, on_first}
use Rattle.saned_core.specs.Inside.{IsFirstOf, IsNoneOf}
use Rattle.saned_core.proofs.SlotNumbers.{not_some}

pub first_found : {A : Type 0} (p : A → Bool) (xs : List A) (k : ℕ) → position p xs ≡ Some k → IsFirstOf p xs k
first_found p xs k e = record {
  within = position_within p xs k e;
  is = λ d. (position-Some p xs k d e).1;
  before = λ j d l. (position-Some p xs k d e).2 j l;
}
  where
    position_within : {A : Type 0} (p : A → Bool) (xs : List A) (k : ℕ) → position p xs ≡ Some k → k < length xs
    position_within p [] k e = absurd (cc)
    position_within p (x ∷ xs) k e = (position-Some p (x ∷ xs) k x e).0

pub none_found : {A : Type 0} (p : A → Bool) (xs : List A) → position p xs ≡ None → IsNoneOf p xs
none_found p xs e =
    let past : nat_lt (position_or_len p xs) (length xs) ≡ false = not_some (nat_lt (position_or_len p xs) (length xs)) _ e in
    λ k d l. fails_before_first p xs k d (grind (arith, nat_tests))

pub first_told : {A B C : Type 0} (see : A → B) (p : B → Bool) (tells : B → C) (xs : List A) (k : ℕ) (here : A) (other : C) → IsFirstOf (λ x. p (see x)) xs k → here ≡ slice_index_or xs k here → first_answer_of p tells (map see xs) other ≡ tells (see here)
unfolding first_answer_of
first_told see p tells [] k here other i e = absurd (omega (arith, i.within))
first_told see p tells (x ∷ xs) zero here other i e =
    let own : p (see x) ≡ true = i.is x in
    rw own (ap (λ y. tells (see y)) (sym e))
first_told see p tells (x ∷ xs) (suc k) here other i e =
    let not_own : p (see x) ≡ false = i.before 0 x (omega arith) in
    rw not_own (first_told see p tells xs k here other (record { within = (let l : suc k < length (x ∷ xs) = i.within in omega arith); is = i.is; before = λ j d l. i.before (suc j) d (omega arith) }) e)

pub first_changed : {A B : Type 0} (see : A → B) (p : B → Bool) (f : B → B) (xs : List A) (k : ℕ) (here new : A) → IsFirstOf (λ x. p (see x)) xs k → here ≡ slice_index_or xs k here → see new ≡ f (see here) → map see (slice_set xs k new) ≡ on_first p f (map see xs)
unfolding on_first
first_changed see p f [] k here new i e w = absurd (omega (arith, i.within))
first_changed see p f (x ∷ xs) zero here new i e w =
    let own : p (see x) ≡ true = i.is x in
    rw own (ap (λ y. y ∷ map see xs) (w ∙ ap (λ y. f (see y)) e))
first_changed see p f (x ∷ xs) (suc k) here new i e w =
    let not_own : p (see x) ≡ false = i.before 0 x (omega arith) in
    rw not_own (ap (λ ys. see x ∷ ys) (first_changed see p f xs k here new (record { within = (let l : suc k < length (x ∷ xs) = i.within in omega arith); is = i.is; before = λ j d l. i.before (suc j) d (omega arith) }) e w))

pub first_any : {A B : Type 0} (see : A → B) (p : B → Bool) (xs : List A) (k : ℕ) → IsFirstOf (λ x. p (see x)) xs k → list_any p (map see xs) ≡ true
first_any see p [] k i = absurd (omega (arith, i.within))
first_any see p (x ∷ xs) zero i =
    let own : p (see x) ≡ true = i.is x in
    rw own refl
first_any see p (x ∷ xs) (suc k) i =
    let not_own : p (see x) ≡ false = i.before 0 x (omega arith) in
    rw not_own (first_any see p xs k (record { within = (let l : suc k < length (x ∷ xs) = i.within in omega arith); is = i.is; before = λ j d l. i.before (suc j) d (omega arith) }))

pub none_told : {A B C : Type 0} (see : A → B) (p : B → Bool) (tells : B → C) (xs : List A) (other : C) → IsNoneOf (λ x. p (see x)) xs → first_answer_of p tells (map see xs) other ≡ other
unfolding first_answer_of
none_told see p tells [] other h = refl
none_told see p tells (x ∷ xs) other h =
    let not_own : p (see x) ≡ false = h 0 x (omega arith) in
    rw not_own (none_told see p tells xs other (λ k d i. h (suc k) d (omega arith)))

pub none_changed : {A B : Type 0} (see : A → B) (p : B → Bool) (f : B → B) (xs : List A) → IsNoneOf (λ x. p (see x)) xs → on_first p f (map see xs) ≡ map see xs
unfolding on_first
none_changed see p f [] h = refl
none_changed see p f (x ∷ xs) h =
    let not_own : p (see x) ≡ false = h 0 x (omega arith) in
    rw not_own (ap (λ ys. see x ∷ ys) (none_changed see p f xs (λ k d i. h (suc k) d (omega arith))))

pub none_any : {A B : Type 0} (see : A → B) (p : B → Bool) (xs : List A) → IsNoneOf (λ x. p (see x)) xs → list_any p (map see xs) ≡ false
none_any see p [] h = refl
none_any see p (x ∷ xs) h =
    let not_own : p (see x) ≡ false = h 0 x (omega arith) in
    rw not_own (none_any see p xs (λ k d i. h (suc k) d (omega arith)))
