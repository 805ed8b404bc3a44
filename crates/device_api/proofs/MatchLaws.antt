-- A text is matched with an entry where one equals it, or just one begins with it.
use Rattle.std.proofs.Common.{◌≡◌, ◌+◌, ◌==◌, ◌||◌, ◌∙◌, ap, refl, ℕ, suc, Bool, true, false, cond, List, [], ◌∷◌, length, map, filter, arith}
use Rattle.std.specs.Prelude.{Option, Some, None, is_some}
use Rattle.std.specs.List.{list_any, position_from}
use Rattle.std.specs.Str.{bytes_eq}
use Rattle.std.proofs.lemmas.Bool.Decides.{nat_tests}
use Rattle.constraint.specs.NearestComputed.{begins_with, places_from, only, nearest_entry}
use Rattle.std.specs.Option.{option_or}

is_some-cond : (b : Bool) (k : ℕ) (o : Option ℕ) → is_some (cond b (Some k) o) ≡ (b || is_some o)
is_some-cond true k o = refl
is_some-cond false k o = refl

found_any : {A : Type 0} (f : A → List ℕ) (test : List ℕ → Bool) (k : ℕ) (xs : List A) → is_some (position_from test k (map f xs)) ≡ list_any (λ x. test (f x)) xs
found_any f test k [] = refl
found_any f test k (x ∷ xs) =
    is_some-cond (test (f x)) k (position_from test (k + 1) (map f xs)) ∙ ap (λ b. test (f x) || b) (found_any f test (k + 1) xs)

places_count : {A : Type 0} (f : A → List ℕ) (test : List ℕ → Bool) (k : ℕ) (xs : List A) → length (places_from test k (map f xs)) ≡ length (filter (λ x. test (f x)) xs)
places_count f test k [] = refl
places_count f test k (x ∷ xs) = counted f test k x xs (test (f x)) (places_count f test (k + 1) xs)
  where
    counted : {A : Type 0} (f : A → List ℕ) (test : List ℕ → Bool) (k : ℕ) (x : A) (xs : List A) (b : Bool) → length (places_from test (k + 1) (map f xs)) ≡ length (filter (λ x. test (f x)) xs) → length (cond b (k ∷ places_from test (k + 1) (map f xs)) (places_from test (k + 1) (map f xs))) ≡ length (cond b (x ∷ filter (λ x. test (f x)) xs) (filter (λ x. test (f x)) xs))
    counted f test k x xs true e = ap suc e
    counted f test k x xs false e = e

is_some-only : (places : List ℕ) → is_some (only places) ≡ (length places == 1)
is_some-only [] = refl
is_some-only (p ∷ []) = refl
is_some-only (p ∷ q ∷ ps) = grind (arith, nat_tests)

is_some-option_or : (a b : Option ℕ) → is_some (option_or a b) ≡ (is_some a || is_some b)
is_some-option_or (Some a) b = refl
is_some-option_or None b = refl

pub matched : {A : Type 0} (f : A → List ℕ) (xs : List A) (text : List ℕ) → is_some (nearest_entry (map f xs) text) ≡ (list_any (λ x. bytes_eq (f x) text) xs || (length (filter (λ x. begins_with (f x) text) xs) == 1))
unfolding nearest_entry
matched f xs text =
    let first : Option ℕ = position_from (λ entry. bytes_eq entry text) 0 (map f xs) in
    let places : List ℕ = places_from (λ entry. begins_with entry text) 0 (map f xs) in
    is_some-option_or first (only places)
    ∙ ap (λ b. b || is_some (only places)) (found_any f (λ entry. bytes_eq entry text) 0 xs)
    ∙ ap (λ b. list_any (λ x. bytes_eq (f x) text) xs || b) (is_some-only places ∙ ap (λ n. n == 1) (places_count f (λ entry. begins_with entry text) 0 xs))
