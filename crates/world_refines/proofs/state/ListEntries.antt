-- A list with something else in one place, and what a predicate says of it.
use Rattle.std.proofs.Common.{◌≡◌, ◌≢◌, ◌⊎◌, inl, inr, ℕ, zero, suc, ◌<◌, ◌≤◌, List, [], ◌∷◌, ◌++◌, Some, Bool, true, false, refl, ap, length, slice_get, slice_set, eqb, eqb-true, arith}
use Rattle.std.proofs.lemmas.Bool.{eqb-false}

pub set_there : {X : Type 0} (xs : List X) (i : ℕ) (x y : X) → slice_get xs i ≡ Some y → slice_get (slice_set xs i x) i ≡ Some x
set_there [] i x y h = absurd (cc)
set_there (z ∷ xs) zero x y h = refl
set_there (z ∷ xs) (suc i) x y h = set_there xs i x y h

pub set_elsewhere : {X : Type 0} (xs : List X) (i j : ℕ) (x : X) → j ≢ i → slice_get (slice_set xs i x) j ≡ slice_get xs j
set_elsewhere [] i j x n = refl
set_elsewhere (z ∷ xs) zero zero x n = absurd (n refl)
set_elsewhere (z ∷ xs) zero (suc j) x n = refl
set_elsewhere (z ∷ xs) (suc i) zero x n = refl
set_elsewhere (z ∷ xs) (suc i) (suc j) x n = set_elsewhere xs i j x (λ e. n (ap suc e))

pub set_length : {X : Type 0} (xs : List X) (i : ℕ) (x : X) → length (slice_set xs i x) ≡ length xs
set_length [] i x = refl
set_length (z ∷ xs) zero x = refl
set_length (z ∷ xs) (suc i) x = ap suc (set_length xs i x)

-- a place of a list, or none
pub there : {X : Type 0} (xs : List X) (i : ℕ) → ((x : X) × (slice_get xs i ≡ Some x)) ⊎ (length xs ≤ i)
there [] i = inr (omega arith)
there (x ∷ xs) zero = inl (x, refl)
there (x ∷ xs) (suc i) = there_more x xs i (there xs i)
  where
    there_more : {X : Type 0} (x : X) (xs : List X) (i : ℕ) → ((y : X) × (slice_get xs i ≡ Some y)) ⊎ (length xs ≤ i) → ((y : X) × (slice_get (x ∷ xs) (suc i) ≡ Some y)) ⊎ (length (x ∷ xs) ≤ suc i)
    there_more x xs i (inl h) = inl h
    there_more x xs i (inr h) = inr (omega (arith, h))

pub within : {X : Type 0} (xs : List X) (i : ℕ) (x : X) → slice_get xs i ≡ Some x → i < length xs
within [] i x h = absurd (cc)
within (z ∷ xs) zero x h = omega arith
within (z ∷ xs) (suc i) x h = let more : i < length xs = within xs i x h in omega (arith, more)

-- two numbers are one, or two
pub is_same : (i j : ℕ) → (i ≡ j) ⊎ (i ≢ j)
is_same i j = by_test i j (eqb i j) refl
  where
    by_test : (i j : ℕ) (b : Bool) → eqb i j ≡ b → (i ≡ j) ⊎ (i ≢ j)
    by_test i j true e = inl (eqb-true i j e)
    by_test i j false e = inr (eqb-false i j e)

pub nil_both : {X : Type 0} (a b : List X) → a ++ b ≡ [] → (a ≡ []) × (b ≡ [])
nil_both [] b e = (refl, e)
nil_both (x ∷ a) b e = absurd (cc)
