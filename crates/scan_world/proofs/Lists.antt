-- Members of lists.
use Rattle.std.specs.Prelude.{Contains, length, slice_index_or, ◌<◌}
use Rattle.std.specs.List.{AllByRecursion}
use Rattle.std.proofs.lemmas.List.{get_or_default}
use Rattle.std.proofs.Common.{◌≡◌, ◌∙◌, ◌⊎◌, ℕ, zero, suc, List, [], ◌∷◌, ◌++◌, ◌+◌, Some, None, refl, sym, ap, subst, inl, inr, arith, slice_get}

-- this is one of them
abbrev pub In : {X : Type 0} → X → List X → Type 0
In x [] = ⊥
In x (y ∷ ys) = (x ≡ y) ⊎ In x ys

pub contains_at : {X : Type 0} (xs : List X) (k : ℕ) (x : X) → slice_get xs k ≡ Some x → Contains xs x
contains_at [] k x e = absurd (let clash : None ≡ Some x = e in cc)
contains_at (y ∷ ys) zero x e = (0, omega arith, (let same : Some y ≡ Some x = e in cc))
contains_at (y ∷ ys) (suc k) x e = let r = contains_at ys k x e in (suc r.0, omega (arith, r.1), r.2)

in_at : {X : Type 0} (xs : List X) (k : ℕ) (x : X) → k < length xs → slice_index_or xs k x ≡ x → In x xs
in_at [] k x low e = absurd (omega (arith, low))
in_at (y ∷ ys) zero x low e = inl (sym e)
in_at (y ∷ ys) (suc k) x low e = inr (in_at ys k x (omega (arith, low)) e)

pub in_list : {X : Type 0} (xs : List X) (x : X) → Contains xs x → In x xs
in_list xs x c = in_at xs c.0 x c.1 c.2

pub contains_in : {X : Type 0} (xs : List X) (x : X) → In x xs → Contains xs x
contains_in [] x e = absurd e
contains_in (y ∷ ys) x (inl e) = (0, omega arith, sym e)
contains_in (y ∷ ys) x (inr e) = let r = contains_in ys x e in (suc r.0, omega (arith, r.1), r.2)

in_middle : {X : Type 0} (front back : List X) (x : X) → In x (front ++ x ∷ back)
in_middle [] back x = inl refl
in_middle (y ∷ front) back x = inr (in_middle front back x)

pub in_split : {X : Type 0} (xs front back : List X) (x : X) → xs ≡ front ++ x ∷ back → Contains xs x
in_split {X = X} xs front back x split = subst (λ (ys : List X). Contains ys x) (sym split) (contains_in (front ++ x ∷ back) x (in_middle front back x))

pub in_either : {X : Type 0} (xs ys : List X) (e : X) → In e (xs ++ ys) → In e xs ⊎ In e ys
in_either [] ys e among = inr among
in_either (x ∷ xs) ys e (inl same) = inl (inl same)
in_either (x ∷ xs) ys e (inr among) = elim (in_either xs ys e among) [
  | inl here ↦ inl (inr here)
  | inr there ↦ inr there
]

pub in_front : {X : Type 0} (xs ys : List X) (e : X) → In e xs → In e (xs ++ ys)
in_front [] ys e among = absurd among
in_front (x ∷ xs) ys e (inl same) = inl same
in_front (x ∷ xs) ys e (inr among) = inr (in_front xs ys e among)

pub all_then : {X : Type 0} (P : X → Type 0) (xs ys : List X) → AllByRecursion P xs → AllByRecursion P ys → AllByRecursion P (xs ++ ys)
all_then P [] ys a b = b
all_then P (x ∷ xs) ys a b = (a.0, all_then P xs ys a.1 b)

pub all_front : {X : Type 0} (P : X → Type 0) (xs ys : List X) → AllByRecursion P (xs ++ ys) → AllByRecursion P xs
all_front P [] ys a = tt
all_front P (x ∷ xs) ys a = (a.0, all_front P xs ys a.1)

pub all_back : {X : Type 0} (P : X → Type 0) (xs ys : List X) → AllByRecursion P (xs ++ ys) → AllByRecursion P ys
all_back P [] ys a = a
all_back P (x ∷ xs) ys a = all_back P xs ys a.1

pub all_each : {X : Type 0} (P Q : X → Type 0) (xs : List X) → ((x : X) → P x → Q x) → AllByRecursion P xs → AllByRecursion Q xs
all_each P Q [] h a = tt
all_each P Q (x ∷ xs) h a = (h x a.0, all_each P Q xs h a.1)

-- where it is so of each of them
pub all_in : {X : Type 0} (P : X → Type 0) (xs : List X) → ((x : X) → In x xs → P x) → AllByRecursion P xs
all_in P [] h = tt
all_in P (x ∷ xs) h = (h x (inl refl), all_in P xs (λ y e. h y (inr e)))

pub at_all : {X : Type 0} (P : X → Type 0) (xs : List X) (k : ℕ) (x : X) → AllByRecursion P xs → slice_get xs k ≡ Some x → P x
at_all P [] k x a e = absurd (let clash : None ≡ Some x = e in cc)
at_all P (y ∷ ys) zero x a e = subst P (let same : Some y ≡ Some x = e in cc) a.0
at_all P (y ∷ ys) (suc k) x a e = at_all P ys k x a.1 e

-- ---- what holds of each item so far

below_suc : (k i : ℕ) → (k < i) ⊎ (k ≡ i) → (suc k < suc i) ⊎ (suc k ≡ suc i)
below_suc k i (inl h) = inl (omega (arith, h))
below_suc k i (inr e) = inr (ap suc e)

pub below : (k i : ℕ) → k < i + 1 → (k < i) ⊎ (k ≡ i)
below zero zero h = inr refl
below zero (suc i) h = inl (omega arith)
below (suc k) zero h = absurd (omega (arith, h))
below (suc k) (suc i) h = below_suc k i (below k i (omega (arith, h)))

-- it holds of the next one too
pub next_too : {X : Type 0} (P : X → Type 0) (xs : List X) (i : ℕ) (x : X) → x ≡ slice_index_or xs i x → P x → ((k : ℕ) (d : X) → k < i → k < length xs → P (slice_index_or xs k d)) → (k : ℕ) (d : X) → (k < i) ⊎ (k ≡ i) → k < length xs → P (slice_index_or xs k d)
next_too P xs i x at is before k d (inl less) within = before k d less within
next_too P xs i x at is before k d (inr e) within =
    subst P (at ∙ subst (λ (n : ℕ). slice_index_or xs n x ≡ slice_index_or xs k d) e (get_or_default xs k x d within)) is
