-- Values taken apart.
use Rattle.std.proofs.Common.{◌≡◌, List, [], ◌∷◌, Option, Some, None, refl}
use Rattle.std.specs.Prelude.{Ok, Result}
use Rattle.std.specs.List.{AllZip}

pub some_is : {A : Type 0} (x y : A) → Some x ≡ Some y → x ≡ y
some_is x y e = cc

pub ok_is : {A E : Type 0} (x y : A) → ◌≡◌ {A = Result A E} (Ok x) (Ok y) → x ≡ y
ok_is x y e = cc

pub not_none : {A : Type 0} (x : A) → ◌≡◌ {A = Option A} None (Some x) → ⊥
not_none x e = cc

pub head_is : {A : Type 0} (x y : A) (xs ys : List A) → x ∷ xs ≡ y ∷ ys → x ≡ y
head_is x y xs ys e = cc

pub tail_is : {A : Type 0} (x y : A) (xs ys : List A) → x ∷ xs ≡ y ∷ ys → xs ≡ ys
tail_is x y xs ys e = cc

pub not_empty : {A : Type 0} (x : A) (xs : List A) → ◌≡◌ {A = List A} [] (x ∷ xs) → ⊥
not_empty x xs e = cc

pub one_zip : {A B : Type 0} (R : A → B → Type 0) (x : A) (ys : List B) → AllZip R (x ∷ []) ys → (y : B) × (ys ≡ y ∷ []) × R x y
one_zip R x [] z = absurd z
one_zip R x (y ∷ []) z = (y, refl, z.0)
one_zip R x (y ∷ w ∷ ys) z = absurd z.1

pub two_zip : {A B : Type 0} (R : A → B → Type 0) (x v : A) (ys : List B) → AllZip R (x ∷ v ∷ []) ys → (y w : B) × (ys ≡ y ∷ w ∷ []) × R x y × R v w
two_zip R x v [] z = absurd z
two_zip R x v (y ∷ []) z = absurd z.1
two_zip R x v (y ∷ w ∷ []) z = (y, w, refl, z.0, z.1.0)
two_zip R x v (y ∷ w ∷ u ∷ ys) z = absurd z.1.1
