-- Pages taken one after another.
use Rattle.std.proofs.Common.{◌≡◌, ◌∙◌, ◌<◌, ◌+◌, ℕ, List, [], ◌∷◌, ◌++◌, ap, subst, sym, map, take, length}
use Rattle.std.specs.Prelude.{get_or}
use Rattle.std.specs.List.{AllZip}
use Rattle.std.proofs.lemmas.List.{take_more, map-append}

zip_push : {A B : Type 0} (R : A → B → Type 0) (xs : List A) (ys : List B) (x : A) (y : B) → AllZip R xs ys → R x y → AllZip R (xs ++ x ∷ []) (ys ++ y ∷ [])
zip_push R [] [] x y h r = (r, tt)
zip_push R [] (b ∷ ys) x y h r = absurd h
zip_push R (a ∷ xs) [] x y h r = absurd h
zip_push R (a ∷ xs) (b ∷ ys) x y h r = (h.0, zip_push R xs ys x y h.1 r)

pub one_more : {A B C : Type 0} (R : A → C → Type 0) (f : B → C) (xs : List A) (ys : List B) (i : ℕ) (x : A) (y : B) → i < length xs → x ≡ get_or xs i x → AllZip R (take i xs) (map f ys) → R x (f y) → AllZip R (take (i + 1) xs) (map f (ys ++ y ∷ []))
one_more R f xs ys i x y within at h r =
    subst (λ l. AllZip R (take (i + 1) xs) l) (sym (map-append f ys (y ∷ [])))
    (subst (λ l. AllZip R l (map f ys ++ f y ∷ [])) (ap (λ z. take i xs ++ z ∷ []) at ∙ sym (take_more xs i x within)) (zip_push R (take i xs) (map f ys) x (f y) h r))
