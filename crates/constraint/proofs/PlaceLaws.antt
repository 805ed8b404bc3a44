-- Words that are put to the nearest one, place by place.
use Rattle.std.proofs.Common.{◌≡◌, ◌≢◌, ℕ, suc, ◌<◌, ◌≤◌, ◌+◌, Bool, true, false, ◌||◌, List, [], ◌∷◌, ◌++◌, length, take, drop, map, get_or, set, refl, sym, ap, ◌∙◌, subst, ℤ, arith}
use Rattle.std.proofs.lemmas.List.{take_more, take_all, drop_all, append-nil, get_or-append_right, length-take, take-append-drop}
use Rattle.std.proofs.lemmas.List.Edits.{map_over_more}
use Rattle.constraint.proofs.ListLaws.{head_is, rest_is, both}
use Rattle.constraint.specs.Nearest.{PlaceByPlace, FlagsDifference}

-- the places below i hold what f gives, which is what R asks; the others are as they were
pub record PutBelow (R : ℤ → ℤ → Type 0) (f : ℤ → ℤ) (old new : List ℤ) (i : ℕ) (differs : Bool) : Type 0 where
  pub words : new ≡ map f (take i old) ++ drop i old
  pub each : PlaceByPlace R (take i old) (map f (take i old))
  pub flag : FlagsDifference differs (take i old) (map f (take i old))

pub PutBelow-none : (R : ℤ → ℤ → Type 0) (f : ℤ → ℤ) (old : List ℤ) → PutBelow R f old old 0 false
PutBelow-none R f old = record { words = refl; each = tt; flag = refl }

map-push : (f : ℤ → ℤ) (xs : List ℤ) (x : ℤ) → map f (xs ++ x ∷ []) ≡ map f xs ++ f x ∷ []
map-push f [] x = refl
map-push f (y ∷ xs) x = ap (λ l. f y ∷ l) (map-push f xs x)

PlaceByPlace-push : (R : ℤ → ℤ → Type 0) (xs ys : List ℤ) (x y : ℤ) → PlaceByPlace R xs ys → R x y → PlaceByPlace R (xs ++ x ∷ []) (ys ++ y ∷ [])
PlaceByPlace-push R [] [] x y p r = (r, tt)
PlaceByPlace-push R [] (b ∷ ys) x y p r = absurd p
PlaceByPlace-push R (a ∷ xs) [] x y p r = absurd p
PlaceByPlace-push R (a ∷ xs) (b ∷ ys) x y p r = (p.0, PlaceByPlace-push R xs ys x y p.1 r)

length-map : (f : ℤ → ℤ) (xs : List ℤ) → length (map f xs) ≡ length xs
length-map f [] = refl
length-map f (x ∷ xs) = ap suc (length-map f xs)

last_is : (xs ys : List ℤ) (x y : ℤ) → length xs ≡ length ys → xs ++ x ∷ [] ≡ ys ++ y ∷ [] → (xs ≡ ys) × (x ≡ y)
last_is [] [] x y n e = (refl, head_is x y [] [] e)
last_is [] (b ∷ ys) x y n e = absurd (let h : 0 ≡ suc (length ys) = n in omega arith)
last_is (a ∷ xs) [] x y n e = absurd (let h : suc (length xs) ≡ 0 = n in omega arith)
last_is (a ∷ xs) (b ∷ ys) x y n e =
    let more = last_is xs ys x y (let h : suc (length xs) ≡ suc (length ys) = n in omega arith) (rest_is a b (xs ++ x ∷ []) (ys ++ y ∷ []) e) in
    (both a b xs ys (head_is a b (xs ++ x ∷ []) (ys ++ y ∷ []) e) more.0, more.1)

tells_push : (d e : Bool) (xs ys : List ℤ) (x y : ℤ) → length ys ≡ length xs → FlagsDifference d xs ys → FlagsDifference e x y → FlagsDifference (d || e) (xs ++ x ∷ []) (ys ++ y ∷ [])
tells_push true e xs ys x y n p q = λ same. p (last_is ys xs y x n same).0
tells_push false true xs ys x y n p q = λ same. q (last_is ys xs y x n same).1
tells_push false false xs ys x y n p q = subst (λ l. l ++ y ∷ [] ≡ xs ++ x ∷ []) (sym p) (ap (λ z. xs ++ z ∷ []) q)

at_rest : (f : ℤ → ℤ) (old new : List ℤ) (i : ℕ) (word : ℤ) → i < length old → new ≡ map f (take i old) ++ drop i old → word ≡ get_or new i word → word ≡ get_or old i word
at_rest f old new i word within words at =
    let front : length (take i old) ≡ i = omega (arith, length-take i old) in
    let mapped : length (map f (take i old)) ≡ i = length-map f (take i old) ∙ front in
    let here : i ≤ i = omega arith in
    at
    ∙ ap (λ l. get_or l i word) words
    ∙ get_or-append_right (map f (take i old)) (drop i old) i i word mapped here
    ∙ sym (get_or-append_right (take i old) (drop i old) i i word front here)
    ∙ ap (λ l. get_or l i word) (take-append-drop i old)

pub PutBelow-more : (R : ℤ → ℤ → Type 0) (f : ℤ → ℤ) (old new : List ℤ) (i : ℕ) (differs changed : Bool) (word nearest : ℤ) → i < length old → PutBelow R f old new i differs → word ≡ get_or new i word → nearest ≡ f word → R word nearest → FlagsDifference changed word nearest → PutBelow R f old (set new i nearest) (i + 1) (differs || changed)
PutBelow-more R f old new i differs changed word nearest within p at is here tells =
    let here2 : R word (f word) = subst (R word) is here in
    let tells2 : FlagsDifference changed word (f word) = subst (FlagsDifference changed word) is tells in
    let more : take (i + 1) old ≡ take i old ++ word ∷ [] = take_more old i word within ∙ ap (λ x. take i old ++ x ∷ []) (sym (at_rest f old new i word within p.words at)) in
    let mapped : map f (take (i + 1) old) ≡ map f (take i old) ++ f word ∷ [] = ap (map f) more ∙ map-push f (take i old) word in
    record {
      words = ap (set new i) is ∙ map_over_more f old new i word within p.words at;
      each = subst (λ l. PlaceByPlace R l (map f (take (i + 1) old))) (sym more) (subst (PlaceByPlace R (take i old ++ word ∷ [])) (sym mapped) (PlaceByPlace-push R (take i old) (map f (take i old)) word (f word) p.each here2));
      flag = subst (λ l. FlagsDifference (differs || changed) l (map f (take (i + 1) old))) (sym more) (subst (FlagsDifference (differs || changed) (take i old ++ word ∷ [])) (sym mapped) (tells_push differs changed (take i old) (map f (take i old)) word (f word) (length-map f (take i old)) p.flag tells2));
    }

-- all places
pub record PutAll (R : ℤ → ℤ → Type 0) (f : ℤ → ℤ) (old new : List ℤ) (differs : Bool) : Type 0 where
  pub value : new ≡ map f old
  pub nearest : PlaceByPlace R old new
  pub differs_is : FlagsDifference differs old new

pub PutAll-below : (R : ℤ → ℤ → Type 0) (f : ℤ → ℤ) (old new : List ℤ) (i : ℕ) (differs : Bool) → length old ≤ i → PutBelow R f old new i differs → PutAll R f old new differs
PutAll-below R f old new i differs all p =
    let whole : take i old ≡ old = take_all i old all in
    let none : drop i old ≡ [] = drop_all i old all in
    let value : new ≡ map f old = p.words ∙ ap (λ l. map f (take i old) ++ l) none ∙ append-nil (map f (take i old)) ∙ ap (map f) whole in
    record {
      value = value;
      nearest = subst (PlaceByPlace R old) (sym value) (subst (λ l. PlaceByPlace R l (map f l)) whole p.each);
      differs_is = subst (FlagsDifference differs old) (sym value) (subst (λ l. FlagsDifference differs l (map f l)) whole p.flag);
    }
