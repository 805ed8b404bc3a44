-- The word computed for a list is the nearest entry, and the only one.
use Rattle.std.proofs.Common.{◌≡◌, ℕ, ◌+◌, ◌<◌, ◌≤◌, pos, take, get_or, ◌⊎◌, inl, inr, Bool, true, false, cond, List, [], ◌∷◌, ◌++◌, length, arith, refl, sym, ap, ◌∙◌, subst, ℤ, append_assoc}
use Rattle.std.specs.Prelude.{fold, nat_lt, All, Contains, map}
use Rattle.std.proofs.lemmas.Bool.Decides.{nat_tests}
use Rattle.std.proofs.lemmas.List.{append-nil, take_all}
use Rattle.std.proofs.lemmas.List.Sums.{fold_more}
use Rattle.std.proofs.lemmas.List.Elements.{All-nil, All-cons, All-push, All-contains, Contains-append_left, Contains-append_right, Contains-push}
use Rattle.constraint.specs.Nearest.{distance, NearestInList, PlaceByPlace}
use Rattle.constraint.specs.NearestComputed.{closer, nearest_in_list}

pub head_is : {X : Type 0} (a b : X) (xs ys : List X) → a ∷ xs ≡ b ∷ ys → a ≡ b
head_is a b xs ys e = (cc)

pub rest_is : {X : Type 0} (a b : X) (xs ys : List X) → a ∷ xs ≡ b ∷ ys → xs ≡ ys
rest_is a b xs ys e = (cc)

Contains-here : (x : ℤ) (xs : List ℤ) → Contains (x ∷ xs) x
Contains-here x xs = Contains-append_left (x ∷ []) xs x (Contains-push [] x)

Contains-later : (x y : ℤ) (xs : List ℤ) → Contains xs y → Contains (x ∷ xs) y
Contains-later x y xs c = Contains-append_right (x ∷ []) xs y c

Contains-split : (before after : List ℤ) (x : ℤ) → Contains (before ++ x ∷ after) x
Contains-split before after x = Contains-append_right before (x ∷ after) x (Contains-here x after)

-- two places of one list are the same, or one stands before the other
split_cases : (b1 b2 a1 a2 : List ℤ) (x y : ℤ) → b1 ++ x ∷ a1 ≡ b2 ++ y ∷ a2 → (x ≡ y) ⊎ (Contains b2 x ⊎ Contains b1 y)
split_cases [] [] a1 a2 x y e = inl (head_is x y a1 a2 e)
split_cases [] (z ∷ b2) a1 a2 x y e = inr (inl (subst (Contains (z ∷ b2)) (sym (head_is x z a1 (b2 ++ y ∷ a2) e)) (Contains-here z b2)))
split_cases (z ∷ b1) [] a1 a2 x y e = inr (inr (subst (Contains (z ∷ b1)) (head_is z y (b1 ++ x ∷ a1) a2 e) (Contains-here z b1)))
split_cases (z ∷ b1) (w ∷ b2) a1 a2 x y e = elim (split_cases b1 b2 a1 a2 x y (rest_is z w (b1 ++ x ∷ a1) (b2 ++ y ∷ a2) e)) [
  | inl same ↦ inl same
  | inr apart ↦ elim apart [
    | inl first ↦ inr (inl (Contains-later w x b2 first))
    | inr second ↦ inr (inr (Contains-later z y b1 second))
  ]
]

Contains-nearest : (entries : List ℤ) (asked word : ℤ) → NearestInList entries asked word → Contains entries word
Contains-nearest entries asked word n = subst (λ l. Contains l word) (sym n.listed) (Contains-split n.before n.after word)

farther : (asked x y : ℤ) → distance asked x ≤ distance asked y → distance asked y < distance asked x → ⊥
farther asked x y h g = omega arith

pub NearestInList-unique : (entries : List ℤ) (asked a b : ℤ) → NearestInList entries asked a → NearestInList entries asked b → a ≡ b
NearestInList-unique entries asked a b x y = elim (split_cases x.before y.before x.after y.after a b (sym x.listed ∙ y.listed)) [
  | inl same ↦ same
  | inr apart ↦ elim apart [
    | inl first ↦ absurd (farther asked a b (All-contains (λ other. distance asked a ≤ distance asked other) entries b x.closest (Contains-nearest entries asked b y)) (All-contains (λ other. distance asked b < distance asked other) y.before a y.first first))
    | inr second ↦ absurd (farther asked b a (All-contains (λ other. distance asked b ≤ distance asked other) entries a y.closest (Contains-nearest entries asked a x)) (All-contains (λ other. distance asked a < distance asked other) x.before b x.first second))
  ]
]

-- ---- one entry more

All-weaker : (P Q : ℤ → Type 0) (xs : List ℤ) → ((x : ℤ) → P x → Q x) → All P xs → All Q xs
All-weaker P Q xs f all = λ k d h. f _ (all k d h)

taken : (done : List ℤ) (asked best word : ℤ) → NearestInList done asked best → distance asked word < distance asked best → NearestInList (done ++ word ∷ []) asked word
taken done asked best word n less =
    let far : All (λ other. distance asked word < distance asked other) done = All-weaker (λ other. distance asked best ≤ distance asked other) (λ other. distance asked word < distance asked other) done (λ x h. omega (arith, h)) n.closest in
    record {
      before = done;
      after = [];
      listed = refl;
      closest = All-push (λ other. distance asked word ≤ distance asked other) done word (All-weaker (λ other. distance asked word < distance asked other) (λ other. distance asked word ≤ distance asked other) done (λ x h. omega (arith, h)) far) (omega arith);
      first = far;
    }

kept : (done : List ℤ) (asked best word : ℤ) → NearestInList done asked best → distance asked best ≤ distance asked word → NearestInList (done ++ word ∷ []) asked best
kept done asked best word n more = record {
  before = n.before;
  after = n.after ++ word ∷ [];
  listed = ap (λ l. l ++ word ∷ []) n.listed ∙ append_assoc n.before (best ∷ n.after) (word ∷ []);
  closest = All-push (λ other. distance asked best ≤ distance asked other) done word n.closest more;
  first = n.first;
}

less_is : (m n : ℕ) → nat_lt m n ≡ true → m < n
less_is m n e = grind (arith, nat_tests)

more_is : (m n : ℕ) → nat_lt m n ≡ false → n ≤ m
more_is m n e = grind (arith, nat_tests)

NearestInList-more : (done : List ℤ) (asked best word : ℤ) → NearestInList done asked best → NearestInList (done ++ word ∷ []) asked (closer asked best word)
NearestInList-more done asked best word n =
    let P : Bool → Type 0 = λ t. nat_lt (distance asked word) (distance asked best) ≡ t → NearestInList (done ++ word ∷ []) asked (cond t word best) in
    elim (nat_lt (distance asked word) (distance asked best)) as P [
      | true ↦ λ e. taken done asked best word n (less_is _ _ e)
      | false ↦ λ e. kept done asked best word n (more_is _ _ e)
    ] refl

NearestInList-fold : (done words : List ℤ) (asked best : ℤ) → NearestInList done asked best → NearestInList (done ++ words) asked (fold (closer asked) best words)
NearestInList-fold done [] asked best n = subst (λ l. NearestInList l asked best) (sym (append-nil done)) n
NearestInList-fold done (word ∷ words) asked best n =
    subst (λ l. NearestInList l asked (fold (closer asked) (closer asked best word) words)) (append_assoc done (word ∷ []) words)
    (NearestInList-fold (done ++ word ∷ []) words asked (closer asked best word) (NearestInList-more done asked best word n))

NearestInList-one : (word asked : ℤ) → NearestInList (word ∷ []) asked word
NearestInList-one word asked = record {
  before = [];
  after = [];
  listed = refl;
  closest = All-cons (λ other. distance asked word ≤ distance asked other) word [] (omega arith) (All-nil (λ other. distance asked word ≤ distance asked other));
  first = All-nil (λ other. distance asked word < distance asked other);
}

pub NearestInList-nearest_in_list : (entries : List ℤ) (asked : ℤ) → 1 ≤ length entries → NearestInList entries asked (nearest_in_list entries asked)
unfolding nearest_in_list
NearestInList-nearest_in_list [] asked some = absurd (let h : 1 ≤ 0 = some in omega arith)
NearestInList-nearest_in_list (word ∷ words) asked some = NearestInList-fold (word ∷ []) words asked word (NearestInList-one word asked)

-- ---- place by place

pub both : (x y : ℤ) (xs ys : List ℤ) → x ≡ y → xs ≡ ys → x ∷ xs ≡ y ∷ ys
both x y xs ys e f = (cc)

pub PlaceByPlace-map : (R : ℤ → ℤ → Type 0) (f : ℤ → ℤ) (words : List ℤ) → ((word : ℤ) → R word (f word)) → PlaceByPlace R words (map f words)
PlaceByPlace-map R f [] each = tt
PlaceByPlace-map R f (word ∷ words) each = (each word, PlaceByPlace-map R f words each)

pub PlaceByPlace-unique : (R : ℤ → ℤ → Type 0) (asked xs ys : List ℤ) → ((v a b : ℤ) → R v a → R v b → a ≡ b) → PlaceByPlace R asked xs → PlaceByPlace R asked ys → xs ≡ ys
PlaceByPlace-unique R [] [] [] each p q = refl
PlaceByPlace-unique R [] [] (y ∷ ys) each p q = absurd q
PlaceByPlace-unique R [] (x ∷ xs) ys each p q = absurd p
PlaceByPlace-unique R (v ∷ vs) [] ys each p q = absurd p
PlaceByPlace-unique R (v ∷ vs) (x ∷ xs) [] each p q = absurd q
PlaceByPlace-unique R (v ∷ vs) (x ∷ xs) (y ∷ ys) each p q = both x y xs ys (each v x y p.0 q.0) (PlaceByPlace-unique R vs xs ys each p.1 q.1)

-- ---- the best so far

pub best_more : (asked : ℤ) (entries : List ℤ) (i : ℕ) (first best entry next : ℤ) → i < length entries → entry ≡ get_or entries i (pos 0) → best ≡ fold (closer asked) first (take i entries) → next ≡ closer asked best entry → next ≡ fold (closer asked) first (take (i + 1) entries)
best_more asked entries i first best entry next within at so_far step =
    step ∙ ap (λ b. closer asked b entry) so_far ∙ ap (closer asked (fold (closer asked) first (take i entries))) at ∙ sym (fold_more (closer asked) first entries i (pos 0) within)

closer_same : (asked word : ℤ) → closer asked word word ≡ word
closer_same asked word =
    let P : Bool → Type 0 = λ t. cond t word word ≡ word in
    elim (nat_lt (distance asked word) (distance asked word)) as P [ true ↦ refl | false ↦ refl ]

best_of : (asked : ℤ) (entries : List ℤ) → 1 ≤ length entries → fold (closer asked) (get_or entries 0 (pos 0)) entries ≡ nearest_in_list entries asked
unfolding nearest_in_list
best_of asked [] some = absurd (let h : 1 ≤ 0 = some in omega arith)
best_of asked (word ∷ words) some = ap (λ b. fold (closer asked) b words) (closer_same asked word)

pub best_all : (asked : ℤ) (entries : List ℤ) (i : ℕ) (best : ℤ) → 1 ≤ length entries → length entries ≤ i → best ≡ fold (closer asked) (get_or entries 0 (pos 0)) (take i entries) → best ≡ nearest_in_list entries asked
best_all asked entries i best some all so_far =
    so_far ∙ ap (fold (closer asked) (get_or entries 0 (pos 0))) (take_all i entries all) ∙ best_of asked entries some
