-- How many slots have a session.
use Rattle.std.proofs.Common.{◌≡◌, ◌≢◌, ◌≤◌, ◌<◌, ◌⊎◌, inl, inr, ℕ, zero, suc, ◌+◌, Bool, true, false, Option, None, Some, List, refl, sym, ap, ◌∙◌, arith}
use Rattle.std.proofs.Math.Dec.{eqb}
use Rattle.std.proofs.lemmas.Bool.{eq-eqb, eqb-true}
use Rattle.saned_serve.specs.Inside.{link_at, one_link, links_below}
use Rattle.saned_serve.specs.declared.link.SessionLink.{SessionLink}
use Rattle.saned_serve.specs.declared.link_slots.LinkSlot.{LinkSlot}

decided : (a b : ℕ) (v : Bool) → eqb a b ≡ v → (a ≡ b) ⊎ (a ≢ b)
decided a b true e = inl (eqb-true a b e)
decided a b false e = inr (λ same. let wrong : true ≡ false = sym (eq-eqb a b same) ∙ e in cc)

pub decide : (a b : ℕ) → (a ≡ b) ⊎ (a ≢ b)
decide a b = decided a b (eqb a b) refl

links_none : {C : Type 0} (slots : List (LinkSlot C)) → links_below zero slots ≡ 0
unfolding links_below
links_none slots = refl

links_more : {C : Type 0} (n : ℕ) (slots : List (LinkSlot C)) → links_below (suc n) slots ≡ one_link (link_at slots n) + links_below n slots
unfolding links_below
links_more n slots = refl

links_upto : {C : Type 0} (n : ℕ) (s t : List (LinkSlot C)) → ((j : ℕ) → j < n → one_link (link_at t j) ≡ one_link (link_at s j)) → links_below n t ≡ links_below n s
links_upto zero s t same = links_none t ∙ sym (links_none s)
links_upto (suc n) s t same =
    let rest = links_upto n s t (λ j few. same j (omega (arith, few))) in
    links_more n t ∙ ap (λ k. k + links_below n t) (same n (omega arith)) ∙ ap (λ k. one_link (link_at s n) + k) rest ∙ sym (links_more n s)

-- no slot came to have a session, and none lost its own
pub links_same : {C : Type 0} (n : ℕ) (s t : List (LinkSlot C)) → ((j : ℕ) → one_link (link_at t j) ≡ one_link (link_at s j)) → links_below n t ≡ links_below n s
links_same n s t same = links_upto n s t (λ j few. same j)

-- one slot changed
pub links_change : {C : Type 0} (n i : ℕ) (s t : List (LinkSlot C)) → i < n → ((j : ℕ) → j ≢ i → link_at t j ≡ link_at s j) → links_below n t + one_link (link_at s i) ≡ links_below n s + one_link (link_at t i)
links_change zero i s t inside off = absurd (omega (arith, inside))
links_change (suc n) i s t inside off = by_place (decide i n) (λ few. links_change n i s t few off)
  where
    by_place : (i ≡ n) ⊎ (i ≢ n) → (i < n → links_below n t + one_link (link_at s i) ≡ links_below n s + one_link (link_at t i)) → links_below (suc n) t + one_link (link_at s i) ≡ links_below (suc n) s + one_link (link_at t i)
    by_place (inl last) on =
        let rest = links_upto n s t (λ j few. ap one_link (off j (λ same. absurd (omega (arith, few, last, same))))) in
        let a = links_more n t in
        let b = links_more n s in
        let here = ap (λ k. one_link (link_at s k)) last in
        let there = ap (λ k. one_link (link_at t k)) last in
        omega (arith, rest, a, b, here, there)
    by_place (inr before) on =
        let rest = on (omega (arith, inside, before)) in
        let a = links_more n t in
        let b = links_more n s in
        let same = ap one_link (off n (λ e. before (sym e))) in
        omega (arith, rest, a, b, same)

-- all have one
pub links_all : {C : Type 0} (n : ℕ) (s : List (LinkSlot C)) → ((j : ℕ) → j < n → one_link (link_at s j) ≡ 1) → links_below n s ≡ n
links_all zero s all = links_none s
links_all (suc n) s all =
    let rest = links_all n s (λ j few. all j (omega (arith, few))) in
    let a = links_more n s in
    let here = all n (omega arith) in
    omega (arith, rest, a, here)

one_most : {C : Type 0} (o : Option (SessionLink C)) → one_link o ≤ 1
one_most None = omega arith
one_most (Some l) = omega arith

links_most : {C : Type 0} (n : ℕ) (s : List (LinkSlot C)) → links_below n s ≤ n
links_most zero s = let none = links_none s in omega (arith, none)
links_most (suc n) s =
    let rest = links_most n s in
    let a = links_more n s in
    let here = one_most (link_at s n) in
    omega (arith, rest, a, here)

-- one has none
pub links_fewer : {C : Type 0} (n i : ℕ) (s : List (LinkSlot C)) → i < n → link_at s i ≡ None → links_below n s < n
links_fewer zero i s inside none = absurd (omega (arith, inside))
links_fewer (suc n) i s inside none = by_place (decide i n) (λ few. links_fewer n i s few none)
  where
    by_place : (i ≡ n) ⊎ (i ≢ n) → (i < n → links_below n s < n) → links_below (suc n) s < suc n
    by_place (inl last) on =
        let rest = links_most n s in
        let a = links_more n s in
        let here = sym (ap (λ k. one_link (link_at s k)) last) ∙ ap one_link none in
        omega (arith, rest, a, here)
    by_place (inr before) on =
        let rest = on (omega (arith, inside, before)) in
        let a = links_more n s in
        let here = one_most (link_at s n) in
        omega (arith, rest, a, here)

-- none has one
pub links_empty : {C : Type 0} (n : ℕ) (s : List (LinkSlot C)) → ((j : ℕ) → link_at s j ≡ None) → links_below n s ≡ 0
links_empty zero s none = links_none s
links_empty (suc n) s none =
    let rest = links_empty n s none in
    let a = links_more n s in
    let here = ap one_link (none n) in
    omega (arith, rest, a, here)
