-- The order in which each job moves as soon as connections allow: just behind its last move, or what its move waits for.
use Rattle.std.proofs.Common.{◌≡◌, ◌≢◌, ◌⊎◌, inl, inr, ℕ, Bool, true, false, cond, [], ◌∷◌, refl, sym}
use Rattle.std.proofs.Math.Dec.{eqb}
use Rattle.std.proofs.lemmas.Bool.{eqb-true}
use Rattle.interleaving.specs.Interleavings.{JointAction, Traffic}
use Rattle.interleaving.specs.Interleavings.JointAction.{OfJob, OfServer}
use Rattle.interleaving.specs.AtOnce.{AreHeldUp, EachMovesAtOnce, IsHeldUp, waits_for_action}
use Rattle.interleaving.specs.HandingOn.{HandsOnAmong, IsHandedOnAmong, Owner}
use Rattle.interleaving.specs.Orders.{HaveSameJournals}
use Rattle.interleaving.proofs.Ahead.{come_same, hands_at, hands_before, hands_then, same_behind, same_refl, same_sym, same_trans, swap_same}
use Rattle.interleaving.proofs.Sooner.{Joint, held_off, holds_back, is_other, swaps}

-- ---- the order

-- one move comes before all that does not hold it back
abbrev put_early : {M : Type 0} → (M → Traffic) → Owner → ℕ → M → Joint M → Joint M
put_early seen owner i move [] = OfJob i move ∷ []
put_early seen owner i move (action ∷ past) = cond (holds_back owner i (seen move) action) (OfJob i move ∷ action ∷ past) (action ∷ put_early seen owner i move past)

abbrev early : {M : Type 0} → (M → Traffic) → Owner → Joint M → Joint M
early seen owner [] = []
early seen owner (OfServer action ∷ past) = OfServer action ∷ early seen owner past
early seen owner (OfJob i move ∷ past) = put_early seen owner i move (early seen owner past)

-- ---- it has the same journals

put_same : {M : Type 0} (seen : M → Traffic) (owner : Owner) (i : ℕ) (move : M) (past : Joint M) → HaveSameJournals (put_early seen owner i move past) (OfJob i move ∷ past)
put_same seen owner i move [] = same_refl (OfJob i move ∷ [])
put_same seen owner i move (action ∷ past) = by (holds_back owner i (seen move) action) refl (put_same seen owner i move past)
  where
    by : (b : Bool) → holds_back owner i (seen move) action ≡ b → HaveSameJournals (put_early seen owner i move past) (OfJob i move ∷ past) → HaveSameJournals (cond b (OfJob i move ∷ action ∷ past) (action ∷ put_early seen owner i move past)) (OfJob i move ∷ action ∷ past)
    by true e more = same_refl (OfJob i move ∷ action ∷ past)
    by false e more =
        same_trans (action ∷ put_early seen owner i move past) (action ∷ OfJob i move ∷ past) (OfJob i move ∷ action ∷ past) (same_behind action (put_early seen owner i move past) (OfJob i move ∷ past) more)
        (swap_same i move action past (held_off owner i (seen move) action e))

early_same : {M : Type 0} (seen : M → Traffic) (owner : Owner) (acts : Joint M) → HaveSameJournals (early seen owner acts) acts
early_same seen owner [] = same_refl []
early_same seen owner (OfServer action ∷ past) = same_behind (OfServer action) (early seen owner past) past (early_same seen owner past)
early_same seen owner (OfJob i move ∷ past) =
    same_trans (put_early seen owner i move (early seen owner past)) (OfJob i move ∷ early seen owner past) (OfJob i move ∷ past) (put_same seen owner i move (early seen owner past))
    (same_behind (OfJob i move) (early seen owner past) past (early_same seen owner past))

-- ---- in it connections hand on

put_hands : {M : Type 0} (seen : M → Traffic) (owner : Owner) (i : ℕ) (move : M) (past : Joint M) → HandsOnAmong seen owner (OfJob i move ∷ past) → HandsOnAmong seen owner (put_early seen owner i move past)
put_hands seen owner i move [] h = h
put_hands seen owner i move (action ∷ past) h = by (holds_back owner i (seen move) action) refl (λ x. put_hands seen owner i move past x)
  where
    by : (b : Bool) → holds_back owner i (seen move) action ≡ b → (HandsOnAmong seen owner (OfJob i move ∷ past) → HandsOnAmong seen owner (put_early seen owner i move past)) → HandsOnAmong seen owner (cond b (OfJob i move ∷ action ∷ past) (action ∷ put_early seen owner i move past))
    by true e more = h
    by false e more =
        let put = put_early seen owner i move past in
        let swapped = swaps seen owner i move action past e h in
        hands_then seen owner action put (more (hands_before seen owner action (OfJob i move ∷ past) swapped))
        (come_same seen owner action (OfJob i move ∷ past) put (same_sym put (OfJob i move ∷ past) (put_same seen owner i move past)) (hands_at seen owner action (OfJob i move ∷ past) swapped))

-- what may come behind acts may come behind them in that order
comes_early : {M : Type 0} (seen : M → Traffic) (owner : Owner) (action : JointAction M) (past : Joint M) → HandsOnAmong seen owner (early seen owner past) → IsHandedOnAmong seen owner action past → HandsOnAmong seen owner (action ∷ early seen owner past)
comes_early seen owner action past h at =
    hands_then seen owner action (early seen owner past) h (come_same seen owner action past (early seen owner past) (same_sym (early seen owner past) past (early_same seen owner past)) at)

early_hands : {M : Type 0} (seen : M → Traffic) (owner : Owner) (acts : Joint M) → HandsOnAmong seen owner acts → HandsOnAmong seen owner (early seen owner acts)
early_hands seen owner [] h = h
early_hands seen owner (OfServer action ∷ past) h = comes_early seen owner (OfServer action) past (early_hands seen owner past (hands_before seen owner (OfServer action) past h)) (hands_at seen owner (OfServer action) past h)
early_hands seen owner (OfJob i move ∷ past) h =
    put_hands seen owner i move (early seen owner past) (comes_early seen owner (OfJob i move) past (early_hands seen owner past (hands_before seen owner (OfJob i move) past h)) (hands_at seen owner (OfJob i move) past h))

-- ---- and each move is held back

-- another job's move, put before it, leaves it so
still_held : {M : Type 0} (seen : M → Traffic) (owner : Owner) (i j : ℕ) (t : Traffic) (move : M) (past : Joint M) → j ≢ i → IsHeldUp owner i t past → IsHeldUp owner i t (put_early seen owner j move past)
still_held seen owner i j t move [] off h = inr (off, tt)
still_held seen owner i j t move (OfServer action ∷ past) off h = by (waits_for_action owner j (seen move) action)
  where
    by : (b : Bool) → IsHeldUp owner i t (cond b (OfJob j move ∷ OfServer action ∷ past) (OfServer action ∷ put_early seen owner j move past))
    by true = inr (off, h)
    by false = h
still_held seen owner i j t move (OfJob k other ∷ past) off h = by (eqb k j) h (λ x. still_held seen owner i j t move past off x)
  where
    by : (b : Bool) → (k ≡ i) ⊎ ((k ≢ i) × IsHeldUp owner i t past) → (IsHeldUp owner i t past → IsHeldUp owner i t (put_early seen owner j move past)) → IsHeldUp owner i t (cond b (OfJob j move ∷ OfJob k other ∷ past) (OfJob k other ∷ put_early seen owner j move past))
    by true x more = inr (off, x)
    by false (inl same) more = inl same
    by false (inr x) more = inr (x.0, more x.1)

put_held : {M : Type 0} (seen : M → Traffic) (owner : Owner) (i : ℕ) (move : M) (past : Joint M) → AreHeldUp seen owner past → AreHeldUp seen owner (put_early seen owner i move past)
put_held seen owner i move [] all = (tt, tt)
put_held seen owner i move (OfServer action ∷ past) all = by (waits_for_action owner i (seen move) action) refl (put_held seen owner i move past all)
  where
    by : (b : Bool) → waits_for_action owner i (seen move) action ≡ b → AreHeldUp seen owner (put_early seen owner i move past) → AreHeldUp seen owner (cond b (OfJob i move ∷ OfServer action ∷ past) (OfServer action ∷ put_early seen owner i move past))
    by true e more = (all, e)
    by false e more = more
put_held seen owner i move (OfJob j other ∷ past) all = by (eqb j i) refl (put_held seen owner i move past all.0)
  where
    by : (b : Bool) → eqb j i ≡ b → AreHeldUp seen owner (put_early seen owner i move past) → AreHeldUp seen owner (cond b (OfJob i move ∷ OfJob j other ∷ past) (OfJob j other ∷ put_early seen owner i move past))
    by true e more = (all, inl (eqb-true j i e))
    by false e more = (more, still_held seen owner j i (seen other) move past (λ same. is_other j i e (sym same)) all.1)

early_held : {M : Type 0} (seen : M → Traffic) (owner : Owner) (acts : Joint M) → AreHeldUp seen owner (early seen owner acts)
early_held seen owner [] = tt
early_held seen owner (OfServer action ∷ past) = early_held seen owner past
early_held seen owner (OfJob i move ∷ past) = put_held seen owner i move (early seen owner past) (early_held seen owner past)

pub at_once : {M : Type 0} → EachMovesAtOnce M
at_once seen owner acts h = record { new = early seen owner acts; same = early_same seen owner acts; hands = early_hands seen owner acts h; held = early_held seen owner acts }
