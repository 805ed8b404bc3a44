-- All that a job will yet do may be done at once, from where nothing more is given to it on.
use Rattle.std.proofs.Common.{◌≡◌, ◌∙◌, inl, inr, ℕ, Bool, true, false, cond, List, [], ◌∷◌, ◌++◌, refl, sym, ap, subst}
use Rattle.std.proofs.Math.Dec.{eqb}
use Rattle.std.proofs.lemmas.Bool.{eq-eqb, eqb-true}
use Rattle.saned_serve.specs.SessionActions.{SessionAction}
use Rattle.saned_serve.specs.SessionActions.SessionAction.{Opens, Hears, Feed, Forgets, Take, Says, Looks, Misses, Connect, Turn, Shows, Lose, HangsUp, Leaves}
use Rattle.saned_serve.specs.Journal.{LoopAction}
use Rattle.saned_serve.specs.Journal.LoopAction.{Of, Full, Waits, Refuses, Turned, Stops}
use Rattle.interleaving.specs.Interleavings.{JointAction, Traffic, job_journal, server_journal}
use Rattle.interleaving.specs.Interleavings.JointAction.{OfJob, OfServer}
use Rattle.interleaving.specs.Interleavings.Traffic.{Dials, NoTraffic, Reads, Takes, Writes}
use Rattle.interleaving.specs.AmongStrangers.{AllMayComeSoonerAmong}
use Rattle.interleaving.specs.HandingOn.{HandsOnAmong, IsHandedOnAmong, MayMove, MayServe, Owner}
use Rattle.interleaving.specs.Orders.{AllGiveNothing, HaveSameJournals, IsFreeOf, ServerGivesNothing, is_move_of, moves_among, others_among}
use Rattle.interleaving.proofs.Sooner.{Joint, comes_sooner, free_unheld, held_off, is_other}

-- ---- the same journals

pub same_trans : {M : Type 0} (a b c : Joint M) → HaveSameJournals a b → HaveSameJournals b c → HaveSameJournals a c
same_trans a b c x y = record { server = x.server ∙ y.server; jobs = λ j. x.jobs j ∙ y.jobs j }

pub same_sym : {M : Type 0} (a b : Joint M) → HaveSameJournals a b → HaveSameJournals b a
same_sym a b x = record { server = sym x.server; jobs = λ j. sym (x.jobs j) }

pub same_refl : {M : Type 0} (a : Joint M) → HaveSameJournals a a
same_refl a = record { server = refl; jobs = λ j. refl }

pub same_behind : {M : Type 0} (action : JointAction M) (a b : Joint M) → HaveSameJournals a b → HaveSameJournals (action ∷ a) (action ∷ b)
unfolding server_journal job_journal
same_behind (OfServer action) a b x = record { server = ap (λ (past : List LoopAction). action ∷ past) x.server; jobs = x.jobs }
same_behind {M} (OfJob i move) a b x = record { server = x.server; jobs = λ j. ap (λ (moves : List M). cond (eqb i j) (move ∷ moves) moves) (x.jobs j) }

cond_swap : {M : Type 0} (p q : Bool) (m n : M) (ms : List M) → ((p ≡ true) → (q ≡ true) → m ≡ n) → cond p (m ∷ cond q (n ∷ ms) ms) (cond q (n ∷ ms) ms) ≡ cond q (n ∷ cond p (m ∷ ms) ms) (cond p (m ∷ ms) ms)
cond_swap {M} true true m n ms h = let e = h refl refl in ap (λ (x : M). x ∷ n ∷ ms) e ∙ ap (λ (x : M). n ∷ x ∷ ms) (sym e)
cond_swap true false m n ms h = refl
cond_swap false true m n ms h = refl
cond_swap false false m n ms h = refl

pub swap_same : {M : Type 0} (i : ℕ) (move : M) (action : JointAction M) (past : Joint M) → is_move_of i action ≡ false → HaveSameJournals (action ∷ OfJob i move ∷ past) (OfJob i move ∷ action ∷ past)
unfolding server_journal job_journal
swap_same i move (OfServer action) past off = record { server = refl; jobs = λ j. refl }
swap_same i move (OfJob j other) past off =
    record { server = refl; jobs = λ k. cond_swap (eqb j k) (eqb i k) other move (job_journal k past) (λ e f. absurd (is_other j i off (eqb-true j k e ∙ sym (eqb-true i k f)))) }

pub same_swap : {M : Type 0} (owner : Owner) (i : ℕ) (move : M) (action : JointAction M) (past : Joint M) → IsFreeOf owner i action → HaveSameJournals (action ∷ OfJob i move ∷ past) (OfJob i move ∷ action ∷ past)
same_swap owner i move action past n = swap_same i move action past (held_off owner i NoTraffic action (free_unheld owner i NoTraffic action n))

-- what an act asks of all that was done before it, it asks of the journals
serve_same : {M : Type 0} (seen : M → Traffic) (owner : Owner) (k : ℕ) (act : SessionAction) (a b : Joint M) → HaveSameJournals a b → MayServe seen owner k act a → MayServe seen owner k act b
serve_same seen owner k (Opens port) a b x m = m
serve_same seen owner k (Hears got room bytes) a b x m = tt
serve_same seen owner k (Feed piece fed begins) a b x m = (m.0, m.1, rw (← x.server, ← (x.jobs m.0)) m.2)
serve_same seen owner k (Forgets told port) a b x m = tt
serve_same seen owner k (Take room bytes) a b x m = tt
serve_same seen owner k (Says got bytes) a b x m = tt
serve_same seen owner k (Looks frame) a b x m = tt
serve_same seen owner k (Misses port) a b x m = tt
serve_same seen owner k (Connect port) a b x m = (m.0, m.1, rw (← x.server, ← (x.jobs m.0)) m.2)
serve_same seen owner k (Turn room step bytes) a b x m = tt
serve_same seen owner k (Shows got bytes) a b x m = tt
serve_same seen owner k Lose a b x m = tt
serve_same seen owner k (HangsUp trace) a b x m = tt
serve_same seen owner k (Leaves port trace) a b x m = tt

move_same : {M : Type 0} (seen : M → Traffic) (owner : Owner) (i : ℕ) (traffic : Traffic) (a b : Joint M) → HaveSameJournals a b → MayMove seen owner i traffic a → MayMove seen owner i traffic b
move_same seen owner i (Writes bytes) a b x m = tt
move_same seen owner i (Reads bytes) a b x m = (m.0, m.1, rw (← x.server, ← (x.jobs i)) m.2)
move_same seen owner i Dials a b x m = tt
move_same seen owner i (Takes bytes) a b x m = (m.0, m.1, rw (← x.server, ← (x.jobs i)) m.2, rw (← x.server, ← (x.jobs i)) m.3)
move_same seen owner i NoTraffic a b x m = tt

pub come_same : {M : Type 0} (seen : M → Traffic) (owner : Owner) (action : JointAction M) (a b : Joint M) → HaveSameJournals a b → IsHandedOnAmong seen owner action a → IsHandedOnAmong seen owner action b
come_same seen owner (OfServer (Of k act)) a b x (inl none) = inl none
come_same seen owner (OfServer (Of k act)) a b x (inr m) = inr (serve_same seen owner k act a b x m)
come_same seen owner (OfServer Full) a b x m = tt
come_same seen owner (OfServer Waits) a b x m = tt
come_same seen owner (OfServer (Refuses port trace)) a b x m = tt
come_same seen owner (OfServer Turned) a b x m = tt
come_same seen owner (OfServer Stops) a b x m = tt
come_same seen owner (OfJob i move) a b x m = move_same seen owner i (seen move) a b x m

-- ---- one move goes before many acts of others

abbrev AllAreFree : {M : Type 0} → Owner → ℕ → Joint M → Type 0
AllAreFree owner i [] = Unit {0}
AllAreFree owner i (action ∷ past) = IsFreeOf owner i action × AllAreFree owner i past

same_sunk : {M : Type 0} (owner : Owner) (i : ℕ) (move : M) (xs ys : Joint M) → AllAreFree owner i xs → HaveSameJournals (xs ++ (OfJob i move ∷ ys)) (OfJob i move ∷ (xs ++ ys))
same_sunk owner i move [] ys n = same_refl (OfJob i move ∷ ys)
same_sunk owner i move (x ∷ xs) ys n =
    same_trans (x ∷ (xs ++ (OfJob i move ∷ ys))) (x ∷ OfJob i move ∷ (xs ++ ys)) (OfJob i move ∷ x ∷ (xs ++ ys))
    (same_behind x (xs ++ (OfJob i move ∷ ys)) (OfJob i move ∷ (xs ++ ys)) (same_sunk owner i move xs ys n.1))
    (same_swap owner i move x (xs ++ ys) n.0)

pub hands_then : {M : Type 0} (seen : M → Traffic) (owner : Owner) (action : JointAction M) (past : Joint M) → HandsOnAmong seen owner past → IsHandedOnAmong seen owner action past → HandsOnAmong seen owner (action ∷ past)
unfolding HandsOnAmong
hands_then seen owner action past h m = (h, m)

pub hands_before : {M : Type 0} (seen : M → Traffic) (owner : Owner) (action : JointAction M) (past : Joint M) → HandsOnAmong seen owner (action ∷ past) → HandsOnAmong seen owner past
unfolding HandsOnAmong
hands_before seen owner action past h = h.0

pub hands_at : {M : Type 0} (seen : M → Traffic) (owner : Owner) (action : JointAction M) (past : Joint M) → HandsOnAmong seen owner (action ∷ past) → IsHandedOnAmong seen owner action past
unfolding HandsOnAmong
hands_at seen owner action past h = h.1

sinks : {M : Type 0} (seen : M → Traffic) (owner : Owner) (i : ℕ) (move : M) (xs ys : Joint M) → AllAreFree owner i xs → HandsOnAmong seen owner (OfJob i move ∷ (xs ++ ys)) → HandsOnAmong seen owner (xs ++ (OfJob i move ∷ ys))
sinks seen owner i move [] ys n h = h
sinks seen owner i move (x ∷ xs) ys n h =
    let swapped = comes_sooner seen owner i move x (xs ++ ys) n.0 h in
    hands_then seen owner x (xs ++ (OfJob i move ∷ ys))
    (sinks seen owner i move xs ys n.1 (hands_before seen owner x (OfJob i move ∷ (xs ++ ys)) swapped))
    (come_same seen owner x (OfJob i move ∷ (xs ++ ys)) (xs ++ (OfJob i move ∷ ys)) (same_sym (xs ++ (OfJob i move ∷ ys)) (OfJob i move ∷ (xs ++ ys)) (same_sunk owner i move xs ys n.1)) (hands_at seen owner x (OfJob i move ∷ (xs ++ ys)) swapped))

-- ---- all moves of a job

free_if : {M : Type 0} (owner : Owner) (i : ℕ) (action : JointAction M) (b : Bool) (past : Joint M) → is_move_of i action ≡ b → ServerGivesNothing owner i action → AllAreFree owner i past → AllAreFree owner i (cond b past (action ∷ past))
free_if owner i action true past e n all = all
free_if owner i (OfServer action) false past e n all = (n, all)
free_if owner i (OfJob j move) false past e n all = (λ same. let wrong : true ≡ false = sym (eq-eqb j i same) ∙ e in cc, all)

free_others : {M : Type 0} (owner : Owner) (i : ℕ) (since : Joint M) → AllGiveNothing owner i since → AllAreFree owner i (others_among i since)
unfolding others_among
free_others owner i [] n = tt
free_others owner i (action ∷ since) n = free_if owner i action (is_move_of i action) (others_among i since) refl n.0 (free_others owner i since n.1)

-- so far all is in its place, and one more comes behind it
record IsPlaced {M : Type 0} (seen : M → Traffic) (owner : Owner) (others moves since past : Joint M) : Type 0 where
  same : HaveSameJournals (others ++ (moves ++ past)) (since ++ past)
  hands : HandsOnAmong seen owner (others ++ (moves ++ past))

job_next : {M : Type 0} (seen : M → Traffic) (owner : Owner) (i j : ℕ) (move : M) (os ms since past : Joint M) → j ≡ i → AllAreFree owner i os → IsPlaced seen owner os ms since past → IsHandedOnAmong seen owner (OfJob j move) (since ++ past)
    → IsPlaced seen owner os (OfJob j move ∷ ms) (OfJob j move ∷ since) past
job_next {M} seen owner i j move os ms since past e free so_far may =
    let at : IsHandedOnAmong seen owner (OfJob j move) (os ++ (ms ++ past)) = come_same seen owner (OfJob j move) (since ++ past) (os ++ (ms ++ past)) (same_sym (os ++ (ms ++ past)) (since ++ past) so_far.same) may in
    let free_j : AllAreFree owner j os = subst (λ (k : ℕ). AllAreFree owner k os) (sym e) free in
    record {
      same = same_trans (os ++ (OfJob j move ∷ (ms ++ past))) (OfJob j move ∷ (os ++ (ms ++ past))) (OfJob j move ∷ (since ++ past)) (same_sunk owner j move os (ms ++ past) free_j)
          (same_behind (OfJob j move) (os ++ (ms ++ past)) (since ++ past) so_far.same);
      hands = sinks seen owner j move os (ms ++ past) free_j (hands_then seen owner (OfJob j move) (os ++ (ms ++ past)) so_far.hands at);
    }

next_by : {M : Type 0} (seen : M → Traffic) (owner : Owner) (i : ℕ) (action : JointAction M) (b : Bool) (os ms since past : Joint M) → is_move_of i action ≡ b → AllAreFree owner i os → IsPlaced seen owner os ms since past → IsHandedOnAmong seen owner action (since ++ past)
    → IsPlaced seen owner (cond b os (action ∷ os)) (cond b (action ∷ ms) ms) (action ∷ since) past
next_by seen owner i action false os ms since past e free so_far may = record {
  same = same_behind action (os ++ (ms ++ past)) (since ++ past) so_far.same;
  hands = hands_then seen owner action (os ++ (ms ++ past)) so_far.hands (come_same seen owner action (since ++ past) (os ++ (ms ++ past)) (same_sym (os ++ (ms ++ past)) (since ++ past) so_far.same) may);
}
next_by seen owner i (OfServer action) true os ms since past e free so_far may = absurd (let wrong : false ≡ true = e in cc)
next_by seen owner i (OfJob j move) true os ms since past e free so_far may = job_next seen owner i j move os ms since past (eqb-true j i e) free so_far may

placed : {M : Type 0} (seen : M → Traffic) (owner : Owner) (i : ℕ) (since past : Joint M) → AllGiveNothing owner i since → HandsOnAmong seen owner (since ++ past) → IsPlaced seen owner (others_among i since) (moves_among i since) since past
unfolding moves_among others_among
placed seen owner i [] past n h = record { same = same_refl past; hands = h }
placed seen owner i (action ∷ since) past n h =
    next_by seen owner i action (is_move_of i action) (others_among i since) (moves_among i since) since past refl (free_others owner i since n.1) (placed seen owner i since past n.1 (hands_before seen owner action (since ++ past) h)) (hands_at seen owner action (since ++ past) h)

pub all_sooner : {M : Type 0} → AllMayComeSoonerAmong M
all_sooner seen owner i since past n h = let x = placed seen owner i since past n h in record { same = x.same; hands = x.hands }
