-- A job's move may come sooner than an act that gives the job nothing of what the move waits for.
use Rattle.std.specs.Prelude.{◌<◌, ◌&&◌}
use Rattle.std.proofs.Common.{◌≡◌, ◌≢◌, ◌∙◌, inl, inr, ℕ, Bool, true, false, cond, Option, Some, None, List, [], ◌∷◌, ◌++◌, append_assoc, append-nil, refl, sym, ap, subst, arith}
use Rattle.std.proofs.Math.Dec.{eqb}
use Rattle.std.proofs.lemmas.Bool.{eq-eqb, eqb-true}
use Rattle.saned_serve.specs.SessionActions.{SessionAction}
use Rattle.saned_serve.specs.SessionActions.SessionAction.{Opens, Feed, Take, Connect, Turn}
use Rattle.saned_serve.specs.Journal.{IsFront, LoopAction, SessionProjection, projection_after, projection_of}
use Rattle.saned_serve.specs.Journal.LoopAction.{Of, Full, Waits, Refuses, Turned, Stops}
use Rattle.saned_serve.proofs.ActionSteps.{eqb_off, life_at, life_off}
use Rattle.interleaving.specs.Interleavings.{JointAction, Traffic, accepted_with, bytes_heard, bytes_sent, bytes_taken, connections_accepted, connections_made, job_journal, made_with, sent_with, server_journal}
use Rattle.interleaving.specs.Interleavings.JointAction.{OfJob, OfServer}
use Rattle.interleaving.specs.Interleavings.Traffic.{Dials, NoTraffic, Reads, Takes, Writes}
use Rattle.interleaving.specs.AmongStrangers.{MovesMayComeSoonerAmong}
use Rattle.interleaving.specs.AtOnce.{gives_records, gives_replies, is_owned, waits_for, waits_for_action}
use Rattle.interleaving.specs.HandingOn.{HandsOnAmong, IsHandedOnAmong, MayMove, MayServe, Owner}
use Rattle.interleaving.specs.Orders.{GivesNothing, IsFreeOf, is_move_of}

abbrev pub Joint : Type 0 → Type 0
Joint M = List (JointAction M)

-- ---- journals

pub of_other : {M : Type 0} (i j : ℕ) (move : M) (past : Joint M) → j ≢ i → job_journal i (OfJob j move ∷ past) ≡ job_journal i past
unfolding job_journal
of_other i j move past off = ap (λ (b : Bool). cond b (move ∷ job_journal i past) (job_journal i past)) (eqb_off j i off)

pub of_server : {M : Type 0} (i : ℕ) (action : LoopAction) (past : Joint M) → job_journal i (OfServer action ∷ past) ≡ job_journal i past
unfolding job_journal
of_server i action past = refl

pub by_server : {M : Type 0} (action : LoopAction) (past : Joint M) → server_journal (OfServer action ∷ past) ≡ action ∷ server_journal past
unfolding server_journal
by_server action past = refl

pub by_job : {M : Type 0} (i : ℕ) (move : M) (past : Joint M) → server_journal (OfJob i move ∷ past) ≡ server_journal past
unfolding server_journal
by_job i move past = refl

-- ---- what a move waits for

-- a move of job i with such traffic stays behind it
abbrev pub holds_back : {M : Type 0} → Owner → ℕ → Traffic → JointAction M → Bool
holds_back owner i t (OfServer action) = waits_for_action owner i t action
holds_back owner i t (OfJob j move) = eqb j i

pub is_owned_by : (o : Option ℕ) (i : ℕ) → o ≡ Some i → is_owned o i ≡ true
is_owned_by o i e = ap (λ (x : Option ℕ). is_owned x i) e ∙ eq-eqb i i refl

pub owned_is : (o : Option ℕ) (i : ℕ) → is_owned o i ≡ true → o ≡ Some i
owned_is None i e = absurd (let wrong : false ≡ true = e in cc)
owned_is (Some j) i e = ap (λ (x : ℕ). Some x) (eqb-true j i e)

-- ---- what a session gave out

-- nothing more is given out of what the move waits for
abbrev GivesNoMore : Traffic → (old new : SessionProjection) → (m n : ℕ) → Type 0
GivesNoMore (Reads bytes) old new m n = new.said ≡ old.said
GivesNoMore (Takes bytes) old new m n = (new.shown ≡ old.shown) × (n ≡ m)
GivesNoMore t old new m n = Unit {0}

no_more : (t : Traffic) (x : SessionProjection) (n : ℕ) → GivesNoMore t x x n n
no_more (Reads bytes) x n = refl
no_more (Takes bytes) x n = (refl, refl)
no_more t x n = tt

no_more_turned : (t : Traffic) (x : SessionProjection) (n : ℕ) → GivesNoMore t x (record x { visited = false; spoken = false; tended = false }) n n
no_more_turned (Reads bytes) x n = refl
no_more_turned (Takes bytes) x n = (refl, refl)
no_more_turned t x n = tt

said_same : (act : SessionAction) (x : SessionProjection) → gives_replies act ≡ false → (projection_after act x).said ≡ x.said
said_same (Opens port) x e = absurd (let wrong : true ≡ false = e in cc)
said_same (Take room []) x e = append-nil x.said
said_same (Take room (b ∷ bytes)) x e = absurd (let wrong : true ≡ false = e in cc)
said_same act x e = refl

shown_same : (act : SessionAction) (x : SessionProjection) → gives_records act ≡ false → (projection_after act x).shown ≡ x.shown
shown_same (Opens port) x e = absurd (let wrong : true ≡ false = e in cc)
shown_same (Connect port) x e = absurd (let wrong : true ≡ false = e in cc)
shown_same (Turn room step []) x e = append-nil x.shown
shown_same (Turn room step (b ∷ bytes)) x e = absurd (let wrong : true ≡ false = e in cc)
shown_same act x e = refl

accepts_none : (act : SessionAction) (count : ℕ) → gives_records act ≡ false → accepted_with act count ≡ count
accepts_none (Connect port) count e = absurd (let wrong : true ≡ false = e in cc)
accepts_none act count e = refl

no_more_by : (t : Traffic) (act : SessionAction) (x : SessionProjection) (n : ℕ) → waits_for t act ≡ false → GivesNoMore t x (projection_after act x) n (accepted_with act n)
no_more_by (Reads bytes) act x n e = said_same act x e
no_more_by (Takes bytes) act x n e = (shown_same act x e, accepts_none act n e)
no_more_by t act x n e = tt

accepted_by : (k number : ℕ) (act : SessionAction) (past : List LoopAction) (b : Bool) → eqb number k ≡ b → connections_accepted k (Of number act ∷ past) ≡ cond b (accepted_with act (connections_accepted k past)) (connections_accepted k past)
unfolding connections_accepted
accepted_by k number act past b e = ap (λ (v : Bool). cond v (accepted_with act (connections_accepted k past)) (connections_accepted k past)) e

no_more_so : (t : Traffic) (k : ℕ) (action : LoopAction) (past : List LoopAction) (x : SessionProjection) (n : ℕ) → projection_of k (action ∷ past) ≡ x → connections_accepted k (action ∷ past) ≡ n → GivesNoMore t (projection_of k past) x (connections_accepted k past) n
    → GivesNoMore t (projection_of k past) (projection_of k (action ∷ past)) (connections_accepted k past) (connections_accepted k (action ∷ past))
no_more_so t k action past x n same count g =
    subst (λ (y : SessionProjection). GivesNoMore t (projection_of k past) y (connections_accepted k past) (connections_accepted k (action ∷ past))) (sym same)
    (subst (λ (m : ℕ). GivesNoMore t (projection_of k past) x (connections_accepted k past) m) (sym count) g)

no_more_at : (t : Traffic) (k number : ℕ) (act : SessionAction) (past : List LoopAction) (b : Bool) → eqb number k ≡ b → (b ≡ true → waits_for t act ≡ false)
    → GivesNoMore t (projection_of k past) (projection_of k (Of number act ∷ past)) (connections_accepted k past) (connections_accepted k (Of number act ∷ past))
no_more_at t k number act past true at off =
    no_more_so t k (Of number act) past (projection_after act (projection_of k past)) (accepted_with act (connections_accepted k past)) (life_at k (Of number act) past at) (accepted_by k number act past true at)
    (no_more_by t act (projection_of k past) (connections_accepted k past) (off refl))
no_more_at t k number act past false at off =
    no_more_so t k (Of number act) past (projection_of k past) (connections_accepted k past) (life_off k (Of number act) past at) (accepted_by k number act past false at) (no_more t (projection_of k past) (connections_accepted k past))

waited_not : (a b : Bool) → a ≡ true → (a && b) ≡ false → b ≡ false
waited_not true b on e = e
waited_not false b on e = absurd (let wrong : false ≡ true = on in cc)

gives_no_more : (owner : Owner) (i k : ℕ) (t : Traffic) (action : LoopAction) (past : List LoopAction) → waits_for_action owner i t action ≡ false → owner k ≡ Some i
    → GivesNoMore t (projection_of k past) (projection_of k (action ∷ past)) (connections_accepted k past) (connections_accepted k (action ∷ past))
unfolding connections_accepted
gives_no_more owner i k t (Of number act) past off own =
    no_more_at t k number act past (eqb number k) refl (λ on. waited_not (is_owned (owner number) i) (waits_for t act) (is_owned_by (owner number) i (ap owner (eqb-true number k on) ∙ own)) off)
gives_no_more owner i k t Full past off own = no_more_so t k Full past (projection_of k past) (connections_accepted k past) (life_off k Full past refl) refl (no_more t (projection_of k past) (connections_accepted k past))
gives_no_more owner i k t Waits past off own = no_more_so t k Waits past (projection_of k past) (connections_accepted k past) (life_off k Waits past refl) refl (no_more t (projection_of k past) (connections_accepted k past))
gives_no_more owner i k t (Refuses port trace) past off own =
    no_more_so t k (Refuses port trace) past (projection_of k past) (connections_accepted k past) (life_off k (Refuses port trace) past refl) refl (no_more t (projection_of k past) (connections_accepted k past))
gives_no_more owner i k t Turned past off own =
    no_more_so t k Turned past (record (projection_of k past) { visited = false; spoken = false; tended = false }) (connections_accepted k past) (life_at k Turned past refl) refl (no_more_turned t (projection_of k past) (connections_accepted k past))
gives_no_more owner i k t Stops past off own = no_more_so t k Stops past (projection_of k past) (connections_accepted k past) (life_off k Stops past refl) refl (no_more t (projection_of k past) (connections_accepted k past))

-- ---- the move comes before the act

abbrev GaveNoMore : {M : Type 0} → Owner → ℕ → Traffic → (after before : Joint M) → Type 0
GaveNoMore owner i t after before = (k : ℕ) → owner k ≡ Some i
    → GivesNoMore t (projection_of k (server_journal before)) (projection_of k (server_journal after)) (connections_accepted k (server_journal before)) (connections_accepted k (server_journal after))

-- what a move asks of all that was done before it
may_move : {M : Type 0} (seen : M → Traffic) (owner : Owner) (i : ℕ) (t : Traffic) (after before : Joint M) → job_journal i after ≡ job_journal i before → GaveNoMore owner i t after before → MayMove seen owner i t after → MayMove seen owner i t before
may_move seen owner i (Writes bytes) after before same gives m = tt
may_move {M} seen owner i (Reads bytes) after before same gives m =
    let k = m.0 in
    (k, m.1, subst (λ (x : List ℕ). IsFront (bytes_heard seen (job_journal i before) ++ bytes) x) (gives k m.1) (subst (λ (x : List M). IsFront (bytes_heard seen x ++ bytes) (projection_of k (server_journal after)).said) same m.2))
may_move seen owner i Dials after before same gives m = tt
may_move {M} seen owner i (Takes bytes) after before same gives m =
    let k = m.0 in
    let g = gives k m.1 in (
      k,
      m.1,
      sym g.1 ∙ m.2 ∙ ap (connections_made seen) same,
      subst (λ (x : List ℕ). IsFront (bytes_taken seen (job_journal i before) ++ bytes) x) g.0
          (subst (λ (x : List M). IsFront (bytes_taken seen x ++ bytes) (projection_of k (server_journal after)).shown) same m.3),
    )
may_move seen owner i NoTraffic after before same gives m = tt

same_given : {M : Type 0} (owner : Owner) (i : ℕ) (t : Traffic) (after before : Joint M) → server_journal after ≡ server_journal before → GaveNoMore owner i t after before
same_given owner i t after before same k own =
    subst (λ (x : List LoopAction). GivesNoMore t (projection_of k (server_journal before)) (projection_of k x) (connections_accepted k (server_journal before)) (connections_accepted k x)) (sym same)
    (no_more t (projection_of k (server_journal before)) (connections_accepted k (server_journal before)))

pub is_other : (j i : ℕ) → eqb j i ≡ false → j ≢ i
is_other j i off same = let wrong : true ≡ false = sym (eq-eqb j i same) ∙ off in absurd (cc)

move_first : {M : Type 0} (seen : M → Traffic) (owner : Owner) (i : ℕ) (t : Traffic) (action : JointAction M) (past : Joint M) → holds_back owner i t action ≡ false → MayMove seen owner i t (action ∷ past) → MayMove seen owner i t past
move_first seen owner i t (OfServer action) past off m =
    may_move seen owner i t (OfServer action ∷ past) past (of_server i action past)
    (λ k own. subst (λ (x : List LoopAction). GivesNoMore t (projection_of k (server_journal past)) (projection_of k x) (connections_accepted k (server_journal past)) (connections_accepted k x)) (sym (by_server action past)) (gives_no_more owner i k t action (server_journal past) off own))
    m
move_first seen owner i t (OfJob j other) past off m = may_move seen owner i t (OfJob j other ∷ past) past (of_other i j other past (is_other j i off)) (same_given owner i t (OfJob j other ∷ past) past (by_job j other past)) m

-- ---- the act comes behind the move

pub front_more : (front text more : List ℕ) → IsFront front text → IsFront front (text ++ more)
front_more front text more f = (f.0 ++ more, ap (λ (x : List ℕ). x ++ more) f.1 ∙ append_assoc front f.0 more)

sent_more : (front text : List ℕ) (t : Traffic) → IsFront front text → IsFront front (sent_with t text)
sent_more front text (Writes bytes) f = front_more front text bytes f
sent_more front text (Reads bytes) f = f
sent_more front text Dials f = f
sent_more front text (Takes bytes) f = f
sent_more front text NoTraffic f = f

sent_by_one : {M : Type 0} (seen : M → Traffic) (front : List ℕ) (move : M) (moves : List M) → IsFront front (bytes_sent seen moves) → IsFront front (bytes_sent seen (move ∷ moves))
unfolding bytes_sent
sent_by_one seen front move moves f = sent_more front (bytes_sent seen moves) (seen move) f

sent_if : {M : Type 0} (seen : M → Traffic) (front : List ℕ) (b : Bool) (move : M) (moves : List M) → IsFront front (bytes_sent seen moves) → IsFront front (bytes_sent seen (cond b (move ∷ moves) moves))
sent_if seen front true move moves f = sent_by_one seen front move moves f
sent_if seen front false move moves f = f

sent_on : {M : Type 0} (seen : M → Traffic) (front : List ℕ) (i j : ℕ) (move : M) (past : Joint M) → IsFront front (bytes_sent seen (job_journal j past)) → IsFront front (bytes_sent seen (job_journal j (OfJob i move ∷ past)))
unfolding job_journal
sent_on seen front i j move past f = sent_if seen front (eqb i j) move (job_journal j past) f

made_more : (n count : ℕ) (t : Traffic) → n < count → n < made_with t count
made_more n count (Writes bytes) l = l
made_more n count (Reads bytes) l = l
made_more n count Dials l = omega (arith, l)
made_more n count (Takes bytes) l = l
made_more n count NoTraffic l = l

made_by_one : {M : Type 0} (seen : M → Traffic) (n : ℕ) (move : M) (moves : List M) → n < connections_made seen moves → n < connections_made seen (move ∷ moves)
unfolding connections_made
made_by_one seen n move moves l = made_more n (connections_made seen moves) (seen move) l

made_if : {M : Type 0} (seen : M → Traffic) (n : ℕ) (b : Bool) (move : M) (moves : List M) → n < connections_made seen moves → n < connections_made seen (cond b (move ∷ moves) moves)
made_if seen n true move moves l = made_by_one seen n move moves l
made_if seen n false move moves l = l

made_on : {M : Type 0} (seen : M → Traffic) (n i j : ℕ) (move : M) (past : Joint M) → n < connections_made seen (job_journal j past) → n < connections_made seen (job_journal j (OfJob i move ∷ past))
unfolding job_journal
made_on seen n i j move past l = made_if seen n (eqb i j) move (job_journal j past) l

may_serve : {M : Type 0} (seen : M → Traffic) (owner : Owner) (i : ℕ) (move : M) (k : ℕ) (act : SessionAction) (past : Joint M) → MayServe seen owner k act past → MayServe seen owner k act (OfJob i move ∷ past)
may_serve seen owner i move k (Opens port) past m = m
may_serve seen owner i move k (Feed piece fed begins) past m = (
  m.0,
  m.1,
  subst (λ (x : List LoopAction). IsFront ((projection_of k x).heard ++ piece) (bytes_sent seen (job_journal m.0 (OfJob i move ∷ past)))) (sym (by_job i move past))
      (sent_on seen ((projection_of k (server_journal past)).heard ++ piece) i m.0 move past m.2),
)
may_serve seen owner i move k (Connect port) past m = (
  m.0,
  m.1,
  subst (λ (x : List LoopAction). connections_accepted k x < connections_made seen (job_journal m.0 (OfJob i move ∷ past))) (sym (by_job i move past))
      (made_on seen (connections_accepted k (server_journal past)) i m.0 move past m.2),
)
may_serve seen owner i move k act past m = tt

act_then : {M : Type 0} (seen : M → Traffic) (owner : Owner) (i : ℕ) (move : M) (action : JointAction M) (past : Joint M) → is_move_of i action ≡ false → IsHandedOnAmong seen owner action past → IsHandedOnAmong seen owner action (OfJob i move ∷ past)
act_then seen owner i move (OfServer (Of k act)) past off (inl none) = inl none
act_then seen owner i move (OfServer (Of k act)) past off (inr m) = inr (may_serve seen owner i move k act past m)
act_then seen owner i move (OfServer Full) past off m = tt
act_then seen owner i move (OfServer Waits) past off m = tt
act_then seen owner i move (OfServer (Refuses port trace)) past off m = tt
act_then seen owner i move (OfServer Turned) past off m = tt
act_then seen owner i move (OfServer Stops) past off m = tt
act_then seen owner i move (OfJob j other) past off m =
    may_move seen owner j (seen other) past (OfJob i move ∷ past) (sym (of_other j i move past (λ same. is_other j i off (sym same)))) (same_given owner j (seen other) past (OfJob i move ∷ past) (sym (by_job i move past))) m

pub held_off : {M : Type 0} (owner : Owner) (i : ℕ) (t : Traffic) (action : JointAction M) → holds_back owner i t action ≡ false → is_move_of i action ≡ false
held_off owner i t (OfServer action) off = refl
held_off owner i t (OfJob j move) off = off

-- a move that does not wait for what was done just before it may come before that
pub swaps : {M : Type 0} (seen : M → Traffic) (owner : Owner) (i : ℕ) (move : M) (action : JointAction M) (past : Joint M) → holds_back owner i (seen move) action ≡ false → HandsOnAmong seen owner (OfJob i move ∷ action ∷ past) → HandsOnAmong seen owner (action ∷ OfJob i move ∷ past)
unfolding HandsOnAmong
swaps seen owner i move action past off h = ((h.0.0, move_first seen owner i (seen move) action past off h.1), act_then seen owner i move action past (held_off owner i (seen move) action off) h.0.1)

-- ---- so an act that gives the job nothing

replies_none : (owner : Owner) (i k : ℕ) (act : SessionAction) → GivesNothing owner i k act → owner k ≡ Some i → gives_replies act ≡ false
replies_none owner i k (Opens port) n own = absurd (n own)
replies_none owner i k (Take room []) n own = refl
replies_none owner i k (Take room (b ∷ bytes)) (inl other) own = absurd (other own)
replies_none owner i k (Take room (b ∷ bytes)) (inr nothing) own = absurd (let wrong : b ∷ bytes ≡ [] = nothing in cc)
replies_none owner i k act n own = refl

records_none : (owner : Owner) (i k : ℕ) (act : SessionAction) → GivesNothing owner i k act → owner k ≡ Some i → gives_records act ≡ false
records_none owner i k (Opens port) n own = absurd (n own)
records_none owner i k (Connect port) n own = absurd (n own)
records_none owner i k (Turn room step []) n own = refl
records_none owner i k (Turn room step (b ∷ bytes)) (inl other) own = absurd (other own)
records_none owner i k (Turn room step (b ∷ bytes)) (inr nothing) own = absurd (let wrong : b ∷ bytes ≡ [] = nothing in cc)
records_none owner i k act n own = refl

none_waited : (owner : Owner) (i k : ℕ) (t : Traffic) (act : SessionAction) → GivesNothing owner i k act → owner k ≡ Some i → waits_for t act ≡ false
none_waited owner i k (Reads bytes) act n own = replies_none owner i k act n own
none_waited owner i k (Takes bytes) act n own = records_none owner i k act n own
none_waited owner i k t act n own = refl

both_not : (a b : Bool) → (a ≡ true → b ≡ false) → (a && b) ≡ false
both_not true b f = f refl
both_not false b f = refl

pub free_unheld : {M : Type 0} (owner : Owner) (i : ℕ) (t : Traffic) (action : JointAction M) → IsFreeOf owner i action → holds_back owner i t action ≡ false
free_unheld owner i t (OfServer (Of k act)) n = both_not (is_owned (owner k) i) (waits_for t act) (λ on. none_waited owner i k t act n (owned_is (owner k) i on))
free_unheld owner i t (OfServer Full) n = refl
free_unheld owner i t (OfServer Waits) n = refl
free_unheld owner i t (OfServer (Refuses port trace)) n = refl
free_unheld owner i t (OfServer Turned) n = refl
free_unheld owner i t (OfServer Stops) n = refl
free_unheld owner i t (OfJob j move) n = eqb_off j i n

pub comes_sooner : {M : Type 0} → MovesMayComeSoonerAmong M
comes_sooner seen owner i move action past n h = swaps seen owner i move action past (free_unheld owner i (seen move) action n) h
