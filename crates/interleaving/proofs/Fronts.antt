-- What was read is a front of what was given.
use Rattle.std.specs.Prelude.{◌<◌, ◌≤◌}
use Rattle.std.proofs.Common.{◌≡◌, ◌∙◌, ◌⊎◌, inl, inr, ℕ, Bool, true, false, cond, Some, None, List, [], ◌∷◌, ◌++◌, refl, sym, ap, subst, arith}
use Rattle.std.proofs.Math.Dec.{eqb}
use Rattle.std.proofs.lemmas.Bool.{eqb-true}
use Rattle.saned_serve.specs.SessionActions.{SessionAction}
use Rattle.saned_serve.specs.SessionActions.SessionAction.{Opens, Hears, Feed, Forgets, Take, Says, Looks, Misses, Connect, Turn, Shows, Lose, HangsUp, Leaves}
use Rattle.saned_serve.specs.Journal.{IsEnabledAfter, IsFront, IsJournal, LoopAction, MayDo, SessionProjection, empty_projection, has_stopped, projection_after, projection_of}
use Rattle.saned_serve.specs.Journal.LoopAction.{Of, Full, Waits, Refuses, Turned, Stops}
use Rattle.saned_serve.proofs.ActionSteps.{life_at, life_off}
use Rattle.saned_serve.proofs.Summing.{nobody}
use Rattle.interleaving.specs.Interleavings.{Traffic, accepted_after, accepted_with, bytes_heard, bytes_sent, bytes_taken, connections_accepted, connections_made, made_with, heard_with, job_journal, sent_with, server_journal, taken_with}
use Rattle.interleaving.specs.Interleavings.JointAction.{OfJob, OfServer}
use Rattle.interleaving.specs.Interleavings.Traffic.{Dials, NoTraffic, Reads, Takes, Writes}
use Rattle.interleaving.specs.AmongStrangers.{ReadsWereWrittenAmong}
use Rattle.interleaving.specs.HandingOn.{HandsOnAmong, HaveOneSession, IsHandedOnAmong, MayMove, MayServe, Owner}
use Rattle.interleaving.proofs.Sooner.{Joint, front_more}

-- what passed, of a projection of a session and of its job
record IsFlowing (projection : SessionProjection) (accepted : ℕ) (sent heard taken : List ℕ) (made : ℕ) : Type 0 where
  requests : IsFront projection.heard sent
  replies : IsFront heard projection.said
  calls : accepted ≤ made
  waits : accepted < made → taken ≡ []
  records : accepted ≡ made → IsFront taken projection.shown

nothing_front : (text : List ℕ) → IsFront [] text
nothing_front text = (text, refl)

-- ---- a move

-- what it asks for, by what passed before it
abbrev Asks : SessionProjection → ℕ → Traffic → List ℕ → List ℕ → ℕ → Type 0
Asks projection accepted (Writes bytes) heard taken made = Unit {0}
Asks projection accepted (Reads bytes) heard taken made = IsFront (heard ++ bytes) projection.said
Asks projection accepted Dials heard taken made = Unit {0}
Asks projection accepted (Takes bytes) heard taken made = (accepted ≡ made) × IsFront (taken ++ bytes) projection.shown
Asks projection accepted NoTraffic heard taken made = Unit {0}

moved : (projection : SessionProjection) (accepted : ℕ) (traffic : Traffic) (sent heard taken : List ℕ) (made : ℕ) → Asks projection accepted traffic heard taken made → IsFlowing projection accepted sent heard taken made
    → IsFlowing projection accepted (sent_with traffic sent) (heard_with traffic heard) (taken_with traffic taken) (made_with traffic made)
moved projection accepted (Writes bytes) sent heard taken made a f = record { requests = front_more projection.heard sent bytes f.requests; replies = f.replies; calls = f.calls; waits = f.waits; records = f.records }
moved projection accepted (Reads bytes) sent heard taken made a f = record { requests = f.requests; replies = a; calls = f.calls; waits = f.waits; records = f.records }
moved projection accepted Dials sent heard taken made a f = record { requests = f.requests; replies = f.replies; calls = (let l = f.calls in omega (arith, l)); waits = λ h. refl; records = λ h. nothing_front projection.shown }
moved projection accepted (Takes bytes) sent heard taken made a f = record { requests = f.requests; replies = f.replies; calls = f.calls; waits = λ h. absurd (let e = a.0 in omega (arith, e, h)); records = λ h. a.1 }
moved projection accepted NoTraffic sent heard taken made a f = f

abbrev Flows : {M : Type 0} → (M → Traffic) → SessionProjection → ℕ → List M → Type 0
Flows seen projection accepted moves = IsFlowing projection accepted (bytes_sent seen moves) (bytes_heard seen moves) (bytes_taken seen moves) (connections_made seen moves)

moved_by : {M : Type 0} (seen : M → Traffic) (projection : SessionProjection) (accepted : ℕ) (move : M) (moves : List M) → Asks projection accepted (seen move) (bytes_heard seen moves) (bytes_taken seen moves) (connections_made seen moves) → Flows seen projection accepted moves → Flows seen projection accepted (move ∷ moves)
unfolding bytes_sent bytes_heard bytes_taken connections_made
moved_by seen projection accepted move moves a f = moved projection accepted (seen move) (bytes_sent seen moves) (bytes_heard seen moves) (bytes_taken seen moves) (connections_made seen moves) a f

moved_if : {M : Type 0} (seen : M → Traffic) (b : Bool) (projection : SessionProjection) (accepted : ℕ) (move : M) (moves : List M) → (b ≡ true → Asks projection accepted (seen move) (bytes_heard seen moves) (bytes_taken seen moves) (connections_made seen moves)) → Flows seen projection accepted moves
    → Flows seen projection accepted (cond b (move ∷ moves) moves)
moved_if seen true projection accepted move moves a f = moved_by seen projection accepted move moves (a refl) f
moved_if seen false projection accepted move moves a f = f

asks_of : {M : Type 0} (seen : M → Traffic) (owner : Owner) (k i : ℕ) (traffic : Traffic) (past : Joint M) → HaveOneSession owner → owner k ≡ Some i → MayMove seen owner i traffic past
    → Asks (projection_of k (server_journal past)) (connections_accepted k (server_journal past)) traffic (bytes_heard seen (job_journal i past)) (bytes_taken seen (job_journal i past)) (connections_made seen (job_journal i past))
asks_of seen owner k i (Writes bytes) past one own m = tt
asks_of seen owner k i (Reads bytes) past one own m = subst (λ (j : ℕ). IsFront (bytes_heard seen (job_journal i past) ++ bytes) (projection_of j (server_journal past)).said) (one m.0 k i m.1 own) m.2
asks_of seen owner k i Dials past one own m = tt
asks_of seen owner k i (Takes bytes) past one own m =
    let same = one m.0 k i m.1 own in (
      subst (λ (j : ℕ). connections_accepted j (server_journal past) ≡ connections_made seen (job_journal i past)) same m.2,
      subst (λ (j : ℕ). IsFront (bytes_taken seen (job_journal i past) ++ bytes) (projection_of j (server_journal past)).shown) same m.3,
    )
asks_of seen owner k i NoTraffic past one own m = tt

-- ---- an act for the session

-- what it asks for, by what passed before it
abbrev Needs : SessionProjection → ℕ → SessionAction → List ℕ → ℕ → Type 0
Needs projection accepted (Opens port) sent made = projection ≡ empty_projection
Needs projection accepted (Feed piece fed begins) sent made = IsFront (projection.heard ++ piece) sent
Needs projection accepted (Connect port) sent made = accepted < made
Needs projection accepted act sent made = Unit {0}

done : (act : SessionAction) (projection : SessionProjection) (accepted : ℕ) (sent heard taken : List ℕ) (made : ℕ) → Needs projection accepted act sent made → IsFlowing projection accepted sent heard taken made
    → IsFlowing (projection_after act projection) (accepted_with act accepted) sent heard taken made
done (Opens port) projection accepted sent heard taken made n f = record {
  requests = nothing_front sent;
  replies = subst (λ (x : List ℕ). IsFront heard x) (ap (λ (v : SessionProjection). v.said) n) f.replies;
  calls = f.calls;
  waits = f.waits;
  records = λ h. subst (λ (x : List ℕ). IsFront taken x) (ap (λ (v : SessionProjection). v.shown) n) (f.records h);
}
done (Hears got room bytes) projection accepted sent heard taken made n f = record { requests = f.requests; replies = f.replies; calls = f.calls; waits = f.waits; records = f.records }
done (Feed piece fed begins) projection accepted sent heard taken made n f = record { requests = n; replies = f.replies; calls = f.calls; waits = f.waits; records = f.records }
done (Forgets told port) projection accepted sent heard taken made n f = record { requests = f.requests; replies = f.replies; calls = f.calls; waits = f.waits; records = f.records }
done (Take room bytes) projection accepted sent heard taken made n f = record { requests = f.requests; replies = front_more heard projection.said bytes f.replies; calls = f.calls; waits = f.waits; records = f.records }
done (Says got bytes) projection accepted sent heard taken made n f = record { requests = f.requests; replies = f.replies; calls = f.calls; waits = f.waits; records = f.records }
done (Looks frame) projection accepted sent heard taken made n f = record { requests = f.requests; replies = f.replies; calls = f.calls; waits = f.waits; records = f.records }
done (Misses port) projection accepted sent heard taken made n f = record { requests = f.requests; replies = f.replies; calls = f.calls; waits = f.waits; records = f.records }
done (Connect port) projection accepted sent heard taken made n f = record {
  requests = f.requests;
  replies = f.replies;
  calls = omega (arith, n);
  waits = λ h. f.waits n;
  records = λ h. subst (λ (x : List ℕ). IsFront x []) (sym (f.waits n)) (nothing_front []);
}
done (Turn room step bytes) projection accepted sent heard taken made n f = record { requests = f.requests; replies = f.replies; calls = f.calls; waits = f.waits; records = λ h. front_more taken projection.shown bytes (f.records h) }
done (Shows got bytes) projection accepted sent heard taken made n f = record { requests = f.requests; replies = f.replies; calls = f.calls; waits = f.waits; records = f.records }
done Lose projection accepted sent heard taken made n f = record { requests = f.requests; replies = f.replies; calls = f.calls; waits = f.waits; records = f.records }
done (HangsUp trace) projection accepted sent heard taken made n f = record { requests = f.requests; replies = f.replies; calls = f.calls; waits = f.waits; records = f.records }
done (Leaves port trace) projection accepted sent heard taken made n f = record { requests = f.requests; replies = f.replies; calls = f.calls; waits = f.waits; records = f.records }

same_owner : (owner : Owner) (k i j : ℕ) → owner k ≡ Some i → owner k ≡ Some j → j ≡ i
same_owner owner k i j a b = let e : Some j ≡ Some i = sym b ∙ a in cc

needs_of : {M : Type 0} (seen : M → Traffic) (owner : Owner) (k i : ℕ) (act : SessionAction) (past : Joint M) → owner k ≡ Some i → MayDo act (projection_of k (server_journal past)) (has_stopped (server_journal past)) → MayServe seen owner k act past
    → Needs (projection_of k (server_journal past)) (connections_accepted k (server_journal past)) act (bytes_sent seen (job_journal i past)) (connections_made seen (job_journal i past))
needs_of seen owner k i (Opens port) past own may m = may
needs_of seen owner k i (Hears got room bytes) past own may m = tt
needs_of seen owner k i (Feed piece fed begins) past own may m = subst (λ (x : ℕ). IsFront ((projection_of k (server_journal past)).heard ++ piece) (bytes_sent seen (job_journal x past))) (same_owner owner k i m.0 own m.1) m.2
needs_of seen owner k i (Forgets told port) past own may m = tt
needs_of seen owner k i (Take room bytes) past own may m = tt
needs_of seen owner k i (Says got bytes) past own may m = tt
needs_of seen owner k i (Looks frame) past own may m = tt
needs_of seen owner k i (Misses port) past own may m = tt
needs_of seen owner k i (Connect port) past own may m = subst (λ (x : ℕ). connections_accepted k (server_journal past) < connections_made seen (job_journal x past)) (same_owner owner k i m.0 own m.1) m.2
needs_of seen owner k i (Turn room step bytes) past own may m = tt
needs_of seen owner k i (Shows got bytes) past own may m = tt
needs_of seen owner k i Lose past own may m = tt
needs_of seen owner k i (HangsUp trace) past own may m = tt
needs_of seen owner k i (Leaves port trace) past own may m = tt

accepted_at : (k number : ℕ) (act : SessionAction) (past : List LoopAction) (b : Bool) → eqb number k ≡ b → connections_accepted k (Of number act ∷ past) ≡ cond b (accepted_with act (connections_accepted k past)) (connections_accepted k past)
unfolding connections_accepted
accepted_at k number act past b e = ap (λ (v : Bool). cond v (accepted_with act (connections_accepted k past)) (connections_accepted k past)) e

accepted_else : (k : ℕ) (action : LoopAction) (past : List LoopAction) → accepted_after action k (connections_accepted k past) ≡ connections_accepted k past → connections_accepted k (action ∷ past) ≡ connections_accepted k past
unfolding connections_accepted
accepted_else k action past e = e

-- ---- all that was done

abbrev FlowsIn : {M : Type 0} → (M → Traffic) → ℕ → List LoopAction → List M → Type 0
FlowsIn seen k journal moves = Flows seen (projection_of k journal) (connections_accepted k journal) moves

act_by : {M : Type 0} (seen : M → Traffic) (owner : Owner) (k i number : ℕ) (act : SessionAction) (past : Joint M) (b : Bool) → eqb number k ≡ b → owner k ≡ Some i → MayDo act (projection_of number (server_journal past)) (has_stopped (server_journal past)) → (owner number ≡ None) ⊎ MayServe seen owner number act past → FlowsIn seen k (server_journal past) (job_journal i past)
    → FlowsIn seen k (Of number act ∷ server_journal past) (job_journal i past)
act_by seen owner k i number act past true at own may (inl none) f = absurd (let clash : None ≡ Some i = sym none ∙ ap owner (eqb-true number k at) ∙ own in cc)
act_by seen owner k i number act past true at own may (inr m) f =
    let journal = server_journal past in
    let moves = job_journal i past in
    let same = eqb-true number k at in
    let needs = needs_of seen owner k i act past own (subst (λ (n : ℕ). MayDo act (projection_of n journal) (has_stopped journal)) same may) (subst (λ (n : ℕ). MayServe seen owner n act past) same m) in
    rw (life_at k (Of number act) journal at, accepted_at k number act journal true at)
    (done act (projection_of k journal) (connections_accepted k journal) (bytes_sent seen moves) (bytes_heard seen moves) (bytes_taken seen moves) (connections_made seen moves) needs f)
act_by seen owner k i number act past false off own may m f = rw (life_off k (Of number act) (server_journal past) off, accepted_at k number act (server_journal past) false off) f

off_by : {M : Type 0} (seen : M → Traffic) (k : ℕ) (action : LoopAction) (journal : List LoopAction) (moves : List M) → projection_of k (action ∷ journal) ≡ projection_of k journal → accepted_after action k (connections_accepted k journal) ≡ connections_accepted k journal → FlowsIn seen k journal moves → FlowsIn seen k (action ∷ journal) moves
off_by seen k action journal moves same count f = rw (same, accepted_else k action journal count) f

turned_by : {M : Type 0} (seen : M → Traffic) (k : ℕ) (journal : List LoopAction) (moves : List M) → FlowsIn seen k journal moves → FlowsIn seen k (Turned ∷ journal) moves
turned_by seen k journal moves f = rw (life_at k Turned journal refl, accepted_else k Turned journal refl) (record { requests = f.requests; replies = f.replies; calls = f.calls; waits = f.waits; records = f.records })

by_action : {M : Type 0} (seen : M → Traffic) (owner : Owner) (k i : ℕ) (action : LoopAction) (past : Joint M) → owner k ≡ Some i → IsEnabledAfter action (server_journal past) → IsHandedOnAmong seen owner (OfServer action) past → FlowsIn seen k (server_journal past) (job_journal i past) → FlowsIn seen k (action ∷ server_journal past) (job_journal i past)
by_action seen owner k i (Of number act) past own may m f = act_by seen owner k i number act past (eqb number k) refl own may.0 m f
by_action seen owner k i Full past own may m f = off_by seen k Full (server_journal past) (job_journal i past) (life_off k Full (server_journal past) refl) refl f
by_action seen owner k i Waits past own may m f = off_by seen k Waits (server_journal past) (job_journal i past) (life_off k Waits (server_journal past) refl) refl f
by_action seen owner k i (Refuses port trace) past own may m f = off_by seen k (Refuses port trace) (server_journal past) (job_journal i past) (life_off k (Refuses port trace) (server_journal past) refl) refl f
by_action seen owner k i Turned past own may m f = turned_by seen k (server_journal past) (job_journal i past) f
by_action seen owner k i Stops past own may m f = off_by seen k Stops (server_journal past) (job_journal i past) (life_off k Stops (server_journal past) refl) refl f

by_move : {M : Type 0} (seen : M → Traffic) (owner : Owner) (k i j : ℕ) (move : M) (past : Joint M) → HaveOneSession owner → owner k ≡ Some i → MayMove seen owner j (seen move) past → FlowsIn seen k (server_journal past) (job_journal i past) → FlowsIn seen k (server_journal past) (job_journal i (OfJob j move ∷ past))
unfolding job_journal
by_move seen owner k i j move past one own m f =
    moved_if seen (eqb j i) (projection_of k (server_journal past)) (connections_accepted k (server_journal past)) move (job_journal i past)
    (λ same. asks_of seen owner k i (seen move) past one own (subst (λ (x : ℕ). MayMove seen owner x (seen move) past) (eqb-true j i same) m)) f

abbrev no_moves : (M : Type 0) → List M
no_moves M = []

begun : {M : Type 0} (seen : M → Traffic) (k : ℕ) → FlowsIn seen k [] (no_moves M)
unfolding bytes_sent bytes_heard bytes_taken connections_made connections_accepted
begun seen k = rw (nobody k) (record { requests = ([], refl); replies = ([], refl); calls = omega arith; waits = λ l. refl; records = λ l. ([], refl) })

flows : {M : Type 0} (seen : M → Traffic) (owner : Owner) (past : Joint M) (k i : ℕ) → HaveOneSession owner → IsJournal (server_journal past) → HandsOnAmong seen owner past → owner k ≡ Some i → FlowsIn seen k (server_journal past) (job_journal i past)
unfolding HandsOnAmong server_journal job_journal
flows seen owner [] k i one legal h own = begun seen k
flows seen owner (OfServer action ∷ past) k i one legal h own = by_action seen owner k i action past own legal.1 h.1 (flows seen owner past k i one legal.0 h.0 own)
flows seen owner (OfJob j move ∷ past) k i one legal h own = by_move seen owner k i j move past one own h.1 (flows seen owner past k i one legal h.0 own)

pub reads_written : {M : Type 0} → ReadsWereWrittenAmong M
reads_written seen owner past k i one legal h own = let f = flows seen owner past k i one legal h own in record { requests = f.requests; replies = f.replies; accepted = f.calls; waits = f.waits; records = f.records }
