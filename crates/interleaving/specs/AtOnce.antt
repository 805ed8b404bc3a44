-- The order in which each job moves as soon as connections allow.
use Rattle.std.specs.Prelude.{ℕ, ◌≡◌, ◌≢◌, ◌⊎◌, ◌&&◌, ◌==◌, Bool, true, false, Option, Some, None, List, [], ◌∷◌}
use Rattle.saned_serve.specs.SessionActions.{SessionAction}
use Rattle.saned_serve.specs.SessionActions.SessionAction.{Opens, Take, Connect, Turn}
use Rattle.saned_serve.specs.Journal.{LoopAction}
use Rattle.saned_serve.specs.Journal.LoopAction.{Of}
use Rattle.interleaving.specs.Interleavings.{JointAction, Traffic}
use Rattle.interleaving.specs.Interleavings.JointAction.{OfJob, OfServer}
use Rattle.interleaving.specs.Interleavings.Traffic.{Reads, Takes}
use Rattle.interleaving.specs.HandingOn.{HandsOnAmong, Owner}
use Rattle.interleaving.specs.Orders.{HaveSameJournals}

-- ---- what a move waits for

-- replies are given out with it
abbrev pub gives_replies : SessionAction → Bool
gives_replies (Opens port) = true
gives_replies (Take room (byte ∷ bytes)) = true
gives_replies act = false

-- records are, or a data connection is accepted
abbrev pub gives_records : SessionAction → Bool
gives_records (Opens port) = true
gives_records (Connect port) = true
gives_records (Turn room step (byte ∷ bytes)) = true
gives_records act = false

-- **waits for (`waits_for`)**: a move that reads replies waits for an act that gives some out. One that takes records
-- waits for an act that gives some out or accepts a data connection. Both wait for the opening of the session, and
-- other moves for nothing.
abbrev pub waits_for : Traffic → SessionAction → Bool
waits_for (Reads bytes) act = gives_replies act
waits_for (Takes bytes) act = gives_records act
waits_for t act = false

abbrev pub is_owned : Option ℕ → ℕ → Bool
is_owned None i = false
is_owned (Some j) i = j == i

-- of its own session
abbrev pub waits_for_action : Owner → ℕ → Traffic → LoopAction → Bool
waits_for_action owner i t (Of k act) = is_owned (owner k) i && waits_for t act
waits_for_action owner i t action = false

-- ---- and that it has waited for no more

-- besides moves of other jobs nothing was done before it, or its job's last move, or an act that it waits for
abbrev pub IsHeldUp : {M : Type 0} → Owner → ℕ → Traffic → List (JointAction M) → Type 0
IsHeldUp owner i t [] = Unit {0}
IsHeldUp owner i t (OfServer action ∷ past) = waits_for_action owner i t action ≡ true
IsHeldUp owner i t (OfJob j move ∷ past) = (j ≡ i) ⊎ ((j ≢ i) × IsHeldUp owner i t past)

abbrev pub AreHeldUp : {M : Type 0} → (M → Traffic) → Owner → List (JointAction M) → Type 0
AreHeldUp seen owner [] = Unit {0}
AreHeldUp seen owner (OfServer action ∷ past) = AreHeldUp seen owner past
AreHeldUp seen owner (OfJob i move ∷ past) = AreHeldUp seen owner past × IsHeldUp owner i (seen move) past

-- **moves at once (`MovesAtOnce`, `AreHeldUp`, `IsHeldUp`)**: an order of the same journals over connections that hand
-- on. In it each job moves as soon as it may: right behind its last move, or behind an act that its move waits for.
pub record MovesAtOnce {M : Type 0} (seen : M → Traffic) (owner : Owner) (acts : List (JointAction M)) : Type 0 where
  pub new : List (JointAction M)
  pub same : HaveSameJournals new acts
  pub hands : HandsOnAmong seen owner new
  pub held : AreHeldUp seen owner new

abbrev pub EachMovesAtOnce : Type 0 → Type 0
EachMovesAtOnce M = (seen : M → Traffic) (owner : Owner) (acts : List (JointAction M))
    → HandsOnAmong seen owner acts → MovesAtOnce seen owner acts
