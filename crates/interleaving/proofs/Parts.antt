-- That connections hand on is what is said of the control connections and of the data connections.
use Rattle.std.proofs.Common.{◌≡◌, ℕ, List, [], ◌∷◌, ◌++◌, ap, subst}
use Rattle.saned_serve.specs.Journal.{IsFront, SessionProjection}
use Rattle.saned_serve.specs.Journal.LoopAction.{Of}
use Rattle.saned_serve.proofs.Summing.{nobody}
use Rattle.interleaving.specs.Interleavings.{Traffic, bytes_taken, job_journal, server_journal}
use Rattle.interleaving.specs.Interleavings.JointAction.{OfJob, OfServer}
use Rattle.interleaving.specs.Interleavings.Traffic.{Reads, Takes}
use Rattle.interleaving.specs.HandingOn.{CameFromDaemon, HandsOn, HandsOnAmong, MayMove, Owner}
use Rattle.interleaving.specs.Parts.{AnotherMayListen, ControlHandsOn, ControlHandsOnAmong, DataIsFromDaemon, HandsOnInParts, HandsOnInPartsAmong, MayHear, MayTake}
use Rattle.interleaving.specs.AmongStrangers.{ServesOwners}
use Rattle.interleaving.proofs.Owners.{without}
use Rattle.interleaving.proofs.Sooner.{Joint}

-- ---- a move

move_parts : {M : Type 0} (seen : M → Traffic) (owner : Owner) (i : ℕ) (t : Traffic) (past : Joint M) → MayMove seen owner i t past → MayHear seen owner i t past × MayTake seen owner i t past
move_parts seen owner i (Reads bytes) past m = (m, tt)
move_parts seen owner i (Takes bytes) past m = (tt, m)
move_parts seen owner i t past m = (tt, tt)

move_whole : {M : Type 0} (seen : M → Traffic) (owner : Owner) (i : ℕ) (t : Traffic) (past : Joint M) → MayHear seen owner i t past → MayTake seen owner i t past → MayMove seen owner i t past
move_whole seen owner i (Reads bytes) past h d = h
move_whole seen owner i (Takes bytes) past h d = d
move_whole seen owner i t past h d = tt

-- ---- all acts

to_parts : {M : Type 0} (seen : M → Traffic) (owner : Owner) (acts : Joint M) → HandsOn seen owner acts → ControlHandsOn seen owner acts × DataIsFromDaemon seen owner acts
unfolding HandsOn ControlHandsOn DataIsFromDaemon
to_parts seen owner [] h = (tt, tt)
to_parts seen owner (OfServer (Of k act) ∷ past) h = let b = to_parts seen owner past h.0 in ((b.0, h.1), b.1)
to_parts seen owner (OfServer action ∷ past) h = let b = to_parts seen owner past h.0 in ((b.0, tt), b.1)
to_parts seen owner (OfJob i move ∷ past) h =
    let b = to_parts seen owner past h.0 in
    let m = move_parts seen owner i (seen move) past h.1 in
    ((b.0, m.0), (b.1, m.1))

from_parts : {M : Type 0} (seen : M → Traffic) (owner : Owner) (acts : Joint M) → ControlHandsOn seen owner acts → DataIsFromDaemon seen owner acts → HandsOn seen owner acts
unfolding HandsOn ControlHandsOn DataIsFromDaemon
from_parts seen owner [] c d = tt
from_parts seen owner (OfServer (Of k act) ∷ past) c d = (from_parts seen owner past c.0 d, c.1)
from_parts seen owner (OfServer action ∷ past) c d = (from_parts seen owner past c.0 d, tt)
from_parts seen owner (OfJob i move ∷ past) c d = (from_parts seen owner past c.0 d.0, move_whole seen owner i (seen move) past c.1 d.1)

pub in_parts : {M : Type 0} → HandsOnInParts M
in_parts seen owner acts = (to_parts seen owner acts, from_parts seen owner acts)

to_parts_among : {M : Type 0} (seen : M → Traffic) (owner : Owner) (acts : Joint M) → HandsOnAmong seen owner acts → ControlHandsOnAmong seen owner acts × DataIsFromDaemon seen owner acts
unfolding HandsOnAmong ControlHandsOnAmong DataIsFromDaemon
to_parts_among seen owner [] h = (tt, tt)
to_parts_among seen owner (OfServer (Of k act) ∷ past) h = let b = to_parts_among seen owner past h.0 in ((b.0, h.1), b.1)
to_parts_among seen owner (OfServer action ∷ past) h = let b = to_parts_among seen owner past h.0 in ((b.0, tt), b.1)
to_parts_among seen owner (OfJob i move ∷ past) h =
    let b = to_parts_among seen owner past h.0 in
    let m = move_parts seen owner i (seen move) past h.1 in
    ((b.0, m.0), (b.1, m.1))

from_parts_among : {M : Type 0} (seen : M → Traffic) (owner : Owner) (acts : Joint M) → ControlHandsOnAmong seen owner acts → DataIsFromDaemon seen owner acts → HandsOnAmong seen owner acts
unfolding HandsOnAmong ControlHandsOnAmong DataIsFromDaemon
from_parts_among seen owner [] c d = tt
from_parts_among seen owner (OfServer (Of k act) ∷ past) c d = (from_parts_among seen owner past c.0 d, c.1)
from_parts_among seen owner (OfServer action ∷ past) c d = (from_parts_among seen owner past c.0 d, tt)
from_parts_among seen owner (OfJob i move ∷ past) c d = (from_parts_among seen owner past c.0 d.0, move_whole seen owner i (seen move) past c.1 d.1)

pub in_parts_among : {M : Type 0} → HandsOnInPartsAmong M
in_parts_among seen owner acts = (to_parts_among seen owner acts, from_parts_among seen owner acts)

-- without strangers the control connections hand on just where they do so among them, and the server serves owners alone
pub control_among : {M : Type 0} (seen : M → Traffic) (owner : Owner) (acts : Joint M) → ControlHandsOn seen owner acts → DataIsFromDaemon seen owner acts → ControlHandsOnAmong seen owner acts × ServesOwners owner (server_journal acts)
control_among seen owner acts c d =
    let both = (without seen owner acts).0 (from_parts seen owner acts c d) in
    ((to_parts_among seen owner acts both.0).0, both.1)

pub control_alone : {M : Type 0} (seen : M → Traffic) (owner : Owner) (acts : Joint M) → ControlHandsOnAmong seen owner acts → DataIsFromDaemon seen owner acts → ServesOwners owner (server_journal acts) → ControlHandsOn seen owner acts
control_alone seen owner acts c d owners = (to_parts seen owner acts ((without seen owner acts).1 (from_parts_among seen owner acts c d) owners)).0

-- ---- another listens

no_front : (taken : List ℕ) (byte : ℕ) → IsFront (taken ++ byte ∷ []) [] → ⊥
no_front [] byte f = let wrong : [] ≡ byte ∷ f.0 = f.1 in cc
no_front (b ∷ taken) byte f = let wrong : [] ≡ b ∷ ((taken ++ byte ∷ []) ++ f.0) = f.1 in cc

hears_another : {M : Type 0} (seen : M → Traffic) (owner : Owner) (i byte : ℕ) (t : Traffic) → t ≡ Takes (byte ∷ []) → MayHear seen owner i t []
hears_another seen owner i byte (Takes bytes) is = tt
hears_another seen owner i byte (Reads bytes) is = absurd (let wrong : Reads bytes ≡ Takes (byte ∷ []) = is in cc)
hears_another seen owner i byte t is = tt

none_came : {M : Type 0} (seen : M → Traffic) (owner : Owner) (i byte : ℕ) → CameFromDaemon seen owner i (byte ∷ []) [] → ⊥
unfolding server_journal
none_came seen owner i byte came = no_front (bytes_taken seen (job_journal i [])) byte (subst (IsFront (bytes_taken seen (job_journal i []) ++ byte ∷ [])) (ap (λ (p : SessionProjection). p.shown) (nobody came.0)) came.3)

takes_another : {M : Type 0} (seen : M → Traffic) (owner : Owner) (i byte : ℕ) (t : Traffic) → t ≡ Takes (byte ∷ []) → MayTake seen owner i t [] → ⊥
takes_another seen owner i byte t is m = none_came seen owner i byte (subst (λ (x : Traffic). MayTake seen owner i x []) is m)

pub another_listens : {M : Type 0} → AnotherMayListen M
unfolding ControlHandsOn DataIsFromDaemon
another_listens seen owner i byte move is = ((tt, hears_another seen owner i byte (seen move) is), λ d. takes_another seen owner i byte (seen move) is d.1)
