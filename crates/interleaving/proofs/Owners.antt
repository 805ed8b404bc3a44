-- What strangers may do, and what is so without them.
use Rattle.std.proofs.Common.{◌≡◌, ◌∙◌, ◌⊎◌, inl, inr, ℕ, Bool, Some, None, List, [], ◌∷◌, ◌++◌, refl, sym, ap, subst}
use Rattle.saned_core.specs.declared.session_slot.Fed.{Fed}
use Rattle.saned_serve.specs.SessionActions.{SessionAction}
use Rattle.saned_serve.specs.SessionActions.SessionAction.{Opens, Feed, Connect}
use Rattle.saned_serve.specs.Journal.{IsFront, projection_of}
use Rattle.saned_serve.specs.Journal.LoopAction.{Of, Full, Waits, Refuses, Turned, Stops}
use Rattle.interleaving.specs.Interleavings.{Traffic, bytes_sent, job_journal, server_journal}
use Rattle.interleaving.specs.Interleavings.JointAction.{OfJob, OfServer}
use Rattle.interleaving.specs.AmongStrangers.{IsForAnOwner, NoneSpeaksForAJob, ServesOwners, StrangersSpeak, WithoutStrangers}
use Rattle.interleaving.specs.HandingOn.{HandsOn, HandsOnAmong, MayServe, Owner}
use Rattle.interleaving.specs.Orders.{AllMayComeSooner, MovesMayComeSooner, ReadsWereWritten}
use Rattle.interleaving.proofs.Ahead.{all_sooner, same_swap}
use Rattle.interleaving.proofs.Fronts.{reads_written}
use Rattle.interleaving.proofs.Sooner.{Joint, comes_sooner}

-- ---- one act

is_owned_so : (owner : Owner) (k i : ℕ) → owner k ≡ Some i → (j : ℕ) × (owner k ≡ Some j)
is_owned_so owner k i own = (i, own)

for_owner : {M : Type 0} (seen : M → Traffic) (owner : Owner) (k : ℕ) (act : SessionAction) (past : Joint M) → MayServe seen owner k act past → IsForAnOwner owner k act
for_owner seen owner k (Opens port) past m = m
for_owner seen owner k (Feed piece fed begins) past m = is_owned_so owner k m.0 m.1
for_owner seen owner k (Connect port) past m = is_owned_so owner k m.0 m.1
for_owner seen owner k act past m = tt

nobodys : (owner : Owner) (k i : ℕ) → owner k ≡ None → owner k ≡ Some i → ⊥
nobodys owner k i none own = let clash : None ≡ Some i = sym none ∙ own in cc

nobodys_own : (owner : Owner) (k : ℕ) → owner k ≡ None → (i : ℕ) × (owner k ≡ Some i) → ⊥
nobodys_own owner k none own = nobodys owner k own.0 none own.1

owned : {M : Type 0} (seen : M → Traffic) (owner : Owner) (k : ℕ) (act : SessionAction) (past : Joint M) → (owner k ≡ None) ⊎ MayServe seen owner k act past → IsForAnOwner owner k act → MayServe seen owner k act past
owned seen owner k act past (inr m) own = m
owned seen owner k (Opens port) past (inl none) own = own
owned seen owner k (Feed piece fed begins) past (inl none) own = absurd (nobodys_own owner k none own)
owned seen owner k (Connect port) past (inl none) own = absurd (nobodys_own owner k none own)
owned seen owner k act past (inl none) own = tt

-- ---- all acts

to_among : {M : Type 0} (seen : M → Traffic) (owner : Owner) (acts : Joint M) → HandsOn seen owner acts → HandsOnAmong seen owner acts × ServesOwners owner (server_journal acts)
unfolding HandsOn HandsOnAmong server_journal
to_among seen owner [] h = (tt, tt)
to_among seen owner (OfServer (Of k act) ∷ past) h = let b = to_among seen owner past h.0 in ((b.0, inr h.1), (b.1, for_owner seen owner k act past h.1))
to_among seen owner (OfServer Full ∷ past) h = let b = to_among seen owner past h.0 in ((b.0, tt), (b.1, tt))
to_among seen owner (OfServer Waits ∷ past) h = let b = to_among seen owner past h.0 in ((b.0, tt), (b.1, tt))
to_among seen owner (OfServer (Refuses port trace) ∷ past) h = let b = to_among seen owner past h.0 in ((b.0, tt), (b.1, tt))
to_among seen owner (OfServer Turned ∷ past) h = let b = to_among seen owner past h.0 in ((b.0, tt), (b.1, tt))
to_among seen owner (OfServer Stops ∷ past) h = let b = to_among seen owner past h.0 in ((b.0, tt), (b.1, tt))
to_among seen owner (OfJob i move ∷ past) h = let b = to_among seen owner past h.0 in ((b.0, h.1), b.1)

from_among : {M : Type 0} (seen : M → Traffic) (owner : Owner) (acts : Joint M) → HandsOnAmong seen owner acts → ServesOwners owner (server_journal acts) → HandsOn seen owner acts
unfolding HandsOn HandsOnAmong server_journal
from_among seen owner [] h s = tt
from_among seen owner (OfServer (Of k act) ∷ past) h s = (from_among seen owner past h.0 s.0, owned seen owner k act past h.1 s.1)
from_among seen owner (OfServer Full ∷ past) h s = (from_among seen owner past h.0 s.0, tt)
from_among seen owner (OfServer Waits ∷ past) h s = (from_among seen owner past h.0 s.0, tt)
from_among seen owner (OfServer (Refuses port trace) ∷ past) h s = (from_among seen owner past h.0 s.0, tt)
from_among seen owner (OfServer Turned ∷ past) h s = (from_among seen owner past h.0 s.0, tt)
from_among seen owner (OfServer Stops ∷ past) h s = (from_among seen owner past h.0 s.0, tt)
from_among seen owner (OfJob i move ∷ past) h s = (from_among seen owner past h.0 s, h.1)

pub without : {M : Type 0} → WithoutStrangers M
without seen owner acts = (to_among seen owner acts, from_among seen owner acts)

-- ---- today's laws, of acts without strangers

-- connections hand on in another order of the same journal of the server
hands_in : {M : Type 0} (seen : M → Traffic) (owner : Owner) (acts others : Joint M) → server_journal others ≡ server_journal acts → HandsOn seen owner acts → HandsOnAmong seen owner others → HandsOn seen owner others
hands_in seen owner acts others same h among = from_among seen owner others among (subst (ServesOwners owner) (sym same) (to_among seen owner acts h).1)

pub moves_sooner : {M : Type 0} → MovesMayComeSooner M
moves_sooner seen owner i move action past n h =
    let swapped = same_swap owner i move action past n in
    hands_in seen owner (OfJob i move ∷ action ∷ past) (action ∷ OfJob i move ∷ past) swapped.server h (comes_sooner seen owner i move action past n (to_among seen owner (OfJob i move ∷ action ∷ past) h).0)

pub all_at_once : {M : Type 0} → AllMayComeSooner M
all_at_once seen owner i since past n h =
    let x = all_sooner seen owner i since past n (to_among seen owner (since ++ past) h).0 in
    record { same = x.same; hands = hands_in seen owner (since ++ past) _ x.same.server h x.hands }

pub fronts : {M : Type 0} → ReadsWereWritten M
fronts seen owner past k i one legal h own = reads_written seen owner past k i one legal (to_among seen owner past h).0 own

-- ---- a stranger speaks, and none speaks for a job

pub strangers_speak : {M : Type 0} → StrangersSpeak M
unfolding HandsOn HandsOnAmong
strangers_speak seen port piece = (((tt, inl refl), inl refl), λ h. let own = h.0.1 in let clash : None ≡ Some own.0 = own.1 in cc)

begins_not : (heard piece rest : List ℕ) (byte : ℕ) → (heard ++ byte ∷ piece) ++ rest ≡ [] → ⊥
begins_not [] piece rest byte e = cc
begins_not (b ∷ heard) piece rest byte e = cc

none_spoken : {M : Type 0} (seen : M → Traffic) (owner : Owner) (k i byte : ℕ) (piece : List ℕ) (fed : Fed) (begins : Bool) (past : Joint M) → owner k ≡ Some i → bytes_sent seen (job_journal i past) ≡ [] → (owner k ≡ None) ⊎ MayServe seen owner k (Feed (byte ∷ piece) fed begins) past → ⊥
none_spoken seen owner k i byte piece fed begins past own silent (inl none) = nobodys owner k i none own
none_spoken seen owner k i byte piece fed begins past own silent (inr m) =
    let same : m.0 ≡ i = (let e : Some m.0 ≡ Some i = sym m.1 ∙ own in cc) in
    let heard = (projection_of k (server_journal past)).heard in
    let front : IsFront (heard ++ byte ∷ piece) [] = subst (IsFront (heard ++ byte ∷ piece)) (ap (λ (j : ℕ). bytes_sent seen (job_journal j past)) same ∙ silent) m.2 in
    begins_not heard piece front.0 byte (sym front.1)

pub none_speaks : {M : Type 0} → NoneSpeaksForAJob M
unfolding HandsOnAmong
none_speaks seen owner k i byte piece fed begins past own silent h = none_spoken seen owner k i byte piece fed begins past own silent h.1
