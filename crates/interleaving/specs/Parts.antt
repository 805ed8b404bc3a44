-- That connections hand on, in two parts: what is handed on over control connections, and that the other end of each
-- data connection is the daemon.
use Rattle.std.specs.Prelude.{ℕ, ◌≡◌, ◌⊎◌, None, List, [], ◌∷◌}
use Rattle.saned_serve.specs.Journal.LoopAction.{Of}
use Rattle.interleaving.specs.Interleavings.{JointAction, Traffic}
use Rattle.interleaving.specs.Interleavings.JointAction.{OfJob, OfServer}
use Rattle.interleaving.specs.Interleavings.Traffic.{Reads, Takes}
use Rattle.interleaving.specs.HandingOn.{CameFromDaemon, HandsOn, HandsOnAmong, MayServe, Owner, WasSaid}

-- ---- the control connections

abbrev pub MayHear : {M : Type 0} → (M → Traffic) → Owner → ℕ → Traffic → List (JointAction M) → Type 0
MayHear seen owner i (Reads bytes) past = WasSaid seen owner i bytes past
MayHear seen owner i other past = Unit {0}

abbrev pub IsControlHandedOn : {M : Type 0} → (M → Traffic) → Owner → JointAction M → List (JointAction M) → Type 0
IsControlHandedOn seen owner (OfServer (Of k act)) past = MayServe seen owner k act past
IsControlHandedOn seen owner (OfServer action) past = Unit {0}
IsControlHandedOn seen owner (OfJob i move) past = MayHear seen owner i (seen move) past

-- **control connections hand on (`ControlHandsOn`, `ControlHandsOnAmong`)**: a session is fed what its job has written,
-- and a job hears what the daemon said for its session. A data connection is accepted for a session only if its job has
-- made one more. Among strangers the server may do anything for a session that no job has.
unfoldable pub ControlHandsOn : {M : Type 0} → (M → Traffic) → Owner → List (JointAction M) → Type 0
ControlHandsOn seen owner [] = Unit {0}
ControlHandsOn seen owner (action ∷ past) = ControlHandsOn seen owner past × IsControlHandedOn seen owner action past

abbrev pub IsControlHandedOnAmong : {M : Type 0} → (M → Traffic) → Owner → JointAction M → List (JointAction M)
    → Type 0
IsControlHandedOnAmong seen owner (OfServer (Of k act)) past = (owner k ≡ None) ⊎ MayServe seen owner k act past
IsControlHandedOnAmong seen owner action past = IsControlHandedOn seen owner action past

unfoldable pub ControlHandsOnAmong : {M : Type 0} → (M → Traffic) → Owner → List (JointAction M) → Type 0
ControlHandsOnAmong seen owner [] = Unit {0}
ControlHandsOnAmong seen owner (action ∷ past) = ControlHandsOnAmong seen owner past
    × IsControlHandedOnAmong seen owner action past

-- ---- the data connections

abbrev pub MayTake : {M : Type 0} → (M → Traffic) → Owner → ℕ → Traffic → List (JointAction M) → Type 0
MayTake seen owner i (Takes bytes) past = CameFromDaemon seen owner i bytes past
MayTake seen owner i other past = Unit {0}

-- **the other end is the daemon (`DataIsFromDaemon`, `CameFromDaemon`)**: the daemon gave out all that jobs take of
-- their data connections, on those that it accepted for their sessions. No other listener at such a port has one.
unfoldable pub DataIsFromDaemon : {M : Type 0} → (M → Traffic) → Owner → List (JointAction M) → Type 0
DataIsFromDaemon seen owner [] = Unit {0}
DataIsFromDaemon seen owner (OfServer action ∷ past) = DataIsFromDaemon seen owner past
DataIsFromDaemon seen owner (OfJob i move ∷ past) = DataIsFromDaemon seen owner past
    × MayTake seen owner i (seen move) past

-- ---- both are that connections hand on, and neither is the other

abbrev pub HandsOnInParts : Type 0 → Type 0
HandsOnInParts M = (seen : M → Traffic) (owner : Owner) (acts : List (JointAction M))
    → (HandsOn seen owner acts → ControlHandsOn seen owner acts × DataIsFromDaemon seen owner acts)
    × (ControlHandsOn seen owner acts → DataIsFromDaemon seen owner acts → HandsOn seen owner acts)

abbrev pub HandsOnInPartsAmong : Type 0 → Type 0
HandsOnInPartsAmong M = (seen : M → Traffic) (owner : Owner) (acts : List (JointAction M))
    → (HandsOnAmong seen owner acts → ControlHandsOnAmong seen owner acts × DataIsFromDaemon seen owner acts)
    × (ControlHandsOnAmong seen owner acts → DataIsFromDaemon seen owner acts → HandsOnAmong seen owner acts)

-- another listens at the port: control connections hand on, and a job takes a byte that the daemon did not give
abbrev pub AnotherMayListen : Type 0 → Type 0
AnotherMayListen M =
    (seen : M → Traffic) (owner : Owner) (i byte : ℕ) (move : M) → seen move ≡ Takes (byte ∷ [])
    → ControlHandsOn seen owner (OfJob i move ∷ []) × (DataIsFromDaemon seen owner (OfJob i move ∷ []) → ⊥)
