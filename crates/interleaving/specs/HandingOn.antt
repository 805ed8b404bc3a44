-- Connections hand on the bytes given to them, in their order, until they are lost: nothing else is said of them.
use Rattle.std.specs.Prelude.{ℕ, ◌≡◌, ◌<◌, ◌⊎◌, Option, Some, None, List, [], ◌∷◌, ◌++◌}
use Rattle.saned_serve.specs.SessionActions.{SessionAction}
use Rattle.saned_serve.specs.SessionActions.SessionAction.{Opens, Feed, Connect}
use Rattle.saned_serve.specs.Journal.{IsFront, projection_of}
use Rattle.saned_serve.specs.Journal.LoopAction.{Of}
use Rattle.interleaving.specs.Interleavings.{JointAction, Traffic, bytes_heard, bytes_sent, bytes_taken}
use Rattle.interleaving.specs.Interleavings.{connections_accepted, connections_made, job_journal, server_journal}
use Rattle.interleaving.specs.Interleavings.JointAction.{OfJob, OfServer}
use Rattle.interleaving.specs.Interleavings.Traffic.{Reads, Takes}

-- whose control connection each session has, if it is a job's
abbrev pub Owner : Type 0
Owner = ℕ → Option ℕ

-- no job has two
abbrev pub HaveOneSession : Owner → Type 0
HaveOneSession owner = (j k i : ℕ) → owner j ≡ Some i → owner k ≡ Some i → j ≡ k

-- what a session is fed its job has written before, and it is given a data connection that its job has made
abbrev pub MayServe : {M : Type 0} → (M → Traffic) → Owner → ℕ → SessionAction → List (JointAction M) → Type 0
MayServe seen owner k (Opens port) past = (i : ℕ) × (owner k ≡ Some i)
MayServe seen owner k (Feed piece fed begins) past = (i : ℕ) × (owner k ≡ Some i)
    × IsFront ((projection_of k (server_journal past)).heard ++ piece) (bytes_sent seen (job_journal i past))
MayServe seen owner k (Connect port) past = (i : ℕ) × (owner k ≡ Some i)
    × (connections_accepted k (server_journal past) < connections_made seen (job_journal i past))
MayServe seen owner k act past = Unit {0}

-- what a job hears the daemon said before, for its session
abbrev pub WasSaid : {M : Type 0} → (M → Traffic) → Owner → ℕ → List ℕ → List (JointAction M) → Type 0
WasSaid seen owner i bytes past = (k : ℕ) × (owner k ≡ Some i)
    × IsFront (bytes_heard seen (job_journal i past) ++ bytes) (projection_of k (server_journal past)).said

-- the daemon gave out what the job takes of its newest data connection, on the one that it accepted last for the job's
-- session, and it accepted as many as were made: so the daemon is at the other end of that connection
abbrev pub CameFromDaemon : {M : Type 0} → (M → Traffic) → Owner → ℕ → List ℕ → List (JointAction M) → Type 0
CameFromDaemon seen owner i bytes past =
    (k : ℕ) × (owner k ≡ Some i)
    × (connections_accepted k (server_journal past) ≡ connections_made seen (job_journal i past))
    × IsFront (bytes_taken seen (job_journal i past) ++ bytes) (projection_of k (server_journal past)).shown

abbrev pub MayMove : {M : Type 0} → (M → Traffic) → Owner → ℕ → Traffic → List (JointAction M) → Type 0
MayMove seen owner i (Reads bytes) past = WasSaid seen owner i bytes past
MayMove seen owner i (Takes bytes) past = CameFromDaemon seen owner i bytes past
MayMove seen owner i other past = Unit {0}

abbrev pub IsHandedOn : {M : Type 0} → (M → Traffic) → Owner → JointAction M → List (JointAction M) → Type 0
IsHandedOn seen owner (OfServer (Of k act)) past = MayServe seen owner k act past
IsHandedOn seen owner (OfServer action) past = Unit {0}
IsHandedOn seen owner (OfJob i move) past = MayMove seen owner i (seen move) past

-- **hand on (`HandsOn`, `Owner`, `HaveOneSession`)**: each session's control connection is a job's, and no job has two.
-- In the one order, all that a session was fed is a front of what its job has written. What a job reads is a front of
-- the replies that were taken of the core for its session, or of the records since the data connection was accepted. A
-- data connection is accepted only if the job has made more than were accepted.
unfoldable pub HandsOn : {M : Type 0} → (M → Traffic) → Owner → List (JointAction M) → Type 0
HandsOn seen owner [] = Unit {0}
HandsOn seen owner (action ∷ past) = HandsOn seen owner past × IsHandedOn seen owner action past

-- ---- and where others speak to the server as well

-- for a session that no job has the server may do anything
abbrev pub IsHandedOnAmong : {M : Type 0} → (M → Traffic) → Owner → JointAction M → List (JointAction M) → Type 0
IsHandedOnAmong seen owner (OfServer (Of k act)) past = (owner k ≡ None) ⊎ MayServe seen owner k act past
IsHandedOnAmong seen owner action past = IsHandedOn seen owner action past

-- **hand on among strangers (`HandsOnAmong`)**: a session that no job has is a stranger's. It may be opened, be fed any
-- bytes, be given a data connection and be lost. Whatever has an owner is handed on as without strangers.
unfoldable pub HandsOnAmong : {M : Type 0} → (M → Traffic) → Owner → List (JointAction M) → Type 0
HandsOnAmong seen owner [] = Unit {0}
HandsOnAmong seen owner (action ∷ past) = HandsOnAmong seen owner past × IsHandedOnAmong seen owner action past
