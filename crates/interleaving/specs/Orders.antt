-- Which orders of what a server and jobs do are as good as others, and what is on the way in each.
use Rattle.std.specs.Prelude.{ℕ, ◌≡◌, ◌≢◌, ◌≤◌, ◌<◌, ◌⊎◌, Bool, false, Some, List, [], ◌∷◌, ◌++◌, if◌then◌else◌, ◌==◌}
use Rattle.saned_serve.specs.SessionActions.{SessionAction}
use Rattle.saned_serve.specs.SessionActions.SessionAction.{Opens, Take, Connect, Turn}
use Rattle.saned_serve.specs.Journal.{IsFront, IsJournal, LoopAction, projection_of}
use Rattle.saned_serve.specs.Journal.LoopAction.{Of}
use Rattle.interleaving.specs.Interleavings.{JointAction, Traffic, bytes_heard, bytes_sent, bytes_taken}
use Rattle.interleaving.specs.Interleavings.{connections_accepted, connections_made, job_journal, server_journal}
use Rattle.interleaving.specs.Interleavings.JointAction.{OfJob, OfServer}
use Rattle.interleaving.specs.HandingOn.{HandsOn, HaveOneSession, Owner}

-- ---- acts of a server that give a job nothing

-- **gives nothing (`GivesNothing`, `IsFreeOf`, `AllGiveNothing`)**: an act of the server that opens no session of the
-- job, accepts no data connection of it, and takes no reply and no record for it. An act is free of the job if it is no
-- move of the job either.
--
-- no byte and no connection is given to job i
abbrev pub GivesNothing : Owner → ℕ → ℕ → SessionAction → Type 0
GivesNothing owner i k (Opens port) = owner k ≢ Some i
GivesNothing owner i k (Take room bytes) = (owner k ≢ Some i) ⊎ (bytes ≡ [])
GivesNothing owner i k (Connect port) = owner k ≢ Some i
GivesNothing owner i k (Turn room step bytes) = (owner k ≢ Some i) ⊎ (bytes ≡ [])
GivesNothing owner i k act = Unit {0}

abbrev pub GivesJobNothing : Owner → ℕ → LoopAction → Type 0
GivesJobNothing owner i (Of k act) = GivesNothing owner i k act
GivesJobNothing owner i action = Unit {0}

-- it is no move of job i, and gives it nothing
abbrev pub IsFreeOf : {M : Type 0} → Owner → ℕ → JointAction M → Type 0
IsFreeOf owner i (OfServer action) = GivesJobNothing owner i action
IsFreeOf owner i (OfJob job move) = job ≢ i

-- a job's move just behind an act that gives it nothing may come just before that
abbrev pub MovesMayComeSooner : Type 0 → Type 0
MovesMayComeSooner M =
    (seen : M → Traffic) (owner : Owner) (i : ℕ) (move : M) (action : JointAction M) (past : List (JointAction M))
    → IsFreeOf owner i action → HandsOn seen owner (OfJob i move ∷ action ∷ past)
    → HandsOn seen owner (action ∷ OfJob i move ∷ past)

-- ---- many acts

abbrev pub is_move_of : {M : Type 0} → ℕ → JointAction M → Bool
is_move_of i (OfServer action) = false
is_move_of i (OfJob job move) = job == i

-- the moves of a job, and what else was done
unfoldable pub moves_among : {M : Type 0} → ℕ → List (JointAction M) → List (JointAction M)
moves_among i [] = []
moves_among i (action ∷ past) = if is_move_of i action then action ∷ moves_among i past else moves_among i past

unfoldable pub others_among : {M : Type 0} → ℕ → List (JointAction M) → List (JointAction M)
others_among i [] = []
others_among i (action ∷ past) = if is_move_of i action then others_among i past else action ∷ others_among i past

abbrev pub ServerGivesNothing : {M : Type 0} → Owner → ℕ → JointAction M → Type 0
ServerGivesNothing owner i (OfServer action) = GivesJobNothing owner i action
ServerGivesNothing owner i (OfJob job move) = Unit {0}

abbrev pub AllGiveNothing : {M : Type 0} → Owner → ℕ → List (JointAction M) → Type 0
AllGiveNothing owner i [] = Unit {0}
AllGiveNothing owner i (action ∷ past) = ServerGivesNothing owner i action × AllGiveNothing owner i past

-- two interleavings of the same journals
pub record HaveSameJournals {M : Type 0} (a b : List (JointAction M)) : Type 0 where
  pub server : server_journal a ≡ server_journal b
  pub jobs : (j : ℕ) → job_journal j a ≡ job_journal j b

-- **comes sooner (`ComesSooner`, `moves_among`, `others_among`)**: all moves of a job since then come at once. Behind
-- them comes whatever else was done since, in its order. This interleaves the same journals, over connections that hand
-- on.
pub record ComesSooner {M : Type 0} (seen : M → Traffic) (owner : Owner) (i : ℕ)
    (since past : List (JointAction M)) : Type 0 where
  pub same : HaveSameJournals (others_among i since ++ (moves_among i since ++ past)) (since ++ past)
  pub hands : HandsOn seen owner (others_among i since ++ (moves_among i since ++ past))

-- from where the server gives nothing more to a job on, the job may do at once all that it will do
abbrev pub AllMayComeSooner : Type 0 → Type 0
AllMayComeSooner M = (seen : M → Traffic) (owner : Owner) (i : ℕ) (since past : List (JointAction M))
    → AllGiveNothing owner i since → HandsOn seen owner (since ++ past) → ComesSooner seen owner i since past

-- ---- what is on the way

-- **reads are fronts (`ReadsAreFronts`)**: of a session and its job. What was fed is a front of what was written, and
-- what was read is a front of the replies taken. At most as many data connections were accepted as made. If as many
-- were, what was read of the last one is a front of its records; else nothing was read of it.
pub record ReadsAreFronts {M : Type 0} (seen : M → Traffic) (k i : ℕ) (past : List (JointAction M)) : Type 0 where
  pub requests : IsFront (projection_of k (server_journal past)).heard (bytes_sent seen (job_journal i past))
  pub replies : IsFront (bytes_heard seen (job_journal i past)) (projection_of k (server_journal past)).said
  pub accepted : connections_accepted k (server_journal past) ≤ connections_made seen (job_journal i past)
  pub waits : connections_accepted k (server_journal past) < connections_made seen (job_journal i past)
      → bytes_taken seen (job_journal i past) ≡ []
  pub records : connections_accepted k (server_journal past) ≡ connections_made seen (job_journal i past)
      → IsFront (bytes_taken seen (job_journal i past)) (projection_of k (server_journal past)).shown

abbrev pub ReadsWereWritten : Type 0 → Type 0
ReadsWereWritten M =
    (seen : M → Traffic) (owner : Owner) (past : List (JointAction M)) (k i : ℕ) → HaveOneSession owner
    → IsJournal (server_journal past) → HandsOn seen owner past → owner k ≡ Some i → ReadsAreFronts seen k i past
