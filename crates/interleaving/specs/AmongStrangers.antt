-- Connections that hand on among strangers: when there are none, what orders are as good, and what is never fed.
use Rattle.std.specs.Prelude.{ℕ, ◌≡◌, Bool, false, Some, None, List, [], ◌∷◌, ◌++◌}
use Rattle.saned_core.specs.declared.session_slot.Fed.{Fed}
use Rattle.saned_core.specs.declared.session_slot.Fed.TheVariants.{Standing}
use Rattle.saned_serve.specs.SessionActions.{SessionAction}
use Rattle.saned_serve.specs.SessionActions.SessionAction.{Opens, Feed, Connect}
use Rattle.saned_serve.specs.Journal.{IsJournal, LoopAction}
use Rattle.saned_serve.specs.Journal.LoopAction.{Of}
use Rattle.interleaving.specs.Interleavings.{JointAction, Traffic, bytes_sent, job_journal, server_journal}
use Rattle.interleaving.specs.Interleavings.JointAction.{OfJob, OfServer}
use Rattle.interleaving.specs.HandingOn.{HandsOn, HandsOnAmong, HaveOneSession, Owner}
use Rattle.interleaving.specs.Orders.{AllGiveNothing, HaveSameJournals, IsFreeOf, ReadsAreFronts, moves_among}
use Rattle.interleaving.specs.Orders.{others_among}

-- ---- without strangers

-- a session that is opened, fed or given a data connection is a job's
abbrev pub IsForAnOwner : Owner → ℕ → SessionAction → Type 0
IsForAnOwner owner k (Opens port) = (i : ℕ) × (owner k ≡ Some i)
IsForAnOwner owner k (Feed piece fed begins) = (i : ℕ) × (owner k ≡ Some i)
IsForAnOwner owner k (Connect port) = (i : ℕ) × (owner k ≡ Some i)
IsForAnOwner owner k act = Unit {0}

abbrev pub ActsForOwners : Owner → LoopAction → Type 0
ActsForOwners owner (Of k act) = IsForAnOwner owner k act
ActsForOwners owner action = Unit {0}

-- **serves owners (`ServesOwners`)**: each session that a journal opens, feeds or gives a data connection is a job's.
abbrev pub ServesOwners : Owner → List LoopAction → Type 0
ServesOwners owner [] = Unit {0}
ServesOwners owner (action ∷ past) = ServesOwners owner past × ActsForOwners owner action

-- connections hand on just where they do so among strangers, and the server serves owners alone
abbrev pub WithoutStrangers : Type 0 → Type 0
WithoutStrangers M = (seen : M → Traffic) (owner : Owner) (acts : List (JointAction M))
    → (HandsOn seen owner acts → HandsOnAmong seen owner acts × ServesOwners owner (server_journal acts))
    × (HandsOnAmong seen owner acts → ServesOwners owner (server_journal acts) → HandsOn seen owner acts)

-- ---- there are strangers, and what none of them may do

abbrev pub owned_by_none : Owner
owned_by_none k = None

-- the first session is opened, and fed these bytes
abbrev pub speaks : {M : Type 0} → ℕ → List ℕ → List (JointAction M)
speaks port piece = OfServer (Of 0 (Feed piece Standing false)) ∷ OfServer (Of 0 (Opens port)) ∷ []

-- a stranger speaks: connections hand on so among strangers, and without them they do not
abbrev pub StrangersSpeak : Type 0 → Type 0
StrangersSpeak M = (seen : M → Traffic) (port : ℕ) (piece : List ℕ)
    → HandsOnAmong seen owned_by_none (speaks port piece) × (HandsOn seen owned_by_none (speaks port piece) → ⊥)

-- the smallest lie: the session of a job that wrote nothing yet is fed a byte
abbrev pub NoneSpeaksForAJob : Type 0 → Type 0
NoneSpeaksForAJob M =
    (seen : M → Traffic) (owner : Owner) (k i byte : ℕ) (piece : List ℕ) (fed : Fed) (begins : Bool)
    (past : List (JointAction M)) → owner k ≡ Some i → bytes_sent seen (job_journal i past) ≡ []
    → HandsOnAmong seen owner (OfServer (Of k (Feed (byte ∷ piece) fed begins)) ∷ past) → ⊥

-- ---- orders among strangers

-- what is as good without strangers is as good among them
abbrev pub MovesMayComeSoonerAmong : Type 0 → Type 0
MovesMayComeSoonerAmong M =
    (seen : M → Traffic) (owner : Owner) (i : ℕ) (move : M) (action : JointAction M) (past : List (JointAction M))
    → IsFreeOf owner i action → HandsOnAmong seen owner (OfJob i move ∷ action ∷ past)
    → HandsOnAmong seen owner (action ∷ OfJob i move ∷ past)

-- all moves of a job since then at once, among strangers
pub record ComesSoonerAmong {M : Type 0} (seen : M → Traffic) (owner : Owner) (i : ℕ)
    (since past : List (JointAction M)) : Type 0 where
  pub same : HaveSameJournals (others_among i since ++ (moves_among i since ++ past)) (since ++ past)
  pub hands : HandsOnAmong seen owner (others_among i since ++ (moves_among i since ++ past))

abbrev pub AllMayComeSoonerAmong : Type 0 → Type 0
AllMayComeSoonerAmong M = (seen : M → Traffic) (owner : Owner) (i : ℕ) (since past : List (JointAction M))
    → AllGiveNothing owner i since → HandsOnAmong seen owner (since ++ past) → ComesSoonerAmong seen owner i since past

abbrev pub ReadsWereWrittenAmong : Type 0 → Type 0
ReadsWereWrittenAmong M =
    (seen : M → Traffic) (owner : Owner) (past : List (JointAction M)) (k i : ℕ) → HaveOneSession owner
    → IsJournal (server_journal past) → HandsOnAmong seen owner past → owner k ≡ Some i → ReadsAreFronts seen k i past
