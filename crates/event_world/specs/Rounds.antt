-- Next moves by turns: a round is a turn of each job, and rounds come one after another until no job has a move.
use Rattle.std.specs.Prelude.{ℕ, ◌≡◌, ◌<◌, ◌≤◌, ◌+◌, ◌⊎◌, ◌++◌, Bool, true, false, Option, Some, None, is_some, List}
use Rattle.std.specs.Prelude.{[], ◌∷◌, length, slice_get}
use Rattle.page_picture.specs.Source.{SourceState}
use Rattle.page_sources.specs.declared.kinds.Source.{Source}
use Rattle.event_world.specs.declared.event.Event.{Event}
use Rattle.event_world.specs.declared.endpoint.Endpoint.{Endpoint}
use Rattle.event_world.specs.JobMoves.{IsNextMove, moves_left_of}
use Rattle.event_world.specs.Worlds.{Leads, Runs, WorldCore}

-- the sum of the moves that all jobs may still take
abbrev pub total_left : List Endpoint → ℕ
total_left [] = 0
total_left (p ∷ endpoints) = moves_left_of p + total_left endpoints

-- **no more moves (`HasNoMoreMoves`)**: no job has more moves left in the second world than in the first.
abbrev pub HasNoMoreMoves : WorldCore → WorldCore → Type 0
HasNoMoreMoves w v = (i : ℕ) (p q : Endpoint) → slice_get w.endpoints i ≡ Some p → slice_get v.endpoints i ≡ Some q
    → moves_left_of q ≤ moves_left_of p

-- the next move of a job that has moves left
pub record IsMoveOf (w : WorldCore) (i : ℕ) (event : Event) : Type 0 where
  pub endpoint : Endpoint
  pub at : slice_get w.endpoints i ≡ Some endpoint
  pub left : 0 < moves_left_of endpoint
  pub next : IsNextMove w.daemon i endpoint (Some event)

-- the job of that place has no next move, or no moves left
abbrev pub RestsAt : WorldCore → ℕ → Type 0
RestsAt w i = (p : Endpoint) → slice_get w.endpoints i ≡ Some p → IsNextMove w.daemon i p None ⊎ (moves_left_of p ≡ 0)

-- **rounds (`TakesMove`, `IsRound`, `Rounds`, `RoundsRunOut`)**: the turn of a job is its next move, if it has one and
-- has moves left. A round is one turn of each job, in their order. Rounds run out when no job has a move, or moves
-- left.
abbrev pub TakesMove : (Source → SourceState) → ℕ → Option Event → WorldCore → WorldCore → Type 0
TakesMove source i None w v = RestsAt w i × (v ≡ w)
TakesMove source i (Some event) w v = IsMoveOf w i event × Leads source event w v

-- the turns of the jobs from that place on, in their order
abbrev pub TakesMoves : (Source → SourceState) → ℕ → List (Option Event) → WorldCore → WorldCore → Type 0
TakesMoves source i [] w v = v ≡ w
TakesMoves source i (turn ∷ turns) w v = (u : WorldCore) × TakesMove source i turn w u
    × TakesMoves source (i + 1) turns u v

-- one turn of each job
abbrev pub IsRound : (Source → SourceState) → List (Option Event) → WorldCore → WorldCore → Type 0
IsRound source turns w v = (length turns ≡ length w.endpoints) × TakesMoves source 0 turns w v

abbrev pub Rounds : (Source → SourceState) → List (List (Option Event)) → WorldCore → WorldCore → Type 0
Rounds source [] w v = v ≡ w
Rounds source (turns ∷ rounds) w v = (u : WorldCore) × IsRound source turns w u × Rounds source rounds u v

-- the moves that were made
abbrev pub moves_made : List (Option Event) → List Event
moves_made [] = []
moves_made (None ∷ turns) = moves_made turns
moves_made (Some event ∷ turns) = event ∷ moves_made turns

abbrev pub all_made : List (List (Option Event)) → List Event
all_made [] = []
all_made (turns ∷ rounds) = moves_made turns ++ all_made rounds

-- the turn of a job, with whether a move was made
pub record HasTurn (source : Source → SourceState) (i : ℕ) (went : Bool) (w v : WorldCore) : Type 0 where
  pub turn : Option Event
  pub takes : TakesMove source i turn w v
  pub went_is : went ≡ is_some turn

-- a round, with whether a move was made in it
pub record HasRound (source : Source → SourceState) (went : Bool) (w v : WorldCore) : Type 0 where
  pub turns : List (Option Event)
  pub is : IsRound source turns w v
  pub some : went ≡ true → 0 < length (moves_made turns)
  pub none : went ≡ false → (v ≡ w) × ((i : ℕ) → RestsAt w i)

-- Rounds, and then no job has a move. They made at most as many moves as all jobs had left, and each of them is an
-- event.
pub record RoundsRunOut (source : Source → SourceState) (w v : WorldCore) : Type 0 where
  pub rounds : List (List (Option Event))
  pub goes : Rounds source rounds w v
  pub few : length (all_made rounds) ≤ total_left w.endpoints
  pub events : Runs source (all_made rounds) w v
  pub rest : (i : ℕ) → RestsAt v i
