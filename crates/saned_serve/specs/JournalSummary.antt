-- What a journal tells of a session when all is done.
use Rattle.std.specs.Prelude.{◌≡◌, ℕ, ◌⊎◌, true, Option, List, [], ◌∷◌, length, Contains}
use Rattle.saned_serve.specs.ConnectionTraces.{ConnectionTrace, IsTrace}
use Rattle.saned_serve.specs.SessionActions.SessionAction.{Leaves}
use Rattle.saned_serve.specs.Journal.{LoopAction, open_sessions, projection_of}
use Rattle.saned_serve.specs.Journal.LoopAction.{Of}

-- **was left (`IsInJournal`, `WasLeft`)**: a session was left in a journal, and its control connection, as it was
-- handed back, had told just the calls that the journal has of it.
--
-- an action is in the journal
abbrev pub IsInJournal : LoopAction → List LoopAction → Type 0
IsInJournal action [] = ⊥
IsInJournal action (first ∷ past) = (first ≡ action) ⊎ IsInJournal action past

-- a session was left, and its control connection, as it was handed back, had told the calls that
-- the journal has of it
pub record WasLeft (id : ℕ) (journal : List LoopAction) : Type 0 where
  pub port : ℕ
  pub trace : Option ConnectionTrace
  pub held : IsInJournal (Of id (Leaves port trace)) journal
  pub told : IsTrace trace (projection_of id journal).control

-- all sessions that stand have their numbers among these, which are as many as the journal counts
pub record AreOpenSessions (journal : List LoopAction) (numbers : List ℕ) : Type 0 where
  pub count : length numbers ≡ open_sessions journal
  pub all : (id : ℕ) → (projection_of id journal).is_open ≡ true → Contains numbers id
