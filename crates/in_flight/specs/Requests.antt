-- A client some of whose requests are in flight: they are written, and the daemon did not hear them yet.
use Rattle.std.specs.Prelude.{ℕ, List, ◌++◌}
use Rattle.frame_join.specs.FrameHistory.{JoinHistory}
use Rattle.net_client.specs.ClientStates.{ClientRepresents, ClientState, TakesPage}
use Rattle.net_client.specs.FramePieces.{Receives}
use Rattle.net_client.specs.ReplyPieces.{Heeds}

-- **unheard (`with_unheard`)**: the same client, where these bytes still stand in front of those that are to go out.
abbrev pub with_unheard : List ℕ → ClientState → ClientState
with_unheard unheard c = record c { out = unheard ++ c.out }

abbrev pub HistoriesAreAlike : Type 0
HistoriesAreAlike =
    (unheard : List ℕ) (past : JoinHistory) (c : ClientState)
    → (ClientRepresents past c → ClientRepresents past (with_unheard unheard c))
    × (ClientRepresents past (with_unheard unheard c) → ClientRepresents past c)

abbrev pub HeardRepliesAreAlike : Type 0
HeardRepliesAreAlike = (unheard : List ℕ) (old : ClientState) (past : JoinHistory) (piece : List ℕ) (new : ClientState)
    → Heeds old past piece new → Heeds (with_unheard unheard old) past piece (with_unheard unheard new)

abbrev pub TakenRecordsAreAlike : Type 0
TakenRecordsAreAlike = (unheard : List ℕ) (old : ClientState) (past : JoinHistory) (piece : List ℕ) (new : ClientState)
    → Receives old past piece new → Receives (with_unheard unheard old) past piece (with_unheard unheard new)

abbrev pub TurnedPagesAreAlike : Type 0
TurnedPagesAreAlike =
    (unheard : List ℕ) (old : ClientState) (past : JoinHistory) (bytes : List ℕ) (new : ClientState)
    → TakesPage old past bytes new → TakesPage (with_unheard unheard old) past bytes (with_unheard unheard new)
