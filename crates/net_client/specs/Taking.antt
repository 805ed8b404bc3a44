-- Bytes of a client's file that are taken.
use Rattle.std.specs.Prelude.{ℕ, ◌≡◌, ◌<◌, true, false, List, ◌++◌, []}
use Rattle.netpbm.specs.Picture.{Picture}
use Rattle.netpbm.specs.Pnm.{IsWhole}
use Rattle.page_picture.specs.Shows.{ShowsFrames}
use Rattle.frame_join.specs.FrameHistory.{JoinHistory, IsJoined, after_pull}
use Rattle.client_replies.specs.ProtocolStates.{is_ended, turns}
use Rattle.net_client.specs.ClientStates.{ClientState, ClientRepresents, TakesPage}
use Rattle.frame_join.specs.PictureText.{IsPictureFile}

-- **bytes of the file taken (`TakesFile`, `GivesPicture`)**: a client that waits for its page's file to be taken gave
-- bytes of that; any other serves on with them. When nothing more comes of a whole picture, and the job has not ended
-- otherwise, all that was given denotes it. Before the picture is whole, what was given is no whole file.
pub record TakesFile (old : ClientState) (past : JoinHistory) (room : ℕ) (bytes : List ℕ)
    (new : ClientState) : Type 0 where
  pub carried : turns old.outcome old.progress ≡ false → ClientRepresents (after_pull bytes past) new
  pub page : turns old.outcome old.progress ≡ true → TakesPage old past bytes new
  pub denotes : is_ended old.outcome ≡ false → IsJoined past → bytes ≡ [] → 0 < room → (p : Picture)
      → ShowsFrames past.ended p → IsPictureFile past.given p
  pub whole : (IsJoined past → ⊥) → IsWhole (past.given ++ bytes) → ⊥
