-- The files of a job: what its client gives of them is laid down.
use Rattle.std.specs.Prelude.{ℕ, ◌≡◌, ◌≢◌, ◌<◌, Bool, true, false, Option, Some, None, List, [], ◌∷◌, ◌++◌, length}
use Rattle.std.specs.Prelude.{slice_get}
use Rattle.netpbm.specs.Picture.{Picture}
use Rattle.netpbm.specs.Pnm.{IsWhole}
use Rattle.page_picture.specs.Shows.{ShowsFrames}
use Rattle.frame_join.specs.FrameHistory.{JoinHistory, IsJoined, empty_history, after_pull}
use Rattle.frame_join.specs.JoinStates.{JoinState}
use Rattle.client_replies.specs.ProtocolStates.{is_ended, scans, turns}
use Rattle.net_client.specs.ClientStates.{ClientRepresents, TurnsPage}
use Rattle.event_world.specs.declared.endpoint.Endpoint.{Endpoint}
use Rattle.event_world.specs.declared.draining.Pull.{Pull}
use Rattle.event_world.specs.declared.draining.Pull.TheVariants.{More, Dry, NextPage}
use Rattle.frame_join.specs.PictureText.{IsPictureFile}

-- the bytes given of a file are there, or none once a growth was refused
abbrev pub KeepsFile : Bool → List ℕ → Option (List ℕ) → Type 0
KeepsFile starved given None = starved ≡ true
KeepsFile starved given (Some file) = file ≡ given

-- The file under way has these bytes, and the file of each finished page what the join of that page gave.
pub record HasFiles (given : List ℕ) (pages : List JoinHistory) (p : Endpoint) : Type 0 where
  pub file : KeepsFile p.out_of_memory given p.file
  pub each : (k : ℕ) (q : JoinHistory) → slice_get pages k ≡ Some q
      → (file : Option (List ℕ)) × (slice_get p.pages k ≡ Some file) × KeepsFile p.out_of_memory q.given file
  pub count : p.finished ≡ length pages
  pub room : length p.pages ≡ 16

-- **holds (`HoldsHistory`, `HasFiles`, `KeepsFile`)**: the client stands for a history of its join. The file under way
-- is what that join gave, and the file of each finished page is what its join gave. Once a growth was refused there is
-- no file.
pub record HoldsHistory (past : JoinHistory) (pages : List JoinHistory) (p : Endpoint) : Type 0 where
  pub task : p.task ≡ p.client.target.task
  pub serves : ClientRepresents past p.client
  pub files : HasFiles past.given pages p

-- of the client the join alone changes, and of the endpoint the client and the file
pub record IsGiven (old new : Endpoint) : Type 0 where
  pub client : new.client ≡ record old.client { join = new.client.join }
  pub rest : new ≡ record old { client = new.client; file = new.file; out_of_memory = new.out_of_memory }

-- of the endpoint the client, the files and whether a growth was refused alone change
abbrev pub IsLaid : Endpoint → Endpoint → Type 0
IsLaid old new =
    new ≡ record old {
      client = new.client;
      file = new.file;
      pages = new.pages;
      finished = new.finished;
      out_of_memory =
          new.out_of_memory;
    }

-- that a growth was refused is not forgotten
abbrev pub StaysOutOfMemory : Endpoint → Endpoint → Type 0
StaysOutOfMemory old new = old.out_of_memory ≡ true → new.out_of_memory ≡ true

-- the file of a page is whole, that of the picture that the page's frames show, and laid by, and the client turns to
-- the next
pub record TurnsTo (past : JoinHistory) (pages : List JoinHistory) (old new : Endpoint) : Type 0 where
  pub turned : turns old.client.outcome old.client.progress ≡ true
  pub bytes : List ℕ
  pub whole : IsWhole (past.given ++ bytes)
  pub denotes : (p : Picture) → ShowsFrames past.ended p → IsPictureFile (past.given ++ bytes) p
  pub join : JoinState
  pub client : TurnsPage (record old.client { join = join }) new.client
  pub holds : HoldsHistory empty_history (pages ++ after_pull bytes past ∷ []) new
  pub rest : IsLaid old new

-- nothing more is to come now of a file that waits for no turn
pub record RunsDry (past : JoinHistory) (pages : List JoinHistory) (old new : Endpoint) : Type 0 where
  pub still : turns old.client.outcome old.client.progress ≡ false
  pub bytes : List ℕ
  pub holds : HoldsHistory (after_pull bytes past) pages new
  pub given : IsGiven old new
  pub denotes : is_ended old.client.outcome ≡ false → IsJoined past → (p : Picture) → ShowsFrames past.ended p
      → IsPictureFile (past.given ++ bytes) p

-- one pull: some bytes, none, or the last ones of a page
abbrev pub Pulls : JoinHistory → List JoinHistory → Endpoint → Pull → Endpoint → Type 0
Pulls past pages old More new = (bytes : List ℕ) × (bytes ≢ []) × HoldsHistory (after_pull bytes past) pages new
    × IsGiven old new × (is_ended old.client.outcome ≡ false)
Pulls past pages old Dry new = RunsDry past pages old new
Pulls past pages old NextPage new = TurnsTo past pages old new

-- All pulls: a page that is whole is laid by; of a file that is not, all that may be given is laid down.
abbrev pub HasDrained : Bool → JoinHistory → List JoinHistory → Endpoint → Endpoint → Type 0
HasDrained true past pages old new = TurnsTo past pages old new
HasDrained false past pages old new = RunsDry past pages old new

-- there is a place for the page that is under way where it will be laid by
abbrev pub HasPlace : Endpoint → List JoinHistory → Type 0
HasPlace p pages = turns p.client.outcome p.client.progress ≡ true → length pages < 16

-- **drained (`Drains`, `RunsDry`, `TurnsTo`)**: all that a file may give was laid down. The bytes given of a whole
-- picture denote it. Or the page of a batch is whole and laid by, and the client asks for the next.
pub record Drains (old new : Endpoint) : Type 0 where
  -- a job of another task has no file
  pub none : scans old.task ≡ false → new ≡ old
  pub rest : IsLaid old new
  pub starved : StaysOutOfMemory old new
  pub drains : (past : JoinHistory) (pages : List JoinHistory) → scans old.task ≡ true → HasPlace old pages
      → HoldsHistory past pages old → HasDrained (turns old.client.outcome old.client.progress) past pages old new
