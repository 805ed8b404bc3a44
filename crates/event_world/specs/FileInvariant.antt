-- What stands of the files of a job, whatever happens: they are those of what its client was told.
use Rattle.std.specs.Prelude.{ℕ, ◌≡◌, ◌+◌, ◌<◌, ◌≤◌, true, Some, List, [], length, slice_get}
use Rattle.netpbm.specs.Picture.{Picture}
use Rattle.netpbm.specs.Pnm.{IsWhole}
use Rattle.page_picture.specs.Shows.{ShowsFrames}
use Rattle.frame_join.specs.FrameHistory.{JoinHistory, IsJoined}
use Rattle.scan_job.specs.declared.job.Task.{Task}
use Rattle.scan_job.specs.declared.job.Task.TheVariants as tasks
use Rattle.scan_job.specs.declared.outcome.Outcome.{Outcome}
use Rattle.scan_job.specs.declared.outcome.Outcome.TheVariants.{Running, Done, Ended}
use Rattle.client_replies.specs.declared.progress.Progress.{Progress}
use Rattle.client_replies.specs.ProtocolStates.{is_turning}
use Rattle.event_world.specs.declared.endpoint.Endpoint.{Endpoint}
use Rattle.event_world.specs.JobEvents.{is_done}
use Rattle.event_world.specs.FileDraining.{HasFiles, HoldsHistory}
use Rattle.frame_join.specs.PictureText.{IsPictureFile}

-- the file of a page is whole, and that of the picture that the page's frames show
pub record IsPage (page : JoinHistory) : Type 0 where
  pub whole : IsWhole page.given
  pub denotes : (p : Picture) → ShowsFrames page.ended p → IsPictureFile page.given p

abbrev pub ArePages : List JoinHistory → Type 0
ArePages pages = (k : ℕ) (page : JoinHistory) → slice_get pages k ≡ Some page → IsPage page

-- a whole file, and the page that it is of
pub record IsFileOf (file : List ℕ) : Type 0 where
  pub page : JoinHistory
  pub given : file ≡ page.given
  pub is : IsPage page

-- a file of this number, from 1, is one of the job
abbrev pub IsAmong : Task → ℕ → Type 0
IsAmong (tasks.Batch count) file = (file ≤ count) × (count ≤ 16)
IsAmong task file = file ≡ 1

-- there is one more behind it
abbrev pub HasMore : Task → ℕ → Type 0
HasMore (tasks.Batch count) file = file < count
HasMore task file = ⊥

-- the file under way of a job that runs stands behind the pages that are finished; another is to come where it waits to
-- be taken
abbrev pub HasNumber : Task → Outcome → Progress → ℕ → ℕ → Type 0
HasNumber task Running progress file pages = (file ≡ pages + 1) × IsAmong task file
    × (is_turning progress ≡ true → HasMore task file)
HasNumber task (Done reports) progress file pages = Unit {0}
HasNumber task (Ended status why) progress file pages = Unit {0}

-- The client stands for what it was told since the last page that is finished, and the file under way is what that
-- gave. Where the job is done, and what was told is a picture, the file is that of the picture.
pub record FileIsUnderWay (past : JoinHistory) (pages : List JoinHistory) (p : Endpoint) : Type 0 where
  pub holds : HoldsHistory past pages p
  pub number : HasNumber p.task p.client.outcome p.client.progress p.client.notes.file (length pages)
  pub pages_are : ArePages pages
  pub done : is_done p.client.outcome ≡ true → IsJoined past → (q : Picture) → ShowsFrames past.ended q
      → IsPictureFile past.given q

-- a batch is done with its last page: all its files are laid by
pub record IsAllLaid (pages : List JoinHistory) (p : Endpoint) : Type 0 where
  pub done : is_done p.client.outcome ≡ true
  pub all : p.task ≡ tasks.Batch (length pages)
  pub files : HasFiles [] pages p
  pub pages_are : ArePages pages

-- **files stand (`FilesRepresent`, `FileIsUnderWay`, `IsAllLaid`, `IsPage`)**: the files of a job are those of what its
-- client was told. Each finished page has a whole file of the picture that its frames show. Behind them stands the file
-- under way; where the job is done and was told a picture, it is that picture's file. A batch that is done has all its
-- files laid by, the last one too.
pub data FilesRepresent (p : Endpoint) : Type 0 where
  Underway : (past : JoinHistory) (pages : List JoinHistory) → FileIsUnderWay past pages p → FilesRepresent p
  AllLaid : (pages : List JoinHistory) → IsAllLaid pages p → FilesRepresent p

-- of each job
abbrev pub AllFilesRepresent : List Endpoint → Type 0
AllFilesRepresent endpoints = (i : ℕ) (p : Endpoint) → slice_get endpoints i ≡ Some p → FilesRepresent p
