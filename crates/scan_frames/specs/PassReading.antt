-- A frame that is read, line by line, from a source that gives its page row by row.
use Rattle.std.specs.Prelude.{ℕ, ◌+◌, ◌-◌, ◌*◌, ◌<◌, ◌≤◌, ◌≡◌, ◌⊎◌, true, false, List, length, take, drop, min, Result}
use Rattle.std.specs.Prelude.{Ok, Err}
use Rattle.page_picture.specs.Page.{PageView}
use Rattle.page_picture.specs.Seen.{row_seen}
use Rattle.page_picture.specs.Columns.{Columns, columns_of}
use Rattle.page_picture.specs.Shows.{channels_within}
use Rattle.page_picture.specs.Source.{SourceState, Fails}
use Rattle.scan_frames.specs.Line.{packing_of}
use Rattle.scan_frames.specs.Frames.{has_picture, width_of, height_of, format_at, bytes_per_line, line_bytes, payload}
use Rattle.scan_frames.specs.Frames.{pass_length}
use Rattle.scan_frames.specs.Samples.{HasZeros}
use Rattle.scan_frames.specs.Tables.{AreComposed}
use Rattle.scan_frames.specs.Rows.{IsWhiteBehind, TakesRows, StopsFailing}
use Rattle.scan_frames.specs.declared.setup.Setup.{Setup}
use Rattle.scan_frames.specs.declared.faults.BeginFault.{BeginFault}
use Rattle.scan_frames.specs.declared.faults.BeginFault.TheVariants.{NoPicture, SourceFailed, NoMem}
use Rattle.scan_frames.specs.declared.faults.ReadEnd.{ReadEnd}
use Rattle.scan_frames.specs.declared.faults.ReadEnd.TheVariants.{End, SourceFailed as SourceFailedIn}

-- **a frame that is read (`FrameProgress`, `FrameAndSource`, `IsFrame`, `BeginsPass`, `ReadsFrame`)**: which pass; room
-- for a row, and how many rows were taken (none behind the one that the last line shows); the last line that was made,
-- as long as some of it is left or the next line shows its row too (`IsLineNeeded`), and how many were made; of a setup
-- over a source in its state. A read gives the bytes that follow those given before. It gives all that are left of the
-- frame, but no more than the buffer holds or the read limit lets. Or it gives the end, or the source's fault.
pub record FrameProgress : Type 0 where
  pub pass : ℕ
  -- which columns of the page its pixels show
  pub columns : Columns
  -- what becomes of a sample in red, green and blue at depth 8, by its upper byte
  pub tables : List (List ℕ)
  pub height : ℕ
  -- room for a row, with a white place behind it, and how many rows were taken
  pub row : List ℕ
  pub taken : ℕ
  -- the last line that was made, as long as it is needed, how many were made, and how many bytes of the last were not
  -- given
  pub line : List ℕ
  pub made : ℕ
  pub left : ℕ

-- how many bytes of the frame were given
abbrev pub given_in : FrameProgress → ℕ
given_in f = f.made * length f.line - f.left

-- the row of the page that line y shows, if the page has it
abbrev pub row_of : Setup → PageView → ℕ → ℕ
row_of setup page y = row_seen setup.scene page.dpi y

-- the last line is needed: some byte of it is left, or the next line shows the same row
abbrev pub IsLineNeeded : Setup → PageView → FrameProgress → Type 0
IsLineNeeded setup page f = (0 < f.left) ⊎ (row_of setup page (f.made - 1) ≡ row_of setup page f.made)

-- the frame of a setup, read from a source in this state: no row was taken behind the one that its last line shows. If
-- the source is steady, that line is the page's, as long as it is needed
pub record IsFrame (s : SourceState) (setup : Setup) (f : FrameProgress) : Type 0 where
  pub picture : has_picture setup s.page ≡ true
  pub columns : f.columns ≡ columns_of setup.scene s.page.width s.page.dpi
  pub tables : AreComposed setup.scene f.tables
  pub height : f.height ≡ height_of setup s.page
  pub row : IsWhiteBehind s.page.width f.row
  pub taken : f.taken ≡ s.given
  pub within : f.taken ≤ s.page.height
  pub untaken : f.made ≡ 0 → f.taken ≡ 0
  pub behind : 0 < f.made → f.taken ≤ row_of setup s.page (f.made - 1) + 1
  pub line : length f.line ≡ bytes_per_line setup f.pass
  pub zeros : HasZeros (packing_of setup.scene.depth) (channels_within (format_at setup f.pass) * width_of setup) f.line
  pub made : f.made ≤ f.height
  pub left : f.left ≤ length f.line
  pub bytes : s.steady ≡ true → 0 < f.made → IsLineNeeded setup s.page f
      → f.line ≡ line_bytes setup s.page f.pass (f.made - 1)

-- the frame of a pass of which nothing was given yet; its source begins at the page's first row
pub record HasBegunPass (old : SourceState) (setup : Setup) (pass : ℕ) (f : FrameProgress)
    (new : SourceState) : Type 0 where
  pub frame : IsFrame new setup f
  pub pass_is : f.pass ≡ pass
  pub none : given_in f ≡ 0
  pub after : new ≡ record old { given = 0 }

-- what the beginning of a frame may answer, and what it leaves
abbrev pub BeginsPass : SourceState → Setup → ℕ → Result FrameProgress BeginFault → SourceState → Type 0
BeginsPass old setup pass (Ok f) new = HasBegunPass old setup pass f new
BeginsPass old setup pass (Err NoPicture) new = (has_picture setup old.page ≡ false) × (new ≡ old)
BeginsPass old setup pass (Err SourceFailed) new = (has_picture setup old.page ≡ true) × Fails old new
BeginsPass old setup pass (Err NoMem) new = (has_picture setup old.page ≡ true) × (new ≡ old)

-- n bytes of the frame were written, behind those that were given before: all that is left of the frame, but no more
-- than the buffer holds, nor than one read gives
pub record GivesFrameBytes (s : SourceState) (setup : Setup) (old : FrameProgress) (n : ℕ) (t : SourceState)
    (new : FrameProgress) (buf : List ℕ) : Type 0 where
  pub count : n ≡ min (pass_length setup s.page old.pass - given_in old) (min (length buf) setup.limit)
  pub some : 0 < n
  pub room : n ≤ length buf
  pub limit : n ≤ setup.limit
  pub inside : given_in old + n ≤ pass_length setup s.page old.pass
  pub bytes : s.steady ≡ true → take n buf ≡ take n (drop (given_in old) (payload setup s.page old.pass))
  pub further : given_in new ≡ given_in old + n
  pub pass_is : new.pass ≡ old.pass
  pub source : TakesRows s t
  pub frame : IsFrame t setup new

-- a frame, and the source that it is read from
pub record FrameAndSource : Type 0 where
  pub source : SourceState
  pub frame : FrameProgress

-- what a read may answer, what it leaves, and what it wrote
abbrev pub ReadsFrame : Setup → FrameAndSource → Result ℕ ReadEnd → FrameAndSource → List ℕ → Type 0
ReadsFrame setup was (Ok n) now buf = GivesFrameBytes was.source setup was.frame n now.source now.frame buf
ReadsFrame setup was (Err End) now buf =
    (given_in was.frame ≡ pass_length setup was.source.page was.frame.pass) × (now.source ≡ was.source)
    × (now.frame ≡ was.frame)
ReadsFrame setup was (Err SourceFailedIn) now buf =
    (given_in was.frame < pass_length setup was.source.page was.frame.pass) × StopsFailing was.source now.source
