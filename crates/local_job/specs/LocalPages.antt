-- Pages scanned one after another, each to an output of its own that a shelf gives.
use Rattle.std.specs.Prelude.{ℕ, zero, suc, ◌+◌, ◌<◌, ◌≤◌, ◌≡◌, ◌≢◌, ◌⊎◌, Option, List, [], ◌∷◌, ◌++◌, true, false}
use Rattle.std.specs.Prelude.{length, IsSomeAnd}
use Rattle.netpbm.specs.Pnm.{IsWhole}
use Rattle.netpbm.specs.NoFile.{HoldsNoFile}
use Rattle.page_picture.specs.Meaning.{meaning_of}
use Rattle.sane_fixed.specs.declared.status.Status.TheVariants.{Inval, NoDocs}
use Rattle.scan_frames.specs.Frames.{has_picture}
use Rattle.device_api.specs.State.{DeviceState, page_of, state_at_rest, steady_of}
use Rattle.scan_job.specs.Shelves.{Stock, ReturnedOutput}
use Rattle.scan_job.specs.declared.stop.Stop.{Stop}
use Rattle.local_job.specs.LocalStops.{stop_by_status}
use Rattle.scan_job.specs.Stops.{no_memory, failed_output}
use Rattle.local_job.specs.FrameReading.{KeepsDevice}
use Rattle.local_job.specs.ScanCauses.{ScanHasCause}
use Rattle.scan_job.specs.FileOutputs.{AreLeft, TakesBack, output_of, refused_output}
use Rattle.frame_join.specs.PictureText.{IsPictureFile}

-- ---- files and the scanner

-- a whole file, of the picture that the scanner's options mean on its first page where the page's source is steady
pub record IsFileOfFirstPage (s : DeviceState) (text : List ℕ) : Type 0 where
  pub whole : IsWhole text
  pub picture : steady_of s ≡ true → IsSomeAnd (meaning_of (page_of s) s.setup.scene) (IsPictureFile text)

-- the scanner after whole scans of so many pages: a feeder let go of each
abbrev pub after_pages : ℕ → DeviceState → DeviceState
after_pages zero s = s
after_pages (suc n) s = after_pages n (state_at_rest s false)

-- the file of each of the pages, in their order
abbrev pub ArePageFiles : DeviceState → List (List ℕ) → Type 0
ArePageFiles s [] = Unit {0}
ArePageFiles s (text ∷ more) = IsFileOfFirstPage s text × ArePageFiles (state_at_rest s false) more

-- ---- outputs and the shelf

-- the outputs of files that are numbered from k on
abbrev pub outputs_from : ℕ → List (List ℕ) → List ReturnedOutput
outputs_from k [] = []
outputs_from k (text ∷ more) = output_of k text ∷ outputs_from (suc k) more

-- ---- how pages end

-- a scanner, and the shelf of a job's files
pub record DeviceAndShelf : Type 0 where
  pub device : DeviceState
  pub stock : Option Stock

abbrev pub with_shelf : DeviceState → Option Stock → DeviceAndShelf
with_shelf device stock = record { device = device; stock = stock }

-- **pages scanned (`AreScanned`)**: one whole file for each page. If the source of the scanner's first page is steady,
-- the file is the meaning of the options on that page. The next file is that of the scanner that the page before left.
--
-- So many pages were scanned, or fewer, at least one, where no page was left. Each has its file, and they went out
-- under the numbers from 1 on; the shelf kept every one.
pub record AreScanned (count : ℕ) (was now : DeviceAndShelf) : Type 0 where
  pub files : List (List ℕ)
  pub pages : ArePageFiles was.device files
  pub all : (length files ≡ count) ⊎ ((0 < length files) × (length files < count) × (now.device.pages ≡ []))
  pub outputs : TakesBack was.stock (outputs_from 1 files) now.stock
  pub left : now.device ≡ after_pages (length files) was.device

-- What ended the scan of a page behind so many others: there is no page, which is no error behind another one; the
-- options mean no picture on it; or what ends a scan of one.
pub record EndsPage (s : DeviceState) (behind : ℕ) (new : DeviceState) (stop : Stop) : Type 0 where
  pub no_page : s.pages ≡ [] → (behind ≡ 0) × ((stop ≡ no_memory) ⊎ (stop ≡ stop_by_status NoDocs))
  pub no_picture : s.pages ≢ [] → has_picture s.setup (page_of s) ≡ false
      → (stop ≡ no_memory) ⊎ (stop ≡ stop_by_status Inval)
  pub cause : s.pages ≢ [] → has_picture s.setup (page_of s) ≡ true → ScanHasCause stop s new
  pub same : KeepsDevice s new

-- the shelf kept the outputs of these files but the last one's, which it refused
pub record RefusesLast (files : List (List ℕ)) (was now : DeviceAndShelf) (stop : Stop) : Type 0 where
  pub shelved : List (List ℕ)
  pub last : List ℕ
  pub files_are : files ≡ shelved ++ last ∷ []
  pub outputs : TakesBack was.stock (outputs_from 1 shelved ++ refused_output (length shelved + 1) last ∷ []) now.stock
  pub refused : stop ≡ failed_output
  pub after : now.device ≡ after_pages (length files) was.device

-- it kept them all, and the next page was not scanned: at most one output of it is left, with no whole file in front
pub record EndsBehind (files : List (List ℕ)) (was now : DeviceAndShelf) (stop : Stop) : Type 0 where
  pub text : List ℕ
  pub none : HoldsNoFile text
  pub left : List ReturnedOutput
  pub is_left : AreLeft (length files + 1) text left
  pub outputs : TakesBack was.stock (outputs_from 1 files ++ left) now.stock
  pub cause : EndsPage (after_pages (length files) was.device) (length files) now.device stop

-- Some pages were scanned, and each has its file. Then the shelf refused to take back the last one's output, or the
-- scan of the next page ended, which is one of those that were asked for.
pub record StopsAt (count : ℕ) (was now : DeviceAndShelf) (stop : Stop) : Type 0 where
  pub files : List (List ℕ)
  pub pages : ArePageFiles was.device files
  pub few : length files ≤ count
  pub ended : RefusesLast files was now stop ⊎ ((length files < count) × EndsBehind files was now stop)
