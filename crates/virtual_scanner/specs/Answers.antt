-- What a read in a frame answers.
use Rattle.std.specs.Prelude.{ℕ, ◌≡◌, List, Option, Some, None, Result, Ok, Err}
use Rattle.sane_fixed.specs.declared.status.Status.{Status}
use Rattle.scan_frames.specs.StatusOf.{end_status}
use Rattle.page_picture.specs.Source.{SourceState}
use Rattle.scan_frames.specs.PassReading.{FrameAndSource, FrameProgress, ReadsFrame, given_in}
use Rattle.scan_frames.specs.declared.faults.ReadEnd.{ReadEnd}
use Rattle.scan_frames.specs.declared.setup.Setup.{Setup}
use Rattle.device_api.specs.State.{read_status_at}
use Rattle.virtual_scanner.specs.First.{OnFirst}

-- the frame gave no byte, for a reason that the status tells
pub record FrameEndsWith (setup : Setup) (was : FrameAndSource) (status : Status) (now : FrameAndSource)
    (buf : List ℕ) : Type 0 where
  pub reason : ReadEnd
  pub told : status ≡ end_status reason
  pub ends : ReadsFrame setup was (Err reason) now buf

-- what the frame gives
abbrev pub AnswersFrame : Setup → FrameAndSource → Result ℕ Status → FrameAndSource → List ℕ → Type 0
AnswersFrame setup was (Ok n) now buf = ReadsFrame setup was (Ok n) now buf
AnswersFrame setup was (Err status) now buf = FrameEndsWith setup was status now buf

-- a status that is told in its place, or what the frame gives
abbrev pub AnswersUnless : Option Status → Setup → FrameAndSource → Result ℕ Status → FrameAndSource → List ℕ → Type 0
AnswersUnless None setup was result now buf = AnswersFrame setup was result now buf
AnswersUnless (Some status) setup was result now buf = (result ≡ Err status) × (now.source ≡ was.source)

-- the status that the options tell in place of the first bytes, or what the frame gives
abbrev pub AnswersRead : Setup → FrameAndSource → Result ℕ Status → FrameAndSource → List ℕ → Type 0
AnswersRead setup was result now buf =
    AnswersUnless (read_status_at setup.told (given_in was.frame)) setup was result now buf

-- a frame of the first page, and the pages in the scanner
pub record FrameAndPages : Type 0 where
  pub frame : FrameProgress
  pub pages : List SourceState

-- the same in a frame of the first page, and nothing of the other pages
abbrev pub AnswersOnFirst : Setup → FrameAndPages → Result ℕ Status → FrameAndPages → List ℕ → Type 0
AnswersOnFirst setup was result now buf =
    OnFirst
    (λ s t. AnswersRead setup (record { source = s; frame = was.frame }) result
    (record { source = t; frame = now.frame }) buf) was.pages now.pages
